-- The bytes that `moved_into` leaves: they are the joined book, and keep all rules; and that they are what stands beside it is right. Rests on Orders, Requests, Links and Words.
use Rattle.std.specs.Prelude.{ℕ, ◌+◌, ◌<◌, ◌≡◌, Bool, true, List, length, refl}
use Rattle.std.proofs.Common.{arith, sym, ap, subst, ◌∙◌}
use Rattle.prelude.specs.Below.{count_below}
use Rattle.store.specs.Layout.{most_orders, most_requests}
use Rattle.store.specs.Book.{Book, book_of, open_at}
use Rattle.store.specs.Laws.Stored.{length_orders, length_requests}
use Rattle.store.specs.Laws.Kept.{Keeps}
use Rattle.machine.specs.Rules.{rules}
use Rattle.machine.specs.Whole.{WholeBook}
use Rattle.machine.proofs.Kept.Indexed.{BookKept, kept_book}
use Rattle.index.specs.Index.{links_right}
use Rattle.rules.specs.Keeps.{keeps_of}
use Rattle.rules.specs.Laws.Keeps.{held_keeps}
use Rattle.kept.proofs.Header.{Headed}
use Rattle.parts.specs.Parts.{passing, of_passing, joined}
use Rattle.parts.specs.Laws.Ranks.{rank_below}
use Rattle.parts.specs.Laws.Joined.{joined_requests}
use Rattle.retire.specs.Retire.{open_word, orders_moved, requests_moved, rows_moved, opens_settled, moved_into}
use Rattle.claims.proofs.Retired.Orders.{OrdersAt, orders_at}
use Rattle.claims.proofs.Retired.Requests.{RequestsAt, with_sent, request_moved, requests_at}
use Rattle.claims.proofs.Retired.Words.{WordsAt, words_at, words_right}
use Rattle.claims.proofs.Retired.Links.{links_moved}

-- what is known of the bytes that rows move into
pub record Into (into : List ℕ) : Type 0 where
  pub head : Headed into
  pub kept : BookKept (book_of into)
  pub links : links_right into ≡ true

module _ (p : ℕ → Bool) (was into : List ℕ) (old : BookKept (book_of was)) (whole : WholeBook (book_of was)) (links : links_right was ≡ true) (to : Into into)
    (good : BookKept (joined p (book_of into) (book_of was))) where
  abbrev W : Book
  W = book_of was

  abbrev O : Book
  O = book_of into

  abbrev J : Book
  J = joined p O W

  abbrev q : ℕ → Bool
  q = of_passing p W

  abbrev M : ℕ
  M = length O.requests

  -- the orders' rows, all rows, and all
  abbrev with_orders : List ℕ
  with_orders = orders_moved p was M into (length W.orders)

  abbrev with_rows : List ℕ
  with_rows = requests_moved p was (length O.orders) M with_orders (length W.requests)

  pub orders_done : OrdersAt p was into good whole (length W.orders) with_orders
  orders_done = orders_at p was into good whole to.head (length W.orders) (omega arith)

  pub requests_done : RequestsAt p was into good old whole links with_orders (length W.requests) with_rows
  requests_done = requests_at p was into good old whole links with_orders orders_done.head (ap (λ (b : Book). b.requests) orders_done.is) (length W.requests) (omega arith)

  rows_are : book_of with_rows ≡ J
  unfolding joined
  rows_are =
      requests_done.is
      ∙ ap (λ (b : Book). with_sent b (passing q (request_moved p was into good old whole links) (length W.requests))) orders_done.is

  pub words_done : WordsAt with_rows requests_done.head most_orders (opens_settled with_rows most_orders)
  words_done = words_at with_rows requests_done.head (ap rules rows_are ∙ kept_book J good) most_orders (omega arith)

  -- it is what the definition says
  pub moved_is : moved_into p was into ≡ opens_settled with_rows most_orders
  unfolding moved_into rows_moved
  moved_is = rw (sym (length_requests into), sym (length_orders into), sym (length_orders was), sym (length_requests was)) refl

  module _ where
    abbrev d : List ℕ
    d = opens_settled with_rows most_orders

    d_book : book_of d ≡ J
    d_book = words_done.is ∙ rows_are

    d_words : (i : ℕ) → i < most_orders → open_at d i ≡ open_word (book_of d) i
    d_words i h = words_done.word i h ∙ ap (λ (b : Book). open_word b i) (sym words_done.is)

    d_keeps : keeps_of d ≡ true
    d_keeps =
        held_keeps d words_done.head.long words_done.head.orders words_done.head.requests (ap rules d_book ∙ kept_book J good)
        (links_moved p was into good old whole links to.kept to.links d d_book
        (λ j h. words_done.origin j (omega (arith, to.kept.requests)) ∙ requests_done.origin_old j h ∙ orders_done.origin j (omega (arith, to.kept.requests)))
        (λ j h e. words_done.origin _ (new_small j h e) ∙ requests_done.origin_new j h e))
        (words_right d (omega (arith, sym (length_orders d) ∙ ap (λ (b : Book). length b.orders) d_book, good.orders)) d_words)
      where
        new_small : (j : ℕ) → j < length W.requests → q j ≡ true → M + count_below q j < most_requests
        new_small j h e = let r : count_below q j < count_below q (length W.requests) = rank_below q j (length W.requests) h e in omega (arith, joined_requests p O W, good.requests)

    d_same : Keeps into d
    d_same = record {
      same = words_done.keeps.same ∙ requests_done.keeps.same ∙ orders_done.keeps.same;
      bytes = λ h. words_done.keeps.bytes (requests_done.keeps.bytes (orders_done.keeps.bytes h));
    }

  -- THE LAWS
  pub moved_book : book_of (moved_into p was into) ≡ joined p (book_of into) (book_of was)
  moved_book = ap book_of moved_is ∙ d_book

  pub moved_words : (i : ℕ) → i < most_orders → open_at (moved_into p was into) i ≡ open_word (book_of (moved_into p was into)) i
  moved_words = subst (λ (f : List ℕ). (i : ℕ) → i < most_orders → open_at f i ≡ open_word (book_of f) i) (sym moved_is) d_words

  pub moved_keeps : keeps_of (moved_into p was into) ≡ true
  moved_keeps = ap keeps_of moved_is ∙ d_keeps

  pub moved_same : Keeps into (moved_into p was into)
  moved_same = subst (Keeps into) (sym moved_is) d_same
