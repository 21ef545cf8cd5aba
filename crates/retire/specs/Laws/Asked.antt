-- What is asked, as code comes to it, and what a retirement that is not refused has to do. Rests on Retire and Side.
use Rattle.std.specs.Prelude.{◌≡◌, refl, ℕ, ◌≤◌, Bool, true, false, not, List, Option, None, Some, length}
use Rattle.std.proofs.Common.{arith, ap, ap₂, sym, ◌∙◌, eq-eqb, ne_eqb}
use Rattle.std.specs.Option.{is_some}
use Rattle.prelude.specs.Below.{count_below}
use Rattle.prelude.specs.Laws.Below.{count_none, count_hit, count_pass, count_le}
use Rattle.prelude.specs.Cases.{if◌then◌otherwise◌, maybe}
use Rattle.prelude.specs.Laws.Cases.{if_true, clash}
use Rattle.prelude.specs.Counted.{refusing, counting}
use Rattle.store.specs.declared.Order.{Order}
use Rattle.store.specs.declared.Request.{Request}
use Rattle.store.specs.Layout.{header·orders, most_orders, header·requests, most_requests}
use Rattle.store.specs.Book.{Book, book_of, order_in, request_in, order_count, request_count}
use Rattle.store.specs.Finds.{find_name, find_clordid}
use Rattle.store.specs.Laws.Stored.{length_orders, length_requests, count_most}
use Rattle.machine.specs.Rules.{client_of}
use Rattle.rules.specs.Keeps.{keeps_of}
use Rattle.parts.specs.Parts.{done_at, of_passing, orders_gone, requests_gone}
use Rattle.retire.specs.Retire.{name_free, clordid_free, all_free, has_room, retired, retire_of, emptied, moved_into, book_left, archive_left}
use Rattle.retire.specs.Laws.Side.{side, side_done, side_live}

-- ---- names and ClOrdIDs

module _ (a b : Book) where
  module _ (i : ℕ) where
    pub name_live : done_at b i ≡ false → true ≡ name_free a b i
    unfolding name_free
    name_live e = rw e

    pub name_done : (o : Order) (r : Bool) → done_at b i ≡ true → o ≡ order_in b i → r ≡ maybe true (λ k. false) (find_name a o.names.name) → r ≡ name_free a b i
    unfolding name_free
    name_done o r e is v = rw e (v ∙ ap (λ (p : Order). maybe true (λ k. false) (find_name a p.names.name)) is)

  module _ (j : ℕ) where
    pub clordid_live : (i : ℕ) → i ≡ (request_in b j).order → done_at b i ≡ false → true ≡ clordid_free a b j
    unfolding clordid_free
    clordid_live i is e = rw (← is, e)

    pub clordid_done : (i : ℕ) (o : Order) (q : Request) (r : Bool) → i ≡ (request_in b j).order → done_at b i ≡ true → o ≡ order_in b i → q ≡ request_in b j
        → r ≡ maybe true (λ k. false) (find_clordid a o.client q.clordid) → r ≡ clordid_free a b j
    unfolding clordid_free
    clordid_done i o q r is e of at v =
        let d : done_at b (request_in b j).order ≡ true = ap (done_at b) (sym is) ∙ e in
        let c : o.client ≡ client_of b j = ap (λ (p : Order). p.client) of ∙ ap (λ (k : ℕ). (order_in b k).client) is in
        rw d (v ∙ ap₂ (λ (k : ℕ) (t : Request). maybe true (λ n. false) (find_clordid a k t.clordid)) c at)

-- whether there is none
pub none_is : (v : Option ℕ) (t : Bool) → is_some v ≡ not t → t ≡ maybe true (λ k. false) v
unfolding maybe
none_is None true e = refl
none_is None false e = absurd (clash true refl (sym e))
none_is (Some k) true e = absurd (clash true refl e)
none_is (Some k) false e = refl

-- ---- how many go

pub gone_orders : (b : List ℕ) → count_below (done_at (book_of b)) (order_count b) ≡ orders_gone (book_of b)
gone_orders b = ap (count_below (done_at (book_of b))) (sym (length_orders b))

pub gone_requests : (b : List ℕ) → count_below (of_passing (done_at (book_of b)) (book_of b)) (request_count b) ≡ requests_gone (book_of b)
gone_requests b = ap (count_below (of_passing (done_at (book_of b)) (book_of b))) (sym (length_requests b))

pub gone_few : (b : List ℕ) → orders_gone (book_of b) ≤ most_orders
gone_few b = omega (arith, count_le (done_at (book_of b)) (length (book_of b).orders), length_orders b, count_most header·orders most_orders b)

pub requests_few : (b : List ℕ) → requests_gone (book_of b) ≤ most_requests
requests_few b =
    omega (arith, count_le (of_passing (done_at (book_of b)) (book_of b)) (length (book_of b).requests), length_requests b, count_most header·requests most_requests b)

-- ---- the answers

pub record Asked (b a : List ℕ) (gone : ℕ) : Type 0 where
  pub kept : keeps_of b ≡ true
  pub number : gone ≡ orders_gone (book_of b)
  pub none : gone ≡ 0 → retired (counting 0) b a ≡ retire_of b a
  pub some : (gone ≡ 0 → ⊥) → retired (counting gone) (book_left b) (archive_left a b) ≡ retire_of b a

module _ (b a : List ℕ) where
  pub bad_book : keeps_of b ≡ false → retired (refusing 1) b a ≡ retire_of b a
  unfolding retire_of
  bad_book e = rw e (sym (if_true _ _ _ refl))

  module _ (kept : keeps_of b ≡ true) where
    pub bad_archive : keeps_of a ≡ false → retired (refusing 16) b a ≡ retire_of b a
    unfolding retire_of if◌then◌otherwise◌
    bad_archive e = rw (kept, e)

    module _ (right : keeps_of a ≡ true) where
      pub in_archive : all_free (book_of a) (book_of b) ≡ false → retired (refusing 17) b a ≡ retire_of b a
      unfolding retire_of if◌then◌otherwise◌
      in_archive e = rw (kept, right, e)

      module _ (free : all_free (book_of a) (book_of b) ≡ true) where
        pub full_archive : has_room (book_of a) (book_of b) ≡ false → retired (refusing 18) b a ≡ retire_of b a
        unfolding retire_of if◌then◌otherwise◌
        full_archive e = rw (kept, right, free, e)

        pub asked : (gone : ℕ) → has_room (book_of a) (book_of b) ≡ true → gone ≡ orders_gone (book_of b) → Asked b a gone
        unfolding retire_of if◌then◌otherwise◌
        asked gone room is = record {
          kept = kept;
          number = is;
          none = λ e. rw (kept, right, free, room, eq-eqb (orders_gone (book_of b)) 0 (sym is ∙ e));
          some = λ n. rw (kept, right, free, room, ne_eqb (orders_gone (book_of b)) 0 (λ z. n (is ∙ z))) (ap (λ (k : ℕ). retired (counting k) (book_left b) (archive_left a b)) is);
        }

-- ---- what is left, by the sides of a copy of the book

pub left_book : (b was e m : List ℕ) → was ≡ b → e ≡ emptied b → m ≡ moved_into (side false (book_of was)) was e → m ≡ book_left b
unfolding book_left
left_book b was e m is empty moved =
    moved ∙ ap₂ (λ (w f : List ℕ). moved_into (side false (book_of w)) w f) is empty ∙ ap (λ (p : ℕ → Bool). moved_into p b (emptied b)) (side_live (book_of b))

pub left_archive : (a b was m : List ℕ) → was ≡ b → m ≡ moved_into (side true (book_of was)) was a → m ≡ archive_left a b
unfolding archive_left
left_archive a b was m is moved =
    moved ∙ ap (λ (w : List ℕ). moved_into (side true (book_of w)) w a) is ∙ ap (λ (p : ℕ → Bool). moved_into p b a) (side_done (book_of b))

-- ---- for the tactics of functions
pub ruleset counting_gone = (count_none, count_hit, count_pass, count_le, gone_orders, gone_requests)

pub ruleset asking = (bad_book, bad_archive, in_archive, full_archive, asked, gone_few)
