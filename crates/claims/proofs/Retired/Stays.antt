-- Which bytes a retirement does not touch: those outside the header's counts, the rows that are written, and the words. Rests on Moved and Emptied.
use Rattle.std.specs.Prelude.{ℕ, zero, suc, ◌+◌, ◌≤◌, ◌<◌, ◌≡◌, ◌⊎◌, Bool, true, List, length, get_or, refl}
use Rattle.std.proofs.Common.{arith, ap, subst, ◌∙◌, inl, inr, ⊎_elim, eq-eqb, lt-ltb}
use Rattle.prelude.specs.Below.{count_below}
use Rattle.prelude.specs.Cases.{if◌then◌otherwise◌}
use Rattle.prelude.specs.Laws.Cases.{split_if}
use Rattle.prelude.specs.Number.{bytes_of}
use Rattle.prelude.specs.Span.{splice}
use Rattle.store.specs.declared.Order.{Order}
use Rattle.store.specs.declared.Request.{Request}
use Rattle.store.specs.Layout.{book_size, header·orders, header·requests, most_orders, most_requests, order_base, request_base, request·origin, opens_at, open_base}
use Rattle.store.specs.Orders.{FitsOrder, encode_order}
use Rattle.store.specs.Requests.{WholeRequest, encode_request}
use Rattle.store.specs.Book.{Book, book_of, order_count, request_count, put_order, put_request, set_count, add_order, add_request, store_origin, store_open}
use Rattle.store.specs.Laws.Orders.{length_order}
use Rattle.store.specs.Laws.Requests.{length_request}
use Rattle.store.specs.Laws.Tables.{length_put_order, length_put_request}
use Rattle.store.specs.Laws.Stored.{in_table}
use Rattle.store.specs.Laws.Kept.{add_request_keeps, store_open_keeps}
use Rattle.machine.specs.Whole.{WholeBook}
use Rattle.machine.proofs.Kept.Indexed.{BookKept}
use Rattle.index.specs.Index.{links_right}
use Rattle.kept.proofs.Header.{Headed}
use Rattle.parts.specs.Parts.{of_passing, moved_order, joined}
use Rattle.parts.specs.Laws.Ranks.{rank_below, rank_hit, rank_most}
use Rattle.parts.specs.Laws.Joined.{joined_orders, joined_requests}
use Rattle.retire.specs.Retire.{open_word, add_linked, orders_moved, requests_moved, opens_settled, moved_into}
use Rattle.claims.proofs.Retired.Emptied.{get_out}
use Rattle.claims.proofs.Retired.Orders.{OrdersAt, orders_count, orders_at, whole_order}
use Rattle.claims.proofs.Retired.Requests.{RequestsAt, request_moved, requests_count, requests_at, whole_request, few_requests}
use Rattle.claims.proofs.Retired.Moved.{Into, orders_done, requests_done, moved_is}

-- outside a range
abbrev pub Out : (from to k : ℕ) → Type 0
Out from to k = (k < from) ⊎ (to ≤ k)

-- ---- one write

module _ (d : List ℕ) (l : length d ≡ book_size) where
  pub count_stays : (at n k : ℕ) → at + 2 ≤ 4 → 4 ≤ k → get_or (set_count d at n) k 0 ≡ get_or d k 0
  unfolding set_count
  count_stays at n k h g = get_out d at (bytes_of 2 n) (omega arith) k (inr (omega arith))

module _ (d : List ℕ) (l : length d ≡ book_size) where
  pub order_stays : (o : Order) → FitsOrder o → order_count d < most_orders → (k : ℕ) → 4 ≤ k → Out (order_base (order_count d)) (order_base (order_count d + 1)) k
      → get_or (add_order d o) k 0 ≡ get_or d k 0
  unfolding add_order put_order if◌then◌otherwise◌
  order_stays o w h k g out =
      let n : ℕ = order_count d in
      let e : length (encode_order o) ≡ 256 = length_order o w in
      rw (eq-eqb (length d) book_size l, lt-ltb n most_orders h)
      (count_stays (put_order d n o) (length_put_order d l n h o w) header·orders (n + 1) k (omega arith) g
      ∙ get_out d (order_base n) (encode_order o) (omega arith) k (⊎_elim (λ p. inl p) (λ p. inr (omega arith)) out))

  pub request_stays : (r : Request) → WholeRequest r → request_count d < most_requests → (k : ℕ) → 4 ≤ k → Out (request_base (request_count d)) (request_base (request_count d + 1)) k
      → get_or (add_request d r) k 0 ≡ get_or d k 0
  unfolding add_request put_request if◌then◌otherwise◌
  request_stays r w h k g out =
      let n : ℕ = request_count d in
      let e : length (encode_request r) ≡ 128 = length_request r w in
      rw (eq-eqb (length d) book_size l, lt-ltb n most_requests h)
      (count_stays (put_request d n r) (length_put_request d l n h r w) header·requests (n + 1) k (omega arith) g
      ∙ get_out d (request_base n) (encode_request r) (omega arith) k (⊎_elim (λ p. inl p) (λ p. inr (omega arith)) out))

  pub origin_stays : (i origin k : ℕ) → Out (request_base i) (request_base (i + 1)) k → get_or (store_origin d i origin) k 0 ≡ get_or d k 0
  unfolding store_origin if◌then◌otherwise◌
  origin_stays i origin k out =
      in_table (λ t. get_or (if t then splice d (request_base i + request·origin) (bytes_of 2 origin) otherwise d) k 0 ≡ get_or d k 0) d most_requests i
      (λ m h. get_out d (request_base i + request·origin) (bytes_of 2 origin) (omega arith) k (⊎_elim (λ p. inl (omega arith)) (λ p. inr (omega arith)) out))
      (λ e. refl)

  open_stays : (i n k : ℕ) → Out opens_at (open_base most_orders) k → get_or (store_open d i n) k 0 ≡ get_or d k 0
  unfolding store_open if◌then◌otherwise◌
  open_stays i n k out =
      in_table (λ t. get_or (if t then splice d (open_base i) (bytes_of 8 n) otherwise d) k 0 ≡ get_or d k 0) d most_orders i
      (λ m h. get_out d (open_base i) (bytes_of 8 n) (omega arith) k (⊎_elim (λ p. inl (omega arith)) (λ p. inr (omega arith)) out))
      (λ e. refl)

words_long : (d : List ℕ) → length d ≡ book_size → (n : ℕ) → length (opens_settled d n) ≡ book_size
unfolding opens_settled
words_long d l zero = l
words_long d l (suc n) = (store_open_keeps (opens_settled d n) n (open_word (book_of d) n)).same ∙ words_long d l n

-- ---- all of them

module _ (p : ℕ → Bool) (was into : List ℕ) (old : BookKept (book_of was)) (whole : WholeBook (book_of was)) (links : links_right was ≡ true) (to : Into into)
    (good : BookKept (joined p (book_of into) (book_of was))) where
  abbrev W : Book
  W = book_of was

  abbrev O : Book
  O = book_of into

  abbrev q : ℕ → Bool
  q = of_passing p W

  abbrev N : ℕ
  N = length O.orders

  abbrev M : ℕ
  M = length O.requests

  module _ (k : ℕ) (past : 4 ≤ k) where
    -- the orders' rows
    orders_stay : (n : ℕ) → n ≤ length W.orders → Out (order_base N) (order_base (N + count_below p n)) k → get_or (orders_moved p was M into n) k 0 ≡ get_or into k 0
    unfolding orders_moved
    orders_stay zero h out = refl
    orders_stay (suc n) h out =
        let d : List ℕ = orders_moved p was M into n in
        let at : OrdersAt p was into good whole n d = orders_at p was into good whole to.head n (omega arith) in
        let c : order_count d ≡ N + count_below p n = orders_count p was into good whole n d at in
        let less : count_below p n ≤ count_below p (suc n) = rank_most p n (suc n) (omega arith) in
        let rest : get_or d k 0 ≡ get_or into k 0 = orders_stay n (omega arith) (⊎_elim (λ l. inl l) (λ l. inr (omega arith)) out) in
        split_if (λ (f : List ℕ). get_or f k 0 ≡ get_or into k 0) (p n)
        (λ e.
        let r : count_below p n < count_below p (length W.orders) = rank_below p n (length W.orders) h e in
        let next : count_below p (suc n) ≡ count_below p n + 1 = rank_hit p n e in
        let most : length (joined p O W).orders ≤ 64 = good.orders in
        order_stays d at.head.long (moved_order p M W n) (whole_order p was into good whole n h e).fits (omega (arith, joined_orders p O W)) k past
        (⊎_elim (λ l. inl (omega arith)) (λ l. inr (omega arith)) out) ∙ rest)
        (λ e. rest)

    -- the requests'
    module _ (from : List ℕ) (head : Headed from) (sent : (book_of from).requests ≡ O.requests) where
      pub requests_stay : (n : ℕ) → n ≤ length W.requests → Out (request_base M) (request_base (M + count_below q n)) k → get_or (requests_moved p was N M from n) k 0 ≡ get_or from k 0
      unfolding requests_moved add_linked
      requests_stay zero h out = refl
      requests_stay (suc n) h out =
          let d : List ℕ = requests_moved p was N M from n in
          let at : RequestsAt p was into good old whole links from n d = requests_at p was into good old whole links from head sent n (omega arith) in
          let c : request_count d ≡ M + count_below q n = requests_count p was into good old whole links from head sent n h d at in
          let less : count_below q n ≤ count_below q (suc n) = rank_most q n (suc n) (omega arith) in
          let rest : get_or d k 0 ≡ get_or from k 0 = requests_stay n (omega arith) (⊎_elim (λ l. inl l) (λ l. inr (omega arith)) out) in
          split_if (λ (f : List ℕ). get_or f k 0 ≡ get_or from k 0) (q n)
          (λ e.
          let r : count_below q n < count_below q (length W.requests) = rank_below q n (length W.requests) h e in
          let next : count_below q (suc n) ≡ count_below q n + 1 = rank_hit q n e in
          let w : WholeRequest (request_moved p was into good old whole links n) = whole_request p was into good old whole links n h e in
          let few : M + count_below q (length W.requests) ≤ 256 = few_requests p was into good old whole links in
          let there : Out (request_base (request_count d)) (request_base (request_count d + 1)) k = ⊎_elim (λ l. inl (omega arith)) (λ l. inr (omega arith)) out in
          origin_stays (add_request d (request_moved p was into good old whole links n)) ((add_request_keeps d (request_moved p was into good old whole links n) w).same ∙ at.head.long) (request_count d) _ k there
          ∙ request_stays d at.head.long (request_moved p was into good old whole links n) w (omega arith) k past there
          ∙ rest)
          (λ e. rest)

    -- the words
    pub words_stay : (d : List ℕ) → length d ≡ book_size → (n : ℕ) → n ≤ most_orders → Out opens_at (open_base most_orders) k → get_or (opens_settled d n) k 0 ≡ get_or d k 0
    unfolding opens_settled
    words_stay d l zero h out = refl
    words_stay d l (suc n) h out =
        open_stays (opens_settled d n) (words_long d l n) n (open_word (book_of d) n) k out ∙ words_stay d l n (omega arith) out

    -- THE LAW
    pub moved_stays : Out (order_base N) (order_base (length (joined p O W).orders)) k → Out (request_base M) (request_base (length (joined p O W).requests)) k
        → Out opens_at (open_base most_orders) k → get_or (moved_into p was into) k 0 ≡ get_or into k 0
    moved_stays o r w =
        let at = orders_done p was into old whole links to good in
        ap (λ (f : List ℕ). get_or f k 0) (moved_is p was into old whole links to good)
        ∙ words_stay _ (requests_done p was into old whole links to good).head.long most_orders (omega arith) w
        ∙ requests_stay _ at.head (ap (λ (b : Book). b.requests) at.is) (length W.requests) (omega arith) (subst (λ (n : ℕ). Out (request_base M) (request_base n) k) (joined_requests p O W) r)
        ∙ orders_stay (length W.orders) (omega arith) (subst (λ (n : ℕ). Out (order_base N) (order_base n) k) (joined_orders p O W) o)
