-- The words behind the tables: a store of one leaves the book as it was, and no other store touches them. Rests on Tables and Stored.
use Rattle.std.specs.Prelude.{◌≡◌, refl, ◌⊎◌, List, ℕ, ◌+◌, ◌≤◌, ◌<◌, length}
use Rattle.std.proofs.Common.{ap, ◌∙◌, inl, inr, ⊎_elim, arith, eq-eqb, lt-ltb}
use Rattle.std.proofs.Math.Decide.{dec_lt}
use Rattle.prelude.specs.Cases.{if◌then◌otherwise◌}
use Rattle.prelude.specs.Lists.{list_below}
use Rattle.prelude.specs.Laws.Lists.{list_ext}
use Rattle.prelude.specs.Number.{bound, bytes_of}
use Rattle.prelude.specs.Span.{span, splice}
use Rattle.prelude.specs.Laws.Span.{length_splice, span_splice_same, span_splice_before, span_splice_after}
use Rattle.store.specs.declared.Order.{Order}
use Rattle.store.specs.declared.Request.{Request}
use Rattle.store.specs.Layout.{book_size, header·orders, header·requests, header·setting, order_size, most_orders, request_size, most_requests, order_base, request_base, opens_at, open_size, open_base}
use Rattle.store.specs.Orders.{FitsOrder, decode_order}
use Rattle.store.specs.Requests.{WholeRequest, decode_request}
use Rattle.store.specs.Book.{order_at, put_order, request_at, put_request, order_count, request_count, book_of, set_count, store_order, add_order, add_request, settle, mark_answered, open_at, load_open, store_open}
use Rattle.store.specs.Laws.Cells.{read_64, same_64}
use Rattle.store.specs.Laws.Tables.{same_count, same_setting, length_put_order, span_put_order, length_put_request, span_put_request, length_set_count, span_set_count}
use Rattle.store.specs.Laws.Stored.{count_book, count_most, in_table}
use Rattle.store.specs.Laws.Adds.{length_settle, span_settle}

-- a word stays if its bytes do
same_open : (b d : List ℕ) → length b ≡ book_size → length d ≡ book_size → (j : ℕ) → j < most_orders → span d (open_base j) open_size ≡ span b (open_base j) open_size → open_at d j ≡ open_at b j
same_open b d l m j k e = same_64 d b (open_base j) (omega arith) (omega arith) e

-- ---- a word written

abbrev put : List ℕ → ℕ → ℕ → List ℕ
put b i n = splice b (open_base i) (bytes_of 8 n)

module _ (b : List ℕ) (l : length b ≡ book_size) (i : ℕ) (h : i < most_orders) (n : ℕ) where
  length_put : length (put b i n) ≡ book_size
  length_put = length_splice b (open_base i) (bytes_of 8 n) (omega arith) ∙ l

  span_put : (at k : ℕ) → (at + k ≤ open_base i) ⊎ (open_base i + open_size ≤ at) → span (put b i n) at k ≡ span b at k
  span_put at k d =
      ⊎_elim (λ p. span_splice_before b (open_base i) (bytes_of 8 n) at k p (omega arith)) (λ p. span_splice_after b (open_base i) (bytes_of 8 n) at k p (omega arith)) d

  order_put : (j : ℕ) → j < most_orders → order_at (put b i n) j ≡ order_at b j
  unfolding order_at
  order_put j k = ap decode_order (span_put (order_base j) order_size (inl (omega arith)))

  request_put : (j : ℕ) → j < most_requests → request_at (put b i n) j ≡ request_at b j
  unfolding request_at
  request_put j k = ap decode_request (span_put (request_base j) request_size (inl (omega arith)))

  put_book : book_of (put b i n) ≡ book_of b
  unfolding book_of
  put_book =
      let d : List ℕ = put b i n in
      λ t. record {
        setting = same_setting b d l length_put (span_put header·setting 4 (inl (omega arith))) t;
        orders =
            (ap (list_below (order_at d)) (same_count b d l length_put header·orders most_orders (omega arith) (span_put header·orders 2 (inl (omega arith))))
            ∙ list_ext (order_at d) (order_at b) (order_count b) (λ k m. order_put k (omega (arith, count_most header·orders most_orders b)))) t;
        requests =
            (ap (list_below (request_at d)) (same_count b d l length_put header·requests most_requests (omega arith) (span_put header·requests 2 (inl (omega arith))))
            ∙ list_ext (request_at d) (request_at b) (request_count b) (λ k m. request_put k (omega (arith, count_most header·requests most_requests b)))) t;
      }

  put_here : n < bound 8 → open_at (put b i n) i ≡ n
  put_here k = read_64 (put b i n) (open_base i) n (omega (arith, length_put)) k (span_splice_same b (open_base i) (bytes_of 8 n) 8 refl (omega arith))

  put_other : (j : ℕ) → j < most_orders → (i ≡ j → ⊥) → open_at (put b i n) j ≡ open_at b j
  put_other j k d = same_open b (put b i n) l length_put j k (span_put (open_base j) open_size (apart (dec_lt i j)))
    where
      apart : Dec (i < j) → (open_base j + open_size ≤ open_base i) ⊎ (open_base i + open_size ≤ open_base j)
      apart (yes p) = inr (omega arith)
      apart (no p) = inl (omega arith)

module _ (b : List ℕ) (i n : ℕ) where
  -- THE LAW of a word stored: the book does not see it
  pub store_open_book : book_of (store_open b i n) ≡ book_of b
  unfolding store_open if◌then◌otherwise◌
  store_open_book = in_table (λ t. book_of (if t then put b i n otherwise b) ≡ book_of b) b most_orders i (λ l h. put_book b l i h n) (λ d. refl)

  -- nor do the bytes before the words
  pub span_store_open : (at k : ℕ) → at + k ≤ opens_at → span (store_open b i n) at k ≡ span b at k
  unfolding store_open if◌then◌otherwise◌
  span_store_open at k m = in_table (λ t. span (if t then put b i n otherwise b) at k ≡ span b at k) b most_orders i (λ l h. span_put b l i h n at k (inl (omega arith))) (λ d. refl)

  pub open_here : length b ≡ book_size → i < most_orders → n < bound 8 → open_at (store_open b i n) i ≡ n
  unfolding store_open if◌then◌otherwise◌
  open_here l h k = rw (eq-eqb (length b) book_size l, lt-ltb i most_orders h) (put_here b l i h n k)

  pub open_other : (j : ℕ) → j < most_orders → (i ≡ j → ⊥) → open_at (store_open b i n) j ≡ open_at b j
  unfolding store_open if◌then◌otherwise◌
  open_other j k d = in_table (λ t. open_at (if t then put b i n otherwise b) j ≡ open_at b j) b most_orders i (λ l h. put_other b l i h n j k d) (λ d. refl)

-- a word of an order in use is loaded
pub load_open_in : (b : List ℕ) (i : ℕ) → i < order_count b → load_open b i ≡ open_at b i
unfolding load_open if◌then◌otherwise◌
load_open_in b i h =
    let l : length b ≡ book_size = count_book header·orders most_orders b i h in
    let k : i < most_orders = omega (arith, count_most header·orders most_orders b) in
    rw (eq-eqb (length b) book_size l, lt-ltb i most_orders k) refl

-- ---- the words under the other stores

module _ (b : List ℕ) (j : ℕ) (k : j < most_orders) where
  pub store_order_open : (i : ℕ) (o : Order) → FitsOrder o → open_at (store_order b i o) j ≡ open_at b j
  unfolding store_order if◌then◌otherwise◌
  store_order_open i o w =
      in_table (λ t. open_at (if t then put_order b i o otherwise b) j ≡ open_at b j) b most_orders i
      (λ l h. same_open b (put_order b i o) l (length_put_order b l i h o w) j k (span_put_order b l i h o w (open_base j) open_size (inr (omega arith))))
      (λ d. refl)

  pub add_order_open : (o : Order) → FitsOrder o → open_at (add_order b o) j ≡ open_at b j
  unfolding add_order if◌then◌otherwise◌
  add_order_open o w =
      let n : ℕ = order_count b in
      in_table (λ t. open_at (if t then set_count (put_order b n o) header·orders (n + 1) otherwise b) j ≡ open_at b j) b most_orders n
      (λ l h.
      let d : List ℕ = put_order b n o in
      let m : length d ≡ book_size = length_put_order b l n h o w in
      same_open d (set_count d header·orders (n + 1)) m (length_set_count d m header·orders (n + 1) (omega arith)) j k (span_set_count d m header·orders (n + 1) (omega arith) (open_base j) open_size (inr (omega arith)))
      ∙ same_open b d l m j k (span_put_order b l n h o w (open_base j) open_size (inr (omega arith))))
      (λ d. refl)

  pub add_request_open : (r : Request) → WholeRequest r → open_at (add_request b r) j ≡ open_at b j
  unfolding add_request if◌then◌otherwise◌
  add_request_open r w =
      let n : ℕ = request_count b in
      in_table (λ t. open_at (if t then set_count (put_request b n r) header·requests (n + 1) otherwise b) j ≡ open_at b j) b most_requests n
      (λ l h.
      let d : List ℕ = put_request b n r in
      let m : length d ≡ book_size = length_put_request b l n h r w in
      same_open d (set_count d header·requests (n + 1)) m (length_set_count d m header·requests (n + 1) (omega arith)) j k (span_set_count d m header·requests (n + 1) (omega arith) (open_base j) open_size (inr (omega arith)))
      ∙ same_open b d l m j k (span_put_request b l n h r w (open_base j) open_size (inr (omega arith))))
      (λ d. refl)

  pub mark_open : (i outcome : ℕ) → open_at (mark_answered b i outcome) j ≡ open_at b j
  unfolding mark_answered if◌then◌otherwise◌
  mark_open i outcome =
      in_table (λ t. open_at (if t then settle b i outcome otherwise b) j ≡ open_at b j) b most_requests i
      (λ l h. same_open b (settle b i outcome) l (length_settle b l i h outcome) j k (span_settle b l i h outcome (open_base j) open_size (inr (omega arith))))
      (λ d. refl)
