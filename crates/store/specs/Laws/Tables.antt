-- The two tables and the header in one buffer: what a store leaves as it was, and what it makes anew. Rests on Book and prelude's Table.
use Rattle.std.specs.Prelude.{◌≡◌, ◌⊎◌, List, ℕ, ◌+◌, ◌≤◌, ◌<◌, min, refl, length}
use Rattle.std.proofs.Common.{ap, ◌∙◌, inl, inr, arith, ⊎_elim, eq-eqb}
use Rattle.prelude.specs.Cases.{if◌then◌otherwise◌}
use Rattle.prelude.specs.Span.{span, splice}
use Rattle.prelude.specs.Laws.Span.{length_splice, span_splice_same, span_splice_before, span_splice_after}
use Rattle.prelude.specs.Number.{bytes_of}
use Rattle.prelude.specs.Laws.Table.{length_put_row, row_put, row_put_other, span_put_row}
use Rattle.store.specs.declared.Order.{Order}
use Rattle.store.specs.declared.Request.{Request}
use Rattle.store.specs.Laws.Cells.{read_16, same_16, same_32}
use Rattle.store.specs.Layout.{book_size, header·setting, orders_at, order_size, most_orders, requests_at, request_size, most_requests, order_base, request_base}
use Rattle.store.specs.Orders.{FitsOrder, WholeOrder, decode_order, encode_order}
use Rattle.store.specs.Laws.Orders.{length_order, decode_order_lem}
use Rattle.store.specs.Requests.{WholeRequest, decode_request, encode_request}
use Rattle.store.specs.Laws.Requests.{length_request, decode_request_lem}
use Rattle.store.specs.Book.{order_at, put_order, request_at, put_request, count_at, setting_of, set_count}

-- ---- the header stays if the bytes that it reads do

module _ (b d : List ℕ) (l : length b ≡ book_size) (m : length d ≡ book_size) where
  pub same_count : (at most : ℕ) → at + 2 ≤ orders_at → span d at 2 ≡ span b at 2 → count_at at most d ≡ count_at at most b
  unfolding count_at
  same_count at most h e =
      rw (eq-eqb _ _ l, eq-eqb _ _ m, same_16 d b at (omega arith) (omega arith) e)

  pub same_setting : span d header·setting 4 ≡ span b header·setting 4 → setting_of d ≡ setting_of b
  unfolding setting_of
  same_setting e = rw (eq-eqb _ _ l, eq-eqb _ _ m, same_32 d b header·setting (omega arith) (omega arith) e)

-- ---- an order written

module _ (b : List ℕ) (l : length b ≡ book_size) (i : ℕ) (h : i < most_orders) (o : Order) (w : FitsOrder o) where
  pub length_put_order : length (put_order b i o) ≡ book_size
  unfolding put_order
  length_put_order = length_put_row orders_at order_size most_orders encode_order b (omega arith) i h o (length_order o w) ∙ l

  pub span_put_order : (at n : ℕ) → (at + n ≤ orders_at) ⊎ (requests_at ≤ at) → span (put_order b i o) at n ≡ span b at n
  unfolding put_order
  span_put_order at n d = span_put_row orders_at order_size most_orders encode_order b (omega arith) i h o (length_order o w) at n d

  pub order_put_other : (j : ℕ) → (i ≡ j → ⊥) → order_at (put_order b i o) j ≡ order_at b j
  unfolding put_order order_at
  order_put_other j n = row_put_other orders_at order_size most_orders encode_order b (omega arith) i h o (length_order o w) decode_order j n

  pub request_put_order : (j : ℕ) → request_at (put_order b i o) j ≡ request_at b j
  unfolding request_at
  request_put_order j = ap decode_request (span_put_order (request_base j) request_size (inr (omega arith)))

-- what is stored is loaded
pub order_put : (b : List ℕ) (l : length b ≡ book_size) (i : ℕ) (h : i < most_orders) (o : Order) → WholeOrder o → order_at (put_order b i o) i ≡ o
unfolding put_order order_at
order_put b l i h o w =
    row_put orders_at order_size most_orders encode_order b (omega arith) i h o (length_order o w.fits) decode_order (decode_order_lem o w.fits w.stage)

-- ---- a request written

module _ (b : List ℕ) (l : length b ≡ book_size) (i : ℕ) (h : i < most_requests) (r : Request) (w : WholeRequest r) where
  pub length_put_request : length (put_request b i r) ≡ book_size
  unfolding put_request
  length_put_request = length_put_row requests_at request_size most_requests encode_request b (omega arith) i h r (length_request r w) ∙ l

  pub span_put_request : (at n : ℕ) → (at + n ≤ requests_at) ⊎ (request_base most_requests ≤ at) → span (put_request b i r) at n ≡ span b at n
  unfolding put_request
  span_put_request at n d = span_put_row requests_at request_size most_requests encode_request b (omega arith) i h r (length_request r w) at n d

  pub request_put : request_at (put_request b i r) i ≡ r
  unfolding put_request request_at
  request_put = row_put requests_at request_size most_requests encode_request b (omega arith) i h r (length_request r w) decode_request (decode_request_lem r w)

  pub request_put_other : (j : ℕ) → (i ≡ j → ⊥) → request_at (put_request b i r) j ≡ request_at b j
  unfolding put_request request_at
  request_put_other j n = row_put_other requests_at request_size most_requests encode_request b (omega arith) i h r (length_request r w) decode_request j n

  pub order_put_request : (j : ℕ) → j < most_orders → order_at (put_request b i r) j ≡ order_at b j
  unfolding order_at
  order_put_request j k = ap decode_order (span_put_request (order_base j) order_size (inl (omega arith)))

-- ---- a count written

module _ (b : List ℕ) (l : length b ≡ book_size) (at n : ℕ) (h : at + 2 ≤ orders_at) where
  pub length_set_count : length (set_count b at n) ≡ book_size
  unfolding set_count
  length_set_count = length_splice b at (bytes_of 2 n) (omega arith) ∙ l

  pub span_set_count : (j k : ℕ) → (j + k ≤ at) ⊎ (at + 2 ≤ j) → span (set_count b at n) j k ≡ span b j k
  unfolding set_count
  span_set_count j k d =
      ⊎_elim (λ p. span_splice_before b at (bytes_of 2 n) j k p (omega arith)) (λ p. span_splice_after b at (bytes_of 2 n) j k p (omega arith)) d

  pub count_set_count : (most : ℕ) → n < 65536 → count_at at most (set_count b at n) ≡ min most n
  unfolding count_at if◌then◌otherwise◌ set_count
  count_set_count most k =
      let m : length (splice b at (bytes_of 2 n)) ≡ book_size = length_splice b at (bytes_of 2 n) (omega arith) ∙ l in
      rw (eq-eqb _ _ m, read_16 (splice b at (bytes_of 2 n)) at n (omega arith) k (span_splice_same b at (bytes_of 2 n) 2 refl (omega arith)))

  pub order_set_count : (j : ℕ) → order_at (set_count b at n) j ≡ order_at b j
  unfolding order_at
  order_set_count j = ap decode_order (span_set_count (order_base j) order_size (inr (omega arith)))

  pub request_set_count : (j : ℕ) → request_at (set_count b at n) j ≡ request_at b j
  unfolding request_at
  request_set_count j = ap decode_request (span_set_count (request_base j) request_size (inr (omega arith)))
