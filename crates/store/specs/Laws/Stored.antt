-- A record stored is the update of the book that its name says, on any buffer and at any index. Rests on Tables and Book.
use Rattle.std.specs.Prelude.{◌≡◌, refl, Bool, true, false, ◌&&◌, ◌⊎◌, List, ℕ, ◌+◌, ◌≤◌, ◌<◌, ltb, length}
use Rattle.std.proofs.Common.{sym, ap, ◌∙◌, inl, inr, ⊎_elim, arith, eqb-true, eq-eqb, ne_eqb, ltb-true, ltb-false, lt-ltb}
use Rattle.std.proofs.Math.Seq.{set_out}
use Rattle.std.proofs.lemmas.Bool.{eqb-false}
use Rattle.prelude.specs.Cases.{if◌then◌otherwise◌}
use Rattle.prelude.specs.Laws.Cases.{split_if}
use Rattle.prelude.specs.Lists.{list_below}
use Rattle.prelude.specs.Laws.Lists.{length_list, get_list, list_ext, list_set_any}
use Rattle.prelude.specs.Span.{span}
use Rattle.prelude.specs.Laws.Span.{length_span}
use Rattle.prelude.specs.Number.{Bytes}
use Rattle.prelude.specs.Laws.Bytes.{bytes_span}
use Rattle.store.specs.declared.Order.{Order}
use Rattle.store.specs.declared.Request.{Request}
use Rattle.store.specs.Layout.{book_size, header·orders, header·requests, header·setting, orders_at, order_size, most_orders, request_size, most_requests, order_base, request_base}
use Rattle.store.specs.Orders.{FitsOrder, WholeOrder, no_order}
use Rattle.store.specs.Laws.Orders.{fits_order, whole_order}
use Rattle.store.specs.Requests.{WholeRequest, no_request}
use Rattle.store.specs.Laws.Requests.{whole_request}
use Rattle.store.specs.Book.{order_in, request_in, order_at, put_order, request_at, put_request, is_book, count_at, order_count, request_count, setting_of, book_of, load_order, load_request, store_order, with_order}
use Rattle.store.specs.Laws.Tables.{same_count, same_setting, length_put_order, span_put_order, order_put, order_put_other, request_put_order, length_put_request, span_put_request, order_put_request}

-- ---- counts and records

pub count_most : (at most : ℕ) (b : List ℕ) → count_at at most b ≤ most
unfolding count_at
count_most at most b = split_if (λ n. n ≤ most) (is_book b) (λ e. omega arith) (λ e. omega arith)

-- a count above 0 is a book's
pub count_book : (at most : ℕ) (b : List ℕ) (i : ℕ) → i < count_at at most b → length b ≡ book_size
unfolding count_at if◌then◌otherwise◌
count_book at most b i h = go (is_book b) refl
  where
    go : (t : Bool) → is_book b ≡ t → length b ≡ book_size
    go true e = eqb-true (length b) book_size e
    go false e = absurd (let z : i < 0 = rw e at h in omega arith)

pub length_orders : (b : List ℕ) → length (book_of b).orders ≡ order_count b
unfolding book_of
length_orders b = length_list (order_at b) (order_count b)

pub length_requests : (b : List ℕ) → length (book_of b).requests ≡ request_count b
unfolding book_of
length_requests b = length_list (request_at b) (request_count b)

pub order_in_lem : (b : List ℕ) (i : ℕ) → i < order_count b → order_in (book_of b) i ≡ order_at b i
unfolding book_of
order_in_lem b i h = get_list (order_at b) no_order (order_count b) i h

pub request_in_lem : (b : List ℕ) (i : ℕ) → i < request_count b → request_in (book_of b) i ≡ request_at b i
unfolding book_of
request_in_lem b i h = get_list (request_at b) no_request (request_count b) i h

-- a record in use is loaded as the book has it
pub load_order_in : (b : List ℕ) (i : ℕ) → i < order_count b → load_order b i ≡ order_in (book_of b) i
unfolding load_order if◌then◌otherwise◌
load_order_in b i h =
    let l : length b ≡ book_size = count_book header·orders most_orders b i h in
    let k : i < most_orders = omega (arith, count_most header·orders most_orders b) in
    rw (eq-eqb _ _ l, lt-ltb _ _ k) (sym (order_in_lem b i h))

pub load_request_in : (b : List ℕ) (i : ℕ) → i < request_count b → load_request b i ≡ request_in (book_of b) i
unfolding load_request if◌then◌otherwise◌
load_request_in b i h =
    let l : length b ≡ book_size = count_book header·requests most_requests b i h in
    let k : i < most_requests = omega (arith, count_most header·requests most_requests b) in
    rw (eq-eqb _ _ l, lt-ltb _ _ k) (sym (request_in_lem b i h))

-- ---- what bytes hold is in range

module _ (b : List ℕ) (l : length b ≡ book_size) (bytes : Bytes b) where
  pub order_fits : (i : ℕ) → i < most_orders → FitsOrder (order_at b i)
  unfolding order_at
  order_fits i h = fits_order (span b (order_base i) order_size) (bytes_span b (order_base i) order_size bytes) (length_span b (order_base i) order_size (omega arith))

  -- whole, unless the stage was malformed and both flags stand
  pub order_whole : (i : ℕ) → i < most_orders → (order_at b i).gateway.unsent && (order_at b i).gateway.stuck ≡ false → WholeOrder (order_at b i)
  unfolding order_at
  order_whole i h n = whole_order (span b (order_base i) order_size) (bytes_span b (order_base i) order_size bytes) (length_span b (order_base i) order_size (omega arith)) n

  pub request_whole : (i : ℕ) → i < most_requests → WholeRequest (request_at b i)
  unfolding request_at
  request_whole i h = whole_request (span b (request_base i) request_size) (bytes_span b (request_base i) request_size bytes) (length_span b (request_base i) request_size (omega arith))

-- ---- an index in a table, or past it

-- what holds both if the index is in the table and if it is past it, holds
pub in_table : (P : Bool → Type 0) (b : List ℕ) (most i : ℕ) → (length b ≡ book_size → i < most → P true) → (((length b ≡ book_size → ⊥) ⊎ (most ≤ i)) → P false)
    → P (is_book b && ltb i most)
in_table P b most i f g = go (is_book b) (ltb i most) refl refl
  where
    go : (s t : Bool) → is_book b ≡ s → ltb i most ≡ t → P (is_book b && ltb i most)
    go true true e k = rw (e, k) (f (eqb-true (length b) book_size e) (ltb-true i most k))
    go true false e k = rw (e, k) (g (inr (ltb-false i most k)))
    go false t e k = rw e (g (inl (eqb-false (length b) book_size e)))

-- past the table there is no record in use
pub count_out : (at most : ℕ) (b : List ℕ) (i : ℕ) → ((length b ≡ book_size → ⊥) ⊎ (most ≤ i)) → count_at at most b ≤ i
unfolding count_at if◌then◌otherwise◌
count_out at most b i d = ⊎_elim (λ n. rw (ne_eqb (length b) book_size n) (omega arith)) (λ k. omega (arith, count_most at most b)) d

-- ---- an order stored

module _ (b : List ℕ) (l : length b ≡ book_size) (i : ℕ) (h : i < most_orders) (o : Order) (w : WholeOrder o) where
  -- the header stays
  pub put_order_count : (at most : ℕ) → at + 2 ≤ orders_at → count_at at most (put_order b i o) ≡ count_at at most b
  put_order_count at most k =
      same_count b (put_order b i o) l (length_put_order b l i h o w.fits) at most k (span_put_order b l i h o w.fits at 2 (inl k))

  pub put_order_setting : setting_of (put_order b i o) ≡ setting_of b
  put_order_setting = same_setting b (put_order b i o) l (length_put_order b l i h o w.fits) (span_put_order b l i h o w.fits header·setting 4 (inl (omega arith)))

  pub put_order_requests : list_below (request_at (put_order b i o)) (request_count (put_order b i o)) ≡ list_below (request_at b) (request_count b)
  put_order_requests =
      ap (list_below (request_at (put_order b i o))) (put_order_count header·requests most_requests (omega arith))
      ∙ list_ext (request_at (put_order b i o)) (request_at b) (request_count b) (λ k m. request_put_order b l i h o w.fits k)

  pub put_order_book : book_of (put_order b i o) ≡ with_order (book_of b) i o
  unfolding book_of
  put_order_book = λ t. record {
    setting = put_order_setting t;
    orders =
        (ap (list_below (order_at (put_order b i o))) (put_order_count header·orders most_orders (omega arith))
        ∙ list_set_any (order_at b) (order_at (put_order b i o)) (order_count b) i o (λ k. order_put b l i h o w)
        (λ k n m. order_put_other b l i h o w.fits k n)) t;
    requests = put_order_requests t;
  }

-- THE LAW of a stored order: on any buffer, at any index
pub store_order_book : (b : List ℕ) (i : ℕ) (o : Order) → WholeOrder o → book_of (store_order b i o) ≡ with_order (book_of b) i o
unfolding store_order if◌then◌otherwise◌
store_order_book b i o w =
    in_table (λ t. book_of (if t then put_order b i o otherwise b) ≡ with_order (book_of b) i o) b most_orders i (λ l h. put_order_book b l i h o w) (λ d. sym (out d))
  where
    out : ((length b ≡ book_size → ⊥) ⊎ (most_orders ≤ i)) → with_order (book_of b) i o ≡ book_of b
    out d = λ t. record { setting = (book_of b).setting; orders = set_out (book_of b).orders i o (omega (arith, length_orders b, count_out header·orders most_orders b i d)) t; requests = (book_of b).requests }

pub load_stored_order : (b : List ℕ) (i : ℕ) (o : Order) → length b ≡ book_size → i < most_orders → WholeOrder o → load_order (store_order b i o) i ≡ o
unfolding load_order store_order if◌then◌otherwise◌
load_stored_order b i o l h w =
    rw (eq-eqb _ _ l, lt-ltb _ _ h, eq-eqb _ _ (length_put_order b l i h o w.fits)) (order_put b l i h o w)

-- ---- a request written: the header and the orders stay

module _ (b : List ℕ) (l : length b ≡ book_size) (i : ℕ) (h : i < most_requests) (r : Request) (w : WholeRequest r) where
  pub put_request_count : (at most : ℕ) → at + 2 ≤ orders_at → count_at at most (put_request b i r) ≡ count_at at most b
  put_request_count at most k =
      same_count b (put_request b i r) l (length_put_request b l i h r w) at most k (span_put_request b l i h r w at 2 (inl (omega arith)))

  pub put_request_setting : setting_of (put_request b i r) ≡ setting_of b
  put_request_setting = same_setting b (put_request b i r) l (length_put_request b l i h r w) (span_put_request b l i h r w header·setting 4 (inl (omega arith)))

  pub put_request_orders : list_below (order_at (put_request b i r)) (order_count (put_request b i r)) ≡ list_below (order_at b) (order_count b)
  put_request_orders =
      ap (list_below (order_at (put_request b i r))) (put_request_count header·orders most_orders (omega arith))
      ∙ list_ext (order_at (put_request b i r)) (order_at b) (order_count b) (λ k m. order_put_request b l i h r w k (omega (arith, count_most header·orders most_orders b)))
