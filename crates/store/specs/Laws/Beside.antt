-- What stands beside a request's fields, its origin: what each store makes of it, and that a store of it is seen nowhere else. Rests on Tables, Stored, Adds, Opens and Kept.
use Rattle.std.specs.Prelude.{◌≡◌, refl, ◌⊎◌, List, ℕ, ◌+◌, ◌≤◌, ◌<◌, length}
use Rattle.std.proofs.Common.{sym, ap, ◌∙◌, arith, inl, inr, ⊎_elim, eq-eqb, ne_eqb, lt-ltb}
use Rattle.std.proofs.Math.Decide.{dec_lt, ℕ_discrete}
use Rattle.prelude.specs.Cases.{if◌then◌otherwise◌}
use Rattle.prelude.specs.Lists.{list_below}
use Rattle.prelude.specs.Number.{bytes_of}
use Rattle.prelude.specs.Span.{span, splice}
use Rattle.prelude.specs.Laws.Lists.{list_ext}
use Rattle.prelude.specs.Laws.Span.{length_splice, span_splice_same, span_splice_before, span_splice_after}
use Rattle.prelude.specs.Laws.Bytes.{bytes_of_lem, bytes_splice}
use Rattle.store.specs.declared.Order.{Order}
use Rattle.store.specs.declared.Request.{Request}
use Rattle.store.specs.Layout.{book_size, header·orders, header·requests, header·setting, order_size, most_orders, requests_at, request_size, most_requests, order_base, request_base, request·order, request·kind, request·answered, request·clordid, request·origclordid, request·downstream, request·outcome, request·origin, open_size, open_base}
use Rattle.store.specs.Orders.{FitsOrder, decode_order}
use Rattle.store.specs.Requests.{WholeRequest, encode_request}
use Rattle.store.specs.Book.{order_at, put_order, request_at, put_request, order_count, request_count, book_of, set_count, store_order, add_order, add_request, origin_at, load_origin, store_origin, settle, mark_answered, open_at, store_open}
use Rattle.store.specs.Laws.Cells.{same_8, same_16, same_64, same_text_lem, read_16}
use Rattle.store.specs.Laws.Requests.{length_request}
use Rattle.store.specs.Laws.Tables.{same_count, same_setting, length_put_order, span_put_order, length_put_request, length_set_count, span_set_count}
use Rattle.store.specs.Laws.Fields.{request_order, request_kind, request_answered, request_clordid, request_origclordid, request_downstream, request_outcome}
use Rattle.store.specs.Laws.Stored.{count_book, count_most, in_table}
use Rattle.store.specs.Laws.Adds.{length_settle, span_settle, span_behind}
use Rattle.store.specs.Laws.Opens.{span_store_open}
use Rattle.store.specs.Laws.Kept.{Keeps, store_open_keeps}

-- where it stands
abbrev origin_base : ℕ → ℕ
origin_base j = request_base j + request·origin

-- an origin stays if its bytes do
same_origin : (b d : List ℕ) → length b ≡ book_size → length d ≡ book_size → (j : ℕ) → j < most_requests → span d (origin_base j) 2 ≡ span b (origin_base j) 2 → origin_at d j ≡ origin_at b j
same_origin b d l m j k e = same_16 d b (origin_base j) (omega arith) (omega arith) e

-- ---- stores elsewhere

module _ (b : List ℕ) (j : ℕ) (k : j < most_requests) where
  pub store_order_origin : (i : ℕ) (o : Order) → FitsOrder o → origin_at (store_order b i o) j ≡ origin_at b j
  unfolding store_order if◌then◌otherwise◌
  store_order_origin i o w =
      in_table (λ t. origin_at (if t then put_order b i o otherwise b) j ≡ origin_at b j) b most_orders i
      (λ l h. same_origin b (put_order b i o) l (length_put_order b l i h o w) j k (span_put_order b l i h o w (origin_base j) 2 (inr (omega arith))))
      (λ d. refl)

  counted : (at n : ℕ) → at + 2 ≤ 256 → length b ≡ book_size → origin_at (set_count b at n) j ≡ origin_at b j
  counted at n h l = same_origin b (set_count b at n) l (length_set_count b l at n h) j k (span_set_count b l at n h (origin_base j) 2 (inr (omega arith)))

module _ (b : List ℕ) (j : ℕ) (k : j < most_requests) where
  pub add_order_origin : (o : Order) → FitsOrder o → origin_at (add_order b o) j ≡ origin_at b j
  unfolding add_order if◌then◌otherwise◌
  add_order_origin o w =
      let n : ℕ = order_count b in
      let d : List ℕ = put_order b n o in
      in_table (λ t. origin_at (if t then set_count d header·orders (n + 1) otherwise b) j ≡ origin_at b j) b most_orders n
      (λ l h.
      let m : length d ≡ book_size = length_put_order b l n h o w in
      counted d j k header·orders (n + 1) (omega arith) m ∙ same_origin b d l m j k (span_put_order b l n h o w (origin_base j) 2 (inr (omega arith))))
      (λ d. refl)

  pub store_open_origin : (i n : ℕ) → origin_at (store_open b i n) j ≡ origin_at b j
  store_open_origin i n = go (ℕ_discrete (length b) book_size)
    where
      go : Dec (length b ≡ book_size) → origin_at (store_open b i n) j ≡ origin_at b j
      go (yes l) = same_origin b (store_open b i n) l ((store_open_keeps b i n).same ∙ l) j k (span_store_open b i n (origin_base j) 2 (omega arith))
      go (no l) = unfold store_open if◌then◌otherwise◌ in rw (ne_eqb (length b) book_size l) refl

-- ---- a request added

module _ (b : List ℕ) (l : length b ≡ book_size) (i : ℕ) (h : i < most_requests) (r : Request) (w : WholeRequest r) where
  put_other : (j : ℕ) → j < most_requests → (i ≡ j → ⊥) → origin_at (put_request b i r) j ≡ origin_at b j
  unfolding put_request
  put_other j k n =
      let e : length (encode_request r) ≡ request_size = length_request r w in
      same_origin b (put_request b i r) l (length_put_request b l i h r w) j k (go e (dec_lt i j))
    where
      go : length (encode_request r) ≡ request_size → Dec (i < j) → span (put_request b i r) (origin_base j) 2 ≡ span b (origin_base j) 2
      go e (yes p) = span_splice_after b (request_base i) (encode_request r) (origin_base j) 2 (omega arith) (omega arith)
      go e (no p) = span_splice_before b (request_base i) (encode_request r) (origin_base j) 2 (omega arith) (omega arith)

-- those in use keep theirs
pub add_request_origin : (b : List ℕ) (r : Request) → WholeRequest r → (j : ℕ) → j < request_count b → origin_at (add_request b r) j ≡ origin_at b j
unfolding add_request if◌then◌otherwise◌
add_request_origin b r w j k =
    let n : ℕ = request_count b in
    let d : List ℕ = put_request b n r in
    in_table (λ t. origin_at (if t then set_count d header·requests (n + 1) otherwise b) j ≡ origin_at b j) b most_requests n
    (λ l h.
    counted d j (omega arith) header·requests (n + 1) (omega arith) (length_put_request b l n h r w) ∙ put_other b l n h r w j (omega arith) (λ z. omega arith))
    (λ d. refl)

-- ---- a request marked

pub mark_origin : (b : List ℕ) (i outcome j : ℕ) → j < most_requests → origin_at (mark_answered b i outcome) j ≡ origin_at b j
unfolding mark_answered if◌then◌otherwise◌
mark_origin b i outcome j k =
    in_table (λ t. origin_at (if t then settle b i outcome otherwise b) j ≡ origin_at b j) b most_requests i
    (λ l h. same_origin b (settle b i outcome) l (length_settle b l i h outcome) j k (go l h (dec_lt j i)))
    (λ d. refl)
  where
    go : length b ≡ book_size → i < most_requests → Dec (j < i) → span (settle b i outcome) (origin_base j) 2 ≡ span b (origin_base j) 2
    go l h (yes p) = span_settle b l i h outcome (origin_base j) 2 (inl (omega arith))
    go l h (no p) = span_behind b l i h outcome (origin_base j) 2 (omega arith)

-- ---- an origin written

abbrev put : List ℕ → (i origin : ℕ) → List ℕ
put b i origin = splice b (origin_base i) (bytes_of 2 origin)

module _ (b : List ℕ) (l : length b ≡ book_size) (i : ℕ) (h : i < most_requests) (origin : ℕ) where
  abbrev d : List ℕ
  d = put b i origin

  long : length d ≡ book_size
  long = length_splice b (origin_base i) (bytes_of 2 origin) (omega arith) ∙ l

  span_put : (at k : ℕ) → (at + k ≤ origin_base i) ⊎ (origin_base i + 2 ≤ at) → span d at k ≡ span b at k
  span_put at k e =
      ⊎_elim (λ p. span_splice_before b (origin_base i) (bytes_of 2 origin) at k p (omega arith)) (λ p. span_splice_after b (origin_base i) (bytes_of 2 origin) at k p (omega arith)) e

  -- the fields of every request stand before it
  span_field : (j at k : ℕ) → at + k ≤ request·origin → span d (request_base j + at) k ≡ span b (request_base j + at) k
  span_field j at k m = span_put (request_base j + at) k (go (dec_lt i j))
    where
      go : Dec (i < j) → (request_base j + at + k ≤ origin_base i) ⊎ (origin_base i + 2 ≤ request_base j + at)
      go (yes p) = inr (omega arith)
      go (no p) = inl (omega arith)

  order_kept : (j : ℕ) → j < most_orders → order_at d j ≡ order_at b j
  unfolding order_at
  order_kept j k = ap decode_order (span_put (order_base j) order_size (inl (omega arith)))

  request_kept : (j : ℕ) → j < most_requests → request_at d j ≡ request_at b j
  request_kept j k = λ t. record {
    order = (request_order d j ∙ same_16 d b (request_base j + request·order) (omega (arith, long)) (omega arith) (span_field j request·order 2 (omega arith)) ∙ sym (request_order b j)) t;
    kind = (request_kind d j ∙ same_8 d b (request_base j + request·kind) (span_field j request·kind 1 (omega arith)) ∙ sym (request_kind b j)) t;
    answered = (request_answered d j ∙ same_8 d b (request_base j + request·answered) (span_field j request·answered 1 (omega arith)) ∙ sym (request_answered b j)) t;
    clordid = (request_clordid d j ∙ same_text_lem d b (request_base j + request·clordid) (span_field j request·clordid 33 (omega arith)) ∙ sym (request_clordid b j)) t;
    origclordid = (request_origclordid d j ∙ same_text_lem d b (request_base j + request·origclordid) (span_field j request·origclordid 33 (omega arith)) ∙ sym (request_origclordid b j)) t;
    downstream = (request_downstream d j ∙ same_text_lem d b (request_base j + request·downstream) (span_field j request·downstream 33 (omega arith)) ∙ sym (request_downstream b j)) t;
    outcome = (request_outcome d j ∙ same_8 d b (request_base j + request·outcome) (span_field j request·outcome 1 (omega arith)) ∙ sym (request_outcome b j)) t;
  }

  put_book : book_of d ≡ book_of b
  unfolding book_of
  put_book = λ t. record {
    setting = same_setting b d l long (span_put header·setting 4 (inl (omega arith))) t;
    orders =
        (ap (list_below (order_at d)) (same_count b d l long header·orders most_orders (omega arith) (span_put header·orders 2 (inl (omega arith))))
        ∙ list_ext (order_at d) (order_at b) (order_count b) (λ k m. order_kept k (omega (arith, count_most header·orders most_orders b)))) t;
    requests =
        (ap (list_below (request_at d)) (same_count b d l long header·requests most_requests (omega arith) (span_put header·requests 2 (inl (omega arith))))
        ∙ list_ext (request_at d) (request_at b) (request_count b) (λ k m. request_kept k (omega (arith, count_most header·requests most_requests b)))) t;
  }

  put_here : origin < 65536 → origin_at d i ≡ origin
  put_here k = read_16 d (origin_base i) origin (omega (arith, long)) k (span_splice_same b (origin_base i) (bytes_of 2 origin) 2 refl (omega arith))

  put_beside : (j : ℕ) → j < most_requests → (i ≡ j → ⊥) → origin_at d j ≡ origin_at b j
  put_beside j k n = same_origin b d l long j k (span_put (origin_base j) 2 (go (dec_lt i j)))
    where
      go : Dec (i < j) → (origin_base j + 2 ≤ origin_base i) ⊎ (origin_base i + 2 ≤ origin_base j)
      go (yes p) = inr (omega arith)
      go (no p) = inl (omega arith)

  put_open : (j : ℕ) → j < most_orders → open_at d j ≡ open_at b j
  put_open j k = same_64 d b (open_base j) (omega (arith, long)) (omega arith) (span_put (open_base j) open_size (inr (omega arith)))

module _ (b : List ℕ) (i origin : ℕ) where
  -- THE LAW of an origin stored: the book does not see it
  pub store_origin_book : book_of (store_origin b i origin) ≡ book_of b
  unfolding store_origin if◌then◌otherwise◌
  store_origin_book = in_table (λ t. book_of (if t then put b i origin otherwise b) ≡ book_of b) b most_requests i (λ l h. put_book b l i h origin) (λ d. refl)

  pub store_origin_keeps : Keeps b (store_origin b i origin)
  unfolding store_origin if◌then◌otherwise◌
  store_origin_keeps =
      in_table (λ t. Keeps b (if t then put b i origin otherwise b)) b most_requests i
      (λ l h. record { same = long b l i h origin ∙ sym l; bytes = λ g. bytes_splice b (origin_base i) (bytes_of 2 origin) g (bytes_of_lem 2 origin) })
      (λ d. record { same = refl; bytes = λ g. g })

  -- nor do the bytes before the requests
  pub span_store_origin : (at k : ℕ) → at + k ≤ requests_at → span (store_origin b i origin) at k ≡ span b at k
  unfolding store_origin if◌then◌otherwise◌
  span_store_origin at k m =
      in_table (λ t. span (if t then put b i origin otherwise b) at k ≡ span b at k) b most_requests i (λ l h. span_put b l i h origin at k (inl (omega arith))) (λ d. refl)

  -- nor the words behind them
  pub store_origin_open : (j : ℕ) → j < most_orders → open_at (store_origin b i origin) j ≡ open_at b j
  unfolding store_origin if◌then◌otherwise◌
  store_origin_open j k = in_table (λ t. open_at (if t then put b i origin otherwise b) j ≡ open_at b j) b most_requests i (λ l h. put_open b l i h origin j k) (λ d. refl)

  pub origin_here : length b ≡ book_size → i < most_requests → origin < 65536 → origin_at (store_origin b i origin) i ≡ origin
  unfolding store_origin if◌then◌otherwise◌
  origin_here l h k = rw (eq-eqb (length b) book_size l, lt-ltb i most_requests h) (put_here b l i h origin k)

  pub origin_other : (j : ℕ) → j < most_requests → (i ≡ j → ⊥) → origin_at (store_origin b i origin) j ≡ origin_at b j
  unfolding store_origin if◌then◌otherwise◌
  origin_other j k n = in_table (λ t. origin_at (if t then put b i origin otherwise b) j ≡ origin_at b j) b most_requests i (λ l h. put_beside b l i h origin j k n) (λ d. refl)

-- ---- the origin of a request in use, loaded

module _ (b : List ℕ) (i : ℕ) (h : i < request_count b) where
  pub load_origin_in : load_origin b i ≡ origin_at b i
  unfolding load_origin if◌then◌otherwise◌
  load_origin_in = rw (eq-eqb (length b) book_size (count_book header·requests most_requests b i h), lt-ltb i most_requests (omega (arith, count_most header·requests most_requests b))) refl
