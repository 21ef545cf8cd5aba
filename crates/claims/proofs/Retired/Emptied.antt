-- A book emptied for a retirement: its rows and its header's counts are zeros, and every other byte is as it was. Rests on prelude's Span and kept's Header.
use Rattle.std.specs.Prelude.{ℕ, ◌+◌, ◌*◌, ◌-◌, ◌≤◌, ◌<◌, ◌≡◌, true, List, length, get_or, refl}
use Rattle.std.proofs.Common.{arith, sym, ap, subst, ◌∙◌, ◌⊎◌, inl, inr, ⊎_elim, eq-eqb}
use Rattle.std.proofs.lemmas.List.{length-replicate}
use Rattle.prelude.specs.Below.{all_below}
use Rattle.prelude.specs.Laws.Below.{all_none}
use Rattle.prelude.specs.Bytes.{zeros}
use Rattle.prelude.specs.Laws.Bytes.{get_zeros, bytes_zeros, bytes_splice}
use Rattle.prelude.specs.Lists.{list_below}
use Rattle.prelude.specs.Number.{word16}
use Rattle.prelude.specs.Cases.{if◌then◌otherwise◌}
use Rattle.prelude.specs.Span.{span, splice}
use Rattle.prelude.specs.Laws.Span.{get_span, length_splice, span_splice_same, span_splice_before, span_splice_after}
use Rattle.store.specs.Layout.{book_size, header·orders, header·requests, header·setting, orders_at, order_size, most_orders, requests_at, request_size, most_requests, order_base, request_base}
use Rattle.store.specs.Book.{book_of, order_at, request_at, order_count, request_count, count_at, empty_book}
use Rattle.store.specs.Laws.Cells.{same_8}
use Rattle.store.specs.Laws.Stored.{count_most}
use Rattle.store.specs.Laws.Tables.{same_setting}
use Rattle.store.specs.Laws.Kept.{Keeps}
use Rattle.machine.proofs.Kept.Indexed.{BookKept, book_kept}
use Rattle.machine.proofs.Kept.Steps.{start_keeps}
use Rattle.index.specs.Index.{link_right, links_right}
use Rattle.retire.specs.Retire.{emptied}
use Rattle.claims.proofs.Retired.Moved.{Into}

-- ---- a byte of a splice

module _ (s : List ℕ) (at : ℕ) (w : List ℕ) (room : at + length w ≤ length s) where
  pub get_out : (k : ℕ) → (k < at) ⊎ (at + length w ≤ k) → get_or (splice s at w) k 0 ≡ get_or s k 0
  get_out k d =
      same_8 (splice s at w) s k
      (⊎_elim (λ p. span_splice_before s at w k 1 (omega arith) (omega arith)) (λ p. span_splice_after s at w k 1 p room) d)

  pub get_in : (k : ℕ) → k < length w → get_or (splice s at w) (at + k) 0 ≡ get_or w k 0
  get_in k h = sym (get_span (splice s at w) at (length w) k h) ∙ ap (λ (l : List ℕ). get_or l k 0) (span_splice_same s at w (length w) refl room)

length_zeros : (n : ℕ) → length (zeros n) ≡ n
length_zeros n = length-replicate n 0

module _ (b : List ℕ) (long : length b ≡ book_size) where
  abbrev n : ℕ
  n = order_count b

  abbrev m : ℕ
  m = request_count b

  few : (n ≤ 64) × (m ≤ 256)
  few = (count_most header·orders most_orders b, count_most header·requests most_requests b)

  -- the three writes
  abbrev b₁ : List ℕ
  b₁ = splice b header·orders (zeros 4)

  abbrev b₂ : List ℕ
  b₂ = splice b₁ orders_at (zeros (n * order_size))

  abbrev b₃ : List ℕ
  b₃ = splice b₂ requests_at (zeros (m * request_size))

  long₁ : length b₁ ≡ book_size
  long₁ = length_splice b header·orders (zeros 4) (omega arith) ∙ long

  room₂ : orders_at + length (zeros (n * order_size)) ≤ length b₁
  room₂ = let f = few.0 in omega (arith, long₁, length_zeros (n * order_size))

  long₂ : length b₂ ≡ book_size
  long₂ = length_splice b₁ orders_at (zeros (n * order_size)) room₂ ∙ long₁

  room₃ : requests_at + length (zeros (m * request_size)) ≤ length b₂
  room₃ = let f = few.1 in omega (arith, long₂, length_zeros (m * request_size))

  long₃ : length b₃ ≡ book_size
  long₃ = length_splice b₂ requests_at (zeros (m * request_size)) room₃ ∙ long₂

  is : emptied b ≡ b₃
  unfolding emptied
  is = refl

  -- ---- its bytes

  -- a byte of the header's counts, of an order's row and of a request's
  head_zero : (k : ℕ) → k < 4 → get_or b₃ k 0 ≡ 0
  head_zero k h =
      get_out b₂ requests_at (zeros (m * request_size)) room₃ k (inl (omega arith))
      ∙ get_out b₁ orders_at (zeros (n * order_size)) room₂ k (inl (omega arith))
      ∙ ap (λ (i : ℕ). get_or b₁ i 0) (let e : k ≡ header·orders + k = omega arith in e)
      ∙ get_in b header·orders (zeros 4) (omega arith) k (omega arith)
      ∙ get_zeros 4 k

  row_zero : (k : ℕ) → orders_at ≤ k → k < order_base n → get_or b₃ k 0 ≡ 0
  row_zero k h l =
      let f = few.0 in
      let e : k ≡ orders_at + (k - orders_at) = omega arith in
      get_out b₂ requests_at (zeros (m * request_size)) room₃ k (inl (omega arith))
      ∙ ap (λ (i : ℕ). get_or b₂ i 0) e
      ∙ get_in b₁ orders_at (zeros (n * order_size)) room₂ (k - orders_at) (omega (arith, length_zeros (n * order_size)))
      ∙ get_zeros (n * order_size) (k - orders_at)

  sent_zero : (k : ℕ) → requests_at ≤ k → k < request_base m → get_or b₃ k 0 ≡ 0
  sent_zero k h l =
      let e : k ≡ requests_at + (k - requests_at) = omega arith in
      ap (λ (i : ℕ). get_or b₃ i 0) e
      ∙ get_in b₂ requests_at (zeros (m * request_size)) room₃ (k - requests_at) (omega (arith, length_zeros (m * request_size)))
      ∙ get_zeros (m * request_size) (k - requests_at)

  -- and the others
  rest_same : (k : ℕ) → 4 ≤ k → (k < orders_at) ⊎ (order_base n ≤ k) → (k < requests_at) ⊎ (request_base m ≤ k) → get_or b₃ k 0 ≡ get_or b k 0
  rest_same k h o r =
      get_out b₂ requests_at (zeros (m * request_size)) room₃ k (⊎_elim (λ p. inl p) (λ p. inr (omega (arith, length_zeros (m * request_size)))) r)
      ∙ get_out b₁ orders_at (zeros (n * order_size)) room₂ k (⊎_elim (λ p. inl p) (λ p. inr (omega (arith, length_zeros (n * order_size)))) o)
      ∙ get_out b header·orders (zeros 4) (omega arith) k (inr (omega arith))

  -- ---- the book that it is

  counted : (at : ℕ) → at + 2 ≤ 4 → word16 b₃ at ≡ 0
  counted at h = omega (arith, head_zero at (omega arith), head_zero (at + 1) (omega arith))

  none : (at most : ℕ) → at + 2 ≤ 4 → count_at at most b₃ ≡ 0
  unfolding count_at if◌then◌otherwise◌
  none at most h = rw (eq-eqb (length b₃) book_size long₃) (omega (arith, counted at h))

  setting_span : span b₃ header·setting 4 ≡ span b header·setting 4
  setting_span =
      span_splice_before b₂ requests_at (zeros (m * request_size)) header·setting 4 (omega arith) (omega (arith, long₂))
      ∙ span_splice_before b₁ orders_at (zeros (n * order_size)) header·setting 4 (omega arith) (omega (arith, long₁))
      ∙ span_splice_after b header·orders (zeros 4) header·setting 4 (omega arith) (omega arith)

  book₃ : book_of b₃ ≡ empty_book (book_of b).setting
  unfolding book_of list_below
  book₃ = λ t. record {
    setting = same_setting b b₃ long long₃ setting_span t;
    orders = ap (list_below (order_at b₃)) (none header·orders most_orders (omega arith)) t;
    requests = ap (list_below (request_at b₃)) (none header·requests most_requests (omega arith)) t;
  }

  links₃ : links_right b₃ ≡ true
  unfolding links_right
  links₃ = ap (all_below (link_right b₃)) (none header·requests most_requests (omega arith)) ∙ all_none (link_right b₃)

  -- THE LAWS
  pub emptied_book : book_of (emptied b) ≡ empty_book (book_of b).setting
  emptied_book = ap book_of is ∙ book₃

  pub emptied_into : Into (emptied b)
  emptied_into = subst Into (sym is) (record {
    head = record { long = long₃; orders = omega (arith, counted 0 (omega arith)); requests = omega (arith, counted 2 (omega arith)) };
    kept = subst BookKept (sym book₃) (book_kept (empty_book (book_of b).setting) (start_keeps (book_of b).setting));
    links = links₃;
  })

  pub emptied_same : Keeps b (emptied b)
  emptied_same = subst (Keeps b) (sym is) (record {
    same = long₃ ∙ sym long;
    bytes = λ h. bytes_splice b₂ requests_at (zeros (m * request_size)) (bytes_splice b₁ orders_at (zeros (n * order_size)) (bytes_splice b header·orders (zeros 4) h (bytes_zeros 4)) (bytes_zeros _)) (bytes_zeros _);
  })

  pub emptied_rest : (k : ℕ) → 4 ≤ k → (k < orders_at) ⊎ (order_base n ≤ k) → (k < requests_at) ⊎ (request_base m ≤ k) → get_or (emptied b) k 0 ≡ get_or b k 0
  emptied_rest k h o r = ap (λ (s : List ℕ). get_or s k 0) is ∙ rest_same k h o r

  pub emptied_order : (k : ℕ) → orders_at ≤ k → k < order_base n → get_or (emptied b) k 0 ≡ 0
  emptied_order k h l = ap (λ (s : List ℕ). get_or s k 0) is ∙ row_zero k h l

  pub emptied_request : (k : ℕ) → requests_at ≤ k → k < request_base m → get_or (emptied b) k 0 ≡ 0
  emptied_request k h l = ap (λ (s : List ℕ). get_or s k 0) is ∙ sent_zero k h l
