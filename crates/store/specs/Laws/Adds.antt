-- Records added, a request marked, and an empty book: each is the update of the book that its name says. Rests on Laws.
use Rattle.std.specs.Prelude.{◌≡◌, refl, ◌⊎◌, List, [], ◌∷◌, ◌++◌, ℕ, ◌+◌, ◌≤◌, ◌<◌, length}
use Rattle.std.proofs.Common.{sym, ◌∙◌, ⊎_elim, ap, inl, inr, arith, eq-eqb, lt-ltb}
use Rattle.std.proofs.Math.Decide.{dec_lt}
use Rattle.std.proofs.Math.Seq.{set_out}
use Rattle.std.proofs.lemmas.List.{length-replicate}
use Rattle.prelude.specs.Cases.{if◌then◌otherwise◌}
use Rattle.prelude.specs.Lists.{list_below}
use Rattle.prelude.specs.Laws.Lists.{list_ext, list_more, list_set_any}
use Rattle.prelude.specs.Span.{span, splice}
use Rattle.prelude.specs.Laws.Span.{span_byte, length_splice, span_splice_same, span_splice_before, span_splice_after}
use Rattle.prelude.specs.Number.{bound, bytes_of, word16, word32}
use Rattle.prelude.specs.Bytes.{zeros}
use Rattle.prelude.specs.Laws.Bytes.{get_zeros}
use Rattle.store.specs.declared.Order.{Order}
use Rattle.store.specs.declared.Request.{Request}
use Rattle.store.specs.Layout.{book_size, header·orders, header·requests, header·setting, order_size, most_orders, request_size, most_requests, order_base, request_base, request·order, request·kind, request·answered, request·clordid, request·origclordid, request·downstream, request·outcome}
use Rattle.store.specs.Laws.Cells.{same_8, same_16, same_text_lem, read_32}
use Rattle.store.specs.Orders.{WholeOrder, decode_order}
use Rattle.store.specs.Requests.{WholeRequest, decode_request}
use Rattle.store.specs.Book.{request_in, order_at, put_order, request_at, put_request, count_at, order_count, request_count, setting_of, book_of, set_count, add_order, add_request, settled_as, settle, mark_answered, blank, plus_order, plus_request, answered, with_answered, empty_book}
use Rattle.store.specs.Laws.Tables.{same_count, same_setting, length_put_order, order_put, order_put_other, length_put_request, request_put, request_put_other, length_set_count, span_set_count, count_set_count, order_set_count, request_set_count}
use Rattle.store.specs.Laws.Fields.{request_order, request_kind, request_answered, request_clordid, request_origclordid, request_downstream, request_outcome}
use Rattle.store.specs.Laws.Stored.{count_most, count_out, in_table, length_requests, request_in_lem, put_order_setting, put_order_requests, put_request_setting, put_request_orders}

-- ---- an order added

module _ (b : List ℕ) (o : Order) where
  pub add_order_book : length b ≡ book_size → order_count b < most_orders → WholeOrder o → book_of (add_order b o) ≡ plus_order (book_of b) o
  unfolding add_order if◌then◌otherwise◌ book_of
  add_order_book l h w =
      let n : ℕ = order_count b in
      let d : List ℕ = put_order b n o in
      let m : length d ≡ book_size = length_put_order b l n h o w.fits in
      let f : List ℕ = set_count d header·orders (n + 1) in
      let u : length f ≡ book_size = length_set_count d m header·orders (n + 1) (omega arith) in
      let c : order_count f ≡ n + 1 = count_set_count d m header·orders (n + 1) (omega arith) most_orders (omega arith) ∙ omega arith in
      rw (eq-eqb (length b) book_size l, lt-ltb (order_count b) most_orders h)
      (λ t. record {
        setting = (same_setting d f m u (span_set_count d m header·orders (n + 1) (omega arith) header·setting 4 (inr (omega arith))) ∙ put_order_setting b l n h o w) t;
        orders =
            (ap (list_below (order_at f)) c
            ∙ list_more (order_at f) n
            ∙ ap (λ (x : Order). list_below (order_at f) n ++ (x ∷ [])) (order_set_count d m header·orders (n + 1) (omega arith) n ∙ order_put b l n h o w)
            ∙ ap (λ (xs : List Order). xs ++ (o ∷ []))
            (list_ext (order_at f) (order_at b) n
            (λ k j. order_set_count d m header·orders (n + 1) (omega arith) k ∙ order_put_other b l n h o w.fits k (λ z. omega arith)))) t;
        requests =
            (ap (list_below (request_at f)) (same_count d f m u header·requests most_requests (omega arith) (span_set_count d m header·orders (n + 1) (omega arith) header·requests 2 (inr (omega arith))))
            ∙ list_ext (request_at f) (request_at d) (request_count d) (λ k j. request_set_count d m header·orders (n + 1) (omega arith) k)
            ∙ put_order_requests b l n h o w) t;
      })

  -- a full table takes none
  pub add_order_full : most_orders ≤ order_count b → add_order b o ≡ b
  unfolding add_order if◌then◌otherwise◌
  add_order_full h =
      in_table (λ t. (if t then set_count (put_order b (order_count b) o) header·orders (order_count b + 1) otherwise b) ≡ b) b most_orders (order_count b) (λ l k. absurd (omega arith)) (λ d. refl)

-- ---- a request added

module _ (b : List ℕ) (r : Request) where
  pub add_request_book : length b ≡ book_size → request_count b < most_requests → WholeRequest r → book_of (add_request b r) ≡ plus_request (book_of b) r
  unfolding add_request if◌then◌otherwise◌ book_of
  add_request_book l h w =
      let n : ℕ = request_count b in
      let d : List ℕ = put_request b n r in
      let m : length d ≡ book_size = length_put_request b l n h r w in
      let f : List ℕ = set_count d header·requests (n + 1) in
      let u : length f ≡ book_size = length_set_count d m header·requests (n + 1) (omega arith) in
      let c : request_count f ≡ n + 1 = count_set_count d m header·requests (n + 1) (omega arith) most_requests (omega arith) ∙ omega arith in
      rw (eq-eqb (length b) book_size l, lt-ltb (request_count b) most_requests h)
      (λ t. record {
        setting = (same_setting d f m u (span_set_count d m header·requests (n + 1) (omega arith) header·setting 4 (inr (omega arith))) ∙ put_request_setting b l n h r w) t;
        orders =
            (ap (list_below (order_at f)) (same_count d f m u header·orders most_orders (omega arith) (span_set_count d m header·requests (n + 1) (omega arith) header·orders 2 (inl (omega arith))))
            ∙ list_ext (order_at f) (order_at d) (order_count d) (λ k j. order_set_count d m header·requests (n + 1) (omega arith) k)
            ∙ put_request_orders b l n h r w) t;
        requests =
            (ap (list_below (request_at f)) c
            ∙ list_more (request_at f) n
            ∙ ap (λ (x : Request). list_below (request_at f) n ++ (x ∷ [])) (request_set_count d m header·requests (n + 1) (omega arith) n ∙ request_put b l n h r w)
            ∙ ap (λ (xs : List Request). xs ++ (r ∷ []))
            (list_ext (request_at f) (request_at b) n
            (λ k j. request_set_count d m header·requests (n + 1) (omega arith) k ∙ request_put_other b l n h r w k (λ z. omega arith)))) t;
      })

  pub add_request_full : most_requests ≤ request_count b → add_request b r ≡ b
  unfolding add_request if◌then◌otherwise◌
  add_request_full h =
      in_table (λ t. (if t then set_count (put_request b (request_count b) r) header·requests (request_count b + 1) otherwise b) ≡ b) b most_requests (request_count b) (λ l k. absurd (omega arith)) (λ d. refl)

-- ---- a request marked as answered, and its outcome set

module _ (b : List ℕ) (l : length b ≡ book_size) (i : ℕ) (h : i < most_requests) where
  abbrev A : ℕ
  A = request_base i + request·answered

  abbrev O : ℕ
  O = request_base i + request·outcome

  abbrev marked : List ℕ
  marked = splice b A (1 ∷ [])

  length_mark : length marked ≡ book_size
  length_mark = length_splice b A (1 ∷ []) (omega arith) ∙ l

  span_mark : (j k : ℕ) → (j + k ≤ A) ⊎ (A + 1 ≤ j) → span marked j k ≡ span b j k
  span_mark j k d = ⊎_elim (λ p. span_splice_before b A (1 ∷ []) j k p (omega arith)) (λ p. span_splice_after b A (1 ∷ []) j k (omega arith) (omega arith)) d

  module _ (outcome : ℕ) where
    abbrev v : ℕ
    v = settled_as outcome (request_at b i)

    abbrev settled : List ℕ
    settled = settle b i outcome

    pub length_settle : length settled ≡ book_size
    length_settle = length_splice marked O (v ∷ []) (omega (arith, length_mark)) ∙ length_mark

    span_note : (j k : ℕ) → (j + k ≤ O) ⊎ (O + 1 ≤ j) → span settled j k ≡ span marked j k
    span_note j k d =
        ⊎_elim
        (λ p. span_splice_before marked O (v ∷ []) j k p (omega (arith, length_mark)))
        (λ p. span_splice_after marked O (v ∷ []) j k (omega arith) (omega (arith, length_mark)))
        d

    -- the bytes that are neither
    span_same : (j k : ℕ) → (j + k ≤ A) ⊎ (A + 1 ≤ j) → (j + k ≤ O) ⊎ (O + 1 ≤ j) → span settled j k ≡ span b j k
    span_same j k d e = span_note j k e ∙ span_mark j k d

    pub span_settle : (j k : ℕ) → (j + k ≤ request_base i) ⊎ (request_base i + request_size ≤ j) → span settled j k ≡ span b j k
    span_settle j k d = span_same j k (⊎_elim (λ p. inl (omega arith)) (λ p. inr (omega arith)) d) (⊎_elim (λ p. inl (omega arith)) (λ p. inr (omega arith)) d)

    -- the bytes behind both stay
    pub span_behind : (j k : ℕ) → O + 1 ≤ j → span settled j k ≡ span b j k
    span_behind j k p = span_same j k (inr (omega arith)) (inr p)

    order_settle : (j : ℕ) → j < most_orders → order_at settled j ≡ order_at b j
    unfolding order_at
    order_settle j k = ap decode_order (span_settle (order_base j) order_size (inl (omega arith)))

    request_settle_other : (j : ℕ) → (i ≡ j → ⊥) → request_at settled j ≡ request_at b j
    unfolding request_at
    request_settle_other j n = ap decode_request (span_settle (request_base j) request_size (go (dec_lt i j)))
      where
        go : Dec (i < j) → (request_base j + request_size ≤ request_base i) ⊎ (request_base i + request_size ≤ request_base j)
        go (yes p) = inr (omega arith)
        go (no p) = inl (omega arith)

    request_settle : request_at settled i ≡ answered outcome (request_at b i)
    request_settle =
        let d : List ℕ = settled in
        let m : length d ≡ book_size = length_settle in
        λ t. record {
          order =
              (request_order d i
              ∙ same_16 d b (request_base i + request·order) (omega arith) (omega arith) (span_same (request_base i + request·order) 2 (inl (omega arith)) (inl (omega arith)))
              ∙ sym (request_order b i)) t;
          kind = (request_kind d i ∙ same_8 d b (request_base i + request·kind) (span_same (request_base i + request·kind) 1 (inl (omega arith)) (inl (omega arith))) ∙ sym (request_kind b i)) t;
          answered = (request_answered d i ∙ span_byte d A 1 (span_note A 1 (inl (omega arith)) ∙ span_splice_same b A (1 ∷ []) 1 refl (omega arith))) t;
          clordid = (request_clordid d i ∙ same_text_lem d b (request_base i + request·clordid) (span_same (request_base i + request·clordid) 33 (inr (omega arith)) (inl (omega arith))) ∙ sym (request_clordid b i)) t;
          origclordid = (request_origclordid d i ∙ same_text_lem d b (request_base i + request·origclordid) (span_same (request_base i + request·origclordid) 33 (inr (omega arith)) (inl (omega arith))) ∙ sym (request_origclordid b i)) t;
          downstream = (request_downstream d i ∙ same_text_lem d b (request_base i + request·downstream) (span_same (request_base i + request·downstream) 33 (inr (omega arith)) (inl (omega arith))) ∙ sym (request_downstream b i)) t;
          outcome = (request_outcome d i ∙ span_byte d O v (span_splice_same marked O (v ∷ []) 1 refl (omega (arith, length_mark)))) t;
        }

    settled_book : book_of settled ≡ with_answered (book_of b) i outcome
    unfolding book_of
    settled_book =
        let d : List ℕ = settled in
        λ t. record {
          setting = same_setting b d l length_settle (span_settle header·setting 4 (inl (omega arith))) t;
          orders =
              (ap (list_below (order_at d)) (same_count b d l length_settle header·orders most_orders (omega arith) (span_settle header·orders 2 (inl (omega arith))))
              ∙ list_ext (order_at d) (order_at b) (order_count b) (λ k m. order_settle k (omega (arith, count_most header·orders most_orders b)))) t;
          requests =
              (ap (list_below (request_at d)) (same_count b d l length_settle header·requests most_requests (omega arith) (span_settle header·requests 2 (inl (omega arith))))
              ∙ list_set_any (request_at b) (request_at d) (request_count b) i (answered outcome (request_in (book_of b) i))
              (λ k. request_settle ∙ ap (answered outcome) (sym (request_in_lem b i k)))
              (λ k n m. request_settle_other k n)) t;
        }

-- THE LAW of a marked request: on any buffer, at any index
pub mark_book : (b : List ℕ) (i outcome : ℕ) → book_of (mark_answered b i outcome) ≡ with_answered (book_of b) i outcome
unfolding mark_answered if◌then◌otherwise◌
mark_book b i outcome =
    in_table (λ t. book_of (if t then settle b i outcome otherwise b) ≡ with_answered (book_of b) i outcome) b most_requests i (λ l h. settled_book b l i h outcome) (λ d. sym (out d))
  where
    out : ((length b ≡ book_size → ⊥) ⊎ (most_requests ≤ i)) → with_answered (book_of b) i outcome ≡ book_of b
    out d = λ t. record { setting = (book_of b).setting; orders = (book_of b).orders; requests = set_out (book_of b).requests i (answered outcome (request_in (book_of b) i)) (omega (arith, length_requests b, count_out header·requests most_requests b i d)) t }

-- ---- an empty book

zeros_16 : (n at : ℕ) → word16 (zeros n) at ≡ 0
zeros_16 n at = rw (get_zeros n at, get_zeros n (at + 1))

length_zeros : (n : ℕ) → length (zeros n) ≡ n
length_zeros n = length-replicate n 0

module _ (n : ℕ) (h : 8 ≤ n) (setting : ℕ) where
  length_blank : length (splice (zeros n) header·setting (bytes_of 4 setting)) ≡ n
  length_blank =
      let l : length (zeros n) ≡ n = length_zeros n in
      length_splice (zeros n) header·setting (bytes_of 4 setting) (omega arith) ∙ l

  count_blank : (at : ℕ) → at + 2 ≤ header·setting → word16 (splice (zeros n) header·setting (bytes_of 4 setting)) at ≡ 0
  count_blank at k =
      let l : length (zeros n) ≡ n = length_zeros n in
      let m : length (splice (zeros n) header·setting (bytes_of 4 setting)) ≡ n = length_blank in
      same_16 (splice (zeros n) header·setting (bytes_of 4 setting)) (zeros n) at (omega arith) (omega arith)
      (span_splice_before (zeros n) header·setting (bytes_of 4 setting) at 2 k (omega arith))
      ∙ zeros_16 n at

  setting_blank : setting < bound 4 → word32 (splice (zeros n) header·setting (bytes_of 4 setting)) header·setting ≡ setting
  setting_blank k =
      let l : length (zeros n) ≡ n = length_zeros n in
      let m : length (splice (zeros n) header·setting (bytes_of 4 setting)) ≡ n = length_blank in
      read_32 (splice (zeros n) header·setting (bytes_of 4 setting)) header·setting setting (omega arith) k
      (span_splice_same (zeros n) header·setting (bytes_of 4 setting) 4 refl (omega arith))

module _ (setting : ℕ) where
  pub blank_length : length (blank setting) ≡ book_size
  unfolding blank
  blank_length = length_blank book_size (omega arith) setting

  blank_count : (at most : ℕ) → at + 2 ≤ header·setting → count_at at most (blank setting) ≡ 0
  unfolding count_at if◌then◌otherwise◌ blank
  blank_count at most k =
      rw (eq-eqb _ book_size (length_blank book_size (omega arith) setting), count_blank book_size (omega arith) setting at k) (omega arith)

  blank_setting : setting < bound 4 → setting_of (blank setting) ≡ setting
  unfolding setting_of if◌then◌otherwise◌ blank
  blank_setting k =
      rw (eq-eqb _ book_size (length_blank book_size (omega arith) setting), setting_blank book_size (omega arith) setting k)

  -- THE LAW of the first book
  pub blank_book : setting < bound 4 → book_of (blank setting) ≡ empty_book setting
  unfolding book_of list_below
  blank_book k = λ t. record {
    setting = blank_setting k t;
    orders = ap (list_below (order_at (blank setting))) (blank_count header·orders most_orders (omega arith)) t;
    requests = ap (list_below (request_at (blank setting))) (blank_count header·requests most_requests (omega arith)) t;
  }
