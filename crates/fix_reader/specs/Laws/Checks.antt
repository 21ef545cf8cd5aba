-- The reader's questions on the fields of a message: its header, its rows, its end; and that fields that pass are those of a writing.
-- Rests on Fitting and Trip.
use Rattle.std.specs.Prelude.{◌≡◌, ℕ, suc, ◌-◌, ◌%◌, ◌<◌, Bool, true, false, not, ◌&&◌, ◌||◌, ltb, List, [], ◌∷◌, ◌++◌, length, take, drop, ◌==◌, nat_le, nat_lt, slice_index, slice_index_or, Option, None, Some, refl}
use Rattle.std.proofs.Common.{sym, ap, subst, ◌∙◌, ⊎_elim, arith, eqb-true, eq-eqb, length-append, drop-cons, get_or-drop, take_at}
use Rattle.std.proofs.Math.Decide.{dec_lt}
use Rattle.std.proofs.Math.ListN.{get_or-eq_default}
use Rattle.std.proofs.lemmas.Bool.{not-true, and_parts, and_from, or_cases}
use Rattle.std.specs.Option.{is_some}
use Rattle.prelude.specs.Laws.Cases.{if_true, if_false, clash}
use Rattle.prelude.specs.Laws.Below.{all_intro}
use Rattle.prelude.specs.Number.{bound}
use Rattle.decimal.specs.Decimal.{digits, low_digits, number_in}
use Rattle.format.specs.Codes.{within}
use Rattle.fix_words.specs.Lists.{every, same}
use Rattle.fix_words.specs.Spelling.{Field, field, spellings}
use Rattle.fix_words.specs.Rows.{Row, Values, body, value_in, in_rows}
use Rattle.fix_words.specs.Values.{tables, rows, type_of, kind_of, value_of, contents}
use Rattle.fix_words.specs.Message.{version, stamp, inner, front, sum, trailer, framed, fields_of, shape_at, range_at, text_at, is_text, shaped, ranged, texted, typed, is_writing, value_at, loose_of}
use Rattle.fix_claims.specs.Reading.{no_field, tag_of}
use Rattle.fix_words.specs.Laws.Lists.{same_true, same_self}
use Rattle.fix_words.specs.Laws.Rows.{stand, value_none, body_same, body_append}
use Rattle.fix_words.proofs.Laws.Kinds.{by_kind_lem, right, must_in, with_name}
use Rattle.fix_reader.specs.Laws.Walk.{walk, distinct, ordered, Walked, walk_found, walk_pair}
use Rattle.fix_reader.specs.Laws.Fits.{fits, asked_by, asked_stops, asked_fits, name_first, must_name, only_report}
use Rattle.fix_reader.specs.Laws.Fitting.{fit_right, fit_values, fit_paired}

-- ---- the questions

abbrev pub kind_in : List Field → ℕ
kind_in fs = kind_of (slice_index (value_at fs 2) 0)

abbrev pub head_tags : List Field → Bool
head_tags fs =
    (tag_of fs 0 == 8)
    && (tag_of fs 1 == 9 && (tag_of fs 2 == 35 && (tag_of fs 3 == 49 && (tag_of fs 4 == 56 && (tag_of fs 5 == 34 && tag_of fs 6 == 52)))))

-- a number of one word, spelled as the writer does
abbrev pub is_number : List ℕ → Bool
is_number v = same (digits (number_in v)) v && nat_lt (number_in v) (bound 8)

unfoldable pub headed : List Field → Bool
headed fs =
    head_tags fs
    && (same (value_at fs 0) version
    && (within 16 20 (kind_in fs)
    && (same (value_at fs 2) (type_of (kind_in fs) ∷ [])
    && (is_text (value_at fs 3) && (is_text (value_at fs 4) && (is_number (value_at fs 5) && is_text (value_at fs 6)))))))

-- all but the last
abbrev pub init : List Field → List Field
init fs = take (length fs - 1) fs

abbrev pub same_fields : List Field → List Field → Bool
same_fields [] [] = true
same_fields [] (g ∷ gs) = false
same_fields (f ∷ fs) [] = false
same_fields (f ∷ fs) (g ∷ gs) = (f.tag == g.tag && same f.value g.value) && same_fields fs gs

abbrev pub sum_field : List Field → Field
sum_field fs = field 10 (low_digits 3 (sum (spellings (init fs)) % 256))

unfoldable pub closed : List Field → List Field → Bool
closed fs out =
    same_fields out (stamp (kind_in fs) (value_at fs 6) (sum_field fs ∷ [])) && same (value_at fs 1) (digits (length (spellings (drop 2 (init fs)))))

abbrev pub ends : List Field → Option (List Field) → Bool
ends fs None = false
ends fs (Some out) = closed fs out

unfoldable pub checks : List Field → Bool
checks fs = headed fs && ends fs (walk (asked_by (kind_in fs) (value_at fs 7)) false (rows (kind_in fs)) (drop 7 fs))

-- ---- laws

pub same_fields_lem : (fs gs : List Field) → same_fields fs gs ≡ true → fs ≡ gs
same_fields_lem [] [] e = refl
same_fields_lem [] (g ∷ gs) e = clash false e refl
same_fields_lem (f ∷ fs) [] e = clash false e refl
same_fields_lem (f ∷ fs) (g ∷ gs) e =
    let h = and_parts (f.tag == g.tag && same f.value g.value) (same_fields fs gs) e in
    let k = and_parts (f.tag == g.tag) (same f.value g.value) h.0 in
    λ i. field (eqb-true f.tag g.tag k.0 i) (same_true f.value g.value k.1 i) ∷ same_fields_lem fs gs h.1 i

pub fields_self : (fs : List Field) → same_fields fs fs ≡ true
fields_self [] = refl
fields_self (f ∷ fs) = and_from _ _ (and_from _ _ (eq-eqb f.tag f.tag refl) (same_self f.value)) (fields_self fs)

-- a field whose tag is not 0
cons_field : (fs : List Field) (i t : ℕ) → 0 < t → (tag_of fs i == t) ≡ true → drop i fs ≡ field t (value_at fs i) ∷ drop (suc i) fs
cons_field fs i t p e = go (dec_lt i (length fs))
  where
    q : tag_of fs i ≡ t
    q = eqb-true (tag_of fs i) t e

    go : Dec (i < length fs) → drop i fs ≡ field t (value_at fs i) ∷ drop (suc i) fs
    go (yes h) = drop-cons fs i no_field h ∙ (λ j. field (q j) (value_at fs i) ∷ drop (suc i) fs)
    go (no h) =
        let z : slice_index_or fs i no_field ≡ no_field = get_or-eq_default fs no_field {n = i} (omega arith) in
        absurd (omega (arith, q, ap (λ (f : Field). f.tag) z))

pub stamp_one : (k : ℕ) (time : List ℕ) (t : Field) → stamp k time (t ∷ []) ≡ stamp k time [] ++ (t ∷ [])
stamp_one k time t = go (nat_le 18 k) refl
  where
    go : (x : Bool) → nat_le 18 k ≡ x → stamp k time (t ∷ []) ≡ stamp k time [] ++ (t ∷ [])
    go true e = if_true (nat_le 18 k) _ _ e ∙ sym (ap (λ (l : List Field). l ++ (t ∷ [])) (if_true (nat_le 18 k) (field 60 time ∷ []) [] e))
    go false e = if_false (nat_le 18 k) _ _ e ∙ sym (ap (λ (l : List Field). l ++ (t ∷ [])) (if_false (nat_le 18 k) (field 60 time ∷ []) [] e))

rows_distinct : (k : ℕ) → within 16 20 k ≡ true → distinct (rows k) ≡ true
unfolding rows tables
rows_distinct = by_kind_lem (λ k. distinct (rows k) ≡ true) refl refl refl refl refl

rows_ordered : (k : ℕ) → within 16 20 k ≡ true → ordered (rows k) ≡ true
unfolding rows tables
rows_ordered = by_kind_lem (λ k. ordered (rows k) ≡ true) refl refl refl refl refl

pub text_rows : (k : ℕ) → within 16 20 k ≡ true → in_rows (rows k) 27 ≡ true → in_rows (rows k) 20 ≡ true
unfolding rows tables
text_rows =
    by_kind_lem (λ k. in_rows (rows k) 27 ≡ true → in_rows (rows k) 20 ≡ true) (λ e. refl) (λ e. refl) (λ e. clash false e refl) (λ e. clash false e refl) (λ e. clash false e refl)

pub stand_must : (rs : List Row) (vs : Values) → stand rs vs ≡ true → (b : ℕ) → must_in rs b ≡ true → is_some (vs b) ≡ true
stand_must [] vs s b m = clash false m refl
stand_must (r ∷ rs) vs s b m =
    let g = and_parts (not r.must || is_some (vs r.bit)) (stand rs vs) s in
    ⊎_elim
    (λ q. let p = and_parts (r.bit == b) r.must q in
    subst (λ (b : ℕ). is_some (vs b) ≡ true) (eqb-true r.bit b p.0)
    (⊎_elim (λ z. clash r.must p.1 (not-true _ z)) (λ z. z) (or_cases (not r.must) (is_some (vs r.bit)) g.0)))
    (λ q. stand_must rs vs g.1 b q)
    (or_cases (r.bit == b && r.must) (must_in rs b) m)

pub init_is : (fs P : List Field) (t : Field) → fs ≡ P ++ (t ∷ []) → init fs ≡ P
init_is fs P t e =
    let l : length (P ++ (t ∷ [])) - 1 ≡ length P = omega (arith, length-append P (t ∷ [])) in
    ap init e ∙ take_at P (t ∷ []) (length (P ++ (t ∷ [])) - 1) (sym l)

-- ---- fields that pass are those of a writing

module _ (fs : List Field) (passes : checks fs ≡ true) (bytes : (i : ℕ) → every (λ x. ltb x 256) (value_at fs i) ≡ true) where
  abbrev k : ℕ
  k = kind_in fs

  abbrev us : Values
  us = value_in (rows k) (drop 7 fs)

  abbrev nm : List ℕ
  nm = value_at fs 7

  two : (headed fs ≡ true) × (ends fs (walk (asked_by k nm) false (rows k) (drop 7 fs)) ≡ true)
  unfolding checks
  two = and_parts (headed fs) _ passes

  record Head : Type 0 where
    tags : head_tags fs ≡ true
    eight : same (value_at fs 0) version ≡ true
    kind : within 16 20 k ≡ true
    type : same (value_at fs 2) (type_of k ∷ []) ≡ true
    sender : is_text (value_at fs 3) ≡ true
    target : is_text (value_at fs 4) ≡ true
    sequence : is_number (value_at fs 5) ≡ true
    time : is_text (value_at fs 6) ≡ true

  head : Head
  unfolding headed
  head =
      let a = and_parts (head_tags fs) _ two.0 in
      let b = and_parts (same (value_at fs 0) version) _ a.1 in
      let c = and_parts (within 16 20 k) _ b.1 in
      let d = and_parts (same (value_at fs 2) (type_of k ∷ [])) _ c.1 in
      let e = and_parts (is_text (value_at fs 3)) _ d.1 in
      let f = and_parts (is_text (value_at fs 4)) _ e.1 in
      let g = and_parts (is_number (value_at fs 5)) (is_text (value_at fs 6)) f.1 in
      record { tags = a.0; eight = b.0; kind = c.0; type = d.0; sender = e.0; target = f.0; sequence = g.0; time = g.1 }

  open_seven : fs ≡ field 8 (value_at fs 0) ∷ field 9 (value_at fs 1) ∷ field 35 (value_at fs 2) ∷ field 49 (value_at fs 3) ∷ field 56 (value_at fs 4)
      ∷ field 34 (value_at fs 5) ∷ field 52 (value_at fs 6) ∷ drop 7 fs
  open_seven =
      let a = and_parts (tag_of fs 0 == 8) _ head.tags in
      let b = and_parts (tag_of fs 1 == 9) _ a.1 in
      let c = and_parts (tag_of fs 2 == 35) _ b.1 in
      let d = and_parts (tag_of fs 3 == 49) _ c.1 in
      let e = and_parts (tag_of fs 4 == 56) _ d.1 in
      let f = and_parts (tag_of fs 5 == 34) (tag_of fs 6 == 52) e.1 in
      cons_field fs 0 8 (omega arith) a.0
      ∙ ap (λ (l : List Field). field 8 (value_at fs 0) ∷ l)
      (cons_field fs 1 9 (omega arith) b.0
      ∙ ap (λ (l : List Field). field 9 (value_at fs 1) ∷ l)
      (cons_field fs 2 35 (omega arith) c.0
      ∙ ap (λ (l : List Field). field 35 (value_at fs 2) ∷ l)
      (cons_field fs 3 49 (omega arith) d.0
      ∙ ap (λ (l : List Field). field 49 (value_at fs 3) ∷ l)
      (cons_field fs 4 56 (omega arith) e.0
      ∙ ap (λ (l : List Field). field 56 (value_at fs 4) ∷ l)
      (cons_field fs 5 34 (omega arith) f.0
      ∙ ap (λ (l : List Field). field 34 (value_at fs 5) ∷ l) (cons_field fs 6 52 (omega arith) f.1))))))

  -- what the walk left
  left : (out : List Field) × (walk (asked_by k nm) false (rows k) (drop 7 fs) ≡ Some out) × (closed fs out ≡ true)
  left = go (walk (asked_by k nm) false (rows k) (drop 7 fs)) refl two.1
    where
      go : (o : Option (List Field)) → walk (asked_by k nm) false (rows k) (drop 7 fs) ≡ o → ends fs o ≡ true
          → (out : List Field) × (walk (asked_by k nm) false (rows k) (drop 7 fs) ≡ Some out) × (closed fs out ≡ true)
      go None e q = clash false q refl
      go (Some out) e q = (out, e, q)

  walked : Walked (asked_by k nm) (rows k) (drop 7 fs) left.0
  walked = walk_found (asked_by k nm) false (rows k) (drop 7 fs) left.0 (rows_distinct k head.kind) left.1

  fit : (b : ℕ) → in_rows (rows k) b ≡ true → (v : List ℕ) → us b ≡ Some v → fits k nm b v ≡ true
  fit b i v z = let a = walked.asked b i v z in asked_fits k nm a.0 b v a.1

  named : in_rows (rows k) 25 ≡ true → us 2 ≡ Some nm
  named i =
      let e = only_report k head.kind i in
      let s : is_some (us 2) ≡ true = walked.stands 2 (must_name k head.kind (with_name k head.kind i)) in
      subst (λ (j : ℕ). value_in (rows j) (drop 7 fs) 2 ≡ Some nm) (sym e)
      (name_first (drop 7 fs) (subst (λ (j : ℕ). is_some (value_in (rows j) (drop 7 fs) 2) ≡ true) e s)
      ∙ ap (λ (f : Field). Some f.value) (get_or-drop 7 fs 0 no_field))

  pair : (is_some (us 20) && is_some (us 27)) ≡ false
  pair = walk_pair (asked_by k nm) (λ v. asked_stops k nm v) false (rows k) (drop 7 fs) left.0 (rows_ordered k head.kind) left.1

  silent : (b : ℕ) → in_rows (rows k) b ≡ false → us b ≡ None
  silent b i = value_none (rows k) (drop 7 fs) b i

  abbrev now : Values
  now = contents k us

  now_right : (b : ℕ) → b < 32 → right k b (now b) ≡ true
  now_right = fit_right k head.kind us nm fit walked.stands silent named pair

  pub passes_writing : is_writing (loose_of fs) ≡ true
  unfolding is_writing loose_of shaped ranged texted typed
  passes_writing =
      and_from _ _
      (and_from _ _ (and_parts (same (digits (number_in (value_at fs 5))) (value_at fs 5)) _ head.sequence).1 (and_from _ _ (bytes 3) (and_from _ _ (bytes 4) (bytes 6))))
      (and_from _ _
      (and_from _ _ head.kind
      (and_from _ _ (all_intro (λ b. shape_at k b (now b)) 32 (λ b h. (and_parts (shape_at k b (now b)) _ (now_right b h)).0))
      (fit_paired k head.kind us nm fit walked.stands silent named pair)))
      (and_from _ _
      (all_intro (λ b. range_at b (now b)) 32 (λ b h. (and_parts (range_at b (now b)) _ (and_parts (shape_at k b (now b)) _ (now_right b h)).1).0))
      (and_from _ _ head.sender (and_from _ _ head.target (and_from _ _ head.time
      (all_intro (λ b. text_at b (now b)) 32 (λ b h. (and_parts (range_at b (now b)) _ (and_parts (shape_at k b (now b)) _ (now_right b h)).1).1)))))))

  -- its fields are these

  abbrev within_9 : List Field
  within_9 =
      field 35 (type_of k ∷ []) ∷ field 49 (value_at fs 3) ∷ field 56 (value_at fs 4) ∷ field 34 (digits (number_in (value_at fs 5))) ∷ field 52 (value_at fs 6)
      ∷ body (rows k) (value_of k now) (stamp k (value_at fs 6) [])

  ending : left.0 ≡ stamp k (value_at fs 6) [] ++ (sum_field fs ∷ [])
  unfolding closed
  ending =
      same_fields_lem left.0 (stamp k (value_at fs 6) (sum_field fs ∷ [])) (and_parts (same_fields left.0 (stamp k (value_at fs 6) (sum_field fs ∷ []))) _ left.2).0
      ∙ stamp_one k (value_at fs 6) (sum_field fs)

  rows_are : drop 7 fs ≡ body (rows k) (value_of k now) (stamp k (value_at fs 6) []) ++ (sum_field fs ∷ [])
  rows_are =
      walked.same
      ∙ sym (body_same (value_of k now) us left.0 (rows k) (fit_values k head.kind us nm fit walked.stands silent named pair))
      ∙ ap (body (rows k) (value_of k now)) ending
      ∙ sym (body_append (value_of k now) (stamp k (value_at fs 6) []) (sum_field fs ∷ []) (rows k))

  five : digits (number_in (value_at fs 5)) ≡ value_at fs 5
  five = same_true (digits (number_in (value_at fs 5))) (value_at fs 5) (and_parts (same (digits (number_in (value_at fs 5))) (value_at fs 5)) _ head.sequence).0

  fields_are : fs ≡ (field 8 version ∷ field 9 (value_at fs 1) ∷ within_9) ++ (sum_field fs ∷ [])
  fields_are =
      open_seven
      ∙ (λ i. field 8 (same_true (value_at fs 0) version head.eight i) ∷ field 9 (value_at fs 1) ∷ field 35 (same_true (value_at fs 2) (type_of k ∷ []) head.type i)
      ∷ field 49 (value_at fs 3) ∷ field 56 (value_at fs 4) ∷ field 34 (sym five i) ∷ field 52 (value_at fs 6) ∷ rows_are i)

  before_10 : init fs ≡ field 8 version ∷ field 9 (value_at fs 1) ∷ within_9
  before_10 = init_is fs (field 8 version ∷ field 9 (value_at fs 1) ∷ within_9) (sum_field fs) fields_are

  nine : value_at fs 1 ≡ digits (length (spellings within_9))
  unfolding closed
  nine =
      same_true (value_at fs 1) _ (and_parts (same_fields left.0 (stamp k (value_at fs 6) (sum_field fs ∷ []))) _ left.2).1
      ∙ ap (λ (l : List Field). digits (length (spellings (drop 2 l)))) before_10

  front_is : front within_9 ≡ init fs
  unfolding front
  front_is = sym (before_10 ∙ ap (λ (v : List ℕ). field 8 version ∷ field 9 v ∷ within_9) nine)

  pub passes_fields : fields_of (loose_of fs) ≡ fs
  unfolding fields_of loose_of inner framed
  passes_fields =
      ap (λ (l : List Field). l ++ (trailer (spellings l) ∷ [])) front_is
      ∙ ap (λ (l : List Field). l ++ (sum_field fs ∷ [])) before_10
      ∙ sym fields_are
