-- The end of a message in the reader's code: 60 and 10 as the last fields, and where the bytes that 9 counts start and end. Rests on Checks and
-- Cut.
use Rattle.std.specs.Prelude.{◌≡◌, ℕ, suc, ◌+◌, ◌-◌, ◌%◌, ◌<◌, ◌≤◌, Bool, true, false, ◌&&◌, List, [], ◌∷◌, ◌++◌, length, get_or, take, drop, ◌==◌, ◌≢◌, nat_le, nat_lt, slice_index_or, refl}
use Rattle.std.proofs.Common.{sym, ap, ◌∙◌, arith, add-one, eq-eqb, ne_eqb, le-leb, lt-ltb, length-append, length-drop, take-append-drop, drop_of_length-le, drop-cons, take_at, take-take, get_or-drop}
use Rattle.std.proofs.Math.Bool.{and-false, and-true}
use Rattle.std.proofs.Math.Decide.{dec_lt, ℕ_discrete}
use Rattle.std.proofs.Math.ListN.{get_or-eq_default}
use Rattle.std.proofs.lemmas.Bool.{lt-leb}
use Rattle.prelude.specs.Cases.{if◌then◌otherwise◌}
use Rattle.prelude.specs.Laws.Cases.{if_true, if_false}
use Rattle.decimal.specs.Decimal.{digits, digits_by, low_digits}
use Rattle.fix_words.specs.Lists.{same}
use Rattle.fix_words.specs.Spelling.{Field, field, spellings}
use Rattle.fix_words.specs.Message.{stamp, sum, value_at}
use Rattle.fix_words.specs.Laws.Spelling.{spellings_append}
use Rattle.fix_claims.specs.Reading.{no_field, tag_of, place_of}
use Rattle.fix_reader.specs.Laws.Checks.{init, sum_field, same_fields, same_fields_lem}

-- the sum of bytes as three digits
abbrev pub sum_digits : List ℕ → List ℕ
sum_digits s = low_digits 3 (sum s % 256)

two_digits_10 : length (digits 10) ≡ 2
unfolding digits digits_by if◌then◌otherwise◌
two_digits_10 = refl

two_digits_35 : length (digits 35) ≡ 2
unfolding digits digits_by if◌then◌otherwise◌
two_digits_35 = refl

module _ (fs : List Field) where
  -- where a field of a tag of two digits starts
  place_two : (i : ℕ) → i < length fs → length (digits (tag_of fs i)) ≡ 2 → place_of fs i ≡ length (spellings (take i fs)) + 3
  unfolding place_of
  place_two i h t =
      if_true (nat_lt i (length fs)) (length (spellings (take i fs)) + length (digits (tag_of fs i)) + 1) 0 (lt-ltb i (length fs) h) ∙ omega (arith, t)

  pub place_10 : (i : ℕ) → i < length fs → tag_of fs i ≡ 10 → place_of fs i ≡ length (spellings (take i fs)) + 3
  place_10 i h t = place_two i h (ap (λ (n : ℕ). length (digits n)) t ∙ two_digits_10)

  pub place_35 : (i : ℕ) → i < length fs → tag_of fs i ≡ 35 → place_of fs i ≡ length (spellings (take i fs)) + 3
  place_35 i h t = place_two i h (ap (λ (n : ℕ). length (digits n)) t ∙ two_digits_35)

  -- the bytes before it
  pub front_bytes : (i : ℕ) (s : List ℕ) → spellings fs ≡ s → take (length (spellings (take i fs))) s ≡ spellings (take i fs)
  front_bytes i s e =
      ap (take (length (spellings (take i fs)))) (sym e ∙ ap spellings (sym (take-append-drop i fs)) ∙ spellings_append (take i fs) (drop i fs))
      ∙ take_at (spellings (take i fs)) (spellings (drop i fs)) (length (spellings (take i fs))) refl

  -- ---- 10

  abbrev pub last : List Field
  last = sum_field fs ∷ []

  more_left : (f : Field) (gs : List Field) → 0 < length gs → same_fields (f ∷ gs) last ≡ false
  more_left f [] h = absurd (omega arith)
  more_left f (g ∷ gs) h = and-false (f.tag == 10 && same f.value (sum_field fs).value)

  opened : (i : ℕ) → i < length fs → drop i fs ≡ slice_index_or fs i no_field ∷ drop (suc i) fs
  opened i h = drop-cons fs i no_field h

  pub sum_past : (i : ℕ) → length fs ≤ i → same_fields (drop i fs) last ≡ false
  sum_past i h = ap (λ (l : List Field). same_fields l last) (drop_of_length-le fs {i = i} h)

  pub sum_early : (i : ℕ) → suc i < length fs → same_fields (drop i fs) last ≡ false
  sum_early i h =
      ap (λ (l : List Field). same_fields l last) (opened i (omega arith))
      ∙ more_left (slice_index_or fs i no_field) (drop (suc i) fs) (omega (arith, length-drop (suc i) fs))

  sum_last : (i : ℕ) → suc i ≡ length fs → same_fields (drop i fs) last ≡ (tag_of fs i == 10 && same (value_at fs i) (sum_field fs).value)
  sum_last i h =
      ap (λ (l : List Field). same_fields l last) (opened i (omega arith) ∙ ap (λ (l : List Field). slice_index_or fs i no_field ∷ l) (drop_of_length-le fs {i = suc i} (omega arith)))
      ∙ and-true (tag_of fs i == 10 && same (value_at fs i) (sum_field fs).value)

  pub sum_here : (i : ℕ) (s : List ℕ) → spellings fs ≡ s → suc i ≡ length fs → tag_of fs i ≡ 10
      → same_fields (drop i fs) last ≡ same (value_at fs i) (sum_digits (take (place_of fs i - 3) s))
  sum_here i s e h t =
      let p : place_of fs i - 3 ≡ length (spellings (take i fs)) = omega (arith, place_10 i (omega arith) t) in
      let b : take (place_of fs i - 3) s ≡ spellings (take i fs) = ap (λ (n : ℕ). take n s) p ∙ front_bytes i s e in
      let n : length fs - 1 ≡ i = omega arith in
      let q : init fs ≡ take i fs = ap (λ (j : ℕ). take j fs) n in
      sum_last i h
      ∙ ap (λ (b : Bool). b && same (value_at fs i) (sum_field fs).value) (eq-eqb (tag_of fs i) 10 t)
      ∙ ap (λ (l : List ℕ). same (value_at fs i) (sum_digits l)) (ap spellings q ∙ sym b)

  pub sum_tag : (i : ℕ) → suc i ≡ length fs → (tag_of fs i ≢ 10) → same_fields (drop i fs) last ≡ false
  sum_tag i h t = sum_last i h ∙ ap (λ (b : Bool). b && same (value_at fs i) (sum_field fs).value) (ne_eqb (tag_of fs i) 10 t)

  pub sum_elsewhere : (i : ℕ) → (suc i ≢ length fs) → same_fields (drop i fs) last ≡ false
  sum_elsewhere i h = go (dec_lt i (length fs))
    where
      go : Dec (i < length fs) → same_fields (drop i fs) last ≡ false
      go (yes l) = sum_early i (omega arith)
      go (no l) = sum_past i (omega arith)

  -- ---- 60

  module _ (k : ℕ) (time : List ℕ) where
    pub stamp_none : k < 18 → stamp k time last ≡ last
    stamp_none h = if_false (nat_le 18 k) (field 60 time ∷ last) last (lt-leb 18 k h)

    stamp_some : 18 ≤ k → stamp k time last ≡ field 60 time ∷ last
    stamp_some h = if_true (nat_le 18 k) (field 60 time ∷ last) last (le-leb 18 k h)

    pub stamp_past : 18 ≤ k → (i : ℕ) → length fs ≤ i → same_fields (drop i fs) (stamp k time last) ≡ false
    stamp_past h i l = (λ j. same_fields (drop_of_length-le fs {i = i} l j) (stamp_some h j))

    pub stamp_here : 18 ≤ k → (i : ℕ) → i < length fs
        → same_fields (drop i fs) (stamp k time last) ≡ ((tag_of fs i == 60 && same (value_at fs i) time) && same_fields (drop (i + 1) fs) last)
    stamp_here h i l =
        (λ j. same_fields (opened i l j) (stamp_some h j))
        ∙ ap (λ (n : ℕ). (tag_of fs i == 60 && same (value_at fs i) time) && same_fields (drop n fs) last) (sym (add-one i))

    -- then 10 is the last
    pub last_tag : (i : ℕ) → same_fields (drop i fs) (stamp k time last) ≡ true → tag_of fs (length fs - 1) ≡ 10
    last_tag i e = go (dec_lt k 18)
      where
        d : drop i fs ≡ stamp k time last
        d = same_fields_lem (drop i fs) (stamp k time last) e

        at : (j : ℕ) → slice_index_or fs (i + j) no_field ≡ slice_index_or (drop i fs) j no_field
        at j = sym (get_or-drop i fs j no_field)

        go : Dec (k < 18) → tag_of fs (length fs - 1) ≡ 10
        go (yes h) =
            let q = d ∙ stamp_none h in
            let n : length fs - 1 ≡ i + 0 = omega (arith, ap length q, length-drop i fs) in
            ap (tag_of fs) n ∙ ap (λ (f : Field). f.tag) (at 0) ∙ ap (λ (l : List Field). (get_or l 0 no_field).tag) q
        go (no h) =
            let q = d ∙ stamp_some (omega arith) in
            let n : length fs - 1 ≡ i + 1 = omega (arith, ap length q, length-drop i fs) in
            ap (tag_of fs) n ∙ ap (λ (f : Field). f.tag) (at 1) ∙ ap (λ (l : List Field). (get_or l 1 no_field).tag) q

  -- ---- 9

  tag_in : (i t : ℕ) → 0 < t → tag_of fs i ≡ t → i < length fs
  tag_in i t p e = go (dec_lt i (length fs))
    where
      go : Dec (i < length fs) → i < length fs
      go (yes h) = h
      go (no h) = absurd (omega (arith, ap (λ (f : Field). f.tag) (get_or-eq_default fs no_field {n = i} (omega arith))))

  module _ (n : ℕ) (count : length fs ≡ n) (t2 : tag_of fs 2 ≡ 35) (tn : tag_of fs (n - 1) ≡ 10) where
    pub three_more : 3 < n
    three_more = go (dec_lt 3 n)
      where
        go : Dec (3 < n) → 3 < n
        go (yes h) = h
        go (no h) =
            let a = tag_in 2 35 (omega arith) t2 in
            let z : n - 1 ≡ 2 = omega arith in
            absurd (omega (arith, ap (tag_of fs) z))

    pub length_between : place_of fs (n - 1) - place_of fs 2 ≡ length (spellings (drop 2 (init fs)))
    length_between =
        let z : length fs - 1 ≡ n - 1 = omega arith in
        let i : init fs ≡ take (n - 1) fs = ap (λ (j : ℕ). take j fs) z in
        let w : init fs ≡ take 2 fs ++ drop 2 (init fs) =
        sym (take-append-drop 2 (init fs)) ∙ ap (λ (l : List Field). l ++ drop 2 (init fs)) (take-take 2 (length fs - 1) fs (omega (arith, three_more))) in
        omega (
          arith,
          three_more,
          place_10 (n - 1) (omega (arith, three_more)) tn,
          place_35 2 (omega (arith, three_more)) t2,
          ap (λ (l : List Field). length (spellings l)) (sym i ∙ w) ∙ ap length (spellings_append (take 2 fs) (drop 2 (init fs))) ∙ length-append (spellings (take 2 fs)) (spellings (drop 2 (init fs))),
        )

    pub places_order : place_of fs 2 ≤ place_of fs (n - 1)
    places_order =
        let z : length fs - 1 ≡ n - 1 = omega arith in
        let i : init fs ≡ take (n - 1) fs = ap (λ (j : ℕ). take j fs) z in
        let w : init fs ≡ take 2 fs ++ drop 2 (init fs) =
        sym (take-append-drop 2 (init fs)) ∙ ap (λ (l : List Field). l ++ drop 2 (init fs)) (take-take 2 (length fs - 1) fs (omega (arith, three_more))) in
        omega (
          arith,
          three_more,
          place_10 (n - 1) (omega (arith, three_more)) tn,
          place_35 2 (omega (arith, three_more)) t2,
          ap (λ (l : List Field). length (spellings l)) (sym i ∙ w) ∙ ap length (spellings_append (take 2 fs) (drop 2 (init fs))) ∙ length-append (spellings (take 2 fs)) (spellings (drop 2 (init fs))),
        )

pub same_turned : (v w : List ℕ) → same v w ≡ same w v
same_turned [] [] = refl
same_turned [] (y ∷ w) = refl
same_turned (x ∷ v) [] = refl
same_turned (x ∷ v) (y ∷ w) = (λ i. turned x y i && same_turned v w i)
  where
    turned : (x y : ℕ) → (x == y) ≡ (y == x)
    turned x y = go (ℕ_discrete x y)
      where
        go : Dec (x ≡ y) → (x == y) ≡ (y == x)
        go (yes e) = eq-eqb x y e ∙ sym (eq-eqb y x (sym e))
        go (no e) = ne_eqb x y e ∙ sym (ne_eqb y x (λ q. e (sym q)))
