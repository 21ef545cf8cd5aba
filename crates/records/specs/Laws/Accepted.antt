-- Only writings are accepted: bytes that are a record are the writing of the record that is read, and that record is right.
-- Rests on Right, Reading and Back.
use Rattle.std.specs.Prelude.{ℕ, suc, ◌+◌, ◌-◌, ◌≤◌, ◌<◌, min, ◌≡◌, Bool, ◌&&◌, ◌||◌, leb, ltb, take, drop, replicate, refl, List, [], ◌∷◌, ◌++◌, true, false, eqb, length, get_or}
use Rattle.std.proofs.Common.{sym, ap, ◌∙◌, ⊎_elim, lit<, length-append, length-take, take-append-drop, take-take, get_or-take, get_or-append-add, append-nil, add-one, arith, eqb-true, leb-true, eq-eqb, ne_eqb, le-leb, lt-ltb, le-ltb, length-drop, take_all}
use Rattle.std.proofs.Math.Decide.{dec_lt, dec_le, ℕ_discrete}
use Rattle.std.proofs.Math.Nat.{min-eq_left}
use Rattle.std.proofs.lemmas.Bool.{and_parts, and_from, or_cases}
use Rattle.std.proofs.lemmas.List.{length-replicate, get_or-replicate, take-append-le}
use Rattle.prelude.specs.Cases.{if◌then◌otherwise◌}
use Rattle.prelude.specs.Laws.Cases.{if_true, if_false, clash}
use Rattle.prelude.specs.Below.{all_below}
use Rattle.prelude.specs.Laws.Below.{all_elim, all_intro}
use Rattle.prelude.specs.Lists.{list_below}
use Rattle.prelude.specs.Laws.Lists.{get_list}
use Rattle.prelude.specs.Span.{span}
use Rattle.prelude.specs.Laws.Span.{span_cons, length_span, span_join}
use Rattle.prelude.specs.Number.{number, bytes_of, bound, Bytes}
use Rattle.prelude.specs.Laws.Number.{bytes_number, number_bound, word32_number}
use Rattle.prelude.specs.Texts.{text_of}
use Rattle.prelude.specs.Laws.Texts.{long_text, contents_text, is_text_lem}
use Rattle.prelude.specs.Laws.Bytes.{bytes_span, bytes_take, bytes_drop}
use Rattle.bits.specs.Map.{bit}
use Rattle.format.specs.Format.{size, range, fields, is_text_bit, in_range}
use Rattle.format.specs.Places.{extent, start, strip, part, content, value, kind_at, map_at, end_of, shaped, right_at}
use Rattle.format.specs.Laws.Places.{start_up, start_on, part_off, length_part, content_off, length_number, value_none}
use Rattle.format.specs.Wire.{encode, field_bytes, bytes}
use Rattle.format.specs.Laws.Trip.{body_part}
use Rattle.records.specs.Fields.{numbers_of, high_of, text_by, short_bytes, long_bytes, long_of, spelled, words, held_by, held, record_of}
use Rattle.records.specs.Record.{record_bytes, record_at, field_right, is_short, is_long, texts_right, price_right, is_record, is_event, is_message, event_in, message_of}
use Rattle.format.specs.Refusal.{ranged, event_refusal, message_shaped, message_refusal}
use Rattle.records.specs.Laws.Reading.{within_most, text_short, number_narrow, bytes_content, in_field, Whole, whole_of}
use Rattle.records.specs.Laws.Back.{text_bits}

-- ---- texts and numbers

short_text : (l : List ℕ) → length l ≤ 32 → short_bytes (text_of l) ≡ l
unfolding short_bytes
short_text l h = ap (take 32) (contents_text l h) ∙ take_all 32 l h

right_short : (l : List ℕ) → length l ≤ 32 → is_short (text_of l) ≡ true
unfolding is_short
right_short l h = and_from _ _ (eq-eqb _ _ (long_text l h)) (is_text_lem l h)

long_text64 : (l : List ℕ) → length l ≤ 64 → long_bytes (long_of l) ≡ l
unfolding long_bytes long_of
long_text64 l h =
    ap (take 64) (take-take (length l) 64 (l ++ replicate 64 0) h ∙ take-append-le (length l) l (replicate 64 0) (omega arith) ∙ take_all (length l) l (omega arith))
    ∙ take_all 64 l h

right_long64 : (l : List ℕ) → length l ≤ 64 → is_long (long_of l) ≡ true
unfolding is_long long_of
right_long64 l h =
    and_from _ _ (eq-eqb (length (take 64 (l ++ replicate 64 0))) 64 (simp (length-take, length-append, length-replicate) (omega arith)))
    (and_from _ _ (le-leb (length l) 64 h) (all_intro (λ k. ltb k (length l) || eqb (get_or (take 64 (l ++ replicate 64 0)) k 0) 0) 64 (λ k u. at k u (dec_lt k (length l)))))
  where
    at : (k : ℕ) → k < 64 → Dec (k < length l) → (ltb k (length l) || eqb (get_or (take 64 (l ++ replicate 64 0)) k 0) 0) ≡ true
    at k u (yes p) = rw (lt-ltb k (length l) p) refl
    at k u (no p) =
        let d : ℕ = k - length l in
        let e : k ≡ length l + d = omega arith in
        let z : get_or (take 64 (l ++ replicate 64 0)) k 0 ≡ 0 =
        get_or-take 64 (l ++ replicate 64 0) k 0 u
        ∙ ap (λ (i : ℕ). get_or (l ++ replicate 64 0) i 0) e
        ∙ get_or-append-add l (replicate 64 0) d 0
        ∙ get_or-replicate 64 d 0 0 (omega arith) in
        rw (le-ltb k (length l) (omega arith)) (eq-eqb _ 0 z)

no_bytes : (l : List ℕ) → length l ≡ 0 → l ≡ []
no_bytes [] e = refl
no_bytes (x ∷ l) e = absurd (omega arith)

-- the bytes of a number are those that it was read from
words_one : (n high : ℕ) (c : List ℕ) → length c ≡ n → Bytes c → n ≤ 8 → words n (number (take 8 c)) high ≡ c
unfolding words
words_one n high c e w h =
    let z : n - 8 ≡ 0 = omega arith in
    rw (z, min-eq_left h, take_all 8 c (omega arith)) (append-nil (bytes_of n (number c)) ∙ (rw e at (bytes_number c w)))

words_two : (c : List ℕ) → length c ≡ 16 → Bytes c → words 16 (number (take 8 c)) (number (drop 8 c)) ≡ c
unfolding words
words_two c e w =
    let a : length (take 8 c) ≡ 8 = length-take 8 c ∙ omega arith in
    let b : length (drop 8 c) ≡ 8 = length-drop 8 c ∙ omega arith in
    let x : bytes_of 8 (number (take 8 c)) ≡ take 8 c = rw a at (bytes_number (take 8 c) (bytes_take c 8 w)) in
    let y : bytes_of 8 (number (drop 8 c)) ≡ drop 8 c = rw b at (bytes_number (drop 8 c) (bytes_drop c 8 w)) in
    (λ i. x i ++ y i) ∙ take-append-drop 8 c

sixteen : size 26 ≡ 16
unfolding size fields
sixteen = refl

-- only the fill price has more than one word
big_size : (b : ℕ) → b < 32 → is_text_bit b ≡ false → 8 < size b → b ≡ 26
unfolding size fields all_below
big_size b h t l =
    let all : (leb (size b) 8 || (is_text_bit b || eqb b 26)) ≡ true = all_elim (λ k. leb (size k) 8 || (is_text_bit k || eqb k 26)) 32 refl b h in
    ⊎_elim
    (λ p. absurd (omega (arith, leb-true (size b) 8 p)))
    (λ p. ⊎_elim (λ q. clash (is_text_bit b) q t) (λ q. eqb-true b 26 q) (or_cases (is_text_bit b) (eqb b 26) p))
    (or_cases (leb (size b) 8) (is_text_bit b || eqb b 26) all)

-- ---- the numbers of a record that was read

numbers_list : (k m : ℕ) (f : ℕ → List ℕ) → numbers_of (record_of k m f) ≡ list_below (λ b. if eqb (size b) 0 then 0 otherwise value b (f b)) 32
unfolding list_below value text_of long_of size fields if◌then◌otherwise◌
numbers_list k m f = refl

module _ (s : List ℕ) (o : ℕ) (w : Bytes s) (shape : shaped s o ≡ true) (right : ranged s o ≡ true) where
  abbrev m : ℕ
  m = map_at s o

  abbrev f : ℕ → List ℕ
  f = content s o m

  whole : Whole s o
  whole = whole_of s o shape

  inside : start s o m 32 ≤ length s
  inside = whole.inside

  all_right : all_below (right_at s o m) 32 ≡ true
  unfolding ranged
  all_right = (and_parts (all_below (right_at s o m) 32) _ right).0

  in_range_lem : (b : ℕ) → b < 32 → bit m b ≡ true → in_range (range b) (value b (f b)) ≡ true
  unfolding right_at
  in_range_lem b h e = sym (if_true (bit m b) (in_range (range b) (value b (f b))) true e) ∙ all_elim (right_at s o m) 32 all_right b h

  pub number_read : (b : ℕ) → b < 32 → get_or (numbers_of (record_at s o)) b 0 ≡ value b (f b)
  unfolding record_at
  number_read b h =
      ap (λ (l : List ℕ). get_or l b 0) (numbers_list (kind_at s o) m f)
      ∙ get_list (λ k. if eqb (size k) 0 then 0 otherwise value k (f k)) 0 32 b h
      ∙ go (ℕ_discrete (size b) 0)
    where
      go : Dec (size b ≡ 0) → (if eqb (size b) 0 then 0 otherwise value b (f b)) ≡ value b (f b)
      go (no n) = if_false (eqb (size b) 0) 0 (value b (f b)) (ne_eqb (size b) 0 n)
      go (yes z) = if_true (eqb (size b) 0) 0 (value b (f b)) (eq-eqb (size b) 0 z) ∙ sym (ap (value b) (none (bit m b) refl) ∙ value_none b)
        where
          none : (x : Bool) → bit m b ≡ x → f b ≡ []
          none true e =
              no_bytes (f b)
              (length_number s o m b (in_field s o m inside b h) e (ne_eqb (size b) 255 (λ q. absurd (omega arith))) ∙ z)
          none false e = content_off s o m b e

  -- a text has room
  text_room : (b : ℕ) → b < 32 → is_text_bit b ≡ true → length (f b) ≤ (if eqb b 20 then 64 otherwise 32)
  unfolding content strip size range fields in_range if◌then◌otherwise◌
  text_room =
      text_bits (λ b. length (f b) ≤ (if eqb b 20 then 64 otherwise 32))
      (t 2 32 (lit< tt) refl (λ v e. omega (arith, within_most 1 20 v e)))
      (t 3 32 (lit< tt) refl (λ v e. within_most 1 32 v e))
      (t 4 32 (lit< tt) refl (λ v e. within_most 1 32 v e))
      (t 5 32 (lit< tt) refl (λ v e. within_most 1 32 v e))
      (t 6 32 (lit< tt) refl (λ v e. omega (arith, within_most 1 16 v e)))
      (t 18 32 (lit< tt) refl (λ v e. leb-true v 32 e))
      (t 20 64 (lit< tt) refl (λ v e. within_most 1 64 v e))
      (t 30 32 (lit< tt) refl (λ v e. within_most 1 32 v e))
    where
      t : (b most : ℕ) → b < 32 → is_text_bit b ≡ true → ((v : ℕ) → in_range (range b) v ≡ true → v ≤ most) → length (f b) ≤ most
      t b most h q r =
          let u = text_short s o m inside b most h q r (all_elim (right_at s o m) 32 all_right b h) in
          let l : length (part s o m b) ≡ start s o m (suc b) - start s o m b = length_part s o m b (in_field s o m inside b h) in
          let d : length (drop 1 (part s o m b)) ≡ length (part s o m b) - 1 = length-drop 1 (part s o m b) in
          rw q (omega arith)

  -- what a text of the record says is what stands there
  spelled_read : (b : ℕ) → b < 32 → is_text_bit b ≡ true → spelled (record_at s o).ids (record_at s o).text b ≡ f b
  unfolding record_at spelled text_by size fields if◌then◌otherwise◌
  spelled_read =
      text_bits (λ b. spelled (record_at s o).ids (record_at s o).text b ≡ f b)
      (short_text (f 2) (text_room 2 (lit< tt) refl))
      (short_text (f 3) (text_room 3 (lit< tt) refl))
      (short_text (f 4) (text_room 4 (lit< tt) refl))
      (short_text (f 5) (text_room 5 (lit< tt) refl))
      (short_text (f 6) (text_room 6 (lit< tt) refl))
      (short_text (f 18) (text_room 18 (lit< tt) refl))
      (long_text64 (f 20) (text_room 20 (lit< tt) refl))
      (short_text (f 30) (text_room 30 (lit< tt) refl))

  -- a text's bytes are its length and what it holds
  module _ (b : ℕ) (h : b < 32) (e : bit m b ≡ true) (t : is_text_bit b ≡ true) where
    first : ℕ
    first = get_or s (start s o m b) 0

    next_is : start s o m (suc b) ≡ start s o m b + (1 + first)
    unfolding extent first
    next_is = start_on s o m b e ∙ ap (λ (n : ℕ). start s o m b + n) (if_true (is_text_bit b) (1 + get_or s (start s o m b) 0) (size b) t)

    part_is : part s o m b ≡ first ∷ span s (suc (start s o m b)) first
    unfolding part first
    part_is =
        let n : start s o m (suc b) - start s o m b ≡ suc (get_or s (start s o m b) 0) = omega (arith, next_is) in
        rw n (span_cons s (start s o m b) (get_or s (start s o m b) 0) (omega (arith, next_is, in_field s o m inside b h)))

    content_is : f b ≡ span s (suc (start s o m b)) first
    unfolding content strip
    content_is = if_true (is_text_bit b) (drop 1 (part s o m b)) (part s o m b) t ∙ ap (drop 1) part_is

    content_length : length (f b) ≡ first
    unfolding first
    content_length =
        ap length content_is
        ∙ length_span s (suc (start s o m b)) (get_or s (start s o m b) 0) (omega (arith, next_is, in_field s o m inside b h))

    pub part_text : part s o m b ≡ length (f b) ∷ f b
    part_text = part_is ∙ (λ i. sym content_length i ∷ sym content_is i)

    length_small : length (f b) < 256
    unfolding first
    length_small = rw content_length (w (start s o m b))

  -- a number's bytes are those of the record's number
  words_read : (b : ℕ) → b < 32 → bit m b ≡ true → is_text_bit b ≡ false → words (size b) (get_or (numbers_of (record_at s o)) b 0) (high_of (record_at s o)) ≡ f b
  unfolding record_at value
  words_read b h e t = rw (number_read b h, if_false (is_text_bit b) (length (f b)) (number (take 8 (f b))) t) (go (dec_le (size b) 8))
    where
      long : length (f b) ≡ size b
      long = length_number s o m b (in_field s o m inside b h) e t

      go : Dec (size b ≤ 8) → words (size b) (number (take 8 (f b))) (number (drop 8 (f 26))) ≡ f b
      go (yes p) = words_one (size b) (number (drop 8 (f 26))) (f b) long (bytes_content s o m inside b t w) p
      go (no p) =
          let q : b ≡ 26 = big_size b h t (omega arith) in
          let l : length (f 26) ≡ 16 = (rw q at long) ∙ sixteen in
          rw (q, sixteen) (words_two (f 26) l (rw q at (bytes_content s o m inside b t w)))

  -- each field, written again, is what stands there
  field_read : (b : ℕ) → b < 32 → field_bytes m (held (record_at s o)) b ≡ part s o m b
  unfolding field_bytes encode held_by content strip
  field_read b h = go (bit m b) refl (is_text_bit b) refl
    where
      go : (x : Bool) → bit m b ≡ x → (y : Bool) → is_text_bit b ≡ y → field_bytes m (held (record_at s o)) b ≡ part s o m b
      go false e y t = if_false (bit m b) _ _ e ∙ sym (part_off s o m b e)
      go true e true t =
          if_true (bit m b) _ _ e
          ∙ if_true (is_text_bit b) _ _ t
          ∙ (rw (if_true (is_text_bit b) (spelled (record_at s o).ids (record_at s o).text b) _ t, spelled_read b h t) (sym (part_text b h e t)))
      go true e false t =
          if_true (bit m b) _ _ e
          ∙ if_false (is_text_bit b) _ _ t
          ∙ if_false (is_text_bit b) _ _ t
          ∙ words_read b h e t
          ∙ if_false (is_text_bit b) _ _ t

  -- the bytes are the writing of the record that is read
  pub writing : record_bytes (record_at s o) ≡ span s o (end_of s o - o)
  unfolding record_bytes record_at bytes end_of start
  writing =
      let p : o + 5 ≤ start s o m 32 = start_up s o m 0 32 (omega arith) in
      let b = body_part s o m (held (record_at s o)) 32 field_read in
      let n : 5 + (start s o m 32 - (o + 5)) ≡ start s o m 32 - o = omega arith in
      rw b (ap (λ (l : List ℕ). l ++ span s (o + 5) (start s o m 32 - (o + 5))) head ∙ span_join s o 5 (start s o m 32 - (o + 5)) ∙ ap (span s o) n)
    where
      head : kind_at s o ∷ bytes_of 4 m ≡ span s o 5
      head =
          let l : o + 5 ≤ length s = whole.long in
          let e : o + 1 ≡ suc o = add-one o in
          let x : length (span s (o + 1) 4) ≡ 4 = length_span s (o + 1) 4 (omega arith) in
          let y : bytes_of 4 (number (span s (o + 1) 4)) ≡ span s (o + 1) 4 = rw x at (bytes_number (span s (o + 1) 4) (bytes_span s (o + 1) 4 w)) in
          rw (word32_number s (o + 1) (omega arith), y, e) (sym (span_cons s o 4 (omega arith)))

  -- the record that is read is right
  fields_right : (b : ℕ) → b < 32 → field_right (record_at s o) b ≡ true
  unfolding record_at value
  fields_right b h = go (bit m b) refl (is_text_bit b) refl
    where
      v : ℕ
      v = get_or (numbers_of (record_at s o)) b 0

      go : (x : Bool) → bit m b ≡ x → (y : Bool) → is_text_bit b ≡ y → field_right (record_at s o) b ≡ true
      go false e y t =
          if_false (bit m b) _ _ e ∙ eq-eqb v 0 (number_read b h ∙ ap (value b) (content_off s o m b e) ∙ value_none b)
      go true e true t =
          let z : size b ≡ 255 = eqb-true (size b) 255 t in
          let l : value b (f b) ≡ length (f b) = if_true (is_text_bit b) (length (f b)) (number (take 8 (f b))) t in
          if_true (bit m b) _ _ e
          ∙ and_from _ _ (ap (in_range (range b)) (number_read b h) ∙ in_range_lem b h e)
          (lt-ltb v (bound (min (size b) 8)) (rw (number_read b h, l, z) (omega (arith, length_small b h e t))))
      go true e false t =
          if_true (bit m b) _ _ e
          ∙ and_from _ _ (ap (in_range (range b)) (number_read b h) ∙ in_range_lem b h e)
          (lt-ltb v (bound (min (size b) 8)) (rw (number_read b h) (number_narrow s o m inside b h t w)))

  texts_right_lem : texts_right (record_at s o) ≡ true
  unfolding texts_right record_at size fields if◌then◌otherwise◌
  texts_right_lem =
      and_from _ _ (right_short (f 2) (text_room 2 (lit< tt) refl))
      (and_from _ _ (right_short (f 3) (text_room 3 (lit< tt) refl))
      (and_from _ _ (right_short (f 4) (text_room 4 (lit< tt) refl))
      (and_from _ _ (right_short (f 5) (text_room 5 (lit< tt) refl))
      (and_from _ _ (right_short (f 6) (text_room 6 (lit< tt) refl))
      (and_from _ _ (right_short (f 18) (text_room 18 (lit< tt) refl))
      (and_from _ _ (right_short (f 30) (text_room 30 (lit< tt) refl)) (right_long64 (f 20) (text_room 20 (lit< tt) refl))))))))

  price_right_lem : price_right (record_at s o) ≡ true
  unfolding price_right record_at size fields
  price_right_lem = go (bit m 26) refl
    where
      go : (x : Bool) → bit m 26 ≡ x → price_right (record_at s o) ≡ true
      go true e =
          let c : List ℕ = f 26 in
          let l : length c ≡ 16 = length_number s o m 26 (in_field s o m inside 26 (lit< tt)) e refl in
          let d : length (drop 8 c) ≡ 8 = length-drop 8 c ∙ omega arith in
          if_true (bit m 26) _ _ e
          ∙ lt-ltb (number (drop 8 c)) (bound 8) (rw d at (number_bound (drop 8 c) (bytes_drop c 8 (bytes_content s o m inside 26 refl w))))
      go false e =
          if_false (bit m 26) _ _ e
          ∙ eq-eqb (number (drop 8 (f 26))) 0 (ap (λ (l : List ℕ). number (drop 8 l)) (content_off s o m 26 e))

  pub record_right : is_record (record_at s o) ≡ true
  unfolding is_record record_at ranged
  record_right =
      let x : length (span s (o + 1) 4) ≡ 4 = length_span s (o + 1) 4 (omega (arith, whole.long)) in
      let y : m < bound 4 = rw (word32_number s (o + 1) (omega (arith, whole.long))) (rw x at (number_bound (span s (o + 1) 4) (bytes_span s (o + 1) 4 w))) in
      and_from _ _ whole.right
      (and_from _ _ (lt-ltb m (bound 4) y)
      (and_from _ _ (all_intro (field_right (record_at s o)) 32 fields_right)
      (and_from _ _ (and_parts (all_below (right_at s o m) 32) _ right).1 (and_from _ _ texts_right_lem price_right_lem))))

-- ---- messages and events

split_refusal : (x y : Bool) → ◌≡◌ {A = ℕ} (if x then (if y then 0 otherwise 4) otherwise 3) 0 → (x ≡ true) × (y ≡ true)
unfolding if◌then◌otherwise◌
split_refusal true true e = (refl, refl)
split_refusal true false e = absurd (omega arith)
split_refusal false y e = absurd (omega arith)

module _ (s : List ℕ) (o : ℕ) (w : Bytes s) (ok : message_refusal s o ≡ 0) where
  accepted : (message_shaped s o ≡ true) × (ranged s o ≡ true)
  unfolding message_refusal
  accepted = split_refusal (message_shaped s o) (ranged s o) ok

  message_is : message_of s o ≡ record_at s o
  unfolding message_of
  message_is = if_true (eqb (message_refusal s o) 0) _ _ (eq-eqb _ 0 ok)

  -- a message that is accepted passes the test of messages, and its bytes are its writing
  pub message_right : is_message (message_of s o) ≡ true
  unfolding is_message message_shaped record_at
  message_right =
      let p = and_parts (shaped s o) _ accepted.0 in
      ap is_message message_is ∙ and_from _ _ (record_right s o w p.0 accepted.1) p.1

  pub message_writing : record_bytes (message_of s o) ≡ span s o (end_of s o - o)
  unfolding message_shaped
  message_writing =
      ap record_bytes message_is ∙ writing s o w (and_parts (shaped s o) _ accepted.0).0 accepted.1

module _ (s : List ℕ) (w : Bytes s) (ok : event_refusal s ≡ 0) where
  taken : (shaped s 0 && (leb (kind_at s 0) 9 && eqb (end_of s 0) (length s)) ≡ true) × (ranged s 0 ≡ true)
  unfolding event_refusal
  taken = split_refusal _ (ranged s 0) ok

  event_is : event_in s ≡ record_at s 0
  unfolding event_in
  event_is = if_true (eqb (event_refusal s) 0) _ _ (eq-eqb _ 0 ok)

  -- an event that is taken passes the test of events, and the whole slice is its writing
  pub event_right : is_event (event_in s) ≡ true
  unfolding is_event record_at
  event_right =
      let p = and_parts (shaped s 0) _ taken.0 in
      let q = and_parts (leb (kind_at s 0) 9) _ p.1 in
      ap is_event event_is ∙ and_from _ _ (record_right s 0 w p.0 taken.1) q.0

  pub event_writing : record_bytes (event_in s) ≡ s
  unfolding span
  event_writing =
      let p = and_parts (shaped s 0) _ taken.0 in
      let q = and_parts (leb (kind_at s 0) 9) _ p.1 in
      let e : end_of s 0 ≡ length s = eqb-true _ _ q.1 in
      let n : end_of s 0 - 0 ≡ length s = omega arith in
      ap record_bytes event_is ∙ writing s 0 w p.0 taken.1 ∙ ap (span s 0) n ∙ take_all (length s) s (omega arith)
