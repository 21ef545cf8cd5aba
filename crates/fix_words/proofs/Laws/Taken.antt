-- A record that the writer takes is a writing. Rests on Record and records' reading.
use Rattle.std.proofs.Common.{ℕ, suc, ◌+◌, ◌-◌, ◌≤◌, ◌<◌, ◌≡◌, Bool, not, ◌&&◌, ◌||◌, ◌⊎◌, leb, ltb, length, get_or, replicate, None, Some, refl, sym, ap, ◌∙◌, inl, inr, ⊎_elim, arith, lit<, get_or-take, List, [], ◌∷◌, ◌++◌, true, false, eqb-true, eq-eqb, ne_eqb, leb-true, lt-ltb, eqb}
use Rattle.std.proofs.Math.Decide.{ℕ_discrete}
use Rattle.std.proofs.Math.ListN.{get_or-append}
use Rattle.std.proofs.lemmas.Bool.{not-true, and_parts, and_from, or_cases}
use Rattle.std.specs.Option.{is_some}
use Rattle.std.specs.Cmp.{both_ways}
use Rattle.prelude.specs.Texts.{text_of}
use Rattle.prelude.specs.Cases.{if◌then◌otherwise◌}
use Rattle.prelude.specs.Laws.Cases.{split_if, if_true, if_false, clash}
use Rattle.prelude.specs.Below.{all_below}
use Rattle.prelude.specs.Laws.Below.{all_elim, all_intro}
use Rattle.prelude.specs.Number.{Bytes}
use Rattle.prelude.specs.Laws.Bytes.{bytes_span, bytes_drop}
use Rattle.bits.specs.Map.{digit, bit, contains}
use Rattle.format.specs.Codes.{within, is_name, is_none, is_alnum, alnum_at}
use Rattle.format.specs.Format.{size, range, is_text_bit, in_range, is_kind, required, allowed, required_bits, allowed_bits, joined, bits_right}
use Rattle.format.specs.Places.{start, strip, part, content, value, kind_at, map_at, end_of, right_at, shaped as formShaped}
use Rattle.bits.specs.Laws.Map.{contains_bit, digit_two, two}
use Rattle.records.specs.Parts.{whole_message}
use Rattle.format.specs.Refusal.{message_shaped, ranged as recordRanged, name_in}
use Rattle.format.specs.Laws.Places.{length_number}
use Rattle.records.specs.Laws.Reading.{Whole, whole_of, in_field}
use Rattle.fix_words.specs.Lists.{every, same}
use Rattle.fix_words.specs.Rows.{Values}
use Rattle.fix_words.specs.Values.{none_text}
use Rattle.fix_words.specs.Message.{is_name_of, bytes_for, shape_at, range_at, paired, shaped, ranged, texted, typed, is_writing}
use Rattle.fix_words.proofs.Laws.Kinds.{by_kind_lem}
use Rattle.fix_words.specs.Laws.Lists.{below_every, every_below, same_true}
use Rattle.fix_words.specs.Record.{field_at, Session, writing_of, write_refusal, session_typed}

-- ---- a record that is whole is shaped

-- the bits of the required and the allowed together
either_bit : (k : ℕ) → within 16 20 k ≡ true → (b : ℕ) → b < 32 → (not (bit (required k + allowed k) b) || (bit (required k) b || bit (allowed k) b)) ≡ true
unfolding required required_bits allowed allowed_bits all_below
either_bit =
    by_kind_lem (λ k. (b : ℕ) → b < 32 → test k b ≡ true) (all_elim (test 16) 32 refl) (all_elim (test 17) 32 refl) (all_elim (test 18) 32 refl)
    (all_elim (test 19) 32 refl) (all_elim (test 20) 32 refl)
  where
    test : ℕ → ℕ → Bool
    test k b = not (bit (required k + allowed k) b) || (bit (required k) b || bit (allowed k) b)

pub message_kind : (k : ℕ) → is_kind k ≡ true → leb 16 k ≡ true → within 16 20 k ≡ true
unfolding is_kind
message_kind k e h =
    ⊎_elim (λ p. absurd (omega (arith, leb-true 16 k h, leb-true k 9 (and_parts (leb 1 k) (leb k 9) p).1))) (λ p. p) (or_cases (within 1 9 k) (within 16 20 k) e)

bytes_every : (c : List ℕ) → Bytes c → every (λ x. ltb x 256) c ≡ true
bytes_every [] h = refl
bytes_every (x ∷ c) h = and_from _ _ (lt-ltb x 256 (h 0)) (bytes_every c (λ k. h (suc k)))

some_bit : (x : Bool) (c : List ℕ) → is_some (if x then Some c otherwise None) ≡ x
unfolding if◌then◌otherwise◌
some_bit true c = refl
some_bit false c = refl

-- ---- what stands together, by the digits of the map and by what stands

together : (x y : ℕ) → x < 2 → y < 2 → (if eqb x 1 then eqb y 1 otherwise not (eqb y 1)) ≡ eqb x y
unfolding if◌then◌otherwise◌
together x y h l = go (two x h) (two y l)
  where
    go : (x ≡ 0) ⊎ (x ≡ 1) → (y ≡ 0) ⊎ (y ≡ 1) → (if eqb x 1 then eqb y 1 otherwise not (eqb y 1)) ≡ eqb x y
    go (inl a) (inl b) = rw (a, b) refl
    go (inl a) (inr b) = rw (a, b) refl
    go (inr a) (inl b) = rw (a, b) refl
    go (inr a) (inr b) = rw (a, b) refl

at_most_one : (x y : ℕ) → x < 2 → y < 2 → not (eqb x 1 && eqb y 1) ≡ leb (x + y) 1
at_most_one x y h l = go (two x h) (two y l)
  where
    go : (x ≡ 0) ⊎ (x ≡ 1) → (y ≡ 0) ⊎ (y ≡ 1) → not (eqb x 1 && eqb y 1) ≡ leb (x + y) 1
    go (inl a) (inl b) = rw (a, b) refl
    go (inl a) (inr b) = rw (a, b) refl
    go (inr a) (inl b) = rw (a, b) refl
    go (inr a) (inr b) = rw (a, b) refl

exactly_one : (x y : ℕ) → x < 2 → y < 2 → (if eqb x 1 then not (eqb y 1) otherwise eqb y 1) ≡ eqb (x + y) 1
unfolding if◌then◌otherwise◌
exactly_one x y h l = go (two x h) (two y l)
  where
    go : (x ≡ 0) ⊎ (x ≡ 1) → (y ≡ 0) ⊎ (y ≡ 1) → (if eqb x 1 then not (eqb y 1) otherwise eqb y 1) ≡ eqb (x + y) 1
    go (inl a) (inl b) = rw (a, b) refl
    go (inl a) (inr b) = rw (a, b) refl
    go (inr a) (inl b) = rw (a, b) refl
    go (inr a) (inr b) = rw (a, b) refl

pub paired_joined : (at : Values) (m : ℕ) → ((b : ℕ) → b < 32 → is_some (at b) ≡ bit m b) → (k : ℕ) → within 16 20 k ≡ true → paired k at ≡ joined k m
unfolding paired joined if◌then◌otherwise◌
paired_joined at m h =
    by_kind_lem (λ k. paired k at ≡ joined k m)
    (rw (h 19 (lit< tt), h 28 (lit< tt), h 20 (lit< tt), h 27 (lit< tt))
    (λ i. together (digit m 19) (digit m 28) (digit_two m 19) (digit_two m 28) i && at_most_one (digit m 20) (digit m 27) (digit_two m 20) (digit_two m 27) i))
    (rw (h 20 (lit< tt), h 27 (lit< tt)) (exactly_one (digit m 20) (digit m 27) (digit_two m 20) (digit_two m 27)))
    refl refl refl

-- ---- names

text_byte : (c : List ℕ) (i : ℕ) → length c ≤ 32 → i < length c → get_or (text_of c).bytes i 0 ≡ get_or c i 0
unfolding text_of
text_byte c i h l = get_or-take 32 (c ++ replicate 32 0) i 0 (omega arith) ∙ get_or-append c (replicate 32 0) 0 i l

four_bytes : (c : List ℕ) → length c ≡ 4 → c ≡ get_or c 0 0 ∷ get_or c 1 0 ∷ get_or c 2 0 ∷ get_or c 3 0 ∷ []
four_bytes [] e = absurd (omega arith)
four_bytes (x ∷ []) e = absurd (omega arith)
four_bytes (x ∷ y ∷ []) e = absurd (omega arith)
four_bytes (x ∷ y ∷ z ∷ []) e = absurd (omega arith)
four_bytes (x ∷ y ∷ z ∷ w ∷ []) e = refl
four_bytes (x ∷ y ∷ z ∷ w ∷ v ∷ c) e = absurd (omega arith)

text_len : (c : List ℕ) → (text_of c).len ≡ length c
unfolding text_of
text_len c = refl

none_is : is_none (text_of none_text) ≡ true
unfolding is_none text_of
none_is = refl

none_same : (c : List ℕ) → is_none (text_of c) ≡ true → same c none_text ≡ true
unfolding is_none
none_same c e =
    let t = (text_of c).bytes in
    let p = and_parts (eqb (text_of c).len 4) (eqb (get_or t 0 0) 78 && (eqb (get_or t 1 0) 79 && (eqb (get_or t 2 0) 78 && eqb (get_or t 3 0) 69))) e in
    let q = and_parts (eqb (get_or t 0 0) 78) (eqb (get_or t 1 0) 79 && (eqb (get_or t 2 0) 78 && eqb (get_or t 3 0) 69)) p.1 in
    let r = and_parts (eqb (get_or t 1 0) 79) (eqb (get_or t 2 0) 78 && eqb (get_or t 3 0) 69) q.1 in
    let u = and_parts (eqb (get_or t 2 0) 78) (eqb (get_or t 3 0) 69) r.1 in
    let l : length c ≡ 4 = sym (text_len c) ∙ eqb-true (text_of c).len 4 p.0 in
    let g0 : get_or c 0 0 ≡ 78 = sym (text_byte c 0 (omega arith) (omega arith)) ∙ eqb-true (get_or t 0 0) 78 q.0 in
    let g1 : get_or c 1 0 ≡ 79 = sym (text_byte c 1 (omega arith) (omega arith)) ∙ eqb-true (get_or t 1 0) 79 r.0 in
    let g2 : get_or c 2 0 ≡ 78 = sym (text_byte c 2 (omega arith) (omega arith)) ∙ eqb-true (get_or t 2 0) 78 u.0 in
    let g3 : get_or c 3 0 ≡ 69 = sym (text_byte c 3 (omega arith) (omega arith)) ∙ eqb-true (get_or t 3 0) 69 u.1 in
    let z : c ≡ none_text = four_bytes c l ∙ (λ i. g0 i ∷ g1 i ∷ g2 i ∷ g3 i ∷ []) in
    ap (λ (c : List ℕ). same c none_text) z

is_none_lem : (c : List ℕ) → is_none (text_of c) ≡ same c none_text
is_none_lem c = both_ways (is_none (text_of c)) (same c none_text) (none_same c) (λ e. ap (λ (c : List ℕ). is_none (text_of c)) (same_true c none_text e) ∙ none_is)

name_of : (c : List ℕ) → is_name (text_of c) ≡ true → is_name_of c ≡ true
unfolding is_name
name_of c e =
    let p = and_parts (within 1 20 (text_of c).len) (all_below (alnum_at (text_of c)) (text_of c).len && not (is_none (text_of c))) e in
    let q = and_parts (all_below (alnum_at (text_of c)) (text_of c).len) (not (is_none (text_of c))) p.1 in
    let l = leb-true (text_of c).len 20 (and_parts (leb 1 (text_of c).len) (leb (text_of c).len 20) p.0).1 in
    and_from (every is_alnum c) (not (same c none_text))
    (below_every is_alnum c (λ i h. ap is_alnum (sym (text_byte c i (omega (arith, text_len c)) h)) ∙ all_elim (alnum_at (text_of c)) (text_of c).len q.0 i (omega (arith, text_len c))))
    (ap not (sym (is_none_lem c)) ∙ q.1)

pub name_is : (c : List ℕ) → within 1 20 (length c) ≡ true → is_name_of c ≡ true → is_name (text_of c) ≡ true
unfolding is_name
name_is c l e =
    let p = and_parts (every is_alnum c) (not (same c none_text)) e in
    let h = leb-true (length c) 20 (and_parts (leb 1 (length c)) (leb (length c) 20) l).1 in
    and_from (within 1 20 (text_of c).len) (all_below (alnum_at (text_of c)) (text_of c).len && not (is_none (text_of c)))
    (ap (within 1 20) (text_len c) ∙ l)
    (and_from (all_below (alnum_at (text_of c)) (text_of c).len) (not (is_none (text_of c)))
    (all_intro (alnum_at (text_of c)) (text_of c).len
    (λ i u. ap is_alnum (text_byte c i (omega arith) (omega (arith, text_len c))) ∙ every_below is_alnum c p.0 i (omega (arith, text_len c))))
    (ap not (is_none_lem c) ∙ p.1))

module _ (s : List ℕ) (w : Bytes s) (is : whole_message s ≡ true) where
  abbrev k : ℕ
  k = kind_at s 0

  abbrev m : ℕ
  m = map_at s 0

  halves : (message_shaped s 0 ≡ true) × (end_of s 0 ≡ length s)
  unfolding whole_message
  halves = let h = and_parts (message_shaped s 0) _ is in (h.0, eqb-true _ _ h.1)

  whole : Whole s 0
  unfolding message_shaped
  whole = whole_of s 0 (and_parts (formShaped s 0) (leb 16 k) halves.0).0

  bits : (is_kind k ≡ true) × ((contains m (required k) ≡ true) × ((contains (required k + allowed k) m ≡ true) × (joined k m ≡ true)))
  unfolding bits_right
  bits =
      let a = and_parts (is_kind k) _ whole.right in
      let b = and_parts (contains m (required k)) _ a.1 in
      (a.0, (b.0, and_parts (contains (required k + allowed k) m) (joined k m) b.1))

  kind : within 16 20 k ≡ true
  unfolding message_shaped
  kind = message_kind k bits.0 (and_parts (formShaped s 0) (leb 16 k) halves.0).1

  content_bytes : (b : ℕ) → Bytes (content s 0 m b)
  unfolding content strip part
  content_bytes b =
      split_if (λ (l : List ℕ). Bytes l) (is_text_bit b)
      (λ e. bytes_drop (part s 0 m b) 1 (bytes_span s (start s 0 m b) (start s 0 m (suc b) - start s 0 m b) w))
      (λ e. bytes_span s (start s 0 m b) (start s 0 m (suc b) - start s 0 m b) w)

  may_stand : (b : ℕ) → b < 32 → bit m b ≡ true → (bit (required k) b || bit (allowed k) b) ≡ true
  may_stand b h e =
      ⊎_elim (λ q. clash (bit (required k + allowed k) b) (contains_bit (required k + allowed k) m b bits.1.1.0 e) (not-true _ q)) (λ q. q)
      (or_cases (not (bit (required k + allowed k) b)) (bit (required k) b || bit (allowed k) b) (either_bit k kind b h))

  absent : (b : ℕ) → bit m b ≡ false → (y : Bool) → bit (required k) b ≡ y → not (bit (required k) b) ≡ true
  absent b e true q = clash (bit m b) (contains_bit m (required k) b bits.1.0 q) e
  absent b e false q = rw q refl

  shape_at_lem : (b : ℕ) → b < 32 → shape_at k b (field_at s b) ≡ true
  unfolding field_at
  shape_at_lem b h = go (bit m b) refl
    where
      long : bit m b ≡ true → (x : Bool) → is_text_bit b ≡ x → (is_text_bit b || eqb (length (content s 0 m b)) (size b)) ≡ true
      long e true t = rw t refl
      long e false t = rw t (eq-eqb _ _ (length_number s 0 m b (in_field s 0 m whole.inside b h) e t))

      fit : bit m b ≡ true → (every (λ x. ltb x 256) (content s 0 m b) && (is_text_bit b || eqb (length (content s 0 m b)) (size b))) ≡ true
      fit e = and_from (every (λ x. ltb x 256) (content s 0 m b)) (is_text_bit b || eqb (length (content s 0 m b)) (size b)) (bytes_every (content s 0 m b) (content_bytes b)) (long e (is_text_bit b) refl)

      go : (x : Bool) → bit m b ≡ x → shape_at k b (if bit m b then Some (content s 0 m b) otherwise None) ≡ true
      go true e =
          ap (shape_at k b) (if_true (bit m b) (Some (content s 0 m b)) None e)
          ∙ and_from (bit (required k) b || bit (allowed k) b) (every (λ x. ltb x 256) (content s 0 m b) && (is_text_bit b || eqb (length (content s 0 m b)) (size b))) (may_stand b h e) (fit e)
      go false e =
          ap (shape_at k b) (if_false (bit m b) (Some (content s 0 m b)) None e)
          ∙ absent b e (bit (required k) b) refl

  stands : (b : ℕ) → is_some (field_at s b) ≡ bit m b
  unfolding field_at
  stands b = some_bit (bit m b) (content s 0 m b)

  pub record_shaped : shaped k (field_at s) ≡ true
  unfolding shaped
  record_shaped =
      and_from (within 16 20 k) _ kind
      (and_from _ _ (all_intro (λ b. shape_at k b (field_at s b)) 32 shape_at_lem)
      (paired_joined (field_at s) m (λ b h. stands b) k kind ∙ bits.1.1.1))

  module _ (in_range_lem : recordRanged s 0 ≡ true) where
    range_at_lem : (b : ℕ) → b < 32 → range_at b (field_at s b) ≡ true
    unfolding field_at recordRanged right_at name_in
    range_at_lem b h =
        let r = and_parts (all_below (right_at s 0 m) 32) (name_in m (text_of (content s 0 m 2))) in_range_lem in
        go (bit m b) refl (all_elim (right_at s 0 m) 32 r.0 b h) r.1
      where
        named : bit m b ≡ true → Dec (b ≡ 2) → (if bit m 2 then is_name (text_of (content s 0 m 2)) otherwise true) ≡ true → (not (eqb b 2) || is_name_of (content s 0 m b)) ≡ true
        named e (no q) n = rw (ne_eqb b 2 q) refl
        named e (yes q) n =
            rw (q) (name_of (content s 0 m 2) (sym (if_true (bit m 2) (is_name (text_of (content s 0 m 2))) true (ap (bit m) (sym q) ∙ e)) ∙ n))

        go : (x : Bool) → bit m b ≡ x → (if bit m b then in_range (range b) (value b (content s 0 m b)) otherwise true) ≡ true
            → (if bit m 2 then is_name (text_of (content s 0 m 2)) otherwise true) ≡ true
            → range_at b (if bit m b then Some (content s 0 m b) otherwise None) ≡ true
        go true e i n =
            ap (range_at b) (if_true (bit m b) (Some (content s 0 m b)) None e)
            ∙ and_from (in_range (range b) (value b (content s 0 m b))) (not (eqb b 2) || is_name_of (content s 0 m b))
            (sym (if_true (bit m b) (in_range (range b) (value b (content s 0 m b))) true e) ∙ i) (named e (ℕ_discrete b 2) n)
        go false e i n = ap (range_at b) (if_false (bit m b) (Some (content s 0 m b)) None e)

    pub record_ranged : ranged (field_at s) ≡ true
    unfolding ranged
    record_ranged = all_intro (λ b. range_at b (field_at s b)) 32 range_at_lem

-- ---- what the writer takes

zero_parts : (a b c d : Bool) → ◌≡◌ {A = ℕ} (if not a then 3 otherwise if not b then 4 otherwise if not c then 9 otherwise if d then 10 otherwise 0) 0 → (a ≡ true) × ((b ≡ true) × ((c ≡ true) × (d ≡ false)))
unfolding if◌then◌otherwise◌
zero_parts true true true false e = (refl, (refl, (refl, refl)))
zero_parts true true true true e = absurd (omega arith)
zero_parts true true false d e = absurd (omega arith)
zero_parts true false c d e = absurd (omega arith)
zero_parts false b c d e = absurd (omega arith)

pub is_writing_lem : (s : List ℕ) (n : Session) (room : ℕ) → Bytes s → session_typed n ≡ true → write_refusal s n room ≡ 0 → is_writing (writing_of s n) ≡ true
unfolding write_refusal is_writing typed
is_writing_lem s n room w t e =
    let p = zero_parts (whole_message s) (recordRanged s 0) (texted (writing_of s n)) (ltb room (length (bytes_for (writing_of s n)))) e in
    and_from (typed (writing_of s n)) _ t (and_from (shaped (kind_at s 0) (field_at s)) _ (record_shaped s w p.0)
    (and_from (ranged (field_at s)) (texted (writing_of s n)) (record_ranged s w p.0 p.1.0) p.1.1.0))
