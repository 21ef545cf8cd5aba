-- Every writing is one of some record. Rests on Taken.
use Rattle.std.proofs.Common.{ℕ, zero, suc, ◌+◌, ◌/◌, ◌%◌, ◌^◌, ◌≤◌, ◌<◌, ◌≡◌, Bool, not, ◌&&◌, ◌||◌, ◌↔◌, eqb, ltb, take, Option, None, Some, refl, sym, ap, subst, ◌∙◌, ⊎_elim, arith, lit<, List, [], ◌∷◌, ◌++◌, append-nil, true, false, eqb-true, eq-eqb, leb-true, le-leb, lt-ltb, le-ltb, leb, length}
use Rattle.std.proofs.Math.Decide.{dec_lt}
use Rattle.std.proofs.lemmas.Bool.{not-true, and_parts, and_from, or_cases}
use Rattle.std.specs.Option.{is_some}
use Rattle.prelude.specs.Texts.{text_of}
use Rattle.prelude.specs.Cases.{if◌then◌otherwise◌}
use Rattle.prelude.specs.Laws.Cases.{split_if, if_true, if_false, clash}
use Rattle.prelude.specs.Below.{all_below}
use Rattle.prelude.specs.Laws.Below.{all_elim, all_intro}
use Rattle.prelude.specs.Number.{Bytes, number, bytes_of}
use Rattle.bits.specs.Map.{digit, bit, contains}
use Rattle.format.specs.Codes.{within, is_name}
use Rattle.format.specs.Format.{size, range, fields, is_text_bit, in_range, is_kind, required, allowed, required_bits, allowed_bits, bits_right}
use Rattle.format.specs.Places.{start, content, value, kind_at, map_at, end_of, right_at, shaped as formShaped}
use Rattle.format.specs.Wire.{bytes, body, encode, field_bytes}
use Rattle.bits.specs.Laws.Map.{digit_out}
use Rattle.format.specs.Laws.Trip.{Fits, start_at, content_back}
use Rattle.records.specs.Parts.{whole_message}
use Rattle.format.specs.Refusal.{message_shaped, ranged as recordRanged, name_in}
use Rattle.records.specs.Laws.Reading.{within_most}
use Rattle.fix_words.specs.Lists.{every, same}
use Rattle.fix_words.specs.Rows.{Values}
use Rattle.fix_words.specs.Spelling.{Field, field, spellings, fields_in}
use Rattle.decimal.specs.Decimal.{digits}
use Rattle.fix_words.specs.Values.{type_of, or_else, none_text, over, either, exec_id, fixed_text_in, spelling, value_of, rows}
use Rattle.fix_words.specs.Message.{Writing, is_name_of, is_text, inner, framed, stamp, bytes_for, fields_of, shape_at, range_at, text_at, paired, shaped, ranged, texted, typed, is_writing, loose_of, is_message, Read, read_of}
use Rattle.fix_words.specs.Laws.Held.{every_bytes, shape_long}
use Rattle.fix_words.proofs.Laws.Kinds.{by_kind_lem, row_small}
use Rattle.fix_words.specs.Laws.Map.{map_up, map_small, contains_all, bit_one}
use Rattle.fix_words.proofs.Laws.Trip.{read_back, refused_exactly}
use Rattle.records.specs.Laws.Back.{text_bits}
use Rattle.fix_words.specs.Laws.Lists.{every_append, same_true}
use Rattle.fix_words.specs.Laws.Rows.{body_same}
use Rattle.fix_words.specs.Record.{field_at, Session, writing_of, write_refusal, session_typed, write_of, Yields}
use Rattle.fix_words.proofs.Laws.Taken.{paired_joined, name_is, is_writing_lem}

-- the tables have 32 bits
tables_small : (k : ℕ) → within 16 20 k ≡ true → (required k < 2 ^ 32) × ((b : ℕ) → b < 32 → ((not (bit (required k) b) && not (bit (allowed k) b)) || bit (required k + allowed k) b) ≡ true)
unfolding required required_bits allowed allowed_bits all_below
tables_small =
    by_kind_lem (λ k. (required k < 2 ^ 32) × ((b : ℕ) → b < 32 → test k b ≡ true))
    (lit< tt, all_elim (test 16) 32 refl) (lit< tt, all_elim (test 17) 32 refl) (lit< tt, all_elim (test 18) 32 refl) (lit< tt, all_elim (test 19) 32 refl)
    (lit< tt, all_elim (test 20) 32 refl)
  where
    test : ℕ → ℕ → Bool
    test k b = (not (bit (required k) b) && not (bit (allowed k) b)) || bit (required k + allowed k) b

kind_is : (k : ℕ) → within 16 20 k ≡ true → is_kind k ≡ true
unfolding is_kind
kind_is = by_kind_lem (λ k. is_kind k ≡ true) refl refl refl refl refl

map_read : (k m : ℕ) (l : List ℕ) → m < 2 ^ 32 → map_at (k ∷ (bytes_of 4 m ++ l)) 0 ≡ m
map_read k m l h = let z : m < 4294967296 = h in omega arith

shape_some : (k b : ℕ) (o : Option (List ℕ)) → shape_at k b o ≡ true → bit (required k) b ≡ true → is_some o ≡ true
shape_some k b None e h = clash (bit (required k) b) h (not-true _ e)
shape_some k b (Some c) e h = refl

shape_may : (k b : ℕ) (o : Option (List ℕ)) → shape_at k b o ≡ true → is_some o ≡ true → (bit (required k) b || bit (allowed k) b) ≡ true
shape_may k b None e h = clash false h refl
shape_may k b (Some c) e h = (and_parts (bit (required k) b || bit (allowed k) b) _ e).0

sum_bit : (k : ℕ) → within 16 20 k ≡ true → (b : ℕ) → b < 32 → (bit (required k) b || bit (allowed k) b) ≡ true → bit (required k + allowed k) b ≡ true
sum_bit k i b h e =
    ⊎_elim
    (λ q. let p = and_parts (not (bit (required k) b)) (not (bit (allowed k) b)) q in
    ⊎_elim (λ r. clash (bit (required k) b) r (not-true _ p.0)) (λ r. clash (bit (allowed k) b) r (not-true _ p.1)) (or_cases (bit (required k) b) (bit (allowed k) b) e))
    (λ q. q)
    (or_cases (not (bit (required k) b) && not (bit (allowed k) b)) (bit (required k + allowed k) b) ((tables_small k i).1 b h))

name_range_lem : (c : List ℕ) → in_range (range 2) (value 2 c) ≡ true → within 1 20 (length c) ≡ true
unfolding in_range range value size fields if◌then◌otherwise◌
name_range_lem c e = e

abbrev is_byte : ℕ → Bool
is_byte x = ltb x 256

number_bytes : (n v : ℕ) → every is_byte (bytes_of n v) ≡ true
number_bytes zero v = refl
number_bytes (suc n) v = and_from (ltb (v % 256) 256) (every is_byte (bytes_of n (v / 256))) (lt-ltb (v % 256) 256 (omega arith)) (number_bytes n (v / 256))

-- a text in range has a length of one byte
text_small : (v b : ℕ) → b < 32 → is_text_bit b ≡ true → in_range (range b) v ≡ true → v < 256
unfolding in_range range fields if◌then◌otherwise◌
text_small v =
    text_bits (λ b. in_range (range b) v ≡ true → v < 256)
    (λ e. omega (arith, within_most 1 20 v e)) (λ e. omega (arith, within_most 1 32 v e)) (λ e. omega (arith, within_most 1 32 v e)) (λ e. omega (arith, within_most 1 32 v e))
    (λ e. omega (arith, within_most 1 16 v e)) (λ e. omega (arith, leb-true v 32 e)) (λ e. omega (arith, within_most 1 64 v e)) (λ e. omega (arith, within_most 1 32 v e))

module _ (k : ℕ) (at : Values) (fits : shaped k at ≡ true) where
  abbrev standing : ℕ → Bool
  standing b = is_some (at b)

  abbrev map : ℕ
  map = map_up standing 0 32

  abbrev holds : ℕ → List ℕ
  holds b = or_else [] (at b)

  -- a record that has just these fields
  pub record_for : List ℕ
  record_for = bytes k map holds

  asked : (within 16 20 k ≡ true) × ((all_below (λ b. shape_at k b (at b)) 32 ≡ true) × (paired k at ≡ true))
  unfolding shaped
  asked =
      let a = and_parts (within 16 20 k) (all_below (λ b. shape_at k b (at b)) 32 && paired k at) fits in
      (a.0, and_parts (all_below (λ b. shape_at k b (at b)) 32) (paired k at) a.1)

  bit_is : (b : ℕ) → b < 32 → bit map b ≡ is_some (at b)
  bit_is = bit_one standing

  map_right : bits_right k map ≡ true
  unfolding bits_right
  map_right =
      and_from (is_kind k) _ (kind_is k asked.0)
      (and_from (contains map (required k)) _
      (contains_all map (required k) (tables_small k asked.0).0 (λ j l e. bit_is j l ∙ shape_some k j (at j) (all_elim (λ b. shape_at k b (at b)) 32 asked.1.0 j l) e))
      (and_from (contains (required k + allowed k) map) _
      (contains_all (required k + allowed k) map (map_small standing 0 32) (λ j l e. sum_bit k asked.0 j l
      (shape_may k j (at j) (all_elim (λ b. shape_at k b (at b)) 32 asked.1.0 j l) (sym (bit_is j l) ∙ e))))
      (sym (paired_joined at map (λ b h. sym (bit_is b h)) k asked.0) ∙ asked.1.1)))

  abbrev front : List ℕ
  front = k ∷ bytes_of 4 map

  abbrev fields_bytes : List ℕ
  fields_bytes = body map holds 32

  sized : (b : ℕ) → bit map b ≡ true → Fits b (holds b)
  sized b e t = go (dec_lt b 32)
    where
      long : (o : Option (List ℕ)) → is_some o ≡ true → shape_at k b o ≡ true → length (or_else [] o) ≡ size b
      long None q h = clash false q refl
      long (Some c) q h = shape_long k b c h t

      go : Dec (b < 32) → length (holds b) ≡ size b
      go (yes h) = long (at b) (sym (bit_is b h) ∙ e) (all_elim (λ b. shape_at k b (at b)) 32 asked.1.0 b h)
      go (no h) = let z : digit map b ≡ 1 = eqb-true (digit map b) 1 e in absurd (omega (arith, digit_out map b (map_small standing 0 32) (omega arith)))

  regroup : record_for ≡ front ++ (fields_bytes ++ [])
  unfolding record_for bytes
  regroup = ap (λ (l : List ℕ). front ++ l) (sym (append-nil fields_bytes))

  map_there : map_at record_for 0 ≡ map
  unfolding record_for bytes
  map_there = map_read k map fields_bytes (map_small standing 0 32)

  kind_there : kind_at record_for 0 ≡ k
  unfolding record_for bytes
  kind_there = refl

  content_there : (b : ℕ) → b < 32 → bit map b ≡ true → content record_for 0 map b ≡ holds b
  content_there b h e = rw regroup (content_back 0 map holds front refl sized b 32 h [] e)

  end_there : end_of record_for 0 ≡ length record_for
  unfolding end_of
  end_there =
      rw map_there
      (ap (λ (s : List ℕ). start s 0 map 32) regroup ∙ start_at 0 map holds front refl sized 32 [] ∙ ap length (ap (λ (l : List ℕ). front ++ l) (sym (append-nil fields_bytes)) ∙ sym regroup))

  field_there : (b : ℕ) → b < 32 → field_at record_for b ≡ at b
  unfolding field_at
  field_there b h =
      ap (λ (m : ℕ). if bit m b then Some (content record_for 0 m b) otherwise None) map_there
      ∙ go (at b) refl (bit map b) refl
    where
      go : (o : Option (List ℕ)) → at b ≡ o → (x : Bool) → bit map b ≡ x → (if bit map b then Some (content record_for 0 map b) otherwise None) ≡ at b
      go None z true e = clash false (ap is_some (sym z) ∙ sym (bit_is b h) ∙ e) refl
      go (Some c) z true e = if_true (bit map b) _ _ e ∙ ap {B = Option (List ℕ)} Some (content_there b h e ∙ ap (or_else []) z) ∙ sym z
      go None z false e = if_false (bit map b) _ _ e ∙ sym z
      go (Some c) z false e = clash true refl (ap is_some (sym z) ∙ sym (bit_is b h) ∙ e)

  pub record_is : whole_message record_for ≡ true
  unfolding whole_message message_shaped formShaped record_for bytes
  record_is =
      let five : leb 5 (length record_for) ≡ true = le-leb 5 (length record_for) (omega arith) in
      and_from (message_shaped record_for 0) _
      (and_from (formShaped record_for 0) (leb 16 k)
      (and_from _ _ five (and_from _ _ (ap (bits_right k) map_there ∙ map_right) (le-leb (end_of record_for 0) (length record_for) (omega (arith, end_there)))))
      (and_parts (leb 16 k) (leb k 20) asked.0).0)
      (eq-eqb (end_of record_for 0) (length record_for) end_there)

  -- ---- in range, and made of bytes

  module _ (rights : ranged at ≡ true) where
    range_of : (b : ℕ) → b < 32 → range_at b (at b) ≡ true
    unfolding ranged
    range_of = all_elim (λ b. range_at b (at b)) 32 rights

    pub record_in_range : recordRanged record_for 0 ≡ true
    unfolding recordRanged right_at name_in
    record_in_range =
        and_from (all_below (right_at record_for 0 (map_at record_for 0)) 32) (name_in (map_at record_for 0) (text_of (content record_for 0 (map_at record_for 0) 2)))
        (ap (λ (m : ℕ). all_below (right_at record_for 0 m) 32) map_there ∙ all_intro (right_at record_for 0 map) 32 (λ b h. each b h (at b) refl (bit map b) refl))
        (ap (λ (m : ℕ). if bit m 2 then is_name (text_of (content record_for 0 m 2)) otherwise true) map_there ∙ named (at 2) refl (bit map 2) refl)
      where
        each : (b : ℕ) → b < 32 → (o : Option (List ℕ)) → at b ≡ o → (x : Bool) → bit map b ≡ x
            → (if bit map b then in_range (range b) (value b (content record_for 0 map b)) otherwise true) ≡ true
        each b h o z false e = if_false (bit map b) _ _ e
        each b h None z true e = clash false (ap is_some (sym z) ∙ sym (bit_is b h) ∙ e) refl
        each b h (Some c) z true e =
            if_true (bit map b) _ _ e
            ∙ ap (λ (l : List ℕ). in_range (range b) (value b l)) (content_there b h e ∙ ap (or_else []) z)
            ∙ (and_parts (in_range (range b) (value b c)) (not (eqb b 2) || is_name_of c) (ap (range_at b) (sym z) ∙ range_of b h)).0

        named : (o : Option (List ℕ)) → at 2 ≡ o → (x : Bool) → bit map 2 ≡ x → (if bit map 2 then is_name (text_of (content record_for 0 map 2)) otherwise true) ≡ true
        named o z false e = if_false (bit map 2) _ _ e
        named None z true e = clash false (ap is_some (sym z) ∙ sym (bit_is 2 (lit< tt)) ∙ e) refl
        named (Some c) z true e =
            let p = and_parts (in_range (range 2) (value 2 c)) (not (eqb 2 2) || is_name_of c) (ap (range_at 2) (sym z) ∙ range_of 2 (lit< tt)) in
            if_true (bit map 2) _ _ e
            ∙ ap (λ (l : List ℕ). is_name (text_of l)) (content_there 2 (lit< tt) e ∙ ap (or_else []) z)
            ∙ name_is c (name_range_lem c p.0) p.1

    content_byte : (b : ℕ) → b < 32 → (o : Option (List ℕ)) → at b ≡ o → every is_byte (encode b (or_else [] o)) ≡ true
    unfolding encode value
    content_byte b h o z = go o (shapes o z) (ranges o z)
      where
        shapes : (o : Option (List ℕ)) → at b ≡ o → shape_at k b o ≡ true
        shapes o z = ap (shape_at k b) (sym z) ∙ all_elim (λ b. shape_at k b (at b)) 32 asked.1.0 b h

        ranges : (o : Option (List ℕ)) → at b ≡ o → range_at b o ≡ true
        ranges o z = ap (range_at b) (sym z) ∙ range_of b h

        go : (o : Option (List ℕ)) → shape_at k b o ≡ true → range_at b o ≡ true → every is_byte (encode b (or_else [] o)) ≡ true
        go None e r = split_if (λ (l : List ℕ). every is_byte l ≡ true) (is_text_bit b) (λ t. refl) (λ t. refl)
        go (Some c) e r =
            let p : every is_byte c ≡ true = (and_parts (every is_byte c) (is_text_bit b || eqb (length c) (size b)) (and_parts (bit (required k) b || bit (allowed k) b) _ e).1).0 in
            let v = (and_parts (in_range (range b) (value b c)) (not (eqb b 2) || is_name_of c) r).0 in
            split_if (λ (l : List ℕ). every is_byte l ≡ true) (is_text_bit b)
            (λ t. and_from (ltb (length c) 256) (every is_byte c)
            (lt-ltb (length c) 256 (text_small (length c) b h t (ap (in_range (range b)) (sym (if_true (is_text_bit b) (length c) (number (take 8 c)) t)) ∙ v))) p)
            (λ t. p)

    field_byte : (b : ℕ) → b < 32 → every is_byte (field_bytes map holds b) ≡ true
    unfolding field_bytes
    field_byte b h = split_if (λ (l : List ℕ). every is_byte l ≡ true) (bit map b) (λ e. content_byte b h (at b) refl) (λ e. refl)

    body_bytes : (n : ℕ) → n ≤ 32 → every is_byte (body map holds n) ≡ true
    unfolding body
    body_bytes zero h = refl
    body_bytes (suc n) h = every_append is_byte (body map holds n) (field_bytes map holds n) (body_bytes n (omega arith)) (field_byte n (omega arith))

    pub record_bytes : Bytes record_for
    unfolding record_for bytes
    record_bytes = every_bytes (bytes k map holds)
        (and_from (ltb k 256) _ (lt-ltb k 256 (omega (arith, leb-true k 20 (and_parts (leb 16 k) (leb k 20) asked.0).1)))
        (every_append is_byte (bytes_of 4 map) (body map holds 32) (number_bytes 4 map) (body_bytes 32 (omega arith))))

-- ---- the values ask only bits below 32

value_same : (k : ℕ) (at us : Values) → ((b : ℕ) → b < 32 → at b ≡ us b) → (b : ℕ) → b < 32 → value_of k at b ≡ value_of k us b
unfolding value_of
value_same k at us h b l =
    λ i.
    if eqb b 2 then (if eqb k 17 then Some (or_else none_text (h 2 (lit< tt) i)) otherwise h 2 (lit< tt) i) otherwise
    if eqb b 20 then (if eqb k 17 then either (h 20 (lit< tt) i) (over fixed_text_in (h 27 (lit< tt) i)) otherwise h 20 (lit< tt) i) otherwise
    if eqb b 25 then over (exec_id (h 2 (lit< tt) i)) (h 25 (lit< tt) i) otherwise
    if eqb b 27 then over fixed_text_in (h 27 (lit< tt) i) otherwise
    over (spelling b) (h b l i)

-- ---- the promises on bytes

-- a message written is read as the FIX field values it was written with
pub written_read : (s : List ℕ) (n : Session) (room : ℕ) → Bytes s → session_typed n ≡ true → write_refusal s n room ≡ 0
    → read_of (write_of s n) ≡ record { refusal = 0; fields = fields_of (writing_of s n) }
written_read s n room w t e = read_back (writing_of s n) (is_writing_lem s n room w t e)

module _ (w : Writing) (is : is_writing w ≡ true) where
  each : (typed w ≡ true) × ((shaped w.kind w.at ≡ true) × ((ranged w.at ≡ true) × (texted w ≡ true)))
  unfolding is_writing
  each =
      let a = and_parts (typed w) (shaped w.kind w.at && (ranged w.at && texted w)) is in
      let b = and_parts (shaped w.kind w.at) (ranged w.at && texted w) a.1 in
      (a.0, (b.0, and_parts (ranged w.at) (texted w) b.1))

  -- a record and a session of which it is the writing
  abbrev source : List ℕ
  source = record_for w.kind w.at each.1.0

  abbrev session : Session
  session = record { sender = w.sender; target = w.target; sequence = w.sequence; time = w.time }

  source_at : (b : ℕ) → b < 32 → field_at source b ≡ w.at b
  source_at = field_there w.kind w.at each.1.0

  source_kind : kind_at source 0 ≡ w.kind
  source_kind = kind_there w.kind w.at each.1.0

  kind_in_lem : within 16 20 w.kind ≡ true
  unfolding shaped
  kind_in_lem = (and_parts (within 16 20 w.kind) _ each.1.0).0

  texts_same : texted (writing_of source session) ≡ true
  unfolding texted
  texts_same =
      let a = and_parts (is_text w.sender) _ each.1.1.1 in
      let b = and_parts (is_text w.target) _ a.1 in
      let c = and_parts (is_text w.time) (all_below (λ b. text_at b (w.at b)) 32) b.1 in
      and_from _ _ a.0 (and_from _ _ b.0 (and_from (is_text w.time) (all_below (λ b. text_at b (field_at source b)) 32) c.0
      (all_intro (λ b. text_at b (field_at source b)) 32 (λ b h. ap (text_at b) (source_at b h) ∙ all_elim (λ b. text_at b (w.at b)) 32 c.1 b h))))

  written_same : write_of source session ≡ bytes_for w
  unfolding bytes_for fields_of inner
  written_same =
      ap (λ (k : ℕ). bytes_for (record { kind = k; at = field_at source; sender = w.sender; target = w.target; sequence = w.sequence; time = w.time })) source_kind
      ∙ ap (λ (fs : List Field). spellings (framed (field 35 (type_of w.kind ∷ []) ∷ field 49 w.sender ∷ field 56 w.target ∷ field 34 (digits w.sequence) ∷ field 52 w.time ∷ fs)))
      (body_same (value_of w.kind (field_at source)) (value_of w.kind w.at) (stamp w.kind w.time []) (rows w.kind)
      (λ b i. value_same w.kind (field_at source) w.at source_at b (row_small w.kind kind_in_lem b i)))

  writing_yields : Yields (bytes_for w) source session (length (write_of source session))
  unfolding write_refusal if◌then◌otherwise◌ typed
  writing_yields = record {
    bytes = record_bytes w.kind w.at each.1.0 each.1.1.0;
    session = each.0;
    refusal =
        rw (
          record_is w.kind w.at each.1.0,
          record_in_range w.kind w.at each.1.0 each.1.1.0,
          texts_same,
          le-ltb (length (write_of source session)) (length (write_of source session)) (omega arith),
        ) refl;
    written = written_same;
  }

-- the reader gives 3 exactly for bytes that no writing yields
pub read_exactly : (x : List ℕ) → ((read_of x).refusal ≡ 3) ↔ ((s : List ℕ) (n : Session) (room : ℕ) → Yields x s n room → ⊥)
read_exactly x = (
  λ e s n room y. (refused_exactly x).0 e (writing_of s n) (is_writing_lem s n room y.bytes y.session y.refusal) y.written,
  λ None-Yields. (refused_exactly x).1 (λ w i q. None-Yields (source w i) (session w i) (length (write_of (source w i) (session w i))) (subst (λ (y : List ℕ). Yields y (source w i) (session w i) (length (write_of (source w i) (session w i)))) q (writing_yields w i))),
)

-- what the reader takes, a writing yields
pub taken_yields : (x : List ℕ) → (read_of x).refusal ≡ 0 → (s : List ℕ) × (n : Session) × Yields x s n (length (write_of s n))
unfolding read_of is_message
taken_yields x e = go (is_message x) refl
  where
    w : Writing
    w = loose_of (fields_in x)

    go : (y : Bool) → is_message x ≡ y → (s : List ℕ) × (n : Session) × Yields x s n (length (write_of s n))
    go true q =
        let h = and_parts (is_writing w) (same (bytes_for w) x) q in
        let n : ℕ = length (write_of (source w h.0) (session w h.0)) in
        (source w h.0, session w h.0, subst (λ (y : List ℕ). Yields y (source w h.0) (session w h.0) n) (same_true (bytes_for w) x h.1) (writing_yields w h.0))
    go false q =
        let z : ◌≡◌ {A = ℕ} 3 0 = sym (ap (λ (r : Read). r.refusal) (if_false (is_message x) (record { refusal = 0; fields = fields_in x }) (record { refusal = 3; fields = [] }) q)) ∙ e in
        absurd (omega arith)
