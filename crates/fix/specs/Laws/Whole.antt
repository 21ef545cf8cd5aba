-- The whole message from the parts that the writer puts: its length, the questions, and how its bytes follow each other. Rests on Planned and
-- Putting.
use Rattle.std.specs.Option.{is_some}
use Rattle.std.specs.Prelude.{ℕ, ◌≢◌, Option, Some, None, ◌+◌, ◌-◌, ◌%◌, ◌≤◌, ◌<◌, Bool, ◌&&◌, leb, get_or, drop, ◌≡◌, refl, List, [], ◌∷◌, ◌++◌, true, false, ltb, length}
use Rattle.std.proofs.Common.{ap, sym, ◌∙◌, append_assoc, arith, leb-true, leb-false, le-leb, le-ltb, lt-ltb, ltb-false, length-append}
use Rattle.std.proofs.lemmas.Bool.{lt-leb, and_parts}
use Rattle.std.specs.Cmp.{both_ways}
use Rattle.prelude.specs.Cases.{if◌then◌otherwise◌}
use Rattle.prelude.specs.Below.{all_below}
use Rattle.prelude.specs.Laws.Below.{all_ext, all_intro, all_elim}
use Rattle.fix_words.specs.Lists.{every, is_print}
use Rattle.fix_words.specs.Laws.Lists.{every_below, below_every}
use Rattle.prelude.specs.Span.{span, splice}
use Rattle.prelude.specs.Laws.Span.{span_splice_same, span_splice_before, splice_append, length_splice}
use Rattle.bits.specs.Map.{bit}
use Rattle.format.specs.Codes.{within}
use Rattle.format.specs.Format.{range, is_text_bit, side, status, is_kind, bits_right}
use Rattle.format.specs.Places.{kind_at, start, content, value, map_at, shaped}
use Rattle.format.specs.Refusal.{ranged, message_shaped}
use Rattle.records.specs.Parts.{whole_message, parts_refusal, PartsOf}
use Rattle.records.specs.declared.parts.Parts.{Parts}
use Rattle.records.specs.Laws.Reading.{whole_of}
use Rattle.decimal.specs.Laws.Width.{length_low}
use Rattle.prelude.specs.Number.{number}
use Rattle.fix_words.proofs.Laws.Taken.{message_kind}
use Rattle.decimal.specs.Decimal.{digits_by, digits, low_digits, decimal}
use Rattle.fix_words.specs.Spelling.{Field, field, spellings}
use Rattle.fix_words.specs.Laws.Spelling.{spellings_append}
use Rattle.fix_words.specs.Rows.{Values, body, in_rows}
use Rattle.fix_words.specs.Laws.Rows.{body_append}
use Rattle.fix_words.specs.Laws.Counting.{field_long_lem}
use Rattle.fix_words.specs.Values.{rows, type_of, value_of, places}
use Rattle.fix_words.specs.Message.{Writing, version, inner, front, sum, trailer, bytes_for, is_text, text_at, texted, framed, fields_of}
use Rattle.fix_words.specs.Record.{field_at, Session, writing_of, write_of, write_refusal}
use Rattle.fix_words.proofs.Laws.Kinds.{row_small}
use Rattle.fix_words.proofs.Laws.Trip.{frame}
use Rattle.fix.specs.declared.value.Value.{Value}
use Rattle.fix.specs.Laws.Plan.{Parted, planned, Sound, rows_long, rows_shown, less_by, first_two, head_fields, stamp_fields, frame_long, inner_long, text_right, texts_right}
use Rattle.fix_table.specs.Table.{form_of}
use Rattle.fix_table.specs.declared.Form.TheVariants.{Text, Code, Number}
use Rattle.fix.specs.Laws.Planned.{text_there, plan_right, plan_sound, on, off}
use Rattle.fix.specs.Laws.Putting.{rows_long_lem, rows_body, two_fields, head_long_lem, stamp_long_lem, Rest}

-- ---- room

pub room_some : (room T rest : ℕ) → less_by (Some room) T ≡ Some rest → (T ≤ room) × (rest ≡ room - T)
unfolding less_by if◌then◌otherwise◌
room_some room T rest = go (leb T room) refl
  where
    go : (x : Bool) → leb T room ≡ x → (if x then Some (room - T) otherwise None) ≡ Some rest → (T ≤ room) × (rest ≡ room - T)
    go true e q = (leb-true T room e, cc)
    go false e q = cc

pub room_none : (room T : ℕ) → less_by (Some room) T ≡ None → room < T
unfolding less_by if◌then◌otherwise◌
room_none room T = go (leb T room) refl
  where
    go : (x : Bool) → leb T room ≡ x → (if x then Some (room - T) otherwise None) ≡ None → room < T
    go true e q = cc
    go false e q = leb-false T room e

-- what is left, 0 if it did not fit
abbrev pub left_of : Option ℕ → ℕ
left_of None = 0
left_of (Some rest) = rest

pub room_body : (room T : ℕ) → T ≤ room → room - left_of (less_by (Some room) T) ≡ T
unfolding less_by if◌then◌otherwise◌
room_body room T h = rw (le-leb T room h) (omega arith)

-- the body and its frame fit if both together do
pub room_fits : (room T : ℕ) → is_some (less_by (less_by (Some room) T) (frame_long (room - left_of (less_by (Some room) T)))) ≡ leb (T + frame_long T) room
unfolding less_by if◌then◌otherwise◌
room_fits room T = go (leb T room) refl
  where
    later : (x : Bool) → leb (frame_long T) (room - T) ≡ x → T ≤ room → is_some (if leb (frame_long T) (room - T) then Some (room - T - frame_long T) otherwise None) ≡ leb (T + frame_long T) room
    later true e h = rw e (sym (le-leb (T + frame_long T) room (omega (arith, leb-true (frame_long T) (room - T) e))))
    later false e h = rw e (sym (lt-leb (T + frame_long T) room (omega (arith, leb-false (frame_long T) (room - T) e))))

    go : (x : Bool) → leb T room ≡ x → is_some (less_by (less_by (Some room) T) (frame_long (room - left_of (less_by (Some room) T)))) ≡ leb (T + frame_long T) room
    go true e =
        let h : T ≤ room = leb-true T room e in
        let z : room - (room - T) ≡ T = omega arith in
        rw (e, z) (later (leb (frame_long T) (room - T)) refl h)
    go false e = rw e (sym (lt-leb (T + frame_long T) room (omega (arith, leb-false T room e))))

-- whether n bytes more fit
pub fit_or_not : (room n : ℕ) → is_some (less_by (Some room) n) ≡ leb n room
unfolding less_by if◌then◌otherwise◌
fit_or_not room n = go (leb n room)
  where
    go : (x : Bool) → is_some (if x then Some (room - n) otherwise None) ≡ x
    go true = refl
    go false = refl

-- ---- the frame

frame_tags : (length (decimal 0 8) ≡ 1) × (length (decimal 0 9) ≡ 1) × (length (decimal 0 10) ≡ 2)
unfolding decimal digits digits_by if◌then◌otherwise◌
frame_tags = (refl, refl, refl)

pub whole_long : (w : Writing) → length (bytes_for w) ≡ length (spellings (inner w)) + frame_long (length (spellings (inner w)))
unfolding frame_long
whole_long w =
    let f = frame w in
    let L : ℕ = length (spellings (inner w)) in
    let c : List ℕ = low_digits 3 (sum (spellings (front (inner w))) % 256) in
    ap length f.whole
    ∙ length-append (spellings (first_two L)) (spellings (inner w) ++ spellings (field 10 c ∷ []))
    ∙ omega (
      arith,
      length-append (spellings (inner w)) (spellings (field 10 c ∷ [])),
      two_fields (field 8 version) (field 9 (digits L) ∷ []),
      field_long_lem 8 version,
      field_long_lem 9 (digits L),
      field_long_lem 10 c,
      f.three,
      frame_tags.0,
      frame_tags.1,
      frame_tags.2,
    )

-- ---- the body

module _ (s : List ℕ) (m : ℕ) (at ns : List ℕ) (high : ℕ) (p : Parted s m at ns high) (n : Session) (kind : within 16 20 (kind_at s 0) ≡ true) where
  abbrev k : ℕ
  k = kind_at s 0

  abbrev f : ℕ → Option Value
  f = planned k m at ns high

  abbrev vs : Values
  vs = value_of k (field_at s)

  sounds : (b : ℕ) → in_rows (rows k) b ≡ true → Sound s (f b)
  sounds b i = plan_sound s m at ns high p k b (row_small k kind b i)

  pub body_long : length (rows_shown s (rows k) f) ≡ rows_long (rows k) f
  body_long = rows_long_lem s f (rows k) sounds

  pub body_shown : rows_shown s (rows k) f ≡ spellings (body (rows k) vs [])
  body_shown = rows_body s f vs (rows k) (λ b i. plan_right s m at ns high p k b (row_small k kind b i))

  abbrev pub heads : List Field
  heads = head_fields k n.sender n.target n.sequence n.time

  abbrev pub stamps : List Field
  stamps = stamp_fields k n.time

  pub inner_parts : spellings (inner (writing_of s n)) ≡ spellings heads ++ (rows_shown s (rows k) f ++ spellings stamps)
  unfolding inner
  inner_parts =
      ap (λ (l : List Field). spellings (heads ++ l)) (sym (body_append vs [] stamps (rows k)))
      ∙ spellings_append heads (body (rows k) vs [] ++ stamps)
      ∙ ap (λ (l : List ℕ). spellings heads ++ l) (spellings_append (body (rows k) vs []) stamps ∙ ap (λ (l : List ℕ). l ++ spellings stamps) (sym body_shown))

  pub inner_long_lem : length (spellings (inner (writing_of s n))) ≡ inner_long (length n.sender) (length n.target) n.sequence (length n.time) k m at ns high
  unfolding inner_long
  inner_long_lem =
      ap length inner_parts
      ∙ length-append (spellings heads) (rows_shown s (rows k) f ++ spellings stamps)
      ∙ omega (
        arith,
        length-append (rows_shown s (rows k) f) (spellings stamps),
        head_long_lem n.sender n.target n.sequence n.time (type_of k ∷ []) refl,
        body_long,
        stamp_long_lem k n.time,
      )

  -- the whole, as it is put
  abbrev pub L : ℕ
  L = length (spellings (inner (writing_of s n)))

  abbrev pub before10 : List ℕ
  before10 = spellings (front (inner (writing_of s n)))

  pub front_parts : before10 ≡ spellings (first_two L) ++ (spellings heads ++ (rows_shown s (rows k) f ++ spellings stamps))
  unfolding front
  front_parts = spellings_append (first_two L) (inner (writing_of s n)) ∙ ap (λ (l : List ℕ). spellings (first_two L) ++ l) inner_parts

  pub whole_parts : write_of s n ≡ spellings (first_two L) ++ (spellings heads ++ (rows_shown s (rows k) f ++ (spellings stamps ++ spellings (trailer before10 ∷ []))))
  whole_parts =
      let t : List ℕ = spellings (trailer before10 ∷ []) in
      (frame (writing_of s n)).whole
      ∙ ap (λ (l : List ℕ). spellings (first_two L) ++ (l ++ t)) inner_parts
      ∙ ap (λ (l : List ℕ). spellings (first_two L) ++ l)
      (append_assoc (spellings heads) (rows_shown s (rows k) f ++ spellings stamps) t
      ∙ ap (λ (l : List ℕ). spellings heads ++ l) (append_assoc (rows_shown s (rows k) f) (spellings stamps) t))

-- what stands before the rest
pub rest_before : (o p q out : List ℕ) (at : ℕ) → Rest o 0 (p ++ q) out at q → span out 0 at ≡ p
rest_before o p q out at r =
    let z : 0 + length p ≡ length p = omega arith in
    let l : at ≡ 0 + length p = omega (arith, r.sum, length-append p q) in
    let h : 0 + length p ≤ length o = omega (arith, r.room, length-append p q) in
    let k : length (splice o 0 p) ≡ length o = length_splice o 0 p h in
    let i : at ≤ length out = omega (arith, r.same) in
    sym (span_splice_before out at q 0 at (omega arith) i)
    ∙ ap (λ (t : List ℕ). span t 0 at) (r.put ∙ sym (splice_append o 0 p q h))
    ∙ ap (span (splice (splice o 0 p) (0 + length p) q) 0) l
    ∙ span_splice_before (splice o 0 p) (0 + length p) q 0 (0 + length p) (omega arith) (omega arith)
    ∙ ap (span (splice o 0 p) 0) z
    ∙ span_splice_same o 0 p (length p) refl h

pub ten_long : (c : List ℕ) → length c ≡ 3 → length (spellings (field 10 c ∷ [])) ≡ 7
ten_long c h = omega (arith, field_long_lem 10 c, frame_tags.2, h)

-- ---- texts

pub text_none : (s : List ℕ) → length s ≡ 0 → is_text s ≡ false
text_none [] h = refl
text_none (c ∷ s) h = absurd (omega arith)

pub text_some : (s : List ℕ) → (length s ≢ 0) → is_text s ≡ every is_print s
text_some [] h = absurd (h refl)
text_some (c ∷ s) h = refl

abbrev pub print_at : List ℕ → ℕ → Bool
print_at s k = is_print (get_or s k 0)

pub text_all : (s : List ℕ) → 0 < length s → is_text s ≡ all_below (print_at s) (length s)
text_all [] h = absurd (omega arith)
text_all (c ∷ s) h =
    both_ways (every is_print (c ∷ s)) (all_below (print_at (c ∷ s)) (length (c ∷ s)))
    (λ e. all_intro (print_at (c ∷ s)) (length (c ∷ s)) (every_below is_print (c ∷ s) e))
    (λ e. below_every is_print (c ∷ s) (all_elim (print_at (c ∷ s)) (length (c ∷ s)) e))

pub form_text : (b : ℕ) → form_of b ≡ Text → is_text_bit b ≡ true
unfolding form_of if◌then◌otherwise◌
form_text b = go (is_text_bit b) (within side status (range b))
  where
    go : (x y : Bool) → (if x then Text otherwise if y then Code otherwise Number (places b)) ≡ Text → x ≡ true
    go true y e = refl
    go false true e = cc
    go false false e = cc

pub form_other : (b : ℕ) → (form_of b ≢ Text) → is_text_bit b ≡ false
unfolding form_of if◌then◌otherwise◌
form_other b = go (is_text_bit b) (within side status (range b))
  where
    go : (x y : Bool) → ((if x then Text otherwise if y then Code otherwise Number (places b)) ≢ Text) → x ≡ false
    go true y h = absurd (h refl)
    go false y h = refl

module _ (s : List ℕ) (m : ℕ) (at ns : List ℕ) (high : ℕ) (p : Parted s m at ns high) where
  text_right_lem : (b : ℕ) → b < 32 → text_right s m (get_or at (b + 1) 0) (get_or ns b 0) b ≡ text_at b (field_at s b)
  unfolding text_right if◌then◌otherwise◌
  text_right_lem b h = go (is_text_bit b) refl (bit m b) refl
    where
      go : (x : Bool) → is_text_bit b ≡ x → (z : Bool) → bit m b ≡ z → text_right s m (get_or at (b + 1) 0) (get_or ns b 0) b ≡ text_at b (field_at s b)
      go true t true e = rw (on s m at ns high p b e, t, e) (ap is_text (text_there s m at ns high p b h t))
      go true t false e = rw (off s m at ns high p b e, t, e) refl
      go false t true e = rw (on s m at ns high p b e, t) refl
      go false t false e = rw (off s m at ns high p b e, t) refl

  pub texts_right_lem : texts_right s m at ns ≡ all_below (λ b. text_at b (field_at s b)) 32
  unfolding texts_right
  texts_right_lem = all_ext (λ b. text_right s m (get_or at (b + 1) 0) (get_or ns b 0) b) (λ b. text_at b (field_at s b)) 32 text_right_lem

-- ---- the answer

module _ (s : List ℕ) (n : Session) (room : ℕ) where
  pub answer_parts : (parts_refusal s ≡ 0 → ⊥) → write_refusal s n room ≡ parts_refusal s
  unfolding write_refusal if◌then◌otherwise◌
  answer_parts z = go (whole_message s) refl (ranged s 0) refl
    where
      go : (x : Bool) → whole_message s ≡ x → (y : Bool) → ranged s 0 ≡ y → write_refusal s n room ≡ parts_refusal s
      go false a y b = rw a refl
      go true a false b = rw (a, b) refl
      go true a true b = absurd (z (rw (a, b) refl))

  pub parts_right : parts_refusal s ≡ 0 → (whole_message s ≡ true) × (ranged s 0 ≡ true)
  unfolding if◌then◌otherwise◌
  parts_right e = go (whole_message s) refl (ranged s 0) refl
    where
      go : (x : Bool) → whole_message s ≡ x → (y : Bool) → ranged s 0 ≡ y → (whole_message s ≡ true) × (ranged s 0 ≡ true)
      go true a true b = (a, b)
      go true a false b = let z : ◌≡◌ {A = ℕ} 4 0 = rw (a, b) at e in absurd (omega arith)
      go false a y b = let z : ◌≡◌ {A = ℕ} 3 0 = rw a at e in absurd (omega arith)

  module _ (e : parts_refusal s ≡ 0) where
    pub answer_9 : texted (writing_of s n) ≡ false → write_refusal s n room ≡ 9
    unfolding write_refusal if◌then◌otherwise◌
    answer_9 t = rw ((parts_right e).0, (parts_right e).1, t) refl

    pub answer_10 : texted (writing_of s n) ≡ true → room < length (bytes_for (writing_of s n)) → write_refusal s n room ≡ 10
    unfolding write_refusal if◌then◌otherwise◌
    answer_10 t h = rw ((parts_right e).0, (parts_right e).1, t, lt-ltb room (length (bytes_for (writing_of s n))) h) refl

    pub answer_0 : texted (writing_of s n) ≡ true → length (bytes_for (writing_of s n)) ≤ room → write_refusal s n room ≡ 0
    unfolding write_refusal if◌then◌otherwise◌
    answer_0 t h = rw ((parts_right e).0, (parts_right e).1, t, le-ltb room (length (bytes_for (writing_of s n))) h) refl

    pub answer_room : write_refusal s n room ≡ 0 → length (bytes_for (writing_of s n)) ≤ room
    unfolding write_refusal if◌then◌otherwise◌
    answer_room z = go (texted (writing_of s n)) refl (ltb room (length (bytes_for (writing_of s n)))) refl
      where
        go : (x : Bool) → texted (writing_of s n) ≡ x → (y : Bool) → ltb room (length (bytes_for (writing_of s n))) ≡ y → length (bytes_for (writing_of s n)) ≤ room
        go true a false b = ltb-false room (length (bytes_for (writing_of s n))) b
        go true a true b = let q : ◌≡◌ {A = ℕ} 10 0 = rw ((parts_right e).0, (parts_right e).1, a, b) at z in absurd (omega arith)
        go false a y b = let q : ◌≡◌ {A = ℕ} 9 0 = rw ((parts_right e).0, (parts_right e).1, a) at z in absurd (omega arith)

-- ---- a record's parts

pub whole_parted : (s : List ℕ) (r : Parts) → PartsOf s r → Parted s r.map r.at r.numbers r.high
whole_parted s r p =
    let m : map_at s 0 ≡ r.map = sym p.map in
    record {
      whole = (parts_right s nobody 0 p.taken).0;
      right = (parts_right s nobody 0 p.taken).1;
      map = p.map;
      places = λ k h. p.places k h ∙ ap (λ (x : ℕ). start s 0 x k) m;
      numbers = λ b h. p.numbers b h ∙ ap (λ (x : ℕ). value b (content s 0 x b)) m;
      high = p.high ∙ ap (λ (x : ℕ). number (drop 8 (content s 0 x 26))) m;
    }
  where
    nobody : Session
    nobody = record { sender = []; target = []; sequence = 0; time = [] }

-- a whole message has a kind, and bytes
pub whole_kind : (s : List ℕ) → whole_message s ≡ true → (within 16 20 (kind_at s 0) ≡ true) × (5 ≤ length s)
unfolding whole_message message_shaped bits_right
whole_kind s e =
    let a = and_parts (message_shaped s 0) _ e in
    let b = and_parts (shaped s 0) (leb 16 (kind_at s 0)) a.0 in
    let w = whole_of s 0 b.0 in
    (message_kind (kind_at s 0) (and_parts (is_kind (kind_at s 0)) _ w.right).0 b.1, omega (arith, w.long))

-- the answer 0 has a whole message in range
pub taken_parts : (s : List ℕ) (n : Session) (room : ℕ) → write_refusal s n room ≡ 0 → parts_refusal s ≡ 0
unfolding write_refusal if◌then◌otherwise◌
taken_parts s n room z = go (whole_message s) refl (ranged s 0) refl
  where
    go : (x : Bool) → whole_message s ≡ x → (y : Bool) → ranged s 0 ≡ y → parts_refusal s ≡ 0
    go true a true b = rw (a, b) refl
    go true a false b = let q : ◌≡◌ {A = ℕ} 4 0 = rw (a, b) at z in absurd (omega arith)
    go false a y b = let q : ◌≡◌ {A = ℕ} 3 0 = rw a at z in absurd (omega arith)

-- all but 10, and 10
pub whole_split : (w : Writing) → bytes_for w ≡ spellings (front (inner w)) ++ spellings (trailer (spellings (front (inner w))) ∷ [])
unfolding bytes_for fields_of framed
whole_split w = spellings_append (front (inner w)) (trailer (spellings (front (inner w))) ∷ [])

pub trailer_long : (x : List ℕ) → length (spellings (trailer x ∷ [])) ≡ 7
trailer_long x = ten_long (low_digits 3 (sum x % 256)) (length_low 3 (sum x % 256))

pub and_assoc : (a b c d : Bool) → (((a && b) && c) && d) ≡ (a && (b && (c && d)))
and_assoc true true true d = refl
and_assoc true true false d = refl
and_assoc true false c d = refl
and_assoc false b c d = refl
