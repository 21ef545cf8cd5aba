-- Laws by which what code writes is what the definitions say, and the most that a record takes. Rests on Record and Answer.
use Rattle.std.specs.Prelude.{ℕ, zero, suc, ◌+◌, ◌*◌, ◌-◌, ◌≤◌, ◌<◌, min, ◌≡◌, List, [], ◌∷◌, ◌++◌, Bool, true, false, eqb, length, get_or, take, set, refl}
use Rattle.std.proofs.Common.{ap, sym, ◌∙◌, append-nil, length-append, length-take, take_all, take-take, length-take-le, arith, eq-eqb, ne_eqb}
use Rattle.std.proofs.Math.Nat.{min-eq_left, min-eq_right}
use Rattle.prelude.specs.Cases.{if◌then◌otherwise◌}
use Rattle.prelude.specs.Laws.Cases.{if_false}
use Rattle.prelude.specs.Span.{splice}
use Rattle.prelude.specs.Laws.Span.{splice_append, splice_before, set_splice}
use Rattle.prelude.specs.Number.{bytes_of}
use Rattle.prelude.specs.Laws.Number.{length_bytes}
use Rattle.prelude.specs.Texts.{contents}
use Rattle.bits.specs.Map.{bit}
use Rattle.format.specs.Format.{size, fields, is_text_bit}
use Rattle.format.specs.Wire.{encode, field_bytes, body, bytes}
use Rattle.records.specs.declared.LongText.{LongText}
use Rattle.records.specs.declared.Ids.{Ids}
use Rattle.records.specs.declared.Record.{Record}
use Rattle.records.specs.Fields.{numbers_of, high_of, text_by, short_bytes, long_bytes, spelled, words, held_by, held}
use Rattle.records.specs.Record.{record_bytes}
use Rattle.records.specs.Answer.{head_size, shortest_answer, most_record, most_answer, messages_bytes, head_bytes, answer_bytes, chosen}

-- ---- texts in their room

pub record Cut (n len : ℕ) (l w : List ℕ) (k : ℕ) : Type 0 where
  pub is : w ≡ take k l
  pub long : length w ≡ k

pub cut_fits : (n len : ℕ) (l : List ℕ) → length l ≡ n → len ≤ n → Cut n len l (take n (take len l)) len
cut_fits n len l e h =
    let k : length (take len l) ≡ len = length-take-le len l (omega arith) in
    let q : take n (take len l) ≡ take len l = take_all n (take len l) (omega arith) in
    record { is = q; long = ap length q ∙ k }

pub cut_over : (n len : ℕ) (l : List ℕ) → length l ≡ n → n < len → Cut n len l (take n (take len l)) n
cut_over n len l e h =
    let q : take n (take len l) ≡ take n l = take-take n len l (omega arith) in
    record { is = q; long = ap length q ∙ length-take-le n l (omega arith) }

-- ---- a field by its bit

module _ (m : ℕ) (n : List ℕ) (high : ℕ) (ids : Ids) (text : LongText) (b : ℕ) where
  abbrev field_b : List ℕ
  field_b = field_bytes m (held_by n high ids text) b

  pub field_off : bit m b ≡ false → field_b ≡ []
  unfolding field_bytes
  field_off e = if_false (bit m b) _ _ e

  module _ (on : bit m b ≡ true) where
    pub field_long_lem : is_text_bit b ≡ true → b ≡ 20 → field_b ≡ length (long_bytes text) ∷ long_bytes text
    unfolding field_bytes encode held_by spelled if◌then◌otherwise◌
    field_long_lem t e = rw (on, t, eq-eqb b 20 e) refl

    pub field_short : is_text_bit b ≡ true → (b ≡ 20 → ⊥) → field_b ≡ length (short_bytes (text_by ids b)) ∷ short_bytes (text_by ids b)
    unfolding field_bytes encode held_by spelled if◌then◌otherwise◌
    field_short t e = rw (on, t, ne_eqb b 20 e) refl

    pub field_number : is_text_bit b ≡ false → size b ≤ 8 → field_b ≡ bytes_of (size b) (get_or n b 0)
    unfolding field_bytes encode held_by words if◌then◌otherwise◌
    field_number t h =
        let z : size b - 8 ≡ 0 = omega arith in
        rw (on, t, min-eq_left h, z) (append-nil (bytes_of (size b) (get_or n b 0)))

    pub field_words : is_text_bit b ≡ false → 8 < size b → field_b ≡ bytes_of 8 (get_or n b 0) ++ bytes_of (size b - 8) high
    unfolding field_bytes encode held_by words if◌then◌otherwise◌
    field_words t h = let q : 8 ≤ size b = omega arith in rw (on, t, min-eq_right q) refl

-- ---- a record is its head and its fields

pub length_record : (r : Record) → length (record_bytes r) ≡ 5 + length (body r.map (held r) 32)
unfolding record_bytes bytes
length_record r = omega (arith, length-append (bytes_of 4 r.map) (body r.map (held r) 32), length_bytes 4 r.map)

-- the kind, the map and the fields, written one after the other
pub three : (d : List ℕ) (o q : ℕ) (r : Record) → o + length (record_bytes r) ≤ length d → q ≡ o + 5
    → splice (splice (set d o r.kind) (o + 1) (bytes_of 4 r.map)) q (body r.map (held r) 32) ≡ splice d o (record_bytes r)
unfolding record_bytes bytes
three d o q r h e =
    let k = r.kind in
    let w = bytes_of 4 r.map in
    let f = body r.map (held r) 32 in
    let l = length_bytes 4 r.map in
    let n = length-append w f in
    let x : q ≡ o + length (k ∷ w) = omega arith in
    rw (x, set_splice d o k (omega arith), splice_append d o (k ∷ []) w (omega arith)) (splice_append d o (k ∷ w) f (omega arith))

-- ---- the most that a record takes

-- the most that field b takes
abbrev pub most : ℕ → ℕ
most b = if is_text_bit b then (if eqb b 20 then 65 otherwise 33) otherwise size b

unfoldable sum_below : (ℕ → ℕ) → ℕ → ℕ
sum_below f zero = 0
sum_below f (suc n) = sum_below f n + f n

field_most : (r : Record) (b : ℕ) → length (field_bytes r.map (held r) b) ≤ most b
unfolding field_bytes encode held_by spelled words short_bytes long_bytes if◌then◌otherwise◌
field_most r b = go (bit r.map b) refl (is_text_bit b) refl (eqb b 20) refl
  where
    go : (x : Bool) → bit r.map b ≡ x → (y : Bool) → is_text_bit b ≡ y → (z : Bool) → eqb b 20 ≡ z → length (field_bytes r.map (held r) b) ≤ most b
    go false e y f z g = rw e (omega arith)
    go true e true f true g = rw (e, f, g) (omega (arith, length-take 64 (take r.text.len r.text.bytes)))
    go true e true f false g = rw (e, f, g) (omega (arith, length-take 32 (contents (text_by r.ids b))))
    go true e false f z g =
        rw (e, f)
        (omega (
          arith,
          length-append (bytes_of (min (size b) 8) (get_or (numbers_of r) b 0)) (bytes_of (size b - 8) (high_of r)),
          length_bytes (min (size b) 8) (get_or (numbers_of r) b 0),
          length_bytes (size b - 8) (high_of r),
        ))

body_most : (r : Record) (n : ℕ) → length (body r.map (held r) n) ≤ sum_below most n
unfolding body sum_below
body_most r zero = omega arith
body_most r (suc n) = simp length-append (omega (arith, body_most r n, field_most r n))

-- any record takes at most this
pub record_most : (r : Record) → length (record_bytes r) ≤ most_record
unfolding sum_below size fields if◌then◌otherwise◌
record_most r = let h : length (body r.map (held r) 32) ≤ most_record - 5 = body_most r 32 in omega (arith, length_record r)

-- ---- answers

pub length_head : (n count alarm alarm2 : ℕ) → length (head_bytes n count alarm alarm2) ≡ head_size
unfolding head_bytes
length_head n count alarm alarm2 = refl

pub length_answer : (alarm alarm2 : ℕ) (ms : List Record) → length (answer_bytes alarm alarm2 ms) ≡ head_size + length (messages_bytes ms)
unfolding answer_bytes
length_answer alarm alarm2 ms =
    length-append (head_bytes (head_size + length (messages_bytes ms)) (length ms) alarm alarm2) (messages_bytes ms)
    ∙ omega (arith, length_head (head_size + length (messages_bytes ms)) (length ms) alarm alarm2)

messages_most : (ms : List Record) (n : ℕ) → length ms ≤ n → length (messages_bytes ms) ≤ most_record * n
messages_most [] n h = omega arith
messages_most (m ∷ ms) zero h = absurd (omega arith)
messages_most (m ∷ ms) (suc n) h = simp length-append (omega (arith, record_most m, messages_most ms n (omega arith)))

-- and an answer of at most two this
pub answer_most : (alarm alarm2 : ℕ) (ms : List Record) → length ms ≤ 2 → length (answer_bytes alarm alarm2 ms) ≤ most_answer
answer_most alarm alarm2 ms h = omega (arith, length_answer alarm alarm2 ms, messages_most ms 2 h)

-- so the shortest buffer has room for one
pub answer_room : (ms : List Record) → length ms ≤ 2 → head_size + length (messages_bytes ms) ≤ shortest_answer
answer_room ms h = omega (arith, length_answer 0 0 ms, answer_most 0 0 ms h)

-- how many a count chooses
pub length_chosen : (count : ℕ) (first second : Record) → length (chosen count first second) ≡ min count 2
unfolding if◌then◌otherwise◌
length_chosen zero a b = refl
length_chosen (suc zero) a b = refl
length_chosen (suc (suc n)) a b =
    rw (ne_eqb (suc (suc n)) 0 (λ e. absurd (omega arith)), ne_eqb (suc (suc n)) 1 (λ e. absurd (omega arith))) (sym (min-eq_right (omega arith)))

-- the messages written, then the head before them
pub answer_splice : (d : List ℕ) (alarm alarm2 : ℕ) (ms : List Record) → head_size + length (messages_bytes ms) ≤ length d
    → splice (splice d head_size (messages_bytes ms)) 0 (head_bytes (head_size + length (messages_bytes ms)) (length ms) alarm alarm2) ≡ splice d 0 (answer_bytes alarm alarm2 ms)
unfolding answer_bytes
answer_splice d alarm alarm2 ms h =
    let w = head_bytes (head_size + length (messages_bytes ms)) (length ms) alarm alarm2 in
    let e : length w ≡ head_size = length_head (head_size + length (messages_bytes ms)) (length ms) alarm alarm2 in
    let z : head_size ≡ 0 + length w = omega arith in
    ap (λ (k : ℕ). splice (splice d k (messages_bytes ms)) 0 w) z ∙ splice_before d 0 w (messages_bytes ms) (omega arith)
