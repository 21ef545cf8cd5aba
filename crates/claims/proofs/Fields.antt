-- Every field that stands in a message's map has bytes in its record: the bits without a byte are no message's. Rests on format's tables and records' Right.
use Rattle.std.proofs.Common.{ℕ, ◌+◌, ◌≤◌, ◌<◌, arith, ◌≡◌, refl, ⊎_elim, Bool, true, false, not, ◌||◌, List, [], ◌∷◌, map, leb, ltb, length, get_or, leb-true, ltb-true, lt-ltb}
use Rattle.std.proofs.lemmas.Bool.{not-true, and_parts, or_cases}
use Rattle.prelude.specs.Below.{all_below}
use Rattle.prelude.specs.Laws.Below.{all_elim, count_ext}
use Rattle.prelude.specs.Cases.{if◌then◌otherwise◌}
use Rattle.prelude.specs.Laws.Cases.{clash}
use Rattle.bits.specs.Map.{bit, standing, contains}
use Rattle.bits.specs.Laws.Map.{contains_bit}
use Rattle.format.specs.Format.{fields, size, is_text_bit, is_kind, required_bits, allowed_bits, required, allowed, joined, bits_right}
use Rattle.format.specs.Laws.Format.{kind_small}
use Rattle.format.specs.Wire.{encode, field_bytes}
use Rattle.records.specs.Fields.{numbers_of, high_of, held_by, held}
use Rattle.records.specs.Record.{is_record, is_message}
use Rattle.records.specs.Answer.{are_messages}
use Rattle.records.specs.Laws.Right.{right, length_words}
use Rattle.machine.specs.Changes.{Message}
use Rattle.needs.specs.Needs.{field_count}
use Rattle.claims.specs.Needs.{written_fields}

-- ---- the table

-- a bit that a kind of message may have takes bytes
abbrev takes : (kind b : ℕ) → Bool
takes kind b = not (bit (required kind + allowed kind) b) || ltb 0 (size b)

table : all_below (λ k. ltb k 16 || all_below (takes k) 32) 21 ≡ true
unfolding all_below required allowed required_bits allowed_bits size fields
table = refl

size_above : (kind b : ℕ) → 16 ≤ kind → kind < 21 → b < 32 → bit (required kind + allowed kind) b ≡ true → 0 < size b
size_above kind b h l m e =
    ⊎_elim (λ p. let q : kind < 16 = ltb-true kind 16 p in absurd (omega arith))
    (λ p. ⊎_elim (λ q. clash _ e (not-true _ q)) (λ q. ltb-true 0 (size b) q)
    (or_cases (not (bit (required kind + allowed kind) b)) (ltb 0 (size b)) (all_elim (takes kind) 32 p b m)))
    (or_cases (ltb kind 16) (all_below (takes kind) 32) (all_elim (λ k. ltb k 16 || all_below (takes k) 32) 21 table kind l))

-- ---- one message

module _ (m : Message) (ok : is_message m ≡ true) where
  both : (is_record m ≡ true) × (leb 16 m.kind ≡ true)
  unfolding is_message
  both = and_parts (is_record m) (leb 16 m.kind) ok

  stands : (b : ℕ) → b < 32 → bit m.map b ≡ true → 0 < size b
  unfolding bits_right
  stands b l e =
      let k : ℕ = m.kind in
      let (kind, rest) = and_parts (is_kind k) _ (right m both.0).bits in
      let (_, more) = and_parts (contains m.map (required k)) _ rest in
      let (within, _) = and_parts (contains (required k + allowed k) m.map) (joined k m.map) more in
      size_above k b (leb-true 16 k both.1) (kind_small k kind) l (contains_bit (required k + allowed k) m.map b within e)

  -- a text has its length byte, a number its size
  encoded : (b : ℕ) → b < 32 → bit m.map b ≡ true → 0 < length (encode b (held m b))
  unfolding encode held_by if◌then◌otherwise◌
  encoded b l e = go (is_text_bit b) refl
    where
      go : (t : Bool) → is_text_bit b ≡ t → 0 < length (encode b (held m b))
      go true t = rw t (omega arith)
      go false t = rw t (omega (arith, length_words (size b) (get_or (numbers_of m) b 0) (high_of m), stands b l e))

  field : (b : ℕ) → b < 32 → ltb 0 (length (field_bytes m.map (held m) b)) ≡ bit m.map b
  unfolding field_bytes if◌then◌otherwise◌
  field b l = go (bit m.map b) refl
    where
      go : (t : Bool) → bit m.map b ≡ t → ltb 0 (length (field_bytes m.map (held m) b)) ≡ bit m.map b
      go true e = rw e (lt-ltb 0 _ (encoded b l e))
      go false e = rw e refl

  written : written_fields m ≡ field_count m
  unfolding field_count standing
  written = count_ext (λ b. ltb 0 (length (field_bytes m.map (held m) b))) (bit m.map) 32 field

-- ---- messages

pub fields_written : (ms : List Message) → are_messages ms ≡ true → map written_fields ms ≡ map field_count ms
fields_written [] ok = refl
fields_written (m ∷ ms) ok =
    let (first, rest) = and_parts (is_message m) (are_messages ms) ok in
    λ i. written m first i ∷ fields_written ms rest i
