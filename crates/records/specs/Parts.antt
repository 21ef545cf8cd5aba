-- A message in place, as `parts::message_parts` gives it: where its fields stand and the numbers in them, or why there is none.
-- Rests on format's Places and Refusal.
use Rattle.std.specs.Prelude.{ℕ, ◌≤◌, ◌<◌, ◌≡◌, List, Bool, ◌&&◌, eqb, length, get_or, drop}
use Rattle.prelude.specs.Number.{number}
use Rattle.format.specs.Places.{start, content, value, map_at, end_of}
use Rattle.format.specs.Refusal.{refusal_by, message_shaped, ranged}
use Rattle.records.specs.declared.parts.Parts.{Parts}

-- a whole message record, no byte over
unfoldable pub whole_message : List ℕ → Bool
whole_message s = message_shaped s 0 && eqb (end_of s 0) (length s)

-- 3 for the shape of the whole, before 4 for a range
abbrev pub parts_refusal : List ℕ → ℕ
parts_refusal s = refusal_by (whole_message s) (ranged s 0)

-- a message that is taken; why another is not has the number parts_refusal
pub record PartsOf (s : List ℕ) (r : Parts) : Type 0 where
  pub taken : parts_refusal s ≡ 0
  pub map : r.map ≡ map_at s 0
  pub places : (k : ℕ) → k ≤ 32 → get_or r.at k 0 ≡ start s 0 (map_at s 0) k
  pub numbers : (b : ℕ) → b < 32 → get_or r.numbers b 0 ≡ value b (content s 0 (map_at s 0) b)
  pub high : r.high ≡ number (drop 8 (content s 0 (map_at s 0) 26))
