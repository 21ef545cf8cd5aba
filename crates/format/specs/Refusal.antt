-- Whether bytes are a record, and why not: 3 for the shape of the whole, before 4 for a range. Rests on Places and Codes.
use Rattle.std.specs.Prelude.{ℕ, List, Bool, true, ◌&&◌, length, eqb, leb}
use Rattle.prelude.specs.Cases.{if◌then◌otherwise◌}
use Rattle.prelude.specs.Below.{all_below}
use Rattle.prelude.specs.Texts.{text_of}
use Rattle.prelude.specs.declared.Text.{Text}
use Rattle.bits.specs.Map.{bit}
use Rattle.format.specs.Codes.{is_name}
use Rattle.format.specs.Places.{content, kind_at, map_at, end_of, shaped, right_at}

-- an order name is one
unfoldable pub name_in : ℕ → Text → Bool
name_in m t = if bit m 2 then is_name t otherwise true

-- every field is in its range
unfoldable pub ranged : List ℕ → ℕ → Bool
ranged s o = all_below (right_at s o (map_at s o)) 32 && name_in (map_at s o) (text_of (content s o (map_at s o) 2))

-- 3 for the shape of the whole record, before 4 for a range
abbrev pub refusal_by : Bool → Bool → ℕ
refusal_by shape range = if shape then (if range then 0 otherwise 4) otherwise 3

unfoldable pub record_refusal : List ℕ → ℕ → ℕ
record_refusal s o = refusal_by (shaped s o) (ranged s o)

-- ---- events: kinds 1 to 9, no byte over

unfoldable pub event_refusal : List ℕ → ℕ
event_refusal s = refusal_by (shaped s 0 && (leb (kind_at s 0) 9 && eqb (end_of s 0) (length s))) (ranged s 0)

-- ---- messages: kinds 16 to 20, anywhere in a buffer

unfoldable pub message_shaped : List ℕ → ℕ → Bool
message_shaped s o = shaped s o && leb 16 (kind_at s o)

unfoldable pub message_refusal : List ℕ → ℕ → ℕ
message_refusal s o = refusal_by (message_shaped s o) (ranged s o)
