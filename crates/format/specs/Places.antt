-- Where the fields of a record stand in a buffer, and what they hold. Rests on Format.
use Rattle.std.specs.Prelude.{ℕ, zero, suc, ◌+◌, ◌-◌, List, Bool, true, ◌&&◌, length, get_or, take, drop, leb}
use Rattle.prelude.specs.Cases.{if◌then◌otherwise◌}
use Rattle.prelude.specs.Span.{span}
use Rattle.prelude.specs.Number.{number, word32}
use Rattle.bits.specs.Map.{bit}
use Rattle.format.specs.Format.{size, range, is_text_bit, in_range, bits_right}

-- the bytes that field b takes if it starts at `at`; past the end a length byte counts as 0
unfoldable pub extent : List ℕ → ℕ → ℕ → ℕ
extent s b at = if is_text_bit b then 1 + get_or s at 0 otherwise size b

-- where the field after b starts
unfoldable pub next : List ℕ → ℕ → ℕ → ℕ → ℕ
next s m b at = if bit m b then at + extent s b at otherwise at

-- where field b starts, in a record with the map m that starts at o
unfoldable pub start : List ℕ → ℕ → ℕ → ℕ → ℕ
start s o m zero = o + 5
start s o m (suc b) = next s m b (start s o m b)

-- a field's bytes without the length of a text
unfoldable pub strip : ℕ → List ℕ → List ℕ
strip b l = if is_text_bit b then drop 1 l otherwise l

-- the bytes of field b, none if its bit does not stand, and what it holds
unfoldable pub part : List ℕ → ℕ → ℕ → ℕ → List ℕ
part s o m b = span s (start s o m b) (start s o m (suc b) - start s o m b)

unfoldable pub content : List ℕ → ℕ → ℕ → ℕ → List ℕ
content s o m b = strip b (part s o m b)

-- the number that a field holds, the low word of a longer one; of a text its length
unfoldable pub value : ℕ → List ℕ → ℕ
value b l = if is_text_bit b then length l otherwise number (take 8 l)

-- ---- a record at o

abbrev pub kind_at : List ℕ → ℕ → ℕ
kind_at s o = get_or s o 0

abbrev pub map_at : List ℕ → ℕ → ℕ
map_at s o = word32 s (o + 1)

-- where it ends
unfoldable pub end_of : List ℕ → ℕ → ℕ
end_of s o = start s o (map_at s o) 32

-- it has a kind, that kind's bits, and all its fields
unfoldable pub shaped : List ℕ → ℕ → Bool
shaped s o = leb (o + 5) (length s) && (bits_right (kind_at s o) (map_at s o) && leb (end_of s o) (length s))

-- a field that stands is in its range
unfoldable pub right_at : List ℕ → ℕ → ℕ → ℕ → Bool
right_at s o m b = if bit m b then in_range (range b) (value b (content s o m b)) otherwise true
