-- Events and messages: their bytes, the record that bytes are, and which records are right. Rests on Fields and format's Refusal.
use Rattle.std.specs.Prelude.{ℕ, min, List, Bool, ◌&&◌, ◌||◌, length, get_or, eqb, leb, ltb}
use Rattle.prelude.specs.Cases.{if◌then◌otherwise◌}
use Rattle.prelude.specs.Below.{all_below}
use Rattle.prelude.specs.Number.{bound}
use Rattle.prelude.specs.Texts.{is_text}
use Rattle.prelude.specs.declared.Text.{Text}
use Rattle.bits.specs.Map.{bit}
use Rattle.format.specs.Format.{size, range, in_range, bits_right}
use Rattle.format.specs.Places.{content, kind_at, map_at}
use Rattle.format.specs.Refusal.{name_in, event_refusal, message_refusal}
use Rattle.format.specs.Wire.{bytes}
use Rattle.records.specs.declared.LongText.{LongText}
use Rattle.records.specs.declared.Record.{Record}
use Rattle.records.specs.Fields.{numbers_of, high_of, held, record_of, blank}

-- the writing of a record: kind, map, and the fields whose bit stands
unfoldable pub record_bytes : Record → List ℕ
record_bytes r = bytes r.kind r.map (held r)

-- ---- a record that starts at o

unfoldable pub record_at : List ℕ → ℕ → Record
record_at s o = record_of (kind_at s o) (map_at s o) (content s o (map_at s o))

-- ---- events

unfoldable pub event_in : List ℕ → Record
event_in s = if eqb (event_refusal s) 0 then record_at s 0 otherwise blank

-- ---- messages

unfoldable pub message_of : List ℕ → ℕ → Record
message_of s o = if eqb (message_refusal s o) 0 then record_at s o otherwise blank

-- ---- records that are right

-- a field that stands is in its range and fits its bytes; one that does not is 0
abbrev pub field_right : Record → ℕ → Bool
field_right r b =
    if bit r.map b then in_range (range b) (get_or (numbers_of r) b 0) && ltb (get_or (numbers_of r) b 0) (bound (min (size b) 8)) otherwise eqb (get_or (numbers_of r) b 0) 0

-- a text as it is stored: zeros behind it
unfoldable pub is_short : Text → Bool
is_short t = eqb (length t.bytes) 32 && is_text t

unfoldable pub is_long : LongText → Bool
is_long t = eqb (length t.bytes) 64 && (leb t.len 64 && all_below (λ k. ltb k t.len || eqb (get_or t.bytes k 0) 0) 64)

unfoldable pub texts_right : Record → Bool
texts_right r =
    is_short r.ids.name
    && (is_short r.ids.clordid
    && (is_short r.ids.origclordid
    && (is_short r.ids.downstream
    && (is_short r.ids.symbol && (is_short r.ids.venueorderid && (is_short r.ids.origdownstream && is_long r.text))))))

-- the fill price has two words
unfoldable pub price_right : Record → Bool
price_right r = eqb (length r.told.fillprice) 2 && (if bit r.map 26 then ltb (high_of r) (bound 8) otherwise eqb (high_of r) 0)

unfoldable pub is_record : Record → Bool
is_record r =
    bits_right r.kind r.map
    && (ltb r.map (bound 4)
    && (all_below (field_right r) 32
    && (name_in r.map r.ids.name && (texts_right r && price_right r))))

unfoldable pub is_event : Record → Bool
is_event r = is_record r && leb r.kind 9

unfoldable pub is_message : Record → Bool
is_message r = is_record r && leb 16 r.kind
