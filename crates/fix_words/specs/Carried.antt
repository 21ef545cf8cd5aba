-- What a message carries, said from the record's side: for each bit its tag, and how the value under it reads. Nothing here asks the tables of
-- rows or how a value is spelled. Rests on Record, Number and format.
use Rattle.std.specs.Prelude.{ℕ, zero, suc, ◌<◌, ◌≡◌, List, [], ◌∷◌, ◌++◌, Bool, true, false, not, ◌&&◌, ◌||◌, eqb, leb, get_or}
use Rattle.prelude.specs.Cases.{if◌then◌otherwise◌}
use Rattle.prelude.specs.Number.{number}
use Rattle.bits.specs.Map.{bit}
use Rattle.format.specs.Codes.{listed}
use Rattle.format.specs.Format.{required, allowed}
use Rattle.format.specs.Places.{content, kind_at, map_at}
use Rattle.fix_words.specs.Number.{IsNumber}
use Rattle.fix_words.specs.Spelling.{Field, field, spellings}
use Rattle.fix_words.specs.Rows.{Row}
use Rattle.fix_words.specs.Values.{type_of, fixed_text, none_text}
use Rattle.fix_words.specs.Message.{version}
use Rattle.fix_words.specs.Record.{Session}

-- ---- the bits of a kind, and their tags

-- the tag of each bit, 0 if it has none; of a reject's reason it is CxlRejReason
abbrev tags : List ℕ
tags =
    0 ∷ 0 ∷ 37 ∷ 11 ∷ 41 ∷ 11 ∷ 55 ∷ 54 ∷ 40 ∷ 38 ∷ 44 ∷ 59 ∷ 150 ∷ 39 ∷ 32 ∷ 0
    ∷ 14 ∷ 6 ∷ 37 ∷ 103 ∷ 58 ∷ 0 ∷ 0 ∷ 0 ∷ 151 ∷ 17 ∷ 31 ∷ 58 ∷ 0 ∷ 434 ∷ 41 ∷ 0 ∷ []

unfoldable pub tag_for : ℕ → ℕ → ℕ
tag_for k b = if eqb k 17 && eqb b 19 then 102 otherwise get_or tags b 0

-- not carried: client, venue, whose a reason is, the price's source; in an OrderCancelRequest type, price and time in force. A reject's fixed
-- text stands at the place of its text.
unfoldable pub left_out : ℕ → ℕ → Bool
left_out k b = listed b (0 ∷ 1 ∷ 28 ∷ 31 ∷ []) || ((eqb k 19 && listed b (8 ∷ 10 ∷ 11 ∷ [])) || (eqb k 17 && eqb b 27))

-- the bits that a record of the kind may have, but those
unfoldable pub is_told : ℕ → ℕ → Bool
is_told k b = (bit (required k) b || bit (allowed k) b) && not (left_out k b)

-- what must stand: as in the record, and a reject's OrderID and text
unfoldable pub must_stand : ℕ → ℕ → Bool
must_stand k b = bit (required k) b || (eqb k 17 && (eqb b 2 || eqb b 20))

abbrev pub row_for : ℕ → ℕ → Row
row_for k b = record { tag = tag_for k b; bit = b; must = must_stand k b }

-- THE ROWS OF A KIND as the bits give them: of n bits from b on, in their order
abbrev pub rows_from : ℕ → ℕ → ℕ → List Row
rows_from k b zero = []
rows_from k b (suc n) = if is_told k b then row_for k b ∷ rows_from k (suc b) n otherwise rows_from k (suc b) n

-- ---- what a value holds

-- whether field b stands in the record, and its bytes there
abbrev pub stands : List ℕ → ℕ → Bool
stands s b = bit (map_at s 0) b

abbrev pub held : List ℕ → ℕ → List ℕ
held s b = content s 0 (map_at s 0) b

abbrev pub texts : List ℕ
texts = 2 ∷ 3 ∷ 4 ∷ 5 ∷ 6 ∷ 18 ∷ 20 ∷ 30 ∷ []

abbrev pub codes : List ℕ
codes = 7 ∷ 8 ∷ 11 ∷ 12 ∷ 13 ∷ []

abbrev pub quantities : List ℕ
quantities = 9 ∷ 14 ∷ 16 ∷ 24 ∷ []

abbrev pub prices : List ℕ
prices = 10 ∷ 17 ∷ 26 ∷ []

abbrev pub numbers : List ℕ
numbers = 19 ∷ 29 ∷ []

-- the value v is what field b of the record holds
pub record Holds (s : List ℕ) (b : ℕ) (v : List ℕ) : Type 0 where
  pub text : listed b texts ≡ true → v ≡ held s b
  pub code : listed b codes ≡ true → v ≡ held s b
  pub quantity : listed b quantities ≡ true → IsNumber 4 (number (held s b)) v
  pub price : listed b prices ≡ true → IsNumber 8 (number (held s b)) v
  pub whole : listed b numbers ≡ true → IsNumber 0 (number (held s b)) v
  -- the order's name, a point and the report sequence
  pub exec : b ≡ 25 → (d : List ℕ) × (v ≡ held s 2 ++ (46 ∷ d)) × IsNumber 0 (number (held s 25)) d
  -- the words of a fixed text
  pub words : b ≡ 27 → v ≡ fixed_text (number (held s 27))

-- the fields fs are those of bit b: one if it is carried and stands, else none
pub record Told (s : List ℕ) (b : ℕ) (fs : List Field) : Type 0 where
  pub there : is_told (kind_at s 0) b ≡ true → stands s b ≡ true → (v : List ℕ) × (fs ≡ field (tag_for (kind_at s 0) b) v ∷ []) × Holds s b v
  pub absent : stands s b ≡ false → (eqb (kind_at s 0) 17 && (eqb b 2 || eqb b 20)) ≡ false → fs ≡ []
  pub untold : is_told (kind_at s 0) b ≡ false → fs ≡ []

-- the fields of n bits from b on, one bit behind the other
abbrev pub in_turn : (ℕ → List Field) → ℕ → ℕ → List Field
in_turn parts b zero = []
in_turn parts b (suc n) = parts b ++ in_turn parts (suc b) n

-- 60 in D, F and G
abbrev pub stamps : ℕ → List ℕ → List Field
stamps k time = if leb 18 k then field 60 time ∷ [] otherwise []

-- THE FIELDS OF A MESSAGE, spelled one behind the other, are the session's, then those of the record's bits in turn, then 60 and 10
pub record Carried (s : List ℕ) (n : Session) (x : List ℕ) (fs : List Field) : Type 0 where
  pub length9 : List ℕ
  pub sequence34 : List ℕ
  pub sum10 : List ℕ
  pub parts : ℕ → List Field
  pub spelled : x ≡ spellings fs
  pub fields : fs
      ≡ field 8 version ∷ field 9 length9 ∷ field 35 (type_of (kind_at s 0) ∷ []) ∷ field 49 n.sender ∷ field 56 n.target
      ∷ field 34 sequence34 ∷ field 52 n.time ∷ (in_turn parts 0 32 ++ (stamps (kind_at s 0) n.time ++ (field 10 sum10 ∷ [])))
  pub sequence : IsNumber 0 n.sequence sequence34
  pub told : (b : ℕ) → b < 32 → Told s b (parts b)
  -- a reject without an order, and one with a fixed text
  pub no_order_lem : kind_at s 0 ≡ 17 → stands s 2 ≡ false → parts 2 ≡ field 37 none_text ∷ []
  pub fixed : kind_at s 0 ≡ 17 → stands s 20 ≡ false → parts 20 ≡ field 58 (fixed_text (number (held s 27))) ∷ []
