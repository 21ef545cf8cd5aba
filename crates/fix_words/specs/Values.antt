-- What a record's fields are in FIX: the table of each kind, the value of each bit, and what a value holds. Rests on Rows and format.
use Rattle.std.specs.Prelude.{ℕ, ◌-◌, List, [], ◌∷◌, ◌++◌, Bool, true, false, ◌||◌, eqb, get_or, Option, None, Some}
use Rattle.prelude.specs.Cases.{if◌then◌otherwise◌, maybe}
use Rattle.prelude.specs.Below.{first_below}
use Rattle.prelude.specs.Number.{number, bytes_of}
use Rattle.bits.specs.Map.{bit}
use Rattle.format.specs.Codes.{within}
use Rattle.format.specs.Format.{size, range, is_text_bit, required, quantity, price, side, status}
use Rattle.fix_words.specs.Lists.{same, after}
use Rattle.decimal.specs.Decimal.{decimal, digits, number_in}
use Rattle.fix_words.specs.Rows.{Row, Values, in_rows}

-- ---- the tables

abbrev must : ℕ → ℕ → Row
must t b = record { tag = t; bit = b; must = true }

abbrev may : ℕ → ℕ → Row
may t b = record { tag = t; bit = b; must = false }

-- kinds 16 to 20
unfoldable pub tables : List (List Row)
tables =
    (must 37 2 ∷ must 11 3 ∷ may 41 4 ∷ must 55 6 ∷ must 54 7 ∷ must 40 8 ∷ must 38 9 ∷ may 44 10 ∷ may 59 11 ∷ must 150 12 ∷ must 39 13 ∷ must 32 14
    ∷ must 14 16 ∷ must 6 17 ∷ may 103 19 ∷ may 58 20 ∷ must 151 24 ∷ must 17 25 ∷ must 31 26 ∷ may 58 27 ∷ [])
    ∷ (must 37 2 ∷ must 11 3 ∷ must 41 4 ∷ must 39 13 ∷ must 102 19 ∷ must 58 20 ∷ must 434 29 ∷ [])
    ∷ (must 11 5 ∷ must 55 6 ∷ must 54 7 ∷ must 40 8 ∷ must 38 9 ∷ may 44 10 ∷ may 59 11 ∷ [])
    ∷ (must 11 5 ∷ must 55 6 ∷ must 54 7 ∷ must 38 9 ∷ may 37 18 ∷ must 41 30 ∷ [])
    ∷ (must 11 5 ∷ must 55 6 ∷ must 54 7 ∷ must 40 8 ∷ must 38 9 ∷ may 44 10 ∷ may 59 11 ∷ may 37 18 ∷ must 41 30 ∷ [])
    ∷ []

unfoldable pub rows : ℕ → List Row
rows k = get_or tables (k - 16) []

-- MsgType: 8 9 D F G
unfoldable pub types : List ℕ
types = 56 ∷ 57 ∷ 68 ∷ 70 ∷ 71 ∷ []

unfoldable pub type_of : ℕ → ℕ
type_of k = get_or types (k - 16) 0

unfoldable pub kind_of : ℕ → ℕ
kind_of c =
    if eqb c 56 then 16 otherwise
    if eqb c 57 then 17 otherwise
    if eqb c 68 then 18 otherwise
    if eqb c 70 then 19 otherwise
    if eqb c 71 then 20 otherwise
    0

-- ---- fixed texts

-- the fixed texts 1 to 18
unfoldable pub texts : List (List ℕ)
texts =
    []
    ∷ (103 ∷ 97 ∷ 116 ∷ 101 ∷ 119 ∷ 97 ∷ 121 ∷ 32 ∷ 105 ∷ 115 ∷ 32 ∷ 99 ∷ 97 ∷ 110 ∷ 99 ∷ 101 ∷ 108 ∷ 108 ∷ 105 ∷ 110 ∷ 103 ∷ [])  -- 1 gateway is cancelling
    ∷ (114 ∷ 101 ∷ 112 ∷ 108 ∷ 97 ∷ 99 ∷ 101 ∷ 32 ∷ 112 ∷ 101 ∷ 110 ∷ 100 ∷ 105 ∷ 110 ∷ 103 ∷ [])  -- 2 replace pending
    ∷ (98 ∷ 101 ∷ 108 ∷ 111 ∷ 119 ∷ 32 ∷ 102 ∷ 105 ∷ 108 ∷ 108 ∷ 101 ∷ 100 ∷ [])  -- 3 below filled
    ∷ (98 ∷ 108 ∷ 111 ∷ 99 ∷ 107 ∷ 101 ∷ 100 ∷ [])  -- 4 blocked
    ∷ (100 ∷ 117 ∷ 112 ∷ 108 ∷ 105 ∷ 99 ∷ 97 ∷ 116 ∷ 101 ∷ [])  -- 5 duplicate
    ∷ (117 ∷ 110 ∷ 107 ∷ 110 ∷ 111 ∷ 119 ∷ 110 ∷ 32 ∷ 111 ∷ 114 ∷ 100 ∷ 101 ∷ 114 ∷ [])  -- 6 unknown order
    ∷ (111 ∷ 114 ∷ 100 ∷ 101 ∷ 114 ∷ 32 ∷ 105 ∷ 115 ∷ 32 ∷ 100 ∷ 111 ∷ 110 ∷ 101 ∷ [])  -- 7 order is done
    ∷ (116 ∷ 111 ∷ 111 ∷ 32 ∷ 109 ∷ 97 ∷ 110 ∷ 121 ∷ 32 ∷ 114 ∷ 101 ∷ 113 ∷ 117 ∷ 101 ∷ 115 ∷ 116 ∷ 115 ∷ [])  -- 8 too many requests
    ∷ (115 ∷ 105 ∷ 100 ∷ 101 ∷ 32 ∷ 111 ∷ 114 ∷ 32 ∷ 115 ∷ 121 ∷ 109 ∷ 98 ∷ 111 ∷ 108 ∷ [])  -- 9 side or symbol
    ∷ (114 ∷ 101 ∷ 106 ∷ 101 ∷ 99 ∷ 116 ∷ 101 ∷ 100 ∷ 32 ∷ 98 ∷ 121 ∷ 32 ∷ 116 ∷ 104 ∷ 101 ∷ 32 ∷ 118 ∷ 101 ∷ 110 ∷ 117 ∷ 101 ∷ [])  -- 10 rejected by the venue
    ∷ (110 ∷ 111 ∷ 116 ∷ 32 ∷ 115 ∷ 101 ∷ 110 ∷ 116 ∷ 32 ∷ 98 ∷ 101 ∷ 102 ∷ 111 ∷ 114 ∷ 101 ∷ 32 ∷ 114 ∷ 101 ∷ 115 ∷ 116 ∷ 97 ∷ 114 ∷ 116 ∷ [])  -- 11 not sent before restart
    ∷ (83 ∷ 121 ∷ 109 ∷ 98 ∷ 111 ∷ 108 ∷ [])  -- 12 Symbol
    ∷ (79 ∷ 114 ∷ 100 ∷ 101 ∷ 114 ∷ 81 ∷ 116 ∷ 121 ∷ [])  -- 13 OrderQty
    ∷ (78 ∷ 111 ∷ 82 ∷ 101 ∷ 102 ∷ 101 ∷ 114 ∷ 101 ∷ 110 ∷ 99 ∷ 101 ∷ 80 ∷ 114 ∷ 105 ∷ 99 ∷ 101 ∷ [])  -- 14 NoReferencePrice
    ∷ (78 ∷ 111 ∷ 116 ∷ 105 ∷ 111 ∷ 110 ∷ 97 ∷ 108 ∷ [])  -- 15 Notional
    ∷ (80 ∷ 114 ∷ 105 ∷ 99 ∷ 101 ∷ 66 ∷ 97 ∷ 110 ∷ 100 ∷ [])  -- 16 PriceBand
    ∷ (83 ∷ 101 ∷ 108 ∷ 102 ∷ 84 ∷ 114 ∷ 97 ∷ 100 ∷ 101 ∷ [])  -- 17 SelfTrade
    ∷ (67 ∷ 114 ∷ 101 ∷ 100 ∷ 105 ∷ 116 ∷ [])  -- 18 Credit
    ∷ []

unfoldable pub fixed_text : ℕ → List ℕ
fixed_text n = get_or texts n []

-- NONE
abbrev pub none_text : List ℕ
none_text = 78 ∷ 79 ∷ 78 ∷ 69 ∷ []

-- the number of a fixed text, 0 if it is none
unfoldable pub fixed_text_number : List ℕ → ℕ
fixed_text_number v = maybe 0 (λ n. n) (first_below (λ n. same (fixed_text n) v) 19)

-- ---- values

-- texts and codes stand as they are
unfoldable pub is_plain : ℕ → Bool
is_plain b = is_text_bit b || within side status (range b)

-- quantities have four decimals, prices eight, 26 among them
unfoldable pub places : ℕ → ℕ
places b = if eqb (range b) quantity then 4 otherwise if eqb (range b) price || eqb b 26 then 8 otherwise 0

unfoldable pub spelling : ℕ → List ℕ → List ℕ
spelling b c = if is_plain b then c otherwise decimal (places b) (number c)

abbrev pub over : (List ℕ → List ℕ) → Option (List ℕ) → Option (List ℕ)
over f None = None
over f (Some c) = Some (f c)

abbrev pub or_else : List ℕ → Option (List ℕ) → List ℕ
or_else d None = d
or_else d (Some c) = c

abbrev pub either : Option (List ℕ) → Option (List ℕ) → Option (List ℕ)
either None o = o
either (Some c) o = Some c

-- the order's name, a point and the report sequence
abbrev pub exec_id : Option (List ℕ) → List ℕ → List ℕ
exec_id name c = or_else [] name ++ (46 ∷ digits (number c))

abbrev pub fixed_text_in : List ℕ → List ℕ
fixed_text_in c = fixed_text (get_or c 0 0)

-- the FIX value of bit b, from what each bit of the record holds; a reject (17) names an order or NONE, and has one text of either kind
unfoldable pub value_of : ℕ → Values → ℕ → Option (List ℕ)
value_of k at b =
    if eqb b 2 then (if eqb k 17 then Some (or_else none_text (at 2)) otherwise at 2) otherwise
    if eqb b 20 then (if eqb k 17 then either (at 20) (over fixed_text_in (at 27)) otherwise at 20) otherwise
    if eqb b 25 then over (exec_id (at 2)) (at 25) otherwise
    if eqb b 27 then over fixed_text_in (at 27) otherwise
    over (spelling b) (at b)

-- ---- what a value holds, read loosely

unfoldable pub unspelled : ℕ → List ℕ → List ℕ
unspelled b v = if is_plain b then v otherwise bytes_of (size b) (number_in v)

abbrev pub unless_none : Option (List ℕ) → Option (List ℕ)
unless_none None = None
unless_none (Some v) = if same v none_text then None otherwise Some v

-- what bit b holds, from its FIX value
unfoldable pub held_in : ℕ → Option (List ℕ) → Option (List ℕ)
held_in b v =
    if eqb b 2 then unless_none v otherwise
    if eqb b 25 then over (λ x. bytes_of 8 (number_in (after 46 x))) v otherwise
    if eqb b 27 then over (λ x. fixed_text_number x ∷ []) v otherwise
    over (unspelled b) v

-- a bit that is not carried: if it must stand, some value in its range; the origin stands with its reason
unfoldable pub unsaid : ℕ → Option (List ℕ) → ℕ → Option (List ℕ)
unsaid k reason b =
    if eqb b 28 then over (λ v. 1 ∷ []) reason otherwise
    if bit (required k) b then Some (bytes_of (size b) (if eqb b 8 then 49 otherwise 0)) otherwise
    None

unfoldable pub contents : ℕ → Values → ℕ → Option (List ℕ)
contents k vs b = if in_rows (rows k) b then held_in b (vs b) otherwise unsaid k (vs 19) b
