-- The table of the format: what each field takes and may hold, and which bits each kind of record has. Rests on Codes and bits.
use Rattle.std.specs.Prelude.{ℕ, ◌+◌, List, [], ◌∷◌, Bool, true, ◌&&◌, ◌||◌, get_or, eqb, leb}
use Rattle.prelude.specs.Cases.{if◌then◌otherwise◌}
use Rattle.bits.specs.Map.{digit, map_of, contains}
use Rattle.format.specs.Codes.{within, is_side, is_ordtype, is_timeinforce, is_status, is_exectype, is_qty, is_price}

-- ---- fields

-- the ranges, by number
abbrev pub any : ℕ
any = 0

abbrev pub quantity : ℕ
quantity = 1

abbrev pub price : ℕ
price = 2

abbrev pub side : ℕ
side = 3

abbrev pub ordtype : ℕ
ordtype = 4

abbrev pub timeinforce : ℕ
timeinforce = 5

abbrev pub exectype : ℕ
exectype = 6

abbrev pub status : ℕ
status = 7

abbrev pub verdict : ℕ
verdict = 8

abbrev pub fixedtext : ℕ
fixedtext = 9

abbrev pub either : ℕ
either = 10

abbrev pub to16 : ℕ
to16 = 11

abbrev pub to20 : ℕ
to20 = 12

abbrev pub to32 : ℕ
to32 = 13

abbrev pub to64 : ℕ
to64 = 14

abbrev pub upto32 : ℕ
upto32 = 15

abbrev pub source : ℕ
source = 16

-- whether a number, or the length of a text, is in a range
unfoldable pub in_range : ℕ → ℕ → Bool
in_range g v =
    if eqb g any then true otherwise
    if eqb g quantity then is_qty v otherwise
    if eqb g price then is_price v otherwise
    if eqb g side then is_side v otherwise
    if eqb g ordtype then is_ordtype v otherwise
    if eqb g timeinforce then is_timeinforce v otherwise
    if eqb g exectype then is_exectype v otherwise
    if eqb g status then is_status v otherwise
    if eqb g verdict then leb v 7 otherwise
    if eqb g fixedtext then within 1 18 v otherwise
    if eqb g either then within 1 2 v otherwise
    if eqb g to16 then within 1 16 v otherwise
    if eqb g to20 then within 1 20 v otherwise
    if eqb g to32 then within 1 32 v otherwise
    if eqb g to64 then within 1 64 v otherwise
    if eqb g source then leb v 3 otherwise
    leb v 32

-- the bytes of a number, or `text`: a length byte and as many bytes
pub record Field : Type 0 where
  pub size : ℕ
  pub range : ℕ

abbrev pub text : ℕ
text = 255

abbrev row : ℕ → ℕ → Field
row n g = record { size = n; range = g }

unfoldable pub fields : List Field
fields =
    row 2 any  -- 0 client
    ∷ row 2 any  -- 1 venue
    ∷ row text to20  -- 2 order name
    ∷ row text to32  -- 3 ClOrdID
    ∷ row text to32  -- 4 OrigClOrdID
    ∷ row text to32  -- 5 downstream ClOrdID
    ∷ row text to16  -- 6 symbol
    ∷ row 1 side  -- 7
    ∷ row 1 ordtype  -- 8
    ∷ row 8 quantity  -- 9
    ∷ row 8 price  -- 10
    ∷ row 1 timeinforce  -- 11
    ∷ row 1 exectype  -- 12
    ∷ row 1 status  -- 13
    ∷ row 8 quantity  -- 14 LastQty
    ∷ row 8 price  -- 15 LastPx
    ∷ row 8 quantity  -- 16 CumQty
    ∷ row 8 price  -- 17 AvgPx
    ∷ row text upto32  -- 18 venue OrderID
    ∷ row 4 any  -- 19 reason
    ∷ row text to64  -- 20 text
    ∷ row 0 any  -- 21 redelivered
    ∷ row 0 any  -- 22 blocked
    ∷ row 1 verdict  -- 23
    ∷ row 8 quantity  -- 24 LeavesQty
    ∷ row 8 any  -- 25 report sequence
    ∷ row 16 any  -- 26 fill price
    ∷ row 1 fixedtext  -- 27
    ∷ row 1 either  -- 28 reason's origin
    ∷ row 1 either  -- 29 response-to
    ∷ row text to32  -- 30 original downstream
    ∷ row 1 source  -- 31 source of the fill price
    ∷ []

unfoldable pub size : ℕ → ℕ
size b = (get_or fields b (row 0 any)).size

unfoldable pub range : ℕ → ℕ
range b = (get_or fields b (row 0 any)).range

abbrev pub is_text_bit : ℕ → Bool
is_text_bit b = eqb (size b) text

-- ---- kinds

-- kinds 1 to 9 are events, 16 to 20 messages
unfoldable pub is_kind : ℕ → Bool
is_kind k = within 1 9 k || within 16 20 k

unfoldable pub required_bits : List (List ℕ)
required_bits =
    []
    ∷ (0 ∷ 1 ∷ 2 ∷ 3 ∷ 6 ∷ 7 ∷ 8 ∷ 9 ∷ [])  -- 1 book
    ∷ (0 ∷ 3 ∷ 4 ∷ 6 ∷ 7 ∷ [])  -- 2 cancel
    ∷ (0 ∷ 3 ∷ 4 ∷ 6 ∷ 7 ∷ 9 ∷ 23 ∷ [])  -- 3 replace
    ∷ (1 ∷ 5 ∷ 12 ∷ 14 ∷ 15 ∷ 16 ∷ 17 ∷ [])  -- 4 venue report
    ∷ (1 ∷ 5 ∷ [])  -- 5 unknown at venue
    ∷ (1 ∷ 5 ∷ [])  -- 6 cancel reject
    ∷ (1 ∷ 5 ∷ 20 ∷ [])  -- 7 send failed
    ∷ (1 ∷ 5 ∷ [])  -- 8 send again
    ∷ (2 ∷ [])  -- 9 gateway cancel
    ∷ [] ∷ [] ∷ [] ∷ [] ∷ [] ∷ []
    ∷ (0 ∷ 2 ∷ 3 ∷ 6 ∷ 7 ∷ 8 ∷ 9 ∷ 12 ∷ 13 ∷ 14 ∷ 16 ∷ 17 ∷ 24 ∷ 25 ∷ 26 ∷ 31 ∷ [])  -- 16 report
    ∷ (0 ∷ 3 ∷ 4 ∷ 13 ∷ 19 ∷ 28 ∷ 29 ∷ [])  -- 17 cancel reject
    ∷ (1 ∷ 5 ∷ 6 ∷ 7 ∷ 8 ∷ 9 ∷ [])  -- 18 new order
    ∷ (1 ∷ 5 ∷ 6 ∷ 7 ∷ 8 ∷ 9 ∷ 30 ∷ [])  -- 19 cancel
    ∷ (1 ∷ 5 ∷ 6 ∷ 7 ∷ 8 ∷ 9 ∷ 30 ∷ [])  -- 20 replace
    ∷ []

unfoldable pub allowed_bits : List (List ℕ)
allowed_bits =
    []
    ∷ (10 ∷ 11 ∷ [])  -- 1 book
    ∷ (21 ∷ [])  -- 2 cancel
    ∷ (8 ∷ 10 ∷ 11 ∷ 21 ∷ 22 ∷ [])  -- 3 replace
    ∷ (13 ∷ 18 ∷ 19 ∷ 20 ∷ [])  -- 4 venue report
    ∷ []  -- 5 unknown at venue
    ∷ (13 ∷ 18 ∷ 19 ∷ 20 ∷ [])  -- 6 cancel reject
    ∷ []  -- 7 send failed
    ∷ []  -- 8 send again
    ∷ []  -- 9 gateway cancel
    ∷ [] ∷ [] ∷ [] ∷ [] ∷ [] ∷ []
    ∷ (4 ∷ 10 ∷ 11 ∷ 19 ∷ 20 ∷ 27 ∷ 28 ∷ [])  -- 16 report
    ∷ (2 ∷ 20 ∷ 27 ∷ [])  -- 17 cancel reject
    ∷ (10 ∷ 11 ∷ [])  -- 18 new order
    ∷ (10 ∷ 11 ∷ 18 ∷ [])  -- 19 cancel
    ∷ (10 ∷ 11 ∷ 18 ∷ [])  -- 20 replace
    ∷ []

unfoldable pub required : ℕ → ℕ
required k = map_of (get_or required_bits k [])

unfoldable pub allowed : ℕ → ℕ
allowed k = map_of (get_or allowed_bits k [])

-- a report has a reason with its origin, and at most one text; a cancel reject has exactly one
unfoldable pub joined : ℕ → ℕ → Bool
joined k m =
    if eqb k 16 then eqb (digit m 19) (digit m 28) && leb (digit m 20 + digit m 27) 1 otherwise
    if eqb k 17 then eqb (digit m 20 + digit m 27) 1 otherwise
    true

-- the kind is one of the list, and the map has the bits that it must have and none that it may not
unfoldable pub bits_right : ℕ → ℕ → Bool
bits_right k m = is_kind k && (contains m (required k) && (contains (required k + allowed k) m && joined k m))
