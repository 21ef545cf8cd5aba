-- Two-word numbers, division rounded to the nearest, and the price of a fill: the definitions that the contracts cite.
-- Rests on prelude's Cases. The laws by which a caller uses them are in Laws: Words, Rounding and Price.
use Rattle.std.specs.Prelude.{ℕ, ◌+◌, ◌-◌, ◌*◌, ◌/◌, ◌%◌, ◌^◌, Bool, ◌&&◌, ◌||◌, List, [], ◌∷◌, eqb, ltb, get_or}
use Rattle.prelude.specs.Cases.{if◌then◌otherwise◌}
use Rattle.wide.specs.declared.Priced.{Priced}

-- the number that two words stand for, the low word first
abbrev pub value : List ℕ → ℕ
value w = get_or w 0 0 + 2 ^ 64 * get_or w 1 0

-- the two words of a number
abbrev pub words : ℕ → List ℕ
words n = n % 2 ^ 64 ∷ (n / 2 ^ 64 ∷ [])

-- ---- division

-- what an exact half adds to a quotient: 1 to each, so that a half goes up
unfoldable pub at_half : (quotient : ℕ) → ℕ
at_half quotient = 1

-- what rounding adds to a quotient: twice the rest is compared with the divisor
unfoldable pub up : (quotient rest d : ℕ) → ℕ
up quotient rest d =
    if ltb d (2 * rest) then 1
    otherwise if eqb (2 * rest) d then at_half quotient
    otherwise 0

-- the fraction n / d rounded to the nearest whole number; 0 if d is 0
unfoldable pub nearest : (n d : ℕ) → ℕ
nearest n d = if eqb d 0 then 0 otherwise n / d + up (n / d) (n % d) d

-- ---- the price of a fill

-- the report's LastPx tells the price: it is above 0, and there is no rise or the rise is LastQty
unfoldable pub by_last_px : (lastqty lastpx rise : ℕ) → Bool
by_last_px lastqty lastpx rise = ltb 0 lastpx && (eqb rise 0 || eqb rise lastqty)

-- the price that the change of the average implies for the rise: what was paid since, by the rise. It is 0 if less was paid, and with no rise.
unfoldable pub implied : (cumqty avgpx oldcum oldavg rise : ℕ) → ℕ
implied cumqty avgpx oldcum oldavg rise = nearest (cumqty * avgpx - oldcum * oldavg) rise

-- where a price came from
abbrev pub from_last_px : ℕ
from_last_px = 1

abbrev pub from_quotient : ℕ
from_quotient = 2

abbrev pub from_average : ℕ
from_average = 3

abbrev pub priced : (price source : ℕ) → Priced
priced price source = record { price = words price; source = source }

-- the price and its source: LastPx if it tells the price, else the implied price if that is above 0, else AvgPx
unfoldable pub fill_price : (lastqty lastpx cumqty avgpx oldcum oldavg rise : ℕ) → Priced
fill_price lastqty lastpx cumqty avgpx oldcum oldavg rise =
    if by_last_px lastqty lastpx rise then priced lastpx from_last_px
    otherwise if ltb 0 (implied cumqty avgpx oldcum oldavg rise) then priced (implied cumqty avgpx oldcum oldavg rise) from_quotient
    otherwise priced avgpx from_average
