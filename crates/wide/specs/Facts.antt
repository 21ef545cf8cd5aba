-- Facts on the definitions, by computing: the prices of docs/SCOPE.md, Days in small, and small quotients; Rounding has the rule for every one. Rests on Wide.
-- Quantities are counts of 1/10,000, prices of 10^-8; behind a price stands its source as docs/SCOPE.md numbers it, 1 to 3.
use Rattle.std.specs.Prelude.{◌≡◌, refl, [], ◌∷◌}
use Rattle.prelude.specs.Cases.{if◌then◌otherwise◌}
use Rattle.wide.specs.Wide.{at_half, up, nearest, by_last_px, implied, fill_price, priced}

-- cum 40 at 10, then cum 70, last 10 at 11, average 10.3: 30 at 10.7, which is 321 / 30
pub ten_seven : fill_price 100000 1100000000 700000 1030000000 400000 1000000000 300000 ≡ priced 1070000000 2
unfolding if◌then◌otherwise◌ at_half up nearest by_last_px implied fill_price
ten_seven = refl

-- cum 1 at 1, then cum 3, last 1, average 1.00000001: 1.000000015 goes to 1.00000002
pub tie_up : fill_price 10000 100000000 30000 100000001 10000 100000000 20000 ≡ priced 100000002 2
unfolding if◌then◌otherwise◌ at_half up nearest by_last_px implied fill_price
tie_up = refl

-- with the first average 1.00000002: 1.000000005 goes up too, to 1.00000001
pub tie_up_even : fill_price 10000 100000000 30000 100000001 10000 100000002 20000 ≡ priced 100000001 2
unfolding if◌then◌otherwise◌ at_half up nearest by_last_px implied fill_price
tie_up_even = refl

-- half of the smallest unit is 1, which is above 0 and so the quotient's: cum 3 avg 3, then cum 5 avg 2; cum 97 avg 50, then cum 99 avg 49
pub least_half : (fill_price 0 0 5 2 3 3 2 ≡ priced 1 2) × (fill_price 0 0 99 49 97 50 2 ≡ priced 1 2)
unfolding if◌then◌otherwise◌ at_half up nearest by_last_px implied fill_price
least_half = (refl, refl)

-- cum 2 at 1, then cum 3, last 0, average 0.5: less was paid than before, so the average
pub below_zero : fill_price 0 0 30000 50000000 20000 100000000 10000 ≡ priced 50000000 3
unfolding if◌then◌otherwise◌ at_half up nearest by_last_px implied fill_price
below_zero = refl

-- no rise, with LastPx and without; a rise that is LastQty, with LastPx and without
pub last_px_apart :
    (fill_price 0 7 1 9 1 9 0 ≡ priced 7 1) × (fill_price 0 0 1 9 1 9 0 ≡ priced 9 3)
    × (fill_price 3 7 3 9 0 0 3 ≡ priced 7 1) × (fill_price 3 0 3 9 0 0 3 ≡ priced 9 2)
unfolding if◌then◌otherwise◌ at_half up nearest by_last_px implied fill_price
last_px_apart = (refl, refl, refl, refl)

-- the source is the rule that was used, and not the value: cum 1 at 10, then cum 3, last 1 at 10, average 10 is 10 by the quotient. An average of 0 has a source.
pub by_rule :
    (fill_price 10000 1000000000 30000 1000000000 10000 1000000000 20000 ≡ priced 1000000000 2)
    × (fill_price 0 0 10000 0 10000 0 0 ≡ priced 0 3)
unfolding if◌then◌otherwise◌ at_half up nearest by_last_px implied fill_price
by_rule = (refl, refl)

-- halves go up, at an even and at an odd digit; one below a half of 10 goes down, one above it up; a third down, two thirds up; nothing by 0
pub halves : (nearest 1 2 ≡ 1) × (nearest 3 2 ≡ 2) × (nearest 5 2 ≡ 3) × (nearest 4 3 ≡ 1) × (nearest 5 3 ≡ 2) × (nearest 7 0 ≡ 0)
unfolding if◌then◌otherwise◌ at_half up nearest
halves = (refl, refl, refl, refl, refl, refl)

pub beside_half : (nearest 24 10 ≡ 2) × (nearest 25 10 ≡ 3) × (nearest 26 10 ≡ 3) × (nearest 34 10 ≡ 3) × (nearest 35 10 ≡ 4) × (nearest 36 10 ≡ 4)
unfolding if◌then◌otherwise◌ at_half up nearest
beside_half = (refl, refl, refl, refl, refl, refl)

-- differences of two words: cum 10,000,000 at 0.00000003, then cum 30,000,000 at 1,000,000: an exact half, which goes up; and a price of two words,
-- 100,000,000 at 1,000,000 of a rise of 0.0001
pub two_words_half : fill_price 0 0 300000000000 100000000000000 100000000000 3 200000000000 ≡ priced 149999999999999 2
unfolding if◌then◌otherwise◌ at_half up nearest by_last_px implied fill_price
two_words_half = refl

pub two_words_price : fill_price 0 0 1000000000000 100000000000000 0 0 1 ≡ record { price = 15908979783594147840 ∷ (5421010 ∷ []); source = 2 }
unfolding if◌then◌otherwise◌ at_half up nearest by_last_px implied fill_price
two_words_price = refl
