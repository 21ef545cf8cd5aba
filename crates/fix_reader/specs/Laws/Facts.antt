-- Values that fit and values that do not, each worked out: a code that is none, a number with a zero before it. Rests on Classes.
use Rattle.std.specs.Prelude.{◌≡◌, ℕ, true, false, List, [], ◌∷◌, refl}
use Rattle.std.proofs.Common.{arith}
use Rattle.prelude.specs.Cases.{if◌then◌otherwise◌}
use Rattle.decimal.specs.Decimal.{decimal, digits, digits_by, low_digits, down}
use Rattle.format.specs.Codes.{is_side, sides}
use Rattle.format.specs.Format.{size, range, fields, in_range, required, required_bits, allowed, allowed_bits}
use Rattle.fix_words.specs.Values.{is_plain, places}
use Rattle.fix_reader.specs.Laws.Fits.{fits}
use Rattle.fix_reader.specs.Laws.Classes.{code_fits, number_fits}

-- 54=1 in a NewOrderSingle, and 54=9
one_is_a_side : fits 18 [] 7 (49 ∷ []) ≡ true
unfolding required required_bits allowed allowed_bits is_plain size range fields in_range if◌then◌otherwise◌ is_side sides
one_is_a_side = code_fits 18 7 [] (49 ∷ []) refl refl refl refl refl refl refl refl

nine_is_no_side : fits 18 [] 7 (57 ∷ []) ≡ false
unfolding required required_bits allowed allowed_bits is_plain size range fields in_range if◌then◌otherwise◌ is_side sides
nine_is_no_side = code_fits 18 7 [] (57 ∷ []) refl refl refl refl refl refl refl refl

-- 38=1.0000, and 38=01.0000
abbrev one : List ℕ
one = 49 ∷ 46 ∷ 48 ∷ 48 ∷ 48 ∷ 48 ∷ []

a_quantity : fits 18 [] 9 one ≡ true
unfolding required required_bits allowed allowed_bits is_plain places size range fields in_range if◌then◌otherwise◌ decimal digits digits_by low_digits down
a_quantity = number_fits 18 9 [] one refl refl refl refl (omega arith) refl refl refl refl

a_leading_zero : fits 18 [] 9 (48 ∷ one) ≡ false
unfolding required required_bits allowed allowed_bits is_plain places size range fields in_range if◌then◌otherwise◌ decimal digits digits_by low_digits down
a_leading_zero = number_fits 18 9 [] (48 ∷ one) refl refl refl refl (omega arith) refl refl refl refl
