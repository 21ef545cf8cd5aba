-- A number as it stands in a FIX value, said of its bytes alone. Rests on Lists and decimal.
use Rattle.std.specs.Prelude.{ℕ, zero, suc, ◌<◌, ◌≡◌, List, [], ◌∷◌, ◌++◌, true, length, get_or}
use Rattle.decimal.specs.Decimal.{point, is_digit, number_in}
use Rattle.fix_words.specs.Lists.{every}

-- with decimals a point stands before them
abbrev pub behind_whole : ℕ → List ℕ → List ℕ
behind_whole zero part = []
behind_whole (suc p) part = point ∷ part

-- THE BYTES v ARE n counts of 10^-p: a whole part, with p above 0 a point and p digits, and nothing else. The digits are read as n, and the
-- whole part has at least one, and no zero before another.
pub record IsNumber (p n : ℕ) (v : List ℕ) : Type 0 where
  pub whole : List ℕ
  pub part : List ℕ
  pub spelled : v ≡ whole ++ behind_whole p part
  pub places : length part ≡ p
  pub digits : every is_digit (whole ++ part) ≡ true
  pub number : number_in (whole ++ part) ≡ n
  pub some : 0 < length whole
  pub shortest : 1 < length whole → 48 < get_or whole 0 0
