-- The bytes of a decimal, tested one by one: digits, and none below 32. Rests on decimal's laws and Lists.
use Rattle.std.specs.Prelude.{ℕ, zero, suc, ◌<◌, ◌≡◌, refl, ◌∷◌, true, leb}
use Rattle.std.proofs.Common.{arith, le-leb, leb-true, ne_eqb}
use Rattle.std.proofs.lemmas.Bool.{and_parts, and_from}
use Rattle.decimal.specs.Decimal.{point, digits, low_digits, down, decimal, is_digit}
use Rattle.decimal.specs.Laws.Columns.{digits_are, low_are}
use Rattle.fix_words.specs.Lists.{every, is_not, is_print}
use Rattle.fix_words.specs.Laws.Lists.{every_append, every_map, below_every}

pub digits_digits : (n : ℕ) → every is_digit (digits n) ≡ true
digits_digits n = below_every is_digit (digits n) (digits_are n)

pub low_digits_lem : (p n : ℕ) → every is_digit (low_digits p n) ≡ true
low_digits_lem p n = below_every is_digit (low_digits p n) (low_are p n)

digit_print : (c : ℕ) → is_digit c ≡ true → is_print c ≡ true
digit_print c e = le-leb 32 c (omega (arith, leb-true 48 c (and_parts (leb 48 c) (leb c 57) e).0))

pub digits_not : (x n : ℕ) → x < 48 → every (is_not x) (digits n) ≡ true
digits_not x n h =
    every_map is_digit (is_not x)
    (λ c e. rw (ne_eqb c x (λ q. absurd (omega (arith, leb-true 48 c (and_parts (leb 48 c) (leb c 57) e).0)))))
    (digits n) (digits_digits n)

pub digits_not_above : (x n : ℕ) → 57 < x → every (is_not x) (digits n) ≡ true
digits_not_above x n h =
    every_map is_digit (is_not x)
    (λ c e. rw (ne_eqb c x (λ q. absurd (omega (arith, leb-true c 57 (and_parts (leb 48 c) (leb c 57) e).1)))))
    (digits n) (digits_digits n)

pub digits_print : (n : ℕ) → every is_print (digits n) ≡ true
digits_print n = every_map is_digit is_print digit_print (digits n) (digits_digits n)

pub low_print : (p n : ℕ) → every is_print (low_digits p n) ≡ true
low_print p n = every_map is_digit is_print digit_print (low_digits p n) (low_digits_lem p n)

pub decimal_print : (p n : ℕ) → every is_print (decimal p n) ≡ true
unfolding decimal
decimal_print zero n = digits_print n
decimal_print (suc p) n =
    every_append is_print (digits (down (suc p) n)) (point ∷ low_digits (suc p) n) (digits_print (down (suc p) n)) (and_from _ _ refl (low_print (suc p) n))
