-- A decimal is the number it was written for, byte for byte. Rests on Number and decimal's laws.
use Rattle.std.specs.Prelude.{ℕ, zero, suc, ◌<◌, refl, [], length, get_or}
use Rattle.std.proofs.Common.{sym, ap, ◌∙◌, append-nil, arith}
use Rattle.std.proofs.Math.Decide.{dec_lt}
use Rattle.decimal.specs.Decimal.{digits, low_digits, down, decimal, is_digit, number_in, read_from}
use Rattle.decimal.specs.Laws.Back.{digits_back, low_back, read_append}
use Rattle.decimal.specs.Laws.Width.{length_low, width_one, width_some, no_leading_zero}
use Rattle.fix_words.specs.Number.{IsNumber}
use Rattle.fix_words.specs.Laws.Lists.{every_append}
use Rattle.fix_words.specs.Laws.Digits.{digits_digits, low_digits_lem}

leads : (n : ℕ) → 1 < length (digits n) → 48 < get_or (digits n) 0 0
leads n h = go (dec_lt 0 n)
  where
    go : Dec (0 < n) → 48 < get_or (digits n) 0 0
    go (yes p) = no_leading_zero n p
    go (no p) = absurd (omega (arith, width_one n (omega arith)))

pub is_number_lem : (p n : ℕ) → IsNumber p n (decimal p n)
unfolding decimal
is_number_lem zero n = record {
  whole = digits n;
  part = [];
  spelled = sym (append-nil (digits n));
  places = refl;
  digits = rw append-nil (digits_digits n);
  number = ap number_in (append-nil (digits n)) ∙ digits_back n;
  some = width_some n;
  shortest = leads n;
}
is_number_lem (suc p) n = record {
  whole = digits (down (suc p) n);
  part = low_digits (suc p) n;
  spelled = refl;
  places = length_low (suc p) n;
  digits = every_append is_digit (digits (down (suc p) n)) (low_digits (suc p) n) (digits_digits (down (suc p) n)) (low_digits_lem (suc p) n);
  number =
      read_append 0 (digits (down (suc p) n)) (low_digits (suc p) n)
      ∙ ap (λ (a : ℕ). read_from a (low_digits (suc p) n)) (digits_back (down (suc p) n))
      ∙ low_back (suc p) n;
  some = width_some (down (suc p) n);
  shortest = leads (down (suc p) n);
}

pub digits_number : (n : ℕ) → IsNumber 0 n (digits n)
unfolding decimal
digits_number n = is_number_lem 0 n
