-- What is written in decimal is read as the count. Rests on Decimal.
use Rattle.std.specs.Prelude.{ℕ, zero, suc, ◌+◌, ◌-◌, ◌*◌, ◌/◌, ◌%◌, ◌≤◌, ◌≡◌, refl, List, [], ◌∷◌, ◌++◌, true, leb, ltb, length, replicate}
use Rattle.std.proofs.Common.{ap, ◌∙◌, arith, ltb-true, ltb-false, le-leb}
use Rattle.std.proofs.lemmas.Bool.{and_from}
use Rattle.prelude.specs.Cases.{if◌then◌otherwise◌}
use Rattle.prelude.specs.Laws.Cases.{split_if, if_true, if_false}
use Rattle.decimal.specs.Decimal.{blank, point, lowest, digits_by, digits, low_digits, down, decimal, right, is_digit, read_from, number_in}

pub digit_is : (n : ℕ) → is_digit (lowest n) ≡ true
digit_is n = and_from (leb 48 (lowest n)) (leb (lowest n) 57) (le-leb 48 (lowest n) (omega arith)) (le-leb (lowest n) 57 (omega arith))

pub read_append : (a : ℕ) (s t : List ℕ) → read_from a (s ++ t) ≡ read_from (read_from a s) t
read_append a [] t = refl
read_append a (x ∷ s) t = read_append (if is_digit x then a * 10 + (x - 48) otherwise a) s t

-- one digit more
pub read_digit : (a : ℕ) (s : List ℕ) (n : ℕ) → read_from a (s ++ (lowest n ∷ [])) ≡ read_from a s * 10 + n % 10
read_digit a s n = read_append a s (lowest n ∷ []) ∙ if_true (is_digit (lowest n)) (read_from a s * 10 + (lowest n - 48)) _ (digit_is n) ∙ omega arith

digits_by_back : (f n : ℕ) → n ≤ f → number_in (digits_by f n) ≡ n
unfolding digits_by
digits_by_back zero n h = read_digit 0 [] n ∙ omega arith
digits_by_back (suc f) n h =
    split_if (λ s. number_in s ≡ n) (ltb n 10)
    (λ e. read_digit 0 [] n ∙ omega (arith, ltb-true n 10 e))
    (λ e. let m : 10 ≤ n = ltb-false n 10 e in
    let i : number_in (digits_by f (n / 10)) ≡ n / 10 = digits_by_back f (n / 10) (omega arith) in
    read_digit 0 (digits_by f (n / 10)) n ∙ omega arith)

pub digits_back : (n : ℕ) → number_in (digits n) ≡ n
unfolding digits
digits_back n = digits_by_back n n (omega arith)

pub low_back : (p n : ℕ) → read_from (down p n) (low_digits p n) ≡ n
unfolding down low_digits
low_back zero n = refl
low_back (suc p) n = read_digit (down p (n / 10)) (low_digits p (n / 10)) n ∙ omega (arith, low_back p (n / 10))

-- THE LAW: a decimal is read as the count that it was written for
pub decimal_back : (p n : ℕ) → number_in (decimal p n) ≡ n
unfolding decimal
decimal_back zero n = digits_back n
decimal_back (suc p) n =
    read_append 0 (digits (down (suc p) n)) (point ∷ low_digits (suc p) n)
    ∙ ap (λ (a : ℕ). read_from a (point ∷ low_digits (suc p) n)) (digits_back (down (suc p) n))
    ∙ ap (λ (a : ℕ). read_from a (low_digits (suc p) n)) (if_false (is_digit point) _ (down (suc p) n) refl)
    ∙ low_back (suc p) n

-- blanks count for nothing
pub read_blanks : (k : ℕ) (s : List ℕ) → number_in (replicate k blank ++ s) ≡ number_in s
read_blanks zero s = refl
read_blanks (suc k) s = ap (λ (a : ℕ). read_from a (replicate k blank ++ s)) (if_false (is_digit blank) _ 0 refl) ∙ read_blanks k s

pub right_back : (columns : ℕ) (s : List ℕ) → number_in (right columns s) ≡ number_in s
unfolding right
right_back columns s = read_blanks (columns - length s) s

-- low digits alone
pub low_number : (p n : ℕ) → number_in (low_digits (suc p) n) ≡ number_in (low_digits p (n / 10)) * 10 + n % 10
unfolding low_digits
low_number p n = read_digit 0 (low_digits p (n / 10)) n

pub low_none : (n : ℕ) → number_in (low_digits 0 n) ≡ 0
unfolding low_digits
low_none n = refl
