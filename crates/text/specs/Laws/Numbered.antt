-- Decimal digits and numbered names: how many digits, that they tell the number, and a name as it is written. Rests on Numbered and on the crate decimal.
use Rattle.std.specs.Prelude.{◌≡◌, refl, ℕ, zero, suc, ◌+◌, ◌-◌, ◌*◌, ◌/◌, ◌%◌, ◌≤◌, ◌<◌, min, ltb, length, take, set, List, [], ◌∷◌, ◌++◌, replicate}
use Rattle.std.proofs.Common.{sym, ap, ◌∙◌, arith, lt-ltb, le-ltb, ltb-true, ltb-false, length-append, length-take}
use Rattle.prelude.specs.Cases.{if◌then◌otherwise◌}
use Rattle.prelude.specs.Laws.Cases.{split_if}
use Rattle.prelude.specs.Span.{splice}
use Rattle.prelude.specs.Laws.Span.{padded}
use Rattle.prelude.specs.Texts.{contents}
use Rattle.prelude.specs.declared.Text.{Text}
use Rattle.decimal.specs.Decimal as Decimal
use Rattle.decimal.specs.Decimal.{digits_by, digits}
use Rattle.decimal.specs.Laws.Width.{three}
use Rattle.text.specs.Numbered.{decimal, digits_of, numbered_bytes}

open_digits : (f k : ℕ) → 10 ≤ k → digits_of (suc f) k ≡ digits_of f (k / 10) ++ ((48 + k % 10) ∷ [])
unfolding digits_of if◌then◌otherwise◌
open_digits f k h = rw (le-ltb k 10 h)

-- any f that is large enough gives the same digits
enough : (f g k : ℕ) → k ≤ f → k ≤ g → digits_of f k ≡ digits_of g k
unfolding digits_of if◌then◌otherwise◌
enough zero zero k h j = refl
enough zero (suc g) k h j = rw (lt-ltb k 10 (omega arith))
enough (suc f) zero k h j = rw (lt-ltb k 10 (omega arith))
enough (suc f) (suc g) k h j =
    split_if (λ x. x ≡ (if ltb k 10 then (48 + k) ∷ [] otherwise digits_of g (k / 10) ++ ((48 + k % 10) ∷ []))) (ltb k 10)
    (λ e. rw e)
    (λ e. let m : 10 ≤ k = ltb-false k 10 e in rw (e, enough f g (k / 10) (omega arith) (omega arith)))

pub decimal_digit : (k : ℕ) → k < 10 → decimal k ≡ (48 + k) ∷ []
unfolding decimal digits_of if◌then◌otherwise◌
decimal_digit k h = enough k 9 k (omega arith) (omega arith) ∙ rw (lt-ltb k 10 h)

pub decimal_more : (k : ℕ) → 10 ≤ k → decimal k ≡ decimal (k / 10) ++ ((48 + k % 10) ∷ [])
unfolding decimal
decimal_more k h =
    enough k (suc k) k (omega arith) (omega arith)
    ∙ step
    ∙ ap (λ (ds : List ℕ). ds ++ ((48 + k % 10) ∷ [])) (enough k (k / 10) (k / 10) (omega arith) (omega arith))
  where
    step : digits_of (suc k) k ≡ digits_of k (k / 10) ++ ((48 + k % 10) ∷ [])
    step = open_digits k k h

-- ---- the number that digits are

abbrev value_from : ℕ → List ℕ → ℕ
value_from a [] = a
value_from a (d ∷ ds) = value_from (a * 10 + (d - 48)) ds

value_more : (a : ℕ) (ds : List ℕ) (d : ℕ) → value_from a (ds ++ (d ∷ [])) ≡ value_from a ds * 10 + (d - 48)
value_more a [] d = refl
value_more a (x ∷ ds) d = value_more (a * 10 + (x - 48)) ds d

value_digits : (f k : ℕ) → k ≤ f → value_from 0 (digits_of f k) ≡ k
unfolding digits_of
value_digits zero k h = omega arith
value_digits (suc f) k h =
    split_if (λ ds. value_from 0 ds ≡ k) (ltb k 10)
    (λ e. omega arith)
    (λ e. let m : 10 ≤ k = ltb-false k 10 e in
    let v : value_from 0 (digits_of f (k / 10)) ≡ k / 10 = value_digits f (k / 10) (omega arith) in
    value_more 0 (digits_of f (k / 10)) (48 + k % 10) ∙ rw v (omega arith))

-- distinct numbers have distinct digits
pub decimal_same : (j k : ℕ) → decimal j ≡ decimal k → j ≡ k
unfolding decimal
decimal_same j k e = sym (value_digits j j (omega arith)) ∙ ap (value_from 0) e ∙ value_digits k k (omega arith)

-- ---- how many digits

pub length_digit : (k : ℕ) → k < 10 → length (decimal k) ≡ 1
length_digit k h = ap length (decimal_digit k h)

pub length_more : (k : ℕ) → 10 ≤ k → length (decimal k) ≡ length (decimal (k / 10)) + 1
length_more k h = ap length (decimal_more k h) ∙ length-append (decimal (k / 10)) ((48 + k % 10) ∷ [])

-- 1 to 5 for a number of 16 bits
abbrev pub width_of : ℕ → ℕ
width_of k = if ltb k 10 then 1 otherwise if ltb k 100 then 2 otherwise if ltb k 1000 then 3 otherwise if ltb k 10000 then 4 otherwise 5

pub length_decimal : (k : ℕ) → k < 65536 → length (decimal k) ≡ width_of k
length_decimal k h =
    split_if (λ n. length (decimal k) ≡ n) (ltb k 10) (λ e. length_digit k (ltb-true k 10 e))
    (λ e1. let a : 10 ≤ k = ltb-false k 10 e1 in
    let b : length (decimal k) ≡ length (decimal (k / 10)) + 1 = length_more k a in
    split_if (λ n. length (decimal k) ≡ n) (ltb k 100)
    (λ e. let m : k < 100 = ltb-true k 100 e in omega (arith, length_digit (k / 10) (omega arith)))
    (λ e2. let a2 : 100 ≤ k = ltb-false k 100 e2 in
    let b2 : length (decimal (k / 10)) ≡ length (decimal (k / 10 / 10)) + 1 = length_more (k / 10) (omega arith) in
    split_if (λ n. length (decimal k) ≡ n) (ltb k 1000)
    (λ e. let m : k < 1000 = ltb-true k 1000 e in omega (arith, length_digit (k / 10 / 10) (omega arith)))
    (λ e3. let a3 : 1000 ≤ k = ltb-false k 1000 e3 in
    let b3 : length (decimal (k / 10 / 10)) ≡ length (decimal (k / 10 / 10 / 10)) + 1 = length_more (k / 10 / 10) (omega arith) in
    split_if (λ n. length (decimal k) ≡ n) (ltb k 10000)
    (λ e. let m : k < 10000 = ltb-true k 10000 e in omega (arith, length_digit (k / 10 / 10 / 10) (omega arith)))
    (λ e4. let a4 : 10000 ≤ k = ltb-false k 10000 e4 in
    let b4 : length (decimal (k / 10 / 10 / 10)) ≡ length (decimal (k / 10 / 10 / 10 / 10)) + 1 = length_more (k / 10 / 10 / 10) (omega arith) in
    omega (arith, length_digit (k / 10 / 10 / 10 / 10) (omega arith))))))

pub width_most : (k : ℕ) → width_of k ≤ 5
width_most k =
    split_if (λ n. n ≤ 5) (ltb k 10) (λ e. omega arith)
    (λ e. split_if (λ n. n ≤ 5) (ltb k 100) (λ e. omega arith)
    (λ e. split_if (λ n. n ≤ 5) (ltb k 1000) (λ e. omega arith)
    (λ e. split_if (λ n. n ≤ 5) (ltb k 10000) (λ e. omega arith) (λ e. omega arith))))

-- ---- the name, a dash and the number

pub length_numbered_bytes : (t : Text) (k : ℕ) → length (numbered_bytes t k) ≡ length (contents t) + (length (decimal k) + 1)
length_numbered_bytes t k = length-append (contents t) (45 ∷ decimal k) ∙ omega arith

pub length_contents : (t : Text) → length t.bytes ≡ 32 → length (contents t) ≡ min t.len 32
unfolding contents
length_contents t h = simp (length-take, h)

-- ---- a numbered name as it is written: the name over zeros, a dash, and the digits as the crate decimal has them

digits_same : (f k : ℕ) → k ≤ f → digits_of f k ≡ digits_by f k
unfolding digits_of digits_by if◌then◌otherwise◌
digits_same zero k h = let e : 48 + k ≡ 48 + k % 10 = omega arith in ap (λ (d : ℕ). d ∷ []) e
digits_same (suc f) k h =
    split_if (λ ds. ds ≡ digits_by (suc f) k) (ltb k 10)
    (λ e. let m : k < 10 = ltb-true k 10 e in let d : 48 + k ≡ 48 + k % 10 = omega arith in rw e (ap (λ (x : ℕ). x ∷ []) d))
    (λ e. let m : 10 ≤ k = ltb-false k 10 e in rw e (ap (λ (ds : List ℕ). ds ++ ((48 + k % 10) ∷ [])) (digits_same f (k / 10) (omega arith))))

pub decimal_written : (k : ℕ) → Decimal.decimal 0 k ≡ decimal k
unfolding decimal Decimal.decimal digits
decimal_written k = sym (digits_same k k (omega arith))

pub numbered_put : (t : Text) (k n : ℕ) → n ≡ length (contents t) → length (numbered_bytes t k) ≤ 32
    → splice (set (take 32 (contents t ++ replicate 32 0)) n 45) (n + 1) (decimal k) ≡ take 32 (numbered_bytes t k ++ replicate 32 0)
numbered_put t k n e h =
    let l : length (contents t) + (length (decimal k) + 1) ≤ 32 = omega (arith, length_numbered_bytes t k) in
    ap (λ (s : List ℕ). splice (set s n 45) (n + 1) (decimal k)) (sym (padded 32 (contents t) (omega arith)))
    ∙ ap (λ (i : ℕ). splice (set (splice (replicate 32 0) 0 (contents t)) i 45) (i + 1) (decimal k)) (let z : n ≡ 0 + length (contents t) = omega arith in z)
    ∙ three (replicate 32 0) 0 (contents t) 45 (decimal k) (omega arith)
    ∙ padded 32 (numbered_bytes t k) h
