-- The presence map of what stands: its bits, and that a map has all the bits of another if it has each. Rests on bits.
use Rattle.std.specs.Prelude.{ℕ, zero, suc, ◌+◌, ◌*◌, ◌/◌, ◌%◌, ◌^◌, ◌<◌, min, ◌≡◌, refl, ◌⊎◌, Bool, true, false, eqb}
use Rattle.std.proofs.Common.{sym, ap, ◌∙◌, inl, inr, arith, lt_of_le_of_lt, eqb-true, eq-eqb}
use Rattle.std.proofs.Math.Nat.{div-div-eq-div-mul}
use Rattle.std.specs.Int.Bits.{bit_and}
use Rattle.std.proofs.lemmas.Nat.{and_le_r}
use Rattle.prelude.specs.Cases.{if◌then◌otherwise◌}
use Rattle.prelude.specs.Laws.Cases.{split_if}
use Rattle.bits.specs.Map.{digit, bit, contains}
use Rattle.bits.specs.Laws.Map.{digit_two, digit_and, two}

abbrev pub one : Bool → ℕ
one x = if x then 1 otherwise 0

one_small : (x : Bool) → one x < 2
one_small x = split_if (λ (n : ℕ). n < 2) x (λ e. omega arith) (λ e. omega arith)

-- the map of n bits from b up
abbrev pub map_up : (ℕ → Bool) → ℕ → ℕ → ℕ
map_up p b zero = 0
map_up p b (suc n) = one (p b) + 2 * map_up p (suc b) n

pub map_small : (p : ℕ → Bool) (b n : ℕ) → map_up p b n < 2 ^ n
map_small p b zero = omega arith
map_small p b (suc n) = omega (arith, map_small p (suc b) n, one_small (p b))

-- a digit further up
digit_up : (m j : ℕ) → digit m (suc j) ≡ digit (m / 2) j
digit_up m j =
    let e : 2 ^ suc j ≡ 2 * 2 ^ j = omega arith in
    ap (λ (n : ℕ). m / n % 2) e ∙ ap (λ (n : ℕ). n % 2) (sym (div-div-eq-div-mul m 2 (2 ^ j)))

digit_low : (m : ℕ) → digit m 0 ≡ m % 2
digit_low m = omega arith

pub map_digit : (p : ℕ → Bool) (b n j : ℕ) → j < n → digit (map_up p b n) j ≡ one (p (b + j))
map_digit p b zero j h = absurd (omega arith)
map_digit p b (suc n) zero h =
    let z : b ≡ b + 0 = omega arith in
    let l : map_up p b (suc n) % 2 ≡ one (p b) = omega (arith, one_small (p b)) in
    digit_low (map_up p b (suc n)) ∙ l ∙ ap (λ (i : ℕ). one (p i)) z
map_digit p b (suc n) (suc j) h =
    let e : map_up p b (suc n) / 2 ≡ map_up p (suc b) n = omega (arith, one_small (p b)) in
    let q : suc b + j ≡ b + suc j = omega arith in
    digit_up (map_up p b (suc n)) j ∙ ap (λ (m : ℕ). digit m j) e ∙ map_digit p (suc b) n j (omega arith) ∙ ap (λ (i : ℕ). one (p i)) q

-- ---- maps with the same digits are the same

pub same_digits : (n x y : ℕ) → x < 2 ^ n → y < 2 ^ n → ((j : ℕ) → j < n → digit x j ≡ digit y j) → x ≡ y
same_digits zero x y a b h = omega arith
same_digits (suc n) x y a b h =
    let l : x % 2 ≡ y % 2 = sym (digit_low x) ∙ h 0 (omega arith) ∙ digit_low y in
    let u : x / 2 ≡ y / 2 = same_digits n (x / 2) (y / 2) (omega arith) (omega arith) (λ j q. sym (digit_up x j) ∙ h (suc j) (omega arith) ∙ digit_up y j) in
    omega arith

-- ---- a map that has each bit of another contains it

pub contains_all : (m n : ℕ) → n < 2 ^ 32 → ((j : ℕ) → j < 32 → bit n j ≡ true → bit m j ≡ true) → contains m n ≡ true
contains_all m n h f =
    eq-eqb (bit_and m n) n (same_digits 32 (bit_and m n) n (lt_of_le_of_lt (and_le_r m n) h) h (λ j l. digit_and m n j ∙ go j l (two (digit n j) (digit_two n j))))
  where
    go : (j : ℕ) → j < 32 → (digit n j ≡ 0) ⊎ (digit n j ≡ 1) → min (digit m j) (digit n j) ≡ digit n j
    go j l (inl z) = omega arith
    go j l (inr z) = let q : digit m j ≡ 1 = eqb-true (digit m j) 1 (f j l (eq-eqb (digit n j) 1 z)) in omega arith

-- the bits of a map that was made
pub bit_one : (p : ℕ → Bool) (j : ℕ) → j < 32 → bit (map_up p 0 32) j ≡ p j
unfolding if◌then◌otherwise◌
bit_one p j h =
    let z : 0 + j ≡ j = omega arith in
    ap (λ (d : ℕ). eqb d 1) (map_digit p 0 32 j h ∙ ap (λ (i : ℕ). one (p i)) z) ∙ go (p j)
  where
    go : (x : Bool) → eqb (one x) 1 ≡ x
    go true = refl
    go false = refl
