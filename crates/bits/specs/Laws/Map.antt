-- Laws of presence maps. Rests on Map.
use Rattle.std.specs.Prelude.{ℕ, zero, suc, ◌+◌, ◌-◌, ◌*◌, ◌/◌, ◌%◌, ◌^◌, ◌≤◌, ◌<◌, min, ◌≡◌, refl, ◌⊎◌, true}
use Rattle.std.proofs.Common.{sym, ap, ◌∙◌, inl, inr, mod-lt, zero-lt-suc, arith, pow-add, eqb-true, eq-eqb, lt-ltb}
use Rattle.std.proofs.Math.Nat.{div-eq_of_lt}
use Rattle.std.proofs.Math.Pow.{pow-lt}
use Rattle.std.specs.Int.Bits.{bit_and, bit_or, or_add_and, and_step}
use Rattle.std.proofs.lemmas.Nat.Bits.{and_high}
use Rattle.std.proofs.lemmas.Nat.{and_shr}
use Rattle.prelude.specs.Cases.{if◌then◌otherwise◌}
use Rattle.bits.specs.Map.{digit, bit, with_bit, contains}

pub digit_two : (m k : ℕ) → digit m k < 2
digit_two m k = mod-lt (m / 2 ^ k) (zero-lt-suc 1)

pub two : (n : ℕ) → n < 2 → (n ≡ 0) ⊎ (n ≡ 1)
two zero h = inl refl
two (suc zero) h = inr refl
two (suc (suc n)) h = absurd (omega arith)

-- a map of 32 bits has no other
pub digit_out : (m k : ℕ) → m < 2 ^ 32 → 32 ≤ k → digit m k ≡ 0
digit_out m k h l = ap (λ (n : ℕ). n % 2) (div-eq_of_lt (below k l))
  where
    below : (k : ℕ) → 32 ≤ k → m < 2 ^ k
    below k l = go (k - 32) (let e : 32 + (k - 32) ≡ k = omega arith in e)
      where
        go : (d : ℕ) → 32 + d ≡ k → m < 2 ^ k
        go zero e = let z : 32 ≡ k = omega arith in rw (← z) h
        go (suc d) e = let z : 2 ^ 32 < 2 ^ k = pow-lt {i = 32} {j = k} (omega arith) in omega arith

pub digit_and : (m n k : ℕ) → digit (bit_and m n) k ≡ min (digit m k) (digit n k)
digit_and m n k =
    rw (and_shr m n k, and_step (m / 2 ^ k) (n / 2 ^ k)) (omega (arith, digit_two m k, digit_two n k))

-- a bit of a map that is contained stands
pub contains_bit : (m n k : ℕ) → contains m n ≡ true → bit n k ≡ true → bit m k ≡ true
contains_bit m n k c b =
    let e : bit_and m n ≡ n = eqb-true (bit_and m n) n c in
    let d : digit n k ≡ 1 = eqb-true (digit n k) 1 b in
    let a : digit n k ≡ min (digit m k) (digit n k) = ap (λ (x : ℕ). digit x k) (sym e) ∙ digit_and m n k in
    eq-eqb (digit m k) 1 (omega (arith, digit_two m k))

-- the bit that a mask of one bit keeps
and_one : (m k : ℕ) → bit_and m (2 ^ k) ≡ digit m k * 2 ^ k
and_one m k =
    let e : 2 ^ (1 + k) - 2 ^ k ≡ 2 ^ k = omega (arith, pow-add 2 1 k) in
    rw e at (and_high m 1 k)

-- a mask of one bit sets that bit
pub or_one : (m k : ℕ) → k < 32 → bit_or m (2 ^ k) ≡ with_bit m k
unfolding with_bit if◌then◌otherwise◌
or_one m k h = go (two (digit m k) (digit_two m k))
  where
    sum : bit_or m (2 ^ k) + digit m k * 2 ^ k ≡ m + 2 ^ k
    sum = rw and_one at (or_add_and m (2 ^ k))

    go : (digit m k ≡ 0) ⊎ (digit m k ≡ 1) → bit_or m (2 ^ k) ≡ with_bit m k
    go (inl z) = rw (lt-ltb k 32 h, z) (omega (arith, rw z at sum))
    go (inr z) = rw (lt-ltb k 32 h, z) (omega (arith, rw z at sum))
