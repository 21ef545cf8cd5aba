-- The bits of a map that stand are the ones of its number: what `u32::count_ones` gives is their count. Rests on Map.
use Rattle.std.specs.Prelude.{ℕ, zero, suc, ◌+◌, ◌*◌, ◌%◌, ◌^◌, ◌<◌, ◌≡◌, refl, ◌⊎◌, eqb}
use Rattle.std.proofs.Common.{sym, ◌∙◌, inl, inr, mod-lt, mod-eq_of_lt, zero-lt-suc, pow-suc, mul_comm, add_comm, pow_pos, ap, arith}
use Rattle.std.proofs.Math.Arith.{mod-mul}
use Rattle.std.specs.Int.Count.{ones, ones_in}
use Rattle.std.proofs.lemmas.Nat.{ones_cat}
use Rattle.prelude.specs.Cases.{if◌then◌otherwise◌}
use Rattle.prelude.specs.Below.{count_below}
use Rattle.bits.specs.Map.{digit, bit, standing}
use Rattle.bits.specs.Laws.Map.{digit_two, two}

-- one digit
ones_digit : (d : ℕ) → d < 2 → (if eqb d 1 then 1 otherwise 0) ≡ ones d
unfolding if◌then◌otherwise◌ ones ones_in
ones_digit d h = go (two d h)
  where
    go : (d ≡ 0) ⊎ (d ≡ 1) → (if eqb d 1 then 1 otherwise 0) ≡ ones d
    go (inl z) = rw z refl
    go (inr z) = rw z refl

-- the bits below k
ones_below : (m k : ℕ) → count_below (bit m) k ≡ ones (m % 2 ^ k)
unfolding count_below
ones_below m zero = unfold ones ones_in in ap ones (sym (none (m % 1) (mod-lt m (zero-lt-suc 0))))
  where
    none : (n : ℕ) → n < 1 → n ≡ 0
    none n h = omega arith
ones_below m (suc k) =
    let low : ℕ = m % 2 ^ k in
    let split : m % 2 ^ suc k ≡ digit m k * 2 ^ k + low =
    ap (λ (n : ℕ). m % n) (pow-suc 2 k ∙ mul_comm (2 ^ k) 2) ∙ mod-mul m {m = 2} {c = 2 ^ k} (zero-lt-suc 1) (pow_pos k) in
    (λ i. ones_below m k i + ones_digit (digit m k) (digit_two m k) i)
    ∙ add_comm (ones low) (ones (digit m k))
    ∙ sym (ones_cat k (digit m k) low (mod-lt m (pow_pos k)))
    ∙ ap ones (sym split)

-- all of them
pub ones_standing : (m : ℕ) → m < 2 ^ 32 → ones m ≡ standing m
unfolding standing
ones_standing m h = sym (ones_below m 32 ∙ ap ones (mod-eq_of_lt h))
