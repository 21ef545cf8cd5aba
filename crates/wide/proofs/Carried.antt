-- Two words divided one after the other: the upper word's rest is carried to the lower word. Rests on Rounding.
use Rattle.std.proofs.Common.{ℕ, ◌+◌, ◌*◌, ◌/◌, ◌%◌, ◌^◌, ◌≡◌, ap, ◌∙◌, add-mul, mul_assoc, mul_comm, div-add-mod', arith}
use Rattle.wide.specs.Wide.{up, nearest}
use Rattle.wide.specs.Laws.Rounding.{up_low, nearest_by}
use Rattle.wide.specs.Division.{Divides}

-- the two quotients are the quotient's words
pub by_words : (h l d q r : ℕ) → Divides (h % d * 2 ^ 64 + l) d q r → nearest (l + 2 ^ 64 * h) d ≡ q + 2 ^ 64 * (h / d) + up q r d
by_words h l d q r s =
    let e : h / d * 2 ^ 64 * d ≡ 2 ^ 64 * (h / d * d) = ap (λ (x : ℕ). x * d) (mul_comm (h / d) (2 ^ 64)) ∙ mul_assoc (2 ^ 64) (h / d) d in
    nearest_by (l + 2 ^ 64 * h) d (h / d * 2 ^ 64 + q) r (omega (arith, e, add-mul (h / d * 2 ^ 64) q d, div-add-mod' h d, s.whole)) s.below
    ∙ omega (arith, up_low q (h / d) r d)
