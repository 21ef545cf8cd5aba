-- What is told of a cause has a text. Rests on Why.
use Rattle.std.specs.Prelude.{ℕ, ◌≡◌, ◌+◌, min, refl, false, eqb}
use Rattle.std.proofs.Common.{arith, ne_eqb}
use Rattle.std.proofs.lemmas.Grind.{common_steps}
use Rattle.prelude.specs.Cases.{if◌then◌otherwise◌}
use Rattle.prelude.specs.Laws.Cases.{split_if}
use Rattle.machine.specs.Amend.{verdict_text}
use Rattle.amend.specs.declared.why.Why.{Why}
use Rattle.amend.specs.declared.why.Why.TheVariants.{Cancelling, ReplacePending, BelowFilled, Blocked, Duplicate, UnknownOrder, Done, TooMany, SideOrSymbol, Verdict}
use Rattle.amend.specs.Why.{reject_of}

verdict_told : (v : ℕ) → eqb (verdict_text v) 0 ≡ false
unfolding verdict_text
verdict_told v = split_if (λ (n : ℕ). eqb n 0 ≡ false) _ (λ t. ne_eqb _ _ (omega arith)) (λ t. refl)

-- the code's sum
pub verdict_lem : (v : ℕ) → min (v + 11) 255 ≡ verdict_text v
unfolding verdict_text if◌then◌otherwise◌
verdict_lem v = grind (arith, common_steps)

pub told : (w : Why) → eqb (reject_of w).fixedtext 0 ≡ false
told Cancelling = refl
told ReplacePending = refl
told BelowFilled = refl
told Blocked = refl
told Duplicate = refl
told UnknownOrder = refl
told Done = refl
told TooMany = refl
told SideOrSymbol = refl
told (Verdict v) = verdict_told v
