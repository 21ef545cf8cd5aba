-- A cancel or replace that is told or goes out is an event that is taken. Rests on machine's Amend.
use Rattle.std.specs.Prelude.{ℕ, ◌≡◌, refl}
use Rattle.store.specs.declared.Order.{Order}
use Rattle.machine.specs.Changes.{Event, unchanged, adding, telling}
use Rattle.machine.specs.Amend.{refuse, redelivered_report, cancel_goes, replace_goes}
use Rattle.machine.specs.declared.Findings.{Findings}
use Rattle.machine.specs.declared.Reject.{Reject}

module _ (f : Findings) (o : Order) (e : Event) where
  pub refuse_taken : (responseto : ℕ) (r : Reject) → (refuse f responseto o e r).refusal ≡ 0
  unfolding refuse telling unchanged
  refuse_taken responseto r = refl

  pub redelivered_taken : (redelivered_report f o e).refusal ≡ 0
  unfolding redelivered_report telling unchanged
  redelivered_taken = refl

  pub cancel_taken : (cancel_goes f o e).refusal ≡ 0
  unfolding cancel_goes telling adding unchanged
  cancel_taken = refl

  pub replace_taken : (replace_goes f o e).refusal ≡ 0
  unfolding replace_goes telling adding unchanged
  replace_taken = refl

pub ruleset amend_taken = (refuse_taken, redelivered_taken, cancel_taken, replace_taken)
