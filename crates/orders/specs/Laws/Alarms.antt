-- A change that raises no alarm, as the machine spells it. Rests on machine's Changes.
use Rattle.std.specs.Prelude.{ℕ, ◌≡◌, refl}
use Rattle.prelude.specs.Cases.{if◌then◌otherwise◌}
use Rattle.store.specs.declared.Order.{Order}
use Rattle.machine.specs.Changes.{unchanged, alarming}

pub no_alarm : (place : ℕ) (o : Order) → unchanged place o ≡ alarming 0 (unchanged place o)
unfolding alarming unchanged if◌then◌otherwise◌
no_alarm place o = refl
