-- A change put together is one that is taken. Rests on machine's Changes.
use Rattle.std.specs.Prelude.{ℕ, ◌≡◌, refl}
use Rattle.records.specs.declared.Record.{Record}
use Rattle.store.specs.declared.Order.{Order}
use Rattle.store.specs.declared.Request.{Request}
use Rattle.machine.specs.Changes.{unchanged, answering, superseding, adding, telling, alarming}
use Rattle.machine.specs.declared.Change.{Change}

pub unchanged_taken : (place : ℕ) (o : Order) → (unchanged place o).refusal ≡ 0
unfolding unchanged
unchanged_taken place o = refl

module _ (c : Change) where
  pub answering_taken : (k outcome : ℕ) → (answering k outcome c).refusal ≡ c.refusal
  unfolding answering
  answering_taken k outcome = refl

  pub superseding_taken : (k : ℕ) → (superseding k c).refusal ≡ c.refusal
  unfolding superseding
  superseding_taken k = refl

  pub adding_taken : (q : Request) → (adding q c).refusal ≡ c.refusal
  unfolding adding
  adding_taken q = refl

  pub telling_taken : (m : Record) → (telling m c).refusal ≡ c.refusal
  unfolding telling
  telling_taken m = refl

  pub alarming_taken : (a : ℕ) → (alarming a c).refusal ≡ c.refusal
  unfolding alarming
  alarming_taken a = refl

pub ruleset taken = (unchanged_taken, answering_taken, superseding_taken, adding_taken, telling_taken, alarming_taken)
