-- `tries_ok` meets its contract, by the mark. Assumes nothing.
use Rattle.prelude.specs.Cases.{if◌then◌otherwise◌}
use Rattle.rules.proofs.links.tries_ok.Goals as goal

pub returns-then-unsent : goal.returns-then-unsent
unfolding if◌then◌otherwise◌
returns-then-unsent c = rw c.if-unsent.true

pub returns-else-unsent : goal.returns-else-unsent
unfolding if◌then◌otherwise◌
returns-else-unsent c = rw c.if-unsent.false
