-- `records::name_in_map` tests the bit, then the name. Assumes nothing.
use Rattle.std.proofs.Common.{refl, sym, ◌∙◌}
use Rattle.prelude.specs.Cases.{if◌then◌otherwise◌}
use Rattle.format.specs.Refusal.{name_in}
use Rattle.records.proofs.name_in_map.Goals as goal

pub returns-then-not-has : goal.returns-then-not-has
unfolding name_in if◌then◌otherwise◌
returns-then-not-has c = rw (c.if-not-has.true, sym c.has.ensures ∙ c.if-not-has.true) refl

pub returns-else-not-has : goal.returns-else-not-has
unfolding name_in if◌then◌otherwise◌
returns-else-not-has c = rw (sym c.has.ensures ∙ c.if-not-has.false) c.name_ok.ensures
