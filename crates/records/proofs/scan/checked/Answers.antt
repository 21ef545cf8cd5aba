-- `scan::checked`: a field whose bit does not stand is right, and 0. Assumes nothing.
use Rattle.std.proofs.Common.{refl, sym, ◌∙◌}
use Rattle.prelude.specs.Cases.{if◌then◌otherwise◌}
use Rattle.records.proofs.scan.checked.Goals as goal

pub returns-then-not-has-clause-ok : goal.returns-then-not-has-clause-ok
unfolding if◌then◌otherwise◌
returns-then-not-has-clause-ok c = rw (rw c.from.ensures at (sym c.has.ensures ∙ c.if-not-has.true)) (refl, refl)

pub returns-then-may_hold-clause-ok : goal.returns-then-may_hold-clause-ok
unfolding if◌then◌otherwise◌
returns-then-may_hold-clause-ok c =
    let h = rw c.from.ensures at (sym c.has.ensures ∙ c.if-not-has.false) in
    let m = rw c.from-2.ensures at (sym c.may_hold.ensures ∙ c.if-may_hold.true) in
    rw (h, ← c.value_of-v.ensures) (m, refl)

pub returns-else-may_hold-clause-err : goal.returns-else-may_hold-clause-err
unfolding if◌then◌otherwise◌
returns-else-may_hold-clause-err c =
    let h = rw c.from.ensures at (sym c.has.ensures ∙ c.if-not-has.false) in
    let m = rw c.from-2.ensures at (sym c.may_hold.ensures ∙ c.if-may_hold.false) in
    rw (h, ← c.value_of-v.ensures) (m, refl)
