-- `amend::refuse` is `refuse`. Assumes nothing.
use Rattle.prelude.specs.Cases.{if◌then◌otherwise◌}
use Rattle.std.proofs.Common.{eq-eqb, ne_eqb}
use Rattle.machine.specs.Amend.{refuse}
use Rattle.amend.proofs.refuse.Goals.{then-place-eq0, else-place-eq0}
use Rattle.amend.proofs.refuse.Goals as goal

pub returns : goal.returns
unfolding refuse if◌then◌otherwise◌
returns c =
    elim c.if-place-eq0.branch [
      | then-place-eq0 w ↦ rw (c.saying.ensures, c.cancel_reject-m.ensures, c.reject-reject.ensures, w.status-is, eq-eqb _ _ w.if-place-eq0.true)
      | else-place-eq0 w ↦ rw (c.saying.ensures, c.cancel_reject-m.ensures, c.reject-reject.ensures, w.status-is, ne_eqb _ _ w.if-place-eq0.false)
    ]
