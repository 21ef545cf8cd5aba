-- `amend::redelivered_report` is `redelivered_report`. Assumes nothing.
use Rattle.machine.specs.Amend.{redelivered_report}
use Rattle.amend.proofs.redelivered_report.Goals as goal

pub returns : goal.returns
unfolding redelivered_report
returns c = rw (← c.next_exec.ensures, ← c.report-m.ensures, ← c.saying.ensures)
