-- `on_request` meets its contract, with what the kind does, if the request is found. Assumes nothing.
use Rattle.std.proofs.Common.{arith, sym, ◌∙◌}
use Rattle.machine.specs.Machine.{on_request}
use Rattle.step.specs.Laws.Steps.{asked}
use Rattle.step.specs.Laws.Found.{found_some, downstream_few}
use Rattle.step.proofs.events.on_request.Goals as goal

pub link_of-link-requires : goal.link_of-link-requires
link_of-link-requires c = omega (arith, downstream_few _ _ _ (sym c.find_downstream.ensures ∙ c.in-Some.is))

pub returns-in-Some : goal.returns-in-Some
unfolding on_request
returns-in-Some c =
    asked _ _ _ _ _ _ _ c.request_in-request.ensures (rw c.from.ensures at c.order_in-order.ensures) c.findings_at-findings.ensures (rw c.link_of-link.ensures at c.handle.ensures)
    ∙ found_some _ _ _ _ (sym c.find_downstream.ensures ∙ c.in-Some.is)
