-- `on_name` meets its contract if the order is found. Assumes nothing.
use Rattle.std.proofs.Common.{sym, ◌∙◌}
use Rattle.machine.specs.Machine.{on_name}
use Rattle.step.specs.Laws.Steps.{named}
use Rattle.step.specs.Laws.Found.{found_some}
use Rattle.step.proofs.events.on_name.Goals as goal

pub returns-in-Some : goal.returns-in-Some
unfolding on_name
returns-in-Some c =
    named _ _ _ _ _ c.order_in-o.ensures (rw c.link_of.ensures at c.findings_at-f.ensures) c.cancel_order.ensures
    ∙ found_some _ _ _ _ (sym c.find_name.ensures ∙ c.in-Some.is)
