-- `settle_opens` has written the first i words. Rests on Opens.
use Rattle.std.proofs.Common.{◌≡◌}
use Rattle.retire.specs.Retire.{opens_settled}
use Rattle.retire.proofs.opens.settle_opens.Given as goal

abbrev pub invariant-loop-i : goal.invariant-loop-i
invariant-loop-i l = l.book ≡ opens_settled l.initial.book l.i
