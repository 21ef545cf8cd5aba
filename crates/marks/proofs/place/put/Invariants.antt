-- `marks::place::put` meets its contract: each turn copies one byte more. Assumes nothing.
use Rattle.std.proofs.Common.{◌≡◌, length}
use Rattle.std.proofs.Math.Seq.{paste}
use Rattle.marks.proofs.place.put.Given as goal

abbrev pub invariant-loop-i : goal.invariant-loop-i
invariant-loop-i l = (length l.s ≡ length l.initial.s) × (l.s ≡ paste l.initial.s l.at l.bytes l.i)
