-- `page::put_left` meets its contract: each turn writes one column more. Rests on Line.
use Rattle.std.proofs.Common.{◌≡◌, take, length}
use Rattle.std.proofs.Math.Seq.{paste}
use Rattle.page.specs.Page.{left}
use Rattle.page.proofs.put_left.Given as goal

abbrev pub invariant-loop-i : goal.invariant-loop-i
invariant-loop-i l = (length l.s ≡ length l.initial.s) × (l.s ≡ paste l.initial.s l.at (left l.width (take l.t.len l.t.bytes)) l.i)
