-- `split`: what has been cut, `Split`. Rests on Laws.Split.
use Rattle.std.proofs.Common.{◌-◌, length}
use Rattle.fix_reader.specs.Laws.Split.{Split}
use Rattle.fix_reader.proofs.pieces.split.Given as goal

abbrev pub invariant-loop-p : goal.invariant-loop-p
invariant-loop-p l = Split l.m l.p l.n l.tag l.at l.length

abbrev pub decreases-loop-p : goal.decreases-loop-p
decreases-loop-p l = length l.m - l.p
