-- `end_of`: every byte that was passed prints. Assumes nothing.
use Rattle.std.proofs.Common.{ℕ, ◌<◌, ◌≤◌, get_or}
use Rattle.fix_reader.proofs.pieces.end_of.Given as goal

abbrev pub invariant-loop-i : goal.invariant-loop-i
invariant-loop-i l = (k : ℕ) → k < l.i → (l.from ≤ k → 32 ≤ get_or l.t k 0)
