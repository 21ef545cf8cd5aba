-- `main` keeps to its room: what is filled is no more than the space has. Assumes nothing.
use Rattle.std.proofs.Common.{◌≤◌, length}
use Rattle.day.proofs.main.Given as goal

abbrev pub invariant-loop : goal.invariant-loop
invariant-loop l = l.filled ≤ 131072
