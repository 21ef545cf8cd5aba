-- `places::walk::starts`: the loop's invariant is that each place so far holds where its field starts. Assumes nothing.
use Rattle.std.proofs.Common.{◌≡◌, ℕ, ◌≤◌, ◌<◌, ◌+◌, ◌*◌, length, get_or}
use Rattle.format.specs.Places.{start}
use Rattle.places.proofs.walk.starts.Given as goal

abbrev pub invariant-loop-b : goal.invariant-loop-b
invariant-loop-b l =
    (l.b ≤ 32) × (l.at ≤ 65541 + 256 * l.b) × (length l.out ≡ 33) × (l.at ≡ start l.s l.o l.map l.b) × ((k : ℕ) → k < l.b → get_or l.out k 0 ≡ start l.s l.o l.map k)
