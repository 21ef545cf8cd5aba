-- `scan::values`: the fields below b are in range, and their numbers are in place. Assumes nothing.
use Rattle.std.proofs.Common.{◌≡◌, ◌<◌, ℕ, true, get_or, length}
use Rattle.prelude.specs.Below.{all_below}
use Rattle.format.specs.Laws.Seen.{held_at, right_in}
use Rattle.records.proofs.scan.values.Given as goal

abbrev pub invariant-loop-b : goal.invariant-loop-b
invariant-loop-b l =
    (length l.numbers ≡ 32)
    × (all_below (right_in l.shape.bytes.now l.shape.map l.shape.at) l.b ≡ true)
    × ((k : ℕ) → k < l.b → get_or l.numbers k 0 ≡ held_at l.shape.bytes.now l.shape.map l.shape.at k)
