-- `count_letters` meets its contract: count is that of the bytes below k. Rests on prelude.
use Rattle.std.proofs.Common.{◌≡◌, ◌≤◌}
use Rattle.prelude.specs.Below.{count_below}
use Rattle.prelude.specs.Texts.{text_at}
use Rattle.format.specs.Codes.{alnum_at}
use Rattle.rules.proofs.ranges.count_letters.Given as goal

abbrev pub invariant-loop-k : goal.invariant-loop-k
invariant-loop-k g l = (l.count ≤ l.k) × (l.count ≡ count_below (alnum_at (text_at l.book l.at)) l.k)
