-- `decimal::put_low` meets its contract: the digits that are left, written before those that stand, are all of them. Assumes nothing.
use Rattle.std.proofs.Common.{◌≡◌, length}
use Rattle.prelude.specs.Span.{splice}
use Rattle.decimal.specs.Decimal.{low_digits}
use Rattle.decimal.proofs.put_low.Given as goal

abbrev pub invariant-loop-i : goal.invariant-loop-i
invariant-loop-i g l =
    (length l.out ≡ length l.initial.out) × (splice l.out l.at (low_digits l.i (g.N.Digits.number l.rest)) ≡ splice l.initial.out l.at (low_digits l.count (g.N.Digits.number l.fn.n)))
