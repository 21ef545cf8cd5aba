-- `wide::division::divide` meets its contract: its sums and its product keep to a word, since the top word stays below the shifted divisor
-- and each digit is one. Assumes nothing.
use Rattle.std.proofs.Common.{arith}
use Rattle.wide.proofs.Digits.{digit_small}
use Rattle.wide.proofs.Shifts.{shifted}
use Rattle.wide.proofs.division.divide.Goals as goal

pub overflow_add-top : goal.overflow_add-top
overflow_add-top c =
    omega (arith, (shifted c.args.hi c.args.lo c.args.d c.scale-s.result c.requires c.ranges.lo.fits c.scale-s.ensures).top, c.scale-s.ensures.fits)

pub overflow_add-result : goal.overflow_add-result
overflow_add-result c =
    let s = shifted c.args.hi c.args.lo c.args.d c.scale-s.result c.requires c.ranges.lo.fits c.scale-s.ensures in
    let first = digit_small _ _ _ _ _ (rw s.by s.top) (omega arith) c.digit-first.ensures in
    let second = digit_small _ _ _ _ _ c.digit-first.ensures.below (omega arith) c.digit-second.ensures in
    omega (arith, first, second)
