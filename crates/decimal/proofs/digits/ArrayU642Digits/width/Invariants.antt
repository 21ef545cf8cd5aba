-- `decimal::digits`: the width of two words: the digits counted and those left are all. Assumes nothing.
use Rattle.std.proofs.Common.{◌≡◌, ◌+◌, length}
use Rattle.wide.specs.Wide.{value}
use Rattle.decimal.specs.Decimal.{digits}
use Rattle.decimal.proofs.digits.ArrayU642Digits.width.Given as goal

abbrev pub invariant-loop-rest : goal.invariant-loop-rest
invariant-loop-rest l = l.above + length (digits (value l.rest)) ≡ length (digits (value l.initial.rest))

abbrev pub decreases-loop-rest : goal.decreases-loop-rest
decreases-loop-rest l = value l.rest
