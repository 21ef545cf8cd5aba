-- `decimal::digits`: the width of one word, by its logarithm. Assumes nothing.
use Rattle.std.proofs.Common.{rules}
use Rattle.decimal.specs.Laws.Width.{width_one, width_power}
use Rattle.decimal.proofs.digits.U64Digits.width.Goals as goal

pub returns-clause-all : goal.returns-clause-all
returns-clause-all c = search (rules, width_one, width_power)
