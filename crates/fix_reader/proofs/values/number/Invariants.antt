-- `number`: the number of the bytes passed. Rests on Laws.Numbers.
use Rattle.std.proofs.Common.{◌≡◌, ◌<◌, take}
use Rattle.decimal.specs.Decimal.{number_in}
use Rattle.fix_reader.specs.Laws.Numbers.{word}
use Rattle.fix_reader.proofs.values.number.Given as goal

abbrev pub invariant-loop-c : goal.invariant-loop-c
invariant-loop-c l = (l.n ≡ number_in (take l.c-index l.v)) × (l.n < word)
