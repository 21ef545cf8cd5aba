-- `wrapped`: the two words of the number of the bytes passed. Rests on Laws.Wrapping.
use Rattle.std.proofs.Common.{◌≡◌, ◌/◌, ◌%◌, get_or, take}
use Rattle.decimal.specs.Decimal.{number_in}
use Rattle.fix_reader.specs.Laws.Numbers.{word}
use Rattle.fix_reader.proofs.price.wrapped.Given as goal

abbrev pub invariant-loop-c : goal.invariant-loop-c
invariant-loop-c l = (get_or l.n 0 0 ≡ number_in (take l.c-index l.v) % word) × (get_or l.n 1 0 ≡ number_in (take l.c-index l.v) / word % word)
