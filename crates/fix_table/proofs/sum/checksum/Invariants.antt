-- `checksum`: a byte that wraps is the sum of the bytes passed, modulo 256. Assumes nothing.
use Rattle.std.proofs.Common.{◌≡◌, ◌%◌, take}
use Rattle.fix_words.specs.Message.{sum}
use Rattle.fix_table.proofs.sum.checksum.Given as goal

abbrev pub invariant-loop-x : goal.invariant-loop-x
invariant-loop-x l = l.sum ≡ sum (take l.x-index l.s) % 256
