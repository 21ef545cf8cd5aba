-- `open_words` has what comes together at each order from the first k. Rests on Opens.
use Rattle.retire.specs.Laws.Opens.{Words}
use Rattle.retire.proofs.opens.open_words.Given as goal

abbrev pub invariant-loop-k : goal.invariant-loop-k
invariant-loop-k l = Words l.book l.k l.words
