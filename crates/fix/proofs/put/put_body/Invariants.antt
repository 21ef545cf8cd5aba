-- `put_body`: what is left to be written are the rows not yet passed. Assumes nothing.
use Rattle.std.proofs.Common.{drop}
use Rattle.fix_words.specs.Values.{rows}
use Rattle.fix.specs.Laws.Plan.{planned, rows_shown}
use Rattle.fix.specs.Laws.Putting.{Rest}
use Rattle.fix.proofs.put.put_body.Given as goal

abbrev pub invariant-loop-row : goal.invariant-loop-row
invariant-loop-row l =
    Rest l.initial.out l.start (rows_shown l.s (rows l.kind) (planned l.kind l.parts.map l.parts.at l.parts.numbers l.parts.high)) l.out l.p (rows_shown l.s (drop l.row-index (rows l.kind)) (planned l.kind l.parts.map l.parts.at l.parts.numbers l.parts.high))
