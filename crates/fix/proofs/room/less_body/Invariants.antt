-- `less_body`: behind the rows that are left there is as much room as behind all. Assumes nothing.
use Rattle.std.proofs.Common.{◌≡◌, drop}
use Rattle.fix_words.specs.Values.{rows}
use Rattle.fix.specs.Laws.Plan.{planned, rows_long, less_by}
use Rattle.fix.proofs.room.less_body.Given as goal

abbrev pub invariant-loop-row : goal.invariant-loop-row
invariant-loop-row l =
    less_by l.left (rows_long (drop l.row-index (rows l.kind)) (planned l.kind l.parts.map l.parts.at l.parts.numbers l.parts.high)) ≡ less_by l.initial.left (rows_long (rows l.kind) (planned l.kind l.parts.map l.parts.at l.parts.numbers l.parts.high))
