-- `run`: what is still to be run makes of what has been run what the whole list makes; what is left of the records falls.
use Rattle.std.proofs.Common.{◌-◌, length}
use Rattle.events.specs.Laws.Runs.{Stands}
use Rattle.events.proofs.list.run.Given as goal

abbrev pub invariant-loop-answers : goal.invariant-loop-answers
invariant-loop-answers l = Stands l.initial.book l.records l.initial.answers l.book l.answers l.events l.read l.written

abbrev pub decreases-loop-answers : goal.decreases-loop-answers
decreases-loop-answers l = length l.records - l.read
