-- What a call leaves in the change that it is lent: what it makes of it, or why the event is not taken. Rests on machine's Changes.
use Rattle.std.specs.Prelude.{Result, Ok, Err, ⊤}
use Rattle.prelude.specs.declared.Refusal.{Refusal}
use Rattle.prelude.specs.Refusal.{number_of}
use Rattle.machine.specs.declared.Change.{Change}
use Rattle.machine.specs.Changes.{refusing}

abbrev pub left_by : Result ⊤ Refusal → Change → Change
left_by (Ok done) c = c
left_by (Err r) c = refusing (number_of r)
