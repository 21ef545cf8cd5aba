-- A change, or why the event is not taken, as calls return it. Rests on Changes and prelude's numbers.
use Rattle.std.specs.Prelude.{Result, Ok, Err}
use Rattle.prelude.specs.declared.Refusal.{Refusal}
use Rattle.prelude.specs.Refusal.{number_of}
use Rattle.machine.specs.declared.Change.{Change}
use Rattle.machine.specs.Changes.{refusing}

abbrev pub change_in : Result Change Refusal → Change
change_in (Ok c) = c
change_in (Err r) = refusing (number_of r)
