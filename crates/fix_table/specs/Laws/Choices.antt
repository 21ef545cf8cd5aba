-- What a test that is known makes of a choice, for the tactic of a function whose definition chooses. Rests on prelude's Cases.
use Rattle.prelude.specs.Laws.Cases.{if_true, if_false}
use Rattle.std.proofs.Common.{eq-eqb, ne_eqb, le-leb}
use Rattle.std.proofs.lemmas.Bool.{lt-leb}

pub ruleset choices = (if_true, if_false, eq-eqb, ne_eqb, le-leb, lt-leb)
