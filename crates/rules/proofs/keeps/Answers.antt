-- `keeps` asks for the open quantities of a book that keeps machine's rules. Rests on Ruled.
use Rattle.std.proofs.Common.{sym, ◌∙◌}
use Rattle.std.proofs.lemmas.Bool.{and_parts}
use Rattle.rules.specs.Laws.Ruled.{ruled_held}
use Rattle.rules.proofs.keeps.Goals as goal

pub invariant_of-opens_right : goal.invariant_of-opens_right
invariant_of-opens_right c = rw c.in-Some.ensures.cases.same (record { ruled = (ruled_held _ (and_parts _ _ (sym c.ruled.ensures ∙ c.if-ruled.true)).0).rules })
