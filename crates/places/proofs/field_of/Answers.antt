-- `places::field_of` asks the table. Rests on Ranges.
use Rattle.std.proofs.Common.{◌≡◌, get_or, rules, ap, ◌∙◌}
use Rattle.places.specs.Ranges.{holds, taken, is_text}
use Rattle.places.specs.declared.Field.{Field}
use Rattle.places.proofs.Ranges.{rows, none, bytes, text, table}
use Rattle.places.proofs.field_of.Goals as goal
use Rattle.places.proofs.field_of.Goals.{After-unwrap_or}

looked : (c : After-unwrap_or) → c.unwrap_or.result ≡ get_or rows c.args.b none
unfolding none bytes text rows
looked c = search rules

pub returns-clause-size : goal.returns-clause-size
returns-clause-size c = ap (λ (f : Field). taken f.size) (looked c) ∙ (table c.args.b 0).0

pub returns-clause-text : goal.returns-clause-text
returns-clause-text c = ap (λ (f : Field). is_text f.size) (looked c) ∙ (table c.args.b 0).1

pub returns-clause-range : goal.returns-clause-range
returns-clause-range c = λ v. ap (λ (f : Field). holds f.range v) (looked c) ∙ (table c.args.b v).2
