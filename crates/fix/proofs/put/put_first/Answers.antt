-- `fix::put::put_first`: 8, then 9. Assumes nothing.
use Rattle.std.proofs.Common.{List, [], ◌∷◌, ℕ, arith}
use Rattle.decimal.specs.Decimal.{digits}
use Rattle.fix_words.specs.Spelling.{Field, field, spellings}
use Rattle.fix_words.specs.Message.{version}
use Rattle.fix.specs.Laws.Plan.{first_two}
use Rattle.fix.specs.Laws.Putting.{Rest, rest_start, field_room, field_next, fields_end}
use Rattle.fix.proofs.put.put_first.Goals as goal
use Rattle.fix.proofs.put.put_first.Goals.{After-put_text-a, Start}

abbrev nine : Start → List Field
nine s = field 9 (digits s.args.body) ∷ []

abbrev whole : Start → List ℕ
whole s = spellings (first_two s.args.body)

begun : (s : Start) → Rest s.args.out.now 0 (whole s) s.args.out.now 0 (whole s)
begun s = rest_start s.args.out.now 0 (whole s) (omega arith)

eight : (c : After-put_text-a) → Rest c.args.out.now 0 (whole (goal.at.After-put_text-a c).Start) c.put_text-a.new.out c.put_text-a.result (spellings (nine (goal.at.After-put_text-a c).Start))
eight c = field_next (field 8 version) (nine (goal.at.After-put_text-a c).Start) (begun (goal.at.After-put_text-a c).Start) c.put_text-a.ensures.1 c.put_text-a.ensures.0

pub put_text-a-requires : goal.put_text-a-requires
put_text-a-requires c = field_room (field 8 version) (nine (goal.at.put_text-a-requires c).Start) (begun (goal.at.put_text-a-requires c).Start)

pub put_number-requires : goal.put_number-requires
put_number-requires c = field_room (field 9 (digits c.args.body)) [] (eight (goal.at.put_number-requires c).After-put_text-a)

pub returns : goal.returns
returns c =
    let p = c.put_number in
    let z = fields_end (field_next (field 9 (digits c.args.body)) [] (eight (goal.at.returns c).After-put_text-a) p.ensures.1 p.ensures.0) in
    (omega (arith, z.0), z.1)
