-- `fix::put::put_head`: one field behind the other. Assumes nothing.
use Rattle.std.proofs.Common.{◌≡◌, ap, ◌∙◌, List, [], ◌∷◌, ℕ, ◌+◌, arith, length}
use Rattle.prelude.specs.Span.{splice}
use Rattle.decimal.specs.Decimal.{digits}
use Rattle.fix_words.specs.Spelling.{Field, field, spellings}
use Rattle.fix_words.specs.Values.{type_of}
use Rattle.fix_words.specs.Record.{Session}
use Rattle.fix.specs.Laws.Putting.{Rest, rest_start, field_room, field_next, fields_end}
use Rattle.fix.proofs.put.put_head.Goals as goal
use Rattle.fix.proofs.put.put_head.Goals.{After-put_number-d, After-put_text, After-put_text-a, After-put_text-b, After-put_text-c, Start}

abbrev last : Start → List Field
last s = field 52 s.args.header.now.time ∷ []

abbrev fourth : Start → List Field
fourth s = field 34 (digits s.args.header.now.sequence) ∷ last s

abbrev third : Start → List Field
third s = field 56 s.args.header.now.target ∷ fourth s

abbrev second : Start → List Field
second s = field 49 s.args.header.now.sender ∷ third s

abbrev type35 : Start → Field
type35 s = field 35 (type_of s.args.kind ∷ [])

abbrev whole : Start → List ℕ
whole s = spellings (type35 s ∷ second s)

begun : (s : Start) → Rest s.args.out.now s.args.at (whole s) s.args.out.now s.args.at (whole s)
begun s = rest_start s.args.out.now s.args.at (whole s) (omega arith)

one : (c : After-put_text-a) → Rest c.args.out.now c.args.at (whole (goal.at.After-put_text-a c).Start) c.put_text-a.new.out c.put_text-a.result (spellings (second (goal.at.After-put_text-a c).Start))
one c =
    let e = c.type_of.ensures in
    let p = c.put_text-a in
    field_next (type35 (goal.at.After-put_text-a c).Start) (second (goal.at.After-put_text-a c).Start) (begun (goal.at.After-put_text-a c).Start)
    (p.ensures.1 ∙ ap (λ (x : ℕ). splice c.args.out.now c.args.at (spellings (field 35 (x ∷ []) ∷ []))) e)
    (p.ensures.0 ∙ ap (λ (x : ℕ). c.args.at + length (spellings (field 35 (x ∷ []) ∷ []))) e)

two : (c : After-put_text-b) → Rest c.args.out.now c.args.at (whole (goal.at.After-put_text-b c).Start) c.put_text-b.new.out c.put_text-b.result (spellings (third (goal.at.After-put_text-b c).Start))
two c =
    let e = ap (λ (n : Session). n.sender) c.header.view_is in
    field_next (field 49 c.args.header.now.sender) (third (goal.at.After-put_text-b c).Start) (one (goal.at.After-put_text-b c).After-put_text-a) (rw e at c.put_text-b.ensures.1) (rw e at c.put_text-b.ensures.0)

three3 : (c : After-put_text-c) → Rest c.args.out.now c.args.at (whole (goal.at.After-put_text-c c).Start) c.put_text-c.new.out c.put_text-c.result (spellings (fourth (goal.at.After-put_text-c c).Start))
three3 c =
    let e = ap (λ (n : Session). n.target) c.header.view_is in
    field_next (field 56 c.args.header.now.target) (fourth (goal.at.After-put_text-c c).Start) (two (goal.at.After-put_text-c c).After-put_text-b) (rw e at c.put_text-c.ensures.1) (rw e at c.put_text-c.ensures.0)

four : (c : After-put_number-d) → Rest c.args.out.now c.args.at (whole (goal.at.After-put_number-d c).Start) c.put_number-d.new.out c.put_number-d.result (spellings (last (goal.at.After-put_number-d c).Start))
four c =
    let e = ap (λ (n : Session). n.sequence) c.header.view_is in
    field_next (field 34 (digits c.args.header.now.sequence)) (last (goal.at.After-put_number-d c).Start) (three3 (goal.at.After-put_number-d c).After-put_text-c) (rw e at c.put_number-d.ensures.1) (rw e at c.put_number-d.ensures.0)

five : (c : After-put_text) → Rest c.args.out.now c.args.at (whole (goal.at.After-put_text c).Start) c.put_text.new.out c.put_text.result (spellings [])
five c =
    let e = ap (λ (n : Session). n.time) c.header.view_is in
    field_next (field 52 c.args.header.now.time) [] (four (goal.at.After-put_text c).After-put_number-d) (rw e at c.put_text.ensures.1) (rw e at c.put_text.ensures.0)

fields_same : (c : After-put_text) → length c.put_text.new.out ≡ length c.args.out.now
fields_same c = (five c).same

pub put_text-a-requires : goal.put_text-a-requires
put_text-a-requires c =
    let e = c.type_of.ensures in
    omega (arith, field_room (type35 (goal.at.put_text-a-requires c).Start) (second (goal.at.put_text-a-requires c).Start) (begun (goal.at.put_text-a-requires c).Start), ap (λ (x : ℕ). length (spellings (field 35 (x ∷ []) ∷ []))) e)

pub put_text-b-requires : goal.put_text-b-requires
put_text-b-requires c =
    let e = ap (λ (n : Session). n.sender) c.header.view_is in
    rw e (field_room (field 49 c.args.header.now.sender) (third (goal.at.put_text-b-requires c).Start) (one (goal.at.put_text-b-requires c).After-put_text-a))

pub put_text-c-requires : goal.put_text-c-requires
put_text-c-requires c =
    let e = ap (λ (n : Session). n.target) c.header.view_is in
    rw e (field_room (field 56 c.args.header.now.target) (fourth (goal.at.put_text-c-requires c).Start) (two (goal.at.put_text-c-requires c).After-put_text-b))

pub put_number-d-requires : goal.put_number-d-requires
put_number-d-requires c =
    let e = ap (λ (n : Session). n.sequence) c.header.view_is in
    rw e (field_room (field 34 (digits c.args.header.now.sequence)) (last (goal.at.put_number-d-requires c).Start) (three3 (goal.at.put_number-d-requires c).After-put_text-c))

pub put_text-requires : goal.put_text-requires
put_text-requires c =
    let e = ap (λ (n : Session). n.time) c.header.view_is in
    rw e (field_room (field 52 c.args.header.now.time) [] (four (goal.at.put_text-requires c).After-put_number-d))

pub shape_of-out : goal.shape_of-out
shape_of-out c = fields_same (goal.at.shape_of-out c).After-put_text

pub returns : goal.returns
returns c =
    fields_end (five (goal.at.returns c).After-put_text)
