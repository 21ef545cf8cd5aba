-- `fix::write::put_message`: each part behind the other. Assumes nothing.
use Rattle.std.proofs.Common.{◌≡◌, sym, ap, subst, ◌∙◌, List, [], ◌∷◌, ◌++◌, true, ℕ, ◌+◌, ◌≤◌, arith, length, Option}
use Rattle.prelude.specs.Span.{span, splice}
use Rattle.format.specs.Codes.{within}
use Rattle.format.specs.Places.{kind_at}
use Rattle.fix_words.specs.Spelling.{spellings}
use Rattle.fix_words.specs.Values.{rows}
use Rattle.fix_words.specs.Message.{trailer, inner, front}
use Rattle.fix_words.specs.Record.{Session, writing_of, write_of, write_refusal}
use Rattle.fix.specs.Laws.Plan.{Parted, planned, rows_long, rows_shown, first_two, head_fields, stamp_fields}
use Rattle.fix.specs.Laws.Planned.{plan_sound}
use Rattle.fix.specs.Laws.Putting.{Rest, rest_start, rest_room, rest_next}
use Rattle.fix.specs.Laws.Whole.{body_long, whole_parts, rest_before, whole_kind, taken_parts, whole_split, trailer_long, answer_room}
use Rattle.fix.specs.declared.value.Value.{Value}
use Rattle.fix.proofs.write.put_message.Goals as goal
use Rattle.fix.proofs.write.put_message.Goals.{After-put_body-c, After-put_first-a, After-put_head-b, After-put_stamp-d, Start}

abbrev src : Start → List ℕ
src s = s.args.«record».now

abbrev told : Start → Session
told s = s.args.header.now

abbrev whole : Start → List ℕ
whole s = write_of (src s) (told s)

abbrev k : Start → ℕ
k s = kind_at (src s) 0

parted : (s : Start) → let p = s.args.p.now.parts in Parted (src s) p.map p.at p.numbers p.high
parted s = s.requires.parted

kind : (s : Start) → (within 16 20 (k s) ≡ true) × (5 ≤ length (src s))
kind s = whole_kind (src s) (parted s).whole

abbrev L : Start → ℕ
L s = length (spellings (inner (writing_of (src s) (told s))))

abbrev f : Start → ℕ → Option Value
f s = let p = s.args.p.now.parts in planned (k s) p.map p.at p.numbers p.high

abbrev front10 : Start → List ℕ
front10 s = spellings (front (inner (writing_of (src s) (told s))))

abbrev tail4 : Start → List ℕ
tail4 s = spellings (trailer (front10 s) ∷ [])

abbrev tail3 : Start → List ℕ
tail3 s = spellings (stamp_fields (k s) s.args.header.now.time) ++ tail4 s

abbrev tail2 : Start → List ℕ
tail2 s = rows_shown (src s) (rows (k s)) (f s) ++ tail3 s

abbrev head : Start → List ℕ
head s = spellings (head_fields (k s) s.args.header.now.sender s.args.header.now.target s.args.header.now.sequence s.args.header.now.time)

abbrev tail1 : Start → List ℕ
tail1 s = head s ++ tail2 s

taken : (s : Start) → write_refusal (src s) (told s) (length s.args.out.now) ≡ 0
taken s = s.requires.taken

fits : (s : Start) → length (whole s) ≤ length s.args.out.now
fits s = answer_room (src s) (told s) (length s.args.out.now) (taken_parts (src s) (told s) (length s.args.out.now) (taken s)) (taken s)

begun : (s : Start) → Rest s.args.out.now 0 (whole s) s.args.out.now 0 (spellings (first_two (L s)) ++ tail1 s)
begun s =
    let p = s.args.p.now.parts in
    subst (Rest s.args.out.now 0 (whole s) s.args.out.now 0) (whole_parts (src s) p.map p.at p.numbers p.high (parted s) (told s) (kind s).0)
    (rest_start s.args.out.now 0 (whole s) (omega (arith, fits s)))

the_body : (s : Start) → s.args.p.now.body ≡ L s
the_body s = s.requires.body

first : (c : After-put_first-a) → Rest c.args.out.now 0 (whole (goal.at.After-put_first-a c).Start) c.put_first-a.new.out c.put_first-a.result (tail1 (goal.at.After-put_first-a c).Start)
first c =
    let p = c.put_first-a in
    rest_next (spellings (first_two (L (goal.at.After-put_first-a c).Start))) (tail1 (goal.at.After-put_first-a c).Start) (begun (goal.at.After-put_first-a c).Start)
    (p.ensures.1 ∙ ap (λ (n : ℕ). splice c.args.out.now 0 (spellings (first_two n))) (the_body (goal.at.After-put_first-a c).Start))
    (omega (arith, p.ensures.0, ap (λ (n : ℕ). length (spellings (first_two n))) (the_body (goal.at.After-put_first-a c).Start)))

second : (c : After-put_head-b) → Rest c.args.out.now 0 (whole (goal.at.After-put_head-b c).Start) c.put_head-b.new.out c.put_head-b.result (tail2 (goal.at.After-put_head-b c).Start)
second c = rest_next (head (goal.at.After-put_head-b c).Start) (tail2 (goal.at.After-put_head-b c).Start) (first (goal.at.After-put_head-b c).After-put_first-a) c.put_head-b.ensures.1 c.put_head-b.ensures.0

body_is : (s : Start) → length (rows_shown (src s) (rows (k s)) (f s)) ≡ rows_long (rows (k s)) (f s)
body_is s = let p = s.args.p.now.parts in body_long (src s) p.map p.at p.numbers p.high (parted s) (told s) (kind s).0

third : (c : After-put_body-c) → Rest c.args.out.now 0 (whole (goal.at.After-put_body-c c).Start) c.put_body-c.new.out c.put_body-c.result (tail3 (goal.at.After-put_body-c c).Start)
third c =
    rest_next (rows_shown (src (goal.at.After-put_body-c c).Start) (rows (k (goal.at.After-put_body-c c).Start)) (f (goal.at.After-put_body-c c).Start)) (tail3 (goal.at.After-put_body-c c).Start) (second (goal.at.After-put_body-c c).After-put_head-b) c.put_body-c.ensures.1
    (c.put_body-c.ensures.0 ∙ ap (λ (n : ℕ). c.put_head-b.result + n) (sym (body_is (goal.at.After-put_body-c c).Start)))

fourth : (c : After-put_stamp-d) → Rest c.args.out.now 0 (whole (goal.at.After-put_stamp-d c).Start) c.put_stamp-d.new.out c.put_stamp-d.result (tail4 (goal.at.After-put_stamp-d c).Start)
fourth c =
    let e = ap (λ (n : Session). n.time) c.header.view_is in
    rest_next (spellings (stamp_fields (k (goal.at.After-put_stamp-d c).Start) c.args.header.now.time)) (tail4 (goal.at.After-put_stamp-d c).Start) (third (goal.at.After-put_stamp-d c).After-put_body-c) (rw e at c.put_stamp-d.ensures.1) (rw e at c.put_stamp-d.ensures.0)

summed : (c : After-put_stamp-d) → span c.put_stamp-d.new.out 0 c.put_stamp-d.result ≡ front10 (goal.at.After-put_stamp-d c).Start
summed c =
    rest_before c.args.out.now (front10 (goal.at.After-put_stamp-d c).Start) (tail4 (goal.at.After-put_stamp-d c).Start) c.put_stamp-d.new.out c.put_stamp-d.result
    (subst (λ (w : List ℕ). Rest c.args.out.now 0 w c.put_stamp-d.new.out c.put_stamp-d.result (tail4 (goal.at.After-put_stamp-d c).Start)) (whole_split (writing_of (src (goal.at.After-put_stamp-d c).Start) (told (goal.at.After-put_stamp-d c).Start))) (fourth c))

pub bounds-record-0 : goal.bounds-record-0
bounds-record-0 c = omega (arith, (kind (goal.at.bounds-record-0 c).Start).1)

pub put_first-a-requires : goal.put_first-a-requires
put_first-a-requires c =
    omega (arith, rest_room (spellings (first_two (L (goal.at.put_first-a-requires c).Start))) (tail1 (goal.at.put_first-a-requires c).Start) (begun (goal.at.put_first-a-requires c).Start), ap (λ (n : ℕ). length (spellings (first_two n))) (the_body (goal.at.put_first-a-requires c).Start))

pub put_head-b-requires : goal.put_head-b-requires
put_head-b-requires c =
    rest_room (head (goal.at.put_head-b-requires c).Start) (tail2 (goal.at.put_head-b-requires c).Start) (first (goal.at.put_head-b-requires c).After-put_first-a)

pub put_body-c-requires : goal.put_body-c-requires
put_body-c-requires c =
    let p = c.args.p.now.parts in (
      λ b h. plan_sound (src (goal.at.put_body-c-requires c).Start) p.map p.at p.numbers p.high (parted (goal.at.put_body-c-requires c).Start) (k (goal.at.put_body-c-requires c).Start) b h,
      omega (arith, rest_room (rows_shown (src (goal.at.put_body-c-requires c).Start) (rows (k (goal.at.put_body-c-requires c).Start)) (f (goal.at.put_body-c-requires c).Start)) (tail3 (goal.at.put_body-c-requires c).Start) (second (goal.at.put_body-c-requires c).After-put_head-b), body_is (goal.at.put_body-c-requires c).Start),
    )

pub put_stamp-d-requires : goal.put_stamp-d-requires
put_stamp-d-requires c =
    let e = ap (λ (n : Session). n.time) c.header.view_is in
    rw e (rest_room (spellings (stamp_fields (k (goal.at.put_stamp-d-requires c).Start) c.args.header.now.time)) (tail4 (goal.at.put_stamp-d-requires c).Start) (third (goal.at.put_stamp-d-requires c).After-put_body-c))

pub put_trailer-requires : goal.put_trailer-requires
put_trailer-requires c =
    let r = fourth (goal.at.put_trailer-requires c).After-put_stamp-d in
    omega (arith, r.same, r.sum, r.room, trailer_long (front10 (goal.at.put_trailer-requires c).Start))

pub shape_of-out : goal.shape_of-out
shape_of-out c = c.put_trailer.auto.out ∙ (fourth (goal.at.shape_of-out c).After-put_stamp-d).same

pub returns : goal.returns
returns c =
    let p = c.put_trailer in
    let r = fourth (goal.at.returns c).After-put_stamp-d in (
      omega (arith, p.ensures.0, r.sum, trailer_long (front10 (goal.at.returns c).Start)),
      p.ensures.1 ∙ ap (λ (x : List ℕ). splice c.put_stamp-d.new.out c.put_stamp-d.result (spellings (trailer x ∷ []))) (summed (goal.at.returns c).After-put_stamp-d) ∙ r.put,
    )
