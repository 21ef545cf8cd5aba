-- `cut::place_in`: the end of the first message, and of the second. Rests on Laws.Cut.
use Rattle.std.proofs.Common.{◌≡◌, ◌<◌, rules, sym, ap, ◌∙◌, arith, length-take}
use Rattle.prelude.specs.Span.{span}
use Rattle.words.specs.Laws.Windows.{window_16}
use Rattle.format.specs.Places.{end_of}
use Rattle.records.specs.Answer.{head_size, length_in, count_in, answer_in}
use Rattle.records.specs.Place.{place_of, stands}
use Rattle.records.specs.Laws.Cut.{taken, first_place, first_up, first_inside, second_place, second_up, second_inside}
use Rattle.records.proofs.cut.place_in.Goals as goal
use Rattle.records.proofs.cut.place_in.Goals.{After-end_at, After-end_at-first, After-from-long, Else-n-eq0, Start}

some : (c : Start) → 0 < count_in c.args.answer.now
some c = omega (arith, c.requires.1)

said : (c : After-from-long) → c.from-long.result ≡ length_in c.args.answer.now
said c = c.from-long.ensures ∙ c.get16.ensures ∙ window_16 c.args.answer.now 0

ends : (c : After-end_at-first) → c.end_at-first.result ≡ end_of (answer_in c.args.answer.now) head_size
unfolding span
ends c = let n = said (goal.at.After-end_at-first c).After-from-long in rw n at c.end_at-first.ensures

pub slice_bounds-a-end : goal.slice_bounds-a-end
slice_bounds-a-end c =
    simp length-take (omega (arith, said (goal.at.slice_bounds-a-end c).After-from-long, (taken c.args.answer.now c.requires.0).fits))

pub end_at-first-requires : goal.end_at-first-requires
end_at-first-requires c =
    let s = c.args.answer.now in
    let k = c.requires.0 in
    let h = some (goal.at.end_at-first-requires c).Start in
    (search rules, simp length-take (omega (arith, said (goal.at.end_at-first-requires c).After-from-long, (taken s k).fits, first_up s k h, first_inside s k h)))

pub between-requires : goal.between-requires
between-requires c =
    let s = c.args.answer.now in
    let k = c.requires.0 in
    let h = some (goal.at.between-requires c).Start in
    let e = ends (goal.at.between-requires c).After-end_at-first in
    let n = said (goal.at.between-requires c).After-from-long in
    let u = first_up s k h in
    let i = first_inside s k h in
    (omega arith, omega arith)

pub returns-then-n-eq0 : goal.returns-then-n-eq0
returns-then-n-eq0 c =
    let s = c.args.answer.now in
    c.between.ensures
    ∙ ap (stands head_size) (ends (goal.at.returns-then-n-eq0 c).After-end_at-first)
    ∙ sym (first_place s c.requires.0 (some (goal.at.returns-then-n-eq0 c).Start))
    ∙ ap (place_of s) (sym c.if-n-eq0.true)

-- there is a second
more : (c : Else-n-eq0) → (1 < count_in c.args.answer.now) × (c.args.n ≡ 1)
more c = let f = (taken c.args.answer.now c.requires.0).few in (omega (arith, c.requires.1), omega (arith, c.requires.1))

pub end_at-requires : goal.end_at-requires
end_at-requires c =
    let s = c.args.answer.now in
    let k = c.requires.0 in
    let e = ends (goal.at.end_at-requires c).After-end_at-first in
    let n = said (goal.at.end_at-requires c).After-from-long in
    let f = (taken s k).fits in
    let m = (more (goal.at.end_at-requires c).Else-n-eq0).0 in
    let u = second_up s k m in
    let i = second_inside s k m in
    (omega arith, simp length-take (omega arith))

ends_2 : (c : After-end_at) → let s = c.args.answer.now in c.end_at.result ≡ end_of (answer_in s) (end_of (answer_in s) head_size)
unfolding span
ends_2 c =
    let s = c.args.answer.now in
    let n = said (goal.at.After-end_at c).After-from-long in
    (rw n at c.end_at.ensures) ∙ ap (end_of (answer_in s)) (ends (goal.at.After-end_at c).After-end_at-first)

pub between-requires-2 : goal.between-requires-2
between-requires-2 c =
    let s = c.args.answer.now in
    let k = c.requires.0 in
    let e = ends (goal.at.between-requires-2 c).After-end_at-first in
    let e2 = ends_2 (goal.at.between-requires-2 c).After-end_at in
    let n = said (goal.at.between-requires-2 c).After-from-long in
    let m = (more (goal.at.between-requires-2 c).Else-n-eq0).0 in
    let u = second_up s k m in
    let i = second_inside s k m in
    (omega arith, omega arith)

pub returns : goal.returns
returns c =
    let s = c.args.answer.now in
    let m = more (goal.at.returns c).Else-n-eq0 in
    c.between-2.ensures
    ∙ (λ i. stands (ends (goal.at.returns c).After-end_at-first i) (ends_2 (goal.at.returns c).After-end_at i))
    ∙ sym (second_place s c.requires.0 m.0)
    ∙ ap (place_of s) (sym m.1)
