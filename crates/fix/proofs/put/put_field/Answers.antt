-- `fix::put::put_field`: the tag, =, the value, SOH. Assumes nothing.
use Rattle.std.proofs.Common.{◌≡◌, sym, ap, ◌∙◌, List, ℕ, ◌+◌, ◌≤◌, arith, length, set, length-set, Some}
use Rattle.prelude.specs.Span.{splice}
use Rattle.prelude.specs.Laws.Span.{splice_nil}
use Rattle.decimal.specs.Decimal.{decimal}
use Rattle.fix_words.specs.Laws.Counting.{field_long_lem, field_put}
use Rattle.fix.specs.Laws.Plan.{said_by, long_of, Sound}
use Rattle.fix.specs.Laws.Putting.{said_long, shown_some, shown_none, field_some}
use Rattle.fix.proofs.put.put_field.Goals as goal
use Rattle.fix.proofs.put.put_field.Goals.{After-put_decimal-a, In-Some}

-- all four parts have room
room : (c : In-Some) → let a = c.args in a.at + length (decimal 0 a.tag) + 1 + long_of c.in-Some.value + 1 ≤ length a.out.now
room c = let a = c.args in omega (arith, c.requires.1, field_some a.tag a.v c.in-Some.value c.in-Some.is)

sound : (c : In-Some) → Sound c.args.s.now (Some c.in-Some.value)
sound c = rw c.in-Some.is at c.requires.0

-- after the tag: the length of the buffer with = behind it
after_tag : (c : After-put_decimal-a) → let p = c.put_decimal-a in length (set p.new.out p.result 61) ≡ length c.args.out.now
after_tag c = let p = c.put_decimal-a in length-set p.new.out p.result 61 ∙ p.auto.out

pub returns-in_default : goal.returns-in_default
returns-in_default c =
    let a = c.args in
    let n = shown_none a.s.now a.tag a.v c.in_default.is in
    (omega (arith, n.1), sym (ap (splice a.out.now a.at) n.0 ∙ splice_nil a.out.now a.at))

pub put_value-b-requires : goal.put_value-b-requires
put_value-b-requires c =
    let s = (goal.at.put_value-b-requires c).In-Some in
    (sound s, omega (arith, room s, c.put_decimal-a.ensures.0, after_tag (goal.at.put_value-b-requires c).After-put_decimal-a))

pub bounds-out-b : goal.bounds-out-b
bounds-out-b c =
    let p = c.put_value-b in
    omega (arith, room (goal.at.bounds-out-b c).In-Some, c.put_decimal-a.ensures.0, after_tag (goal.at.bounds-out-b c).After-put_decimal-a, p.ensures.0, p.auto.out)

pub returns : goal.returns
returns c =
    let p = c.put_value-b in
    let q = c.put_decimal-a in
    let a = c.args in
    let w = c.in-Some.value in
    let v : List ℕ = said_by a.s.now w in
    let s = (goal.at.returns c).In-Some in
    let l : length v ≡ long_of w = said_long a.s.now w (sound s) in (
      omega (arith, field_some a.tag a.v w c.in-Some.is, q.ensures.0, p.ensures.0),
      ap (λ (d : List ℕ). set d p.result 1) p.ensures.1
          ∙ ap (λ (d : List ℕ). set (splice (set d q.result 61) (q.result + 1) v) p.result 1) q.ensures.1
          ∙ field_put a.out.now a.at a.tag v q.result p.result q.ensures.0 (omega (arith, p.ensures.0, l)) (omega (arith, room s, field_long_lem a.tag v, l))
          ∙ ap (splice a.out.now a.at) (sym (shown_some a.s.now a.tag a.v w c.in-Some.is)),
    )
