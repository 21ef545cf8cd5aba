-- `put::put_fields`: the fields below b are written. Assumes nothing.
use Rattle.std.proofs.Common.{◌≤◌, ◌+◌, refl, sym, ◌∙◌, add-one, arith, length, length-append}
use Rattle.prelude.specs.Laws.Span.{splice_nil, splice_append}
use Rattle.format.specs.Wire.{field_bytes, body}
use Rattle.format.specs.Laws.Trip.{body_room}
use Rattle.records.specs.Fields.{held}
use Rattle.records.proofs.put.put_fields.Goals as goal
use Rattle.records.proofs.put.put_fields.Goals.{In-loop-b}

pub loop-b-init : goal.loop-b-init
unfolding body
loop-b-init c = (refl, omega arith, sym (splice_nil c.args.dst.now c.args.start))

-- there is room for the next field
room : (c : In-loop-b) → let r = c.args.r.now in
    length (body r.map (held r) c.loop-b.b) + length (field_bytes r.map (held r) c.loop-b.b) ≤ length (body r.map (held r) 32)
room c = let r = c.args.r.now in body_room r.map (held r) c.loop-b.b 32 c.loop-b-test.true

pub put_field-at-requires : goal.put_field-at-requires
put_field-at-requires c = (omega arith, c.numbers_of-numbers.ensures, omega (arith, room (goal.at.put_field-at-requires c).In-loop-b))

pub loop-b-preserved : goal.loop-b-preserved
unfolding body
loop-b-preserved c =
    let a = c.args in
    let r = a.r.now in
    let l = c.loop-b in
    let x = body r.map (held r) l.b in
    let y = field_bytes r.map (held r) l.b in
    let q = room (goal.at.loop-b-preserved c).In-loop-b in (
      c.put_field-at.auto.dst ∙ l.invariant.0,
      rw add-one (simp length-append (omega arith)),
      rw add-one (c.put_field-at.ensures.1 ∙ (rw (l.invariant.2, l.invariant.1) (splice_append a.dst.now a.start x y (omega arith)))),
    )
