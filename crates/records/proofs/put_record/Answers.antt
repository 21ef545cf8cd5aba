-- `records::put_record`: the kind, the map and the fields. Assumes nothing.
use Rattle.std.proofs.Common.{◌≡◌, ◌+◌, ◌∙◌, arith, length-set}
use Rattle.records.specs.Laws.Writing.{length_record, three}
use Rattle.records.proofs.put_record.Goals as goal

pub bounds-dst-o : goal.bounds-dst-o
bounds-dst-o c = omega (arith, length_record c.args.r.now)

pub put_number-p-requires : goal.put_number-p-requires
put_number-p-requires c = (omega arith, simp length-set (omega (arith, length_record c.args.r.now)))

pub put_fields-requires : goal.put_fields-requires
put_fields-requires c =
    omega (arith, length_record c.args.r.now, c.put_number-p.auto.dst, length-set c.args.dst.now c.args.o c.args.r.now.kind)

pub returns : goal.returns
returns c =
    let a = c.args in
    let n = c.put_number-p in
    let f = c.put_fields.ensures in
    let l : n.result ≡ a.o + 5 = omega arith in
    (omega (arith, length_record a.r.now, f.0), f.1 ∙ (rw (n.ensures.1, c.from.ensures) (three a.dst.now a.o n.result a.r.now c.requires l)))
