-- `records::put_chosen`: the records one behind the other, each at most a record's most. Rests on Laws.Writing.
use Rattle.std.proofs.Common.{refl, sym, ◌∙◌, arith, ne_eqb, append-nil, length-append}
use Rattle.prelude.specs.Cases.{if◌then◌otherwise◌}
use Rattle.prelude.specs.Laws.Span.{splice_nil, splice_append}
use Rattle.records.specs.Record.{record_bytes}
use Rattle.records.specs.Answer.{head_size}
use Rattle.records.specs.Laws.Writing.{record_most}
use Rattle.records.proofs.put_chosen.Goals as goal

pub put_record-requires : goal.put_record-requires
put_record-requires c = omega (arith, record_most c.args.first.now)

pub put_record-p-requires : goal.put_record-p-requires
put_record-p-requires c = omega (arith, record_most c.args.first.now)

pub put_record-requires-in_default : goal.put_record-requires-in_default
put_record-requires-in_default c =
    omega (arith, record_most c.args.first.now, record_most c.args.second.now, c.put_record-p.ensures.0, c.put_record-p.auto.dst)

pub returns-in-0 : goal.returns-in-0
unfolding if◌then◌otherwise◌
returns-in-0 c = rw c.in-0.is (refl, sym (splice_nil c.args.dst.now head_size))

pub returns-in-1 : goal.returns-in-1
unfolding if◌then◌otherwise◌
returns-in-1 c = rw (c.in-1.is, append-nil (record_bytes c.args.first.now)) c.put_record.ensures

pub returns-in_default : goal.returns-in_default
unfolding if◌then◌otherwise◌
returns-in_default c =
    let a = record_bytes c.args.first.now in
    let b = record_bytes c.args.second.now in
    let p = c.put_record-p.ensures in
    let q = c.put_record-in_default.ensures in
    rw (ne_eqb c.args.count 0 (λ e. absurd (omega arith)), ne_eqb c.args.count 1 (λ e. absurd (omega arith)), append-nil b) (
      omega (arith, length-append a b, p.0, q.0),
      q.1 ∙ (rw (p.1, p.0) (splice_append c.args.dst.now head_size a b (omega (arith, record_most c.args.first.now)))),
    )
