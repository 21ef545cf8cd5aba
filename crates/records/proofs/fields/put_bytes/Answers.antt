-- `records::fields::put_bytes` meets its contract: each turn copies one byte more. Assumes nothing.
use Rattle.std.proofs.Common.{ℕ, ◌+◌, List, set, get_or, length-set, arith, ap, ◌∙◌}
use Rattle.prelude.specs.Laws.Span.{copy_more}
use Rattle.records.proofs.fields.put_bytes.Goals as goal

pub loop-i-preserved : goal.loop-i-preserved
loop-i-preserved c =
    let l = c.loop-i in
    let a = c.args in (
      length-set l.dst (a.at + l.i) (get_or a.bytes.now l.i 0) ∙ l.invariant.0,
      ap (λ (d : List ℕ). set d (a.at + l.i) (get_or a.bytes.now l.i 0)) l.invariant.1 ∙ copy_more a.dst.now a.bytes.now a.at l.i (omega arith) (omega arith),
    )
