-- `records::put_head`: the length, then the bytes behind it. Assumes nothing.
use Rattle.std.proofs.Common.{rules, ◌∙◌, ap}
use Rattle.prelude.specs.Span.{splice}
use Rattle.prelude.specs.Laws.Span.{part_splice, splice_append}
use Rattle.prelude.specs.Number.{bytes_of}
use Rattle.records.specs.Answer.{head_counts, head_bytes}
use Rattle.records.proofs.put_head.Goals as goal

pub returns : goal.returns
unfolding head_bytes
returns c =
    let a = c.args in
    part_splice _ _ 2 3 (search rules)
    ∙ ap (splice _ 2) c.copy_from_slice.ensures.after
    ∙ (rw c.put_number.ensures.1 (splice_append a.dst.now 0 (bytes_of 2 a.n) (head_counts a.count a.alarm a.alarm2) (search rules)))
