-- `sum_right`: 10, where it is the last field. Rests on Laws.Ending.
use Rattle.std.proofs.Common.{◌-◌, sym, arith}
use Rattle.std.proofs.lemmas.List.{length-take-le}
use Rattle.fix_words.specs.Spelling.{fields_in}
use Rattle.fix_reader.specs.Laws.Cut.{part_within}
use Rattle.fix_reader.specs.Laws.Ending.{sum_elsewhere, sum_tag}
use Rattle.fix_reader.proofs.ending.sum_right.Goals as goal
use Rattle.fix_reader.proofs.ending.sum_right.Goals.{then-saturating_sub-ne1-via-then-saturating_sub-ne1, then-saturating_sub-ne1-via-else-saturating_sub-ne1+then-tag-ne10}

pub returns-then-saturating_sub-ne1 : goal.returns-then-saturating_sub-ne1
returns-then-saturating_sub-ne1 c =
    let fs = fields_in c.args.f.now.message.now in
    elim c.then-saturating_sub-ne1.branch [
      | then-saturating_sub-ne1-via-then-saturating_sub-ne1 w ↦ sym (sum_elsewhere fs c.args.i (omega arith))
      | then-saturating_sub-ne1-via-else-saturating_sub-ne1+then-tag-ne10 w ↦ sym (sum_tag fs c.args.i (omega arith) (omega arith))
    ]

pub slice_bounds-is_sum-length : goal.slice_bounds-is_sum-length
slice_bounds-is_sum-length c =
    let f = c.args.f.now in
    omega (
      arith,
      f.cut.placed.places c.args.i,
      part_within f.message.now f.table.now.at f.table.now.length f.cut.placed c.args.i,
      length-take-le (c.at.result - 3) f.message.now,
    )
