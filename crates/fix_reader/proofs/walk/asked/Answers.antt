-- `asked`: the value of the field, and that of 37. Rests on Laws.Cut.
use Rattle.std.proofs.Common.{ap, ◌∙◌}
use Rattle.fix_words.specs.Lists.{every, is_print}
use Rattle.fix_reader.specs.Laws.Cut.{part_prints}
use Rattle.fix_reader.proofs.walk.asked.Goals as goal

pub value_fits-requires : goal.value_fits-requires
value_fits-requires c =
    let f = c.args.f.now in
    (c.requires, ap (every is_print) c.value.ensures ∙ part_prints f.message.now f.table.now.at f.table.now.length f.cut.placed c.args.t.next)
