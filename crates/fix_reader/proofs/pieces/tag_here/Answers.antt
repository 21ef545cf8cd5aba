-- `tag_here`: by its digits. Rests on Laws.Pieces.
use Rattle.std.proofs.Common.{rules, arith}
use Rattle.fix_reader.specs.Laws.Pieces.{one_digit, two_digits, three_digits}
use Rattle.fix_reader.proofs.pieces.tag_here.Goals as goal

pub returns-in_ok-tag-in-61 : goal.returns-in_ok-tag-in-61
returns-in_ok-tag-in-61 c =
    let a = c.in_ok-tag-in-61 in
    one_digit c.args.t.now a.tag (search (rules, arith)) a.ensures (search (rules, arith))

pub returns-in_ok-tag-in-61-2 : goal.returns-in_ok-tag-in-61-2
returns-in_ok-tag-in-61-2 c =
    let a = c.in_ok-digit-in-61-2 in
    let b = c.in_ok-tag-in-61-2 in
    two_digits c.args.t.now a.field-0 (search (rules, arith)) a.ensures b.field-0 b.ensures (search (rules, arith))

pub returns-in_ok-tag-in-61-3 : goal.returns-in_ok-tag-in-61-3
returns-in_ok-tag-in-61-3 c =
    let a = c.in_ok-digit-in-61-3 in
    let b = c.in_ok-digit-in-61-3-2 in
    let d = c.in_ok-tag-in-61-3 in
    three_digits c.args.t.now a.field-0 (omega arith) a.ensures b.field-0 b.ensures d.field-0 d.ensures (omega arith)
