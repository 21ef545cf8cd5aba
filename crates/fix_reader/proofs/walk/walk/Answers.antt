-- `walk`: the walk from where it stands is the whole walk. Rests on Laws.Taking.
use Rattle.std.proofs.Common.{◌+◌, ◌<◌, ◌≤◌, List, length, drop, Some, sym, ap, ◌∙◌, arith, drop_of_length-le}
use Rattle.std.proofs.lemmas.List.{length-map}
use Rattle.fix_words.specs.Rows.{in_rows}
use Rattle.fix_words.specs.Spelling.{Field, fields_in}
use Rattle.fix_words.specs.Values.{rows}
use Rattle.fix_table.specs.Table.{as_row}
use Rattle.fix_table.specs.Laws.Rows.{row_is, rows_next}
use Rattle.fix_reader.specs.Laws.Taking.{walk_on, row_in, walked_all}
use Rattle.fix_reader.proofs.walk.walk.Goals as goal

pub take_row-requires : goal.take_row-requires
take_row-requires c =
    let k = c.args.kind.number in
    let e = c.rows-row-items.ensures in
    let h : c.loop-row.row-index < length (rows k) = omega (arith, sym (length-map c.rows-row-items.result.now as_row) ∙ ap length e) in
    ap (in_rows (rows k)) (row_is _ k c.loop-row.row-index _ e c.loop-row-test.true).bit ∙ row_in k c.loop-row.row-index h

pub returns-in_err-t : goal.returns-in_err-t
returns-in_err-t c =
    let l = c.loop-row in
    let k = c.args.kind.number in
    let fs : List Field = fields_in c.args.f.now.message.now in
    rw c.from_residual.ensures
    (c.in_err-t.ensures (drop (l.row-index + 1) (rows k)) ∙ ap (walk_on fs k (Some l.t)) (sym (rows_next _ k l.row-index _ c.rows-row-items.ensures c.loop-row-test.true)) ∙ l.invariant)

pub returns : goal.returns
returns c =
    let l = c.loop-row in
    let k = c.args.kind.number in
    let fs : List Field = fields_in c.args.f.now.message.now in
    let h : length (rows k) ≤ l.row-index = omega (arith, sym (length-map c.rows-row-items.result.now as_row) ∙ ap length c.rows-row-items.ensures) in
    sym (walked_all fs k l.t) ∙ ap (walk_on fs k (Some l.t)) (sym (drop_of_length-le (rows k) {i = l.row-index} h)) ∙ l.invariant
