-- `put_lines` meets its contract: each turn takes one order more. Rests on Call.
use Rattle.std.proofs.Common.{◌+◌, ◌<◌, length, ap, ◌∙◌, arith}
use Rattle.store.specs.Book.{book_of, order_count}
use Rattle.net.specs.Laws.Call.{positions_few, length_lines, Turned, turn}
use Rattle.net.proofs.put_lines.Goals as goal

pub loop-i-preserved : goal.loop-i-preserved
loop-i-preserved c =
    let p = c.put_next-lines in
    let l = c.loop-i in
    let k = c.args.book.now in
    let b = k.bytes.now in
    let h : l.i < order_count b = omega (arith, c.order_count-i-end.ensures) in
    let t : Turned (book_of b) c.args.out.now (l.i + 1) p.result p.new.out = turn b k.kept c.args.out.now l.i l.lines p.result l.out p.new.out h c.requires l.invariant.2 p.ensures in (
      ap length t.bytes ∙ length_lines b k.kept c.args.out.now (l.i + 1) (omega arith) c.requires,
      omega (arith, t.number, positions_few (book_of b) (l.i + 1)),
      t,
    )
