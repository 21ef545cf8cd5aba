-- `page::put_lines` meets its contract: each turn writes one line more. Rests on Call.
use Rattle.std.proofs.Common.{◌<◌, refl, sym, arith, length-take, length-drop}
use Rattle.prelude.specs.Laws.Span.{splice_nil}
use Rattle.store.specs.Book.{order_count}
use Rattle.page.specs.Page.{page_bytes}
use Rattle.page.specs.Laws.Call.{range_loaded}
use Rattle.page.proofs.put_lines.Goals as goal

pub loop-i-init : goal.loop-i-init
unfolding page_bytes
loop-i-init c = (refl, sym (splice_nil c.args.out.now 0))

pub put_line-requires : goal.put_line-requires
put_line-requires c =
    let k = c.args.book.now in
    let h : c.loop-i.i < order_count k.bytes.now = omega (arith, c.order_count-i-end.ensures) in
    (simp (length-take, length-drop) (omega arith), range_loaded k.bytes.now k.kept c.loop-i.i h c.load_order-o.result c.load_order-o.ensures)
