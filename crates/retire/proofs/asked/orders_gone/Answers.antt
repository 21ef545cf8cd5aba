-- `orders_gone` meets its contract: it has counted all orders. Rests on Asked.
use Rattle.std.proofs.Common.{◌≡◌, ◌∙◌, ap, arith}
use Rattle.prelude.specs.Below.{count_below}
use Rattle.store.specs.Book.{book_of, order_count}
use Rattle.parts.specs.Parts.{done_at}
use Rattle.retire.specs.Laws.Asked.{gone_orders}
use Rattle.retire.proofs.asked.orders_gone.Goals as goal

pub returns : goal.returns
returns c =
    let b = c.args.book.now.bytes.now in
    let e : c.loop-i.i ≡ order_count b = omega (arith, c.order_count-i-end.ensures) in
    c.loop-i.invariant ∙ ap (count_below (done_at (book_of b))) e ∙ gone_orders b
