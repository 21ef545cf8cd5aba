-- `Side::move_orders` has moved those of the first i orders. Rests on Rows.
use Rattle.std.proofs.Common.{◌≡◌}
use Rattle.store.specs.Book.{book_of}
use Rattle.retire.specs.Retire.{orders_moved}
use Rattle.retire.specs.Laws.Side.{side}
use Rattle.retire.proofs.side.Side.move_orders.Given as goal

abbrev pub invariant-loop-i : goal.invariant-loop-i
invariant-loop-i l = l.into ≡ orders_moved (side l.self.done (book_of l.self.book.bytes.now)) l.self.book.bytes.now l.behind l.initial.into l.i
