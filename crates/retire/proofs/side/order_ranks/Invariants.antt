-- `order_ranks` counts the orders of the side, and has written how many there were before each. Rests on Side.
use Rattle.std.proofs.Common.{◌≡◌, length}
use Rattle.prelude.specs.Below.{count_below}
use Rattle.store.specs.Layout.{most_orders}
use Rattle.store.specs.Book.{book_of}
use Rattle.retire.specs.Laws.Side.{side, Ranks}
use Rattle.retire.proofs.side.order_ranks.Given as goal

abbrev pub invariant-loop-i : goal.invariant-loop-i
invariant-loop-i l = record {
  size : length l.ranks ≡ most_orders;
  counted : l.count ≡ count_below (side l.done (book_of l.book.bytes.now)) l.i;
  ranks : Ranks (side l.done (book_of l.book.bytes.now)) l.i l.ranks;
}
