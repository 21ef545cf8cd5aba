-- `request_ranks` counts the requests of the side's orders, and has written how many there were before each. Rests on Side.
use Rattle.std.proofs.Common.{◌≡◌, length}
use Rattle.prelude.specs.Below.{count_below}
use Rattle.store.specs.Layout.{most_requests}
use Rattle.store.specs.Book.{book_of}
use Rattle.parts.specs.Parts.{of_passing}
use Rattle.retire.specs.Laws.Side.{side, Ranks}
use Rattle.retire.proofs.side.request_ranks.Given as goal

abbrev pub invariant-loop-j : goal.invariant-loop-j
invariant-loop-j l = record {
  size : length l.ranks ≡ most_requests;
  counted : l.count ≡ count_below (of_passing (side l.done (book_of l.book.bytes.now)) (book_of l.book.bytes.now)) l.j;
  ranks : Ranks (of_passing (side l.done (book_of l.book.bytes.now)) (book_of l.book.bytes.now)) l.j l.ranks;
}
