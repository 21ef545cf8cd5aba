-- `orders_gone` has counted those of the first i orders. Rests on Asked.
use Rattle.std.proofs.Common.{◌≡◌}
use Rattle.prelude.specs.Below.{count_below}
use Rattle.store.specs.Book.{book_of}
use Rattle.parts.specs.Parts.{done_at}
use Rattle.retire.proofs.asked.orders_gone.Given as goal

abbrev pub invariant-loop-i : goal.invariant-loop-i
invariant-loop-i l = l.count ≡ count_below (done_at (book_of l.book.bytes.now)) l.i
