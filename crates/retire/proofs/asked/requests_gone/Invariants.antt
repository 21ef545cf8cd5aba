-- `requests_gone` has counted those of the first j requests. Rests on Asked.
use Rattle.std.proofs.Common.{◌≡◌}
use Rattle.prelude.specs.Below.{count_below}
use Rattle.store.specs.Book.{book_of}
use Rattle.parts.specs.Parts.{done_at, of_passing}
use Rattle.retire.proofs.asked.requests_gone.Given as goal

abbrev pub invariant-loop-j : goal.invariant-loop-j
invariant-loop-j l = l.count ≡ count_below (of_passing (done_at (book_of l.book.bytes.now)) (book_of l.book.bytes.now)) l.j
