-- `Side::move_requests` has moved those of the first j requests. Rests on Rows.
use Rattle.std.proofs.Common.{◌≡◌}
use Rattle.store.specs.Book.{book_of}
use Rattle.retire.specs.Retire.{requests_moved}
use Rattle.retire.specs.Laws.Side.{side}
use Rattle.retire.proofs.side.Side.move_requests.Given as goal

abbrev pub invariant-loop-j : goal.invariant-loop-j
invariant-loop-j l = l.into ≡ requests_moved (side l.self.done (book_of l.self.book.bytes.now)) l.self.book.bytes.now l.orders l.requests l.initial.into l.j
