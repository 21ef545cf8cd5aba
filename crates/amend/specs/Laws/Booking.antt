-- A booking at one past those in use, of a name and a ClOrdID that are unused or not, is the machine's event 1. Rests on Booking and machine's Machine.
use Rattle.std.specs.Prelude.{◌+◌, ◌-◌, ◌≡◌, length}
use Rattle.std.proofs.Common.{arith}
use Rattle.store.specs.Book.{Book}
use Rattle.machine.specs.Changes.{Event}
use Rattle.machine.specs.Machine.{unused, book_order}
use Rattle.amend.specs.Booking.{book_at}

pub book_at_lem : (b : Book) (e : Event) → book_at (length b.orders + 1) (length b.requests + 1) (unused b e) e ≡ book_order b e
unfolding book_at book_order
book_at_lem b e = let n : (length b.orders + 1) - 1 ≡ length b.orders = omega arith in rw n
