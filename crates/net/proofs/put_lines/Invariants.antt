-- `put_lines` meets its contract: each turn takes one order more. Rests on Call.
use Rattle.std.proofs.Common.{◌≡◌, ◌≤◌, length}
use Rattle.store.specs.Book.{book_of}
use Rattle.net.specs.Laws.Call.{Turned}
use Rattle.net.proofs.put_lines.Given as goal

abbrev pub invariant-loop-i : goal.invariant-loop-i
invariant-loop-i l = (length l.out ≡ length l.initial.out) × (l.lines ≤ l.i) × Turned (book_of l.book.bytes.now) l.initial.out l.i l.lines l.out
