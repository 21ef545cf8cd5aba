-- `page::put_lines` meets its contract: each turn writes one line more. Rests on Call.
use Rattle.std.proofs.Common.{◌≡◌, length, take}
use Rattle.prelude.specs.Span.{splice}
use Rattle.store.specs.Book.{book_of}
use Rattle.page.specs.Page.{page_of, page_bytes}
use Rattle.page.proofs.put_lines.Given as goal

abbrev pub invariant-loop-i : goal.invariant-loop-i
invariant-loop-i l = (length l.out ≡ length l.initial.out) × (l.out ≡ splice l.initial.out 0 (page_bytes (take l.i (page_of (book_of l.book.bytes.now)))))
