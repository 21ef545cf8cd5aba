-- `clear` meets its contract: it leaves zeros, and the setting. Assumes nothing.
use Rattle.std.proofs.Common.{ℕ, ap, eq-eqb, ne_eqb}
use Rattle.prelude.specs.Cases.{if◌then◌otherwise◌}
use Rattle.prelude.specs.Number.{bytes_of}
use Rattle.prelude.specs.Span.{splice}
use Rattle.prelude.specs.Bytes.{zeros}
use Rattle.store.specs.Layout.{header·setting}
use Rattle.store.specs.Book.{clear_book, blank}
use Rattle.store.proofs.clear.Goals as goal

pub returns-then-book-eq-BOOK : goal.returns-then-book-eq-BOOK
unfolding clear_book blank if◌then◌otherwise◌
returns-then-book-eq-BOOK c =
    rw (eq-eqb _ _ c.if-book-eq-BOOK.true, c.put32.ensures, c.fill.ensures.after)
    (ap (λ (n : ℕ). splice (zeros n) header·setting (bytes_of 4 c.args.setting)) c.if-book-eq-BOOK.true)

pub returns-else-book-eq-BOOK : goal.returns-else-book-eq-BOOK
unfolding clear_book if◌then◌otherwise◌
returns-else-book-eq-BOOK c = rw (ne_eqb _ _ c.if-book-eq-BOOK.false)
