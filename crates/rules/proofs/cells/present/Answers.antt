-- `present` meets its contract: the length, then the zeros behind it. Rests on Kinds.
use Rattle.std.proofs.Common.{sym, ◌∙◌, eq-eqb}
use Rattle.prelude.specs.Texts.{text_at}
use Rattle.rules.specs.Laws.Kinds.{some_text, no_text}
use Rattle.rules.proofs.cells.present.Goals as goal

pub returns-then-book-at-ne0 : goal.returns-then-book-at-ne0
returns-then-book-at-ne0 c = c.filled.ensures ∙ some_text (text_at c.args.book.now c.args.at) c.if-book-at-ne0.true

pub returns-else-book-at-ne0 : goal.returns-else-book-at-ne0
returns-else-book-at-ne0 c = rw (eq-eqb _ _ c.if-book-at-ne0.false) (sym (no_text (text_at c.args.book.now c.args.at) c.if-book-at-ne0.false))
