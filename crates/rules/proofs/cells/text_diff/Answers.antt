-- `text_diff` meets its contract: the lengths, then the words in pairs. Rests on Gathered and Places.
use Rattle.std.proofs.Common.{arith}
use Rattle.rules.specs.Laws.Gathered.{or_clear, xor_clear}
use Rattle.rules.specs.Laws.Places.{words_paired}
use Rattle.rules.proofs.cells.text_diff.Goals as goal

pub returns : goal.returns
returns c =
    simp or_clear
    (rw (c.from.ensures, xor_clear, c.word_diff.ensures, c.word_diff-2.ensures, c.word_diff-3.ensures, c.word_diff-4.ensures)
    (words_paired c.args.book.now c.fits-book c.args.x c.args.y (omega arith) (omega arith)))
