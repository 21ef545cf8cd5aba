-- `letters` meets its contract: the letters are counted in 16 bytes, or in 32. Rests on Letters.
use Rattle.std.proofs.Common.{arith}
use Rattle.prelude.specs.Texts.{text_at}
use Rattle.rules.specs.Laws.Letters.{letters_counted}
use Rattle.rules.proofs.ranges.letters.Goals as goal

pub returns-then-len-le16 : goal.returns-then-len-le16
returns-then-len-le16 c =
    rw c.count_letters.ensures (letters_counted (text_at c.args.book.now c.args.at) c.args.len 16 c.requires.2 c.requires.3 (omega arith) (omega arith))

pub returns-else-len-le16 : goal.returns-else-len-le16
returns-else-len-le16 c =
    rw c.count_letters-else-len-le16.ensures (letters_counted (text_at c.args.book.now c.args.at) c.args.len 32 c.requires.2 c.requires.3 (omega (arith, c.requires.1)) (omega arith))
