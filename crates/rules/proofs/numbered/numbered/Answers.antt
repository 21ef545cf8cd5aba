-- `numbered` meets its contract: the length, then the start, the end and the zeros after them. Rests on Suffix.
use Rattle.std.proofs.Common.{◌≡◌, ◌+◌, ◌&&◌, ◌==◌, sym, ◌∙◌, arith}
use Rattle.prelude.specs.Below.{all_below}
use Rattle.prelude.specs.Number.{word64}
use Rattle.prelude.specs.Texts.{text_at, same_text, is_text}
use Rattle.text.specs.Numbered.{numbered_text}
use Rattle.rules.specs.Laws.Gathered.{or_clear, xor_clear}
use Rattle.rules.specs.Laws.Suffix.{alike_at, name_short, numbered_other, numbered_here}
use Rattle.rules.proofs.numbered.numbered.Goals as goal
use Rattle.rules.proofs.numbered.numbered.Goals.{Else-from-n}

pub returns-then-from-n : goal.returns-then-from-n
returns-then-from-n c =
    sym (numbered_other c.args.book.now c.fits-book c.args.at c.args.from c.args.k c.suffix_of-tail.result.word c.suffix_of-tail.result.len
    (omega arith) (omega arith) c.requires.2 c.requires.3 c.suffix_of-tail.ensures (rw (c.from.ensures, c.from-n.ensures) at c.if-from-n.true))

pub start_diff-start-requires : goal.start_diff-start-requires
start_diff-start-requires c = (c.requires.0, c.requires.1, omega (arith, name_short (text_at c.args.book.now c.args.from) c.requires.2))

pub u64_at-requires : goal.u64_at-requires
u64_at-requires c = omega (arith, name_short (text_at c.args.book.now c.args.from) c.requires.2)

-- the rule as it is decided from the start on, if the length is that of the name, the dash and the number
here : (c : Else-from-n) → (all_below (alike_at c.args.book.now c.args.at c.args.from) c.from-n.result && word64 c.args.book.now (c.args.at + c.from-n.result) == c.suffix_of-tail.result.word && is_text (text_at c.args.book.now c.args.at)) ≡ same_text (text_at c.args.book.now c.args.at) (numbered_text (text_at c.args.book.now c.args.from) c.args.k)
here c =
    numbered_here c.args.book.now c.fits-book c.args.at c.args.from c.args.k c.suffix_of-tail.result.word c.suffix_of-tail.result.len
    (omega arith) (omega arith) c.requires.2 c.requires.3 c.suffix_of-tail.ensures c.from-n.result c.from-n.ensures (sym c.from.ensures ∙ c.if-from-n.false)

pub returns : goal.returns
returns c =
    simp (or_clear, xor_clear)
    (rw (c.start_diff-start.ensures, c.u64_at.ensures, c.filled_diff.ensures) (here (goal.at.returns c).Else-from-n))
