-- `scan::value_of`: a text's length is what follows its length byte; a number's low word is its first 8 bytes. Rests on Ranges.
use Rattle.std.proofs.Common.{◌≡◌, sym, ◌∙◌, true, false}
use Rattle.format.specs.Format.{is_text_bit}
use Rattle.format.specs.Laws.Places.{value_text, value_number}
use Rattle.records.proofs.Ranges.{word_first}
use Rattle.records.proofs.scan.value_of.Goals as goal

pub returns-then-is_text : goal.returns-then-is_text
returns-then-is_text c =
    let t : is_text_bit c.args.b ≡ true = rw c.from.ensures at (sym c.is_text.ensures ∙ c.if-is_text.true) in
    rw (value_text c.args.b c.args.field.now t) c.saturating_sub.ensures

pub returns : goal.returns
returns c =
    let l = c.args.field.now in
    let t : is_text_bit c.args.b ≡ false = rw c.from.ensures at (sym c.is_text.ensures ∙ c.if-is_text.false) in
    rw (value_number c.args.b l t) (c.get64.ensures ∙ word_first l)
