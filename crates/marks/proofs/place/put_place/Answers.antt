-- `put_place` meets its contract: it writes the name, and the book behind it. Rests on Written.
use Rattle.std.proofs.Common.{ℕ, ◌+◌, List, ap, ◌∙◌}
use Rattle.prelude.specs.Span.{splice}
use Rattle.marks.specs.Marks.{name_size, place_base}
use Rattle.marks.proofs.Laws.Written.{name_then_book}
use Rattle.marks.proofs.place.put_place.Goals as goal

pub returns : goal.returns
returns c =
    let b = c.args.book.now.bytes.now in
    let at = place_base c.args.i in
    c.put-2.ensures
    ∙ ap (λ (s : List ℕ). splice s (at + name_size) b) c.put.ensures
    ∙ name_then_book c.args.places.now c.args.name.now.letters.now b c.bytes.result c.args.i c.requires c.bytes.ensures
