-- `fields::put_text`: a byte, and the text behind it. Assumes nothing.
use Rattle.std.proofs.Common.{rules, refl, ◌∙◌, [], ◌∷◌, length}
use Rattle.prelude.specs.Laws.Span.{set_splice, splice_append}
use Rattle.records.proofs.fields.put_text.Goals as goal

pub returns : goal.returns
returns c =
    let a = c.args in
    let n = length a.text.now in (
      refl,
      c.put_bytes.ensures ∙ (rw (set_splice a.dst.now a.at n (search rules)) (splice_append a.dst.now a.at (n ∷ []) a.text.now (search rules))),
    )
