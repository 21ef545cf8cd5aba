-- `texted`: the session's three texts, then the record's. Rests on Laws.Whole.
use Rattle.std.proofs.Common.{◌≡◌, Bool, ◌&&◌, sym, ap, ◌∙◌}
use Rattle.prelude.specs.Below.{all_below}
use Rattle.fix_words.specs.Message.{is_text, texted, text_at}
use Rattle.fix_words.specs.Record.{field_at}
use Rattle.fix.specs.Laws.Planned.{text_sound}
use Rattle.fix.specs.Laws.Whole.{form_text, texts_right_lem, and_assoc}
use Rattle.fix.proofs.write.texted.Goals as goal
use Rattle.fix.proofs.write.texted.Goals.{then-is_text, else-is_text, then-is_text-2, else-is_text-2}

pub texts_right-requires : goal.texts_right-requires
texts_right-requires c =
    let p = c.args.parts.now in
    λ b h f. text_sound c.args.«record».now p.map p.at p.numbers p.high c.requires b h (form_text b f)

pub returns-then-is_text-3 : goal.returns-then-is_text-3
unfolding texted
returns-then-is_text-3 c =
    let p = c.args.parts.now in
    let r = c.args.«record».now in
    let s = c.header.inside.sender.now in
    let t = c.header.inside.target.now in
    let u = c.header.inside.time.now in
    let one : c.if-is_text.value ≡ (is_text s && is_text t) =
    elim c.if-is_text.branch [
      | then-is_text w ↦ w.value-is ∙ w.is_text-then-is_text.ensures ∙ rw (sym c.is_text.ensures ∙ w.if-is_text.true)
      | else-is_text w ↦ w.value-is ∙ w.if-is_text.false ∙ rw (sym c.is_text.ensures ∙ w.if-is_text.false)
    ] in
    let two : c.if-is_text-2.value ≡ ((is_text s && is_text t) && is_text u) =
    elim c.if-is_text-2.branch [
      | then-is_text-2 w ↦ w.value-is ∙ w.is_text-then-is_text-2.ensures ∙ rw (sym one ∙ w.if-is_text-2.true)
      | else-is_text-2 w ↦ w.value-is ∙ w.if-is_text-2.false ∙ rw (sym one ∙ w.if-is_text-2.false)
    ] in
    rw (← c.header.view_is) (
    c.texts_right.ensures
    ∙ texts_right_lem r p.map p.at p.numbers p.high c.requires
    ∙ sym (ap (λ (x : Bool). x && all_below (λ b. text_at b (field_at r b)) 32) (sym two ∙ c.if-is_text-3.true))
    ∙ and_assoc (is_text s) (is_text t) (is_text u) (all_below (λ b. text_at b (field_at r b)) 32)
    )
