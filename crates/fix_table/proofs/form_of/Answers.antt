-- `form_of`: the list of forms is the definition's, and past it there are none. Rests on Laws.Forms.
use Rattle.std.proofs.Common.{Option, refl, ap, ◌∙◌, arith}
use Rattle.std.specs.Option.{unwrap_or}
use Rattle.prelude.specs.Cases.{if◌then◌otherwise◌}
use Rattle.format.specs.Format.{size, range, fields}
use Rattle.fix_words.specs.Values.{places}
use Rattle.fix_table.specs.declared.Form.{Form}
use Rattle.fix_table.specs.declared.Form.TheVariants.{Number}
use Rattle.fix_table.specs.Table.{form_of}
use Rattle.fix_table.specs.Laws.Forms.{form_all}
use Rattle.fix_table.proofs.form_of.Goals as goal

pub returns : goal.returns
unfolding form_of size range fields places if◌then◌otherwise◌
returns c =
    c.unwrap_or.ensures
    ∙ ap (λ (o : Option Form). unwrap_or o (Number 0)) c.copied.ensures
    ∙ c.get.ensures.lookup.4 (omega arith) (Number 0)
    ∙ form_all _ c.args.b refl
