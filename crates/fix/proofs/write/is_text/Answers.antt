-- `is_text`: of every byte. Rests on Laws.Whole.
use Rattle.std.proofs.Common.{not, nat_eq, length, rules, sym, ap, ◌∙◌, eq-eqb, eqb-true, tests}
use Rattle.std.proofs.lemmas.Iterator.{YieldsList-from_slice}
use Rattle.std.proofs.lemmas.Iterator.Search.{all_from_yields_List}
use Rattle.prelude.specs.Laws.Cases.{clash}
use Rattle.fix_words.specs.Lists.{is_print}
use Rattle.fix_words.specs.Laws.Lists.{every_list}
use Rattle.fix.specs.Laws.Whole.{text_some, text_none}
use Rattle.fix.proofs.write.is_text.Goals as goal

pub returns-then-not-is_empty : goal.returns-then-not-is_empty
returns-then-not-is_empty c =
    let s = c.args.s.now in
    all_from_yields_List is_print _ _ _ c.all.ensures.ran (YieldsList-from_slice c.args.s.now (cc)) (λ x b q k. search (rules, tests))
    ∙ every_list is_print s
    ∙ sym (text_some s (λ e. clash (nat_eq (length s) 0) (eq-eqb (length s) 0 e) (sym c.is_empty.ensures ∙ c.if-not-is_empty.true)))

pub returns-else-not-is_empty : goal.returns-else-not-is_empty
returns-else-not-is_empty c =
    let s = c.args.s.now in
    ap not c.if-not-is_empty.false ∙ sym (text_none s (eqb-true (length s) 0 (sym c.is_empty.ensures ∙ c.if-not-is_empty.false)))
