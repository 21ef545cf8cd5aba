-- `behind_point`: by the place of the first point. Rests on Laws.Special.
use Rattle.std.proofs.Common.{rules, ◌+◌, sym, ◌∙◌, tests}
use Rattle.std.proofs.lemmas.List.{take_rest}
use Rattle.std.proofs.lemmas.Iterator.{YieldsList-from_slice}
use Rattle.std.proofs.lemmas.Iterator.Search.{position_from_yields_List}
use Rattle.fix_reader.specs.Laws.Special.{is_point, behind_some, behind_none}
use Rattle.fix_reader.proofs.exec.behind_point.Goals as goal

pub returns-in-Some : goal.returns-in-Some
returns-in-Some c =
    let v = c.args.v.now in
    let n = c.in-Some.i + 1 in
    let e = position_from_yields_List is_point _ _ _ c.position.ensures.ran (YieldsList-from_slice c.args.v.now (cc)) (λ x b q k. search (rules, tests)) in
    take_rest v n ∙ behind_some v c.in-Some.i (sym c.in-Some.is ∙ e)

pub returns-in-None : goal.returns-in-None
returns-in-None c =
    let e = position_from_yields_List is_point _ _ _ c.position.ensures.ran (YieldsList-from_slice c.args.v.now (cc)) (λ x b q k. search (rules, tests)) in
    behind_none c.args.v.now (sym c.in-None.is ∙ e)
