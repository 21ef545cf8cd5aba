-- `find` meets its contract: it gives the first place that has the name. Rests on prelude's Chains.
use Rattle.std.proofs.Common.{◌∙◌, arith, rules, tests}
use Rattle.std.proofs.lemmas.Iterator.{YieldsList-from_range}
use Rattle.std.proofs.lemmas.Iterator.Search.{find_from_yields_List}
use Rattle.prelude.specs.Laws.Chains.{find_range}
use Rattle.marks.specs.Marks.{place_count, has_name}
use Rattle.marks.proofs.place.find.Goals as goal

pub returns : goal.returns
returns c =
    let n = place_count c.args.places.now in
    search rules
    ∙ find_from_yields_List (has_name c.args.places.now c.args.bytes.now) _ _ _ c.find.ensures.ran (YieldsList-from_range 0 n n (cc) (omega arith)) (λ x b q k. search (rules, tests))
    ∙ find_range _ n
