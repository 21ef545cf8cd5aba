-- `return_place` meets its contract: it gives the first place that is such a mark. Rests on prelude's Chains.
use Rattle.std.proofs.Common.{◌∙◌, arith, rules, tests}
use Rattle.std.proofs.lemmas.Iterator.{YieldsList-from_range}
use Rattle.std.proofs.lemmas.Iterator.Search.{find_from_yields_List}
use Rattle.prelude.specs.Laws.Chains.{find_range}
use Rattle.marks.specs.Marks.{place_count, is_mark, return_place}
use Rattle.marks.proofs.place.return_place.Goals as goal

pub returns : goal.returns
unfolding return_place is_mark
returns c =
    let n = place_count c.args.places.now in
    search rules
    ∙ find_from_yields_List (is_mark c.args.places.now c.args.name.now.letters.now) _ _ _ c.find.ensures.ran (YieldsList-from_range 0 n n (cc) (omega arith)) (λ x b q k. rw (← c.bytes-bytes.ensures) (search (rules, tests)))
    ∙ find_range _ n
