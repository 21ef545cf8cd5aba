-- `ranges_ok` meets its contract: the orders in use are in range. Rests on prelude's Chains.
use Rattle.std.proofs.Common.{◌∙◌, rules, arith, tests}
use Rattle.std.proofs.lemmas.Iterator.{YieldsList-from_range}
use Rattle.std.proofs.lemmas.Iterator.Search.{all_from_yields_List}
use Rattle.prelude.specs.Laws.Chains.{all_range}
use Rattle.rules.specs.Laws.Here.{range_at}
use Rattle.rules.proofs.ranges.ranges_ok.Goals as goal

pub returns : goal.returns
returns c =
    let n = c.args.book.now.orders in
    all_from_yields_List (range_at c.args.book.now.bytes.now c.args.book.now.requests) _ _ _ c.all.ensures.ran (YieldsList-from_range 0 n n (cc) (omega arith)) (λ x b q k. search (rules, tests))
    ∙ all_range _ n
