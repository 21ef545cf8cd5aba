-- `Ruled::opens_right` meets its contract: each order in use is asked. Rests on prelude's Chains.
use Rattle.std.proofs.Common.{◌∙◌, rules, arith, tests}
use Rattle.std.proofs.lemmas.Iterator.{YieldsList-from_range}
use Rattle.std.proofs.lemmas.Iterator.Search.{all_from_yields_List}
use Rattle.prelude.specs.Laws.Chains.{all_range}
use Rattle.store.specs.Book.{order_count}
use Rattle.index.specs.Laws.Left.{right_first, right_all}
use Rattle.index.proofs.sums.Ruled.opens_right.Goals as goal

pub returns : goal.returns
returns c =
    let b = c.args.self.now.bytes.now in
    let n = order_count b in
    all_from_yields_List (right_first b) _ _ _ c.all.ensures.ran (YieldsList-from_range 0 n n (cc) (omega (arith, c.order_count.ensures))) (λ x r q k. search (rules, tests))
    ∙ all_range (right_first b) n
    ∙ right_all b
