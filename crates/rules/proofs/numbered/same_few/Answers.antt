-- `same_few` meets its contract: the bytes below n agree. Rests on prelude's Chains.
use Rattle.std.proofs.Common.{◌∙◌, rules, arith, tests}
use Rattle.std.proofs.lemmas.Iterator.{YieldsList-from_range}
use Rattle.std.proofs.lemmas.Iterator.Search.{all_from_yields_List}
use Rattle.prelude.specs.Laws.Chains.{all_range}
use Rattle.rules.specs.Laws.Suffix.{alike_at}
use Rattle.rules.proofs.numbered.same_few.Goals as goal

pub returns : goal.returns
returns c =
    all_from_yields_List (alike_at c.args.book.now c.args.x c.args.y) _ _ _ c.all.ensures.ran (YieldsList-from_range 0 c.args.n c.args.n (cc) (omega arith)) (λ x b q k. search (rules, tests))
    ∙ all_range _ c.args.n
