-- `links_ok` meets its contract: the orders in use keep their rules. Rests on prelude's Chains.
use Rattle.std.proofs.Common.{ℕ, ◌∙◌, get_or, ap, rules, arith, tests}
use Rattle.std.proofs.lemmas.Iterator.{YieldsList-from_range}
use Rattle.std.proofs.lemmas.Iterator.Search.{all_from_yields_List}
use Rattle.prelude.specs.Laws.Below.{all_ext}
use Rattle.prelude.specs.Laws.Chains.{all_range}
use Rattle.rules.specs.Laws.Here.{links_at, links_of}
use Rattle.rules.proofs.links.links_ok.Goals as goal

pub returns : goal.returns
unfolding links_of
returns c =
    let b = c.args.book.now.bytes.now in
    let m = c.args.book.now.requests in
    let n = c.args.book.now.orders in
    all_from_yields_List (λ (i : ℕ). links_at b m (get_or c.args.next.now i 0) i) _ _ _ c.all.ensures.ran (YieldsList-from_range 0 n n (cc) (omega arith)) (λ x b q k. search (rules, tests))
    ∙ all_range _ n
    ∙ all_ext _ _ n (λ i h. ap (λ (k : ℕ). links_at b m k i) (c.requires i (omega arith)))
