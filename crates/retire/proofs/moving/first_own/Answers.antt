-- `first_own` meets its contract: it gives the first request that passes. Rests on prelude's Chains.
use Rattle.std.proofs.Common.{ap, ◌∙◌, arith, rules, tests}
use Rattle.std.proofs.lemmas.Iterator.{YieldsList-from_range}
use Rattle.std.proofs.lemmas.Iterator.Search.{find_from_yields_List}
use Rattle.prelude.specs.Below.{first_below}
use Rattle.prelude.specs.Laws.Chains.{find_range}
use Rattle.store.specs.Book.{book_of}
use Rattle.retire.specs.Laws.Moved.{own_at}
use Rattle.retire.proofs.moving.first_own.Goals as goal

pub returns : goal.returns
returns c =
    let n = c.request_count.result in
    search rules
    ∙ find_from_yields_List (own_at (book_of c.args.book.now.bytes.now) c.args.i) _ _ _ c.find.ensures.ran (YieldsList-from_range 0 n n (cc) (omega arith)) (λ x b q k. search (rules, tests))
    ∙ find_range _ n
    ∙ ap (first_below _) c.request_count.ensures
