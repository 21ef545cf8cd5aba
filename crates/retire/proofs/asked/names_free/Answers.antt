-- `names_free` meets its contract: each order is asked. Rests on prelude's Chains.
use Rattle.std.proofs.Common.{ap, ◌∙◌, arith, rules, tests}
use Rattle.std.proofs.lemmas.Iterator.{YieldsList-from_range}
use Rattle.std.proofs.lemmas.Iterator.Search.{all_from_yields_List}
use Rattle.prelude.specs.Below.{all_below}
use Rattle.prelude.specs.Laws.Chains.{all_range}
use Rattle.store.specs.Book.{book_of}
use Rattle.retire.specs.Retire.{name_free}
use Rattle.retire.proofs.asked.names_free.Goals as goal

pub returns : goal.returns
returns c =
    let n = c.order_count.result in
    all_from_yields_List (name_free (book_of c.args.archive.now) (book_of c.args.book.now.bytes.now)) _ _ _ c.all.ensures.ran (YieldsList-from_range 0 n n (cc) (omega arith)) (λ x b q k. search (rules, tests))
    ∙ all_range _ n
    ∙ ap (all_below _) c.order_count.ensures
