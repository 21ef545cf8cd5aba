-- `Pair::unseen` meets its contract: each of the first n orders is asked. Rests on prelude's Chains.
use Rattle.std.proofs.Common.{◌∙◌, arith, rules, tests}
use Rattle.std.proofs.lemmas.Iterator.{YieldsList-from_range}
use Rattle.std.proofs.lemmas.Iterator.Search.{all_from_yields_List}
use Rattle.prelude.specs.Laws.Chains.{all_range}
use Rattle.store.specs.Book.{book_of}
use Rattle.net.specs.Net.{miss_at}
use Rattle.net.proofs.pair.Pair.unseen.Goals as goal

pub returns : goal.returns
returns c =
    all_from_yields_List (miss_at (book_of c.args.book.now) c.args.self.now.client c.args.self.now.symbol) _ _ _ c.all.ensures.ran (YieldsList-from_range 0 c.args.n c.args.n (cc) (omega arith)) (λ x b q k. search (rules, tests))
    ∙ all_range _ c.args.n
