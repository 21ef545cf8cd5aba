-- `load_open` meets its contract: it gives the word at its index, or 0. Rests on Loaded.
use Rattle.std.proofs.Common.{◌≡◌, ℕ, List, rules, ap, ◌∙◌, add-zero, arith, tests}
use Rattle.prelude.specs.Number.{word64}
use Rattle.words.specs.Laws.Windows.{within_64}
use Rattle.store.specs.Layout.{open_base}
use Rattle.store.specs.Book.{load_open}
use Rattle.store.proofs.Loaded.{loaded}
use Rattle.store.proofs.load_open.Goals as goal

pub returns : goal.returns
unfolding load_open
returns c = let b = c.args.book.now in
    let at = open_base c.args.i in
    loaded _ _ _ _ _ c.record.ensures c.map_or.ensures
    (λ a p q.
    (let e : c.map_or.result ≡ word64 a.now 0 = search (rules, tests) in e)
    ∙ ap (λ (s : List ℕ). word64 s 0) p
    ∙ within_64 b at 8 0 (omega arith)
    ∙ ap (word64 b) (add-zero at))
