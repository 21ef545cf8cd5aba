-- `count_at` meets its contract: it gives the number at its index, and at most `most`. Rests on Loaded.
use Rattle.std.proofs.Common.{◌≡◌, ℕ, List, min, rules, ap, ◌∙◌}
use Rattle.prelude.specs.Number.{word16}
use Rattle.store.specs.Book.{count_at}
use Rattle.store.proofs.Loaded.{loaded}
use Rattle.store.proofs.count_at.Goals as goal

pub returns : goal.returns
unfolding count_at
returns c = let a = c.args in
    loaded _ _ _ _ _ c.whole.ensures c.map_or.ensures
    (λ r p q. (let e : c.map_or.result ≡ min a.most (word16 r.now a.at) = search rules in e) ∙ ap (λ (s : List ℕ). min a.most (word16 s a.at)) p)
