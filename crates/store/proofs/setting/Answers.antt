-- `setting` meets its contract: it gives the number at its index, or 0. Rests on Loaded.
use Rattle.std.proofs.Common.{◌≡◌, ℕ, List, rules, ap, ◌∙◌}
use Rattle.prelude.specs.Number.{word32}
use Rattle.store.specs.Layout.{header·setting}
use Rattle.store.specs.Book.{setting_of}
use Rattle.store.proofs.Loaded.{loaded}
use Rattle.store.proofs.setting.Goals as goal

pub returns : goal.returns
unfolding setting_of
returns c =
    loaded _ _ _ _ _ c.whole.ensures c.map_or.ensures
    (λ a p q. (let e : c.map_or.result ≡ word32 a.now header·setting = search rules in e) ∙ ap (λ (s : List ℕ). word32 s header·setting) p)
