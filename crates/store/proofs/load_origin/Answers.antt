-- `load_origin` meets its contract: it gives the number at its index, or 0. Rests on Loaded.
use Rattle.std.proofs.Common.{◌≡◌, ℕ, List, rules, ap, ◌∙◌, arith}
use Rattle.prelude.specs.Number.{word16}
use Rattle.words.specs.Laws.Windows.{within_16}
use Rattle.store.specs.Layout.{request_base, request_size, request·origin}
use Rattle.store.specs.Book.{load_origin}
use Rattle.store.proofs.Loaded.{loaded}
use Rattle.store.proofs.load_origin.Goals as goal

pub returns : goal.returns
unfolding load_origin
returns c =
    loaded _ _ _ _ _ c.request_record.ensures c.map_or.ensures
    (λ a p q.
    (let e : c.map_or.result ≡ word16 a.now request·origin = search rules in e)
    ∙ ap (λ (s : List ℕ). word16 s request·origin) p
    ∙ within_16 c.args.book.now (request_base c.args.i) request_size request·origin (omega arith))
