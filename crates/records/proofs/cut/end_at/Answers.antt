-- `cut::end_at`: the place behind the last field, by the map that stands there. Assumes nothing.
use Rattle.std.proofs.Common.{lt-ltb, ◌≡◌, ap, ◌∙◌, ℕ, ◌+◌, ltb, lit≤}
use Rattle.prelude.specs.Laws.Cases.{if_true}
use Rattle.words.specs.Laws.Windows.{window_32}
use Rattle.places.specs.Starts.{start_from}
use Rattle.format.specs.Places.{map_at, end_of, start}
use Rattle.records.proofs.cut.end_at.Goals as goal

pub returns : goal.returns
unfolding start_from end_of
returns c =
    let a = c.args in
    let m : c.get32-map.result ≡ map_at a.s.now a.o = c.get32-map.ensures ∙ window_32 a.s.now (a.o + 1) in
    c.starts-at.ensures 32 (lit≤ tt)
    ∙ if_true (ltb a.o 65536) _ _ (lt-ltb a.o 65536 c.requires.0)
    ∙ ap (λ (m : ℕ). start a.s.now a.o m 32) m
