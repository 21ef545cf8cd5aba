-- `places::walk::starts`: the loop's invariant is that each place so far holds where its field starts. Assumes nothing.
use Rattle.std.proofs.Common.{below_none, refl, ap, ◌∙◌, ℕ, add-one, arith, length-set}
use Rattle.prelude.specs.Laws.Lists.{fill}
use Rattle.format.specs.Places.{next, start}
use Rattle.places.proofs.walk.starts.Goals as goal

pub loop-b-init : goal.loop-b-init
unfolding start
loop-b-init c = (omega arith, omega arith, refl, refl, below_none _)

pub loop-b-preserved : goal.loop-b-preserved
unfolding start
loop-b-preserved c =
    let a = c.args in
    let l = c.loop-b in
    let f : ℕ → ℕ = start a.s.now a.o a.map in
    let q = l.invariant.3 in (
      omega arith,
      omega arith,
      simp length-set l.invariant.2,
      rw add-one (c.next_at-at.ensures.0 ∙ ap (next a.s.now a.map l.b) q),
      rw c.from.ensures (fill f l.out l.b l.at (omega arith) q l.invariant.4),
    )
