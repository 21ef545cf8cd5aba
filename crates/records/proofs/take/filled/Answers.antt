-- `take::filled`: what is copied over zeros has zeros behind it. Assumes nothing.
use Rattle.std.proofs.Common.{◌≡◌, ◌∙◌, length, drop, take, ◌-◌, refl, arith, length-drop, replicate, ◌++◌}
use Rattle.prelude.specs.Span.{splice}
use Rattle.prelude.specs.Laws.Span.{padded}
use Rattle.records.proofs.Ranges.{rest_bytes}
use Rattle.records.proofs.take.filled.Goals as goal

pub returns : goal.returns
unfolding splice
returns g c =
    let l = c.args.field.now in
    let e : take (length l - c.min.result) (drop c.min.result l) ≡ drop 1 l = rw c.min.ensures (rest_bytes 1 l) in
    let w : c.copy_from_slice.new.self ≡ drop 1 l = c.copy_from_slice.ensures.after ∙ e in
    let p : drop 1 l ++ drop (length (drop 1 l)) (replicate g.row.N 0) ≡ take g.row.N (drop 1 l ++ replicate g.row.N 0) = padded g.row.N (drop 1 l) (simp length-drop (omega arith)) in
    rw (w, e) (p, refl)
