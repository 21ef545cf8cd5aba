-- `take::high_in`: what is behind the first word is at most one more. Assumes nothing.
use Rattle.std.proofs.Common.{◌≡◌, ◌≤◌, ◌-◌, length, take, drop, length-drop, arith, ◌∙◌}
use Rattle.records.proofs.Ranges.{rest_bytes, word_whole}
use Rattle.records.proofs.take.high_in.Goals as goal

pub returns : goal.returns
returns c =
    let l = c.args.field.now in
    let e : take (length l - c.min.result) (drop c.min.result l) ≡ drop 8 l = rw c.min.ensures (rest_bytes 8 l) in
    let s : length (drop 8 l) ≤ 8 = simp length-drop (omega (arith, c.requires)) in
    (rw e at c.get64.ensures) ∙ word_whole (drop 8 l) s
