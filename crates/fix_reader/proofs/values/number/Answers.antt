-- `number`: the number of the bytes passed. Rests on Laws.Numbers.
use Rattle.std.proofs.Common.{◌≡◌, ℕ, ◌+◌, ◌<◌, ◌≤◌, length, get_or, take, sym, ap, ◌∙◌, arith}
use Rattle.decimal.specs.Decimal.{number_in}
use Rattle.fix_reader.specs.Laws.Numbers.{step_of, word, read_more, read_least}
use Rattle.fix_reader.proofs.values.number.Goals as goal

pub returns-in_err-n : goal.returns-in_err-n
returns-in_err-n c =
    let v = c.args.v.now in
    let l = c.loop-c in
    let h : l.c-index < length v = omega arith in
    let m : number_in (take (l.c-index + 1) v) ≡ step_of l.n (get_or v l.c-index 0) = read_more v l.c-index h ∙ ap (λ (n : ℕ). step_of n (get_or v l.c-index 0)) (sym l.invariant.0) in
    let o : word ≤ step_of l.n (get_or v l.c-index 0) = c.in_err-n.ensures in
    let b : word ≤ number_in v = omega (arith, m, read_least v (l.c-index + 1)) in
    rw c.from_residual.ensures b
