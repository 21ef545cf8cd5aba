-- `decimal::put_low` meets its contract: the digits that are left, written before those that stand, are all of them. Assumes nothing.
use Rattle.std.proofs.Common.{◌≡◌, ℕ, suc, ◌+◌, ◌-◌, sym, ap, ◌∙◌, arith, set, length-set}
use Rattle.prelude.specs.Span.{splice}
use Rattle.prelude.specs.Laws.Span.{splice_nil}
use Rattle.decimal.specs.Decimal.{low_digits}
use Rattle.decimal.specs.Laws.Width.{low_put}
use Rattle.decimal.proofs.put_low.Goals as goal

pub loop-i-preserved : goal.loop-i-preserved
loop-i-preserved g c =
    let a = c.args in
    let l = c.loop-i in
    let s = c.split_lowest-higher in
    let n : ℕ = g.N.Digits.number l.rest in
    let j : ℕ = l.i - 1 in
    let e : l.i ≡ suc j = omega arith in (
      length-set l.out (a.at + j) (48 + s.result.1) ∙ l.invariant.0,
      (λ i. splice (set l.out (a.at + j) (48 + s.ensures.lowest i)) a.at (low_digits j (s.ensures.rest i)))
          ∙ low_put l.out a.at j n (omega arith)
          ∙ ap (λ (i : ℕ). splice l.out a.at (low_digits i n)) (sym e)
          ∙ l.invariant.1,
    )

pub returns : goal.returns
unfolding low_digits
returns g c =
    let l = c.loop-i in
    let e : l.i ≡ 0 = omega arith in
    sym (splice_nil l.out c.args.at) ∙ ap (λ (i : ℕ). splice l.out c.args.at (low_digits i (g.N.Digits.number l.rest))) (sym e) ∙ l.invariant.1
