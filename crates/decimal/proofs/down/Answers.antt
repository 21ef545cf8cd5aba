-- `decimal::down` meets its contract: a digit dropped each turn. Assumes nothing.
use Rattle.std.proofs.Common.{◌≡◌, ℕ, suc, ◌+◌, ◌-◌, sym, ap, ◌∙◌, arith}
use Rattle.decimal.specs.Decimal.{down}
use Rattle.decimal.specs.Laws.Width.{down_more, down_none}
use Rattle.decimal.proofs.down.Goals as goal

pub loop-preserved : goal.loop-preserved
loop-preserved g c =
    let l = c.loop in
    let n : ℕ = g.N.Digits.number l.rest in
    let j : ℕ = c.args.places - (l.counter + 1) in
    let e : c.args.places - l.counter ≡ suc j = omega arith in (
      omega arith,
      ap (down j) c.split_lowest-rest.ensures.rest
          ∙ sym (down_more j n)
          ∙ ap (λ (i : ℕ). down i n) (sym e)
          ∙ l.invariant.1,
    )

pub returns : goal.returns
returns g c =
    let l = c.loop in
    let n : ℕ = g.N.Digits.number l.rest in
    let e : c.args.places - l.counter ≡ 0 = omega arith in
    sym (down_none n) ∙ ap (λ (i : ℕ). down i n) (sym e) ∙ l.invariant.1
