-- `decimal::decimal_length` meets its contract: the whole part's digits, the point and the places. Assumes nothing.
use Rattle.std.proofs.Common.{ℕ, length, ap, ◌∙◌, arith}
use Rattle.decimal.specs.Decimal.{digits}
use Rattle.decimal.specs.Laws.Width.{decimal_zero, decimal_long}
use Rattle.decimal.proofs.decimal_length.Goals as goal

pub returns-then-places-eq0 : goal.returns-then-places-eq0
returns-then-places-eq0 g c =
    let w = c.width-width.ensures in
    let e = w.all ∙ ap (λ (m : ℕ). length (digits m)) c.down.ensures in
    (omega (arith, e, ap length (decimal_zero c.args.places (g.N.Digits.number c.args.n) (omega arith))), omega (arith, w.within))

pub returns-else-places-eq0 : goal.returns-else-places-eq0
returns-else-places-eq0 g c =
    let w = c.width-width.ensures in
    let e = w.all ∙ ap (λ (m : ℕ). length (digits m)) c.down.ensures in
    (omega (arith, e, decimal_long c.args.places (g.N.Digits.number c.args.n) (omega arith)), omega (arith, w.within))
