-- `decimal::put_decimal` meets its contract: written if the decimal has room. Assumes nothing.
use Rattle.std.proofs.Common.{sym, ◌∙◌, arith}
use Rattle.decimal.specs.Decimal.{decimal}
use Rattle.decimal.specs.Laws.Columns.{written_room, written_none}
use Rattle.decimal.proofs.put_decimal.Goals as goal

pub returns-then-saturating_add-out : goal.returns-then-saturating_add-out
returns-then-saturating_add-out g c =
    let a = c.args in
    (c.decimal_length-long.ensures.0, c.put_here.ensures ∙ sym (written_room a.out.now a.at (decimal a.places (g.N.Digits.number a.n)) (omega arith)))

pub returns-else-saturating_add-out : goal.returns-else-saturating_add-out
returns-else-saturating_add-out g c =
    let a = c.args in
    (c.decimal_length-long.ensures.0, written_none a.out.now a.at (decimal a.places (g.N.Digits.number a.n)) (omega arith))
