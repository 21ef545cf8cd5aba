-- `less_field`: nothing where there is no value, else the tag, =, the value, SOH. Assumes nothing.
use Rattle.std.proofs.Common.{◌≡◌, ℕ, ◌+◌, List, [], length, sym, ap, ◌∙◌, arith}
use Rattle.decimal.specs.Decimal.{decimal}
use Rattle.fix.specs.Laws.Plan.{long_of, field_long, less_by}
use Rattle.fix.specs.Laws.Putting.{less_none, less_three, shown_none, field_some}
use Rattle.fix.proofs.room.less_field.Goals as goal

pub returns-in_default : goal.returns-in_default
returns-in_default c = sym (ap (less_by c.args.room) (shown_none [] c.args.tag c.args.v c.in_default.is).1 ∙ less_none c.args.room)

pub returns : goal.returns
returns c =
    let a = c.args in
    let w = c.in-Some.value in
    let d : List ℕ = decimal 0 a.tag in
    let z : length d + long_of w + 2 ≡ field_long a.tag a.v = omega (arith, field_some a.tag a.v w c.in-Some.is) in
    rw (← z, ← less_three a.room (length d) (long_of w) 2, ← c.decimal_length.ensures.0, ← c.less_by.ensures, ← c.less_value.ensures) c.less_by-2.ensures
