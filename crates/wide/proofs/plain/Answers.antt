-- `wide::plain` meets its contract: one division, and what rounding adds, which together are at most what is divided. Assumes nothing.
use Rattle.std.proofs.Common.{◌/◌, ◌%◌, sym, div-add-mod', mod-lt, arith}
use Rattle.wide.specs.Laws.Rounding.{nearest_by, nearest_le}
use Rattle.wide.proofs.plain.Goals as goal

pub overflow_add-result : goal.overflow_add-result
overflow_add-result c =
    let a = c.args in
    let e = nearest_by a.n a.d (a.n / a.d) (a.n % a.d) (sym (div-add-mod' a.n a.d)) (mod-lt a.n (omega (arith, c.if-d-eq0.false))) in
    omega (arith, e, c.round.ensures, nearest_le a.n a.d)
