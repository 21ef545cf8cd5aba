-- `wide::long` meets its contract: long division of two words by one. What rounding adds keeps to two words. Assumes nothing.
use Rattle.std.proofs.Common.{get_or, rules, arith, Fits, w64}
use Rattle.wide.specs.Wide.{value}
use Rattle.wide.specs.Laws.Words.{value_fits}
use Rattle.wide.specs.Laws.Rounding.{nearest_le}
use Rattle.wide.proofs.Carried.{by_words}
use Rattle.wide.proofs.long.Goals as goal

pub overflow_add-joined : goal.overflow_add-joined
overflow_add-joined c =
    let a = c.args in
    let e = by_words (get_or a.n 1 0) (get_or a.n 0 0) a.d _ _ c.divide-low.ensures in
    let low : Fits w64 (get_or a.n 0 0) = search rules in
    let high : Fits w64 (get_or a.n 1 0) = search rules in
    omega (arith, e, c.joined.ensures, c.from.ensures, c.round-add.ensures, nearest_le (value a.n) a.d, value_fits a.n low.fits high.fits)
