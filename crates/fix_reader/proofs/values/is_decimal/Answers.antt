-- `is_decimal`: where a point stands with as many bytes behind it. Rests on Laws.Decimals.
use Rattle.std.proofs.Common.{◌≡◌, ℕ, ◌<◌, Bool, true, ◌&&◌, get_or, take, drop, sym, ap, ◌∙◌, arith}
use Rattle.fix_reader.specs.Laws.Decimals.{is_whole, point_at, pointed, pointed_rest, pointed_split}
use Rattle.fix_reader.proofs.values.is_decimal.Goals as goal

pub returns-then-is_whole : goal.returns-then-is_whole
returns-then-is_whole c =
    let v = c.args.v.now in
    let p = c.args.places in
    let s = c.split_at.result.1.now in
    let k : c.saturating_sub-point.result ≡ point_at p v = omega arith in
    let e : get_or s 0 0 ≡ 46 = omega arith in
    let some : 0 < p = omega arith in
    let w : is_whole (take (point_at p v) v) ≡ true =
    sym (ap is_whole (c.split_at.ensures.front ∙ ap (λ (j : ℕ). take j v) k)) ∙ sym c.is_whole-in_default-eq46.ensures ∙ c.if-is_whole.true in
    c.all_digits.ensures
    ∙ sym (pointed_rest s c.in_default-eq46.len_at_least e)
    ∙ ap pointed (c.split_at.ensures.back ∙ ap (λ (j : ℕ). drop j v) k)
    ∙ sym (pointed_split p some v ∙ ap (λ (x : Bool). x && pointed (drop (point_at p v) v)) w)
