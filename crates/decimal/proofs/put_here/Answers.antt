-- `decimal::put_here` meets its contract: the whole part, a point, and the low digits. Assumes nothing.
use Rattle.std.proofs.Common.{◌≡◌, List, ℕ, ◌+◌, ◌≤◌, ◌<◌, length, sym, ap, ◌∙◌, arith, set, length-set}
use Rattle.prelude.specs.Span.{splice}
use Rattle.decimal.specs.Decimal.{digits, low_digits, down}
use Rattle.decimal.specs.Laws.Width.{low_all, decimal_long, decimal_put, decimal_zero, decimal_whole}
use Rattle.decimal.proofs.put_here.Given.{Over}
use Rattle.decimal.proofs.put_here.Goals as goal
use Rattle.decimal.proofs.put_here.Goals.{After-put_low, After-width-width}

-- the whole part's digits, and after they were written
at_width : (g : Over) (c : After-width-width g) → c.width-width.result ≡ length (digits (down c.args.places (g.N.Digits.number c.args.n)))
at_width g c = c.width-width.ensures.all ∙ ap (λ (m : ℕ). length (digits m)) c.down-whole.ensures

first : (g : Over) (c : After-put_low g)
    → c.put_low.new.out ≡ splice c.args.out.now c.args.at (low_digits c.width-width.result (down c.args.places (g.N.Digits.number c.args.n)))
first g c = c.put_low.ensures ∙ ap (λ (m : ℕ). splice c.args.out.now c.args.at (low_digits c.width-width.result m)) c.down-whole.ensures

-- all of it has so much room, if it has a point
room : (g : Over) (c : After-width-width g) → 0 < c.args.places → c.args.at + c.width-width.result + 1 + c.args.places ≤ length c.args.out.now
room g c h = omega (arith, at_width g c, decimal_long c.args.places (g.N.Digits.number c.args.n) h)

pub put_low-requires : goal.put_low-requires
put_low-requires g c = omega (arith, at_width g (goal.at.put_low-requires g c).After-width-width, decimal_whole c.args.places (g.N.Digits.number c.args.n))

pub bounds-out-at : goal.bounds-out-at
bounds-out-at g c = omega (arith, room g (goal.at.bounds-out-at g c).After-width-width c.if-places-gt0.true, c.put_low.auto.out)

pub put_low-requires-then-places-gt0 : goal.put_low-requires-then-places-gt0
put_low-requires-then-places-gt0 g c =
    rw length-set (omega (arith, room g (goal.at.put_low-requires-then-places-gt0 g c).After-width-width c.if-places-gt0.true, c.put_low.auto.out))

pub returns-then-places-gt0 : goal.returns-then-places-gt0
returns-then-places-gt0 g c =
    let a = c.args in
    let w = c.width-width.result in
    let n = g.N.Digits.number a.n in
    c.put_low-then-places-gt0.ensures
    ∙ ap (λ (p : ℕ). splice (set c.put_low.new.out (a.at + w) 46) (a.at + w + 1) (low_digits p n)) c.from.ensures
    ∙ ap (λ (t : List ℕ). splice (set t (a.at + w) 46) (a.at + w + 1) (low_digits a.places n)) (first g (goal.at.returns-then-places-gt0 g c).After-put_low)
    ∙ decimal_put a.out.now a.at a.places n w (at_width g (goal.at.returns-then-places-gt0 g c).After-width-width) c.if-places-gt0.true c.requires

pub returns-else-places-gt0 : goal.returns-else-places-gt0
returns-else-places-gt0 g c =
    let a = c.args in
    let n = g.N.Digits.number a.n in
    first g (goal.at.returns-else-places-gt0 g c).After-put_low
    ∙ ap (λ (k : ℕ). splice a.out.now a.at (low_digits k (down a.places n))) (at_width g (goal.at.returns-else-places-gt0 g c).After-width-width)
    ∙ ap (splice a.out.now a.at) (low_all (down a.places n) ∙ sym (decimal_zero a.places n (omega arith)))
