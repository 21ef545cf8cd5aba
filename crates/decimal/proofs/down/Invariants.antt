-- `decimal::down` meets its contract: a digit dropped each turn. Assumes nothing.
use Rattle.std.proofs.Common.{◌≡◌, ◌≤◌, ◌-◌}
use Rattle.decimal.specs.Decimal.{down}
use Rattle.decimal.proofs.down.Given as goal

abbrev pub invariant-loop : goal.invariant-loop
invariant-loop g l =
    (l.counter ≤ l.places) × (down (l.places - l.counter) (g.N.Digits.number l.rest) ≡ down l.places (g.N.Digits.number l.fn.n))
