-- `Amounts::net` meets its contract: its cases are at or above zero, and below it. Rests on Line.
use Rattle.std.proofs.Common.{ℕ, ◌≡◌, ◌+◌, ◌-◌, ◌%◌, ◌<◌, ◌^◌, ◌≤◌, ◌∙◌, arith, rules}
use Rattle.std.proofs.Math.Decide.{dec_le}
use Rattle.net.specs.Net.{difference, twos}
use Rattle.net.specs.Laws.Line.{twos_above, twos_below}
use Rattle.net.proofs.Amounts.net.Goals as goal

wraps : (a b : ℕ) → a < 2 ^ 64 → b < 2 ^ 64 → (a + (18446744073709551616 - b)) % 18446744073709551616 ≡ twos (difference a b)
wraps a b ha hb = go (dec_le b a)
  where
    go : Dec (b ≤ a) → (a + (18446744073709551616 - b)) % 18446744073709551616 ≡ twos (difference a b)
    go (yes h) = let e : (a + (18446744073709551616 - b)) % 18446744073709551616 ≡ a - b = omega arith in e ∙ twos_above a b h
    go (no h) = let e : (a + (18446744073709551616 - b)) % 18446744073709551616 ≡ 2 ^ 64 - (b - a) = omega arith in e ∙ twos_below a b (omega arith)

pub returns : goal.returns
returns c = wraps c.args.self.bought c.args.self.sold (search rules) (search rules)
