-- What the helpers of the division ensure. Rests on nothing.
use Rattle.std.specs.Prelude.{ℕ, ◌+◌, ◌*◌, ◌^◌, ◌≤◌, ◌<◌, ◌≡◌}

-- n divided by d is q, and r is left
pub record Divides (n d q r : ℕ) : Type 0 where
  pub whole : n ≡ q * d + r
  pub below : r < d

-- d shifted by s has its highest bit set
pub record Scales (d s : ℕ) : Type 0 where
  pub small : s < 64
  pub high : 2 ^ 63 ≤ d * 2 ^ s
  pub fits : d * 2 ^ s < 2 ^ 64
