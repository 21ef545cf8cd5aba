-- Stored fill prices: what their bytes say, and what `wide` makes of them. Rests on prelude's Number and on wide.
use Rattle.std.specs.Prelude.{ℕ, List, [], ◌∷◌, ◌≡◌}
use Rattle.prelude.specs.Number.{word64}
use Rattle.wide.specs.declared.Priced.{Priced}
use Rattle.wide.specs.Wide.{fill_price}
use Rattle.try_prices.specs.declared.Vector.{Vector}

-- ten numbers of 8 bytes
pub record IsVector (s : List ℕ) (v : Vector) : Type 0 where
  pub lastqty : v.fill.lastqty ≡ word64 s 0
  pub lastpx : v.fill.lastpx ≡ word64 s 8
  pub cumqty : v.fill.cumqty ≡ word64 s 16
  pub avgpx : v.fill.avgpx ≡ word64 s 24
  pub oldcum : v.fill.oldcum ≡ word64 s 32
  pub oldavg : v.fill.oldavg ≡ word64 s 40
  pub rise : v.fill.rise ≡ word64 s 48
  pub price : v.price ≡ word64 s 56 ∷ word64 s 64 ∷ []
  pub rule : v.rule ≡ word64 s 72

-- the price by the definition, with its source
abbrev pub priced_of : Vector → Priced
priced_of v = fill_price v.fill.lastqty v.fill.lastpx v.fill.cumqty v.fill.avgpx v.fill.oldcum v.fill.oldavg v.fill.rise
