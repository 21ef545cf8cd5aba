-- Laws of the price of a fill: which of the three it is, when it is 0, and how large it gets. Rests on Wide and Rounding.
use Rattle.std.specs.Prelude.{ℕ, ◌-◌, ◌*◌, ◌^◌, ◌≤◌, ◌<◌, ◌≡◌, refl, Bool, true, false, ◌&&◌, eqb, ltb, List}
use Rattle.std.proofs.Common.{◌∙◌, le_trans, lt_of_le_of_lt, sub-le, mul-le-mul, arith, lit≤, lit<, lt-ltb, le-ltb, ne_eqb, ltb-true, ltb-false}
use Rattle.std.proofs.lemmas.Bool.{and_parts}
use Rattle.std.proofs.Math.Bool.{and-true}
use Rattle.prelude.specs.Cases.{if◌then◌otherwise◌}
use Rattle.prelude.specs.Laws.Cases.{split_if, if_true, if_false}
use Rattle.wide.specs.Wide.{by_last_px, implied, fill_price, words, from_last_px, from_quotient, from_average, priced}
use Rattle.wide.specs.Laws.Rounding.{nearest_none, nearest_le}
use Rattle.wide.specs.declared.Priced.{Priced}

-- ---- an amount, and the price that is implied

pub amount_most : (quantity price : ℕ) → quantity ≤ 10 ^ 12 → price ≤ 10 ^ 14 → quantity * price ≤ 10 ^ 26
amount_most quantity price q p = mul-le-mul {n₁ = quantity} {m₁ = price} {n₂ = 10 ^ 12} {m₂ = 10 ^ 14} q p

pub implied_no_rise : (cumqty avgpx oldcum oldavg : ℕ) → implied cumqty avgpx oldcum oldavg 0 ≡ 0
unfolding implied
implied_no_rise cumqty avgpx oldcum oldavg = nearest_none (cumqty * avgpx - oldcum * oldavg)

pub implied_none : (cumqty avgpx oldcum oldavg rise : ℕ) → cumqty * avgpx ≤ oldcum * oldavg → implied cumqty avgpx oldcum oldavg rise ≡ 0
unfolding implied
implied_none cumqty avgpx oldcum oldavg rise h = omega (arith, nearest_le (cumqty * avgpx - oldcum * oldavg) rise)

pub implied_le : (cumqty avgpx oldcum oldavg rise : ℕ) → implied cumqty avgpx oldcum oldavg rise ≤ cumqty * avgpx
unfolding implied
implied_le cumqty avgpx oldcum oldavg rise =
    le_trans (nearest_le (cumqty * avgpx - oldcum * oldavg) rise) (sub-le (cumqty * avgpx) (oldcum * oldavg))

-- ---- which of the three it is

module _ (lastqty lastpx cumqty avgpx oldcum oldavg rise : ℕ) where
  abbrev the : Priced
  the = fill_price lastqty lastpx cumqty avgpx oldcum oldavg rise

  abbrev last_px : Bool
  last_px = by_last_px lastqty lastpx rise

  abbrev quotient : ℕ
  quotient = implied cumqty avgpx oldcum oldavg rise

  last_px_above : last_px ≡ true → 0 < lastpx
  unfolding by_last_px
  last_px_above e = ltb-true 0 lastpx (and_parts (ltb 0 lastpx) _ e).0

  -- what holds of each of the three holds of the price
  by_source : (P : Priced → Type 0) → (last_px ≡ true → P (priced lastpx from_last_px)) → (last_px ≡ false → 0 < quotient → P (priced quotient from_quotient))
      → (last_px ≡ false → quotient ≡ 0 → P (priced avgpx from_average)) → P the
  unfolding fill_price
  by_source P one two three =
      split_if P last_px one (λ e. split_if P (ltb 0 quotient) (λ h. two e (ltb-true 0 quotient h)) (λ h. three e (omega (arith, ltb-false 0 quotient h))))

  -- each is given under its condition
  pub price_last_px : last_px ≡ true → the ≡ priced lastpx from_last_px
  unfolding fill_price
  price_last_px e = if_true last_px _ _ e

  pub price_implied : last_px ≡ false → 0 < quotient → the ≡ priced quotient from_quotient
  unfolding fill_price
  price_implied e h = if_false last_px _ _ e ∙ if_true (ltb 0 quotient) _ _ (lt-ltb 0 quotient h)

  pub price_average : last_px ≡ false → quotient ≡ 0 → the ≡ priced avgpx from_average
  unfolding fill_price
  price_average e h = if_false last_px _ _ e ∙ if_false (ltb 0 quotient) _ _ (le-ltb 0 quotient (omega arith))

  -- and only under it: what a source says of the price. LastPx and the quotient are above 0; an average may be 0.
  pub source_last_px : the.source ≡ from_last_px → (last_px ≡ true) × (the.price ≡ words lastpx) × (0 < lastpx)
  source_last_px =
      by_source (λ (p : Priced). p.source ≡ from_last_px → (last_px ≡ true) × (p.price ≡ words lastpx) × (0 < lastpx))
      (λ e z. (e, refl, last_px_above e)) (λ e h z. absurd (omega arith)) (λ e h z. absurd (omega arith))

  pub source_quotient : the.source ≡ from_quotient → (last_px ≡ false) × (the.price ≡ words quotient) × (0 < quotient)
  source_quotient =
      by_source (λ (p : Priced). p.source ≡ from_quotient → (last_px ≡ false) × (p.price ≡ words quotient) × (0 < quotient))
      (λ e z. absurd (omega arith)) (λ e h z. (e, refl, h)) (λ e h z. absurd (omega arith))

  pub source_average : the.source ≡ from_average → (last_px ≡ false) × (the.price ≡ words avgpx) × (quotient ≡ 0)
  source_average =
      by_source (λ (p : Priced). p.source ≡ from_average → (last_px ≡ false) × (p.price ≡ words avgpx) × (quotient ≡ 0))
      (λ e z. absurd (omega arith)) (λ e h z. absurd (omega arith)) (λ e h z. (e, refl, h))

  pub source_range : (0 < the.source) × (the.source ≤ from_average)
  source_range =
      by_source (λ (p : Priced). (0 < p.source) × (p.source ≤ from_average))
      (λ e. (omega arith, omega arith)) (λ e h. (omega arith, omega arith)) (λ e h. (omega arith, omega arith))

  -- a bound of LastPx, of AvgPx and of CumQty times AvgPx is one of the price
  pub price_le : (most : ℕ) → lastpx ≤ most → avgpx ≤ most → cumqty * avgpx ≤ most → (P : List ℕ → Type 0) → ((n : ℕ) → n ≤ most → P (words n)) → P the.price
  price_le most l a p P f =
      by_source (λ (x : Priced). P x.price) (λ e. f lastpx l) (λ e h. f quotient (le_trans (implied_le cumqty avgpx oldcum oldavg rise) p)) (λ e h. f avgpx a)

  -- in the ranges of docs/SCOPE.md, Records, it is at most 10 ^ 26, which a rise of 1 reaches, so it fits two words
  pub price_fits : lastpx ≤ 10 ^ 14 → cumqty ≤ 10 ^ 12 → avgpx ≤ 10 ^ 14 → (P : List ℕ → Type 0) → ((n : ℕ) → n < 2 ^ 128 → P (words n)) → P the.price
  price_fits l c a P f =
      price_le (10 ^ 26) (le_trans l (lit≤ tt)) (le_trans a (lit≤ tt)) (amount_most cumqty avgpx c a) P (λ n h. f n (lt_of_le_of_lt h (lit< tt)))

-- ---- when LastPx tells it

pub last_px_no_rise : (lastqty lastpx : ℕ) → by_last_px lastqty lastpx 0 ≡ ltb 0 lastpx
unfolding by_last_px
last_px_no_rise lastqty lastpx = and-true (ltb 0 lastpx)

pub last_px_rise : (lastqty lastpx rise : ℕ) → 0 < rise → by_last_px lastqty lastpx rise ≡ ltb 0 lastpx && eqb rise lastqty
unfolding by_last_px
last_px_rise lastqty lastpx rise h = rw (ne_eqb rise 0 (λ e. omega arith))

-- with no rise the price is LastPx if above 0, else AvgPx
pub price_no_rise : (lastqty lastpx cumqty avgpx oldcum oldavg : ℕ) →
    fill_price lastqty lastpx cumqty avgpx oldcum oldavg 0 ≡ (if ltb 0 lastpx then priced lastpx from_last_px otherwise priced avgpx from_average)
unfolding fill_price if◌then◌otherwise◌
price_no_rise lastqty lastpx cumqty avgpx oldcum oldavg = rw (implied_no_rise cumqty avgpx oldcum oldavg, last_px_no_rise lastqty lastpx)
