-- One digit of a long division to the base 2 ^ 32, guessed from the divisor's upper half. Assumes nothing.
use Rattle.std.proofs.Common.{ℕ, ◌+◌, ◌-◌, ◌*◌, ◌/◌, ◌%◌, ◌^◌, ◌≤◌, ◌<◌, ◌≡◌, sym, ap, ◌∙◌, add-mul, mul_assoc, mul_comm, mul-add, mul-le-mul, mod-lt, div-add-mod', div-lt_iff_lt-mul, lt_of_mul-lt-mul_right, arith}
use Rattle.wide.specs.Division.{Divides}

-- what is left of `n` and one digit more, and what the guess takes of it for the divisor's lower half
pub record Guess (n next d : ℕ) : Type 0 where
  pub have : n % (d / 2 ^ 32) * 2 ^ 32 + next < d
  pub want : n / (d / 2 ^ 32) * (d % 2 ^ 32) < 2 ^ 64
  pub balance : n * 2 ^ 32 + next + n / (d / 2 ^ 32) * (d % 2 ^ 32) ≡ n / (d / 2 ^ 32) * d + (n % (d / 2 ^ 32) * 2 ^ 32 + next)

module _ (n next d : ℕ) (small : n < d) (one : next < 2 ^ 32) (high : 2 ^ 63 ≤ d) where
  abbrev top : ℕ
  top = d / 2 ^ 32

  -- the guess is at most two too large
  guess_most : n / top < 4294967298
  guess_most = (div-lt_iff_lt-mul {k = top} {x = n} {y = 4294967298} (omega arith)).1 (omega arith)

  by_halves : n / top * d ≡ 2 ^ 32 * (n / top * top) + n / top * (d % 2 ^ 32)
  by_halves =
      let e : d ≡ top * 2 ^ 32 + d % 2 ^ 32 = omega arith in
      ap (λ (x : ℕ). n / top * x) e ∙ mul-add (n / top) (top * 2 ^ 32) (d % 2 ^ 32)
      ∙ ap (λ (x : ℕ). x + n / top * (d % 2 ^ 32)) (sym (mul_assoc (n / top) top (2 ^ 32)) ∙ mul_comm (n / top * top) (2 ^ 32))

  pub guess : Guess n next d
  guess =
      let below : n % top < top = mod-lt n (omega arith) in
      let most : n / top * (d % 2 ^ 32) ≤ 4294967297 * 4294967295 =
      mul-le-mul {n₁ = n / top} {m₁ = d % 2 ^ 32} {n₂ = 4294967297} {m₂ = 4294967295} (omega (arith, guess_most)) (omega arith)
      in
      record {
        have = omega arith;
        want = omega arith;
        balance = omega (arith, by_halves, div-add-mod' n top);
      }

-- a multiple, and the multiple by `j` less
pub less_by : (j g d : ℕ) → j ≤ g → (g - j) * d + j * d ≡ g * d
less_by j g d h = let e : g - j + j ≡ g = omega arith in sym (add-mul (g - j) j d) ∙ ap (λ (x : ℕ). x * d) e

-- a product above `j` times one factor has another factor above `j`
pub factor_above : (j g x y : ℕ) → y ≡ g * x → j * x < y → j < g
factor_above j g x y e h = lt_of_mul-lt-mul_right x {m = j} {n = g} (rw (sym e) h)

-- the quotient is one digit
pub digit_small : (n next d q r : ℕ) → n < d → next < 2 ^ 32 → Divides (n * 2 ^ 32 + next) d q r → q < 2 ^ 32
digit_small n next d q r small one s =
    lt_of_mul-lt-mul_right d {m = q} {n = 2 ^ 32} (omega (arith, s.whole))

-- two digits, one after the other
pub two_digits : (n l₁ l₀ d q₁ r₁ q₀ r₀ : ℕ) → Divides (n * 2 ^ 32 + l₁) d q₁ r₁ → Divides (r₁ * 2 ^ 32 + l₀) d q₀ r₀
    → n * 2 ^ 64 + (l₁ * 2 ^ 32 + l₀) ≡ (q₁ * 2 ^ 32 + q₀) * d + r₀
two_digits n l₁ l₀ d q₁ r₁ q₀ r₀ s₁ s₀ =
    let e : q₁ * 2 ^ 32 * d ≡ 2 ^ 32 * (q₁ * d) = ap (λ (x : ℕ). x * d) (mul_comm q₁ (2 ^ 32)) ∙ mul_assoc (2 ^ 32) q₁ d in
    omega (arith, e, add-mul (q₁ * 2 ^ 32) q₀ d, s₁.whole, s₀.whole)
