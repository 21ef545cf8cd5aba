-- Laws of division rounded to the nearest: how each quotient rounds, what holds whatever the rule for a half is, and that the two divisions agree. The first
-- two and `half_up` open that rule, the rest cite them. Rests on Wide, the laws of two words and prelude's Cases.
use Rattle.std.specs.Prelude.{ℕ, ◌+◌, ◌*◌, ◌/◌, ◌%◌, ◌^◌, ◌≤◌, ◌<◌, ◌≡◌, refl, ◌⊎◌, ltb, eqb, List, [], ◌∷◌, get_or}
use Rattle.std.proofs.Common.{sym, ap, ◌∙◌, inl, inr, ⊎_elim, lt_of_le_of_lt, add-mul, zero-mul, one-mul, mod-lt, div-add-mod', le-mul_of_pos_right, lt_of_mul-lt-mul_right, arith, ltb-true, ltb-false, eqb-true, ne_eqb, eq-eqb, le-ltb, lt-ltb}
use Rattle.std.proofs.Math.Arith.{digits_div, digits_mod}
use Rattle.std.proofs.Math.Decide.{dec_lt}
use Rattle.prelude.specs.Cases.{if◌then◌otherwise◌}
use Rattle.prelude.specs.Laws.Cases.{split_if, if_false}
use Rattle.wide.specs.Wide.{value, words, at_half, up, nearest}
use Rattle.wide.specs.Laws.Words.{one_word}

-- ---- the rule for a half: it adds 0 or 1, and goes by the lower word

half_small : (q : ℕ) → at_half q ≤ 1
unfolding at_half
half_small q = omega arith

half_low : (q k : ℕ) → at_half (k * 2 ^ 64 + q) ≡ at_half q
unfolding at_half
half_low q k = omega arith

-- ---- what rounding adds

-- the upper word does not matter to it
pub up_low : (q k r d : ℕ) → up (k * 2 ^ 64 + q) r d ≡ up q r d
unfolding up
up_low q k r d = rw (half_low q k)

-- it adds 0 if the rest is at most a half, and 1 if it is at least a half
abbrev pub Near : (r d u : ℕ) → Type 0
Near r d u = ((u ≡ 0) × (2 * r ≤ d)) ⊎ ((u ≡ 1) × (d ≤ 2 * r))

at_half_lem : (r d u : ℕ) → u ≤ 1 → 2 * r ≡ d → Near r d u
at_half_lem r d u h e = by (dec_lt u 1)
  where
    by : Dec (u < 1) → Near r d u
    by (yes z) = inl (omega arith, omega arith)
    by (no z) = inr (omega arith, omega arith)

pub up_near : (q r d : ℕ) → Near r d (up q r d)
unfolding up
up_near q r d =
    split_if (Near r d) (ltb d (2 * r)) (λ e. inr (refl, omega (arith, ltb-true d (2 * r) e)))
    (λ e. split_if (Near r d) (eqb (2 * r) d) (λ h. at_half_lem r d (at_half q) (half_small q) (eqb-true (2 * r) d h))
    (λ h. inl (refl, ltb-false d (2 * r) e)))

-- ---- the rounded quotient

pub nearest_none : (n : ℕ) → nearest n 0 ≡ 0
unfolding nearest if◌then◌otherwise◌
nearest_none n = refl

-- by any quotient and its rest
pub nearest_by : (n d q r : ℕ) → n ≡ q * d + r → r < d → nearest n d ≡ q + up q r d
unfolding nearest
nearest_by n d q r e h =
    let a : n / d ≡ q = ap (λ (x : ℕ). x / d) e ∙ digits_div q h in
    let b : n % d ≡ r = ap (λ (x : ℕ). x % d) e ∙ digits_mod q h in
    if_false (eqb d 0) _ _ (ne_eqb d 0 (λ z. omega arith)) ∙ (λ i. a i + up (a i) (b i) d)

pub nearest_exact : (k d : ℕ) → 0 < d → nearest (k * d) d ≡ k
nearest_exact k d pos =
    nearest_by (k * d) d k 0 (omega arith) pos
    ∙ ⊎_elim (λ u. omega (arith, u.0)) (λ u. absurd (let z : ⊥ = omega (arith, u.1) in z)) (up_near k 0 d)

module _ (n d : ℕ) (pos : 0 < d) where
  whole : n / d * d + n % d ≡ n
  whole = div-add-mod' n d

  by_rest : nearest n d ≡ n / d + up (n / d) (n % d) d
  by_rest = nearest_by n d (n / d) (n % d) (sym whole) (mod-lt n pos)

  -- the product of the rounded quotient by the divisor
  spread : nearest n d * d ≡ n / d * d + up (n / d) (n % d) d * d
  spread = ap (λ (x : ℕ). x * d) by_rest ∙ add-mul (n / d) (up (n / d) (n % d) d) d

  none_added : {u : ℕ} → u ≡ 0 → u * d ≡ 0
  none_added e = ap (λ (x : ℕ). x * d) e ∙ zero-mul d

  one_added : {u : ℕ} → u ≡ 1 → u * d ≡ d
  one_added e = ap (λ (x : ℕ). x * d) e ∙ one-mul d

  -- it is off by half of the divisor at most
  pub nearest_above : 2 * n ≤ 2 * (nearest n d * d) + d
  nearest_above =
      ⊎_elim (λ u. omega (arith, whole, spread, u.1, none_added u.0))
      (λ u. omega (arith, whole, spread, mod-lt n pos, one_added u.0)) (up_near (n / d) (n % d) d)

  pub nearest_below : 2 * (nearest n d * d) ≤ 2 * n + d
  nearest_below =
      ⊎_elim (λ u. omega (arith, whole, spread, none_added u.0))
      (λ u. omega (arith, whole, spread, u.1, one_added u.0)) (up_near (n / d) (n % d) d)

  -- it is 0 below a half, above 0 past a half, and at a half as the rule for a half has it
  pub nearest_small : 2 * n < d → nearest n d ≡ 0
  nearest_small h =
      nearest_by n d 0 n (omega arith) (omega arith)
      ∙ ⊎_elim (λ u. omega (arith, u.0)) (λ u. absurd (let z : ⊥ = omega (arith, u.1) in z)) (up_near 0 n d)

  pub nearest_large : d < 2 * n → 0 < nearest n d
  nearest_large h = factor (nearest n d) (omega (arith, nearest_above))
    where
      factor : (x : ℕ) → 0 < x * d → 0 < x
      factor x l = lt_of_mul-lt-mul_right d {m = 0} {n = x} (rw (zero-mul d) l)

  -- THE RULE: a rest of half the divisor goes up, whatever the quotient; less goes down, more goes up
  pub half_up : 2 * (n % d) ≡ d → nearest n d ≡ n / d + 1
  unfolding at_half up if◌then◌otherwise◌
  half_up h = by_rest ∙ rw (le-ltb d (2 * (n % d)) (omega arith), eq-eqb (2 * (n % d)) d h) (omega arith)

  pub below_half : 2 * (n % d) < d → nearest n d ≡ n / d
  unfolding up if◌then◌otherwise◌
  below_half h = by_rest ∙ rw (le-ltb d (2 * (n % d)) (omega arith), ne_eqb (2 * (n % d)) d (λ e. omega arith)) (omega arith)

  pub above_half : d < 2 * (n % d) → nearest n d ≡ n / d + 1
  unfolding up if◌then◌otherwise◌
  above_half h = by_rest ∙ rw (lt-ltb d (2 * (n % d)) h)

  pub nearest_half : 2 * n ≡ d → nearest n d ≡ at_half 0
  unfolding up if◌then◌otherwise◌
  nearest_half h =
      nearest_by n d 0 n (omega arith) (omega arith) ∙ rw (le-ltb d (2 * n) (omega arith), eq-eqb (2 * n) d h) (omega arith)

-- a quotient is at most what is divided
pub nearest_le : (n d : ℕ) → nearest n d ≤ n
nearest_le n d = by (dec_lt 0 d)
  where
    some : (pos : 0 < d) → nearest n d ≤ n
    some pos =
        let m : n / d ≤ n / d * d = le-mul_of_pos_right (n / d) pos in
        ⊎_elim (λ u. omega (arith, by_rest n d pos, whole n d pos, u.0))
        (λ u. omega (arith, by_rest n d pos, whole n d pos, u.0, u.1)) (up_near (n / d) (n % d) d)

    by : Dec (0 < d) → nearest n d ≤ n
    by (yes pos) = some pos
    by (no z) = let e : d ≡ 0 = omega arith in omega (arith, ap (nearest n) e ∙ nearest_none n)

-- ---- the two divisions

-- if the high word is 0, the two-word division gives what the single word's gives, and a high word of 0: for every divisor, 0 too
pub plain_long : (n : List ℕ) (d : ℕ) → get_or n 0 0 < 2 ^ 64 → get_or n 1 0 ≡ 0 → nearest (get_or n 0 0) d ∷ (0 ∷ []) ≡ words (nearest (value n) d)
plain_long n d fits none =
    let e : get_or n 0 0 ≡ value n = omega arith in
    one_word (nearest (get_or n 0 0) d) (lt_of_le_of_lt (nearest_le (get_or n 0 0) d) fits) ∙ ap (λ (x : ℕ). words (nearest x d)) e
