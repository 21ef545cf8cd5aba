-- A division whose two sides are shifted until the divisor's highest bit is set. Assumes nothing.
use Rattle.std.proofs.Common.{ℕ, suc, ◌+◌, ◌-◌, ◌*◌, ◌/◌, ◌%◌, ◌^◌, ◌≤◌, ◌<◌, ◌≡◌, sym, ap, ◌∙◌, add_comm, add-mul, mul_assoc, mul_comm, suc-mul, mul-le-mul_right, mul-lt-mul_of_pos_right, mul-div_cancel, div-lt_iff_lt-mul, mod-eq_of_lt, le_trans, le_of_eq, lt_of_lt_of_le, arith, pow_pos, pow-add}
use Rattle.std.proofs.Math.Nat.{add-mul-div_right, mul-div-mul_right, div-div-eq-div-mul}
use lib.Count.{count_leading_zeros, leading_top}
use Rattle.wide.specs.Division.{Divides, Scales}

-- the count of leading zeros is the shift
pub scales : (d : ℕ) → 0 < d → d < 2 ^ 64 → Scales d (count_leading_zeros 64 d)
scales d pos word =
    let t = leading_top 64 d pos word in
    let s : ℕ = count_leading_zeros 64 d in
    let e : t.0 + s ≡ 63 = omega (arith, t.1) in
    let f : suc t.0 + s ≡ 64 = omega (arith, t.1) in
    record {
      small = omega (arith, t.1);
      high = le_trans (le_of_eq (ap (λ (x : ℕ). 2 ^ x) (sym e) ∙ pow-add 2 t.0 s)) (mul-le-mul_right (2 ^ s) t.2);
      fits =
          lt_of_lt_of_le (mul-lt-mul_of_pos_right t.3 (pow_pos s))
          (le_of_eq (sym (pow-add 2 (suc t.0) s) ∙ ap (λ (x : ℕ). 2 ^ x) f));
    }

-- a number by its words, under a further word
joined : (a x : ℕ) → (a + x / 2 ^ 64) * 2 ^ 64 + x % 2 ^ 64 ≡ 2 ^ 64 * a + x
joined a x = omega arith

-- what is carried is below the factor, so the sum stays below what has room for the factor
under : (a x f e : ℕ) → x < 2 ^ 64 * f → a + f ≤ e → a + x / 2 ^ 64 < e
under a x f e h r = let l : x / 2 ^ 64 < f = omega arith in omega arith

-- the shifted number as the code has it: three words shifted apart, whose parts make the whole
pub record Shifted (hi lo d s : ℕ) : Type 0 where
  pub by : (d * 2 ^ s) % 2 ^ 64 ≡ d * 2 ^ s
  pub top : (hi * 2 ^ s) % 2 ^ 64 + lo / 2 ^ 1 / 2 ^ (63 - s) < d * 2 ^ s
  pub whole : ((hi * 2 ^ s) % 2 ^ 64 + lo / 2 ^ 1 / 2 ^ (63 - s)) * 2 ^ 64 + (lo * 2 ^ s) % 2 ^ 64 ≡ (hi * 2 ^ 64 + lo) * 2 ^ s

module _ (hi lo d s : ℕ) (small : hi < d) (word : lo < 2 ^ 64) (scale : Scales d s) where
  -- the bits that leave the lower word
  out : lo / 2 ^ 1 / 2 ^ (63 - s) ≡ lo * 2 ^ s / 2 ^ 64
  out =
      let e : 1 + (63 - s) + s ≡ 64 = omega (arith, scale.small) in
      div-div-eq-div-mul lo (2 ^ 1) (2 ^ (63 - s))
      ∙ sym (mul-div-mul_right lo (2 ^ 1 * 2 ^ (63 - s)) (pow_pos s))
      ∙ ap (λ (x : ℕ). lo * 2 ^ s / x)
      (ap (λ (x : ℕ). x * 2 ^ s) (sym (pow-add 2 1 (63 - s))) ∙ sym (pow-add 2 (1 + (63 - s)) s) ∙ ap (λ (x : ℕ). 2 ^ x) e)

  room : hi * 2 ^ s + 2 ^ s ≤ d * 2 ^ s
  room = le_trans (le_of_eq (sym (suc-mul hi (2 ^ s)))) (mul-le-mul_right (2 ^ s) small)

  low : lo * 2 ^ s < 2 ^ 64 * 2 ^ s
  low = mul-lt-mul_of_pos_right word (pow_pos s)

  spread : (hi * 2 ^ 64 + lo) * 2 ^ s ≡ 2 ^ 64 * (hi * 2 ^ s) + lo * 2 ^ s
  spread =
      add-mul (hi * 2 ^ 64) lo (2 ^ s)
      ∙ ap (λ (x : ℕ). x + lo * 2 ^ s) (ap (λ (x : ℕ). x * 2 ^ s) (mul_comm hi (2 ^ 64)) ∙ mul_assoc (2 ^ 64) hi (2 ^ s))

  pub shifted : Shifted hi lo d s
  shifted =
      let h : (hi * 2 ^ s) % 2 ^ 64 ≡ hi * 2 ^ s = mod-eq_of_lt (omega (arith, room, scale.fits)) in
      record {
        by = mod-eq_of_lt scale.fits;
        top = rw (h, out) (under (hi * 2 ^ s) (lo * 2 ^ s) (2 ^ s) (d * 2 ^ s) low room);
        whole = (λ i. (h i + out i) * 2 ^ 64 + (lo * 2 ^ s) % 2 ^ 64) ∙ joined (hi * 2 ^ s) (lo * 2 ^ s) ∙ sym spread;
      }

-- a division whose sides are multiplied by f has the same quotient, and its rest multiplied
pub unscaled : (n d f q r : ℕ) → 0 < f → n * f ≡ q * (d * f) + r → r < d * f → Divides n d q (r / f)
unscaled n d f q r pos e h = record {
  whole =
      sym (mul-div_cancel n pos)
      ∙ ap (λ (x : ℕ). x / f) (e ∙ add_comm (q * (d * f)) r ∙ ap (λ (x : ℕ). r + x) (sym (mul_assoc q d f)))
      ∙ add-mul-div_right r (q * d) pos
      ∙ add_comm (r / f) (q * d);
  below = (div-lt_iff_lt-mul pos).1 h;
}
