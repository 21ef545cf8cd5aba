-- Numbers that wrap: the lowest bytes of a number are it modulo their bound, and a number read digit by digit may wrap at each. Rests on
-- Numbers.
use Rattle.std.specs.Prelude.{◌≡◌, ℕ, zero, suc, ◌+◌, ◌-◌, ◌*◌, ◌/◌, ◌%◌, ◌<◌, Bool, true, false, refl}
use Rattle.std.proofs.Common.{sym, ap, ◌∙◌, arith, lit<}
use Rattle.std.proofs.Math.Arith.{digits_div, digits_mod}
use Rattle.std.proofs.Math.Nat.{add-mod, mod-add-mod, mod-mod, add-mul-div_right, mul-add-mod_self_right}
use Rattle.prelude.specs.Cases.{if◌then◌otherwise◌}
use Rattle.prelude.specs.Laws.Cases.{if_true, if_false}
use Rattle.prelude.specs.Number.{number, bytes_of, bound}
use Rattle.decimal.specs.Decimal.{is_digit}
use Rattle.fix_reader.specs.Laws.Numbers.{word, step_of}

-- ---- the lowest bytes

-- q times 256 ^ k
abbrev lifted : ℕ → ℕ → ℕ
lifted zero q = q
lifted (suc k) q = 256 * lifted k q

-- n without its k lowest bytes
abbrev shifted : ℕ → ℕ → ℕ
shifted zero n = n
shifted (suc k) n = shifted k (n / 256)

abbrev plus : ℕ → ℕ → ℕ
plus zero k = k
plus (suc j) k = suc (plus j k)

low_bytes : (k n q r : ℕ) → n ≡ lifted k q + r → r < bound k → number (bytes_of k n) ≡ r
low_bytes zero n q r e h = omega arith
low_bytes (suc k) n q r e h = let i = low_bytes k (n / 256) q (r / 256) (omega arith) (omega arith) in omega arith

high_bytes : (k n q r : ℕ) → n ≡ lifted k q + r → r < bound k → shifted k n ≡ q
high_bytes zero n q r e h = omega arith
high_bytes (suc k) n q r e h = high_bytes k (n / 256) q (r / 256) (omega arith) (omega arith)

bytes_split : (j k n : ℕ) → number (bytes_of (plus j k) n) ≡ number (bytes_of j n) + lifted j (number (bytes_of k (shifted j n)))
bytes_split zero k n = omega arith
bytes_split (suc j) k n = omega (arith, bytes_split j k (n / 256))

pub low_word : (n : ℕ) → number (bytes_of 8 n) ≡ n % word
low_word n = low_bytes 8 n (n / word) (n % word) (omega arith) (omega arith)

high_word : (n : ℕ) → shifted 8 n ≡ n / word
high_word n = high_bytes 8 n (n / word) (n % word) (omega arith) (omega arith)

lifted_word : (x : ℕ) → lifted 8 x ≡ word * x
lifted_word x = omega arith

-- a number modulo 2^128, by its two words
unfoldable pub two_low : ℕ → ℕ
two_low n = n % word + word * (n / word % word)

pub low_words : (n : ℕ) → number (bytes_of 16 n) ≡ two_low n
unfolding two_low
low_words n =
    bytes_split 8 8 n
    ∙ (λ i. low_word n i + lifted 8 (number (bytes_of 8 (high_word n i))))
    ∙ ap (λ (x : ℕ). n % word + lifted 8 x) (low_word (n / word))
    ∙ ap (λ (x : ℕ). n % word + x) (lifted_word (n / word % word))

-- ---- ten times and a digit

wrap_ten : (m e : ℕ) → (m * 10 + e) % word ≡ (m % word * 10 + e) % word
wrap_ten m e =
    let s : m * 10 + e ≡ m / word * 10 * word + (m % word * 10 + e) = omega arith in
    ap (λ (x : ℕ). x % word) s ∙ mul-add-mod_self_right (m / word * 10) word (m % word * 10 + e)

carry_ten : (n d : ℕ) → (n * 10 + d) / word ≡ (n % word * 10 + d) / word + n / word * 10
carry_ten n d =
    let s : n * 10 + d ≡ (n % word * 10 + d) + n / word * 10 * word = omega arith in
    ap (λ (x : ℕ). x / word) s ∙ add-mul-div_right (n % word * 10 + d) (n / word * 10) (lit< tt)

-- the same by steps that wrap
pub tenfold_wraps : (n d : ℕ) → (n * 10 % word + d) % word ≡ (n * 10 + d) % word
tenfold_wraps n d = mod-add-mod (n * 10) word d

-- and by sums that wrap
pub ten_wraps : (n d two four five ten r : ℕ) → two ≡ (n + n) % word → four ≡ (two + two) % word → five ≡ (four + n) % word → ten ≡ (five + five) % word
    → r ≡ (ten + d) % word → r ≡ (n * 10 + d) % word
ten_wraps n d two four five ten r e2 e4 e5 e10 e =
    let f4 : four ≡ ((n + n) + (n + n)) % word = e4 ∙ (λ i. (e2 i + e2 i) % word) ∙ sym (add-mod (n + n) (n + n) word) in
    let f5 : five ≡ (((n + n) + (n + n)) + n) % word = e5 ∙ ap (λ (x : ℕ). (x + n) % word) f4 ∙ mod-add-mod ((n + n) + (n + n)) word n in
    let a : ℕ = ((n + n) + (n + n)) + n in
    let f10 : ten ≡ (a + a) % word = e10 ∙ (λ i. (f5 i + f5 i) % word) ∙ sym (add-mod a a word) in
    let t : a + a + d ≡ n * 10 + d = omega arith in
    e ∙ ap (λ (x : ℕ). (x + d) % word) f10 ∙ mod-add-mod (a + a) word d ∙ ap (λ (x : ℕ). x % word) t

-- a word and what goes over
pub over_word : (x low over : ℕ) → low + word * over ≡ x → low < word → (low ≡ x % word) × (over ≡ x / word)
over_word x low over e h =
    let s : x ≡ over * word + low = omega arith in
    (sym (ap (λ (y : ℕ). y % word) s ∙ digits_mod over h), sym (ap (λ (y : ℕ). y / word) s ∙ digits_div over h))

-- ---- one byte more

-- the upper word of two
unfoldable pub step_high : (low high c : ℕ) → ℕ
step_high low high c = if is_digit c then (high * 10 + (low * 10 + (c - 48)) / word) % word otherwise high

pub step_word : (n c : ℕ) → step_of (n % word) c % word ≡ step_of n c % word
unfolding step_of
step_word n c = go (is_digit c) refl
  where
    go : (b : Bool) → is_digit c ≡ b → (if is_digit c then n % word * 10 + (c - 48) otherwise n % word) % word ≡ (if is_digit c then n * 10 + (c - 48) otherwise n) % word
    go true e =
        ap (λ (x : ℕ). x % word) (if_true (is_digit c) (n % word * 10 + (c - 48)) (n % word) e)
        ∙ sym (wrap_ten n (c - 48))
        ∙ sym (ap (λ (x : ℕ). x % word) (if_true (is_digit c) (n * 10 + (c - 48)) n e))
    go false e =
        ap (λ (x : ℕ). x % word) (if_false (is_digit c) (n % word * 10 + (c - 48)) (n % word) e)
        ∙ mod-mod n word
        ∙ sym (ap (λ (x : ℕ). x % word) (if_false (is_digit c) (n * 10 + (c - 48)) n e))

pub step_high_lem : (n c : ℕ) → step_high (n % word) (n / word % word) c ≡ step_of n c / word % word
unfolding step_of step_high
step_high_lem n c = go (is_digit c) refl
  where
    d : ℕ
    d = c - 48

    go : (b : Bool) → is_digit c ≡ b
        → (if is_digit c then (n / word % word * 10 + (n % word * 10 + (c - 48)) / word) % word otherwise n / word % word) ≡ (if is_digit c then n * 10 + (c - 48) otherwise n) / word % word
    go true e =
        let o : ℕ = (n % word * 10 + (c - 48)) / word in
        let t : o + n / word * 10 ≡ n / word * 10 + o = omega arith in
        if_true (is_digit c) ((n / word % word * 10 + o) % word) (n / word % word) e
        ∙ sym (wrap_ten (n / word) o)
        ∙ sym (ap (λ (x : ℕ). x % word) (carry_ten n (c - 48) ∙ t))
        ∙ sym (ap (λ (x : ℕ). x / word % word) (if_true (is_digit c) (n * 10 + (c - 48)) n e))
    go false e =
        if_false (is_digit c) ((n / word % word * 10 + (n % word * 10 + (c - 48)) / word) % word) (n / word % word) e
        ∙ sym (ap (λ (x : ℕ). x / word % word) (if_false (is_digit c) (n * 10 + (c - 48)) n e))
