-- How long a decimal is, and how code writes it from the last digit to the first. Rests on Decimal.
use Rattle.std.specs.Prelude.{ℕ, zero, suc, ◌+◌, ◌*◌, ◌/◌, ◌^◌, ◌≤◌, ◌<◌, ◌≡◌, refl, List, [], ◌∷◌, ◌++◌, ltb, length, get_or, set}
use Rattle.std.proofs.Common.{sym, ap, ◌∙◌, append_assoc, lt_of_lt_of_le, lt_of_le_of_lt, le_trans, mul-le-mul_left, arith, ltb-false, lt-ltb, le-ltb, lit≤, length-append}
use Rattle.std.proofs.Math.Decide.{dec_lt}
use Rattle.std.proofs.Math.ListN.{get_or-append}
use Rattle.std.proofs.Math.Nat.{pow-succ', one-le-pow}
use Rattle.prelude.specs.Cases.{if◌then◌otherwise◌}
use Rattle.prelude.specs.Laws.Cases.{split_if, if_true, if_false}
use Rattle.prelude.specs.Span.{splice}
use Rattle.prelude.specs.Laws.Span.{length_splice, splice_append, splice_before, set_splice}
use Rattle.decimal.specs.Decimal.{point, lowest, digits_by, digits, low_digits, down, decimal}

-- ---- low digits

pub length_low : (p n : ℕ) → length (low_digits p n) ≡ p
unfolding low_digits
length_low zero n = refl
length_low (suc p) n = length-append (low_digits p (n / 10)) (lowest n ∷ []) ∙ omega (arith, length_low p (n / 10))

-- one digit written before the others, which stand in front of it
pub low_put : (s : List ℕ) (at j v : ℕ) → at + suc j ≤ length s
    → splice (set s (at + j) (lowest v)) at (low_digits j (v / 10)) ≡ splice s at (low_digits (suc j) v)
unfolding low_digits
low_put s at j v h =
    let l : length (low_digits j (v / 10)) ≡ j = length_low j (v / 10) in
    let e : set s (at + j) (lowest v) ≡ splice s (at + length (low_digits j (v / 10))) (lowest v ∷ []) =
    set_splice s (at + j) (lowest v) (omega arith) ∙ ap (λ (n : ℕ). splice s (at + n) (lowest v ∷ [])) (sym l) in
    ap (λ (t : List ℕ). splice t at (low_digits j (v / 10))) e
    ∙ splice_before s at (low_digits j (v / 10)) (lowest v ∷ []) (omega arith)

pub down_more : (i v : ℕ) → down (suc i) v ≡ down i (v / 10)
unfolding down
down_more i v = refl

pub down_none : (v : ℕ) → down 0 v ≡ v
unfolding down
down_none v = refl

pub down_less : (p n : ℕ) → down p n ≤ n
unfolding down
down_less zero n = omega arith
down_less (suc p) n = omega (arith, down_less p (n / 10))

-- ---- all digits

-- any f that is large enough gives the same digits
enough : (f g n : ℕ) → n ≤ f → n ≤ g → digits_by f n ≡ digits_by g n
unfolding digits_by if◌then◌otherwise◌
enough zero zero n h j = refl
enough zero (suc g) n h j = rw (lt-ltb n 10 (omega arith)) refl
enough (suc f) zero n h j = rw (lt-ltb n 10 (omega arith)) refl
enough (suc f) (suc g) n h j =
    split_if (λ x. x ≡ (if ltb n 10 then lowest n ∷ [] otherwise digits_by g (n / 10) ++ (lowest n ∷ []))) (ltb n 10)
    (λ e. rw e refl)
    (λ e. let m : 10 ≤ n = ltb-false n 10 e in rw (e, enough f g (n / 10) (omega arith) (omega arith)) refl)

more_by : (f n : ℕ) → 10 ≤ n → digits_by (suc f) n ≡ digits_by f (n / 10) ++ (lowest n ∷ [])
unfolding digits_by
more_by f n h = if_false (ltb n 10) _ _ (le-ltb n 10 h)

one_by : (f n : ℕ) → n < 10 → digits_by (suc f) n ≡ lowest n ∷ []
unfolding digits_by
one_by f n h = if_true (ltb n 10) _ _ (lt-ltb n 10 h)

first_by : (n : ℕ) → digits_by 0 n ≡ lowest n ∷ []
unfolding digits_by
first_by n = refl

pub digits_more : (n : ℕ) → 10 ≤ n → digits n ≡ digits (n / 10) ++ (lowest n ∷ [])
unfolding digits
digits_more n h =
    enough n (suc n) n (omega arith) (omega arith)
    ∙ more_by n n h
    ∙ ap (λ (s : List ℕ). s ++ (lowest n ∷ [])) (enough n (n / 10) (n / 10) (omega arith) (omega arith))

pub digits_one : (n : ℕ) → n < 10 → digits n ≡ lowest n ∷ []
unfolding digits
digits_one n h = enough n 10 n (omega arith) (omega arith) ∙ one_by 9 n h

pub width_more : (n : ℕ) → 10 ≤ n → length (digits n) ≡ length (digits (n / 10)) + 1
width_more n h = ap length (digits_more n h) ∙ length-append (digits (n / 10)) (lowest n ∷ [])

pub width_one : (n : ℕ) → n < 10 → length (digits n) ≡ 1
width_one n h = ap length (digits_one n h)

width_by : (f n : ℕ) → n ≤ f → (1 ≤ length (digits_by f n)) × (length (digits_by f n) ≤ suc n)
width_by zero n h = rw (first_by n) (omega arith, omega arith)
width_by (suc f) n h = go (dec_lt n 10) (width_by f (n / 10))
  where
    go : Dec (n < 10) → (n / 10 ≤ f → (1 ≤ length (digits_by f (n / 10))) × (length (digits_by f (n / 10)) ≤ suc (n / 10)))
        → (1 ≤ length (digits_by (suc f) n)) × (length (digits_by (suc f) n) ≤ suc n)
    go (yes l) i = rw (one_by f n l) (omega arith, omega arith)
    go (no l) i =
        let m : 10 ≤ n = omega arith in
        let j = i (omega arith) in
        let e = length-append (digits_by f (n / 10)) (lowest n ∷ []) in
        rw (more_by f n m) (omega arith, omega arith)

pub width_some : (n : ℕ) → 1 ≤ length (digits n)
unfolding digits
width_some n = (width_by n n (omega arith)).0

-- from 10 on, no more digits than the number
pub width_least : (n : ℕ) → 10 ≤ n → length (digits n) ≤ n
unfolding digits
width_least n h = let i : length (digits (n / 10)) ≤ suc (n / 10) = (width_by (n / 10) (n / 10) (omega arith)).1 in omega (arith, width_more n h)

-- 10 ^ k
abbrev pub tens : ℕ → ℕ
tens zero = 1
tens (suc k) = 10 * tens k

-- a number below 10 ^ k has at most k digits
pub width_bound : (k n : ℕ) → n < tens (suc k) → length (digits n) ≤ suc k
width_bound zero n h = omega (arith, width_one n (omega arith))
width_bound (suc k) n h = go (dec_lt n 10) (width_bound k (n / 10))
  where
    go : Dec (n < 10) → (n / 10 < tens (suc k) → length (digits (n / 10)) ≤ suc k) → length (digits n) ≤ suc (suc k)
    go (yes l) f = omega (arith, width_one n l)
    go (no l) f = let m : 10 ≤ n = omega arith in omega (arith, width_more n m, f (omega arith))

-- and one from 10 ^ k on that many
pub width_power : (k n : ℕ) → 10 ^ k ≤ n → n < 10 * 10 ^ k → length (digits n) ≡ suc k
width_power zero n l h = width_one n (omega arith)
width_power (suc k) n l h =
    let e : 10 ^ suc k ≡ 10 * 10 ^ k = pow-succ' 10 k in
    omega (arith, width_more n (omega (arith, one-le-pow k 10)), width_power k (n / 10) (omega arith) (omega arith))

-- a number below 10 ^ (k + 1) needs no more than k steps
small : (k n : ℕ) → n < 10 → digits_by k n ≡ lowest n ∷ []
small zero n h = first_by n
small (suc k) n h = one_by k n h

short : (f k n : ℕ) → n ≤ f → n < tens (suc k) → digits_by f n ≡ digits_by k n
short zero k n h b = small 0 n (omega arith) ∙ sym (small k n (omega arith))
short (suc f) zero n h b = small (suc f) n (omega arith) ∙ sym (small 0 n (omega arith))
short (suc f) (suc k) n h b = go (dec_lt n 10) (short f k (n / 10))
  where
    go : Dec (n < 10) → (n / 10 ≤ f → n / 10 < tens (suc k) → digits_by f (n / 10) ≡ digits_by k (n / 10)) → digits_by (suc f) n ≡ digits_by (suc k) n
    go (yes l) i = small (suc f) n l ∙ sym (small (suc k) n l)
    go (no l) i =
        let m : 10 ≤ n = omega arith in
        more_by f n m ∙ ap (λ (s : List ℕ). s ++ (lowest n ∷ [])) (i (omega arith) (omega arith)) ∙ sym (more_by k n m)

pub digits_short : (k n : ℕ) → n < tens (suc k) → digits n ≡ digits_by k n
unfolding digits
digits_short k n h = short n k n (omega arith) h

-- all digits are that many low ones
low_by : (f n : ℕ) → n ≤ f → low_digits (length (digits_by f n)) n ≡ digits_by f n
unfolding digits_by low_digits
low_by zero n h = refl
low_by (suc f) n h =
    split_if (λ s. low_digits (length s) n ≡ s) (ltb n 10)
    (λ e. refl)
    (λ e. let m : 10 ≤ n = ltb-false n 10 e in
    let l : length (digits_by f (n / 10) ++ (lowest n ∷ [])) ≡ suc (length (digits_by f (n / 10))) = length-append (digits_by f (n / 10)) _ ∙ omega arith in
    ap (λ (k : ℕ). low_digits k n) l ∙ ap (λ (s : List ℕ). s ++ (lowest n ∷ [])) (low_by f (n / 10) (omega arith)))

pub low_all : (n : ℕ) → low_digits (length (digits n)) n ≡ digits n
unfolding digits
low_all n = low_by n n (omega arith)

-- no leading zero: the first digit of a number above 0 is not 0
first_digit : (f n : ℕ) → n ≤ f → 0 < n → 48 < get_or (digits_by f n) 0 0
first_digit zero n h p = absurd (omega arith)
first_digit (suc f) n h p = go (dec_lt n 10) (first_digit f (n / 10))
  where
    go : Dec (n < 10) → (n / 10 ≤ f → 0 < n / 10 → 48 < get_or (digits_by f (n / 10)) 0 0) → 48 < get_or (digits_by (suc f) n) 0 0
    go (yes l) i = rw (one_by f n l) (omega arith)
    go (no l) i =
        let m : 10 ≤ n = omega arith in
        let j : 48 < get_or (digits_by f (n / 10)) 0 0 = i (omega arith) (omega arith) in
        let w : 0 < length (digits_by f (n / 10)) = (width_by f (n / 10) (omega arith)).0 in
        rw (more_by f n m) (omega (arith, get_or-append (digits_by f (n / 10)) (lowest n ∷ []) 0 0 w))

pub no_leading_zero : (n : ℕ) → 0 < n → 48 < get_or (digits n) 0 0
unfolding digits
no_leading_zero n h = first_digit n n (omega arith) h

-- ---- whole part, point, low digits

-- bytes, one byte and bytes
pub three : (s : List ℕ) (at : ℕ) (a : List ℕ) (x : ℕ) (b : List ℕ) → at + length a + 1 + length b ≤ length s
    → splice (set (splice s at a) (at + length a) x) (at + length a + 1) b ≡ splice s at (a ++ (x ∷ b))
three s at a x b h =
    let l : length (splice s at a) ≡ length s = length_splice s at a (omega arith) in
    let e : set (splice s at a) (at + length a) x ≡ splice s at (a ++ (x ∷ [])) =
    set_splice (splice s at a) (at + length a) x (omega arith) ∙ splice_append s at a (x ∷ []) (omega arith) in
    let n : at + length a + 1 ≡ at + length (a ++ (x ∷ [])) = omega (arith, length-append a (x ∷ [])) in
    ap (λ (t : List ℕ). splice t (at + length a + 1) b) e
    ∙ ap (λ (k : ℕ). splice (splice s at (a ++ (x ∷ []))) k b) n
    ∙ splice_append s at (a ++ (x ∷ [])) b (omega arith)
    ∙ ap (splice s at) (append_assoc a (x ∷ []) b)

pub decimal_some : (p n : ℕ) → 0 < p → decimal p n ≡ digits (down p n) ++ (point ∷ low_digits p n)
unfolding decimal
decimal_some zero n h = absurd (omega arith)
decimal_some (suc p) n h = refl

pub decimal_zero : (p n : ℕ) → p ≡ 0 → decimal p n ≡ digits (down p n)
unfolding decimal down
decimal_zero zero n e = refl
decimal_zero (suc p) n e = absurd (omega arith)

pub decimal_long : (p n : ℕ) → 0 < p → length (decimal p n) ≡ length (digits (down p n)) + 1 + p
decimal_long p n h = ap length (decimal_some p n h) ∙ length-append (digits (down p n)) (point ∷ low_digits p n) ∙ omega (arith, length_low p n)

pub decimal_whole : (p n : ℕ) → length (digits (down p n)) ≤ length (decimal p n)
decimal_whole zero n = omega (arith, ap length (decimal_zero 0 n refl))
decimal_whole (suc p) n = omega (arith, decimal_long (suc p) n (omega arith))

pub decimal_put : (s : List ℕ) (at p n w : ℕ) → w ≡ length (digits (down p n)) → 0 < p → at + length (decimal p n) ≤ length s
    → splice (set (splice s at (low_digits w (down p n))) (at + w) point) (at + w + 1) (low_digits p n) ≡ splice s at (decimal p n)
decimal_put s at p n w e h l =
    rw (e, low_all (down p n))
    (three s at (digits (down p n)) point (low_digits p n) (omega (arith, decimal_long p n h, length_low p n)) ∙ ap (splice s at) (sym (decimal_some p n h)))

-- a number of one word has at most 20 digits
pub width_word : (p n : ℕ) → n < 2 ^ 64 → length (digits (down p n)) ≤ 20
width_word p n h = width_bound 19 (down p n) (omega (arith, down_less p n))

-- one of two words at most 39
pub width_words : (p low high : ℕ) → low < 2 ^ 64 → high < 2 ^ 64 → length (digits (down p (low + 2 ^ 64 * high))) ≤ 39
width_words p low high a b =
    let e : low + 2 ^ 64 * high < 2 ^ 64 * suc high = omega arith in
    let l : 2 ^ 64 * suc high ≤ 2 ^ 64 * 2 ^ 64 = mul-le-mul_left (2 ^ 64) b in
    width_bound 38 (down p (low + 2 ^ 64 * high))
    (lt_of_le_of_lt (down_less p (low + 2 ^ 64 * high)) (lt_of_lt_of_le e (le_trans l (lit≤ tt))))
