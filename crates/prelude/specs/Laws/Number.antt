-- Laws of little-endian numbers: there and back, and a byte at a time. Rests on Number and the laws of Span.
use Rattle.std.specs.Prelude.{◌≡◌, refl, List, [], ◌∷◌, ℕ, zero, suc, ◌+◌, ◌*◌, ◌-◌, ◌/◌, ◌%◌, ◌≤◌, ◌<◌, length, get_or, drop}
use Rattle.std.proofs.Common.{sym, ap, ◌∙◌, arith, drop-cons}
use Rattle.std.proofs.Math.Numerals.{towards_suc}
use Rattle.prelude.specs.Span.{span}
use Rattle.prelude.specs.Laws.Span.{span_cons, span_none}
use Rattle.prelude.specs.Number.{number, bytes_of, word16, word32, word64, bound, Bytes}

pub length_bytes : (k n : ℕ) → length (bytes_of k n) ≡ k
length_bytes zero n = refl
length_bytes (suc k) n = ap suc (length_bytes k (n / 256))

pub number_bytes : (k n : ℕ) → n < bound k → number (bytes_of k n) ≡ n
number_bytes zero n h = omega arith
number_bytes (suc k) n h = let e : number (bytes_of k (n / 256)) ≡ n / 256 = number_bytes k (n / 256) (omega arith) in omega arith

tail_bytes : (b : ℕ) (bs : List ℕ) → Bytes (b ∷ bs) → Bytes bs
tail_bytes b bs h k = h (suc k)

pub bytes_number : (s : List ℕ) → Bytes s → bytes_of (length s) (number s) ≡ s
bytes_number [] h = refl
bytes_number (b ∷ bs) h =
    let f : b < 256 = h 0 in
    let low : (b + 256 * number bs) % 256 ≡ b = omega arith in
    let high : (b + 256 * number bs) / 256 ≡ number bs = omega arith in
    λ i. low i ∷ (ap (bytes_of (length bs)) high ∙ bytes_number bs (tail_bytes b bs h)) i

pub number_bound : (s : List ℕ) → Bytes s → number s < bound (length s)
number_bound [] h = omega arith
number_bound (b ∷ bs) h = let f : b < 256 = h 0 in omega (arith, number_bound bs (tail_bytes b bs h))

pub word16_number : (s : List ℕ) (at : ℕ) → at + 2 ≤ length s → word16 s at ≡ number (span s at 2)
word16_number s at h =
    simp (towards_suc, span_cons s at 1 (omega arith), span_cons s (suc at) 0 (omega arith), span_none) (omega arith)

pub word32_number : (s : List ℕ) (at : ℕ) → at + 4 ≤ length s → word32 s at ≡ number (span s at 4)
word32_number s at h =
    simp (
      towards_suc,
      span_cons s at 3 (omega arith),
      span_cons s (suc at) 2 (omega arith),
      span_cons s (suc (suc at)) 1 (omega arith),
      span_cons s (suc (suc (suc at))) 0 (omega arith),
      span_none,
    ) (omega arith)

pub word64_number : (s : List ℕ) (at : ℕ) → at + 8 ≤ length s → word64 s at ≡ number (span s at 8)
word64_number s at h =
    simp (
      towards_suc,
      span_cons s at 7 (omega arith),
      span_cons s (suc at) 6 (omega arith),
      span_cons s (suc (suc at)) 5 (omega arith),
      span_cons s (suc (suc (suc at))) 4 (omega arith),
      span_cons s (suc (suc (suc (suc at)))) 3 (omega arith),
      span_cons s (suc (suc (suc (suc (suc at))))) 2 (omega arith),
      span_cons s (suc (suc (suc (suc (suc (suc at)))))) 1 (omega arith),
      span_cons s (suc (suc (suc (suc (suc (suc (suc at))))))) 0 (omega arith),
      span_none,
    ) (omega arith)

-- ---- read from the highest byte down, written from the lowest up

pub bound_le : (j k : ℕ) → j ≤ k → bound j ≤ bound k
bound_le zero zero h = omega arith
bound_le zero (suc k) h = omega (arith, bound_le zero k (omega arith))
bound_le (suc j) zero h = absurd (omega arith)
bound_le (suc j) (suc k) h = omega (arith, bound_le j k (omega arith))

pub fits_more : {v k : ℕ} (n : ℕ) → v < bound k → k ≤ n → v < bound n
fits_more {v} {k} n h l = omega (arith, bound_le k n l)

-- one more byte below
byte_more : (s : List ℕ) (p k v x : ℕ) → p < length s → x ≡ get_or s p 0 → x < 256 → v < bound k → v ≡ number (span s (suc p) k)
    → (v * 256 + x < bound (suc k)) × (v * 256 + x ≡ number (span s p (suc k)))
byte_more s p k v x h e b l q = (omega arith, rw (span_cons s p k h) (omega arith))

pub byte_below : (s : List ℕ) (at n i v x : ℕ) → 0 < i → i ≤ n → at + n ≤ length s → x ≡ get_or s (at + (i - 1)) 0 → x < 256
    → v < bound (n - i) → v ≡ number (span s (at + i) (n - i))
    → (v * 256 + x < bound (n - (i - 1))) × (v * 256 + x ≡ number (span s (at + (i - 1)) (n - (i - 1))))
byte_below s at n i v x p hi hn e b l q =
    let a : n - (i - 1) ≡ suc (n - i) = omega arith in
    let d : at + i ≡ suc (at + (i - 1)) = omega arith in
    rw a (byte_more s (at + (i - 1)) (n - i) v x (omega arith) e b l (rw d at q))

-- one more byte of a number
pub next_byte : (l : List ℕ) (i k v : ℕ) → i < length l → drop i l ≡ bytes_of (suc k) v → (get_or l i 0 ≡ v % 256) × (drop (suc i) l ≡ bytes_of k (v / 256))
next_byte l i k v h q =
    let e : get_or l i 0 ∷ drop (suc i) l ≡ v % 256 ∷ bytes_of k (v / 256) = sym (drop-cons l i 0 h) ∙ q in
    ((cc), (cc))
