-- A number read within a part of a buffer is the number at its place in the buffer: for a reader that lends a number's bytes alone. Rests on prelude.
use Rattle.std.specs.Prelude.{◌≡◌, List, ℕ, ◌+◌, ◌-◌, ◌≤◌, ◌<◌, get_or, take, drop}
use Rattle.std.proofs.Common.{ap, ◌∙◌, add-zero, arith}
use Rattle.prelude.specs.Span.{span}
use Rattle.prelude.specs.Laws.Span.{get_span, part_span}
use Rattle.prelude.specs.Number.{word16, word32, word64}

module _ (s : List ℕ) (at n : ℕ) where
  pub byte_within : (k j : ℕ) → k + j < n → get_or (span s at n) (k + j) 0 ≡ get_or s (at + k + j) 0
  byte_within k j h = get_span s at n (k + j) h ∙ ap (λ (m : ℕ). get_or s m 0) (let e : at + (k + j) ≡ at + k + j = omega arith in e)

  pub within_8 : (k : ℕ) → k < n → get_or (span s at n) k 0 ≡ get_or s (at + k) 0
  within_8 k h = get_span s at n k h

  pub within_16 : (k : ℕ) → k + 2 ≤ n → word16 (span s at n) k ≡ word16 s (at + k)
  within_16 k h = rw (get_span s at n k (omega arith), byte_within k 1 (omega arith))

  pub within_32 : (k : ℕ) → k + 4 ≤ n → word32 (span s at n) k ≡ word32 s (at + k)
  within_32 k h = rw (get_span s at n k (omega arith), byte_within k 1 (omega arith), byte_within k 2 (omega arith), byte_within k 3 (omega arith))

  pub within_64 : (k : ℕ) → k + 8 ≤ n → word64 (span s at n) k ≡ word64 s (at + k)
  within_64 k h =
      rw (
        get_span s at n k (omega arith),
        byte_within k 1 (omega arith),
        byte_within k 2 (omega arith),
        byte_within k 3 (omega arith),
        byte_within k 4 (omega arith),
        byte_within k 5 (omega arith),
        byte_within k 6 (omega arith),
        byte_within k 7 (omega arith),
      )

-- ---- what a read of `&s[at..at + n]` gives

module _ (s : List ℕ) (at : ℕ) where
  pub window_16 : word16 (take ((at + 2) - at) (drop at s)) 0 ≡ word16 s at
  window_16 = ap (λ (l : List ℕ). word16 l 0) (part_span s at 2) ∙ within_16 s at 2 0 (omega arith) ∙ ap (λ (k : ℕ). word16 s k) (add-zero at)

  pub window_32 : word32 (take ((at + 4) - at) (drop at s)) 0 ≡ word32 s at
  window_32 = ap (λ (l : List ℕ). word32 l 0) (part_span s at 4) ∙ within_32 s at 4 0 (omega arith) ∙ ap (λ (k : ℕ). word32 s k) (add-zero at)

  pub window_64 : word64 (take ((at + 8) - at) (drop at s)) 0 ≡ word64 s at
  window_64 = ap (λ (l : List ℕ). word64 l 0) (part_span s at 8) ∙ within_64 s at 8 0 (omega arith) ∙ ap (λ (k : ℕ). word64 s k) (add-zero at)
