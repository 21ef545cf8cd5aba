-- The first bytes of a list and what is behind them, as ranges of a slice give them and as a word reads them. Assumes nothing.
use Rattle.std.proofs.Common.{◌≡◌, ℕ, ◌≤◌, ◌<◌, ◌+◌, ◌-◌, min, List, [], ◌∷◌, ap, ◌∙◌, length, take, drop, refl, arith, length-drop, take_all, drop_of_length-le, get_or}
use Rattle.std.proofs.Math.Decide.{dec_le}
use Rattle.prelude.specs.Laws.Span.{length_span}
use Rattle.prelude.specs.Number.{number, word64}
use Rattle.format.specs.Laws.Seen.{Rising, between}

-- a word from the start is the number of the first 8 bytes: zeros behind the end add nothing
pub word_first : (s : List ℕ) → word64 s 0 ≡ number (take 8 s)
word_first [] = refl
word_first (a ∷ []) = refl
word_first (a ∷ b ∷ []) = refl
word_first (a ∷ b ∷ c ∷ []) = refl
word_first (a ∷ b ∷ c ∷ d ∷ []) = refl
word_first (a ∷ b ∷ c ∷ d ∷ e ∷ []) = refl
word_first (a ∷ b ∷ c ∷ d ∷ e ∷ f ∷ []) = refl
word_first (a ∷ b ∷ c ∷ d ∷ e ∷ f ∷ g ∷ []) = refl
word_first (a ∷ b ∷ c ∷ d ∷ e ∷ f ∷ g ∷ h ∷ s) = omega arith

pub word_whole : (s : List ℕ) → length s ≤ 8 → word64 s 0 ≡ number s
word_whole s h = word_first s ∙ ap number (take_all 8 s h)

pub rest_bytes : (n : ℕ) (l : List ℕ) → take (length l - min (length l) n) (drop (min (length l) n) l) ≡ drop n l
rest_bytes n l = go (dec_le n (length l))
  where
    go : Dec (n ≤ length l) → take (length l - min (length l) n) (drop (min (length l) n) l) ≡ drop n l
    go (yes h) =
        let e : min (length l) n ≡ n = omega arith in
        rw e (take_all (length l - n) (drop n l) (simp length-drop (omega arith)))
    go (no h) =
        let e : min (length l) n ≡ length l = omega arith in
        let z : length l - length l ≡ 0 = omega arith in
        rw (e, z, drop_of_length-le l {i = n} (omega arith)) refl

-- what stands between two places is as long as they are apart
pub long_between : {s at : List ℕ} → Rising s at → (b n : ℕ) → b < 32 → get_or at (b + 1) 0 - get_or at b 0 ≤ n → length (between s at b) ≤ n
long_between {s} {at} r b n h l =
    omega (arith, length_span s (get_or at b 0) (get_or at (b + 1) 0 - get_or at b 0) (omega (arith, r.up b h, r.inside b h)))
