-- The fields of a record as code sees them, with their places in an array: the words of its contracts, and that they say what Places does.
-- Rests on Places.
use Rattle.std.specs.Prelude.{ℕ, ◌+◌, ◌-◌, ◌≤◌, ◌<◌, ◌≡◌, Bool, true, length, get_or, refl, List}
use Rattle.std.proofs.Common.{sym, ap, ◌∙◌, add-one, arith}
use Rattle.prelude.specs.Cases.{if◌then◌otherwise◌}
use Rattle.prelude.specs.Laws.Cases.{split_if}
use Rattle.prelude.specs.Span.{span}
use Rattle.bits.specs.Map.{bit}
use Rattle.format.specs.Format.{range, in_range}
use Rattle.format.specs.Places.{start, strip, part, content, value, right_at}
use Rattle.format.specs.Laws.Places.{start_up, content_off, value_none}

-- the bytes between two places
abbrev pub between : List ℕ → List ℕ → ℕ → List ℕ
between s at b = span s (get_or at b 0) (get_or at (b + 1) 0 - get_or at b 0)

-- the places rise, within s
pub record Rising (s at : List ℕ) : Type 0 where
  pub up : (b : ℕ) → b < 32 → get_or at b 0 ≤ get_or at (b + 1) 0
  pub inside : (b : ℕ) → b < 32 → get_or at (b + 1) 0 ≤ length s

-- what field b holds between its places, 0 if its bit does not stand, and whether it is in its range
unfoldable pub held_at : List ℕ → ℕ → List ℕ → ℕ → ℕ
held_at s m at b = if bit m b then value b (strip b (between s at b)) otherwise 0

unfoldable pub right_in : List ℕ → ℕ → List ℕ → ℕ → Bool
right_in s m at b = if bit m b then in_range (range b) (value b (strip b (between s at b))) otherwise true

-- ---- laws

module _ (s : List ℕ) (o m : ℕ) (at : List ℕ) (places : (k : ℕ) → k ≤ 32 → get_or at k 0 ≡ start s o m k) (inside : start s o m 32 ≤ length s) where
  pub rising : Rising s at
  rising = record {
    up = λ b h. rw (places b (omega arith), places (b + 1) (omega arith)) (start_up s o m b (b + 1) (omega arith));
    inside = λ b h. rw (places (b + 1) (omega arith)) (let u = start_up s o m (b + 1) 32 (omega arith) in omega arith);
  }

  pub between_part : (b : ℕ) → b < 32 → between s at b ≡ part s o m b
  unfolding part
  between_part b h = rw (places b (omega arith), places (b + 1) (omega arith), add-one) refl

  pub held_value : (b : ℕ) → b < 32 → held_at s m at b ≡ value b (content s o m b)
  unfolding held_at content
  held_value b h =
      split_if (λ (n : ℕ). n ≡ value b (content s o m b)) (bit m b)
      (λ e. ap (λ (l : List ℕ). value b (strip b l)) (between_part b h))
      (λ e. sym (ap (value b) (content_off s o m b e) ∙ value_none b))

  pub right_right : (b : ℕ) → b < 32 → right_in s m at b ≡ right_at s o m b
  unfolding right_in right_at content
  right_right b h = rw (between_part b h) refl
