-- Laws of the places of fields. Rests on Places.
use Rattle.std.specs.Prelude.{ℕ, suc, ◌+◌, ◌-◌, ◌≤◌, ◌≡◌, refl, true, false, take, List, [], length}
use Rattle.std.proofs.Common.{ap, ◌∙◌, le_refl, arith, length-drop}
use Rattle.std.proofs.Math.Decide.{le_ind}
use Rattle.prelude.specs.Cases.{if◌then◌otherwise◌}
use Rattle.prelude.specs.Laws.Cases.{split_if, if_true, if_false}
use Rattle.prelude.specs.Laws.Span.{span_none, length_span}
use Rattle.prelude.specs.Number.{number}
use Rattle.bits.specs.Map.{bit}
use Rattle.format.specs.Format.{size, is_text_bit}
use Rattle.format.specs.Places.{extent, next, start, strip, part, content, value}

-- ---- places rise

next_up : (s : List ℕ) (m b p : ℕ) → p ≤ next s m b p
unfolding next
next_up s m b p = split_if (λ n. p ≤ n) (bit m b) (λ e. omega arith) (λ e. le_refl p)

pub start_up : (s : List ℕ) (o m a b : ℕ) → a ≤ b → start s o m a ≤ start s o m b
unfolding start
start_up s o m a b h =
    le_ind (λ (k : ℕ). start s o m a ≤ start s o m k) (le_refl (start s o m a))
    (λ k j e. omega (arith, e, next_up s m k (start s o m k))) b h

-- what a field takes
module _ (s : List ℕ) (o m b : ℕ) where
  pub start_on : bit m b ≡ true → start s o m (suc b) ≡ start s o m b + extent s b (start s o m b)
  unfolding start next
  start_on e = if_true (bit m b) _ _ e

  pub start_off : bit m b ≡ false → start s o m (suc b) ≡ start s o m b
  unfolding start next
  start_off e = if_false (bit m b) _ _ e

  pub part_off : bit m b ≡ false → part s o m b ≡ []
  unfolding part
  part_off e =
      let z : start s o m (suc b) - start s o m b ≡ 0 = omega (arith, start_off e) in
      rw z (span_none s (start s o m b))

  pub content_off : bit m b ≡ false → content s o m b ≡ []
  unfolding content strip
  content_off e = rw (part_off e) (split_if (λ (l : List ℕ). l ≡ []) (is_text_bit b) (λ q. refl) (λ q. refl))

  module _ (inside : start s o m (suc b) ≤ length s) where
    pub length_part : length (part s o m b) ≡ start s o m (suc b) - start s o m b
    unfolding part
    length_part =
        length_span s (start s o m b) (start s o m (suc b) - start s o m b) (omega (arith, start_up s o m b (suc b) (omega arith)))

    -- a number that stands has its size
    pub length_number : bit m b ≡ true → is_text_bit b ≡ false → length (content s o m b) ≡ size b
    unfolding content strip extent
    length_number e t =
        let x : extent s b (start s o m b) ≡ size b = if_false (is_text_bit b) _ _ t in
        ap length (if_false (is_text_bit b) _ _ t) ∙ omega (arith, length_part, start_on e)

-- what a field that is empty is worth
pub value_none : (b : ℕ) → value b [] ≡ 0
unfolding value
value_none b = split_if (λ (n : ℕ). n ≡ 0) (is_text_bit b) (λ e. refl) (λ e. refl)

-- a field's worth by its bytes
pub value_text : (b : ℕ) (l : List ℕ) → is_text_bit b ≡ true → value b (strip b l) ≡ length l - 1
unfolding value strip if◌then◌otherwise◌
value_text b l e = rw e (length-drop 1 l)

pub value_number : (b : ℕ) (l : List ℕ) → is_text_bit b ≡ false → value b (strip b l) ≡ number (take 8 l)
unfolding value strip if◌then◌otherwise◌
value_number b l e = rw e refl
