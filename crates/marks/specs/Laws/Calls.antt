-- How the two calls end: as the code comes to each end, and that there is no other. Rests on Marks.
use Rattle.std.specs.Prelude.{ℕ, ◌≡◌, true, false, List, ◌++◌, None, Some}
use Rattle.std.proofs.lemmas.Bool.{not-true, not-false}
use Rattle.prelude.specs.Cases.{if◌then◌otherwise◌, maybe}
use Rattle.prelude.specs.Laws.Cases.{split_if, split_maybe}
use Rattle.prelude.specs.Span.{splice}
use Rattle.rules.specs.Keeps.{keeps_of}
use Rattle.marks.specs.Marks.{place_base, image_at, is_mark_name, name_bytes, set_place, return_place, Marked, marked, set_mark_of, return_of}

module _ (b name p : List ℕ) where
  pub set_bad : keeps_of b ≡ false → marked 1 b p ≡ set_mark_of b name p
  unfolding set_mark_of if◌then◌otherwise◌
  set_bad e = rw e

  pub return_bad : keeps_of b ≡ false → marked 1 b p ≡ return_of b name p
  unfolding return_of if◌then◌otherwise◌
  return_bad e = rw e

  module _ (k : keeps_of b ≡ true) where
    pub set_malformed : is_mark_name name ≡ false → marked 13 b p ≡ set_mark_of b name p
    unfolding set_mark_of if◌then◌otherwise◌
    set_malformed e = rw (k, e)

    pub return_malformed : is_mark_name name ≡ false → marked 13 b p ≡ return_of b name p
    unfolding return_of if◌then◌otherwise◌
    return_malformed e = rw (k, e)

    module _ (n : is_mark_name name ≡ true) where
      pub set_full : set_place p name ≡ None → marked 15 b p ≡ set_mark_of b name p
      unfolding set_mark_of if◌then◌otherwise◌ maybe
      set_full e = rw (k, n, e)

      pub set_done : (i : ℕ) → set_place p name ≡ Some i → marked 0 b (splice p (place_base i) (name_bytes name ++ b)) ≡ set_mark_of b name p
      unfolding set_mark_of if◌then◌otherwise◌ maybe
      set_done i e = rw (k, n, e)

      pub return_none : return_place p name ≡ None → marked 14 b p ≡ return_of b name p
      unfolding return_of if◌then◌otherwise◌ maybe
      return_none e = rw (k, n, e)

      pub return_done : (i : ℕ) → return_place p name ≡ Some i → marked 0 (image_at p i) p ≡ return_of b name p
      unfolding return_of if◌then◌otherwise◌ maybe
      return_done i e = rw (k, n, e)

  -- what holds of each end holds of the call
  module _ (P : Marked → Type 0) (bad : keeps_of b ≡ false → P (marked 1 b p)) (malformed : keeps_of b ≡ true → is_mark_name name ≡ false → P (marked 13 b p)) where
    pub set_ends : (keeps_of b ≡ true → is_mark_name name ≡ true → set_place p name ≡ None → P (marked 15 b p))
        → (keeps_of b ≡ true → is_mark_name name ≡ true → (i : ℕ) → set_place p name ≡ Some i → P (marked 0 b (splice p (place_base i) (name_bytes name ++ b))))
        → P (set_mark_of b name p)
    unfolding set_mark_of
    set_ends full done =
        split_if P _ (λ e. bad (not-true _ e))
        (λ e. split_if P _ (λ f. malformed (not-false _ e) (not-true _ f))
        (λ f. split_maybe P (set_place p name) (full (not-false _ e) (not-false _ f)) (done (not-false _ e) (not-false _ f))))

    pub return_ends : (keeps_of b ≡ true → is_mark_name name ≡ true → return_place p name ≡ None → P (marked 14 b p))
        → (keeps_of b ≡ true → is_mark_name name ≡ true → (i : ℕ) → return_place p name ≡ Some i → P (marked 0 (image_at p i) p))
        → P (return_of b name p)
    unfolding return_of
    return_ends missing done =
        split_if P _ (λ e. bad (not-true _ e))
        (λ e. split_if P _ (λ f. malformed (not-false _ e) (not-true _ f))
        (λ f. split_maybe P (return_place p name) (missing (not-false _ e) (not-false _ f)) (done (not-false _ e) (not-false _ f))))

-- for the tactics of the calls
pub ruleset set_calls = (set_bad, set_malformed, set_full, set_done)

pub ruleset return_calls = (return_bad, return_malformed, return_none, return_done)
