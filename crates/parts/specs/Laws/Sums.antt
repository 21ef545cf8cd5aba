-- What the values at the numbers that pass come to, and which of them pass a second test, beside those of all numbers. Rests on Passing and the laws of Totals.
use Rattle.std.specs.Prelude.{◌≡◌, Bool, true, false, not, refl, List, [], ◌∷◌, ◌++◌, ℕ, zero, suc, ◌+◌, ◌<◌, length, get_or, map}
use Rattle.std.proofs.Common.{ap, sym, ◌∙◌, arith, ext_get_or, append-nil}
use Rattle.std.proofs.lemmas.List.{map-append}
use Rattle.prelude.specs.Laws.Cases.{if_true, if_false}
use Rattle.prelude.specs.Lists.{list_below}
use Rattle.prelude.specs.Laws.Lists.{length_list, get_list}
use Rattle.prelude.specs.Totals.{total_of, those}
use Rattle.prelude.specs.Laws.Totals.{total_append, those_append}
use Rattle.parts.specs.Parts.{passing}
use Rattle.parts.specs.Laws.Ranks.{decide}
use Rattle.parts.specs.Laws.Passing.{passing_hit, passing_pass}

module _ {A : Type 0} where
  -- a list is the values at its places
  pub list_places : (d : A) (l : List A) → list_below (λ k. get_or l k d) (length l) ≡ l
  list_places d l =
      ext_get_or d (list_below (λ k. get_or l k d) (length l)) l (length_list (λ k. get_or l k d) (length l))
      (λ k h. get_list (λ j. get_or l j d) d (length l) k (let e : length (list_below (λ j. get_or l j d) (length l)) ≡ length l = length_list (λ j. get_or l j d) (length l) in omega arith))

  -- none of a list passes
  pub those_none : (d : A) (t : A → Bool) (l : List A) → ((k : ℕ) → k < length l → t (get_or l k d) ≡ false) → those t l ≡ []
  those_none d t [] h = refl
  those_none d t (x ∷ l) h = if_false (t x) (x ∷ those t l) (those t l) (h 0 (omega arith)) ∙ those_none d t l (λ k m. h (suc k) (omega arith))

  one_none : (t : A → Bool) (x : A) → t x ≡ false → those t (x ∷ []) ≡ []
  one_none t x e = if_false (t x) (x ∷ []) [] e

  one_some : (t : A → Bool) (x : A) → t x ≡ true → those t (x ∷ []) ≡ x ∷ []
  one_some t x e = if_true (t x) (x ∷ []) [] e

-- ---- what they come to

module _ {A : Type 0} (f : A → ℕ) where
  one_more : (l : List A) (x : A) → total_of f (l ++ (x ∷ [])) ≡ total_of f l + f x
  one_more l x = let e : total_of f (l ++ (x ∷ [])) ≡ total_of f l + (f x + 0) = total_append f l (x ∷ []) in omega arith

  module _ (p : ℕ → Bool) (g k : ℕ → A) where
    total_hit : (n : ℕ) → p n ≡ true → total_of f (passing p g (suc n)) ≡ total_of f (passing p g n) + f (g n)
    total_hit n e = ap (total_of f) (passing_hit p g n e) ∙ one_more (passing p g n) (g n)

    total_pass : (n : ℕ) → p n ≡ false → total_of f (passing p g (suc n)) ≡ total_of f (passing p g n)
    total_pass n e = ap (total_of f) (passing_pass p g n e)

    -- those that do not pass count for nothing
    pub total_passing : (n : ℕ) → ((j : ℕ) → j < n → p j ≡ true → f (g j) ≡ f (k j)) → ((j : ℕ) → j < n → p j ≡ false → f (k j) ≡ 0)
        → total_of f (passing p g n) ≡ total_of f (list_below k n)
    total_passing zero h z = unfold passing list_below in refl
    total_passing (suc n) h z =
        let less : total_of f (passing p g n) ≡ total_of f (list_below k n) = total_passing n (λ j l. h j (omega arith)) (λ j l. z j (omega arith)) in
        let more : total_of f (list_below k (suc n)) ≡ total_of f (list_below k n) + f (k n) = unfold list_below in one_more (list_below k n) (k n) in
        decide (p n) (λ e. omega (arith, total_hit n e, h n (omega arith) e)) (λ e. omega (arith, total_pass n e, z n (omega arith) e))

    -- those that pass count for nothing
    pub total_nothing : (n : ℕ) → ((j : ℕ) → j < n → p j ≡ true → f (g j) ≡ 0) → total_of f (passing p g n) ≡ 0
    total_nothing zero h = unfold passing in refl
    total_nothing (suc n) h =
        let less : total_of f (passing p g n) ≡ 0 = total_nothing n (λ j l. h j (omega arith)) in
        decide (p n) (λ e. omega (arith, total_hit n e, h n (omega arith) e)) (λ e. omega (arith, total_pass n e))

  -- those that pass one of two tests, each number one of them
  pub total_both : (p q : ℕ → Bool) (g h k : ℕ → A) (n : ℕ) → ((j : ℕ) → j < n → q j ≡ not (p j))
      → ((j : ℕ) → f (g j) ≡ f (k j)) → ((j : ℕ) → f (h j) ≡ f (k j)) → total_of f (passing p g n) + total_of f (passing q h n) ≡ total_of f (list_below k n)
  total_both p q g h k zero a b c = unfold passing list_below in refl
  total_both p q g h k (suc n) a b c =
      let less : total_of f (passing p g n) + total_of f (passing q h n) ≡ total_of f (list_below k n) = total_both p q g h k n (λ j l. a j (omega arith)) b c in
      let more : total_of f (list_below k (suc n)) ≡ total_of f (list_below k n) + f (k n) = unfold list_below in one_more (list_below k n) (k n) in
      decide (p n)
      (λ e. omega (arith, total_hit p g k n e, total_pass q h k n (a n (omega arith) ∙ ap not e), b n))
      (λ e. omega (arith, total_pass p g k n e, total_hit q h k n (a n (omega arith) ∙ ap not e), c n))

-- ---- which pass a second test

module _ {A C : Type 0} (p : ℕ → Bool) (f g : ℕ → A) (s t : A → Bool) (u : A → C) where
  -- the tests agree on what passes, and what the second wants passes: the same are chosen, as u says them
  pub those_passing : (n : ℕ) → ((j : ℕ) → j < n → p j ≡ true → s (f j) ≡ t (g j)) → ((j : ℕ) → j < n → t (g j) ≡ true → p j ≡ true) → ((j : ℕ) → u (f j) ≡ u (g j))
      → map u (those s (passing p f n)) ≡ map u (those t (list_below g n))
  those_passing zero a w e = unfold passing list_below in refl
  those_passing (suc n) a w e =
      let less : map u (those s (passing p f n)) ≡ map u (those t (list_below g n)) = those_passing n (λ j l. a j (omega arith)) (λ j l. w j (omega arith)) e in
      decide (t (g n))
      (λ y. some less y (w n (omega arith) y))
      (λ y. none less y)
    where
      longer : map u (those t (list_below g (suc n))) ≡ map u (those t (list_below g n)) ++ map u (those t (g n ∷ []))
      longer = unfold list_below in ap (map u) (those_append t (list_below g n) (g n ∷ [])) ∙ map-append u (those t (list_below g n)) (those t (g n ∷ []))

      hit : p n ≡ true → map u (those s (passing p f (suc n))) ≡ map u (those s (passing p f n)) ++ map u (those s (f n ∷ []))
      hit y = ap (λ (l : List A). map u (those s l)) (passing_hit p f n y) ∙ ap (map u) (those_append s (passing p f n) (f n ∷ [])) ∙ map-append u (those s (passing p f n)) (those s (f n ∷ []))

      some : map u (those s (passing p f n)) ≡ map u (those t (list_below g n)) → t (g n) ≡ true → p n ≡ true
          → map u (those s (passing p f (suc n))) ≡ map u (those t (list_below g (suc n)))
      some less y z =
          hit z
          ∙ ap (λ (l : List A). map u (those s (passing p f n)) ++ map u l) (one_some s (f n) (a n (omega arith) z ∙ y))
          ∙ ap (λ (l : List C). l ++ (u (f n) ∷ [])) less
          ∙ ap (λ (x : C). map u (those t (list_below g n)) ++ (x ∷ [])) (e n)
          ∙ sym (longer ∙ ap (λ (l : List A). map u (those t (list_below g n)) ++ map u l) (one_some t (g n) y))

      none : map u (those s (passing p f n)) ≡ map u (those t (list_below g n)) → t (g n) ≡ false
          → map u (those s (passing p f (suc n))) ≡ map u (those t (list_below g (suc n)))
      none less y =
          decide (p n)
          (λ z. hit z ∙ ap (λ (l : List A). map u (those s (passing p f n)) ++ map u l) (one_none s (f n) (a n (omega arith) z ∙ y)))
          (λ z. ap (λ (l : List A). map u (those s l)) (passing_pass p f n z) ∙ sym (append-nil (map u (those s (passing p f n)))))
          ∙ ap (λ (l : List C). l ++ []) less
          ∙ sym (longer ∙ ap (λ (l : List A). map u (those t (list_below g n)) ++ map u l) (one_none t (g n) y))

module _ {A : Type 0} (p : ℕ → Bool) (f : ℕ → A) (s : A → Bool) where
  -- none of those that pass is chosen
  pub those_missing : (n : ℕ) → ((j : ℕ) → j < n → p j ≡ true → s (f j) ≡ false) → those s (passing p f n) ≡ []
  those_missing zero h = unfold passing in refl
  those_missing (suc n) h =
      let less : those s (passing p f n) ≡ [] = those_missing n (λ j l. h j (omega arith)) in
      decide (p n)
      (λ e. ap (those s) (passing_hit p f n e) ∙ those_append s (passing p f n) (f n ∷ []) ∙ ap (λ (l : List A). l ++ those s (f n ∷ [])) less ∙ one_none s (f n) (h n (omega arith) e))
      (λ e. ap (those s) (passing_pass p f n e) ∙ less)
