-- Laws of what the elements of a list come to: of two lists joined, and of one element changed. Rests on Totals and the laws of Cases.
use Rattle.std.specs.Prelude.{ℕ, zero, suc, ◌+◌, ◌≤◌, ◌<◌, ◌≡◌, refl, ◌⊎◌, Bool, true, length, get_or, set, false, List, [], ◌∷◌, ◌++◌}
use Rattle.std.proofs.Common.{sym, ◌∙◌, inl, inr, zero-add, not-suc-le-zero, le_of_suc-le-suc, arith, ap, append-nil}
use Rattle.prelude.specs.Cases.{if◌then◌otherwise◌}
use Rattle.prelude.specs.Laws.Cases.{split_if}
use Rattle.prelude.specs.Totals.{total_of, how_many, those, Every, every[], every∷}

module _ {A : Type 0} where
  pub total_append : (f : A → ℕ) (s t : List A) → total_of f (s ++ t) ≡ total_of f s + total_of f t
  total_append f [] t = sym (zero-add _)
  total_append f (x ∷ s) t = rw (total_append f s t) (omega arith)

  pub many_append : (f : A → Bool) (s t : List A) → how_many f (s ++ t) ≡ how_many f s + how_many f t
  many_append f [] t = sym (zero-add _)
  many_append f (x ∷ s) t = rw (many_append f s t) (omega arith)

  pub many_le : (f : A → Bool) (l : List A) → how_many f l ≤ length l
  many_le f [] = omega arith
  many_le f (x ∷ xs) = split_if (λ (c : ℕ). c + how_many f xs ≤ suc (length xs)) (f x) (λ e. omega (arith, many_le f xs)) (λ e. omega (arith, many_le f xs))

  pub every_map : {P Q : A → Type 0} {l : List A} → ((x : A) → P x → Q x) → Every P l → Every Q l
  every_map h every[] = every[]
  every_map h (every∷ p ps) = every∷ (h _ p) (every_map h ps)

  pub every_append : {P : A → Type 0} {s t : List A} → Every P s → Every P t → Every P (s ++ t)
  every_append every[] q = q
  every_append (every∷ p ps) q = every∷ p (every_append ps q)

  pub those_append : (f : A → Bool) (s t : List A) → those f (s ++ t) ≡ those f s ++ those f t
  those_append f [] t = refl
  those_append f (x ∷ s) t = go (f x) (those_append f s t)
    where
      go : (a : Bool) → those f (s ++ t) ≡ those f s ++ those f t → (if a then x ∷ those f (s ++ t) otherwise those f (s ++ t)) ≡ (if a then x ∷ those f s otherwise those f s) ++ those f t
      go true e = unfold if◌then◌otherwise◌ in ap (λ (l : List A). x ∷ l) e
      go false e = unfold if◌then◌otherwise◌ in e

  -- tests that agree
  pub those_ext : (f g : A → Bool) (l : List A) → ((x : A) → f x ≡ g x) → those f l ≡ those g l
  those_ext f g [] h = refl
  those_ext f g (x ∷ l) h = ap (λ (t : Bool). if t then x ∷ those f l otherwise those f l) (h x) ∙ ap (λ (y : List A). if g x then x ∷ y otherwise y) (those_ext f g l h)

  -- two lists at the end, in either order if one of them is empty
  pub append_swap : (x s t : List A) → (s ≡ []) ⊎ (t ≡ []) → (x ++ s) ++ t ≡ (x ++ t) ++ s
  append_swap x s t (inl e) = ap (λ (y : List A). (x ++ y) ++ t) e ∙ ap (λ (y : List A). y ++ t) (append-nil x) ∙ sym (ap (λ (y : List A). (x ++ t) ++ y) e ∙ append-nil (x ++ t))
  append_swap x s t (inr e) = ap (λ (y : List A). (x ++ s) ++ y) e ∙ append-nil (x ++ s) ∙ sym (ap (λ (y : List A). (x ++ y) ++ s) e ∙ ap (λ (y : List A). y ++ s) (append-nil x))

-- ---- what a list comes to

module _ {A : Type 0} (f : A → ℕ) where
  -- two lists of one length, alike at each place
  pub total_ext : (d : A) (s t : List A) → length s ≡ length t → ((k : ℕ) → f (get_or s k d) ≡ f (get_or t k d)) → total_of f s ≡ total_of f t
  total_ext d [] [] e h = refl
  total_ext d [] (y ∷ t) e h = absurd (omega arith)
  total_ext d (x ∷ s) [] e h = absurd (omega arith)
  total_ext d (x ∷ s) (y ∷ t) e h =
      let here : f x ≡ f y = h 0 in
      let rest : total_of f s ≡ total_of f t = total_ext d s t (omega arith) (λ k. h (suc k)) in
      omega arith

  -- one is changed: what they come to changes by its part
  pub total_set : (l : List A) (i : ℕ) (x d : A) → i < length l → total_of f (set l i x) + f (get_or l i d) ≡ total_of f l + f x
  total_set [] i x d h = absurd (not-suc-le-zero h)
  total_set (y ∷ l) zero x d h = omega arith
  total_set (y ∷ l) (suc i) x d h = let r : total_of f (set l i x) + f (get_or l i d) ≡ total_of f l + f x = total_set l i x d (le_of_suc-le-suc h) in omega arith

  total_none : (l : List A) (d : A) → ((i : ℕ) → i < length l → f (get_or l i d) ≡ 0) → total_of f l ≡ 0
  total_none [] d n = refl
  total_none (x ∷ l) d n = omega (arith, n 0 (omega arith), total_none l d (λ i h. n (suc i) (omega arith)))

  -- one alone counts
  pub total_one : (l : List A) (j : ℕ) (d : A) → f d ≡ 0 → ((i : ℕ) → i < length l → (i ≡ j → ⊥) → f (get_or l i d) ≡ 0) → total_of f l ≡ f (get_or l j d)
  total_one [] j d z n = sym z
  total_one (x ∷ l) zero d z n = omega (arith, total_none l d (λ i h. n (suc i) (omega arith) (λ w. omega arith)))
  total_one (x ∷ l) (suc j) d z n =
      let r : total_of f l ≡ f (get_or l j d) = total_one l j d z (λ i h w. n (suc i) (omega arith) (λ v. w (omega arith))) in
      omega (arith, n 0 (omega arith) (λ w. omega arith))
