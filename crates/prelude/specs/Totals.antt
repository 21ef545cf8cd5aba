-- Over the elements of a list: what they come to, and how many, which, and whether all of them pass. Rests on Cases.
-- std's `sum_by` and `count_by` are folds from the left, and its `filter` goes by `cond`; these compute at a list's head, by our `if`.
use Rattle.std.specs.Prelude.{ℕ, ◌+◌, Bool, List, [], ◌∷◌}
use Rattle.prelude.specs.Cases.{if◌then◌otherwise◌}

module _ {A : Type 0} where
  -- what they come to, added up
  abbrev pub total_of : (A → ℕ) → List A → ℕ
  total_of f [] = 0
  total_of f (x ∷ xs) = f x + total_of f xs

  -- how many pass the test, and which
  abbrev pub how_many : (A → Bool) → List A → ℕ
  how_many f [] = 0
  how_many f (x ∷ xs) = (if f x then 1 otherwise 0) + how_many f xs

  abbrev pub those : (A → Bool) → List A → List A
  those f [] = []
  those f (x ∷ xs) = if f x then x ∷ those f xs otherwise those f xs

  -- P holds of each of them
  pub data Every (P : A → Type 0) : List A → Type 0 where
    every[] : Every P []
    every∷ : {x : A} {xs : List A} → P x → Every P xs → Every P (x ∷ xs)
