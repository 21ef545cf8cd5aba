-- The values of a function below n as a list: how a table of records meets a list of them. Rests on Below.
-- std's `map f (range_with_len 0 n)` grows at its front; this list grows at its end, as a loop that counts up does.
use Rattle.std.specs.Prelude.{Bool, Option, List, [], ◌∷◌, ◌++◌, ℕ, zero, suc, length, get_or}
use Rattle.prelude.specs.Below.{all_below, first_below, count_below}

module _ {A : Type 0} where
  -- f 0, f 1 .. up to n of them
  unfoldable pub list_below : (ℕ → A) → ℕ → List A
  list_below f zero = []
  list_below f (suc n) = list_below f n ++ (f n ∷ [])

  -- every element passes; the place of the first that does; how many do. `d` is read past the end
  abbrev pub all_in : A → (A → Bool) → List A → Bool
  all_in d p xs = all_below (λ k. p (get_or xs k d)) (length xs)

  abbrev pub first_in : A → (A → Bool) → List A → Option ℕ
  first_in d p xs = first_below (λ k. p (get_or xs k d)) (length xs)

  abbrev pub count_in : A → (A → Bool) → List A → ℕ
  count_in d p xs = count_below (λ k. p (get_or xs k d)) (length xs)
