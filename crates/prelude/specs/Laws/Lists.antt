-- Laws of the values of a function as a list: its length and elements, one value changed, and what a loop over a table answers. Rests on Lists and the laws of Below.
use Rattle.std.specs.Prelude.{◌≡◌, Bool, set, refl, List, [], ◌∷◌, ◌++◌, ℕ, zero, suc, ◌+◌, ◌≤◌, ◌<◌, length, get_or}
use Rattle.std.proofs.Common.{subst, sym, ap, ◌∙◌, not-suc-le-zero, eq-or-lt_of_le, le_of_suc-le-suc, arith, length-set, ext_get_or, get_or-set_same, get_or-set_other, ⊎_elim, add-one, length-append}
use Rattle.std.proofs.Math.Decide.{ℕ_discrete, dec_lt}
use Rattle.std.proofs.Math.ListN.{get_or-append}
use Rattle.std.proofs.Math.Seq.{set_out}
use Rattle.std.proofs.lemmas.List.Edits.{fill_by_more}
use Rattle.std.proofs.lemmas.List.{get_or_at}
use Rattle.prelude.specs.Below.{all_below, first_below, count_below}
use Rattle.prelude.specs.Laws.Below.{all_ext, first_ext, count_ext}
use Rattle.prelude.specs.Lists.{list_below, all_in, first_in, count_in}

module _ {A : Type 0} where
  pub length_list : (f : ℕ → A) (n : ℕ) → length (list_below f n) ≡ n
  unfolding list_below
  length_list f zero = refl
  length_list f (suc n) = let e : length (list_below f n) ≡ n = length_list f n in simp length-append (omega arith)

  pub get_list : (f : ℕ → A) (d : A) (n k : ℕ) → k < n → get_or (list_below f n) k d ≡ f k
  unfolding list_below
  get_list f d zero k h = absurd (not-suc-le-zero h)
  get_list f d (suc n) k h =
      ⊎_elim
      (λ e. subst (λ (m : ℕ). get_or (list_below f n ++ (f n ∷ [])) m d ≡ f m) (sym e) (get_or_at (list_below f n) (f n) [] d n (length_list f n)))
      (λ l. get_or-append (list_below f n) (f n ∷ []) d k (let e : length (list_below f n) ≡ n = length_list f n in omega arith) ∙ get_list f d n k l)
      (eq-or-lt_of_le (le_of_suc-le-suc h))

  pub list_ext : (f g : ℕ → A) (n : ℕ) → ((k : ℕ) → k < n → f k ≡ g k) → list_below f n ≡ list_below g n
  unfolding list_below
  list_ext f g zero h = refl
  list_ext f g (suc n) h = rw (list_ext f g n (λ k l. h k (omega arith)), h n (omega arith))

  pub list_more : (f : ℕ → A) (n : ℕ) → list_below f (n + 1) ≡ list_below f n ++ (f n ∷ [])
  unfolding list_below
  list_more f n = rw add-one

  -- one value changed
  pub list_set : (f g : ℕ → A) (n i : ℕ) (x : A) → i < n → g i ≡ x → ((k : ℕ) → (i ≡ k → ⊥) → k < n → g k ≡ f k)
      → list_below g n ≡ set (list_below f n) i x
  list_set f g n i x h e o =
      let l : length (list_below f n) ≡ n = length_list f n in
      let m : length (list_below g n) ≡ n = length_list g n in
      ext_get_or x (list_below g n) (set (list_below f n) i x) (m ∙ sym (length-set (list_below f n) i x ∙ l))
      (λ k j. let j' : k < n = omega arith in get_list g x n k j' ∙ go k j' (ℕ_discrete i k))
    where
      go : (k : ℕ) → k < n → Dec (i ≡ k) → g k ≡ get_or (set (list_below f n) i x) k x
      go k j (yes q) = subst (λ (m : ℕ). g m ≡ get_or (set (list_below f n) i x) m x) q
          (e ∙ sym (get_or-set_same (list_below f n) i x x (let l : length (list_below f n) ≡ n = length_list f n in omega arith)))
      go k j (no q) = o k q j ∙ sym (get_or-set_other (list_below f n) i k x x (λ z. q (sym z)) ∙ get_list f x n k j)

  -- one value changed, or none if the place is past the end
  pub list_set_any : (f g : ℕ → A) (n i : ℕ) (x : A) → (i < n → g i ≡ x) → ((k : ℕ) → (i ≡ k → ⊥) → k < n → g k ≡ f k)
      → list_below g n ≡ set (list_below f n) i x
  list_set_any f g n i x e o = go (dec_lt i n)
    where
      out : n ≤ i → length (list_below f n) ≤ i
      out h = let l : length (list_below f n) ≡ n = length_list f n in omega arith

      go : Dec (i < n) → list_below g n ≡ set (list_below f n) i x
      go (yes h) = list_set f g n i x h (e h) o
      go (no h) =
          let m : n ≤ i = omega arith in
          list_ext g f n (λ k l. o k (λ z. omega arith) l) ∙ sym (set_out (list_below f n) i x (out m))

  -- what a loop over a table answers is what the list of its records answers
  pub all_list : (d : A) (p : A → Bool) (f : ℕ → A) (n : ℕ) → all_in d p (list_below f n) ≡ all_below (λ k. p (f k)) n
  all_list d p f n =
      ap (all_below (λ k. p (get_or (list_below f n) k d))) (length_list f n)
      ∙ all_ext (λ k. p (get_or (list_below f n) k d)) (λ k. p (f k)) n (λ k h. ap p (get_list f d n k h))

  pub first_list : (d : A) (p : A → Bool) (f : ℕ → A) (n : ℕ) → first_in d p (list_below f n) ≡ first_below (λ k. p (f k)) n
  first_list d p f n =
      ap (first_below (λ k. p (get_or (list_below f n) k d))) (length_list f n)
      ∙ first_ext (λ k. p (get_or (list_below f n) k d)) (λ k. p (f k)) n (λ k h. ap p (get_list f d n k h))

  pub count_list : (d : A) (p : A → Bool) (f : ℕ → A) (n : ℕ) → count_in d p (list_below f n) ≡ count_below (λ k. p (f k)) n
  count_list d p f n =
      ap (count_below (λ k. p (get_or (list_below f n) k d))) (length_list f n)
      ∙ count_ext (λ k. p (get_or (list_below f n) k d)) (λ k. p (f k)) n (λ k h. ap p (get_list f d n k h))

-- a list that a loop fills by a rule, one store a turn
pub fill : (f : ℕ → ℕ) (l : List ℕ) (b v : ℕ) → b < length l → v ≡ f b → ((k : ℕ) → k < b → get_or l k 0 ≡ f k)
    → (k : ℕ) → k < b + 1 → get_or (set l b v) k 0 ≡ f k
fill f l b v h e below = subst (λ (x : ℕ). (k : ℕ) → k < b + 1 → get_or (set l b x) k 0 ≡ f k) (sym e) (fill_by_more f l b 0 h below)
