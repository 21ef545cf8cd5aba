-- The values of a function at the numbers that pass: how many they are, and that each stands at its number's rank. Rests on Ranks.
use Rattle.std.specs.Prelude.{◌≡◌, Bool, true, false, refl, List, [], ◌∷◌, ◌++◌, ℕ, zero, suc, ◌+◌, ◌<◌, length, get_or}
use Rattle.std.proofs.Common.{ap, sym, ◌∙◌, not-suc-le-zero, eq-or-lt_of_le, le_of_suc-le-suc, ⊎_elim, arith, append-nil, length-append}
use Rattle.std.proofs.Math.ListN.{get_or-append}
use Rattle.std.proofs.lemmas.List.{get_or_at}
use Rattle.prelude.specs.Below.{count_below}
use Rattle.prelude.specs.Cases.{if◌then◌otherwise◌}
use Rattle.prelude.specs.Laws.Cases.{clash}
use Rattle.prelude.specs.Lists.{list_below}
use Rattle.parts.specs.Parts.{passing}
use Rattle.parts.specs.Laws.Ranks.{decide, rank_below}

module _ {A : Type 0} (p : ℕ → Bool) (f : ℕ → A) where
  pub passing_hit : (n : ℕ) → p n ≡ true → passing p f (suc n) ≡ passing p f n ++ (f n ∷ [])
  unfolding passing if◌then◌otherwise◌
  passing_hit n e = rw e

  pub passing_pass : (n : ℕ) → p n ≡ false → passing p f (suc n) ≡ passing p f n
  unfolding passing if◌then◌otherwise◌
  passing_pass n e = rw e (append-nil (passing p f n))

  pub length_passing : (n : ℕ) → length (passing p f n) ≡ count_below p n
  unfolding passing count_below
  length_passing zero = refl
  length_passing (suc n) = step (p n) (passing p f n) (count_below p n) (length_passing n)
    where
      step : (b : Bool) (xs : List A) (c : ℕ) → length xs ≡ c → length (xs ++ (if b then f n ∷ [] otherwise [])) ≡ c + (if b then 1 otherwise 0)
      step true xs c e = unfold if◌then◌otherwise◌ in simp length-append (omega arith)
      step false xs c e = unfold if◌then◌otherwise◌ in simp length-append (omega arith)

  -- the value of a number that passes stands at its rank
  pub get_passing : (d : A) (n i : ℕ) → i < n → p i ≡ true → get_or (passing p f n) (count_below p i) d ≡ f i
  get_passing d zero i h e = absurd (not-suc-le-zero h)
  get_passing d (suc n) i h e =
      let l : length (passing p f n) ≡ count_below p n = length_passing n in
      ⊎_elim
      (λ q. ap (λ (xs : List A). get_or xs (count_below p i) d) (passing_hit n (ap p (sym q) ∙ e))
      ∙ get_or_at (passing p f n) (f n) [] d (count_below p i) (l ∙ ap (count_below p) (sym q)) ∙ ap f (sym q))
      (λ q. let s : count_below p i < count_below p n = rank_below p i n q e in
      old (p n) refl (omega arith) ∙ get_passing d n i q e)
      (eq-or-lt_of_le (le_of_suc-le-suc h))
    where
      old : (b : Bool) → p n ≡ b → count_below p i < length (passing p f n) → get_or (passing p f (suc n)) (count_below p i) d ≡ get_or (passing p f n) (count_below p i) d
      old true q s = ap (λ (xs : List A). get_or xs (count_below p i) d) (passing_hit n q) ∙ get_or-append (passing p f n) (f n ∷ []) d (count_below p i) s
      old false q s = ap (λ (xs : List A). get_or xs (count_below p i) d) (passing_pass n q)

  -- values that are the same at the numbers that pass
  pub passing_ext : (g : ℕ → A) (q : ℕ → Bool) (n : ℕ) → ((i : ℕ) → i < n → p i ≡ q i) → ((i : ℕ) → i < n → p i ≡ true → f i ≡ g i) → passing p f n ≡ passing q g n
  unfolding passing
  passing_ext g q zero h e = refl
  passing_ext g q (suc n) h e =
      let s : passing p f n ≡ passing q g n = passing_ext g q n (λ i l. h i (omega arith)) (λ i l. e i (omega arith)) in
      decide (p n)
      (λ t. ap (λ (xs : List A). xs ++ (if p n then f n ∷ [] otherwise [])) s ∙ ap (λ (x : A). passing q g n ++ (if p n then x ∷ [] otherwise [])) (e n (omega arith) t)
      ∙ ap (λ (b : Bool). passing q g n ++ (if b then g n ∷ [] otherwise [])) (h n (omega arith)))
      (λ t. ap (λ (xs : List A). xs ++ (if p n then f n ∷ [] otherwise [])) s
      ∙ none (p n) t ∙ ap (λ (b : Bool). passing q g n ++ (if b then g n ∷ [] otherwise [])) (h n (omega arith)))
    where
      none : (b : Bool) → b ≡ false → passing q g n ++ (if b then f n ∷ [] otherwise []) ≡ passing q g n ++ (if b then g n ∷ [] otherwise [])
      none true t = clash true refl t
      none false t = unfold if◌then◌otherwise◌ in refl

  -- if all pass, they are all
  pub passing_all : (n : ℕ) → ((i : ℕ) → i < n → p i ≡ true) → passing p f n ≡ list_below f n
  unfolding list_below
  passing_all zero h = unfold passing in refl
  passing_all (suc n) h = passing_hit n (h n (omega arith)) ∙ ap (λ (xs : List A). xs ++ (f n ∷ [])) (passing_all n (λ i l. h i (omega arith)))

  -- if none passes, there is none
  pub passing_none : (n : ℕ) → ((i : ℕ) → i < n → p i ≡ false) → passing p f n ≡ []
  passing_none zero h = unfold passing in refl
  passing_none (suc n) h = passing_pass n (h n (omega arith)) ∙ passing_none n (λ i l. h i (omega arith))
