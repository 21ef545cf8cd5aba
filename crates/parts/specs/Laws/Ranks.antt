-- Ranks: how many of the numbers before one pass, and so where it stands among those that do. Ranks of numbers that pass are distinct and in order, and each
-- number below the count is one; so a loop over the ranks answers what a loop over the numbers that pass does. Rests on prelude's Below.
use Rattle.std.specs.Prelude.{◌≡◌, Bool, true, false, ◌&&◌, Option, None, Some, refl, ℕ, zero, suc, ◌+◌, ◌≤◌, ◌<◌}
use Rattle.std.proofs.Common.{ap, subst, sym, ◌∙◌, not-suc-le-zero, eq-or-lt_of_le, le_of_suc-le-suc, add-one, ⊎_elim, arith}
use Rattle.std.proofs.Math.Decide.{ℕ_discrete}
use Rattle.std.proofs.lemmas.Bool.{cases_lt, and_parts}
use Rattle.prelude.specs.Below.{all_below, first_below, count_below}
use Rattle.prelude.specs.Laws.Below.{First, all_elim, all_intro, first_elim, first_some, first_hit, first_none, first_past, count_none, count_past}
pub use Rattle.machine.proofs.Kept.Laws.{decide}
use Rattle.machine.proofs.Kept.Consequences.{count_passed}
use Rattle.prelude.specs.Cases.{if◌then◌otherwise◌, maybe}
use Rattle.prelude.specs.Laws.Cases.{split_maybe}

-- nothing is found where none passes
pub first_missing : (t : ℕ → Bool) (n : ℕ) → ((k : ℕ) → k < n → t k ≡ false) → first_below t n ≡ None
first_missing t n h = first_past t 0 n (omega arith) (λ k _ l. h k l) ∙ first_none t

-- a count in two parts
pub count_split : (t : ℕ → Bool) (m n : ℕ) → count_below t (m + n) ≡ count_below t m + count_below (λ k. t (m + k)) n
unfolding count_below
count_split t m zero = let e : m + 0 ≡ m = omega arith in ap (count_below t) e ∙ (let z : count_below t m ≡ count_below t m + 0 = omega arith in z)
count_split t m (suc n) =
    let e : m + suc n ≡ suc (m + n) = omega arith in
    ap (count_below t) e
    ∙ ap (λ (k : ℕ). k + (if t (m + n) then 1 otherwise 0)) (count_split t m n)
    ∙ (let z : (count_below t m + count_below (λ k. t (m + k)) n) + (if t (m + n) then 1 otherwise 0) ≡ count_below t m + (count_below (λ k. t (m + k)) n + (if t (m + n) then 1 otherwise 0)) = omega arith in z)

-- where none passes
pub count_nothing : (t : ℕ → Bool) (n : ℕ) → ((k : ℕ) → k < n → t k ≡ false) → count_below t n ≡ 0
count_nothing t n h = count_past t 0 n (omega arith) (λ k _ l. h k l) ∙ count_none t

-- those behind m, if none of the first m passes
pub count_behind : (t : ℕ → Bool) (m n : ℕ) → ((k : ℕ) → k < m → t k ≡ false) → count_below t (m + n) ≡ count_below (λ k. t (m + k)) n
count_behind t m n h = let z : count_below t m ≡ 0 = count_nothing t m h in count_split t m n ∙ (let e : count_below t m + count_below (λ k. t (m + k)) n ≡ count_below (λ k. t (m + k)) n = omega arith in e)

-- the number of that rank
pub record Source (p : ℕ → Bool) (n k : ℕ) : Type 0 where
  pub at : ℕ
  pub below : at < n
  pub passes : p at ≡ true
  pub rank : count_below p at ≡ k

module _ (p : ℕ → Bool) where
  pub rank_hit : (i : ℕ) → p i ≡ true → count_below p (suc i) ≡ count_below p i + 1
  unfolding count_below if◌then◌otherwise◌
  rank_hit i h = rw h

  pub rank_pass : (i : ℕ) → p i ≡ false → count_below p (suc i) ≡ count_below p i
  unfolding count_below if◌then◌otherwise◌
  rank_pass i h = rw h (omega arith)

  rank_step : (i : ℕ) → count_below p i ≤ count_below p (suc i)
  rank_step i = decide (p i) (λ e. omega (arith, rank_hit i e)) (λ e. omega (arith, rank_pass i e))

  pub rank_most : (i n : ℕ) → i ≤ n → count_below p i ≤ count_below p n
  rank_most i zero h = let z : i ≡ 0 = omega arith in subst (λ (k : ℕ). count_below p k ≤ count_below p 0) (sym z) (omega arith)
  rank_most i (suc n) h =
      ⊎_elim (λ e. subst (λ (k : ℕ). count_below p k ≤ count_below p (suc n)) (sym e) (omega arith))
      (λ l. let s : count_below p i ≤ count_below p n = rank_most i n (le_of_suc-le-suc l) in omega (arith, rank_step n))
      (eq-or-lt_of_le h)

  pub rank_below : (i n : ℕ) → i < n → p i ≡ true → count_below p i < count_below p n
  rank_below i n h e = count_passed p i n h e

  -- and back
  pub below_rank : (i n : ℕ) → count_below p i < count_below p n → i < n
  below_rank i n h = ⊎_elim (λ l. l) (λ l. let s : count_below p n ≤ count_below p i = rank_most n i l in absurd (omega arith)) (cases_lt i n)

  pub rank_injective : (i j : ℕ) → p i ≡ true → p j ≡ true → count_below p i ≡ count_below p j → i ≡ j
  rank_injective i j a b e =
      ⊎_elim (λ l. let s : count_below p i < count_below p j = rank_below i j l a in absurd (omega arith))
      (λ l. ⊎_elim (λ m. let s : count_below p j < count_below p i = rank_below j i m b in absurd (omega arith)) (λ m. omega arith) (cases_lt j i))
      (cases_lt i j)

  -- each number below the count is a rank
  pub source : (n k : ℕ) → k < count_below p n → Source p n k
  unfolding count_below
  source zero k h = absurd (not-suc-le-zero h)
  source (suc n) k h = decide (p n) (λ e. hit e (source n k) (ℕ_discrete k (count_below p n)) (subst (λ (m : ℕ). k < m) (rank_hit n e) h)) (λ e. more (source n k (subst (λ (m : ℕ). k < m) (rank_pass n e) h)))
    where
      more : Source p n k → Source p (suc n) k
      more s = record { at = s.at; below = omega (arith, s.below); passes = s.passes; rank = s.rank }

      hit : p n ≡ true → (k < count_below p n → Source p n k) → Dec (k ≡ count_below p n) → k < count_below p n + 1 → Source p (suc n) k
      hit e r (yes q) l = record { at = n; below = omega arith; passes = e; rank = sym q }
      hit e r (no q) l = more (r (omega arith))

  -- ---- loops over ranks

  module _ (n : ℕ) (t u : ℕ → Bool) (same : (j : ℕ) → j < n → p j ≡ true → t (count_below p j) ≡ u j) where
    pub all_ranks : all_below t (count_below p n) ≡ true → (j : ℕ) → j < n → p j ≡ true → u j ≡ true
    all_ranks a j h e = sym (same j h e) ∙ all_elim t (count_below p n) a (count_below p j) (rank_below j n h e)

    pub ranks_all : ((j : ℕ) → j < n → p j ≡ true → u j ≡ true) → all_below t (count_below p n) ≡ true
    ranks_all a = all_intro t (count_below p n) go
      where
        go : (k : ℕ) → k < count_below p n → t k ≡ true
        go k h =
            let s : Source p n k = source n k h in
            ap t (sym s.rank) ∙ same s.at s.below s.passes ∙ a s.at s.below s.passes

  pub count_ranks : (n : ℕ) (t u : ℕ → Bool) → ((j : ℕ) → j < n → p j ≡ true → t (count_below p j) ≡ u j)
      → count_below t (count_below p n) ≡ count_below (λ j. p j && u j) n
  unfolding count_below if◌then◌otherwise◌
  count_ranks zero t u h = refl
  count_ranks (suc n) t u h = let less = count_ranks n t u (λ j l. h j (omega arith)) in decide (p n) (hit less) (miss less)
    where
      hit : count_below t (count_below p n) ≡ count_below (λ j. p j && u j) n → p n ≡ true
          → count_below t (count_below p (suc n)) ≡ count_below (λ j. p j && u j) n + (if p n && u n then 1 otherwise 0)
      hit less e =
          ap (count_below t) (rank_hit n e ∙ add-one (count_below p n))
          ∙ ap (λ (m : ℕ). m + (if t (count_below p n) then 1 otherwise 0)) less
          ∙ ap (λ (b : Bool). count_below (λ j. p j && u j) n + (if b then 1 otherwise 0)) (h n (omega arith) e ∙ ap (λ (b : Bool). b && u n) (sym e))

      miss : count_below t (count_below p n) ≡ count_below (λ j. p j && u j) n → p n ≡ false
          → count_below t (count_below p (suc n)) ≡ count_below (λ j. p j && u j) n + (if p n && u n then 1 otherwise 0)
      miss less e =
          ap (count_below t) (rank_pass n e) ∙ less
          ∙ (let z : count_below (λ j. p j && u j) n ≡ count_below (λ j. p j && u j) n + 0 = omega arith in z)
          ∙ ap (λ (b : Bool). count_below (λ j. p j && u j) n + (if b && u n then 1 otherwise 0)) (sym e)

  module _ (t u : ℕ → Bool) where
    none_ranks : (n : ℕ) → ((j : ℕ) → j < n → p j ≡ true → t (count_below p j) ≡ u j) → first_below (λ j. p j && u j) n ≡ None
        → first_below t (count_below p n) ≡ None
    none_ranks n h e = first_missing t (count_below p n) go
      where
        go : (k : ℕ) → k < count_below p n → t k ≡ false
        go k l =
            let s : Source p n k = source n k l in
            ap t (sym s.rank) ∙ h s.at s.below s.passes ∙ ap (λ (b : Bool). b && u s.at) (sym s.passes) ∙ first_elim (λ j. p j && u j) n e s.at s.below

    -- the first rank that passes t is that of the first number that passes p and u
    pub first_ranks : (n : ℕ) → ((j : ℕ) → j < n → p j ≡ true → t (count_below p j) ≡ u j)
        → first_below t (count_below p n) ≡ maybe None (λ j. Some (count_below p j)) (first_below (λ j. p j && u j) n)
    first_ranks n h = split_maybe (λ (o : Option ℕ). first_below t (count_below p n) ≡ o) (first_below (λ j. p j && u j) n) (none_ranks n h) found
      where
        found : (j : ℕ) → first_below (λ j. p j && u j) n ≡ Some j → first_below t (count_below p n) ≡ Some (count_below p j)
        found j e =
            let f : First (λ j. p j && u j) n j = first_some (λ j. p j && u j) n j e in
            let (a, b) = and_parts (p j) (u j) f.passes in
            first_hit t (count_below p n) (count_below p j) (rank_below j n f.below a) (none_ranks j (λ k l. h k (omega (arith, f.below))) f.least) (h j f.below a ∙ b)
