-- Laws of what a loop answers. A loop's invariant is `all_below p i ≡ true` or `first_below p i ≡ None`, and four laws carry it: at the
-- start, one more, a miss or a hit, and done. Rests on Below and the laws of Cases.
use Rattle.std.specs.Prelude.{◌≡◌, Bool, true, ◌&&◌, List, eqb, length, get_or, set, Option, None, Some, refl, false, ℕ, zero, suc, ◌+◌, ◌≤◌, ◌<◌}
use Rattle.std.proofs.Common.{ap, subst, sym, ◌∙◌, not-suc-le-zero, eq-or-lt_of_le, le_of_suc-le-suc, add-one, eq-eqb, ne_eqb, le-leb, get_or-set_same, get_or-set_other, ⊎_elim, arith}
use Rattle.std.proofs.Math.Bool.{and-false}
use Rattle.std.proofs.Math.Decide.{ℕ_discrete, dec_lt}
use Rattle.std.proofs.lemmas.Bool.{lt-leb, and_parts}
use Rattle.std.specs.Cmp.{both_ways}
use Rattle.prelude.specs.Cases.{if◌then◌otherwise◌, maybe}
use Rattle.prelude.specs.Laws.Cases.{split_if}
use Rattle.prelude.specs.Below.{all_below, first_below, count_below, until}

module _ (p : ℕ → Bool) where
  pub all_none : all_below p 0 ≡ true
  unfolding all_below
  all_none = refl

  pub all_more : (i : ℕ) → all_below p i ≡ true → p i ≡ true → all_below p (i + 1) ≡ true
  unfolding all_below
  all_more i a h = rw (add-one, a, h)

  pub all_miss : (n i : ℕ) → i < n → p i ≡ false → all_below p n ≡ false
  unfolding all_below
  all_miss zero i l h = absurd (not-suc-le-zero l)
  all_miss (suc n) i l h =
      ⊎_elim
      (λ e. ap (λ (b : Bool). all_below p n && b) (ap p (sym e) ∙ h) ∙ and-false (all_below p n))
      (λ k. ap (λ (a : Bool). a && p n) (all_miss n i k h))
      (eq-or-lt_of_le (le_of_suc-le-suc l))

  pub all_done : (n i : ℕ) → all_below p i ≡ true → i ≤ n → n ≤ i → all_below p n ≡ true
  all_done n i a l h = let e : i ≡ n = omega arith in subst (λ (k : ℕ). all_below p k ≡ true) e a

  pub all_elim : (n : ℕ) → all_below p n ≡ true → (k : ℕ) → k < n → p k ≡ true
  unfolding all_below
  all_elim zero a k l = absurd (not-suc-le-zero l)
  all_elim (suc n) a k l =
      let s : (all_below p n ≡ true) × (p n ≡ true) = and_parts (all_below p n) (p n) a in
      ⊎_elim (λ e. ap p e ∙ s.1) (λ h. all_elim n s.0 k h) (eq-or-lt_of_le (le_of_suc-le-suc l))

  pub all_intro : (n : ℕ) → ((k : ℕ) → k < n → p k ≡ true) → all_below p n ≡ true
  unfolding all_below
  all_intro zero h = refl
  all_intro (suc n) h = rw (all_intro n (λ k l. h k (omega arith)), h n (omega arith))

  pub first_none : first_below p 0 ≡ None
  unfolding first_below
  first_none = refl

  pub first_more : (i : ℕ) → first_below p i ≡ None → p i ≡ false → first_below p (i + 1) ≡ None
  unfolding first_below maybe if◌then◌otherwise◌
  first_more i a h = rw (add-one, a, h)

  pub first_hit : (n i : ℕ) → i < n → first_below p i ≡ None → p i ≡ true → first_below p n ≡ Some i
  unfolding first_below maybe if◌then◌otherwise◌
  first_hit zero i l a h = absurd (not-suc-le-zero l)
  first_hit (suc n) i l a h =
      ⊎_elim
      (λ e. subst (λ (m : ℕ). maybe (if p m then Some m otherwise None) Some (first_below p m) ≡ Some i) e (rw (a, h)))
      (λ k. ap (maybe (if p n then Some n otherwise None) Some) (first_hit n i k a h))
      (eq-or-lt_of_le (le_of_suc-le-suc l))

  pub first_done : (n i : ℕ) → first_below p i ≡ None → i ≤ n → n ≤ i → first_below p n ≡ None
  first_done n i a l h = let e : i ≡ n = omega arith in subst (λ (k : ℕ). first_below p k ≡ None) e a

-- nothing was found among n + 1, so nothing among n, and n does not pass
rest_none : (o : Option ℕ) (b : Bool) (n : ℕ) → maybe (if b then Some n otherwise None) Some o ≡ None → (o ≡ None) × (b ≡ false)
unfolding maybe if◌then◌otherwise◌
rest_none None false n e = (refl, refl)
rest_none None true n e = let z : ◌≡◌ {A = ℕ} 0 1 = cc in absurd (omega arith)
rest_none (Some k) b n e = let z : ◌≡◌ {A = ℕ} 0 1 = cc in absurd (omega arith)

pub first_elim : (p : ℕ → Bool) (n : ℕ) → first_below p n ≡ None → (k : ℕ) → k < n → p k ≡ false
unfolding first_below
first_elim p zero a k l = absurd (not-suc-le-zero l)
first_elim p (suc n) a k l =
    let s : (first_below p n ≡ None) × (p n ≡ false) = rest_none (first_below p n) (p n) n a in
    ⊎_elim (λ e. ap p e ∙ s.1) (λ h. first_elim p n s.0 k h) (eq-or-lt_of_le (le_of_suc-le-suc l))

-- what was found is below n, passes, and nothing before it does
pub record First (p : ℕ → Bool) (n i : ℕ) : Type 0 where
  pub below : i < n
  pub passes : p i ≡ true
  pub least : first_below p i ≡ None

rest_some : (p : ℕ → Bool) (n i : ℕ) (o : Option ℕ) (b : Bool) → first_below p n ≡ o → p n ≡ b → (o ≡ Some i → First p n i)
    → maybe (if b then Some n otherwise None) Some o ≡ Some i → First p (suc n) i
unfolding maybe if◌then◌otherwise◌
rest_some p n i None true f q k e =
    let s : n ≡ i = cc in subst (λ (m : ℕ). First p (suc n) m) s (record { below = omega arith; passes = q; least = f })
rest_some p n i None false f q k e = let z : ◌≡◌ {A = ℕ} 0 1 = cc in absurd (omega arith)
rest_some p n i (Some j) b f q k e =
    let h : First p n i = k e in
    record { below = omega (arith, h.below); passes = h.passes; least = h.least }

pub first_some : (p : ℕ → Bool) (n i : ℕ) → first_below p n ≡ Some i → First p n i
unfolding first_below
first_some p zero i e = let z : ◌≡◌ {A = ℕ} 0 1 = cc in absurd (omega arith)
first_some p (suc n) i e = rest_some p n i (first_below p n) (p n) refl refl (λ h. first_some p n i h) e

module _ (p : ℕ → Bool) where
  pub count_none : count_below p 0 ≡ 0
  unfolding count_below
  count_none = refl

  pub count_hit : (i : ℕ) → p i ≡ true → count_below p (i + 1) ≡ count_below p i + 1
  unfolding count_below if◌then◌otherwise◌
  count_hit i h = rw (add-one i, h)

  pub count_pass : (i : ℕ) → p i ≡ false → count_below p (i + 1) ≡ count_below p i
  unfolding count_below if◌then◌otherwise◌
  count_pass i h = rw (add-one i, h) (omega arith)

  pub count_le : (n : ℕ) → count_below p n ≤ n
  unfolding count_below
  count_le zero = omega arith
  count_le (suc n) = split_if (λ x. count_below p n + x ≤ suc n) (p n) (λ e. omega (arith, count_le n)) (λ e. omega (arith, count_le n))

-- ---- tests that agree below n

module _ (p q : ℕ → Bool) where
  pub all_ext : (n : ℕ) → ((k : ℕ) → k < n → p k ≡ q k) → all_below p n ≡ all_below q n
  unfolding all_below
  all_ext zero h = refl
  all_ext (suc n) h = rw (all_ext n (λ k l. h k (omega arith)), h n (omega arith))

  pub first_ext : (n : ℕ) → ((k : ℕ) → k < n → p k ≡ q k) → first_below p n ≡ first_below q n
  unfolding first_below
  first_ext zero h = refl
  first_ext (suc n) h = rw (first_ext n (λ k l. h k (omega arith)), h n (omega arith))

  pub count_ext : (n : ℕ) → ((k : ℕ) → k < n → p k ≡ q k) → count_below p n ≡ count_below q n
  unfolding count_below
  count_ext zero h = refl
  count_ext (suc n) h = rw (count_ext n (λ k l. h k (omega arith)), h n (omega arith))

-- ---- a longer range whose rest does not pass

module _ (p : ℕ → Bool) (n : ℕ) where
  pub first_past : (m : ℕ) → n ≤ m → ((k : ℕ) → n ≤ k → k < m → p k ≡ false) → first_below p m ≡ first_below p n
  unfolding first_below
  first_past zero l h = let z : 0 ≡ n = omega arith in ap (first_below p) z
  first_past (suc m) l h =
      ⊎_elim (λ e. ap (first_below p) (sym e))
      (λ u. miss (first_below p m) (p m) (h m (le_of_suc-le-suc u) (omega arith)) ∙ first_past m (le_of_suc-le-suc u) (λ k a b. h k a (omega arith)))
      (eq-or-lt_of_le l)
    where
      miss : (o : Option ℕ) (a : Bool) → a ≡ false → maybe (if a then Some m otherwise None) Some o ≡ o
      miss None a e = unfold maybe if◌then◌otherwise◌ in rw e
      miss (Some k) a e = unfold maybe in refl

  pub count_past : (m : ℕ) → n ≤ m → ((k : ℕ) → n ≤ k → k < m → p k ≡ false) → count_below p m ≡ count_below p n
  unfolding count_below
  count_past zero l h = let z : 0 ≡ n = omega arith in ap (count_below p) z
  count_past (suc m) l h =
      ⊎_elim (λ e. ap (count_below p) (sym e))
      (λ u. miss (count_below p m) (p m) (h m (le_of_suc-le-suc u) (omega arith)) ∙ count_past m (le_of_suc-le-suc u) (λ k a b. h k a (omega arith)))
      (eq-or-lt_of_le l)
    where
      miss : (c : ℕ) (a : Bool) → a ≡ false → c + (if a then 1 otherwise 0) ≡ c
      miss c a e = unfold if◌then◌otherwise◌ in rw e (omega arith)

-- ---- tests that hold of all

both_swap : (a b c d : Bool) → (a && b) && (c && d) ≡ (a && c) && (b && d)
both_swap a b c d = grind arith

pub all_both : (p q : ℕ → Bool) (n : ℕ) → all_below (λ k. p k && q k) n ≡ all_below p n && all_below q n
unfolding all_below
all_both p q zero = refl
all_both p q (suc n) = ap (λ (v : Bool). v && (p n && q n)) (all_both p q n) ∙ both_swap (all_below p n) (all_below q n) (p n) (q n)

pub all_step : (p : ℕ → Bool) (k : ℕ) → all_below p (k + 1) ≡ all_below p k && p k
unfolding all_below
all_step p k = rw add-one

pub all_until : (n : ℕ) (p : ℕ → Bool) (m : ℕ) → n ≤ m → all_below (until n p) m ≡ all_below p n
all_until n p m h =
    both_ways (all_below (until n p) m) (all_below p n)
    (λ e. all_intro p n (λ k l. rw (lt-leb n k l) at (all_elim (until n p) m e k (omega arith))))
    (λ e. all_intro (until n p) m (λ k l. go e k (dec_lt k n)))
  where
    go : all_below p n ≡ true → (k : ℕ) → Dec (k < n) → until n p k ≡ true
    go e k (yes l) = rw (lt-leb n k l) (all_elim p n e k l)
    go e k (no l) = rw (le-leb n k (omega arith))

-- ---- counters: how many below j a function sends to each number

pub count_next : (f : ℕ → ℕ) (next : List ℕ) (size j o : ℕ) → o < length next → f j ≡ o
    → ((q : ℕ) → q < size → get_or next q 0 ≡ count_below (λ k. eqb (f k) q) j)
    → (q : ℕ) → q < size → get_or (set next o (get_or next o 0 + 1)) q 0 ≡ count_below (λ k. eqb (f k) q) (j + 1)
count_next f next size j o l e m q h = go (ℕ_discrete o q)
  where
    go : Dec (o ≡ q) → get_or (set next o (get_or next o 0 + 1)) q 0 ≡ count_below (λ k. eqb (f k) q) (j + 1)
    go (yes w) =
        ap (λ (x : ℕ). get_or (set next o (get_or next o 0 + 1)) x 0) (sym w)
        ∙ get_or-set_same next o (get_or next o 0 + 1) 0 l
        ∙ ap (λ (x : ℕ). x + 1) (ap (λ (x : ℕ). get_or next x 0) w ∙ m q h)
        ∙ sym (count_hit (λ k. eqb (f k) q) j (eq-eqb _ _ (e ∙ w)))
    go (no w) =
        get_or-set_other next o q (get_or next o 0 + 1) 0 (λ z. w (sym z))
        ∙ m q h
        ∙ sym (count_pass (λ k. eqb (f k) q) j (ne_eqb _ _ (λ z. w (sym e ∙ z))))
