-- An order's next downstream ClOrdID is no request's yet. Rests on Ruled and the laws of numbered texts.
use Rattle.std.proofs.Common.{ℕ, zero, suc, ◌+◌, ◌≤◌, ◌<◌, eq-or-lt_of_le, le_of_suc-le-suc, arith, ◌≡◌, refl, ap, subst, ◌⊎◌, inl, inr, ⊎_elim, Bool, true, false, Option, None, Some, eqb, length, eqb-true, eq-eqb}
use Rattle.std.proofs.lemmas.Bool.{eqb-false, cases_Bool}
use Rattle.prelude.specs.Below.{count_below}
use Rattle.prelude.specs.Laws.Below.{count_hit, count_le}
use Rattle.prelude.specs.Laws.Cases.{clash, if_true, if_false}
use Rattle.prelude.specs.Texts.{same_text}
use Rattle.prelude.specs.Laws.Texts.{same_back, same_trans}
use Rattle.prelude.specs.declared.Text.{Text}
use Rattle.text.specs.Numbered.{numbered_text}
use Rattle.store.specs.Book.{Book, order_in, request_in}
use Rattle.machine.specs.Changes.{next_number, next_downstream}
use Rattle.store.specs.Finds.{find_downstream}
use Rattle.machine.specs.Ranges.{name_range}
use Rattle.machine.specs.Rules.{amendments_rule, name_number, number_in, of_order}
use Rattle.machine.proofs.Kept.Local.{one_more_lem}
use Rattle.machine.proofs.Claim.Ruled.{Ruled, one_name, order_ruled, request_ruled}
use Rattle.machine.proofs.Claim.Walk.{found_request, found_text}
use Rattle.machine.proofs.Numbered.{NumberedLaws}

-- ---- counting below

module _ (p : ℕ → Bool) where
  count_mono : (n k : ℕ) → k ≤ n → count_below p k ≤ count_below p n
  unfolding count_below
  count_mono zero k l = let z : k ≡ 0 = omega arith in rw z (omega arith)
  count_mono (suc n) k l =
      ⊎_elim (λ e. rw e (omega arith)) (λ h. let m : count_below p k ≤ count_below p n = count_mono n k (le_of_suc-le-suc h) in omega arith) (eq-or-lt_of_le l)

  -- one that passes is not yet counted below itself
  count_below_lem : (n k : ℕ) → k < n → p k ≡ true → count_below p k < count_below p n
  count_below_lem n k l h = let m : count_below p (k + 1) ≤ count_below p n = count_mono n (k + 1) (omega arith) in omega (arith, count_hit p k h)

-- ---- the next number

next_text : (b : Book) (i : ℕ) → (order_in b i).links.amendments < 65535 → next_downstream (order_in b i) ≡ numbered_text (order_in b i).names.name ((order_in b i).links.amendments + 1)
unfolding next_downstream next_number
next_text b i h = ap (numbered_text (order_in b i).names.name) (one_more_lem 65535 _ h)

counted : (b : Book) (i a : ℕ) → amendments_rule i a b.requests ≡ true → a + 1 ≡ count_below (of_order b.requests i) (length b.requests)
unfolding amendments_rule
counted b i a e = eqb-true (a + 1) _ e

-- the number of a request is at most its order's amendments
numbered_below : (b : Book) (k a : ℕ) → k < length b.requests → amendments_rule (request_in b k).order a b.requests ≡ true → number_in b.requests k ≤ a
unfolding number_in
numbered_below b k a l e =
    let z = counted b (request_in b k).order a e in
    let w = count_below_lem (of_order b.requests (request_in b k).order) (length b.requests) k l (eq-eqb (request_in b k).order _ refl) in
    omega arith

pub number_small : (b : Book) (k : ℕ) → number_in b.requests k ≤ k
unfolding number_in
number_small b k = count_le (of_order b.requests (request_in b k).order) k

pub named_zero : (t : Text) (n : ℕ) → eqb n 0 ≡ true → name_number t n ≡ t
unfolding name_number
named_zero t n e = if_true _ _ _ e

pub named_more : (t : Text) (n : ℕ) → eqb n 0 ≡ false → name_number t n ≡ numbered_text t n
unfolding name_number
named_more t n e = if_false _ _ _ e

pub above_zero : (n : ℕ) → eqb n 0 ≡ false → 0 < n
above_zero n e = let z : (n ≡ 0 → ⊥) = eqb-false n 0 e in omega arith

module _ (laws : NumberedLaws) (b : Book) (r : Ruled b) (i : ℕ) (h : i < length b.orders) (room : length b.requests < 256) where
  taken : (k : ℕ) → find_downstream b (next_downstream (order_in b i)) ≡ Some k → ⊥
  taken k w =
      let l : k < length b.requests = found_request b (next_downstream (order_in b i)) k w in
      let o = order_ruled b r i h in
      let q = request_ruled b r k l in
      let o' = order_ruled b r (request_in b k).order q.placed in
      let a : ℕ = (order_in b i).links.amendments in
      let small : a + 1 ≤ 255 = (let z = counted b i a o.amendments in omega (arith, count_le (of_order b.requests i) (length b.requests))) in
      let n : ℕ = number_in b.requests k in
      let least : n ≤ 255 = omega (arith, number_small b k) in
      let same : same_text (name_number (order_in b (request_in b k).order).names.name n) (numbered_text (order_in b i).names.name (a + 1)) ≡ true =
      same_trans _ (request_in b k).downstream _ (same_back _ _ q.numbered)
      (subst (λ (t : Text). same_text (request_in b k).downstream t ≡ true) (next_text b i (omega arith)) (found_text b (next_downstream (order_in b i)) k w)) in
      go o.named o'.named (numbered_below b k _ l o'.amendments) q.placed small least same (cases_Bool (eqb n 0))
    where
      go : name_range (order_in b i).names.name ≡ true → name_range (order_in b (request_in b k).order).names.name ≡ true
          → number_in b.requests k ≤ (order_in b (request_in b k).order).links.amendments → (request_in b k).order < length b.orders
          → (order_in b i).links.amendments + 1 ≤ 255 → number_in b.requests k ≤ 255
          → same_text (name_number (order_in b (request_in b k).order).names.name (number_in b.requests k)) (numbered_text (order_in b i).names.name ((order_in b i).links.amendments + 1)) ≡ true
          → (eqb (number_in b.requests k) 0 ≡ true) ⊎ (eqb (number_in b.requests k) 0 ≡ false) → ⊥
      go x y u p s t e (inl z) =
          clash _
          (same_back _ _ (subst (λ (d : Text). same_text d (numbered_text (order_in b i).names.name ((order_in b i).links.amendments + 1)) ≡ true) (named_zero _ _ z) e))
          (laws.dashed _ _ ((order_in b i).links.amendments + 1) x y (omega arith) s)
      go x y u p s t e (inr z) =
          let w = laws.apart _ _ (number_in b.requests k) ((order_in b i).links.amendments + 1) y x (above_zero _ z) t (omega arith) s
          (subst (λ (d : Text). same_text d (numbered_text (order_in b i).names.name ((order_in b i).links.amendments + 1)) ≡ true) (named_more _ _ z) e) in
          let v : (request_in b k).order ≡ i = one_name b r (request_in b k).order i p h w.0 in
          let a : (order_in b (request_in b k).order).links.amendments ≡ (order_in b i).links.amendments = ap (λ (j : ℕ). (order_in b j).links.amendments) v in
          omega (arith, w.1)

  pub fresh_text : find_downstream b (next_downstream (order_in b i)) ≡ None
  fresh_text = go (find_downstream b (next_downstream (order_in b i))) refl
    where
      go : (x : Option ℕ) → find_downstream b (next_downstream (order_in b i)) ≡ x → x ≡ None
      go None w = refl
      go (Some k) w = absurd (taken k w)
