-- The tables: the order of a link, and lists of requests, what answering one and adding one leave as they were. Rests on Machine and Rules.
use Rattle.std.proofs.Common.{ℕ, ◌+◌, ◌-◌, ◌≤◌, ◌<◌, arith, ◌≡◌, refl, sym, ap, subst, ◌∙◌, Bool, true, not, ◌&&◌, ◌||◌, List, [], ◌∷◌, ◌++◌, eqb, leb, ltb, length, get_or, set, length-append, length-set, get_or-set_same, get_or-set_other, eqb-true, eq-eqb, ne_eqb, leb-true, le-leb, ltb-true, lt-ltb}
use Rattle.std.proofs.Math.Decide.{ℕ_discrete}
use Rattle.std.proofs.Math.ListN.{get_or-append}
use Rattle.std.proofs.Math.Seq.{get_or-append_seam}
use Rattle.std.proofs.lemmas.Bool.{eqb-false, and_parts, and_from, or_left, or_right, not_from_false, not_from_true}
use Rattle.prelude.specs.Below.{all_below, count_below}
use Rattle.prelude.specs.Laws.Below.{all_ext, all_miss, count_hit, count_pass, count_ext}
use Rattle.prelude.specs.Laws.Cases.{split_if, if_false}
use Rattle.prelude.specs.Texts.{same_text}
use Rattle.prelude.specs.declared.Text.{Text}
use Rattle.store.specs.declared.Request.{Request}
use Rattle.store.specs.Book.{Book, order_in, answered}
use Rattle.store.specs.Orders.{no_order}
use Rattle.store.specs.Requests.{no_request}
use Rattle.machine.specs.Orders.{is_empty}
use Rattle.machine.specs.Machine.{order_at_link, answer_link}
use Rattle.machine.specs.Rules.{linked, of_order, number_in, amendments_rule, bears_origin, origin_rule}

abbrev pub at : List Request → ℕ → Request
at qs j = get_or qs j no_request

-- the order of a link
pub at_link : (b : Book) (i : ℕ) → order_at_link b (i + 1) ≡ order_in b i
unfolding order_at_link
at_link b i =
    if_false _ no_order _ (ne_eqb (i + 1) 0 (λ z. omega arith)) ∙ (let z : i + 1 - 1 ≡ i = omega arith in ap (λ (j : ℕ). order_in b j) z)

-- ---- one answered

pub length_answer : (k v : ℕ) (qs : List Request) → length (answer_link k v qs) ≡ length qs
unfolding answer_link
length_answer k v qs = split_if (λ (l : List Request). length l ≡ length qs) (eqb k 0) (λ e. refl) (λ e. length-set qs (k - 1) _)

pub answer_case : (P : Request → Type 0) (k v : ℕ) (qs : List Request) (j : ℕ) → j < length qs → ((k ≡ j + 1 → ⊥) → P (at qs j))
    → (k ≡ j + 1 → P (answered v (at qs j))) → P (at (answer_link k v qs) j)
unfolding answer_link
answer_case P k v qs j h p a =
    split_if (λ (l : List Request). P (at l j)) (eqb k 0) (λ e. let z : k ≡ 0 = eqb-true k 0 e in p (λ q. omega arith))
    (λ e. go (ℕ_discrete j (k - 1)) (λ z. eqb-false k 0 e z))
  where
    go : Dec (j ≡ k - 1) → (k ≡ 0 → ⊥) → P (at (set qs (k - 1) (answered v (at qs (k - 1)))) j)
    go (yes q) n =
        subst (λ (i : ℕ). P (at (set qs i (answered v (at qs i))) j)) q
        (subst P (sym (get_or-set_same qs j (answered v (at qs j)) no_request h)) (a (omega arith)))
    go (no q) n = subst P (sym (get_or-set_other qs (k - 1) j (answered v (at qs (k - 1))) no_request q)) (p (λ z. q (omega arith)))

pub answer_order : (k v : ℕ) (qs : List Request) (j : ℕ) → j < length qs → (at (answer_link k v qs) j).order ≡ (at qs j).order
answer_order k v qs j h = answer_case (λ (q : Request). q.order ≡ (at qs j).order) k v qs j h (λ d. refl) (λ e. refl)

-- ---- one added

pub length_more : (qs : List Request) (x : Request) → length (qs ++ (x ∷ [])) ≡ length qs + 1
length_more qs x = length-append qs (x ∷ [])

pub more_old : (qs : List Request) (x : Request) (j : ℕ) → j < length qs → at (qs ++ (x ∷ [])) j ≡ at qs j
more_old qs x j h = get_or-append qs (x ∷ []) no_request j h

pub more_new : (qs : List Request) (x : Request) → at (qs ++ (x ∷ [])) (length qs) ≡ x
more_new qs x = get_or-append_seam qs x [] no_request

pub more_case : (P : ℕ → Request → Type 0) (qs : List Request) (x : Request) (j : ℕ) → j < length (qs ++ (x ∷ [])) → (j < length qs → P j (at qs j))
    → P (length qs) x → P j (at (qs ++ (x ∷ [])) j)
more_case P qs x j h p n = go (ℕ_discrete j (length qs)) (length_more qs x)
  where
    go : Dec (j ≡ length qs) → length (qs ++ (x ∷ [])) ≡ length qs + 1 → P j (at (qs ++ (x ∷ [])) j)
    go (yes e) l = subst (λ (k : ℕ). P k (at (qs ++ (x ∷ [])) k)) (sym e) (subst (P (length qs)) (sym (more_new qs x)) n)
    go (no e) l = let old : j < length qs = omega arith in subst (P j) (sym (more_old qs x j old)) (p old)

-- ---- the request of a link

pub record Linked (test : Request → Bool) (i link : ℕ) (qs : List Request) : Type 0 where
  pub above : 0 < link
  pub within : link ≤ length qs
  pub own : (at qs (link - 1)).order ≡ i
  pub passes : test (at qs (link - 1)) ≡ true

pub linked_at : (test : Request → Bool) (i link : ℕ) (qs : List Request) → linked test i link qs ≡ true → Linked test i link qs
unfolding linked
linked_at test i link qs e =
    let (e, r4) = and_parts _ (test (at qs (link - 1))) e in
    let (e, r3) = and_parts _ (eqb (at qs (link - 1)).order i) e in
    let (r1, r2) = and_parts (ltb 0 link) (leb link (length qs)) e in
    record { above = ltb-true 0 link r1; within = leb-true link (length qs) r2; own = eqb-true (at qs (link - 1)).order i r3; passes = r4 }

pub at_linked : (test : Request → Bool) (i link : ℕ) (qs : List Request) → Linked test i link qs → linked test i link qs ≡ true
unfolding linked
at_linked test i link qs l =
    and_from _ _ (and_from _ _ (and_from _ _ (lt-ltb 0 link l.above) (le-leb link (length qs) l.within)) (eq-eqb (at qs (link - 1)).order i l.own)) l.passes

module _ (test : Request → Bool) (i link : ℕ) (qs : List Request) where
  pub linked_answer : (k v : ℕ) → (k ≡ link → (q : Request) → test q ≡ true → test (answered v q) ≡ true) → linked test i link qs ≡ true
      → linked test i link (answer_link k v qs) ≡ true
  linked_answer k v f e =
      let l : Linked test i link qs = linked_at test i link qs e in
      let above : 0 < link = l.above in
      let within : link ≤ length qs = l.within in
      let h : link - 1 < length qs = omega arith in
      at_linked test i link (answer_link k v qs)
      (record {
        above = above;
        within = subst (λ (n : ℕ). link ≤ n) (sym (length_answer k v qs)) within;
        own = answer_order k v qs (link - 1) h ∙ l.own;
        passes = answer_case (λ (q : Request). test q ≡ true) k v qs (link - 1) h (λ d. l.passes) (λ z. f (omega arith) (at qs (link - 1)) l.passes);
      })

  pub linked_more : (x : Request) → linked test i link qs ≡ true → linked test i link (qs ++ (x ∷ [])) ≡ true
  linked_more x e =
      let l : Linked test i link qs = linked_at test i link qs e in
      let above : 0 < link = l.above in
      let within : link ≤ length qs = l.within in
      let same : at (qs ++ (x ∷ [])) (link - 1) ≡ at qs (link - 1) = more_old qs x (link - 1) (omega arith) in
      at_linked test i link (qs ++ (x ∷ []))
      (record {
        above = above;
        within = omega (arith, length_more qs x);
        own = ap (λ (q : Request). q.order) same ∙ l.own;
        passes = ap test same ∙ l.passes;
      })

-- the request that is added
pub linked_new : (test : Request → Bool) (i : ℕ) (qs : List Request) (x : Request) → x.order ≡ i → test x ≡ true → linked test i (length qs + 1) (qs ++ (x ∷ [])) ≡ true
linked_new test i qs x o t =
    let n : length qs + 1 - 1 ≡ length qs = omega arith in
    let same : at (qs ++ (x ∷ [])) (length qs + 1 - 1) ≡ x = ap (at (qs ++ (x ∷ []))) n ∙ more_new qs x in
    at_linked test i (length qs + 1) (qs ++ (x ∷ []))
    (record { above = omega arith; within = omega (arith, length_more qs x); own = ap (λ (q : Request). q.order) same ∙ o; passes = ap test same ∙ t })

-- ---- how many requests an order has

abbrev pub owned : ℕ → List Request → ℕ
owned i qs = count_below (of_order qs i) (length qs)

pub owned_answer : (i k v : ℕ) (qs : List Request) → owned i (answer_link k v qs) ≡ owned i qs
owned_answer i k v qs =
    ap (count_below (of_order (answer_link k v qs) i)) (length_answer k v qs)
    ∙ count_ext (of_order (answer_link k v qs) i) (of_order qs i) (length qs) (λ j h. ap (λ (n : ℕ). eqb n i) (answer_order k v qs j h))

-- how many there are among the old
owned_old : (i : ℕ) (qs : List Request) (x : Request) → count_below (of_order (qs ++ (x ∷ [])) i) (length qs) ≡ owned i qs
owned_old i qs x = count_ext (of_order (qs ++ (x ∷ [])) i) (of_order qs i) (length qs) (λ j h. ap (λ (q : Request). eqb q.order i) (more_old qs x j h))

pub owned_own : (i : ℕ) (qs : List Request) (x : Request) → x.order ≡ i → owned i (qs ++ (x ∷ [])) ≡ owned i qs + 1
owned_own i qs x e =
    ap (count_below (of_order (qs ++ (x ∷ [])) i)) (length_more qs x)
    ∙ count_hit (of_order (qs ++ (x ∷ [])) i) (length qs) (ap (λ (q : Request). eqb q.order i) (more_new qs x) ∙ eq-eqb x.order i e)
    ∙ ap (λ (n : ℕ). n + 1) (owned_old i qs x)

pub owned_other : (i : ℕ) (qs : List Request) (x : Request) → (x.order ≡ i → ⊥) → owned i (qs ++ (x ∷ [])) ≡ owned i qs
owned_other i qs x d =
    ap (count_below (of_order (qs ++ (x ∷ [])) i)) (length_more qs x)
    ∙ count_pass (of_order (qs ++ (x ∷ [])) i) (length qs) (ap (λ (q : Request). eqb q.order i) (more_new qs x) ∙ ne_eqb x.order i d)
    ∙ owned_old i qs x

-- an order's amendments are its requests less one
pub amendments_at : (i n : ℕ) (qs : List Request) → amendments_rule i n qs ≡ true → n + 1 ≡ owned i qs
unfolding amendments_rule
amendments_at i n qs e = eqb-true (n + 1) (owned i qs) e

pub at_amendments : (i n : ℕ) (qs : List Request) → n + 1 ≡ owned i qs → amendments_rule i n qs ≡ true
unfolding amendments_rule
at_amendments i n qs e = eq-eqb (n + 1) (owned i qs) e

-- ---- the number of a request goes by the orders of those up to it

pub number_same : (p q : List Request) (j : ℕ) → ((k : ℕ) → k ≤ j → (at p k).order ≡ (at q k).order) → number_in p j ≡ number_in q j
unfolding number_in
number_same p q j h =
    count_ext (of_order p (at p j).order) (of_order q (at q j).order) j
    (λ k l. ap (λ (n : ℕ). eqb n (at p j).order) (h k (omega arith)) ∙ ap (eqb (at q k).order) (h j (omega arith)))

-- ---- what a request's OrigClOrdID names goes by the orders and texts of those up to it

-- what stays of a request when it is answered
pub record Same (p q : Request) : Type 0 where
  pub order : p.order ≡ q.order
  pub clordid : p.clordid ≡ q.clordid
  pub origclordid : p.origclordid ≡ q.origclordid

pub origin_same : (p q : List Request) (k : ℕ) → ((j : ℕ) → j ≤ k → Same (at p j) (at q j)) → origin_rule p k ≡ origin_rule q k
unfolding origin_rule
origin_same p q k h =
    let own : Same (at p k) (at q k) = h k (omega arith) in
    ap (λ (t : Text). is_empty t || not (all_below (λ j. not (bears_origin p k j)) k)) own.origclordid
    ∙ ap (λ (x : Bool). is_empty (at q k).origclordid || not x)
    (all_ext (λ j. not (bears_origin p k j)) (λ j. not (bears_origin q k j)) k
    (λ j l. let s : Same (at p j) (at q j) = h j (omega arith) in ap not
    (ap (λ (n : ℕ). eqb n (at p k).order && same_text (at p j).clordid (at p k).origclordid) s.order
    ∙ ap (λ (n : ℕ). eqb (at q j).order n && same_text (at p j).clordid (at p k).origclordid) own.order
    ∙ ap (λ (t : Text). eqb (at q j).order (at q k).order && same_text t (at p k).origclordid) s.clordid
    ∙ ap (λ (t : Text). eqb (at q j).order (at q k).order && same_text (at q j).clordid t) own.origclordid)))

-- one that is numbered lower bears it
pub borne : (qs : List Request) (k j : ℕ) → j < k → bears_origin qs k j ≡ true → origin_rule qs k ≡ true
unfolding origin_rule
borne qs k j h e = or_right (is_empty (at qs k).origclordid) _ (not_from_false _ (all_miss (λ i. not (bears_origin qs k i)) k j h (not_from_true _ e)))

-- a request that is added without one, or with that of a request of its order
pub origin_none : (qs : List Request) (x : Request) → is_empty x.origclordid ≡ true → origin_rule (qs ++ (x ∷ [])) (length qs) ≡ true
unfolding origin_rule
origin_none qs x e = or_left _ _ (ap (λ (q : Request). is_empty q.origclordid) (more_new qs x) ∙ e)

pub origin_new : (qs : List Request) (x : Request) (j : ℕ) → j < length qs → (at qs j).order ≡ x.order → same_text (at qs j).clordid x.origclordid ≡ true
    → origin_rule (qs ++ (x ∷ [])) (length qs) ≡ true
origin_new qs x j h o t =
    borne (qs ++ (x ∷ [])) (length qs) j h
    (rw (more_new qs x, more_old qs x j h) (and_from _ _ (eq-eqb (at qs j).order x.order o) t))
