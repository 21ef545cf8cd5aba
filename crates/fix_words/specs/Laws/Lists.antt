-- Laws of Lists.
use Rattle.std.specs.Prelude.{ℕ, zero, suc, ◌<◌, ◌≡◌, refl, List, [], ◌∷◌, ◌++◌, Bool, true, false, ◌&&◌, eqb, nat_eq, length, get_or}
use Rattle.std.proofs.Common.{ap, ◌∙◌, arith, eqb-true, eq-eqb}
use Rattle.std.proofs.lemmas.Bool.{not-true, and_parts, and_from}
use Rattle.std.specs.List.{list_all}
use Rattle.std.specs.Cmp.Lexicographic.{pointwise}
use Rattle.prelude.specs.Laws.Cases.{if_true, if_false, clash}
use Rattle.fix_words.specs.Lists.{every, is_not, before, after, glue, pieces, same}

pub every_append : (p : ℕ → Bool) (s t : List ℕ) → every p s ≡ true → every p t ≡ true → every p (s ++ t) ≡ true
every_append p [] t a b = b
every_append p (c ∷ s) t a b =
    let h = and_parts (p c) (every p s) a in
    and_from (p c) (every p (s ++ t)) h.0 (every_append p s t h.1 b)

pub every_map : (p q : ℕ → Bool) → ((c : ℕ) → p c ≡ true → q c ≡ true) → (s : List ℕ) → every p s ≡ true → every q s ≡ true
every_map p q f [] a = refl
every_map p q f (c ∷ s) a =
    let h = and_parts (p c) (every p s) a in
    and_from (q c) (every q s) (f c h.0) (every_map p q f s h.1)

pub before_cut : (x : ℕ) (s t : List ℕ) → every (is_not x) s ≡ true → before x (s ++ (x ∷ t)) ≡ s
unfolding before
before_cut x [] t a = if_true (eqb x x) [] _ (eq-eqb x x refl)
before_cut x (c ∷ s) t a =
    let h = and_parts (is_not x c) (every (is_not x) s) a in
    if_false (eqb c x) [] _ (not-true _ h.0) ∙ ap (λ (l : List ℕ). c ∷ l) (before_cut x s t h.1)

pub after_cut : (x : ℕ) (s t : List ℕ) → every (is_not x) s ≡ true → after x (s ++ (x ∷ t)) ≡ t
unfolding after
after_cut x [] t a = if_true (eqb x x) t _ (eq-eqb x x refl)
after_cut x (c ∷ s) t a =
    let h = and_parts (is_not x c) (every (is_not x) s) a in
    if_false (eqb c x) (s ++ (x ∷ t)) _ (not-true _ h.0) ∙ after_cut x s t h.1

pub pieces_next : (x : ℕ) (v s : List ℕ) → every (is_not x) v ≡ true → pieces x (v ++ (x ∷ s)) ≡ v ∷ pieces x s
unfolding pieces
pieces_next x [] s a = if_true (eqb x x) _ _ (eq-eqb x x refl)
pieces_next x (c ∷ v) s a =
    let h = and_parts (is_not x c) (every (is_not x) v) a in
    if_false (eqb c x) _ (glue c (pieces x (v ++ (x ∷ s)))) (not-true _ h.0) ∙ ap (glue c) (pieces_next x v s h.1)

pub same_true : (s t : List ℕ) → same s t ≡ true → s ≡ t
same_true [] [] e = refl
same_true [] (y ∷ t) e = clash false e refl
same_true (x ∷ s) [] e = clash false e refl
same_true (x ∷ s) (y ∷ t) e =
    let h = and_parts (eqb x y) (same s t) e in
    λ i. eqb-true x y h.0 i ∷ same_true s t h.1 i

pub same_self : (s : List ℕ) → same s s ≡ true
same_self [] = refl
same_self (x ∷ s) = and_from (eqb x x) (same s s) (eq-eqb x x refl) (same_self s)

pub every_below : (p : ℕ → Bool) (c : List ℕ) → every p c ≡ true → (i : ℕ) → i < length c → p (get_or c i 0) ≡ true
every_below p [] e i h = absurd (omega arith)
every_below p (x ∷ c) e zero h = (and_parts (p x) (every p c) e).0
every_below p (x ∷ c) e (suc i) h = every_below p c (and_parts (p x) (every p c) e).1 i (omega arith)

pub below_every : (p : ℕ → Bool) (c : List ℕ) → ((i : ℕ) → i < length c → p (get_or c i 0) ≡ true) → every p c ≡ true
below_every p [] f = refl
below_every p (x ∷ c) f = and_from _ _ (f 0 (omega arith)) (below_every p c (λ i h. f (suc i) (omega arith)))

-- std's tests of a slice are ours
pub every_list : (p : ℕ → Bool) (s : List ℕ) → list_all p s ≡ every p s
every_list p [] = refl
every_list p (c ∷ s) = ap (λ b. p c && b) (every_list p s)

pub same_list : (s t : List ℕ) → pointwise nat_eq s t ≡ same s t
same_list [] [] = refl
same_list [] (y ∷ t) = refl
same_list (x ∷ s) [] = refl
same_list (x ∷ s) (y ∷ t) = ap (λ b. nat_eq x y && b) (same_list s t)
