-- Laws of code lists and names: a list as a map, a code is a byte, and the bytes at the front of a list. Rests on Codes.
use Rattle.std.specs.Prelude.{ℕ, zero, suc, ◌≤◌, ◌<◌, ◌≡◌, refl, List, [], ◌∷◌, ◌++◌, Bool, true, false, not, ◌&&◌, eqb, ltb, length, take, get_or}
use Rattle.std.proofs.Common.{ap, ◌∙◌, ⊎_elim, arith, eqb-true, ltb-true, take-suc}
use Rattle.std.proofs.Math.Bool.{and-true}
use Rattle.std.proofs.lemmas.Bool.{and_parts, or_cases}
use Rattle.std.specs.List.{list_all}
use Rattle.prelude.specs.Laws.Cases.{clash}
use Rattle.prelude.specs.Below.{all_below}
use Rattle.prelude.specs.Laws.Below.{all_elim}
use Rattle.format.specs.Codes.{listed, in_map}

-- ---- a list as a map

abbrev pub same : Bool → Bool → Bool
same true b = b
same false b = not b

same_true : (a b : Bool) → same a b ≡ true → a ≡ b
same_true true true e = refl
same_true true false e = clash false e refl
same_true false true e = clash false e refl
same_true false false e = refl

-- what is computed for every byte holds of every byte
pub agree : (m : ℕ) (cs : List ℕ) → all_below (λ v. same (in_map m v) (listed v cs)) 256 ≡ true → (v : ℕ) → v < 256 → in_map m v ≡ listed v cs
agree m cs e v h = same_true (in_map m v) (listed v cs) (all_elim (λ k. same (in_map m k) (listed k cs)) 256 e v h)

-- ---- codes

-- a code is a byte
abbrev pub small : List ℕ → Bool
small [] = true
small (c ∷ cs) = ltb c 256 && small cs

pub listed_small : (v : ℕ) (cs : List ℕ) → small cs ≡ true → listed v cs ≡ true → v < 256
listed_small v [] s e = clash false e refl
listed_small v (c ∷ cs) s e =
    let p = and_parts (ltb c 256) (small cs) s in
    ⊎_elim
    (λ q. let z : v ≡ c = eqb-true v c q in omega (arith, ltb-true c 256 p.0))
    (λ q. listed_small v cs p.1 q)
    (or_cases (eqb v c) (listed v cs) e)

-- ---- the bytes at the front of a list

and_assoc : (a b c : Bool) → a && (b && c) ≡ a && b && c
and_assoc true b c = refl
and_assoc false b c = refl

all_append : (p : ℕ → Bool) (xs : List ℕ) (y : ℕ) → list_all p (xs ++ (y ∷ [])) ≡ list_all p xs && p y
all_append p [] y = and-true (p y)
all_append p (x ∷ xs) y = ap (λ b. p x && b) (all_append p xs y) ∙ and_assoc (p x) (list_all p xs) (p y)

pub all_front : (p : ℕ → Bool) (s : List ℕ) (n : ℕ) → n ≤ length s → list_all p (take n s) ≡ all_below (λ k. p (get_or s k 0)) n
unfolding all_below
all_front p s zero h = refl
all_front p s (suc n) h =
    ap (list_all p) (take-suc s n 0 h)
    ∙ all_append p (take n s) (get_or s n 0)
    ∙ ap (λ b. b && p (get_or s n 0)) (all_front p s n (omega arith))
