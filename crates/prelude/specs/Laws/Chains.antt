-- What a chain over a range answers in our words: std's `all` and `find` are Below's. Rests on Below.
use Rattle.std.specs.Prelude.{◌≡◌, ℕ, zero, suc, ◌+◌, Bool, true, false, ◌&&◌, List, [], ◌∷◌, ◌++◌, Option, None, Some, cond, refl}
use Rattle.std.proofs.Common.{sym, ap, ◌∙◌, arith}
use Rattle.std.proofs.Math.Bool.{and-true}
use Rattle.std.proofs.lemmas.List.Folds.{list_all-append, find-append}
use Rattle.std.specs.Option.{option_or}
use Rattle.std.specs.List.{list_all, find, range_with_len}
use Rattle.prelude.specs.Cases.{if◌then◌otherwise◌, maybe}
use Rattle.prelude.specs.Below.{all_below, first_below}

-- a range, one longer at its end
pub range_more : (a n : ℕ) → range_with_len a (suc n) ≡ range_with_len a n ++ ((a + n) ∷ [])
range_more a zero = ap (λ k. k ∷ []) (sym (let z : a + 0 ≡ a = omega arith in z))
range_more a (suc n) =
    let e : a + 1 + n ≡ a + suc n = omega arith in
    ap (λ r. a ∷ r) (range_more (a + 1) n ∙ ap (λ k. range_with_len (a + 1) n ++ (k ∷ [])) e)

all_append : (p : ℕ → Bool) (xs : List ℕ) (y : ℕ) → list_all p (xs ++ (y ∷ [])) ≡ list_all p xs && p y
all_append p xs y = list_all-append p xs (y ∷ []) ∙ ap (λ b. list_all p xs && b) (and-true (p y))

pub all_range : (p : ℕ → Bool) (n : ℕ) → list_all p (range_with_len 0 n) ≡ all_below p n
unfolding all_below
all_range p zero = refl
all_range p (suc n) = ap (list_all p) (range_more 0 n) ∙ all_append p (range_with_len 0 n) (0 + n) ∙ (let e : 0 + n ≡ n = omega arith in rw (e, all_range p n) refl)

find_append : (p : ℕ → Bool) (xs : List ℕ) (y : ℕ) → find p (xs ++ (y ∷ [])) ≡ maybe (if p y then Some y otherwise None) Some (find p xs)
unfolding maybe if◌then◌otherwise◌
find_append p xs y = find-append p xs (y ∷ []) ∙ go (find p xs) (p y)
  where
    go : (o : Option ℕ) (b : Bool) → option_or o (cond b (Some y) None) ≡ maybe (if b then Some y otherwise None) Some o
    go None true = refl
    go None false = refl
    go (Some k) b = refl

pub find_range : (p : ℕ → Bool) (n : ℕ) → find p (range_with_len 0 n) ≡ first_below p n
unfolding first_below
find_range p zero = refl
find_range p (suc n) = ap (find p) (range_more 0 n) ∙ find_append p (range_with_len 0 n) (0 + n) ∙ (let e : 0 + n ≡ n = omega arith in rw (e, find_range p n) refl)
