-- Laws of the table. Rests on Format.
use Rattle.std.specs.Prelude.{ℕ, ◌≤◌, ◌<◌, ◌≡◌, refl, List, true, ◌||◌, get_or, eqb, leb, ltb}
use Rattle.std.proofs.Common.{ap, ⊎_elim, arith, eqb-true, leb-true, ltb-true}
use Rattle.std.proofs.Math.ListN.{get_or-eq_default}
use Rattle.std.proofs.lemmas.Bool.{and_parts, or_cases}
use Rattle.prelude.specs.Below.{all_below}
use Rattle.prelude.specs.Laws.Below.{all_elim}
use Rattle.format.specs.Codes.{within}
use Rattle.format.specs.Format.{Field, fields, size, range, is_kind}

pub kind_small : (k : ℕ) → is_kind k ≡ true → k < 21
unfolding is_kind
kind_small k e =
    ⊎_elim
    (λ p. omega (arith, leb-true k 9 (and_parts (leb 1 k) (leb k 9) p).1))
    (λ p. omega (arith, leb-true k 20 (and_parts (leb 16 k) (leb k 20) p).1))
    (or_cases (within 1 9 k) (within 16 20 k) e)

-- a list of constants is the table, computed for each of its places
pub at_each : (l : List ℕ) (f : ℕ → ℕ) (n : ℕ) → all_below (λ k. eqb (get_or l k 0) (f k)) n ≡ true → (k : ℕ) → k < n → get_or l k 0 ≡ f k
at_each l f n e k h = eqb-true (get_or l k 0) (f k) (all_elim (λ i. eqb (get_or l i 0) (f i)) n e k h)

-- a number takes at most 16 bytes
pub size_small : (b : ℕ) → b < 32 → (size b ≤ 255) × (size b < 255 → size b ≤ 16)
unfolding size fields all_below
size_small b h =
    let t : (leb (size b) 16 || eqb (size b) 255) ≡ true = all_elim (λ k. leb (size k) 16 || eqb (size k) 255) 32 refl b h in
    ⊎_elim
    (λ p. let q : size b ≤ 16 = leb-true (size b) 16 p in (omega arith, λ l. q))
    (λ p. let q : size b ≡ 255 = eqb-true (size b) 255 p in (omega arith, λ l. absurd (omega arith)))
    (or_cases (leb (size b) 16) (eqb (size b) 255) t)

-- there are seventeen ranges
pub range_small : (b : ℕ) → b < 32 → range b < 17
unfolding range fields all_below
range_small b h = ltb-true (range b) 17 (all_elim (λ k. ltb (range k) 17) 32 refl b h)

-- past the last field
pub size_out : (b : ℕ) → 32 ≤ b → size b ≡ 0
unfolding size fields
size_out b h = ap (λ (f : Field). f.size) (get_or-eq_default fields _ h)

pub range_out : (b : ℕ) → 32 ≤ b → range b ≡ 0
unfolding range fields
range_out b h = ap (λ (f : Field). f.range) (get_or-eq_default fields _ h)
