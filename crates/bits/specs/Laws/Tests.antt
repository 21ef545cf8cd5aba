-- A law of tests by computing it for each of their combinations: a map's bits behind tests are then numbers. Rests on prelude.
use Rattle.std.specs.Prelude.{ℕ, zero, suc, ◌≡◌, Bool, true, false, ◌&&◌}
use Rattle.std.proofs.lemmas.Bool.{and_parts}

-- a test of n tests
abbrev pub Tests : ℕ → Type 0
Tests zero = Bool
Tests (suc n) = Bool → Tests n

abbrev pub passes : (n : ℕ) → Tests n → Bool
passes zero p = p
passes (suc n) p = passes n (p true) && passes n (p false)

abbrev pub Each : (n : ℕ) → Tests n → Type 0
Each zero p = p ≡ true
Each (suc n) p = (t : Bool) → Each n (p t)

pub each : (n : ℕ) (p : Tests n) → passes n p ≡ true → Each n p
each zero p e = e
each (suc n) p e =
    let (x, y) = and_parts (passes n (p true)) (passes n (p false)) e in
    elim [ true ↦ each n (p true) x | false ↦ each n (p false) y ]
