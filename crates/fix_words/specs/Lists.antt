-- Lists of bytes as a FIX message needs them: a test of every byte, a cut at a byte, equality as a test. Rests on prelude.
use Rattle.std.specs.Prelude.{ℕ, List, [], ◌∷◌, Bool, true, false, not, ◌&&◌, eqb, leb}
use Rattle.prelude.specs.Cases.{if◌then◌otherwise◌}

-- every byte passes
abbrev pub every : (ℕ → Bool) → List ℕ → Bool
every p [] = true
every p (c ∷ s) = p c && every p s

-- from 32 on
abbrev pub is_print : ℕ → Bool
is_print c = leb 32 c

-- it is not the byte x
abbrev pub is_not : ℕ → ℕ → Bool
is_not x c = not (eqb c x)

-- ---- a cut at the first byte x

unfoldable pub before : ℕ → List ℕ → List ℕ
before x [] = []
before x (c ∷ s) = if eqb c x then [] otherwise c ∷ before x s

unfoldable pub after : ℕ → List ℕ → List ℕ
after x [] = []
after x (c ∷ s) = if eqb c x then s otherwise after x s

-- ---- the pieces between bytes x

abbrev pub glue : ℕ → List (List ℕ) → List (List ℕ)
glue c [] = (c ∷ []) ∷ []
glue c (p ∷ ps) = (c ∷ p) ∷ ps

-- each piece is ended by x; what stands behind the last x is a piece too
unfoldable pub pieces : ℕ → List ℕ → List (List ℕ)
pieces x [] = []
pieces x (c ∷ s) = if eqb c x then [] ∷ pieces x s otherwise glue c (pieces x s)

-- ---- equality as a test

abbrev pub same : List ℕ → List ℕ → Bool
same [] [] = true
same [] (y ∷ t) = false
same (x ∷ s) [] = false
same (x ∷ s) (y ∷ t) = eqb x y && same s t
