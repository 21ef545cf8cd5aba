-- A record as a row of pieces of fixed widths. Rests on Span.
use Rattle.std.specs.Prelude.{◌≡◌, List, [], ◌∷◌, ℕ, ◌+◌, length, take}
use Rattle.prelude.specs.Span.{splice}

abbrev pub total : List ℕ → ℕ
total [] = 0
total (w ∷ ws) = w + total ws

-- each piece has its width
abbrev pub Sized : List ℕ → List (List ℕ) → Type 0
Sized [] [] = Unit {0}
Sized [] (p ∷ ps) = ⊥
Sized (w ∷ ws) [] = ⊥
Sized (w ∷ ws) (p ∷ ps) = (length p ≡ w) × Sized ws ps

-- the pieces written one behind the other from index at
abbrev pub writes : List ℕ → ℕ → List ℕ → List (List ℕ) → List ℕ
writes s at [] ps = s
writes s at (w ∷ ws) [] = s
writes s at (w ∷ ws) (p ∷ ps) = writes (splice s at p) (at + w) ws ps

-- where piece k stands
abbrev pub offset : List ℕ → ℕ → ℕ
offset ws k = total (take k ws)
