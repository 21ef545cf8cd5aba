-- Zeros, and a row of lists of bytes. Rests on Number.
use Rattle.std.specs.Prelude.{List, [], ◌∷◌, ℕ, replicate}
use Rattle.prelude.specs.Number.{Bytes}

abbrev pub zeros : ℕ → List ℕ
zeros n = replicate n 0

abbrev pub AllBytes : List (List ℕ) → Type 0
AllBytes [] = Unit {0}
AllBytes (p ∷ ps) = Bytes p × AllBytes ps
