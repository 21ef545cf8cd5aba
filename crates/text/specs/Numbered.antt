-- Numbered names: a name, a dash, and a number in decimal. Rests on Stored.
use Rattle.std.specs.Prelude.{List, [], ◌∷◌, ◌++◌, ℕ, zero, suc, ◌+◌, ◌/◌, ◌%◌, leb, ltb, length}
use Rattle.prelude.specs.Cases.{if◌then◌otherwise◌}
use Rattle.prelude.specs.Texts.{contents, text_of}
use Rattle.prelude.specs.declared.Text.{Text}
use Rattle.text.specs.Stored.{no_text}

-- ---- decimal

-- the digits of k, the highest first; f is as large as k or larger
unfoldable pub digits_of : ℕ → ℕ → List ℕ
digits_of zero k = (48 + k) ∷ []
digits_of (suc f) k = if ltb k 10 then (48 + k) ∷ [] otherwise digits_of f (k / 10) ++ ((48 + k % 10) ∷ [])

unfoldable pub decimal : ℕ → List ℕ
decimal k = digits_of k k

-- ---- THE NUMBERED NAME, or the empty text if it does not fit

abbrev pub numbered_bytes : Text → ℕ → List ℕ
numbered_bytes t k = contents t ++ (45 ∷ decimal k)

unfoldable pub numbered_text : Text → ℕ → Text
numbered_text t k = if leb (length (numbered_bytes t k)) 32 then text_of (numbered_bytes t k) otherwise no_text
