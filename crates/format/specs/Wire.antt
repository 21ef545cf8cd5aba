-- The bytes of a record, from what its fields hold. Rests on Format.
use Rattle.std.specs.Prelude.{ℕ, zero, suc, List, [], ◌∷◌, ◌++◌, length}
use Rattle.prelude.specs.Cases.{if◌then◌otherwise◌}
use Rattle.prelude.specs.Number.{bytes_of}
use Rattle.bits.specs.Map.{bit}
use Rattle.format.specs.Format.{is_text_bit}

-- a field that holds these bytes
unfoldable pub encode : ℕ → List ℕ → List ℕ
encode b l = if is_text_bit b then length l ∷ l otherwise l

-- field b, or nothing if its bit does not stand
unfoldable pub field_bytes : ℕ → (ℕ → List ℕ) → ℕ → List ℕ
field_bytes m held b = if bit m b then encode b (held b) otherwise []

-- the fields below n
unfoldable pub body : ℕ → (ℕ → List ℕ) → ℕ → List ℕ
body m held zero = []
body m held (suc b) = body m held b ++ field_bytes m held b

-- kind, map, fields
unfoldable pub bytes : ℕ → ℕ → (ℕ → List ℕ) → List ℕ
bytes k m held = k ∷ (bytes_of 4 m ++ body m held 32)
