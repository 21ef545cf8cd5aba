-- What the calls that read take from the input, by the bytes that it has left before and after, if those are known. Rests on nothing.
use Rattle.std.specs.Prelude.{ℕ, ◌≡◌, ◌+◌, ◌-◌, ◌*◌, ◌≤◌, ◌<◌, List, ◌∷◌, length, take, drop, replicate, Option}
use Rattle.std.specs.Io.KnownBytes.{Consumes, IsAtEnd}
use Rattle.input.specs.declared.Next.{Next}

-- fewer than n bytes were left, and they are gone
abbrev pub Short : ℕ → Option (List ℕ) → Option (List ℕ) → Type 0
Short n old new = (bytes : List ℕ) × (length bytes < n) × Consumes old new bytes × IsAtEnd new

-- the bytes begin with those that were left, and with all of them if these are fewer; zeros follow
abbrev pub Padded : Option (List ℕ) → Option (List ℕ) → List ℕ → Type 0
Padded old new bytes =
    (n : ℕ) × (n ≤ length bytes) × Consumes old new (take n bytes) × (n < length bytes → IsAtEnd new) × (drop n bytes ≡ replicate (length bytes - n) 0)

-- a record's length, the lower byte first, and then its bytes; the end of the input otherwise
abbrev pub Given : Option (List ℕ) → Option (List ℕ) → List ℕ → Next → Type 0
Given old new space (Next.Record size) = (low : ℕ) × (high : ℕ) × (size ≡ low + 256 * high) × (size ≤ 65535) × Consumes old new (low ∷ (high ∷ take size space))
Given old new space Next.Cut = IsAtEnd new
Given old new space Next.End = IsAtEnd old × IsAtEnd new
