-- Presence maps: bit k of a number, the number with that bit, how many stand, the map of a list of bits, and when one map has all of another. Rests on prelude.
use Rattle.std.specs.Prelude.{ℕ, ◌+◌, ◌/◌, ◌%◌, ◌^◌, List, [], ◌∷◌, Bool, eqb, ltb}
use Rattle.std.specs.Int.Bits.{bit_and}
use Rattle.prelude.specs.Cases.{if◌then◌otherwise◌}
use Rattle.prelude.specs.Below.{count_below}

-- bit k of m, 0 or 1
abbrev pub digit : ℕ → ℕ → ℕ
digit m k = m / 2 ^ k % 2

-- whether bit k of m stands
abbrev pub bit : ℕ → ℕ → Bool
bit m k = eqb (digit m k) 1

-- m with bit k standing; there are 32 bits
unfoldable pub with_bit : ℕ → ℕ → ℕ
with_bit m k = if ltb k 32 then (if bit m k then m otherwise m + 2 ^ k) otherwise m

-- how many bits of m stand; there are 32
unfoldable pub standing : ℕ → ℕ
standing m = count_below (bit m) 32

-- the map in which these bits stand
abbrev pub map_of : List ℕ → ℕ
map_of [] = 0
map_of (k ∷ ks) = 2 ^ k + map_of ks

-- every bit of n stands in m
abbrev pub contains : ℕ → ℕ → Bool
contains m n = eqb (bit_and m n) n
