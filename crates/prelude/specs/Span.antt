-- A span of a buffer, and a splice into it: what records at fixed places and writers are made of. Rests on the kit's lists.
-- std's words go by two ends (`slice_range`, `between`) or copy a front (`paste`); these go by an index and a length, as a layout does.
use Rattle.std.specs.Prelude.{List, ◌++◌, ℕ, length, take, drop}

-- the n elements of s from index at
unfoldable pub span : List ℕ → ℕ → ℕ → List ℕ
span s at n = take n (drop at s)

-- s with w in place of what stood from index at
unfoldable pub splice : List ℕ → ℕ → List ℕ → List ℕ
splice s at w = take at s ++ (w ++ drop (length w) (drop at s))
