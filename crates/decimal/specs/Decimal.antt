-- Numbers in decimal: a count of 10^-places as it is written, alone or right-aligned in columns, and the number that bytes are read as.
-- Rests on prelude's words.
use Rattle.std.specs.Prelude.{ℕ, zero, suc, ◌+◌, ◌-◌, ◌*◌, ◌/◌, ◌%◌, List, [], ◌∷◌, ◌++◌, Bool, ◌&&◌, leb, ltb, length, replicate}
use Rattle.prelude.specs.Cases.{if◌then◌otherwise◌}
use Rattle.prelude.specs.Span.{splice}

abbrev pub blank : ℕ
blank = 32

abbrev pub point : ℕ
point = 46

-- the character of the lowest digit of n
abbrev pub lowest : ℕ → ℕ
lowest n = 48 + n % 10

-- ---- written

-- the digits of n without leading zeros, the highest first; f is n or larger
unfoldable pub digits_by : ℕ → ℕ → List ℕ
digits_by zero n = lowest n ∷ []
digits_by (suc f) n = if ltb n 10 then lowest n ∷ [] otherwise digits_by f (n / 10) ++ (lowest n ∷ [])

unfoldable pub digits : ℕ → List ℕ
digits n = digits_by n n

-- the p lowest digits of n
unfoldable pub low_digits : ℕ → ℕ → List ℕ
low_digits zero n = []
low_digits (suc p) n = low_digits p (n / 10) ++ (lowest n ∷ [])

-- n without its p lowest digits
unfoldable pub down : ℕ → ℕ → ℕ
down zero n = n
down (suc p) n = down p (n / 10)

-- THE DECIMAL of n counts of 10^-p: the whole part, and with p above 0 a point and p digits
unfoldable pub decimal : ℕ → ℕ → List ℕ
decimal zero n = digits n
decimal (suc p) n = digits (down (suc p) n) ++ (point ∷ low_digits (suc p) n)

-- a text at the right end of its columns, blanks before it; one that is longer is written whole
unfoldable pub right : ℕ → List ℕ → List ℕ
right columns text = replicate (columns - length text) blank ++ text

-- ---- read

abbrev pub is_digit : ℕ → Bool
is_digit c = leb 48 c && leb c 57

-- the digits among the bytes, behind the number a
abbrev pub read_from : ℕ → List ℕ → ℕ
read_from a [] = a
read_from a (c ∷ s) = read_from (if is_digit c then a * 10 + (c - 48) otherwise a) s

-- THE NUMBER that the digits among the bytes are: blanks and points do not count
abbrev pub number_in : List ℕ → ℕ
number_in s = read_from 0 s

-- ---- into a buffer

-- the bytes at an index, if they have room; else nothing changes
unfoldable pub written : List ℕ → ℕ → List ℕ → List ℕ
written s at w = if leb (at + length w) (length s) then splice s at w otherwise s
