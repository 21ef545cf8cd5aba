-- Little-endian numbers of any width: what bytes stand for, and the bytes of a number. Rests on the kit's library. std's `from_le_bytes` and
-- `to_le_bytes` have the widths of its types alone.
use Rattle.std.specs.Prelude.{List, [], ◌∷◌, ℕ, zero, suc, ◌+◌, ◌*◌, ◌/◌, ◌%◌, ◌<◌, get_or}

-- the number that the bytes are, the lowest first
abbrev pub number : List ℕ → ℕ
number [] = 0
number (b ∷ bs) = b + 256 * number bs

-- the k lowest bytes of n, the lowest first
abbrev pub bytes_of : (k n : ℕ) → List ℕ
bytes_of zero n = []
bytes_of (suc k) n = n % 256 ∷ bytes_of k (n / 256)

-- the numbers of 2, 4 and 8 bytes at an index, as code adds them up
abbrev pub word16 : List ℕ → ℕ → ℕ
word16 s at = get_or s at 0 + 256 * get_or s (at + 1) 0

abbrev pub word32 : List ℕ → ℕ → ℕ
word32 s at = get_or s at 0 + 256 * (get_or s (at + 1) 0 + 256 * (get_or s (at + 2) 0 + 256 * get_or s (at + 3) 0))

abbrev pub word64 : List ℕ → ℕ → ℕ
word64 s at =
    get_or s at 0 + 256 * (get_or s (at + 1) 0 + 256 * (get_or s (at + 2) 0 + 256 * (get_or s (at + 3) 0
    + 256 * (get_or s (at + 4) 0 + 256 * (get_or s (at + 5) 0 + 256 * (get_or s (at + 6) 0 + 256 * get_or s (at + 7) 0))))))

-- 256 ^ k, by recursion on k
abbrev pub bound : ℕ → ℕ
bound zero = 1
bound (suc k) = 256 * bound k

-- each element of the list is a byte, and so is the 0 past its end: std's `All` asks within the list alone
abbrev pub Bytes : List ℕ → Type 0
Bytes s = (k : ℕ) → get_or s k 0 < 256
