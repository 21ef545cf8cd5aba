-- What a loop over the numbers below n answers: whether all pass a test, the first that does, and how many do. Rests on Cases.
-- Each recurs at the end of its range, so that it meets a loop that counts up.
use Rattle.std.specs.Prelude.{Bool, true, ◌&&◌, ◌||◌, leb, Option, None, Some, ℕ, zero, suc, ◌+◌}
use Rattle.prelude.specs.Cases.{if◌then◌otherwise◌, maybe}

-- every number below n passes
unfoldable pub all_below : (ℕ → Bool) → ℕ → Bool
all_below p zero = true
all_below p (suc n) = all_below p n && p n

-- the first number below n that passes
unfoldable pub first_below : (ℕ → Bool) → ℕ → Option ℕ
first_below p zero = None
first_below p (suc n) = maybe (if p n then Some n otherwise None) Some (first_below p n)

-- how many numbers below n pass
unfoldable pub count_below : (ℕ → Bool) → ℕ → ℕ
count_below p zero = 0
count_below p (suc n) = count_below p n + (if p n then 1 otherwise 0)

-- a test that is asked below n alone
abbrev pub until : ℕ → (ℕ → Bool) → ℕ → Bool
until n p k = leb n k || p k
