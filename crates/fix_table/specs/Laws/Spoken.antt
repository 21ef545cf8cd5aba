-- The fixed texts one behind the other: where each starts in the whole, and that they are `spoken`, which code has text by text. Rests on Table.
use Rattle.std.specs.Prelude.{◌≡◌, ℕ, ◌+◌, ◌-◌, ◌<◌, ◌≤◌, Bool, true, ◌&&◌, List, [], ◌∷◌, length, get_or, ◌==◌, nat_le, slice_index, slice_index_or, refl}
use Rattle.std.proofs.Common.{arith, leb-true, eqb-true}
use Rattle.std.proofs.Math.ListN.{get_or-eq_default}
use Rattle.std.proofs.lemmas.Bool.{and_parts}
use Rattle.prelude.specs.Below.{all_below}
use Rattle.prelude.specs.Laws.Below.{all_elim}
use Rattle.prelude.specs.Span.{span}
use Rattle.fix_words.specs.Lists.{same}
use Rattle.fix_words.specs.Values.{texts}
use Rattle.fix_words.specs.Laws.Lists.{same_true}
use Rattle.fix_table.specs.Table.{spoken}

unfoldable pub starts : List ℕ
starts = 0 ∷ 0 ∷ 21 ∷ 36 ∷ 48 ∷ 55 ∷ 64 ∷ 77 ∷ 90 ∷ 107 ∷ 121 ∷ 142 ∷ 165 ∷ 171 ∷ 179 ∷ 195 ∷ 203 ∷ 212 ∷ 221 ∷ 227 ∷ 231 ∷ []

unfoldable pub all : List ℕ
all = 103 ∷ 97 ∷ 116 ∷ 101 ∷ 119 ∷ 97 ∷ 121 ∷ 32 ∷ 105 ∷ 115 ∷ 32 ∷ 99 ∷ 97 ∷ 110 ∷ 99 ∷ 101 ∷ 108 ∷ 108 ∷ 105 ∷ 110 ∷ 103 ∷ 114 ∷ 101 ∷ 112 ∷ 108 ∷ 97 ∷ 99 ∷ 101 ∷ 32 ∷ 112 ∷ 101 ∷ 110 ∷ 100 ∷ 105 ∷ 110 ∷ 103 ∷ 98 ∷ 101 ∷ 108 ∷ 111 ∷ 119 ∷ 32 ∷ 102 ∷ 105 ∷ 108 ∷ 108 ∷ 101 ∷ 100 ∷ 98 ∷ 108 ∷ 111 ∷ 99 ∷ 107 ∷ 101 ∷ 100 ∷ 100 ∷ 117 ∷ 112 ∷ 108 ∷ 105 ∷ 99 ∷ 97 ∷ 116 ∷ 101 ∷ 117 ∷ 110 ∷ 107 ∷ 110 ∷ 111 ∷ 119 ∷ 110 ∷ 32 ∷ 111 ∷ 114 ∷ 100 ∷ 101 ∷ 114 ∷ 111 ∷ 114 ∷ 100 ∷ 101 ∷ 114 ∷ 32 ∷ 105 ∷ 115 ∷ 32 ∷ 100 ∷ 111 ∷ 110 ∷ 101 ∷ 116 ∷ 111 ∷ 111 ∷ 32 ∷ 109 ∷ 97 ∷ 110 ∷ 121 ∷ 32 ∷ 114 ∷ 101 ∷ 113 ∷ 117 ∷ 101 ∷ 115 ∷ 116 ∷ 115 ∷ 115 ∷ 105 ∷ 100 ∷ 101 ∷ 32 ∷ 111 ∷ 114 ∷ 32 ∷ 115 ∷ 121 ∷ 109 ∷ 98 ∷ 111 ∷ 108 ∷ 114 ∷ 101 ∷ 106 ∷ 101 ∷ 99 ∷ 116 ∷ 101 ∷ 100 ∷ 32 ∷ 98 ∷ 121 ∷ 32 ∷ 116 ∷ 104 ∷ 101 ∷ 32 ∷ 118 ∷ 101 ∷ 110 ∷ 117 ∷ 101 ∷ 110 ∷ 111 ∷ 116 ∷ 32 ∷ 115 ∷ 101 ∷ 110 ∷ 116 ∷ 32 ∷ 98 ∷ 101 ∷ 102 ∷ 111 ∷ 114 ∷ 101 ∷ 32 ∷ 114 ∷ 101 ∷ 115 ∷ 116 ∷ 97 ∷ 114 ∷ 116 ∷ 83 ∷ 121 ∷ 109 ∷ 98 ∷ 111 ∷ 108 ∷ 79 ∷ 114 ∷ 100 ∷ 101 ∷ 114 ∷ 81 ∷ 116 ∷ 121 ∷ 78 ∷ 111 ∷ 82 ∷ 101 ∷ 102 ∷ 101 ∷ 114 ∷ 101 ∷ 110 ∷ 99 ∷ 101 ∷ 80 ∷ 114 ∷ 105 ∷ 99 ∷ 101 ∷ 78 ∷ 111 ∷ 116 ∷ 105 ∷ 111 ∷ 110 ∷ 97 ∷ 108 ∷ 80 ∷ 114 ∷ 105 ∷ 99 ∷ 101 ∷ 66 ∷ 97 ∷ 110 ∷ 100 ∷ 83 ∷ 101 ∷ 108 ∷ 102 ∷ 84 ∷ 114 ∷ 97 ∷ 100 ∷ 101 ∷ 67 ∷ 114 ∷ 101 ∷ 100 ∷ 105 ∷ 116 ∷ 78 ∷ 79 ∷ 78 ∷ 69 ∷ []

-- none past the last
pub past : (n : ℕ) → 19 < n → slice_index_or spoken n [] ≡ []
unfolding spoken texts
past n h = get_or-eq_default spoken [] {n = n} (omega arith)

abbrev from : ℕ → ℕ
from i = slice_index starts i

abbrev long : ℕ → ℕ
long i = slice_index starts (i + 1) - slice_index starts i

abbrev test : ℕ → Bool
test i = nat_le (from i) (from (i + 1)) && (long i == length (slice_index_or spoken i []) && (nat_le (from i + long i) 231 && same (span all (from i) (long i)) (slice_index_or spoken i [])))

all_test : all_below test 20 ≡ true
unfolding starts all spoken texts all_below span
all_test = refl

-- fixed text n stands from one start to the next
pub record Stands (n : ℕ) : Type 0 where
  pub order : get_or starts n 0 ≤ slice_index starts (n + 1)
  pub long : get_or starts (n + 1) 0 - slice_index starts n ≡ length (slice_index_or spoken n [])
  pub within : get_or starts n 0 + (slice_index starts (n + 1) - slice_index starts n) ≤ 231
  pub words : span all (slice_index starts n) (slice_index starts (n + 1) - slice_index starts n) ≡ slice_index_or spoken n []

pub stands : (n : ℕ) → n < 20 → Stands n
stands n h =
    let a = and_parts (nat_le (from n) (from (n + 1))) _ (all_elim test 20 all_test n h) in
    let b = and_parts (long n == length (slice_index_or spoken n [])) _ a.1 in
    let c = and_parts (nat_le (from n + long n) 231) (same (span all (from n) (long n)) (slice_index_or spoken n [])) b.1 in
    record { order = leb-true _ _ a.0; long = eqb-true _ _ b.0; within = leb-true _ _ c.0; words = same_true _ _ c.1 }
