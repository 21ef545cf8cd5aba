-- The rows of a kind, as code has them. Rests on Table.
use Rattle.std.specs.Prelude.{◌≡◌, ℕ, zero, suc, ◌+◌, ◌-◌, ◌<◌, ◌≤◌, ◌≢◌, Bool, true, leb, List, [], ◌∷◌, drop, length, get_or, map, nat_lt, slice_index, slice_index_or, refl}
use Rattle.std.proofs.Common.{sym, ap, subst, ◌∙◌, arith, add-one, ltb-true, le-leb, drop-cons}
use Rattle.std.proofs.Math.Decide.{dec_lt}
use Rattle.std.proofs.Math.ListN.{get_or-eq_default}
use Rattle.std.proofs.lemmas.Bool.{and_from}
use Rattle.std.proofs.lemmas.List.{get_or-map, length-map}
use Rattle.prelude.specs.Below.{all_below}
use Rattle.prelude.specs.Laws.Below.{all_elim}
use Rattle.prelude.specs.Laws.Cases.{clash}
use Rattle.fix_words.specs.Rows.{Row, in_rows}
use Rattle.fix_words.specs.Values.{tables, rows, types, type_of}
use Rattle.fix_words.proofs.Laws.Kinds.{row_small}
use Rattle.fix_table.specs.Table.{no_row, row_at, as_row}
use Rattle.fix_table.specs.declared.Row as code

-- a row in code is one of the definitions
pub record IsRow (r : code.Row) (t : Row) : Type 0 where
  pub tag : r.tag ≡ t.tag
  pub bit : r.bit ≡ t.bit
  pub must : r.must ≡ t.must

-- row j of a kind, in code
pub row_is : (rs : List code.Row) (k j : ℕ) (d : code.Row) → map as_row rs ≡ rows k → j < length rs → IsRow (get_or rs j d) (row_at k j)
row_is rs k j d e h =
    let r : as_row (get_or rs j d) ≡ row_at k j = sym (get_or-map as_row rs j d no_row h) ∙ ap (λ (l : List Row). slice_index_or l j no_row) e in
    record { tag = ap (λ (r : Row). r.tag) r; bit = ap (λ (r : Row). r.bit) r; must = ap (λ (r : Row). r.must) r }

pub rows_next : (rs : List code.Row) (k i : ℕ) (d : code.Row) → map as_row rs ≡ rows k → i < length rs → drop i (rows k) ≡ as_row (get_or rs i d) ∷ drop (i + 1) (rows k)
rows_next rs k i d e h =
    let n : i < length (rows k) = omega (arith, ap length e, length-map rs as_row) in
    drop-cons (rows k) i no_row n
    ∙ sym (ap (λ (l : List Row). slice_index_or l i no_row ∷ drop (suc i) (rows k)) e)
    ∙ ap (λ (r : Row). r ∷ drop (suc i) (rows k)) (get_or-map as_row rs i d no_row h)
    ∙ ap (λ (n : ℕ). as_row (get_or rs i d) ∷ drop n (rows k)) (sym (add-one i))

-- row j of a kind, if j is i
pub row_here : (k i j : ℕ) {r : code.Row} → j ≡ i → IsRow r (row_at k i) → IsRow r (row_at k j)
row_here k i j {r} e w = subst (λ (x : ℕ). IsRow r (row_at k x)) (sym e) w

-- a number that is none of the first n
abbrev NoneOf : ℕ → ℕ → Type 0
NoneOf zero j = Unit {0}
NoneOf (suc n) j = NoneOf n j × (j ≢ n)

pub none_below : (n j : ℕ) → NoneOf n j → n ≤ j
none_below zero j w = omega arith
none_below (suc n) j w = omega (arith, none_below n j w.0, w.1)

-- behind the last
pub row_behind : (k j : ℕ) {r : code.Row} → NoneOf (length (rows k)) j → IsRow r no_row → IsRow r (row_at k j)
row_behind k j {r} w v = subst (IsRow r) (sym (get_or-eq_default (rows k) no_row {n = j} (none_below (length (rows k)) j w))) v

-- below 16 the first table, past 20 none
pub low : (k : ℕ) → k ≤ 16 → (rows k ≡ rows 16) × (type_of k ≡ 56)
unfolding rows type_of types
low k h = let e : k - 16 ≡ 0 = omega arith in (ap (λ (p : ℕ). get_or tables p []) e, ap (λ (p : ℕ). slice_index types p) e)

pub past : (k : ℕ) → 20 < k → (rows k ≡ []) × (type_of k ≡ 0)
unfolding rows tables type_of types
past k h = (get_or-eq_default tables [] {n = k - 16} (omega arith), get_or-eq_default types 0 {n = k - 16} (omega arith))

-- a row's bit is one of 32
abbrev short : ℕ → Bool
short p = nat_lt (length (slice_index_or tables p [])) 21

abbrev small : ℕ → ℕ → Bool
small p j = nat_lt (get_or (slice_index_or tables p []) j no_row).bit 32

all_short : all_below short 5 ≡ true
unfolding tables all_below
all_short = refl

all_small : all_below (λ p. all_below (small p) 20) 5 ≡ true
unfolding tables all_below
all_small = refl

-- no kind has more than 20
pub rows_short : (k : ℕ) → length (rows k) ≤ 20
unfolding rows
rows_short k = go (dec_lt 20 k)
  where
    go : Dec (20 < k) → length (rows k) ≤ 20
    go (yes h) = omega (arith, ap length (past k h).0)
    go (no h) = omega (arith, ltb-true (length (slice_index_or tables (k - 16) [])) 21 (all_elim short 5 all_short (k - 16) (omega arith)))

pub bit_small : (k j : ℕ) → (row_at k j).bit < 32
unfolding rows
bit_small k j = go (dec_lt 20 k) (dec_lt j 20)
  where
    go : Dec (20 < k) → Dec (j < 20) → (row_at k j).bit < 32
    go (yes h) d = omega (arith, ap (λ (l : List Row). (get_or l j no_row).bit) (past k h).0)
    go (no h) (yes l) = ltb-true _ _ (all_elim (small (k - 16)) 20 (all_elim (λ p. all_below (small p) 20) 5 all_small (k - 16) (omega arith)) j l)
    go (no h) (no l) = omega (arith, ap (λ (r : Row). r.bit) (get_or-eq_default (rows k) no_row {n = j} (omega (arith, rows_short k))))

-- so is each bit of a kind's rows, and what is no kind has no rows
pub bit_in_rows : (k b : ℕ) → in_rows (rows k) b ≡ true → b < 32
bit_in_rows k b e = go (dec_lt 20 k) (dec_lt k 16)
  where
    go : Dec (20 < k) → Dec (k < 16) → b < 32
    go (yes h) d = clash (in_rows [] b) (rw (past k h).0 at e) refl
    go (no h) (yes l) = row_small 16 refl b (rw (low k (omega arith)).0 at e)
    go (no h) (no l) = row_small k (and_from (leb 16 k) (leb k 20) (le-leb 16 k (omega arith)) (le-leb k 20 (omega arith))) b e
