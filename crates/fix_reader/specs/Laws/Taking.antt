-- The rows taken one by one, as the reader's code does it: where the walk stands, and what one row makes of it. Rests on Walk and Fits.
use Rattle.std.specs.Prelude.{◌≡◌, ℕ, zero, suc, ◌+◌, ◌<◌, Bool, true, false, ◌||◌, List, [], ◌∷◌, length, drop, ◌==◌, slice_index_or, Option, None, Some, refl}
use Rattle.std.proofs.Common.{sym, ap, ◌∙◌, arith, add-one, eq-eqb, drop_of_length-le, drop-cons, get_or-drop}
use Rattle.prelude.specs.Laws.Cases.{if_true, if_false, clash}
use Rattle.fix_words.specs.Spelling.{Field}
use Rattle.fix_words.specs.Rows.{Row, leads, rest, in_rows}
use Rattle.fix_words.specs.Values.{rows}
use Rattle.fix_words.specs.Message.{value_at}
use Rattle.fix_table.specs.Table.{no_row, row_at}
use Rattle.fix_words.specs.Laws.Rows.{or_right}
use Rattle.fix_reader.specs.declared.walk.Taken.{Taken}
use Rattle.fix_claims.specs.Reading.{no_field}
use Rattle.fix_reader.specs.Laws.Walk.{Asked, first_value, walk}
use Rattle.fix_reader.specs.Laws.Fits.{asked_by}

-- what is asked of the values of a message of kind k
abbrev pub asked_of : List Field → ℕ → Asked
asked_of fs k = asked_by k (value_at fs 7)

-- the walk from where it stands
abbrev pub walk_on : List Field → ℕ → Option Taken → List Row → Option (List Field)
walk_on fs k None rs = None
walk_on fs k (Some t) rs = walk (asked_of fs k) t.seen rs (drop t.next fs)

-- what is left from field n on
abbrev pub left_from : List Field → Option ℕ → Option (List Field)
left_from fs None = None
left_from fs (Some n) = Some (drop n fs)

abbrev pub walk_all : List Field → ℕ → Option (List Field)
walk_all fs k = walk (asked_of fs k) false (rows k) (drop 7 fs)

-- ---- the next field

rest_drop : (fs : List Field) (i : ℕ) → rest (drop i fs) ≡ drop (i + 1) fs
rest_drop fs i = go fs i ∙ ap (λ (j : ℕ). drop j fs) (sym (add-one i))
  where
    go : (fs : List Field) (i : ℕ) → rest (drop i fs) ≡ drop (suc i) fs
    go [] zero = refl
    go [] (suc i) = refl
    go (f ∷ fs) zero = refl
    go (f ∷ fs) (suc i) = go fs i

first_drop : (fs : List Field) (i : ℕ) → first_value (drop i fs) ≡ value_at fs i
first_drop fs i =
    let z : i + 0 ≡ i = omega arith in
    ap (λ (f : Field). f.value) (get_or-drop i fs 0 no_field ∙ ap (λ (j : ℕ). slice_index_or fs j no_field) z)

-- ---- a row's bit

in_row : (rs : List Row) (j : ℕ) → j < length rs → in_rows rs (slice_index_or rs j no_row).bit ≡ true
in_row [] j h = absurd (omega arith)
in_row (r ∷ rs) zero h = ap (λ (b : Bool). b || in_rows rs r.bit) (eq-eqb r.bit r.bit refl)
in_row (r ∷ rs) (suc j) h = or_right (r.bit == (slice_index_or rs j no_row).bit) (in_rows rs (slice_index_or rs j no_row).bit) (in_row rs j (omega arith))

pub row_in : (k j : ℕ) → j < length (rows k) → in_rows (rows k) (row_at k j).bit ≡ true
row_in k j h = in_row (rows k) j h

-- ---- where it stands

pub on_stopped : (fs : List Field) (k : ℕ) (rs : List Row) → walk_on fs k None rs ≡ None
on_stopped fs k rs = refl

pub on_goes : (fs : List Field) (k : ℕ) (t : Taken) (rs : List Row) → walk_on fs k (Some t) rs ≡ walk (asked_of fs k) t.seen rs (drop t.next fs)
on_goes fs k t rs = refl

pub walked_all : (fs : List Field) (k : ℕ) (t : Taken) → walk_on fs k (Some t) [] ≡ left_from fs (Some t.next)
unfolding walk
walked_all fs k t = refl

-- behind the last row
pub on_end : (fs : List Field) (k : ℕ) (t : Taken) → walk_on fs k (Some t) (drop (length (rows k)) (rows k)) ≡ Some (drop t.next fs)
on_end fs k t = ap (walk_on fs k (Some t)) (drop_of_length-le (rows k) {i = length (rows k)} (omega arith)) ∙ walked_all fs k t

-- ---- one row

module _ (fs : List Field) (k : ℕ) (t : Taken) (r : Row) (more : List Row) where
  abbrev ask : Asked
  ask = asked_of fs k

  abbrev gs : List Field
  gs = drop t.next fs

  pub row_taken : leads r.tag gs ≡ true → ask t.seen r.bit (value_at fs t.next) ≡ true
      → walk_on fs k (Some (record { next = t.next + 1; seen = t.seen || (r.bit == 20) })) more ≡ walk_on fs k (Some t) (r ∷ more)
  unfolding walk
  row_taken l a =
      let q : ask t.seen r.bit (first_value gs) ≡ true = ap (ask t.seen r.bit) (first_drop fs t.next) ∙ a in
      ap (walk ask (t.seen || r.bit == 20) more) (sym (rest_drop fs t.next))
      ∙ sym (if_true (leads r.tag gs) _ _ l ∙ if_true (ask t.seen r.bit (first_value gs)) _ _ q)

  pub row_refused : leads r.tag gs ≡ true → ask t.seen r.bit (value_at fs t.next) ≡ false → None ≡ walk_on fs k (Some t) (r ∷ more)
  unfolding walk
  row_refused l a =
      let q : ask t.seen r.bit (first_value gs) ≡ false = ap (ask t.seen r.bit) (first_drop fs t.next) ∙ a in
      sym (if_true (leads r.tag gs) _ _ l ∙ if_false (ask t.seen r.bit (first_value gs)) _ _ q)

  pub row_missing : leads r.tag gs ≡ false → r.must ≡ true → None ≡ walk_on fs k (Some t) (r ∷ more)
  unfolding walk
  row_missing l m = sym (if_false (leads r.tag gs) _ _ l ∙ if_true r.must _ _ m)

  pub row_passed : leads r.tag gs ≡ false → r.must ≡ false → walk_on fs k (Some t) more ≡ walk_on fs k (Some t) (r ∷ more)
  unfolding walk
  row_passed l m = sym (if_false (leads r.tag gs) _ _ l ∙ if_false r.must _ _ m)

-- the same of row j of the kind
module _ (fs : List Field) (k j : ℕ) (h : j < length (rows k)) (t : Taken) where
  abbrev r : Row
  r = row_at k j

  abbrev more : List Row
  more = drop (j + 1) (rows k)

  here : drop j (rows k) ≡ r ∷ more
  here = drop-cons (rows k) j no_row h ∙ ap (λ (i : ℕ). r ∷ drop i (rows k)) (sym (add-one j))

  opened : walk_on fs k (Some t) (drop j (rows k)) ≡ walk_on fs k (Some t) (r ∷ more)
  opened = ap (walk_on fs k (Some t)) here

  pub row_taken_at : leads r.tag (drop t.next fs) ≡ true → asked_of fs k t.seen r.bit (value_at fs t.next) ≡ true
      → walk_on fs k (Some (record { next = t.next + 1; seen = t.seen || (r.bit == 20) })) more ≡ walk_on fs k (Some t) (drop j (rows k))
  row_taken_at l a = row_taken fs k t r more l a ∙ sym opened

  pub row_refused_at : leads r.tag (drop t.next fs) ≡ true → asked_of fs k t.seen r.bit (value_at fs t.next) ≡ false → walk_on fs k (Some t) (drop j (rows k)) ≡ None
  row_refused_at l a = opened ∙ sym (row_refused fs k t r more l a)

  pub row_missing_at : leads r.tag (drop t.next fs) ≡ false → r.must ≡ true → walk_on fs k (Some t) (drop j (rows k)) ≡ None
  row_missing_at l m = opened ∙ sym (row_missing fs k t r more l m)

  pub row_passed_at : leads r.tag (drop t.next fs) ≡ false → r.must ≡ false → walk_on fs k (Some t) more ≡ walk_on fs k (Some t) (drop j (rows k))
  row_passed_at l m = row_passed fs k t r more l m ∙ sym opened

-- a field that leads stands
pub led_within : (fs : List Field) (i t : ℕ) → leads t (drop i fs) ≡ true → i < length fs
led_within [] zero t e = clash false e refl
led_within [] (suc i) t e = clash false e refl
led_within (f ∷ fs) zero t e = omega arith
led_within (f ∷ fs) (suc i) t e = let h = led_within fs i t e in omega arith
