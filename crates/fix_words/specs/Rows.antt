-- A message's body by a table of rows (tag, bit, must it stand): written from the value of each bit, and the values found in fields.
-- Rests on Spelling.
use Rattle.std.specs.Prelude.{ℕ, List, [], ◌∷◌, Bool, false, ◌||◌, eqb, Option, None, Some}
use Rattle.prelude.specs.Cases.{if◌then◌otherwise◌}
use Rattle.fix_words.specs.Spelling.{Field, field}

pub record Row : Type 0 where
  pub tag : ℕ
  pub bit : ℕ
  pub must : Bool

-- the value of each bit, if it has one
abbrev pub Values : Type 0
Values = ℕ → Option (List ℕ)

-- ---- written

abbrev pub field_of : ℕ → Option (List ℕ) → List Field → List Field
field_of t None fs = fs
field_of t (Some v) fs = field t v ∷ fs

-- the fields of the rows, then fs
unfoldable pub body : List Row → Values → List Field → List Field
body [] vs fs = fs
body (r ∷ rows) vs fs = field_of r.tag (vs r.bit) (body rows vs fs)

-- ---- read

-- is the first field one of this tag?
abbrev pub leads : ℕ → List Field → Bool
leads t [] = false
leads t (f ∷ fs) = eqb t f.tag

abbrev pub first : List Field → Option (List ℕ)
first [] = None
first (f ∷ fs) = Some f.value

abbrev pub rest : List Field → List Field
rest [] = []
rest (f ∷ fs) = fs

-- the value of bit b: each row takes the first field that is left, if it has the row's tag
unfoldable pub value_in : List Row → List Field → ℕ → Option (List ℕ)
value_in [] fs b = None
value_in (r ∷ rows) fs b =
    if leads r.tag fs then (if eqb r.bit b then first fs otherwise value_in rows (rest fs) b) otherwise
    if eqb r.bit b then None otherwise
    value_in rows fs b

-- a row of the table has bit b
abbrev pub in_rows : List Row → ℕ → Bool
in_rows [] b = false
in_rows (r ∷ rows) b = eqb r.bit b || in_rows rows b
