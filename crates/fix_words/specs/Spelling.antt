-- A FIX field's spelling, tag = value SOH; fields one behind the other; and the fields that bytes are. Rests on Lists and decimal.
use Rattle.std.specs.Prelude.{ℕ, List, [], ◌∷◌, ◌++◌, Bool, true, ◌&&◌}
use Rattle.decimal.specs.Decimal.{digits, number_in}
use Rattle.fix_words.specs.Lists.{every, is_print, before, after, pieces}

pub record Field : Type 0 where
  pub tag : ℕ
  pub value : List ℕ

abbrev pub field : ℕ → List ℕ → Field
field t v = record { tag = t; value = v }

abbrev pub soh : ℕ
soh = 1

abbrev pub equals : ℕ
equals = 61

-- ---- written

-- tag = value, without the SOH that ends it
unfoldable pub piece : Field → List ℕ
piece f = digits f.tag ++ (equals ∷ f.value)

unfoldable pub spellings : List Field → List ℕ
spellings [] = []
spellings (f ∷ fs) = piece f ++ (soh ∷ spellings fs)

-- ---- read

unfoldable pub field_in : List ℕ → Field
field_in s = field (number_in (before equals s)) (after equals s)

abbrev pub fields_from : List (List ℕ) → List Field
fields_from [] = []
fields_from (p ∷ ps) = field_in p ∷ fields_from ps

unfoldable pub fields_in : List ℕ → List Field
fields_in s = fields_from (pieces soh s)

-- no value has a byte below 32
abbrev pub printable : List Field → Bool
printable [] = true
printable (f ∷ fs) = every is_print f.value && printable fs
