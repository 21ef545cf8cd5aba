-- What a field of the code's table takes and holds. Rests on format's Codes.
use Rattle.std.specs.Prelude.{ℕ, Bool, true, false, leb}
use Rattle.format.specs.Codes.{within, is_side, is_ordtype, is_timeinforce, is_exectype, is_status}
use Rattle.places.specs.declared.Size.{Size}
use Rattle.places.specs.declared.Size.TheVariants.{Text, Bytes}
use Rattle.places.specs.declared.range.List.{List}
use Rattle.places.specs.declared.range.List.TheVariants.{Side, OrdType, TimeInForce, ExecType, Status}
use Rattle.places.specs.declared.range.Range.{Range}
use Rattle.places.specs.declared.range.Range.TheVariants.{Any, UpTo, Between, Code}

abbrev pub on_list : List → ℕ → Bool
on_list Side v = is_side v
on_list OrdType v = is_ordtype v
on_list TimeInForce v = is_timeinforce v
on_list ExecType v = is_exectype v
on_list Status v = is_status v

abbrev pub holds : Range → ℕ → Bool
holds Any v = true
holds (UpTo n) v = leb v n
holds (Between a b) v = within a b v
holds (Code l) v = on_list l v

-- a size as the format's table has it: 255 for a text
abbrev pub taken : Size → ℕ
taken Text = 255
taken (Bytes n) = n

abbrev pub is_text : Size → Bool
is_text Text = true
is_text (Bytes n) = false
