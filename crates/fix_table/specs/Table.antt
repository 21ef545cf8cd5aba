-- What the tables in code hold, beside the rows of fix_words: how each bit is written, and the fixed texts. Rests on fix_words' Values.
use Rattle.std.specs.Prelude.{ℕ, true, eqb, List, [], ◌∷◌, ◌++◌, Option, None, Some, slice_index_or}
use Rattle.prelude.specs.Cases.{if◌then◌otherwise◌}
use Rattle.format.specs.Codes.{within}
use Rattle.format.specs.Format.{range, is_text_bit, side, status}
use Rattle.fix_words.specs.Rows.{Row}
use Rattle.fix_words.specs.Values.{rows, kind_of, texts, none_text, places}
use Rattle.fix_table.specs.declared.Row as code
use Rattle.fix_table.specs.declared.Form.{Form}
use Rattle.fix_table.specs.declared.Form.TheVariants.{Text, Code, Number}

abbrev pub no_row : Row
no_row = record { tag = 0; bit = 0; must = true }

-- row j of a kind
abbrev pub row_at : ℕ → ℕ → Row
row_at k j = slice_index_or (rows k) j no_row

-- a row in code, as a definition's
abbrev pub as_row : code.Row → Row
as_row r = record { tag = r.tag; bit = r.bit; must = r.must }

-- the kind of a MsgType
unfoldable pub kind_for : ℕ → Option ℕ
kind_for c = if eqb (kind_of c) 0 then None otherwise Some (kind_of c)

-- how a bit is written
unfoldable pub form_of : ℕ → Form
form_of b = if is_text_bit b then Text otherwise if within side status (range b) then Code otherwise Number (places b)

-- the fixed texts, and NONE behind them
unfoldable pub spoken : List (List ℕ)
spoken = texts ++ (none_text ∷ [])

abbrev pub none_number : ℕ
none_number = 19
