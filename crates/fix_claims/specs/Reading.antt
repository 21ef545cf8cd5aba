-- What the reader gives a host: for each field its tag, where its value stands in the message, and its length; zeros behind them.
-- Rests on Message.
use Rattle.std.specs.Prelude.{ℕ, ◌+◌, List, [], ltb, length, get_or, take}
use Rattle.prelude.specs.Cases.{if◌then◌otherwise◌}
use Rattle.prelude.specs.Lists.{list_below}
use Rattle.decimal.specs.Decimal.{digits}
use Rattle.fix_claims.specs.declared.FixFields.{FixFields}
use Rattle.fix_words.specs.Spelling.{Field, field, spellings}
use Rattle.fix_words.specs.Message.{read_of}

abbrev pub no_field : Field
no_field = field 0 []

abbrev pub tag_of : List Field → ℕ → ℕ
tag_of fs i = (get_or fs i no_field).tag

abbrev pub length_of : List Field → ℕ → ℕ
length_of fs i = length (get_or fs i no_field).value

-- where the value of field i stands: behind the fields before it, its tag and '='
unfoldable pub place_of : List Field → ℕ → ℕ
place_of fs i = if ltb i (length fs) then length (spellings (take i fs)) + length (digits (tag_of fs i)) + 1 otherwise 0

-- at most 32 fields, as numbers
unfoldable pub tabled : ℕ → List Field → FixFields
tabled refusal fs = record {
  refusal = refusal;
  count = length fs;
  tag = list_below (tag_of fs) 32;
  at = list_below (place_of fs) 32;
  length = list_below (length_of fs) 32;
}

-- THE READER'S ANSWER: 3 for bytes that no writing yields; else every field of the message, header and trailer among them
unfoldable pub fields_read : List ℕ → FixFields
fields_read s = tabled (read_of s).refusal (read_of s).fields
