-- The reader's answer to a message in small, as the entry returns it, computed: an order, read field by field, and the same with another checksum.
-- Rests on Reading and fix_words' Ascii.
use Rattle.std.specs.Prelude.{ℕ, ◌≡◌, refl, List, [], ◌∷◌, ◌++◌}
use Rattle.prelude.specs.Cases.{if◌then◌otherwise◌, maybe}
use Rattle.prelude.specs.Below.{all_below, first_below}
use Rattle.prelude.specs.Bytes.{zeros}
use Rattle.prelude.specs.Lists.{list_below}
use Rattle.format.specs.Codes.{sides, ordtypes, timesinforce, statuses, exectypes, is_side, is_ordtype, is_timeinforce, is_status, is_exectype, is_alnum}
use Rattle.format.specs.Format.{size, range, fields, in_range, required, allowed, required_bits, allowed_bits}
use Rattle.format.specs.Places.{value}
use Rattle.decimal.specs.Decimal.{digits_by, digits, low_digits, down, decimal}
use Rattle.fix_words.specs.Lists.{before, after, pieces}
use Rattle.fix_words.specs.Ascii.{ascii}
use Rattle.fix_words.specs.Spelling.{piece, spellings, field_in, fields_in}
use Rattle.fix_words.specs.Rows.{body, value_in}
use Rattle.fix_words.specs.Values.{tables, rows, types, type_of, kind_of, texts, fixed_text, fixed_text_number, is_plain, places, spelling, value_of, unspelled, held_in, unsaid, contents}
use Rattle.fix_words.specs.Message.{inner, front, framed, fields_of, bytes_for, paired, shaped, ranged, texted, typed, is_writing, loose_of, is_message, read_of}
use Rattle.fix_claims.specs.Reading.{place_of, tabled, fields_read}

-- an order
abbrev order : List ℕ
order = ascii "8=FIX.4.4|9=84|35=D|49=GW|56=DSK|34=702|52=t1|11=A|55=X|54=1|40=2|38=100.0000|44=10.00000000|60=t1|10=253|"

abbrev wrong_sum : List ℕ
wrong_sum = ascii "8=FIX.4.4|9=84|35=D|49=GW|56=DSK|34=702|52=t1|11=A|55=X|54=1|40=2|38=100.0000|44=10.00000000|60=t1|10=254|"

record Samples : Type 0 where
  -- 15 fields, each with its tag, where its value starts and how long it is
  taken : fields_read order ≡ record {
    refusal = 0;
    count = 15;
    tag = (8 ∷ 9 ∷ 35 ∷ 49 ∷ 56 ∷ 34 ∷ 52 ∷ 11 ∷ 55 ∷ 54 ∷ 40 ∷ 38 ∷ 44 ∷ 60 ∷ 10 ∷ []) ++ zeros 17;
    at = (2 ∷ 12 ∷ 18 ∷ 23 ∷ 29 ∷ 36 ∷ 43 ∷ 49 ∷ 54 ∷ 59 ∷ 64 ∷ 69 ∷ 81 ∷ 96 ∷ 102 ∷ []) ++ zeros 17;
    length = (7 ∷ 2 ∷ 1 ∷ 2 ∷ 3 ∷ 3 ∷ 2 ∷ 1 ∷ 1 ∷ 1 ∷ 1 ∷ 8 ∷ 11 ∷ 2 ∷ 3 ∷ []) ++ zeros 17;
  }
  refused : fields_read wrong_sum ≡ record { refusal = 3; count = 0; tag = zeros 32; at = zeros 32; length = zeros 32 }

samples : Samples
unfolding if◌then◌otherwise◌ maybe size range fields in_range value required allowed required_bits allowed_bits all_below first_below list_below is_side sides is_ordtype ordtypes is_timeinforce timesinforce is_status statuses is_exectype exectypes is_alnum digits_by digits low_digits down decimal before after pieces piece spellings field_in fields_in body value_in tables rows types type_of kind_of texts fixed_text fixed_text_number is_plain places spelling value_of unspelled held_in unsaid contents inner front framed fields_of bytes_for paired shaped ranged texted typed is_writing loose_of is_message read_of place_of tabled fields_read
samples = record { taken = refl; refused = refl }
