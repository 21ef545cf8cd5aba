-- What the writer answers to smallest records, and the reader to a message with one fault each; and the words of the fixed texts. Each is
-- computed. In a faulty message 9 and 10 are right, unless they are the fault. Rests on Small and Message.
use Rattle.std.specs.Prelude.{ℕ, ◌≡◌, refl, List, [], ◌∷◌, ◌++◌, Bool, true, false, eqb, take, Option, None, Some}
use Prim.Native.String.{String}
use Rattle.prelude.specs.Cases.{if◌then◌otherwise◌, maybe}
use Rattle.prelude.specs.Below.{all_below, first_below}
use Rattle.prelude.specs.Number.{bytes_of}
use Rattle.prelude.specs.Span.{span}
use Rattle.prelude.specs.Texts.{text_of}
use Rattle.format.specs.Codes.{sides, ordtypes, timesinforce, statuses, exectypes, is_side, is_ordtype, is_timeinforce, is_status, is_exectype, is_alnum, is_none, is_name}
use Rattle.format.specs.Format.{size, range, fields, in_range, is_kind, required, allowed, required_bits, allowed_bits, joined, bits_right}
use Rattle.format.specs.Places.{extent, next, start, strip, part, content, value, end_of, right_at, shaped as recordShaped}
use Rattle.format.specs.Refusal.{message_shaped, name_in, ranged as recordRanged}
use Rattle.format.specs.Wire.{encode}
use Rattle.records.specs.Parts.{whole_message}
use Rattle.decimal.specs.Decimal.{digits_by, digits, low_digits, down, decimal}
use Rattle.fix_words.specs.Lists.{before, after, pieces, same}
use Rattle.fix_words.specs.Ascii.{ascii}
use Rattle.fix_words.specs.Small.{Held, holds, says, word, made, here}
use Rattle.fix_words.specs.Spelling.{piece, spellings, field_in, fields_in}
use Rattle.fix_words.specs.Rows.{body, value_in}
use Rattle.fix_words.specs.Values.{tables, rows, types, type_of, kind_of, texts, fixed_text, fixed_text_number, is_plain, places, spelling, or_else, exec_id, value_of, unspelled, held_in, unsaid, contents}
use Rattle.fix_words.specs.Message.{inner, front, framed, fields_of, bytes_for, shape_at, range_at, paired, shaped, ranged, texted, typed, is_writing, loose_of, is_message, read_of}
use Rattle.fix_words.specs.Record.{field_at, session, write_refusal}

-- ---- the fixed texts

record Words : Type 0 where
  text0 : fixed_text 0 ≡ []
  text1 : fixed_text 1 ≡ ascii "gateway is cancelling"
  text2 : fixed_text 2 ≡ ascii "replace pending"
  text3 : fixed_text 3 ≡ ascii "below filled"
  text4 : fixed_text 4 ≡ ascii "blocked"
  text5 : fixed_text 5 ≡ ascii "duplicate"
  text6 : fixed_text 6 ≡ ascii "unknown order"
  text7 : fixed_text 7 ≡ ascii "order is done"
  text8 : fixed_text 8 ≡ ascii "too many requests"
  text9 : fixed_text 9 ≡ ascii "side or symbol"
  text10 : fixed_text 10 ≡ ascii "rejected by the venue"
  text11 : fixed_text 11 ≡ ascii "not sent before restart"
  text12 : fixed_text 12 ≡ ascii "Symbol"
  text13 : fixed_text 13 ≡ ascii "OrderQty"
  text14 : fixed_text 14 ≡ ascii "NoReferencePrice"
  text15 : fixed_text 15 ≡ ascii "Notional"
  text16 : fixed_text 16 ≡ ascii "PriceBand"
  text17 : fixed_text 17 ≡ ascii "SelfTrade"
  text18 : fixed_text 18 ≡ ascii "Credit"
  text19 : fixed_text 19 ≡ []

words : Words
unfolding if◌then◌otherwise◌ texts fixed_text
words = record {
  text0 = refl;
  text1 = refl;
  text2 = refl;
  text3 = refl;
  text4 = refl;
  text5 = refl;
  text6 = refl;
  text7 = refl;
  text8 = refl;
  text9 = refl;
  text10 = refl;
  text11 = refl;
  text12 = refl;
  text13 = refl;
  text14 = refl;
  text15 = refl;
  text16 = refl;
  text17 = refl;
  text18 = refl;
  text19 = refl;
}

-- ---- the writer

-- the smallest record, of a new order, with this symbol and side
abbrev least_of : (symbol side : String) → List ℕ
least_of symbol side = made 18 (holds 1 (3 ∷ 0 ∷ []) ∷ says 5 "A" ∷ says 6 symbol ∷ says 7 side ∷ says 8 "1" ∷ word 9 1 ∷ [])

abbrev least : List ℕ
least = least_of "X" "1"

-- a report, with these fields between 17 and 24, and these between 26 and 31
abbrev report_of : String → (early late : List Held) → List ℕ
report_of name early late =
    made 16 (holds 0 (3 ∷ 0 ∷ []) ∷ says 2 name ∷ says 3 "c" ∷ says 6 "X" ∷ says 7 "1" ∷ says 8 "1" ∷ word 9 1 ∷ says 12 "0" ∷ says 13 "0" ∷ word 14 0
    ∷ word 16 0 ∷ word 17 0 ∷ (early ++ (word 24 1 ∷ word 25 1 ∷ holds 26 (bytes_of 16 0) ∷ (late ++ (holds 31 (0 ∷ []) ∷ [])))))

-- a reject, with these texts
abbrev reject_of : List Held → List ℕ
reject_of texts =
    made 17 (holds 0 (3 ∷ 0 ∷ []) ∷ says 3 "c" ∷ says 4 "b" ∷ says 13 "0" ∷ holds 19 (1 ∷ 0 ∷ 0 ∷ 0 ∷ []) ∷ (texts ++ (holds 28 (1 ∷ []) ∷ holds 29 (1 ∷ []) ∷ [])))

-- and one whose ClOrdID, OrigClOrdID and text have bytes 32, 61 and from 127 on
abbrev high_reject : List ℕ
high_reject =
    made 17 (holds 0 (3 ∷ 0 ∷ []) ∷ holds 3 (127 ∷ 255 ∷ []) ∷ holds 4 (32 ∷ 128 ∷ []) ∷ says 13 "0" ∷ holds 19 (1 ∷ 0 ∷ 0 ∷ 0 ∷ []) ∷ holds 20 (61 ∷ 200 ∷ [])
    ∷ holds 28 (1 ∷ []) ∷ holds 29 (1 ∷ []) ∷ [])

-- a cancel with this venue OrderID
abbrev cancel_of : String → List ℕ
cancel_of name = made 19 (holds 1 (3 ∷ 0 ∷ []) ∷ says 5 "B" ∷ says 6 "X" ∷ says 7 "1" ∷ says 8 "1" ∷ word 9 1 ∷ says 18 name ∷ says 30 "A" ∷ [])

abbrev reason : Held
reason = holds 19 (1 ∷ 0 ∷ 0 ∷ 0 ∷ [])

abbrev answer_to : List ℕ → ℕ
answer_to r = write_refusal r here 300

-- with these three texts of the session
abbrev answer_in : List ℕ → (sender target time : List ℕ) → ℕ
answer_in r sender target time = write_refusal r (session sender target 702 time) 300

record Answers : Type 0 where
  -- 3: no message, another kind, bits that are wrong, a byte over or missing
  taken : answer_to least ≡ 0
  nothing : answer_to [] ≡ 3
  kind_below : answer_to (made 15 []) ≡ 3
  kind_above : answer_to (made 21 []) ≡ 3
  an_event : answer_to (made 9 (says 2 "A" ∷ [])) ≡ 3
  no_side : answer_to (made 18 (holds 1 (3 ∷ 0 ∷ []) ∷ says 5 "A" ∷ says 6 "X" ∷ says 8 "1" ∷ word 9 1 ∷ [])) ≡ 3
  a_name_too : answer_to (made 18 (holds 1 (3 ∷ 0 ∷ []) ∷ says 2 "A" ∷ says 5 "A" ∷ says 6 "X" ∷ says 7 "1" ∷ says 8 "1" ∷ word 9 1 ∷ [])) ≡ 3
  byte_over : answer_to (least ++ (0 ∷ [])) ≡ 3
  byte_missing : answer_to (take 20 least) ≡ 3
  -- 3: a reason and its origin together, in a report not both texts, in a reject one
  report : answer_to (report_of "A" [] []) ≡ 0
  reason_alone : answer_to (report_of "A" (reason ∷ []) []) ≡ 3
  origin_alone : answer_to (report_of "A" [] (holds 28 (1 ∷ []) ∷ [])) ≡ 3
  two_texts : answer_to (report_of "A" (says 20 "t" ∷ []) (holds 27 (1 ∷ []) ∷ [])) ≡ 3
  reject : answer_to (reject_of (says 20 "t" ∷ [])) ≡ 0
  no_text_lem : answer_to (reject_of []) ≡ 3
  both_texts : answer_to (reject_of (says 20 "t" ∷ holds 27 (1 ∷ []) ∷ [])) ≡ 3
  -- 4: a code that is not listed, a text or number out of range, a name that is malformed, a fixed text past the list
  side_nine : answer_to (least_of "X" "9") ≡ 4
  symbol_16 : answer_to (least_of "ABCDEFGHIJKLMNOP" "1") ≡ 0
  symbol_17 : answer_to (least_of "ABCDEFGHIJKLMNOPQ" "1") ≡ 4
  symbol_none : answer_to (least_of "" "1") ≡ 4
  quantity_over : answer_to (made 18 (holds 1 (3 ∷ 0 ∷ []) ∷ says 5 "A" ∷ says 6 "X" ∷ says 7 "1" ∷ says 8 "1" ∷ word 9 1000000000001 ∷ [])) ≡ 4
  named_none : answer_to (report_of "NONE" [] []) ≡ 4
  named_a_dash : answer_to (report_of "A-1" [] []) ≡ 4
  fixed_18 : answer_to (reject_of (holds 27 (18 ∷ []) ∷ [])) ≡ 0
  fixed_0 : answer_to (reject_of (holds 27 (0 ∷ []) ∷ [])) ≡ 4
  fixed_19 : answer_to (reject_of (holds 27 (19 ∷ []) ∷ [])) ≡ 4
  three_first : answer_to (least_of "X" "9" ++ (0 ∷ [])) ≡ 3
  -- 9: a text that is empty, or has a byte below 32
  no_sender : answer_in least [] (ascii "T") (ascii "t") ≡ 9
  no_target : answer_in least (ascii "S") [] (ascii "t") ≡ 9
  no_time : answer_in least (ascii "S") (ascii "T") [] ≡ 9
  low_sender : answer_in least (83 ∷ 31 ∷ []) (ascii "T") (ascii "t") ≡ 9
  low_target : answer_in least (ascii "S") (31 ∷ 84 ∷ []) (ascii "t") ≡ 9
  low_time : answer_in least (ascii "S") (ascii "T") (116 ∷ 1 ∷ []) ≡ 9
  high_bytes : answer_in least (32 ∷ []) (61 ∷ 127 ∷ []) (255 ∷ []) ≡ 0
  high_texts : answer_to high_reject ≡ 0
  low_text : answer_to (reject_of (holds 20 (110 ∷ 10 ∷ []) ∷ [])) ≡ 9
  venue_named : answer_to (cancel_of "V") ≡ 0
  venue_unnamed : answer_to (cancel_of "") ≡ 9
  four_first : answer_in (least_of "X" "9") [] (ascii "T") (ascii "t") ≡ 4
  -- 10: room for all bytes, 89 of an order and 165 of a report, or none
  room : write_refusal least here 89 ≡ 0
  no_room : write_refusal least here 88 ≡ 10
  report_room : write_refusal (report_of "A" [] []) here 165 ≡ 0
  report_no_room : write_refusal (report_of "A" [] []) here 164 ≡ 10
  nine_first : write_refusal least (session [] (ascii "T") 702 (ascii "t")) 0 ≡ 9

answers : Answers
unfolding if◌then◌otherwise◌ encode size range fields in_range value required allowed required_bits allowed_bits all_below is_side sides is_ordtype ordtypes is_timeinforce timesinforce is_status statuses is_exectype exectypes is_alnum is_none is_name is_kind joined bits_right span extent next start strip part content end_of right_at recordShaped message_shaped text_of name_in recordRanged whole_message digits_by digits low_digits down decimal piece spellings body tables rows types type_of texts fixed_text is_plain places spelling value_of inner front framed fields_of bytes_for texted field_at write_refusal
answers = record {
  taken = refl;
  nothing = refl;
  kind_below = refl;
  kind_above = refl;
  an_event = refl;
  no_side = refl;
  a_name_too = refl;
  byte_over = refl;
  byte_missing = refl;
  report = refl;
  reason_alone = refl;
  origin_alone = refl;
  two_texts = refl;
  reject = refl;
  no_text_lem = refl;
  both_texts = refl;
  side_nine = refl;
  symbol_16 = refl;
  symbol_17 = refl;
  symbol_none = refl;
  quantity_over = refl;
  named_none = refl;
  named_a_dash = refl;
  fixed_18 = refl;
  fixed_0 = refl;
  fixed_19 = refl;
  three_first = refl;
  no_sender = refl;
  no_target = refl;
  no_time = refl;
  low_sender = refl;
  low_target = refl;
  low_time = refl;
  high_bytes = refl;
  high_texts = refl;
  low_text = refl;
  venue_named = refl;
  venue_unnamed = refl;
  four_first = refl;
  room = refl;
  no_room = refl;
  report_room = refl;
  report_no_room = refl;
  nine_first = refl;
}

-- ---- the reader

abbrev reads : String → ℕ
reads x = (read_of (ascii x)).refusal

-- an order, and with one fault each: tags, order of fields, numbers, codes, texts
record Orders : Type 0 where
  order : reads "8=FIX.4.4|9=84|35=D|49=GW|56=DSK|34=702|52=t1|11=A|55=X|54=1|40=2|38=100.0000|44=10.00000000|60=t1|10=253|" ≡ 0
  zero_in_tag : reads "8=FIX.4.4|9=85|35=D|49=GW|56=DSK|34=702|52=t1|11=A|55=X|054=1|40=2|38=100.0000|44=10.00000000|60=t1|10=046|" ≡ 3
  tag_twice : reads "8=FIX.4.4|9=89|35=D|49=GW|56=DSK|34=702|52=t1|11=A|55=X|54=1|54=1|40=2|38=100.0000|44=10.00000000|60=t1|10=218|" ≡ 3
  tag_missing : reads "8=FIX.4.4|9=79|35=D|49=GW|56=DSK|34=702|52=t1|11=A|54=1|40=2|38=100.0000|44=10.00000000|60=t1|10=001|" ≡ 3
  tags_exchanged : reads "8=FIX.4.4|9=84|35=D|49=GW|56=DSK|34=702|52=t1|11=A|54=1|55=X|40=2|38=100.0000|44=10.00000000|60=t1|10=253|" ≡ 3
  another_tag : reads "8=FIX.4.4|9=89|35=D|49=GW|56=DSK|34=702|52=t1|11=A|55=X|21=1|54=1|40=2|38=100.0000|44=10.00000000|60=t1|10=212|" ≡ 3
  no_equals : reads "8=FIX.4.4|9=83|35=D|49=GW|56=DSK|34=702|52=t1|11=A|55=X|541|40=2|38=100.0000|44=10.00000000|60=t1|10=191|" ≡ 3
  zero_in_quantity : reads "8=FIX.4.4|9=85|35=D|49=GW|56=DSK|34=702|52=t1|11=A|55=X|54=1|40=2|38=0100.0000|44=10.00000000|60=t1|10=046|" ≡ 3
  no_point : reads "8=FIX.4.4|9=83|35=D|49=GW|56=DSK|34=702|52=t1|11=A|55=X|54=1|40=2|38=1000000|44=10.00000000|60=t1|10=206|" ≡ 3
  three_decimals : reads "8=FIX.4.4|9=83|35=D|49=GW|56=DSK|34=702|52=t1|11=A|55=X|54=1|40=2|38=100.000|44=10.00000000|60=t1|10=204|" ≡ 3
  no_whole_part : reads "8=FIX.4.4|9=81|35=D|49=GW|56=DSK|34=702|52=t1|11=A|55=X|54=1|40=2|38=.0000|44=10.00000000|60=t1|10=105|" ≡ 3
  price_of_four : reads "8=FIX.4.4|9=80|35=D|49=GW|56=DSK|34=702|52=t1|11=A|55=X|54=1|40=2|38=100.0000|44=10.0000|60=t1|10=057|" ≡ 3
  signed : reads "8=FIX.4.4|9=85|35=D|49=GW|56=DSK|34=702|52=t1|11=A|55=X|54=1|40=2|38=+100.0000|44=10.00000000|60=t1|10=041|" ≡ 3
  side_nine : reads "8=FIX.4.4|9=84|35=D|49=GW|56=DSK|34=702|52=t1|11=A|55=X|54=9|40=2|38=100.0000|44=10.00000000|60=t1|10=005|" ≡ 3
  two_sides : reads "8=FIX.4.4|9=85|35=D|49=GW|56=DSK|34=702|52=t1|11=A|55=X|54=11|40=2|38=100.0000|44=10.00000000|60=t1|10=047|" ≡ 3
  symbol_16 : reads "8=FIX.4.4|9=99|35=D|49=GW|56=DSK|34=702|52=t1|11=A|55=ABCDEFGHIJKLMNOP|54=1|40=2|38=100.0000|44=10.00000000|60=t1|10=051|" ≡ 0
  symbol_17 : reads "8=FIX.4.4|9=100|35=D|49=GW|56=DSK|34=702|52=t1|11=A|55=ABCDEFGHIJKLMNOPQ|54=1|40=2|38=100.0000|44=10.00000000|60=t1|10=163|" ≡ 3
  symbol_none : reads "8=FIX.4.4|9=83|35=D|49=GW|56=DSK|34=702|52=t1|11=A|55=|54=1|40=2|38=100.0000|44=10.00000000|60=t1|10=164|" ≡ 3
  no_sender : reads "8=FIX.4.4|9=82|35=D|49=|56=DSK|34=702|52=t1|11=A|55=X|54=1|40=2|38=100.0000|44=10.00000000|60=t1|10=093|" ≡ 3
  zero_in_sequence : reads "8=FIX.4.4|9=85|35=D|49=GW|56=DSK|34=0702|52=t1|11=A|55=X|54=1|40=2|38=100.0000|44=10.00000000|60=t1|10=046|" ≡ 3
  no_sequence : reads "8=FIX.4.4|9=81|35=D|49=GW|56=DSK|34=|52=t1|11=A|55=X|54=1|40=2|38=100.0000|44=10.00000000|60=t1|10=097|" ≡ 3
  another_type : reads "8=FIX.4.4|9=84|35=A|49=GW|56=DSK|34=702|52=t1|11=A|55=X|54=1|40=2|38=100.0000|44=10.00000000|60=t1|10=250|" ≡ 3
  another_version : reads "8=FIX.4.2|9=84|35=D|49=GW|56=DSK|34=702|52=t1|11=A|55=X|54=1|40=2|38=100.0000|44=10.00000000|60=t1|10=251|" ≡ 3
  another_time : reads "8=FIX.4.4|9=84|35=D|49=GW|56=DSK|34=702|52=t1|11=A|55=X|54=1|40=2|38=100.0000|44=10.00000000|60=t2|10=254|" ≡ 3
  no_time : reads "8=FIX.4.4|9=78|35=D|49=GW|56=DSK|34=702|52=t1|11=A|55=X|54=1|40=2|38=100.0000|44=10.00000000|10=183|" ≡ 3

orders : Orders
unfolding if◌then◌otherwise◌ maybe size range fields in_range value required allowed required_bits allowed_bits all_below first_below is_side sides is_ordtype ordtypes is_timeinforce timesinforce is_status statuses is_exectype exectypes is_alnum digits_by digits low_digits down decimal before after pieces piece spellings field_in fields_in body value_in tables rows types type_of kind_of texts fixed_text fixed_text_number is_plain places spelling value_of unspelled held_in unsaid contents inner front framed fields_of bytes_for paired shaped ranged texted typed is_writing loose_of is_message read_of
orders = record {
  order = refl;
  zero_in_tag = refl;
  tag_twice = refl;
  tag_missing = refl;
  tags_exchanged = refl;
  another_tag = refl;
  no_equals = refl;
  zero_in_quantity = refl;
  no_point = refl;
  three_decimals = refl;
  no_whole_part = refl;
  price_of_four = refl;
  signed = refl;
  side_nine = refl;
  two_sides = refl;
  symbol_16 = refl;
  symbol_17 = refl;
  symbol_none = refl;
  no_sender = refl;
  zero_in_sequence = refl;
  no_sequence = refl;
  another_type = refl;
  another_version = refl;
  another_time = refl;
  no_time = refl;
}

-- 9 and 10, and the end
record Ends : Type 0 where
  length_less : reads "8=FIX.4.4|9=83|35=D|49=GW|56=DSK|34=702|52=t1|11=A|55=X|54=1|40=2|38=100.0000|44=10.00000000|60=t1|10=252|" ≡ 3
  length_with_zero : reads "8=FIX.4.4|9=084|35=D|49=GW|56=DSK|34=702|52=t1|11=A|55=X|54=1|40=2|38=100.0000|44=10.00000000|60=t1|10=045|" ≡ 3
  sum_more : reads "8=FIX.4.4|9=84|35=D|49=GW|56=DSK|34=702|52=t1|11=A|55=X|54=1|40=2|38=100.0000|44=10.00000000|60=t1|10=254|" ≡ 3
  reject : reads "8=FIX.4.4|9=85|35=9|49=GW|56=DSK|34=702|52=t1|37=NONE|11=c2|41=c1|39=8|102=1|58=unknown order|434=2|10=106|" ≡ 0
  sum_spaced : reads "8=FIX.4.4|9=85|35=9|49=GW|56=DSK|34=702|52=t1|37=NONE|11=c2|41=c1|39=8|102=1|58=unknown order|434=2|10= 06|" ≡ 3
  sum_four : reads "8=FIX.4.4|9=85|35=9|49=GW|56=DSK|34=702|52=t1|37=NONE|11=c2|41=c1|39=8|102=1|58=unknown order|434=2|10=0106|" ≡ 3
  byte_over : reads "8=FIX.4.4|9=84|35=D|49=GW|56=DSK|34=702|52=t1|11=A|55=X|54=1|40=2|38=100.0000|44=10.00000000|60=t1|10=253||" ≡ 3
  byte_missing : reads "8=FIX.4.4|9=84|35=D|49=GW|56=DSK|34=702|52=t1|11=A|55=X|54=1|40=2|38=100.0000|44=10.00000000|60=t1|10=253" ≡ 3
  message_twice : reads "8=FIX.4.4|9=84|35=D|49=GW|56=DSK|34=702|52=t1|11=A|55=X|54=1|40=2|38=100.0000|44=10.00000000|60=t1|10=253|8=FIX.4.4|9=84|35=D|49=GW|56=DSK|34=702|52=t1|11=A|55=X|54=1|40=2|38=100.0000|44=10.00000000|60=t1|10=253|" ≡ 3
  nothing : reads "" ≡ 3

ends : Ends
unfolding if◌then◌otherwise◌ maybe size range fields in_range value required allowed required_bits allowed_bits all_below first_below is_side sides is_ordtype ordtypes is_timeinforce timesinforce is_status statuses is_exectype exectypes is_alnum digits_by digits low_digits down decimal before after pieces piece spellings field_in fields_in body value_in tables rows types type_of kind_of texts fixed_text fixed_text_number is_plain places spelling value_of unspelled held_in unsaid contents inner front framed fields_of bytes_for paired shaped ranged texted typed is_writing loose_of is_message read_of
ends = record {
  length_less = refl;
  length_with_zero = refl;
  sum_more = refl;
  reject = refl;
  sum_spaced = refl;
  sum_four = refl;
  byte_over = refl;
  byte_missing = refl;
  message_twice = refl;
  nothing = refl;
}

-- a reject, and a cancel whose venue named its order NONE
record Rejects : Type 0 where
  no_text_lem : reads "8=FIX.4.4|9=68|35=9|49=GW|56=DSK|34=702|52=t1|37=NONE|11=c2|41=c1|39=8|102=1|434=2|10=116|" ≡ 3
  response_3 : reads "8=FIX.4.4|9=85|35=9|49=GW|56=DSK|34=702|52=t1|37=NONE|11=c2|41=c1|39=8|102=1|58=unknown order|434=3|10=107|" ≡ 3
  cancel : reads "8=FIX.4.4|9=77|35=F|49=GW|56=DSK|34=702|52=t1|11=A-1|55=X|54=5|38=0.0001|37=NONE|41=A|60=t1|10=054|" ≡ 0
  cancel_with_type : reads "8=FIX.4.4|9=82|35=F|49=GW|56=DSK|34=702|52=t1|11=A-1|55=X|54=5|40=2|38=0.0001|37=NONE|41=A|60=t1|10=006|" ≡ 3

rejects : Rejects
unfolding if◌then◌otherwise◌ maybe size range fields in_range value required allowed required_bits allowed_bits all_below first_below is_side sides is_ordtype ordtypes is_timeinforce timesinforce is_status statuses is_exectype exectypes is_alnum digits_by digits low_digits down decimal before after pieces piece spellings field_in fields_in body value_in tables rows types type_of kind_of texts fixed_text fixed_text_number is_plain places spelling value_of unspelled held_in unsaid contents inner front framed fields_of bytes_for paired shaped ranged texted typed is_writing loose_of is_message read_of
rejects = record {
  no_text_lem = refl;
  response_3 = refl;
  cancel = refl;
  cancel_with_type = refl;
}

-- A report is too long to compute whole: here are what is read of a value, and the question that it fails. 37; 58 behind 31; both 58; 17, whose number
-- is read, and which, written again behind the name, has to be as it stood.
abbrev read_as : ℕ → String → Option (List ℕ)
read_as b v = held_in b (Some (ascii v))

abbrev exec_again : (name exec : String) → Bool
exec_again name exec = same (exec_id (Some (ascii name)) (or_else [] (read_as 25 exec))) (ascii exec)

record Reports : Type 0 where
  named : shape_at 16 2 (read_as 2 "A") ≡ true
  named_none : shape_at 16 2 (read_as 2 "NONE") ≡ false
  fixed_late : range_at 27 (read_as 27 "blocked") ≡ true
  text_late : range_at 27 (read_as 27 "ok") ≡ false
  one_text : paired 16 (λ b. if eqb b 27 then None otherwise Some []) ≡ true
  two_texts : paired 16 (λ b. Some []) ≡ false
  exec : exec_again "A" "A.300" ≡ true
  exec_of_another : exec_again "A" "B.300" ≡ false
  exec_without_point : exec_again "A" "A300" ≡ false
  exec_with_zero : exec_again "A" "A.0300" ≡ false
  exec_without_number : exec_again "A" "A." ≡ false
  exec_with_blank : exec_again "A" "A. 300" ≡ false

reports : Reports
unfolding if◌then◌otherwise◌ maybe size range fields in_range value required allowed required_bits allowed_bits all_below first_below is_alnum digits_by digits before after texts fixed_text fixed_text_number is_plain unspelled held_in paired
reports = record {
  named = refl;
  named_none = refl;
  fixed_late = refl;
  text_late = refl;
  one_text = refl;
  two_texts = refl;
  exec = refl;
  exec_of_another = refl;
  exec_without_point = refl;
  exec_with_zero = refl;
  exec_without_number = refl;
  exec_with_blank = refl;
}
