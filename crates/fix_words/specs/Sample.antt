-- Messages in small: of each kind one or two, byte for byte as the definitions write them; every bit that a kind may have stands in one of them, and
-- a field of every form. Rests on Small and Message.
use Rattle.std.specs.Prelude.{ℕ, ◌≡◌, refl, List, [], ◌∷◌, ◌++◌, Bool, true, ◌&&◌, eqb}
use Rattle.std.proofs.Common.{ap, lit<}
use Prim.Native.String.{String}
use Rattle.prelude.specs.Number.{bytes_of}
use Rattle.prelude.specs.Cases.{if◌then◌otherwise◌}
use Rattle.prelude.specs.Below.{all_below}
use Rattle.prelude.specs.Span.{span}
use Rattle.prelude.specs.Texts.{text_of}
use Rattle.format.specs.Codes.{sides, ordtypes, timesinforce, statuses, exectypes, is_side, is_ordtype, is_timeinforce, is_status, is_exectype, is_alnum, is_none, is_name}
use Rattle.format.specs.Format.{size, range, fields, in_range, is_kind, required, allowed, required_bits, allowed_bits, joined, bits_right}
use Rattle.format.specs.Places.{extent, next, start, strip, part, content, value, end_of, right_at, shaped as recordShaped}
use Rattle.format.specs.Refusal.{message_shaped, name_in, ranged as recordRanged}
use Rattle.format.specs.Wire.{encode}
use Rattle.records.specs.Parts.{whole_message}
use Rattle.decimal.specs.Decimal.{digits_by, digits, low_digits, down, decimal}
use Rattle.decimal.specs.Laws.Width.{digits_short}
use Rattle.fix_words.specs.Lists.{same}
use Rattle.fix_words.specs.Ascii.{ascii}
use Rattle.fix_words.specs.Small.{holds, says, word, made, here}
use Rattle.fix_words.specs.Spelling.{piece, spellings}
use Rattle.fix_words.specs.Rows.{body}
use Rattle.fix_words.specs.Values.{tables, rows, types, type_of, texts, fixed_text, is_plain, places, spelling, value_of}
use Rattle.fix_words.specs.Message.{inner, front, framed, fields_of, bytes_for, texted}
use Rattle.fix_words.specs.Record.{field_at, write_of, write_refusal}

-- the writer takes the record, and writes just these bytes
abbrev writes : List ℕ → String → Bool
writes r x = eqb (write_refusal r here 300) 0 && same (write_of r here) (ascii x)

-- a new order, and one with a time in force
abbrev order : List ℕ
order =
    made 18 (holds 1 (3 ∷ 0 ∷ []) ∷ says 5 "A" ∷ says 6 "X" ∷ says 7 "1" ∷ says 8 "2" ∷ word 9 1000000 ∷ word 10 1000000000 ∷ [])

abbrev timed : List ℕ
timed =
    made 18 (holds 1 (3 ∷ 0 ∷ []) ∷ says 5 "A" ∷ says 6 "X" ∷ says 7 "1" ∷ says 8 "2" ∷ word 9 1000000 ∷ word 10 1000000000 ∷ says 11 "3"
    ∷ [])

-- a report with a fixed text, which stands behind 31
abbrev report : List ℕ
report =
    made 16 (holds 0 (3 ∷ 0 ∷ []) ∷ says 2 "A" ∷ says 3 "c1" ∷ says 6 "X" ∷ says 7 "1" ∷ says 8 "1" ∷ word 9 1000000 ∷ says 12 "F"
    ∷ says 13 "1" ∷ word 14 5000 ∷ word 16 400000 ∷ word 17 0 ∷ holds 19 (99 ∷ 0 ∷ 0 ∷ 0 ∷ []) ∷ word 24 600000 ∷ word 25 2 ∷ holds 26 (bytes_of 16 1070000000)
    ∷ holds 27 (3 ∷ []) ∷ holds 28 (1 ∷ []) ∷ holds 31 (1 ∷ []) ∷ [])

-- a report with all else that it may have: a text that came with the event stands before 151
abbrev told : List ℕ
told =
    made 16 (holds 0 (3 ∷ 0 ∷ []) ∷ says 2 "A" ∷ says 3 "c2" ∷ says 4 "c1" ∷ says 6 "X" ∷ says 7 "1" ∷ says 8 "2" ∷ word 9 10000
    ∷ word 10 100000000 ∷ says 11 "0" ∷ says 12 "5" ∷ says 13 "0" ∷ word 14 0 ∷ word 16 0 ∷ word 17 0 ∷ holds 19 (99 ∷ 0 ∷ 0 ∷ 0 ∷ [])
    ∷ says 20 "ok" ∷ word 24 10000 ∷ word 25 300 ∷ holds 26 (bytes_of 16 100000000) ∷ holds 28 (2 ∷ []) ∷ holds 31 (2 ∷ []) ∷ [])

-- done for the day: status 3, and nothing left
abbrev ended : List ℕ
ended =
    made 16 (holds 0 (3 ∷ 0 ∷ []) ∷ says 2 "A" ∷ says 3 "c2" ∷ says 4 "c1" ∷ says 6 "X" ∷ says 7 "1" ∷ says 8 "2" ∷ word 9 10000
    ∷ word 10 100000000 ∷ says 11 "0" ∷ says 12 "3" ∷ says 13 "3" ∷ word 14 0 ∷ word 16 0 ∷ word 17 0
    ∷ word 24 0 ∷ word 25 300 ∷ holds 26 (bytes_of 16 100000000) ∷ holds 31 (2 ∷ []) ∷ [])

-- a reject without an order and with a fixed text, and one of an order with the venue's text
abbrev reject : List ℕ
reject =
    made 17 (holds 0 (3 ∷ 0 ∷ []) ∷ says 3 "c2" ∷ says 4 "c1" ∷ says 13 "8" ∷ holds 19 (1 ∷ 0 ∷ 0 ∷ 0 ∷ []) ∷ holds 27 (6 ∷ [])
    ∷ holds 28 (1 ∷ []) ∷ holds 29 (2 ∷ []) ∷ [])

abbrev refused : List ℕ
refused =
    made 17 (holds 0 (3 ∷ 0 ∷ []) ∷ says 2 "B" ∷ says 3 "c2" ∷ says 4 "c1" ∷ says 13 "0" ∷ holds 19 (232 ∷ 3 ∷ 0 ∷ 0 ∷ []) ∷ says 20 "no"
    ∷ holds 28 (2 ∷ []) ∷ holds 29 (1 ∷ []) ∷ [])

-- all that a cancel and a replace may have
abbrev cancel : List ℕ
cancel =
    made 19 (holds 1 (3 ∷ 0 ∷ []) ∷ says 5 "A-1" ∷ says 6 "X" ∷ says 7 "5" ∷ says 8 "2" ∷ word 9 1 ∷ word 10 7 ∷ says 11 "0"
    ∷ says 18 "NONE" ∷ says 30 "A" ∷ [])

abbrev replace : List ℕ
replace =
    made 20 (holds 1 (3 ∷ 0 ∷ []) ∷ says 5 "A-2" ∷ says 6 "X" ∷ says 7 "2" ∷ says 8 "2" ∷ word 9 5 ∷ word 10 1 ∷ says 11 "3" ∷ says 18 "V9"
    ∷ says 30 "A-1" ∷ [])

record Samples : Type 0 where
  order : writes order "8=FIX.4.4|9=84|35=D|49=GW|56=DSK|34=702|52=t1|11=A|55=X|54=1|40=2|38=100.0000|44=10.00000000|60=t1|10=253|" ≡ true
  timed : writes timed "8=FIX.4.4|9=89|35=D|49=GW|56=DSK|34=702|52=t1|11=A|55=X|54=1|40=2|38=100.0000|44=10.00000000|59=3|60=t1|10=225|" ≡ true
  report : writes report "8=FIX.4.4|9=171|35=8|49=GW|56=DSK|34=702|52=t1|37=A|11=c1|55=X|54=1|40=1|38=100.0000|150=F|39=1|32=0.5000|14=40.0000|6=0.00000000|103=99|151=60.0000|17=A.2|31=10.70000000|58=below filled|10=029|" ≡ true
  told : writes told "8=FIX.4.4|9=183|35=8|49=GW|56=DSK|34=702|52=t1|37=A|11=c2|41=c1|55=X|54=1|40=2|38=1.0000|44=1.00000000|59=0|150=5|39=0|32=0.0000|14=0.0000|6=0.00000000|103=99|58=ok|151=1.0000|17=A.300|31=1.00000000|10=053|" ≡ true
  ended : writes ended "8=FIX.4.4|9=170|35=8|49=GW|56=DSK|34=702|52=t1|37=A|11=c2|41=c1|55=X|54=1|40=2|38=1.0000|44=1.00000000|59=0|150=3|39=3|32=0.0000|14=0.0000|6=0.00000000|151=0.0000|17=A.300|31=1.00000000|10=104|" ≡ true
  reject : writes reject "8=FIX.4.4|9=85|35=9|49=GW|56=DSK|34=702|52=t1|37=NONE|11=c2|41=c1|39=8|102=1|58=unknown order|434=2|10=106|" ≡ true
  refused : writes refused "8=FIX.4.4|9=74|35=9|49=GW|56=DSK|34=702|52=t1|37=B|11=c2|41=c1|39=0|102=1000|58=no|434=1|10=146|" ≡ true
  cancel : writes cancel "8=FIX.4.4|9=77|35=F|49=GW|56=DSK|34=702|52=t1|11=A-1|55=X|54=5|38=0.0001|37=NONE|41=A|60=t1|10=054|" ≡ true
  replace : writes replace "8=FIX.4.4|9=101|35=G|49=GW|56=DSK|34=702|52=t1|11=A-2|55=X|54=2|40=2|38=0.0005|44=0.00000001|59=3|37=V9|41=A-1|60=t1|10=082|" ≡ true

samples : Samples
unfolding if◌then◌otherwise◌ encode size range fields in_range value required allowed required_bits allowed_bits all_below is_side sides is_ordtype ordtypes is_timeinforce timesinforce is_status statuses is_exectype exectypes is_alnum is_none is_name is_kind joined bits_right span extent next start strip part content end_of right_at recordShaped message_shaped text_of name_in recordRanged whole_message digits_by digits low_digits down decimal piece spellings body tables rows types type_of texts fixed_text is_plain places spelling value_of inner front framed fields_of bytes_for texted field_at write_refusal
samples = record { order = refl; timed = refl; report = refl; told = refl; ended = refl; reject = refl; refused = refl; cancel = refl; replace = refl }

-- ---- numbers

-- the largest fill price
whole_most : digits 3402823669209384634633746074317 ≡ digits_by 30 3402823669209384634633746074317
whole_most = digits_short 30 3402823669209384634633746074317 (lit< tt)

largest : decimal 8 340282366920938463463374607431768211455 ≡ ascii "3402823669209384634633746074317.68211455"
unfolding decimal down low_digits digits_by if◌then◌otherwise◌
largest = ap (λ (d : List ℕ). d ++ (46 ∷ low_digits 8 340282366920938463463374607431768211455)) whole_most

-- the largest quantity
quantity_whole : digits 100000000 ≡ digits_by 8 100000000
quantity_whole = digits_short 8 100000000 (lit< tt)

quantity_most : decimal 4 1000000000000 ≡ ascii "100000000.0000"
unfolding decimal down low_digits digits_by if◌then◌otherwise◌
quantity_most = ap (λ (d : List ℕ). d ++ (46 ∷ low_digits 4 1000000000000)) quantity_whole

-- no price
price_none : same (spelling 17 (bytes_of 8 0)) (ascii "0.00000000") ≡ true
unfolding if◌then◌otherwise◌ size range fields digits_by digits low_digits down decimal is_plain places spelling
price_none = refl
