-- The fields of a record by their bits: its numbers, its texts, and what each field holds. Rests on format.
use Rattle.std.specs.Prelude.{ℕ, ◌-◌, min, List, [], ◌∷◌, ◌++◌, length, get_or, take, drop, replicate, eqb}
use Rattle.prelude.specs.Cases.{if◌then◌otherwise◌}
use Rattle.prelude.specs.Number.{number, bytes_of}
use Rattle.prelude.specs.Texts.{contents, text_of}
use Rattle.prelude.specs.declared.Text.{Text}
use Rattle.format.specs.Format.{size, is_text_bit}
use Rattle.format.specs.Places.{value}
use Rattle.records.specs.declared.LongText.{LongText}
use Rattle.records.specs.declared.Ids.{Ids}
use Rattle.records.specs.declared.Record.{Record}

-- ---- written

-- the number of each bit, of a text its length, of the fill price its low word; 0 if a bit has no field
abbrev pub numbers_of : Record → List ℕ
numbers_of r =
    r.client
    ∷ r.venue
    ∷ r.ids.name.len
    ∷ r.ids.clordid.len
    ∷ r.ids.origclordid.len
    ∷ r.ids.downstream.len
    ∷ r.ids.symbol.len
    ∷ r.terms.side
    ∷ r.terms.ordtype
    ∷ r.terms.qty
    ∷ r.terms.price
    ∷ r.terms.timeinforce
    ∷ r.exec.exectype
    ∷ r.exec.status
    ∷ r.exec.lastqty
    ∷ r.exec.lastpx
    ∷ r.exec.cumqty
    ∷ r.exec.avgpx
    ∷ r.ids.venueorderid.len
    ∷ r.reason
    ∷ r.text.len
    ∷ 0
    ∷ 0
    ∷ r.verdict
    ∷ r.told.leavesqty
    ∷ r.told.execseq
    ∷ get_or r.told.fillprice 0 0
    ∷ r.told.fixedtext
    ∷ r.told.origin
    ∷ r.told.responseto
    ∷ r.ids.origdownstream.len
    ∷ r.told.source
    ∷ []

-- the high word of the fill price
abbrev pub high_of : Record → ℕ
high_of r = get_or r.told.fillprice 1 0

-- the text of a bit
unfoldable pub text_by : Ids → ℕ → Text
text_by ids b =
    if eqb b 2 then ids.name otherwise
    if eqb b 3 then ids.clordid otherwise
    if eqb b 4 then ids.origclordid otherwise
    if eqb b 5 then ids.downstream otherwise
    if eqb b 6 then ids.symbol otherwise
    if eqb b 18 then ids.venueorderid otherwise
    ids.origdownstream

-- the bytes of a text that are written, at most as many as it has room for
unfoldable pub short_bytes : Text → List ℕ
short_bytes t = take 32 (contents t)

unfoldable pub long_bytes : LongText → List ℕ
long_bytes t = take 64 (take t.len t.bytes)

unfoldable pub spelled : Ids → LongText → ℕ → List ℕ
spelled ids text b = if eqb b 20 then long_bytes text otherwise short_bytes (text_by ids b)

-- a number in n bytes; one of more than 8 goes on with a second word
unfoldable pub words : ℕ → ℕ → ℕ → List ℕ
words n low high = bytes_of (min n 8) low ++ bytes_of (n - 8) high

unfoldable pub held_by : List ℕ → ℕ → Ids → LongText → ℕ → List ℕ
held_by numbers high ids text b = if is_text_bit b then spelled ids text b otherwise words (size b) (get_or numbers b 0) high

-- what field b of a record holds
abbrev pub held : Record → ℕ → List ℕ
held r = held_by (numbers_of r) (high_of r) r.ids r.text

-- ---- read

unfoldable pub long_of : List ℕ → LongText
long_of l = record { bytes = take 64 (l ++ replicate 64 0); len = length l }

abbrev pub ids_of : (ℕ → List ℕ) → Ids
ids_of f = record {
  name = text_of (f 2);
  clordid = text_of (f 3);
  origclordid = text_of (f 4);
  downstream = text_of (f 5);
  symbol = text_of (f 6);
  venueorderid = text_of (f 18);
  origdownstream = text_of (f 30);
}

-- the record of a kind, a map, the numbers of its bits, a high word and texts
abbrev pub record_from : ℕ → ℕ → List ℕ → ℕ → Ids → LongText → Record
record_from k m n high ids text = record {
  kind = k;
  map = m;
  client = get_or n 0 0;
  venue = get_or n 1 0;
  reason = get_or n 19 0;
  verdict = get_or n 23 0;
  ids = ids;
  terms = record { side = get_or n 7 0; ordtype = get_or n 8 0; timeinforce = get_or n 11 0; qty = get_or n 9 0; price = get_or n 10 0 };
  exec = record {
    exectype = get_or n 12 0;
    status = get_or n 13 0;
    lastqty = get_or n 14 0;
    lastpx = get_or n 15 0;
    cumqty = get_or n 16 0;
    avgpx = get_or n 17 0;
  };
  told = record {
    leavesqty = get_or n 24 0;
    execseq = get_or n 25 0;
    fillprice = get_or n 26 0 ∷ high ∷ [];
    fixedtext = get_or n 27 0;
    origin = get_or n 28 0;
    responseto = get_or n 29 0;
    source = get_or n 31 0;
  };
  text = text;
}

-- the record of a kind, a map, and what each field holds
abbrev pub record_of : ℕ → ℕ → (ℕ → List ℕ) → Record
record_of k m f = record {
  kind = k;
  map = m;
  client = value 0 (f 0);
  venue = value 1 (f 1);
  reason = value 19 (f 19);
  verdict = value 23 (f 23);
  ids = ids_of f;
  terms = record { side = value 7 (f 7); ordtype = value 8 (f 8); timeinforce = value 11 (f 11); qty = value 9 (f 9); price = value 10 (f 10) };
  exec = record {
    exectype = value 12 (f 12);
    status = value 13 (f 13);
    lastqty = value 14 (f 14);
    lastpx = value 15 (f 15);
    cumqty = value 16 (f 16);
    avgpx = value 17 (f 17);
  };
  told = record {
    leavesqty = value 24 (f 24);
    execseq = value 25 (f 25);
    fillprice = value 26 (f 26) ∷ number (drop 8 (f 26)) ∷ [];
    fixedtext = value 27 (f 27);
    origin = value 28 (f 28);
    responseto = value 29 (f 29);
    source = value 31 (f 31);
  };
  text = long_of (f 20);
}

-- all zero
unfoldable pub blank : Record
blank = record_from 0 0 [] 0 (record {
  name = text_of [];
  clordid = text_of [];
  origclordid = text_of [];
  downstream = text_of [];
  symbol = text_of [];
  venueorderid = text_of [];
  origdownstream = text_of [];
}) (long_of [])
