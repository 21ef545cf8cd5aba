-- What the table of a message's fields says: each field is in it, with its value standing where the table says, and behind them are zeros; and a
-- message that was written is read as the fields that it was written with. Rests on Claims and fix_words' laws.
use Rattle.std.proofs.Common.{ℕ, suc, ◌+◌, ◌≤◌, ◌<◌, ◌≡◌, true, leb, ltb, drop, Option, None, Some, refl, sym, ap, subst, ◌∙◌, arith, leb-true, lt-ltb, le-ltb, take-append-drop, drop-cons, drop_at, List, [], ◌∷◌, ◌++◌, append_assoc, length, get_or, take, length-append, take_at}
use Rattle.std.proofs.Math.Decide.{dec_lt}
use Rattle.std.proofs.Math.ListN.{get_or-eq_default}
use Rattle.prelude.specs.Laws.Cases.{split_if, if_true, if_false}
use Rattle.prelude.specs.Lists.{list_below}
use Rattle.prelude.specs.Laws.Lists.{length_list, get_list}
use Rattle.prelude.specs.Number.{Bytes}
use Rattle.prelude.specs.Span.{span}
use Rattle.format.specs.Codes.{within}
use Rattle.decimal.specs.Decimal.{digits}
use Rattle.fix_words.specs.Spelling.{Field, soh, equals, piece, spellings}
use Rattle.fix_words.specs.Rows.{Row, Values, field_of, body}
use Rattle.fix_words.specs.Values.{tables, rows, value_of}
use Rattle.fix_words.specs.Message.{Writing, stamp, inner, front, trailer, framed, fields_of, bytes_for, is_writing, Read}
use Rattle.fix_words.specs.Record.{Session, writing_of, write_refusal, session_typed, write_of}
use Rattle.fix_words.specs.Laws.Spelling.{spellings_append}
use Rattle.fix_words.proofs.Laws.Kinds.{by_kind_lem}
use Rattle.fix_words.proofs.Laws.Trip.{kind, read_back}
use Rattle.fix_words.proofs.Laws.Taken.{is_writing_lem}
use Rattle.fix_words.proofs.Laws.Carried.{carried}
use Rattle.fix_claims.specs.declared.FixFields.{FixFields}
use Rattle.fix_claims.specs.Reading.{no_field, tag_of, place_of, length_of, tabled, fields_read}
use Rattle.fix_claims.specs.Claims.{Zero, Entry, Reads}

-- ---- where a value stands

module _ (fs : List Field) (i : ℕ) (h : i < length fs) where
  abbrev f : Field
  f = get_or fs i no_field

  abbrev before : List ℕ
  before = spellings (take i fs) ++ (digits f.tag ++ (equals ∷ []))

  abbrev rest : List ℕ
  rest = soh ∷ spellings (drop (suc i) fs)

  whole : spellings fs ≡ before ++ (f.value ++ rest)
  unfolding spellings piece
  whole =
      ap spellings (sym (take-append-drop i fs))
      ∙ spellings_append (take i fs) (drop i fs)
      ∙ ap (λ (gs : List Field). spellings (take i fs) ++ spellings gs) (drop-cons fs i no_field h)
      ∙ ap (λ (u : List ℕ). spellings (take i fs) ++ u)
      (append_assoc (digits f.tag) (equals ∷ f.value) rest ∙ sym (append_assoc (digits f.tag) (equals ∷ []) (f.value ++ rest)))
      ∙ sym (append_assoc (spellings (take i fs)) (digits f.tag ++ (equals ∷ [])) (f.value ++ rest))

  place : place_of fs i ≡ length before
  unfolding place_of
  place =
      if_true (ltb i (length fs)) (length (spellings (take i fs)) + length (digits f.tag) + 1) 0 (lt-ltb i (length fs) h)
      ∙ omega (arith, length-append (spellings (take i fs)) (digits f.tag ++ (equals ∷ [])), length-append (digits f.tag) (equals ∷ []))

  -- THE VALUE OF FIELD i is the bytes at its place
  pub value_stands : span (spellings fs) (place_of fs i) (length_of fs i) ≡ f.value
  unfolding span
  value_stands =
      (λ j. take (length_of fs i) (drop (place j) (whole j)))
      ∙ ap (take (length_of fs i)) (drop_at before (f.value ++ rest) (length before) refl)
      ∙ take_at f.value rest (length_of fs i) refl

  -- before it stand the fields before, the tag and '='
  front_stands : take (place_of fs i) (spellings fs) ≡ before
  front_stands = (λ j. take (place j) (whole j)) ∙ take_at before (f.value ++ rest) (length before) refl

  -- and they are within the message
  pub value_within : place_of fs i + length_of fs i ≤ length (spellings fs)
  value_within = omega (arith, place, ap length whole ∙ length-append before (f.value ++ rest), length-append f.value rest)

-- ---- the table

module _ (fs : List Field) (c : ℕ) (i : ℕ) where
  pub entry : length fs ≤ 32 → i < length fs → Entry (spellings fs) (take i fs) (get_or fs i no_field) (tabled c fs) i
  unfolding tabled
  entry few h =
      let l : i < 32 = omega (arith, few, h) in
      let p : get_or (list_below (place_of fs) 32) i 0 ≡ place_of fs i = get_list (place_of fs) 0 32 i l in
      let n : get_or (list_below (length_of fs) 32) i 0 ≡ length_of fs i = get_list (length_of fs) 0 32 i l in
      record {
        tag = get_list (tag_of fs) 0 32 i l;
        value = (λ j. span (spellings fs) (p j) (n j)) ∙ value_stands fs i h;
        within = omega (arith, p, n, value_within fs i h);
        behind = ap (λ (a : ℕ). take a (spellings fs)) p ∙ front_stands fs i h;
      }

  zero_in : (f : ℕ → ℕ) → f i ≡ 0 → get_or (list_below f 32) i 0 ≡ 0
  zero_in f e = go (dec_lt i 32)
    where
      go : Dec (i < 32) → get_or (list_below f 32) i 0 ≡ 0
      go (yes h) = get_list f 0 32 i h ∙ e
      go (no h) = get_or-eq_default (list_below f 32) 0 {n = i} (omega (arith, length_list f 32, h))

  pub zero_past : length fs ≤ i → Zero (tabled c fs) i
  unfolding tabled place_of
  zero_past h =
      let none_there : get_or fs i no_field ≡ no_field = get_or-eq_default fs no_field {n = i} h in
      record {
        tag = zero_in (tag_of fs) (ap (λ (f : Field). f.tag) none_there);
        at = zero_in (place_of fs) (if_false (ltb i (length fs)) (length (spellings (take i fs)) + length (digits (tag_of fs i)) + 1) 0 (le-ltb i (length fs) h));
        length = zero_in (length_of fs) (ap (λ (f : Field). length f.value) none_there);
      }

-- ---- how many fields a message has

body_long : (vs : Values) (fs : List Field) (rows : List Row) → length (body rows vs fs) ≤ length rows + length fs
unfolding body
body_long vs fs [] = omega arith
body_long vs fs (r ∷ rows) = go (vs r.bit) (body_long vs fs rows)
  where
    go : (o : Option (List ℕ)) → length (body rows vs fs) ≤ length rows + length fs → length (field_of r.tag o (body rows vs fs)) ≤ suc (length rows) + length fs
    go None h = omega arith
    go (Some v) h = omega arith

rows_few : (k : ℕ) → within 16 20 k ≡ true → leb (length (rows k)) 20 ≡ true
unfolding rows tables
rows_few = by_kind_lem (λ k. leb (length (rows k)) 20 ≡ true) refl refl refl refl refl

pub fields_few : (w : Writing) → is_writing w ≡ true → length (fields_of w) ≤ 32
unfolding fields_of framed front inner
fields_few w is =
    let s : length (stamp w.kind w.time []) ≤ 1 = split_if (λ (fs : List Field). length fs ≤ 1) (leb 18 w.kind) (λ e. omega arith) (λ e. omega arith) in
    omega (
      arith,
      length-append (front (inner w)) (trailer (spellings (front (inner w))) ∷ []),
      body_long (value_of w.kind w.at) (stamp w.kind w.time []) (rows w.kind),
      leb-true (length (rows w.kind)) 20 (rows_few w.kind (kind w is)),
    )

-- ---- a message that was written

module _ (s : List ℕ) (n : Session) (room : ℕ) (b : Bytes s) (t : session_typed n ≡ true) (e : write_refusal s n room ≡ 0) where
  abbrev fs : List Field
  fs = fields_of (writing_of s n)

  is : is_writing (writing_of s n) ≡ true
  is = is_writing_lem s n room b t e

  table_read : fields_read (write_of s n) ≡ tabled 0 fs
  unfolding fields_read
  table_read = ap (λ (r : Read). tabled r.refusal r.fields) (read_back (writing_of s n) is)

  tabled_reads : Reads s n (write_of s n) (tabled 0 fs)
  unfolding tabled bytes_for
  tabled_reads = record {
    fields = fs;
    carried = carried s n room b t e;
    refusal = refl;
    count = refl;
    few = fields_few (writing_of s n) is;
    each = λ i h. entry fs 0 i (fields_few (writing_of s n) is) h;
    past = λ i h. zero_past fs 0 i h;
  }

  pub reads : Reads s n (write_of s n) (fields_read (write_of s n))
  reads = subst (λ (r : FixFields). Reads s n (write_of s n) r) (sym table_read) tabled_reads
