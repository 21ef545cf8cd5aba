-- Bytes that cannot be cut into fields are no message: a message has at most 29 fields, with tags of at most three digits. Rests on
-- Checks and Split.
use Rattle.std.specs.Prelude.{◌≡◌, ℕ, Bool, true, false, ◌&&◌, List, [], ◌∷◌, ◌++◌, nat_le, nat_lt, Option, None, Some, refl}
use Rattle.std.proofs.Common.{ltb-true}
use Rattle.std.proofs.lemmas.Bool.{and_parts, and_from}
use Rattle.prelude.specs.Laws.Cases.{split_if}
use Rattle.format.specs.Codes.{within}
use Rattle.fix_words.specs.Lists.{every, is_print, same}
use Rattle.fix_words.specs.Spelling.{Field, spellings, fields_in, printable}
use Rattle.fix_words.specs.Rows.{Row, Values, field_of, body}
use Rattle.fix_words.specs.Values.{tables, rows, value_of}
use Rattle.fix_words.specs.Message.{Writing, stamp, inner, front, trailer, framed, fields_of, bytes_for, shaped, is_writing, typed, loose_of, is_message}
use Rattle.fix_words.specs.Laws.Lists.{same_true}
use Rattle.fix_words.proofs.Laws.Kinds.{by_kind_lem}
use Rattle.fix_words.proofs.Laws.Trip.{fields_print}
use Rattle.fix_claims.proofs.Laws.Table.{fields_few}
use Rattle.fix_reader.specs.Laws.Split.{Plains, NoFields}

-- ---- tags of at most three digits

abbrev tagged : ℕ → Bool
tagged t = nat_lt 0 t && nat_lt t 1000

abbrev all_tagged : List Field → Bool
all_tagged [] = true
all_tagged (f ∷ fs) = tagged f.tag && all_tagged fs

abbrev rows_tagged : List Row → Bool
rows_tagged [] = true
rows_tagged (r ∷ rows) = tagged r.tag && rows_tagged rows

tagged_append : (fs gs : List Field) → all_tagged fs ≡ true → all_tagged gs ≡ true → all_tagged (fs ++ gs) ≡ true
tagged_append [] gs a b = b
tagged_append (f ∷ fs) gs a b = let h = and_parts (tagged f.tag) (all_tagged fs) a in and_from _ _ h.0 (tagged_append fs gs h.1 b)

body_tagged : (vs : Values) (fs : List Field) (rows : List Row) → rows_tagged rows ≡ true → all_tagged fs ≡ true → all_tagged (body rows vs fs) ≡ true
unfolding body
body_tagged vs fs [] a b = b
body_tagged vs fs (r ∷ rows) a b = let h = and_parts (tagged r.tag) (rows_tagged rows) a in go (vs r.bit) h.0 (body_tagged vs fs rows h.1 b)
  where
    go : (o : Option (List ℕ)) → tagged r.tag ≡ true → all_tagged (body rows vs fs) ≡ true → all_tagged (field_of r.tag o (body rows vs fs)) ≡ true
    go None p q = q
    go (Some v) p q = and_from _ _ p q

plains_of : (fs : List Field) → all_tagged fs ≡ true → printable fs ≡ true → Plains fs
plains_of [] a b = tt
plains_of (f ∷ fs) a b =
    let h = and_parts (tagged f.tag) (all_tagged fs) a in
    let t = and_parts (nat_lt 0 f.tag) (nat_lt f.tag 1000) h.0 in
    let p = and_parts (every is_print f.value) (printable fs) b in
    (record { some = ltb-true 0 f.tag t.0; small = ltb-true f.tag 1000 t.1; prints = p.0 }, plains_of fs h.1 p.1)

-- ---- the fields of a writing

rows_tagged_lem : (k : ℕ) → within 16 20 k ≡ true → rows_tagged (rows k) ≡ true
unfolding rows tables
rows_tagged_lem = by_kind_lem (λ k. rows_tagged (rows k) ≡ true) refl refl refl refl refl

module _ (w : Writing) (is : is_writing w ≡ true) where
  kind : within 16 20 w.kind ≡ true
  unfolding is_writing shaped
  kind = (and_parts (within 16 20 w.kind) _ (and_parts (shaped w.kind w.at) _ (and_parts (typed w) _ is).1).0).0

  fields_tagged : all_tagged (fields_of w) ≡ true
  unfolding fields_of framed front inner
  fields_tagged =
      tagged_append (front (inner w)) (trailer (spellings (front (inner w))) ∷ [])
      (body_tagged (value_of w.kind w.at) (stamp w.kind w.time []) (rows w.kind) (rows_tagged_lem w.kind kind)
      (split_if (λ (fs : List Field). all_tagged fs ≡ true) (nat_le 18 w.kind) (λ e. refl) (λ e. refl)))
      refl

  pub fields_plain : Plains (fields_of w)
  fields_plain = plains_of (fields_of w) fields_tagged (fields_print w is)

-- WHAT CANNOT BE CUT IS NO MESSAGE
pub uncut : (s : List ℕ) → NoFields s → is_message s ≡ false
unfolding is_message bytes_for
uncut s no_fields = go (is_message s) refl
  where
    go : (x : Bool) → is_message s ≡ x → is_message s ≡ false
    go false e = e
    go true e =
        let w : Writing = loose_of (fields_in s) in
        let h = and_parts (is_writing w) (same (bytes_for w) s) e in
        absurd (no_fields (fields_of w) (fields_plain w h.0) (fields_few w h.0) (same_true (bytes_for w) s h.1))
