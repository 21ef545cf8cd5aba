-- The promises of the FIX messages: what is written is read as the fields it was written with; 3 is given exactly for bytes that no writing
-- yields; 9 is the length of the body and 10 the sum modulo 256. Rests on Again.
use Rattle.std.proofs.Common.{ℕ, ◌%◌, ◌<◌, ◌≡◌, Bool, true, false, ◌↔◌, ◌⊎◌, leb, length, None, refl, ap, sym, ◌∙◌, inl, inr, ⊎_elim, arith, List, [], ◌∷◌, ◌++◌, append_assoc}
use Rattle.std.proofs.lemmas.Bool.{and_parts, and_from}
use Rattle.prelude.specs.Laws.Cases.{split_if, if_true, if_false}
use Rattle.prelude.specs.Below.{all_below}
use Rattle.prelude.specs.Laws.Below.{all_elim, all_intro}
use Rattle.format.specs.Codes.{within}
use Rattle.fix_words.specs.Lists.{every, same, is_print}
use Rattle.decimal.specs.Decimal.{digits, low_digits, number_in, read_from, down}
use Rattle.decimal.specs.Laws.Back.{digits_back, low_back}
use Rattle.fix_words.specs.Laws.Digits.{digits_print, low_digits_lem, low_print}
use Rattle.fix_words.specs.Laws.Number.{digits_number}
use Rattle.fix_words.specs.Spelling.{Field, field, spellings, fields_in, printable}
use Rattle.fix_words.specs.Rows.{Values, body, value_in, in_rows}
use Rattle.fix_words.specs.Values.{rows, types, type_of, value_of, contents}
use Rattle.fix_words.specs.Message.{Writing, version, stamp, inner, front, sum, trailer, framed, fields_of, bytes_for, shape_at, range_at, text_at, is_text, paired, shaped, ranged, texted, typed, is_writing, loose_of, is_message, Read, read_of}
use Rattle.fix_words.proofs.Laws.Kinds.{by_kind_lem, kind_back, rows_apart, right}
use Rattle.fix_words.proofs.Laws.Again.{again_right, again_paired, again_values, values_stand, values_print}
use Rattle.fix_words.specs.Laws.Lists.{same_true, same_self}
use Rattle.fix_words.specs.Laws.Spelling.{spellings_append, fields_back, printable_append}
use Rattle.fix_words.specs.Laws.Rows.{all_apart, value_back, value_none, body_same, body_append, body_prints}
use Rattle.fix_words.specs.Frame.{Frame}

text_print : (s : List ℕ) → is_text s ≡ true → every is_print s ≡ true
text_print [] e = refl
text_print (c ∷ s) e = e

type_print : (k : ℕ) → within 16 20 k ≡ true → every is_print (type_of k ∷ []) ≡ true
unfolding type_of types
type_print = by_kind_lem (λ k. every is_print (type_of k ∷ []) ≡ true) refl refl refl refl refl

-- fields behind the rows: 60 or none, then 10
stamped : (k : ℕ) (time : List ℕ) (t : Field) → t.tag ≡ 10
    → (T : ℕ) × (v : List ℕ) × (fs : List Field) × (stamp k time [] ++ (t ∷ []) ≡ field T v ∷ fs) × ((T ≡ 60) ⊎ (T ≡ 10))
stamped k time t e = go (leb 18 k) refl
  where
    go : (x : Bool) → leb 18 k ≡ x
        → (T : ℕ) × (v : List ℕ) × (fs : List Field) × (stamp k time [] ++ (t ∷ []) ≡ field T v ∷ fs) × ((T ≡ 60) ⊎ (T ≡ 10))
    go true q = (60, time, t ∷ [], ap (λ (l : List Field). l ++ (t ∷ [])) (if_true (leb 18 k) (field 60 time ∷ []) [] q), inl refl)
    go false q = (t.tag, t.value, [], ap (λ (l : List Field). l ++ (t ∷ [])) (if_false (leb 18 k) (field 60 time ∷ []) [] q), inr e)

module _ (w : Writing) (yes-it-is : is_writing w ≡ true) where
  abbrev k : ℕ
  k = w.kind

  parts : (typed w ≡ true) × ((shaped k w.at ≡ true) × ((ranged w.at ≡ true) × (texted w ≡ true)))
  unfolding is_writing
  parts =
      let a = and_parts (typed w) _ yes-it-is in
      let b = and_parts (shaped k w.at) _ a.1 in
      (a.0, (b.0, and_parts (ranged w.at) (texted w) b.1))

  pub shapes : (within 16 20 k ≡ true) × ((all_below (λ b. shape_at k b (w.at b)) 32 ≡ true) × (paired k w.at ≡ true))
  unfolding shaped
  shapes =
      let a = and_parts (within 16 20 k) _ parts.1.0 in
      (a.0, and_parts (all_below (λ b. shape_at k b (w.at b)) 32) (paired k w.at) a.1)

  pub kind : within 16 20 k ≡ true
  kind = shapes.0

  texts : (is_text w.sender ≡ true) × ((is_text w.target ≡ true) × ((is_text w.time ≡ true) × (all_below (λ b. text_at b (w.at b)) 32 ≡ true)))
  unfolding texted
  texts =
      let a = and_parts (is_text w.sender) _ parts.1.1.1 in
      let b = and_parts (is_text w.target) _ a.1 in
      (a.0, (b.0, and_parts (is_text w.time) _ b.1))

  ok : (b : ℕ) → b < 32 → right k b (w.at b) ≡ true
  unfolding ranged
  ok b h =
      and_from _ _ (all_elim (λ b. shape_at k b (w.at b)) 32 shapes.1.0 b h)
      (and_from _ _ (all_elim (λ b. range_at b (w.at b)) 32 parts.1.1.0 b h) (all_elim (λ b. text_at b (w.at b)) 32 texts.1.1.1 b h))

  -- ---- its fields print, so its bytes are read as its fields

  inner_print : printable (inner w) ≡ true
  unfolding inner
  inner_print =
      and_from _ _ (type_print k kind)
      (and_from _ _ (text_print w.sender texts.0)
      (and_from _ _ (text_print w.target texts.1.0)
      (and_from _ _ (digits_print w.sequence)
      (and_from _ _ (text_print w.time texts.1.1.0)
      (body_prints (value_of k w.at) (stamp k w.time []) (rows k)
      (values_print k w.at kind ok shapes.1.1)
      (split_if (λ fs. printable fs ≡ true) (leb 18 k) (λ e. and_from _ _ (text_print w.time texts.1.1.0) refl) (λ e. refl)))))))

  pub fields_print : printable (fields_of w) ≡ true
  unfolding fields_of framed front
  fields_print =
      printable_append (front (inner w)) _ (and_from _ _ refl (and_from _ _ (digits_print (length (spellings (inner w)))) inner_print))
      (and_from _ _ (low_print 3 (sum (spellings (front (inner w))) % 256)) refl)

  read_fields : fields_in (bytes_for w) ≡ fields_of w
  unfolding bytes_for
  read_fields = fields_back (fields_of w) fields_print

  -- ---- what is read loosely

  abbrev last : Field
  last = trailer (spellings (front (inner w)))

  abbrev us : Values
  us = value_in (rows k) (body (rows k) (value_of k w.at) (stamp k w.time []) ++ (last ∷ []))

  abbrev again : Writing
  again = record { kind = k; at = contents k us; sender = w.sender; target = w.target; sequence = w.sequence; time = w.time }

  loose_again : loose_of (fields_of w) ≡ again
  unfolding loose_of fields_of framed front inner
  loose_again = λ i. record {
    kind = kind_back k kind i;
    at = contents (kind_back k kind i) (value_in (rows (kind_back k kind i)) (body (rows k) (value_of k w.at) (stamp k w.time []) ++ (last ∷ [])));
    sender = w.sender;
    target = w.target;
    sequence = digits_back w.sequence i;
    time = w.time;
  }

  us_same : (b : ℕ) → in_rows (rows k) b ≡ true → us b ≡ value_of k w.at b
  us_same b i =
      let t = stamped k w.time last refl in
      let a = and_parts (all_apart (rows k) 60) (all_apart (rows k) 10) (rows_apart k kind) in
      let e : body (rows k) (value_of k w.at) (stamp k w.time []) ++ (last ∷ []) ≡ body (rows k) (value_of k w.at) (field t.0 t.1 ∷ t.2) =
      body_append (value_of k w.at) (stamp k w.time []) (last ∷ []) (rows k) ∙ ap (body (rows k) (value_of k w.at)) t.3 in
      ap (λ (fs : List Field). value_in (rows k) fs b) e
      ∙ value_back (value_of k w.at) t.0 t.1 t.2 (rows k)
      (⊎_elim (λ q. rw q a.0) (λ q. rw q a.1) t.4) (values_stand k w.at kind ok shapes.1.1) b i

  us_none : (b : ℕ) → in_rows (rows k) b ≡ false → us b ≡ None
  us_none b i = value_none (rows k) _ b i

  -- ---- it can be written again, and is the same

  now_right : (b : ℕ) → b < 32 → right k b (contents k us b) ≡ true
  now_right = again_right k w.at kind ok shapes.1.1 us us_same us_none

  again_writing : is_writing again ≡ true
  unfolding is_writing shaped ranged texted typed
  again_writing =
      and_from _ _ parts.0
      (and_from _ _
      (and_from _ _ kind
      (and_from _ _ (all_intro (λ b. shape_at k b (contents k us b)) 32 (λ b h. (and_parts (shape_at k b (contents k us b)) _ (now_right b h)).0))
      (again_paired k w.at kind ok shapes.1.1 us us_same us_none)))
      (and_from _ _
      (all_intro (λ b. range_at b (contents k us b)) 32 (λ b h. (and_parts (range_at b (contents k us b)) _ (and_parts (shape_at k b (contents k us b)) _ (now_right b h)).1).0))
      (and_from _ _ texts.0 (and_from _ _ texts.1.0 (and_from _ _ texts.1.1.0
      (all_intro (λ b. text_at b (contents k us b)) 32
      (λ b h. (and_parts (range_at b (contents k us b)) _ (and_parts (shape_at k b (contents k us b)) _ (now_right b h)).1).1)))))))

  again_bytes : bytes_for again ≡ bytes_for w
  unfolding bytes_for fields_of inner
  again_bytes =
      ap (λ (fs : List Field). spellings (framed (field 35 (type_of k ∷ []) ∷ field 49 w.sender ∷ field 56 w.target ∷ field 34 (digits w.sequence) ∷ field 52 w.time ∷ fs)))
      (body_same (value_of k (contents k us)) (value_of k w.at) (stamp k w.time []) (rows k)
      (again_values k w.at kind ok shapes.1.1 us us_same us_none))

  loose : loose_of (fields_in (bytes_for w)) ≡ again
  loose = ap loose_of read_fields ∙ loose_again

  pub written_message : is_message (bytes_for w) ≡ true
  unfolding is_message
  written_message =
      and_from _ _ (ap is_writing loose ∙ again_writing)
      (ap (λ (s : List ℕ). same s (bytes_for w)) (ap bytes_for loose ∙ again_bytes) ∙ same_self (bytes_for w))

  -- ---- WHAT IS WRITTEN IS READ AS THE FIELDS THAT IT WAS WRITTEN WITH

  pub read_back : read_of (bytes_for w) ≡ record { refusal = 0; fields = fields_of w }
  unfolding read_of
  read_back = if_true (is_message (bytes_for w)) _ _ written_message ∙ (λ i. record { refusal = 0; fields = read_fields i })

-- ---- 3 EXACTLY FOR BYTES THAT NO WRITING YIELDS

pub refused_exactly : (s : List ℕ) → ((read_of s).refusal ≡ 3) ↔ ((w : Writing) → is_writing w ≡ true → bytes_for w ≡ s → ⊥)
unfolding read_of is_message
refused_exactly s = (none_yields, refuses)
  where
    none_yields : (read_of s).refusal ≡ 3 → (w : Writing) → is_writing w ≡ true → bytes_for w ≡ s → ⊥
    none_yields e w h q =
        let z : ◌≡◌ {A = ℕ} 0 3 = sym (ap (λ (r : Read). r.refusal) (read_back w h)) ∙ ap (λ (t : List ℕ). (read_of t).refusal) q ∙ e in
        absurd (omega arith)

    refuses : ((w : Writing) → is_writing w ≡ true → bytes_for w ≡ s → ⊥) → (read_of s).refusal ≡ 3
    refuses n =
        split_if (λ (r : Read). r.refusal ≡ 3) (is_message s)
        (λ e. let h = and_parts (is_writing (loose_of (fields_in s))) _ e in absurd (n (loose_of (fields_in s)) h.0 (same_true _ s h.1)))
        (λ e. refl)

-- otherwise 0
pub taken_or_refused : (s : List ℕ) → ((read_of s).refusal ≡ 0) ⊎ ((read_of s).refusal ≡ 3)
unfolding read_of
taken_or_refused s = split_if (λ (r : Read). (r.refusal ≡ 0) ⊎ (r.refusal ≡ 3)) (is_message s) (λ e. inl refl) (λ e. inr refl)

-- ---- 9 IS THE LENGTH OF THE BODY, 10 THE SUM MODULO 256

down_three : (n : ℕ) → n < 1000 → down 3 n ≡ 0
unfolding down
down_three n h = omega arith

length_three : (n : ℕ) → length (low_digits 3 n) ≡ 3
unfolding low_digits
length_three n = refl

low_three : (n : ℕ) → n < 1000 → number_in (low_digits 3 n) ≡ n
low_three n h = ap (λ (a : ℕ). read_from a (low_digits 3 n)) (sym (down_three n h)) ∙ low_back 3 n

pub frame : (w : Writing) → Frame w (digits (length (spellings (inner w)))) (low_digits 3 (sum (spellings (front (inner w))) % 256))
unfolding bytes_for fields_of framed front
frame w =
    let two : List Field = field 8 version ∷ field 9 (digits (length (spellings (inner w)))) ∷ [] in
    let s : spellings (front (inner w)) ≡ spellings two ++ spellings (inner w) = spellings_append two (inner w) in
    record {
      whole =
          spellings_append (front (inner w)) (trailer (spellings (front (inner w))) ∷ [])
          ∙ ap (λ (l : List ℕ). l ++ spellings (trailer (spellings (front (inner w))) ∷ [])) s
          ∙ append_assoc (spellings two) (spellings (inner w)) _;
      nine = digits_number (length (spellings (inner w)));
      ten = low_three (sum (spellings (front (inner w))) % 256) (omega arith) ∙ ap (λ (l : List ℕ). sum l % 256) s;
      three = length_three (sum (spellings (front (inner w))) % 256);
      digits = low_digits_lem 3 (sum (spellings (front (inner w))) % 256);
    }
