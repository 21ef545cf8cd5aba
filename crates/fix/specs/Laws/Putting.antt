-- How the writer's bytes come together: a value's length, a field behind a field, and what is left to be written. Rests on Plan.
use Rattle.std.specs.Prelude.{ℕ, suc, ◌+◌, ◌-◌, ◌*◌, ◌^◌, ◌≤◌, ◌<◌, ◌≡◌, refl, List, [], ◌∷◌, ◌++◌, Bool, true, false, eqb, leb, length, drop, get_or, Option, None, Some}
use Rattle.std.proofs.Common.{sym, ap, subst, ◌∙◌, arith, leb-true, le-leb, leb-false, eq-eqb, length-append, drop-cons}
use Rattle.std.proofs.lemmas.Bool.{lt-leb}
use Rattle.prelude.specs.Cases.{if◌then◌otherwise◌}
use Rattle.prelude.specs.Span.{span, splice}
use Rattle.prelude.specs.Laws.Span.{length_span, length_splice, splice_append, splice_nil, span_whole}
use Rattle.decimal.specs.Decimal.{digits_by, digits, decimal}
use Rattle.fix_words.specs.Spelling.{Field, field, spellings}
use Rattle.fix_words.specs.Laws.Spelling.{spellings_append}
use Rattle.fix_words.specs.Rows.{Row, Values, field_of, body, in_rows}
use Rattle.fix_words.specs.Laws.Rows.{or_right}
use Rattle.fix_words.specs.Laws.Counting.{field_long_lem, decimal_none}
use Rattle.fix_table.specs.Table.{spoken}
use Rattle.fix.specs.declared.value.Value.{Value}
use Rattle.fix.specs.declared.value.Value.TheVariants.{Bytes, Number, Price, Fixed, Exec}
use Rattle.fix.specs.Laws.Plan.{said_by, shown, long_of, field_long, field_shown, Sound, rows_long, rows_shown, less_by, head_long, stamp_fields, stamp_long}

-- ---- the five forms of a value that stands: how long each is, and what it says

pub form_1 : (s : List ℕ) (v : Value) (f n : ℕ) → v ≡ Bytes f n → (long_of v ≡ n) × (said_by s v ≡ span s f n)
unfolding long_of said_by
form_1 s v f n e = (rw e refl, rw e refl)

pub form_2 : (s : List ℕ) (v : Value) (n p : ℕ) → v ≡ Number n p → (long_of v ≡ length (decimal p n)) × (said_by s v ≡ decimal p n)
unfolding long_of said_by
form_2 s v n p e = (rw e refl, rw e refl)

pub form_5 : (s : List ℕ) (v : Value) (l h p : ℕ) → v ≡ Price l h p
    → (long_of v ≡ length (decimal p (l + 2 ^ 64 * h))) × (said_by s v ≡ decimal p (l + 2 ^ 64 * h))
unfolding long_of said_by
form_5 s v l h p e = (rw e refl, rw e refl)

pub form_3 : (s : List ℕ) (v : Value) (n : ℕ) → v ≡ Fixed n → (long_of v ≡ length (get_or spoken n [])) × (said_by s v ≡ get_or spoken n [])
unfolding long_of said_by
form_3 s v n e = (rw e refl, rw e refl)

pub form_4 : (s : List ℕ) (v : Value) (f n l : ℕ) → v ≡ Exec f n l
    → (long_of v ≡ n + (1 + length (digits l))) × (said_by s v ≡ span s f n ++ (46 ∷ digits l))
unfolding long_of said_by
form_4 s v f n l e = (rw e refl, rw e refl)

-- ---- lengths

pub said_long : (s : List ℕ) (v : Value) → Sound s (Some v) → length (said_by s v) ≡ long_of v
unfolding said_by long_of
said_long s (Bytes f n) h = length_span s f n h
said_long s (Number n p) h = refl
said_long s (Price l g p) h = refl
said_long s (Fixed n) h = refl
said_long s (Exec f n l) h = length-append (span s f n) (46 ∷ digits l) ∙ omega (arith, length_span s f n h)

pub shown_long : (s : List ℕ) (tag : ℕ) (v : Option Value) → Sound s v → length (field_shown s tag v) ≡ field_long tag v
unfolding shown field_long spellings
shown_long s tag None h = refl
shown_long s tag (Some v) h = omega (arith, field_long_lem tag (said_by s v), said_long s v h)

-- a field that stands, and one that does not
pub shown_some : (s : List ℕ) (tag : ℕ) (v : Option Value) (w : Value) → v ≡ Some w → field_shown s tag v ≡ spellings (field tag (said_by s w) ∷ [])
unfolding shown
shown_some s tag v w e = rw e refl

pub field_some : (tag : ℕ) (v : Option Value) (w : Value) → v ≡ Some w → field_long tag v ≡ length (decimal 0 tag) + (1 + (long_of w + 1))
unfolding field_long
field_some tag v w e = rw e refl

pub shown_none : (s : List ℕ) (tag : ℕ) (v : Option Value) → v ≡ None → (field_shown s tag v ≡ []) × (field_long tag v ≡ 0)
unfolding shown field_long spellings
shown_none s tag v e = (rw e refl, rw e refl)

-- a number and a text as fields
number_said : (s : List ℕ) (tag n : ℕ) → field_shown s tag (Some (Number n 0)) ≡ spellings (field tag (decimal 0 n) ∷ [])
unfolding shown said_by
number_said s tag n = refl

pub number_field : (s : List ℕ) (tag n : ℕ) → field_shown s tag (Some (Number n 0)) ≡ spellings (field tag (digits n) ∷ [])
number_field s tag n = number_said s tag n ∙ ap (λ (v : List ℕ). spellings (field tag v ∷ [])) (decimal_none n)

pub number_long : (tag n : ℕ) → field_long tag (Some (Number n 0)) ≡ length (spellings (field tag (digits n) ∷ []))
number_long tag n = sym (shown_long [] tag (Some (Number n 0)) (omega arith)) ∙ ap length (number_field [] tag n)

text_said : (s : List ℕ) (tag n : ℕ) → field_shown s tag (Some (Bytes 0 n)) ≡ spellings (field tag (span s 0 n) ∷ [])
unfolding shown said_by
text_said s tag n = refl

pub text_field : (s : List ℕ) (tag : ℕ) → field_shown s tag (Some (Bytes 0 (length s))) ≡ spellings (field tag s ∷ [])
text_field s tag = text_said s tag (length s) ∙ ap (λ (v : List ℕ). spellings (field tag v ∷ [])) (span_whole s)

pub text_long : (s : List ℕ) (tag : ℕ) → field_long tag (Some (Bytes 0 (length s))) ≡ length (spellings (field tag s ∷ []))
text_long s tag = sym (shown_long s tag (Some (Bytes 0 (length s))) (omega arith)) ∙ ap length (text_field s tag)

-- ---- rows

-- the bytes of every row stand in s
abbrev pub AllSound : List ℕ → List Row → (ℕ → Option Value) → Type 0
AllSound s rows f = (b : ℕ) → in_rows rows b ≡ true → Sound s (f b)

own : (r : Row) (rows : List Row) → in_rows (r ∷ rows) r.bit ≡ true
own r rows = rw (eq-eqb r.bit r.bit refl) refl

pub rows_long_lem : (s : List ℕ) (f : ℕ → Option Value) (rows : List Row) → AllSound s rows f → length (rows_shown s rows f) ≡ rows_long rows f
unfolding rows_shown rows_long
rows_long_lem s f [] h = refl
rows_long_lem s f (r ∷ rows) h =
    length-append (field_shown s r.tag (f r.bit)) (rows_shown s rows f)
    ∙ (λ i. shown_long s r.tag (f r.bit) (h r.bit (own r rows)) i + rows_long_lem s f rows (λ b q. h b (or_right (eqb r.bit b) (in_rows rows b) q)) i)

-- the rows' bytes are those of the body
pub rows_body : (s : List ℕ) (f : ℕ → Option Value) (vs : Values) (rows : List Row) → ((b : ℕ) → in_rows rows b ≡ true → shown s (f b) ≡ vs b)
    → rows_shown s rows f ≡ spellings (body rows vs [])
unfolding rows_shown body spellings
rows_body s f vs [] h = refl
rows_body s f vs (r ∷ rows) h =
    (λ i. spellings (field_of r.tag (h r.bit (own r rows) i) []) ++ rows_body s f vs rows (λ b q. h b (or_right (eqb r.bit b) (in_rows rows b) q)) i)
    ∙ go (vs r.bit)
  where
    go : (o : Option (List ℕ)) → spellings (field_of r.tag o []) ++ spellings (body rows vs []) ≡ spellings (field_of r.tag o (body rows vs []))
    go None = refl
    go (Some v) = sym (spellings_append (field r.tag v ∷ []) (body rows vs []))

-- row j and those behind it
abbrev no_row : Row
no_row = record { tag = 0; bit = 0; must = true }

drop_next : (rows : List Row) (j : ℕ) → j < length rows → drop j rows ≡ get_or rows j no_row ∷ drop (j + 1) rows
drop_next rows j h = let e : j + 1 ≡ suc j = omega arith in rw e (drop-cons rows j no_row h)

pub long_next : (f : ℕ → Option Value) (rows : List Row) (j : ℕ) → j < length rows
    → rows_long (drop j rows) f ≡ field_long (get_or rows j no_row).tag (f (get_or rows j no_row).bit) + rows_long (drop (j + 1) rows) f
unfolding rows_long
long_next f rows j h = ap (λ (l : List Row). rows_long l f) (drop_next rows j h)

pub shown_next : (s : List ℕ) (f : ℕ → Option Value) (rows : List Row) (j : ℕ) → j < length rows
    → rows_shown s (drop j rows) f ≡ field_shown s (get_or rows j no_row).tag (f (get_or rows j no_row).bit) ++ rows_shown s (drop (j + 1) rows) f
unfolding rows_shown
shown_next s f rows j h = ap (λ (l : List Row). rows_shown s l f) (drop_next rows j h)

-- none behind the last
drop_last : (rows : List Row) (j : ℕ) → j ≡ length rows → drop j rows ≡ []
drop_last [] j e = rw e refl
drop_last (r ∷ rows) j e = rw e (drop_last rows (length rows) refl)

pub long_last : (f : ℕ → Option Value) (rows : List Row) (j : ℕ) → j ≡ length rows → rows_long (drop j rows) f ≡ 0
unfolding rows_long
long_last f rows j e = ap (λ (l : List Row). rows_long l f) (drop_last rows j e)

pub shown_last : (s : List ℕ) (f : ℕ → Option Value) (rows : List Row) (j : ℕ) → j ≡ length rows → rows_shown s (drop j rows) f ≡ []
unfolding rows_shown
shown_last s f rows j e = ap (λ (l : List Row). rows_shown s l f) (drop_last rows j e)

-- ---- room

-- a and then b
pub less_more : (r : Option ℕ) (a b : ℕ) → less_by (less_by r a) b ≡ less_by r (a + b)
unfolding less_by if◌then◌otherwise◌
less_more None a b = refl
less_more (Some r) a b = go (leb a r) refl
  where
    under : (x : Bool) → leb b (r - a) ≡ x → a ≤ r → leb (a + b) r ≡ x
    under true e h = le-leb (a + b) r (omega (arith, leb-true b (r - a) e))
    under false e h = lt-leb (a + b) r (omega (arith, leb-false b (r - a) e))

    last : (x : Bool) → leb b (r - a) ≡ x → a ≤ r → (if leb b (r - a) then Some (r - a - b) otherwise None) ≡ (if leb (a + b) r then Some (r - (a + b)) otherwise None)
    last true e h = let z : r - a - b ≡ r - (a + b) = omega arith in rw (e, under true e h, z) refl
    last false e h = rw (e, under false e h) refl

    go : (y : Bool) → leb a r ≡ y → less_by (if y then Some (r - a) otherwise None) b ≡ (if leb (a + b) r then Some (r - (a + b)) otherwise None)
    go false e = let z : leb (a + b) r ≡ false = lt-leb (a + b) r (omega (arith, leb-false a r e)) in rw z refl
    go true e = last (leb b (r - a)) refl (leb-true a r e)

pub less_none : (r : Option ℕ) → less_by r 0 ≡ r
unfolding less_by if◌then◌otherwise◌
less_none None = refl
less_none (Some r) = let z : r - 0 ≡ r = omega arith in rw (le-leb 0 r (omega arith), z) refl

pub less_three : (r : Option ℕ) (a b c : ℕ) → less_by (less_by (less_by r a) b) c ≡ less_by r (a + b + c)
less_three r a b c = ap (λ (t : Option ℕ). less_by t c) (less_more r a b) ∙ less_more r (a + b) c

-- ---- what is left to be written

-- whole is to stand in o from st on; out is o with all of it but the rest, which comes at `at`
pub record Rest (o : List ℕ) (st : ℕ) (whole out : List ℕ) (at : ℕ) (rest : List ℕ) : Type 0 where
  pub same : length out ≡ length o
  pub sum : at + length rest ≡ st + length whole
  pub room : st + length whole ≤ length o
  pub put : splice out at rest ≡ splice o st whole

pub rest_start : (o : List ℕ) (st : ℕ) (whole : List ℕ) → st + length whole ≤ length o → Rest o st whole o st whole
rest_start o st whole h = record { same = refl; sum = refl; room = h; put = refl }

module _ {o : List ℕ} {st : ℕ} {whole out : List ℕ} {at : ℕ} where
  pub rest_room : (p q : List ℕ) → Rest o st whole out at (p ++ q) → at + length p ≤ length out
  rest_room p q r = omega (arith, r.same, r.sum, r.room, length-append p q)

  pub rest_next : (p q : List ℕ) {out' : List ℕ} {at' : ℕ} → Rest o st whole out at (p ++ q) → out' ≡ splice out at p → at' ≡ at + length p → Rest o st whole out' at' q
  rest_next p q {out'} {at'} r e a = record {
    same = ap length e ∙ length_splice out at p (rest_room p q r) ∙ r.same;
    sum = omega (arith, r.sum, a, length-append p q);
    room = r.room;
    put = (λ i. splice (e i) (a i) q) ∙ splice_append out at p q (rest_room p q r) ∙ r.put;
  }

  pub rest_end : Rest o st whole out at [] → (at ≡ st + length whole) × (out ≡ splice o st whole)
  rest_end r = (omega (arith, r.sum), sym (splice_nil out at) ∙ r.put)

  pub fields_end : Rest o st whole out at (spellings []) → (at ≡ st + length whole) × (out ≡ splice o st whole)
  unfolding spellings
  fields_end r = rest_end r

  -- a field and those behind it
  pub field_room : (f : Field) (fs : List Field) → Rest o st whole out at (spellings (f ∷ fs)) → at + length (spellings (f ∷ [])) ≤ length out
  field_room f fs r = rest_room (spellings (f ∷ [])) (spellings fs) (subst (Rest o st whole out at) (spellings_append (f ∷ []) fs) r)

  pub field_next : (f : Field) (fs : List Field) {out' : List ℕ} {at' : ℕ} → Rest o st whole out at (spellings (f ∷ fs)) → out' ≡ splice out at (spellings (f ∷ []))
      → at' ≡ at + length (spellings (f ∷ [])) → Rest o st whole out' at' (spellings fs)
  field_next f fs r e a = rest_next (spellings (f ∷ [])) (spellings fs) (subst (Rest o st whole out at) (spellings_append (f ∷ []) fs) r) e a

-- row j of a body
module _ (s : List ℕ) (f : ℕ → Option Value) (rows : List Row) (j : ℕ) (h : j < length rows) (tag : ℕ) (v : Option Value)
    (t : tag ≡ (get_or rows j no_row).tag) (w : v ≡ f (get_or rows j no_row).bit) (sound : Sound s v)
    {o : List ℕ} {st : ℕ} {whole out : List ℕ} {at : ℕ} (r : Rest o st whole out at (rows_shown s (drop j rows) f)) where
  this : Rest o st whole out at (field_shown s tag v ++ rows_shown s (drop (j + 1) rows) f)
  this = subst (Rest o st whole out at) (shown_next s f rows j h ∙ (λ i. field_shown s (sym t i) (sym w i) ++ rows_shown s (drop (j + 1) rows) f)) r

  pub row_room : at + field_long tag v ≤ length out
  row_room = omega (arith, rest_room (field_shown s tag v) (rows_shown s (drop (j + 1) rows) f) this, shown_long s tag v sound)

  pub row_next : {out' : List ℕ} {at' : ℕ} → out' ≡ splice out at (field_shown s tag v) → at' ≡ at + field_long tag v
      → Rest o st whole out' at' (rows_shown s (drop (j + 1) rows) f)
  row_next e a =
      rest_next (field_shown s tag v) (rows_shown s (drop (j + 1) rows) f) this e (a ∙ ap (λ (n : ℕ). at + n) (sym (shown_long s tag v sound)))

-- ---- the header's length

tag_long : (length (decimal 0 35) ≡ 2) × (length (decimal 0 49) ≡ 2) × (length (decimal 0 56) ≡ 2) × (length (decimal 0 34) ≡ 2) × (length (decimal 0 52) ≡ 2) × (length (decimal 0 60) ≡ 2)
unfolding decimal digits digits_by if◌then◌otherwise◌
tag_long = (refl, refl, refl, refl, refl, refl)

pub two_fields : (f : Field) (fs : List Field) → length (spellings (f ∷ fs)) ≡ length (spellings (f ∷ [])) + length (spellings fs)
two_fields f fs = ap length (spellings_append (f ∷ []) fs) ∙ length-append (spellings (f ∷ [])) (spellings fs)

head_last : (time : List ℕ) → length (spellings (field 52 time ∷ [])) ≡ 4 + length time
head_last time = omega (arith, field_long_lem 52 time, tag_long.4)

pub head_long_lem : (sender target : List ℕ) (sequence : ℕ) (time : List ℕ) (letter : List ℕ) → length letter ≡ 1
    → length (spellings (field 35 letter ∷ field 49 sender ∷ field 56 target ∷ field 34 (digits sequence) ∷ field 52 time ∷ []))
    ≡ head_long (length sender) (length target) sequence (length time)
unfolding head_long
head_long_lem sender target sequence time letter h =
    two_fields (field 35 letter) (field 49 sender ∷ field 56 target ∷ field 34 (digits sequence) ∷ field 52 time ∷ [])
    ∙ omega (
      arith,
      h,
      field_long_lem 35 letter,
      tag_long.0,
      two_fields (field 49 sender) (field 56 target ∷ field 34 (digits sequence) ∷ field 52 time ∷ []),
      field_long_lem 49 sender,
      tag_long.1,
      two_fields (field 56 target) (field 34 (digits sequence) ∷ field 52 time ∷ []),
      field_long_lem 56 target,
      tag_long.2,
      two_fields (field 34 (digits sequence)) (field 52 time ∷ []),
      field_long_lem 34 (digits sequence),
      tag_long.3,
      head_last time,
    )

pub stamp_long_lem : (k : ℕ) (time : List ℕ) → length (spellings (stamp_fields k time)) ≡ stamp_long k (length time)
unfolding stamp_long if◌then◌otherwise◌ spellings
stamp_long_lem k time = go (leb 18 k)
  where
    go : (x : Bool) → length (spellings (if x then field 60 time ∷ [] otherwise [])) ≡ (if x then 4 + length time otherwise 0)
    go true = omega (arith, field_long_lem 60 time, tag_long.5)
    go false = refl
