-- What the reader answers, from what it cut and what it asked: the contract of its last step. Rests on Checks, Whole and Table.
use Rattle.std.specs.Prelude.{◌≡◌, ℕ, ◌<◌, true, false, List, [], length, nat_lt, slice_index}
use Rattle.std.proofs.Common.{sym, ap, ◌∙◌, arith, lt-ltb}
use Rattle.std.proofs.Math.Decide.{dec_lt}
use Rattle.std.proofs.Math.ListN.{get_or-eq_default}
use Rattle.prelude.specs.Laws.Bytes.{bytes_span}
use Rattle.prelude.specs.Laws.Cases.{if_true, if_false}
use Rattle.prelude.specs.Number.{Bytes}
use Rattle.prelude.specs.Span.{span}
use Rattle.fix_claims.specs.declared.FixFields.{FixFields}
use Rattle.fix_words.specs.Lists.{every}
use Rattle.fix_words.specs.Spelling.{Field, fields_in}
use Rattle.fix_words.specs.Message.{value_at, is_message, Read, read_of}
use Rattle.fix_claims.specs.Reading.{no_field, place_of, length_of, tabled, fields_read}
use Rattle.fix_words.specs.Laws.Lists.{below_every}
use Rattle.fix_reader.specs.Laws.Split.{NoFields, Found, plains_print}
use Rattle.fix_reader.specs.Laws.Cut.{found_fields}
use Rattle.fix_reader.specs.Laws.Checks.{checks}
use Rattle.fix_reader.specs.Laws.Passing.{message_is}
use Rattle.fix_claims.proofs.Laws.Table.{value_stands}
use Rattle.fix_reader.specs.Laws.Whole.{uncut}

pub bytes_all : (c : List ℕ) → Bytes c → every (λ x. nat_lt x 256) c ≡ true
bytes_all c h = below_every (λ x. nat_lt x 256) c (λ i l. lt-ltb (slice_index c i) 256 (h i))

answer_3 : (s : List ℕ) → is_message s ≡ false → fields_read s ≡ tabled 3 []
unfolding fields_read read_of
answer_3 s e = ap (λ (x : Read). tabled x.refusal x.fields) (if_false (is_message s) (record { refusal = 0; fields = fields_in s }) (record { refusal = 3; fields = [] }) e)

answer_0 : (s : List ℕ) → is_message s ≡ true → fields_read s ≡ tabled 0 (fields_in s)
unfolding fields_read read_of
answer_0 s e = ap (λ (x : Read). tabled x.refusal x.fields) (if_true (is_message s) (record { refusal = 0; fields = fields_in s }) (record { refusal = 3; fields = [] }) e)

-- bytes that could not be cut
pub read_missing : (s : List ℕ) → NoFields s → fields_read s ≡ tabled 3 []
read_missing s none = answer_3 s (uncut s none)

-- bytes that were cut
module _ (s : List ℕ) (r : FixFields) (f : Found s r) (bytes : Bytes s) where
  abbrev fs : List Field
  fs = f.fields

  values_bytes : (i : ℕ) → every (λ x. nat_lt x 256) (value_at fs i) ≡ true
  values_bytes i = go (dec_lt i (length fs))
    where
      go : Dec (i < length fs) → every (λ x. nat_lt x 256) (value_at fs i) ≡ true
      go (yes h) =
          let q : span s (place_of fs i) (length_of fs i) ≡ value_at fs i = ap (λ (u : List ℕ). span u (place_of fs i) (length_of fs i)) (sym f.spelled) ∙ value_stands fs i h in
          ap (every (λ x. nat_lt x 256)) (sym q) ∙ bytes_all (span s (place_of fs i) (length_of fs i)) (bytes_span s (place_of fs i) (length_of fs i) bytes)
      go (no h) = ap (λ (f : Field). every (λ x. nat_lt x 256) f.value) (get_or-eq_default fs no_field {n = i} (omega arith))

  asked : is_message s ≡ checks fs
  asked = message_is s fs f.spelled (plains_print fs f.plain) values_bytes

  pub read_taken : checks fs ≡ true → fields_read s ≡ r
  read_taken c = answer_0 s (asked ∙ c) ∙ ap (tabled 0) (found_fields s r f) ∙ sym f.table

  pub read_refused : checks fs ≡ false → fields_read s ≡ tabled 3 []
  read_refused c = answer_3 s (asked ∙ c)

  -- the same of the fields that the bytes have
  pub fields_taken : checks (fields_in s) ≡ true → fields_read s ≡ r
  fields_taken c = read_taken (ap checks (sym (found_fields s r f)) ∙ c)

  pub fields_refused : checks (fields_in s) ≡ false → fields_read s ≡ tabled 3 []
  fields_refused c = read_refused (ap checks (sym (found_fields s r f)) ∙ c)
