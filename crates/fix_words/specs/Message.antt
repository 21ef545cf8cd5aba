-- A FIX 4.4 message: what is written, the writer's questions, and the reader. Rests on Values.
use Rattle.std.specs.Prelude.{ℕ, ◌%◌, List, [], ◌∷◌, ◌++◌, Bool, true, false, not, ◌&&◌, ◌||◌, eqb, leb, ltb, length, get_or, drop, Option, None, Some}
use Rattle.std.specs.Option.{is_some}
use Rattle.prelude.specs.Cases.{if◌then◌otherwise◌}
use Rattle.prelude.specs.Below.{all_below}
use Rattle.prelude.specs.Number.{bound}
use Rattle.prelude.specs.Totals.{total_of}
use Rattle.bits.specs.Map.{bit}
use Rattle.format.specs.Codes.{within, is_alnum}
use Rattle.format.specs.Format.{size, range, is_text_bit, in_range, required, allowed}
use Rattle.format.specs.Places.{value}
use Rattle.fix_words.specs.Lists.{every, same, is_print}
use Rattle.decimal.specs.Decimal.{digits, low_digits, number_in}
use Rattle.fix_words.specs.Spelling.{Field, field, spellings, fields_in}
use Rattle.fix_words.specs.Rows.{Values, body, value_in}
use Rattle.fix_words.specs.Values.{rows, type_of, kind_of, none_text, value_of, contents}

-- what is asked to be written: a message record, by its kind and what each of its bits holds, and the session's texts
pub record Writing : Type 0 where
  pub kind : ℕ
  pub at : Values
  pub sender : List ℕ
  pub target : List ℕ
  pub sequence : ℕ
  pub time : List ℕ

-- ---- written

-- FIX.4.4
abbrev pub version : List ℕ
version = 70 ∷ 73 ∷ 88 ∷ 46 ∷ 52 ∷ 46 ∷ 52 ∷ []

-- 60 in D, F and G
abbrev pub stamp : ℕ → List ℕ → List Field → List Field
stamp k time fs = if leb 18 k then field 60 time ∷ fs otherwise fs

-- what 9 counts: from 35 to the last field before 10
unfoldable pub inner : Writing → List Field
inner w =
    field 35 (type_of w.kind ∷ [])
    ∷ field 49 w.sender
    ∷ field 56 w.target
    ∷ field 34 (digits w.sequence)
    ∷ field 52 w.time
    ∷ body (rows w.kind) (value_of w.kind w.at) (stamp w.kind w.time [])

-- 8 and 9, what 9 counts
unfoldable pub front : List Field → List Field
front fs = field 8 version ∷ field 9 (digits (length (spellings fs))) ∷ fs

abbrev pub sum : List ℕ → ℕ
sum s = total_of (λ c. c) s

-- 10, of all bytes before it
abbrev pub trailer : List ℕ → Field
trailer s = field 10 (low_digits 3 (sum s % 256))

unfoldable pub framed : List Field → List Field
framed fs = front fs ++ (trailer (spellings (front fs)) ∷ [])

unfoldable pub fields_of : Writing → List Field
fields_of w = framed (inner w)

unfoldable pub bytes_for : Writing → List ℕ
bytes_for w = spellings (fields_of w)

-- ---- the writer's questions

-- 3: a bit that stands may, and has its bytes; one that must stand does
abbrev pub shape_at : ℕ → ℕ → Option (List ℕ) → Bool
shape_at k b None = not (bit (required k) b)
shape_at k b (Some c) = (bit (required k) b || bit (allowed k) b) && (every (λ x. ltb x 256) c && (is_text_bit b || eqb (length c) (size b)))

-- a reason and its origin stand together; at most one text, in a reject exactly one
unfoldable pub paired : ℕ → Values → Bool
paired k at =
    if eqb k 16 then (if is_some (at 19) then is_some (at 28) otherwise not (is_some (at 28))) && not (is_some (at 20) && is_some (at 27)) otherwise
    if eqb k 17 then (if is_some (at 20) then not (is_some (at 27)) otherwise is_some (at 27)) otherwise
    true

unfoldable pub shaped : ℕ → Values → Bool
shaped k at = within 16 20 k && (all_below (λ b. shape_at k b (at b)) 32 && paired k at)

-- 4: a field is in its range, and an order name is one
abbrev pub is_name_of : List ℕ → Bool
is_name_of c = every is_alnum c && not (same c none_text)

abbrev pub range_at : ℕ → Option (List ℕ) → Bool
range_at b None = true
range_at b (Some c) = in_range (range b) (value b c) && (not (eqb b 2) || is_name_of c)

unfoldable pub ranged : Values → Bool
ranged at = all_below (λ b. range_at b (at b)) 32

-- 9: a text has bytes, and none below 32
abbrev pub is_text : List ℕ → Bool
is_text [] = false
is_text (c ∷ s) = every is_print (c ∷ s)

abbrev pub text_at : ℕ → Option (List ℕ) → Bool
text_at b None = true
text_at b (Some c) = not (is_text_bit b) || is_text c

unfoldable pub texted : Writing → Bool
texted w = is_text w.sender && (is_text w.target && (is_text w.time && all_below (λ b. text_at b (w.at b)) 32))

-- the types of the call: bytes, and a sequence of one word
unfoldable pub typed : Writing → Bool
typed w = ltb w.sequence (bound 8) && (every (λ x. ltb x 256) w.sender && (every (λ x. ltb x 256) w.target && every (λ x. ltb x 256) w.time))

-- it can be written, if there is room enough
unfoldable pub is_writing : Writing → Bool
is_writing w = typed w && (shaped w.kind w.at && (ranged w.at && texted w))

-- ---- read

abbrev pub value_at : List Field → ℕ → List ℕ
value_at fs i = (get_or fs i (field 0 [])).value

-- read loosely
unfoldable pub loose_of : List Field → Writing
loose_of fs =
    let k : ℕ = kind_of (get_or (value_at fs 2) 0 0) in
    record {
      kind = k;
      at = contents k (value_in (rows k) (drop 7 fs));
      sender = value_at fs 3;
      target = value_at fs 4;
      sequence = number_in (value_at fs 5);
      time = value_at fs 6;
    }

-- ask the writer's questions, write again, compare
unfoldable pub is_message : List ℕ → Bool
is_message s = is_writing (loose_of (fields_in s)) && same (bytes_for (loose_of (fields_in s))) s

pub record Read : Type 0 where
  pub refusal : ℕ
  pub fields : List Field

unfoldable pub read_of : List ℕ → Read
read_of s = if is_message s then record { refusal = 0; fields = fields_in s } otherwise record { refusal = 3; fields = [] }
