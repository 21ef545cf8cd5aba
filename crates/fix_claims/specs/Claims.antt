-- What is promised of the FIX messages on bytes. `fix_write` equals `write_call`, `fix_read` `fields_read` and `message_at` `place_of`: these are the
-- laws about them. Rests on Call, Reading, fix_words' Carried and Frame, and cut's Place. The proofs are in Laws/.
use Rattle.std.specs.Prelude.{ℕ, ◌+◌, ◌≤◌, ◌<◌, ◌≡◌, List, [], ◌∷◌, ◌++◌, true, ◌↔◌, ◌⊎◌, length, get_or, take}
use Rattle.prelude.specs.Number.{Bytes}
use Rattle.prelude.specs.Span.{span, splice}
use Rattle.format.specs.Codes.{listed}
use Rattle.records.specs.declared.Record.{Record}
use Rattle.records.specs.Fields.{blank}
use Rattle.records.specs.Record.{record_bytes}
use Rattle.records.specs.Answer.{count_in, are_messages, answer_bytes, answer_refusal}
use Rattle.records.specs.Place.{place_of, nowhere}
use Rattle.records.specs.Laws.Cut.{cut_at}
use Rattle.decimal.specs.Decimal.{digits}
use Rattle.fix_words.specs.Spelling.{Field, equals, spellings}
use Rattle.fix_words.specs.Frame.{Frame}
use Rattle.fix_words.specs.Record.{Session, writing_of, write_of, session_typed}
use Rattle.fix_words.specs.Carried.{Carried, texts, stands, held}
use Rattle.fix_claims.specs.declared.FixFields.{FixFields}
use Rattle.fix_claims.specs.Call.{write_call, Wrote}
use Rattle.fix_claims.specs.Reading.{no_field, fields_read}

-- ---- fix_write

-- the refusal of a call, and the bytes of the message that it wrote
abbrev pub answer : List ℕ → Session → List ℕ → ℕ
answer s n out = (write_call s n out).returned.refusal

abbrev pub message : Wrote → List ℕ
message w = span w.out 0 w.returned.length

-- t is a text of the message: the session's sender, target or time, or a text that stands in the record
abbrev pub TextOf : List ℕ → Session → List ℕ → Type 0
TextOf s n t =
    (t ≡ n.sender) ⊎ ((t ≡ n.target) ⊎ ((t ≡ n.time) ⊎ ((b : ℕ) × (listed b texts ≡ true) × (stands s b ≡ true) × (t ≡ held s b))))

-- FIX can carry it: it is not empty, and no byte is below 32
pub record Clean (t : List ℕ) : Type 0 where
  pub some : 0 < length t
  pub high : (k : ℕ) → k < length t → 32 ≤ get_or t k 0

-- it is empty, or has a byte below 32
abbrev pub Unclean : List ℕ → Type 0
Unclean t = (length t ≡ 0) ⊎ ((k : ℕ) × (k < length t) × (get_or t k 0 < 32))

-- ---- fix_read

-- THE BYTES x ARE A MESSAGE: a call of `fix_write` wrote them, with a record's bytes, a session of the call's types and a lent buffer
pub record Message (x : List ℕ) : Type 0 where
  pub bytes : List ℕ
  pub session : Session
  pub out : List ℕ
  pub are_bytes : Bytes bytes
  pub typed : session_typed session ≡ true
  pub lent : Bytes out
  pub taken : answer bytes session out ≡ 0
  pub written : message (write_call bytes session out) ≡ x

-- place i of the table is zero
pub record Zero (r : FixFields) (i : ℕ) : Type 0 where
  pub tag : get_or r.tag i 0 ≡ 0
  pub at : get_or r.at i 0 ≡ 0
  pub length : get_or r.length i 0 ≡ 0

-- place i of the table is the field f, which stands in the message x behind the fields fs: the tag; and the value, where the table says and as
-- long as it says, behind those fields, the tag and '='
pub record Entry (x : List ℕ) (fs : List Field) (f : Field) (r : FixFields) (i : ℕ) : Type 0 where
  pub tag : get_or r.tag i 0 ≡ f.tag
  pub value : span x (get_or r.at i 0) (get_or r.length i 0) ≡ f.value
  pub within : get_or r.at i 0 + get_or r.length i 0 ≤ length x
  pub behind : take (get_or r.at i 0) x ≡ spellings fs ++ (digits f.tag ++ (equals ∷ []))

-- WHAT IS READ of the message x of a record and a session: 0, and fields that are theirs, in their number and turn; zeros behind them
pub record Reads (s : List ℕ) (n : Session) (x : List ℕ) (r : FixFields) : Type 0 where
  pub fields : List Field
  pub carried : Carried s n x fields
  pub refusal : r.refusal ≡ 0
  pub count : r.count ≡ length fields
  pub few : length fields ≤ 32
  pub each : (i : ℕ) → i < length fields → Entry x (take i fields) (get_or fields i no_field) r i
  pub past : (i : ℕ) → length fields ≤ i → Zero r i

-- ---- the promises: of the record's bytes, a session and a lent buffer; of the bytes x that are read; of an answer's bytes

pub record Claims : Type 0 where
  -- `fix_write` answers 0, 3, 4, 9 or 10
  pub answers : (s : List ℕ) (n : Session) (out : List ℕ)
      → (answer s n out ≡ 0) ⊎ ((answer s n out ≡ 3) ⊎ ((answer s n out ≡ 4) ⊎ ((answer s n out ≡ 9) ⊎ (answer s n out ≡ 10))))
  -- taken means that FIX can carry every text of the message
  pub clean : (s : List ℕ) (n : Session) (out : List ℕ) → answer s n out ≡ 0 → (t : List ℕ) → TextOf s n t → Clean t
  -- with neither 3 nor 4, 9 exactly if one of them is empty or has a byte below 32
  pub nine : (s : List ℕ) (n : Session) (out : List ℕ) → (answer s n out ≡ 3 → ⊥) → (answer s n out ≡ 4 → ⊥)
      → (answer s n out ≡ 9) ↔ ((t : List ℕ) × TextOf s n t × Unclean t)
  -- with none of 3, 4 and 9, 10 exactly if the buffer is shorter than the message
  pub ten : (s : List ℕ) (n : Session) (out : List ℕ) → (answer s n out ≡ 3 → ⊥) → (answer s n out ≡ 4 → ⊥) → (answer s n out ≡ 9 → ⊥)
      → (answer s n out ≡ 10) ↔ (length out < length (write_of s n))
  -- a call that is taken has written the message, and returns its length
  pub written : (s : List ℕ) (n : Session) (out : List ℕ) → answer s n out ≡ 0
      → (message (write_call s n out) ≡ write_of s n) × ((write_call s n out).returned.length ≡ length (write_of s n))
  -- a call that is refused returns length 0 and has written nothing
  pub refused : (s : List ℕ) (n : Session) (out : List ℕ) → (answer s n out ≡ 0 → ⊥)
      → ((write_call s n out).returned.length ≡ 0) × ((write_call s n out).out ≡ out)
  -- bytes past the length are as they were
  pub past : (s : List ℕ) (n : Session) (out : List ℕ) (k : ℕ) → (write_call s n out).returned.length ≤ k
      → get_or (write_call s n out).out k 0 ≡ get_or out k 0
  -- body length and checksum
  pub frame : (s : List ℕ) (n : Session) → (length9 : List ℕ) × (sum10 : List ℕ) × Frame (writing_of s n) length9 sum10
  -- what `fix_write` wrote `fix_read` takes, and gives the fields of just that session and record, each value where the table says
  pub written_read : (s : List ℕ) (n : Session) (out : List ℕ) → Bytes s → session_typed n ≡ true → answer s n out ≡ 0
      → Reads s n (message (write_call s n out)) (fields_read (message (write_call s n out)))
  -- `fix_read` answers 0 or 3: 0 exactly for bytes that some call of `fix_write` wrote, 3 exactly for those that none can have written
  pub read_answers : (x : List ℕ) → ((fields_read x).refusal ≡ 0) ⊎ ((fields_read x).refusal ≡ 3)
  pub read_taken : (x : List ℕ) → ((fields_read x).refusal ≡ 0) ↔ Message x
  pub read_refused : (x : List ℕ) → ((fields_read x).refusal ≡ 3) ↔ (Message x → ⊥)
  -- and with 3 all else is zero
  pub read_nothing : (x : List ℕ) → (fields_read x).refusal ≡ 3 → ((fields_read x).count ≡ 0) × ((i : ℕ) → Zero (fields_read x) i)
  -- of an answer as it is written, what stands at the place of message i is that message's record
  pub cut_written : (buf : List ℕ) (alarm alarm2 : ℕ) (ms : List Record) → are_messages ms ≡ true → length ms ≤ 2
      → length (answer_bytes alarm alarm2 ms) ≤ length buf → Bytes (splice buf 0 (answer_bytes alarm alarm2 ms)) → (i : ℕ) → i < length ms
      → cut_at (splice buf 0 (answer_bytes alarm alarm2 ms)) (place_of (splice buf 0 (answer_bytes alarm alarm2 ms)) i) ≡ record_bytes (get_or ms i blank)
  -- of any answer it is a record that `fix_write` refuses with neither 3 nor 4; past the count there is no place
  pub cut_taken : (a : List ℕ) → Bytes a → answer_refusal a ≡ 0 → (i : ℕ) → i < count_in a → (n : Session) (out : List ℕ)
      → (answer (cut_at a (place_of a i)) n out ≡ 3 → ⊥) × (answer (cut_at a (place_of a i)) n out ≡ 4 → ⊥)
  pub cut_past : (a : List ℕ) (i : ℕ) → answer_refusal a ≡ 0 → count_in a ≤ i → place_of a i ≡ nowhere 0
