-- The writer on a record's bytes and a session's texts: what each bit holds, the answer, and the bytes. Rests on Message and format's Refusal.
use Rattle.std.specs.Prelude.{ℕ, ◌≡◌, List, [], Bool, true, not, ltb, length, None, Some}
use Rattle.prelude.specs.Cases.{if◌then◌otherwise◌}
use Rattle.prelude.specs.Number.{Bytes}
use Rattle.bits.specs.Map.{bit}
use Rattle.format.specs.Places.{content, kind_at, map_at}
use Rattle.format.specs.Refusal.{ranged as recordRanged}
use Rattle.records.specs.Parts.{whole_message}
use Rattle.fix_words.specs.Rows.{Values}
use Rattle.fix_words.specs.Message.{Writing, bytes_for, texted, typed}

-- what each bit of the record holds
unfoldable pub field_at : List ℕ → Values
field_at s b = if bit (map_at s 0) b then Some (content s 0 (map_at s 0) b) otherwise None

-- the session's part of a writing
pub record Session : Type 0 where
  pub sender : List ℕ
  pub target : List ℕ
  pub sequence : ℕ
  pub time : List ℕ

abbrev pub session : (sender target : List ℕ) (sequence : ℕ) (time : List ℕ) → Session
session sender target sequence time = record { sender = sender; target = target; sequence = sequence; time = time }

abbrev pub writing_of : List ℕ → Session → Writing
writing_of s n = record { kind = kind_at s 0; at = field_at s; sender = n.sender; target = n.target; sequence = n.sequence; time = n.time }

-- THE WRITER'S ANSWER: 3 and 4 as docs/SCOPE.md has them for messages, then 9, then 10
unfoldable pub write_refusal : List ℕ → Session → ℕ → ℕ
write_refusal s n room =
    if not (whole_message s) then 3 otherwise
    if not (recordRanged s 0) then 4 otherwise
    if not (texted (writing_of s n)) then 9 otherwise
    if ltb room (length (bytes_for (writing_of s n))) then 10 otherwise
    0

-- the session's texts are bytes, and its sequence is one word
abbrev pub session_typed : Session → Bool
session_typed n = typed (writing_of [] n)

-- what the call writes, if it writes
abbrev pub write_of : List ℕ → Session → List ℕ
write_of s n = bytes_for (writing_of s n)

-- bytes that a call of the writer can yield
pub record Yields (x s : List ℕ) (n : Session) (room : ℕ) : Type 0 where
  pub bytes : Bytes s
  pub session : session_typed n ≡ true
  pub refusal : write_refusal s n room ≡ 0
  pub written : write_of s n ≡ x
