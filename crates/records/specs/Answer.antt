-- Answers: the bytes of an answer, and what bytes are one. Rests on Record.
use Rattle.std.specs.Prelude.{ℕ, zero, suc, ◌+◌, ◌*◌, ◌≡◌, List, [], ◌∷◌, ◌++◌, Bool, true, ◌&&◌, length, get_or, eqb, leb}
use Rattle.prelude.specs.Cases.{if◌then◌otherwise◌}
use Rattle.prelude.specs.Span.{span}
use Rattle.prelude.specs.Number.{bytes_of, word16}
use Rattle.format.specs.Places.{end_of}
use Rattle.records.specs.declared.Record.{Record}
use Rattle.records.specs.declared.Answer.{Answer}
use Rattle.records.specs.declared.Messages.{Messages}
use Rattle.records.specs.declared.Messages.TheVariants.{Nothing, One, Two}
use Rattle.records.specs.Record.{record_bytes, record_at, is_message}
use Rattle.format.specs.Refusal.{ranged, refusal_by, message_shaped}

-- the head: the whole length in 2 bytes, how many messages, the alarm, the second alarm
abbrev pub head_counts : (count alarm alarm2 : ℕ) → List ℕ
head_counts count alarm alarm2 = count ∷ alarm ∷ alarm2 ∷ []

abbrev pub head_size : ℕ
head_size = 5

abbrev pub length_in : List ℕ → ℕ
length_in s = word16 s 0

abbrev pub count_in : List ℕ → ℕ
count_in s = get_or s 2 0

abbrev pub alarm_in : List ℕ → ℕ
alarm_in s = get_or s 3 0

abbrev pub alarm2_in : List ℕ → ℕ
alarm2_in s = get_or s 4 0

-- the most bytes of a record, and of an answer of two
abbrev pub most_record : ℕ
most_record = 399

abbrev pub most_answer : ℕ
most_answer = head_size + 2 * most_record

-- the shortest answer buffer that is taken
abbrev pub shortest_answer : ℕ
shortest_answer = 1024

-- ---- written

abbrev pub messages_bytes : List Record → List ℕ
messages_bytes [] = []
messages_bytes (m ∷ ms) = record_bytes m ++ messages_bytes ms

unfoldable pub head_bytes : (n count alarm alarm2 : ℕ) → List ℕ
head_bytes n count alarm alarm2 = bytes_of 2 n ++ head_counts count alarm alarm2

unfoldable pub answer_bytes : (alarm alarm2 : ℕ) → List Record → List ℕ
answer_bytes alarm alarm2 ms = head_bytes (head_size + length (messages_bytes ms)) (length ms) alarm alarm2 ++ messages_bytes ms

-- none, the first, or both
abbrev pub chosen : ℕ → Record → Record → List Record
chosen count first second = if eqb count 0 then [] otherwise if eqb count 1 then first ∷ [] otherwise first ∷ second ∷ []

-- all are messages
abbrev pub are_messages : List Record → Bool
are_messages [] = true
are_messages (m ∷ ms) = is_message m && are_messages ms

-- ---- read

-- the messages from o on, n of them, and whether they have shape, up to the end, and are in range
unfoldable pub messages_from : List ℕ → ℕ → ℕ → List Record
messages_from s o zero = []
messages_from s o (suc n) = record_at s o ∷ messages_from s (end_of s o) n

unfoldable pub shaped_from : List ℕ → ℕ → ℕ → Bool
shaped_from s o zero = eqb o (length s)
shaped_from s o (suc n) = message_shaped s o && shaped_from s (end_of s o) n

unfoldable pub ranged_from : List ℕ → ℕ → ℕ → Bool
ranged_from s o zero = true
ranged_from s o (suc n) = ranged s o && ranged_from s (end_of s o) n

-- the bytes up to the length that the head says: no more are looked at
abbrev pub answer_in : List ℕ → List ℕ
answer_in s = span s 0 (length_in s)

unfoldable pub head_right : List ℕ → Bool
head_right s = leb head_size (length s) && (leb head_size (length_in s) && (leb (length_in s) (length s) && leb (count_in s) 2))

unfoldable pub answer_refusal : List ℕ → ℕ
answer_refusal s = refusal_by (head_right s && shaped_from (answer_in s) head_size (count_in s)) (ranged_from (answer_in s) head_size (count_in s))

unfoldable pub answer_messages : List ℕ → List Record
answer_messages s = if eqb (answer_refusal s) 0 then messages_from (answer_in s) head_size (count_in s) otherwise []

unfoldable pub answer_alarm : List ℕ → ℕ
answer_alarm s = if eqb (answer_refusal s) 0 then alarm_in s otherwise 0

unfoldable pub answer_alarm2 : List ℕ → ℕ
answer_alarm2 s = if eqb (answer_refusal s) 0 then alarm2_in s otherwise 0

-- ---- what code reads

abbrev pub messages_of : Messages → List Record
messages_of Nothing = []
messages_of (One first) = first ∷ []
messages_of (Two first second) = first ∷ second ∷ []

-- an answer that is taken; why another is not has the number answer_refusal
pub record ReadsAnswer (s : List ℕ) (r : Answer) : Type 0 where
  pub taken : answer_refusal s ≡ 0
  pub alarm : r.alarm ≡ answer_alarm s
  pub alarm2 : r.alarm2 ≡ answer_alarm2 s
  pub messages : messages_of r.messages ≡ answer_messages s
