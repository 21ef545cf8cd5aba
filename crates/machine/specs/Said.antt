-- Every message that the machine puts out is one that the writer writes and the reader reads back. Rests on History, Whole and records.
-- So an answer is read back as the messages of its step. The proofs are in proofs/.
use Rattle.std.specs.Prelude.{ℕ, ◌≤◌, ◌≡◌, ◌⊎◌, true, List, length}
use Rattle.prelude.specs.Span.{splice}
use Rattle.records.specs.Record.{is_event}
use Rattle.records.specs.Answer.{answer_bytes, answer_refusal, answer_messages, answer_alarm, answer_alarm2, are_messages}
use Rattle.store.specs.Book.{Book}
use Rattle.machine.specs.Constants.{most_alarm, filled_short, stuck_cancel}
use Rattle.machine.specs.Changes.{Event}
use Rattle.machine.specs.Machine.{step_of}
use Rattle.machine.specs.Rules.{rules}
use Rattle.machine.specs.Whole.{WholeBook}
use Rattle.machine.specs.History.{messages_of}
use Rattle.machine.specs.declared.Change.{Change}

abbrev pub MessagesRight : Type 0
MessagesRight = (b : Book) (e : Event) → rules b ≡ true → WholeBook b → is_event e ≡ true → are_messages (messages_of (step_of b e)) ≡ true

abbrev pub MessagesFew : Type 0
MessagesFew = (c : Change) → length (messages_of c) ≤ 2

-- an answer's two alarms: none, one that is listed, or 6 and then 1
pub record Alarmed (alarm alarm2 : ℕ) : Type 0 where
  pub listed : alarm ≤ most_alarm
  pub second : (alarm2 ≡ 0) ⊎ ((alarm ≡ filled_short) × (alarm2 ≡ stuck_cancel))

-- this holds of every event on every book
abbrev pub AlarmsRight : Type 0
AlarmsRight = (b : Book) (e : Event) → let c = step_of b e in Alarmed c.output.alarm c.output.alarm2

-- what our reader reads of a buffer: the answer of a change, whatever stands behind it
pub record Answers (c : Change) (buf : List ℕ) : Type 0 where
  pub taken : answer_refusal buf ≡ 0
  pub messages : answer_messages buf ≡ messages_of c
  pub alarm : answer_alarm buf ≡ c.output.alarm
  pub alarm2 : answer_alarm2 buf ≡ c.output.alarm2
  pub alarms : Alarmed (answer_alarm buf) (answer_alarm2 buf)

-- the answer that was written is read as what was said
abbrev pub AnswerRead : Type 0
AnswerRead = (b : Book) (e : Event) (buf : List ℕ) → rules b ≡ true → WholeBook b → is_event e ≡ true → 1024 ≤ length buf
    → let c = step_of b e in Answers c (splice buf 0 (answer_bytes c.output.alarm c.output.alarm2 (messages_of c)))
