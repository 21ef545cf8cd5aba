-- What is promised of records beside the contracts of their functions: what is written is read back as it was, only writings are accepted, and
-- an answer has an end. Proved in Laws.RoundTrip. Rests on Record and Answer.
use Rattle.std.specs.Prelude.{ℕ, ◌-◌, ◌≤◌, ◌≡◌, List, ◌++◌, true, length}
use Rattle.prelude.specs.Span.{span, splice}
use Rattle.prelude.specs.Number.{Bytes}
use Rattle.format.specs.Places.{end_of}
use Rattle.format.specs.Refusal.{event_refusal, message_refusal}
use Rattle.records.specs.declared.Record.{Record}
use Rattle.records.specs.Record.{record_bytes, event_in, message_of, is_event, is_message}
use Rattle.records.specs.Answer.{most_answer, are_messages, answer_bytes, answer_refusal, answer_messages, answer_alarm, answer_alarm2}

-- an answer written at the front of a buffer is read as it was, whatever stands behind it
pub record ReadBack (buf : List ℕ) (a a2 : ℕ) (ms : List Record) : Type 0 where
  pub refusal : answer_refusal (splice buf 0 (answer_bytes a a2 ms)) ≡ 0
  pub messages : answer_messages (splice buf 0 (answer_bytes a a2 ms)) ≡ ms
  pub alarm : answer_alarm (splice buf 0 (answer_bytes a a2 ms)) ≡ a
  pub alarm2 : answer_alarm2 (splice buf 0 (answer_bytes a a2 ms)) ≡ a2

pub record RoundTrip : Type 0 where
  -- an event that is right, written, is taken and read as it was
  pub event : (r : Record) → is_event r ≡ true → (event_refusal (record_bytes r) ≡ 0) × (event_in (record_bytes r) ≡ r)
  -- so is a message, anywhere in a buffer, and an answer of at most two
  pub message : (m : Record) → is_message m ≡ true → (pre post : List ℕ) → message_of (pre ++ (record_bytes m ++ post)) (length pre) ≡ m
  pub answer : (buf : List ℕ) (a a2 : ℕ) (ms : List Record) → are_messages ms ≡ true → length ms ≤ 2 → length (answer_bytes a a2 ms) ≤ length buf → ReadBack buf a a2 ms
  -- bytes that are taken are the writing of what is read, which is right
  pub taken : (s : List ℕ) → Bytes s → event_refusal s ≡ 0 → (is_event (event_in s) ≡ true) × (record_bytes (event_in s) ≡ s)
  pub accepted : (s : List ℕ) (o : ℕ) → Bytes s → message_refusal s o ≡ 0 → (is_message (message_of s o) ≡ true) × (record_bytes (message_of s o) ≡ span s o (end_of s o - o))
  -- any two records fit
  pub most : (alarm alarm2 : ℕ) (ms : List Record) → length ms ≤ 2 → length (answer_bytes alarm alarm2 ms) ≤ most_answer
