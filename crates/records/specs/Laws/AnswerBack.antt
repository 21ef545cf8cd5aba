-- The round trip of messages and answers: what was written is accepted, and read as it was. Rests on Back and Writing.
use Rattle.std.specs.Prelude.{ℕ, ◌+◌, ◌/◌, ◌%◌, ◌≤◌, ◌<◌, ◌≡◌, List, [], ◌∷◌, ◌++◌, true, leb, drop, refl, length, get_or}
use Rattle.std.proofs.Common.{sym, ap, ◌∙◌, append-nil, append_assoc, arith, length-append, le-leb, eq-eqb}
use Rattle.std.proofs.Math.ListN.{get_or-append}
use Rattle.std.proofs.lemmas.Bool.{and_parts, and_from}
use Rattle.prelude.specs.Cases.{if◌then◌otherwise◌}
use Rattle.prelude.specs.Span.{splice}
use Rattle.prelude.specs.Laws.Span.{length_splice, span_splice_same}
use Rattle.format.specs.Places.{end_of}
use Rattle.records.specs.declared.Record.{Record}
use Rattle.records.specs.Record.{record_bytes, is_record, is_message, message_of}
use Rattle.format.specs.Refusal.{message_shaped, message_refusal}
use Rattle.records.specs.Answer.{head_size, length_in, count_in, alarm_in, alarm2_in, are_messages, messages_bytes, head_bytes, answer_bytes, messages_from, shaped_from, ranged_from, answer_in, head_right, answer_refusal, answer_messages, answer_alarm, answer_alarm2}
use Rattle.records.specs.Laws.Right.{Right, right}
use Rattle.records.specs.Laws.Back.{kind_here, record_here, end_here, shaped_here, ranged_here}
use Rattle.records.specs.Laws.Writing.{length_head, length_answer, answer_most}

-- ---- one message, anywhere in a buffer

module _ (m : Record) (ok : is_message m ≡ true) (pre post : List ℕ) where
  is_right : Right m
  unfolding is_message
  is_right = right m (and_parts (is_record m) (leb 16 m.kind) ok).0

  pub message_shaped_lem : message_shaped (pre ++ (record_bytes m ++ post)) (length pre) ≡ true
  unfolding message_shaped is_message
  message_shaped_lem =
      and_from _ _ (shaped_here m is_right pre post)
      (ap (leb 16) (kind_here m is_right pre post) ∙ (and_parts (is_record m) (leb 16 m.kind) ok).1)

  pub message_accepted : message_refusal (pre ++ (record_bytes m ++ post)) (length pre) ≡ 0
  unfolding message_refusal if◌then◌otherwise◌
  message_accepted = rw (message_shaped_lem, ranged_here m is_right pre post) refl

  pub message_back : message_of (pre ++ (record_bytes m ++ post)) (length pre) ≡ m
  unfolding message_of if◌then◌otherwise◌
  message_back = rw message_accepted (record_here m is_right pre post)

-- ---- messages one behind the other

record From (s : List ℕ) (o : ℕ) (ms : List Record) : Type 0 where
  shapes : shaped_from s o (length ms) ≡ true
  ranges : ranged_from s o (length ms) ≡ true
  messages : messages_from s o (length ms) ≡ ms

from_back : (ms : List Record) → are_messages ms ≡ true → (pre : List ℕ) → From (pre ++ messages_bytes ms) (length pre) ms
unfolding shaped_from ranged_from messages_from
from_back [] ok pre = record { shapes = eq-eqb _ _ (ap length (sym (append-nil pre))); ranges = refl; messages = refl }
from_back (m ∷ ms) ok pre =
    let p = and_parts (is_message m) (are_messages ms) ok in
    let post = messages_bytes ms in
    let s = pre ++ (record_bytes m ++ post) in
    let w = is_right m p.0 pre post in
    let e : end_of s (length pre) ≡ length (pre ++ record_bytes m) = end_here m w pre post ∙ sym (length-append pre (record_bytes m)) in
    let g : (pre ++ record_bytes m) ++ post ≡ s = append_assoc pre (record_bytes m) post in
    let f : From s (end_of s (length pre)) ms = rw (e, ← g) (from_back ms p.1 (pre ++ record_bytes m)) in
    record {
      shapes = and_from _ _ (message_shaped_lem m p.0 pre post) f.shapes;
      ranges = and_from _ _ (ranged_here m w pre post) f.ranges;
      messages = λ i. record_here m w pre post i ∷ f.messages i;
    }

-- ---- an answer at the front of a buffer

module _ (buf : List ℕ) (a a2 : ℕ) (ms : List Record) (ok : are_messages ms ≡ true) (few : length ms ≤ 2)
    (room : length (answer_bytes a a2 ms) ≤ length buf) where
  abbrev written : List ℕ
  written = splice buf 0 (answer_bytes a a2 ms)

  abbrev long : ℕ
  long = head_size + length (messages_bytes ms)

  -- byte k of what was written
  byte : (k : ℕ) → k < head_size → get_or written k 0 ≡ get_or (head_bytes long (length ms) a a2) k 0
  unfolding splice answer_bytes
  byte k h =
      let w = answer_bytes a a2 ms in
      get_or-append w (drop (length w) buf) 0 k (omega (arith, length_answer a a2 ms))
      ∙ get_or-append (head_bytes long (length ms) a a2) (messages_bytes ms) 0 k (omega (arith, length_head long (length ms) a a2))

  length_there : length_in written ≡ long
  unfolding head_bytes
  length_there =
      let m = answer_most a a2 ms few in
      let b0 : get_or written 0 0 ≡ long % 256 = byte 0 (omega arith) in
      let b1 : get_or written 1 0 ≡ long / 256 % 256 = byte 1 (omega arith) in
      rw (b0, b1) (omega (arith, length_answer a a2 ms))

  count_there : count_in written ≡ length ms
  unfolding head_bytes
  count_there = byte 2 (omega arith)

  alarm_there : alarm_in written ≡ a
  unfolding head_bytes
  alarm_there = byte 3 (omega arith)

  alarm2_there : alarm2_in written ≡ a2
  unfolding head_bytes
  alarm2_there = byte 4 (omega arith)

  answer_there : answer_in written ≡ answer_bytes a a2 ms
  answer_there =
      rw length_there (span_splice_same buf 0 (answer_bytes a a2 ms) long (length_answer a a2 ms) (omega (arith, length_answer a a2 ms)))

  from_there : From (answer_bytes a a2 ms) head_size ms
  unfolding answer_bytes
  from_there = rw (length_head long (length ms) a a2) at (from_back ms ok (head_bytes long (length ms) a a2))

  length_written : length written ≡ length buf
  length_written = length_splice buf 0 (answer_bytes a a2 ms) (omega arith)

  head_there : head_right written ≡ true
  unfolding head_right
  head_there =
      let n : head_size ≤ length written = omega (arith, length_written, length_answer a a2 ms) in
      let l : long ≤ length written = omega (arith, length_written, length_answer a a2 ms) in
      rw (le-leb head_size (length written) n, length_there, count_there, le-leb head_size long (omega arith), le-leb long (length written) l) (le-leb (length ms) 2 few)

  -- it is accepted, and its messages and its alarms are read as they were written
  pub answer_accepted : answer_refusal written ≡ 0
  unfolding answer_refusal if◌then◌otherwise◌
  answer_accepted = rw (head_there, answer_there, count_there, from_there.shapes, from_there.ranges) refl

  pub answer_messages_lem : answer_messages written ≡ ms
  unfolding answer_messages if◌then◌otherwise◌
  answer_messages_lem = rw (answer_accepted, answer_there, count_there) from_there.messages

  pub answer_alarm_lem : answer_alarm written ≡ a
  unfolding answer_alarm if◌then◌otherwise◌
  answer_alarm_lem = rw answer_accepted alarm_there

  pub answer_alarm2_lem : answer_alarm2 written ≡ a2
  unfolding answer_alarm2 if◌then◌otherwise◌
  answer_alarm2_lem = rw answer_accepted alarm2_there
