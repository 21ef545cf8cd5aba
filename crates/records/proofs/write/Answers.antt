-- `records::write`: the messages, then the head before them. Rests on Laws.Writing.
use Rattle.std.proofs.Common.{◌≤◌, ◌+◌, length, le-leb, refl, sym, ◌∙◌, arith}
use Rattle.std.proofs.lemmas.Bool.{lt-leb}
use Rattle.prelude.specs.Cases.{if◌then◌otherwise◌}
use Rattle.records.specs.declared.Messages.{Messages}
use Rattle.records.specs.declared.Messages.TheVariants.{Nothing, One, Two}
use Rattle.records.specs.Answer.{head_size, shortest_answer, messages_bytes, messages_of}
use Rattle.records.specs.Laws.Writing.{length_answer, answer_room, answer_splice}
use Rattle.records.proofs.write.Goals as goal

room : (ms : Messages) → head_size + length (messages_bytes (messages_of ms)) ≤ shortest_answer
room ms = answer_room (messages_of ms) (two ms)
  where
    two : (ms : Messages) → length (messages_of ms) ≤ 2
    two Nothing = omega arith
    two (One a) = omega arith
    two (Two a b) = omega arith

pub returns-then-answer-lt-SHORTEST_ANSWER : goal.returns-then-answer-lt-SHORTEST_ANSWER
unfolding if◌then◌otherwise◌
returns-then-answer-lt-SHORTEST_ANSWER c = rw (lt-leb _ _ c.if-answer-lt-SHORTEST_ANSWER.true) (refl, refl)

pub overflow_cast-result : goal.overflow_cast-result
overflow_cast-result c = omega (arith, room c.args.read.now.messages, c.put_messages-end.ensures.0)

pub returns : goal.returns
unfolding if◌then◌otherwise◌
returns c =
    let d = c.args.answer.now in
    let r = c.args.read.now in
    let e = c.put_messages-end.ensures in
    rw (le-leb _ _ c.if-answer-lt-SHORTEST_ANSWER.false) (
      e.0 ∙ sym (length_answer r.alarm r.alarm2 (messages_of r.messages)),
      c.put_head.ensures
          ∙ (rw (e.1, e.0, c.count-count.ensures) (answer_splice d r.alarm r.alarm2 (messages_of r.messages) (omega (arith, room r.messages, c.if-answer-lt-SHORTEST_ANSWER.false)))),
    )
