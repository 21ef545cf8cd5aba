-- `records::write_answer`: the messages, then the head before them. Rests on Laws.Writing.
use Rattle.std.proofs.Common.{◌≡◌, ◌≤◌, ◌+◌, ℕ, length, le-leb, refl, sym, ◌∙◌, arith}
use Rattle.std.proofs.lemmas.Bool.{lt-leb}
use Rattle.prelude.specs.Cases.{if◌then◌otherwise◌}
use Rattle.records.specs.declared.Record.{Record}
use Rattle.records.specs.Answer.{head_size, shortest_answer, messages_bytes, chosen}
use Rattle.records.specs.Laws.Writing.{length_answer, answer_room, answer_splice, length_chosen}
use Rattle.records.proofs.write_answer.Goals as goal

room : (count : ℕ) (a b : Record) → head_size + length (messages_bytes (chosen count a b)) ≤ shortest_answer
room count a b = answer_room (chosen count a b) (omega (arith, length_chosen count a b))

pub returns-then-answer-lt-SHORTEST_ANSWER : goal.returns-then-answer-lt-SHORTEST_ANSWER
unfolding if◌then◌otherwise◌
returns-then-answer-lt-SHORTEST_ANSWER c = rw (lt-leb _ _ c.if-answer-lt-SHORTEST_ANSWER.true) (refl, refl)

pub overflow_cast-result : goal.overflow_cast-result
overflow_cast-result c = let a = c.args in omega (arith, room a.count a.first.now a.second.now, c.put_chosen-end.ensures.0)

pub returns : goal.returns
unfolding if◌then◌otherwise◌
returns c =
    let a = c.args in
    let ms = chosen a.count a.first.now a.second.now in
    let e = c.put_chosen-end.ensures in
    let n : c.min.result ≡ length ms = c.min.ensures ∙ sym (length_chosen a.count a.first.now a.second.now) in
    rw (le-leb _ _ c.if-answer-lt-SHORTEST_ANSWER.false) (
      e.0 ∙ sym (length_answer a.alarm a.alarm2 ms),
      c.put_head.ensures
          ∙ (rw (e.1, e.0, n) (answer_splice a.answer.now a.alarm a.alarm2 ms (omega (arith, room a.count a.first.now a.second.now, c.if-answer-lt-SHORTEST_ANSWER.false)))),
    )
