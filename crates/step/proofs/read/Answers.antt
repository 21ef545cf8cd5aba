-- `step::read` asks questions 2, 3 and 4, of whatever book keeps its rules. Assumes nothing.
use Rattle.std.proofs.Common.{refl}
use Rattle.std.proofs.lemmas.Result.{IfErr-weaker}
use Rattle.step.specs.Laws.Asked.{call_short, call_unread, unread_short, unread_refused}
use Rattle.step.proofs.read.Goals as goal

pub returns-then-room-lt-SHORTEST_ANSWER-clause-err : goal.returns-then-room-lt-SHORTEST_ANSWER-clause-err
returns-then-room-lt-SHORTEST_ANSWER-clause-err c = (λ b k. call_short b _ _ b refl k c.if-room-lt-SHORTEST_ANSWER.true, refl)

pub returns-then-room-lt-SHORTEST_ANSWER-clause-unread : goal.returns-then-room-lt-SHORTEST_ANSWER-clause-unread
returns-then-room-lt-SHORTEST_ANSWER-clause-unread c = unread_short _ _ c.if-room-lt-SHORTEST_ANSWER.true

pub returns-clause-err : goal.returns-clause-err
returns-clause-err c =
    IfErr-weaker c.read_event.result _ _ (λ r p. (λ b k. call_unread b _ _ b refl k c.if-room-lt-SHORTEST_ANSWER.false r p.0, p.1)) c.read_event.ensures.err

pub returns-clause-unread : goal.returns-clause-unread
returns-clause-unread c =
    IfErr-weaker c.read_event.result _ _ (λ r p. unread_refused _ _ r p.0) c.read_event.ensures.err
