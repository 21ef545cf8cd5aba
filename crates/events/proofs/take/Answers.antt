-- `take` is `event_of`, if a question is answered with no. Assumes nothing.
use Rattle.std.proofs.lemmas.Result.{err_from_is_err_and}
use Rattle.events.specs.Laws.Entered.{left_err, left_taken_lem, room_taken}
use Rattle.events.specs.Laws.Said.{answer_written, left_keeps}
use Rattle.events.proofs.take.Goals as goal

pub returns-in_err-origin-clause-is : goal.returns-in_err-origin-clause-is
returns-in_err-origin-clause-is c =
    let p = err_from_is_err_and c.from_residual.result c.from_residual.ensures.1 in
    rw (p.1, p.2) (left_err _ _ _ _ c.in_err-origin.ensures.is)

pub returns-clause-answered : goal.returns-clause-answered
returns-clause-answered c = answer_written _ _ _ _ _ _ (room_taken _ _ _ _ c.in_ok-origin.ensures.is c.in_ok-origin.ensures.taken.0) _ _ c.write_answer.ensures.0 c.write_answer.ensures.1

pub returns-clause-is : goal.returns-clause-is
returns-clause-is c =
    let o = c.in_ok-origin.ensures in
    left_taken_lem _ _ _ _ o.is o.taken.0 _ o.taken.1 _ _ _ _ _ _ _ c.request_count-k.ensures
    c.leaves_qty-leaves.ensures c.opening-opening.ensures c.place_order.ensures c.place_requests.ensures c.place_index.ensures c.write_answer.ensures.1

pub returns-clause-kept : goal.returns-clause-kept
returns-clause-kept c =
    left_keeps c.args.book.now c.args.record.now c.args.answer.now c.requires.bytes (λ k. (c.type_inv.record k).fits) c.requires.keeps 0 c.place_index.new.book c.write_answer.new.answer
    (returns-clause-is c)

pub returns-clause-fits : goal.returns-clause-fits
returns-clause-fits c = λ k. (c.type_inv.book k).fits
