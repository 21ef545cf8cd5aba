-- `cut::message_at`: the answer as `read_answer` reads it. Rests on Laws.Cut.
use Rattle.std.proofs.Common.{◌≤◌, sym, ap, ◌∙◌, arith, length}
use Rattle.records.specs.Answer.{count_in}
use Rattle.records.specs.Laws.Refused.{number_not}
use Rattle.records.specs.Place.{nowhere}
use Rattle.records.specs.Laws.Cut.{count_in_lem, none_past, place_refused}
use Rattle.records.proofs.cut.message_at.Goals as goal

pub place_in-requires : goal.place_in-requires
place_in-requires c =
    let e = c.in-Ok.ensures.ok in
    (e.taken, omega (arith, c.count.ensures, ap length e.messages, count_in_lem c.args.answer.now e.taken))

pub returns-in-Ok-2 : goal.returns-in-Ok-2
returns-in-Ok-2 c =
    let e = c.in-Ok.ensures.ok in
    let l : count_in c.args.answer.now ≤ c.args.n = omega (arith, c.if-n-count.false, c.count.ensures, ap length e.messages, count_in_lem c.args.answer.now e.taken) in
    c.nowhere.ensures ∙ sym (none_past c.args.answer.now c.args.n e.taken l)

pub returns-in-Err : goal.returns-in-Err
returns-in-Err c =
    let e = c.in-Err.ensures.err in
    c.nowhere-in-Err.ensures ∙ ap nowhere (c.number.ensures ∙ e) ∙ sym (place_refused c.args.answer.now c.args.n (number_not _ _ e))
