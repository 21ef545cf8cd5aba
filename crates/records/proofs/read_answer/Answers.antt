-- `records::read_answer`: the head, then the messages behind it. Assumes nothing.
use Rattle.std.proofs.Common.{◌≡◌, sym, ⊎_elim, ◌∙◌, arith}
use Rattle.std.proofs.lemmas.Result.{err_from_is_err_and}
use Rattle.prelude.specs.Span.{span}
use Rattle.words.specs.Laws.Windows.{window_16}
use Rattle.records.specs.Answer.{length_in}
use Rattle.records.specs.Laws.ReadingAnswer.{answer_no, answer_by, answer_yes, head_short, head_small, head_cut, head_good}
use Rattle.records.proofs.read_answer.Goals as goal
use Rattle.records.proofs.read_answer.Goals.{After-get16}

said : (c : After-get16) → c.get16.result ≡ length_in c.args.s.now
said c = c.get16.ensures ∙ window_16 c.args.s.now 0

pub returns-then-s-lt-HEAD-clause-err : goal.returns-then-s-lt-HEAD-clause-err
returns-then-s-lt-HEAD-clause-err c = sym (answer_no c.args.s.now (head_short c.args.s.now c.if-s-lt-HEAD.true)).0

pub returns-then-n-lt-HEAD-clause-err : goal.returns-then-n-lt-HEAD-clause-err
returns-then-n-lt-HEAD-clause-err c =
    let s = c.args.s.now in
    let n = said (goal.at.returns-then-n-lt-HEAD-clause-err c).After-get16 in
    sym (answer_no s
    (⊎_elim (λ h. head_small s c.if-s-lt-HEAD.false (omega arith))
    (λ h. head_cut s c.if-s-lt-HEAD.false (omega arith) (omega arith)) c.then-n-lt-HEAD.either)).0

pub returns-in_err-messages-clause-err : goal.returns-in_err-messages-clause-err
unfolding span
returns-in_err-messages-clause-err c =
    let s = c.args.s.now in
    let n : c.from-n.result ≡ length_in s = omega (arith, said (goal.at.returns-in_err-messages-clause-err c).After-get16) in
    let e = rw n at c.in_err-messages.ensures.err in
    let p = err_from_is_err_and c.from_residual.result c.from_residual.ensures.1 in
    rw (p.1, p.2) (e ∙ sym (answer_by s c.if-s-lt-HEAD.false (omega arith) (omega arith)))

pub returns-clause-ok : goal.returns-clause-ok
unfolding span
returns-clause-ok c =
    let s = c.args.s.now in
    let n : c.from-n.result ≡ length_in s = omega (arith, said (goal.at.returns-clause-ok c).After-get16) in
    let e = rw n at c.in_ok-messages.ensures.ok in
    answer_yes s c.in_ok-messages.messages (head_good s c.if-s-lt-HEAD.false (omega arith) (omega arith) e.0) e.1
