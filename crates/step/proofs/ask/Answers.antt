-- `step::ask` asks `read` and then the event that was read, of a book that keeps its rules. Assumes nothing.
use Rattle.std.proofs.Common.{sym, ◌∙◌}
use Rattle.std.proofs.lemmas.Result.{err_from_is_err_and}
use Rattle.prelude.specs.Laws.Cases.{if_true, if_false}
use Rattle.step.specs.Laws.Asked.{call_read, read_both}
use Rattle.step.proofs.ask.Goals as goal

pub returns-in_err-read-clause-refused : goal.returns-in_err-read-clause-refused
returns-in_err-read-clause-refused c =
    let p = err_from_is_err_and c.from_residual.result c.from_residual.ensures.1 in
    rw (p.1) (sym (if_false _ _ _ c.in_err-read.ensures.unread))

pub returns-in_err-read-clause-read : goal.returns-in_err-read-clause-read
returns-in_err-read-clause-read c = c.in_err-read.ensures.err.1 ∙ sym (if_false _ _ _ c.in_err-read.ensures.unread)

pub returns-in_err-change-clause-is : goal.returns-in_err-change-clause-is
returns-in_err-change-clause-is c =
    let p = err_from_is_err_and c.from_residual-in_err-change.result c.from_residual-in_err-change.ensures.1 in
    let a = c.new-asked.ensures in
    let o = c.in_ok-read.ensures.ok in
    rw (p.1, p.2) (call_read _ _ _ _ a.0 (rw (a.0) c.args.book.now.kept) o.2 o.1 _ (a.1 ∙ o.0) _ c.in_err-change.ensures.is)

pub returns-in_err-change-clause-refused : goal.returns-in_err-change-clause-refused
returns-in_err-change-clause-refused c =
    let p = err_from_is_err_and c.from_residual-in_err-change.result c.from_residual-in_err-change.ensures.1 in
    let o = c.in_ok-read.ensures.ok in
    rw (p.1) (c.in_err-change.ensures.refused ∙ sym (if_true _ _ _ (read_both _ _ o.2 o.1)))

pub returns-in_err-change-clause-read : goal.returns-in_err-change-clause-read
returns-in_err-change-clause-read c =
    let o = c.in_ok-read.ensures.ok in
    o.0 ∙ sym (if_true _ _ _ (read_both _ _ o.2 o.1))

pub returns-clause-is : goal.returns-clause-is
returns-clause-is c =
    let a = c.new-asked.ensures in
    let o = c.in_ok-read.ensures.ok in
    call_read _ _ _ _ a.0 (rw (a.0) c.args.book.now.kept) o.2 o.1 _ (a.1 ∙ o.0) _ c.in_ok-change.ensures.is

pub returns-clause-read : goal.returns-clause-read
returns-clause-read c =
    let o = c.in_ok-read.ensures.ok in
    o.0 ∙ sym (if_true _ _ _ (read_both _ _ o.2 o.1))
