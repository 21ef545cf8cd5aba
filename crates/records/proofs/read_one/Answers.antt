-- `records::read_one`: one message that fills the answer. Assumes nothing.
use Rattle.std.proofs.Common.{eq-eqb, ne_eqb, ◌≡◌, ◌∷◌, [], true, refl, sym, ap, ◌∙◌}
use Rattle.std.proofs.lemmas.Result.{err_from_is_err_and}
use Rattle.format.specs.Places.{end_of}
use Rattle.records.specs.declared.Record.{Record}
use Rattle.records.specs.Answer.{head_size, shaped_from, ranged_from, messages_from}
use Rattle.records.specs.Laws.ReadingAnswer.{from_3, from_4}
use Rattle.records.proofs.read_one.Goals as goal
use Rattle.records.proofs.read_one.Goals.{After-end, Else-end-a}

ends : (c : After-end) → c.end.result ≡ end_of c.args.a.now head_size
ends c = let e = c.in_ok-first.ensures.ok in rw (e.0, e.1) at c.end.ensures

all : (c : Else-end-a) → shaped_from c.args.a.now head_size 1 ≡ true
unfolding shaped_from
all c = rw c.in_ok-first.ensures.ok.2 (eq-eqb _ _ (sym (ends (goal.at.Else-end-a c).After-end) ∙ c.if-end-a.false))

pub returns-in_err-first-clause-err : goal.returns-in_err-first-clause-err
unfolding shaped_from
returns-in_err-first-clause-err c =
    let e = c.in_err-first.ensures.err in
    let p = err_from_is_err_and c.from_residual.result c.from_residual.ensures.1 in
    rw (p.1, p.2, e.1) (sym (from_3 c.args.a.now 1 (rw e.0 refl)).0)

pub returns-then-end-a-clause-err : goal.returns-then-end-a-clause-err
unfolding shaped_from
returns-then-end-a-clause-err c =
    let n = ends (goal.at.returns-then-end-a-clause-err c).After-end in
    sym (from_3 c.args.a.now 1 (rw c.in_ok-first.ensures.ok.2 (ne_eqb _ _ (λ z. c.if-end-a.true (n ∙ z))))).0

pub returns-in_err-record_in-clause-err : goal.returns-in_err-record_in-clause-err
unfolding ranged_from
returns-in_err-record_in-clause-err c =
    let o = c.in_ok-first.ensures.ok in
    let e = c.in_err-record_in.ensures.err in
    let p = err_from_is_err_and c.from_residual-in_err-record_in.result c.from_residual-in_err-record_in.ensures.1 in
    let r = rw (o.0, o.1) at e.0 in
    rw (p.1, p.2, e.1) (sym (from_4 c.args.a.now 1 (all (goal.at.returns-in_err-record_in-clause-err c).Else-end-a) (rw r refl)).0)

pub returns-clause-ok : goal.returns-clause-ok
unfolding ranged_from messages_from
returns-clause-ok c =
    let o = c.in_ok-first.ensures.ok in
    let e = rw (o.0, o.1) at c.in_ok-record_in.ensures.ok in
    record {
      shapes = all (goal.at.returns-clause-ok c).Else-end-a;
      ranges = rw e.0 refl;
      messages = ap (λ (r : Record). r ∷ []) e.1;
    }
