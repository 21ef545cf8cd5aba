-- `records::read_two`: two messages that fill the answer. Assumes nothing.
use Rattle.std.proofs.Common.{eq-eqb, ne_eqb, ◌≡◌, ◌∷◌, [], true, refl, sym, ◌∙◌, arith}
use Rattle.std.proofs.lemmas.Result.{err_from_is_err_and}
use Rattle.format.specs.Places.{end_of}
use Rattle.format.specs.Refusal.{message_shaped}
use Rattle.records.specs.Answer.{head_size, shaped_from, ranged_from, messages_from}
use Rattle.records.specs.Laws.ReadingAnswer.{message_inside, from_3, from_4}
use Rattle.records.proofs.read_two.Goals as goal
use Rattle.records.proofs.read_two.Goals.{After-end, After-end-2, Else-end-a, In_ok-second}

ends : (c : After-end) → c.end.result ≡ end_of c.args.a.now head_size
ends c = let e = c.in_ok-first.ensures.ok in rw (e.0, e.1) at c.end.ensures

-- the second starts where the first ends
begins : (c : In_ok-second) → c.in_ok-second.second.start ≡ end_of c.args.a.now head_size
begins c = c.in_ok-second.ensures.ok.1 ∙ ends (goal.at.In_ok-second c).After-end

ends_2 : (c : After-end-2) → c.end-2.result ≡ end_of c.args.a.now (end_of c.args.a.now head_size)
ends_2 c = rw (c.in_ok-second.ensures.ok.0, begins (goal.at.After-end-2 c).In_ok-second) at c.end-2.ensures

shape_2 : (c : In_ok-second) → message_shaped c.args.a.now (end_of c.args.a.now head_size) ≡ true
shape_2 c = rw (ends (goal.at.In_ok-second c).After-end) at c.in_ok-second.ensures.ok.2

all : (c : Else-end-a) → shaped_from c.args.a.now head_size 2 ≡ true
unfolding shaped_from
all c =
    let i = goal.at.Else-end-a c in
    rw (c.in_ok-first.ensures.ok.2, shape_2 i.In_ok-second) (eq-eqb _ _ (sym (ends_2 i.After-end-2) ∙ c.if-end-a.false))

pub returns-in_err-first-clause-err : goal.returns-in_err-first-clause-err
unfolding shaped_from
returns-in_err-first-clause-err c =
    let e = c.in_err-first.ensures.err in
    let p = err_from_is_err_and c.from_residual.result c.from_residual.ensures.1 in
    rw (p.1, p.2, e.1) (sym (from_3 c.args.a.now 2 (rw e.0 refl)).0)

pub of_message-requires-2 : goal.of_message-requires-2
of_message-requires-2 c =
    omega (arith, ends (goal.at.of_message-requires-2 c).After-end, message_inside c.args.a.now head_size c.in_ok-first.ensures.ok.2)

pub returns-in_err-second-clause-err : goal.returns-in_err-second-clause-err
unfolding shaped_from
returns-in_err-second-clause-err c =
    let n = ends (goal.at.returns-in_err-second-clause-err c).After-end in
    let e = c.in_err-second.ensures.err in
    let p = err_from_is_err_and c.from_residual-in_err-second.result c.from_residual-in_err-second.ensures.1 in
    let f = rw n at e.0 in
    rw (p.1, p.2, e.1) (sym (from_3 c.args.a.now 2 (rw (c.in_ok-first.ensures.ok.2, f) refl)).0)

pub returns-then-end-a-clause-err : goal.returns-then-end-a-clause-err
unfolding shaped_from
returns-then-end-a-clause-err c =
    let i = goal.at.returns-then-end-a-clause-err c in
    sym (from_3 c.args.a.now 2 (rw (c.in_ok-first.ensures.ok.2, shape_2 i.In_ok-second) (ne_eqb _ _ (λ z. c.if-end-a.true (ends_2 i.After-end-2 ∙ z))))).0

pub returns-in_err-record_in-clause-err : goal.returns-in_err-record_in-clause-err
unfolding ranged_from
returns-in_err-record_in-clause-err c =
    let o = c.in_ok-first.ensures.ok in
    let e = c.in_err-record_in.ensures.err in
    let p = err_from_is_err_and c.from_residual-in_err-record_in.result c.from_residual-in_err-record_in.ensures.1 in
    let r = rw (o.0, o.1) at e.0 in
    rw (p.1, p.2, e.1) (sym (from_4 c.args.a.now 2 (all (goal.at.returns-in_err-record_in-clause-err c).Else-end-a) (rw r refl)).0)

pub returns-in_err-record_in-2-clause-err : goal.returns-in_err-record_in-2-clause-err
unfolding ranged_from
returns-in_err-record_in-2-clause-err c =
    let i = goal.at.returns-in_err-record_in-2-clause-err c in
    let o = c.in_ok-first.ensures.ok in
    let e = c.in_err-record_in-2.ensures.err in
    let p = err_from_is_err_and c.from_residual-in_err-record_in-2.result c.from_residual-in_err-record_in-2.ensures.1 in
    let r = rw (c.in_ok-second.ensures.ok.0, begins i.In_ok-second) at e.0 in
    let f = rw (o.0, o.1) at c.in_ok-record_in.ensures.ok in
    rw (p.1, p.2, e.1) (sym (from_4 c.args.a.now 2 (all i.Else-end-a) (rw (f.0, r) refl)).0)

pub returns-clause-ok : goal.returns-clause-ok
unfolding ranged_from messages_from
returns-clause-ok c =
    let i = goal.at.returns-clause-ok c in
    let o = c.in_ok-first.ensures.ok in
    let f = rw (o.0, o.1) at c.in_ok-record_in.ensures.ok in
    let g = rw (c.in_ok-second.ensures.ok.0, begins i.In_ok-second) at c.in_ok-record_in-2.ensures.ok in
    record {
      shapes = all i.Else-end-a;
      ranges = rw (f.0, g.0) refl;
      messages = λ j. f.1 j ∷ g.1 j ∷ [];
    }
