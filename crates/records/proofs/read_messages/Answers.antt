-- `records::read_messages`: by their count. Assumes nothing.
use Rattle.std.proofs.Common.{eq-eqb, ne_eqb, refl, sym, arith}
use Rattle.std.proofs.lemmas.Bool.{lt-leb}
use Rattle.prelude.specs.Cases.{if◌then◌otherwise◌}
use Rattle.records.specs.Answer.{shaped_from, ranged_from, messages_from}
use Rattle.records.specs.Laws.ReadingAnswer.{from_3}
use Rattle.records.proofs.read_messages.Goals as goal

pub returns-in-0-clause-ok : goal.returns-in-0-clause-ok
unfolding shaped_from ranged_from messages_from
returns-in-0-clause-ok c =
    (omega arith, rw c.in-0.is (record { shapes = eq-eqb _ _ (sym c.if-a-eq-HEAD.true); ranges = refl; messages = refl }))

pub returns-in-1-clause-err : goal.returns-in-1-clause-err
unfolding if◌then◌otherwise◌
returns-in-1-clause-err c = rw c.in-1.is c.read_one.ensures.err

pub returns-in-2-clause-err : goal.returns-in-2-clause-err
unfolding if◌then◌otherwise◌
returns-in-2-clause-err c = rw c.in-2.is c.read_two.ensures.err

pub returns-in_default-clause-err : goal.returns-in_default-clause-err
unfolding if◌then◌otherwise◌ shaped_from
returns-in_default-clause-err c = rw c.in-0.is (sym (from_3 c.args.a.now 0 (ne_eqb _ _ (λ e. c.if-a-eq-HEAD.false (sym e)))).0)

pub returns-in_default-2-clause-err : goal.returns-in_default-2-clause-err
unfolding if◌then◌otherwise◌ shaped_from
returns-in_default-2-clause-err c = rw (lt-leb c.args.count 2 (omega arith)) refl
