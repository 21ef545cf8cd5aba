-- `marks_ok` meets its contract, by one difference. Rests on Kinds.
use Rattle.std.proofs.Common.{arith, le-leb}
use Rattle.rules.specs.Laws.Kinds.{marks_less}
use Rattle.rules.proofs.numbers.marks_ok.Goals as goal

pub returns-then-answered-le1 : goal.returns-then-answered-le1
returns-then-answered-le1 c = rw (le-leb c.args.answered 1 c.if-answered-le1.true) (marks_less c.args.answered c.args.outcome c.if-answered-le1.true (omega arith))
