-- `places::starts` walks if there is room to count. Assumes nothing.
use Rattle.std.proofs.Common.{lt-ltb, le-ltb, ◌∙◌, sym, arith, ltb}
use Rattle.std.proofs.Math.ListN.{get_or-replicate}
use Rattle.prelude.specs.Laws.Cases.{if_true, if_false}
use Rattle.places.specs.Starts.{start_from}
use Rattle.places.proofs.starts.Goals as goal

pub returns-then-o-gt65535 : goal.returns-then-o-gt65535
unfolding start_from
returns-then-o-gt65535 c =
    let o = c.args.o in
    λ k h. get_or-replicate 33 k 0 0 (omega arith) ∙ sym (if_false (ltb o 65536) _ 0 (le-ltb o 65536 (omega (arith, c.if-o-gt65535.true))))

pub returns : goal.returns
unfolding start_from
returns c =
    let o = c.args.o in
    λ k h. c.starts.ensures k h ∙ sym (if_true (ltb o 65536) _ 0 (lt-ltb o 65536 (omega (arith, c.if-o-gt65535.false))))
