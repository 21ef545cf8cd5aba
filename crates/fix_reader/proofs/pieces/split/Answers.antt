-- `split`: what has been cut, `Split`. Rests on Laws.Split.
use Rattle.std.proofs.Common.{◌≡◌, ◌+◌, ◌<◌, arith}
use Rattle.std.proofs.lemmas.List.{take_rest}
use Rattle.fix_reader.specs.Laws.Split.{split_start, split_more, split_full, split_stop, split_done}
use Rattle.fix_reader.proofs.pieces.split.Goals as goal

pub loop-p-init : goal.loop-p-init
loop-p-init c = split_start c.args.m.now

pub returns-then-n-eq32 : goal.returns-then-n-eq32
returns-then-n-eq32 c =
    let l = c.loop-p in
    split_full c.args.m.now l.p l.n l.tag l.at l.length l.invariant c.if-n-eq32.true (omega arith)

pub returns-in_err-g : goal.returns-in_err-g
returns-in_err-g c =
    let l = c.loop-p in
    let s = c.args.m.now in
    rw c.from_residual.ensures (split_stop s l.p l.n l.tag l.at l.length l.invariant (omega arith) (rw (take_rest s l.p) at c.in_err-g.ensures))

pub loop-p-preserved : goal.loop-p-preserved
loop-p-preserved c =
    let l = c.loop-p in
    let s = c.args.m.now in
    let g = c.in_ok-g.g in
    let more : l.n < 32 = omega (arith, l.invariant.few) in
    let z : l.p + (g.end + 1) ≡ l.p + g.end + 1 = omega arith in
    rw z (split_more s l.p l.n l.tag l.at l.length l.invariant g.tag g.at g.end (rw (take_rest s l.p) at c.in_ok-g.ensures) more)

pub returns : goal.returns
returns c =
    let l = c.loop-p in
    split_done c.args.m.now l.p l.n l.tag l.at l.length l.invariant (omega arith)
