-- `distinct` meets its contract: the things below i are distinct, their cells are noted in the map, and each is listed. Rests on Things and Spread.
use Rattle.std.proofs.Common.{◌+◌, refl, sym, ap, ◌∙◌, not-suc-le-zero, arith, length-set}
use Rattle.prelude.specs.Laws.Below.{all_none, all_more, all_miss, all_elim, all_intro}
use Rattle.rules.specs.Laws.Spread.{stands, noted_more, cells_more}
use Rattle.rules.specs.Laws.Things.{placed, cell_of}
use Rattle.rules.proofs.distinct.distinct.Goals as goal

pub loop-i-init : goal.loop-i-init
loop-i-init g c = record {
  seen_long = refl;
  cells_long = refl;
  clear = all_none _;
  noted = record { stand = λ j h. absurd (not-suc-le-zero h) };
  listed = λ j h. absurd (not-suc-le-zero h);
}

pub cell_of-h-requires : goal.cell_of-h-requires
cell_of-h-requires g c = all_elim (placed c.args.book.now g.T.Things.keyed) c.args.n c.requires.1 c.loop-i.i (omega arith)

pub clear_of-requires : goal.clear_of-requires
unfolding stands
clear_of-requires g c =
    let p = placed c.args.book.now g.T.Things.keyed in
    let l = c.loop-i in (
      omega arith,
      all_intro p (l.i + 1) (λ j h. all_elim p c.args.n c.requires.1 j (omega arith)),
      c.cell_of-h.ensures.0,
      l.invariant.listed,
      λ j h e. (rw (c.from-k.ensures, c.from-b.ensures) at c.has.ensures) ∙ ap (stands l.seen) (sym e) ∙ l.invariant.noted.stand j h,
    )

pub returns-then-not-clear_of : goal.returns-then-not-clear_of
returns-then-not-clear_of g c = sym (all_miss _ _ c.loop-i.i (omega arith) (rw (← c.clear_of.ensures) c.if-not-clear_of.true))

pub loop-i-preserved : goal.loop-i-preserved
loop-i-preserved g c =
    let h = c.cell_of-h in
    let l = c.loop-i in
    let cell = cell_of c.args.book.now g.T.Things.keyed in
    record {
      seen_long = simp length-set l.invariant.seen_long;
      cells_long = simp length-set l.invariant.cells_long;
      clear = all_more _ _ l.invariant.clear (rw (← c.clear_of.ensures) c.if-not-clear_of.false);
      noted = rw (c.with_bit.ensures, c.from-k.ensures, c.from-b.ensures) (noted_more cell l.seen l.i h.result (omega (arith, l.invariant.seen_long, h.ensures.1)) h.ensures.0 l.invariant.noted);
      listed = cells_more cell l.cells l.i h.result (omega (arith, l.invariant.cells_long)) h.ensures.0 l.invariant.listed;
    }
