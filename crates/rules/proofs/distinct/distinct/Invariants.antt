-- `distinct` meets its contract: the things below i are distinct, their cells are noted in the map, and each is listed. Rests on Things and Spread.
use Rattle.std.proofs.Common.{◌≡◌, ℕ, ◌<◌, true, length, get_or}
use Rattle.prelude.specs.Below.{all_below}
use Rattle.rules.specs.Laws.Spread.{Noted}
use Rattle.rules.specs.Laws.Things.{cell_of, clear_at}
use Rattle.rules.proofs.distinct.distinct.Given as goal

abbrev pub invariant-loop-i : goal.invariant-loop-i
invariant-loop-i g l = record {
  seen_long : length l.seen ≡ 128;
  cells_long : length l.cells ≡ 256;
  clear : all_below (clear_at l.book g.T.Things.keyed) l.i ≡ true;
  noted : Noted (cell_of l.book g.T.Things.keyed) l.seen l.i;
  listed : (j : ℕ) → j < l.i → get_or l.cells j 0 ≡ cell_of l.book g.T.Things.keyed j;
}
