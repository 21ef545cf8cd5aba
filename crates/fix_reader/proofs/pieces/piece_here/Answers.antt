-- `piece_here`: the tag, the printing bytes, and SOH behind them. Rests on Laws.Pieces.
use Rattle.std.proofs.Common.{rules, tests}
use Rattle.fix_reader.specs.Laws.Pieces.{untagged, piece_here}
use Rattle.fix_reader.proofs.pieces.piece_here.Goals as goal

pub returns-in_err-g : goal.returns-in_err-g
returns-in_err-g c = rw c.from_residual.ensures (untagged c.args.t.now c.in_err-g.ensures)

pub returns : goal.returns
returns c = let g = c.in_ok-g in piece_here c.args.t.now g.g.tag g.g.at c.end_of-end.result g.ensures c.end_of-end.ensures (search (rules, tests))
