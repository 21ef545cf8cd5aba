-- `Shape::end` is where a field behind the last would start. Assumes nothing.
use Rattle.std.proofs.Common.{lit≤}
use Rattle.format.specs.Places.{end_of}
use Rattle.records.proofs.shape.Shape.end.Goals as goal

pub returns : goal.returns
unfolding end_of
returns c = c.args.self.now.stands.places 32 (lit≤ tt)
