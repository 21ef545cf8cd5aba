-- `Shape::kind`: a record has a head of five bytes. Assumes nothing.
use Rattle.std.proofs.Common.{arith}
use Rattle.records.specs.Laws.Reading.{whole_shape}
use Rattle.records.proofs.shape.Shape.kind.Goals as goal

pub bounds-self-self : goal.bounds-self-self
bounds-self-self c = omega (arith, whole_shape c.args.self.now.stands)
