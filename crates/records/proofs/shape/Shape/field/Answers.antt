-- `Shape::field` is the span between its places. Assumes nothing.
use Rattle.std.proofs.Common.{refl, arith}
use Rattle.prelude.specs.Span.{span}
use Rattle.records.specs.Laws.Reading.{rising_shape}
use Rattle.records.proofs.shape.Shape.field.Goals as goal

pub slice_bounds-result-count : goal.slice_bounds-result-count
slice_bounds-result-count c = (rising_shape c.args.self.now.stands).up c.args.b c.requires

pub slice_bounds-result-start : goal.slice_bounds-result-start
slice_bounds-result-start c = omega (arith, (rising_shape c.args.self.now.stands).up c.args.b c.requires)

pub slice_bounds-result-end : goal.slice_bounds-result-end
slice_bounds-result-end c = let r = rising_shape c.args.self.now.stands in omega (arith, r.up c.args.b c.requires, r.inside c.args.b c.requires)

pub returns : goal.returns
unfolding span
returns c = refl
