-- `Shape::of_message`: a record whose kind is a message's. Assumes nothing.
use Rattle.std.proofs.Common.{◌≡◌, true, refl, arith}
use Rattle.std.proofs.lemmas.Result.{err_from_is_err_and}
use Rattle.format.specs.Places.{kind_at, shaped}
use Rattle.records.specs.Laws.ReadingAnswer.{unshaped, no_message, is_message_lem}
use Rattle.records.proofs.shape.Shape.of_message.Goals as goal
use Rattle.records.proofs.shape.Shape.of_message.Goals.{After-kind, In_ok-shape}

has_shape : (c : In_ok-shape) → shaped c.args.bytes.now c.args.o ≡ true
has_shape c = let e = c.in_ok-shape.ensures.ok in rw (e.0, e.1) at c.in_ok-shape.shape.stands.is

kind_is : (c : After-kind) → c.kind.result ≡ kind_at c.args.bytes.now c.args.o
kind_is c = let e = c.in_ok-shape.ensures.ok in rw (e.0, e.1) at c.kind.ensures

pub returns-in_err-shape-clause-err : goal.returns-in_err-shape-clause-err
returns-in_err-shape-clause-err c =
    let e = c.in_err-shape.ensures.err in
    let p = err_from_is_err_and c.from_residual.result c.from_residual.ensures.1 in
    rw (p.1, p.2) (unshaped c.args.bytes.now c.args.o e.0, e.1)

pub returns-then-kind-lt-REPORT-clause-err : goal.returns-then-kind-lt-REPORT-clause-err
returns-then-kind-lt-REPORT-clause-err c =
    (no_message c.args.bytes.now c.args.o (has_shape (goal.at.returns-then-kind-lt-REPORT-clause-err c).In_ok-shape) (omega (arith, kind_is (goal.at.returns-then-kind-lt-REPORT-clause-err c).After-kind)), refl)

pub returns-clause-ok : goal.returns-clause-ok
returns-clause-ok c =
    let e = c.in_ok-shape.ensures.ok in
    (e.0, e.1, is_message_lem c.args.bytes.now c.args.o (has_shape (goal.at.returns-clause-ok c).In_ok-shape) (omega (arith, kind_is (goal.at.returns-clause-ok c).After-kind)))
