-- `records::read_event`: a record of the whole slice whose kind is an event's. Assumes nothing.
use Rattle.std.proofs.Common.{◌≡◌, true, refl, sym, ◌∙◌}
use Rattle.std.proofs.lemmas.Result.{err_from_is_err_and, IfOk-weaker, IfErr-weaker}
use Rattle.format.specs.Places.{kind_at, shaped}
use Rattle.records.specs.Laws.Reading.{event_shape, event_kind, event_over, event_range, event_read}
use Rattle.records.proofs.read_event.Goals as goal
use Rattle.records.proofs.read_event.Goals.{After-kind, In_ok-shape, then-kind-gt-EVENT_GATEWAY_CANCEL-via-then-kind-gt-EVENT_GATEWAY_CANCEL, then-kind-gt-EVENT_GATEWAY_CANCEL-via-else-kind-gt-EVENT_GATEWAY_CANCEL+then-end-s}

has_shape : (c : In_ok-shape) → shaped c.args.s.now 0 ≡ true
has_shape c = let e = c.in_ok-shape.ensures.ok in rw (e.0, e.1) at c.in_ok-shape.shape.stands.is

kind_is : (c : After-kind) → c.kind.result ≡ kind_at c.args.s.now 0
kind_is c = let e = c.in_ok-shape.ensures.ok in rw (e.0, e.1) at c.kind.ensures

pub returns-in_err-shape-clause-err : goal.returns-in_err-shape-clause-err
returns-in_err-shape-clause-err c =
    let e = c.in_err-shape.ensures.err in
    let p = err_from_is_err_and c.from_residual.result c.from_residual.ensures.1 in
    rw (p.1, p.2, e.1) (sym (event_shape c.args.s.now e.0).0, refl)

pub returns-then-kind-gt-EVENT_GATEWAY_CANCEL-clause-err : goal.returns-then-kind-gt-EVENT_GATEWAY_CANCEL-clause-err
returns-then-kind-gt-EVENT_GATEWAY_CANCEL-clause-err c =
    let s = c.args.s.now in
    let e = c.in_ok-shape.ensures.ok in
    let i = has_shape (goal.at.returns-then-kind-gt-EVENT_GATEWAY_CANCEL-clause-err c).In_ok-shape in
    let k = kind_is (goal.at.returns-then-kind-gt-EVENT_GATEWAY_CANCEL-clause-err c).After-kind in
    elim c.then-kind-gt-EVENT_GATEWAY_CANCEL.branch [
      | then-kind-gt-EVENT_GATEWAY_CANCEL-via-then-kind-gt-EVENT_GATEWAY_CANCEL w ↦ (sym (event_kind s i (rw k at w.if-kind-gt-EVENT_GATEWAY_CANCEL.true)).0, refl)
      | then-kind-gt-EVENT_GATEWAY_CANCEL-via-else-kind-gt-EVENT_GATEWAY_CANCEL+then-end-s w ↦
          (sym (event_over s i (rw k at w.if-kind-gt-EVENT_GATEWAY_CANCEL.false) (λ q. w.if-end-s.true ((rw (e.0, e.1) at w.end.ensures) ∙ q))).0, refl)
    ]

pub returns-clause-ok : goal.returns-clause-ok
returns-clause-ok c =
    let s = c.args.s.now in
    let e = c.in_ok-shape.ensures.ok in
    let i = has_shape (goal.at.returns-clause-ok c).In_ok-shape in
    let k = rw (kind_is (goal.at.returns-clause-ok c).After-kind) at c.if-kind-gt-EVENT_GATEWAY_CANCEL.false in
    let n = sym (rw (e.0, e.1) at c.end.ensures) ∙ c.if-end-s.false in
    IfOk-weaker c.put_record_in.result _ _ (λ r p. let t = event_read s i k n (rw (e.0, e.1) at p.0) in (t.0, (rw (e.0, e.1) at p.1) ∙ t.1)) c.put_record_in.ensures.ok

pub returns-clause-err : goal.returns-clause-err
returns-clause-err c =
    let s = c.args.s.now in
    let e = c.in_ok-shape.ensures.ok in
    let i = has_shape (goal.at.returns-clause-err c).In_ok-shape in
    let k = rw (kind_is (goal.at.returns-clause-err c).After-kind) at c.if-kind-gt-EVENT_GATEWAY_CANCEL.false in
    let n = sym (rw (e.0, e.1) at c.end.ensures) ∙ c.if-end-s.false in
    IfErr-weaker c.put_record_in.result _ _ (λ r p. (rw p.1 (sym (event_range s i k n (rw (e.0, e.1) at p.0)).0), p.2)) c.put_record_in.ensures.err
