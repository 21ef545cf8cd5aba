-- `parts::message_parts`: the shape of the whole first, then the ranges. Assumes nothing.
use Rattle.std.proofs.Common.{◌≡◌, ℕ, List, true, drop, sym, ap, ◌∙◌, lit<}
use Rattle.std.proofs.lemmas.Result.{err_from_is_err_and}
use Rattle.prelude.specs.Number.{number}
use Rattle.format.specs.Places.{end_of}
use Rattle.records.specs.Parts.{whole_message}
use Rattle.records.specs.Laws.Reading.{rising_shape, short_numbered, high_shape}
use Rattle.records.specs.Laws.Parts.{refusal_3, refusal_4, refusal_0, no_message, message_over, message_whole}
use Rattle.records.proofs.Ranges.{long_between}
use Rattle.records.proofs.parts.message_parts.Goals as goal
use Rattle.records.proofs.parts.message_parts.Goals.{After-end, Else-end-s}

ends : (c : After-end) → c.end.result ≡ end_of c.args.s.now 0
ends c = let e = c.in_ok-shape.ensures.ok in rw (e.0, e.1) at c.end.ensures

message : (c : Else-end-s) → whole_message c.args.s.now ≡ true
message c = message_whole c.args.s.now c.in_ok-shape.ensures.ok.2 (sym (ends (goal.at.Else-end-s c).After-end) ∙ c.if-end-s.false)

pub returns-in_err-shape-clause-err : goal.returns-in_err-shape-clause-err
returns-in_err-shape-clause-err c =
    let e = c.in_err-shape.ensures.err in
    let p = err_from_is_err_and c.from_residual.result c.from_residual.ensures.1 in
    rw (p.1, p.2, e.1) (sym (refusal_3 c.args.s.now (no_message c.args.s.now e.0)))

pub returns-then-end-s-clause-err : goal.returns-then-end-s-clause-err
returns-then-end-s-clause-err c =
    let n = ends (goal.at.returns-then-end-s-clause-err c).After-end in
    sym (refusal_3 c.args.s.now (message_over c.args.s.now c.in_ok-shape.ensures.ok.2 (λ z. c.if-end-s.true (n ∙ z))))

pub returns-in_err-numbers_in-clause-err : goal.returns-in_err-numbers_in-clause-err
returns-in_err-numbers_in-clause-err c =
    let o = c.in_ok-shape.ensures.ok in
    let e = c.in_err-numbers_in.ensures.err in
    let p = err_from_is_err_and c.from_residual-in_err-numbers_in.result c.from_residual-in_err-numbers_in.ensures.1 in
    rw (p.1, p.2, e.1) (sym (refusal_4 c.args.s.now (message (goal.at.returns-in_err-numbers_in-clause-err c).Else-end-s) (rw (o.0, o.1) at e.0)))

pub high_in-high-requires : goal.high_in-high-requires
high_in-high-requires c =
    let h = c.in_ok-shape.shape.stands in
    rw c.field.ensures (long_between (rising_shape h) 26 16 (lit< tt) (short_numbered h c.numbers_in.new.numbers c.in_ok-numbers_in.ensures.ok).fillprice)

pub returns-clause-ok : goal.returns-clause-ok
returns-clause-ok c =
    let e = c.in_ok-shape.ensures.ok in
    let x = c.in_ok-shape.shape.stands in
    let n = c.in_ok-numbers_in.ensures.ok in
    let high : number (drop 8 c.field.result.now) ≡ _ = ap (λ (l : List ℕ). number (drop 8 l)) (c.field.ensures ∙ high_shape x) in
    let h = c.high_in-high.ensures ∙ high in
    let places = x.places in
    let numbers = n.numbers in
    record {
      taken = refusal_0 c.args.s.now (message (goal.at.returns-clause-ok c).Else-end-s) (rw (e.0, e.1) at n.right);
      map = rw (e.0, e.1) at x.map;
      places = rw (e.0, e.1) at places;
      numbers = rw (e.0, e.1) at numbers;
      high = rw (e.0, e.1) at h;
    }
