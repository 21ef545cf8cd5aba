-- `records::numbers_in`: the ranges first, then the name. Assumes nothing.
use Rattle.std.proofs.Common.{◌≡◌, true, refl, sym, ◌∙◌, lit<}
use Rattle.std.proofs.lemmas.Result.{err_from_is_err_and}
use Rattle.prelude.specs.Below.{all_below}
use Rattle.prelude.specs.Texts.{text_of}
use Rattle.format.specs.Places.{content, map_at, right_at}
use Rattle.format.specs.Refusal.{name_in, ranged}
use Rattle.records.specs.Laws.Reading.{rising_shape, name_shape, ranges_shape, numbers_shape, short_shape}
use Rattle.records.proofs.Ranges.{long_between}
use Rattle.records.proofs.numbers_in.Goals as goal
use Rattle.records.proofs.numbers_in.Goals.{After-name_in_map, In_ok-values}

pub returns-in_err-values-clause-err : goal.returns-in_err-values-clause-err
unfolding ranged
returns-in_err-values-clause-err c =
    let e = c.in_err-values.ensures.err in
    let p = err_from_is_err_and c.from_residual.result c.from_residual.ensures.1 in
    rw (p.1, p.2) (rw (sym (ranges_shape c.args.shape.now.stands) ∙ e.0) refl, e.1)

all_right : (c : In_ok-values) → let x = c.args.shape.now in all_below (right_at x.bytes.now x.start (map_at x.bytes.now x.start)) 32 ≡ true
all_right c = sym (ranges_shape c.args.shape.now.stands) ∙ c.in_ok-values.ensures.ok.right

pub text_in-name-requires : goal.text_in-name-requires
text_in-name-requires c =
    let h = c.args.shape.now.stands in
    rw c.field.ensures (long_between (rising_shape h) 2 33 (lit< tt) (short_shape h (all_right (goal.at.text_in-name-requires c).In_ok-values)).name)

named : (c : After-name_in_map) → let x = c.args.shape.now in
    c.name_in_map.result ≡ name_in (map_at x.bytes.now x.start) (text_of (content x.bytes.now x.start (map_at x.bytes.now x.start) 2))
named c =
    let h = c.args.shape.now.stands in
    rw (h.map, c.text_in-name.ensures, c.field.ensures, name_shape h) at c.name_in_map.ensures

pub returns-then-name_in_map-clause-ok : goal.returns-then-name_in_map-clause-ok
unfolding ranged
returns-then-name_in_map-clause-ok c = record {
  right =
      rw (all_right (goal.at.returns-then-name_in_map-clause-ok c).In_ok-values)
      (sym (named (goal.at.returns-then-name_in_map-clause-ok c).After-name_in_map) ∙ c.if-name_in_map.true);
  numbers = numbers_shape c.args.shape.now.stands c.values.new.numbers c.in_ok-values.ensures.ok;
}

pub returns-else-name_in_map-clause-err : goal.returns-else-name_in_map-clause-err
unfolding ranged
returns-else-name_in_map-clause-err c = (
  rw (all_right (goal.at.returns-else-name_in_map-clause-err c).In_ok-values)
      (sym (named (goal.at.returns-else-name_in_map-clause-err c).After-name_in_map) ∙ c.if-name_in_map.false),
  refl,
)
