-- `scan::values`: the fields below b are in range, and their numbers are in place. Assumes nothing.
use Rattle.std.proofs.Common.{below_none, ℕ, Bool, arith, refl, length-set}
use Rattle.std.proofs.lemmas.Result.{err_from_is_err_and}
use Rattle.prelude.specs.Laws.Below.{all_none, all_more, all_miss}
use Rattle.prelude.specs.Laws.Lists.{fill}
use Rattle.format.specs.Laws.Seen.{held_at, right_in}
use Rattle.records.proofs.scan.values.Goals as goal
use Rattle.records.proofs.scan.values.Goals.{Start}

abbrev test : Start → ℕ → Bool
test s = let x = s.args.shape.now in right_in x.bytes.now x.map x.at

pub loop-b-init : goal.loop-b-init
loop-b-init c = (refl, all_none (test (goal.at.loop-b-init c).Start), below_none _)

pub returns-in_err-numbers-clause-err : goal.returns-in_err-numbers-clause-err
unfolding right_in
returns-in_err-numbers-clause-err c =
    let e = rw (c.field.ensures, c.from.ensures) at c.in_err-numbers.ensures.err in
    let p = err_from_is_err_and c.from_residual.result c.from_residual.ensures.1 in
    rw (p.1, p.2) (all_miss (test (goal.at.returns-in_err-numbers-clause-err c).Start) 32 c.loop-b.b (omega arith) e.0, e.1)

pub loop-b-preserved : goal.loop-b-preserved
unfolding right_in held_at
loop-b-preserved c =
    let l = c.loop-b in
    let s = (goal.at.loop-b-preserved c).Start in
    let x = c.args.shape.now in
    let e = rw (c.field.ensures, c.from.ensures) at c.in_ok-numbers.ensures.ok in (
      simp length-set l.invariant.0,
      all_more (test s) l.b l.invariant.1 e.0,
      rw c.from-in-loop-b.ensures (fill (held_at x.bytes.now x.map x.at) l.numbers l.b c.in_ok-numbers.field-0 (omega arith) e.1 l.invariant.2),
    )
