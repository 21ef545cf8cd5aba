-- `decimal::digits`: the width of two words: the digits counted and those left are all. Assumes nothing.
use Rattle.std.proofs.Common.{◌≡◌, ℕ, ◌+◌, ◌/◌, ◌≤◌, length, get_or, ap, rules, arith, Fits, w64}
use Rattle.wide.specs.Wide.{value}
use Rattle.wide.specs.Laws.Words.{value_of}
use Rattle.decimal.specs.Decimal.{digits}
use Rattle.decimal.specs.Laws.Width.{down_none, width_more, width_some, width_words}
use Rattle.decimal.proofs.digits.ArrayU642Digits.width.Goals as goal
use Rattle.decimal.proofs.digits.ArrayU642Digits.width.Goals.{After-width, Start}

most : (s : Start) → length (digits (value s.args.self)) ≤ 39
most s =
    let a : Fits w64 (get_or s.args.self 0 0) = search rules in
    let b : Fits w64 (get_or s.args.self 1 0) = search rules in
    rw (← down_none (value s.args.self)) (width_words 0 (get_or s.args.self 0 0) (get_or s.args.self 1 0) a.fits b.fits)

pub overflow_add-above : goal.overflow_add-above
overflow_add-above c = omega (arith, c.loop-rest.invariant, width_some (value c.loop-rest.rest), most (goal.at.overflow_add-above c).Start)

pub loop-rest-preserved : goal.loop-rest-preserved
loop-rest-preserved c =
    let l = c.loop-rest in
    let e = value_of c.by_ten.result.quotient (value l.rest / 10) c.by_ten.ensures.0 in
    omega (arith, l.invariant, width_more (value l.rest) (omega arith), ap (λ (n : ℕ). length (digits n)) e)

all : (c : After-width) → c.loop-rest.above + c.width.result ≡ length (digits (value c.args.self))
all c =
    let l = c.loop-rest in
    let z : value l.rest ≡ get_or l.rest 0 0 = omega (arith, c.loop-rest-test.false) in
    omega (arith, l.invariant, c.width.ensures.all, ap (λ (n : ℕ). length (digits n)) z)

pub overflow_add-result : goal.overflow_add-result
overflow_add-result c = omega (arith, all c, most (goal.at.overflow_add-result c).Start)

pub returns-clause-within : goal.returns-clause-within
returns-clause-within c = omega (arith, all c, most (goal.at.returns-clause-within c).Start)
