-- `wide::division::digit` meets its contract. `Guess` says what the guess is off by; the rest is a matter of sums. Assumes nothing.
use Rattle.std.proofs.Common.{◌/◌, ◌%◌, ◌^◌, refl, arith}
use Rattle.wide.proofs.Digits.{Guess, guess, less_by, factor_above}
use Rattle.wide.proofs.division.digit.Goals as goal
use Rattle.wide.proofs.division.digit.Goals.{Start}

the : (c : Start) → Guess c.args.n c.args.next c.args.d
the c = guess c.args.n c.args.next c.args.d c.requires.0 c.requires.1 c.requires.2

pub returns-then-want-have : goal.returns-then-want-have
returns-then-want-have c =
    let g = the (goal.at.returns-then-want-have c).Start in
    record { whole = omega (arith, g.balance); below = omega (arith, g.have) }

-- the guess is at least 1 if it lacks something, and at least 2 if it lacks more than the divisor
pub returns-then-lack-d : goal.returns-then-lack-d
returns-then-lack-d c =
    let a = c.args in
    let b = (the (goal.at.returns-then-lack-d c).Start).balance in
    let m = less_by 1 (a.n / (a.d / 2 ^ 32)) a.d (factor_above 0 (a.n / (a.d / 2 ^ 32)) (a.d % 2 ^ 32) _ refl (omega (arith, c.if-want-have.false))) in
    record { whole = omega arith; below = omega arith }

pub returns-else-lack-d : goal.returns-else-lack-d
returns-else-lack-d c =
    let a = c.args in
    let g = the (goal.at.returns-else-lack-d c).Start in
    let b = g.balance in
    let m =
    less_by 2 (a.n / (a.d / 2 ^ 32)) a.d
    (factor_above 1 (a.n / (a.d / 2 ^ 32)) (a.d % 2 ^ 32) _ refl (omega (arith, c.if-lack-d.false, c.if-want-have.false))) in
    record { whole = omega (arith, g.want); below = omega arith }
