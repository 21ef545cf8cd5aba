-- `records::put::text_of`: the match is the definition's. Assumes nothing.
use Rattle.std.proofs.Common.{refl, arith, ne_eqb}
use Rattle.prelude.specs.Cases.{if◌then◌otherwise◌}
use Rattle.records.specs.Fields.{text_by}
use Rattle.records.proofs.put.text_of.Goals as goal

pub returns-in-2 : goal.returns-in-2
unfolding text_by if◌then◌otherwise◌
returns-in-2 c = rw c.in-2.is refl

pub returns-in-3 : goal.returns-in-3
unfolding text_by if◌then◌otherwise◌
returns-in-3 c = rw c.in-3.is refl

pub returns-in-4 : goal.returns-in-4
unfolding text_by if◌then◌otherwise◌
returns-in-4 c = rw c.in-4.is refl

pub returns-in-5 : goal.returns-in-5
unfolding text_by if◌then◌otherwise◌
returns-in-5 c = rw c.in-5.is refl

pub returns-in-6 : goal.returns-in-6
unfolding text_by if◌then◌otherwise◌
returns-in-6 c = rw c.in-6.is refl

pub returns-in-18 : goal.returns-in-18
unfolding text_by if◌then◌otherwise◌
returns-in-18 c = rw c.in-18.is refl

pub returns-in_default : goal.returns-in_default
unfolding text_by if◌then◌otherwise◌
returns-in_default c =
    let b = c.args.b in
    rw (
      ne_eqb b 2 (λ e. absurd (omega arith)),
      ne_eqb b 3 (λ e. absurd (omega arith)),
      ne_eqb b 4 (λ e. absurd (omega arith)),
      ne_eqb b 5 (λ e. absurd (omega arith)),
      ne_eqb b 6 (λ e. absurd (omega arith)),
      ne_eqb b 18 (λ e. absurd (omega arith)),
    ) refl
