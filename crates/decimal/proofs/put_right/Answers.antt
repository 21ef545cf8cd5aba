-- `decimal::put_right` meets its contract: blanks, then the decimal, if they have room. Assumes nothing.
use Rattle.std.proofs.Common.{◌≡◌, List, ℕ, ◌+◌, replicate, sym, ap, ◌∙◌, rules, arith, length-take, length-drop}
use Rattle.prelude.specs.Span.{splice}
use Rattle.prelude.specs.Laws.Span.{part_splice}
use Rattle.decimal.specs.Decimal.{blank, decimal, right}
use Rattle.decimal.specs.Laws.Columns.{right_long, right_put, written_room, written_none}
use Rattle.decimal.proofs.put_right.Goals as goal

pub returns-then-saturating_add-out : goal.returns-then-saturating_add-out
returns-then-saturating_add-out g c =
    let a = c.args in
    let w = decimal a.places (g.N.Digits.number a.n) in
    let k = c.saturating_sub-blanks.result in
    let blanks : c.fill.new.self ≡ replicate k blank =
    c.fill.ensures.after (λ y h. search rules) ∙ ap (λ (m : ℕ). replicate m blank) (simp (length-take, length-drop) (omega arith)) in
    c.put_here.ensures
    ∙ ap (λ (t : List ℕ). splice t (a.at + k) w) (part_splice a.out.now c.fill.new.self a.at k (omega arith) ∙ ap (splice a.out.now a.at) blanks)
    ∙ right_put a.out.now a.at a.columns w k (omega (arith, c.decimal_length-long.ensures.0)) (omega arith)
    ∙ sym (written_room a.out.now a.at (right a.columns w) (omega (arith, right_long a.columns w, c.decimal_length-long.ensures.0)))

pub returns-else-saturating_add-out : goal.returns-else-saturating_add-out
returns-else-saturating_add-out g c =
    let a = c.args in
    let w = decimal a.places (g.N.Digits.number a.n) in
    written_none a.out.now a.at (right a.columns w) (omega (arith, right_long a.columns w, c.decimal_length-long.ensures.0))
