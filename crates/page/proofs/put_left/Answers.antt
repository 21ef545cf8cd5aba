-- `page::put_left` meets its contract: each turn writes one column more. Rests on Line.
use Rattle.std.proofs.Common.{◌≡◌, ℕ, ◌+◌, List, set, get_or, length, take, length-set, arith, ap, ◌∙◌}
use Rattle.prelude.specs.Laws.Span.{copy_more}
use Rattle.page.specs.Page.{left}
use Rattle.page.specs.Laws.Line.{length_left, left_column}
use Rattle.page.proofs.put_left.Goals as goal

pub loop-i-preserved : goal.loop-i-preserved
loop-i-preserved c =
    let l = c.loop-i in
    let a = c.args in
    let w : List ℕ = left a.width (take a.t.len a.t.bytes) in
    let n : length w ≡ a.width = length_left a.width (take a.t.len a.t.bytes) in
    let e : c.shown.result ≡ get_or w l.i 0 = c.shown.ensures ∙ left_column a.width a.t.len a.t.bytes l.i (omega arith) in (
      length-set l.s (a.at + l.i) c.shown.result ∙ l.invariant.0,
      ap (set l.s (a.at + l.i)) e ∙ ap (λ (d : List ℕ). set d (a.at + l.i) (get_or w l.i 0)) l.invariant.1 ∙ copy_more a.s.now w a.at l.i (omega arith) (omega arith),
    )
