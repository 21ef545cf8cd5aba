-- `count_letters` meets its contract: each byte adds one if it passes. Rests on prelude.
use Rattle.std.proofs.Common.{Bool, true, false, ◌≡◌, ◌+◌, refl, sym, ap, ◌∙◌, arith, add-one}
use Rattle.std.specs.Int.{from_bool}
use Rattle.prelude.specs.Below.{count_below}
use Rattle.prelude.specs.Laws.Below.{count_none, count_le}
use Rattle.prelude.specs.Laws.Span.{get_span}
use Rattle.prelude.specs.Cases.{if◌then◌otherwise◌}
use Rattle.prelude.specs.Texts.{text_at}
use Rattle.format.specs.Codes.{alnum_at}
use Rattle.rules.proofs.ranges.count_letters.Goals as goal

one : (b : Bool) → from_bool b ≡ (if b then 1 otherwise 0)
unfolding if◌then◌otherwise◌
one true = refl
one false = refl

pub loop-k-init : goal.loop-k-init
loop-k-init g c = (omega arith, sym (count_none _))

pub loop-k-preserved : goal.loop-k-preserved
unfolding count_below
loop-k-preserved g c =
    let l = c.loop-k in
    let p = alnum_at (text_at c.args.book.now c.args.at) in
    let e : l.count + c.from-count.result ≡ count_below p (l.k + 1) =
    rw (c.from-count.ensures, c.is_alnum.ensures, one, l.invariant.1, add-one, get_span c.args.book.now c.args.at 32 l.k (omega arith)) refl in
    (rw e (count_le p (l.k + 1)), e)

pub returns : goal.returns
returns g c =
    let e : c.loop-k.k ≡ g.row.N = omega arith in
    c.loop-k.invariant.1 ∙ ap (count_below (alnum_at (text_at c.args.book.now c.args.at))) e
