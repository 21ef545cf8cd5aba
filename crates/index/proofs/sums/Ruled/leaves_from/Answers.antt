-- `Ruled::leaves_from` meets its contract: at order i the sum is 0, behind the last order it is whole. Rests on Left.
use Rattle.std.proofs.Common.{◌≡◌, ◌∙◌, arith}
use Rattle.store.specs.Book.{order_count}
use Rattle.index.specs.Laws.Left.{left_all}
use Rattle.index.proofs.sums.Ruled.leaves_from.Goals as goal

pub returns : goal.returns
returns c =
    let b = c.args.self.now.bytes.now in
    let e : c.loop-k.k ≡ order_count b = omega (arith, c.order_count-k-end.ensures, c.loop-k.invariant.0) in
    c.loop-k.invariant.1 ∙ rw e (left_all b c.args.client)
