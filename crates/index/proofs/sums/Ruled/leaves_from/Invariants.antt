-- `Ruled::leaves_from` meets its contract: the sum is what the first k orders of the client have left, but for those before order i. Rests on Left.
use Rattle.std.proofs.Common.{◌≡◌, ◌≤◌, ◌+◌}
use Rattle.store.specs.Book.{order_count}
use Rattle.index.specs.Laws.Left.{left_to}
use Rattle.index.proofs.sums.Ruled.leaves_from.Given as goal

abbrev pub invariant-loop-k : goal.invariant-loop-k
invariant-loop-k l = (l.k ≤ order_count l.self.bytes.now) × (l.sum + left_to l.self.bytes.now l.client l.i ≡ left_to l.self.bytes.now l.client l.k)
