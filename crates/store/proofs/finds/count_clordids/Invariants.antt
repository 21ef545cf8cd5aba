-- `count_clordids` meets its contract: count is that of the requests below k. Rests on Finds.
use Rattle.std.proofs.Common.{◌≡◌, ◌≤◌}
use Rattle.prelude.specs.Below.{count_below}
use Rattle.store.specs.Laws.Finds.{used_at}
use Rattle.store.proofs.finds.count_clordids.Given as goal

abbrev pub invariant-loop-k : goal.invariant-loop-k
invariant-loop-k l = (l.count ≤ l.k) × (l.count ≡ count_below (used_at l.book l.n l.client) l.k)
