-- `Pair::amounts` meets its contract: each turn takes one order more. Rests on Pair.
use Rattle.std.proofs.Common.{◌≤◌}
use Rattle.store.specs.Book.{book_of, order_count}
use Rattle.net.specs.Laws.Pair.{IsSum}
use Rattle.net.proofs.pair.Pair.amounts.Given as goal

abbrev pub invariant-loop-k : goal.invariant-loop-k
invariant-loop-k l = (l.k ≤ order_count l.book.bytes.now) × IsSum (book_of l.book.bytes.now) l.self.client l.self.symbol l.k l.a
