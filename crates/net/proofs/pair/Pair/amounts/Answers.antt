-- `Pair::amounts` meets its contract: each turn takes one order more. Rests on Pair.
use Rattle.std.proofs.Common.{◌≡◌, arith, rules}
use Rattle.store.specs.Book.{book_of}
use Rattle.store.specs.Laws.Stored.{length_orders}
use Rattle.net.specs.Laws.Pair.{none, in_use, sum_none, sum_all}
use Rattle.net.proofs.pair.Pair.amounts.Goals as goal

pub loop-k-init : goal.loop-k-init
loop-k-init c =
    let b = c.args.book.now.bytes.now in
    let z : c.default-a.result ≡ none = search rules in
    (c.requires.0, rw z (sum_none (book_of b) c.args.self.now.client c.args.self.now.symbol c.args.n (omega (arith, length_orders b)) c.requires.1))

pub with-a-requires : goal.with-a-requires
with-a-requires c = (in_use c.args.book.now.bytes.now c.loop-k.k (omega (arith, c.order_count-k-end.ensures)), c.loop-k.invariant.1)

pub returns : goal.returns
returns c =
    let b = c.args.book.now.bytes.now in
    sum_all (book_of b) c.args.self.now.client c.args.self.now.symbol c.loop-k.k c.loop-k.a (omega (arith, c.order_count-k-end.ensures, length_orders b)) c.loop-k.invariant.1
