-- `chain` is `chain_call`: the request that is called is in use, and its walk is written. Rests on Walk and Call.
use Rattle.std.proofs.Common.{◌<◌, ◌≤◌, refl, sym, ◌∙◌, arith}
use Rattle.store.specs.Layout.{header·requests, most_requests}
use Rattle.store.specs.Book.{request_count}
use Rattle.store.specs.Laws.Stored.{count_most}
use Rattle.chain.specs.Laws.Walk.{chain_walk, walk_most}
use Rattle.chain.specs.Laws.Call.{as_written}
use Rattle.chain.proofs.chain.Goals as goal
use Rattle.chain.proofs.chain.Goals.{In-Some, After-count-n}

used : (c : In-Some) → c.in-Some.k < request_count c.in_ok-book.book.bytes.now
used c =
    let b = c.in_ok-book.book in
    (chain_walk b.bytes.now b.kept c.args.client c.args.name.now _ (sym c.called_by.ensures ∙ c.in-Some.is)).0

few : (c : After-count-n) → c.count-n.result ≤ most_requests
few c =
    let b = c.in_ok-book.book in
    omega (arith, c.count-n.ensures, walk_most b.bytes.now b.kept c.in-Some.k, used (goal.at.After-count-n c).In-Some, count_most header·requests most_requests b.bytes.now)

pub count-n-requires : goal.count-n-requires
count-n-requires c = used (goal.at.count-n-requires c).In-Some

pub overflow_mul-n : goal.overflow_mul-n
overflow_mul-n c = record { fits = omega (arith, few c) }

pub put-requires-clause-used : goal.put-requires-clause-used
put-requires-clause-used c = used (goal.at.put-requires-clause-used c).In-Some

pub overflow_cast-result : goal.overflow_cast-result
overflow_cast-result c = record { fits = omega (arith, few (goal.at.overflow_cast-result c).After-count-n) }

pub returns : goal.returns
returns c =
    let k = c.in_ok-book.book in
    rw (← c.in_ok-book.ensures.ok)
    (as_written k.bytes.now c.args.client c.args.name.now c.args.list.now k.kept _ _ (sym c.called_by.ensures ∙ c.in-Some.is) c.count-n.ensures _ _ c.if-list-n.false refl c.put.ensures)
