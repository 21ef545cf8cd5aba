-- `count` goes to a request numbered lower, and counts no more than are in use. Rests on Walk.
use Rattle.std.proofs.Common.{ℕ, ◌<◌, sym, ◌∙◌, arith}
use Rattle.store.specs.Layout.{header·requests, most_requests}
use Rattle.store.specs.Laws.Stored.{count_most}
use Rattle.chain.specs.Laws.Walk.{step_back, walk_most}
use Rattle.chain.proofs.+count.Goals as goal
use Rattle.chain.proofs.+count.Goals.{In-Some}

lower : (t : ℕ) (c : In-Some t) → c.in-Some.next < c.args.k
lower t c =
    let b = c.args.book.now in
    (step_back b.bytes.now b.kept c.args.k c.in-Some.next c.requires (sym c.earlier.ensures ∙ c.in-Some.is)).lower

pub count-rest-requires : goal.count-rest-requires
count-rest-requires t c =
    let l = lower t (goal.at.count-rest-requires t c).In-Some in
    (omega (arith, c.decreases, l), omega (arith, l, c.requires))

pub overflow_add-result : goal.overflow_add-result
overflow_add-result t c =
    let b = c.args.book.now in
    record { fits = omega (arith, c.count-rest.ensures, walk_most b.bytes.now b.kept c.in-Some.next, lower t (goal.at.overflow_add-result t c).In-Some, c.requires, count_most header·requests most_requests b.bytes.now) }
