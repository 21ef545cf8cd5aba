-- `find_clordid` meets its contract: it gives the first of the requests in use that passes. Rests on Finds and InUse.
use Rattle.std.proofs.Common.{◌<◌, ◌≤◌, rules, sym, ◌∙◌, arith, tests}
use Rattle.std.proofs.lemmas.Iterator.{serves_from_Range}
use Rattle.store.specs.Layout.{header·orders, most_orders, header·requests, most_requests}
use Rattle.store.specs.Book.{request_count}
use Rattle.store.specs.Laws.Stored.{count_most}
use Rattle.store.specs.Laws.Finds.{used_as_at, find_clordid_bytes}
use Rattle.store.proofs.InUse.{found_in_use}
use Rattle.store.proofs.finds.find_clordid.Goals as goal

pub find-requires-clause-callable : goal.find-requires-clause-callable
find-requires-clause-callable c =
    let b = c.in_ok-book.book.now in
    let few : c.order_count-n.result ≤ most_orders = omega (arith, count_most header·orders most_orders b) in
    serves_from_Range (λ x q k. search (rules, tests))
    (λ x low high. let h : x < most_requests = omega (arith, count_most header·requests most_requests b) in search rules)

pub returns : goal.returns
returns c =
    let a = c.args in
    found_in_use (λ b. used_as_at b c.order_count-n.result a.client a.t) request_count _ _ _ _ c.in_ok-book.ensures.1 c.request_count.ensures c.find.ensures.ran (λ x r q k. search (rules, tests))
    ∙ rw (c.order_count-n.ensures, c.in_ok-book.ensures.1) (sym (find_clordid_bytes _ a.client a.t))
