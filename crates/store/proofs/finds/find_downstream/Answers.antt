-- `find_downstream` meets its contract: it gives the first of the requests in use that passes. Rests on Finds and InUse.
use Rattle.std.proofs.Common.{◌<◌, rules, sym, ◌∙◌, arith, tests}
use Rattle.std.proofs.lemmas.Iterator.{serves_from_Range}
use Rattle.store.specs.Layout.{header·requests, most_requests}
use Rattle.store.specs.Book.{request_count}
use Rattle.store.specs.Laws.Stored.{count_most}
use Rattle.store.specs.Laws.Finds.{bears_at, find_downstream_bytes}
use Rattle.store.proofs.InUse.{found_in_use}
use Rattle.store.proofs.finds.find_downstream.Goals as goal

pub find-requires-clause-callable : goal.find-requires-clause-callable
find-requires-clause-callable c =
    serves_from_Range (λ x q k. search (rules, tests))
    (λ x low high. let h : x < most_requests = omega (arith, count_most header·requests most_requests c.in_ok-book.book.now) in search rules)

pub returns : goal.returns
returns c =
    found_in_use (λ b. bears_at b c.args.t) request_count _ _ _ _ c.in_ok-book.ensures.1 c.request_count.ensures c.find.ensures.ran (λ x r q k. search (rules, tests))
    ∙ sym (find_downstream_bytes _ c.args.t)
