-- `find_name` meets its contract: it gives the first of the orders in use that passes. Rests on Finds and InUse.
use Rattle.std.proofs.Common.{◌<◌, rules, sym, ◌∙◌, arith, tests}
use Rattle.std.proofs.lemmas.Iterator.{serves_from_Range}
use Rattle.store.specs.Layout.{header·orders, most_orders}
use Rattle.store.specs.Book.{order_count}
use Rattle.store.specs.Laws.Stored.{count_most}
use Rattle.store.specs.Laws.Finds.{named_at, find_name_bytes}
use Rattle.store.proofs.InUse.{found_in_use}
use Rattle.store.proofs.finds.find_name.Goals as goal

pub find-requires-clause-callable : goal.find-requires-clause-callable
find-requires-clause-callable c =
    serves_from_Range (λ x q k. search (rules, tests))
    (λ x low high. let h : x < most_orders = omega (arith, count_most header·orders most_orders c.in_ok-book.book.now) in search rules)

pub returns : goal.returns
returns c =
    found_in_use (λ b. named_at b c.args.t) order_count _ _ _ _ c.in_ok-book.ensures.1 c.order_count.ensures c.find.ensures.ran (λ x r q k. search (rules, tests))
    ∙ sym (find_name_bytes _ c.args.t)
