-- `requests_ok` meets its contract: the requests below j keep their rules, and each order's counter is how many of them it has. Rests on Here.
use Rattle.std.proofs.Common.{◌≡◌, ℕ, ◌<◌, true, length, get_or}
use Rattle.prelude.specs.Below.{all_below, count_below}
use Rattle.store.specs.Layout.{most_orders}
use Rattle.rules.specs.Laws.Here.{of_order_at, pass_at}
use Rattle.rules.proofs.numbers.requests_ok.Given as goal

abbrev pub invariant-loop-j : goal.invariant-loop-j
invariant-loop-j l = record {
  long : length l.next ≡ 64;
  right : all_below (pass_at l.book.bytes.now l.book.orders) l.j ≡ true;
  counted : (o : ℕ) → o < most_orders → get_or l.next o 0 ≡ count_below (of_order_at l.book.bytes.now o) l.j;
}
