-- `Pair::with` meets its contract: its cases are an order that is not theirs, a purchase, and a sale. Rests on Pair.
use Rattle.std.proofs.Common.{◌≡◌, true, ◌+◌, ◌^◌, ◌≤◌, ◌<◌, length, sym, ◌∙◌, arith}
use Rattle.store.specs.Book.{book_of, order_in}
use Rattle.store.specs.Layout.{order_base, state·cumqty}
use Rattle.store.specs.Laws.Stored.{length_orders}
use Rattle.net.specs.Net.{of_pair}
use Rattle.net.specs.Laws.Pair.{filled_at_lem, side_at, sum_miss, sum_bought, sum_sold}
use Rattle.net.specs.Laws.Call.{order_at}
use Rattle.words.specs.Laws.Windows.{window_64}
use Rattle.net.proofs.pair.Pair.with.Goals as goal
use Rattle.net.proofs.pair.Pair.with.Goals.{After-get64-filled, Start}

in_list : (s : Start) → s.args.k < length (book_of s.args.book.now.bytes.now).orders
in_list s = omega (arith, length_orders s.args.book.now.bytes.now, s.requires.0.used)

-- what was read of an order that is theirs
theirs : (g : After-get64-filled) → of_pair g.args.self.now.client g.args.self.now.symbol (order_in (book_of g.args.book.now.bytes.now) g.args.k) ≡ true
theirs g = sym g.has.ensures ∙ g.if-not-has.false

is_filled : (g : After-get64-filled) → g.get64-filled.result ≡ (order_in (book_of g.args.book.now.bytes.now) g.args.k).state.cumqty
is_filled g =
    let b = g.args.book.now.bytes.now in
    g.get64-filled.ensures ∙ window_64 b (order_base g.args.k + state·cumqty) ∙ sym (filled_at_lem b g.args.k g.requires.0)

small : (g : After-get64-filled) → g.get64-filled.result ≤ 10 ^ 12
small g = omega (arith, is_filled g, (order_at g.args.book.now.bytes.now g.args.book.now.kept g.args.k g.requires.0.used).filled)

pub returns-then-not-has : goal.returns-then-not-has
returns-then-not-has c =
    sum_miss (book_of c.args.book.now.bytes.now) c.args.self.now.client c.args.self.now.symbol c.args.k c.args.a c.requires.1 (in_list (goal.at.returns-then-not-has c).Start)
    (sym c.has.ensures ∙ c.if-not-has.true)

pub overflow_add-result : goal.overflow_add-result
overflow_add-result c = omega (arith, small (goal.at.overflow_add-result c).After-get64-filled, c.requires.1.few, c.requires.0.few)

pub overflow_add-result-else-book-base-eq-BUY : goal.overflow_add-result-else-book-base-eq-BUY
overflow_add-result-else-book-base-eq-BUY c = omega (arith, small (goal.at.overflow_add-result-else-book-base-eq-BUY c).After-get64-filled, c.requires.1.few, c.requires.0.few)

pub returns-then-book-base-eq-BUY : goal.returns-then-book-base-eq-BUY
returns-then-book-base-eq-BUY c =
    let g = (goal.at.returns-then-book-base-eq-BUY c).After-get64-filled in
    let b = c.args.book.now.bytes.now in
    sum_bought (book_of b) c.args.self.now.client c.args.self.now.symbol c.args.k c.args.a c.requires.1 (in_list (goal.at.returns-then-book-base-eq-BUY c).Start)
    c.get64-filled.result (is_filled g) (small g) (theirs g) (side_at b c.args.k c.requires.0 ∙ c.if-book-base-eq-BUY.true)

pub returns-else-book-base-eq-BUY : goal.returns-else-book-base-eq-BUY
returns-else-book-base-eq-BUY c =
    let g = (goal.at.returns-else-book-base-eq-BUY c).After-get64-filled in
    let b = c.args.book.now.bytes.now in
    sum_sold (book_of b) c.args.self.now.client c.args.self.now.symbol c.args.k c.args.a c.requires.1 (in_list (goal.at.returns-else-book-base-eq-BUY c).Start)
    c.get64-filled.result (is_filled g) (small g) (theirs g) (λ y. c.if-book-base-eq-BUY.false (sym (side_at b c.args.k c.requires.0) ∙ y))
