-- `ruled` meets its contract: the length, the counts, then the rules. Rests on Ruled.
use Rattle.std.proofs.Common.{◌≡◌, sym, ◌∙◌, eq-eqb, ne_eqb, le-leb}
use Rattle.std.proofs.lemmas.Bool.{lt-leb}
use Rattle.prelude.specs.Number.{word16}
use Rattle.store.specs.Layout.{header·orders, header·requests}
use Rattle.rules.specs.Keeps.{ruled_of}
use Rattle.rules.specs.Laws.Ruled.{kept}
use Rattle.rules.proofs.ruled.Goals as goal
use Rattle.rules.proofs.ruled.Goals.{then-orders-gt-MOST_ORDERS-via-then-orders-gt-MOST_ORDERS, then-orders-gt-MOST_ORDERS-via-else-orders-gt-MOST_ORDERS+then-requests-gt-MOST_REQUESTS}

pub returns-in_default : goal.returns-in_default
unfolding ruled_of
returns-in_default c = rw (ne_eqb _ _ c.in_default.ensures.cases)

pub returns-then-orders-gt-MOST_ORDERS : goal.returns-then-orders-gt-MOST_ORDERS
unfolding ruled_of
returns-then-orders-gt-MOST_ORDERS c =
    let b = c.args.book.now in
    let whole = c.in-Some.ensures.cases in
    let n : c.from-orders.result ≡ word16 b header·orders = c.from-orders.ensures ∙ rw whole.same at c.u16_at.ensures in
    let m : c.from-requests.result ≡ word16 b header·requests = c.from-requests.ensures ∙ rw whole.same at c.u16_at-2.ensures in
    elim c.then-orders-gt-MOST_ORDERS.branch [
      | then-orders-gt-MOST_ORDERS-via-then-orders-gt-MOST_ORDERS w ↦ rw (eq-eqb _ _ whole.long, ← n, lt-leb _ _ w.if-orders-gt-MOST_ORDERS.true)
      | then-orders-gt-MOST_ORDERS-via-else-orders-gt-MOST_ORDERS+then-requests-gt-MOST_REQUESTS w ↦
          rw (
            eq-eqb _ _ whole.long,
            ← n,
            ← m,
            le-leb _ _ w.if-orders-gt-MOST_ORDERS.false,
            lt-leb _ _ w.if-requests-gt-MOST_REQUESTS.true,
          )
    ]

pub returns : goal.returns
returns c =
    let b = c.args.book.now in
    let whole = c.in-Some.ensures.cases in
    let n : c.from-orders.result ≡ word16 b header·orders = c.from-orders.ensures ∙ rw whole.same at c.u16_at.ensures in
    let m : c.from-requests.result ≡ word16 b header·requests = c.from-requests.ensures ∙ rw whole.same at c.u16_at-2.ensures in
    (rw whole.same at c.decide.ensures)
    ∙ sym (kept b c.from-orders.result c.from-requests.result whole.long n c.if-orders-gt-MOST_ORDERS.false m c.if-requests-gt-MOST_REQUESTS.false)
