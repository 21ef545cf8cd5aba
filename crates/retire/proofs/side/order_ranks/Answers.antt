-- `order_ranks` meets its contract: each turn counts one order more. Rests on Side.
use Rattle.std.proofs.Common.{length-set, ℕ, ◌+◌, ◌<◌, ◌∙◌, Bool, ap, sym, arith}
use Rattle.prelude.specs.Laws.Below.{count_hit, count_pass}
use Rattle.store.specs.Layout.{header·orders, most_orders}
use Rattle.store.specs.Book.{book_of}
use Rattle.store.specs.Laws.Stored.{count_most}
use Rattle.retire.specs.Laws.Side.{side, ranks_more}
use Rattle.retire.proofs.side.order_ranks.Goals.{then-has_order, else-has_order}
use Rattle.retire.proofs.side.order_ranks.Goals as goal

pub loop-i-preserved : goal.loop-i-preserved
loop-i-preserved c =
    let b = c.args.book.now.bytes.now in
    let p : ℕ → Bool = side c.args.done (book_of b) in
    let l = c.loop-i in
    let few : l.i < most_orders = omega (arith, count_most header·orders most_orders b) in
    let now = l.invariant.counted in
    record {
      size = length-set l.ranks l.i l.count ∙ l.invariant.size;
      counted =
          elim c.if-has_order.branch [
            | then-has_order w ↦ w.count-is ∙ ap (λ (n : ℕ). n + 1) now ∙ sym (count_hit p l.i (sym c.has_order.ensures ∙ w.if-has_order.true))
            | else-has_order w ↦ w.count-is ∙ now ∙ sym (count_pass p l.i (sym c.has_order.ensures ∙ w.if-has_order.false))
          ];
      ranks = ranks_more p l.i l.count l.ranks (omega (arith, l.invariant.size)) l.invariant.ranks now;
    }
