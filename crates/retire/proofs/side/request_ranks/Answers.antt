-- `request_ranks` meets its contract: each turn counts one request more. Rests on Side.
use Rattle.std.proofs.Common.{length-set, ℕ, ◌+◌, ◌<◌, ◌∙◌, Bool, ap, sym, arith}
use Rattle.prelude.specs.Laws.Below.{count_hit, count_pass}
use Rattle.store.specs.Layout.{header·requests, most_requests}
use Rattle.store.specs.Book.{book_of}
use Rattle.store.specs.Laws.Stored.{count_most}
use Rattle.parts.specs.Parts.{of_passing}
use Rattle.retire.specs.Laws.Side.{side, ranks_more}
use Rattle.retire.proofs.side.request_ranks.Goals.{then-has_request, else-has_request}
use Rattle.retire.proofs.side.request_ranks.Goals as goal

pub loop-j-preserved : goal.loop-j-preserved
loop-j-preserved c =
    let b = c.args.book.now.bytes.now in
    let p : ℕ → Bool = of_passing (side c.args.done (book_of b)) (book_of b) in
    let l = c.loop-j in
    let few : l.j < most_requests = omega (arith, count_most header·requests most_requests b) in
    let now = l.invariant.counted in
    record {
      size = length-set l.ranks l.j l.count ∙ l.invariant.size;
      counted =
          elim c.if-has_request.branch [
            | then-has_request w ↦ w.count-is ∙ ap (λ (n : ℕ). n + 1) now ∙ sym (count_hit p l.j (sym c.has_request.ensures ∙ w.if-has_request.true))
            | else-has_request w ↦ w.count-is ∙ now ∙ sym (count_pass p l.j (sym c.has_request.ensures ∙ w.if-has_request.false))
          ];
      ranks = ranks_more p l.j l.count l.ranks (omega (arith, l.invariant.size)) l.invariant.ranks now;
    }
