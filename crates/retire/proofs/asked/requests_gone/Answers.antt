-- `requests_gone` meets its contract: it has counted all requests. Rests on Asked.
use Rattle.std.proofs.Common.{◌≡◌, ◌∙◌, ap, arith}
use Rattle.prelude.specs.Below.{count_below}
use Rattle.store.specs.Book.{book_of, request_count}
use Rattle.parts.specs.Parts.{done_at, of_passing}
use Rattle.retire.specs.Laws.Asked.{gone_requests}
use Rattle.retire.proofs.asked.requests_gone.Goals as goal

pub returns : goal.returns
returns c =
    let b = c.args.book.now.bytes.now in
    let e : c.loop-j.j ≡ request_count b = omega (arith, c.request_count-j-end.ensures) in
    c.loop-j.invariant ∙ ap (count_below (of_passing (done_at (book_of b)) (book_of b))) e ∙ gone_requests b
