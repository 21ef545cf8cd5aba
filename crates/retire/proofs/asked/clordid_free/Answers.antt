-- `clordid_free` meets its contract: the ClOrdID of a done order's request is looked up. Rests on Asked.
use Rattle.std.proofs.Common.{◌∙◌, ap, sym, true, false}
use Rattle.prelude.specs.Cases.{maybe}
use Rattle.store.specs.Book.{book_of}
use Rattle.store.specs.Laws.Stored.{load_order_in, load_request_in}
use Rattle.retire.specs.Laws.Asked.{clordid_live, clordid_done, none_is}
use Rattle.retire.proofs.asked.clordid_free.Goals as goal

pub returns-then-not-done_at : goal.returns-then-not-done_at
returns-then-not-done_at c =
    clordid_live (book_of c.args.archive.now) (book_of c.args.book.now.bytes.now) c.args.j c.order_of-i.result c.order_of-i.ensures.0 (sym c.done_at.ensures ∙ c.if-not-done_at.true)

pub returns : goal.returns
returns c =
    let b = c.args.book.now.bytes.now in
    let i = c.order_of-i in
    clordid_done (book_of c.args.archive.now) (book_of b) c.args.j i.result c.load_order-o.result c.load_request-q.result c.is_none.result i.ensures.0 (sym c.done_at.ensures ∙ c.if-not-done_at.false)
    (c.load_order-o.ensures ∙ load_order_in b i.result i.ensures.1)
    (c.load_request-q.ensures ∙ load_request_in b c.args.j c.requires)
    (none_is c.find_clordid.result c.is_none.result c.is_none.ensures ∙ ap (maybe true (λ k. false)) c.find_clordid.ensures)
