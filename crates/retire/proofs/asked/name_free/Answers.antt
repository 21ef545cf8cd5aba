-- `name_free` meets its contract: a done order's name is looked up. Rests on Asked.
use Rattle.std.proofs.Common.{◌∙◌, ap, sym, true, false}
use Rattle.prelude.specs.Cases.{maybe}
use Rattle.store.specs.Book.{book_of}
use Rattle.store.specs.Laws.Stored.{load_order_in}
use Rattle.retire.specs.Laws.Asked.{name_live, name_done, none_is}
use Rattle.retire.proofs.asked.name_free.Goals as goal

pub returns-then-not-done_at : goal.returns-then-not-done_at
returns-then-not-done_at c =
    name_live (book_of c.args.archive.now) (book_of c.args.book.now.bytes.now) c.args.i (sym c.done_at.ensures ∙ c.if-not-done_at.true)

pub returns : goal.returns
returns c =
    let b = c.args.book.now.bytes.now in
    name_done (book_of c.args.archive.now) (book_of b) c.args.i c.load_order-o.result c.is_none.result (sym c.done_at.ensures ∙ c.if-not-done_at.false) (c.load_order-o.ensures ∙ load_order_in b c.args.i c.requires)
    (none_is c.find_name.result c.is_none.result c.is_none.ensures ∙ ap (maybe true (λ k. false)) c.find_name.ensures)
