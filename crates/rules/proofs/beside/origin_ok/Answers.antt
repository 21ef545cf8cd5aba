-- `origin_ok` meets its contract: it is not empty, and its link names its text. Rests on Origin and store's Fields.
use Rattle.std.proofs.Common.{◌≡◌, ◌≢◌, sym, ap, ◌∙◌, eq-eqb}
use Rattle.prelude.specs.Cases.{if◌then◌otherwise◌}
use Rattle.store.specs.Book.{request_at, origin_at}
use Rattle.store.specs.Laws.Fields.{request_origclordid}
use Rattle.rules.specs.Laws.Beside.{link_at}
use Rattle.rules.specs.Laws.Origin.{origin_linked, linked_text}
use Rattle.rules.specs.Laws.Kinds.{no_text}
use Rattle.rules.proofs.beside.origin_ok.Goals as goal

pub returns-then-book-at-ne0 : goal.returns-then-book-at-ne0
unfolding if◌then◌otherwise◌
returns-then-book-at-ne0 c =
    let b = c.args.book.now in
    let k = c.args.k in
    let n : (request_at b k).origclordid.len ≢ 0 = rw (request_origclordid b k) c.if-book-at-ne0.true in
    c.link_ok.ensures
    ∙ ap (link_at b k) c.u16_at.ensures
    ∙ sym (origin_linked (request_at b k).origclordid (link_at b k (origin_at b k)) n (linked_text b c.told-book k (origin_at b k) c.requires.0 c.requires.2))

pub returns-else-book-at-ne0 : goal.returns-else-book-at-ne0
returns-else-book-at-ne0 c =
    let b = c.args.book.now in
    let k = c.args.k in
    let e : (request_at b k).origclordid.len ≡ 0 = rw (request_origclordid b k) c.if-book-at-ne0.false in
    rw (eq-eqb _ _ c.if-book-at-ne0.false, no_text (request_at b k).origclordid e)
