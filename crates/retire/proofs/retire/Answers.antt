-- `retire` meets its contract: what is left is written from a copy of the book. Rests on Asked.
use Rattle.std.proofs.Common.{◌∙◌, ap₂, sym}
use Rattle.prelude.specs.Counted.{counting}
use Rattle.retire.specs.Retire.{retired}
use Rattle.retire.specs.Laws.Side.{kept_long}
use Rattle.retire.specs.Laws.Asked.{left_book, left_archive}
use Rattle.retire.proofs.retire.Goals as goal

pub copy_from_slice-requires : goal.copy_from_slice-requires
copy_from_slice-requires c = sym (kept_long c.args.book.now c.in_ok-gone.ensures.ok.kept)

pub returns : goal.returns
returns c =
    let b = c.args.book.now in
    let a = c.args.archive.now in
    let was = c.copy_from_slice.new.self in
    let is = c.copy_from_slice.ensures.after in
    ap₂ (retired (counting c.in_ok-gone.gone))
    (left_book b was c.empty.new.book c.move_into.new.into is c.empty.ensures c.move_into.ensures)
    (left_archive a b was c.move_into-2.new.into is c.move_into-2.ensures)
    ∙ c.in_ok-gone.ensures.ok.some c.if-gone-eq0.false
