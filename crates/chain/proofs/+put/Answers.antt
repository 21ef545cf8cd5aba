-- `put` goes to a request numbered lower, and has room for the rest. Rests on Walk and Entries.
use Rattle.std.proofs.Common.{sym, ◌∙◌, arith}
use Rattle.chain.specs.Laws.Walk.{step_back}
use Rattle.chain.specs.Laws.Entries.{first_room, rest_room, put_more}
use Rattle.chain.proofs.+put.Goals as goal

pub put_entry-requires : goal.put_entry-requires
put_entry-requires t c =
    let b = c.args.book.now in
    first_room b.bytes.now b.kept c.args.k c.requires.used c.args.list.now c.args.list.now c.args.at c.requires.room

pub put-requires : goal.put-requires
put-requires t c =
    let b = c.args.book.now in
    let f = sym c.earlier.ensures ∙ c.in-Some.is in
    let s = step_back b.bytes.now b.kept c.args.k c.in-Some.next c.requires.used f in
    (omega (arith, c.decreases, s.lower), (omega (arith, s.lower, c.requires.used), rest_room b.bytes.now b.kept c.args.k c.requires.used c.args.list.now _ c.args.at c.requires.room c.put_entry.ensures _ f))

pub returns-in-Some : goal.returns-in-Some
returns-in-Some t c =
    let b = c.args.book.now in
    put_more b.bytes.now b.kept c.args.k c.requires.used c.args.list.now _ c.args.at c.requires.room c.put_entry.ensures _ (sym c.earlier.ensures ∙ c.in-Some.is) _ c.put.ensures
