-- `mark_answered` meets its contract: each return is one case of the definition. Rests on the laws of the record.
use Rattle.std.proofs.Common.{arith}
use Rattle.prelude.specs.Cases.{if◌then◌otherwise◌}
use Rattle.words.specs.Laws.Windows.{within_8}
use Rattle.store.specs.Layout.{request_base, request_size, request·answered, request·outcome}
use Rattle.store.specs.Book.{mark_answered}
use Rattle.store.specs.Laws.Fields.{request_answered, request_outcome}
use Rattle.store.proofs.mark_answered.Goals as goal

pub returns-in-Some : goal.returns-in-Some
unfolding mark_answered if◌then◌otherwise◌
returns-in-Some c = let a = c.args in
    let b = a.book.now in
    let s = c.in-Some.ensures in
    rw (s.0, c.put-in-Some.ensures, c.put.ensures, c.settled_as-settled.ensures, s.1, request_answered b a.i, request_outcome b a.i, within_8 b (request_base a.i) request_size request·answered (omega arith), within_8 b (request_base a.i) request_size request·outcome (omega arith))

pub returns-in_default : goal.returns-in_default
unfolding mark_answered if◌then◌otherwise◌
returns-in_default c = rw c.in_default.ensures
