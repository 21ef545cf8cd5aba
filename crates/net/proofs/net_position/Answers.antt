-- `net_position` refuses a book that does not keep its rules. Rests on Call.
use Rattle.std.proofs.Common.{refl}
use Rattle.std.proofs.lemmas.Result.{err_from_is_err_and}
use Rattle.net.specs.Laws.Call.{net_bad}
use Rattle.net.proofs.net_position.Goals as goal

pub returns-in_err-book : goal.returns-in_err-book
returns-in_err-book c =
    let p = err_from_is_err_and c.from_residual.result c.from_residual.ensures.1 in
    rw (p.1, p.2, c.in_err-book.ensures.err.0)
    (record { is = net_bad _ _ _ c.in_err-book.ensures.err.1; long = refl; same = λ n. refl })
