-- `has_room` meets its contract: no sum is above what two tables have. Rests on Asked.
use Rattle.std.proofs.Common.{arith}
use Rattle.store.specs.Layout.{header·requests, most_requests}
use Rattle.store.specs.Laws.Stored.{count_most}
use Rattle.retire.specs.Laws.Asked.{requests_few}
use Rattle.retire.proofs.asked.has_room.Goals as goal

pub overflow_add-result : goal.overflow_add-result
overflow_add-result c = omega (arith, requests_few c.args.book.now.bytes.now, count_most header·requests most_requests c.args.archive.now)
