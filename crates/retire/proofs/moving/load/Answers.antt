-- `load` meets its contract: an order in use is loaded as the book has it. Rests on Moved.
use Rattle.retire.specs.Laws.Moved.{load_few}
use Rattle.retire.proofs.moving.load.Goals as goal

pub returns : goal.returns
returns c = load_few c.args.book.now.bytes.now c.args.book.now.kept c.args.i c.load_order.result c.requires c.load_order.ensures
