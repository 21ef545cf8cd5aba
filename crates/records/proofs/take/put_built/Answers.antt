-- `take::put_built`: the text and the price have room. Assumes nothing.
use Rattle.std.proofs.Common.{lit<}
use Rattle.records.specs.Laws.Reading.{rising_shape}
use Rattle.records.proofs.Ranges.{long_between}
use Rattle.records.proofs.take.put_built.Goals as goal

pub long_in-record-requires : goal.long_in-record-requires
long_in-record-requires c = rw c.field.ensures (long_between (rising_shape c.args.shape.now.stands) 20 65 (lit< tt) c.requires.0.text)

pub high_in-high-requires : goal.high_in-high-requires
high_in-high-requires c = rw c.field-2.ensures (long_between (rising_shape c.args.shape.now.stands) 26 16 (lit< tt) c.requires.0.fillprice)
