-- `take::put_ids`: each text has room. Assumes nothing.
use Rattle.std.proofs.Common.{lit<}
use Rattle.records.specs.Laws.Reading.{rising_shape}
use Rattle.records.proofs.Ranges.{long_between}
use Rattle.records.proofs.take.put_ids.Goals as goal

pub text_in-ids-requires : goal.text_in-ids-requires
text_in-ids-requires c = rw c.field.ensures (long_between (rising_shape c.args.shape.now.stands) 2 33 (lit< tt) c.requires.name)

pub text_in-ids-requires-2 : goal.text_in-ids-requires-2
text_in-ids-requires-2 c = rw c.field-2.ensures (long_between (rising_shape c.args.shape.now.stands) 3 33 (lit< tt) c.requires.clordid)

pub text_in-ids-requires-3 : goal.text_in-ids-requires-3
text_in-ids-requires-3 c = rw c.field-3.ensures (long_between (rising_shape c.args.shape.now.stands) 4 33 (lit< tt) c.requires.origclordid)

pub text_in-ids-requires-4 : goal.text_in-ids-requires-4
text_in-ids-requires-4 c = rw c.field-4.ensures (long_between (rising_shape c.args.shape.now.stands) 5 33 (lit< tt) c.requires.downstream)

pub text_in-ids-requires-5 : goal.text_in-ids-requires-5
text_in-ids-requires-5 c = rw c.field-5.ensures (long_between (rising_shape c.args.shape.now.stands) 6 33 (lit< tt) c.requires.symbol)

pub text_in-ids-requires-6 : goal.text_in-ids-requires-6
text_in-ids-requires-6 c = rw c.field-6.ensures (long_between (rising_shape c.args.shape.now.stands) 18 33 (lit< tt) c.requires.venueorderid)

pub text_in-ids-requires-7 : goal.text_in-ids-requires-7
text_in-ids-requires-7 c = rw c.field-7.ensures (long_between (rising_shape c.args.shape.now.stands) 30 33 (lit< tt) c.requires.origdownstream)
