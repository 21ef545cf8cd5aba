-- `records::put_messages`: those that the count of the messages chooses. Assumes nothing.
use Rattle.std.proofs.Common.{refl, sym}
use Rattle.prelude.specs.Cases.{if◌then◌otherwise◌}
use Rattle.prelude.specs.Laws.Span.{splice_nil}
use Rattle.records.specs.Answer.{head_size}
use Rattle.records.proofs.put_messages.Goals as goal

pub returns-in-Nothing : goal.returns-in-Nothing
returns-in-Nothing c = rw c.in-Nothing.is (refl, sym (splice_nil c.args.dst.now head_size))

pub returns-in-One : goal.returns-in-One
unfolding if◌then◌otherwise◌
returns-in-One c = rw c.in-One.is c.put_chosen.ensures

pub returns-in-Two : goal.returns-in-Two
unfolding if◌then◌otherwise◌
returns-in-Two c = rw c.in-Two.is c.put_chosen-in-Two.ensures
