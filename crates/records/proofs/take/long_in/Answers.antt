-- `take::long_in`: the bytes and how many they are. Assumes nothing.
use Rattle.records.specs.Fields.{long_of}
use Rattle.records.proofs.take.long_in.Goals as goal

pub returns : goal.returns
unfolding long_of
returns c = let e = c.filled-len.ensures in λ i. record { bytes = e.0 i; len = e.1 i }
