-- `take::text_in`: the bytes and how many they are. Assumes nothing.
use Rattle.prelude.specs.Texts.{text_of}
use Rattle.records.proofs.take.text_in.Goals as goal

pub returns : goal.returns
unfolding text_of
returns c = let e = c.filled-len.ensures in λ i. record { bytes = e.0 i; len = e.1 i }
