-- `nothing`: zeros. Assumes nothing.
use Rattle.std.proofs.Common.{refl}
use Rattle.prelude.specs.Cases.{if◌then◌otherwise◌}
use Rattle.prelude.specs.Lists.{list_below}
use Rattle.fix_claims.specs.Reading.{place_of, tabled}
use Rattle.fix_reader.proofs.pieces.nothing.Goals as goal

pub returns : goal.returns
unfolding tabled place_of list_below if◌then◌otherwise◌
returns c = rw c.number.ensures refl
