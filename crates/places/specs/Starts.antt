-- Where the fields of a record start, for one that starts below 65,536. Rests on format's Places.
use Rattle.std.specs.Prelude.{ℕ, List, ltb}
use Rattle.prelude.specs.Cases.{if◌then◌otherwise◌}
use Rattle.format.specs.Places.{start}

unfoldable pub start_from : List ℕ → ℕ → ℕ → ℕ → ℕ
start_from s o m k = if ltb o 65536 then start s o m k otherwise 0
