-- `walk`: the walk from where it stands is the whole walk. Rests on Laws.Taking.
use Rattle.std.proofs.Common.{◌≡◌, drop, Some}
use Rattle.fix_words.specs.Spelling.{fields_in}
use Rattle.fix_words.specs.Values.{rows}
use Rattle.fix_reader.specs.Laws.Taking.{walk_on, walk_all}
use Rattle.fix_reader.proofs.walk.walk.Given as goal

abbrev pub invariant-loop-row : goal.invariant-loop-row
invariant-loop-row l = walk_on (fields_in l.f.message.now) l.kind.number (Some l.t) (drop l.row-index (rows l.kind.number)) ≡ walk_all (fields_in l.f.message.now) l.kind.number
