-- `records::put_record_in`: the record of these numbers and texts. Assumes nothing.
use Rattle.std.proofs.Common.{◌∙◌}
use Rattle.records.specs.Laws.Reading.{short_numbered, narrow_numbered, built_numbered}
use Rattle.records.proofs.put_record_in.Goals as goal

pub put_built-requires : goal.put_built-requires
put_built-requires c =
    let x = c.args.shape.now in
    let n = c.numbers_in.new.numbers in
    let g = c.in_ok-numbers_in.ensures.ok in
    (short_numbered x.stands n g, narrow_numbered x.stands n g x.small)

pub returns-clause-ok : goal.returns-clause-ok
returns-clause-ok c =
    let g = c.in_ok-numbers_in.ensures.ok in
    (g.right, c.put_built.ensures ∙ built_numbered c.args.shape.now.stands c.numbers_in.new.numbers g)
