-- `answer_length` is the length of what its writer writes. Assumes nothing.
use Rattle.needs.specs.Laws.Needs.{written_length}
use Rattle.needs.proofs.answer_length.Goals as goal

pub returns : goal.returns
returns c = written_length _ _ _ _ c.write_answer.ensures.0
