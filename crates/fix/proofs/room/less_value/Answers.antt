-- `less_value`: by what it is. Assumes nothing.
use Rattle.fix_words.specs.Laws.Counting.{decimal_none}
use Rattle.fix.specs.Laws.Plan.{long_of}
use Rattle.fix.specs.Laws.Putting.{less_more}
use Rattle.fix.proofs.room.less_value.Goals as goal

pub returns-in-Bytes : goal.returns-in-Bytes
unfolding long_of
returns-in-Bytes c = rw c.in-Bytes.is c.less_by.ensures

pub returns-in-Number : goal.returns-in-Number
unfolding long_of
returns-in-Number c = rw c.in-Number.is (rw c.decimal_length.ensures.0 at c.less_by-in-Number.ensures)

pub returns-in-Price : goal.returns-in-Price
unfolding long_of
returns-in-Price c = rw c.in-Price.is (rw c.decimal_length-in-Price.ensures.0 at c.less_by-in-Price.ensures)

pub returns-in-Fixed : goal.returns-in-Fixed
unfolding long_of
returns-in-Fixed c = rw c.in-Fixed.is (rw c.fixed_text.ensures at c.less_by-in-Fixed.ensures)

pub returns-in-Exec : goal.returns-in-Exec
unfolding long_of
returns-in-Exec c =
    rw (c.in-Exec.is, ← less_more c.args.room c.in-Exec.count _, ← c.less_by-in-Exec.ensures, ← decimal_none c.in-Exec.number, ← c.decimal_length-in-Exec.ensures.0) c.less_by-in-Exec-2.ensures
