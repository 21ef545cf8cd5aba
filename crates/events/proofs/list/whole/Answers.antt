-- `whole` finds what `has_whole` says. Assumes nothing.
use Rattle.std.proofs.Common.{arith, sym, ap, ◌∙◌, Some}
use Rattle.events.specs.Laws.Runs.{whole_none, whole_some, whole_cut, word_front}
use Rattle.events.proofs.list.whole.Goals as goal
use Rattle.prelude.specs.Laws.Cases.{if_true, if_false}

pub returns-then-records-lt2 : goal.returns-then-records-lt2
returns-then-records-lt2 c = sym (if_false _ _ _ (whole_none _ c.if-records-lt2.true))

pub returns-then-length-records : goal.returns-then-length-records
returns-then-length-records c =
    let e = c.from-length.ensures ∙ c.get16.ensures ∙ word_front c.args.records.now in
    ap Some e ∙ sym (if_true _ _ _ (whole_some _ (omega (arith, c.if-records-lt2.false)) _ e c.if-length-records.true))

pub returns-else-length-records : goal.returns-else-length-records
returns-else-length-records c =
    let e = c.from-length.ensures ∙ c.get16.ensures ∙ word_front c.args.records.now in
    sym (if_false _ _ _ (whole_cut _ (omega (arith, c.if-records-lt2.false)) _ e (omega (arith, c.if-length-records.false))))
