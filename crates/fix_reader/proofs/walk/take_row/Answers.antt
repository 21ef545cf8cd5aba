-- `take_row`: where the row is taken. Rests on Laws.Taking.
use Rattle.std.proofs.Common.{◌≡◌, ◌+◌, Bool, ◌||◌, nat_eq, List, ◌∷◌, drop, Some, sym, ap, ◌∙◌}
use Rattle.fix_words.specs.Rows.{Row}
use Rattle.fix_words.specs.Spelling.{fields_in}
use Rattle.fix_table.specs.Table.{as_row}
use Rattle.fix_reader.specs.Laws.Walk.{walk}
use Rattle.fix_reader.specs.Laws.Taking.{asked_of, walk_on, row_taken}
use Rattle.fix_reader.proofs.walk.take_row.Goals as goal
use Rattle.fix_reader.proofs.walk.take_row.Goals.{Else-not-asked}

-- whatever says that the venue's text stood
taken : (e : Else-not-asked) (seen : Bool) → seen ≡ (e.args.t.seen || nat_eq e.args.row.now.bit 20) → (rs : List Row)
    → let fs = fields_in e.args.f.now.message.now in let k = e.args.kind.number in
    walk (asked_of fs k) seen rs (drop (e.args.t.next + 1) fs) ≡ walk_on fs k (Some e.args.t) (as_row e.args.row.now ∷ rs)
taken e seen h rs =
    let fs = fields_in e.args.f.now.message.now in
    let k = e.args.kind.number in
    ap (λ (x : Bool). walk (asked_of fs k) x rs (drop (e.args.t.next + 1) fs)) h
    ∙ row_taken fs k e.args.t (as_row e.args.row.now) rs (sym e.leads.ensures ∙ e.if-not-leads.false) (sym e.asked.ensures ∙ e.if-not-asked.false)

pub returns-then-t : goal.returns-then-t
returns-then-t c = taken (goal.at.returns-then-t c).Else-not-asked c.args.t.seen (c.if-t.true ∙ sym (ap (λ (x : Bool). x || nat_eq c.args.row.now.bit 20) c.if-t.true))

pub returns-else-t : goal.returns-else-t
returns-else-t c = taken (goal.at.returns-else-t c).Else-not-asked (nat_eq c.args.row.now.bit 20) (sym (ap (λ (x : Bool). x || nat_eq c.args.row.now.bit 20) c.if-t.false))
