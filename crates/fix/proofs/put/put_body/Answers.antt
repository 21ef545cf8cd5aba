-- `put_body`: what is left to be written are the rows not yet passed. Assumes nothing.
use Rattle.std.proofs.Common.{◌≡◌, ℕ, ◌<◌, true, false, length, get_or, sym, ap, subst, ◌∙◌, arith, Option}
use Rattle.std.proofs.lemmas.List.{length-map}
use Rattle.fix_words.specs.Rows.{in_rows}
use Rattle.fix_words.specs.Values.{rows}
use Rattle.fix.specs.Laws.Plan.{planned, Sound, rows_shown}
use Rattle.fix_table.specs.declared.Row as code
use Rattle.fix_table.specs.Table.{row_at, as_row}
use Rattle.fix_table.specs.Laws.Rows.{IsRow, row_is, bit_small, bit_in_rows}
use Rattle.fix.specs.Laws.Putting.{rows_long_lem, shown_last, Rest, rest_start, rest_end, row_room, row_next}
use Rattle.fix.specs.declared.value.Value.{Value}
use Rattle.fix.proofs.put.put_body.Goals as goal
use Rattle.fix.proofs.put.put_body.Goals.{After-value_at-v, In-loop-row, Start}

abbrev plan : Start → ℕ → Option Value
plan s = let a = s.args in planned a.kind a.parts.now.map a.parts.now.at a.parts.now.numbers a.parts.now.high

sounds : (s : Start) (b : ℕ) → in_rows (rows s.args.kind) b ≡ true → Sound s.args.s.now (plan s b)
sounds s b i = s.requires.0 b (bit_in_rows s.args.kind b i)

-- what a row is read as past the last
abbrev blank : code.Row
blank = record { tag = 0; bit = 0; must = false }

abbrev this : (c : In-loop-row) → IsRow (get_or c.rows-row-items.result.now c.loop-row.row-index blank) (row_at c.args.kind c.loop-row.row-index)
this c = row_is c.rows-row-items.result.now c.args.kind c.loop-row.row-index blank c.rows-row-items.ensures c.loop-row-test.true

small : (c : In-loop-row) → (get_or c.rows-row-items.result.now c.loop-row.row-index blank).bit < 32
small c = omega (arith, (this c).bit, bit_small c.args.kind c.loop-row.row-index)

inside : (c : In-loop-row) → c.loop-row.row-index < length (rows c.args.kind)
inside c = omega (arith, c.loop-row-test.true, sym (length-map c.rows-row-items.result.now as_row) ∙ ap length c.rows-row-items.ensures)

abbrev start : After-value_at-v → Start
start c = (goal.at.After-value_at-v c).Start

-- the value of the row
the_value : (c : After-value_at-v) → c.value_at-v.result ≡ plan (start c) (row_at c.args.kind c.loop-row.row-index).bit
the_value c = c.value_at-v.ensures ∙ ap (plan (start c)) (this (goal.at.After-value_at-v c).In-loop-row).bit

sound : (c : After-value_at-v) → Sound c.args.s.now c.value_at-v.result
sound c = subst (λ (v : Option Value). Sound c.args.s.now v) (sym c.value_at-v.ensures) (c.requires.0 _ (small (goal.at.After-value_at-v c).In-loop-row))

pub loop-row-init : goal.loop-row-init
loop-row-init c =
    let a = c.args in
    let s = (goal.at.loop-row-init c).Start in
    rest_start a.out.now a.start (rows_shown a.s.now (rows a.kind) (plan s)) (omega (arith, c.requires.1, rows_long_lem a.s.now (plan s) (rows a.kind) (sounds s)))

pub value_at-v-requires : goal.value_at-v-requires
value_at-v-requires c = small (goal.at.value_at-v-requires c).In-loop-row

pub put_field-p-requires : goal.put_field-p-requires
put_field-p-requires c =
    let e = (goal.at.put_field-p-requires c).After-value_at-v in
    let l = (goal.at.put_field-p-requires c).In-loop-row in
    (sound e, row_room c.args.s.now (plan (start e)) (rows c.args.kind) c.loop-row.row-index (inside l) _ c.value_at-v.result (this l).tag (the_value e) (sound e) c.loop-row.invariant)

pub loop-row-preserved : goal.loop-row-preserved
loop-row-preserved c =
    let e = (goal.at.loop-row-preserved c).After-value_at-v in
    let l = (goal.at.loop-row-preserved c).In-loop-row in
    row_next c.args.s.now (plan (start e)) (rows c.args.kind) c.loop-row.row-index (inside l) _ c.value_at-v.result (this l).tag (the_value e) (sound e) c.loop-row.invariant c.put_field-p.ensures.1 c.put_field-p.ensures.0

pub shape_of-out : goal.shape_of-out
shape_of-out c = c.loop-row.invariant.same

pub returns : goal.returns
returns c =
    let a = c.args in
    let s = (goal.at.returns c).Start in
    let l = c.loop-row in
    let h : l.row-index ≡ length (rows a.kind) = omega (arith, sym (length-map c.rows-row-items.result.now as_row) ∙ ap length c.rows-row-items.ensures) in
    let z = rest_end (subst (Rest a.out.now a.start (rows_shown a.s.now (rows a.kind) (plan s)) l.out l.p) (shown_last a.s.now (plan s) (rows a.kind) l.row-index h) l.invariant) in
    (omega (arith, z.0, rows_long_lem a.s.now (plan s) (rows a.kind) (sounds s)), z.1)
