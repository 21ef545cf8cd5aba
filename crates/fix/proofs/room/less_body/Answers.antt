-- `less_body`: behind the rows that are left there is as much room as behind all. Assumes nothing.
use Rattle.std.proofs.Common.{◌≡◌, ℕ, ◌+◌, ◌<◌, length, drop, false, sym, ap, ◌∙◌, arith, Option}
use Rattle.std.proofs.lemmas.List.{length-map}
use Rattle.fix_words.specs.Values.{rows}
use Rattle.fix.specs.Laws.Plan.{planned, field_long, rows_long, less_by}
use Rattle.fix_table.specs.declared.Row.{Row}
use Rattle.fix_table.specs.Table.{row_at, as_row}
use Rattle.fix_table.specs.Laws.Rows.{row_is, bit_small}
use Rattle.fix.specs.Laws.Putting.{long_next, long_last, less_more, less_none}
use Rattle.fix.specs.declared.value.Value.{Value}
use Rattle.fix.proofs.room.less_body.Goals as goal

-- what a row is read as past the last
abbrev blank : Row
blank = record { tag = 0; bit = 0; must = false }

pub value_at-v-requires : goal.value_at-v-requires
value_at-v-requires c =
    let l = c.loop-row in
    omega (arith, (row_is c.rows-row-items.result.now c.args.kind l.row-index blank c.rows-row-items.ensures c.loop-row-test.true).bit, bit_small c.args.kind l.row-index)

pub loop-row-preserved : goal.loop-row-preserved
loop-row-preserved c =
    let a = c.args in
    let l = c.loop-row in
    let i = l.row-index in
    let f : ℕ → Option Value = planned a.kind a.parts.now.map a.parts.now.at a.parts.now.numbers a.parts.now.high in
    let h : i < length (rows a.kind) = omega (arith, sym (length-map c.rows-row-items.result.now as_row) ∙ ap length c.rows-row-items.ensures) in
    let t : ℕ = (row_at a.kind i).tag in
    let b : ℕ = (row_at a.kind i).bit in
    let tag : c.less_field-left.result ≡ less_by l.left (field_long t (f b)) =
    c.less_field-left.ensures ∙ (λ j. less_by l.left (field_long ((row_is c.rows-row-items.result.now a.kind i blank c.rows-row-items.ensures c.loop-row-test.true).tag j) ((c.value_at-v.ensures ∙ ap f (row_is c.rows-row-items.result.now a.kind i blank c.rows-row-items.ensures c.loop-row-test.true).bit) j))) in
    ap (λ (t : Option ℕ). less_by t (rows_long (drop (i + 1) (rows a.kind)) f)) tag
    ∙ less_more l.left (field_long t (f b)) (rows_long (drop (i + 1) (rows a.kind)) f)
    ∙ ap (less_by l.left) (sym (long_next f (rows a.kind) i h))
    ∙ l.invariant

pub returns : goal.returns
returns c =
    let a = c.args in
    let l = c.loop-row in
    let f : ℕ → Option Value = planned a.kind a.parts.now.map a.parts.now.at a.parts.now.numbers a.parts.now.high in
    let e : l.row-index ≡ length (rows a.kind) = omega (arith, sym (length-map c.rows-row-items.result.now as_row) ∙ ap length c.rows-row-items.ensures) in
    sym (less_none l.left) ∙ ap (less_by l.left) (sym (long_last f (rows a.kind) l.row-index e)) ∙ l.invariant
