-- `value_fits`: by the bit and its form. Rests on Laws.Bits, Laws.Classes and Laws.Special.
use Rattle.std.proofs.Common.{◌≡◌, ℕ, ◌<◌, true, ◌&&◌, ◌||◌, ltb, sym, refl, ◌∙◌, subst, arith, ne_eqb}
use Rattle.prelude.specs.Number.{bound}
use Rattle.bits.specs.Map.{bit}
use Rattle.format.specs.Format.{size, range, in_range, required, allowed}
use Rattle.decimal.specs.Decimal.{decimal, number_in}
use Rattle.fix_words.specs.Lists.{same}
use Rattle.fix_words.specs.Rows.{in_rows}
use Rattle.fix_words.specs.Values.{rows}
use Rattle.fix_words.proofs.Laws.Kinds.{row_small}
use Rattle.fix_reader.specs.Laws.Classes.{number_fits}
use Rattle.fix_reader.specs.Laws.Bits.{may_stand, NumberBit, number_bit}
use Rattle.fix_reader.specs.Laws.End.{bytes_all}
use Rattle.fix_reader.proofs.walk.value_fits.Goals as goal
use Rattle.fix_reader.proofs.walk.value_fits.Goals.{In-Number, Start}

in_row : (s : Start) (x : ℕ) → s.args.b ≡ x → in_rows (rows s.args.kind.number) x ≡ true
in_row s x e = subst (λ (b : ℕ). in_rows (rows s.args.kind.number) b ≡ true) e s.requires.0

stand : (s : Start) (x : ℕ) → s.args.b ≡ x → (bit (required s.args.kind.number) x || bit (allowed s.args.kind.number) x) ≡ true
stand s x e = may_stand s.args.kind.number s.args.kind.known x (in_row s x e)

small : (s : Start) → s.args.b < 32
small s = row_small s.args.kind.number s.args.kind.known s.args.b s.requires.0

numbered : (e : In-Number) → NumberBit e.args.b e.in-Number.places
numbered e =
    number_bit e.args.kind.number e.args.kind.known e.args.b e.requires.0 e.in-Number.places (sym e.form_of.ensures ∙ e.in-Number.is) (omega arith) (omega arith) (omega arith) (omega arith)

pub returns-in-Number : goal.returns-in-Number
returns-in-Number c =
    let s = (goal.at.returns-in-Number c).Start in
    let a = c.args in
    let t = numbered (goal.at.returns-in-Number c).In-Number in
    let v = a.v.now in
    let n : ℕ = number_in v in
    c.number_fits.ensures
    ∙ (λ i. ltb n (bound (size a.b)) && (same (decimal (sym t.places i) n) v && in_range (range a.b) n))
    ∙ sym (number_fits a.kind.number a.b a.name.now v (stand s a.b refl) (bytes_all v (λ k. (c.type_inv.v k).fits)) t.plain t.text t.short (ne_eqb a.b 2 (omega arith)) t.other (ne_eqb a.b 25 (omega arith)) (ne_eqb a.b 27 (omega arith)))
