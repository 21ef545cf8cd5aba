-- `format::name_ok`: the length, then the bytes, then NONE. Rests on Laws.Codes.
use Rattle.std.proofs.Common.{◌≡◌, ◌≤◌, ℕ, length, Bool, true, take, leb, leb-true, rules, refl, sym, ap, ◌∙◌, arith}
use Rattle.std.proofs.lemmas.Bool.{and_parts}
use Rattle.std.specs.List.{list_all}
use Rattle.prelude.specs.Below.{all_below}
use Rattle.prelude.specs.declared.Text.{Text}
use Rattle.format.specs.Codes.{within, alnum_at, is_alnum, is_name}
use Rattle.format.specs.Laws.Codes.{all_front}
use Rattle.format.proofs.name_ok.Goals as goal
use Rattle.format.proofs.name_ok.Goals.{After-contains}

told : (c : After-contains) → c.contains.result ≡ within 1 20 c.args.name.len
told c = let e : c.contains.result ≡ within 1 20 c.from-n.result = search rules in rw c.from-n.ensures at e

short : (n : ℕ) → within 1 20 n ≡ true → n ≤ 20
short n w = leb-true n 20 (and_parts (leb 1 n) (leb n 20) w).1

bytes : (t : Text) (n : ℕ) (b : Bool) → n ≡ t.len → t.len ≤ length t.bytes → b ≡ list_all is_alnum (take n t.bytes) → b ≡ all_below (alnum_at t) t.len
bytes t n b e h q = q ∙ ap (λ (k : ℕ). list_all is_alnum (take k t.bytes)) e ∙ all_front is_alnum t.bytes t.len h

pub returns-then-not-contains : goal.returns-then-not-contains
unfolding is_name
returns-then-not-contains c = rw (sym (told (goal.at.returns-then-not-contains c).After-contains) ∙ c.if-not-contains.true) refl

pub returns-then-alnums : goal.returns-then-alnums
unfolding is_name
returns-then-alnums c =
    let w = sym (told (goal.at.returns-then-alnums c).After-contains) ∙ c.if-not-contains.false in
    let b = bytes c.args.name c.from-n.result c.alnums.result c.from-n.ensures (omega (arith, short c.args.name.len w)) c.alnums.ensures in
    rw (w, sym b ∙ c.if-alnums.true, ← c.is_none.ensures)

pub returns-else-alnums : goal.returns-else-alnums
unfolding is_name
returns-else-alnums c =
    let w = sym (told (goal.at.returns-else-alnums c).After-contains) ∙ c.if-not-contains.false in
    let b = bytes c.args.name c.from-n.result c.alnums.result c.from-n.ensures (omega (arith, short c.args.name.len w)) c.alnums.ensures in
    c.if-alnums.false ∙ sym (rw (w, sym b ∙ c.if-alnums.false))
