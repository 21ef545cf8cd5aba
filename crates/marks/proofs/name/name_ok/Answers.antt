-- `name_ok` meets its contract: a name has 1 to 16 bytes, each a letter or a digit. Rests on format's Codes.
use Rattle.std.proofs.Common.{ℕ, ◌≡◌, ◌≤◌, length, arith, rules, sym, ap, ◌∙◌, take_all, tests, le-leb}
use Rattle.std.proofs.lemmas.Bool.{eqb-false}
use Rattle.std.specs.List.{list_all}
use Rattle.std.proofs.lemmas.Iterator.{YieldsList-from_slice}
use Rattle.std.proofs.lemmas.Iterator.Search.{all_from_yields_List}
use Rattle.format.specs.Codes.{is_alnum}
use Rattle.format.specs.Laws.Codes.{all_front}
use Rattle.marks.specs.Marks.{is_mark_name}
use Rattle.marks.proofs.name.name_ok.Goals as goal

some_bytes : (n : ℕ) → (n ≡ 0 → ⊥) → 1 ≤ n
some_bytes n h = omega arith

pub returns : goal.returns
unfolding is_mark_name
returns c =
    let s = c.args.name.now in
    let n = length s in
    rw (le-leb 1 n (some_bytes n (eqb-false n 0 (sym c.is_empty.ensures ∙ c.if-is_empty.false))), le-leb n 16 c.if-name-gt-LONGEST.false)
    (all_from_yields_List is_alnum _ _ _ c.all.ensures.ran (YieldsList-from_slice s (cc)) (λ x b q k. search (rules, tests))
    ∙ ap (list_all is_alnum) (sym (take_all n s (omega arith)))
    ∙ all_front is_alnum s n (omega arith))
