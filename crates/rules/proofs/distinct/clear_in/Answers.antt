-- `clear_in` meets its contract: each thing before it is of another cell or not the same; its client and its position are found once. Rests on Things.
use Rattle.std.proofs.Common.{◌≡◌, ◌≤◌, ◌<◌, ◌+◌, ◌==◌, ◌&&◌, ℕ, Bool, true, false, not, refl, get_or, sym, ap, ◌∙◌, rules, arith, tests}
use Rattle.std.proofs.lemmas.Bool.{eqb-false}
use Rattle.std.proofs.lemmas.Iterator.{YieldsList-from_range, serves_from_Range}
use Rattle.std.proofs.lemmas.Iterator.Search.{all_from_yields_List}
use Rattle.prelude.specs.Laws.Below.{all_ext}
use Rattle.prelude.specs.Laws.Chains.{all_range}
use Rattle.prelude.specs.Texts.{text_at}
use Rattle.store.specs.Layout.{book_size, most_requests}
use Rattle.rules.specs.Laws.Things.{placed, clear_at, same_with, same_with_lem, placed_at, position_fits, text_in_lem, other_cell}
use Rattle.rules.proofs.distinct.clear_in.Goals as goal

pub client-client-requires : goal.client-client-requires
client-client-requires g c = (c.requires.0, placed_at c.args.book.now c.told-book g.T.Things.keyed c.args.i c.requires.1 c.args.i (omega arith))

pub all-requires-clause-callable : goal.all-requires-clause-callable
all-requires-clause-callable g c =
    let b = c.args.book.now in
    let here = placed_at b c.told-book g.T.Things.keyed c.args.i c.requires.1 in
    let fits : c.position-at.result + 33 ≤ book_size = omega (arith, c.position-at.ensures, position_fits b c.args.i g.T.Things.keyed (here c.args.i (omega arith))) in
    serves_from_Range (λ x q k. search (rules, tests))
    (λ x low high. let p : placed b g.T.Things.keyed x ≡ true = here x (omega arith) in let l : x < most_requests = omega arith in search rules)

-- a test may be passed over if the cells show that it fails
passed : (t s u : Bool) → s ≡ u → (t ≡ false → u ≡ false) → not (t && s) ≡ not u
passed true s u e f = ap not e
passed false s u e f = ap not (sym (f refl))

pub returns : goal.returns
unfolding clear_at
returns g c =
    let b = c.args.book.now in
    let i = c.args.i in
    let keyed = g.T.Things.keyed in
    let text = ap (text_at b) c.position-at.ensures ∙ sym (text_in_lem b i keyed) in
    all_from_yields_List (λ (j : ℕ). not (get_or c.args.cells.now j 0 == c.args.h && same_with b keyed c.client-client.result (text_at b c.position-at.result) j)) _ _ _ c.all.ensures.ran (YieldsList-from_range 0 i i (cc) (omega arith)) (λ x r q k. search (rules, tests))
    ∙ all_range _ i
    ∙ all_ext _ _ i
    (λ j l.
    passed _ _ _ (same_with_lem b keyed i j _ _ c.requires.4 c.client-client.ensures text)
    (λ e. other_cell b c.told-book keyed i c.requires.1 j l (λ d. eqb-false _ _ e (c.requires.3 j l ∙ sym d ∙ sym c.requires.2))))
