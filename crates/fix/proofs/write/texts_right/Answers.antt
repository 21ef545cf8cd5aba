-- `texts_right`: the text of each bit. Rests on prelude's Chains.
use Rattle.std.proofs.Common.{ℕ, ◌+◌, Bool, get_or, ◌∙◌, rules, arith, tests}
use Rattle.std.proofs.lemmas.Iterator.{YieldsList-from_range}
use Rattle.std.proofs.lemmas.Iterator.Search.{all_from_yields_List}
use Rattle.prelude.specs.Laws.Chains.{all_range}
use Rattle.fix.specs.Laws.Plan.{text_right, texts_right}
use Rattle.fix.proofs.write.texts_right.Goals as goal
use Rattle.fix.proofs.write.texts_right.Goals.{Start}

abbrev test : Start → ℕ → Bool
test s k = text_right s.args.s.now s.args.parts.now.map (get_or s.args.parts.now.at (k + 1) 0) (get_or s.args.parts.now.numbers k 0) k

pub returns : goal.returns
unfolding texts_right
returns c =
    all_from_yields_List (test (goal.at.returns c).Start) _ _ _ c.all.ensures.ran (YieldsList-from_range 0 32 32 (cc) (omega arith)) (λ x b q k. search (rules, tests))
    ∙ all_range _ 32
