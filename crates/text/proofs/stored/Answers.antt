-- `stored` meets its contract: no bit stands behind the text. Rests on InPlace.
use Rattle.std.proofs.Common.{ℕ, eqb, drop, rules, take_all, length-drop, ap, ◌∙◌, arith}
use Rattle.std.proofs.lemmas.Bool.{lt-leb}
use Rattle.std.proofs.lemmas.Iterator.{YieldsList-from_slice}
use Rattle.std.proofs.lemmas.Iterator.Consumers.{fold_from_yields_List}
use Rattle.std.specs.Int.Bits.{bit_or}
use Rattle.prelude.specs.Texts.{is_text}
use Rattle.text.specs.Laws.InPlace.{stored_text}
use Rattle.text.proofs.stored.Goals as goal

pub returns-then-n-le32 : goal.returns-then-n-le32
returns-then-n-le32 c =
    ap (λ (n : ℕ). eqb n 0) (fold_from_yields_List _ bit_or _ _ c.fold.ensures.ran (YieldsList-from_slice (drop c.args.len c.args.bytes.now) (c.iter.ensures.rest ∙ take_all _ _ (simp length-drop (omega arith)) ∙ ap (λ (n : ℕ). drop n c.args.bytes.now) c.from-n.ensures)) (λ a x b q k. search rules))
    ∙ stored_text c.args.bytes.now c.args.len c.requires (omega arith)

pub returns-else-n-le32 : goal.returns-else-n-le32
unfolding is_text
returns-else-n-le32 c = rw (c.from-n.ensures, lt-leb c.args.len 32 (omega arith))
