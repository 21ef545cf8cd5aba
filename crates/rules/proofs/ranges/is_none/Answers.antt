-- `is_none` meets its contract: the four bytes of the word, one by one. Rests on prelude's Span.
use Rattle.std.specs.Prelude.{◌-◌, ◌<◌, ◌&&◌}
use Rattle.std.specs.List.{starts_with}
use Rattle.std.proofs.Common.{◌≡◌, ◌≤◌, ℕ, List, [], ◌∷◌, eqb, get_or, length, sym, ◌∙◌, arith, eq-eqb}
use Rattle.std.proofs.lemmas.Grind.{common_steps}
use Rattle.prelude.specs.Span.{span}
use Rattle.prelude.specs.Laws.Span.{get_span, length_span}
use Rattle.format.specs.Codes.{is_none}
use Rattle.rules.proofs.ranges.is_none.Goals as goal

-- the word at the start of a list
word : (d : List ℕ) → 4 ≤ length d → starts_with eqb d (78 ∷ 79 ∷ 78 ∷ 69 ∷ []) ≡ eqb (get_or d 0 0) 78 && (eqb (get_or d 1 0) 79 && (eqb (get_or d 2 0) 78 && eqb (get_or d 3 0) 69))
word [] h = absurd (omega arith)
word (x ∷ []) h = absurd (omega arith)
word (x ∷ y ∷ []) h = absurd (omega arith)
word (x ∷ y ∷ z ∷ []) h = absurd (omega arith)
word (x ∷ y ∷ z ∷ w ∷ d) h = grind (arith, common_steps)

-- a byte of what follows an index, and of the text there
byte : (s : List ℕ) (at n k : ℕ) → k < n → k < 32 → get_or (span s at n) k 0 ≡ get_or (span s at 32) k 0
byte s at n k h l = get_span s at n k h ∙ sym (get_span s at 32 k l)

pub returns-then-book-at-eq4 : goal.returns-then-book-at-eq4
unfolding is_none
returns-then-book-at-eq4 c =
    let s = c.args.book.now in
    let at = c.args.at in
    let n = 65536 - at in
    let long : 4 ≤ length (span s at n) = omega (arith, length_span s at n (omega arith)) in
    let v : c.starts_with.result ≡ starts_with eqb (span s at n) (78 ∷ 79 ∷ 78 ∷ 69 ∷ []) = unfold span in c.starts_with.ensures.value in
    rw (eq-eqb _ _ c.if-book-at-eq4.true, ← byte s at n 0 (omega arith) (omega arith), ← byte s at n 1 (omega arith) (omega arith), ← byte s at n 2 (omega arith) (omega arith), ← byte s at n 3 (omega arith) (omega arith))
    (v ∙ word (span s at n) long)
