-- Laws by which code adds bytes up and writes a field. Rests on Spelling and Message.
use Rattle.std.specs.Prelude.{ℕ, ◌+◌, ◌≤◌, ◌<◌, ◌≡◌, refl, List, [], ◌∷◌, ◌++◌, length, get_or, take, set}
use Rattle.std.proofs.Common.{ap, ◌∙◌, add-one, arith, length-append, take-suc}
use Rattle.prelude.specs.Span.{splice}
use Rattle.prelude.specs.Laws.Span.{length_splice, splice_append, set_splice}
use Rattle.prelude.specs.Laws.Totals.{total_append}
use Rattle.decimal.specs.Decimal.{digits, decimal}
use Rattle.decimal.specs.Laws.Width.{three}
use Rattle.fix_words.specs.Spelling.{field, piece, spellings}
use Rattle.fix_words.specs.Message.{sum}

-- ---- sums

pub sum_more : (s : List ℕ) (i : ℕ) → i < length s → sum (take (i + 1) s) ≡ sum (take i s) + get_or s i 0
sum_more s i h =
    rw add-one (ap sum (take-suc s i 0 h) ∙ total_append (λ c. c) (take i s) (get_or s i 0 ∷ []) ∙ omega arith)

pub decimal_none : (n : ℕ) → decimal 0 n ≡ digits n
unfolding decimal
decimal_none n = refl

-- ---- a field

pub field_long_lem : (tag : ℕ) (v : List ℕ) → length (spellings (field tag v ∷ [])) ≡ length (decimal 0 tag) + 1 + length v + 1
unfolding spellings piece
field_long_lem tag v =
    length-append (digits tag ++ (61 ∷ v)) (1 ∷ []) ∙ omega (arith, length-append (digits tag) (61 ∷ v), ap length (decimal_none tag))

-- the tag, =, the value, SOH
pub field_put : (s : List ℕ) (at tag : ℕ) (v : List ℕ) (a b : ℕ) → a ≡ at + length (decimal 0 tag) → b ≡ a + 1 + length v
    → at + length (spellings (field tag v ∷ [])) ≤ length s
    → set (splice (set (splice s at (decimal 0 tag)) a 61) (a + 1) v) b 1 ≡ splice s at (spellings (field tag v ∷ []))
unfolding spellings piece
field_put s at tag v a b e f h =
    let d : List ℕ = decimal 0 tag in
    let l : length (spellings (field tag v ∷ [])) ≡ length d + 1 + length v + 1 = field_long_lem tag v in
    let t : splice (set (splice s at d) (at + length d) 61) (at + length d + 1) v ≡ splice s at (d ++ (61 ∷ v)) = three s at d 61 v (omega arith) in
    let n : length (d ++ (61 ∷ v)) ≡ length d + 1 + length v = length-append d (61 ∷ v) ∙ omega arith in
    let z : b ≡ at + length (d ++ (61 ∷ v)) = omega arith in
    let k : length (splice s at (d ++ (61 ∷ v))) ≡ length s = length_splice s at (d ++ (61 ∷ v)) (omega arith) in
    ap (λ (x : ℕ). set (splice (set (splice s at d) x 61) (x + 1) v) b 1) e
    ∙ ap (λ (t : List ℕ). set t b 1) t
    ∙ ap (λ (x : ℕ). set (splice s at (d ++ (61 ∷ v))) x 1) z
    ∙ set_splice (splice s at (d ++ (61 ∷ v))) (at + length (d ++ (61 ∷ v))) 1 (omega arith)
    ∙ splice_append s at (d ++ (61 ∷ v)) (1 ∷ []) (omega arith)
    ∙ ap (λ (g : List ℕ). splice s at ((g ++ (61 ∷ v)) ++ (1 ∷ []))) (decimal_none tag)
