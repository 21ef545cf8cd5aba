-- Laws of a row of pieces: one for every field. Rests on Pieces and the laws of Span.
use Rattle.std.specs.Prelude.{◌≡◌, refl, List, [], ◌∷◌, ◌++◌, ℕ, zero, suc, ◌+◌, ◌≤◌, length, take, drop, get_or}
use Rattle.std.specs.List.{concat}
use Rattle.std.proofs.Common.{sym, ap, ◌∙◌, arith, length-append, take_at}
use Rattle.std.proofs.Math.Seq.{drop-append-add}
use Rattle.prelude.specs.Span.{span, splice}
use Rattle.prelude.specs.Laws.Span.{length_splice, splice_nil, splice_append}
use Rattle.prelude.specs.Pieces.{total, Sized, writes, offset}

pub length_joined : (ws : List ℕ) (ps : List (List ℕ)) → Sized ws ps → length (concat ps) ≡ total ws
length_joined [] [] z = refl
length_joined [] (p ∷ ps) z = absurd z
length_joined (w ∷ ws) [] z = absurd z
length_joined (w ∷ ws) (p ∷ ps) z = let e : length (concat ps) ≡ total ws = length_joined ws ps z.1 in simp length-append (omega (arith, z.0))

pub writes_joined : (ws : List ℕ) (ps : List (List ℕ)) (s : List ℕ) (at : ℕ) → Sized ws ps → at + total ws ≤ length s
    → writes s at ws ps ≡ splice s at (concat ps)
writes_joined [] [] s at z h = sym (splice_nil s at)
writes_joined [] (p ∷ ps) s at z h = absurd z
writes_joined (w ∷ ws) [] s at z h = absurd z
writes_joined (w ∷ ws) (p ∷ ps) s at z h =
    let e : length p ≡ w = z.0 in
    let k : length (splice s at p) ≡ length s = length_splice s at p (omega arith) in
    writes_joined ws ps (splice s at p) (at + w) z.1 (omega arith)
    ∙ ap (λ (n : ℕ). splice (splice s at p) (at + n) (concat ps)) (sym e)
    ∙ splice_append s at p (concat ps) (omega arith)

-- piece k is found at its offset
pub piece_at : (ws : List ℕ) (ps : List (List ℕ)) (k : ℕ) → Sized ws ps → span (concat ps) (offset ws k) (get_or ws k 0) ≡ get_or ps k []
unfolding span
piece_at [] [] k z = refl
piece_at [] (p ∷ ps) k z = absurd z
piece_at (w ∷ ws) [] k z = absurd z
piece_at (w ∷ ws) (p ∷ ps) zero z = take_at p (concat ps) w z.0
piece_at (w ∷ ws) (p ∷ ps) (suc k) z =
    ap (λ (n : ℕ). take (get_or ws k 0) (drop (n + offset ws k) (p ++ concat ps))) (sym z.0)
    ∙ ap (take (get_or ws k 0)) (drop-append-add p (concat ps) (offset ws k))
    ∙ piece_at ws ps k z.1
