-- Many lines: line i stands at 81 · i, and a page is written line by line. Rests on Line.
use Rattle.std.specs.Prelude.{ℕ, zero, suc, ◌+◌, ◌*◌, ◌≤◌, ◌<◌, ◌≡◌, refl, List, [], ◌∷◌, ◌++◌, map, length, get_or, take, drop}
use Rattle.std.proofs.Common.{sym, ap, ◌∙◌, append-nil, append_assoc, add-one, arith, length-append, take_at, take-suc, length-take-le}
use Rattle.std.proofs.Math.Seq.{drop-append-add}
use Rattle.std.specs.List.{concat}
use Rattle.prelude.specs.Span.{span, splice}
use Rattle.prelude.specs.Laws.Span.{splice_append}
use Rattle.page.specs.Page.{Line, line_bytes, page_bytes}
use Rattle.page.specs.Laws.Line.{Fine, length_line}

-- every line's quantities are in range; `d` is read past the end
abbrev pub AllFine : Line → List Line → Type 0
AllFine d ls = (k : ℕ) → k < length ls → Fine (get_or ls k d)

pub length_page : (d : Line) (ls : List Line) → AllFine d ls → length (page_bytes ls) ≡ 81 * length ls
unfolding page_bytes
length_page d [] f = refl
length_page d (l ∷ ls) f =
    let e : length (concat (map line_bytes ls)) ≡ 81 * length ls = length_page d ls (λ k h. f (suc k) (omega arith)) in
    let n : length (line_bytes l) ≡ 81 = length_line l (f 0 (omega arith)) in
    length-append (line_bytes l) (concat (map line_bytes ls)) ∙ omega arith

-- LINE i of the page
pub line_at : (d : Line) (ls : List Line) → AllFine d ls → (i : ℕ) → i < length ls → span (page_bytes ls) (81 * i) 81 ≡ line_bytes (get_or ls i d)
unfolding page_bytes span
line_at d [] f i h = absurd (omega arith)
line_at d (l ∷ ls) f zero h = take_at (line_bytes l) (concat (map line_bytes ls)) 81 (length_line l (f 0 (omega arith)))
line_at d (l ∷ ls) f (suc i) h =
    let n : length (line_bytes l) ≡ 81 = length_line l (f 0 (omega arith)) in
    let e : 81 * suc i ≡ length (line_bytes l) + 81 * i = omega arith in
    ap (λ (k : ℕ). take 81 (drop k (line_bytes l ++ concat (map line_bytes ls)))) e
    ∙ ap (take 81) (drop-append-add (line_bytes l) (concat (map line_bytes ls)) (81 * i))
    ∙ line_at d ls (λ k g. f (suc k) (omega arith)) i (omega arith)

-- ---- one line more

page_more : (ls : List Line) (l : Line) → page_bytes (ls ++ (l ∷ [])) ≡ page_bytes ls ++ line_bytes l
unfolding page_bytes
page_more [] l = append-nil (line_bytes l)
page_more (x ∷ ls) l = ap (λ (s : List ℕ). line_bytes x ++ s) (page_more ls l) ∙ sym (append_assoc (line_bytes x) (concat (map line_bytes ls)) (line_bytes l))

fine_take : (d : Line) (ls : List Line) (i : ℕ) → AllFine d ls → AllFine d (take i ls)
fine_take d ls zero f k h = absurd (omega arith)
fine_take d [] (suc i) f k h = absurd (omega arith)
fine_take d (l ∷ ls) (suc i) f zero h = f 0 (omega arith)
fine_take d (l ∷ ls) (suc i) f (suc k) h = fine_take d ls i (λ j g. f (suc j) (omega arith)) k (omega arith)

pub length_some : (d : Line) (ls : List Line) (i : ℕ) → AllFine d ls → i ≤ length ls → length (page_bytes (take i ls)) ≡ 81 * i
length_some d ls i f h = length_page d (take i ls) (fine_take d ls i f) ∙ ap (λ (n : ℕ). 81 * n) (length-take-le i ls h)

-- line i written behind those before it
pub page_put : (s : List ℕ) (d : Line) (ls : List Line) (i : ℕ) → AllFine d ls → i < length ls → 81 * length ls ≤ length s
    → splice (splice s 0 (page_bytes (take i ls))) (81 * i) (line_bytes (get_or ls i d)) ≡ splice s 0 (page_bytes (take (i + 1) ls))
page_put s d ls i f h r =
    let n : length (page_bytes (take i ls)) ≡ 81 * i = length_some d ls i f (omega arith) in
    let m : 81 * i ≡ 0 + length (page_bytes (take i ls)) = omega arith in
    ap (λ (k : ℕ). splice (splice s 0 (page_bytes (take i ls))) k (line_bytes (get_or ls i d))) m
    ∙ splice_append s 0 (page_bytes (take i ls)) (line_bytes (get_or ls i d)) (omega arith)
    ∙ ap (splice s 0) (sym (ap (λ (k : ℕ). page_bytes (take k ls)) (add-one i) ∙ ap page_bytes (take-suc ls i d h) ∙ page_more (take i ls) (get_or ls i d)))
