-- Many lines: line i stands at 27 · i, and lines are written and read one behind the other. Rests on Line.
use Rattle.std.specs.Prelude.{ℕ, zero, suc, ◌+◌, ◌*◌, ◌≤◌, ◌<◌, ◌≡◌, refl, List, [], ◌∷◌, ◌++◌, map, length, get_or, take, drop}
use Rattle.std.proofs.Common.{sym, ap, ◌∙◌, append-nil, append_assoc, zero-add, arith, length-append, take_at, ext_get_or}
use Rattle.std.proofs.Math.Seq.{drop-append-add}
use Rattle.std.specs.List.{concat}
use Rattle.prelude.specs.Lists.{list_below}
use Rattle.prelude.specs.Laws.Lists.{length_list, get_list}
use Rattle.prelude.specs.Span.{span, splice}
use Rattle.prelude.specs.Laws.Span.{splice_append, span_splice_same, span_span}
use Rattle.prelude.specs.Totals.{Every, every[], every∷}
use Rattle.prelude.specs.Laws.Totals.{every_map}
use Rattle.net.specs.Net.{Position, line_bytes, net_bytes, read_line, read_lines}
use Rattle.net.specs.Laws.Line.{length_line, Fits, line_read}

abbrev pub Narrow : Position → Type 0
Narrow p = p.symbol.len ≤ 16

pub every_append : {A : Type 0} {P : A → Type 0} {s t : List A} → Every P s → Every P t → Every P (s ++ t)
every_append every[] q = q
every_append (every∷ p ps) q = every∷ p (every_append ps q)

pub length_net : {ps : List Position} → Every Narrow ps → length (net_bytes ps) ≡ 27 * length ps
unfolding net_bytes
length_net every[] = refl
length_net (every∷ {x} {xs} p ps) =
    let e : length (concat (map line_bytes xs)) ≡ 27 * length xs = length_net ps in
    let n : length (line_bytes x) ≡ 27 = length_line x p in
    length-append (line_bytes x) (concat (map line_bytes xs)) ∙ omega arith

-- LINE i
pub line_at : {ps : List Position} → Every Narrow ps → (d : Position) (i : ℕ) → i < length ps → span (net_bytes ps) (27 * i) 27 ≡ line_bytes (get_or ps i d)
unfolding net_bytes span
line_at every[] d i h = absurd (omega arith)
line_at (every∷ {x} {xs} p ps) d zero h = take_at (line_bytes x) (concat (map line_bytes xs)) 27 (length_line x p)
line_at (every∷ {x} {xs} p ps) d (suc i) h =
    let n : length (line_bytes x) ≡ 27 = length_line x p in
    let e : 27 * suc i ≡ length (line_bytes x) + 27 * i = omega arith in
    ap (λ (k : ℕ). take 27 (drop k (line_bytes x ++ concat (map line_bytes xs)))) e
    ∙ ap (take 27) (drop-append-add (line_bytes x) (concat (map line_bytes xs)) (27 * i))
    ∙ line_at ps d i (omega arith)

-- ---- one line more

net_more : (ps : List Position) (p : Position) → net_bytes (ps ++ (p ∷ [])) ≡ net_bytes ps ++ line_bytes p
unfolding net_bytes
net_more [] p = append-nil (line_bytes p)
net_more (x ∷ ps) p = ap (λ (s : List ℕ). line_bytes x ++ s) (net_more ps p) ∙ sym (append_assoc (line_bytes x) (concat (map line_bytes ps)) (line_bytes p))

pub net_put : (s : List ℕ) (ps : List Position) (p : Position) → Every Narrow ps → 27 * length ps ≤ length s
    → splice (splice s 0 (net_bytes ps)) (27 * length ps) (line_bytes p) ≡ splice s 0 (net_bytes (ps ++ (p ∷ [])))
net_put s ps p f r =
    let n : length (net_bytes ps) ≡ 27 * length ps = length_net f in
    let m : 27 * length ps ≡ 0 + length (net_bytes ps) = omega arith in
    ap (λ (k : ℕ). splice (splice s 0 (net_bytes ps)) k (line_bytes p)) m
    ∙ splice_append s 0 (net_bytes ps) (line_bytes p) (omega arith)
    ∙ ap (splice s 0) (sym (net_more ps p))

-- ---- lines read

get_every : {A : Type 0} {P : A → Type 0} {s : List A} → Every P s → (d : A) (i : ℕ) → i < length s → P (get_or s i d)
get_every every[] d i h = absurd (omega arith)
get_every (every∷ p ps) d zero h = p
get_every (every∷ p ps) d (suc i) h = get_every ps d i (omega arith)

-- THE LAW: the lines at the front of a buffer are read as the positions that they were written of
pub lines_read : (s : List ℕ) (d : Position) {ps : List Position} → Every Fits ps → 27 * length ps ≤ length s
    → read_lines (length ps) (splice s 0 (net_bytes ps)) ≡ ps
unfolding read_lines
lines_read s d {ps} f room =
    let narrow : Every Narrow ps = every_map (λ p q. q.len) f in
    let n : length (net_bytes ps) ≡ 27 * length ps = length_net narrow in
    let read : ℕ → Position = λ i. read_line (span (splice s 0 (net_bytes ps)) (27 * i) 27) in
    ext_get_or d (list_below read (length ps)) ps (length_list read (length ps))
    (λ i h.
    let k : i < length ps = omega (arith, length_list read (length ps)) in
    get_list read d (length ps) i k
    ∙ ap read_line (ap (λ (j : ℕ). span (splice s 0 (net_bytes ps)) j 27) (sym (zero-add (27 * i)))
    ∙ sym (span_span (splice s 0 (net_bytes ps)) 0 (27 * length ps) (27 * i) 27 (omega arith))
    ∙ ap (λ (l : List ℕ). span l (27 * i) 27) (span_splice_same s 0 (net_bytes ps) (27 * length ps) n (omega arith))
    ∙ line_at narrow d i k)
    ∙ line_read (get_or ps i d) (get_every f d i k))
