-- Laws of spans and splices: their lengths, what is read of what was written, and how code writes. Rests on Span.
use Rattle.std.specs.Prelude.{◌≡◌, refl, List, [], ◌∷◌, ◌++◌, ℕ, zero, suc, ◌+◌, ◌-◌, ◌≤◌, ◌<◌, length, take, drop, get_or, set, replicate}
use Rattle.std.proofs.Common.{sym, ap, ◌∙◌, append_assoc, append-nil, add-zero, add-one, arith, length-append, length-take, length-drop, take-append-drop, drop_of_length-le, take_at, drop_at, drop-drop, length-take-le, take_all, drop-cons, get_or-drop, get_or-take, take-suc, take-suc-set, take-take, take-add, ext_get_or, get_or-append-add}
use Rattle.std.proofs.Math.Decide.{dec_lt}
use Rattle.std.proofs.Math.ListN.{get_or-append}
use Rattle.std.proofs.Math.Seq.{drop-append-add, paste}
use Rattle.std.proofs.lemmas.List.Edits.{paste_more}
use Rattle.std.proofs.lemmas.List.{length-replicate, get_or-replicate, take-append-le, drop-append-le, set_split}
use Rattle.prelude.specs.Span.{span, splice}

-- ---- spans

pub length_span : (s : List ℕ) (at n : ℕ) → at + n ≤ length s → length (span s at n) ≡ n
unfolding span
length_span s at n h = simp (length-take, length-drop) (omega arith)

pub span_none : (s : List ℕ) (at : ℕ) → span s at 0 ≡ []
unfolding span
span_none s at = refl

pub span_whole : (s : List ℕ) → span s 0 (length s) ≡ s
unfolding span
span_whole s = take_all (length s) s (omega arith)

pub span_cons : (s : List ℕ) (at n : ℕ) → at < length s → span s at (suc n) ≡ get_or s at 0 ∷ span s (suc at) n
unfolding span
span_cons s at n h = ap (take (suc n)) (drop-cons s at 0 h)

pub get_span : (s : List ℕ) (at n k : ℕ) → k < n → get_or (span s at n) k 0 ≡ get_or s (at + k) 0
unfolding span
get_span s at n k h = get_or-take n (drop at s) k 0 h ∙ get_or-drop at s k 0

pub span_byte : (s : List ℕ) (k x : ℕ) → span s k 1 ≡ x ∷ [] → get_or s k 0 ≡ x
span_byte s k x e =
    ap (λ (n : ℕ). get_or s n 0) (sym (add-zero k)) ∙ sym (get_span s k 1 0 (omega arith)) ∙ ap (λ (l : List ℕ). get_or l 0 0) e

take_drop_take : (j n at : ℕ) (s : List ℕ) → j + n ≤ at → take n (drop j (take at s)) ≡ take n (drop j s)
take_drop_take zero zero at s h = refl
take_drop_take zero (suc n) zero s h = absurd (omega arith)
take_drop_take zero (suc n) (suc at) [] h = refl
take_drop_take zero (suc n) (suc at) (x ∷ s) h = ap (λ (r : List ℕ). x ∷ r) (take_drop_take zero n at s (omega arith))
take_drop_take (suc j) n zero s h = absurd (omega arith)
take_drop_take (suc j) n (suc at) [] h = refl
take_drop_take (suc j) n (suc at) (x ∷ s) h = take_drop_take j n at s (omega arith)

pub span_span : (s : List ℕ) (at m k n : ℕ) → k + n ≤ m → span (span s at m) k n ≡ span s (at + k) n
unfolding span
span_span s at m k n h = take_drop_take k n m (drop at s) h ∙ ap (take n) (drop-drop k at s)

-- one span behind the other
pub span_join : (s : List ℕ) (a n k : ℕ) → span s a n ++ span s (a + n) k ≡ span s a (n + k)
unfolding span
span_join s a n k = ap (λ (r : List ℕ). take n (drop a s) ++ take k r) (sym (drop-drop n a s)) ∙ sym (take-add n k (drop a s))

drop_take : (k n : ℕ) (l : List ℕ) → drop k (take n l) ≡ take (n - k) (drop k l)
drop_take zero n l = let e : n - 0 ≡ n = omega arith in rw e refl
drop_take (suc k) zero l = let e : 0 - suc k ≡ 0 = omega arith in rw e refl
drop_take (suc k) (suc n) [] = nil (suc n - suc k)
  where
    nil : (j : ℕ) → ◌≡◌ {A = List ℕ} [] (take j [])
    nil zero = refl
    nil (suc j) = refl
drop_take (suc k) (suc n) (x ∷ l) = let e : suc n - suc k ≡ n - k = omega arith in rw e (drop_take k n l)

-- what is left of a span
pub span_drop : (s : List ℕ) (at n k : ℕ) → drop k (span s at n) ≡ span s (at + k) (n - k)
unfolding span
span_drop s at n k = drop_take k n (drop at s) ∙ ap (take (n - k)) (drop-drop k at s)

-- ---- splices

pub length_splice : (s : List ℕ) (at : ℕ) (w : List ℕ) → at + length w ≤ length s → length (splice s at w) ≡ length s
unfolding splice
length_splice s at w h = simp (length-append, length-take, length-drop) (omega arith)

pub splice_nil : (s : List ℕ) (at : ℕ) → splice s at [] ≡ s
unfolding splice
splice_nil s at = take-append-drop at s

pub splice_whole : (s w : List ℕ) → length w ≡ length s → splice s 0 w ≡ w
unfolding splice
splice_whole s w e = ap (λ (r : List ℕ). w ++ r) (drop_of_length-le s {i = length w} (omega arith)) ∙ append-nil w

-- what was written is read
pub span_splice_same : (s : List ℕ) (at : ℕ) (w : List ℕ) (n : ℕ) → length w ≡ n → at + n ≤ length s → span (splice s at w) at n ≡ w
unfolding span splice
span_splice_same s at w n e h =
    ap (take n) (drop_at (take at s) (w ++ drop (length w) (drop at s)) at (length-take-le at s (omega arith)))
    ∙ take_at w (drop (length w) (drop at s)) n e

-- what stands before and behind is as it was
pub span_splice_before : (s : List ℕ) (at : ℕ) (w : List ℕ) (j n : ℕ) → j + n ≤ at → at ≤ length s → span (splice s at w) j n ≡ span s j n
unfolding span splice
span_splice_before s at w j n h k =
    let l : length (take at s) ≡ at = length-take-le at s k in
    ap (take n) (drop-append-le j (take at s) (w ++ drop (length w) (drop at s)) (omega arith))
    ∙ take-append-le n (drop j (take at s)) (w ++ drop (length w) (drop at s)) (simp length-drop (omega arith))
    ∙ take_drop_take j n at s h

pub span_splice_after : (s : List ℕ) (at : ℕ) (w : List ℕ) (j n : ℕ) → at + length w ≤ j → at + length w ≤ length s → span (splice s at w) j n ≡ span s j n
unfolding span splice
span_splice_after s at w j n h k =
    let l : length (take at s) ≡ at = length-take-le at s (omega arith) in
    let d : ℕ = j - (at + length w) in
    let e : j ≡ length (take at s ++ w) + d = simp length-append (omega arith) in
    let back : at + (length w + d) ≡ j = omega arith in
    ap (take n)
    (ap (λ (r : List ℕ). drop j r) (sym (append_assoc (take at s) w (drop (length w) (drop at s))))
    ∙ ap (λ (m : ℕ). drop m ((take at s ++ w) ++ drop (length w) (drop at s))) e
    ∙ drop-append-add (take at s ++ w) (drop (length w) (drop at s)) d
    ∙ drop-drop d (length w) (drop at s)
    ∙ drop-drop (length w + d) at s
    ∙ ap (λ (m : ℕ). drop m s) back)

-- written one behind the other is written at once
pub splice_append : (s : List ℕ) (at : ℕ) (p q : List ℕ) → at + length p ≤ length s
    → splice (splice s at p) (at + length p) q ≡ splice s at (p ++ q)
unfolding splice
splice_append s at p q h =
    let l : length (take at s) ≡ at = length-take-le at s (omega arith) in
    let m : length (take at s ++ p) ≡ at + length p = simp length-append (omega arith) in
    let front : List ℕ = take at s ++ p in
    let rest : List ℕ = drop (length p) (drop at s) in
    let e : take at s ++ (p ++ rest) ≡ front ++ rest = sym (append_assoc (take at s) p rest) in
    ap (λ (r : List ℕ). take (at + length p) r ++ (q ++ drop (length q) (drop (at + length p) r))) e
    ∙ ap (λ (r : List ℕ). r ++ (q ++ drop (length q) (drop (at + length p) (front ++ rest)))) (take_at front rest (at + length p) m)
    ∙ ap (λ (r : List ℕ). front ++ (q ++ drop (length q) r)) (drop_at front rest (at + length p) m)
    ∙ append_assoc (take at s) p (q ++ drop (length q) rest)
    ∙ ap (λ (r : List ℕ). take at s ++ r) (sym (append_assoc p q (drop (length q) rest)))
    ∙ ap (λ (r : List ℕ). take at s ++ ((p ++ q) ++ r)) (drop-drop (length q) (length p) (drop at s) ∙ ap (λ (n : ℕ). drop n (drop at s)) (sym (length-append p q)))

-- written before what was written is written at once
pub splice_before : (s : List ℕ) (at : ℕ) (h x : List ℕ) → at + length h ≤ length s
    → splice (splice s (at + length h) x) at h ≡ splice s at (h ++ x)
unfolding splice
splice_before s at h x k =
    let n = at + length h in
    let r = x ++ drop (length x) (drop n s) in
    let l : length (take n s) ≡ n = length-take-le n s k in
    let t : take at (take n s ++ r) ≡ take at s = take-append-le at (take n s) r (omega arith) ∙ take-take at n s (omega arith) in
    let d : drop (length h) (drop at (take n s ++ r)) ≡ r = drop-drop (length h) at (take n s ++ r) ∙ drop_at (take n s) r n l in
    let e : drop (length x) (drop n s) ≡ drop (length (h ++ x)) (drop at s) =
    drop-drop (length x) n s
    ∙ ap (λ (m : ℕ). drop m s) (let z : n + length x ≡ at + length (h ++ x) = rw length-append (omega arith) in z)
    ∙ sym (drop-drop (length (h ++ x)) at s) in
    rw (t, d, e) (ap (λ (y : List ℕ). take at s ++ y) (sym (append_assoc h x (drop (length (h ++ x)) (drop at s)))))

-- the bytes written over zeros are the bytes with zeros behind them
pub padded : (n : ℕ) (w : List ℕ) → length w ≤ n → splice (replicate n 0) 0 w ≡ take n (w ++ replicate n 0)
unfolding splice
padded n w h =
    ext_get_or 0 (w ++ drop (length w) (replicate n 0)) (take n (w ++ replicate n 0))
    (simp (length-append, length-take, length-drop, length-append, length-replicate) (omega arith))
    (λ k j. let l : k < n = omega (arith, simp (length-append, length-drop, length-replicate) at j) in at k l (dec_lt k (length w)))
  where
    at : (k : ℕ) → k < n → Dec (k < length w) → get_or (w ++ drop (length w) (replicate n 0)) k 0 ≡ get_or (take n (w ++ replicate n 0)) k 0
    at k l (yes p) =
        get_or-append w (drop (length w) (replicate n 0)) 0 k p
        ∙ sym (get_or-take n (w ++ replicate n 0) k 0 l ∙ get_or-append w (replicate n 0) 0 k p)
    at k l (no p) =
        let d : ℕ = k - length w in
        let e : k ≡ length w + d = omega arith in
        ap (λ (i : ℕ). get_or (w ++ drop (length w) (replicate n 0)) i 0) e
        ∙ get_or-append-add w (drop (length w) (replicate n 0)) d 0
        ∙ get_or-drop (length w) (replicate n 0) d 0
        ∙ get_or-replicate n (length w + d) 0 0 (omega arith)
        ∙ sym (get_or-take n (w ++ replicate n 0) k 0 l
        ∙ ap (λ (i : ℕ). get_or (w ++ replicate n 0) i 0) e
        ∙ get_or-append-add w (replicate n 0) d 0
        ∙ get_or-replicate n d 0 0 (omega arith))

-- ---- how code writes: a byte set, a loop that copies, a part that was lent

pub set_splice : (s : List ℕ) (at x : ℕ) → at < length s → set s at x ≡ splice s at (x ∷ [])
unfolding splice
set_splice s at x h = set_split s at x h ∙ ap (λ (r : List ℕ). take at s ++ (x ∷ r)) (sym (drop-drop 1 at s ∙ ap (λ (n : ℕ). drop n s) (add-one at)))

-- one turn of a loop that copies w into d at index at
pub copy_more : (d w : List ℕ) (at j : ℕ) → at + j < length d → j < length w
    → set (paste d at w j) (at + j) (get_or w j 0) ≡ paste d at w (j + 1)
copy_more d w at j = paste_more d at w j 0

-- the loop has copied n
pub copy_take : (d w : List ℕ) (at n : ℕ) → n ≤ length w → paste d at w n ≡ splice d at (take n w)
unfolding splice
copy_take d w at n h =
    append_assoc (take at d) (take n w) (drop (at + n) d)
    ∙ ap (λ (r : List ℕ). take at d ++ (take n w ++ r))
    (sym (drop-drop (length (take n w)) at d ∙ ap (λ (m : ℕ). drop (at + m) d) (length-take-le n w h)))

pub copy_all : (d w : List ℕ) (at n : ℕ) → n ≡ length w → paste d at w n ≡ splice d at w
copy_all d w at n e = copy_take d w at n (omega arith) ∙ ap (splice d at) (take_all n w (omega arith))

-- one turn of a loop that copies s from index from into the front of d
pub head_more : (d s : List ℕ) (from j : ℕ) → j < length d → from + j < length s → take j d ≡ span s from j
    → take (j + 1) (set d j (get_or s (from + j) 0)) ≡ span s from (j + 1)
unfolding span
head_more d s from j hd hs e =
    rw add-one
    (take-suc-set d j (get_or s (from + j) 0) hd
    ∙ ap (λ (r : List ℕ). r ++ (get_or s (from + j) 0 ∷ [])) e
    ∙ ap (λ (x : ℕ). take j (drop from s) ++ (x ∷ [])) (sym (get_or-drop from s j 0))
    ∙ sym (take-suc (drop from s) j 0 (simp length-drop (omega arith))))

-- what a part that was lent is, and what the whole is when the part is back
pub part_span : (s : List ℕ) (at n : ℕ) → take ((at + n) - at) (drop at s) ≡ span s at n
unfolding span
part_span s at n = let e : (at + n) - at ≡ n = omega arith in rw e

pub part_splice : (s w : List ℕ) (at n : ℕ) → length w ≡ n → take at s ++ (w ++ drop ((at + n) - at) (drop at s)) ≡ splice s at w
unfolding splice
part_splice s w at n h = let e : (at + n) - at ≡ length w = omega arith in rw e
