-- Splices of a buffer in either order: those beside each other commute, one by one and list by list. Rests on prelude's Span.
use Rattle.std.proofs.Common.{ℕ, ◌+◌, ◌-◌, ◌≤◌, ◌<◌, arith, ◌≡◌, refl, sym, ap, ◌∙◌, ◌⊎◌, ⊎_elim, List, [], ◌∷◌, ◌++◌, length, take, drop, length-drop, take-append-drop, take_at, drop_at, length-take-le}
use Rattle.prelude.specs.Span.{span, splice}
use Rattle.prelude.specs.Laws.Span.{length_span, length_splice, span_splice_same, span_splice_after, splice_append, splice_before}
use Rattle.prelude.specs.Totals.{Every, every[], every∷}

-- what stands there, written again
splice_self : (s : List ℕ) (at n : ℕ) → at + n ≤ length s → splice s at (span s at n) ≡ s
unfolding span splice
splice_self s at n h =
    let l : length (take n (drop at s)) ≡ n = length-take-le n (drop at s) (simp length-drop (omega arith)) in
    ap (λ (k : ℕ). take at s ++ (take n (drop at s) ++ drop k (drop at s))) l
    ∙ ap (λ (r : List ℕ). take at s ++ r) (take-append-drop n (drop at s))
    ∙ take-append-drop at s

-- with what stands between a and b, a write at b is one at a
splice_from : (s v : List ℕ) (a n : ℕ) → a + n ≤ length s → splice s (a + n) v ≡ splice s a (span s a n ++ v)
splice_from s v a n h =
    let l : length (span s a n) ≡ n = length_span s a n h in
    sym (ap (λ (r : List ℕ). splice r (a + n) v) (splice_self s a n h))
    ∙ ap (λ (k : ℕ). splice (splice s a (span s a n)) (a + k) v) (sym l)
    ∙ splice_append s a (span s a n) v (omega arith)

-- one before the other
splice_comm : (s : List ℕ) (a : ℕ) (w : List ℕ) (b : ℕ) (v : List ℕ) → a + length w ≤ b → b + length v ≤ length s → splice (splice s a w) b v ≡ splice (splice s b v) a w
splice_comm s a w b v h k =
    let n : ℕ = b - (a + length w) in
    let e : b ≡ a + length w + n = omega arith in
    let l : length (splice s a w) ≡ length s = length_splice s a w (omega arith) in
    let m : List ℕ = span s (a + length w) n in
    let one : splice (splice s a w) b v ≡ splice s a (w ++ (m ++ v)) =
    ap (λ (x : ℕ). splice (splice s a w) x v) e
    ∙ splice_from (splice s a w) v (a + length w) n (omega arith)
    ∙ ap (λ (r : List ℕ). splice (splice s a w) (a + length w) (r ++ v)) (span_splice_after s a w (a + length w) n (omega arith) (omega arith))
    ∙ splice_append s a w (m ++ v) (omega arith) in
    let two : splice (splice s b v) a w ≡ splice s a (w ++ (m ++ v)) =
    ap (λ (x : ℕ). splice (splice s x v) a w) e
    ∙ ap (λ (r : List ℕ). splice r a w) (splice_from s v (a + length w) n (omega arith))
    ∙ splice_before s a w (m ++ v) (omega arith) in
    one ∙ sym two

-- written again at the same place
splice_over : (s : List ℕ) (at : ℕ) (w v : List ℕ) → length w ≡ length v → at + length w ≤ length s → splice (splice s at w) at v ≡ splice s at v
unfolding splice
splice_over s at w v e h =
    let l : length (take at s) ≡ at = length-take-le at s (omega arith) in
    let rest : List ℕ = drop (length w) (drop at s) in
    ap (λ (r : List ℕ). r ++ (v ++ drop (length v) (drop at (take at s ++ (w ++ rest))))) (take_at (take at s) (w ++ rest) at l)
    ∙ ap (λ (r : List ℕ). take at s ++ (v ++ drop (length v) r)) (drop_at (take at s) (w ++ rest) at l)
    ∙ ap (λ (r : List ℕ). take at s ++ (v ++ r)) (drop_at w rest (length v) e)
    ∙ ap (λ (n : ℕ). take at s ++ (v ++ drop n (drop at s))) e

splice_parts : (s : List ℕ) (at : ℕ) (w : List ℕ) → splice s at w ≡ take at s ++ (w ++ drop (length w) (drop at s))
unfolding splice
splice_parts s at w = refl

-- written within what was written is written at once
pub splice_within : (s w v : List ℕ) (at o : ℕ) → at + length w ≤ length s → o + length v ≤ length w → splice (splice s at w) (at + o) v ≡ splice s at (splice w o v)
splice_within s w v at o h k =
    let n : ℕ = length v in
    let a : ℕ = at + o in
    let p : List ℕ = take o w in
    let m : List ℕ = span w o n in
    let r : List ℕ = drop n (drop o w) in
    let lp : length p ≡ o = length-take-le o w (omega arith) in
    let lm : length m ≡ n = length_span w o n k in
    let lr : length r ≡ length w - o - n = simp length-drop (omega arith) in
    let whole : w ≡ p ++ (m ++ r) = sym (splice_self w o n k) ∙ splice_parts w o m ∙ ap (λ (j : ℕ). take o w ++ (m ++ drop j (drop o w))) lm in
    let t : List ℕ = splice s at p in
    let lt : length t ≡ length s = length_splice s at p (omega arith) in
    let lx : length (splice t a m) ≡ length t = length_splice t a m (omega arith) in
    let parts : (x : List ℕ) → length x ≡ n → splice s at (p ++ (x ++ r)) ≡ splice (splice t a x) (a + n) r = λ x e.
    sym (splice_append s at p (x ++ r) (omega arith))
    ∙ ap (λ (j : ℕ). splice t (at + j) (x ++ r)) lp
    ∙ sym (splice_append t a x r (omega arith))
    ∙ ap (λ (j : ℕ). splice (splice t a x) (a + j) r) e in
    ap (λ (y : List ℕ). splice (splice s at y) a v) whole
    ∙ ap (λ (y : List ℕ). splice y a v) (parts m lm)
    ∙ sym (splice_comm (splice t a m) a v (a + n) r (omega arith) (omega arith))
    ∙ ap (λ (y : List ℕ). splice y (a + n) r) (splice_over t a m v lm (omega arith))
    ∙ sym (parts v refl)
    ∙ ap (splice s at) (sym (splice_parts w o v))

-- ---- lists of writes

pub record Write : Type 0 where
  pub at : ℕ
  pub bytes : List ℕ

abbrev pub write : ℕ → List ℕ → Write
write at w = record { at = at; bytes = w }

abbrev pub ends : Write → ℕ
ends w = w.at + length w.bytes

abbrev pub put : List ℕ → Write → List ℕ
put s w = splice s w.at w.bytes

abbrev pub put_all : List ℕ → List Write → List ℕ
put_all s [] = s
put_all s (w ∷ ws) = put_all (put s w) ws

-- within n bytes; beside each other
abbrev pub Inside : ℕ → Write → Type 0
Inside n w = ends w ≤ n

abbrev pub Beside : Write → Write → Type 0
Beside w v = (ends w ≤ v.at) ⊎ (ends v ≤ w.at)

pub apart : (k l : ℕ) → (k ≡ l → ⊥) → (k < l) ⊎ (l < k)
apart k l n = grind arith

pub put_append : (s : List ℕ) (ws vs : List Write) → put_all s (ws ++ vs) ≡ put_all (put_all s ws) vs
put_append s [] vs = refl
put_append s (w ∷ ws) vs = put_append (put s w) ws vs

length_put : (s : List ℕ) (w : Write) → Inside (length s) w → length (put s w) ≡ length s
length_put s w h = length_splice s w.at w.bytes h

pub length_all : (s : List ℕ) (ws : List Write) (n : ℕ) → length s ≡ n → Every (Inside n) ws → length (put_all s ws) ≡ n
length_all s [] n l every[] = l
length_all s (w ∷ ws) n l (every∷ h hs) = length_all (put s w) ws n (length_put s w (omega (arith, h)) ∙ l) hs

pub put_comm : (s : List ℕ) (w v : Write) → Inside (length s) w → Inside (length s) v → Beside w v → put (put s w) v ≡ put (put s v) w
put_comm s w v h k d =
    ⊎_elim (λ p. splice_comm s w.at w.bytes v.at v.bytes p k) (λ p. sym (splice_comm s v.at v.bytes w.at w.bytes p h)) d

-- one write, and a list beside it
one_all : (n : ℕ) (s : List ℕ) (w : Write) (vs : List Write) → length s ≡ n → Inside n w → Every (Inside n) vs → Every (Beside w) vs → put_all (put s w) vs ≡ put (put_all s vs) w
one_all n s w [] l h every[] every[] = refl
one_all n s w (v ∷ vs) l h (every∷ k ks) (every∷ d ds) =
    ap (λ (x : List ℕ). put_all x vs) (put_comm s w v (omega (arith, h)) (omega (arith, k)) d)
    ∙ one_all n (put s v) w vs (length_put s v (omega (arith, k)) ∙ l) h ks ds

-- two lists
pub all_comm : (n : ℕ) (s : List ℕ) (ws vs : List Write) → length s ≡ n → Every (Inside n) ws → Every (Inside n) vs → Every (λ w. Every (Beside w) vs) ws
    → put_all (put_all s ws) vs ≡ put_all (put_all s vs) ws
all_comm n s [] vs l every[] ks every[] = refl
all_comm n s (w ∷ ws) vs l (every∷ h hs) ks (every∷ d ds) =
    all_comm n (put s w) ws vs (length_put s w (omega (arith, h)) ∙ l) hs ks ds
    ∙ ap (λ (x : List ℕ). put_all x ws) (one_all n s w vs l h ks d)

-- one write in the place of another, with none behind it that it touches
pub put_over : (n : ℕ) (s : List ℕ) (w v : Write) (post : List Write) → length s ≡ n → Inside n w → v.at ≡ w.at → length v.bytes ≡ length w.bytes
    → Every (Inside n) post → Every (Beside v) post → put (put_all s (w ∷ post)) v ≡ put_all s (v ∷ post)
put_over n s w v post l h a e ks ds =
    sym (one_all n (put s w) v post (length_put s w (omega (arith, h)) ∙ l) (omega (arith, h, a, e)) ks ds)
    ∙ ap (λ (x : List ℕ). put_all x post)
    (ap (λ (k : ℕ). splice (put s w) k v.bytes) a ∙ splice_over s w.at w.bytes v.bytes (sym e) (omega (arith, h)) ∙ ap (λ (k : ℕ). splice s k v.bytes) (sym a))

-- what stands at the index of a write that no later one touches
pub span_put : (n : ℕ) (s : List ℕ) (w : Write) (post : List Write) (k : ℕ) → length s ≡ n → Inside n w → length w.bytes ≡ k → Every (Inside n) post → Every (Beside w) post
    → span (put_all s (w ∷ post)) w.at k ≡ w.bytes
span_put n s w post k l h e ks ds =
    ap (λ (y : List ℕ). span y w.at k) (one_all n s w post l h ks ds)
    ∙ span_splice_same (put_all s post) w.at w.bytes k e (omega (arith, h, e, length_all s post n l ks))
