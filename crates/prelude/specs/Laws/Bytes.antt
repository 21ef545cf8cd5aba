-- Lists of bytes stay lists of bytes: parts of them, what is joined, written over, or the bytes of a number. Rests on Bytes and the laws of Span.
use Rattle.std.specs.Prelude.{◌≡◌, refl, List, [], ◌∷◌, ◌++◌, ℕ, zero, suc, ◌+◌, ◌/◌, ◌≤◌, ◌<◌, length, get_or, take, drop}
use Rattle.std.proofs.Common.{arith, length-take, get_or-drop}
use Rattle.std.proofs.Math.Decide.{dec_lt}
use Rattle.std.proofs.Math.ListN.{get_or-eq_default}
use Rattle.std.specs.List.{concat}
use Rattle.prelude.specs.Span.{span, splice}
use Rattle.prelude.specs.Laws.Span.{get_span}
use Rattle.prelude.specs.Number.{Bytes, bytes_of}
use Rattle.prelude.specs.Bytes.{zeros, AllBytes}

pub get_zeros : (n k : ℕ) → get_or (zeros n) k 0 ≡ 0
get_zeros zero k = refl
get_zeros (suc n) zero = refl
get_zeros (suc n) (suc k) = get_zeros n k

pub bytes_zeros : (n : ℕ) → Bytes (zeros n)
bytes_zeros n k = omega (arith, get_zeros n k)

pub bytes_one : (x : ℕ) → x < 256 → Bytes (x ∷ [])
bytes_one x h zero = h
bytes_one x h (suc k) = omega arith

pub bytes_of_lem : (k n : ℕ) → Bytes (bytes_of k n)
bytes_of_lem zero n j = omega arith
bytes_of_lem (suc k) n zero = omega arith
bytes_of_lem (suc k) n (suc j) = bytes_of_lem k (n / 256) j

-- ---- parts

pub bytes_span : (s : List ℕ) (at n : ℕ) → Bytes s → Bytes (span s at n)
unfolding span
bytes_span s at n h k = go (dec_lt k n)
  where
    go : Dec (k < n) → get_or (take n (drop at s)) k 0 < 256
    go (yes l) = rw (get_span s at n k l) (h (at + k))
    go (no l) =
        let m : length (take n (drop at s)) ≤ k = simp length-take (omega arith) in
        rw (get_or-eq_default (take n (drop at s)) 0 m) (omega arith)

pub bytes_drop : (s : List ℕ) (n : ℕ) → Bytes s → Bytes (drop n s)
bytes_drop s n h k = rw (get_or-drop n s k 0) (h (n + k))

pub bytes_take : (s : List ℕ) (n : ℕ) → Bytes s → Bytes (take n s)
unfolding span
bytes_take s n h = bytes_span s 0 n h

-- ---- joined and written over

pub bytes_append : (xs ys : List ℕ) → Bytes xs → Bytes ys → Bytes (xs ++ ys)
bytes_append [] ys h g k = g k
bytes_append (x ∷ xs) ys h g zero = h 0
bytes_append (x ∷ xs) ys h g (suc k) = bytes_append xs ys (λ j. h (suc j)) g k

pub bytes_splice : (s : List ℕ) (at : ℕ) (w : List ℕ) → Bytes s → Bytes w → Bytes (splice s at w)
unfolding splice
bytes_splice s at w h g =
    bytes_append (take at s) (w ++ drop (length w) (drop at s)) (bytes_take s at h)
    (bytes_append w (drop (length w) (drop at s)) g (bytes_drop (drop at s) (length w) (bytes_drop s at h)))

pub bytes_joined : (ps : List (List ℕ)) → AllBytes ps → Bytes (concat ps)
bytes_joined [] h k = omega arith
bytes_joined (p ∷ ps) h k = bytes_append p (concat ps) h.0 (bytes_joined ps h.1) k
