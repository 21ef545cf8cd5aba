-- THE PROOF that the last part of a buffer, shorter than a place, is neither read nor written. Rests on Calls and Written.
use Rattle.std.proofs.Common.{ℕ, ◌+◌, ◌*◌, ◌≤◌, ◌<◌, ◌≡◌, ◌&&◌, length, Some, sym, ap, ◌∙◌, arith, length-append, List, ◌++◌, append_assoc, take, drop, length-drop}
use Rattle.std.proofs.Math.Seq.{take-append-le}
use Rattle.std.proofs.lemmas.List.{drop-append-le}
use Rattle.prelude.specs.Below.{all_below, first_below}
use Rattle.prelude.specs.Laws.Below.{first_ext}
use Rattle.prelude.specs.Bytes.{zeros}
use Rattle.prelude.specs.Cases.{maybe}
use Rattle.prelude.specs.Span.{span, splice}
use Rattle.prelude.specs.Texts.{agree_at}
use Rattle.store.specs.Layout.{book_size}
use Rattle.rules.specs.Keeps.{keeps_of}
use Rattle.marks.specs.Marks.{name_size, place_size, place_base, place_count, name_at, image_at, name_bytes, has_name, set_place, is_mark, return_place, Marked, marked, set_mark_of, return_of}
use Rattle.marks.specs.Promise.{LastPart}
use Rattle.marks.proofs.Laws.Places.{place_within, set_below, return_first}
use Rattle.marks.specs.Laws.Calls.{set_bad, set_malformed, set_full, set_done, set_ends, return_bad, return_malformed, return_none, return_done, return_ends}
use Rattle.marks.proofs.Laws.Written.{fits}
use Rattle.marks.proofs.Laws.Stands.{book_long}

-- ---- what stands before is as it is without the part

module _ (p rest : List ℕ) where
  span_before : (at n : ℕ) → at + n ≤ length p → span (p ++ rest) at n ≡ span p at n
  unfolding span
  span_before at n h = ap (take n) (drop-append-le at p rest (omega arith)) ∙ take-append-le n (drop at p) rest (simp length-drop (omega arith))

  splice_before : (at : ℕ) (w : List ℕ) → at + length w ≤ length p → splice (p ++ rest) at w ≡ splice p at w ++ rest
  unfolding splice
  splice_before at w h =
      let d = drop (length w) (drop at p) in
      ap (λ (x : List ℕ). x ++ (w ++ drop (length w) (drop at (p ++ rest)))) (take-append-le at p rest (omega arith))
      ∙ ap (λ (x : List ℕ). take at p ++ (w ++ drop (length w) x)) (drop-append-le at p rest (omega arith))
      ∙ ap (λ (x : List ℕ). take at p ++ (w ++ x)) (drop-append-le (length w) (drop at p) rest (simp length-drop (omega arith)))
      ∙ ap (λ (x : List ℕ). take at p ++ x) (sym (append_assoc w d rest))
      ∙ sym (append_assoc (take at p) (w ++ d) rest)

module _ (p rest : List ℕ) (n : ℕ) (whole : length p ≡ n * place_size) (short : length rest < place_size) where
  count : place_count (p ++ rest) ≡ place_count p
  count = let e : length (p ++ rest) ≡ length p + length rest = length-append p rest in omega arith

  name_same : (bytes : List ℕ) (i : ℕ) → i < place_count p → has_name (p ++ rest) bytes i ≡ has_name p bytes i
  unfolding has_name name_at
  name_same bytes i h = ap (λ (s : List ℕ). all_below (agree_at s bytes) name_size) (span_before p rest (place_base i) name_size (omega (arith, place_within p i h)))

  image_same : (i : ℕ) → i < place_count p → image_at (p ++ rest) i ≡ image_at p i
  unfolding image_at
  image_same i h = span_before p rest (place_base i + name_size) book_size (omega (arith, place_within p i h))

  first_same : (bytes : List ℕ) → first_below (has_name (p ++ rest) bytes) (place_count (p ++ rest)) ≡ first_below (has_name p bytes) (place_count p)
  first_same bytes = ap (first_below (has_name (p ++ rest) bytes)) count ∙ first_ext (has_name (p ++ rest) bytes) (has_name p bytes) (place_count p) (name_same bytes)

  set_same : (name : List ℕ) → set_place (p ++ rest) name ≡ set_place p name
  unfolding set_place
  set_same name = λ k. maybe (first_same (zeros name_size) k) Some (first_same (name_bytes name) k)

  mark_same : (name : List ℕ) (i : ℕ) → i < place_count p → is_mark (p ++ rest) name i ≡ is_mark p name i
  unfolding is_mark
  mark_same name i h = λ k. name_same (name_bytes name) i h k && keeps_of (image_same i h k)

  return_same : (name : List ℕ) → return_place (p ++ rest) name ≡ return_place p name
  unfolding return_place
  return_same name = ap (first_below (is_mark (p ++ rest) name)) count ∙ first_ext (is_mark (p ++ rest) name) (is_mark p name) (place_count p) (mark_same name)

  -- ---- the calls

  set_last : (b name : List ℕ) → let r = set_mark_of b name p in set_mark_of b name (p ++ rest) ≡ marked r.returned r.book (r.places ++ rest)
  set_last b name =
      set_ends b name p (λ (r : Marked). set_mark_of b name (p ++ rest) ≡ marked r.returned r.book (r.places ++ rest))
      (λ e. sym (set_bad b name (p ++ rest) e))
      (λ k e. sym (set_malformed b name (p ++ rest) k e))
      (λ k n e. sym (set_full b name (p ++ rest) k n (set_same name ∙ e)))
      (λ k n i e. sym (set_done b name (p ++ rest) k n i (set_same name ∙ e))
      ∙ ap (marked 0 b) (splice_before p rest (place_base i) (name_bytes name ++ b) (fits p name b i (set_below p name i e) (book_long b k))))

  return_last : (b name : List ℕ) → let r = return_of b name p in return_of b name (p ++ rest) ≡ marked r.returned r.book (r.places ++ rest)
  return_last b name =
      return_ends b name p (λ (r : Marked). return_of b name (p ++ rest) ≡ marked r.returned r.book (r.places ++ rest))
      (λ e. sym (return_bad b name (p ++ rest) e))
      (λ k e. sym (return_malformed b name (p ++ rest) k e))
      (λ k n e. sym (return_none b name (p ++ rest) k n (return_same name ∙ e)))
      (λ k n i e. sym (return_done b name (p ++ rest) k n i (return_same name ∙ e))
      ∙ ap (λ (x : List ℕ). marked 0 x (p ++ rest)) (image_same i (return_first p name i e).below))

pub last_part : LastPart
last_part = record {
  sets = λ book name places rest n w s. set_last places rest n w s book name;
  returns = λ book name places rest n w s. return_last places rest n w s book name;
}
