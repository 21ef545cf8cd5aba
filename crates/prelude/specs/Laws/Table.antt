-- Laws of a table of records, once for every kind of record. Rests on Table and the laws of Span.
use Rattle.std.specs.Prelude.{◌≡◌, ◌⊎◌, List, ℕ, ◌+◌, ◌*◌, ◌≤◌, ◌<◌, length}
use Rattle.std.proofs.Common.{ap, ◌∙◌, ⊎_elim, arith, le_refl}
use Rattle.std.proofs.Math.Decide.{dec_lt}
use Rattle.std.proofs.lemmas.Nat.{row_fits}
use Rattle.prelude.specs.Span.{span}
use Rattle.prelude.specs.Laws.Span.{length_splice, span_splice_same, span_splice_before, span_splice_after}
use Rattle.prelude.specs.Table.{row_at, put_row}

-- a record ends where a later one begins, or before
pub row_below : (i j size : ℕ) → i < j → i * size + size ≤ j * size
row_below i j size h = row_fits i size j size h (le_refl size)

module _ {A : Type 0} (base size count : ℕ) (enc : A → List ℕ) (b : List ℕ) (room : base + count * size ≤ length b)
    (i : ℕ) (inside : i < count) (a : A) (sized : length (enc a) ≡ size) where
  pub length_put_row : length (put_row base size enc b i a) ≡ length b
  length_put_row = length_splice b (base + i * size) (enc a) (omega (arith, row_below i count size inside))

  -- a span outside the table
  pub span_put_row : (at n : ℕ) → (at + n ≤ base) ⊎ (base + count * size ≤ at) → span (put_row base size enc b i a) at n ≡ span b at n
  span_put_row at n d =
      let m : i * size + size ≤ count * size = row_below i count size inside in
      ⊎_elim
      (λ p. span_splice_before b (base + i * size) (enc a) at n (omega arith) (omega arith))
      (λ p. span_splice_after b (base + i * size) (enc a) at n (omega arith) (omega arith))
      d

  pub row_put : (dec : List ℕ → A) → dec (enc a) ≡ a → row_at base size dec (put_row base size enc b i a) i ≡ a
  row_put dec e = ap dec (span_splice_same b (base + i * size) (enc a) size sized (omega (arith, row_below i count size inside))) ∙ e

  pub row_put_other : (dec : List ℕ → A) (j : ℕ) → (i ≡ j → ⊥) → row_at base size dec (put_row base size enc b i a) j ≡ row_at base size dec b j
  row_put_other dec j d = go (dec_lt i j)
    where
      go : Dec (i < j) → row_at base size dec (put_row base size enc b i a) j ≡ row_at base size dec b j
      go (yes p) = ap dec (span_splice_after b (base + i * size) (enc a) (base + j * size) size (omega (arith, row_below i j size p)) (omega (arith, row_below i count size inside)))
      go (no p) = ap dec (span_splice_before b (base + i * size) (enc a) (base + j * size) size (let q : j < i = omega arith in omega (arith, row_below j i size q)) (omega (arith, row_below i count size inside)))
