-- A number or a text at an index of a buffer: read where it was written, and read within a span. Rests on words' Windows.
use Rattle.std.specs.Prelude.{◌≡◌, List, [], ◌∷◌, ℕ, ◌+◌, ◌≤◌, ◌<◌, length, get_or}
use Rattle.std.proofs.Common.{sym, ap, ◌∙◌, add-zero, arith, length-append, take_at}
use Rattle.std.proofs.lemmas.List.{get_or_at}
use Rattle.prelude.specs.Span.{span}
use Rattle.prelude.specs.Laws.Span.{span_span, get_span, length_span}
use Rattle.prelude.specs.Number.{Bytes, number, bytes_of, bound, word16, word32, word64}
use Rattle.prelude.specs.Laws.Number.{number_bytes, word16_number, word32_number, word64_number}
use Rattle.prelude.specs.Texts.{text_at, WholeText}
use Rattle.prelude.specs.Laws.Bytes.{bytes_span}
use Rattle.prelude.specs.declared.Text.{Text}
use Rattle.words.specs.Laws.Windows.{byte_within}
use Rattle.store.specs.Cells.{text_bytes}

pub length_text : (t : Text) → length t.bytes ≡ 32 → length (text_bytes t) ≡ 33
unfolding text_bytes
length_text t h = simp length-append (omega arith)

-- ---- what was written is read

module _ (s : List ℕ) (at v : ℕ) where
  pub read_16 : at + 2 ≤ length s → v < 65536 → span s at 2 ≡ bytes_of 2 v → word16 s at ≡ v
  read_16 l h e = word16_number s at l ∙ ap number e ∙ number_bytes 2 v (omega arith)

  pub read_32 : at + 4 ≤ length s → v < bound 4 → span s at 4 ≡ bytes_of 4 v → word32 s at ≡ v
  read_32 l h e = word32_number s at l ∙ ap number e ∙ number_bytes 4 v h

  pub read_64 : at + 8 ≤ length s → v < bound 8 → span s at 8 ≡ bytes_of 8 v → word64 s at ≡ v
  read_64 l h e = word64_number s at l ∙ ap number e ∙ number_bytes 8 v h

pub read_text : (s : List ℕ) (at : ℕ) (t : Text) → length t.bytes ≡ 32 → span s at 33 ≡ text_bytes t → text_at s at ≡ t
unfolding text_bytes span
read_text s at t h e =
    λ i. record {
      bytes = (ap (λ (n : ℕ). span s n 32) (sym (add-zero at)) ∙ sym (span_span s at 33 0 32 (omega arith)) ∙ ap (λ (l : List ℕ). span l 0 32) e ∙ take_at t.bytes (t.len ∷ []) 32 h) i;
      len = (sym (get_span s at 33 32 (omega arith)) ∙ ap (λ (l : List ℕ). get_or l 32 0) e ∙ get_or_at t.bytes t.len [] 0 32 h) i;
    }

-- ---- a read within a span is a read of the buffer

module _ (s : List ℕ) (at n : ℕ) where
  pub within_text : (k : ℕ) → k + 33 ≤ n → text_at (span s at n) k ≡ text_at s (at + k)
  within_text k h = λ i. record { bytes = span_span s at n k 32 (omega arith) i; len = byte_within s at n k 32 (omega arith) i }

-- ---- what bytes hold is in range

module _ (s : List ℕ) (h : Bytes s) (at : ℕ) where
  pub fits_16 : word16 s at < 65536
  fits_16 = omega (arith, h at, h (at + 1))

  pub fits_32 : word32 s at < bound 4
  fits_32 = omega (arith, h at, h (at + 1), h (at + 2), h (at + 3))

  pub fits_64 : word64 s at < bound 8
  fits_64 = omega (arith, h at, h (at + 1), h (at + 2), h (at + 3), h (at + 4), h (at + 5), h (at + 6), h (at + 7))

  pub fits_text : at + 33 ≤ length s → WholeText (text_at s at)
  fits_text l = record { long = length_span s at 32 (omega arith); len = h (at + 32); bytes = bytes_span s at 32 h }

-- ---- what reads the same bytes is the same

module _ (s t : List ℕ) (at : ℕ) where
  pub same_8 : span s at 1 ≡ span t at 1 → get_or s at 0 ≡ get_or t at 0
  same_8 e =
      ap (λ (n : ℕ). get_or s n 0) (sym (add-zero at))
      ∙ sym (get_span s at 1 0 (omega arith))
      ∙ ap (λ (l : List ℕ). get_or l 0 0) e
      ∙ get_span t at 1 0 (omega arith)
      ∙ ap (λ (n : ℕ). get_or t n 0) (add-zero at)

  pub same_16 : at + 2 ≤ length s → at + 2 ≤ length t → span s at 2 ≡ span t at 2 → word16 s at ≡ word16 t at
  same_16 h k e = word16_number s at h ∙ ap number e ∙ sym (word16_number t at k)

  pub same_32 : at + 4 ≤ length s → at + 4 ≤ length t → span s at 4 ≡ span t at 4 → word32 s at ≡ word32 t at
  same_32 h k e = word32_number s at h ∙ ap number e ∙ sym (word32_number t at k)

  pub same_64 : at + 8 ≤ length s → at + 8 ≤ length t → span s at 8 ≡ span t at 8 → word64 s at ≡ word64 t at
  same_64 h k e = word64_number s at h ∙ ap number e ∙ sym (word64_number t at k)

  pub same_text_lem : span s at 33 ≡ span t at 33 → text_at s at ≡ text_at t at
  same_text_lem e = λ i. record {
    bytes =
        (ap (λ (n : ℕ). span s n 32) (sym (add-zero at))
        ∙ sym (span_span s at 33 0 32 (omega arith))
        ∙ ap (λ (l : List ℕ). span l 0 32) e
        ∙ span_span t at 33 0 32 (omega arith)
        ∙ ap (λ (n : ℕ). span t n 32) (add-zero at)) i;
    len = (sym (get_span s at 33 32 (omega arith)) ∙ ap (λ (l : List ℕ). get_or l 32 0) e ∙ get_span t at 33 32 (omega arith)) i;
  }
