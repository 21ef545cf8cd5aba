-- Differences gathered by OR: a number that is 0 exactly if several parts are as they should be. Rests on std's bits and on Suffix.
use Rattle.std.specs.Prelude.{◌≡◌, ℕ, ◌+◌, ◌-◌, ◌<◌, ◌≤◌, Bool, true, false, not, ◌&&◌, List, length, ◌==◌, slice_index, slice_index_or, refl}
use Rattle.std.specs.Int.{from_bool}
use Rattle.std.specs.Int.Bits.{bit_or, bit_xor, or_add_and, xor_add_and, xor_self}
use Rattle.std.proofs.Common.{sym, ap, ◌∙◌, arith, ext_get_or, eqb-true, eq-eqb}
use Rattle.std.proofs.Math.Decide.{dec_lt}
use Rattle.std.proofs.lemmas.Nat.{and_le_l, and_le_r}
use Rattle.std.proofs.lemmas.Bool.{and_parts, and_from}
use Rattle.std.specs.Cmp.{both_ways}
use Rattle.prelude.specs.Below.{all_below}
use Rattle.prelude.specs.Laws.Below.{all_intro, all_elim}
use Rattle.prelude.specs.Number.{Bytes, number, bytes_of, word32}
use Rattle.prelude.specs.Laws.Number.{word32_number, bytes_number}
use Rattle.prelude.specs.Span.{span}
use Rattle.prelude.specs.Laws.Span.{length_span, get_span}
use Rattle.prelude.specs.Laws.Bytes.{bytes_span}
use Rattle.rules.specs.Laws.Suffix.{alike_at}

-- no bit of either
pub or_clear : (a b : ℕ) → (bit_or a b == 0) ≡ (a == 0) && (b == 0)
or_clear a b =
    both_ways (bit_or a b == 0) ((a == 0) && (b == 0))
    (λ e. let z : bit_or a b ≡ 0 = eqb-true _ _ e in
    and_from _ _ (eq-eqb a 0 (omega (arith, or_add_and a b, and_le_r a b))) (eq-eqb b 0 (omega (arith, or_add_and a b, and_le_l a b))))
    (λ e. let s = and_parts (a == 0) (b == 0) e in
    let x : a ≡ 0 = eqb-true a 0 s.0 in
    let y : b ≡ 0 = eqb-true b 0 s.1 in
    eq-eqb (bit_or a b) 0 (omega (arith, or_add_and a b)))

-- no bit in which they differ
pub xor_clear : (a b : ℕ) → (bit_xor a b == 0) ≡ (a == b)
xor_clear a b =
    both_ways (bit_xor a b == 0) (a == b)
    (λ e. let z : bit_xor a b ≡ 0 = eqb-true _ _ e in eq-eqb a b (omega (arith, xor_add_and a b, and_le_l a b, and_le_r a b)))
    (λ e. let z : a ≡ b = eqb-true a b e in eq-eqb (bit_xor a b) 0 (ap (λ (n : ℕ). bit_xor n b) z ∙ xor_self b))

-- a test that fails, as a number
pub fault_clear : (v : Bool) → (from_bool (not v) == 0) ≡ v
fault_clear true = refl
fault_clear false = refl

-- ---- a start of 4 to 8 bytes, by two halves that may overlap

module _ (s : List ℕ) (bytes : Bytes s) (x y : ℕ) where
  half_alike : (m a b : ℕ) → a ≡ x + m → b ≡ y + m → a + 4 ≤ length s → b + 4 ≤ length s → word32 s a ≡ word32 s b
      → (p : ℕ) → m ≤ p → p < m + 4 → alike_at s x y p ≡ true
  half_alike m a b ea eb ha hb e p l h =
      let n : number (span s a 4) ≡ number (span s b 4) = sym (word32_number s a ha) ∙ e ∙ word32_number s b hb in
      let w : span s a 4 ≡ span s b 4 = sym (whole a ha) ∙ ap (bytes_of 4) n ∙ whole b hb in
      let u : a + (p - m) ≡ x + p = omega arith in
      let v : b + (p - m) ≡ y + p = omega arith in
      let g : slice_index_or s (a + (p - m)) 0 ≡ slice_index_or s (b + (p - m)) 0 =
      sym (get_span s a 4 (p - m) (omega arith)) ∙ ap (λ (l : List ℕ). slice_index l (p - m)) w ∙ get_span s b 4 (p - m) (omega arith) in
      eq-eqb _ _ (ap (λ (i : ℕ). slice_index s i) (sym u) ∙ g ∙ ap (λ (i : ℕ). slice_index s i) v)
    where
      whole : (a : ℕ) → a + 4 ≤ length s → bytes_of 4 (number (span s a 4)) ≡ span s a 4
      whole a h = ap (λ (n : ℕ). bytes_of n (number (span s a 4))) (sym (length_span s a 4 h)) ∙ bytes_number (span s a 4) (bytes_span s a 4 bytes)

  alike_half : (m a b : ℕ) → a ≡ x + m → b ≡ y + m → a + 4 ≤ length s → b + 4 ≤ length s
      → ((p : ℕ) → m ≤ p → p < m + 4 → alike_at s x y p ≡ true) → word32 s a ≡ word32 s b
  alike_half m a b ea eb ha hb f =
      let la : length (span s a 4) ≡ 4 = length_span s a 4 ha in
      let lb : length (span s b 4) ≡ 4 = length_span s b 4 hb in
      word32_number s a ha
      ∙ ap number (ext_get_or 0 (span s a 4) (span s b 4) (la ∙ sym lb)
      (λ k h. let u : a + k ≡ x + (m + k) = omega arith in
      let v : b + k ≡ y + (m + k) = omega arith in
      get_span s a 4 k (omega arith)
      ∙ ap (λ (i : ℕ). slice_index s i) u
      ∙ eqb-true _ _ (f (m + k) (omega arith) (omega arith))
      ∙ ap (λ (i : ℕ). slice_index s i) (sym v)
      ∙ sym (get_span s b 4 k (omega arith))))
      ∙ sym (word32_number s b hb)

  pub start_halves : (n : ℕ) → 4 ≤ n → n ≤ 8 → x + 33 ≤ length s → y + 33 ≤ length s
      → (word32 s x == word32 s y) && (word32 s (x + (n - 4)) == word32 s (y + (n - 4))) ≡ all_below (alike_at s x y) n
  start_halves n low high hx hy =
      both_ways ((word32 s x == word32 s y) && (word32 s (x + (n - 4)) == word32 s (y + (n - 4)))) (all_below (alike_at s x y) n)
      (λ e. all_intro (alike_at s x y) n (λ p h. there n low high hx hy (and_parts _ _ e) p h (dec_lt p 4)))
      (λ e. let f : (p : ℕ) → p < n → alike_at s x y p ≡ true = all_elim (alike_at s x y) n e in
      and_from _ _ (eq-eqb _ _ (alike_half 0 x y (omega arith) (omega arith) (omega arith) (omega arith) (λ p a b. f p (omega arith))))
      (eq-eqb _ _ (alike_half (n - 4) (x + (n - 4)) (y + (n - 4)) refl refl (omega arith) (omega arith) (λ p a b. f p (omega arith)))))
    where
      there : (n : ℕ) → 4 ≤ n → n ≤ 8 → x + 33 ≤ length s → y + 33 ≤ length s
          → ((word32 s x == word32 s y) ≡ true) × ((word32 s (x + (n - 4)) == word32 s (y + (n - 4))) ≡ true) → (p : ℕ) → p < n → Dec (p < 4) → alike_at s x y p ≡ true
      there n low high hx hy c p h (yes u) =
          half_alike 0 x y (omega arith) (omega arith) (omega arith) (omega arith) (eqb-true _ _ c.0) p (omega arith) (omega arith)
      there n low high hx hy c p h (no u) =
          half_alike (n - 4) (x + (n - 4)) (y + (n - 4)) refl refl (omega arith) (omega arith) (eqb-true _ _ c.1) p (omega arith) (omega arith)
