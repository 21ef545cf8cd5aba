-- Texts in a buffer, by words and parts: two of them compared, the zeros behind one, and its cell. Rests on text's ByWords.
use Rattle.std.specs.Prelude.{◌≡◌, ℕ, zero, suc, ◌+◌, ◌-◌, ◌%◌, ◌^◌, ◌<◌, ◌≤◌, Bool, true, false, ◌&&◌, List, [], ◌∷◌, length, ◌==◌, nat_eq, nat_le, slice_index, slice_index_or, refl}
use Rattle.std.proofs.Common.{sym, ap, ap₂, ◌∙◌, eqb-true, eq-eqb, lt-ltb, le-ltb, le-leb, arith}
use Rattle.std.proofs.Math.Bool.{and-false, and_assoc}
use Rattle.std.proofs.Math.Decide.{dec_lt}
use Rattle.std.proofs.lemmas.Bool.{and_parts, and_from}
use Rattle.std.specs.Cmp.{both_ways}
use Rattle.prelude.specs.Below.{all_below}
use Rattle.prelude.specs.Laws.Below.{all_intro, all_elim}
use Rattle.prelude.specs.Number.{Bytes, number, word64}
use Rattle.prelude.specs.Laws.Number.{word64_number}
use Rattle.prelude.specs.Span.{span}
use Rattle.prelude.specs.Laws.Span.{length_span, get_span}
use Rattle.prelude.specs.Texts.{text_at, same_text, filled_at, is_text}
use Rattle.prelude.specs.Laws.Bytes.{bytes_span}
use Rattle.prelude.specs.declared.Text.{Text}
use Rattle.text.specs.Laws.ByWords.{word_in, word_first, same_words}

-- the words of the texts at two indexes agree
abbrev pub words_agree : List ℕ → ℕ → ℕ → Bool
words_agree s x y =
    (word64 s x == word64 s y) && word64 s (x + 8) == word64 s (y + 8) && word64 s (x + 16) == word64 s (y + 16)
    && word64 s (x + 24) == word64 s (y + 24)

module _ (s : List ℕ) (bytes : Bytes s) (x y : ℕ) (hx : x + 33 ≤ length s) (hy : y + 33 ≤ length s) where
  -- THE LAW of two texts compared by words
  pub same_here : nat_eq (slice_index s (x + 32)) (slice_index s (y + 32)) && words_agree s x y ≡ same_text (text_at s x) (text_at s y)
  same_here =
      rw (sym (word_first s y), sym (word_in s y 8 (omega arith)), sym (word_in s y 16 (omega arith)), sym (word_in s y 24 (omega arith)))
      (same_words s x (text_at s y) bytes hx (length_span s y 32 (omega arith)) (bytes_span s y 32 bytes))

  -- a word that differs
  pub other_word : words_agree s x y ≡ false → same_text (text_at s x) (text_at s y) ≡ false
  other_word e = sym same_here ∙ ap (λ (v : Bool). (slice_index s (x + 32) == slice_index s (y + 32)) && v) e ∙ and-false (slice_index s (x + 32) == slice_index s (y + 32))

  -- the same, the words in pairs
  pub words_paired : (slice_index s (x + 32) == slice_index s (y + 32))
      && ((word64 s x == word64 s y && word64 s (x + 8) == word64 s (y + 8)) && (word64 s (x + 16) == word64 s (y + 16) && word64 s (x + 24) == word64 s (y + 24)))
      ≡ same_text (text_at s x) (text_at s y)
  words_paired =
      ap (λ (v : Bool). (slice_index s (x + 32) == slice_index s (y + 32)) && v)
      (sym (and_assoc (word64 s x == word64 s y && word64 s (x + 8) == word64 s (y + 8)) (word64 s (x + 16) == word64 s (y + 16)) (word64 s (x + 24) == word64 s (y + 24))))
      ∙ same_here

-- ---- zeros behind a text

abbrev pub zero_at : List ℕ → ℕ → ℕ → Bool
zero_at s at k = slice_index s (at + k) == 0

-- a number is 0 exactly if its bytes are
zero_byte : (l : List ℕ) → number l ≡ 0 → (k : ℕ) → slice_index l k ≡ 0
zero_byte [] e k = refl
zero_byte (b ∷ bs) e zero = omega arith
zero_byte (b ∷ bs) e (suc k) = zero_byte bs (omega arith) k

zero_bytes : (l : List ℕ) → ((k : ℕ) → k < length l → slice_index l k ≡ 0) → number l ≡ 0
zero_bytes [] h = refl
zero_bytes (b ∷ bs) h =
    let z : b ≡ 0 = h 0 (omega arith) in
    let e : number bs ≡ 0 = zero_bytes bs (λ k l. h (suc k) (omega arith)) in
    omega arith

module _ (s : List ℕ) where
  zero_word : (x : ℕ) → x + 8 ≤ length s → (word64 s x == 0) ≡ all_below (zero_at s x) 8
  zero_word x h =
      both_ways (word64 s x == 0) (all_below (zero_at s x) 8)
      (λ e. all_intro (zero_at s x) 8
      (λ k u. eq-eqb _ _ (sym (get_span s x 8 k u) ∙ zero_byte (span s x 8) (sym (word64_number s x h) ∙ eqb-true _ _ e) k)))
      (λ e. eq-eqb _ _ (word64_number s x h ∙ zero_bytes (span s x 8) (λ k u. each e k (omega (arith, length_span s x 8 h)))))
    where
      each : all_below (zero_at s x) 8 ≡ true → (k : ℕ) → k < 8 → slice_index (span s x 8) k ≡ 0
      each e k u = get_span s x 8 k u ∙ eqb-true _ _ (all_elim (zero_at s x) 8 e k u)

  -- THE LAW of 16 bytes that are zeros: two words
  pub zero_words : (x : ℕ) → x + 16 ≤ length s → (word64 s x == 0) && (word64 s (x + 8) == 0) ≡ all_below (zero_at s x) 16
  zero_words x h =
      ap₂ ◌&&◌ (zero_word x (omega arith)) (zero_word (x + 8) (omega arith))
      ∙ both_ways (all_below (zero_at s x) 8 && all_below (zero_at s (x + 8)) 8) (all_below (zero_at s x) 16)
      (λ e. all_intro (zero_at s x) 16 (λ k u. there (and_parts _ _ e) k u (dec_lt k 8)))
      (λ e. and_from _ _
      (all_intro (zero_at s x) 8 (λ k u. all_elim (zero_at s x) 16 e k (omega arith)))
      (all_intro (zero_at s (x + 8)) 8 (λ k u. let z : x + 8 + k ≡ x + (8 + k) = omega arith in rw z (all_elim (zero_at s x) 16 e (8 + k) (omega arith)))))
    where
      there : (all_below (zero_at s x) 8 ≡ true) × (all_below (zero_at s (x + 8)) 8 ≡ true) → (k : ℕ) → k < 16 → Dec (k < 8) → zero_at s x k ≡ true
      there p k u (yes l) = all_elim (zero_at s x) 8 p.0 k l
      there p k u (no l) = moved (all_elim (zero_at s (x + 8)) 8 p.1 (k - 8) (omega arith))
        where
          moved : zero_at s (x + 8) (k - 8) ≡ true → zero_at s x k ≡ true
          moved e = let z : x + 8 + (k - 8) ≡ x + k = omega arith in rw z at e

module _ (s : List ℕ) (at : ℕ) where
  -- a byte behind the text
  behind : (k : ℕ) → k < 32 → slice_index s (at + 32) ≤ k → filled_at (text_at s at) k ≡ true → slice_index s (at + k) ≡ 0
  behind k h l e = eqb-true _ _ (rw (le-ltb k (slice_index s (at + 32)) l, get_span s at 32 k h) at e)

  pub zero_behind : is_text (text_at s at) ≡ true → (k : ℕ) → k < 32 → slice_index s (at + 32) ≤ k → slice_index s (at + k) ≡ 0
  unfolding is_text
  zero_behind e k h l = behind k h l (all_elim (filled_at (text_at s at)) 32 (and_parts (nat_le (slice_index s (at + 32)) 32) (all_below (filled_at (text_at s at)) 32) e).1 k h)

  -- THE LAW of a text of at most 16 bytes: two parts of 16 bytes are zeros
  pub filled_parts : (n : ℕ) → n ≡ slice_index s (at + 32) → n ≤ 16 → all_below (zero_at s (at + n)) 16 && all_below (zero_at s (at + 16)) 16 ≡ is_text (text_at s at)
  unfolding is_text
  filled_parts n q h =
      let l : slice_index_or s (at + 32) 0 ≤ 32 = omega arith in
      rw (le-leb (slice_index s (at + 32)) 32 l)
      (both_ways (all_below (zero_at s (at + n)) 16 && all_below (zero_at s (at + 16)) 16) (all_below (filled_at (text_at s at)) 32)
      (λ e. all_intro (filled_at (text_at s at)) 32 (λ k u. there (and_parts _ _ e) k u (dec_lt k n) (dec_lt k 16)))
      (λ e. and_from _ _ (part e n (omega arith) (omega arith)) (part e 16 (omega arith) (omega arith))))
    where
      moved : (m k : ℕ) → m ≤ k → zero_at s (at + m) (k - m) ≡ true → (slice_index s (at + k) == 0) ≡ true
      moved m k u e = let z : at + m + (k - m) ≡ at + k = omega arith in rw z at e

      there : (all_below (zero_at s (at + n)) 16 ≡ true) × (all_below (zero_at s (at + 16)) 16 ≡ true)
          → (k : ℕ) → k < 32 → Dec (k < n) → Dec (k < 16) → filled_at (text_at s at) k ≡ true
      there p k u (yes a) d = rw (lt-ltb k (slice_index s (at + 32)) (omega arith))
      there p k u (no a) (yes d) =
          rw (le-ltb k (slice_index s (at + 32)) (omega arith), get_span s at 32 k u) (moved n k (omega arith) (all_elim (zero_at s (at + n)) 16 p.0 (k - n) (omega arith)))
      there p k u (no a) (no d) =
          rw (le-ltb k (slice_index s (at + 32)) (omega arith), get_span s at 32 k u) (moved 16 k (omega arith) (all_elim (zero_at s (at + 16)) 16 p.1 (k - 16) (omega arith)))

      part : all_below (filled_at (text_at s at)) 32 ≡ true → (m : ℕ) → n ≤ m → m ≤ 16 → all_below (zero_at s (at + m)) 16 ≡ true
      part e m u v =
          all_intro (zero_at s (at + m)) 16
          (λ k w. let z : at + m + k ≡ at + (m + k) = omega arith in
          rw z (eq-eqb _ _ (behind (m + k) (omega arith) (omega arith) (all_elim (filled_at (text_at s at)) 32 e (m + k) (omega arith)))))

-- ---- the cell of a text and a client: any function of the two would do

abbrev pub plus : ℕ → ℕ → ℕ
plus a b = (a + b) % 2 ^ 64

unfoldable pub cell : ℕ → Text → ℕ
cell c t = plus (plus (plus (word64 t.bytes 0) (word64 t.bytes 8)) (plus (word64 t.bytes 16) (word64 t.bytes 24))) c % 4021

pub cell_here : (s : List ℕ) (x c : ℕ) → cell c (text_at s x) ≡ plus (plus (plus (word64 s x) (word64 s (x + 8))) (plus (word64 s (x + 16)) (word64 s (x + 24)))) c % 4021
unfolding cell
cell_here s x c = rw (word_first s x, word_in s x 8 (omega arith), word_in s x 16 (omega arith), word_in s x 24 (omega arith))
