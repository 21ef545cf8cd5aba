-- Two texts compared by words of 8 bytes. Rests on words' Windows.
use Rattle.std.specs.Prelude.{◌≡◌, refl, Bool, true, ◌&&◌, List, ◌++◌, ℕ, ◌+◌, ◌≤◌, eqb, length, get_or}
use Rattle.std.proofs.Common.{sym, ap, ap₂, ◌∙◌, add-zero, arith, eqb-true, eq-eqb}
use Rattle.std.proofs.lemmas.Bool.{and_parts}
use Rattle.std.specs.Str.{bytes_eq}
use Rattle.std.proofs.lemmas.Slice.Eq.{bytes_eq-Decides}
use Rattle.std.specs.Cmp.{both_ways}
use Rattle.prelude.specs.Below.{all_below}
use Rattle.prelude.specs.Laws.Below.{all_intro}
use Rattle.prelude.specs.Number.{Bytes, number, bytes_of, word64}
use Rattle.prelude.specs.Laws.Number.{word64_number, bytes_number}
use Rattle.prelude.specs.Span.{span}
use Rattle.prelude.specs.Laws.Span.{length_span, span_join, span_whole}
use Rattle.prelude.specs.Texts.{text_at, agree_at, same_text}
use Rattle.prelude.specs.Laws.Texts.{same_text_lem}
use Rattle.prelude.specs.Laws.Bytes.{bytes_span}
use Rattle.prelude.specs.declared.Text.{Text}
use Rattle.words.specs.Laws.Windows.{within_64}

-- a text of these bytes, of no length
abbrev pub bare : List ℕ → Text
bare l = record { bytes = l; len = 0 }

-- one word of a text, in place
pub word_in : (s : List ℕ) (x k : ℕ) → k + 8 ≤ 32 → word64 (span s x 32) k ≡ word64 s (x + k)
word_in s x k h = within_64 s x 32 k h

pub word_first : (s : List ℕ) (x : ℕ) → word64 (span s x 32) 0 ≡ word64 s x
word_first s x = within_64 s x 32 0 (omega arith) ∙ ap (λ (n : ℕ). word64 s n) (add-zero x)

-- a word stands for its bytes
of_word : (s : List ℕ) (x : ℕ) → Bytes s → x + 8 ≤ length s → bytes_of 8 (word64 s x) ≡ span s x 8
of_word s x b h =
    ap (bytes_of 8) (word64_number s x h)
    ∙ ap (λ (n : ℕ). bytes_of n (number (span s x 8))) (sym (length_span s x 8 h))
    ∙ bytes_number (span s x 8) (bytes_span s x 8 b)

pub word_span : (s t : List ℕ) (x y : ℕ) → Bytes s → Bytes t → x + 8 ≤ length s → y + 8 ≤ length t → word64 s x ≡ word64 t y → span s x 8 ≡ span t y 8
word_span s t x y bs bt hx hy e = sym (of_word s x bs hx) ∙ ap (bytes_of 8) e ∙ of_word t y bt hy

-- 32 bytes are four words
four : (s : List ℕ) → length s ≡ 32 → s ≡ (span s 0 8 ++ span s 8 8) ++ (span s 16 8 ++ span s 24 8)
four s l =
    sym (ap₂ (λ (u v : List ℕ). u ++ v) (span_join s 0 8 8) (span_join s 16 8 8)
    ∙ span_join s 0 16 16
    ∙ ap (λ (n : ℕ). span s 0 n) (sym l)
    ∙ span_whole s)

abbrev pub words_same : List ℕ → List ℕ → Bool
words_same a b =
    eqb (word64 a 0) (word64 b 0) && eqb (word64 a 8) (word64 b 8) && eqb (word64 a 16) (word64 b 16) && eqb (word64 a 24) (word64 b 24)

alike : (a b : List ℕ) → length a ≡ 32 → length b ≡ 32 → all_below (agree_at a b) 32 ≡ true → bare a ≡ bare b
unfolding same_text
alike a b la lb e = same_text_lem (bare a) (bare b) la lb (rw (eq-eqb 0 0 refl) e)

-- `==` of two texts' bytes
pub bytes_agree : (a b : List ℕ) → length a ≡ 32 → length b ≡ 32 → bytes_eq a b ≡ all_below (agree_at a b) 32
bytes_agree a b la lb =
    both_ways (bytes_eq a b) (all_below (agree_at a b) 32)
    (λ e. all_intro (agree_at a b) 32 (λ k h. eq-eqb _ _ (ap (λ (l : List ℕ). get_or l k 0) ((bytes_eq-Decides a b).0 e))))
    (λ e. (bytes_eq-Decides a b).1 (ap (λ (t : Text). t.bytes) (alike a b la lb e)))

-- THE LAW of 32 bytes compared by words
module _ (a b : List ℕ) (la : length a ≡ 32) (lb : length b ≡ 32) (ba : Bytes a) (bb : Bytes b) where
  word_same : (x : ℕ) → x + 8 ≤ 32 → eqb (word64 a x) (word64 b x) ≡ true → span a x 8 ≡ span b x 8
  word_same x h e = word_span a b x x ba bb (omega arith) (omega arith) (eqb-true _ _ e)

  words_equal : words_same a b ≡ true → a ≡ b
  words_equal e =
      let p = and_parts (eqb (word64 a 0) (word64 b 0) && eqb (word64 a 8) (word64 b 8) && eqb (word64 a 16) (word64 b 16)) (eqb (word64 a 24) (word64 b 24)) e in
      let q = and_parts (eqb (word64 a 0) (word64 b 0) && eqb (word64 a 8) (word64 b 8)) (eqb (word64 a 16) (word64 b 16)) p.0 in
      let r = and_parts (eqb (word64 a 0) (word64 b 0)) (eqb (word64 a 8) (word64 b 8)) q.0 in
      four a la
      ∙ ap₂ (λ (u v : List ℕ). u ++ v)
      (ap₂ (λ (u v : List ℕ). u ++ v) (word_same 0 (omega arith) r.0) (word_same 8 (omega arith) r.1))
      (ap₂ (λ (u v : List ℕ). u ++ v) (word_same 16 (omega arith) q.1) (word_same 24 (omega arith) p.1))
      ∙ sym (four b lb)

  equal_words : a ≡ b → words_same a b ≡ true
  equal_words e =
      let w : (k : ℕ) → word64 a k ≡ word64 b k = λ k. ap (λ (l : List ℕ). word64 l k) e in
      rw (eq-eqb _ _ (w 0), eq-eqb _ _ (w 8), eq-eqb _ _ (w 16), eq-eqb _ _ (w 24))

  pub words_same_lem : words_same a b ≡ all_below (agree_at a b) 32
  words_same_lem =
      both_ways (words_same a b) (all_below (agree_at a b) 32)
      (λ e. all_intro (agree_at a b) 32 (λ k h. eq-eqb _ _ (ap (λ (l : List ℕ). get_or l k 0) (words_equal e))))
      (λ e. equal_words (ap (λ (t : Text). t.bytes) (alike a b la lb e)))

-- a text in place beside another: its length and its words
pub same_words : (s : List ℕ) (x : ℕ) (t : Text) → Bytes s → x + 33 ≤ length s → length t.bytes ≡ 32 → Bytes t.bytes
    → eqb (get_or s (x + 32) 0) t.len
    && (eqb (word64 s x) (word64 t.bytes 0)
    && eqb (word64 s (x + 8)) (word64 t.bytes 8)
    && eqb (word64 s (x + 16)) (word64 t.bytes 16)
    && eqb (word64 s (x + 24)) (word64 t.bytes 24))
    ≡ same_text (text_at s x) t
unfolding same_text
same_words s x t bs h l bt =
    ap (λ (v : Bool). eqb (get_or s (x + 32) 0) t.len && v)
    (in_place ∙ words_same_lem (span s x 32) t.bytes (length_span s x 32 (omega arith)) l (bytes_span s x 32 bs) bt)
  where
    in_place : eqb (word64 s x) (word64 t.bytes 0)
        && eqb (word64 s (x + 8)) (word64 t.bytes 8)
        && eqb (word64 s (x + 16)) (word64 t.bytes 16)
        && eqb (word64 s (x + 24)) (word64 t.bytes 24)
        ≡ words_same (span s x 32) t.bytes
    in_place = rw (word_first s x, word_in s x 8 (omega arith), word_in s x 16 (omega arith), word_in s x 24 (omega arith))
