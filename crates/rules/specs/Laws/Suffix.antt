-- A name with a number, in place: the name's bytes, the dash and the digits as one word, zeros after them. Rests on Places and text's NameLaws.
use Rattle.std.specs.Prelude.{◌≡◌, ℕ, suc, ◌+◌, ◌-◌, ◌*◌, ◌/◌, ◌%◌, ◌<◌, ◌≤◌, Bool, true, false, not, ◌&&◌, List, [], ◌∷◌, ◌++◌, length, take, drop, ◌==◌, ◌≢◌, nat_le, slice_index, slice_index_or, refl}
use Rattle.std.proofs.Common.{sym, ap, ap₂, subst, ◌∙◌, mul_assoc, add-one, arith, ext_get_or, take_at, drop_at, take-take, eqb-true, eq-eqb, ne_eqb, leb-true}
use Rattle.std.proofs.Math.Decide.{dec_lt}
use Rattle.std.proofs.lemmas.Bool.{and_parts, and_from}
use Rattle.std.specs.Cmp.{both_ways}
use Rattle.prelude.specs.Below.{all_below}
use Rattle.prelude.specs.Laws.Below.{all_intro, all_elim}
use Rattle.prelude.specs.Number.{Bytes, number, bytes_of, bound, word64}
use Rattle.prelude.specs.Laws.Number.{word64_number, bytes_number, number_bytes, length_bytes}
use Rattle.prelude.specs.Span.{span}
use Rattle.prelude.specs.Laws.Span.{length_span, get_span, span_join}
use Rattle.prelude.specs.Texts.{text_at, same_text, is_text, contents, text_of}
use Rattle.prelude.specs.Laws.Texts.{same_text_lem, same_self, text_contents}
use Rattle.prelude.specs.Laws.Bytes.{bytes_span}
use Rattle.prelude.specs.declared.Text.{Text}
use Rattle.text.specs.Numbered.{decimal, numbered_text}
use Rattle.text.specs.Laws.ByWords.{word_span}
use Rattle.text.specs.Laws.Numbered.{decimal_digit, decimal_more}
use Rattle.text.specs.Laws.Names.{Fits, numbered_fits, numbered_is_text, numbered_long, numbered_contents, numbered_len}
use Rattle.format.specs.Codes.{is_name, is_none, alnum_at}
use Rattle.machine.specs.Ranges.{name_range}
use Rattle.rules.specs.Laws.Places.{zero_behind}

-- the dash and the digits of k, as a word and how many they are
pub record IsSuffix (k word len : ℕ) : Type 0 where
  pub bytes : bytes_of len word ≡ 45 ∷ decimal k
  pub small : word < bound len
  pub short : len ≤ 4

-- byte p at x and at y
abbrev pub alike_at : List ℕ → ℕ → ℕ → ℕ → Bool
alike_at s x y p = slice_index s (x + p) == slice_index s (y + p)

bytes_cons : (n a x : ℕ) → a < 256 → bytes_of (suc n) (a + 256 * x) ≡ a ∷ bytes_of n x
bytes_cons n a x h =
    let low : (a + 256 * x) % 256 ≡ a = omega arith in
    let high : (a + 256 * x) / 256 ≡ x = omega arith in
    λ i. low i ∷ ap (bytes_of n) high i

bytes_last : (a : ℕ) → a < 256 → bytes_of 1 a ≡ a ∷ []
bytes_last a h = let e : a % 256 ≡ a = omega arith in λ i. e i ∷ []

-- one, two and three digits
module _ (k : ℕ) where
  pub suffix_1 : k < 10 → IsSuffix k (45 + 256 * (48 + k)) 2
  suffix_1 h = record {
    bytes = bytes_cons 1 45 (48 + k) (omega arith) ∙ ap (λ (l : List ℕ). 45 ∷ l) (bytes_last (48 + k) (omega arith) ∙ sym (decimal_digit k h));
    small = omega arith;
    short = omega arith;
  }

  pub suffix_2 : 10 ≤ k → k < 100 → IsSuffix k (45 + 256 * ((48 + k / 10) + 256 * (48 + k % 10))) 3
  suffix_2 l h = record {
    bytes =
        bytes_cons 2 45 ((48 + k / 10) + 256 * (48 + k % 10)) (omega arith)
        ∙ ap (λ (u : List ℕ). 45 ∷ u)
        (bytes_cons 1 (48 + k / 10) (48 + k % 10) (omega arith)
        ∙ ap (λ (u : List ℕ). (48 + k / 10) ∷ u) (bytes_last (48 + k % 10) (omega arith))
        ∙ sym (decimal_more k l ∙ ap (λ (u : List ℕ). u ++ ((48 + k % 10) ∷ [])) (decimal_digit (k / 10) (omega arith))));
    small = omega arith;
    short = omega arith;
  }

  pub suffix_3 : 100 ≤ k → k < 1000 → IsSuffix k (45 + 256 * ((48 + k / 10 / 10) + 256 * ((48 + k / 10 % 10) + 256 * (48 + k % 10)))) 4
  suffix_3 l h =
      let q : decimal k ≡ (48 + k / 10 / 10) ∷ (48 + k / 10 % 10) ∷ (48 + k % 10) ∷ [] =
      decimal_more k (omega arith)
      ∙ ap (λ (u : List ℕ). u ++ ((48 + k % 10) ∷ []))
      (decimal_more (k / 10) (omega arith) ∙ ap (λ (u : List ℕ). u ++ ((48 + k / 10 % 10) ∷ [])) (decimal_digit (k / 10 / 10) (omega arith))) in
      record {
        bytes =
            bytes_cons 3 45 ((48 + k / 10 / 10) + 256 * ((48 + k / 10 % 10) + 256 * (48 + k % 10))) (omega arith)
            ∙ ap (λ (u : List ℕ). 45 ∷ u)
            (bytes_cons 2 (48 + k / 10 / 10) ((48 + k / 10 % 10) + 256 * (48 + k % 10)) (omega arith)
            ∙ ap (λ (u : List ℕ). (48 + k / 10 / 10) ∷ u)
            (bytes_cons 1 (48 + k / 10 % 10) (48 + k % 10) (omega arith)
            ∙ ap (λ (u : List ℕ). (48 + k / 10 % 10) ∷ u) (bytes_last (48 + k % 10) (omega arith)))
            ∙ sym q);
        small = omega arith;
        short = omega arith;
      }

  -- the same, the hundreds by one division
  pub suffix_hundreds : 100 ≤ k → k < 1000 → IsSuffix k (45 + 256 * ((48 + k / 100) + 256 * ((48 + k / 10 % 10) + 256 * (48 + k % 10)))) 4
  suffix_hundreds l h = let e : k / 100 ≡ k / 10 / 10 = omega arith in rw e (suffix_3 l h)

-- ---- a start, by three words that overlap

module _ (s : List ℕ) (bytes : Bytes s) (x y : ℕ) where
  -- equal words from m on, and bytes that agree from m on
  word_alike : (m a b : ℕ) → a ≡ x + m → b ≡ y + m → a + 8 ≤ length s → b + 8 ≤ length s → word64 s a ≡ word64 s b
      → (p : ℕ) → m ≤ p → p < m + 8 → alike_at s x y p ≡ true
  word_alike m a b ea eb ha hb e p l h =
      let u : a + (p - m) ≡ x + p = omega arith in
      let v : b + (p - m) ≡ y + p = omega arith in
      let g : slice_index_or s (a + (p - m)) 0 ≡ slice_index_or s (b + (p - m)) 0 =
      sym (get_span s a 8 (p - m) (omega arith))
      ∙ ap (λ (w : List ℕ). slice_index w (p - m)) (word_span s s a b bytes bytes ha hb e)
      ∙ get_span s b 8 (p - m) (omega arith) in
      eq-eqb _ _ (ap (λ (n : ℕ). slice_index s n) (sym u) ∙ g ∙ ap (λ (n : ℕ). slice_index s n) v)

  alike_word : (m a b : ℕ) → a ≡ x + m → b ≡ y + m → a + 8 ≤ length s → b + 8 ≤ length s
      → ((p : ℕ) → m ≤ p → p < m + 8 → alike_at s x y p ≡ true) → word64 s a ≡ word64 s b
  alike_word m a b ea eb ha hb f =
      let la : length (span s a 8) ≡ 8 = length_span s a 8 ha in
      let lb : length (span s b 8) ≡ 8 = length_span s b 8 hb in
      word64_number s a ha
      ∙ ap number (ext_get_or 0 (span s a 8) (span s b 8) (la ∙ sym lb)
      (λ k h. let u : a + k ≡ x + (m + k) = omega arith in
      let v : b + k ≡ y + (m + k) = omega arith in
      get_span s a 8 k (omega arith)
      ∙ ap (λ (n : ℕ). slice_index s n) u
      ∙ eqb-true _ _ (f (m + k) (omega arith) (omega arith))
      ∙ ap (λ (n : ℕ). slice_index s n) (sym v)
      ∙ sym (get_span s b 8 k (omega arith))))
      ∙ sym (word64_number s b hb)

  pub start_words : (n : ℕ) → 8 ≤ n → n ≤ 20 → x + 33 ≤ length s → y + 33 ≤ length s
      → (word64 s x == word64 s y) && word64 s (x + (n - 8) / 2) == word64 s (y + (n - 8) / 2) && word64 s (x + (n - 8)) == word64 s (y + (n - 8))
      ≡ all_below (alike_at s x y) n
  start_words n low high hx hy =
      let mid : ℕ = (n - 8) / 2 in
      let last : ℕ = n - 8 in
      both_ways (word64 s x == word64 s y && word64 s (x + mid) == word64 s (y + mid) && word64 s (x + last) == word64 s (y + last)) (all_below (alike_at s x y) n)
      (λ e. let c = and_parts (word64 s x == word64 s y && word64 s (x + mid) == word64 s (y + mid)) (word64 s (x + last) == word64 s (y + last)) e in
      let d = and_parts (word64 s x == word64 s y) (word64 s (x + mid) == word64 s (y + mid)) c.0 in
      all_intro (alike_at s x y) n
      (λ p h. there n low high hx hy (eqb-true _ _ d.0) (eqb-true _ _ d.1) (eqb-true _ _ c.1) p h (dec_lt p 8) (dec_lt p (mid + 8))))
      (λ e. let f : (p : ℕ) → p < n → alike_at s x y p ≡ true = all_elim (alike_at s x y) n e in
      let u : word64 s x ≡ word64 s y = alike_word 0 x y (omega arith) (omega arith) (omega arith) (omega arith) (λ p a b. f p (omega arith)) in
      let v : word64 s (x + mid) ≡ word64 s (y + mid) = alike_word mid (x + mid) (y + mid) refl refl (omega arith) (omega arith) (λ p a b. f p (omega arith)) in
      let w : word64 s (x + last) ≡ word64 s (y + last) = alike_word last (x + last) (y + last) refl refl (omega arith) (omega arith) (λ p a b. f p (omega arith)) in
      rw (eq-eqb _ _ u, eq-eqb _ _ v, eq-eqb _ _ w))
    where
      there : (n : ℕ) → 8 ≤ n → n ≤ 20 → x + 33 ≤ length s → y + 33 ≤ length s → word64 s x ≡ word64 s y
          → word64 s (x + (n - 8) / 2) ≡ word64 s (y + (n - 8) / 2) → word64 s (x + (n - 8)) ≡ word64 s (y + (n - 8))
          → (p : ℕ) → p < n → Dec (p < 8) → Dec (p < (n - 8) / 2 + 8) → alike_at s x y p ≡ true
      there n low high hx hy a b c p h (yes u) d = word_alike 0 x y (omega arith) (omega arith) (omega arith) (omega arith) a p (omega arith) (omega arith)
      there n low high hx hy a b c p h (no u) (yes v) =
          word_alike ((n - 8) / 2) (x + (n - 8) / 2) (y + (n - 8) / 2) refl refl (omega arith) (omega arith) b p (omega arith) (omega arith)
      there n low high hx hy a b c p h (no u) (no v) =
          word_alike (n - 8) (x + (n - 8)) (y + (n - 8)) refl refl (omega arith) (omega arith) c p (omega arith) (omega arith)

-- ---- numbers of lists

number_append : (a b : List ℕ) → number (a ++ b) ≡ number a + bound (length a) * number b
number_append [] b = omega arith
number_append (x ∷ a) b = let e : number (a ++ b) ≡ number a + bound (length a) * number b = number_append a b in ap (λ (n : ℕ). x + 256 * n) e ∙ spread x (number a) (bound (length a)) (number b)
  where
    spread : (x a c b : ℕ) → x + 256 * (a + c * b) ≡ x + 256 * a + 256 * c * b
    spread x a c b = let e : 256 * c * b ≡ 256 * (c * b) = mul_assoc 256 c b in omega arith

number_zeros : (l : List ℕ) → ((k : ℕ) → k < length l → slice_index l k ≡ 0) → number l ≡ 0
number_zeros [] h = refl
number_zeros (x ∷ l) h =
    let z : x ≡ 0 = h 0 (omega arith) in
    let r : number l ≡ 0 = number_zeros l (λ k u. h (suc k) (omega arith)) in
    omega arith

-- ---- a name in range

module _ (t : Text) (r : name_range t ≡ true) where
  pub name_text : is_text t ≡ true
  unfolding name_range
  name_text = (and_parts (is_text t) (is_name t) r).0

  pub name_short : t.len ≤ 20
  unfolding name_range is_name
  name_short =
      let a = and_parts (is_text t) (is_name t) r in
      let b = and_parts (nat_le 1 t.len && nat_le t.len 20) (all_below (alnum_at t) t.len && not (is_none t)) a.1 in
      leb-true t.len 20 (and_parts (nat_le 1 t.len) (nat_le t.len 20) b.0).1

-- the text at an index, as far as it goes
contents_here : (s : List ℕ) (at : ℕ) → slice_index s (at + 32) ≤ 32 → contents (text_at s at) ≡ span s at (slice_index s (at + 32))
unfolding contents span
contents_here s at h = take-take (slice_index s (at + 32)) 32 (drop at s) h

-- ---- THE LAW of a numbered name in place

module _ (s : List ℕ) (bytes : Bytes s) (at from k w t : ℕ) (ha : at + 33 ≤ length s) (hf : from + 33 ≤ length s)
    (r : name_range (text_at s from) ≡ true) (hk : k < 1000) (suf : IsSuffix k w t) where
  suffix_length : length (decimal k) + 1 ≡ t
  suffix_length = let e : length (decimal k) + 1 ≡ length (bytes_of t w) = add-one _ ∙ ap length (sym suf.bytes) in e ∙ length_bytes t w

  fits : Fits (text_at s from) k
  fits = let h : slice_index_or s (from + 32) 0 ≤ 20 = name_short (text_at s from) r in numbered_fits (text_at s from) k (omega arith) (omega arith)

  name_contents : contents (text_at s from) ≡ span s from (slice_index s (from + 32))
  name_contents = let h : slice_index_or s (from + 32) 0 ≤ 20 = name_short (text_at s from) r in contents_here s from (omega arith)

  len_numbered : (numbered_text (text_at s from) k).len ≡ slice_index s (from + 32) + t
  len_numbered =
      let h : slice_index_or s (from + 32) 0 ≤ 20 = name_short (text_at s from) r in
      let l : length (span s from (slice_index s (from + 32))) ≡ slice_index_or s (from + 32) 0 = length_span s from (slice_index s (from + 32)) (omega arith) in
      numbered_len (text_at s from) k fits ∙ ap₂ ◌+◌ (ap length name_contents ∙ l) suffix_length

  -- of another length
  pub numbered_other : (slice_index s (at + 32) ≢ slice_index s (from + 32) + t) → same_text (text_at s at) (numbered_text (text_at s from) k) ≡ false
  unfolding same_text
  numbered_other d = rw (ne_eqb (slice_index s (at + 32)) (numbered_text (text_at s from) k).len (λ e. d (e ∙ len_numbered)))

  module _ (n : ℕ) (name : n ≡ slice_index s (from + 32)) (len : slice_index_or s (at + 32) 0 ≡ n + t) where
    short : n + t ≤ 24
    short = let h : slice_index_or s (from + 32) 0 ≤ 20 = name_short (text_at s from) r in omega (arith, suf.short)

    -- the text is its start and its end
    two : contents (text_at s at) ≡ span s at n ++ span s (at + n) t
    two = contents_here s at (omega (arith, short)) ∙ ap (span s at) len ∙ sym (span_join s at n t)

    -- with zeros after it, the word at its end is the end's number
    end_word : is_text (text_at s at) ≡ true → word64 s (at + n) ≡ number (span s (at + n) t)
    end_word e =
        let u : n + t ≤ 24 = short in
        let v : t ≤ 4 = suf.short in
        let z : number (span s (at + n + t) (8 - t)) ≡ 0 = number_zeros (span s (at + n + t) (8 - t)) (λ q h. rest e q h) in
        let j : t + (8 - t) ≡ 8 = omega arith in
        word64_number s (at + n) (omega arith)
        ∙ ap number (sym (span_join s (at + n) t (8 - t) ∙ ap (span s (at + n)) j))
        ∙ number_append (span s (at + n) t) (span s (at + n + t) (8 - t))
        ∙ rw z (omega arith)
      where
        rest : is_text (text_at s at) ≡ true → (q : ℕ) → q < length (span s (at + n + t) (8 - t)) → slice_index (span s (at + n + t) (8 - t)) q ≡ 0
        rest e q h =
            let u : n + t ≤ 24 = short in
            let v : t ≤ 4 = suf.short in
            let l : length (span s (at + n + t) (8 - t)) ≡ 8 - t = length_span s (at + n + t) (8 - t) (omega arith) in
            let i : at + n + t + q ≡ at + (n + t + q) = omega arith in
            get_span s (at + n + t) (8 - t) q (omega arith) ∙ ap (λ (m : ℕ). slice_index s m) i ∙ zero_behind s at e (n + t + q) (omega arith) (omega arith)

    suffix_number : number (45 ∷ decimal k) ≡ w
    suffix_number = ap number (sym suf.bytes) ∙ number_bytes t w suf.small

    starts : all_below (alike_at s at from) n ≡ true → span s at n ≡ span s from n
    starts e =
        let h : slice_index_or s (from + 32) 0 ≤ 20 = name_short (text_at s from) r in
        let a : length (span s at n) ≡ n = length_span s at n (omega arith) in
        let b : length (span s from n) ≡ n = length_span s from n (omega arith) in
        ext_get_or 0 (span s at n) (span s from n) (a ∙ sym b)
        (λ p u. let v : p < n = omega arith in get_span s at n p v ∙ eqb-true _ _ (all_elim (alike_at s at from) n e p v) ∙ sym (get_span s from n p v))

    ends : is_text (text_at s at) ≡ true → word64 s (at + n) ≡ w → span s (at + n) t ≡ 45 ∷ decimal k
    ends e q =
        let l : length (span s (at + n) t) ≡ t = length_span s (at + n) t (omega (arith, short)) in
        sym (ap (λ (m : ℕ). bytes_of m (number (span s (at + n) t))) (sym l) ∙ bytes_number (span s (at + n) t) (bytes_span s (at + n) t bytes))
        ∙ ap (bytes_of t) (sym (end_word e) ∙ q)
        ∙ suf.bytes

    numbered_is : span s at n ≡ span s from n → span s (at + n) t ≡ 45 ∷ decimal k → is_text (text_at s at) ≡ true → text_at s at ≡ numbered_text (text_at s from) k
    numbered_is a b e =
        sym (text_contents (text_at s at) (length_span s at 32 (omega arith)) e)
        ∙ ap text_of (two ∙ ap₂ (λ (u v : List ℕ). u ++ v) (a ∙ ap (span s from) name ∙ sym name_contents) b ∙ sym (numbered_contents (text_at s from) k fits))
        ∙ text_contents (numbered_text (text_at s from) k) (numbered_long (text_at s from) k) (numbered_is_text (text_at s from) k)

    is_numbered : text_at s at ≡ numbered_text (text_at s from) k → span s at n ++ span s (at + n) t ≡ span s from n ++ (45 ∷ decimal k)
    is_numbered e =
        sym two ∙ ap contents e ∙ numbered_contents (text_at s from) k fits ∙ ap (λ (u : List ℕ). u ++ (45 ∷ decimal k)) (name_contents ∙ ap (span s from) (sym name))

    pub numbered_here : all_below (alike_at s at from) n && word64 s (at + n) == w && is_text (text_at s at) ≡ same_text (text_at s at) (numbered_text (text_at s from) k)
    numbered_here =
        let h : slice_index_or s (from + 32) 0 ≤ 20 = name_short (text_at s from) r in
        let la : length (span s at n) ≡ n = length_span s at n (omega arith) in
        let lb : length (span s from n) ≡ n = length_span s from n (omega arith) in
        let D : Text = text_at s at in
        let E : Text = numbered_text (text_at s from) k in
        both_ways (all_below (alike_at s at from) n && word64 s (at + n) == w && is_text D) (same_text D E)
        (λ e. let c = and_parts (all_below (alike_at s at from) n && word64 s (at + n) == w) (is_text D) e in
        let d = and_parts (all_below (alike_at s at from) n) (word64 s (at + n) == w) c.0 in
        subst (λ (u : Text). same_text D u ≡ true) (numbered_is (starts d.0) (ends c.1 (eqb-true _ _ d.1)) c.1) (same_self D))
        (λ e. let q : D ≡ E = same_text_lem D E (length_span s at 32 (omega arith)) (numbered_long (text_at s from) k) e in
        let f : is_text D ≡ true = subst (λ (u : Text). is_text u ≡ true) (sym q) (numbered_is_text (text_at s from) k) in
        let g : span s at n ++ span s (at + n) t ≡ span s from n ++ (45 ∷ decimal k) = is_numbered q in
        let a : span s at n ≡ span s from n =
        sym (take_at (span s at n) (span s (at + n) t) n la) ∙ ap (take n) g ∙ take_at (span s from n) (45 ∷ decimal k) n lb in
        let b : span s (at + n) t ≡ 45 ∷ decimal k =
        sym (drop_at (span s at n) (span s (at + n) t) n la) ∙ ap (drop n) g ∙ drop_at (span s from n) (45 ∷ decimal k) n lb in
        and_from _ _
        (and_from _ _
        (all_intro (alike_at s at from) n (λ p u. eq-eqb _ _ (sym (get_span s at n p u) ∙ ap (λ (l : List ℕ). slice_index l p) a ∙ get_span s from n p u)))
        (eq-eqb _ _ (end_word f ∙ ap number b ∙ suffix_number)))
        f)
