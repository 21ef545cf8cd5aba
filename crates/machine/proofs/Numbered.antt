-- What the theorems use of a name with a number, and that it holds of the crate text's. A name is letters and digits, so the dash is no part of it.
-- An order's requests are numbered 1 to 255; the counter alone goes on to 65,535. Rests on text's laws and on the format's names.
use Rattle.std.proofs.Common.{ℕ, zero, suc, ◌+◌, ◌/◌, ◌%◌, ◌≤◌, ◌<◌, arith, ◌≡◌, refl, sym, ap, subst, ◌∙◌, ◌⊎◌, inl, inr, true, false, List, [], ◌∷◌, ◌++◌, eqb, leb, ltb, length, get_or, take, replicate, length-take, ext_get_or, get_or-take, length-take-le, eqb-true, eq-eqb, leb-true, le-leb, le-ltb, ltb-true, ltb-false}
use Rattle.std.proofs.Math.Decide.{dec_lt}
use Rattle.std.proofs.Math.ListN.{get_or-eq_default}
use Rattle.std.proofs.lemmas.Bool.{and_parts, and_from, or_cases, cases_Bool}
use Rattle.prelude.specs.Below.{all_below}
use Rattle.prelude.specs.Laws.Below.{all_elim, all_intro}
use Rattle.prelude.specs.Laws.Cases.{split_if, clash}
use Rattle.prelude.specs.Texts.{contents, text_of, is_text, filled_at, agree_at, same_text, WholeText}
use Rattle.prelude.specs.Laws.Texts.{same_text_lem}
use Rattle.prelude.specs.declared.Text.{Text}
use Rattle.format.specs.Codes.{is_alnum, alnum_at, is_name, within}
use Rattle.text.specs.Numbered.{digits_of, decimal, numbered_bytes, numbered_text}
use Rattle.text.specs.Laws.Names.{NoDash, no_dash, Fits, numbered_fits, numbered_is_text, numbered_long, numbered_len, numbered_same, numbered_no_name}
use Rattle.machine.specs.Ranges.{name_range, text_within}
use Rattle.prelude.specs.Laws.Bytes.{bytes_append, bytes_take, bytes_one, bytes_zeros}

pub record NumberedLaws : Type 0 where
  pub within : (name : Text) (n : ℕ) → name_range name ≡ true → 0 < n → n ≤ 255 → text_within 1 32 (numbered_text name n) ≡ true
  pub whole : (name : Text) (n : ℕ) → WholeText name → name.len ≤ 20 → n ≤ 65535 → WholeText (numbered_text name n)
  -- equal only for equal names and numbers
  pub apart : (a b : Text) (m n : ℕ) → name_range a ≡ true → name_range b ≡ true → 0 < m → m ≤ 255 → 0 < n → n ≤ 255
      → same_text (numbered_text a m) (numbered_text b n) ≡ true → (same_text a b ≡ true) × (m ≡ n)
  -- and no name itself
  pub dashed : (a b : Text) (n : ℕ) → name_range a ≡ true → name_range b ≡ true → 0 < n → n ≤ 255 → same_text (numbered_text a n) b ≡ false

-- ---- what a name is

record Name (t : Text) : Type 0 where
  text : is_text t ≡ true
  short : t.len ≤ 20
  letters : (k : ℕ) → k < t.len → is_alnum (get_or t.bytes k 0) ≡ true

named : (t : Text) → name_range t ≡ true → Name t
unfolding name_range is_name
named t e =
    let (x, y) = and_parts (is_text t) _ e in
    let (w, z) = and_parts (within 1 20 t.len) _ y in
    record {
      text = x;
      short = leb-true t.len 20 (and_parts (leb 1 t.len) (leb t.len 20) w).1;
      letters = all_elim (alnum_at t) t.len (and_parts (all_below (alnum_at t) t.len) _ z).0;
    }

zero_plain : is_alnum 0 ≡ false
unfolding is_alnum
zero_plain = refl

dash_plain : is_alnum 45 ≡ false
unfolding is_alnum
dash_plain = refl

module _ (t : Text) (n : Name t) where
  -- the bytes reach as far as the text
  reach : (k : ℕ) → k < t.len → k < length t.bytes
  reach k l = go (dec_lt k (length t.bytes))
    where
      go : Dec (k < length t.bytes) → k < length t.bytes
      go (yes h) = h
      go (no h) = clash _ (n.letters k l) (ap is_alnum (get_or-eq_default t.bytes 0 (omega arith)) ∙ zero_plain)

  long : t.len ≤ length t.bytes
  long = go (dec_lt (length t.bytes) t.len)
    where
      go : Dec (length t.bytes < t.len) → t.len ≤ length t.bytes
      go (yes h) = let z : length t.bytes < length t.bytes = reach (length t.bytes) h in omega arith
      go (no h) = omega arith

  contents_long : length (contents t) ≡ t.len
  unfolding contents
  contents_long = length-take-le t.len t.bytes long

  contents_at : (k : ℕ) → k < t.len → get_or (contents t) k 0 ≡ get_or t.bytes k 0
  unfolding contents
  contents_at k l = get_or-take t.len t.bytes k 0 l

  undashed : NoDash (contents t)
  undashed = no_dash (contents t) (λ k l e. let m : k < t.len = (let z = contents_long in omega arith) in
      clash _ (n.letters k m) (ap is_alnum (sym (contents_at k m) ∙ e) ∙ dash_plain))

  behind : (k : ℕ) → t.len ≤ k → k < 32 → get_or t.bytes k 0 ≡ 0
  unfolding is_text
  behind k l u = eqb-true (get_or t.bytes k 0) 0 (go (or_cases (ltb k t.len) (eqb (get_or t.bytes k 0) 0) (all_elim (filled_at t) 32 (and_parts (leb t.len 32) _ n.text).1 k u)))
    where
      go : (ltb k t.len ≡ true) ⊎ (eqb (get_or t.bytes k 0) 0 ≡ true) → eqb (get_or t.bytes k 0) 0 ≡ true
      go (inl z) = clash _ z (le-ltb k t.len l)
      go (inr z) = z

  fits : (k : ℕ) → k ≤ 255 → Fits t k
  fits k l = numbered_fits t k (let z = n.short in omega arith) (omega arith)

-- names of one content are one text
same_contents : (a b : Text) → Name a → Name b → contents a ≡ contents b → same_text a b ≡ true
unfolding same_text
same_contents a b na nb e =
    let l : a.len ≡ b.len = sym (contents_long a na) ∙ ap length e ∙ contents_long b nb in
    and_from _ _ (eq-eqb a.len b.len l)
    (all_intro (agree_at a.bytes b.bytes) 32 (λ k u. eq-eqb (get_or a.bytes k 0) (get_or b.bytes k 0) (at l k u (dec_lt k a.len))))
  where
    at : a.len ≡ b.len → (k : ℕ) → k < 32 → Dec (k < a.len) → get_or a.bytes k 0 ≡ get_or b.bytes k 0
    at l k u (yes h) = sym (contents_at a na k h) ∙ ap (λ (x : List ℕ). get_or x k 0) e ∙ contents_at b nb k (omega arith)
    at l k u (no h) = behind a na k (omega arith) u ∙ sym (behind b nb k (omega arith) u)

-- a text that is equal to a numbered one holds its bytes
same_bytes : (a b : Text) (n : ℕ) → Name b → Fits a n → same_text (numbered_text a n) b ≡ true → contents (numbered_text a n) ≡ contents b
unfolding contents same_text
same_bytes a b n nb f e =
    let s = and_parts (eqb (numbered_text a n).len b.len) _ e in
    let l : (numbered_text a n).len ≡ b.len = eqb-true _ _ s.0 in
    ext_get_or 0 (take (numbered_text a n).len (numbered_text a n).bytes) (take b.len b.bytes)
    (length-take-le (numbered_text a n).len (numbered_text a n).bytes (let z = nb.short in let y = numbered_long a n in omega arith) ∙ l ∙ sym (length-take-le b.len b.bytes (long b nb)))
    (λ k h.
    let m : k < b.len = (let z = length-take (numbered_text a n).len (numbered_text a n).bytes in omega arith) in
    let z = nb.short in
    get_or-take (numbered_text a n).len (numbered_text a n).bytes k 0 (omega arith)
    ∙ eqb-true (get_or (numbered_text a n).bytes k 0) (get_or b.bytes k 0) (all_elim (agree_at (numbered_text a n).bytes b.bytes) 32 s.1 k (omega arith))
    ∙ sym (get_or-take b.len b.bytes k 0 m))

-- ---- every byte of a numbered text is one

digits_bytes : (f n k : ℕ) → n ≤ f → get_or (digits_of f n) k 0 < 256
unfolding digits_of
digits_bytes zero n k h = bytes_one (48 + n) (omega arith) k
digits_bytes (suc f) n k h =
    split_if (λ (l : List ℕ). get_or l k 0 < 256) (ltb n 10)
    (λ t. bytes_one (48 + n) (omega (arith, ltb-true n 10 t)) k)
    (λ t. bytes_append (digits_of f (n / 10)) ((48 + n % 10) ∷ [])
    (λ j. digits_bytes f (n / 10) j (omega (arith, ltb-false n 10 t)))
    (bytes_one (48 + n % 10) (omega arith)) k)

dashed_bytes : (n k : ℕ) → get_or (45 ∷ decimal n) k 0 < 256
unfolding decimal
dashed_bytes n zero = omega arith
dashed_bytes n (suc k) = digits_bytes n n k (omega arith)

numbered_bytes_lem : (t : Text) (n k : ℕ) → WholeText t → get_or (numbered_bytes t n) k 0 < 256
unfolding contents
numbered_bytes_lem t n k w =
    bytes_append (take t.len t.bytes) (45 ∷ decimal n)
    (bytes_take t.bytes t.len w.bytes) (dashed_bytes n) k

numbered_short : (t : Text) (n : ℕ) → (numbered_text t n).len ≤ 32
unfolding is_text
numbered_short t n = leb-true (numbered_text t n).len 32 (and_parts (leb (numbered_text t n).len 32) _ (numbered_is_text t n)).0

numbered_small : (t : Text) (n k : ℕ) → WholeText t → get_or (numbered_text t n).bytes k 0 < 256
unfolding numbered_text text_of
numbered_small t n k w =
    split_if (λ (u : Text). get_or u.bytes k 0 < 256) (leb (length (numbered_bytes t n)) 32)
    (λ e. bytes_take (numbered_bytes t n ++ replicate 32 0) 32
    (bytes_append (numbered_bytes t n) (replicate 32 0) (λ j. numbered_bytes_lem t n j w)
    (bytes_zeros 32)) k)
    (λ e. bytes_zeros 32 k)

numbered_whole : (t : Text) (n : ℕ) → WholeText t → t.len ≤ 20 → n ≤ 65535 → WholeText (numbered_text t n)
numbered_whole t n w h l = record { long = numbered_long t n; len = omega (arith, numbered_short t n); bytes = λ k. numbered_small t n k w }

numbered_within : (t : Text) (n : ℕ) → Name t → n ≤ 255 → text_within 1 32 (numbered_text t n) ≡ true
unfolding text_within
numbered_within t n m h =
    let long : (numbered_text t n).len ≡ length (contents t) + (length (decimal n) + 1) = numbered_len t n (fits t m n h) in
    and_from _ _ (and_from _ _ (numbered_is_text t n) (le-leb 1 (numbered_text t n).len (omega arith))) (le-leb (numbered_text t n).len 32 (numbered_short t n))

pub numbered_laws : NumberedLaws
numbered_laws = record {
  within = λ name n h l m. numbered_within name n (named name h) m;
  whole = numbered_whole;
  apart = λ a b m n ha hb lm hm ln hn e.
      let na = named a ha in
      let nb = named b hb in
      let s = numbered_same a b m n (fits a na m hm) (fits b nb n hn) (undashed a na) (undashed b nb)
      (same_text_lem (numbered_text a m) (numbered_text b n) (numbered_long a m) (numbered_long b n) e) in
      (same_contents a b na nb s.0, s.1);
  dashed = λ a b n ha hb ln hn. no_name a b n (named a ha) (named b hb) hn;
}
  where
    no_name : (a b : Text) (n : ℕ) → Name a → Name b → n ≤ 255 → same_text (numbered_text a n) b ≡ false
    no_name a b n na nb l = go (cases_Bool (same_text (numbered_text a n) b))
      where
        go : (same_text (numbered_text a n) b ≡ true) ⊎ (same_text (numbered_text a n) b ≡ false) → same_text (numbered_text a n) b ≡ false
        go (inl e) = absurd (numbered_no_name a (numbered_text a n) n (fits a na n l) (subst NoDash (sym (same_bytes a b n nb (fits a na n l) e)) (undashed b nb)) refl)
        go (inr e) = e
