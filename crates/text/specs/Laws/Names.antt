-- The laws of numbered names: each is a text, and its name and its number are known from it. Rests on Numbered.
use Rattle.std.specs.Prelude.{◌≡◌, refl, true, ℕ, suc, ◌+◌, ◌≤◌, ◌<◌, leb, get_or, List, [], ◌∷◌, ◌++◌, length}
use Rattle.std.proofs.Common.{sym, subst, ◌∙◌, arith, le-leb, leb-true, length-take, ap}
use Rattle.prelude.specs.Cases.{if◌then◌otherwise◌}
use Rattle.prelude.specs.Laws.Cases.{split_if}
use Rattle.prelude.specs.Texts.{contents, text_of, is_text}
use Rattle.prelude.specs.Laws.Texts.{long_text, contents_text, is_text_lem, text_contents}
use Rattle.prelude.specs.declared.Text.{Text}
use Rattle.text.specs.Numbered.{decimal, numbered_bytes, numbered_text}
use Rattle.text.specs.Laws.Numbered.{decimal_same, length_decimal, width_most, length_numbered_bytes}

-- no byte is a dash
abbrev pub NoDash : List ℕ → Type 0
NoDash [] = Unit {0}
NoDash (x ∷ xs) = (x ≡ 45 → ⊥) × NoDash xs

pub no_dash : (xs : List ℕ) → ((k : ℕ) → k < length xs → get_or xs k 0 ≡ 45 → ⊥) → NoDash xs
no_dash [] h = tt
no_dash (x ∷ xs) h = (h 0 (omega arith), no_dash xs (λ k l. h (suc k) (omega arith)))

-- ---- when a numbered name fits

unfoldable pub Fits : Text → ℕ → Type 0
Fits t k = length (numbered_bytes t k) ≤ 32

-- a name of at most 26 bytes, with any number of 16 bits
pub numbered_fits : (t : Text) (k : ℕ) → t.len ≤ 26 → k < 65536 → Fits t k
unfolding Fits contents
numbered_fits t k h l =
    let n : length (contents t) ≤ 26 = simp length-take (omega arith) in
    omega (arith, length_numbered_bytes t k, length_decimal k l, width_most k)

module _ (t : Text) (k : ℕ) where
  -- a text, whether it fits or not
  pub numbered_is_text : is_text (numbered_text t k) ≡ true
  unfolding numbered_text text_of
  numbered_is_text =
      split_if (λ u. is_text u ≡ true) (leb (length (numbered_bytes t k)) 32)
      (λ e. is_text_lem (numbered_bytes t k) (leb-true (length (numbered_bytes t k)) 32 e))
      (λ e. is_text_lem [] (omega arith))

  pub numbered_long : length (numbered_text t k).bytes ≡ 32
  unfolding numbered_text
  numbered_long =
      split_if (λ (u : Text). length u.bytes ≡ 32) (leb (length (numbered_bytes t k)) 32)
      (λ e. long_text (numbered_bytes t k) (leb-true (length (numbered_bytes t k)) 32 e))
      (λ e. refl)

  numbered_is : Fits t k → numbered_text t k ≡ text_of (numbered_bytes t k)
  unfolding Fits numbered_text if◌then◌otherwise◌
  numbered_is f = rw (le-leb (length (numbered_bytes t k)) 32 f)

  pub numbered_contents : Fits t k → contents (numbered_text t k) ≡ numbered_bytes t k
  unfolding Fits
  numbered_contents f = ap contents (numbered_is f) ∙ contents_text (numbered_bytes t k) f

  pub numbered_len : Fits t k → (numbered_text t k).len ≡ length (contents t) + (length (decimal k) + 1)
  unfolding text_of
  numbered_len f = ap (λ (u : Text). u.len) (numbered_is f) ∙ length_numbered_bytes t k

-- ---- the name and the number are known

-- two lists that go on with a dash, before which neither has one
split_dash : (xs us ys vs : List ℕ) → NoDash xs → NoDash us → xs ++ (45 ∷ ys) ≡ us ++ (45 ∷ vs) → (xs ≡ us) × (ys ≡ vs)
split_dash [] [] ys vs p q e = (refl, cc)
split_dash [] (u ∷ us) ys vs p q e = absurd (q.0 (let s : u ≡ 45 = cc in s))
split_dash (x ∷ xs) [] ys vs p q e = absurd (p.0 (let s : x ≡ 45 = cc in s))
split_dash (x ∷ xs) (u ∷ us) ys vs p q e =
    let h : x ≡ u = cc in
    let f : xs ++ (45 ∷ ys) ≡ us ++ (45 ∷ vs) = cc in
    let r : (xs ≡ us) × (ys ≡ vs) = split_dash xs us ys vs p.1 q.1 f in
    (λ i. h i ∷ r.0 i, r.1)

-- a list with a dash is not one without
dash_in : (xs ys : List ℕ) → NoDash (xs ++ (45 ∷ ys)) → ⊥
dash_in [] ys h = h.0 refl
dash_in (x ∷ xs) ys h = dash_in xs ys h.1

-- equal numbered names of two names without a dash have the same name and the same number
pub numbered_same : (t u : Text) (j k : ℕ) → Fits t j → Fits u k → NoDash (contents t) → NoDash (contents u) → numbered_text t j ≡ numbered_text u k
    → (contents t ≡ contents u) × (j ≡ k)
numbered_same t u j k f g p q e =
    let s : (contents t ≡ contents u) × (decimal j ≡ decimal k) =
    split_dash (contents t) (contents u) (decimal j) (decimal k) p q (sym (numbered_contents t j f) ∙ ap contents e ∙ numbered_contents u k g) in
    (s.0, decimal_same j k s.1)

-- and so the same text, if the names are texts
pub numbered_name : (t u : Text) (j k : ℕ) → Fits t j → Fits u k → NoDash (contents t) → NoDash (contents u)
    → length t.bytes ≡ 32 → length u.bytes ≡ 32 → is_text t ≡ true → is_text u ≡ true → numbered_text t j ≡ numbered_text u k → t ≡ u
numbered_name t u j k f g p q lt lu it iu e =
    sym (text_contents t lt it) ∙ ap text_of (numbered_same t u j k f g p q e).0 ∙ text_contents u lu iu

-- no name without a dash is a numbered one
pub numbered_no_name : (t u : Text) (k : ℕ) → Fits t k → NoDash (contents u) → numbered_text t k ≡ u → ⊥
numbered_no_name t u k f q e = dash_in (contents t) (decimal k) (subst NoDash (sym (ap contents e) ∙ numbered_contents t k f) q)

-- one name's numbers give distinct texts
same_tail : (xs ys vs : List ℕ) → xs ++ ys ≡ xs ++ vs → ys ≡ vs
same_tail [] ys vs e = e
same_tail (x ∷ xs) ys vs e = let f : xs ++ ys ≡ xs ++ vs = cc in same_tail xs ys vs f

pub numbered_apart : (t : Text) (j k : ℕ) → Fits t j → Fits t k → numbered_text t j ≡ numbered_text t k → j ≡ k
numbered_apart t j k f g e =
    let s : ◌≡◌ {A = List ℕ} (45 ∷ decimal j) (45 ∷ decimal k) =
    same_tail (contents t) (45 ∷ decimal j) (45 ∷ decimal k) (sym (numbered_contents t j f) ∙ ap contents e ∙ numbered_contents t k g) in
    decimal_same j k cc
