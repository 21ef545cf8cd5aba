-- Bytes pushed behind a text, one or many: facts of `push_text` and `push_all`. Rests on Stored.
use Rattle.std.specs.Prelude.{◌≡◌, refl, ℕ, ◌+◌, ◌≤◌, ◌<◌, ltb, length, take, set, List, [], ◌∷◌, ◌++◌, replicate}
use Rattle.std.proofs.Common.{sym, ap, ◌∙◌, arith, lt-ltb, length-append, append_assoc, append-nil}
use Rattle.std.proofs.Math.Seq.{take-set-lt, set-append_seam}
use Rattle.std.proofs.lemmas.List.{replicate-append-replicate, take-append-le}
use Rattle.prelude.specs.Cases.{if◌then◌otherwise◌}
use Rattle.prelude.specs.Texts.{text_of}
use Rattle.prelude.specs.declared.Text.{Text}
use Rattle.text.specs.Stored.{push_text, push_all}

module _ (l : List ℕ) where
  pub push_text_lem : (x : ℕ) → length l < 32 → push_text (text_of l) x ≡ text_of (l ++ (x ∷ []))
  unfolding push_text text_of if◌then◌otherwise◌
  push_text_lem x h = rw (lt-ltb (length l) 32 h) (λ i. record { bytes = bytes i; len = sym (length-append l (x ∷ [])) i })
    where
      -- the zeros behind x, one more than are looked at
      tail : l ++ (x ∷ replicate 32 0) ≡ (l ++ (x ∷ replicate 31 0)) ++ (0 ∷ [])
      tail = ap (λ (z : List ℕ). l ++ (x ∷ z)) (sym (replicate-append-replicate 31 1 0)) ∙ sym (append_assoc l (x ∷ replicate 31 0) (0 ∷ []))

      enough_long : 32 ≤ length (l ++ (x ∷ replicate 31 0))
      enough_long = simp length-append (omega arith)

      bytes : set (take 32 (l ++ replicate 32 0)) (length l) x ≡ take 32 ((l ++ (x ∷ [])) ++ replicate 32 0)
      bytes =
          sym (take-set-lt 32 (l ++ replicate 32 0) (length l) x h)
          ∙ ap (take 32) (set-append_seam l 0 (replicate 31 0) x)
          ∙ sym (take-append-le 32 (l ++ (x ∷ replicate 31 0)) (0 ∷ []) enough_long)
          ∙ ap (take 32) (sym tail ∙ sym (append_assoc l (x ∷ []) (replicate 32 0)))

pub push_all_text : (l xs : List ℕ) → length l + length xs ≤ 32 → push_all (text_of l) xs ≡ text_of (l ++ xs)
push_all_text l [] h = ap text_of (sym (append-nil l))
push_all_text l (x ∷ xs) h =
    let n : length (l ++ (x ∷ [])) ≡ length l + 1 = length-append l (x ∷ []) in
    ap (λ (t : Text). push_all t xs) (push_text_lem l x (omega arith))
    ∙ push_all_text (l ++ (x ∷ [])) xs (omega arith)
    ∙ ap text_of (append_assoc l (x ∷ []) xs)

pub push_all_more : (t : Text) (xs : List ℕ) (x : ℕ) → push_all t (xs ++ (x ∷ [])) ≡ push_text (push_all t xs) x
push_all_more t [] x = refl
push_all_more t (y ∷ xs) x = push_all_more (push_text t y) xs x
