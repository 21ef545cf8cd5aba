-- Comparison and range of a text in place, and its range byte by byte: what loops over its bytes show. Rests on Stored.
use Rattle.std.specs.Prelude.{◌≡◌, refl, Bool, true, false, ◌&&◌, List, [], ◌∷◌, ◌++◌, ℕ, suc, ◌+◌, ◌≤◌, eqb, length, get_or, take, drop, replicate}
use Rattle.std.proofs.Common.{sym, ap, ◌∙◌, arith, add-one, drop-cons, length-drop, length-take-le, eqb-true, ne_eqb, lt-ltb, le-ltb, le-leb}
use Rattle.std.proofs.lemmas.Bool.{eqb-false}
use Rattle.std.specs.List.{fold}
use Rattle.std.specs.Int.Bits.{bit_or, or_add_and}
use Rattle.std.proofs.lemmas.Nat.{and_le_l, and_le_r}
use Rattle.prelude.specs.Below.{all_below}
use Rattle.prelude.specs.Laws.Below.{all_intro, all_step}
use Rattle.prelude.specs.Span.{splice}
use Rattle.prelude.specs.Laws.Span.{padded}
use Rattle.prelude.specs.Texts.{text_at, same_text, filled_at, is_text, contents, text_of}
use Rattle.prelude.specs.declared.Text.{Text}
use Rattle.text.specs.Stored.{text_is, text_fine}

-- if the slice goes on far enough, the text in place is the text
pub text_is_here : (s : List ℕ) (at : ℕ) (t : Text) → at + 33 ≤ length s → text_is s at t ≡ same_text (text_at s at) t
unfolding text_is
text_is_here s at t h = rw (le-leb (at + 33) (length s) h)

pub text_fine_here : (s : List ℕ) (at : ℕ) → at + 33 ≤ length s → text_fine s at ≡ is_text (text_at s at)
unfolding text_fine
text_fine_here s at h = rw (le-leb (at + 33) (length s) h)

-- ---- zeros behind a text, gathered by OR

or_none : (a b : ℕ) → bit_or a b ≡ 0 → (a ≡ 0) × (b ≡ 0)
or_none a b e = (omega (arith, or_add_and a b, and_le_r a b, e), omega (arith, or_add_and a b, and_le_l a b, e))

or_zero : (a b : ℕ) → eqb (bit_or a b) 0 ≡ eqb a 0 && eqb b 0
or_zero a b = go (eqb a 0) (eqb b 0) refl refl
  where
    go : (u v : Bool) → eqb a 0 ≡ u → eqb b 0 ≡ v → eqb (bit_or a b) 0 ≡ u && v
    go true true p q = rw (eqb-true a 0 p, eqb-true b 0 q)
    go true false p q = ne_eqb (bit_or a b) 0 (λ e. eqb-false b 0 q (or_none a b e).1)
    go false v p q = ne_eqb (bit_or a b) 0 (λ e. eqb-false a 0 p (or_none a b e).0)

module _ (t : Text) where
  -- the bytes of the text itself are not looked at
  pub fill_none : all_below (filled_at t) t.len ≡ true
  fill_none = all_intro (filled_at t) t.len (λ k h. rw (lt-ltb k t.len h))

  -- one byte more
  pub fill_more : (k a x : ℕ) → t.len ≤ k → get_or t.bytes k 0 ≡ x → eqb a 0 ≡ all_below (filled_at t) k
      → eqb (bit_or a x) 0 ≡ all_below (filled_at t) (k + 1)
  fill_more k a x l g e =
      or_zero a x
      ∙ ap (λ (v : Bool). v && eqb x 0) e
      ∙ sym (all_step (filled_at t) k ∙ ap (λ (v : Bool). all_below (filled_at t) k && v) (rw (le-ltb k t.len l, g)))

  -- all bytes behind the text, gathered into a
  fill_rest : (xs : List ℕ) (k a : ℕ) → length t.bytes ≡ 32 → t.len ≤ k → k + length xs ≡ 32 → drop k t.bytes ≡ xs
      → eqb a 0 ≡ all_below (filled_at t) k → eqb (fold bit_or a xs) 0 ≡ all_below (filled_at t) 32
  fill_rest [] k a w l n d e = let z : k ≡ 32 = omega arith in e ∙ ap (all_below (filled_at t)) z
  fill_rest (x ∷ xs) k a w l n d e =
      let c : get_or t.bytes k 0 ∷ drop (suc k) t.bytes ≡ x ∷ xs = sym (drop-cons t.bytes k 0 (omega arith)) ∙ d in
      let h : get_or t.bytes k 0 ≡ x = cc in
      let r : drop (k + 1) t.bytes ≡ xs = rw add-one (cc) in
      fill_rest xs (k + 1) (bit_or a x) w (omega arith) (omega arith) r (fill_more k a x l h e)

-- 32 bytes and a length are a text as it is stored, if no bit stands behind it
pub stored_text : (l : List ℕ) (n : ℕ) → length l ≡ 32 → n ≤ 32 → eqb (fold bit_or 0 (drop n l)) 0 ≡ is_text (record { bytes = l; len = n })
unfolding is_text
stored_text l n w h =
    let t : Text = record { bytes = l; len = n } in
    fill_rest t (drop n l) n 0 w (omega arith) (simp length-drop (omega arith)) refl (sym (fill_none t)) ∙ rw (le-leb n 32 h)

-- the bytes of a text over zeros
pub trimmed_text : (t : Text) (n : ℕ) (w : List ℕ) → length t.bytes ≡ 32 → t.len ≤ 32 → n ≡ t.len → w ≡ take n t.bytes
    → record { bytes = w ++ drop n (replicate 32 0); len = t.len } ≡ text_of (contents t)
unfolding contents text_of splice
trimmed_text t n w l h e g =
    let m : length (take t.len t.bytes) ≡ t.len = length-take-le t.len t.bytes (omega arith) in
    let p : w ≡ take t.len t.bytes = g ∙ ap (λ (k : ℕ). take k t.bytes) e in
    let b : w ++ drop n (replicate 32 0) ≡ take 32 (take t.len t.bytes ++ replicate 32 0) =
    rw (p, e ∙ sym m) (padded 32 (take t.len t.bytes) (omega arith)) in
    λ i. record { bytes = b i; len = sym m i }
