-- Laws of texts: equality is one, and a text is known by the bytes that it holds. Rests on Texts and the laws of Below.
use Rattle.std.specs.Prelude.{◌≡◌, refl, Bool, false, ◌||◌, List, ◌++◌, eqb, leb, ltb, take, true, ℕ, ◌+◌, ◌-◌, ◌≤◌, ◌<◌, length, get_or, replicate}
use Rattle.std.proofs.Common.{sym, ◌∙◌, eqb-true, eq-eqb, leb-true, le-leb, lt-ltb, le-ltb, length-take, ext_get_or, length-take-le, ap, arith, length-append, get_or-take, get_or-append-add, take_all, take-take}
use Rattle.std.proofs.Math.Decide.{dec_lt}
use Rattle.std.proofs.Math.ListN.{get_or-replicate, get_or-append}
use Rattle.std.proofs.Math.Seq.{take-append-le}
use Rattle.std.proofs.lemmas.Bool.{and_parts, and_from}
use Rattle.std.proofs.lemmas.List.{length-replicate}
use Rattle.std.specs.Cmp.{both_ways}
use Rattle.prelude.specs.Below.{all_below}
use Rattle.prelude.specs.Laws.Below.{all_elim, all_intro}
use Rattle.prelude.specs.declared.Text.{Text}
use Rattle.prelude.specs.Texts.{contents, text_of, filled_at, is_text, agree_at, same_text}

-- ---- equality

pub same_text_lem : (a b : Text) → length a.bytes ≡ 32 → length b.bytes ≡ 32 → same_text a b ≡ true → a ≡ b
unfolding same_text
same_text_lem a b la lb e =
    let s = and_parts (eqb a.len b.len) (all_below (agree_at a.bytes b.bytes) 32) e in
    λ i. record {
      bytes =
          ext_get_or 0 a.bytes b.bytes (la ∙ sym lb)
          (λ k h. eqb-true (get_or a.bytes k 0) (get_or b.bytes k 0) (all_elim (agree_at a.bytes b.bytes) 32 s.1 k (omega arith))) i;
      len = eqb-true a.len b.len s.0 i;
    }

pub same_self : (a : Text) → same_text a a ≡ true
unfolding same_text
same_self a =
    rw (eq-eqb a.len a.len refl)
    (all_intro (agree_at a.bytes a.bytes) 32 (λ k h. eq-eqb (get_or a.bytes k 0) (get_or a.bytes k 0) refl))

agree_sym : (a b : List ℕ) (k : ℕ) → agree_at a b k ≡ true → agree_at b a k ≡ true
agree_sym a b k e = eq-eqb (get_or b k 0) (get_or a k 0) (sym (eqb-true (get_or a k 0) (get_or b k 0) e))

agree_trans : (a b c : List ℕ) (k : ℕ) → agree_at a b k ≡ true → agree_at b c k ≡ true → agree_at a c k ≡ true
agree_trans a b c k e f = eq-eqb (get_or a k 0) (get_or c k 0) (eqb-true (get_or a k 0) (get_or b k 0) e ∙ eqb-true (get_or b k 0) (get_or c k 0) f)

pub same_back : (a b : Text) → same_text a b ≡ true → same_text b a ≡ true
unfolding same_text
same_back a b e =
    let s = and_parts (eqb a.len b.len) (all_below (agree_at a.bytes b.bytes) 32) e in
    and_from _ _ (eq-eqb b.len a.len (sym (eqb-true a.len b.len s.0)))
    (all_intro (agree_at b.bytes a.bytes) 32 (λ k h. agree_sym a.bytes b.bytes k (all_elim (agree_at a.bytes b.bytes) 32 s.1 k h)))

pub same_trans : (a b c : Text) → same_text a b ≡ true → same_text b c ≡ true → same_text a c ≡ true
unfolding same_text
same_trans a b c e f =
    let s = and_parts (eqb a.len b.len) (all_below (agree_at a.bytes b.bytes) 32) e in
    let t = and_parts (eqb b.len c.len) (all_below (agree_at b.bytes c.bytes) 32) f in
    and_from _ _ (eq-eqb a.len c.len (eqb-true a.len b.len s.0 ∙ eqb-true b.len c.len t.0))
    (all_intro (agree_at a.bytes c.bytes) 32
    (λ k h. agree_trans a.bytes b.bytes c.bytes k
    (all_elim (agree_at a.bytes b.bytes) 32 s.1 k h) (all_elim (agree_at b.bytes c.bytes) 32 t.1 k h)))

pub same_sym : (a b : Text) → same_text a b ≡ same_text b a
same_sym a b = both_ways (same_text a b) (same_text b a) (same_back a b) (same_back b a)

-- a text may stand for its equal
pub same_right : (a b c : Text) → same_text b c ≡ true → same_text a b ≡ same_text a c
same_right a b c e = both_ways (same_text a b) (same_text a c) (λ h. same_trans a b c h e) (λ h. same_trans a c b h (same_back b c e))

pub same_left : (a b c : Text) → same_text a b ≡ true → same_text a c ≡ same_text b c
same_left a b c e = same_sym a c ∙ same_right c a b e ∙ same_sym c b

pub same_length : (a b : Text) → same_text a b ≡ true → a.len ≡ b.len
unfolding same_text
same_length a b e = eqb-true a.len b.len (and_parts (eqb a.len b.len) (all_below (agree_at a.bytes b.bytes) 32) e).0

-- ---- a text and the bytes that it holds

module _ (l : List ℕ) (short : length l ≤ 32) where
  pub long_text : length (text_of l).bytes ≡ 32
  unfolding text_of
  long_text = simp (length-take, length-append, length-replicate) (omega arith)

  pub contents_text : contents (text_of l) ≡ l
  unfolding contents text_of
  contents_text =
      take-take (length l) 32 (l ++ replicate 32 0) short
      ∙ take-append-le (length l) l (replicate 32 0) (omega arith)
      ∙ take_all (length l) l (omega arith)

  -- byte k of the text: the list's, or zero behind it
  text_within : (k : ℕ) → k < length l → get_or (text_of l).bytes k 0 ≡ get_or l k 0
  unfolding text_of
  text_within k h = get_or-take 32 (l ++ replicate 32 0) k 0 (omega arith) ∙ get_or-append l (replicate 32 0) 0 k h

  text_behind : (k : ℕ) → length l ≤ k → k < 32 → get_or (text_of l).bytes k 0 ≡ 0
  unfolding text_of
  text_behind k h u =
      let d : ℕ = k - length l in
      let e : k ≡ length l + d = omega arith in
      get_or-take 32 (l ++ replicate 32 0) k 0 u
      ∙ ap (λ (n : ℕ). get_or (l ++ replicate 32 0) n 0) e
      ∙ get_or-append-add l (replicate 32 0) d 0
      ∙ get_or-replicate 32 d 0 0 (omega arith)

  filled_text : (k : ℕ) → k < 32 → filled_at (text_of l) k ≡ true
  unfolding text_of
  filled_text k u = by (dec_lt k (length l))
    where
      by : Dec (k < length l) → filled_at (text_of l) k ≡ true
      by (yes h) = rw (lt-ltb k (length l) h)
      by (no h) =
          let g : length l ≤ k = omega arith in
          rw (le-ltb k (length l) g) (eq-eqb (get_or (text_of l).bytes k 0) 0 (text_behind k g u))

  pub is_text_lem : is_text (text_of l) ≡ true
  unfolding is_text text_of
  is_text_lem = rw (le-leb (length l) 32 short) (all_intro (filled_at (text_of l)) 32 filled_text)

-- a text is known by the bytes that it holds
pub text_contents : (t : Text) → length t.bytes ≡ 32 → is_text t ≡ true → text_of (contents t) ≡ t
unfolding is_text contents text_of
text_contents t long e =
    let s = and_parts (leb t.len 32) (all_below (filled_at t) 32) e in
    let short : t.len ≤ 32 = leb-true t.len 32 s.0 in
    let n : length (take t.len t.bytes) ≡ t.len = length-take-le t.len t.bytes (omega arith) in
    let c : List ℕ = take t.len t.bytes in
    λ i. record {
      bytes =
          ext_get_or 0 (text_of c).bytes t.bytes (long_text c (omega arith) ∙ sym long)
          (λ k h. let u : k < 32 = omega (arith, long_text c (omega arith)) in at short n (all_elim (filled_at t) 32 s.1) k u (dec_lt k t.len)) i;
      len = n i;
    }
  where
    at : t.len ≤ 32 → length (take t.len t.bytes) ≡ t.len → ((k : ℕ) → k < 32 → filled_at t k ≡ true)
        → (k : ℕ) → k < 32 → Dec (k < t.len) → get_or (text_of (take t.len t.bytes)).bytes k 0 ≡ get_or t.bytes k 0
    at short n f k u (yes h) =
        text_within (take t.len t.bytes) (omega arith) k (omega arith) ∙ get_or-take t.len t.bytes k 0 h
    at short n f k u (no h) =
        text_behind (take t.len t.bytes) (omega arith) k (omega arith) u
        ∙ sym (eqb-true (get_or t.bytes k 0) 0 (behind (ltb k t.len) (le-ltb k t.len (omega arith)) (f k u)))
      where
        behind : {b : Bool} (a : Bool) → a ≡ false → a || b ≡ true → b ≡ true
        behind false q e = e
        behind true q e = let z : ◌≡◌ {A = ℕ} 0 1 = cc in absurd (omega arith)
