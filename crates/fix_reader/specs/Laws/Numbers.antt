-- The number that a value's digits are, read digit by digit, and two texts compared: laws for the reader's code. Rests on decimal and Lists.
use Rattle.std.specs.Prelude.{◌≡◌, ℕ, ◌+◌, ◌-◌, ◌*◌, ◌<◌, ◌≤◌, Bool, true, false, not, ◌&&◌, List, [], ◌∷◌, length, take, drop, replicate, ◌≢◌, nat_eq, nat_le, nat_lt, slice_index, refl, Option, None, Some}
use Rattle.std.proofs.Common.{sym, ap, ◌∙◌, add-one, arith, le-leb, le-ltb, lt-ltb, take-append-drop, take-suc, take_all, take_at, ext_get_or}
use Rattle.std.proofs.Math.Bool.{and-false}
use Rattle.std.proofs.Math.Decide.{ℕ_discrete}
use Rattle.std.proofs.lemmas.Bool.{not-true, not-false, lt-leb, and_from}
use Rattle.std.specs.Option.{is_some}
use Rattle.std.specs.Cmp.Lexicographic.{pointwise}
use Rattle.prelude.specs.Cases.{if◌then◌otherwise◌}
use Rattle.prelude.specs.Laws.Cases.{split_if, if_true, if_false}
use Rattle.prelude.specs.Number.{bound}
use Rattle.prelude.specs.Laws.Number.{bound_le}
use Rattle.prelude.specs.Span.{splice}
use Rattle.decimal.specs.Decimal.{is_digit, read_from, number_in, written}
use Rattle.decimal.specs.Laws.Back.{read_append}
use Rattle.fix_words.specs.Lists.{same}
use Rattle.fix_words.specs.Laws.Lists.{same_true, same_self, same_list}

-- ---- a number

-- one byte more
unfoldable pub step_of : ℕ → ℕ → ℕ
step_of n c = if is_digit c then n * 10 + (c - 48) otherwise n

abbrev pub word : ℕ
word = 18446744073709551616

abbrev pub Steps : ℕ → ℕ → Option ℕ → Type 0
Steps n c None = word ≤ step_of n c
Steps n c (Some m) = (m ≡ step_of n c) × (m < word)

-- the number, if it is below 2^64
abbrev pub Parses : List ℕ → Option ℕ → Type 0
Parses v None = word ≤ number_in v
Parses v (Some n) = (n ≡ number_in v) × (n < word)

pub parsed : (v : List ℕ) (o : Option ℕ) → Parses v o → is_some o ≡ nat_lt (number_in v) (bound 8)
parsed v None h = sym (le-ltb (number_in v) (bound 8) (omega arith))
parsed v (Some n) h = sym (lt-ltb (number_in v) (bound 8) (omega (arith, h.0, h.1)))

module _ (n c : ℕ) where
  pub step_other : is_digit c ≡ false → step_of n c ≡ n
  unfolding step_of
  step_other e = if_false (is_digit c) _ _ e

  pub step_more : is_digit c ≡ true → step_of n c ≡ n * 10 + (c - 48)
  unfolding step_of
  step_more e = if_true (is_digit c) _ _ e

  pub step_low : c < 48 → step_of n c ≡ n
  step_low h = step_other (ap (λ (b : Bool). b && nat_le c 57) (lt-leb 48 c h))

  pub step_high_lem : 57 < c → step_of n c ≡ n
  step_high_lem h = step_other (ap (λ (b : Bool). nat_le 48 c && b) (lt-leb c 57 h) ∙ and-false (nat_le 48 c))

  pub step_digit : 48 ≤ c → c ≤ 57 → step_of n c ≡ n * 10 + (c - 48)
  step_digit h l = step_more (and_from _ _ (le-leb 48 c h) (le-leb c 57 l))

read_up : (a : ℕ) (s : List ℕ) → a ≤ read_from a s
read_up a [] = omega arith
read_up a (c ∷ s) = split_if (λ x. a ≤ read_from x s) (is_digit c) (λ e. omega (arith, read_up (a * 10 + (c - 48)) s)) (λ e. read_up a s)

pub read_more : (v : List ℕ) (i : ℕ) → i < length v → number_in (take (i + 1) v) ≡ step_of (number_in (take i v)) (slice_index v i)
unfolding step_of
read_more v i h = ap (λ (j : ℕ). number_in (take j v)) (add-one i) ∙ ap number_in (take-suc v i 0 h) ∙ read_append 0 (take i v) (slice_index v i ∷ [])

pub read_least : (v : List ℕ) (i : ℕ) → number_in (take i v) ≤ number_in v
read_least v i =
    let e : number_in v ≡ read_from (number_in (take i v)) (drop i v) = ap number_in (sym (take-append-drop i v)) ∙ read_append 0 (take i v) (drop i v) in
    omega (arith, read_up (number_in (take i v)) (drop i v))

pub read_all : (v : List ℕ) (i : ℕ) → length v ≤ i → number_in (take i v) ≡ number_in v
read_all v i h = ap number_in (take_all i v h)

-- ---- two texts

same_not : (v w : List ℕ) → (v ≢ w) → same v w ≡ false
same_not v w h = go (same v w) refl
  where
    go : (x : Bool) → same v w ≡ x → same v w ≡ false
    go true e = absurd (h (same_true v w e))
    go false e = e

pub same_long : (v w : List ℕ) → (length v ≢ length w) → same v w ≡ false
same_long v w h = same_not v w (λ e. h (ap length e))

pub same_differ : (v w : List ℕ) (i : ℕ) → (slice_index v i ≢ slice_index w i) → same v w ≡ false
same_differ v w i h = same_not v w (λ e. h (ap (λ (l : List ℕ). slice_index l i) e))

pub same_all : (v w : List ℕ) → length v ≡ length w → ((i : ℕ) → i < length v → slice_index v i ≡ slice_index w i) → same v w ≡ true
same_all v w l h = ap (same v) (sym (ext_get_or 0 v w l h)) ∙ same_self v

-- what `==` and `!=` tell
pub told_other : (v w : List ℕ) (x : Bool) → x ≡ not (pointwise nat_eq v w) → x ≡ true → same v w ≡ false
told_other v w x e t = sym (same_list v w) ∙ not-true (pointwise nat_eq v w) (sym e ∙ t)

pub told_same : (v w : List ℕ) (x : Bool) → x ≡ not (pointwise nat_eq v w) → x ≡ false → same v w ≡ true
told_same v w x e t = sym (same_list v w) ∙ not-false (pointwise nat_eq v w) (sym e ∙ t)

-- ---- a decimal written into a buffer of its own

abbrev room : List ℕ
room = replicate 320 0

pub written_taken : (w : List ℕ) (e : ℕ) → e ≡ length w → length w ≤ 320 → take e (written room 0 w) ≡ w
unfolding written splice
written_taken w e z h =
    ap (λ (i : ℕ). take i (written room 0 w)) z
    ∙ ap (take (length w)) (if_true (nat_le (0 + length w) (length room)) (splice room 0 w) room (le-leb (0 + length w) 320 (omega arith)))
    ∙ take_at w (drop (length w) room) (length w) refl

pub written_front : (w : List ℕ) (e : ℕ) → e ≡ length w → length w ≤ 320 → take (e - 0) (written room 0 w) ≡ w
written_front w e z h =
    let d : e - 0 ≡ e = omega arith in
    ap (λ (i : ℕ). take i (written room 0 w)) d ∙ written_taken w e z h

-- ---- the sizes of numbers

pub small_size : (s : ℕ) → ((s ≢ 8) → (s ≢ 4) → s ≡ 1) → bound s ≤ word
small_size s h = go (ℕ_discrete s 8) (ℕ_discrete s 4)
  where
    go : Dec (s ≡ 8) → Dec (s ≡ 4) → bound s ≤ word
    go (yes a) b = let l = bound_le s 8 (omega arith) in omega arith
    go (no a) (yes b) = let l = bound_le s 8 (omega arith) in omega arith
    go (no a) (no b) = let e = h a b in let l = bound_le s 8 (omega arith) in omega arith
