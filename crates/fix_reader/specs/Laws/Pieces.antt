-- The first field of bytes, as code finds it: a tag of at most three digits, '=', printing bytes, SOH; and that there is no other way to read it.
-- Rests on Spelling.
use Rattle.std.specs.Prelude.{◌≡◌, ℕ, suc, ◌+◌, ◌-◌, ◌*◌, ◌/◌, ◌%◌, ◌<◌, ◌≤◌, true, ◌⊎◌, List, [], ◌∷◌, ◌++◌, length, drop, ◌≢◌, slice_index, slice_index_or, Option, None, Some}
use Rattle.std.proofs.Common.{sym, ap, ◌∙◌, append_assoc, inl, inr, ⊎_elim, arith, add-one, leb-true, le-leb, lit<, length-append, length-drop, take-append-drop, drop-cons, get_or-drop, get_or-append-add, drop-drop}
use Rattle.std.proofs.Math.Decide.{dec_lt}
use Rattle.std.proofs.Math.ListN.{get_or-eq_default, get_or-append}
use Rattle.prelude.specs.Span.{span}
use Rattle.prelude.specs.Laws.Span.{get_span, length_span}
use Rattle.decimal.specs.Decimal.{digits, lowest}
use Rattle.decimal.specs.Laws.Width.{digits_one, digits_more}
use Rattle.fix_reader.specs.declared.pieces.Tag.{Tag}
use Rattle.fix_reader.specs.declared.pieces.Piece.{Piece}
use Rattle.fix_words.specs.Lists.{every, is_print, after}
use Rattle.fix_words.specs.Spelling.{Field, field, soh, equals, piece}
use Rattle.fix_words.specs.Laws.Lists.{after_cut, every_below, below_every}
use Rattle.fix_words.specs.Laws.Digits.{digits_not_above}

-- ---- a byte that is not 0 stands within the list

stands_at : (t : List ℕ) (i x : ℕ) → 0 < x → slice_index t i ≡ x → i < length t
stands_at t i x p e = go (dec_lt i (length t))
  where
    go : Dec (i < length t) → i < length t
    go (yes h) = h
    go (no h) = absurd (omega (arith, get_or-eq_default t 0 {n = i} (omega arith)))

cons_at : (t : List ℕ) (i x : ℕ) → 0 < x → slice_index t i ≡ x → drop i t ≡ x ∷ drop (suc i) t
cons_at t i x p e = drop-cons t i 0 (stands_at t i x p e) ∙ ap (λ (y : ℕ). y ∷ drop (suc i) t) e

-- ---- a tag

digits_two : (n : ℕ) → 10 ≤ n → n < 100 → digits n ≡ lowest (n / 10) ∷ lowest n ∷ []
digits_two n h l = digits_more n h ∙ ap (λ (s : List ℕ). s ++ (lowest n ∷ [])) (digits_one (n / 10) (omega arith))

digits_three : (n : ℕ) → 100 ≤ n → n < 1000 → digits n ≡ lowest (n / 10 / 10) ∷ lowest (n / 10) ∷ lowest n ∷ []
digits_three n h l = digits_more n (omega arith) ∙ ap (λ (s : List ℕ). s ++ (lowest n ∷ [])) (digits_two (n / 10) (omega arith) (omega arith))

-- the bytes begin with the tag n and '='
pub record TagAt (t : List ℕ) (n at : ℕ) : Type 0 where
  pub some : 0 < n
  pub small : n < 1000
  pub place : at ≡ length (digits n) + 1
  pub whole : t ≡ digits n ++ (equals ∷ drop at t)

module _ (t : List ℕ) (n : ℕ) where
  pub tag_one : 0 < n → n < 10 → slice_index t 0 ≡ 48 + n → slice_index t 1 ≡ equals → TagAt t n 2
  tag_one p h a b =
      let d : digits n ≡ (48 + n) ∷ [] = digits_one n h ∙ ap (λ (x : ℕ). x ∷ []) (omega arith) in
      record {
        some = p;
        small = omega arith;
        place = sym (ap (λ (s : List ℕ). length s + 1) d);
        whole =
            cons_at t 0 (48 + n) (omega arith) a
            ∙ ap (λ (s : List ℕ). (48 + n) ∷ s) (cons_at t 1 equals (omega arith) b)
            ∙ sym (ap (λ (s : List ℕ). s ++ (equals ∷ drop 2 t)) d);
      }

  pub tag_two : 10 ≤ n → n < 100 → slice_index t 0 ≡ 48 + n / 10 → slice_index t 1 ≡ 48 + n % 10 → slice_index t 2 ≡ equals → TagAt t n 3
  tag_two p h a b e =
      let d : digits n ≡ (48 + n / 10) ∷ (48 + n % 10) ∷ [] = digits_two n p h ∙ ap (λ (x : ℕ). x ∷ lowest n ∷ []) (omega arith) in
      record {
        some = omega arith;
        small = omega arith;
        place = sym (ap (λ (s : List ℕ). length s + 1) d);
        whole =
            cons_at t 0 (48 + n / 10) (omega arith) a
            ∙ ap (λ (s : List ℕ). (48 + n / 10) ∷ s) (cons_at t 1 (48 + n % 10) (omega arith) b)
            ∙ ap (λ (s : List ℕ). (48 + n / 10) ∷ (48 + n % 10) ∷ s) (cons_at t 2 equals (omega arith) e)
            ∙ sym (ap (λ (s : List ℕ). s ++ (equals ∷ drop 3 t)) d);
      }

  pub tag_three : 100 ≤ n → n < 1000 → slice_index t 0 ≡ 48 + n / 10 / 10 → slice_index t 1 ≡ 48 + n / 10 % 10 → slice_index t 2 ≡ 48 + n % 10
      → slice_index t 3 ≡ equals → TagAt t n 4
  tag_three p h a b c e =
      let d : digits n ≡ (48 + n / 10 / 10) ∷ (48 + n / 10 % 10) ∷ (48 + n % 10) ∷ [] =
      digits_three n p h ∙ ap (λ (x : ℕ). x ∷ lowest (n / 10) ∷ lowest n ∷ []) (omega arith) in
      record {
        some = omega arith;
        small = h;
        place = sym (ap (λ (s : List ℕ). length s + 1) d);
        whole =
            cons_at t 0 (48 + n / 10 / 10) (omega arith) a
            ∙ ap (λ (s : List ℕ). (48 + n / 10 / 10) ∷ s) (cons_at t 1 (48 + n / 10 % 10) (omega arith) b)
            ∙ ap (λ (s : List ℕ). (48 + n / 10 / 10) ∷ (48 + n / 10 % 10) ∷ s) (cons_at t 2 (48 + n % 10) (omega arith) c)
            ∙ ap (λ (s : List ℕ). (48 + n / 10 / 10) ∷ (48 + n / 10 % 10) ∷ (48 + n % 10) ∷ s) (cons_at t 3 equals (omega arith) e)
            ∙ sym (ap (λ (s : List ℕ). s ++ (equals ∷ drop 4 t)) d);
      }

pub tag_within : (t : List ℕ) (n at : ℕ) → TagAt t n at → at ≤ length t
tag_within t n at k = omega (arith, k.place, ap length k.whole ∙ length-append (digits n) (equals ∷ drop at t), length-drop at t)

-- what the bytes are if a tag of one, two or three digits stands first
pub record One (t : List ℕ) : Type 0 where
  pub low : 48 < slice_index t 0
  pub high : slice_index_or t 0 0 ≤ 57
  pub end : slice_index_or t 1 0 ≡ equals

pub record Two (t : List ℕ) : Type 0 where
  pub low : 48 < slice_index t 0
  pub high : slice_index_or t 0 0 ≤ 57
  pub low1 : 48 ≤ slice_index t 1
  pub high1 : slice_index_or t 1 0 ≤ 57
  pub end : slice_index_or t 2 0 ≡ equals

pub record Three (t : List ℕ) : Type 0 where
  pub low : 48 < slice_index t 0
  pub high : slice_index_or t 0 0 ≤ 57
  pub low1 : 48 ≤ slice_index t 1
  pub high1 : slice_index_or t 1 0 ≤ 57
  pub low2 : 48 ≤ slice_index t 2
  pub high2 : slice_index_or t 2 0 ≤ 57
  pub end : slice_index_or t 3 0 ≡ equals

tag_cases : (t : List ℕ) (n : ℕ) → 0 < n → n < 1000 → (u : List ℕ) → t ≡ digits n ++ (equals ∷ u) → One t ⊎ (Two t ⊎ Three t)
tag_cases t n p h u w = go (dec_lt n 10) (dec_lt n 100)
  where
    at : (d : List ℕ) → digits n ≡ d → (i : ℕ) → slice_index t i ≡ slice_index (d ++ (equals ∷ u)) i
    at d e i = ap (λ (s : List ℕ). slice_index s i) (w ∙ ap (λ (s : List ℕ). s ++ (equals ∷ u)) e)

    go : Dec (n < 10) → Dec (n < 100) → One t ⊎ (Two t ⊎ Three t)
    go (yes l) m =
        let g = at (lowest n ∷ []) (digits_one n l) in
        let g0 : slice_index_or t 0 0 ≡ lowest n = g 0 in
        inl (record { low = omega arith; high = omega arith; end = g 1 })
    go (no l) (yes m) =
        let g = at (lowest (n / 10) ∷ lowest n ∷ []) (digits_two n (omega arith) m) in
        let g0 : slice_index_or t 0 0 ≡ lowest (n / 10) = g 0 in
        let g1 : slice_index_or t 1 0 ≡ lowest n = g 1 in
        inr (inl (record { low = omega arith; high = omega arith; low1 = omega arith; high1 = omega arith; end = g 2 }))
    go (no l) (no m) =
        let g = at (lowest (n / 10 / 10) ∷ lowest (n / 10) ∷ lowest n ∷ []) (digits_three n (omega arith) h) in
        let g0 : slice_index_or t 0 0 ≡ lowest (n / 10 / 10) = g 0 in
        let g1 : slice_index_or t 1 0 ≡ lowest (n / 10) = g 1 in
        let g2 : slice_index_or t 2 0 ≡ lowest n = g 2 in
        inr (inr (record { low = omega arith; high = omega arith; low1 = omega arith; high1 = omega arith; low2 = omega arith; high2 = omega arith; end = g 3 }))

-- a byte as a digit, if it is one
abbrev pub Digit : ℕ → Option ℕ → Type 0
Digit c None = 48 ≤ c → 57 < c
Digit c (Some d) = (c ≡ 48 + d) × (d < 10)

-- the tag that code found, or that none stands first
abbrev pub Tagged : List ℕ → Option Tag → Type 0
Tagged t None = (n : ℕ) → 0 < n → n < 1000 → (u : List ℕ) → t ≢ digits n ++ (equals ∷ u)
Tagged t (Some r) = TagAt t r.tag r.at

pub with_tag : (t : List ℕ) (r : Tag) → TagAt t r.tag r.at → Tagged t (Some r)
with_tag t r h = h

pub no_tag : (t : List ℕ) → (One t → ⊥) → (Two t → ⊥) → (Three t → ⊥) → Tagged t None
no_tag t a b c n p h u w = ⊎_elim a (λ y. ⊎_elim b c y) (tag_cases t n p h u w)

-- no '=' stands where one would
pub no_equals : (t : List ℕ) → (1 < length t → slice_index t 1 ≢ equals) → (2 < length t → slice_index t 2 ≢ equals)
    → (3 < length t → slice_index t 3 ≢ equals) → Tagged t None
no_equals t a b c =
    no_tag t (λ o. a (stands_at t 1 equals (omega arith) o.end) o.end) (λ o. b (stands_at t 2 equals (omega arith) o.end) o.end)
    (λ o. c (stands_at t 3 equals (omega arith) o.end) o.end)

-- a tag from its digits, the first of which is not 0
module _ (t : List ℕ) (a : ℕ) (lead : slice_index t 0 ≢ 48) (p : Digit (slice_index t 0) (Some a)) where
  pub one_digit : slice_index t 1 ≡ equals → TagAt t a 2
  one_digit e = tag_one t a (omega (arith, p.0)) p.1 p.0 e

  module _ (b : ℕ) (q : Digit (slice_index t 1) (Some b)) where
    pub two_digits : slice_index t 2 ≡ equals → TagAt t (a * 10 + b) 3
    two_digits e = tag_two t (a * 10 + b) (omega (arith, p.0)) (omega (arith, p.1, q.1)) (omega (arith, p.0, q.1)) (omega (arith, q.0, q.1)) e

    pub three_digits : (c : ℕ) → Digit (slice_index t 2) (Some c) → slice_index t 3 ≡ equals → TagAt t ((a * 10 + b) * 10 + c) 4
    three_digits c r e =
        tag_three t ((a * 10 + b) * 10 + c) (omega (arith, p.0)) (omega (arith, p.1, q.1, r.1)) (omega (arith, p.0, q.1, r.1)) (omega (arith, q.0, q.1, r.1))
        (omega (arith, r.0, r.1)) e

-- ---- where the printing bytes end

pub record Ends (t : List ℕ) (from r : ℕ) : Type 0 where
  pub order : from ≤ r
  pub within : r ≤ length t
  pub prints : (k : ℕ) → k < r → (from ≤ k → 32 ≤ slice_index t k)
  pub stops : r < length t → slice_index t r < 32

-- ---- a field

-- its tag has at most three digits, and its value prints
pub record Plain (f : Field) : Type 0 where
  pub some : 0 < f.tag
  pub small : f.tag < 1000
  pub prints : every is_print f.value ≡ true

-- the bytes begin with a field, SOH behind it
pub record PieceAt (t : List ℕ) (n at end : ℕ) : Type 0 where
  pub tagged : TagAt t n at
  pub order : at ≤ end
  pub within : end < length t
  pub prints : every is_print (span t at (end - at)) ≡ true
  pub whole : t ≡ piece (field n (span t at (end - at))) ++ (soh ∷ drop (end + 1) t)

abbrev pub Pieced : List ℕ → Option Piece → Type 0
Pieced t None = (f : Field) → Plain f → (u : List ℕ) → t ≢ piece f ++ (soh ∷ u)
Pieced t (Some r) = PieceAt t r.tag r.at r.end

pub no_piece : (t : List ℕ) → ((f : Field) → Plain f → (u : List ℕ) → t ≢ piece f ++ (soh ∷ u)) → Pieced t None
no_piece t h = h

piece_open : (f : Field) (u : List ℕ) → piece f ++ (soh ∷ u) ≡ digits f.tag ++ (equals ∷ (f.value ++ (soh ∷ u)))
unfolding piece
piece_open f u = append_assoc (digits f.tag) (equals ∷ f.value) (soh ∷ u)

pub untagged : (t : List ℕ) → Tagged t None → Pieced t None
untagged t k f p u w = k f.tag p.some p.small (f.value ++ (soh ∷ u)) (w ∙ piece_open f u)

module _ (t : List ℕ) (n at e : ℕ) (k : TagAt t n at) (z : Ends t at e) where
  printing : every is_print (span t at (e - at)) ≡ true
  printing =
      let l : length (span t at (e - at)) ≡ e - at = length_span t at (e - at) (omega (arith, z.order, z.within)) in
      below_every is_print (span t at (e - at))
      (λ i h. let b : 32 ≤ slice_index_or t (at + i) 0 = z.prints (at + i) (omega (arith, z.order)) (omega arith) in
      ap is_print (get_span t at (e - at) i (omega arith)) ∙ le-leb 32 (slice_index t (at + i)) b)

  pub piece_here : slice_index t e ≡ soh → PieceAt t n at e
  unfolding piece span
  piece_here b =
      let h : e < length t = stands_at t e soh (omega arith) b in
      let d : at + (e - at) ≡ e = omega (arith, z.order) in
      let r : drop at t ≡ span t at (e - at) ++ (soh ∷ drop (e + 1) t) =
      sym (take-append-drop (e - at) (drop at t))
      ∙ ap (λ (s : List ℕ). span t at (e - at) ++ s)
      (drop-drop (e - at) at t ∙ ap (λ (i : ℕ). drop i t) d ∙ cons_at t e soh (omega arith) b ∙ ap (λ (i : ℕ). soh ∷ drop i t) (sym (add-one e))) in
      record {
        tagged = k;
        order = z.order;
        within = h;
        prints = printing;
        whole =
            k.whole
            ∙ ap (λ (s : List ℕ). digits n ++ (equals ∷ s)) r
            ∙ sym (append_assoc (digits n) (equals ∷ span t at (e - at)) (soh ∷ drop (e + 1) t));
      }

  -- a field that stands first ends there
  module _ (f : Field) (p : Plain f) (u : List ℕ) (w : t ≡ piece f ++ (soh ∷ u)) where
    value_there : drop at t ≡ f.value ++ (soh ∷ u)
    value_there =
        sym (after_cut equals (digits n) (drop at t) (digits_not_above equals n (lit< tt)))
        ∙ ap (after equals) (sym k.whole ∙ w ∙ piece_open f u)
        ∙ after_cut equals (digits f.tag) (f.value ++ (soh ∷ u)) (digits_not_above equals f.tag (lit< tt))

    byte_there : (i : ℕ) → slice_index t (at + i) ≡ slice_index (f.value ++ (soh ∷ u)) i
    byte_there i = sym (get_or-drop at t i 0) ∙ ap (λ (s : List ℕ). slice_index s i) value_there

    soh_there : slice_index_or t (at + length f.value) 0 ≡ soh
    soh_there =
        byte_there (length f.value)
        ∙ ap (λ (i : ℕ). slice_index (f.value ++ (soh ∷ u)) i) (omega arith)
        ∙ get_or-append-add f.value (soh ∷ u) 0 0

    pub end_there : e ≡ at + length f.value
    end_there = go (dec_lt e (at + length f.value)) (dec_lt (at + length f.value) e)
      where
        go : Dec (e < at + length f.value) → Dec (at + length f.value < e) → e ≡ at + length f.value
        go (yes a) b =
            let j : ℕ = e - at in
            let h : j < length f.value = omega (arith, z.order) in
            let q : at + j ≡ e = omega (arith, z.order) in
            let v : slice_index_or t e 0 ≡ slice_index_or f.value j 0 = ap (λ (i : ℕ). slice_index t i) (sym q) ∙ byte_there j ∙ get_or-append f.value (soh ∷ u) 0 j h in
            let x : 32 ≤ slice_index_or f.value j 0 = leb-true 32 _ (every_below is_print f.value p.prints j h) in
            let l : at + length f.value < length t = stands_at t (at + length f.value) soh (omega arith) soh_there in
            absurd (omega (arith, z.stops (omega arith)))
        go (no a) (yes b) = absurd (omega (arith, z.prints (at + length f.value) b (omega arith), soh_there))
        go (no a) (no b) = omega arith

    pub soh_at : slice_index_or t e 0 ≡ soh
    soh_at = ap (λ (i : ℕ). slice_index t i) end_there ∙ soh_there

    pub end_within : e < length t
    end_within = stands_at t e soh (omega arith) soh_at
