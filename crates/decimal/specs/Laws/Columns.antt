-- Decimals in columns: how wide, how code writes them, that they are digits, blanks and one point, where they stand, and that
-- a number is written one way. Rests on Back and Width.
use Rattle.std.specs.Prelude.{ℕ, zero, suc, ◌+◌, ◌-◌, ◌*◌, ◌/◌, ◌≤◌, ◌<◌, ◌≡◌, refl, List, [], ◌∷◌, ◌++◌, true, leb, ltb, length, replicate, drop, get_or, set}
use Rattle.std.proofs.Common.{sym, ap, ◌∙◌, append_assoc, arith, leb-true, le-leb, length-append, get_or-append-add}
use Rattle.std.proofs.Math.ListN.{get_or-append}
use Rattle.std.proofs.lemmas.Bool.{lt-leb, and_parts}
use Rattle.std.proofs.lemmas.List.{get_or-replicate, length-replicate, replicate-append-replicate}
use Rattle.prelude.specs.Cases.{if◌then◌otherwise◌}
use Rattle.prelude.specs.Laws.Cases.{split_if, if_true, if_false}
use Rattle.prelude.specs.Span.{splice}
use Rattle.prelude.specs.Laws.Span.{length_splice, splice_append, set_splice}
use Rattle.decimal.specs.Decimal.{blank, point, lowest, digits_by, digits, low_digits, down, decimal, right, is_digit, read_from, number_in, written}
use Rattle.decimal.specs.Laws.Back.{digit_is}

pub length_right : (columns : ℕ) (s : List ℕ) → length s ≤ columns → length (right columns s) ≡ columns
unfolding right
length_right columns s h = simp (length-append, length-replicate) (omega arith)

-- one blank more behind the others
pub blank_more : (s : List ℕ) (at i : ℕ) → at + suc i ≤ length s
    → set (splice s at (replicate i blank)) (at + i) blank ≡ splice s at (replicate (i + 1) blank)
blank_more s at i h =
    let l : length (replicate i blank) ≡ i = length-replicate i blank in
    let k : length (splice s at (replicate i blank)) ≡ length s = length_splice s at (replicate i blank) (omega arith) in
    set_splice (splice s at (replicate i blank)) (at + i) blank (omega arith)
    ∙ ap (λ (n : ℕ). splice (splice s at (replicate i blank)) (at + n) (blank ∷ [])) (sym l)
    ∙ splice_append s at (replicate i blank) (blank ∷ []) (omega arith)
    ∙ ap (splice s at) (replicate-append-replicate i 1 blank)

pub right_long : (columns : ℕ) (s : List ℕ) → length (right columns s) ≡ (columns - length s) + length s
unfolding right
right_long columns s = simp (length-append, length-replicate) refl

-- k blanks, then the text
pub right_put : (s : List ℕ) (at columns : ℕ) (w : List ℕ) (k : ℕ) → k ≡ columns - length w → at + (k + length w) ≤ length s
    → splice (splice s at (replicate k blank)) (at + k) w ≡ splice s at (right columns w)
unfolding right
right_put s at columns w k e h =
    let l : length (replicate k blank) ≡ k = length-replicate k blank in
    ap (λ (n : ℕ). splice (splice s at (replicate k blank)) (at + n) w) (sym l)
    ∙ splice_append s at (replicate k blank) w (omega arith)
    ∙ ap (λ (n : ℕ). splice s at (replicate n blank ++ w)) e

-- what stands behind the text stays behind it
pub right_append : (columns : ℕ) (s t : List ℕ) → right (columns + length t) (s ++ t) ≡ right columns s ++ t
unfolding right
right_append columns s t =
    let e : (columns + length t) - length (s ++ t) ≡ columns - length s = omega (arith, length-append s t) in
    ap (λ (k : ℕ). replicate k blank ++ (s ++ t)) e ∙ sym (append_assoc (replicate (columns - length s) blank) s t)

-- ---- into a buffer

pub written_room : (s : List ℕ) (at : ℕ) (w : List ℕ) → at + length w ≤ length s → written s at w ≡ splice s at w
unfolding written
written_room s at w h = if_true (leb (at + length w) (length s)) _ _ (le-leb _ _ h)

pub written_none : (s : List ℕ) (at : ℕ) (w : List ℕ) → length s < at + length w → s ≡ written s at w
unfolding written
written_none s at w h = sym (if_false (leb (at + length w) (length s)) (splice s at w) s (lt-leb _ _ h))

-- ---- what each byte is

module _ (P : ℕ → Type 0) where
  abbrev pub Each : List ℕ → Type 0
  Each s = (k : ℕ) → k < length s → P (get_or s k 0)

  pub each_append : (s t : List ℕ) → Each s → Each t → Each (s ++ t)
  each_append [] t f g k h = g k h
  each_append (x ∷ s) t f g zero h = f 0 (omega arith)
  each_append (x ∷ s) t f g (suc k) h = each_append s t (λ j l. f (suc j) (omega arith)) g k (omega arith)

  pub each_one : (x : ℕ) → P x → Each (x ∷ [])
  each_one x h zero l = h
  each_one x h (suc k) l = absurd (omega arith)

  module _ (digit : (n : ℕ) → P (lowest n)) where
    each_by : (f n : ℕ) → Each (digits_by f n)
    unfolding digits_by
    each_by zero n = each_one (lowest n) (digit n)
    each_by (suc f) n =
        split_if Each (ltb n 10)
        (λ e. each_one (lowest n) (digit n))
        (λ e. each_append (digits_by f (n / 10)) (lowest n ∷ []) (each_by f (n / 10)) (each_one (lowest n) (digit n)))

    pub each_digit : (n : ℕ) → Each (digits n)
    unfolding digits
    each_digit n = each_by n n

    pub each_low : (p n : ℕ) → Each (low_digits p n)
    unfolding low_digits
    each_low zero n = λ k h. absurd (omega arith)
    each_low (suc p) n = each_append (low_digits p (n / 10)) (lowest n ∷ []) (each_low p (n / 10)) (each_one (lowest n) (digit n))

-- every one is a digit
abbrev pub Digits : List ℕ → Type 0
Digits s = Each (λ c. is_digit c ≡ true) s

pub digits_are : (n : ℕ) → Digits (digits n)
digits_are n = each_digit (λ c. is_digit c ≡ true) digit_is n

pub low_are : (p n : ℕ) → Digits (low_digits p n)
low_are p n = each_low (λ c. is_digit c ≡ true) digit_is p n

-- none is below a blank
abbrev pub Printing : List ℕ → Type 0
Printing s = Each (λ c. blank ≤ c) s

pub print_append : (s t : List ℕ) → Printing s → Printing t → Printing (s ++ t)
print_append s t f g = each_append (λ c. blank ≤ c) s t f g

pub print_one : (x : ℕ) → blank ≤ x → Printing (x ∷ [])
print_one x h = each_one (λ c. blank ≤ c) x h

pub print_blanks : (n : ℕ) → Printing (replicate n blank)
print_blanks n k h = omega (arith, get_or-replicate n k blank 0 (omega (arith, length-replicate n blank)))

pub print_decimal : (p n : ℕ) → Printing (decimal p n)
unfolding decimal
print_decimal zero n = each_digit (λ c. blank ≤ c) (λ m. omega arith) n
print_decimal (suc p) n =
    print_append (digits (down (suc p) n)) (point ∷ low_digits (suc p) n) (each_digit (λ c. blank ≤ c) (λ m. omega arith) (down (suc p) n))
    (print_append (point ∷ []) (low_digits (suc p) n) (print_one point (omega arith)) (each_low (λ c. blank ≤ c) (λ m. omega arith) (suc p) n))

pub print_right : (columns : ℕ) (s : List ℕ) → Printing s → Printing (right columns s)
unfolding right
print_right columns s f = print_append (replicate (columns - length s) blank) s (print_blanks (columns - length s)) f

-- ---- where a text at the right end stands

pub right_blank : (columns : ℕ) (s : List ℕ) (k : ℕ) → k < columns - length s → get_or (right columns s) k 0 ≡ blank
unfolding right
right_blank columns s k h =
    get_or-append (replicate (columns - length s) blank) s 0 k (omega (arith, length-replicate (columns - length s) blank))
    ∙ get_or-replicate (columns - length s) k blank 0 h

pub right_byte : (columns : ℕ) (s : List ℕ) (j : ℕ) → get_or (right columns s) ((columns - length s) + j) 0 ≡ get_or s j 0
unfolding right
right_byte columns s j =
    ap (λ (m : ℕ). get_or (replicate (columns - length s) blank ++ s) (m + j) 0) (sym (length-replicate (columns - length s) blank))
    ∙ get_or-append-add (replicate (columns - length s) blank) s j 0

-- ---- one number is written one way

-- as many digits that are read as the same number are the same digits
pub same_digits : (s t : List ℕ) (a c : ℕ) → length s ≡ length t → Digits s → Digits t → read_from a s ≡ read_from c t → (a ≡ c) × (s ≡ t)
same_digits [] [] a c l f g e = (e, refl)
same_digits [] (y ∷ t) a c l f g e = absurd (omega arith)
same_digits (x ∷ s) [] a c l f g e = absurd (omega arith)
same_digits (x ∷ s) (y ∷ t) a c l f g e =
    let p : is_digit x ≡ true = f 0 (omega arith) in
    let q : is_digit y ≡ true = g 0 (omega arith) in
    let r = same_digits s t (if is_digit x then a * 10 + (x - 48) otherwise a) (if is_digit y then c * 10 + (y - 48) otherwise c) (omega arith)
    (λ k h. f (suc k) (omega arith)) (λ k h. g (suc k) (omega arith)) e in
    let n : a * 10 + (x - 48) ≡ c * 10 + (y - 48) = sym (if_true (is_digit x) (a * 10 + (x - 48)) a p) ∙ r.0 ∙ if_true (is_digit y) (c * 10 + (y - 48)) c q in
    let (x1, x2) = and_parts (leb 48 x) (leb x 57) p in
    let (y1, y2) = and_parts (leb 48 y) (leb y 57) q in
    let z : x ≡ y = omega (arith, leb-true 48 x x1, leb-true x 57 x2, leb-true 48 y y1, leb-true y 57 y2) in
    let b : a ≡ c = omega (arith, leb-true 48 x x1, leb-true x 57 x2, leb-true 48 y y1, leb-true y 57 y2) in
    (b, λ i. z i ∷ r.1 i)

-- zeros in place of the blanks before the digits are read as the same number
pub zeros_for_blanks : (s : List ℕ) (f : ℕ) → f ≤ length s → ((k : ℕ) → k < f → get_or s k 0 ≡ blank) → number_in (replicate f 48 ++ drop f s) ≡ number_in s
zeros_for_blanks s zero h b = refl
zeros_for_blanks [] (suc f) h b = absurd (omega arith)
zeros_for_blanks (x ∷ s) (suc f) h b =
    ap (λ (m : ℕ). read_from m (replicate f 48 ++ drop f s)) (if_true (is_digit 48) (0 * 10 + (48 - 48)) 0 refl)
    ∙ zeros_for_blanks s f (omega arith) (λ k l. b (suc k) (omega arith))
    ∙ sym (ap (λ (m : ℕ). read_from m s) (if_false (is_digit x) _ 0 (ap (λ (c : ℕ). is_digit c) (b 0 (omega arith)))))
