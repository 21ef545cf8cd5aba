-- Which bytes are a number's decimal: digits without a zero in front, and with decimals a point and so many digits behind it. So code need not
-- write a number again to see that it was spelled right. Rests on decimal's laws.
use Rattle.std.specs.Prelude.{◌≡◌, ℕ, zero, suc, ◌+◌, ◌-◌, ◌*◌, ◌<◌, ◌≤◌, Bool, true, false, ◌&&◌, ◌||◌, List, [], ◌∷◌, ◌++◌, length, take, drop, ◌==◌, nat_le, nat_lt, slice_index, slice_index_or, refl}
use Rattle.std.proofs.Common.{sym, ap, ◌∙◌, ⊎_elim, arith, add-one, eqb-true, eq-eqb, leb-true, ltb-true, lt-ltb, length-append, length-drop, take_at}
use Rattle.std.proofs.Math.Decide.{dec_lt}
use Rattle.std.proofs.Math.Seq.{split_at, get_or_at}
use Rattle.std.proofs.lemmas.List.{take_rest}
use Rattle.std.proofs.lemmas.Bool.{and_parts, and_from, or_cases}
use Rattle.std.specs.Cmp.{both_ways}
use Rattle.prelude.specs.Laws.Cases.{if_true, if_false, clash}
use Rattle.decimal.specs.Decimal.{is_digit, point, digits, low_digits, down, decimal, read_from, number_in}
use Rattle.decimal.specs.Laws.Back.{read_append, digits_back, low_back}
use Rattle.decimal.specs.Laws.Columns.{Digits, low_are, same_digits}
use Rattle.decimal.specs.Laws.Width.{length_low, width_one, width_some, no_leading_zero, decimal_some}
use Rattle.fix_words.specs.Lists.{every, same}
use Rattle.fix_words.specs.Laws.Lists.{same_true, same_self, every_below, below_every}
use Rattle.fix_words.specs.Laws.Digits.{digits_digits}
use Rattle.fix_words.specs.Laws.Rows.{or_right}

-- digits, and no zero before another
unfoldable pub is_whole : List ℕ → Bool
is_whole v = every is_digit v && (length v == 1 || nat_lt 48 (slice_index v 0))

-- ---- how large a number of so many digits is

-- x with k zeros behind it
abbrev tenfold : ℕ → ℕ → ℕ
tenfold zero x = x
tenfold (suc k) x = tenfold k (10 * x)

tenfold_up : (k x y : ℕ) → x ≤ y → tenfold k x ≤ tenfold k y
tenfold_up zero x y h = h
tenfold_up (suc k) x y h = tenfold_up k (10 * x) (10 * y) (omega arith)

tenfold_more : (j k : ℕ) → j ≤ k → tenfold j 1 ≤ tenfold k 1
tenfold_more zero zero h = omega arith
tenfold_more zero (suc k) h = omega (arith, tenfold_more 0 k (omega arith), tenfold_up k 1 10 (omega arith))
tenfold_more (suc j) zero h = absurd (omega arith)
tenfold_more (suc j) (suc k) h = go j k 10 (omega arith)
  where
    go : (j k x : ℕ) → j ≤ k → tenfold j x ≤ tenfold k x
    go zero zero x h = omega arith
    go zero (suc k) x h = omega (arith, go 0 k x (omega arith), tenfold_up k x (10 * x) (omega arith))
    go (suc j) zero x h = absurd (omega arith)
    go (suc j) (suc k) x h = go j k (10 * x) (omega arith)

digit_low : (c : ℕ) → is_digit c ≡ true → (48 ≤ c) × (c ≤ 57)
digit_low c e = let p = and_parts (nat_le 48 c) (nat_le c 57) e in (leb-true 48 c p.0, leb-true c 57 p.1)

read_more : (a c : ℕ) (s : List ℕ) → is_digit c ≡ true → read_from a (c ∷ s) ≡ read_from (a * 10 + (c - 48)) s
read_more a c s e = ap (λ (x : ℕ). read_from x s) (if_true (is_digit c) (a * 10 + (c - 48)) a e)

read_least : (a : ℕ) (s : List ℕ) → every is_digit s ≡ true → tenfold (length s) a ≤ read_from a s
read_least a [] d = omega arith
read_least a (c ∷ s) d =
    let h = and_parts (is_digit c) (every is_digit s) d in
    let i = read_least (a * 10 + (c - 48)) s h.1 in
    omega (arith, i, read_more a c s h.0, tenfold_up (length s) (10 * a) (a * 10 + (c - 48)) (omega arith))

read_below : (a : ℕ) (s : List ℕ) → every is_digit s ≡ true → read_from a s < tenfold (length s) (a + 1)
read_below a [] d = omega arith
read_below a (c ∷ s) d =
    let h = and_parts (is_digit c) (every is_digit s) d in
    let b = digit_low c h.0 in
    let i = read_below (a * 10 + (c - 48)) s h.1 in
    omega (arith, i, read_more a c s h.0, tenfold_up (length s) (a * 10 + (c - 48) + 1) (10 * (a + 1)) (omega (arith, b.0, b.1)))

-- ---- one number, one spelling

whole_digits : (v : List ℕ) → is_whole v ≡ true → every is_digit v ≡ true
unfolding is_whole
whole_digits v e = (and_parts (every is_digit v) _ e).0

-- no bytes are no number
pub whole_none : (v : List ℕ) → length v ≡ 0 → is_whole v ≡ false
unfolding is_whole
whole_none [] e = refl
whole_none (c ∷ v) e = absurd (omega arith)

whole_first : (v : List ℕ) → is_whole v ≡ true → 1 < length v → 48 < slice_index v 0
unfolding is_whole
whole_first v e h =
    ⊎_elim (λ q. absurd (omega (arith, eqb-true (length v) 1 q))) (λ q. ltb-true 48 (slice_index v 0) q)
    (or_cases (length v == 1) (nat_lt 48 (slice_index v 0)) (and_parts (every is_digit v) _ e).1)

whole_some : (v : List ℕ) → is_whole v ≡ true → 0 < length v
whole_some [] e = clash (is_whole []) e (whole_none [] refl)
whole_some (c ∷ v) e = omega arith

shorter : (s t : List ℕ) → is_whole s ≡ true → is_whole t ≡ true → length t < length s → number_in t < number_in s
shorter [] t p q l = absurd (omega arith)
shorter (c ∷ s) t p q l =
    let h = and_parts (is_digit c) (every is_digit s) (whole_digits (c ∷ s) p) in
    let f = whole_first (c ∷ s) p (omega (arith, whole_some t q)) in
    omega (
      arith,
      read_more 0 c s h.0,
      read_least (0 * 10 + (c - 48)) s h.1,
      tenfold_up (length s) 1 (0 * 10 + (c - 48)) (omega (arith, f)),
      tenfold_more (length t) (length s) (omega arith),
      read_below 0 t (whole_digits t q),
    )

every_digits : (v : List ℕ) → every is_digit v ≡ true → Digits v
every_digits v e k h = every_below is_digit v e k h

one_spelling : (s t : List ℕ) → is_whole s ≡ true → is_whole t ≡ true → number_in s ≡ number_in t → s ≡ t
one_spelling s t p q e = go (dec_lt (length s) (length t)) (dec_lt (length t) (length s))
  where
    go : Dec (length s < length t) → Dec (length t < length s) → s ≡ t
    go (yes h) k = absurd (omega (arith, shorter t s q p h))
    go (no h) (yes k) = absurd (omega (arith, shorter s t p q k))
    go (no h) (no k) = (same_digits s t 0 0 (omega arith) (every_digits s (whole_digits s p)) (every_digits t (whole_digits t q)) e).1

digits_whole : (n : ℕ) → is_whole (digits n) ≡ true
unfolding is_whole
digits_whole n = and_from _ _ (digits_digits n) (go (dec_lt n 10))
  where
    go : Dec (n < 10) → (length (digits n) == 1 || nat_lt 48 (slice_index (digits n) 0)) ≡ true
    go (yes h) = ap (λ (b : Bool). b || nat_lt 48 (slice_index (digits n) 0)) (eq-eqb (length (digits n)) 1 (width_one n h))
    go (no h) = or_right (length (digits n) == 1) (nat_lt 48 (slice_index (digits n) 0)) (lt-ltb 48 (slice_index (digits n) 0) (no_leading_zero n (omega arith)))

back_digits : (v : List ℕ) → is_whole v ≡ true → digits (number_in v) ≡ v
back_digits v e = one_spelling (digits (number_in v)) v (digits_whole (number_in v)) e (digits_back (number_in v))

-- THE LAW without decimals
pub whole_is : (v : List ℕ) → same (digits (number_in v)) v ≡ is_whole v
whole_is v =
    both_ways (same (digits (number_in v)) v) (is_whole v)
    (λ e. ap is_whole (sym (same_true (digits (number_in v)) v e)) ∙ digits_whole (number_in v))
    (λ e. ap (λ (w : List ℕ). same w v) (back_digits v e) ∙ same_self v)

-- ---- with decimals

-- where the point stands
abbrev pub point_at : ℕ → List ℕ → ℕ
point_at p v = length v - (p + 1)

unfoldable pub is_pointed : ℕ → List ℕ → Bool
is_pointed p v = is_whole (take (point_at p v) v) && (slice_index v (point_at p v) == 46 && every is_digit (drop (point_at p v + 1) v))

pub pointed_parts : (p : ℕ) (v : List ℕ) → is_pointed p v ≡ (is_whole (take (point_at p v) v) && (slice_index v (point_at p v) == 46 && every is_digit (drop (point_at p v + 1) v)))
unfolding is_pointed
pointed_parts p v = refl

-- a point, and digits behind it
abbrev pub pointed : List ℕ → Bool
pointed [] = false
pointed (c ∷ s) = c == 46 && every is_digit s

pointed_at : (v : List ℕ) (k : ℕ) → (slice_index v k == 46 && every is_digit (drop (suc k) v)) ≡ pointed (drop k v)
pointed_at [] zero = refl
pointed_at [] (suc k) = refl
pointed_at (c ∷ v) zero = refl
pointed_at (c ∷ v) (suc k) = pointed_at v k

pub pointed_rest : (s : List ℕ) → 1 ≤ length s → slice_index s 0 ≡ 46 → pointed s ≡ every is_digit (take (length s - 1) (drop 1 s))
pointed_rest [] h e = absurd (omega arith)
pointed_rest (c ∷ s) h e = ap (λ (b : Bool). b && every is_digit s) (eq-eqb c 46 e) ∙ sym (ap (every is_digit) (take_rest (c ∷ s) 1))

module _ (p : ℕ) (some : 0 < p) where
  -- what is written has that form
  written_pointed : (n : ℕ) → is_pointed p (decimal p n) ≡ true
  unfolding is_pointed
  written_pointed n =
      let a : List ℕ = digits (down p n) in
      let b : List ℕ = low_digits p n in
      let w : decimal p n ≡ a ++ (point ∷ b) = decimal_some p n some in
      let k : point_at p (decimal p n) ≡ length a = omega (arith, ap length w ∙ length-append a (point ∷ b), length_low p n) in
      let t : take (point_at p (decimal p n)) (decimal p n) ≡ a = (λ i. take (k i) (w i)) ∙ take_at a (point ∷ b) (length a) refl in
      let g : slice_index_or (decimal p n) (point_at p (decimal p n)) 0 ≡ 46 = (λ i. slice_index (w i) (k i)) ∙ get_or_at a point b 0 (length a) refl in
      let d : drop (point_at p (decimal p n) + 1) (decimal p n) ≡ b = (λ i. drop (k i + 1) (w i)) ∙ ap (λ (j : ℕ). drop j (a ++ (point ∷ b))) (add-one (length a)) ∙ behind a point b in
      and_from _ _ (ap is_whole t ∙ digits_whole (down p n))
      (and_from _ _ (eq-eqb (slice_index (decimal p n) (point_at p (decimal p n))) 46 g) (ap (every is_digit) d ∙ below_every is_digit b (low_are p n)))
    where
      behind : (a : List ℕ) (x : ℕ) (b : List ℕ) → drop (suc (length a)) (a ++ (x ∷ b)) ≡ b
      behind [] x b = refl
      behind (c ∷ a) x b = behind a x b

  module _ (v : List ℕ) (long : p + 2 ≤ length v) where
    abbrev k : ℕ
    k = point_at p v

    abbrev a : List ℕ
    a = take k v

    abbrev b : List ℕ
    b = drop (suc k) v

    pointed_back : is_pointed p v ≡ true → decimal p (number_in v) ≡ v
    unfolding is_pointed
    pointed_back e =
        let h = and_parts (is_whole a) _ e in
        let g = and_parts (slice_index v k == 46) (every is_digit (drop (k + 1) v)) h.1 in
        let x : slice_index_or v k 0 ≡ 46 = eqb-true (slice_index v k) 46 g.0 in
        let db : every is_digit b ≡ true = ap (λ (j : ℕ). every is_digit (drop j v)) (sym (add-one k)) ∙ g.1 in
        let w : v ≡ a ++ (46 ∷ b) = split_at v k 0 (omega arith) ∙ ap (λ (y : ℕ). a ++ (y ∷ b)) x in
        let n : ℕ = number_in v in
        let r : n ≡ read_from (number_in a) b = ap number_in w ∙ read_append 0 a (46 ∷ b) ∙ ap (λ (y : ℕ). read_from y b) (if_false (is_digit 46) (number_in a * 10 + (46 - 48)) (number_in a) refl) in
        let s = same_digits b (low_digits p n) (number_in a) (down p n) (omega (arith, length-drop (suc k) v, length_low p n)) (every_digits b db) (low_are p n) (sym r ∙ sym (low_back p n)) in
        decimal_some p n some
        ∙ (λ i. digits (sym s.0 i) ++ (46 ∷ sym s.1 i))
        ∙ ap (λ (l : List ℕ). l ++ (46 ∷ b)) (back_digits a h.0)
        ∙ sym w

    pointed_long : same (decimal p (number_in v)) v ≡ is_pointed p v
    pointed_long =
        both_ways (same (decimal p (number_in v)) v) (is_pointed p v)
        (λ e. ap (is_pointed p) (sym (same_true (decimal p (number_in v)) v e)) ∙ written_pointed (number_in v))
        (λ e. ap (λ (w : List ℕ). same w v) (pointed_back e) ∙ same_self v)

  pub pointed_short : (v : List ℕ) → length v < p + 2 → same (decimal p (number_in v)) v ≡ false
  pointed_short v h = go (same (decimal p (number_in v)) v) refl
    where
      go : (x : Bool) → same (decimal p (number_in v)) v ≡ x → same (decimal p (number_in v)) v ≡ false
      go false e = e
      go true e =
          let n : ℕ = number_in v in
          absurd (omega (
            arith,
            ap length (sym (same_true (decimal p n) v e) ∙ decimal_some p n some) ∙ length-append (digits (down p n)) (point ∷ low_digits p n),
            length_low p n,
            width_some (down p n),
          ))

  pointed_none : (v : List ℕ) → length v < p + 2 → is_pointed p v ≡ false
  unfolding is_pointed
  pointed_none v h =
      let z : point_at p v ≡ 0 = omega arith in
      ap (λ (j : ℕ). is_whole (take j v) && (slice_index v (point_at p v) == 46 && every is_digit (drop (point_at p v + 1) v))) z
      ∙ ap (λ (x : Bool). x && (slice_index v (point_at p v) == 46 && every is_digit (drop (point_at p v + 1) v))) (whole_none [] refl)

  -- THE LAW with decimals
  pub pointed_is : (v : List ℕ) → same (decimal p (number_in v)) v ≡ is_pointed p v
  pointed_is v = go (dec_lt (length v) (p + 2))
    where
      go : Dec (length v < p + 2) → same (decimal p (number_in v)) v ≡ is_pointed p v
      go (yes h) = pointed_short v h ∙ sym (pointed_none v h)
      go (no h) = pointed_long v (omega arith)

  -- the same by the bytes from the point on
  pub pointed_split : (v : List ℕ) → same (decimal p (number_in v)) v ≡ (is_whole (take (point_at p v) v) && pointed (drop (point_at p v) v))
  pointed_split v =
      let k : ℕ = point_at p v in
      pointed_is v
      ∙ pointed_parts p v
      ∙ ap (λ (x : Bool). is_whole (take k v) && x) (ap (λ (j : ℕ). slice_index v k == 46 && every is_digit (drop j v)) (add-one k) ∙ pointed_at v k)
