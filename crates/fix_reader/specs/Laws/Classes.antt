-- What fits, by the form of the field: a text, a code, a number, the order's name. Rests on Fits.
use Rattle.std.specs.Prelude.{◌≡◌, ℕ, ◌<◌, ◌≤◌, Bool, true, false, not, ◌&&◌, ◌||◌, ltb, List, [], ◌∷◌, length, take, ◌==◌, nat_eq, nat_le, nat_lt, slice_index, None, Some, refl}
use Rattle.std.proofs.Common.{sym, ap, ◌∙◌, ⊎_elim, arith, eqb-true, eq-eqb, ltb-true, lt-ltb, leb-true, take_all}
use Rattle.std.proofs.Math.Bool.{and-true, not-not}
use Rattle.std.proofs.lemmas.Bool.{not-true, and_parts, and_from, or_cases, not_from_false, or_left}
use Rattle.std.specs.Cmp.{both_ways}
use Rattle.prelude.specs.Cases.{if◌then◌otherwise◌}
use Rattle.prelude.specs.Laws.Cases.{if_true, if_false, clash}
use Rattle.prelude.specs.Number.{number, bytes_of, bound}
use Rattle.prelude.specs.Laws.Number.{length_bytes, number_bytes, number_bound}
use Rattle.prelude.specs.Laws.Bytes.{bytes_of_lem}
use Rattle.bits.specs.Map.{bit}
use Rattle.decimal.specs.Decimal.{decimal, number_in}
use Rattle.decimal.specs.Laws.Back.{decimal_back}
use Rattle.format.specs.Codes.{within, is_alnum}
use Rattle.format.specs.Format.{size, range, fields, is_text_bit, in_range, required, allowed}
use Rattle.format.specs.Places.{value}
use Rattle.fix_words.specs.Lists.{every, is_print, same}
use Rattle.fix_words.specs.Values.{is_plain, places, spelling, unspelled, held_in, none_text}
use Rattle.fix_words.specs.Message.{shape_at, range_at, text_at, is_text, is_name_of}
use Rattle.fix_words.specs.Laws.Lists.{same_true, same_self, below_every}
use Rattle.fix_words.specs.Laws.Held.{number_one, shape_long}
use Rattle.fix_words.specs.Laws.Rows.{or_right}
use Rattle.fix_words.proofs.Laws.Kinds.{right}
use Rattle.fix_reader.specs.Laws.Fits.{respelled, fits, fits_right, fits_same, fits_is, plain_held, plain_respelled}

bytes_every : (s n : ℕ) → every (λ x. ltb x 256) (bytes_of s n) ≡ true
bytes_every s n = below_every (λ x. ltb x 256) (bytes_of s n) (λ i h. lt-ltb (slice_index (bytes_of s n) i) 256 (bytes_of_lem s n i))

-- a text that prints is one if it has a byte
pub text_some : (v : List ℕ) → every is_print v ≡ true → is_text v ≡ nat_lt 0 (length v)
text_some [] e = refl
text_some (c ∷ v) e = e ∙ sym (lt-ltb 0 (length (c ∷ v)) (omega arith))

-- a value of bytes, in a bit that a record of kind k may have
module _ (k b : ℕ) (nm v : List ℕ) (stand : (bit (required k) b || bit (allowed k) b) ≡ true) (bytes : every (λ x. ltb x 256) v ≡ true) where
  shape_some : (c : List ℕ) → every (λ x. ltb x 256) c ≡ true → (is_text_bit b || length c == size b) ≡ true → shape_at k b (Some c) ≡ true
  shape_some c y l = and_from _ _ stand (and_from _ _ y l)

  -- ---- as it stands

  module _ (plain : is_plain b ≡ true) (n2 : nat_eq b 2 ≡ false) (n25 : nat_eq b 25 ≡ false) (n27 : nat_eq b 27 ≡ false) where
    same_held : unspelled b v ≡ v
    unfolding unspelled
    same_held = if_true (is_plain b) v _ plain

    held_is : held_in b (Some v) ≡ Some v
    unfolding held_in
    held_is = if_false (b == 2) _ _ n2 ∙ if_false (b == 25) _ _ n25 ∙ if_false (b == 27) _ _ n27 ∙ ap (λ (w : List ℕ). Some w) same_held

    spelled_is : spelling b (unspelled b v) ≡ v
    unfolding spelling
    spelled_is = if_true (is_plain b) (unspelled b v) _ plain ∙ same_held

    again_is : respelled nm b v ≡ v
    again_is = go (b == 20) refl
      where
        go : (x : Bool) → (b == 20) ≡ x → respelled nm b v ≡ v
        go true e = unfold respelled in (if_false (b == 2) v _ n2 ∙ if_true (b == 20) v _ e)
        go false e = plain_respelled b n2 e n25 n27 nm v ∙ spelled_is

    plain_fits : fits k nm b v ≡ right k b (Some v)
    unfolding fits
    plain_fits =
        (λ i. right k b (held_is i) && same (again_is i) v)
        ∙ ap (λ (x : Bool). right k b (Some v) && x) (same_self v)
        ∙ and-true (right k b (Some v))

    -- a text

    pub text_fits : is_text_bit b ≡ true → fits k nm b v ≡ (in_range (range b) (length v) && is_text v)
    text_fits t = plain_fits ∙ both_ways (right k b (Some v)) (in_range (range b) (length v) && is_text v) to back
      where
        long : value b v ≡ length v
        long = unfold value in if_true (is_text_bit b) (length v) _ t

        to : right k b (Some v) ≡ true → (in_range (range b) (length v) && is_text v) ≡ true
        to e =
            let h = and_parts (shape_at k b (Some v)) (range_at b (Some v) && text_at b (Some v)) e in
            let r = and_parts (range_at b (Some v)) (text_at b (Some v)) h.1 in
            let i = (and_parts (in_range (range b) (value b v)) (not (b == 2) || is_name_of v) r.0).0 in
            and_from _ _ (ap (in_range (range b)) (sym long) ∙ i)
            (⊎_elim (λ q. clash (is_text_bit b) t (not-true _ q)) (λ q. q) (or_cases (not (is_text_bit b)) (is_text v) r.1))

        back : (in_range (range b) (length v) && is_text v) ≡ true → right k b (Some v) ≡ true
        back e =
            let h = and_parts (in_range (range b) (length v)) (is_text v) e in
            and_from _ _ (shape_some v bytes (or_left (is_text_bit b) _ t))
            (and_from _ _ (and_from _ _ (ap (in_range (range b)) long ∙ h.0) (or_left (not (b == 2)) (is_name_of v) (not_from_false (b == 2) n2)))
            (or_right (not (is_text_bit b)) (is_text v) h.1))

    -- a code

    pub code_fits : is_text_bit b ≡ false → size b ≡ 1 → fits k nm b v ≡ (length v == 1 && in_range (range b) (slice_index v 0))
    code_fits t one = plain_fits ∙ both_ways (right k b (Some v)) (length v == 1 && in_range (range b) (slice_index v 0)) to back
      where
        code : length v ≡ 1 → value b v ≡ slice_index v 0
        code l = let e : value b v ≡ number (take 8 v) = (unfold value in if_false (is_text_bit b) (length v) (number (take 8 v)) t) in e ∙ number_one v l

        to : right k b (Some v) ≡ true → (length v == 1 && in_range (range b) (slice_index v 0)) ≡ true
        to e =
            let h = and_parts (shape_at k b (Some v)) (range_at b (Some v) && text_at b (Some v)) e in
            let l : length v ≡ 1 = shape_long k b v h.0 t ∙ one in
            let i = (and_parts (in_range (range b) (value b v)) (not (b == 2) || is_name_of v) (and_parts (range_at b (Some v)) (text_at b (Some v)) h.1).0).0 in
            and_from _ _ (eq-eqb (length v) 1 l) (ap (in_range (range b)) (sym (code l)) ∙ i)

        back : (length v == 1 && in_range (range b) (slice_index v 0)) ≡ true → right k b (Some v) ≡ true
        back e =
            let h = and_parts (length v == 1) (in_range (range b) (slice_index v 0)) e in
            let l : length v ≡ 1 = eqb-true (length v) 1 h.0 in
            and_from _ _ (shape_some v bytes (or_right (is_text_bit b) _ (eq-eqb (length v) (size b) (l ∙ sym one))))
            (and_from _ _ (and_from _ _ (ap (in_range (range b)) (code l) ∙ h.1) (or_left (not (b == 2)) (is_name_of v) (not_from_false (b == 2) n2)))
            (or_left (not (is_text_bit b)) (is_text v) (not_from_false (is_text_bit b) t)))

  -- ---- a number

  module _ (plain : is_plain b ≡ false) (t : is_text_bit b ≡ false) (short : size b ≤ 8) (n2 : nat_eq b 2 ≡ false) (n20 : nat_eq b 20 ≡ false) (n25 : nat_eq b 25 ≡ false)
      (n27 : nat_eq b 27 ≡ false) where
    abbrev n : ℕ
    n = number_in v

    abbrev c : List ℕ
    c = bytes_of (size b) n

    number_held : held_in b (Some v) ≡ Some c
    unfolding unspelled
    number_held = plain_held b n2 n20 n25 n27 v ∙ ap (λ (w : List ℕ). Some w) (if_false (is_plain b) v c plain)

    number_again : respelled nm b v ≡ decimal (places b) (number c)
    unfolding spelling unspelled
    number_again =
        plain_respelled b n2 n20 n25 n27 nm v
        ∙ ap (spelling b) (if_false (is_plain b) v c plain)
        ∙ if_false (is_plain b) c (decimal (places b) (number c)) plain

    number_value : value b c ≡ number c
    unfolding value
    number_value =
        if_false (is_text_bit b) (length c) (number (take 8 c)) t
        ∙ ap number (take_all 8 c (omega (arith, length_bytes (size b) n)))

    pub number_fits : fits k nm b v ≡ (nat_lt n (bound (size b)) && (same (decimal (places b) n) v && in_range (range b) n))
    number_fits = both_ways (fits k nm b v) (nat_lt n (bound (size b)) && (same (decimal (places b) n) v && in_range (range b) n)) to back
      where
        to : fits k nm b v ≡ true → (nat_lt n (bound (size b)) && (same (decimal (places b) n) v && in_range (range b) n)) ≡ true
        to e =
            let s : decimal (places b) (number c) ≡ v = sym number_again ∙ fits_same k nm b v e in
            let m : n ≡ number c = ap number_in (sym s) ∙ decimal_back (places b) (number c) in
            let l : number c < bound (size b) = (rw (length_bytes (size b) n) at (number_bound c (bytes_of_lem (size b) n))) in
            let r : right k b (Some c) ≡ true = ap (right k b) (sym number_held) ∙ fits_right k nm b v e in
            let h = and_parts (shape_at k b (Some c)) (range_at b (Some c) && text_at b (Some c)) r in
            let i = (and_parts (in_range (range b) (value b c)) (not (b == 2) || is_name_of c) (and_parts (range_at b (Some c)) (text_at b (Some c)) h.1).0).0 in
            and_from _ _ (lt-ltb n (bound (size b)) (omega (arith, m, l)))
            (and_from _ _ (ap (λ (x : ℕ). same (decimal (places b) x) v) m ∙ ap (λ (w : List ℕ). same w v) s ∙ same_self v)
            (ap (in_range (range b)) (m ∙ sym number_value) ∙ i))

        back : (nat_lt n (bound (size b)) && (same (decimal (places b) n) v && in_range (range b) n)) ≡ true → fits k nm b v ≡ true
        back e =
            let a = and_parts (nat_lt n (bound (size b))) (same (decimal (places b) n) v && in_range (range b) n) e in
            let d = and_parts (same (decimal (places b) n) v) (in_range (range b) n) a.1 in
            let m : number c ≡ n = number_bytes (size b) n (ltb-true n (bound (size b)) a.0) in
            fits_is k nm b v
            (ap (right k b) number_held
            ∙ and_from _ _ (shape_some c (bytes_every (size b) n) (or_right (is_text_bit b) _ (eq-eqb (length c) (size b) (length_bytes (size b) n))))
            (and_from _ _ (and_from _ _ (ap (in_range (range b)) (number_value ∙ m) ∙ d.1) (or_left (not (b == 2)) (is_name_of c) (not_from_false (b == 2) n2)))
            (or_left (not (is_text_bit b)) (is_text c) (not_from_false (is_text_bit b) t))))
            (number_again ∙ ap (decimal (places b)) m ∙ same_true (decimal (places b) n) v d.0)

-- ---- the order's name

-- from 1 to 20 bytes
name_range_lem : (x : ℕ) → in_range (range 2) x ≡ within 1 20 x
unfolding in_range range fields if◌then◌otherwise◌
name_range_lem x = refl

text_bit_2 : is_text_bit 2 ≡ true
unfolding size fields
text_bit_2 = refl

module _ (k : ℕ) (nm v : List ℕ) (stand : (bit (required k) 2 || bit (allowed k) 2) ≡ true) (must : bit (required k) 2 ≡ not (k == 17))
    (bytes : every (λ x. ltb x 256) v ≡ true) (prints : every is_print v ≡ true) where
  abbrev as_name : Bool
  as_name = within 1 20 (length v) && every is_alnum v

  name_again : same (respelled nm 2 v) v ≡ true
  unfolding respelled if◌then◌otherwise◌
  name_again = same_self v

  name_held : held_in 2 (Some v) ≡ (if same v none_text then None otherwise Some v)
  unfolding held_in if◌then◌otherwise◌
  name_held = refl

  value_2 : value 2 v ≡ length v
  unfolding value
  value_2 = if_true (is_text_bit 2) (length v) (number (take 8 v)) text_bit_2

  none_right : right k 2 None ≡ (k == 17)
  none_right = ap (λ (x : Bool). not x && true) must ∙ and-true (not (not (k == 17))) ∙ not-not (k == 17)

  some_right : same v none_text ≡ false → right k 2 (Some v) ≡ as_name
  some_right s = both_ways (right k 2 (Some v)) as_name to back
    where
      to : right k 2 (Some v) ≡ true → as_name ≡ true
      to e =
          let r = and_parts (range_at 2 (Some v)) (text_at 2 (Some v)) (and_parts (shape_at k 2 (Some v)) (range_at 2 (Some v) && text_at 2 (Some v)) e).1 in
          let i = and_parts (in_range (range 2) (value 2 v)) (is_name_of v) r.0 in
          and_from _ _ (sym (name_range_lem (length v)) ∙ ap (in_range (range 2)) (sym value_2) ∙ i.0) (and_parts (every is_alnum v) (not (same v none_text)) i.1).0

      back : as_name ≡ true → right k 2 (Some v) ≡ true
      back e =
          let h = and_parts (within 1 20 (length v)) (every is_alnum v) e in
          let l : 1 ≤ length v = leb-true 1 (length v) (and_parts (nat_le 1 (length v)) (nat_le (length v) 20) h.0).0 in
          let x : is_text v ≡ true = text_some v prints ∙ lt-ltb 0 (length v) (omega arith) in
          and_from _ _ (shape_some k 2 nm v stand bytes v bytes (or_left (is_text_bit 2) (length v == size 2) text_bit_2))
          (and_from _ _
          (and_from _ _ (ap (in_range (range 2)) value_2 ∙ name_range_lem (length v) ∙ h.0) (and_from _ _ h.1 (not_from_false (same v none_text) s)))
          (or_right (not (is_text_bit 2)) (is_text v) x))

  pub name_fits : fits k nm 2 v ≡ (if same v none_text then (k == 17) otherwise as_name)
  unfolding fits
  name_fits = (λ i. right k 2 (name_held i) && name_again i) ∙ and-true (right k 2 (if same v none_text then None otherwise Some v)) ∙ go (same v none_text) refl
    where
      go : (x : Bool) → same v none_text ≡ x → right k 2 (if same v none_text then None otherwise Some v) ≡ (if same v none_text then (k == 17) otherwise as_name)
      go true e = ap (right k 2) (if_true (same v none_text) None (Some v) e) ∙ none_right ∙ sym (if_true (same v none_text) (k == 17) as_name e)
      go false e = ap (right k 2) (if_false (same v none_text) None (Some v) e) ∙ some_right e ∙ sym (if_false (same v none_text) (k == 17) as_name e)
