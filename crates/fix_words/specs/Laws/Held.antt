-- Each field's value is read as what the record held: one law for numbers, texts and codes, and one each for the order's name, the ExecID
-- and the fixed texts. Rests on Message.
use Rattle.std.specs.Prelude.{ℕ, zero, suc, ◌≤◌, ◌<◌, ◌≡◌, refl, List, [], ◌∷◌, Bool, true, false, ◌&&◌, ◌||◌, eqb, leb, ltb, length, get_or, take, Option, None, Some}
use Rattle.std.proofs.Common.{sym, ap, ◌∙◌, ⊎_elim, arith, eqb-true, ne_eqb, leb-true, ltb-true}
use Rattle.std.proofs.Math.Decide.{ℕ_discrete}
use Rattle.std.proofs.lemmas.Bool.{not-true, and_parts, or_cases, or_parts}
use Rattle.prelude.specs.Cases.{if◌then◌otherwise◌, maybe}
use Rattle.prelude.specs.Laws.Cases.{if_true, if_false, clash}
use Rattle.prelude.specs.Below.{all_below, first_below}
use Rattle.prelude.specs.Laws.Below.{all_elim}
use Rattle.prelude.specs.Number.{number, bytes_of, Bytes}
use Rattle.prelude.specs.Laws.Number.{bytes_number}
use Rattle.bits.specs.Map.{bit}
use Rattle.format.specs.Codes.{within, is_alnum}
use Rattle.format.specs.Format.{size, range, fields, is_text_bit, in_range, required, allowed}
use Rattle.format.specs.Places.{value}
use Rattle.fix_words.specs.Lists.{every, is_not, same}
use Rattle.decimal.specs.Decimal.{digits, number_in}
use Rattle.decimal.specs.Laws.Back.{decimal_back, digits_back}
use Rattle.fix_words.specs.Values.{fixed_text, texts, fixed_text_number, is_plain, places, spelling, over, or_else, exec_id, fixed_text_in, unspelled, unless_none, held_in, none_text}
use Rattle.fix_words.specs.Message.{shape_at, range_at}
use Rattle.fix_words.specs.Laws.Lists.{every_map, after_cut}

-- ---- bytes

pub every_bytes : (c : List ℕ) → every (λ x. ltb x 256) c ≡ true → Bytes c
every_bytes [] e k = omega arith
every_bytes (x ∷ c) e zero = ltb-true x 256 (and_parts (ltb x 256) (every (λ y. ltb y 256) c) e).0
every_bytes (x ∷ c) e (suc k) = every_bytes c (and_parts (ltb x 256) (every (λ y. ltb y 256) c) e).1 k

-- what the shape of a field says
module _ (k b : ℕ) (c : List ℕ) (e : shape_at k b (Some c) ≡ true) where
  fit : (every (λ x. ltb x 256) c && (is_text_bit b || eqb (length c) (size b))) ≡ true
  fit = (and_parts (bit (required k) b || bit (allowed k) b) _ e).1

  pub shape_bytes : Bytes c
  shape_bytes = every_bytes c (and_parts (every (λ x. ltb x 256) c) (is_text_bit b || eqb (length c) (size b)) fit).0

  pub shape_long : is_text_bit b ≡ false → length c ≡ size b
  shape_long t =
      ⊎_elim (λ q. clash (is_text_bit b) q t) (λ q. eqb-true (length c) (size b) q)
      (or_cases (is_text_bit b) (eqb (length c) (size b)) (and_parts (every (λ x. ltb x 256) c) (is_text_bit b || eqb (length c) (size b)) fit).1)

  -- the bytes of the number that it is
  pub shape_number : is_text_bit b ≡ false → bytes_of (size b) (number c) ≡ c
  shape_number t = ap (λ (n : ℕ). bytes_of n (number c)) (sym (shape_long t)) ∙ bytes_number c shape_bytes

-- ---- numbers, texts and codes

not_text : (b : ℕ) → is_plain b ≡ false → is_text_bit b ≡ false
unfolding is_plain
not_text b f = (or_parts (is_text_bit b) _ f).0

unspelled_back : (k b : ℕ) (c : List ℕ) → shape_at k b (Some c) ≡ true → unspelled b (spelling b c) ≡ c
unfolding unspelled spelling
unspelled_back k b c e = go (is_plain b) refl
  where
    go : (x : Bool) → is_plain b ≡ x → unspelled b (spelling b c) ≡ c
    go true p = if_true (is_plain b) _ _ p ∙ if_true (is_plain b) _ _ p
    go false p =
        if_false (is_plain b) _ _ p
        ∙ ap (λ (v : List ℕ). bytes_of (size b) (number_in v)) (if_false (is_plain b) _ _ p)
        ∙ ap (bytes_of (size b)) (decimal_back (places b) (number c))
        ∙ shape_number k b c e (not_text b p)

pub held_plain : (k b : ℕ) (o : Option (List ℕ)) → eqb b 2 ≡ false → eqb b 25 ≡ false → eqb b 27 ≡ false → shape_at k b o ≡ true
    → held_in b (over (spelling b) o) ≡ o
unfolding held_in if◌then◌otherwise◌
held_plain k b None x y z e = rw (x, y, z) refl
held_plain k b (Some c) x y z e = rw (x, y, z) (ap {B = Option (List ℕ)} Some (unspelled_back k b c e))

-- ---- the order's name

pub held_name : (o : Option (List ℕ)) → range_at 2 o ≡ true → unless_none o ≡ o
held_name None e = refl
held_name (Some c) e = if_false (same c none_text) _ _ (not-true _ (and_parts (every is_alnum c) _ (and_parts (in_range (range 2) (value 2 c)) _ e).1).1)

pub held_none : (o : Option (List ℕ)) → range_at 2 o ≡ true → unless_none (Some (or_else none_text o)) ≡ o
unfolding if◌then◌otherwise◌
held_none None e = refl
held_none (Some c) e = held_name (Some c) e

-- ---- the ExecID

alnum_point : (c : ℕ) → is_alnum c ≡ true → is_not 46 c ≡ true
unfolding is_alnum
alnum_point c e = go (ℕ_discrete c 46)
  where
    go : Dec (c ≡ 46) → is_not 46 c ≡ true
    go (no n) = rw (ne_eqb c 46 n) refl
    go (yes q) = clash (is_alnum c) e (ap is_alnum q)

name_point : (o : Option (List ℕ)) → range_at 2 o ≡ true → every (is_not 46) (or_else [] o) ≡ true
name_point None e = refl
name_point (Some c) e = every_map is_alnum (is_not 46) alnum_point c (and_parts (every is_alnum c) _ (and_parts (in_range (range 2) (value 2 c)) _ e).1).0

pub held_exec : (k : ℕ) (name o : Option (List ℕ)) → range_at 2 name ≡ true → shape_at k 25 o ≡ true → held_in 25 (over (exec_id name) o) ≡ o
unfolding held_in if◌then◌otherwise◌ size fields
held_exec k name None r e = refl
held_exec k name (Some c) r e =
    ap {B = Option (List ℕ)} Some
    (ap (λ (v : List ℕ). bytes_of 8 (number_in v)) (after_cut 46 (or_else [] name) (digits (number c)) (name_point name r))
    ∙ ap (bytes_of 8) (digits_back (number c))
    ∙ shape_number k 25 c e refl)

-- ---- the fixed texts

fixed_back : (n : ℕ) → n < 19 → fixed_text_number (fixed_text n) ≡ n
unfolding fixed_text_number fixed_text texts first_below maybe all_below if◌then◌otherwise◌
fixed_back n h = eqb-true _ n (all_elim (λ k. eqb (fixed_text_number (fixed_text k)) k) 19 refl n h)

pub one_byte : (c : List ℕ) → length c ≡ 1 → c ≡ get_or c 0 0 ∷ []
one_byte [] e = absurd (omega arith)
one_byte (x ∷ []) e = refl
one_byte (x ∷ y ∷ c) e = absurd (omega arith)

pub number_one : (c : List ℕ) → length c ≡ 1 → number (take 8 c) ≡ get_or c 0 0
number_one c e = ap (λ (l : List ℕ). number (take 8 l)) (one_byte c e) ∙ omega arith

pub held_words : (k : ℕ) (o : Option (List ℕ)) → shape_at k 27 o ≡ true → range_at 27 o ≡ true → held_in 27 (over fixed_text_in o) ≡ o
unfolding held_in if◌then◌otherwise◌ size range fields in_range value
held_words k None e r = refl
held_words k (Some c) e r =
    let l : length c ≡ 1 = shape_long k 27 c e refl in
    let w : within 1 18 (number (take 8 c)) ≡ true = (and_parts (within 1 18 (number (take 8 c))) _ r).0 in
    let m : number (take 8 c) ≤ 18 = leb-true _ 18 (and_parts (leb 1 (number (take 8 c))) (leb (number (take 8 c)) 18) w).1 in
    ap {B = Option (List ℕ)} Some
    (ap (λ (n : ℕ). n ∷ []) (fixed_back (get_or c 0 0) (omega (arith, number_one c l))) ∙ sym (one_byte c l))
