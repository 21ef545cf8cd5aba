-- Small cases of names and places, by value. Rests on Marks. What they shut out: a name by its letters alone, a mark beside one of its name, a return to
-- a damaged image or to a later one, a last part that counts.
use Rattle.std.specs.Prelude.{ℕ, ◌≡◌, true, false, List, [], ◌∷◌, ◌++◌, length, replicate, None, Some, refl}
use Rattle.prelude.specs.Below.{all_below, first_below}
use Rattle.prelude.specs.Bytes.{zeros}
use Rattle.prelude.specs.Cases.{if◌then◌otherwise◌, maybe}
use Rattle.prelude.specs.Span.{span}
use Rattle.format.specs.Codes.{is_alnum}
use Rattle.rules.specs.Keeps.{keeps_of}
use Rattle.marks.specs.Marks.{name_size, place_count, name_at, image_at, is_mark_name, name_bytes, has_name, is_of, is_free, set_place, is_mark, return_place}

-- ---- names

abbrev A : List ℕ
A = 65 ∷ []

abbrev sixteen : List ℕ
sixteen = 97 ∷ 98 ∷ 99 ∷ 100 ∷ 101 ∷ 102 ∷ 122 ∷ 65 ∷ 90 ∷ 48 ∷ 57 ∷ 49 ∷ 50 ∷ 51 ∷ 52 ∷ 53 ∷ []

-- A zero byte B, A-1, nothing, and seventeen letters are malformed; sixteen letters and digits are fine, and NONE is a name
pub sample_names : (is_mark_name A ≡ true) × (is_mark_name sixteen ≡ true) × (is_mark_name (78 ∷ 79 ∷ 78 ∷ 69 ∷ []) ≡ true)
unfolding is_mark_name is_alnum all_below
sample_names = (refl, refl, refl)

-- digits alone are a name, and so is one with a digit first: 0, 9a, sixteen zeros
pub sample_digits : (is_mark_name (48 ∷ []) ≡ true) × (is_mark_name (57 ∷ 97 ∷ []) ≡ true) × (is_mark_name (replicate 16 48) ≡ true)
unfolding is_mark_name is_alnum all_below
sample_digits = (refl, refl, refl)

-- a sign at either end, among letters and digits: -A, A-
pub sample_ends : (is_mark_name (45 ∷ A) ≡ false) × (is_mark_name (65 ∷ 45 ∷ []) ≡ false)
unfolding is_mark_name is_alnum all_below
sample_ends = (refl, refl)

pub sample_malformed : (is_mark_name (65 ∷ 0 ∷ 66 ∷ []) ≡ false) × (is_mark_name (65 ∷ 45 ∷ 49 ∷ []) ≡ false) × (is_mark_name [] ≡ false) × (is_mark_name (sixteen ++ A) ≡ false)
unfolding is_mark_name is_alnum all_below
sample_malformed = (refl, refl, refl, refl)

-- the bytes beside letters and digits: / : @ [ ` {
pub sample_beside : (is_mark_name (47 ∷ []) ≡ false) × (is_mark_name (58 ∷ []) ≡ false) × (is_mark_name (64 ∷ []) ≡ false) × (is_mark_name (91 ∷ []) ≡ false) × (is_mark_name (96 ∷ []) ≡ false) × (is_mark_name (123 ∷ []) ≡ false)
unfolding is_mark_name is_alnum all_below
sample_beside = (refl, refl, refl, refl, refl, refl)

-- a place whose name is A, a zero and B is not A's, nor one whose name is A but for its last byte; case counts; none of them is free
pub sample_zeros : (is_of (65 ∷ 0 ∷ 66 ∷ zeros 29) A 0 ≡ false) × (is_of (65 ∷ zeros 30 ++ A) A 0 ≡ false) × (is_of (97 ∷ zeros 31) A 0 ≡ false) × (is_of (65 ∷ zeros 31) A 0 ≡ true)
unfolding has_name name_at name_bytes span all_below
sample_zeros = (refl, refl, refl, refl)

pub sample_free : (is_free (65 ∷ 0 ∷ 66 ∷ zeros 29) 0 ≡ false) × (is_free (zeros 31 ++ A) 0 ≡ false) × (is_free (zeros 32) 0 ≡ true)
unfolding has_name name_at span all_below
sample_free = (refl, refl, refl)

-- ---- places

-- [free, A]: a set of A goes to the second, one of B to the first
module _ (p : List ℕ) (two : place_count p ≡ 2) (first : name_at p 0 ≡ zeros name_size) (second : name_at p 1 ≡ name_bytes A) where
  pub sample_again : set_place p A ≡ Some 1
  unfolding set_place has_name name_bytes first_below all_below maybe if◌then◌otherwise◌
  sample_again = rw (two, first, second) refl

  pub sample_fresh : set_place p (66 ∷ []) ≡ Some 0
  unfolding set_place has_name name_bytes first_below all_below maybe if◌then◌otherwise◌
  sample_fresh = rw (two, first, second) refl

-- [A, A damaged]: a set of A goes to the first, and a set of B finds no place, since none is B's and none is free
module _ (p : List ℕ) (two : place_count p ≡ 2) (first : name_at p 0 ≡ name_bytes A) (second : name_at p 1 ≡ name_bytes A) where
  pub sample_first : set_place p A ≡ Some 0
  unfolding set_place has_name name_bytes first_below all_below maybe if◌then◌otherwise◌
  sample_first = rw (two, first) refl

  pub sample_full : set_place p (66 ∷ []) ≡ None
  unfolding set_place has_name name_bytes first_below all_below maybe if◌then◌otherwise◌
  sample_full = rw (two, first, second) refl

-- [A damaged, A, A]: a return takes the second
pub sample_return : (p : List ℕ) → place_count p ≡ 3 → name_at p 0 ≡ name_bytes A → name_at p 1 ≡ name_bytes A → name_at p 2 ≡ name_bytes A
    → keeps_of (image_at p 0) ≡ false → keeps_of (image_at p 1) ≡ true → keeps_of (image_at p 2) ≡ true → return_place p A ≡ Some 1
unfolding return_place is_mark has_name name_bytes first_below all_below maybe if◌then◌otherwise◌
sample_return p three a b c x y z = rw (three, a, b, x, y) refl

-- 65,568 bytes are one place, 131,136 are two
pub sample_one : (p : List ℕ) → length p ≡ 65568 → place_count p ≡ 1
sample_one p e = rw e refl

pub sample_two : (p : List ℕ) → length p ≡ 131136 → place_count p ≡ 2
sample_two p e = rw e refl

-- the last part: 65,567 bytes are no place, and 131,135 are one, whatever stands in them
pub sample_last : (p : List ℕ) → length p ≡ 131135 → place_count p ≡ 1
sample_last p e = rw e refl

module _ (p : List ℕ) (e : length p ≡ 65567) where
  pub sample_no_place : (name : List ℕ) → set_place p name ≡ None
  unfolding set_place first_below maybe
  sample_no_place name = rw e refl

  pub sample_no_mark : (name : List ℕ) → return_place p name ≡ None
  unfolding return_place first_below
  sample_no_mark name = rw e refl
