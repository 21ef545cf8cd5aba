-- What stands in a buffer of places: their lengths, names as bytes, and where a set and a return go. Rests on Marks.
use Rattle.std.proofs.Common.{ℕ, ◌+◌, ◌≤◌, ◌<◌, ◌≡◌, Bool, true, false, ◌&&◌, leb, length, Option, None, Some, refl, sym, ap, ◌∙◌, arith, length-append, length-take, List, eq-eqb, ne_eqb, eqb-true, leb-true, le-leb, eqb, get_or, ext_get_or}
use Rattle.std.proofs.lemmas.Bool.{lt-leb, eqb-false, and_parts}
use lib.Pointwise.{pointwise, bytes_decides}
use Rattle.std.proofs.lemmas.List.{length-replicate}
use Rattle.std.specs.Cmp.{both_ways}
use Rattle.prelude.specs.Below.{all_below, first_below}
use Rattle.prelude.specs.Laws.Below.{all_elim, all_intro, all_miss, First, first_some}
use Rattle.prelude.specs.Cases.{maybe}
use Rattle.prelude.specs.Laws.Cases.{maybe_none, maybe_some}
use Rattle.prelude.specs.Laws.Span.{length_span, get_span}
use Rattle.prelude.specs.Texts.{agree_at}
use Rattle.store.specs.Layout.{book_size}
use Rattle.rules.specs.Keeps.{keeps_of}
use Rattle.marks.specs.Marks.{name_size, place_size, place_base, place_count, name_at, image_at, letter_at, is_mark_name, name_bytes, has_name, is_of, is_free, set_place, is_mark, return_place}

-- ---- lengths

pub name_short : (name : List ℕ) → is_mark_name name ≡ true → length name ≤ 16
unfolding is_mark_name
name_short name e =
    leb-true (length name) 16 (and_parts (leb 1 (length name)) (leb (length name) 16) (and_parts _ (all_below (letter_at name) (length name)) e).0).1

pub length_name : (name : List ℕ) → length (name_bytes name) ≡ name_size
unfolding name_bytes
length_name name = simp (length-take, length-append, length-replicate) (omega arith)

-- for the tactic of the function that asks for it
pub ruleset sizes = (eqb-true, eqb-false, le-leb, lt-leb)

module _ (places : List ℕ) (i : ℕ) (h : i < place_count places) where
  pub place_within : place_base i + place_size ≤ length places
  place_within = omega arith

  pub length_name_at : length (name_at places i) ≡ name_size
  unfolding name_at
  length_name_at = length_span places (place_base i) name_size (omega (arith, place_within))

  pub length_image : length (image_at places i) ≡ book_size
  unfolding image_at
  length_image = length_span places (place_base i + name_size) book_size (omega (arith, place_within))

-- ---- names

module _ (places bytes : List ℕ) (i : ℕ) where
  agree_is : (k : ℕ) → k < name_size → agree_at (name_at places i) bytes k ≡ eqb (get_or places (place_base i + k) 0) (get_or bytes k 0)
  unfolding name_at
  agree_is k l = ap (λ (x : ℕ). eqb x (get_or bytes k 0)) (get_span places (place_base i) name_size k l)

  -- byte by byte
  pub agrees : (k : ℕ) → k < name_size → get_or places (place_base i + k) 0 ≡ get_or bytes k 0 → agree_at (name_at places i) bytes k ≡ true
  agrees k l e = agree_is k l ∙ eq-eqb _ _ e

  pub differs : (k : ℕ) → k < name_size → (get_or places (place_base i + k) 0 ≡ get_or bytes k 0 → ⊥) → has_name places bytes i ≡ false
  unfolding has_name
  differs k l e = all_miss (agree_at (name_at places i) bytes) name_size k l (agree_is k l ∙ ne_eqb _ _ e)

  -- what the comparison says
  pub has_name_lem : i < place_count places → length bytes ≡ name_size → has_name places bytes i ≡ true → name_at places i ≡ bytes
  unfolding has_name
  has_name_lem h l e =
      ext_get_or 0 (name_at places i) bytes (length_name_at places i h ∙ sym l)
      (λ k j. eqb-true _ _ (all_elim (agree_at (name_at places i) bytes) name_size e k (omega (arith, length_name_at places i h))))

  pub name_has : name_at places i ≡ bytes → has_name places bytes i ≡ true
  unfolding has_name
  name_has e = all_intro (agree_at (name_at places i) bytes) name_size (λ k l. eq-eqb _ _ (ap (λ (s : List ℕ). get_or s k 0) e))

  -- as the code compares them
  pub name_same : i < place_count places → length bytes ≡ name_size → pointwise eqb (name_at places i) bytes ≡ has_name places bytes i
  name_same h l =
      both_ways (pointwise eqb (name_at places i) bytes) (has_name places bytes i)
      (λ e. name_has ((bytes_decides (name_at places i) bytes).0 e)) (λ e. (bytes_decides (name_at places i) bytes).1 (has_name_lem h l e))

-- ---- where a set goes

-- the first place of its name, or the first free one if none is of its name
pub data Goes (places name : List ℕ) (i : ℕ) : Type 0 where
  again : First (is_of places name) (place_count places) i → Goes places name i
  fresh : first_below (is_of places name) (place_count places) ≡ None → First (is_free places) (place_count places) i → Goes places name i

module _ (places name : List ℕ) where
  pub set_goes : (i : ℕ) → set_place places name ≡ Some i → Goes places name i
  unfolding set_place
  set_goes i = go (first_below (is_of places name) (place_count places)) refl
    where
      go : (o : Option ℕ) → first_below (is_of places name) (place_count places) ≡ o
          → maybe (first_below (is_free places) (place_count places)) Some (first_below (is_of places name) (place_count places)) ≡ Some i → Goes places name i
      go None e z = fresh e (first_some _ _ i (sym (maybe_none _ _ _ e) ∙ z))
      go (Some k) e z = again (first_some _ _ i (e ∙ sym (maybe_some _ k _ _ e) ∙ z))

  pub set_below : (i : ℕ) → set_place places name ≡ Some i → i < place_count places
  set_below i e = go (set_goes i e)
    where
      go : Goes places name i → i < place_count places
      go (again f) = f.below
      go (fresh n f) = f.below

  -- as the code looks: for the name, then for a free place
  pub set_again : (i : ℕ) → first_below (is_of places name) (place_count places) ≡ Some i → set_place places name ≡ Some i
  unfolding set_place
  set_again i e = maybe_some _ i _ _ e

  pub set_fresh : first_below (is_of places name) (place_count places) ≡ None → set_place places name ≡ first_below (is_free places) (place_count places)
  unfolding set_place
  set_fresh e = maybe_none _ _ _ e

  -- ---- where a return goes

  pub return_first : (i : ℕ) → return_place places name ≡ Some i → First (is_mark places name) (place_count places) i
  unfolding return_place
  return_first i e = first_some _ _ i e

  pub return_below : (i : ℕ) → return_place places name ≡ Some i → i < place_count places
  return_below i e = (return_first i e).below

  pub return_kept : (i : ℕ) → return_place places name ≡ Some i → keeps_of (image_at places i) ≡ true
  unfolding is_mark
  return_kept i e = (and_parts (is_of places name i) (keeps_of (image_at places i)) (return_first i e).passes).1

-- as the code asks for it
pub mark_is : (places name bytes : List ℕ) (i : ℕ) → bytes ≡ name_bytes name
    → (r : Bool) → r ≡ has_name places bytes i && keeps_of (image_at places i) → r ≡ is_mark places name i
unfolding is_mark
mark_is places name bytes i e r f = f ∙ ap (λ (x : List ℕ). has_name places x i && keeps_of (image_at places i)) e
