-- THE PROOFS that the calls do what Promise says of the places' own bytes. Rests on Calls and Written.
use Rattle.std.proofs.Common.{ℕ, ◌+◌, ◌<◌, ◌≡◌, refl, Bool, true, false, length, None, Some, sym, ap, subst, ◌∙◌, arith, List, get_or}
use Rattle.std.proofs.lemmas.Bool.{and_from, and_parts}
use Rattle.prelude.specs.Below.{first_below}
use Rattle.prelude.specs.Laws.Below.{first_none, first_hit, first_past}
use Rattle.prelude.specs.Bytes.{zeros}
use Rattle.prelude.specs.Laws.Span.{get_span}
use Rattle.store.specs.Layout.{book_size}
use Rattle.rules.specs.Keeps.{keeps_of}
use Rattle.marks.specs.Marks.{name_size, place_base, place_count, name_at, image_at, is_mark_name, name_bytes, has_name, is_of, is_free, set_place, is_mark, return_place, set_mark_of}
use Rattle.marks.specs.Promise.{NameIs, Earliest, Nowhere, SetAt, SoundSet, MarkIs, SoundReturn}
use Rattle.marks.proofs.Laws.Places.{length_name, has_name_lem, name_has, set_again, set_fresh, set_below}
use Rattle.marks.specs.Laws.Calls.{set_bad, set_malformed, set_full, set_done, return_bad, return_malformed, return_none, return_done}
use Rattle.marks.proofs.Laws.Written.{length_written, written_name, written_image, written_rest, name_letter}
use Rattle.marks.proofs.Laws.Stands.{book_long}

-- ---- a test and what it says

module _ (p : ℕ → Bool) (Passes : ℕ → Type 0) (n : ℕ) (says : (k : ℕ) → k < n → p k ≡ true → Passes k) where
  miss : (k : ℕ) → k < n → (Passes k → ⊥) → p k ≡ false
  miss k h d = go (p k) refl
    where
      go : (t : Bool) → p k ≡ t → t ≡ false
      go true e = absurd (d (says k h e))
      go false e = refl

  none_is : Nowhere Passes n → first_below p n ≡ None
  none_is d = first_past p 0 n (omega arith) (λ k _ h. miss k h (d k h)) ∙ first_none p

  first_is : (i : ℕ) → p i ≡ true → Earliest Passes n i → first_below p n ≡ Some i
  first_is i e f =
      first_hit p n i f.below (first_past p 0 i (omega arith) (λ k _ h. miss k (omega (arith, f.below)) (f.before k h)) ∙ first_none p) e

-- ---- a set

module _ (book name places : List ℕ) where
  named : (bytes : List ℕ) → length bytes ≡ name_size → (k : ℕ) → k < place_count places → has_name places bytes k ≡ true → NameIs places bytes k
  named bytes l k h e = has_name_lem places bytes k h l e

  of_first : (i : ℕ) → Earliest (NameIs places (name_bytes name)) (place_count places) i → set_place places name ≡ Some i
  of_first i f =
      set_again places name i
      (first_is (is_of places name) (NameIs places (name_bytes name)) (place_count places) (named (name_bytes name) (length_name name)) i (name_has places (name_bytes name) i f.is) f)

  of_none : Nowhere (NameIs places (name_bytes name)) (place_count places) → set_place places name ≡ first_below (is_free places) (place_count places)
  of_none d =
      set_fresh places name (none_is (is_of places name) (NameIs places (name_bytes name)) (place_count places) (named (name_bytes name) (length_name name)) d)

  free_first : (i : ℕ) → Earliest (NameIs places (zeros name_size)) (place_count places) i → first_below (is_free places) (place_count places) ≡ Some i
  free_first i f = first_is (is_free places) (NameIs places (zeros name_size)) (place_count places) (named (zeros name_size) refl) i (name_has places (zeros name_size) i f.is) f

  free_none : Nowhere (NameIs places (zeros name_size)) (place_count places) → first_below (is_free places) (place_count places) ≡ None
  free_none d = none_is (is_free places) (NameIs places (zeros name_size)) (place_count places) (named (zeros name_size) refl) d

  set_at : keeps_of book ≡ true → is_mark_name name ≡ true → (i : ℕ) → set_place places name ≡ Some i → SetAt book name places i (set_mark_of book name places)
  unfolding name_at image_at
  set_at k n i e =
      let h = set_below places name i e in
      let l = book_long book k in
      subst (SetAt book name places i) (set_done book name places k n i e)
      (record {
        returned = refl;
        same = refl;
        long = length_written places name book i h l;
        named = written_name places name book i h l;
        image = written_image places name book i h l;
        letters = λ j m. sym (get_span _ (place_base i) name_size j m) ∙ ap (λ (s : List ℕ). get_or s j 0) (written_name places name book i h l) ∙ name_letter name n j m;
        bytes = λ j m. sym (get_span _ (place_base i + name_size) book_size j m) ∙ ap (λ (s : List ℕ). get_or s j 0) (written_image places name book i h l);
        rest = written_rest places name book i h l;
      })

pub sound_set : SoundSet
sound_set book name places = record {
  bad = λ e. sym (set_bad book name places e);
  malformed = λ k e. sym (set_malformed book name places k e);
  again = λ k n i f. set_at book name places k n i (of_first book name places i f);
  fresh = λ k n d i f. set_at book name places k n i (of_none book name places d ∙ free_first book name places i f);
  full = λ k n d f. sym (set_full book name places k n (of_none book name places d ∙ free_none book name places f));
}

-- ---- a return

module _ (name places : List ℕ) where
  says : (k : ℕ) → k < place_count places → is_mark places name k ≡ true → MarkIs places name k
  unfolding is_mark
  says k h e =
      let s = and_parts (is_of places name k) (keeps_of (image_at places k)) e in
      record { named = has_name_lem places (name_bytes name) k h (length_name name) s.0; keeps = s.1 }

  is_mark_lem : (k : ℕ) → MarkIs places name k → is_mark places name k ≡ true
  unfolding is_mark
  is_mark_lem k m = and_from _ _ (name_has places (name_bytes name) k m.named) m.keeps

  mark_first : (i : ℕ) → Earliest (MarkIs places name) (place_count places) i → return_place places name ≡ Some i
  unfolding return_place
  mark_first i f = first_is (is_mark places name) (MarkIs places name) (place_count places) says i (is_mark_lem i f.is) f

  mark_none : Nowhere (MarkIs places name) (place_count places) → return_place places name ≡ None
  unfolding return_place
  mark_none d = none_is (is_mark places name) (MarkIs places name) (place_count places) says d

pub sound_return : SoundReturn
sound_return book name places = record {
  bad = λ e. sym (return_bad book name places e);
  malformed = λ k e. sym (return_malformed book name places k e);
  taken = λ k n i f. sym (return_done book name places k n i (mark_first name places i f));
  missing = λ k n d. sym (return_none book name places k n (mark_none name places d));
}
