-- THE PROOFS that a call keeps what it has to keep, and that a mark stands until its name is set again. Rests on Calls and Written.
use Rattle.std.proofs.Common.{ℕ, ◌+◌, ◌/◌, ◌≤◌, ◌<◌, ◌≡◌, refl, Bool, true, false, ◌&&◌, ◌||◌, List, ◌++◌, leb, length, get_or, Some, sym, ◌∙◌, ⊎_elim, arith, leb-true, ap, subst}
use Rattle.std.proofs.Math.Decide.{ℕ_discrete, dec_lt}
use Rattle.std.proofs.Math.ListN.{get_or-eq_default}
use Rattle.std.proofs.lemmas.Bool.{and_from, and_parts, or_cases}
use Rattle.prelude.specs.Below.{first_below}
use Rattle.prelude.specs.Laws.Below.{first_none, first_hit, first_past, first_elim, first_ext}
use Rattle.prelude.specs.Bytes.{zeros}
use Rattle.prelude.specs.Laws.Bytes.{bytes_zeros, bytes_append, bytes_take, bytes_span, bytes_splice}
use Rattle.prelude.specs.Laws.Cases.{clash}
use Rattle.prelude.specs.Number.{Bytes}
use Rattle.prelude.specs.Span.{splice}
use Rattle.store.specs.Layout.{book_size}
use Rattle.format.specs.Codes.{within, is_alnum}
use Rattle.rules.specs.Keeps.{keeps_of}
use Rattle.rules.specs.Laws.Keeps.{keeps_held}
use Rattle.marks.specs.Marks.{name_size, place_size, place_base, place_count, name_at, image_at, is_mark_name, name_bytes, has_name, is_of, set_place, is_mark, return_place, Marked, marked}
use Rattle.marks.specs.Promise.{Kept, CallsKeep, Stands, MarksStand}
use Rattle.marks.proofs.Laws.Places.{length_name, length_image, has_name_lem, name_has, Goes, again, fresh, set_goes, set_below, return_first, return_kept}
use Rattle.marks.specs.Laws.Calls.{return_done, set_ends, return_ends}
use Rattle.marks.proofs.Laws.Written.{length_written, written_name, written_image, written_name_other, written_image_other, letters, name_not_free, same_name}

pub book_long : (b : List ℕ) → keeps_of b ≡ true → length b ≡ book_size
book_long b k = (keeps_held b k).long

-- ---- a set

module _ (places name book : List ℕ) (k : keeps_of book ≡ true) (n : is_mark_name name ≡ true) (i : ℕ) (e : set_place places name ≡ Some i) where
  abbrev p' : List ℕ
  p' = splice places (place_base i) (name_bytes name ++ book)

  below : i < place_count places
  below = set_below places name i e

  count : place_count p' ≡ place_count places
  count = ap (λ (m : ℕ). m / place_size) (length_written places name book i below (book_long book k))

  -- no place before it is of that name
  none_before : (j : ℕ) → j < i → is_of places name j ≡ false
  none_before j h = go (set_goes places name i e)
    where
      go : Goes places name i → is_of places name j ≡ false
      go (again f) = first_elim (is_of places name) i f.least j h
      go (fresh m f) = first_elim (is_of places name) (place_count places) m j (omega (arith, below))

  of_same : (j : ℕ) (bytes : List ℕ) → name_at p' j ≡ name_at places j → has_name p' bytes j ≡ has_name places bytes j
  unfolding has_name
  of_same j bytes z = rw z

  no_mark : (j : ℕ) → j < i → is_mark p' name j ≡ false
  unfolding is_mark
  no_mark j h =
      ap (λ (t : Bool). t && keeps_of (image_at p' j))
      (of_same j (name_bytes name) (written_name_other places name book i below (book_long book k) j (λ z. omega arith)) ∙ none_before j h)

  is_mark_lem : is_mark p' name i ≡ true
  unfolding is_mark
  is_mark_lem =
      and_from _ _ (name_has p' (name_bytes name) i (written_name places name book i below (book_long book k)))
      (ap keeps_of (written_image places name book i below (book_long book k)) ∙ k)

  set_stands : Stands p' name book
  unfolding return_place
  set_stands = record {
    at = i;
    found =
        first_hit (is_mark p' name) (place_count p') i (omega (arith, count, below))
        (first_past (is_mark p' name) 0 i (omega arith) (λ j _ h. no_mark j h) ∙ first_none (is_mark p' name)) is_mark_lem;
    is = written_image places name book i below (book_long book k);
  }

-- ---- a set of another name

-- a place that has other bytes is not of that name
not_of : (places name bytes : List ℕ) (i : ℕ) → i < place_count places → name_at places i ≡ bytes → (bytes ≡ name_bytes name → ⊥) → is_of places name i ≡ false
not_of places name bytes i h e d = go (is_of places name i) refl
  where
    go : (t : Bool) → is_of places name i ≡ t → t ≡ false
    go true z = absurd (d (sym e ∙ has_name_lem places (name_bytes name) i h (length_name name) z))
    go false z = refl

module _ (places name another book : List ℕ) (k : keeps_of book ≡ true) (n : is_mark_name name ≡ true) (m : is_mark_name another ≡ true) (d : another ≡ name → ⊥)
    (i : ℕ) (e : set_place places another ≡ Some i) where
  abbrev q' : List ℕ
  q' = splice places (place_base i) (name_bytes another ++ book)

  other_bytes : name_bytes another ≡ name_bytes name → ⊥
  other_bytes z = d (same_name another name m n z)

  not_before : is_of places name i ≡ false
  not_before = go (set_goes places another i e)
    where
      go : Goes places another i → is_of places name i ≡ false
      go (again f) = not_of places name (name_bytes another) i f.below (has_name_lem places (name_bytes another) i f.below (length_name another) f.passes) other_bytes
      go (fresh u f) = not_of places name (zeros name_size) i f.below (has_name_lem places (zeros name_size) i f.below refl f.passes) (λ z. name_not_free name n (sym z))

  not_after : is_of q' name i ≡ false
  not_after =
      not_of q' name (name_bytes another) i (omega (arith, count places another book k m i e, below places another book k m i e))
      (written_name places another book i (below places another book k m i e) (book_long book k)) other_bytes

  mark_same : (j : ℕ) → is_mark q' name j ≡ is_mark places name j
  unfolding is_mark
  mark_same j = go (ℕ_discrete i j)
    where
      go : Dec (i ≡ j) → is_of q' name j && keeps_of (image_at q' j) ≡ is_of places name j && keeps_of (image_at places j)
      go (yes z) =
          subst (λ (x : ℕ). is_of q' name x && keeps_of (image_at q' x) ≡ is_of places name x && keeps_of (image_at places x)) z (rw (not_after, not_before))
      go (no z) =
          let l = book_long book k in
          let h = below places another book k m i e in
          rw (
            of_same places another book k m i e j (name_bytes name) (written_name_other places another book i h l j z),
            written_image_other places another book i h l j z,
          )

  other_stands : (image : List ℕ) → Stands places name image → Stands q' name image
  unfolding return_place is_mark
  other_stands image s = record {
    at = s.at;
    found =
        ap (first_below (is_mark q' name)) (count places another book k m i e)
        ∙ first_ext (is_mark q' name) (is_mark places name) (place_count places) (λ j _. mark_same j)
        ∙ s.found;
    is =
        written_image_other places another book i (below places another book k m i e) (book_long book k) s.at
        (λ z. clash (is_of places name i) (ap (is_of places name) z ∙ (and_parts _ _ (return_first places name s.at s.found).passes).0) not_before)
        ∙ s.is;
  }

-- ---- THE MARKS STAND

pub marks_stand : MarksStand
marks_stand = record {
  set = λ book name places.
      set_ends book name places (λ (r : Marked). r.returned ≡ 0 → Stands r.places name book)
      (λ _ z. absurd (omega (arith, z))) (λ _ _ z. absurd (omega (arith, z))) (λ _ _ _ z. absurd (omega (arith, z)))
      (λ k n i e _. set_stands places name book k n i e);
  other = λ book name another places image n d s.
      set_ends book another places (λ (r : Marked). Stands r.places name image)
      (λ _. s) (λ _ _. s) (λ _ _ _. s)
      (λ k m i e. other_stands places name another book k n m d i e image s);
  back = λ book name places image k n s.
      sym (return_done book name places k n s.at s.found) ∙ ap (λ (x : List ℕ). marked 0 x places) s.is;
}

-- ---- what both keep

small : (x : ℕ) → is_alnum x ≡ true → x < 256
unfolding is_alnum
small x e =
    ⊎_elim (top 48 57 (omega arith))
    (λ a. ⊎_elim (top 65 90 (omega arith)) (top 97 122 (omega arith)) (or_cases (within 65 90 x) (within 97 122 x) a))
    (or_cases (within 48 57 x) (within 65 90 x || within 97 122 x) e)
  where
    top : (a b : ℕ) → b < 256 → within a b x ≡ true → x < 256
    top a b l w = omega (arith, leb-true x b (and_parts (leb a x) (leb x b) w).1)

bytes_name : (name : List ℕ) → is_mark_name name ≡ true → Bytes (name_bytes name)
unfolding name_bytes
bytes_name name n = bytes_take (name ++ zeros name_size) name_size (bytes_append name (zeros name_size) letter (bytes_zeros name_size))
  where
    letter : Bytes name
    letter k = go (dec_lt k (length name))
      where
        go : Dec (k < length name) → get_or name k 0 < 256
        go (yes h) = small (get_or name k 0) (letters name n k h)
        go (no h) = omega (arith, get_or-eq_default name 0 (let m : length name ≤ k = omega arith in m))

-- a call refused
same : (book places : List ℕ) (m : ℕ) → 0 < m → Kept book places (marked m book places)
same book places m h = record { refused = λ _. (refl, refl); bytes = λ b p. (b, p); long = (refl, refl); keeps = λ z. absurd (omega (arith, z)) }

pub calls_keep : CallsKeep
unfolding image_at
calls_keep = record {
  sets = λ book name places.
      set_ends book name places (Kept book places) (λ _. same book places 1 (omega arith)) (λ _ _. same book places 13 (omega arith)) (λ _ _ _. same book places 15 (omega arith))
      (λ k n i e. record {
        refused = λ z. absurd (z refl);
        bytes = λ b p. (b, bytes_splice places (place_base i) (name_bytes name ++ book) p (bytes_append (name_bytes name) book (bytes_name name n) b));
        long = (refl, length_written places name book i (set_below places name i e) (book_long book k));
        keeps = λ _. k;
      });
  returns = λ book name places.
      return_ends book name places (Kept book places) (λ _. same book places 1 (omega arith)) (λ _ _. same book places 13 (omega arith)) (λ _ _ _. same book places 14 (omega arith))
      (λ k n i e. record {
        refused = λ z. absurd (z refl);
        bytes = λ b p. (bytes_span places (place_base i + name_size) book_size p, p);
        long = (length_image places i (return_first places name i e).below ∙ sym (book_long book k), refl);
        keeps = λ _. return_kept places name i e;
      });
  same_book = λ book name places. set_ends book name places (λ (r : Marked). r.book ≡ book) (λ _. refl) (λ _ _. refl) (λ _ _ _. refl) (λ _ _ _ _. refl);
  same_places = λ book name places. return_ends book name places (λ (r : Marked). r.places ≡ places) (λ _. refl) (λ _ _. refl) (λ _ _ _. refl) (λ _ _ _ _. refl);
}
