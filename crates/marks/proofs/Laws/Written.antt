-- A place written: what each place of the buffer has then. And names, known by their bytes. Rests on Places.
use Rattle.std.proofs.Common.{ℕ, ◌+◌, ◌-◌, ◌≤◌, ◌<◌, ◌≡◌, refl, true, ◌⊎◌, leb, take, sym, ap, ◌∙◌, ⊎_elim, add-zero, length-append, drop_at, List, ◌++◌, inl, inr, arith, leb-true, length, get_or, take_at, take_all, get_or-take, get_or-append-add}
use Rattle.std.proofs.Math.Decide.{dec_lt}
use Rattle.std.proofs.Math.ListN.{get_or-append, get_or-eq_default}
use Rattle.std.proofs.lemmas.Bool.{and_parts}
use Rattle.prelude.specs.Below.{all_below}
use Rattle.prelude.specs.Laws.Below.{all_elim}
use Rattle.prelude.specs.Bytes.{zeros}
use Rattle.prelude.specs.Laws.Bytes.{get_zeros}
use Rattle.prelude.specs.Laws.Cases.{clash}
use Rattle.prelude.specs.Span.{span, splice}
use Rattle.prelude.specs.Laws.Span.{length_splice, splice_append, get_span, span_span, span_splice_same, span_splice_before, span_splice_after}
use Rattle.prelude.specs.Texts.{contents, text_of}
use Rattle.prelude.specs.Laws.Texts.{contents_text}
use Rattle.format.specs.Codes.{within, is_alnum}
use Rattle.store.specs.Layout.{book_size}
use Rattle.marks.specs.Marks.{name_size, place_size, place_base, place_count, name_at, image_at, letter_at, is_mark_name, name_bytes}
use Rattle.marks.proofs.Laws.Places.{name_short, length_name, place_within}

-- ---- a place written

module _ (places name book : List ℕ) (i : ℕ) (h : i < place_count places) (l : length book ≡ book_size) where
  abbrev piece : List ℕ
  piece = name_bytes name ++ book

  abbrev pub written : List ℕ
  written = splice places (place_base i) (name_bytes name ++ book)

  long : length piece ≡ place_size
  long = simp length-append (omega (arith, length_name name, l))

  pub fits : place_base i + length piece ≤ length places
  fits = omega (arith, long, place_within places i h)

  pub length_written : length written ≡ length places
  length_written = length_splice places (place_base i) piece fits

  whole : span written (place_base i) place_size ≡ piece
  whole = span_splice_same places (place_base i) piece place_size long (omega (arith, place_within places i h))

  pub written_name : name_at written i ≡ name_bytes name
  unfolding name_at span
  written_name =
      ap (λ (k : ℕ). span written k name_size) (sym (add-zero (place_base i)))
      ∙ sym (span_span written (place_base i) place_size 0 name_size (omega arith))
      ∙ ap (λ (s : List ℕ). span s 0 name_size) whole
      ∙ take_at (name_bytes name) book name_size (length_name name)

  pub written_image : image_at written i ≡ book
  unfolding image_at span
  written_image =
      sym (span_span written (place_base i) place_size name_size book_size (omega arith))
      ∙ ap (λ (s : List ℕ). span s name_size book_size) whole
      ∙ ap (take book_size) (drop_at (name_bytes name) book name_size (length_name name))
      ∙ take_all book_size book (omega (arith, l))

  -- a span outside the place
  outside : (at n : ℕ) → (at + n ≤ place_base i) ⊎ (place_base i + place_size ≤ at) → span written at n ≡ span places at n
  outside at n =
      ⊎_elim
      (λ p. span_splice_before places (place_base i) piece at n p (omega (arith, fits)))
      (λ p. span_splice_after places (place_base i) piece at n (omega (arith, long)) fits)

  apart : (j : ℕ) → (i ≡ j → ⊥) → (place_base j + place_size ≤ place_base i) ⊎ (place_base i + place_size ≤ place_base j)
  apart j d = go (dec_lt i j)
    where
      go : Dec (i < j) → (place_base j + place_size ≤ place_base i) ⊎ (place_base i + place_size ≤ place_base j)
      go (yes p) = inr (omega arith)
      go (no p) = let q : j < i = omega arith in inl (omega arith)

  pub written_name_other : (j : ℕ) → (i ≡ j → ⊥) → name_at written j ≡ name_at places j
  unfolding name_at
  written_name_other j d = outside (place_base j) name_size (⊎_elim (λ p. inl (omega arith)) (λ p. inr p) (apart j d))

  pub written_image_other : (j : ℕ) → (i ≡ j → ⊥) → image_at written j ≡ image_at places j
  unfolding image_at
  written_image_other j d = outside (place_base j + name_size) book_size (⊎_elim (λ p. inl (omega arith)) (λ p. inr (omega arith)) (apart j d))

  byte_is : (s : List ℕ) (k : ℕ) → get_or (span s k 1) 0 0 ≡ get_or s k 0
  byte_is s k = get_span s k 1 0 (omega arith) ∙ ap (λ (n : ℕ). get_or s n 0) (add-zero k)

  pub written_rest : (k : ℕ) → (k < place_base i) ⊎ (place_base i + place_size ≤ k) → get_or written k 0 ≡ get_or places k 0
  written_rest k o =
      sym (byte_is written k)
      ∙ ap (λ (s : List ℕ). get_or s 0 0) (outside k 1 (⊎_elim (λ p. inl (omega arith)) (λ p. inr p) o))
      ∙ byte_is places k

-- as the code writes it: the name, and the book behind it
pub name_then_book : (places name book bytes : List ℕ) (i : ℕ) → i < place_count places → bytes ≡ name_bytes name
    → splice (splice places (place_base i) bytes) (place_base i + name_size) book ≡ splice places (place_base i) (name_bytes name ++ book)
name_then_book places name book bytes i h e =
    ap (λ (x : List ℕ). splice (splice places (place_base i) x) (place_base i + name_size) book) e
    ∙ ap (λ (m : ℕ). splice (splice places (place_base i) (name_bytes name)) (place_base i + m) book) (sym (length_name name))
    ∙ splice_append places (place_base i) (name_bytes name) book (omega (arith, length_name name, place_within places i h))

-- ---- names by their bytes

no_letter : (x : ℕ) → is_alnum x ≡ true → x ≡ 0 → ⊥
unfolding is_alnum
no_letter x e z = clash (is_alnum 0) (ap is_alnum (sym z) ∙ e) refl

module _ (name : List ℕ) (e : is_mark_name name ≡ true) where
  pub letters : (k : ℕ) → k < length name → is_alnum (get_or name k 0) ≡ true
  unfolding is_mark_name
  letters k h = all_elim (letter_at name) (length name) (and_parts (within 1 16 (length name)) (all_below (letter_at name) (length name)) e).1 k h

  pub least : 1 ≤ length name
  unfolding is_mark_name
  least = leb-true 1 (length name) (and_parts (leb 1 (length name)) (leb (length name) 16) (and_parts (within 1 16 (length name)) (all_below (letter_at name) (length name)) e).0).0

  within_bytes : (k : ℕ) → k < length name → get_or (name_bytes name) k 0 ≡ get_or name k 0
  unfolding name_bytes
  within_bytes k h = get_or-take name_size (name ++ zeros name_size) k 0 (omega (arith, name_short name e)) ∙ get_or-append name (zeros name_size) 0 k h

  behind_bytes : (k : ℕ) → length name ≤ k → k < name_size → get_or (name_bytes name) k 0 ≡ 0
  unfolding name_bytes
  behind_bytes k h u =
      let d : ℕ = k - length name in
      let z : k ≡ length name + d = omega arith in
      get_or-take name_size (name ++ zeros name_size) k 0 u
      ∙ ap (λ (n : ℕ). get_or (name ++ zeros name_size) n 0) z
      ∙ get_or-append-add name (zeros name_size) d 0
      ∙ get_zeros name_size d

  -- a letter, or a zero behind the name
  pub name_letter : (k : ℕ) → k < name_size → get_or (name_bytes name) k 0 ≡ get_or name k 0
  name_letter k l = go (dec_lt k (length name))
    where
      go : Dec (k < length name) → get_or (name_bytes name) k 0 ≡ get_or name k 0
      go (yes h) = within_bytes k h
      go (no h) = let m : length name ≤ k = omega arith in behind_bytes k m l ∙ sym (get_or-eq_default name 0 m)

  -- a free place has no mark's name
  pub name_not_free : name_bytes name ≡ zeros name_size → ⊥
  name_not_free z =
      no_letter (get_or name 0 0) (letters 0 (omega (arith, least)))
      (sym (within_bytes 0 (omega (arith, least))) ∙ ap (λ (s : List ℕ). get_or s 0 0) z ∙ get_zeros name_size 0)

  name_back : take (length name) (name_bytes name) ≡ name
  unfolding name_bytes contents text_of
  name_back = contents_text name (omega (arith, name_short name e))

-- at the index at which the shorter name has a zero, the longer has a letter
not_longer : (a b : List ℕ) → is_mark_name a ≡ true → is_mark_name b ≡ true → name_bytes a ≡ name_bytes b → length a < length b → ⊥
not_longer a b p q e h =
    no_letter (get_or b (length a) 0) (letters b q (length a) h)
    (sym (within_bytes b q (length a) h) ∙ ap (λ (s : List ℕ). get_or s (length a) 0) (sym e) ∙ behind_bytes a p (length a) (omega arith) (omega (arith, name_short a p)))

pub same_name : (a b : List ℕ) → is_mark_name a ≡ true → is_mark_name b ≡ true → name_bytes a ≡ name_bytes b → a ≡ b
same_name a b p q e =
    sym (name_back a p)
    ∙ ap (take (length a)) e
    ∙ ap (λ (n : ℕ). take n (name_bytes b)) (go (dec_lt (length a) (length b)) (dec_lt (length b) (length a)))
    ∙ name_back b q
  where
    go : Dec (length a < length b) → Dec (length b < length a) → length a ≡ length b
    go (yes h) d = absurd (not_longer a b p q e h)
    go (no h) (yes k) = absurd (not_longer b a q p (sym e) k)
    go (no h) (no k) = omega arith
