-- What the two calls do, said once more of the places' own bytes and of the name's, for any book, name and places; and that a mark stands until its name is
-- set again. Rests on Marks. All of it is proved in Laws/Sound, Laws/Names, Laws/Stands and Laws/Last.
use Rattle.std.specs.Prelude.{ℕ, ◌+◌, ◌*◌, ◌≤◌, ◌<◌, ◌≡◌, true, false, ◌⊎◌, List, ◌++◌, length, get_or, Some}
use Rattle.prelude.specs.Bytes.{zeros}
use Rattle.prelude.specs.Number.{Bytes}
use Rattle.rules.specs.Keeps.{keeps_of}
use Rattle.marks.specs.Marks.{name_size, place_size, place_base, place_count, name_at, image_at, is_mark_name, name_bytes, return_place, Marked, marked, set_mark_of, return_of}

-- ---- names as bytes

abbrev pub NameIs : (places bytes : List ℕ) → ℕ → Type 0
NameIs places bytes i = name_at places i ≡ bytes

-- place i is the first of those that pass
pub record Earliest (passes : ℕ → Type 0) (n i : ℕ) : Type 0 where
  pub below : i < n
  pub is : passes i
  pub before : (k : ℕ) → k < i → passes k → ⊥

abbrev pub Nowhere : (passes : ℕ → Type 0) (n : ℕ) → Type 0
Nowhere passes n = (k : ℕ) → k < n → passes k → ⊥

-- ---- a mark is set

-- name and book stand in place i; book, lengths and every other byte are as they were
pub record SetAt (book name places : List ℕ) (i : ℕ) (r : Marked) : Type 0 where
  pub returned : r.returned ≡ 0
  pub same : r.book ≡ book
  pub long : length r.places ≡ length places
  pub named : name_at r.places i ≡ name_bytes name
  pub image : image_at r.places i ≡ book
  -- in numbers: the name's letters in their order and zeros behind them, then the book's bytes
  pub letters : (k : ℕ) → k < 32 → get_or r.places (i * 65568 + k) 0 ≡ get_or name k 0
  pub bytes : (k : ℕ) → k < 65536 → get_or r.places (i * 65568 + 32 + k) 0 ≡ get_or book k 0
  pub rest : (k : ℕ) → (k < place_base i) ⊎ (place_base i + place_size ≤ k) → get_or r.places k 0 ≡ get_or places k 0

-- 1 before 13 before 15; the first place of its name, even if a free one is before it; else the first free one
pub record IsSet (book name places : List ℕ) (r : Marked) : Type 0 where
  pub bad : keeps_of book ≡ false → r ≡ marked 1 book places
  pub malformed : keeps_of book ≡ true → is_mark_name name ≡ false → r ≡ marked 13 book places
  pub again : keeps_of book ≡ true → is_mark_name name ≡ true → (i : ℕ) → Earliest (NameIs places (name_bytes name)) (place_count places) i → SetAt book name places i r
  pub fresh : keeps_of book ≡ true → is_mark_name name ≡ true → Nowhere (NameIs places (name_bytes name)) (place_count places)
      → (i : ℕ) → Earliest (NameIs places (zeros name_size)) (place_count places) i → SetAt book name places i r
  pub full : keeps_of book ≡ true → is_mark_name name ≡ true → Nowhere (NameIs places (name_bytes name)) (place_count places)
      → Nowhere (NameIs places (zeros name_size)) (place_count places) → r ≡ marked 15 book places

abbrev pub SoundSet : Type 0
SoundSet = (book name places : List ℕ) → IsSet book name places (set_mark_of book name places)

-- ---- a return

-- place i is of that name, and its image keeps the rules
pub record MarkIs (places name : List ℕ) (i : ℕ) : Type 0 where
  pub named : name_at places i ≡ name_bytes name
  pub keeps : keeps_of (image_at places i) ≡ true

-- 1 before 13 before 14; else the book is the image of the first such place, and the places are as they were
pub record IsReturn (book name places : List ℕ) (r : Marked) : Type 0 where
  pub bad : keeps_of book ≡ false → r ≡ marked 1 book places
  pub malformed : keeps_of book ≡ true → is_mark_name name ≡ false → r ≡ marked 13 book places
  pub taken : keeps_of book ≡ true → is_mark_name name ≡ true → (i : ℕ) → Earliest (MarkIs places name) (place_count places) i → r ≡ marked 0 (image_at places i) places
  pub missing : keeps_of book ≡ true → is_mark_name name ≡ true → Nowhere (MarkIs places name) (place_count places) → r ≡ marked 14 book places

abbrev pub SoundReturn : Type 0
SoundReturn = (book name places : List ℕ) → IsReturn book name places (return_of book name places)

-- ---- which names are refused: "1–16 letters or digits", in numbers

abbrev pub Alnum : ℕ → Type 0
Alnum c = ((48 ≤ c) × (c ≤ 57)) ⊎ (((65 ≤ c) × (c ≤ 90)) ⊎ ((97 ≤ c) × (c ≤ 122)))

-- a byte of the name is neither a digit nor a letter, of either case
pub record OddByte (name : List ℕ) : Type 0 where
  pub at : ℕ
  pub inside : at < length name
  pub odd : Alnum (get_or name at 0) → ⊥

-- it is empty, or longer than 16, or has such a byte, wherever it stands
abbrev pub Malformed : List ℕ → Type 0
Malformed name = (length name ≡ 0) ⊎ ((16 < length name) ⊎ OddByte name)

-- 13, after 1, exactly if the name is malformed
pub record Thirteen (book name : List ℕ) (returned : ℕ) : Type 0 where
  pub refused : keeps_of book ≡ true → Malformed name → returned ≡ 13
  pub only : returned ≡ 13 → (keeps_of book ≡ true) × Malformed name

-- so of both calls, whatever the places
pub record NamesRight : Type 0 where
  pub sets : (book name places : List ℕ) → Thirteen book name (set_mark_of book name places).returned
  pub returns : (book name places : List ℕ) → Thirteen book name (return_of book name places).returned

-- ---- what both keep, for lists of calls

-- a call that gives another number than 0 has written nothing; bytes stay bytes, and lengths are as they were
pub record Kept (book places : List ℕ) (r : Marked) : Type 0 where
  pub refused : (r.returned ≡ 0 → ⊥) → (r.book ≡ book) × (r.places ≡ places)
  pub bytes : Bytes book → Bytes places → Bytes r.book × Bytes r.places
  pub long : (length r.book ≡ length book) × (length r.places ≡ length places)
  -- a call that is taken leaves a book that keeps its rules
  pub keeps : r.returned ≡ 0 → keeps_of r.book ≡ true

pub record CallsKeep : Type 0 where
  pub sets : (book name places : List ℕ) → Kept book places (set_mark_of book name places)
  pub returns : (book name places : List ℕ) → Kept book places (return_of book name places)
  -- a set leaves the book, a return the places
  pub same_book : (book name places : List ℕ) → (set_mark_of book name places).book ≡ book
  pub same_places : (book name places : List ℕ) → (return_of book name places).places ≡ places

-- ---- the last part: with n whole places and a part that is shorter than one behind them, a call does what it does without the part, which stays as it is

abbrev pub with_rest : (rest : List ℕ) → Marked → Marked
with_rest rest r = marked r.returned r.book (r.places ++ rest)

pub record LastPart : Type 0 where
  pub sets : (book name places rest : List ℕ) (n : ℕ) → length places ≡ n * place_size → length rest < place_size
      → set_mark_of book name (places ++ rest) ≡ with_rest rest (set_mark_of book name places)
  pub returns : (book name places rest : List ℕ) (n : ℕ) → length places ≡ n * place_size → length rest < place_size
      → return_of book name (places ++ rest) ≡ with_rest rest (return_of book name places)

-- ---- a mark stands: a return to that name finds that image

pub record Stands (places name image : List ℕ) : Type 0 where
  pub at : ℕ
  pub found : return_place places name ≡ Some at
  pub is : image_at places at ≡ image

pub record MarksStand : Type 0 where
  -- a mark that was set stands
  pub set : (book name places : List ℕ) → (set_mark_of book name places).returned ≡ 0 → Stands (set_mark_of book name places).places name book
  -- and no set of another name, taken or refused, moves it
  pub other : (book name another places image : List ℕ) → is_mark_name name ≡ true → (another ≡ name → ⊥)
      → Stands places name image → Stands (set_mark_of book another places).places name image
  -- a return to it, from any book that keeps its rules, gives the marked book, byte for byte
  pub back : (book name places image : List ℕ) → keeps_of book ≡ true → is_mark_name name ≡ true → Stands places name image → return_of book name places ≡ marked 0 image places
