-- MARKS TO COME BACK TO (change request 10), or savepoints: a name and an image of the book, in a lent buffer divided into places; and the two calls, one that sets a mark
-- and one that returns to it. What stands in quotes is the desk's wording. Rests on format's `is_alnum`, store's `book_size` and rules' `keeps_of`.
use Rattle.std.specs.Prelude.{ℕ, ◌+◌, ◌*◌, ◌/◌, Bool, not, ◌&&◌, List, ◌++◌, length, get_or, take, Option, Some}
use Rattle.prelude.specs.Below.{all_below, first_below}
use Rattle.prelude.specs.Bytes.{zeros}
use Rattle.prelude.specs.Cases.{if◌then◌otherwise◌, maybe}
use Rattle.prelude.specs.Span.{span, splice}
use Rattle.prelude.specs.Texts.{agree_at}
use Rattle.format.specs.Codes.{within, is_alnum}
use Rattle.store.specs.Layout.{book_size}
use Rattle.rules.specs.Keeps.{keeps_of}

-- ---- a place: "32 bytes of name, zeros after it, then the image"

abbrev pub name_size : ℕ
name_size = 32

abbrev pub place_size : ℕ
place_size = 65568

-- where place i starts
abbrev pub place_base : ℕ → ℕ
place_base i = i * place_size

-- the whole places of the buffer: "a last part shorter than that unused"
abbrev pub place_count : List ℕ → ℕ
place_count places = length places / place_size

unfoldable pub name_at : List ℕ → ℕ → List ℕ
name_at places i = span places (place_base i) name_size

unfoldable pub image_at : List ℕ → ℕ → List ℕ
image_at places i = span places (place_base i + name_size) book_size

-- ---- a name: "1–16 letters or digits"

abbrev pub letter_at : List ℕ → ℕ → Bool
letter_at name k = is_alnum (get_or name k 0)

unfoldable pub is_mark_name : List ℕ → Bool
is_mark_name name = within 1 16 (length name) && all_below (letter_at name) (length name)

-- as a place has it
unfoldable pub name_bytes : List ℕ → List ℕ
name_bytes name = take name_size (name ++ zeros name_size)

-- place i has these 32 bytes for its name
unfoldable pub has_name : (places bytes : List ℕ) → ℕ → Bool
has_name places bytes i = all_below (agree_at (name_at places i) bytes) name_size

abbrev pub is_of : (places name : List ℕ) → ℕ → Bool
is_of places name = has_name places (name_bytes name)

-- "an all-zero name is a free place", whatever its image
abbrev pub is_free : List ℕ → ℕ → Bool
is_free places = has_name places (zeros name_size)

-- ---- which place

-- "A mark goes to the first place of its name, else to the first free one"
unfoldable pub set_place : (places name : List ℕ) → Option ℕ
set_place places name = maybe (first_below (is_free places) (place_count places)) Some (first_below (is_of places name) (place_count places))

-- it is of that name, and its image keeps the book's rules
unfoldable pub is_mark : (places name : List ℕ) → ℕ → Bool
is_mark places name i = is_of places name i && keeps_of (image_at places i)

-- "a return takes the first of its name whose image keeps the rules"
unfoldable pub return_place : (places name : List ℕ) → Option ℕ
return_place places name = first_below (is_mark places name) (place_count places)

-- ---- the calls

-- what a call returns, and what book and places are then
pub record Marked : Type 0 where
  pub returned : ℕ
  pub book : List ℕ
  pub places : List ℕ

abbrev pub marked : (returned : ℕ) (book places : List ℕ) → Marked
marked n b p = record { returned = n; book = b; places = p }

-- `set_mark`: 1 if the book does not keep its rules, then 13 if the name is malformed, then 15 if no place is of that name and none is free.
-- Else name and image stand in the place, and every other byte is as it was.
unfoldable pub set_mark_of : (book name places : List ℕ) → Marked
set_mark_of book name places =
    if not (keeps_of book) then marked 1 book places
    otherwise if not (is_mark_name name) then marked 13 book places
    otherwise maybe (marked 15 book places) (λ i. marked 0 book (splice places (place_base i) (name_bytes name ++ book))) (set_place places name)

-- `return_to_mark`: 1 if the book does not keep its rules, then 13 if the name is malformed, then 14 if no place is of that name and has an
-- image that keeps the rules. Else "the book [is] exactly its image".
unfoldable pub return_of : (book name places : List ℕ) → Marked
return_of book name places =
    if not (keeps_of book) then marked 1 book places
    otherwise if not (is_mark_name name) then marked 13 book places
    otherwise maybe (marked 14 book places) (λ i. marked 0 (image_at places i) places) (return_place places name)
