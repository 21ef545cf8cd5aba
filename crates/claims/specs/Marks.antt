-- MARKS OVER LISTS (change request 10), on bytes: what holds after any events, marks set and returns, since the last return; and that a mark comes back as it
-- was set. Rests on Claims, Net and marks. The proofs are in proofs/Marks.
use Rattle.std.specs.Prelude.{ℕ, ◌^◌, ◌<◌, ◌≡◌, Bool, false, List, [], ◌∷◌, ◌++◌, eqb}
use Rattle.prelude.specs.Cases.{if◌then◌otherwise◌}
use Rattle.prelude.specs.Number.{Bytes}
use Rattle.store.specs.Book.{book_of}
use Rattle.machine.specs.Calls.{line_at, SinceReturn, state_of, just_returned}
use Rattle.machine.specs.Claim.{Demand3}
use Rattle.machine.specs.History.{Entry}
use Rattle.machine.specs.Since.{Demand3From, Net}
use Rattle.step.specs.Entries.{event_of, start_of, start_refusal}
use Rattle.net.specs.Net.{filled_in}
use Rattle.marks.specs.Marks.{Marked, marked, set_mark_of, return_of}
use Rattle.claims.specs.Claims.{Call, entries, Passes}
use Rattle.claims.specs.Net.{reported, plus, Says}

-- ---- a list of calls: the book's bytes go from call to call, and each call lends its own other buffers, of any bytes

pub data BookCall : Type 0 where
  event : Call → BookCall
  set_mark : (name places : List ℕ) → BookCall
  return_to : (name places : List ℕ) → Bytes places → BookCall

abbrev pub book_after : List ℕ → BookCall → List ℕ
book_after b (event c) = (event_of b c.event c.answer).book
book_after b (set_mark name places) = (set_mark_of b name places).book
book_after b (return_to name places _) = (return_of b name places).book

-- the call is a return that is taken
abbrev pub returns : List ℕ → BookCall → Bool
returns b (event c) = false
returns b (set_mark name places) = false
returns b (return_to name places _) = eqb (return_of b name places).returned 0

-- the lines of the history that the call adds: an event's, taken or refused
abbrev pub lines : List ℕ → BookCall → List Entry
lines b (event c) = line_at entries b c ∷ []
lines b (set_mark name places) = []
lines b (return_to name places _) = []

-- the image last returned to, the book, and the events since: a return that is taken begins anew
abbrev pub after_call : SinceReturn entries → BookCall → SinceReturn entries
after_call s c =
    if returns s.held c then just_returned entries (book_after s.held c)
    otherwise record { image = s.image; held = book_after s.held c; past = lines s.held c ++ s.past }

abbrev pub after_calls : SinceReturn entries → List BookCall → SinceReturn entries
after_calls s [] = s
after_calls s (c ∷ cs) = after_calls (after_call s c) cs

-- ---- since the last return, or since the beginning if there was none

pub record SinceMark (s : SinceReturn entries) : Type 0 where
  -- the book keeps its rules
  pub passes : Passes s.held
  -- LastQty adds up to the cumulative quantity less what the image held, at most what is ordered; done means done since; tries are the image's and the new
  -- requests less those of both whose send failed since, at most three
  pub demand : Demand3From (book_of s.image) (state_of entries s)
  -- bought and sold: what the image held and what was reported since
  pub net : Net (book_of s.image) (state_of entries s)
  -- and so says the call
  pub said : Says s.held (λ client symbol. plus (filled_in (book_of s.image) client symbol) (reported client symbol s.past))

-- ---- a mark comes back

-- what may happen meanwhile: a call with buffers of its own; a set of another name on that buffer, or a return from it; a start
pub data Meanwhile (name : List ℕ) : Type 0 where
  elsewhere : BookCall → Meanwhile name
  set_here : (another : List ℕ) → (another ≡ name → ⊥) → Meanwhile name
  return_here : (another : List ℕ) → Meanwhile name
  start : (setting : ℕ) → Meanwhile name

-- the book and the buffer of places
pub record Both : Type 0 where
  pub book : List ℕ
  pub places : List ℕ

abbrev pub both : Marked → Both
both r = record { book = r.book; places = r.places }

abbrev pub goes_on : {name : List ℕ} → Both → Meanwhile name → Both
goes_on s (elsewhere c) = record { book = book_after s.book c; places = s.places }
goes_on s (set_here another _) = both (set_mark_of s.book another s.places)
goes_on s (return_here another) = both (return_of s.book another s.places)
goes_on s (start setting) = record { book = start_of s.book setting; places = s.places }

abbrev pub go_on : {name : List ℕ} → Both → List (Meanwhile name) → Both
go_on s [] = s
go_on s (m ∷ ms) = go_on (goes_on s m) ms

-- ---- the theorem

pub record MarksOnBytes : Type 0 where
  -- from any bytes that check passes, reached by calls or not, after any list of calls
  pub since : (b : List ℕ) → Passes b → (cs : List BookCall) → SinceMark (after_calls (just_returned entries b) cs)
  -- after start with any setting and any list of calls
  pub start : (b : List ℕ) (setting : ℕ) → start_refusal b ≡ 0 → (cs : List BookCall) → SinceMark (after_calls (just_returned entries (start_of b setting)) cs)
  -- and demand 3 as it stands from the empty book, if that is the image
  pub empty : (b : List ℕ) (setting : ℕ) → setting < 2 ^ 32 → start_refusal b ≡ 0 → (cs : List BookCall)
      → let s = after_calls (just_returned entries (start_of b setting)) cs in s.image ≡ start_of b setting → Demand3 (state_of entries s)
  -- a mark set, then anything but a set of that name on that buffer, then a return: the book is, byte for byte, the one that was marked
  pub comes_back : (book name places : List ℕ) → Bytes book → Bytes places → (set_mark_of book name places).returned ≡ 0 → (ms : List (Meanwhile name))
      → let s = go_on (both (set_mark_of book name places)) ms in return_of s.book name s.places ≡ marked 0 book s.places
