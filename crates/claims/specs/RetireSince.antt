-- DEMAND 3 ACROSS RETIREMENTS (the desk's request of retirement), on bytes: what holds after any events, marks, returns and retirements, since the last return, of
-- the orders of the book and of those that went to an archive. Rests on Events' `Mixed`, machine's Claim and Since, and retire. The proofs are in proofs/RetireSince.
-- An order that goes is known by its name, and no name is used again: that is the premise, `Fresh`.
use Rattle.std.specs.Prelude.{ℕ, ◌+◌, ◌^◌, ◌<◌, ◌≤◌, ◌≡◌, Bool, true, false, ◌&&◌, Option, None, Some, List, [], ◌∷◌, ◌++◌, eqb, length, get_or, set}
use Rattle.std.specs.List.{list_any}
use Rattle.prelude.specs.Cases.{if◌then◌otherwise◌, maybe}
use Rattle.prelude.specs.Number.{Bytes}
use Rattle.prelude.specs.Texts.{same_text}
use Rattle.prelude.specs.Totals.{how_many, Every}
use Rattle.prelude.specs.declared.Text.{Text}
use Rattle.store.specs.declared.Order.{Order}
use Rattle.store.specs.Book.{Book, order_in, book_of}
use Rattle.store.specs.Finds.{find_name}
use Rattle.machine.specs.Constants.{most_tries}
use Rattle.machine.specs.Orders.{is_done, has_gateway}
use Rattle.machine.specs.Calls.{SinceReturn, state_of, just_returned}
use Rattle.machine.specs.Claim.{last_qty_of, status_of, failed, Each}
use Rattle.machine.specs.History.{Decoded, unread, read_as, Entry}
use Rattle.machine.specs.Since.{held_qty, new_out, base_tries, base_out}
use Rattle.step.specs.Entries.{start_of, start_refusal}
use Rattle.retire.specs.Retire.{Retired, retire_of}
use Rattle.claims.specs.Claims.{entries, Passes}
use Rattle.claims.specs.Marks.{returns, lines}
use Rattle.claims.specs.Events.{Mixed, taking, calling, put_back, singly, lines_of, after_mixed}

-- ---- a list of calls and retirements

-- a call or a return of those before (Events, `Mixed`); a retirement into an archive that was used before, by its number; one into another buffer of any bytes
pub data Move : Type 0 where
  mixed : Mixed → Move
  into_used : (number : ℕ) → Move
  into_other : (archive : List ℕ) → Bytes archive → Move

-- an order that went: its name, and the number of the archive
pub record Gone : Type 0 where
  pub name : Text
  pub archive : ℕ

-- since the last return: the image, the book and the history; every buffer that was lent as an archive, the first as number 0, as it is now; the orders that went
pub record Since : Type 0 where
  pub book : SinceReturn entries
  pub archives : List (List ℕ)
  pub gone : List Gone

abbrev pub archive_in : Since → ℕ → List ℕ
archive_in s k = get_or s.archives k []

-- those of the orders that are done
abbrev pub gone_of : (archive : ℕ) → List Order → List Gone
gone_of k [] = []
gone_of k (o ∷ os) = if is_done o.state.status then record { name = o.names.name; archive = k } ∷ gone_of k os otherwise gone_of k os

-- the call is a return that is taken, or the image takes the book's place: what went before is no longer counted
abbrev pub anew : List ℕ → Mixed → Bool
anew b (taking t) = false
anew b (calling c) = returns b c
anew b (put_back image p) = true

-- after a retirement of s's book into archive k, of which r is what came. If it is taken, the orders that were done have gone
abbrev pub retiring : Since → (k : ℕ) → (archives : List (List ℕ)) → Retired → Since
retiring s k archives r = record {
  book = record { image = s.book.image; held = r.book; past = s.book.past };
  archives = archives;
  gone = (if eqb r.returned.refusal 0 then gone_of k (book_of s.book.held).orders otherwise []) ++ s.gone;
}

abbrev pub after_move : Since → Move → Since
after_move s (mixed m) = record { book = after_mixed s.book m; archives = s.archives; gone = if anew s.book.held m then [] otherwise s.gone }
after_move s (into_used k) = let r = retire_of s.book.held (archive_in s k) in retiring s k (set s.archives k r.archive) r
after_move s (into_other a bytes) = let r = retire_of s.book.held a in retiring s (length s.archives) (s.archives ++ (r.archive ∷ [])) r

abbrev pub after_moves : Since → List Move → Since
after_moves s [] = s
after_moves s (m ∷ ms) = after_moves (after_move s m) ms

-- bytes that check passes, and nothing has happened yet
abbrev pub beginning : List ℕ → Since
beginning b = record { book = just_returned entries b; archives = []; gone = [] }

-- ---- the premise: no booking that is taken names an order that went

abbrev pub is_gone : List Gone → Text → Bool
is_gone gone name = list_any (λ g. same_text g.name name) gone

abbrev pub books_gone : List Gone → Decoded → Bool
books_gone gone (unread n) = false
books_gone gone (read_as e) = eqb e.kind 1 && is_gone gone e.ids.name

-- the lines of the history that the call adds
abbrev pub lines_by : List ℕ → Mixed → List Entry
lines_by b (taking t) = lines_of b (singly b t)
lines_by b (calling c) = lines b c
lines_by b (put_back image p) = []

abbrev pub Unused : List Gone → Entry → Type 0
Unused gone e = eqb e.refusal 0 && books_gone gone e.input ≡ false

abbrev pub fresh_move : Since → Move → Type 0
fresh_move s (mixed m) = Every (Unused s.gone) (lines_by s.book.held m)
fresh_move s (into_used k) = Unit {0}
fresh_move s (into_other a bytes) = Unit {0}

abbrev pub Fresh : Since → List Move → Type 0
Fresh s [] = Unit {0}
Fresh s (m ∷ ms) = fresh_move s m × Fresh (after_move s m) ms

-- ---- where an order stands

abbrev pub went_to : List Gone → Text → Option ℕ
went_to [] name = None
went_to (g ∷ gs) name = if same_text g.name name then Some g.archive otherwise went_to gs name

-- the archive that the order of that name went to; if none did, the book
abbrev pub stands_in : Since → Text → Book
stands_in s name = maybe (book_of s.book.held) (λ k. book_of (archive_in s k)) (went_to s.gone name)

-- ---- the claim

-- an order of that name
abbrev pub Has : Book → Text → Type 0
Has b name = (k : ℕ) × (find_name b name ≡ Some k)

-- the LastQty of an order's reports, and the cumulative quantity that the image held, are its cumulative quantity, which is at most the quantity then ordered
pub record Told (s : Since) (o : Order) : Type 0 where
  pub filled : last_qty_of o.client o.names.name s.book.past + held_qty (book_of s.book.image) o.names.name ≡ o.state.cumqty
  pub ordered : o.state.cumqty ≤ o.terms.qty

-- an order that went: it stands in the archive that it went to, is done there, and what was told of it is what is filled there. The book has it no more
pub record StandsArchived (s : Since) (g : Gone) : Type 0 where
  pub passes : Passes (archive_in s g.archive)
  pub at : ℕ
  pub found : find_name (book_of (archive_in s g.archive)) g.name ≡ Some at
  pub done : is_done (order_in (book_of (archive_in s g.archive)) at).state.status ≡ true
  pub told : Told s (order_in (book_of (archive_in s g.archive)) at)
  pub no_more : find_name (book_of s.book.held) g.name ≡ None

pub record SinceRetired (s : Since) : Type 0 where
  pub passes : Passes s.book.held
  -- of each order of the book, and of each that went
  pub book : Each (state_of entries s.book) (Told s)
  pub archived : Every (StandsArchived s) s.gone
  -- an order that the image had, or the book after some call since, stands still in the book or in the archive that it went to
  pub had : (name : Text) → Has (book_of s.book.image) name → Has (stands_in s name) name
  pub booked : Every (λ e. (name : Text) → Has e.left name → Has (stands_in s name) name) s.book.past
  -- and a done status that it had, it has still
  pub held : (name : Text) (st : ℕ) → status_of name (book_of s.book.image) ≡ Some st → is_done st ≡ true → status_of name (stands_in s name) ≡ Some st
  pub done : Every (λ e. (name : Text) (st : ℕ) → status_of name e.left ≡ Some st → is_done st ≡ true → status_of name (stands_in s name) ≡ Some st) s.book.past
  -- the tries of an order of the book, as machine's Since has them: the image's and the new requests, less those of both whose send failed since
  pub tries : Each (state_of entries s.book) (λ o. has_gateway o ≡ true
      → let image = book_of s.book.image in let past = s.book.past in
      o.gateway.tries + (how_many (failed past) (new_out image o.names.name past) + how_many (failed past) (base_out image o.names.name past))
      ≡ length (new_out image o.names.name past) + base_tries image o.names.name past)
  pub few : Each (state_of entries s.book) (λ o. has_gateway o ≡ true → o.gateway.tries ≤ most_tries)

-- what was told since it was booked: if the image is an empty book, it holds of no order anything
abbrev pub Booked : Since → Order → Type 0
Booked s o = last_qty_of o.client o.names.name s.book.past ≡ o.state.cumqty

pub record SinceBooked (s : Since) : Type 0 where
  pub book : Each (state_of entries s.book) (Booked s)
  pub archived : Every (λ g. (at : ℕ) → find_name (book_of (archive_in s g.archive)) g.name ≡ Some at → Booked s (order_in (book_of (archive_in s g.archive)) at)) s.gone

-- ---- the theorem

pub record RetireSinceOnBytes : Type 0 where
  -- from any bytes that check passes, reached by calls or not, after any list of calls, returns and retirements in which no name is used again
  pub since : (b : List ℕ) → Passes b → (ms : List Move) → Fresh (beginning b) ms → SinceRetired (after_moves (beginning b) ms)
  -- and after start with any setting, if there was no return, or one to an image as empty
  pub booked : (b : List ℕ) (setting : ℕ) → setting < 2 ^ 32 → start_refusal b ≡ 0 → (ms : List Move) → Fresh (beginning (start_of b setting)) ms
      → let s = after_moves (beginning (start_of b setting)) ms in s.book.image ≡ start_of b setting → SinceBooked s
