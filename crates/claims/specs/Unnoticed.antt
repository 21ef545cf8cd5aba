-- NOTHING ELSE NOTICES A RETIREMENT (the desk's request of retirement), on bytes: calls of `event` whose records name nothing of a retired order get the same numbers
-- and the same answers with the retirement and without it, and leave the same but for the retired orders. Rests on Exchange, RetirePlaced and retire's `retire_of`.
use Rattle.std.specs.Prelude.{ℕ, ◌+◌, ◌-◌, ◌≤◌, ◌<◌, ◌≡◌, ◌⊎◌, Bool, false, ◌&&◌, List, [], ◌∷◌, eqb, length}
use Rattle.std.specs.List.{list_any}
use Rattle.prelude.specs.Below.{count_below}
use Rattle.prelude.specs.Number.{Bytes}
use Rattle.prelude.specs.Texts.{same_text}
use Rattle.records.specs.Record.{event_in}
use Rattle.store.specs.Book.{Book, order_in, request_in, book_of}
use Rattle.machine.specs.Constants.{cancel_reject_kind, text_too_many}
use Rattle.machine.specs.Orders.{is_empty}
use Rattle.machine.specs.Changes.{Event, Message}
use Rattle.machine.specs.Rules.{client_of}
use Rattle.format.specs.Refusal.{event_refusal}
use Rattle.parts.specs.Alike.{OwnNamed}
use Rattle.retire.specs.Retire.{retire_of}
use Rattle.claims.specs.Claims.{Call, Passes, heard_of}
use Rattle.claims.specs.Concern.{Concerns}
use Rattle.claims.specs.Exchange.{called}
use Rattle.claims.specs.Retire.{order_done, done_orders, done_requests}
use Rattle.claims.specs.RetirePlaced.{StandsAt, DoneOrder, DoneRequest}

-- ---- what a call may name

-- by what an event of its kind names it names no done order of this book, and no request of one: a booking and the gateway's cancel name an order, what a venue says or
-- is sent names a downstream ClOrdID, and a client names its own ClOrdIDs
pub record NamesNoneDone (b : Book) (e : Event) : Type 0 where
  pub name : (e.kind ≡ 1) ⊎ (e.kind ≡ 9) → (i : ℕ) → DoneOrder b i → same_text (order_in b i).names.name e.ids.name ≡ false
  pub downstream : 4 ≤ e.kind → e.kind ≤ 8 → (j : ℕ) → DoneRequest b j → same_text (request_in b j).downstream e.ids.downstream ≡ false
  -- a gateway's cancel has no ClOrdID
  pub clordid : e.kind ≤ 3 → (j : ℕ) → DoneRequest b j → client_of b j ≡ e.client → is_empty (request_in b j).clordid ≡ false
      → same_text (request_in b j).clordid e.ids.clordid ≡ false
  pub origclordid : (e.kind ≡ 2) ⊎ (e.kind ≡ 3) → (j : ℕ) → DoneRequest b j → client_of b j ≡ e.client → is_empty (request_in b j).clordid ≡ false
      → same_text (request_in b j).clordid e.ids.origclordid ≡ false

-- ---- lists of calls

abbrev pub after_calls : List ℕ → List Call → List ℕ
after_calls b [] = b
after_calls b (c ∷ cs) = after_calls (called b c).book cs

-- what a call gives: its number, and the answer buffer as it is then
pub record Given : Type 0 where
  pub number : ℕ
  pub answer : List ℕ

abbrev pub given : List ℕ → List Call → List Given
given b [] = []
given b (c ∷ cs) = record { number = (called b c).returned; answer = (called b c).answer } ∷ given (called b c).book cs

-- the client is told that it has used too many ClOrdIDs
abbrev pub says_too_many : Message → Bool
says_too_many m = eqb m.kind cancel_reject_kind && eqb m.told.fixedtext text_too_many

-- each call, as the list comes to it: if its record reads as an event, that names nothing that was done in the book `was`; the call is not refused with 7, and the
-- client is not told of too many ClOrdIDs
abbrev pub Undisturbed : (was : Book) → List ℕ → List Call → Type 0
Undisturbed was b [] = Unit {0}
Undisturbed was b (c ∷ cs) =
    (event_refusal c.event ≡ 0 → NamesNoneDone was (event_in c.event)) × ((called b c).returned ≡ 7 → ⊥) × (list_any says_too_many (heard_of b c) ≡ false)
    × Undisturbed was (called b c).book cs

-- ---- the same but for what is retired

-- order i was not done then, or not there yet
abbrev pub NotRetired : (was : Book) → ℕ → Type 0
NotRetired was i = DoneOrder was i → ⊥

-- in the desk's words: "concern an order that was live at the retirement and name no ClOrdID that the same client used for a retired one"; or an order that was booked
-- since. The record is judged by the book b as it is when the record comes, without the retirement
pub record ConcernsLive (was : Book) (b r : List ℕ) : Type 0 where
  pub place : ℕ
  pub live : NotRetired was place
  pub concerns : Concerns b r place
  pub clordid : (j : ℕ) → DoneRequest was j → client_of was j ≡ (event_in r).client → is_empty (request_in was j).clordid ≡ false
      → same_text (request_in was j).clordid (event_in r).ids.clordid ≡ false

-- where it stands if the orders that were done then are not there
abbrev pub lower : (was : Book) → ℕ → ℕ
lower was i = i - count_below (order_done was) i

-- the book c is b without the orders that were done in `was`, and without their requests
pub record SameBut (was b c : Book) : Type 0 where
  pub setting : c.setting ≡ b.setting
  pub orders : length c.orders + done_orders was ≡ length b.orders
  pub requests : length c.requests + done_requests was ≡ length b.requests
  -- the others stand in their order, each with its record and its requests
  pub stands : (i : ℕ) → i < length b.orders → NotRetired was i → StandsAt b c i (order_in b i) (lower was i)
  -- and what was retired is as it was
  pub retired : (i : ℕ) → DoneOrder was i → order_in b i ≡ order_in was i
  pub retired_requests : (j : ℕ) → DoneRequest was j → request_in b j ≡ request_in was j

-- ---- the statement

-- a retirement of any bytes that is taken, of a book in which gateway cancels name their own orders' requests, as in every book that events and retirements lead to
-- (RetirePlacedOnBytes)
pub record TakenRetirement (b a : List ℕ) : Type 0 where
  pub bytes : Bytes b
  pub taken : (retire_of b a).returned.refusal ≡ 0
  pub own : OwnNamed (book_of b)

-- a list of calls on the book that the retirement leaves, and the same calls, lent the same answer buffers, on the book without it: every number and every byte of
-- every answer is the same, and both books keep their rules and are the same but for what is retired
pub record NothingNotices (b a : List ℕ) (cs : List Call) : Type 0 where
  pub answers : given (retire_of b a).book cs ≡ given b cs
  pub books : SameBut (book_of b) (book_of (after_calls b cs)) (book_of (after_calls (retire_of b a).book cs))
  pub passes : Passes (after_calls b cs) × Passes (after_calls (retire_of b a).book cs)
  -- and if both are retired then, into any archives, one book is left: it does not matter when done orders go
  pub later : (d e : List ℕ) → (retire_of (after_calls b cs) d).returned.refusal ≡ 0 → (retire_of (after_calls (retire_of b a).book cs) e).returned.refusal ≡ 0
      → book_of (retire_of (after_calls (retire_of b a).book cs) e).book ≡ book_of (retire_of (after_calls b cs) d).book

pub record UnnoticedOnBytes : Type 0 where
  pub notices : (b a : List ℕ) → TakenRetirement b a → (cs : List Call) → Undisturbed (book_of b) b cs → NothingNotices b a cs
  -- a record that comes after such calls and concerns an order that was not retired names nothing that was
  pub live : (b a : List ℕ) → TakenRetirement b a → (cs : List Call) → Undisturbed (book_of b) b cs
      → (r : List ℕ) → ConcernsLive (book_of b) (after_calls b cs) r → NamesNoneDone (book_of b) (event_in r)
