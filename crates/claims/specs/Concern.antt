-- Which order an event concerns, on bytes: the record of a call and the book that it finds. What support staff look up. Rests on records (`event_in`), store
-- (`book_of`) and prelude's `same_text`.
use Rattle.std.specs.Prelude.{ℕ, ◌+◌, ◌≤◌, ◌<◌, ◌≡◌, ◌⊎◌, true, List, length}
use Rattle.prelude.specs.Number.{Bytes}
use Rattle.prelude.specs.Texts.{same_text}
use Rattle.records.specs.Record.{event_in}
use Rattle.store.specs.Book.{book_of, order_in, request_in}
use Rattle.machine.specs.Exchange.{concerns}
use Rattle.step.specs.Entries.{check_of}
use Rattle.format.specs.Refusal.{event_refusal}
use Rattle.claims.specs.Claims.{Exactly}

-- request k of the book is one of the order's at index i
abbrev pub RequestOf : (book : List ℕ) (i k : ℕ) → Type 0
RequestOf b i k = (k < length (book_of b).requests) × ((request_in (book_of b) k).order ≡ i)

-- THE RECORD r CONCERNS THE ORDER at index i of the book b
pub data Concerns (b r : List ℕ) (i : ℕ) : Type 0 where
  -- a client's cancel or replace: the order is that client's, and one of its requests has the record's OrigClOrdID as its ClOrdID
  by_clordid : ((event_in r).kind ≡ 2) ⊎ ((event_in r).kind ≡ 3) → (order_in (book_of b) i).client ≡ (event_in r).client
      → (k : ℕ) → RequestOf b i k → same_text (request_in (book_of b) k).clordid (event_in r).ids.origclordid ≡ true → Concerns b r i
  -- a report, an unknown order, a reject, a failed send, a send again: one of the order's requests has the record's downstream ClOrdID, whatever the venue
  by_request : 4 ≤ (event_in r).kind → (event_in r).kind ≤ 8
      → (k : ℕ) → RequestOf b i k → same_text (request_in (book_of b) k).downstream (event_in r).ids.downstream ≡ true → Concerns b r i
  -- the gateway's cancel: the order has the record's name
  by_name : (event_in r).kind ≡ 9 → i < length (book_of b).orders → same_text (order_in (book_of b) i).names.name (event_in r).ids.name ≡ true → Concerns b r i

-- on a book that keeps its rules a record of kinds 2 to 9 concerns no two orders, and it is the order that the machine's handling takes
pub record OneConcern : Type 0 where
  pub one : (b r : List ℕ) → check_of b ≡ 0 → Bytes r → event_refusal r ≡ 0 → (i j : ℕ) → Concerns b r i → Concerns b r j → i ≡ j
  pub handled : (b r : List ℕ) → check_of b ≡ 0 → Bytes r → event_refusal r ≡ 0 → 2 ≤ (event_in r).kind
      → (i : ℕ) → Exactly (Concerns b r i) (concerns (book_of b) (event_in r) ≡ i + 1)
