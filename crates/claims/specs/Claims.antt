-- Demands 1 and 3 on bytes: what holds of `start`, `check` and `event` for every input, and of every list of calls. Rests on Entries, Questions and machine's
-- Claim. The proofs are in proofs/.
use Rattle.std.specs.Prelude.{ℕ, ◌+◌, ◌^◌, ◌≤◌, ◌<◌, ◌≡◌, ◌⊎◌, true, false, not, List, [], eqb, ltb, length}
use Rattle.prelude.specs.Cases.{if◌then◌otherwise◌}
use Rattle.prelude.specs.Number.{Bytes, word16}
use Rattle.prelude.specs.Texts.{same_text}
use Rattle.records.specs.Record.{event_in}
use Rattle.records.specs.Answer.{answer_messages}
use Rattle.store.specs.Layout.{book_size, header·orders, header·requests, most_orders, most_requests}
use Rattle.store.specs.Book.{Book, request_in, book_of}
use Rattle.machine.specs.Changes.{Event, Message}
use Rattle.machine.specs.Machine.{step_of, after}
use Rattle.machine.specs.History.{Decoded, unread, read_as}
use Rattle.machine.specs.Said.{Answers}
use Rattle.machine.specs.Calls.{Form, line_at, calls, Step, state_of, follow, just_returned}
use Rattle.machine.specs.Claim.{Demand3, OneOrder, Each}
use Rattle.machine.specs.Short.{IsWhole}
use Rattle.machine.specs.Since.{Demand3From, Net}
use Rattle.claims.specs.Questions.{is_booking, used, mispriced, adds, first_no}
use Rattle.step.specs.Entries.{book_with, Returned, event_of, start_of, start_refusal, check_of}
use Rattle.format.specs.Refusal.{event_refusal}

-- ---- demand 1

abbrev pub Exactly : (A B : Type 0) → Type 0
Exactly A B = (A → B) × (B → A)

-- questions 1 to 4 are answered with yes
abbrev pub Reads : (book event answer : List ℕ) → Type 0
Reads b r a = (check_of b ≡ 0) × (1024 ≤ length a) × (event_refusal r ≡ 0)

-- "each number has its one condition": n is what the call returns. That n is `first_no` says all of it; this is what each number means.
pub record Numbers (b r a : List ℕ) (n : ℕ) : Type 0 where
  pub most : n ≤ 7
  -- 1 if check gives 1, 2 if the answer buffer is short, 3 and 4 if the record's shape or a range is wrong
  pub one : Exactly (n ≡ 1) (check_of b ≡ 1)
  pub two : Exactly (n ≡ 2) ((check_of b ≡ 0) × (length a < 1024))
  pub three : Exactly (n ≡ 3) ((check_of b ≡ 0) × (1024 ≤ length a) × (event_refusal r ≡ 3))
  pub four : Exactly (n ≡ 4) ((check_of b ≡ 0) × (1024 ≤ length a) × (event_refusal r ≡ 4))
  -- 5 if a booking's name or ClOrdID is used, else 6 if the price does not fit the type
  pub five : Exactly (n ≡ 5) (Reads b r a × (used (book_of b) (event_in r) ≡ true))
  pub six : Exactly (n ≡ 6) (Reads b r a × (used (book_of b) (event_in r) ≡ false) × (mispriced (book_of b) (event_in r) ≡ true))
  -- 7 is never early: none of these is so, and it is a booking on 64 orders, or an event that adds a request on 256
  pub seven : Exactly (n ≡ 7)
      (Reads b r a × (used (book_of b) (event_in r) ≡ false) × (mispriced (book_of b) (event_in r) ≡ false)
      × ((((event_in r).kind ≡ 1) × (length (book_of b).orders ≡ most_orders)) ⊎ ((adds (book_of b) (event_in r) ≡ true) × (length (book_of b).requests ≡ most_requests))))

-- what an event taken adds to the tables: an order exactly if it is a booking, a request exactly if `adds` says so
pub record Grown (b : Book) (e : Event) (left : Book) : Type 0 where
  pub orders : length left.orders ≡ length b.orders + (if is_booking e then 1 otherwise 0)
  pub requests : length left.requests ≡ length b.requests + (if adds b e then 1 otherwise 0)

-- a book that check passes has its length, and the header's counts are within their tables
pub record Counted (b : List ℕ) : Type 0 where
  pub long : length b ≡ book_size
  pub orders : word16 b header·orders ≤ most_orders
  pub requests : word16 b header·requests ≤ most_requests

pub record Demand1 : Type 0 where
  pub counted : (b : List ℕ) → check_of b ≡ 0 → Counted b
  -- start leaves a book that keeps its rules
  pub started : (b : List ℕ) (setting : ℕ) → start_refusal b ≡ 0 → check_of (start_of b setting) ≡ 0
  -- and so does each event taken, on any book
  pub kept : (b r a : List ℕ) → Bytes b → Bytes r → (event_of b r a).returned ≡ 0 → check_of (event_of b r a).book ≡ 0
  -- a refused event changes neither book nor answer buffer
  pub refused : (b r a : List ℕ) → ((event_of b r a).returned ≡ 0 → ⊥) → ((event_of b r a).book ≡ b) × ((event_of b r a).answer ≡ a)
  -- an event gets the number of the first question (docs/SCOPE.md, Questions) that is answered with no, or 0
  pub first : (b r a : List ℕ) → (event_of b r a).returned ≡ first_no b r a
  pub numbers : (b r a : List ℕ) → Numbers b r a (event_of b r a).returned
  -- the records that question 7 is asked about are those that the event adds
  pub grown : (b r a : List ℕ) → Bytes b → Bytes r → (event_of b r a).returned ≡ 0 → Grown (book_of b) (event_in r) (book_of (event_of b r a).book)

-- our reader reads the answer of an event taken: its messages and its two alarms are the machine's own; none, one alone, or 6 and then 1
abbrev pub AnswersOnBytes : Type 0
AnswersOnBytes = (b r a : List ℕ) → Bytes b → Bytes r → (event_of b r a).returned ≡ 0 → Answers (step_of (book_of b) (event_in r)) (event_of b r a).answer

-- ---- the book in its bytes

-- the bytes that an event taken leaves are the book that the machine's change leaves
abbrev pub WritesChange : Type 0
WritesChange = (b r : List ℕ) → Bytes b → Bytes r → check_of b ≡ 0 → event_refusal r ≡ 0 → (step_of (book_of b) (event_in r)).refusal ≡ 0
    → book_of (book_with b (step_of (book_of b) (event_in r))) ≡ after (book_of b) (step_of (book_of b) (event_in r))

-- no call changes a length, and the book's bytes stay bytes
pub record Sizes (b r a : List ℕ) (o : Returned) : Type 0 where
  pub answer : length o.answer ≡ length a
  pub book : Bytes b → Bytes r → length o.book ≡ length b
  pub bytes : Bytes b → Bytes r → Bytes o.book

abbrev pub KeepsSizes : Type 0
KeepsSizes = (b r a : List ℕ) → Sizes b r a (event_of b r a)

-- ---- demand 3

-- a call: a record of any bytes, and an answer buffer of any bytes
pub record Call : Type 0 where
  pub event : List ℕ
  pub answer : List ℕ
  pub bytes : Bytes event

-- what the call's record reads as, if the answer buffer is long enough
unfoldable pub read_call : Call → Decoded
read_call c =
    if ltb (length c.answer) 1024 then unread 2
    otherwise if not (eqb (event_refusal c.event) 0) then unread (event_refusal c.event)
    otherwise read_as (event_in c.event)

-- the messages that our reader reads from the answer buffer; that of a refused call is not read
unfoldable pub heard_of : List ℕ → Call → List Message
heard_of b c =
    let o = event_of b c.event c.answer in
    if eqb o.returned 0 then answer_messages o.answer otherwise []

-- the entries as they are called: the book's bytes go from call to call
abbrev pub entries : Form Call (List ℕ)
entries = record {
  read = read_call;
  book_of = book_of;
  returned = λ b c. (event_of b c.event c.answer).returned;
  heard = heard_of;
  next = λ b c. (event_of b c.event c.answer).book;
}

-- DEMAND 3: after start with any setting and any list of calls
abbrev pub Demand3OnBytes : Type 0
Demand3OnBytes = (b : List ℕ) (setting : ℕ) → setting < 2 ^ 32 → start_refusal b ≡ 0 → (cs : List Call) → Demand3 (calls entries (start_of b setting) [] cs)

-- ---- Filled, but short (change request 8)

-- A FILLED ORDER IS FILLED WHOLE: after start with any setting and any list of calls. It is no rule: an older book may hold one that is short
abbrev pub FilledWholeOnBytes : Type 0
FilledWholeOnBytes = (b : List ℕ) (setting : ℕ) → setting < 2 ^ 32 → start_refusal b ≡ 0 → (cs : List Call) → Each (calls entries (start_of b setting) [] cs) IsWhole

-- ---- since a return (change request 10)

-- bytes that check passes
pub record Passes (b : List ℕ) : Type 0 where
  pub bytes : Bytes b
  pub passes : check_of b ≡ 0

-- SINCE A RETURN: after any list of calls and returns, each return to any bytes that check passes, reached by calls or not. What is counted is
-- counted since the last return, and starts from what its image held.
abbrev pub SinceOnBytes : Type 0
SinceOnBytes = (b : List ℕ) → Passes b → (is : List (Step entries Passes))
    → let s = follow entries (just_returned entries b) is in Demand3From (book_of s.image) (state_of entries s) × Net (book_of s.image) (state_of entries s)

-- ---- one order

-- ONE ORDER STAYS ONE ORDER: an event 4 to 8 that is taken and names a downstream ClOrdID of the book changes just the order of that request
abbrev pub StaysOneOnBytes : Type 0
StaysOneOnBytes = (b : List ℕ) (c : Call) → Bytes b → (event_of b c.event c.answer).returned ≡ 0
    → let e = event_in c.event in 4 ≤ e.kind → e.kind ≤ 8
    → (k : ℕ) → k < length (book_of b).requests → same_text (request_in (book_of b) k).downstream e.ids.downstream ≡ true
    → OneOrder (book_of b) (request_in (book_of b) k).order (line_at entries b c)
