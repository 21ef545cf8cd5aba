-- What the entries `start`, `event` and `check` of gateway do, on bytes: what each returns and what it leaves in each buffer that it is lent.
-- Rests on rules (`keeps_of`), index (`origin_of`), records (`event_in`, `answer_bytes`, `shortest_answer`), machine (`step_of`) and store (the book in its bytes).
use Rattle.std.specs.Prelude.{ℕ, ◌-◌, not, List, eqb, leb, ltb, length}
use Rattle.prelude.specs.Cases.{if◌then◌otherwise◌, maybe}
use Rattle.prelude.specs.Span.{splice}
use Rattle.records.specs.Record.{event_in}
use Rattle.records.specs.Answer.{shortest_answer, answer_bytes}
use Rattle.store.specs.declared.Order.{Order}
use Rattle.store.specs.Book.{Book, is_book, order_count, book_of, store_order, add_order, add_request, mark_answered, store_origin, store_open, blank}
use Rattle.store.specs.Finds.{find_client}
use Rattle.machine.specs.declared.Requests.{Requests}
use Rattle.machine.specs.declared.Change.{Change}
use Rattle.machine.specs.Changes.{refusing}
use Rattle.machine.specs.Machine.{after, step_of}
use Rattle.machine.specs.Exchange.{open_of}
use Rattle.machine.specs.History.{messages_of}
use Rattle.index.specs.Index.{origin_of}
use Rattle.rules.specs.Keeps.{keeps_of}
use Rattle.format.specs.Refusal.{event_refusal}

-- ---- a change written into the tables of a book

-- the order goes to the record of its link, `place`: 0 is none, one past those in use is a new order
unfoldable pub place_order : List ℕ → (place : ℕ) → Order → List ℕ
place_order b place o =
    if eqb place 0 then b
    otherwise if leb place (order_count b) then store_order b (place - 1) o
    otherwise add_order b o

-- the request of this link is marked as answered, with this outcome if it was not answered before
unfoldable pub mark_link : List ℕ → (link outcome : ℕ) → List ℕ
mark_link b link outcome = if eqb link 0 then b otherwise mark_answered b (link - 1) outcome

-- the requests settled have their outcome, and one may be added
unfoldable pub place_requests : List ℕ → Requests → List ℕ
place_requests b r =
    let marked : List ℕ = mark_link (mark_link b r.answered r.outcome) r.superseded r.outcome in
    if eqb r.added 0 then marked otherwise add_request marked r.request

-- the change that an event makes, in the tables
unfoldable pub tables_with : List ℕ → Change → List ℕ
tables_with b c = place_requests (place_order b c.place c.order) c.requests

-- ---- what is stored only to be found quickly, beside the tables and behind them

-- request k has this origin, if one is added
unfoldable pub place_origin : List ℕ → (added k origin : ℕ) → List ℕ
place_origin b added k origin = if eqb added 0 then b otherwise store_origin b k origin

-- the order's client has its open quantity, in the book as it is left, in the word of its first order there; no other word is written
unfoldable pub place_open : List ℕ → (left : Book) → (place client : ℕ) → List ℕ
place_open b left place client =
    if eqb place 0 then b
    otherwise maybe b (λ i. store_open b i (open_of left client)) (find_client left client)

-- ALL OF IT, for a change of this book: the request that is added, the last then, has the link of the request that its OrigClOrdID names, and the order's client its
-- open quantity
unfoldable pub place_index : List ℕ → Book → Change → List ℕ
place_index b was c =
    let linked : List ℕ = place_origin b c.requests.added (length was.requests) (origin_of was c.order.client c.requests.request.origclordid) in
    place_open linked (after was c) c.place c.order.client

-- ---- the whole change

unfoldable pub book_with : List ℕ → Change → List ℕ
book_with b c = place_index (tables_with b c) (book_of b) c

-- ---- the entries

-- what a call returns, and what its buffers are then
pub record Returned : Type 0 where
  pub returned : ℕ
  pub book : List ℕ
  pub answer : List ℕ

abbrev pub returned : (number : ℕ) (book answer : List ℕ) → Returned
returned n b a = record { returned = n; book = b; answer = a }

-- the questions in their order, of a book, a record and the answer buffer's length: the first no gives its number. `step_of` asks 5, 6 and 7.
unfoldable pub call_of : (book event : List ℕ) (room : ℕ) → Change
call_of b r room =
    if not (keeps_of b) then refusing 1
    otherwise if ltb room shortest_answer then refusing 2
    otherwise if not (eqb (event_refusal r) 0) then refusing (event_refusal r)
    otherwise step_of (book_of b) (event_in r)

-- `event`: an event that is refused has written nothing anywhere
unfoldable pub event_of : (book event answer : List ℕ) → Returned
event_of b r a =
    let c = call_of b r (length a) in
    if eqb c.refusal 0 then returned 0 (book_with b c) (splice a 0 (answer_bytes c.output.alarm c.output.alarm2 (messages_of c)))
    otherwise returned c.refusal b a

-- `start`: zeros but for the setting; a buffer of another length stays as it is
unfoldable pub start_refusal : List ℕ → ℕ
start_refusal b = if is_book b then 0 otherwise 1

unfoldable pub start_of : List ℕ → (setting : ℕ) → List ℕ
start_of b setting = if is_book b then blank setting otherwise b

-- `check`
unfoldable pub check_of : List ℕ → ℕ
check_of b = if keeps_of b then 0 otherwise 1
