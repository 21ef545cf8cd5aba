-- Demand 3, whole: what holds after every list of calls, from the empty book with any setting. Rests on History.
-- All of it is counted from the history: the messages sent, the events, and the books before and after them. Of what the book stores, only the
-- numbers that the claim names are read. What stands in quotes is the desk's wording; docs/SCOPE.md, Demand 3, has all of it. An order is known by its name: names are distinct.
use Rattle.std.specs.Prelude.{ℕ, ◌+◌, ◌≤◌, ◌<◌, ◌≡◌, Bool, true, false, not, ◌&&◌, List, [], ◌∷◌, ◌++◌, eqb, length, Option, None, Some}
use Rattle.std.specs.List.{list_any}
use Rattle.prelude.specs.Cases.{if◌then◌otherwise◌, maybe}
use Rattle.prelude.specs.Texts.{same_text}
use Rattle.prelude.specs.Totals.{total_of, how_many, those, Every}
use Rattle.prelude.specs.declared.Text.{Text}
use Rattle.store.specs.declared.Order.{Order}
use Rattle.store.specs.Book.{Book, order_in, request_in}
use Rattle.machine.specs.Constants.{report_kind, cancel_request_kind, most_tries}
use Rattle.machine.specs.Orders.{is_done, has_gateway}
use Rattle.machine.specs.Changes.{Event, Message, is_answered}
use Rattle.machine.specs.GatewayCancel.{gateway_cancel_in_flight}
use Rattle.store.specs.Finds.{bears_name, find_name, find_downstream}
use Rattle.machine.specs.Machine.{findings_of}
use Rattle.machine.specs.History.{Decoded, unread, read_as, comes_to, Entry, line_of, State, start, run, Kinds}

-- ---- the reports

-- "An order's reports are the messages 16 with its client and name": the LastQty of such a message
abbrev pub last_qty : (client : ℕ) (name : Text) → Message → ℕ
last_qty client name m = if eqb m.kind report_kind && (eqb m.client client && same_text m.ids.name name) then m.exec.lastqty otherwise 0

-- the LastQty of all reports sent, added up
abbrev pub last_qty_of : (client : ℕ) (name : Text) → List Entry → ℕ
last_qty_of client name = total_of (λ e. total_of (last_qty client name) e.messages)

-- ---- the status

abbrev pub status_of : Text → Book → Option ℕ
status_of name b = maybe None (λ i. Some (order_in b i).state.status) (find_name b name)

-- ---- a gateway cancel begins

-- the record reads as an event of that kind
abbrev pub of_kind : ℕ → Decoded → Bool
of_kind k (unread n) = false
of_kind k (read_as e) = eqb e.kind k

-- the order is live, and none of the gateway's cancels is in flight
unfoldable pub starts : Book → ℕ → Bool
starts b i = not (is_done (order_in b i).state.status) && not (gateway_cancel_in_flight (findings_of b (i + 1)) (order_in b i))

-- an event 9 asks for the order of that name, and the Rust "makes that record or, asked again, starts its tries over"
abbrev pub asks : Text → Book → Decoded → Bool
asks name b (unread n) = false
asks name b (read_as e) = eqb e.kind 9 && maybe false (λ i. bears_name name (order_in b i) && starts b i) (find_name b e.ids.name)

-- the event was taken: "a refused event puts out, answers and fails nothing"
abbrev pub begins : Text → Entry → Bool
begins name e = eqb e.refusal 0 && asks name e.before e.input

-- ---- the gateway's cancel requests

-- the ClOrdID is among them
abbrev pub holds : Text → List Text → Bool
holds d = list_any (same_text d)

-- the downstream ClOrdIDs of the messages 19
unfoldable pub cancels_in : List Message → List Text
cancels_in [] = []
cancels_in (m ∷ ms) = if eqb m.kind cancel_request_kind then m.ids.downstream ∷ cancels_in ms otherwise cancels_in ms

-- "All messages 19 with one downstream ClOrdID are one cancel request", within one answer too
unfoldable pub once : List Text → List Text
once [] = []
once (d ∷ ds) = if holds d ds then once ds otherwise d ∷ once ds

-- a message 19 with that ClOrdID has been sent
abbrev pub sent : Text → List Entry → Bool
sent d = list_any (λ e. holds d (cancels_in e.messages))

-- "It is for the order whose request record bears that ClOrdID"
abbrev pub is_for : Text → Book → Text → Bool
is_for name b d = maybe false (λ k. bears_name name (order_in b (request_in b k).order)) (find_downstream b d)

-- the gateway's cancel requests for that order that the line puts out, of those not known before it: "put out by the first of them: the client's if that
-- message answers an event 2, else the gateway's"
unfoldable pub put_out_by : (known : Text → List Entry → Bool) → Text → Entry → (earlier : List Entry) → List Text
put_out_by known name e earlier = if of_kind 2 e.input then [] otherwise those (λ d. is_for name e.left d && not (known d earlier)) (once (cancels_in e.messages))

-- those put out since the gateway cancel last began: "one in the answer to the event where a gateway cancel begins counts as put out since then"
abbrev pub put_out_of : (known : Text → List Entry → Bool) → Text → List Entry → List Text
put_out_of known name [] = []
put_out_of known name (e ∷ earlier) = put_out_by known name e earlier ++ (if begins name e then [] otherwise put_out_of known name earlier)

-- what was sent is known
abbrev pub put_out : Text → List Entry → List Text
put_out name past = put_out_of sent name past

-- the request record that bears the ClOrdID is answered
abbrev pub answered_in : Book → Text → Bool
answered_in b d = maybe false (λ k. is_answered (request_in b k)) (find_downstream b d)

-- "A request's send has failed where an event 7 set its `answered`"
abbrev pub fails : Entry → Text → Bool
fails e d = of_kind 7 e.input && (not (answered_in e.before d) && answered_in e.left d)

abbrev pub failed : List Entry → Text → Bool
failed past d = list_any (λ e. fails e d) past

-- ---- the claim

-- of each order of the book that is left
abbrev pub Each : State → (Order → Type 0) → Type 0
Each s P = (i : ℕ) → i < length s.book.orders → P (order_in s.book i)

pub record Demand3 (s : State) : Type 0 where
  -- the LastQty of its reports add up to its cumulative quantity
  pub filled : Each s (λ o. last_qty_of o.client o.names.name s.past ≡ o.state.cumqty)
  -- which is at most the quantity then ordered
  pub ordered : Each s (λ o. o.state.cumqty ≤ o.terms.qty)
  -- a done status that an order had after some call, it has still
  pub done : Every (λ e. (name : Text) (st : ℕ) → status_of name e.left ≡ Some st → is_done st ≡ true → status_of name s.book ≡ Some st) s.past
  -- while a gateway cancel stands, and it "stands while the Rust keeps its record", its tries are the gateway's cancel requests put out since it
  -- last began, less those whose send failed
  pub tries : Each s (λ o. has_gateway o ≡ true
      → o.gateway.tries + how_many (failed s.past) (put_out o.names.name s.past) ≡ length (put_out o.names.name s.past))
  -- and are at most three, `most_tries`
  pub few : Each s (λ o. has_gateway o ≡ true → o.gateway.tries ≤ most_tries)

abbrev pub Demand : Type 1
Demand = (In : Type 0) (read : In → Decoded) → Kinds read → (setting : ℕ) (is : List In) → Demand3 (run read (start setting) is)

-- ---- one order stays one order

-- the order at index i may have changed, its client and name not; no other order has, none is added, and no fill of another is told
pub record OneOrder (b : Book) (i : ℕ) (e : Entry) : Type 0 where
  pub count : length e.left.orders ≡ length b.orders
  pub others : (j : ℕ) → (j ≡ i → ⊥) → order_in e.left j ≡ order_in b j
  -- nor has another's request, and one that is added is this order's
  pub requests : (k : ℕ) → k < length b.requests → ((request_in b k).order ≡ i → ⊥) → request_in e.left k ≡ request_in b k
  pub added : (k : ℕ) → length b.requests ≤ k → k < length e.left.requests → (request_in e.left k).order ≡ i
  pub same_client : (order_in e.left i).client ≡ (order_in b i).client
  pub same_name : (order_in e.left i).names.name ≡ (order_in b i).names.name
  pub silent : (client : ℕ) (name : Text) → same_text (order_in b i).names.name name ≡ false → total_of (last_qty client name) e.messages ≡ 0

-- whatever downstream ClOrdID of an order an event 4 to 8 names (its name, a superseded or a pending replace's, a cancel's): the event changes that order alone
abbrev pub StaysOne : Type 0
StaysOne = (b : Book) (e : Event) → 4 ≤ e.kind → e.kind ≤ 8
    → (k : ℕ) → k < length b.requests → same_text (request_in b k).downstream e.ids.downstream ≡ true
    → OneOrder b (request_in b k).order (line_of b (read_as e) (comes_to b (read_as e)))
