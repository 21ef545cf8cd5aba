-- The machine whole: an event finds its order, makes its change, is asked questions 5, 6 and 7, and the change goes into the book.
-- Rests on Report, Amend and GatewayCancel.
use Rattle.std.specs.Prelude.{ℕ, ◌+◌, ◌-◌, Bool, true, false, not, ◌&&◌, ◌||◌, List, [], ◌∷◌, ◌++◌, eqb, leb, ltb, length, get_or, set}
use Rattle.prelude.specs.Cases.{if◌then◌otherwise◌, maybe}
use Rattle.prelude.specs.Refusal.{number_of}
use Rattle.prelude.specs.declared.Refusal.TheVariants.{InUse, WrongPrice, FullBook}
use Rattle.prelude.specs.declared.Text.{Text}
use Rattle.store.specs.declared.Order.{Order}
use Rattle.store.specs.declared.Request.{Request}
use Rattle.store.specs.Layout.{most_orders, most_requests}
use Rattle.store.specs.Finds.{find_name, find_downstream, find_clordid, count_clordids}
use Rattle.store.specs.Book.{Book, order_in, request_in, answered}
use Rattle.store.specs.Orders.{no_order, no_pending, no_gateway}
use Rattle.store.specs.Requests.{no_request}
use Rattle.text.specs.Stored.{no_text}
use Rattle.machine.specs.Constants as came
use Rattle.machine.specs.Constants.{first_kind, unknown_order, event_book, event_cancel, event_replace, event_report, event_unknown, event_cancel_reject, event_send_failed, event_send_again}
use Rattle.format.specs.Codes.{pending_new}
use Rattle.machine.specs.Changes.{Event, unchanged, refusing, adding, alarming}
use Rattle.machine.specs.GatewayCancel.{cancel_order}
use Rattle.machine.specs.Amend.{priced_right, cancel, replace, venue_cancel_reject, send_failed, unsent}
use Rattle.machine.specs.Report.{says_unknown_at_venue, unknown_at_venue, venue_report}
use Rattle.machine.specs.declared.Findings.{Findings}
use Rattle.machine.specs.declared.Note.{Note}
use Rattle.machine.specs.declared.Change.{Change}

-- ---- what the handling of an event needs

abbrev pub order_link : Book → ℕ → ℕ
order_link b k = (request_in b k).order + 1

-- the order of a ClOrdID, as a link, 0 if the client never used it
unfoldable pub order_of : Book → ℕ → Text → ℕ
order_of b client t = maybe 0 (order_link b) (find_clordid b client t)

-- the order's latest cancel
unfoldable pub latest_cancel : Book → Order → Request
latest_cancel b o = if eqb o.links.cancel 0 then no_request otherwise request_in b (o.links.cancel - 1)

unfoldable pub order_at_link : Book → ℕ → Order
order_at_link b place = if eqb place 0 then no_order otherwise order_in b (place - 1)

unfoldable pub findings_of : Book → ℕ → Findings
findings_of b place = record { place = place; requests = length b.requests; cancel = latest_cancel b (order_at_link b place) }

-- ---- the events

-- event 1: `book_order` reduced to the book. The order's current request is the one of this link, and that request's order is the one of this index.
unfoldable pub booked_order : (link : ℕ) → Event → Order
booked_order link e = record {
  client = e.client;
  venue = e.venue;
  names = record { name = e.ids.name; clordid = e.ids.clordid; downstream = e.ids.name; symbol = e.ids.symbol; venueorderid = no_text };
  terms = e.terms;
  state = record { status = pending_new; cumqty = 0; avgpx = 0; execseq = 0 };
  links = record { amendments = 0; current = link; cancel = 0 };
  pending = no_pending;
  gateway = no_gateway;
}

unfoldable pub first_request : (order : ℕ) → Event → Request
first_request order e = record { order = order; kind = first_kind; answered = 0; clordid = e.ids.clordid; origclordid = no_text; downstream = e.ids.name; outcome = 0 }

-- the name and the ClOrdID are both unused
unfoldable pub unused : Book → Event → Bool
unused b e = maybe true (λ k. false) (find_name b e.ids.name) && eqb (order_of b e.client e.ids.clordid) 0

unfoldable pub book_order : Book → Event → Change
book_order b e =
    if not (unused b e) then refusing (number_of InUse)
    otherwise if not (priced_right e.terms.ordtype e) then refusing (number_of WrongPrice)
    otherwise adding (first_request (length b.orders) e) (unchanged (length b.orders + 1) (booked_order (length b.requests + 1) e))

-- events 2 and 3, with what they find of the client's ClOrdIDs
abbrev pub Amending : Type 0
Amending = Findings → (used : ℕ) (full : Bool) → Order → Event → Change

unfoldable pub amending : Amending → Book → Event → Change
amending handle b e =
    let place : ℕ = order_of b e.client e.ids.origclordid in
    handle (findings_of b place) (order_of b e.client e.ids.clordid) (leb b.setting (count_clordids b e.client)) (order_at_link b place) e

-- events 4 to 8, with the request that the event names
unfoldable pub on_request : (unknown : Change) → (Findings → (link : ℕ) → Request → Order → Change) → Book → Event → Change
on_request unknown handle b e =
    maybe unknown
    (λ k. handle (findings_of b (order_link b k)) (k + 1) (request_in b k) (order_in b (request_in b k).order))
    (find_downstream b e.ids.downstream)

abbrev pub nothing : Change
nothing = unchanged 0 no_order

-- no request has the name
abbrev pub unknown_report : Change
unknown_report = alarming unknown_order nothing

abbrev pub text_note : Event → Note
text_note e = record { text = e.text; fixedtext = 0; reason = 0; origin = 0 }

unfoldable pub on_report : Event → Findings → (link : ℕ) → Request → Order → Change
on_report event findings link request order =
    if says_unknown_at_venue event then unknown_at_venue findings link order event
    otherwise venue_report findings link request order event

-- event 9, with the order of the name
unfoldable pub on_name : Book → Event → Change
on_name b e = maybe nothing (λ i. cancel_order (findings_of b (i + 1)) (order_in b i)) (find_name b e.ids.name)

unfoldable pub change_of : Book → Event → Change
change_of b e =
    if eqb e.kind event_book then book_order b e
    otherwise if eqb e.kind event_cancel then amending cancel b e
    otherwise if eqb e.kind event_replace then amending replace b e
    otherwise if eqb e.kind event_report then on_request unknown_report (on_report e) b e
    otherwise if eqb e.kind event_unknown then on_request unknown_report (λ findings link request order. unknown_at_venue findings link order e) b e
    otherwise if eqb e.kind event_cancel_reject then on_request unknown_report (λ findings link request order. venue_cancel_reject findings link request order e) b e
    otherwise if eqb e.kind event_send_failed
    then on_request nothing (λ findings link request order. send_failed findings link request e.venue came.failed_to_send (text_note e) order) b e
    otherwise if eqb e.kind event_send_again then on_request nothing (λ findings link request order. unsent findings link request e.venue order) b e
    otherwise on_name b e

-- ---- question 7, and the book after

-- a new order needs a free order record, and an added request a free request record
unfoldable pub has_room : Book → Change → Bool
has_room b c =
    (leb c.place (length b.orders) || ltb (length b.orders) most_orders)
    && (eqb c.requests.added 0 || ltb (length b.requests) most_requests)

-- the change that the event makes, or its refusal
unfoldable pub step_of : Book → Event → Change
step_of b e =
    let c = change_of b e in
    if not (eqb c.refusal 0) then c
    otherwise if has_room b c then c
    otherwise refusing (number_of FullBook)

-- the requests with the one of this link answered, with this outcome
unfoldable pub answer_link : ℕ → (outcome : ℕ) → List Request → List Request
answer_link k outcome qs = if eqb k 0 then qs otherwise set qs (k - 1) (answered outcome (get_or qs (k - 1) no_request))

unfoldable pub orders_after : List Order → Change → List Order
orders_after os c =
    if eqb c.place 0 then os
    otherwise if leb c.place (length os) then set os (c.place - 1) c.order
    otherwise os ++ (c.order ∷ [])

unfoldable pub requests_after : List Request → Change → List Request
requests_after qs c =
    let settled = answer_link c.requests.superseded c.requests.outcome (answer_link c.requests.answered c.requests.outcome qs) in
    if eqb c.requests.added 0 then settled otherwise settled ++ (c.requests.request ∷ [])

-- the book that a change leaves
unfoldable pub after : Book → Change → Book
after b c = record { setting = b.setting; orders = orders_after b.orders c; requests = requests_after b.requests c }

-- the book that an event leaves: as it was if the event is refused
unfoldable pub book_after : Book → Event → Book
book_after b e = let c = step_of b e in if eqb c.refusal 0 then after b c otherwise b
