-- The parts of a step as the code takes them. Rests on machine's Machine; that together they are machine's is in Laws.Steps.
use Rattle.std.specs.Prelude.{ℕ, ◌-◌, Bool, ◌&&◌, ◌||◌, List, Result, Ok, Err, eqb, leb, ltb, length}
use Rattle.prelude.specs.Cases.{if◌then◌otherwise◌}
use Rattle.prelude.specs.declared.Refusal.{Refusal}
use Rattle.prelude.specs.Refusal.{number_of}
use Rattle.format.specs.Refusal.{event_refusal}
use Rattle.records.specs.Answer.{shortest_answer}
use Rattle.store.specs.declared.Order.{Order}
use Rattle.store.specs.declared.Request.{Request}
use Rattle.store.specs.Book.{Book, request_in}
use Rattle.store.specs.Finds.{count_clordids}
use Rattle.store.specs.Requests.{no_request}
use Rattle.machine.specs.declared.Findings.{Findings}
use Rattle.machine.specs.declared.Change.{Change}
use Rattle.machine.specs.Constants.{failed_to_send, event_cancel, event_report, event_unknown, event_cancel_reject, event_send_failed}
use Rattle.machine.specs.Changes.{Event, refusing}
use Rattle.machine.specs.Amend.{cancel, replace, venue_cancel_reject, send_failed, unsent}
use Rattle.machine.specs.Report.{unknown_at_venue}
use Rattle.index.specs.Index.{origin_of}
use Rattle.machine.specs.Machine.{order_link, amending, on_report, nothing, unknown_report, text_note}

-- ---- how a call ends

-- questions 2, 3 and 4 are answered with yes
unfoldable pub reads : (event : List ℕ) → (room : ℕ) → Bool
reads r room = leb shortest_answer room && eqb (event_refusal r) 0

-- a call that gives a link: what it leaves in the change that it is lent
abbrev pub asked_by : Result ℕ Refusal → Change → Change
asked_by (Ok origin) c = c
asked_by (Err r) c = refusing (number_of r)

-- ---- what an event finds

-- the link of the request that the OrigClOrdID of a cancel or replace names, 0 for none
unfoldable pub origin_asked : Book → Event → ℕ
origin_asked b e = if leb 2 e.kind && leb e.kind 3 then origin_of b e.client e.ids.origclordid otherwise 0

-- the link of the order of the request of a link, 0 for none
unfoldable pub order_of_link : Book → (link : ℕ) → ℕ
order_of_link b link = if eqb link 0 then 0 otherwise order_link b (link - 1)

-- the request of a link, 0 for none
unfoldable pub request_at_link : Book → ℕ → Request
request_at_link b link = if eqb link 0 then no_request otherwise request_in b (link - 1)

unfoldable pub findings_at : Book → (place : ℕ) → Order → Findings
findings_at b place o = record { place = place; requests = length b.requests; cancel = request_at_link b o.links.cancel }

-- the client has used as many ClOrdIDs as it may
unfoldable pub is_full : Book → (client : ℕ) → Bool
is_full b client = leb b.setting (count_clordids b client)

-- ---- events by kind

unfoldable pub amended : Book → Event → Change
amended b e = if eqb e.kind event_cancel then amending cancel b e otherwise amending replace b e

-- events 4 to 8 on the request that they name
unfoldable pub handled : Event → Findings → (link : ℕ) → Request → Order → Change
handled event findings link request order =
    if eqb event.kind event_report then on_report event findings link request order
    otherwise if eqb event.kind event_unknown then unknown_at_venue findings link order event
    otherwise if eqb event.kind event_cancel_reject then venue_cancel_reject findings link request order event
    otherwise if eqb event.kind event_send_failed then send_failed findings link request event.venue failed_to_send (text_note event) order
    otherwise unsent findings link request event.venue order

-- and if they name none
unfoldable pub unknown_of : Event → Change
unknown_of e = if leb e.kind event_cancel_reject then unknown_report otherwise nothing

-- ---- question 7

unfoldable pub has_room_for : Book → (place added : ℕ) → Bool
has_room_for b place added = (leb place (length b.orders) || ltb (length b.orders) 64) && (eqb added 0 || ltb (length b.requests) 256)
