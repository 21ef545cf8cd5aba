-- src/book/report.rs: a venue's report. Rests on Amend and wide.
use Rattle.std.specs.Prelude.{ℕ, ◌-◌, max, Bool, false, not, ◌&&◌, ◌||◌, eqb, ltb}
use Rattle.prelude.specs.Cases.{if◌then◌otherwise◌}
use Rattle.wide.specs.declared.Priced.{Priced}
use Rattle.wide.specs.Wide.{fill_price}
use Rattle.store.specs.declared.Order.{Order}
use Rattle.store.specs.declared.Request.{Request}
use Rattle.text.specs.Stored.{no_text}
use Rattle.machine.specs.Constants as came
use Rattle.machine.specs.Constants.{unknown_order_reason, overfill, unknown_at_venue_alarm, fill_on_done_order, venues}
use Rattle.format.specs.Codes.{pending_new, new, partially_filled, pending_cancel, pending_replace, canceled, rejected, exec_trade, exec_replaced, exec_rejected, exec_restated, exec_done_for_day, exec_status}
use Rattle.machine.specs.Orders.{is_done, as_asked, short_alarm, set_status, record_venue_order_id, apply_replace, next_exec, with_state}
use Rattle.machine.specs.Messages.{report}
use Rattle.machine.specs.Changes.{Event, has, Message, unchanged, answering, superseding, telling, alarming, is_first, is_replace, is_gateway, is_cancel, is_answered}
use Rattle.machine.specs.GatewayCancel.{resume_gateway_cancel}
use Rattle.machine.specs.Amend.{refuse_request}
use Rattle.machine.specs.declared.Findings.{Findings}
use Rattle.machine.specs.declared.Note.{Note}
use Rattle.machine.specs.declared.Change.{Change}

-- `says_unknown_at_venue`: how FIX answers a status request for an order that the venue does not know
unfoldable pub says_unknown_at_venue : Event → Bool
says_unknown_at_venue e =
    eqb e.exec.exectype exec_status && eqb e.exec.status rejected && (has e 19 && eqb e.reason unknown_order_reason)

-- `unknown_at_venue`, of a request that the book knows: an alarm for a live order under its current ClOrdID
unfoldable pub unknown_at_venue : Findings → (link : ℕ) → Order → Event → Change
unknown_at_venue findings link order event =
    if not (eqb order.venue event.venue) then unchanged findings.place order
    otherwise if is_done order.state.status then unchanged findings.place order
    otherwise if not (eqb order.links.current link) then unchanged findings.place order
    otherwise alarming unknown_at_venue_alarm (unchanged findings.place order)

-- the status is Rejected, or the ExecType is, with some status
unfoldable pub is_rejection : Event → Bool
is_rejection e = eqb e.exec.status rejected || (eqb e.exec.exectype exec_rejected && not (eqb e.exec.status 0))

-- the order's pending replace is the request of this link
unfoldable pub pending_here : (link : ℕ) → Order → Bool
pending_here link order = eqb order.pending.request link

-- `behind`: the report's status would roll the order's back
unfoldable pub behind : (link : ℕ) → Request → Order → Event → Bool
behind link request order event =
    let s : ℕ = as_asked event.exec.cumqty event.exec.status in
    let settled : Bool = is_answered request && not (is_done s) && (not (eqb order.links.current link) || eqb s pending_replace) in
    let behind_new : Bool = eqb s pending_new && not (eqb order.state.status pending_new) in
    let behind_pending : Bool =
    (eqb s new || eqb s partially_filled) && (eqb order.state.status pending_cancel || eqb order.state.status pending_replace)
    && not (pending_here link order) in
    settled || behind_new || behind_pending

-- `stale`: the book has moved past the report
unfoldable pub stale : (link : ℕ) → Request → Order → Event → Bool
stale link request order event =
    is_done order.state.status || ltb event.exec.cumqty order.state.cumqty
    || (eqb event.exec.cumqty order.state.cumqty && (ltb 0 event.exec.lastqty || behind link request order event))

-- `repeats`: the report changes nothing
unfoldable pub repeats : (link : ℕ) → Order → Event → Bool
repeats link order event =
    eqb order.links.current link && eqb event.exec.status order.state.status && eqb event.exec.cumqty order.state.cumqty && eqb event.exec.lastqty 0
    && not (eqb event.exec.exectype exec_restated || eqb event.exec.exectype exec_replaced || eqb event.exec.exectype exec_done_for_day)

-- a stale report leaves the order as it is, and a repeat may bring the venue's OrderID. A fill on a done order is an alarm.
unfoldable pub dropped_stale : Findings → Order → Event → Change
dropped_stale findings order event =
    if is_done order.state.status && ltb order.state.cumqty event.exec.cumqty then alarming fill_on_done_order (unchanged findings.place order)
    otherwise unchanged findings.place order

unfoldable pub dropped_repeat : Findings → Order → Event → Change
dropped_repeat findings order event = unchanged findings.place (record_venue_order_id event.ids.venueorderid false order)

-- `dropped`: a stale report is dropped, and so is one that repeats what the order has; any other goes on to the change that is given
abbrev pub dropped : Findings → (link : ℕ) → Request → Order → Event → (goes : Change) → Change
dropped findings link request order event goes =
    if stale link request order event then dropped_stale findings order event
    otherwise if repeats link order event then dropped_repeat findings order event
    otherwise goes

-- the status that the report sets, 0 for none: one that is behind is dropped
unfoldable pub status_taken : (link : ℕ) → Request → Order → Event → ℕ
status_taken link request order event = if behind link request order event then 0 otherwise event.exec.status

-- the report accepts the pending replace: any answer under its ClOrdID but a rejection and PendingReplace
unfoldable pub accepts : (link : ℕ) → Request → Order → Event → Bool
accepts link request order event =
    let s : ℕ = status_taken link request order event in
    pending_here link order && not (is_rejection event) && (not (eqb s 0) && not (eqb s pending_replace))

-- `answers_request`: a report under the ClOrdID of a client's cancel, or of its pending replace, answers that request
unfoldable pub answers_request : (link : ℕ) → Request → Order → Bool
answers_request link request order = not (is_gateway request) && (is_cancel request || (is_replace request && pending_here link order))

-- the quantity that the report may not pass
unfoldable pub ordered_qty : (accepted : Bool) → Order → ℕ
ordered_qty accepted o = if accepted then o.pending.qty otherwise o.terms.qty

-- the order with the report's quantities and status; `status` is 0 if the order's own stays
unfoldable pub reported_order : (accepted : Bool) (status : ℕ) → Request → Order → Event → Order
reported_order accepted status request order event =
    let named = record_venue_order_id event.ids.venueorderid accepted order in
    let order' = if accepted then apply_replace request named otherwise named in
    set_status (if eqb status 0 then order.state.status otherwise status)
    (with_state (record { status = order.state.status; cumqty = event.exec.cumqty; avgpx = event.exec.avgpx; execseq = order.state.execseq }) order')

-- `fill_price`, of the order as it was, with its source
unfoldable pub fill_price_of : Order → Event → Priced
fill_price_of o e =
    fill_price e.exec.lastqty e.exec.lastpx e.exec.cumqty e.exec.avgpx o.state.cumqty o.state.avgpx (e.exec.cumqty - o.state.cumqty)

unfoldable pub report_note : Event → Note
report_note e = record {
  text = e.text;
  fixedtext = 0;
  reason = if is_rejection e then e.reason otherwise 0;
  origin = if is_rejection e && has e 19 then venues otherwise 0;
}

-- `client_report`: what the client is told of the order as it is left, by the request that the report answers, if any. A rise is a Trade.
unfoldable pub client_report : (answers : Bool) (rise : ℕ) → Request → Priced → Order → Event → Message
client_report answers rise request price order event =
    report order (if answers then request.clordid otherwise order.names.clordid) (if answers then request.origclordid otherwise no_text)
    (if ltb 0 rise then exec_trade otherwise event.exec.exectype) rise price (report_note event)

-- the requests that the report answers, which are accepted: a replace and the one that it supersedes, or a cancel that was Canceled
unfoldable pub settles : (accepted : Bool) (status link : ℕ) → Request → Order → Change → Change
settles accepted status link request order change =
    if accepted then superseding order.links.current (answering link came.accepted change)
    otherwise if is_cancel request && eqb status canceled then answering link came.accepted change
    otherwise change

-- the report is applied. An ack of the gateway's own cancel is not the client's.
unfoldable pub apply_report : Findings → (link : ℕ) → Request → Order → Event → Change
apply_report findings link request order event =
    let accepted : Bool = accepts link request order event in
    let s : ℕ = status_taken link request order event in
    let rise : ℕ = event.exec.cumqty - order.state.cumqty in
    let order' = reported_order accepted s request order event in
    let order'' = next_exec order' in
    if is_gateway request && eqb rise 0 && not (is_done order'.state.status) && not accepted
    then settles accepted s link request order (unchanged findings.place order')
    otherwise telling (client_report (answers_request link request order) rise request (fill_price_of order event) order'' event)
    (settles accepted s link request order (unchanged findings.place order''))

-- `venue_report`, of a request that the book knows
unfoldable pub venue_report : Findings → (link : ℕ) → Request → Order → Event → Change
venue_report findings link request order event =
    if is_rejection event && not (is_first request)
    then resume_gateway_cancel findings
    (refuse_request findings link request event.venue
    (record {
      status = if eqb event.exec.status rejected then 0 otherwise event.exec.status;
      venueorderid = event.ids.venueorderid;
      note = record { text = event.text; fixedtext = 0; reason = 0; origin = 0 };
      outcome = came.refused;
    })
    order)
    otherwise if not (eqb order.venue event.venue) then unchanged findings.place order
    otherwise dropped findings link request order event
    (if ltb (ordered_qty (accepts link request order event) order) (max event.exec.cumqty order.state.cumqty)
    then alarming overfill (unchanged findings.place order)
    otherwise alarming (short_alarm (ordered_qty (accepts link request order event) order) event.exec.cumqty (status_taken link request order event))
    (apply_report findings link request order event))
