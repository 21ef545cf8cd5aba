-- src/book/amend.rs: cancels and replaces, what refuses them, and sends that failed. Rests on GatewayCancel.
use Rattle.std.specs.Prelude.{ℕ, ◌+◌, ◌-◌, Bool, true, false, not, ◌&&◌, ◌||◌, eqb, leb, ltb, Option, None, Some}
use Rattle.prelude.specs.Cases.{if◌then◌otherwise◌}
use Rattle.prelude.specs.Refusal.{number_of}
use Rattle.prelude.specs.Texts.{same_text}
use Rattle.prelude.specs.declared.Refusal.TheVariants.{WrongPrice}
use Rattle.prelude.specs.declared.Terms.{Terms}
use Rattle.store.specs.declared.GatewayCancel.{GatewayCancel}
use Rattle.store.specs.declared.Pending.{Pending}
use Rattle.store.specs.declared.Order.{Order}
use Rattle.store.specs.declared.Request.{Request}
use Rattle.text.specs.Stored.{no_text}
use Rattle.machine.specs.Constants as came
use Rattle.machine.specs.Constants.{cancel_kind, replace_kind, too_late, unknown, already_pending, duplicate, other, ours, venues, text_cancelling, text_replace_pending, text_below_filled, text_blocked, text_duplicate, text_unknown_order, text_done, text_too_many, text_side_or_symbol, text_rejected, text_not_sent}
use Rattle.format.specs.Codes.{pending_new, new, partially_filled, pending_cancel, pending_replace, rejected, exec_rejected, exec_status, limit}
use Rattle.machine.specs.Orders.{one_more, has_pending, has_gateway, limit_price, is_done, short_alarm, set_status, record_venue_order_id, pending_terms, next_exec, with_pending, with_gateway}
use Rattle.store.specs.Orders.{no_pending}
use Rattle.machine.specs.Messages.{no_price, report, cancel_reject, new_order, cancel_request, replace_request, no_note, no_long_text}
use Rattle.machine.specs.Changes.{Event, has, unchanged, refusing, answering, adding, telling, alarming, is_first, is_replace, is_gateway, is_cancel, is_answered, next_link, next_downstream, next_request, numbered_order}
use Rattle.machine.specs.GatewayCancel.{gateway_cancel_in_flight, gateway_cancel_refused, resume_gateway_cancel}
use Rattle.machine.specs.declared.Findings.{Findings}
use Rattle.machine.specs.declared.Note.{Note}
use Rattle.machine.specs.declared.Reject.{Reject}
use Rattle.machine.specs.declared.Refused.{Refused}
use Rattle.machine.specs.declared.Change.{Change}

-- ---- `amendable` and what it is given

-- `used` is the link of the order that the client already used the ClOrdID for, as a lookup found it, 0 for none; `full` says that the client has used
-- as many ClOrdIDs as it may.

abbrev pub passes : Reject
passes = record { reason = 0; fixedtext = 0 }

abbrev pub refusal : (reason fixedtext : ℕ) → Reject
refusal reason fixedtext = record { reason = reason; fixedtext = fixedtext }

-- the event names the order's side and symbol
unfoldable pub matches : Order → Event → Bool
matches o e = eqb o.terms.side e.terms.side && same_text o.names.symbol e.ids.symbol

-- the refusals that cancels and replaces share, in order, and then the caller's own. The order's link is 0 if there is none.
unfoldable pub amend_refusal : Findings → (used : ℕ) (full : Bool) → Order → Event → Reject → Reject
amend_refusal findings used full order event own =
    if not (eqb used 0) then refusal duplicate text_duplicate
    otherwise if eqb findings.place 0 then refusal unknown text_unknown_order
    otherwise if is_done order.state.status then refusal too_late text_done
    otherwise if full then refusal other text_too_many
    otherwise if not (matches order event) then refusal other text_side_or_symbol
    otherwise own

-- a refusal of ours, told to the client. If there is no order the status told is Rejected.
unfoldable pub refuse : Findings → (responseto : ℕ) → Order → Event → Reject → Change
refuse findings responseto order event reject =
    telling
    (cancel_reject event.client order.names.name (if eqb findings.place 0 then rejected otherwise order.state.status) event.ids.clordid
    event.ids.origclordid responseto
    (record { text = no_long_text; fixedtext = reject.fixedtext; reason = reject.reason; origin = ours }))
    (unchanged findings.place order)

-- a request that was already taken, sent again: the order's state under the request's own ClOrdIDs
unfoldable pub redelivered_report : Findings → Order → Event → Change
redelivered_report findings order event =
    telling (report (next_exec order) event.ids.clordid event.ids.origclordid exec_status 0 no_price no_note) (unchanged findings.place (next_exec order))

-- the event was redelivered, and its ClOrdID was used for this very order
unfoldable pub already_taken : Findings → (used : ℕ) → Event → Bool
already_taken findings used event = has event 21 && not (eqb used 0) && eqb used findings.place

-- `amendable`: a request already taken is told again, one that is refused is told so, and any other goes on to the change that is given
abbrev pub amendable : Findings → (responseto used : ℕ) (full : Bool) → Order → Event → (own : Reject) (goes : Change) → Change
amendable findings responseto used full order event own goes =
    let r = amend_refusal findings used full order event own in
    if already_taken findings used event then redelivered_report findings order event
    otherwise if not (eqb r.fixedtext 0) then refuse findings responseto order event r
    otherwise goes

-- `number`: the request is recorded under the order's next numbered downstream ClOrdID, and the order is left as given
abbrev pub number : Findings → (kind : ℕ) → Order → Event → (left : Order) → Change
number findings kind order event left =
    adding (next_request findings order kind event.ids.clordid event.ids.origclordid) (unchanged findings.place left)

-- ---- `cancel`

unfoldable pub cancel_refusal : Findings → Order → Reject
cancel_refusal findings order = if gateway_cancel_in_flight findings order then refusal already_pending text_cancelling otherwise passes

-- the cancel goes out
unfoldable pub cancel_goes : Findings → Order → Event → Change
cancel_goes findings order event =
    let order' = numbered_order findings true order in
    telling (cancel_request order' (next_downstream order)) (number findings cancel_kind order event order')

unfoldable pub cancel : Findings → (used : ℕ) (full : Bool) → Order → Event → Change
cancel findings used full order event =
    amendable findings cancel_kind used full order event (cancel_refusal findings order) (cancel_goes findings order event)

-- ---- `replace`

-- `ord_type.unwrap_or(..)`, `time_in_force.or(..)`: what the event does not name is the order's
unfoldable pub or_own : (given own : ℕ) → ℕ
or_own given own = if eqb given 0 then own otherwise given

unfoldable pub price_of : Event → Option ℕ
price_of e = if has e 10 then Some e.terms.price otherwise None

-- two prices, or none, that are the same
abbrev pub same_price : Option ℕ → Option ℕ → Bool
same_price None None = true
same_price None (Some q) = false
same_price (Some p) None = false
same_price (Some p) (Some q) = eqb p q

-- the text of a verdict: its number and 11. At the top of the field's range it is the last text, but the format keeps such a verdict away.
unfoldable pub verdict_text : ℕ → ℕ
verdict_text v = if ltb v 244 then 11 + v otherwise 255

-- `check_replace`: the verdict that the event brings, passed over if no risk is added
unfoldable pub check_replace : Order → Event → Reject
check_replace o e =
    if same_price (limit_price (or_own e.terms.ordtype o.terms.ordtype) (price_of e)) (limit_price o.terms.ordtype (Some o.terms.price))
    && leb e.terms.qty o.terms.qty then passes
    otherwise if eqb e.verdict 0 then passes
    otherwise refusal other (verdict_text e.verdict)

unfoldable pub replace_refusal : Findings → Order → Event → Reject
replace_refusal findings order event =
    if gateway_cancel_in_flight findings order then refusal already_pending text_cancelling
    otherwise if has_pending order then refusal already_pending text_replace_pending
    otherwise if ltb event.terms.qty order.state.cumqty then refusal other text_below_filled
    otherwise if ltb order.terms.qty event.terms.qty && has event 22 then refusal other text_blocked
    otherwise check_replace order event

-- the terms that the replace asks for
unfoldable pub new_terms : Order → Event → Terms
new_terms o e = record {
  side = o.terms.side;
  ordtype = or_own e.terms.ordtype o.terms.ordtype;
  timeinforce = or_own e.terms.timeinforce o.terms.timeinforce;
  qty = e.terms.qty;
  price = e.terms.price;
}

-- question 6: there is a price exactly if the type is limit
unfoldable pub priced_right : (ordtype : ℕ) → Event → Bool
priced_right ordtype e = if eqb ordtype limit then has e 10 otherwise not (has e 10)

unfoldable pub new_pending : Findings → Terms → Pending
new_pending findings terms = record {
  request = next_link findings;
  qty = terms.qty;
  price = terms.price;
  ordtype = terms.ordtype;
  timeinforce = terms.timeinforce;
}

unfoldable pub replace_goes : Findings → Order → Event → Change
replace_goes findings order event =
    let terms = new_terms order event in
    let order' = with_pending (new_pending findings terms) (numbered_order findings false order) in
    telling (replace_request order' (next_downstream order) terms) (number findings replace_kind order event order')

unfoldable pub replace : Findings → (used : ℕ) (full : Bool) → Order → Event → Change
replace findings used full order event =
    amendable findings replace_kind used full order event (replace_refusal findings order event)
    (if not (priced_right (or_own event.terms.ordtype order.terms.ordtype) event) then refusing (number_of WrongPrice) otherwise replace_goes findings order event)

-- ---- `refuse_request`

-- without the venue's word, a refused request no longer holds the order pending
unfoldable pub not_pending : Order → Order
not_pending o =
    if eqb o.state.status pending_cancel || eqb o.state.status pending_replace
    then set_status (if ltb 0 o.state.cumqty then partially_filled otherwise new) o
    otherwise o

-- the order once its request of this link is refused: done stays done
unfoldable pub refused_order : (link : ℕ) → Refused → Order → Order
refused_order link refused order =
    let named = record_venue_order_id refused.venueorderid false order in
    let order' = with_pending (if eqb order.pending.request link then no_pending otherwise order.pending) named in
    if is_done order.state.status then order'
    otherwise if not (eqb refused.status 0) then set_status refused.status order'
    otherwise not_pending order'

-- the alarm of a short Filled that would be set
unfoldable pub refused_alarm : Refused → Order → ℕ
refused_alarm refused order = if is_done order.state.status then 0 otherwise short_alarm order.terms.qty order.state.cumqty refused.status

-- what the client is told: the text that came, or that the venue rejected it; the venue's reason, or Other
unfoldable pub refused_note : Note → Note
refused_note n = record {
  text = n.text;
  fixedtext = if eqb n.text.len 0 && eqb n.fixedtext 0 then text_rejected otherwise n.fixedtext;
  reason = if eqb n.origin 0 then other otherwise n.reason;
  origin = if eqb n.origin 0 then ours otherwise n.origin;
}

unfoldable pub refuse_request : Findings → (link : ℕ) → Request → (venue : ℕ) → Refused → Order → Change
refuse_request findings link request venue refused order =
    let order' = refused_order link refused order in
    let c = alarming (refused_alarm refused order) (answering link refused.outcome (unchanged findings.place order')) in
    if is_first request then unchanged findings.place order
    otherwise if not (eqb order.venue venue) then unchanged findings.place order
    otherwise if is_answered request then unchanged findings.place order
    otherwise if is_gateway request && not (eqb order.links.cancel link) then c
    otherwise if is_gateway request then gateway_cancel_refused findings refused.note c
    otherwise telling
    (cancel_reject order.client order.names.name order'.state.status request.clordid request.origclordid request.kind (refused_note refused.note)) c

-- ---- `venue_cancel_reject`, of a request that the book knows

unfoldable pub venue_note : Event → Note
venue_note e = record { text = e.text; fixedtext = 0; reason = e.reason; origin = if has e 19 then venues otherwise 0 }

unfoldable pub venue_cancel_reject : Findings → (link : ℕ) → Request → Order → Event → Change
venue_cancel_reject findings link request order event =
    resume_gateway_cancel findings
    (refuse_request findings link request event.venue
    (record { status = event.exec.status; venueorderid = event.ids.venueorderid; note = venue_note event; outcome = came.refused }) order)

-- ---- `send_failed`

-- one try is taken back, and the cancel waits
unfoldable pub send_refused : GatewayCancel → GatewayCancel
send_refused g = record {
  tries = g.tries - 1;
  unsent = true;
  stuck = g.stuck;
  origdownstream = g.origdownstream;
  refusedsends = one_more 4294967295 g.refusedsends;
}

-- the first send failed: the order is rejected, for a reason of ours
unfoldable pub first_failed : Findings → (link outcome : ℕ) → Note → Order → Change
first_failed findings link outcome note order =
    let order' = next_exec (set_status rejected order) in
    telling
    (report order' order'.names.clordid no_text exec_rejected 0 no_price (record { text = note.text; fixedtext = note.fixedtext; reason = other; origin = ours }))
    (answering link outcome (unchanged findings.place order'))

-- the request comes to the outcome that is given
unfoldable pub send_failed : Findings → (link : ℕ) → Request → (venue outcome : ℕ) → Note → Order → Change
send_failed findings link request venue outcome note order =
    if not (eqb order.venue venue) then unchanged findings.place order
    otherwise if is_gateway request && is_answered request then unchanged findings.place order
    otherwise if is_gateway request && not (has_gateway order) then answering link outcome (unchanged findings.place order)
    otherwise if is_gateway request then answering link outcome (unchanged findings.place (with_gateway (send_refused order.gateway) order))
    otherwise if not (is_first request)
    then refuse_request findings link request venue (record { status = order.state.status; venueorderid = no_text; note = note; outcome = outcome }) order
    otherwise if is_answered request || not (eqb order.state.status pending_new) then unchanged findings.place order
    otherwise first_failed findings link outcome note order

-- ---- `unsent`: a request is sent again, or its send has failed

unfoldable pub resendable : Request → (venue : ℕ) → Order → Bool
resendable request venue order = not (is_answered request) && not (is_done order.state.status) && eqb order.venue venue

unfoldable pub unsent : Findings → (link : ℕ) → Request → (venue : ℕ) → Order → Change
unsent findings link request venue order =
    if resendable request venue order && is_first request && eqb order.state.status pending_new
    then telling (new_order order request.downstream) (unchanged findings.place order)
    otherwise if resendable request venue order && is_cancel request then telling (cancel_request order request.downstream) (unchanged findings.place order)
    otherwise if resendable request venue order && is_replace request && eqb order.pending.request link
    then telling (replace_request order request.downstream (pending_terms order)) (unchanged findings.place order)
    otherwise send_failed findings link request venue came.refused (record { text = no_long_text; fixedtext = text_not_sent; reason = 0; origin = 0 }) order
