-- src/book/gateway_cancel.rs: the gateway cancelling an order itself. Rests on Changes.
use Rattle.std.specs.Prelude.{Bool, true, false, not, ◌&&◌, ◌||◌, eqb, leb}
use Rattle.prelude.specs.Cases.{if◌then◌otherwise◌}
use Rattle.store.specs.declared.GatewayCancel.{GatewayCancel}
use Rattle.store.specs.declared.Order.{Order}
use Rattle.text.specs.Stored.{no_text}
use Rattle.machine.specs.Constants.{gateway_kind, most_tries, stuck_cancel, too_late, unknown, venues}
use Rattle.machine.specs.Orders.{one_more, has_gateway, is_done, with_gateway}
use Rattle.machine.specs.Messages.{cancel_request}
use Rattle.machine.specs.Changes.{unchanged, with_order, adding, telling, alarming, is_gateway, is_answered, next_downstream, next_request, numbered_order}
use Rattle.machine.specs.declared.Findings.{Findings}
use Rattle.machine.specs.declared.Note.{Note}
use Rattle.machine.specs.declared.Change.{Change}

-- `outstanding_cancel`: the order's latest cancel is not answered
unfoldable pub outstanding_cancel : Findings → Order → Bool
outstanding_cancel findings order = not (eqb order.links.cancel 0) && not (is_answered findings.cancel)

-- `gateway_cancel_in_flight`
unfoldable pub gateway_cancel_in_flight : Findings → Order → Bool
gateway_cancel_in_flight findings order = outstanding_cancel findings order && is_gateway findings.cancel

-- ---- the record's steps

-- begun: `start_gateway_cancel`
unfoldable pub begun : Order → GatewayCancel
begun o = record { tries = 0; unsent = true; stuck = false; origdownstream = o.links.current; refusedsends = 0 }

-- sent once more: `send_gateway_cancel`
unfoldable pub try_sent : Order → GatewayCancel
try_sent o = record {
  tries = one_more 255 o.gateway.tries;
  unsent = false;
  stuck = o.gateway.stuck;
  origdownstream = o.links.current;
  refusedsends = o.gateway.refusedsends;
}

-- given up: `gateway_cancel_refused`, `retry_gateway_cancel`
unfoldable pub given_up : Order → GatewayCancel
given_up o = record {
  tries = o.gateway.tries;
  unsent = o.gateway.unsent;
  stuck = true;
  origdownstream = o.gateway.origdownstream;
  refusedsends = o.gateway.refusedsends;
}

-- ---- the Rust's functions

-- `send_gateway_cancel`
unfoldable pub send_gateway_cancel : Findings → Change → Change
send_gateway_cancel findings change =
    let order = change.order in
    let order' = with_gateway (try_sent order) (numbered_order findings true order) in
    telling (cancel_request order' (next_downstream order)) (adding (next_request findings order gateway_kind no_text no_text) (with_order order' change))

-- `start_gateway_cancel` and `cancel_order`: nothing for a done order or one whose gateway cancel is in flight; behind the client's cancel it waits
unfoldable pub cancel_order : Findings → Order → Change
cancel_order findings order =
    let c = unchanged findings.place (with_gateway (begun order) order) in
    if is_done order.state.status then unchanged findings.place order
    otherwise if gateway_cancel_in_flight findings order then unchanged findings.place order
    otherwise if outstanding_cancel findings order then c
    otherwise send_gateway_cancel findings c

-- `gateway_cancel_waiting`, once the change has answered its request
unfoldable pub gateway_cancel_waiting : Findings → Change → Bool
gateway_cancel_waiting findings change =
    has_gateway change.order && change.order.gateway.unsent
    && not (outstanding_cancel findings change.order && not (eqb change.order.links.cancel change.requests.answered))

-- `resume_gateway_cancel`: a gateway cancel that waited goes now
unfoldable pub resume_gateway_cancel : Findings → Change → Change
resume_gateway_cancel findings change = if gateway_cancel_waiting findings change then send_gateway_cancel findings change otherwise change

unfoldable pub stuck : Change → Change
stuck c = alarming stuck_cancel (with_order (with_gateway (given_up c.order) c.order) c)

-- `retry_gateway_cancel`
unfoldable pub retry_gateway_cancel : Findings → Change → Change
retry_gateway_cancel findings change = if leb most_tries change.order.gateway.tries then stuck change otherwise send_gateway_cancel findings change

-- the venue says that it is too late, or that it does not know the order
unfoldable pub says_gone : Note → Bool
says_gone note = eqb note.origin venues && (eqb note.reason too_late || eqb note.reason unknown)

-- `gateway_cancel_refused`. A refusal's status may have made the order done, which ends the gateway cancel.
unfoldable pub gateway_cancel_refused : Findings → Note → Change → Change
gateway_cancel_refused findings note change =
    if not (has_gateway change.order) then change
    otherwise if says_gone note && eqb change.order.links.current change.order.gateway.origdownstream then stuck change
    otherwise retry_gateway_cancel findings change
