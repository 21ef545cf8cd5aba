-- The order parts of src/book.rs: `impl Order` and what stands around it, on the book's own types. Rests on store and wide's words.
-- Beside each definition stands the Rust's name.
use Rattle.std.specs.Prelude.{ℕ, ◌+◌, ◌-◌, ◌^◌, Bool, not, ◌&&◌, ◌||◌, [], ◌∷◌, eqb, ltb, Option, None}
use Rattle.prelude.specs.Cases.{if◌then◌otherwise◌}
use Rattle.prelude.specs.Texts.{text_of, same_text}
use Rattle.prelude.specs.declared.Text.{Text}
use Rattle.prelude.specs.declared.Terms.{Terms}
use Rattle.store.specs.declared.Names.{Names}
use Rattle.store.specs.declared.State.{State}
use Rattle.store.specs.declared.Links.{Links}
use Rattle.store.specs.declared.Pending.{Pending}
use Rattle.store.specs.declared.GatewayCancel.{GatewayCancel}
use Rattle.store.specs.declared.Order.{Order}
use Rattle.store.specs.declared.Request.{Request}
use Rattle.store.specs.Orders.{no_order, no_pending, no_gateway}
use Rattle.machine.specs.Constants.{filled_short}
use Rattle.format.specs.Codes.{pending_new, new, partially_filled, filled, canceled, expired, rejected, done_for_day, market}

-- one more; at the top of the field's range the same, but the book's rules keep that away
unfoldable pub one_more : (top n : ℕ) → ℕ
one_more top n = if ltb n top then n + 1 otherwise n

abbrev pub is_empty : Text → Bool
is_empty t = eqb t.len 0

-- ---- an order with one part anew

abbrev pub with_names : Names → Order → Order
with_names n o = record { client = o.client; venue = o.venue; names = n; terms = o.terms; state = o.state; links = o.links; pending = o.pending; gateway = o.gateway }

abbrev pub with_state : State → Order → Order
with_state s o = record { client = o.client; venue = o.venue; names = o.names; terms = o.terms; state = s; links = o.links; pending = o.pending; gateway = o.gateway }

abbrev pub with_links : Links → Order → Order
with_links l o = record { client = o.client; venue = o.venue; names = o.names; terms = o.terms; state = o.state; links = l; pending = o.pending; gateway = o.gateway }

abbrev pub with_pending : Pending → Order → Order
with_pending p o = record { client = o.client; venue = o.venue; names = o.names; terms = o.terms; state = o.state; links = o.links; pending = p; gateway = o.gateway }

abbrev pub with_gateway : GatewayCancel → Order → Order
with_gateway g o = record { client = o.client; venue = o.venue; names = o.names; terms = o.terms; state = o.state; links = o.links; pending = o.pending; gateway = g }

abbrev pub no_terms : Terms
no_terms = no_order.terms

-- `order.pending.is_some()`, `order.gateway_cancel.is_some()`
unfoldable pub has_pending : Order → Bool
has_pending o = not (eqb o.pending.request 0)

unfoldable pub has_gateway : Order → Bool
has_gateway o = not (eqb o.gateway.origdownstream 0)

-- ---- the Rust's functions

-- `limit_price`: a limit order's price; a market order has none
unfoldable pub limit_price : ℕ → Option ℕ → Option ℕ
limit_price ordtype price = if eqb ordtype market then None otherwise price

-- `Status::is_done`
unfoldable pub is_done : ℕ → Bool
is_done s = eqb s filled || eqb s canceled || eqb s expired || eqb s rejected

-- `leaves_qty`, by status, ordered and cumulative: 0 of a done order and, while it lasts, of one that is done for the day
unfoldable pub leaves_of : (status qty cumqty : ℕ) → ℕ
leaves_of status qty cumqty = if is_done status || eqb status done_for_day then 0 otherwise qty - cumqty

unfoldable pub leaves_qty : Order → ℕ
leaves_qty o = leaves_of o.state.status o.terms.qty o.state.cumqty

-- a status as the Rust's questions take it: done for the day is New if the cumulative is 0, and PartiallyFilled above. Only `behind` asks whether a status
-- is one of these two, and only of a reported one; whether two statuses are equal is asked of them as they are.
unfoldable pub as_asked : (cumqty s : ℕ) → ℕ
as_asked cumqty s = if eqb s done_for_day then (if eqb cumqty 0 then new otherwise partially_filled) otherwise s

-- the status that `set_status` leaves: above a cumulative of 0, New and PendingNew are PartiallyFilled
unfoldable pub status_at : ℕ → ℕ → ℕ
status_at cumqty s = if (eqb s new || eqb s pending_new) && ltb 0 cumqty then partially_filled otherwise s

-- a Filled below the quantity
unfoldable pub is_short : (qty cumqty s : ℕ) → Bool
is_short qty cumqty s = eqb s filled && ltb cumqty qty

-- a short Filled is set as New, and raises its alarm
unfoldable pub unless_short : (qty cumqty s : ℕ) → ℕ
unless_short qty cumqty s = if is_short qty cumqty s then new otherwise s

unfoldable pub short_alarm : (qty cumqty s : ℕ) → ℕ
short_alarm qty cumqty s = if is_short qty cumqty s then filled_short otherwise 0

-- `set_status`: a done order has nothing pending and no gateway cancel
unfoldable pub set_status : ℕ → Order → Order
set_status s o =
    let s' : ℕ = status_at o.state.cumqty (unless_short o.terms.qty o.state.cumqty s) in
    record {
      client = o.client;
      venue = o.venue;
      names = o.names;
      terms = o.terms;
      state = record { status = s'; cumqty = o.state.cumqty; avgpx = o.state.avgpx; execseq = o.state.execseq };
      links = o.links;
      pending = if is_done s' then no_pending otherwise o.pending;
      gateway = if is_done s' then no_gateway otherwise o.gateway;
    }

-- FIX's placeholder for no OrderID
abbrev pub text_none : Text
text_none = text_of (78 ∷ (79 ∷ (78 ∷ (69 ∷ []))))

-- the venue's OrderID that `record_venue_order_id` keeps: the first, or the one of the report that accepts a replace
unfoldable pub kept_order_id : (kept given : Text) (replaced : Bool) → Text
kept_order_id kept given replaced =
    if is_empty given || same_text given text_none then kept
    otherwise if is_empty kept || replaced then given
    otherwise kept

-- `record_venue_order_id`
unfoldable pub record_venue_order_id : Text → Bool → Order → Order
record_venue_order_id given replaced o =
    with_names
    (record {
      name = o.names.name;
      clordid = o.names.clordid;
      downstream = o.names.downstream;
      symbol = o.names.symbol;
      venueorderid = kept_order_id o.names.venueorderid given replaced;
    })
    o

-- the terms of the pending replace
unfoldable pub pending_terms : Order → Terms
pending_terms o = record {
  side = o.terms.side;
  ordtype = o.pending.ordtype;
  timeinforce = o.pending.timeinforce;
  qty = o.pending.qty;
  price = o.pending.price;
}

-- `apply_replace`: the order takes the pending terms and the names of the replace's request
unfoldable pub apply_replace : Request → Order → Order
apply_replace request order = record {
  client = order.client;
  venue = order.venue;
  names = record {
    name = order.names.name;
    clordid = request.clordid;
    downstream = request.downstream;
    symbol = order.names.symbol;
    venueorderid = order.names.venueorderid;
  };
  terms = pending_terms order;
  state = order.state;
  links = record { amendments = order.links.amendments; current = order.pending.request; cancel = order.links.cancel };
  pending = no_pending;
  gateway = order.gateway;
}

-- the next report's sequence: `exec_seq`, which goes on at 0 after 2^64 - 1
unfoldable pub next_sequence : ℕ → ℕ
next_sequence n = if eqb n (2 ^ 64 - 1) then 0 otherwise n + 1

unfoldable pub next_exec : Order → Order
next_exec o = with_state (record { status = o.state.status; cumqty = o.state.cumqty; avgpx = o.state.avgpx; execseq = next_sequence o.state.execseq }) o
