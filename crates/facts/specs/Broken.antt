-- One small book for each rule, which breaks that rule and no other (an order without a first request breaks two): `breaks` lists the rules that do not hold of a book, each by the test that `rules` is put
-- together from, so that a rule that is left out, or a part of it, is missed here. Rests on Rules and Play.
-- The bounds of 64 orders and 256 requests are the last two; `ruled_of` (rules) asks them of the header's counts too.
use Rattle.std.specs.Prelude.{ℕ, ◌+◌, ◌^◌, ◌≡◌, refl, Bool, true, false, List, [], ◌∷◌, ◌++◌, leb, ltb, length}
use Rattle.prelude.specs.Below.{all_below}
use Rattle.prelude.specs.Cases.{if◌then◌otherwise◌}
use Rattle.prelude.specs.Texts.{text_of}
use Rattle.prelude.specs.declared.Text.{Text}
use Rattle.prelude.specs.declared.Terms.{Terms}
use Rattle.text.specs.Numbered.{numbered_text}
use Rattle.text.specs.Stored.{no_text}
use Rattle.store.specs.declared.Names.{Names}
use Rattle.store.specs.declared.State.{State}
use Rattle.store.specs.declared.Links.{Links}
use Rattle.store.specs.declared.Pending.{Pending}
use Rattle.store.specs.declared.GatewayCancel.{GatewayCancel}
use Rattle.store.specs.declared.Order.{Order}
use Rattle.store.specs.declared.Request.{Request}
use Rattle.store.specs.Book.{Book, order_in, request_in}
use Rattle.format.specs.Codes.{is_status, new, partially_filled, canceled, market, limit, is_price}
use Rattle.machine.specs.Constants.{first_kind, replace_kind, gateway_kind}
use Rattle.store.specs.Orders.{no_pending, no_gateway}
use Rattle.machine.specs.Rules.{names_range, terms_range, pending_range, gateway_range, request_range, current_rule, cancel_rule, pending_rule, filled_rule, status_rule, done_rule, tries_rule, amendments_rule, number_in, number_rule, outcome_rule, in_flight_rule, origin_rule, name_rule, key_rule, rules}
use Rattle.facts.specs.Play.{called, answered_for, marked, many_orders, many_requests}

-- ---- the rules that do not hold of a book

data Rule : Type 0 where
  few_orders few_requests : Rule
  -- of an order: every field in its range, and what its links name
  namesRanged termsRanged statusListed averageRanged pendingRanged gatewayRanged : Rule
  currentIs cancelIs pendingIs amendmentsAre : Rule
  filledAtMost aboveZero doneClears triesAtMost : Rule
  -- of a request
  requestRanged outcomeIs isBooked isNumbered inFlightIs originIs : Rule
  -- of two
  namesDiffer clordidsDiffer : Rule

abbrev unless : Bool → Rule → List Rule
unless t r = if t then [] otherwise r ∷ []

abbrev breaks : Book → List Rule
breaks b =
    let n : ℕ = length b.orders in
    let m : ℕ = length b.requests in
    let qs : List Request = b.requests in
    let each : (ℕ → Order → Bool) → Rule → List Rule = λ p r. unless (all_below (λ i. p i (order_in b i)) n) r in
    let every : (ℕ → Request → Order → Bool) → Rule → List Rule = λ p r. unless (all_below (λ j. p j (request_in b j) (order_in b (request_in b j).order)) m) r in
    unless (leb n 64) few_orders
    ++ (unless (leb m 256) few_requests
    ++ (each (λ i o. names_range o.names) namesRanged
    ++ (each (λ i o. terms_range o.terms) termsRanged
    ++ (each (λ i o. is_status o.state.status) statusListed
    ++ (each (λ i o. is_price o.state.avgpx) averageRanged
    ++ (each (λ i o. pending_range o.pending) pendingRanged
    ++ (each (λ i o. gateway_range m o.gateway) gatewayRanged
    ++ (each (λ i o. current_rule i o qs) currentIs
    ++ (each (λ i o. cancel_rule i o.links.cancel qs) cancelIs
    ++ (each (λ i o. pending_rule i o.pending.request qs) pendingIs
    ++ (each (λ i o. amendments_rule i o.links.amendments qs) amendmentsAre
    ++ (each (λ i o. filled_rule o) filledAtMost
    ++ (each (λ i o. status_rule o.state.cumqty o.state.status) aboveZero
    ++ (each (λ i o. done_rule o) doneClears
    ++ (each (λ i o. tries_rule o.gateway) triesAtMost
    ++ (every (λ j q o. request_range q) requestRanged
    ++ (every (λ j q o. outcome_rule q) outcomeIs
    ++ (every (λ j q o. ltb q.order n) isBooked
    ++ (every (λ j q o. number_rule o.names.name (number_in qs j) q) isNumbered
    ++ (every (λ j q o. in_flight_rule (j + 1) q o) inFlightIs
    ++ (every (λ j q o. origin_rule qs j) originIs
    ++ (unless (all_below (name_rule b) n) namesDiffer
    ++ unless (all_below (key_rule b) m) clordidsDiffer))))))))))))))))))))))

record Verdict : Type 0 where
  keeps : Bool
  broken : List Rule

abbrev judged : Book → Verdict
judged b = record { keeps = rules b; broken = breaks b }

abbrev keeping : Verdict
keeping = record { keeps = true; broken = [] }

-- that rule and no other
abbrev breaking : Rule → Verdict
breaking r = record { keeps = false; broken = r ∷ [] }

-- ---- a book that keeps its rules: order X with its first request, a replace that is pending, and a gateway cancel in flight

abbrev text : ℕ → Text
text c = text_of (c ∷ [])

abbrev names_of : (name downstream symbol : Text) → Names
names_of name downstream symbol = record { name = name; clordid = text 67; downstream = downstream; symbol = symbol; venueorderid = no_text }

-- of order X
abbrev names : (symbol : Text) → Names
names = names_of (text 88) (text 88)

abbrev terms : (side : ℕ) → Terms
terms side = record { side = side; ordtype = limit; timeinforce = 0; qty = 100; price = 10 }

abbrev state : (status cumqty avgpx : ℕ) → State
state status cumqty avgpx = record { status = status; cumqty = cumqty; avgpx = avgpx; execseq = 0 }

abbrev links : (amendments current cancel : ℕ) → Links
links amendments current cancel = record { amendments = amendments; current = current; cancel = cancel }

abbrev pending : (request ordtype : ℕ) → Pending
pending request ordtype = record { request = request; qty = 50; price = 10; ordtype = ordtype; timeinforce = 0 }

abbrev gateway : (tries : ℕ) (unsent stuck : Bool) → GatewayCancel
gateway tries unsent stuck = record { tries = tries; unsent = unsent; stuck = stuck; origdownstream = 1; refusedsends = 0 }

abbrev order : Names → Terms → State → Links → Pending → GatewayCancel → Order
order n t s l p g = record { client = 7; venue = 3; names = n; terms = t; state = s; links = l; pending = p; gateway = g }

abbrev request : (order kind outcome : ℕ) → (clordid origclordid downstream : Text) → Request
request order kind outcome clordid origclordid downstream = record {
  order = order;
  kind = kind;
  answered = answered_for outcome;
  clordid = clordid;
  origclordid = origclordid;
  downstream = downstream;
  outcome = outcome;
}

abbrev first : Request
first = request 0 first_kind 0 (text 67) no_text (text 88)

abbrev replacing : (clordid origclordid : Text) → Request
replacing clordid origclordid = request 0 replace_kind 0 clordid origclordid (numbered_text (text 88) 1)

abbrev cancelling : (outcome number : ℕ) → Request
cancelling outcome number = request 0 gateway_kind outcome no_text no_text (numbered_text (text 88) number)

abbrev book : List Order → List Request → Book
book os qs = record { setting = 10; orders = os; requests = qs }

-- the book with one order, and its parts
abbrev with_order : Order → Book
with_order o = book (o ∷ []) (first ∷ (replacing (text 68) (text 67) ∷ (cancelling 0 2 ∷ [])))

abbrev with_requests : List Request → Book
with_requests qs = book (order (names (text 87)) (terms 49) (state new 0 0) (links 2 1 3) (pending 2 limit) (gateway 1 false false) ∷ []) qs

-- the same with the gateway cancel answered
abbrev answered : Links → GatewayCancel → Book
answered l g = book (order (names (text 87)) (terms 49) (state new 0 0) l (pending 2 limit) g ∷ []) (first ∷ (replacing (text 68) (text 67) ∷ (cancelling 1 2 ∷ [])))

-- order X with nothing pending and no gateway cancel, of so many amendments
abbrev plain : (amendments : ℕ) → List Request → Book
plain amendments qs = book (order (names (text 87)) (terms 49) (state new 0 0) (links amendments 1 0) no_pending no_gateway ∷ []) qs

-- two orders: X, of which names, links and pending terms are given, and Y with its first request, a replace of that OrigClOrdID and an answered cancel of the gateway
abbrev crossing : (origclordid : Text) → Names → Links → Pending → Book
crossing origclordid n l p =
    book
    (order n (terms 49) (state new 0 0) l p no_gateway
    ∷ (order (names_of (text 89) (text 89) (text 87)) (terms 49) (state new 0 0) (links 2 2 4) no_pending no_gateway ∷ []))
    (first
    ∷ (request 1 first_kind 0 (text 68) no_text (text 89)
    ∷ (request 1 replace_kind 0 (text 69) origclordid (numbered_text (text 89) 1) ∷ (request 1 gateway_kind 1 no_text no_text (numbered_text (text 89) 2) ∷ []))))

abbrev beside : Names → Links → Pending → Book
beside = crossing (text 68)

-- order X with two replaces, of these OrigClOrdIDs
abbrev replacing_twice : (one two : Text) → Book
replacing_twice one two =
    plain 2 (first ∷ (request 0 replace_kind 2 (text 68) one (numbered_text (text 88) 1) ∷ (request 0 replace_kind 0 (text 69) two (numbered_text (text 88) 2) ∷ [])))

-- ---- the rules

record Table : Type 0 where
  kept : judged (with_order (order (names (text 87)) (terms 49) (state new 0 0) (links 2 1 3) (pending 2 limit) (gateway 1 false false))) ≡ keeping
  settled : judged (answered (links 2 1 3) (gateway 1 false true)) ≡ keeping
  -- every field is in its range: a symbol that is empty, a side, status, price, pending type that is none, a gateway cancel unsent and stuck, no OrigClOrdID
  symbol : judged (with_order (order (names no_text) (terms 49) (state new 0 0) (links 2 1 3) (pending 2 limit) (gateway 1 false false))) ≡ breaking namesRanged
  side : judged (with_order (order (names (text 87)) (terms 0) (state new 0 0) (links 2 1 3) (pending 2 limit) (gateway 1 false false))) ≡ breaking termsRanged
  status : judged (with_order (order (names (text 87)) (terms 49) (state 7 0 0) (links 2 1 3) (pending 2 limit) (gateway 1 false false))) ≡ breaking statusListed
  price : judged (with_order (order (names (text 87)) (terms 49) (state new 0 (10 ^ 14 + 1)) (links 2 1 3) (pending 2 limit) (gateway 1 false false))) ≡ breaking averageRanged
  ordtype : judged (with_order (order (names (text 87)) (terms 49) (state new 0 0) (links 2 1 3) (pending 2 0) (gateway 1 false false))) ≡ breaking pendingRanged
  stage : judged (answered (links 2 1 3) (gateway 1 true true)) ≡ breaking gatewayRanged
  origclordid : judged (with_requests (first ∷ (replacing (text 68) no_text ∷ (cancelling 0 2 ∷ [])))) ≡ breaking requestRanged
  -- a market order has no price, nor has a replace to market
  market_price : judged
      (with_order
      (order (names (text 87)) (record { side = 49; ordtype = market; timeinforce = 0; qty = 100; price = 10 }) (state new 0 0) (links 2 1 3) (pending 2 limit)
      (gateway 1 false false)))
      ≡ breaking termsRanged
  pending_price : judged (with_order (order (names (text 87)) (terms 49) (state new 0 0) (links 2 1 3) (pending 2 market) (gateway 1 false false))) ≡ breaking pendingRanged
  -- a request has one of four kinds, and its `answered` is 0 or 1
  kind : judged (plain 1 (first ∷ (request 0 4 0 (text 68) (text 67) (numbered_text (text 88) 1) ∷ []))) ≡ breaking requestRanged
  mark : judged (plain 0 (marked 2 2 first ∷ [])) ≡ breaking requestRanged
  -- what came of a request is 0 exactly if it is unanswered, and 3 at most
  outcome_open : judged (plain 0 (marked 0 1 first ∷ [])) ≡ breaking outcomeIs
  outcome_none : judged (plain 0 (marked 1 0 first ∷ [])) ≡ breaking outcomeIs
  outcome_most : judged (plain 0 (marked 1 4 first ∷ [])) ≡ breaking outcomeIs
  -- this holds of any request, not of the first alone: here of a replace
  outcome_later : judged (plain 1 (first ∷ (marked 1 0 (replacing (text 68) (text 67)) ∷ []))) ≡ breaking outcomeIs
  -- each request names a booked order: one of order 5, by its empty name
  booked : judged (with_requests (first ∷ (replacing (text 68) (text 67) ∷ (cancelling 0 2 ∷ (request 5 first_kind 0 (text 90) no_text no_text ∷ []))))) ≡ breaking isBooked
  -- the current downstream is the first request or a replace: here the gateway cancel
  current : judged (with_order (order (names (text 87)) (terms 49) (state new 0 0) (links 2 3 3) (pending 2 limit) (gateway 1 false false))) ≡ breaking currentIs
  -- and it bears the order's downstream ClOrdID: here the order's says Z
  current_text : judged
      (with_order (order (names_of (text 88) (text 90) (text 87)) (terms 49) (state new 0 0) (links 2 1 3) (pending 2 limit) (gateway 1 false false)))
      ≡ breaking currentIs
  -- a link names a request of its own order: two orders that do, then X whose current downstream, latest cancel, or pending replace is Y's
  both : judged (beside (names (text 87)) (links 0 1 0) no_pending) ≡ keeping
  current_own : judged (beside (names_of (text 88) (text 89) (text 87)) (links 0 2 0) no_pending) ≡ breaking currentIs
  cancel_own : judged (beside (names (text 87)) (links 0 1 4) no_pending) ≡ breaking cancelIs
  pending_own : judged (beside (names (text 87)) (links 0 1 0) (pending 3 limit)) ≡ breaking pendingIs
  -- the latest cancel is a cancel: here the replace
  cancel : judged (answered (links 2 1 2) (gateway 1 false false)) ≡ breaking cancelIs
  -- names are distinct, and ClOrdIDs within a client: a second order X; a replace under the first ClOrdID
  name : judged
      (book
      (order (names (text 87)) (terms 49) (state new 0 0) (links 0 1 0) no_pending no_gateway
      ∷ (order (names (text 87)) (terms 49) (state new 0 0) (links 0 2 0) no_pending no_gateway ∷ []))
      (first ∷ (request 1 first_kind 0 (text 68) no_text (text 88) ∷ [])))
      ≡ breaking namesDiffer
  clordid : judged (with_requests (first ∷ (replacing (text 67) (text 67) ∷ (cancelling 0 2 ∷ [])))) ≡ breaking clordidsDiffer
  -- cumulative is at most ordered; above 0 the status is not A or 0
  filled : judged (with_order (order (names (text 87)) (terms 49) (state partially_filled 101 0) (links 2 1 3) (pending 2 limit) (gateway 1 false false))) ≡ breaking filledAtMost
  above : judged (with_order (order (names (text 87)) (terms 49) (state new 1 0) (links 2 1 3) (pending 2 limit) (gateway 1 false false))) ≡ breaking aboveZero
  -- a done order has no pending terms and no gateway cancel
  done_pending : judged (with_order (order (names (text 87)) (terms 49) (state canceled 0 0) (links 2 1 3) (pending 2 limit) no_gateway)) ≡ breaking doneClears
  done_gateway : judged (with_order (order (names (text 87)) (terms 49) (state canceled 0 0) (links 2 1 3) no_pending (gateway 1 false false))) ≡ breaking doneClears
  -- pending terms name an unanswered client replace: here the first request, and a replace that is answered
  replaces : judged (with_order (order (names (text 87)) (terms 49) (state new 0 0) (links 2 1 3) (pending 1 limit) (gateway 1 false false))) ≡ breaking pendingIs
  unanswered : judged
      (book
      (order (names (text 87)) (terms 49) (state new 0 0) (links 2 1 3) (pending 2 limit) (gateway 1 false false) ∷ [])
      (first ∷ (request 0 replace_kind 1 (text 68) (text 67) (numbered_text (text 88) 1) ∷ (cancelling 0 2 ∷ []))))
      ≡ breaking pendingIs
  -- amendments are the request records less one; downstream ClOrdIDs are numbered
  amendments : judged (with_order (order (names (text 87)) (terms 49) (state new 0 0) (links 3 1 3) (pending 2 limit) (gateway 1 false false))) ≡ breaking amendmentsAre
  numbered : judged (with_requests (first ∷ (replacing (text 68) (text 67) ∷ (cancelling 0 3 ∷ [])))) ≡ breaking isNumbered
  -- number 0 of an order, and no other, is a first request: here there is a second one; here there is none
  first_again : judged (plain 1 (first ∷ (request 0 first_kind 0 (text 68) no_text (numbered_text (text 88) 1) ∷ []))) ≡ breaking isNumbered
  -- (without a first request, a replace also names nothing before it)
  first_missing : judged (plain 0 (request 0 replace_kind 0 (text 67) (text 68) (text 88) ∷ [])) ≡ record { keeps = false; broken = isNumbered ∷ originIs ∷ [] }
  -- tries are at most 3, and at most 2 if the last is unsent
  tries : judged (with_order (order (names (text 87)) (terms 49) (state new 0 0) (links 2 1 3) (pending 2 limit) (gateway 4 false false))) ≡ breaking triesAtMost
  tries_unsent : judged (answered (links 2 1 3) (gateway 3 true false)) ≡ breaking triesAtMost
  -- an unanswered gateway cancel of a live order is its latest cancel, with tries above 0, sent and not stuck
  latest : judged (with_order (order (names (text 87)) (terms 49) (state new 0 0) (links 2 1 0) (pending 2 limit) (gateway 1 false false))) ≡ breaking inFlightIs
  tried : judged (with_order (order (names (text 87)) (terms 49) (state new 0 0) (links 2 1 3) (pending 2 limit) (gateway 0 false false))) ≡ breaking inFlightIs
  sent : judged (with_order (order (names (text 87)) (terms 49) (state new 0 0) (links 2 1 3) (pending 2 limit) (gateway 1 true false))) ≡ breaking inFlightIs
  free : judged (with_order (order (names (text 87)) (terms 49) (state new 0 0) (links 2 1 3) (pending 2 limit) (gateway 1 false true))) ≡ breaking inFlightIs
  -- an OrigClOrdID names a request of the same order that is numbered lower: the first, or one that is refused
  origin : (judged (replacing_twice (text 67) (text 67)) ≡ keeping) × (judged (replacing_twice (text 67) (text 68)) ≡ keeping)
  -- it may not be one that no request bears, nor name a later request, the request itself, or one of another order
  origin_unknown : judged (replacing_twice (text 67) (text 70)) ≡ breaking originIs
  origin_later : judged (replacing_twice (text 69) (text 67)) ≡ breaking originIs
  origin_itself : judged (replacing_twice (text 67) (text 69)) ≡ breaking originIs
  origin_own : judged (crossing (text 67) (names (text 87)) (links 0 1 0) no_pending) ≡ breaking originIs

broken : Table
unfolding called
broken = record {
  kept = refl;
  settled = refl;
  symbol = refl;
  side = refl;
  status = refl;
  price = refl;
  ordtype = refl;
  stage = refl;
  origclordid = refl;
  market_price = refl;
  pending_price = refl;
  kind = refl;
  mark = refl;
  outcome_open = refl;
  outcome_none = refl;
  outcome_most = refl;
  outcome_later = refl;
  booked = refl;
  current = refl;
  current_text = refl;
  both = refl;
  current_own = refl;
  cancel_own = refl;
  pending_own = refl;
  cancel = refl;
  name = refl;
  clordid = refl;
  filled = refl;
  above = refl;
  done_pending = refl;
  done_gateway = refl;
  replaces = refl;
  unanswered = refl;
  amendments = refl;
  numbered = refl;
  first_again = refl;
  first_missing = refl;
  tries = refl;
  tries_unsent = refl;
  latest = refl;
  tried = refl;
  sent = refl;
  free = refl;
  origin = (refl, refl);
  origin_unknown = refl;
  origin_later = refl;
  origin_itself = refl;
  origin_own = refl;
}

-- ---- at most 64 orders and 256 requests

record Bounds : Type 0 where
  orders_64 : rules (many_orders 64) ≡ true
  orders_65 : rules (many_orders 65) ≡ false
  requests_20 : rules (many_requests 19) ≡ true
  requests_257 : rules (many_requests 256) ≡ false

bounds : Bounds
unfolding called
bounds = record { orders_64 = refl; orders_65 = refl; requests_20 = refl; requests_257 = refl }
