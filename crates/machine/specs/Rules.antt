-- docs/SCOPE.md, Rules, rule by rule, as tests on the book. Rests on Ranges and Changes.
-- Each rule is given only what it reads. `rules` is what question 1 and `check` decide.
use Rattle.std.specs.Prelude.{ℕ, ◌+◌, ◌-◌, Bool, not, ◌&&◌, ◌||◌, List, eqb, leb, ltb, length, get_or}
use Rattle.prelude.specs.Below.{all_below, count_below}
use Rattle.prelude.specs.Cases.{if◌then◌otherwise◌}
use Rattle.prelude.specs.Texts.{same_text}
use Rattle.prelude.specs.declared.Text.{Text}
use Rattle.prelude.specs.declared.Terms.{Terms}
use Rattle.text.specs.Numbered.{numbered_text}
use Rattle.store.specs.Layout.{most_orders, most_requests}
use Rattle.store.specs.declared.Names.{Names}
use Rattle.store.specs.declared.Pending.{Pending}
use Rattle.store.specs.declared.GatewayCancel.{GatewayCancel}
use Rattle.store.specs.declared.Order.{Order}
use Rattle.store.specs.declared.Request.{Request}
use Rattle.store.specs.Book.{Book, order_in, request_in}
use Rattle.store.specs.Requests.{no_request}
use Rattle.machine.specs.Constants.{most_tries, failed_to_send}
use Rattle.machine.specs.Orders.{is_empty, is_done, has_pending, has_gateway}
use Rattle.machine.specs.Changes.{is_first, is_replace, is_gateway, is_cancel, is_answered}
use Rattle.format.specs.Codes.{is_side, is_ordtype, is_timeinforce, is_status, is_qty, is_price, pending_new, new, limit}
use Rattle.machine.specs.Ranges.{text_within, name_range}

-- ---- every field is in its range

unfoldable pub names_range : Names → Bool
names_range n = name_range n.name && text_within 1 32 n.clordid && text_within 1 32 n.downstream && text_within 1 16 n.symbol && text_within 0 32 n.venueorderid

-- a time in force that is not given is 0
unfoldable pub force_range : ℕ → Bool
force_range c = eqb c 0 || is_timeinforce c

-- a market order's price is 0
unfoldable pub priced_range : (ordtype price : ℕ) → Bool
priced_range ordtype price = is_ordtype ordtype && is_price price && (eqb ordtype limit || eqb price 0)

unfoldable pub terms_range : Terms → Bool
terms_range t = is_side t.side && priced_range t.ordtype t.price && force_range t.timeinforce && is_qty t.qty

-- if nothing is pending all terms are zero
unfoldable pub pending_range : Pending → Bool
pending_range p =
    if eqb p.request 0 then eqb p.qty 0 && eqb p.price 0 && eqb p.ordtype 0 && eqb p.timeinforce 0
    otherwise priced_range p.ordtype p.price && force_range p.timeinforce && is_qty p.qty

-- a gateway cancel is not both unsent and stuck, since one byte has its stage; if there is none all is zero
unfoldable pub gateway_range : (requests : ℕ) → GatewayCancel → Bool
gateway_range requests g =
    not (g.unsent && g.stuck) && leb g.origdownstream requests
    && (not (eqb g.origdownstream 0) || (not g.unsent && not g.stuck && eqb g.tries 0 && eqb g.refusedsends 0))

unfoldable pub order_range : (requests : ℕ) → Order → Bool
order_range requests o =
    names_range o.names && terms_range o.terms && is_status o.state.status && is_price o.state.avgpx
    && pending_range o.pending && gateway_range requests o.gateway

-- a gateway cancel has no ClOrdID; only the client's cancels and replaces have an OrigClOrdID
unfoldable pub request_range : Request → Bool
request_range q =
    leb q.kind 3 && leb q.answered 1
    && (if is_gateway q then text_within 0 0 q.clordid otherwise text_within 1 32 q.clordid)
    && (if is_first q || is_gateway q then text_within 0 0 q.origclordid otherwise text_within 1 32 q.origclordid)

-- ---- one order, and the requests that its links name

-- the request of a link is there, is the order's own, and passes the test
unfoldable pub linked : (test : Request → Bool) → (order link : ℕ) → List Request → Bool
linked test order link qs =
    ltb 0 link && leb link (length qs) && eqb (get_or qs (link - 1) no_request).order order && test (get_or qs (link - 1) no_request)

abbrev pub current_test : Text → Request → Bool
current_test downstream q = not (is_cancel q) && same_text downstream q.downstream

abbrev pub pending_test : Request → Bool
pending_test q = is_replace q && not (is_answered q)

-- the current downstream is the first request's or a replace's
unfoldable pub current_rule : ℕ → Order → List Request → Bool
current_rule i o qs = linked (current_test o.names.downstream) i o.links.current qs

-- the latest cancel, if any, is a cancel
unfoldable pub cancel_rule : ℕ → (cancel : ℕ) → List Request → Bool
cancel_rule i cancel qs = eqb cancel 0 || linked is_cancel i cancel qs

-- pending terms name an unanswered client replace
unfoldable pub pending_rule : ℕ → (request : ℕ) → List Request → Bool
pending_rule i request qs = eqb request 0 || linked pending_test i request qs

-- cumulative is at most ordered
unfoldable pub filled_rule : Order → Bool
filled_rule o = leb o.state.cumqty o.terms.qty

-- above a cumulative of 0 the status is neither A (PendingNew) nor 0 (New)
unfoldable pub status_rule : (cumqty status : ℕ) → Bool
status_rule cumqty status = eqb cumqty 0 || not (eqb status pending_new || eqb status new)

-- a done order has no pending terms and no gateway cancel
unfoldable pub done_rule : Order → Bool
done_rule o = not (is_done o.state.status) || (not (has_pending o) && not (has_gateway o))

-- tries are at most 3, and at most 2 if the cancel is unsent
unfoldable pub tries_rule : GatewayCancel → Bool
tries_rule g = leb g.tries (if g.unsent then most_tries - 1 otherwise most_tries)

-- the order's own requests
abbrev pub of_order : List Request → ℕ → ℕ → Bool
of_order qs i j = eqb (get_or qs j no_request).order i

-- amendments are its request records less one
unfoldable pub amendments_rule : ℕ → (amendments : ℕ) → List Request → Bool
amendments_rule i amendments qs = eqb (amendments + 1) (count_below (of_order qs i) (length qs))

unfoldable pub order_rule : Book → ℕ → Bool
order_rule b i =
    let o = order_in b i in
    let qs = b.requests in
    order_range (length qs) o && current_rule i o qs && cancel_rule i o.links.cancel qs && pending_rule i o.pending.request qs
    && amendments_rule i o.links.amendments qs && filled_rule o && status_rule o.state.cumqty o.state.status && done_rule o && tries_rule o.gateway

-- ---- one request, and its order

-- the number of request j among its order's
unfoldable pub number_in : List Request → ℕ → ℕ
number_in qs j = count_below (of_order qs (get_or qs j no_request).order) j

-- "exactly the unanswered have outcome 0", and it is at most 3
unfoldable pub outcome_rule : Request → Bool
outcome_rule q = if is_answered q then ltb 0 q.outcome && leb q.outcome failed_to_send otherwise eqb q.outcome 0

-- the order's name, then its name with -1, -2 and so on
unfoldable pub name_number : Text → ℕ → Text
name_number name n = if eqb n 0 then name otherwise numbered_text name n

-- the downstream ClOrdID is the name with the request's number, and only number 0 is a first request
unfoldable pub number_rule : Text → ℕ → Request → Bool
number_rule name n q = same_text q.downstream (name_number name n) && (if is_first q then eqb n 0 otherwise ltb 0 n)

-- an unanswered gateway cancel of a live order is its latest cancel, with tries above 0, sent and not stuck
unfoldable pub in_flight_rule : (link : ℕ) → Request → Order → Bool
in_flight_rule link q o =
    not (is_gateway q) || is_answered q || is_done o.state.status
    || (eqb o.links.cancel link && ltb 0 o.gateway.tries && not o.gateway.unsent && not o.gateway.stuck)

-- "an OrigClOrdID names such a request": one of the same order, numbered lower, has it as its ClOrdID
abbrev pub bears_origin : List Request → (k j : ℕ) → Bool
bears_origin qs k j = eqb (get_or qs j no_request).order (get_or qs k no_request).order && same_text (get_or qs j no_request).clordid (get_or qs k no_request).origclordid

-- one of the requests numbered lower bears it, so it is false that none does
unfoldable pub origin_rule : List Request → ℕ → Bool
origin_rule qs k = is_empty (get_or qs k no_request).origclordid || not (all_below (λ j. not (bears_origin qs k j)) k)

unfoldable pub request_rule : Book → ℕ → Bool
request_rule b j =
    let q = request_in b j in
    let o = order_in b q.order in
    request_range q && outcome_rule q && ltb q.order (length b.orders) && number_rule o.names.name (number_in b.requests j) q
    && in_flight_rule (j + 1) q o && origin_rule b.requests j

-- ---- names, and ClOrdIDs within a client, are distinct. Downstream ClOrdIDs are, since names have no '-' (a law).

abbrev pub names_apart : Book → ℕ → ℕ → Bool
names_apart book i j = not (same_text (order_in book i).names.name (order_in book j).names.name)

abbrev pub name_rule : Book → ℕ → Bool
name_rule b i = all_below (names_apart b i) i

abbrev pub client_of : Book → ℕ → ℕ
client_of b j = (order_in b (request_in b j).order).client

-- two requests are of one client and have one ClOrdID
unfoldable pub same_key : Book → ℕ → ℕ → Bool
same_key book i j =
    not (is_empty (request_in book i).clordid) && eqb (client_of book i) (client_of book j) && same_text (request_in book i).clordid (request_in book j).clordid

abbrev pub keys_apart : Book → ℕ → ℕ → Bool
keys_apart book i j = not (same_key book i j)

abbrev pub key_rule : Book → ℕ → Bool
key_rule b i = all_below (keys_apart b i) i

-- ---- the rules

unfoldable pub rules : Book → Bool
rules b =
    let n : ℕ = length b.orders in
    let m : ℕ = length b.requests in
    leb n most_orders && leb m most_requests && all_below (order_rule b) n && all_below (request_rule b) m && all_below (name_rule b) n && all_below (key_rule b) m
