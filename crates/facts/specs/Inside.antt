-- Books that keep the rules, at the edge of each rule and where no list of events leads: a rule too many, or one that asks too much, refuses one of them.
-- Broken has a book beyond each rule. Rests on Rules and Play.
use Rattle.std.specs.Prelude.{ℕ, ◌-◌, ◌^◌, ◌≡◌, refl, Bool, true, false, List, [], ◌∷◌, map, replicate}
use Rattle.prelude.specs.Texts.{text_of}
use Rattle.prelude.specs.declared.Terms.{Terms}
use Rattle.text.specs.Stored.{no_text}
use Rattle.store.specs.declared.State.{State}
use Rattle.store.specs.declared.Links.{Links}
use Rattle.store.specs.declared.Pending.{Pending}
use Rattle.store.specs.declared.GatewayCancel.{GatewayCancel}
use Rattle.store.specs.declared.Order.{Order}
use Rattle.store.specs.declared.Request.{Request}
use Rattle.store.specs.Book.{Book}
use Rattle.store.specs.Orders.{no_pending, no_gateway}
use Rattle.machine.specs.Rules.{rules}
use Rattle.facts.specs.Play.{shares, money, X, X_, C, D, E, W, called, terms, state, links, order_x, standing, answered_for, request, first}

-- ---- the words of the tables

abbrev Y : List ℕ
Y = 89 ∷ []

abbrev book : List Order → List Request → Book
book os qs = record { setting = 10000; orders = os; requests = qs }

-- a request of the order at that index
abbrev of_order : (order kind outcome : ℕ) (clordid origclordid downstream : List ℕ) → Request
of_order order kind outcome clordid origclordid downstream = record {
  order = order;
  kind = kind;
  answered = answered_for outcome;
  clordid = text_of clordid;
  origclordid = text_of origclordid;
  downstream = text_of downstream;
  outcome = outcome;
}

-- one order
abbrev one : Order → List Request → Book
one o qs = book (o ∷ []) qs

-- New, of so many amendments, with nothing pending and no gateway cancel
abbrev plain : Links → Order
plain l = order_x (state 48 0 0 1) l no_pending no_gateway

-- an order of a client with its texts and its first request alone, the request of that link
abbrev titled : (client : ℕ) (name clordid symbol venueorderid : List ℕ) (current : ℕ) → Order
titled client name clordid symbol venueorderid current = record {
  client = client;
  venue = 3;
  names = record { name = text_of name; clordid = text_of clordid; downstream = text_of name; symbol = text_of symbol; venueorderid = text_of venueorderid };
  terms = terms 100;
  state = state 48 0 0 1;
  links = links 0 current 0;
  pending = no_pending;
  gateway = no_gateway;
}

abbrev termed : Terms → Order
termed t = record {
  client = 7;
  venue = 3;
  names = record { name = text_of X; clordid = text_of C; downstream = text_of X; symbol = text_of W; venueorderid = no_text };
  terms = t;
  state = state 48 0 0 1;
  links = links 0 1 0;
  pending = no_pending;
  gateway = no_gateway;
}

abbrev terms_of : (side ordtype timeinforce qty price : ℕ) → Terms
terms_of side ordtype timeinforce qty price = record { side = side; ordtype = ordtype; timeinforce = timeinforce; qty = qty; price = price }

-- of order X with its first request: whether these terms, this state, this status with so much filled will do
abbrev with_terms : Terms → Bool
with_terms t = rules (one (termed t) (first ∷ []))

abbrev with_state : State → Bool
with_state s = rules (one (order_x s (links 0 1 0) no_pending no_gateway) (first ∷ []))

abbrev with_status : (cum status : ℕ) → Bool
with_status cum status = with_state (state status cum 0 0)

-- of order X with a replace that is out: whether these terms may be pending
abbrev with_pending : (cum qty price ordtype timeinforce : ℕ) → Bool
with_pending cum qty price ordtype timeinforce =
    rules
    (one
    (order_x (state 49 cum 0 1) (links 1 1 0) (record { request = 2; qty = qty; price = price; ordtype = ordtype; timeinforce = timeinforce }) no_gateway)
    (first ∷ request 2 0 D C (X_ 1) ∷ []))

-- of order X with so many cancels of the gateway, all answered, the last of them the latest: whether the gateway cancel may stand like this
abbrev cancel : (unsent stuck : Bool) (tries named refusedsends : ℕ) → GatewayCancel
cancel unsent stuck tries named refusedsends = record { tries = tries; unsent = unsent; stuck = stuck; origdownstream = named; refusedsends = refusedsends }

abbrev with_gateway : GatewayCancel → Bool
with_gateway g = rules (one (order_x (state 48 0 0 1) (links 1 1 2) no_pending g) (first ∷ request 3 1 [] [] (X_ 1) ∷ []))

-- beside order Y: the same with its first request of link 3
abbrev with_gateway_beside : GatewayCancel → Bool
with_gateway_beside g =
    rules (book (order_x (state 48 0 0 1) (links 1 1 2) no_pending g ∷ titled 8 Y C W [] 3 ∷ []) (first ∷ request 3 1 [] [] (X_ 1) ∷ of_order 1 0 0 C [] Y ∷ []))

-- ---- every field at the edges of its range

-- a name and texts as long as they may be
abbrev twenty : List ℕ
twenty = replicate 20 122

abbrev most : (n : ℕ) → List ℕ
most n = replicate n 0

record Ranges : Type 0 where
  -- the venue's OrderID is any text: NONE, which no event records; 32 bytes
  order_id_none : rules (one (titled 7 X C W (78 ∷ 79 ∷ 78 ∷ 69 ∷ []) 1) (first ∷ [])) ≡ true
  order_id_32 : rules (one (titled 7 X C W (most 32) 1) (first ∷ [])) ≡ true
  -- the order's own ClOrdID is any text: one that no request bears
  clordid_alone : rules (one (titled 7 X D W [] 1) (first ∷ [])) ≡ true
  -- a name of 20, a symbol of 16, ClOrdIDs of 32 bytes, all of them zeros; a name that begins with NONE, and one with a digit first
  longest : rules (one (titled 65535 twenty (most 32) (most 16) [] 1) (of_order 0 0 0 (most 32) [] twenty ∷ [])) ≡ true
  none_more : rules (one (titled 0 (78 ∷ 79 ∷ 78 ∷ 69 ∷ 48 ∷ []) C W [] 1) (of_order 0 0 0 C [] (78 ∷ 79 ∷ 78 ∷ 69 ∷ 48 ∷ []) ∷ [])) ≡ true
  digit_first : rules (one (titled 0 (57 ∷ 97 ∷ []) C W [] 1) (of_order 0 0 0 C [] (57 ∷ 97 ∷ []) ∷ [])) ≡ true
  -- each side, each time in force, none too; market without a price, a limit of 0 and of 10^14; a quantity of 0 and of 10^12
  sides : map (λ c. with_terms (terms_of c 50 0 (shares 100) (money 10))) (49 ∷ 50 ∷ 53 ∷ []) ≡ true ∷ true ∷ true ∷ []
  forces : map (λ c. with_terms (terms_of 49 50 c (shares 100) (money 10))) (0 ∷ 48 ∷ 49 ∷ 51 ∷ 52 ∷ []) ≡ true ∷ true ∷ true ∷ true ∷ true ∷ []
  market : with_terms (terms_of 49 49 0 (shares 100) 0) ≡ true
  prices : map (λ p. with_terms (terms_of 49 50 0 (shares 100) p)) (0 ∷ 10 ^ 14 ∷ []) ≡ true ∷ true ∷ []
  quantities : map (λ q. with_terms (terms_of 49 50 0 q (money 10))) (0 ∷ 10 ^ 12 ∷ []) ≡ true ∷ true ∷ []
  -- an average without a fill, none with one; a fill that was never reported; the last report sequence
  average_alone : with_state (state 48 0 (10 ^ 14) 1) ≡ true
  average_none : with_state (state 49 40 0 1) ≡ true
  untold : with_state (state 49 40 (money 10) 0) ≡ true
  sequence : with_state (state 48 0 0 (2 ^ 64 - 1)) ≡ true

ranges : Ranges
unfolding called
ranges = record {
  order_id_none = refl;
  order_id_32 = refl;
  clordid_alone = refl;
  longest = refl;
  none_more = refl;
  digit_first = refl;
  sides = refl;
  forces = refl;
  market = refl;
  prices = refl;
  quantities = refl;
  average_alone = refl;
  average_none = refl;
  untold = refl;
  sequence = refl;
}

-- ---- status and quantities: every status if nothing is filled, and all but A and 0 if something is; all that is ordered, in a live order too

abbrev statuses : List ℕ
statuses = 65 ∷ 48 ∷ 49 ∷ 50 ∷ 54 ∷ 69 ∷ 52 ∷ 67 ∷ 56 ∷ 51 ∷ []

record Statuses : Type 0 where
  at_zero : map (with_status 0) statuses ≡ true ∷ true ∷ true ∷ true ∷ true ∷ true ∷ true ∷ true ∷ true ∷ true ∷ []
  above : map (with_status 40) statuses ≡ false ∷ false ∷ true ∷ true ∷ true ∷ true ∷ true ∷ true ∷ true ∷ true ∷ []
  whole : map (with_status 100) statuses ≡ false ∷ false ∷ true ∷ true ∷ true ∷ true ∷ true ∷ true ∷ true ∷ true ∷ []
  over : map (with_status 101) statuses ≡ false ∷ false ∷ false ∷ false ∷ false ∷ false ∷ false ∷ false ∷ false ∷ false ∷ []

each_status : Statuses
unfolding called
each_status = record { at_zero = refl; above = refl; whole = refl; over = refl }

-- ---- pending terms: any quantity, below what is filled too; any price of a limit; to the market; none but the order's own

record Pendings : Type 0 where
  below_filled : with_pending 40 (shares 39) (money 10) 50 0 ≡ true
  nothing : with_pending 0 0 0 50 52 ≡ true
  most_of_all : with_pending 0 (10 ^ 12) (10 ^ 14) 50 48 ≡ true
  to_market_fact : with_pending 0 (shares 100) 0 49 0 ≡ true
  the_same : with_pending 0 (shares 100) (money 10) 50 0 ≡ true

pendings : Pendings
unfolding called
pendings = record { below_filled = refl; nothing = refl; most_of_all = refl; to_market_fact = refl; the_same = refl }

-- ---- the gateway cancel: tries are what they are, and what the last try named is any request

record Gateways : Type 0 where
  -- three tries, sent or stuck; two, unsent; as many refused sends as the field holds
  sent_3 : with_gateway (cancel false false 3 1 0) ≡ true
  stuck_3 : with_gateway (cancel false true 3 1 0) ≡ true
  unsent_2 : with_gateway (cancel true false 2 1 0) ≡ true
  refused_sends : with_gateway (cancel true false 0 1 (2 ^ 32 - 1)) ≡ true
  -- given up, or sent, without a try
  stuck_0 : with_gateway (cancel false true 0 1 0) ≡ true
  sent_0 : with_gateway (cancel false false 0 1 0) ≡ true
  -- it named its own request, another order's
  named_itself : with_gateway (cancel false true 1 2 0) ≡ true
  named_another : with_gateway_beside (cancel false true 1 3 0) ≡ true
  -- and none stands, though a cancel of the gateway's went out and the order is live
  none_stands : with_gateway no_gateway ≡ true
  -- in flight: with one try and with three, whatever became of a refused send
  in_flight : map (λ n. rules (one (order_x (state 48 0 0 1) (links 1 1 2) no_pending (cancel false false n 1 5)) (first ∷ request 3 0 [] [] (X_ 1) ∷ []))) (1 ∷ 3 ∷ [])
      ≡ true ∷ true ∷ []
  -- one stands, though no cancel was ever sent, or was and its sends were refused
  unsent_alone : map (λ n. rules (one (order_x (state 48 0 0 1) (links 0 1 0) no_pending (cancel true false 0 1 n)) (first ∷ []))) (0 ∷ 5 ∷ []) ≡ true ∷ true ∷ []
  stuck_alone : rules (one (order_x (state 48 0 0 1) (links 0 1 0) no_pending (cancel false true 3 1 0)) (first ∷ [])) ≡ true
  -- a done order has none, though its cancels, the latest and another, are out
  done_out : rules (one (order_x (state 52 0 0 1) (links 2 1 3) no_pending no_gateway) (first ∷ request 3 0 [] [] (X_ 1) ∷ request 3 0 [] [] (X_ 2) ∷ [])) ≡ true

gateways : Gateways
unfolding called
gateways = record {
  sent_3 = refl;
  stuck_3 = refl;
  unsent_2 = refl;
  refused_sends = refl;
  stuck_0 = refl;
  sent_0 = refl;
  named_itself = refl;
  named_another = refl;
  none_stands = refl;
  in_flight = refl;
  unsent_alone = refl;
  stuck_alone = refl;
  done_out = refl;
}

-- ---- links: one of the order's own requests that is of the right kind, whichever

-- two cancels of the client's, and two replaces
abbrev cancels_2 : List Request
cancels_2 = first ∷ request 1 0 D C (X_ 1) ∷ request 1 0 E C (X_ 2) ∷ []

abbrev replaces_2 : (outcome : ℕ) → List Request
replaces_2 outcome = first ∷ request 2 outcome D C (X_ 1) ∷ request 2 outcome E C (X_ 2) ∷ []

-- order X that the venue knows as X-1
abbrev current_1 : Pending → Order
current_1 p = record {
  client = 7;
  venue = 3;
  names = record { name = text_of X; clordid = text_of C; downstream = text_of (X_ 1); symbol = text_of W; venueorderid = no_text };
  terms = terms 100;
  state = state 48 0 0 1;
  links = links 2 2 0;
  pending = p;
  gateway = no_gateway;
}

abbrev pending : (request : ℕ) → Pending
pending request = record { request = request; qty = shares 50; price = money 10; ordtype = 50; timeinforce = 0 }

record Linked : Type 0 where
  -- the latest cancel: the last sent, an earlier one, none
  latest : map (λ k. rules (one (plain (links 2 1 k)) cancels_2)) (3 ∷ 2 ∷ 0 ∷ []) ≡ true ∷ true ∷ true ∷ []
  -- the current downstream: the first request's behind two answered replaces; the earlier replace's; one that is unanswered, and pending itself
  current_first : rules (one (plain (links 2 1 0)) (replaces_2 1)) ≡ true
  current_earlier : rules (one (current_1 no_pending) (replaces_2 1)) ≡ true
  current_open : rules (one (current_1 (pending 2)) (replaces_2 0)) ≡ true
  -- the pending replace: the earlier of two that are unanswered; none of them
  pending_earlier : rules (one (order_x (state 48 0 0 1) (links 2 1 0) (pending 2) no_gateway) (replaces_2 0)) ≡ true
  pending_none : rules (one (plain (links 2 1 0)) (replaces_2 0)) ≡ true
  -- each request with whatever came of it: a replace of a live order, the gateway's cancel of one that is done
  came_of_replace : map (λ v. rules (one (plain (links 1 1 0)) (first ∷ request 2 v D C (X_ 1) ∷ []))) (0 ∷ 1 ∷ 2 ∷ 3 ∷ []) ≡ true ∷ true ∷ true ∷ true ∷ []
  came_of_cancel : map (λ v. rules (one (order_x (state 52 0 0 1) (links 1 1 2) no_pending no_gateway) (first ∷ request 3 v [] [] (X_ 1) ∷ []))) (0 ∷ 1 ∷ 2 ∷ 3 ∷ [])
      ≡ true ∷ true ∷ true ∷ true ∷ []
  -- the first request answered, though the order is PendingNew; a done order's requests all open
  first_answered : rules (one (standing 65 0 0 0) (request 0 1 C [] X ∷ [])) ≡ true
  done_open : rules (one (order_x (state 52 0 0 1) (links 2 1 3) no_pending no_gateway) cancels_2) ≡ true
  -- a cancel whose OrigClOrdID names a replace, whatever came of that
  orig_settled : map (λ v. rules (one (plain (links 2 1 3)) (first ∷ (request 2 v D C (X_ 1) ∷ (request 1 0 E D (X_ 2) ∷ []))))) (0 ∷ 1 ∷ 2 ∷ 3 ∷ []) ≡ true ∷ true ∷ true ∷ true ∷ []

linked : Linked
unfolding called
linked = record {
  latest = refl;
  current_first = refl;
  current_earlier = refl;
  current_open = refl;
  pending_earlier = refl;
  pending_none = refl;
  came_of_replace = refl;
  came_of_cancel = refl;
  first_answered = refl;
  done_open = refl;
  orig_settled = refl;
}

-- ---- two orders: what must be distinct, and what need not be

-- order X of client 7, and one of another client or the same with its only request
abbrev beside : (client : ℕ) (name own clordid : List ℕ) → Bool
beside client name own clordid = rules (book (standing 48 0 0 1 ∷ titled client name own W [] 2 ∷ []) (first ∷ of_order 1 0 0 clordid [] name ∷ []))

record Two : Type 0 where
  -- ClOrdIDs of two clients may be the same; so may the orders' own of one client, if their requests' are not
  clients : beside 8 Y C C ≡ true
  own : beside 7 Y C D ≡ true
  -- names that differ in case, in length, or begin alike
  case : beside 7 (120 ∷ []) D D ≡ true
  longer : beside 7 (88 ∷ 88 ∷ []) D D ≡ true
  -- a ClOrdID that is the other order's name, and one that differs from another's in a zero at its end
  as_name : beside 7 Y X X ≡ true
  zero_at_end : beside 7 Y (67 ∷ 0 ∷ []) (67 ∷ 0 ∷ []) ≡ true
  -- requests of one order between those of the other; the later order's first
  between : rules (book (plain (links 1 1 3) ∷ titled 7 Y E W [] 2 ∷ []) (first ∷ of_order 1 0 0 E [] Y ∷ request 1 0 D C (X_ 1) ∷ [])) ≡ true
  later_first : rules
      (book (order_x (state 48 0 0 1) (links 0 2 0) no_pending no_gateway ∷ titled 7 Y E W [] 1 ∷ []) (of_order 1 0 0 E [] Y ∷ first ∷ []))
      ≡ true
  -- two cancels of the gateway, neither with a ClOrdID
  unnamed : rules (one (plain (links 2 1 3)) (first ∷ request 3 1 [] [] (X_ 1) ∷ request 3 1 [] [] (X_ 2) ∷ [])) ≡ true
  -- no order and no request, of any setting
  empty : map (λ n. rules (record { setting = n; orders = []; requests = [] })) (0 ∷ (2 ^ 32 - 1) ∷ []) ≡ true ∷ true ∷ []
  -- more ClOrdIDs than the setting
  above_setting : rules (record { setting = 0; orders = standing 48 0 0 1 ∷ []; requests = first ∷ [] }) ≡ true

two : Two
unfolding called
two = record {
  clients = refl;
  own = refl;
  case = refl;
  longer = refl;
  as_name = refl;
  zero_at_end = refl;
  between = refl;
  later_first = refl;
  unnamed = refl;
  empty = refl;
  above_setting = refl;
}
