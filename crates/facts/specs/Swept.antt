-- A day of an order with a value of its own in each field, whose record and requests stand behind another client's: every message whole, both alarms, and the
-- whole book after each event. It rules out a field taken for its neighbour, a bit that is missing and a link counted from the wrong end. Rests on Play.
use Rattle.std.specs.Prelude.{ℕ, ◌≡◌, refl, true, false, List, [], ◌∷◌, ◌++◌, replicate}
use Rattle.prelude.specs.Texts.{text_of}
use Rattle.prelude.specs.declared.Terms.{Terms}
use Rattle.bits.specs.Map.{map_of}
use Rattle.records.specs.Record.{event_in}
use Rattle.records.specs.declared.LongText.{LongText}
use Rattle.store.specs.declared.GatewayCancel.{GatewayCancel}
use Rattle.store.specs.declared.Links.{Links}
use Rattle.store.specs.declared.Order.{Order}
use Rattle.store.specs.declared.Pending.{Pending}
use Rattle.store.specs.declared.Request.{Request}
use Rattle.store.specs.declared.State.{State}
use Rattle.store.specs.Book.{Book}
use Rattle.store.specs.Orders.{no_pending, no_gateway}
use Rattle.text.specs.Stored.{no_text}
use Rattle.machine.specs.Changes.{Message}
use Rattle.machine.specs.History.{left_by}
use Rattle.machine.specs.Machine.{step_of}
use Rattle.machine.specs.Rules.{rules}
use Rattle.facts.specs.Play.{Field, number, spelled, mark, bytes, shares, money, X, X_, C, D, E, W, report_of, reject_of, send_fails, sends_again, gateway_cancels, called, state, links, answered_for, Line, line_of, Row, events, lines}

-- ---- the words of the table: order X of client 7 at venue 3 sells W; order Y is client 8's at venue 4

abbrev F : List ℕ
F = 70 ∷ []

abbrev G : List ℕ
G = 71 ∷ []

-- a text, and two of the venue's OrderIDs
abbrev T : List ℕ
T = 84 ∷ []

abbrev Q : List ℕ
Q = 81 ∷ []

abbrev P : List ℕ
P = 80 ∷ []

abbrev Y : List ℕ
Y = 89 ∷ []

abbrev no_long : LongText
no_long = record { bytes = replicate 64 0; len = 0 }

abbrev long : (letter : ℕ) → LongText
long letter = record { bytes = letter ∷ replicate 63 0; len = 1 }

-- Y buys 30 at the market, and its cancel is out
abbrev order_y : Order
order_y = record {
  client = 8;
  venue = 4;
  names = record { name = text_of Y; clordid = text_of C; downstream = text_of Y; symbol = text_of W; venueorderid = no_text };
  terms = record { side = 49; ordtype = 49; timeinforce = 0; qty = shares 30; price = 0 };
  state = state 48 0 0 1;
  links = links 1 1 2;
  pending = no_pending;
  gateway = no_gateway;
}

abbrev request_of : (order kind outcome : ℕ) (clordid origclordid downstream : List ℕ) → Request
request_of order kind outcome clordid origclordid downstream = record {
  order = order;
  kind = kind;
  answered = answered_for outcome;
  clordid = text_of clordid;
  origclordid = text_of origclordid;
  downstream = text_of downstream;
  outcome = outcome;
}

abbrev requests_y : List Request
requests_y = request_of 0 0 0 C [] Y ∷ request_of 0 1 0 D C (89 ∷ 45 ∷ 49 ∷ []) ∷ []

-- of order X
abbrev asked : (kind outcome : ℕ) (clordid origclordid downstream : List ℕ) → Request
asked = request_of 1

abbrev sale : (qty price timeinforce : ℕ) → Terms
sale qty price timeinforce = record { side = 50; ordtype = 50; timeinforce = timeinforce; qty = shares qty; price = money price }

abbrev order_as : (clordid downstream venueorderid : List ℕ) → Terms → State → Links → Pending → GatewayCancel → Order
order_as clordid downstream venueorderid t s l p g = record {
  client = 7;
  venue = 3;
  names = record { name = text_of X; clordid = text_of clordid; downstream = text_of downstream; symbol = text_of W; venueorderid = text_of venueorderid };
  terms = t;
  state = s;
  links = l;
  pending = p;
  gateway = g;
}

abbrev book_of : List Order → List Request → Book
book_of os qs = record { setting = 10000; orders = order_y ∷ os; requests = requests_y ++ qs }

-- an event is taken: its messages, the alarm, and order X and its requests as they are left
abbrev row : (event : List ℕ) → List Message → (alarm : ℕ) → Order → List Request → Row
row event messages alarm o qs = record { event = event; line = record { refusal = 0; messages = messages; alarm = alarm; alarm2 = 0; book = book_of (o ∷ []) qs } }

-- the events one after the other, without question 1: whether the book keeps its rules is asked of the last one below
abbrev pub stepped : Book → List (List ℕ) → List Line
stepped b [] = []
stepped b (s ∷ ss) = let c = step_of b (event_in s) in line_of b c ∷ stepped (left_by b c) ss

abbrev pub Goes : Book → List Row → Type 0
Goes b rows = stepped b (events rows) ≡ lines rows

-- ---- the messages

-- 16, of the order as it is left: with these bits beside those of its every report
abbrev reports : (more clordid origclordid : List ℕ) (exectype last leaves price source : ℕ) → LongText → Order → Message
reports more clordid origclordid exectype last leaves price source text o = record {
  kind = 16;
  map = map_of (0 ∷ 2 ∷ 3 ∷ 6 ∷ 7 ∷ 8 ∷ 9 ∷ 10 ∷ 11 ∷ 12 ∷ 13 ∷ 14 ∷ 16 ∷ 17 ∷ 24 ∷ 25 ∷ 26 ∷ 31 ∷ more);
  client = 7;
  venue = 0;
  reason = 0;
  verdict = 0;
  ids = record { name = text_of X; clordid = text_of clordid; origclordid = text_of origclordid; downstream = no_text; symbol = text_of W; venueorderid = no_text; origdownstream = no_text };
  terms = o.terms;
  exec = record { exectype = exectype; status = o.state.status; lastqty = shares last; lastpx = 0; cumqty = o.state.cumqty; avgpx = o.state.avgpx };
  told = record { leavesqty = shares leaves; execseq = o.state.execseq; fillprice = price ∷ 0 ∷ []; fixedtext = 0; origin = 0; responseto = 0; source = source };
  text = text;
}

-- 17: with these bits beside those of every cancel reject
abbrev refuses : (more name clordid origclordid : List ℕ) (status responseto reason origin fixedtext : ℕ) → LongText → Message
refuses more name clordid origclordid status responseto reason origin fixedtext text = record {
  kind = 17;
  map = map_of (0 ∷ 3 ∷ 4 ∷ 13 ∷ 19 ∷ 28 ∷ 29 ∷ more);
  client = 7;
  venue = 0;
  reason = reason;
  verdict = 0;
  ids = record { name = text_of name; clordid = text_of clordid; origclordid = text_of origclordid; downstream = no_text; symbol = no_text; venueorderid = no_text; origdownstream = no_text };
  terms = record { side = 0; ordtype = 0; timeinforce = 0; qty = 0; price = 0 };
  exec = record { exectype = 0; status = status; lastqty = 0; lastpx = 0; cumqty = 0; avgpx = 0 };
  told = record { leavesqty = 0; execseq = 0; fillprice = 0 ∷ 0 ∷ []; fixedtext = fixedtext; origin = origin; responseto = responseto; source = 0 };
  text = text;
}

-- 18 to 20, with these bits beside those of every message to the venue
abbrev goes : (kind : ℕ) (more downstream venueorderid origdownstream : List ℕ) → Terms → Message
goes kind more downstream venueorderid origdownstream t = record {
  kind = kind;
  map = map_of (1 ∷ 5 ∷ 6 ∷ 7 ∷ 8 ∷ 9 ∷ 11 ∷ more);
  client = 0;
  venue = 3;
  reason = 0;
  verdict = 0;
  ids = record {
    name = no_text;
    clordid = no_text;
    origclordid = no_text;
    downstream = text_of downstream;
    symbol = text_of W;
    venueorderid = text_of venueorderid;
    origdownstream = text_of origdownstream;
  };
  terms = t;
  exec = record { exectype = 0; status = 0; lastqty = 0; lastpx = 0; cumqty = 0; avgpx = 0 };
  told = record { leavesqty = 0; execseq = 0; fillprice = 0 ∷ 0 ∷ []; fixedtext = 0; origin = 0; responseto = 0; source = 0 };
  text = no_long;
}

-- ---- the events

abbrev books_sale : List ℕ
books_sale =
    bytes 1
    (number 0 2 7 ∷ number 1 2 3 ∷ spelled 2 X ∷ spelled 3 C ∷ spelled 6 W ∷ number 7 1 50 ∷ number 8 1 50 ∷ number 9 8 (shares 100) ∷ number 10 8 (money 10) ∷ number 11 1 49 ∷ [])

-- to 90 at 11, with time in force 3; its type is the order's
abbrev replaces_sale : List Field → List ℕ
replaces_sale marks =
    bytes 3
    ((number 0 2 7 ∷ spelled 3 D ∷ spelled 4 C ∷ spelled 6 W ∷ number 7 1 50 ∷ number 9 8 (shares 90) ∷ number 10 8 (money 11) ∷ number 11 1 51 ∷ []) ++ (marks ++ (number 23 1 0 ∷ [])))

abbrev cancels_sale : (clordid origclordid : List ℕ) → List ℕ
cancels_sale clordid origclordid = bytes 2 (number 0 2 7 ∷ spelled 3 clordid ∷ spelled 4 origclordid ∷ spelled 6 W ∷ number 7 1 50 ∷ [])

-- ---- the order, from its booking to a fill

abbrev before : State → Links → Pending → Order
before s l p = order_as C X P (sale 100 10 49) s l p no_gateway

-- the terms that the replace asks for wait
abbrev waiting : Pending
waiting = record { request = 4; qty = shares 90; price = money 11; ordtype = 50; timeinforce = 51 }

abbrev replaced : (status cum avg sequence : ℕ) → Links → GatewayCancel → Order
replaced status cum avg sequence l g = order_as D (X_ 1) Q (sale 90 11 51) (state status cum avg sequence) l no_pending g

abbrev booked : Request
booked = asked 0 0 C [] X

abbrev replacing : Request
replacing = asked 2 0 D C (X_ 1)

-- the first request, and the replace that supersedes it, both accepted
abbrev settled : List Request
settled = asked 0 1 C [] X ∷ asked 2 1 D C (X_ 1) ∷ []

morning : Goes (book_of [] [])
    (row books_sale [] 0 (order_as C X [] (sale 100 10 49) (state 65 0 0 0) (links 0 3 0) no_pending no_gateway) (booked ∷ [])
    ∷ row (sends_again X) (goes 18 (10 ∷ []) X [] [] (sale 100 10 49) ∷ []) 0
    (order_as C X [] (sale 100 10 49) (state 65 0 0 0) (links 0 3 0) no_pending no_gateway) (booked ∷ [])
    ∷ row (report_of X 48 48 0 0 0 0 (spelled 18 P ∷ spelled 20 T ∷ []))
    (reports (20 ∷ []) C [] 48 0 100 0 3 (long 84) (before (state 48 0 0 1) (links 0 3 0) no_pending) ∷ []) 0
    (before (state 48 0 0 1) (links 0 3 0) no_pending) (booked ∷ [])
    ∷ row (replaces_sale []) (goes 20 (10 ∷ 18 ∷ 30 ∷ []) (X_ 1) P X (sale 90 11 51) ∷ []) 0
    (before (state 48 0 0 1) (links 1 3 0) waiting) (booked ∷ replacing ∷ [])
    ∷ row (replaces_sale (mark 21 ∷ []))
    (reports (4 ∷ []) D C 73 0 100 0 0 no_long (before (state 48 0 0 2) (links 1 3 0) waiting) ∷ []) 0
    (before (state 48 0 0 2) (links 1 3 0) waiting) (booked ∷ replacing ∷ [])
    ∷ row (sends_again (X_ 1)) (goes 20 (10 ∷ 18 ∷ 30 ∷ []) (X_ 1) P X (sale 90 11 51) ∷ []) 0
    (before (state 48 0 0 2) (links 1 3 0) waiting) (booked ∷ replacing ∷ [])
    ∷ row (report_of (X_ 1) 53 48 0 0 0 0 (spelled 18 Q ∷ []))
    (reports (4 ∷ []) D C 53 0 90 0 3 no_long (replaced 48 0 0 3 (links 1 4 0) no_gateway) ∷ []) 0
    (replaced 48 0 0 3 (links 1 4 0) no_gateway) settled
    ∷ row (report_of (X_ 1) 70 49 40 (money 11) 40 (money 11) [])
    (reports [] D [] 70 40 50 (money 11) 1 no_long (replaced 49 40 (money 11) 4 (links 1 4 0) no_gateway) ∷ []) 0
    (replaced 49 40 (money 11) 4 (links 1 4 0) no_gateway) settled
    ∷ [])
unfolding called
morning = refl

-- ---- and from there to its end

abbrev partly : (status sequence : ℕ) → Links → GatewayCancel → Order
partly status sequence = replaced status 40 (money 11) sequence

-- the gateway's cancel: so many tries, whether it waits, and how many sends were refused
abbrev tried : (tries : ℕ) (refusedsends : ℕ) → GatewayCancel
tried tries refusedsends = record { tries = tries; unsent = false; stuck = false; origdownstream = 4; refusedsends = refusedsends }

abbrev unsent : GatewayCancel
unsent = record { tries = 0; unsent = true; stuck = false; origdownstream = 4; refusedsends = 1 }

-- the client's cancel under E, the gateway's, the client's under F; each with what came of it
abbrev first_cancel : (outcome : ℕ) → Request
first_cancel outcome = asked 1 outcome E D (X_ 2)

abbrev second_cancel : (outcome : ℕ) → Request
second_cancel outcome = asked 3 outcome [] [] (X_ 3)

abbrev third_cancel : (outcome : ℕ) → Request
third_cancel outcome = asked 1 outcome F D (X_ 4)

afternoon : Goes (book_of (partly 49 4 (links 1 4 0) no_gateway ∷ []) settled)
    (row (cancels_sale E D) (goes 19 (10 ∷ 18 ∷ 30 ∷ []) (X_ 2) Q (X_ 1) (sale 90 11 51) ∷ []) 0
    (partly 49 4 (links 2 4 5) no_gateway) (settled ++ (first_cancel 0 ∷ []))
    ∷ row (sends_again (X_ 2)) (goes 19 (10 ∷ 18 ∷ 30 ∷ []) (X_ 2) Q (X_ 1) (sale 90 11 51) ∷ []) 0
    (partly 49 4 (links 2 4 5) no_gateway) (settled ++ (first_cancel 0 ∷ []))
    ∷ row (report_of (X_ 2) 54 54 0 0 40 (money 11) [])
    (reports (4 ∷ []) E D 54 0 50 (money 11) 3 no_long (partly 54 5 (links 2 4 5) no_gateway) ∷ []) 0
    (partly 54 5 (links 2 4 5) no_gateway) (settled ++ (first_cancel 0 ∷ []))
    ∷ row (reject_of (X_ 2) (spelled 18 P ∷ number 19 4 1234 ∷ spelled 20 T ∷ []))
    (refuses (2 ∷ 20 ∷ []) X E D 49 1 1234 2 0 (long 84) ∷ []) 0
    (partly 49 5 (links 2 4 5) no_gateway) (settled ++ (first_cancel 2 ∷ []))
    ∷ row gateway_cancels (goes 19 (10 ∷ 18 ∷ 30 ∷ []) (X_ 3) Q (X_ 1) (sale 90 11 51) ∷ []) 0
    (partly 49 5 (links 3 4 6) (tried 1 0)) (settled ++ (first_cancel 2 ∷ second_cancel 0 ∷ []))
    ∷ row (send_fails (X_ 3)) [] 0 (partly 49 5 (links 3 4 6) unsent) (settled ++ (first_cancel 2 ∷ second_cancel 3 ∷ []))
    ∷ row (cancels_sale F D) (goes 19 (10 ∷ 18 ∷ 30 ∷ []) (X_ 4) Q (X_ 1) (sale 90 11 51) ∷ []) 0
    (partly 49 5 (links 4 4 7) unsent) (settled ++ (first_cancel 2 ∷ second_cancel 3 ∷ third_cancel 0 ∷ []))
    ∷ row (report_of (X_ 4) 52 52 0 0 40 (money 11) [])
    (reports (4 ∷ []) F D 52 0 0 (money 11) 3 no_long (partly 52 6 (links 4 4 7) no_gateway) ∷ []) 0
    (partly 52 6 (links 4 4 7) no_gateway) (settled ++ (first_cancel 2 ∷ second_cancel 3 ∷ third_cancel 1 ∷ []))
    ∷ row (report_of (X_ 1) 70 49 10 (money 11) 50 (money 11) []) [] 5
    (partly 52 6 (links 4 4 7) no_gateway) (settled ++ (first_cancel 2 ∷ second_cancel 3 ∷ third_cancel 1 ∷ []))
    ∷ row (cancels_sale G D) (refuses (2 ∷ 27 ∷ []) X G D 52 1 0 1 7 no_long ∷ []) 0
    (partly 52 6 (links 4 4 7) no_gateway) (settled ++ (first_cancel 2 ∷ second_cancel 3 ∷ third_cancel 1 ∷ []))
    -- of a ClOrdID that the client never used: no order, so no name, and Rejected
    ∷ row (cancels_sale G T) (refuses (27 ∷ []) [] G T 56 1 1 1 6 no_long ∷ []) 0
    (partly 52 6 (links 4 4 7) no_gateway) (settled ++ (first_cancel 2 ∷ second_cancel 3 ∷ third_cancel 1 ∷ []))
    ∷ [])
unfolding called
afternoon = refl

-- the books of this day keep their rules
kept : rules (book_of (partly 49 5 (links 4 4 7) unsent ∷ []) (settled ++ (first_cancel 2 ∷ second_cancel 3 ∷ third_cancel 0 ∷ []))) ≡ true
unfolding called
kept = refl
