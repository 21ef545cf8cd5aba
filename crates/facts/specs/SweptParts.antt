-- The machine's parts on small values: the ranges at their ends, each rule's test with one part wrong, a change with one part anew, what stands for none, and the
-- tops of the fields. Rests on Play. docs/SCOPE.md, Records and Rules, has the ranges.
use Rattle.std.specs.Prelude.{ℕ, ◌+◌, ◌*◌, ◌^◌, ◌≡◌, refl, Bool, true, false, List, [], ◌∷◌, replicate}
use Rattle.prelude.specs.Texts.{text_of}
use Rattle.prelude.specs.declared.Terms.{Terms}
use Rattle.prelude.specs.declared.Text.{Text}
use Rattle.wide.specs.Wide.{value, words, fill_price}
use Rattle.records.specs.declared.LongText.{LongText}
use Rattle.store.specs.declared.GatewayCancel.{GatewayCancel}
use Rattle.store.specs.declared.Names.{Names}
use Rattle.store.specs.declared.Order.{Order}
use Rattle.store.specs.declared.Pending.{Pending}
use Rattle.store.specs.declared.Request.{Request}
use Rattle.store.specs.Book.{Book}
use Rattle.store.specs.Orders.{no_pending, no_gateway}
use Rattle.store.specs.Requests.{no_request}
use Rattle.text.specs.Stored.{no_text}
use Rattle.machine.specs.declared.Change.{Change}
use Rattle.machine.specs.declared.Findings.{Findings}
use Rattle.machine.specs.declared.Output.{Output}
use Rattle.machine.specs.declared.Requests.{Requests}
use Rattle.machine.specs.Amend.{verdict_text, send_refused}
use Rattle.machine.specs.Changes.{Message, no_requests, with_order, answering, superseding, adding, telling, alarming, next_link, next_number}
use Rattle.machine.specs.GatewayCancel.{try_sent}
use Rattle.machine.specs.Machine.{latest_cancel}
use Rattle.machine.specs.Messages.{no_message, no_price, no_note}
use Rattle.machine.specs.Rules.{names_range, force_range, priced_range, terms_range, pending_range, gateway_range, request_range, linked, current_test, pending_test, filled_rule, status_rule, done_rule, tries_rule, number_rule, outcome_rule, in_flight_rule, same_key}
use Rattle.facts.specs.Play.{X, X_, C, D, W, called, terms, state, links, order_x, standing, cancelling, request, marked, first, reported}

-- so many tests that hold, and that do not
abbrev yes : ℕ → List Bool
yes n = replicate n true

abbrev no : ℕ → List Bool
no n = replicate n false

-- so many letters A
abbrev letters : ℕ → List ℕ
letters n = replicate n 65

-- ---- ranges

abbrev named : (name clordid downstream symbol venueorderid : List ℕ) → Names
named name clordid downstream symbol venueorderid = record {
  name = text_of name;
  clordid = text_of clordid;
  downstream = text_of downstream;
  symbol = text_of symbol;
  venueorderid = text_of venueorderid;
}

abbrev termed : (side ordtype timeinforce qty price : ℕ) → Terms
termed side ordtype timeinforce qty price = record { side = side; ordtype = ordtype; timeinforce = timeinforce; qty = qty; price = price }

abbrev waiting : (request qty price ordtype timeinforce : ℕ) → Pending
waiting request qty price ordtype timeinforce = record { request = request; qty = qty; price = price; ordtype = ordtype; timeinforce = timeinforce }

abbrev tried : (tries : ℕ) (unsent stuck : Bool) (origdownstream refusedsends : ℕ) → GatewayCancel
tried tries unsent stuck origdownstream refusedsends = record { tries = tries; unsent = unsent; stuck = stuck; origdownstream = origdownstream; refusedsends = refusedsends }

record Ranges : Type 0 where
  -- names: 20, 32, 32, 16 and 32 long at most, and just the OrderID may be empty
  names : names_range (named X C X W [])
      ∷ names_range (named (letters 20) (letters 32) (letters 32) (letters 16) (letters 32))
      ∷ []
      ≡ yes 2
  not_names : names_range (named [] C X W [])
      ∷ names_range (named (letters 21) C X W [])
      ∷ names_range (named (X_ 1) C X W [])
      ∷ names_range (named X [] X W [])
      ∷ names_range (named X C [] W [])
      ∷ names_range (named X C X [] [])
      ∷ names_range (named X C X (letters 17) [])
      ∷ []
      ≡ no 7
  -- zeros after a text
  not_ended : names_range (record { name = text_of X; clordid = text_of C; downstream = text_of X; symbol = text_of W; venueorderid = record { bytes = letters 32; len = 1 } }) ≡ false
  -- times in force 0, 1, 3 and 4, or none
  forces : force_range 0 ∷ force_range 48 ∷ force_range 49 ∷ force_range 51 ∷ force_range 52 ∷ [] ≡ yes 5
  not_forces : force_range 1 ∷ force_range 50 ∷ force_range 53 ∷ [] ≡ no 3
  -- a price of a limit up to 10^14, and none of a market order
  prices : priced_range 50 0 ∷ priced_range 50 (10 ^ 14) ∷ priced_range 49 0 ∷ [] ≡ yes 3
  not_prices : priced_range 50 (10 ^ 14 + 1) ∷ priced_range 49 1 ∷ priced_range 51 0 ∷ priced_range 0 0 ∷ [] ≡ no 4
  -- a quantity up to 10^12
  terms_in : terms_range (termed 49 50 0 (10 ^ 12) 10) ∷ terms_range (termed 50 49 52 0 0) ∷ terms_range (termed 53 50 48 1 0) ∷ [] ≡ yes 3
  terms_out : terms_range (termed 51 50 0 100 10)
      ∷ terms_range (termed 49 49 0 100 10)
      ∷ terms_range (termed 49 50 50 100 10)
      ∷ terms_range (termed 49 50 0 (10 ^ 12 + 1) 10)
      ∷ terms_range (termed 0 0 0 0 0)
      ∷ []
      ≡ no 5
  -- pending terms: as terms are, and all zero without a request
  pending_in : pending_range no_pending ∷ pending_range (waiting 2 (10 ^ 12) (10 ^ 14) 50 0) ∷ pending_range (waiting 2 0 0 49 51) ∷ [] ≡ yes 3
  pending_out : pending_range (waiting 0 1 0 0 0)
      ∷ pending_range (waiting 0 0 1 0 0)
      ∷ pending_range (waiting 0 0 0 50 0)
      ∷ pending_range (waiting 0 0 0 0 49)
      ∷ pending_range (waiting 0 100 10 50 49)
      ∷ pending_range (waiting 2 (10 ^ 12 + 1) 10 50 0)
      ∷ pending_range (waiting 2 100 10 49 0)
      ∷ pending_range (waiting 2 100 10 50 50)
      ∷ pending_range (waiting 2 0 0 0 0)
      ∷ []
      ≡ no 9
  -- a gateway cancel names one of so many requests, here 3; without one it is all zero
  gateway_in : gateway_range 3 no_gateway
      ∷ gateway_range 3 (tried 1 false false 3 0)
      ∷ gateway_range 3 (tried 0 true false 1 9)
      ∷ gateway_range 3 (tried 3 false true 1 9)
      ∷ []
      ≡ yes 4
  gateway_out : gateway_range 3 (tried 1 false false 4 0)
      ∷ gateway_range 3 (tried 1 true true 1 0)
      ∷ gateway_range 3 (tried 1 false false 0 0)
      ∷ gateway_range 3 (tried 0 true false 0 0)
      ∷ gateway_range 3 (tried 0 false true 0 0)
      ∷ gateway_range 3 (tried 0 false false 0 1)
      ∷ []
      ≡ no 6
  -- requests: a first, a client's cancel and replace, a gateway's cancel
  requests_in : request_range (request 0 0 C [] X)
      ∷ request_range (request 1 1 D C (X_ 1))
      ∷ request_range (request 2 1 (letters 32) (letters 32) (X_ 1))
      ∷ request_range (request 3 0 [] [] (X_ 1))
      ∷ []
      ≡ yes 4
  requests_out : request_range (request 4 0 D C (X_ 1))
      ∷ request_range (marked 2 2 first)
      ∷ request_range (request 0 0 [] [] X)
      ∷ request_range (request 0 0 C D X)
      ∷ request_range (request 1 0 [] C (X_ 1))
      ∷ request_range (request 1 0 D [] (X_ 1))
      ∷ request_range (request 2 0 [] C (X_ 1))
      ∷ request_range (request 2 0 D [] (X_ 1))
      ∷ request_range (request 3 0 D [] (X_ 1))
      ∷ request_range (request 3 0 [] C (X_ 1))
      ∷ []
      ≡ no 10

ranges : Ranges
unfolding called
ranges = record {
  names = refl;
  not_names = refl;
  not_ended = refl;
  forces = refl;
  not_forces = refl;
  prices = refl;
  not_prices = refl;
  terms_in = refl;
  terms_out = refl;
  pending_in = refl;
  pending_out = refl;
  gateway_in = refl;
  gateway_out = refl;
  requests_in = refl;
  requests_out = refl;
}

-- ---- rules

abbrev any : Request → Bool
any q = true

abbrev none : Request → Bool
none q = false

-- order X, with pending terms and a gateway cancel or without
abbrev order_of : (status cum : ℕ) → Pending → GatewayCancel → Order
order_of status cum p g = order_x (state status cum 0 1) (links 1 1 2) p g

abbrev live : GatewayCancel → Order
live g = order_of 48 0 no_pending g

abbrev gateway_asks : (outcome : ℕ) → Request
gateway_asks outcome = request 3 outcome [] [] (X_ 1)

-- two orders of a client, or of two, each with one request under that ClOrdID
abbrev twice : (client : ℕ) (clordid : List ℕ) → Book
twice client clordid = record {
  setting = 10000;
  orders = standing 48 0 0 1
      ∷ record {
        client = client;
        venue = 3;
        names = named W C W W [];
        terms = terms 100;
        state = state 48 0 0 1;
        links = links 0 2 0;
        pending = no_pending;
        gateway = no_gateway;
      }
      ∷ [];
  requests = request 0 0 clordid [] X ∷ record { order = 1; kind = 0; answered = 0; clordid = text_of clordid; origclordid = no_text; downstream = text_of W; outcome = 0 } ∷ [];
}

record Tests : Type 0 where
  -- a link names a request that is there, is the order's own, and passes
  is_linked : linked any 0 1 (first ∷ []) ≡ true
  not_linked : linked any 0 0 (first ∷ []) ∷ linked any 0 2 (first ∷ []) ∷ linked any 1 1 (first ∷ []) ∷ linked none 0 1 (first ∷ []) ∷ [] ≡ no 4
  -- the current request is a first or a replace, of that downstream ClOrdID
  current : current_test (text_of X) first ∷ current_test (text_of (X_ 1)) (request 2 0 D C (X_ 1)) ∷ [] ≡ yes 2
  not_current : current_test (text_of (X_ 1)) (request 1 0 D C (X_ 1)) ∷ current_test (text_of (X_ 1)) (gateway_asks 0) ∷ current_test (text_of W) first ∷ [] ≡ no 3
  -- the pending one is a replace that is not answered
  pending : pending_test (request 2 0 D C (X_ 1)) ≡ true
  not_pending : pending_test (request 2 1 D C (X_ 1)) ∷ pending_test (request 1 0 D C (X_ 1)) ∷ pending_test first ∷ [] ≡ no 3
  -- filled at most what is ordered; above 0 neither PendingNew nor New
  filled : filled_rule (standing 49 100 0 1) ≡ true
  overfilled : filled_rule (standing 49 101 0 1) ≡ false
  status : status_rule 0 65 ∷ status_rule 0 48 ∷ status_rule 1 49 ∷ status_rule 1 54 ∷ [] ≡ yes 4
  not_status : status_rule 1 65 ∷ status_rule 1 48 ∷ [] ≡ no 2
  -- nothing waits on a done order
  done : done_rule (order_of 52 0 no_pending no_gateway) ∷ done_rule (order_of 48 0 (waiting 2 1 1 50 0) (cancelling 1 false)) ∷ [] ≡ yes 2
  not_done : done_rule (order_of 52 0 (waiting 2 1 1 50 0) no_gateway) ∷ done_rule (order_of 52 0 no_pending (cancelling 1 false)) ∷ [] ≡ no 2
  -- tries: 3 at most, and 2 if the last is unsent
  tries : tries_rule (tried 3 false false 1 9) ∷ tries_rule (tried 2 true false 1 9) ∷ [] ≡ yes 2
  not_tries : tries_rule (tried 4 false false 1 0) ∷ tries_rule (tried 3 true false 1 0) ∷ [] ≡ no 2
  -- a request's number: 0 is the first's
  numbered : number_rule (text_of X) 0 first ∷ number_rule (text_of X) 1 (gateway_asks 0) ∷ [] ≡ yes 2
  not_numbered : number_rule (text_of X) 1 first
      ∷ number_rule (text_of X) 0 (gateway_asks 0)
      ∷ number_rule (text_of X) 2 (gateway_asks 0)
      ∷ number_rule (text_of X) 0 (request 1 0 D C X)
      ∷ number_rule (text_of X) 1 (request 0 0 C [] (X_ 1))
      ∷ []
      ≡ no 5
  -- what came of a request: 0 exactly if it is unanswered, and 3 at most
  outcomes : outcome_rule (marked 0 0 first) ∷ outcome_rule (marked 1 1 first) ∷ outcome_rule (marked 1 2 first) ∷ outcome_rule (marked 1 3 first) ∷ [] ≡ yes 4
  not_outcomes : outcome_rule (marked 0 1 first) ∷ outcome_rule (marked 0 4 first) ∷ outcome_rule (marked 1 0 first) ∷ outcome_rule (marked 1 4 first) ∷ [] ≡ no 4
  -- an unanswered gateway cancel of a live order is its latest cancel, tried, sent and not stuck; any other request is free
  in_flight : in_flight_rule 2 (gateway_asks 0) (live (cancelling 1 false))
      ∷ in_flight_rule 3 (gateway_asks 1) (live (tried 1 true false 1 0))
      ∷ in_flight_rule 3 (gateway_asks 0) (order_of 52 0 no_pending no_gateway)
      ∷ in_flight_rule 3 (request 1 0 D C (X_ 1)) (live no_gateway)
      ∷ []
      ≡ yes 4
  not_in_flight : in_flight_rule 3 (gateway_asks 0) (live (cancelling 1 false))
      ∷ in_flight_rule 1 (gateway_asks 0) (live (cancelling 1 false))
      ∷ in_flight_rule 2 (gateway_asks 0) (live (cancelling 0 false))
      ∷ in_flight_rule 2 (gateway_asks 0) (live (cancelling 1 true))
      ∷ in_flight_rule 2 (gateway_asks 0) (live (tried 1 true false 1 0))
      ∷ []
      ≡ no 5
  -- one ClOrdID twice with a client; not with two, nor none twice
  same : same_key (twice 7 C) 1 0 ≡ true
  not_same : same_key (twice 8 C) 1 0 ∷ same_key (twice 7 []) 1 0 ∷ [] ≡ no 2

tests : Tests
unfolding called
tests = record {
  is_linked = refl;
  not_linked = refl;
  current = refl;
  not_current = refl;
  pending = refl;
  not_pending = refl;
  filled = refl;
  overfilled = refl;
  status = refl;
  not_status = refl;
  done = refl;
  not_done = refl;
  tries = refl;
  not_tries = refl;
  numbered = refl;
  not_numbered = refl;
  outcomes = refl;
  not_outcomes = refl;
  in_flight = refl;
  not_in_flight = refl;
  same = refl;
  not_same = refl;
}

-- ---- changes: one part anew, and the others as they were

abbrev changed : Order → Requests → Output → Change
changed o qs out = record { refusal = 1; place = 2; order = o; requests = qs; output = out }

abbrev answers : (answered superseded outcome added : ℕ) → Request → Requests
answers answered superseded outcome added q = record { answered = answered; superseded = superseded; outcome = outcome; added = added; request = q }

abbrev puts : (count : ℕ) → (one two : Message) → (alarm alarm2 : ℕ) → Output
puts count one two alarm alarm2 = record { count = count; first = one; second = two; alarm = alarm; alarm2 = alarm2 }

abbrev o : Order
o = standing 48 0 0 1

abbrev p : Order
p = standing 49 40 0 2

-- three messages that differ
abbrev m : ℕ → Message
m n = reported o n 0 0 0 0

abbrev q : Request
q = gateway_asks 0

record Changed : Type 0 where
  order : with_order p (changed o (answers 3 4 5 0 first) (puts 1 (m 1) (m 2) 5 6)) ≡ changed p (answers 3 4 5 0 first) (puts 1 (m 1) (m 2) 5 6)
  answer : answering 9 8 (changed o (answers 3 4 5 1 first) (puts 1 (m 1) (m 2) 5 6)) ≡ changed o (answers 9 4 8 1 first) (puts 1 (m 1) (m 2) 5 6)
  supersede : superseding 9 (changed o (answers 3 4 5 1 first) (puts 1 (m 1) (m 2) 5 6)) ≡ changed o (answers 3 9 5 1 first) (puts 1 (m 1) (m 2) 5 6)
  add : adding q (changed o (answers 3 4 5 0 first) (puts 1 (m 1) (m 2) 5 6)) ≡ changed o (answers 3 4 5 1 q) (puts 1 (m 1) (m 2) 5 6)
  -- a message and an alarm go behind the one that is there
  tell : telling (m 3) (changed o (answers 3 4 5 0 first) (puts 0 (m 1) (m 2) 5 6)) ≡ changed o (answers 3 4 5 0 first) (puts 1 (m 3) (m 2) 5 6)
  tell_second : telling (m 3) (changed o (answers 3 4 5 0 first) (puts 1 (m 1) (m 2) 5 6)) ≡ changed o (answers 3 4 5 0 first) (puts 2 (m 1) (m 3) 5 6)
  alarm : alarming 9 (changed o (answers 3 4 5 0 first) (puts 1 (m 1) (m 2) 0 6)) ≡ changed o (answers 3 4 5 0 first) (puts 1 (m 1) (m 2) 9 6)
  alarm_second : alarming 9 (changed o (answers 3 4 5 0 first) (puts 1 (m 1) (m 2) 5 0)) ≡ changed o (answers 3 4 5 0 first) (puts 1 (m 1) (m 2) 5 9)

changes : Changed
unfolding called
changes = record {
  order = refl;
  answer = refl;
  supersede = refl;
  add = refl;
  tell = refl;
  tell_second = refl;
  alarm = refl;
  alarm_second = refl;
}

-- ---- what stands for none, and the tops

abbrev no_long : LongText
no_long = record { bytes = replicate 64 0; len = 0 }

abbrev blank : Text
blank = record { bytes = replicate 32 0; len = 0 }

-- so many requests, and no cancel
abbrev finds : (requests : ℕ) → Findings
finds requests = record { place = 1; requests = requests; cancel = no_request }

abbrev amended : (amendments : ℕ) → Order
amended amendments = order_x (state 48 0 0 1) (links amendments 1 0) no_pending (tried 255 false false 1 4294967295)

record Ends : Type 0 where
  message : no_message
      ≡ record {
        kind = 0;
        map = 0;
        client = 0;
        venue = 0;
        reason = 0;
        verdict = 0;
        ids = record { name = blank; clordid = blank; origclordid = blank; downstream = blank; symbol = blank; venueorderid = blank; origdownstream = blank };
        terms = termed 0 0 0 0 0;
        exec = record { exectype = 0; status = 0; lastqty = 0; lastpx = 0; cumqty = 0; avgpx = 0 };
        told = record { leavesqty = 0; execseq = 0; fillprice = 0 ∷ 0 ∷ []; fixedtext = 0; origin = 0; responseto = 0; source = 0 };
        text = no_long;
      }
  price : no_price ≡ record { price = 0 ∷ 0 ∷ []; source = 0 }
  note : no_note ≡ record { text = no_long; fixedtext = 0; reason = 0; origin = 0 }
  requests : no_requests ≡ answers 0 0 0 0 no_request
  -- an order without a cancel has no latest one
  no_cancel : latest_cancel (twice 7 C) (standing 48 0 0 1) ≡ no_request
  cancel : latest_cancel (twice 7 C) (order_x (state 48 0 0 1) (links 1 1 1) no_pending no_gateway) ≡ first
  -- counts that are at the top of their fields stay there
  link : next_link (finds 65534) ∷ next_link (finds 65535) ∷ [] ≡ 65535 ∷ 65535 ∷ []
  number : next_number (amended 65534) ∷ next_number (amended 65535) ∷ [] ≡ 65535 ∷ 65535 ∷ []
  tries : (try_sent (amended 0)).tries ≡ 255
  refusals : (send_refused (tried 2 false false 1 4294967294)).refusedsends ∷ (send_refused (tried 2 false false 1 4294967295)).refusedsends ∷ [] ≡ 4294967295 ∷ 4294967295 ∷ []
  verdicts : verdict_text 1 ∷ verdict_text 243 ∷ verdict_text 244 ∷ verdict_text 245 ∷ [] ≡ 12 ∷ 254 ∷ 255 ∷ 255 ∷ []
  -- the smallest LastPx tells the price
  last_px : fill_price 5 1 5 9 0 0 5 ≡ record { price = 1 ∷ 0 ∷ []; source = 1 }
  -- and so does one without a rise, whatever the LastQty; with a rise of 1 the LastQty has to be that
  no_rise : fill_price 5 7 9 8 9 8 0 ≡ record { price = 7 ∷ 0 ∷ []; source = 1 }
  rise_1 : fill_price 5 7 10 8 9 8 1 ≡ record { price = 8 ∷ 0 ∷ []; source = 2 }
  -- two words, the low one first
  wide : words (5 + 3 * 2 ^ 64) ≡ 5 ∷ 3 ∷ []
  back : value (5 ∷ 3 ∷ []) ≡ 5 + 3 * 2 ^ 64

ends : Ends
unfolding called
ends = record {
  message = refl;
  price = refl;
  note = refl;
  requests = refl;
  no_cancel = refl;
  cancel = refl;
  link = refl;
  number = refl;
  tries = refl;
  refusals = refl;
  verdicts = refl;
  last_px = refl;
  no_rise = refl;
  rise_1 = refl;
  wide = refl;
  back = refl;
}
