-- One event on a small book that is spelled out, beside all that comes of it: messages, alarm and the whole book. Near and wrong definitions that no list of
-- events in the other files tells from the right ones. Rests on Play.
-- The books keep their rules, and some are reached by no list: an entry takes any book that keeps them. Question 1 is not asked here.
use Rattle.std.specs.Prelude.{ℕ, ◌≡◌, refl, true, false, List, [], ◌∷◌, map, replicate}
use Rattle.prelude.specs.Texts.{text_of}
use Rattle.bits.specs.Map.{map_of}
use Rattle.records.specs.Record.{event_in}
use Rattle.store.specs.declared.GatewayCancel.{GatewayCancel}
use Rattle.store.specs.declared.Order.{Order}
use Rattle.store.specs.declared.Pending.{Pending}
use Rattle.store.specs.declared.Request.{Request}
use Rattle.store.specs.Book.{Book}
use Rattle.store.specs.Orders.{no_pending, no_gateway}
use Rattle.text.specs.Stored.{no_text}
use Rattle.machine.specs.Changes.{Message}
use Rattle.machine.specs.Machine.{step_of}
use Rattle.facts.specs.Play.{Field, number, spelled, mark, bytes, shares, money, X, X_, C, D, E, W, cancel_of, replace_of, report_of, fills, turns, unknown_to_venue, reject_of, rejects, send_fails, sends_again, gateway_cancels, called, Line, line_of, terms, state, links, order_x, standing, cancelling, request, first, reported, refused, to_venue'}

-- ---- the words of the tables

abbrev comes : Book → (event : List ℕ) → Line
comes b event = line_of b (step_of b (event_in event))

-- what came of each request then
abbrev came : Book → (event : List ℕ) → List ℕ
came b event = map (λ q. q.outcome) (comes b event).book.requests

-- order X and its requests
abbrev book_x : Order → List Request → Book
book_x o qs = record { setting = 10000; orders = o ∷ []; requests = qs }

abbrev line : List Message → (alarm : ℕ) → Book → Line
line messages alarm b = record { refusal = 0; messages = messages; alarm = alarm; alarm2 = 0; book = b }

-- nothing comes of it
abbrev silent : Book → Line
silent b = line [] 0 b

-- booked, New, and Canceled
abbrev booked : Book
booked = book_x (standing 65 0 0 0) (first ∷ [])

abbrev live : Book
live = book_x (standing 48 0 0 1) (first ∷ [])

abbrev done : Book
done = book_x (standing 52 0 0 2) (first ∷ [])

-- a venue that is not the order's: its report, its unknown at venue, its failed send, its send again
abbrev at_venue4 : (kind : ℕ) → List Field → List ℕ
at_venue4 kind more = bytes kind (number 1 2 4 ∷ spelled 5 X ∷ more)

-- a replace is out, at that status, with its terms waiting or not; and what came of it
abbrev hundred : Pending
hundred = record { request = 2; qty = shares 100; price = money 10; ordtype = 50; timeinforce = 0 }

abbrev replacing : (status cum : ℕ) → Pending → (outcome : ℕ) → Book
replacing status cum p outcome = book_x (order_x (state status cum 0 1) (links 1 1 0) p no_gateway) (first ∷ request 2 outcome D C (X_ 1) ∷ [])

-- a name that no order and no request has
abbrev Z : List ℕ
Z = 90 ∷ []

-- ---- what is not the order's, and sends

-- the first send failed, with the text N: Rejected, for a reason of ours
abbrev not_sent : Message
not_sent = record {
  kind = 16;
  map = map_of (0 ∷ 2 ∷ 3 ∷ 6 ∷ 7 ∷ 8 ∷ 9 ∷ 10 ∷ 12 ∷ 13 ∷ 14 ∷ 16 ∷ 17 ∷ 19 ∷ 20 ∷ 24 ∷ 25 ∷ 26 ∷ 28 ∷ 31 ∷ []);
  client = 7;
  venue = 0;
  reason = 99;
  verdict = 0;
  ids = record { name = text_of X; clordid = text_of C; origclordid = no_text; downstream = no_text; symbol = text_of W; venueorderid = no_text; origdownstream = no_text };
  terms = terms 100;
  exec = record { exectype = 56; status = 56; lastqty = 0; lastpx = 0; cumqty = 0; avgpx = 0 };
  told = record { leavesqty = 0; execseq = 1; fillprice = 0 ∷ 0 ∷ []; fixedtext = 0; origin = 1; responseto = 0; source = 0 };
  text = record { bytes = 78 ∷ replicate 63 0; len = 1 };
}

-- a gateway cancel in flight, the second; and as a failed send leaves it: one try less, unsent, and one more refused send
abbrev second : (outcome : ℕ) → List Request
second outcome = first ∷ request 3 2 [] [] (X_ 1) ∷ request 3 outcome [] [] (X_ 2) ∷ []

abbrev waits : (tries refusedsends : ℕ) → GatewayCancel
waits tries refusedsends = record { tries = tries; unsent = true; stuck = false; origdownstream = 1; refusedsends = refusedsends }

abbrev trying : GatewayCancel → (outcome : ℕ) → Book
trying g outcome = book_x (order_x (state 48 0 0 1) (links 2 1 3) no_pending g) (second outcome)

-- the gateway's cancel of a done order is out
abbrev done_cancel : (outcome : ℕ) → Book
done_cancel outcome = book_x (order_x (state 52 0 0 2) (links 1 1 2) no_pending no_gateway) (first ∷ request 3 outcome [] [] (X_ 1) ∷ [])

-- the client's cancel is out
abbrev cancel_out : GatewayCancel → Book
cancel_out g = book_x (order_x (state 48 0 0 1) (links 1 1 2) no_pending g) (first ∷ request 1 0 D C (X_ 1) ∷ [])

-- two cancels of the gateway are out, of an order that is done
abbrev both_out : (outcome : ℕ) → Book
both_out outcome = book_x (order_x (state 52 0 0 2) (links 2 1 3) no_pending no_gateway) (first ∷ request 3 outcome [] [] (X_ 1) ∷ request 3 0 [] [] (X_ 2) ∷ [])

record Sends : Type 0 where
  -- the first send fails while it is PendingNew, and of its own venue alone
  fails : comes booked (send_fails X) ≡ line (not_sent ∷ []) 0 (book_x (standing 56 0 0 1) (request 0 3 C [] X ∷ []))
  fails_late : comes (replacing 48 0 hundred 0) (send_fails X) ≡ silent (replacing 48 0 hundred 0)
  fails_elsewhere : comes (replacing 65 0 hundred 0) (at_venue4 7 (spelled 20 (78 ∷ []) ∷ [])) ≡ silent (replacing 65 0 hundred 0)
  -- it is sent again while it is PendingNew, and of its own venue alone
  again_late : comes (replacing 48 0 hundred 0) (sends_again X) ≡ silent (replacing 48 0 hundred 0)
  again_elsewhere : comes (replacing 65 0 hundred 0) (at_venue4 8 []) ≡ silent (replacing 65 0 hundred 0)
  -- the gateway's second try is not sent: one try is left
  try : comes (trying (cancelling 2 false) 0) (send_fails (X_ 2)) ≡ silent (trying (waits 1 1) 3)
  -- told twice it counts once
  try_twice : comes (trying (waits 1 1) 3) (send_fails (X_ 2)) ≡ silent (trying (waits 1 1) 3)
  -- of a done order it is answered, and the order has no gateway cancel
  try_done : comes (done_cancel 0) (send_fails (X_ 1)) ≡ silent (done_cancel 3)
  -- sent again it is refused; and so is the earlier of two by the venue
  again_done : comes (done_cancel 0) (sends_again (X_ 1)) ≡ silent (done_cancel 2)
  earlier : comes (both_out 0) (rejects (X_ 1) 1) ≡ silent (both_out 2)
  -- the gateway's cancel is asked for: of a done order, while one is in flight, and behind the client's, for which it waits
  asked_done : comes (done_cancel 1) gateway_cancels ≡ silent (done_cancel 1)
  asked_twice : comes (trying (cancelling 2 false) 0) gateway_cancels ≡ silent (trying (cancelling 2 false) 0)
  asked_behind : comes (cancel_out no_gateway) gateway_cancels ≡ silent (cancel_out (waits 0 0))

sends : Sends
unfolding called
sends = record {
  fails = refl;
  fails_late = refl;
  fails_elsewhere = refl;
  again_late = refl;
  again_elsewhere = refl;
  try = refl;
  try_twice = refl;
  try_done = refl;
  again_done = refl;
  earlier = refl;
  asked_done = refl;
  asked_twice = refl;
  asked_behind = refl;
}

-- ---- what the book does not know, and what the venue does not

-- a replace was accepted: X is superseded
abbrev superseded : (status : ℕ) → Book
superseded status = book_x
    (record {
      client = 7;
      venue = 3;
      names = record { name = text_of X; clordid = text_of D; downstream = text_of (X_ 1); symbol = text_of W; venueorderid = no_text };
      terms = terms 100;
      state = state status 0 0 2;
      links = links 1 2 0;
      pending = no_pending;
      gateway = no_gateway;
    })
    (request 0 1 C [] X ∷ request 2 1 D C (X_ 1) ∷ [])

record Unknown : Type 0 where
  -- a request that the book does not know: alarm 3 of a report, a status request's answer and a reject, and nothing of the others
  report : comes live (turns Z 48 48) ≡ line [] 3 live
  at_venue : comes live (unknown_to_venue Z) ≡ line [] 3 live
  reject : comes live (rejects Z 1) ≡ line [] 3 live
  failed : comes live (send_fails Z) ≡ silent live
  again : comes live (sends_again Z) ≡ silent live
  name : comes live (bytes 9 (spelled 2 Z ∷ [])) ≡ silent live
  -- the venue does not know a live order: alarm 4, of its own venue and under its current ClOrdID alone
  live_order : comes (superseded 48) (unknown_to_venue (X_ 1)) ≡ line [] 4 (superseded 48)
  done_order : comes (superseded 52) (unknown_to_venue (X_ 1)) ≡ silent (superseded 52)
  another_venue : comes (replacing 48 0 hundred 0) (at_venue4 5 []) ≡ silent (replacing 48 0 hundred 0)
  old_name : comes (superseded 48) (unknown_to_venue X) ≡ silent (superseded 48)
  -- a status report says so by Rejected and reason 5; without a reason, and as another ExecType, it is a rejection
  by_reason : comes live (report_of X 73 56 0 0 0 0 (number 19 4 5 ∷ [])) ≡ line [] 4 live
  no_reason : comes live (report_of X 73 56 0 0 0 0 []) ≡ line (reported (standing 56 0 0 2) 73 0 0 0 3 ∷ []) 0 (book_x (standing 56 0 0 2) (first ∷ []))
  -- and a reason without Rejected says nothing
  not_rejected : comes live (report_of X 73 49 0 0 0 0 (number 19 4 5 ∷ []))
      ≡ line (reported (standing 49 0 0 2) 73 0 100 0 3 ∷ []) 0 (book_x (standing 49 0 0 2) (first ∷ []))

unknown : Unknown
unfolding called
unknown = record {
  report = refl;
  at_venue = refl;
  reject = refl;
  failed = refl;
  again = refl;
  name = refl;
  live_order = refl;
  done_order = refl;
  another_venue = refl;
  old_name = refl;
  by_reason = refl;
  no_reason = refl;
  not_rejected = refl;
}

-- ---- requests

-- X, and Z that the same client booked under the ClOrdID Z
abbrev two : Book
two = record {
  setting = 10000;
  orders = standing 48 0 0 1
      ∷ record {
        client = 7;
        venue = 3;
        names = record { name = text_of Z; clordid = text_of Z; downstream = text_of Z; symbol = text_of W; venueorderid = no_text };
        terms = terms 100;
        state = state 48 0 0 1;
        links = links 0 2 0;
        pending = no_pending;
        gateway = no_gateway;
      }
      ∷ [];
  requests = first ∷ record { order = 1; kind = 0; answered = 0; clordid = text_of Z; origclordid = no_text; downstream = text_of Z; outcome = 0 } ∷ [];
}

-- a refusal of ours under another ClOrdID than D, or of no order: the name is there if there is an order
abbrev refuses : (bits name clordid origclordid : List ℕ) (status responseto reason text : ℕ) → Message
refuses bits name clordid origclordid status responseto reason text = record {
  kind = 17;
  map = map_of (0 ∷ 3 ∷ 4 ∷ 13 ∷ 19 ∷ 27 ∷ 28 ∷ 29 ∷ bits);
  client = 7;
  venue = 0;
  reason = reason;
  verdict = 0;
  ids = record { name = text_of name; clordid = text_of clordid; origclordid = text_of origclordid; downstream = no_text; symbol = no_text; venueorderid = no_text; origdownstream = no_text };
  terms = record { side = 0; ordtype = 0; timeinforce = 0; qty = 0; price = 0 };
  exec = record { exectype = 0; status = status; lastqty = 0; lastpx = 0; cumqty = 0; avgpx = 0 };
  told = record { leavesqty = 0; execseq = 0; fillprice = 0 ∷ 0 ∷ []; fixedtext = text; origin = 1; responseto = responseto; source = 0 };
  text = record { bytes = replicate 64 0; len = 0 };
}

-- with time in force 1 and verdict 3
abbrev replaces_at : (price qty : ℕ) → List ℕ
replaces_at price qty =
    bytes 3
    (number 0 2 7 ∷ spelled 3 D ∷ spelled 4 C ∷ spelled 6 W ∷ number 7 1 49 ∷ number 9 8 (shares qty) ∷ number 10 8 (money price) ∷ number 11 1 49 ∷ number 23 1 3 ∷ [])

-- New, a limit at 0
abbrev free_order : Order
free_order = record {
  client = 7;
  venue = 3;
  names = record { name = text_of X; clordid = text_of C; downstream = text_of X; symbol = text_of W; venueorderid = no_text };
  terms = record { side = 49; ordtype = 50; timeinforce = 0; qty = shares 100; price = 0 };
  state = state 48 0 0 1;
  links = links 0 1 0;
  pending = no_pending;
  gateway = no_gateway;
}

record Requests : Type 0 where
  -- redelivered, it counts as taken if its ClOrdID was used for this very order: not for another, nor for none
  of_another : comes two (cancel_of Z W 49 (mark 21 ∷ [])) ≡ line (refuses (2 ∷ []) X Z C 48 1 6 5 ∷ []) 0 two
  of_none : comes live (bytes 2 (number 0 2 7 ∷ spelled 3 D ∷ spelled 4 E ∷ spelled 6 W ∷ number 7 1 49 ∷ mark 21 ∷ []))
      ≡ line (refuses [] [] D E 56 1 1 6 ∷ []) 0 live
  of_earlier : comes two (bytes 2 (number 0 2 7 ∷ spelled 3 C ∷ spelled 4 Z ∷ spelled 6 W ∷ number 7 1 49 ∷ mark 21 ∷ []))
      ≡ line (refuses (2 ∷ []) Z C Z 48 1 6 5 ∷ []) 0 two
  -- not redelivered it is a duplicate
  duplicate : comes live (cancel_of C W 49 []) ≡ line (refuses (2 ∷ []) X C C 48 1 6 5 ∷ []) 0 live
  -- a block refuses a rise alone
  blocked_same : comes live (replace_of D 100 (mark 22 ∷ []) 0) ≡ line (to_venue' 20 (X_ 1) 100 ∷ []) 0 (replacing 48 0 hundred 0)
  -- a refused replace takes PendingReplace back to New, above a cumulative of 0 to PartiallyFilled
  back_to_new : comes (replacing 69 0 hundred 0) (reject_of (X_ 1) []) ≡ line (refused 48 2 99 10 ∷ []) 0 (replacing 48 0 no_pending 2)
  back_to_partial : comes (replacing 69 40 hundred 0) (reject_of (X_ 1) []) ≡ line (refused 49 2 99 10 ∷ []) 0 (replacing 49 40 no_pending 2)
  -- and another status stays
  stays : comes (replacing 65 0 hundred 0) (reject_of (X_ 1) []) ≡ line (refused 65 2 99 10 ∷ []) 0 (replacing 65 0 no_pending 2)
  -- a reject of another venue, of a request that was answered, and of the order itself
  elsewhere : comes (cancel_out no_gateway) (bytes 6 (number 1 2 4 ∷ spelled 5 (X_ 1) ∷ [])) ≡ silent (cancel_out no_gateway)
  answered : comes (superseded 48) (rejects (X_ 1) 1) ≡ silent (superseded 48)
  of_order : comes (cancel_out no_gateway) (rejects X 1) ≡ silent (cancel_out no_gateway)
  -- a verdict is passed over if the price is the same and the quantity does not go up; a time in force counts for nothing
  at_10 : (step_of live (event_in (replaces_at 10 100))).requests.added ≡ 1
  at_10_less : (step_of live (event_in (replaces_at 10 99))).requests.added ≡ 1
  at_11 : comes live (replaces_at 11 100) ≡ line (refused 48 2 99 14 ∷ []) 0 live
  at_9 : comes live (replaces_at 9 99) ≡ line (refused 48 2 99 14 ∷ []) 0 live
  more : comes live (replaces_at 10 101) ≡ line (refused 48 2 99 14 ∷ []) 0 live
  -- a limit at 0 and no price are not the same: the verdict is asked for
  no_price : comes (book_x free_order (first ∷ [])) (bytes 3 (number 0 2 7 ∷ spelled 3 D ∷ spelled 4 C ∷ spelled 6 W ∷ number 7 1 49 ∷ number 9 8 (shares 100) ∷ number 23 1 3 ∷ []))
      ≡ line (refused 48 2 99 14 ∷ []) 0 (book_x free_order (first ∷ []))
  -- a replace whose terms no longer wait is not sent again
  not_waiting : comes (replacing 48 0 no_pending 0) (sends_again (X_ 1)) ≡ line (refused 48 2 99 11 ∷ []) 0 (replacing 48 0 no_pending 2)

requests : Requests
unfolding called
requests = record {
  of_another = refl;
  of_none = refl;
  of_earlier = refl;
  duplicate = refl;
  blocked_same = refl;
  back_to_new = refl;
  back_to_partial = refl;
  stays = refl;
  elsewhere = refl;
  answered = refl;
  of_order = refl;
  at_10 = refl;
  at_10_less = refl;
  at_11 = refl;
  at_9 = refl;
  more = refl;
  no_price = refl;
  not_waiting = refl;
}

-- ---- reports

abbrev N : List ℕ
N = 78 ∷ 79 ∷ 78 ∷ 69 ∷ []

-- New, with that OrderID of the venue's
abbrev known : (status sequence : ℕ) (venueorderid : List ℕ) → Order
known status sequence venueorderid = record {
  client = 7;
  venue = 3;
  names = record { name = text_of X; clordid = text_of C; downstream = text_of X; symbol = text_of W; venueorderid = text_of venueorderid };
  terms = terms 100;
  state = state status 0 0 sequence;
  links = links 0 1 0;
  pending = no_pending;
  gateway = no_gateway;
}

-- a report without a status
abbrev unsaid : (exectype last cum avg : ℕ) → List Field → List ℕ
unsaid exectype last cum avg more =
    bytes 4 (number 1 2 3 ∷ spelled 5 X ∷ number 12 1 exectype ∷ number 14 8 (shares last) ∷ number 15 8 avg ∷ number 16 8 (shares cum) ∷ number 17 8 avg ∷ more)

record Reports : Type 0 where
  -- PendingNew above a cumulative of 0 is PartiallyFilled; so is no status
  pending_new : comes booked (report_of X 70 65 40 (money 10) 40 (money 10) [])
      ≡ line (reported (standing 49 40 (money 10) 1) 70 40 60 (money 10) 1 ∷ []) 0 (book_x (standing 49 40 (money 10) 1) (first ∷ []))
  no_status : comes booked (unsaid 70 40 40 (money 10) [])
      ≡ line (reported (standing 49 40 (money 10) 1) 70 40 60 (money 10) 1 ∷ []) 0 (book_x (standing 49 40 (money 10) 1) (first ∷ []))
  -- ExecType 8 without a status rejects nothing, so that its reason is not told
  not_rejected : comes live (unsaid 56 0 0 0 (number 19 4 99 ∷ [])) ≡ line (reported (standing 48 0 0 2) 56 0 100 0 3 ∷ []) 0 (book_x (standing 48 0 0 2) (first ∷ []))
  -- what repeats the order may bring the venue's OrderID, the first and not NONE; it is not told
  brings : comes live (report_of X 48 48 0 0 0 0 (spelled 18 E ∷ [])) ≡ silent (book_x (known 48 1 E) (first ∷ []))
  brings_none : comes live (report_of X 48 48 0 0 0 0 (spelled 18 N ∷ [])) ≡ silent live
  brings_second : comes (book_x (known 48 1 E) (first ∷ [])) (report_of X 48 48 0 0 0 0 (spelled 18 D ∷ [])) ≡ silent (book_x (known 48 1 E) (first ∷ []))
  brings_pending : comes booked (report_of X 65 65 0 0 0 0 (spelled 18 E ∷ [])) ≡ silent (book_x (known 65 0 E) (first ∷ []))
  repeats : comes (superseded 48) (turns (X_ 1) 48 48) ≡ silent (superseded 48)
  -- another venue's, and an overfill, leave the book
  elsewhere : comes (replacing 48 0 hundred 0) (at_venue4 4 (number 12 1 52 ∷ number 13 1 52 ∷ number 14 8 0 ∷ number 15 8 0 ∷ number 16 8 0 ∷ number 17 8 0 ∷ []))
      ≡ silent (replacing 48 0 hundred 0)
  overfill : comes (replacing 48 0 hundred 0) (fills 101 101 (money 10) (money 10)) ≡ line [] 2 (replacing 48 0 hundred 0)
  -- and one that is stale does not
  stale : comes done (report_of X 48 48 0 0 0 0 (spelled 18 E ∷ [])) ≡ silent done
  -- nor does one that says of a done order what it is
  stale_repeat : comes done (report_of X 52 52 0 0 0 0 (spelled 18 E ∷ [])) ≡ silent done
  -- PendingReplace under a replace that was accepted is behind
  settled : comes (superseded 48) (turns (X_ 1) 69 69) ≡ silent (superseded 48)
  -- what a replace supersedes is accepted with it, unless something had come of it before: here its send had failed
  supersedes : came (replacing 48 0 hundred 0) (turns (X_ 1) 53 48) ≡ 1 ∷ 1 ∷ []
  superseded_failed : came (book_x (order_x (state 65 0 0 0) (links 1 1 0) hundred no_gateway) (request 0 3 C [] X ∷ request 2 0 D C (X_ 1) ∷ [])) (turns (X_ 1) 53 48) ≡ 3 ∷ 1 ∷ []
  -- an order at PendingReplace is not taken back by New under its own ClOrdID; under the replace's it is accepted
  held : comes (replacing 69 0 hundred 0) (turns X 48 48) ≡ silent (replacing 69 0 hundred 0)

reports : Reports
unfolding called
reports = record {
  pending_new = refl;
  no_status = refl;
  not_rejected = refl;
  brings = refl;
  brings_none = refl;
  brings_second = refl;
  brings_pending = refl;
  repeats = refl;
  elsewhere = refl;
  overfill = refl;
  stale = refl;
  stale_repeat = refl;
  settled = refl;
  supersedes = refl;
  superseded_failed = refl;
  held = refl;
}
