-- The questions again, of an order that differs from a new one in what they do not ask: it has a time in force, it was filled in part and its cancel was refused; and of
-- reports that bring a LastQty, a reason and a text. A question with a condition too many (of nothing filled, of no cancel, of a report without a reason) answers otherwise.
-- Rests on Play. Question 1 is not asked here.
use Rattle.std.specs.Prelude.{ℕ, zero, suc, ◌≡◌, refl, true, false, List, [], ◌∷◌, map}
use Rattle.prelude.specs.Texts.{text_of}
use Rattle.records.specs.Record.{event_in}
use Rattle.store.specs.declared.GatewayCancel.{GatewayCancel}
use Rattle.store.specs.declared.Pending.{Pending}
use Rattle.store.specs.declared.Request.{Request}
use Rattle.store.specs.Book.{Book, order_in}
use Rattle.store.specs.Orders.{no_pending, no_gateway}
use Rattle.text.specs.Stored.{no_text}
use Rattle.machine.specs.Changes.{Message}
use Rattle.machine.specs.History.{messages_of, left_by}
use Rattle.machine.specs.Machine.{step_of}
use Rattle.machine.specs.Messages.{no_message}
use Rattle.machine.specs.declared.Change.{Change}
use Rattle.facts.specs.Play.{Field, number, spelled, mark, bytes, shares, money, X, X_, C, D, E, W, cancel_of, cancels, replace_of, replaces, report_of, fills, unknown_to_venue, reject_of, rejects, send_fails, sends_again, gateway_cancels, called, empty, state, links, request, first}

-- ---- the order

abbrev F : List ℕ
F = 70 ∷ []

-- as Play's `books`, with time in force 1
abbrev books_timed : List ℕ
books_timed =
    bytes 1
    (number 0 2 7 ∷ number 1 2 3 ∷ spelled 2 X ∷ spelled 3 C ∷ spelled 6 W ∷ number 7 1 49 ∷ number 8 1 50 ∷ number 9 8 (shares 100) ∷ number 10 8 (money 10) ∷ number 11 1 49 ∷ [])

-- that status, so much filled and told so often, these links and its requests
abbrev timed : (setting status cum avg sequence amendments cancel : ℕ) → List Request → Book
timed setting status cum avg sequence amendments cancel qs = record {
  setting = setting;
  orders = record {
    client = 7;
    venue = 3;
    names = record { name = text_of X; clordid = text_of C; downstream = text_of X; symbol = text_of W; venueorderid = no_text };
    terms = record { side = 49; ordtype = 50; timeinforce = 49; qty = shares 100; price = money 10 };
    state = state status cum avg sequence;
    links = links amendments 1 cancel;
    pending = no_pending;
    gateway = no_gateway;
  }
      ∷ [];
  requests = qs;
}

-- filled to 40, and the cancel D refused
abbrev worn : (setting : ℕ) → Book
worn setting = timed setting 49 40 (money 10) 1 1 2 (first ∷ request 1 2 D C (X_ 1) ∷ [])

abbrev stepped_on : Book → List (List ℕ) → Book
stepped_on b [] = b
stepped_on b (s ∷ ss) = stepped_on (left_by b (step_of b (event_in s))) ss

reached : stepped_on (empty 10000) (books_timed ∷ fills 40 40 (money 10) (money 10) ∷ cancels D ∷ rejects (X_ 1) 99 ∷ []) ≡ worn 10000
unfolding called
reached = refl

-- ---- the words of the tables

abbrev first_of : List Message → Message
first_of [] = no_message
first_of (m ∷ ms) = m

abbrev kind_of : Message → ℕ
kind_of m = m.kind

abbrev answered_of : Request → ℕ
answered_of q = q.answered

-- the refusal; the kinds of the messages and the text number of the first; the alarm; the order's status, filled and ordered; and of each request whether it is answered
record Came : Type 0 where
  refusal : ℕ
  kinds : List ℕ
  text : ℕ
  alarm : ℕ
  status : ℕ
  cum : ℕ
  qty : ℕ
  answered : List ℕ

abbrev came_of : Change → Book → Came
came_of c b = record {
  refusal = c.refusal;
  kinds = map kind_of (messages_of c);
  text = (first_of (messages_of c)).told.fixedtext;
  alarm = c.output.alarm;
  status = (order_in b 0).state.status;
  cum = (order_in b 0).state.cumqty;
  qty = (order_in b 0).terms.qty;
  answered = map answered_of b.requests;
}

abbrev comes_on : Book → (event : List ℕ) → Came
comes_on b event = let c = step_of b (event_in event) in came_of c (left_by b c)

-- after these calls, of the worn order
abbrev after : List (List ℕ) → Book
after before = stepped_on (worn 10000) before

abbrev comes : List (List ℕ) → (event : List ℕ) → Came
comes before event = comes_on (after before) event

abbrev first_message : List (List ℕ) → (event : List ℕ) → Message
first_message before event = first_of (messages_of (step_of (after before) (event_in event)))

abbrev gateway_of : List (List ℕ) → GatewayCancel
gateway_of calls = (order_in (after calls) 0).gateway

abbrev pending_of : List (List ℕ) → Pending
pending_of calls = (order_in (after calls) 0).pending

-- as it should be: taken, with these messages, this text and this alarm; 100 are ordered and 40 filled
abbrev came : (kinds : List ℕ) (text alarm status : ℕ) (answered : List ℕ) → Came
came kinds text alarm status answered = record {
  refusal = 0;
  kinds = kinds;
  text = text;
  alarm = alarm;
  status = status;
  cum = shares 40;
  qty = shares 100;
  answered = answered;
}

-- the same, otherwise filled and ordered
abbrev filled : (kinds : List ℕ) (status cum qty : ℕ) (answered : List ℕ) → Came
filled kinds status cum qty answered = record {
  refusal = 0;
  kinds = kinds;
  text = 0;
  alarm = 0;
  status = status;
  cum = shares cum;
  qty = shares qty;
  answered = answered;
}

-- a refusal of ours by its text, and nothing at all
abbrev refused_by : (text status : ℕ) (answered : List ℕ) → Came
refused_by text status answered = came (17 ∷ []) text 0 status answered

abbrev silent : (status : ℕ) (answered : List ℕ) → Came
silent status answered = came [] 0 0 status answered

-- as the requests stand, and with one more
abbrev two : List ℕ
two = 0 ∷ 1 ∷ []

abbrev three : (answered : ℕ) → List ℕ
three answered = 0 ∷ 1 ∷ answered ∷ []

-- the order is Canceled, and PendingCancel under a request's name
abbrev canceled : List ℕ
canceled = report_of X 52 52 0 0 40 (money 10) []

abbrev pending_cancel : (downstream : List ℕ) → List ℕ
pending_cancel downstream = report_of downstream 54 54 0 0 40 (money 10) []

-- reason 99 and a text, of no use to the report
abbrev loud : List Field
loud = number 19 4 99 ∷ spelled 20 (84 ∷ []) ∷ []

-- ---- what refuses a request

record Requests : Type 0 where
  duplicate : comes [] (cancels D) ≡ refused_by 5 49 two
  done : comes (canceled ∷ []) (cancels E) ≡ refused_by 7 52 two
  many : comes_on (worn 2) (cancels E) ≡ refused_by 8 49 two
  symbol : comes [] (cancel_of E X 49 []) ≡ refused_by 9 49 two
  gateway : comes (gateway_cancels ∷ []) (cancels E) ≡ refused_by 1 49 (three 0)
  gateway_replace : comes (gateway_cancels ∷ []) (replaces E 150) ≡ refused_by 1 49 (three 0)
  pending : comes (replaces E 150 ∷ []) (replaces F 150) ≡ refused_by 2 49 (three 0)
  below : comes [] (replaces E 39) ≡ refused_by 3 49 two
  blocked : comes [] (replace_of E 150 (mark 22 ∷ []) 0) ≡ refused_by 4 49 two
  verdict : comes [] (replace_of E 150 [] 3) ≡ refused_by 14 49 two
  -- and what lets it go: no risk is added, or the verdict is 0
  less : comes [] (replace_of E 90 [] 3) ≡ came (20 ∷ []) 0 0 49 (three 0)
  passed : comes [] (replaces E 150) ≡ came (20 ∷ []) 0 0 49 (three 0)
  -- a limit without a price
  unpriced : (step_of (worn 10000) (event_in (bytes 3 (number 0 2 7 ∷ spelled 3 E ∷ spelled 4 C ∷ spelled 6 W ∷ number 7 1 49 ∷ number 9 8 (shares 100) ∷ number 23 1 0 ∷ [])))).refusal ≡ 6
  -- what was taken is told again
  redelivered : comes [] (cancel_of D W 49 (mark 21 ∷ [])) ≡ came (16 ∷ []) 0 0 49 two

requests : Requests
unfolding called
requests = record {
  duplicate = refl;
  done = refl;
  many = refl;
  symbol = refl;
  gateway = refl;
  gateway_replace = refl;
  pending = refl;
  below = refl;
  blocked = refl;
  verdict = refl;
  less = refl;
  passed = refl;
  unpriced = refl;
  redelivered = refl;
}

-- ---- refusals of the venue, and sends

-- at venue 4
abbrev elsewhere : (kind : ℕ) (downstream : List ℕ) → List Field → List ℕ
elsewhere kind downstream more = bytes kind (number 1 2 4 ∷ spelled 5 downstream ∷ more)

record Refused : Type 0 where
  -- without a status it ends PendingCancel, with one it sets that; of a done order it sets none, and a Filled raises nothing
  back : comes (cancels E ∷ pending_cancel (X_ 2) ∷ []) (rejects (X_ 2) 99) ≡ came (17 ∷ []) 10 0 49 (three 1)
  by_status : comes (cancels E ∷ []) (reject_of (X_ 2) (number 13 1 54 ∷ [])) ≡ came (17 ∷ []) 10 0 54 (three 1)
  done : comes (cancels E ∷ canceled ∷ []) (reject_of (X_ 2) (number 13 1 50 ∷ [])) ≡ came (17 ∷ []) 10 0 52 (three 1)
  -- a replace's terms wait no longer
  replace : pending_of (replaces E 150 ∷ rejects (X_ 2) 99 ∷ []) ≡ no_pending
  -- of the order itself, of another venue's, of a cancel that was refused before
  of_first : comes [] (rejects X 99) ≡ silent 49 two
  of_elsewhere : comes (cancels E ∷ []) (elsewhere 6 (X_ 2) []) ≡ silent 49 (three 0)
  again : comes [] (rejects (X_ 1) 99) ≡ silent 49 two
  -- the gateway's is tried again
  gateway : comes (gateway_cancels ∷ []) (rejects (X_ 2) 99) ≡ came (19 ∷ []) 0 0 49 (0 ∷ 1 ∷ 1 ∷ 0 ∷ [])

refused : Refused
unfolding called
refused = record { back = refl; by_status = refl; done = refl; replace = refl; of_first = refl; of_elsewhere = refl; again = refl; gateway = refl }

abbrev cancelling : (tries : ℕ) → (refusedsends : ℕ) → GatewayCancel
cancelling zero refusedsends = record { tries = 0; unsent = true; stuck = false; origdownstream = 1; refusedsends = refusedsends }
cancelling (suc n) refusedsends = record { tries = suc n; unsent = false; stuck = false; origdownstream = 1; refusedsends = refusedsends }

record Sends : Type 0 where
  -- a failed send: of the order, which is not PendingNew; of a cancel; of another venue's
  first_fails : comes [] (send_fails X) ≡ silent 49 two
  cancel_fails : comes (cancels E ∷ []) (send_fails (X_ 2)) ≡ came (17 ∷ []) 0 0 49 (three 1)
  elsewhere_fails : comes (cancels E ∷ []) (elsewhere 7 (X_ 2) (spelled 20 (78 ∷ []) ∷ [])) ≡ silent 49 (three 0)
  -- of the gateway's cancel: it waits; told twice it counts once; of a done order there is none
  gateway_fails : gateway_of (gateway_cancels ∷ send_fails (X_ 2) ∷ []) ≡ cancelling 0 1
  gateway_fails_twice : gateway_of (gateway_cancels ∷ send_fails (X_ 2) ∷ send_fails (X_ 2) ∷ []) ≡ cancelling 0 1
  gateway_fails_done : gateway_of (gateway_cancels ∷ canceled ∷ send_fails (X_ 2) ∷ []) ≡ no_gateway
  -- sent again: a cancel, a replace, and an order that is PendingNew
  cancel_again : comes (cancels E ∷ []) (sends_again (X_ 2)) ≡ came (19 ∷ []) 0 0 49 (three 0)
  replace_again : comes (replaces E 150 ∷ []) (sends_again (X_ 2)) ≡ came (20 ∷ []) 0 0 49 (three 0)
  first_again : comes_on (timed 10000 65 0 0 0 1 2 (first ∷ request 1 2 D C (X_ 1) ∷ [])) (sends_again X) ≡ filled (18 ∷ []) 65 0 100 two
  -- not sent again: an answered cancel, and a done order's
  answered_again : comes [] (sends_again (X_ 1)) ≡ silent 49 two
  done_again : comes (cancels E ∷ canceled ∷ []) (sends_again (X_ 2)) ≡ came (17 ∷ []) 11 0 52 (three 1)
  -- the gateway's cancel: of a done order, while one is in flight, behind the client's, and by itself
  asked_done : comes (canceled ∷ []) gateway_cancels ≡ silent 52 two
  asked_twice : comes (gateway_cancels ∷ []) gateway_cancels ≡ silent 49 (three 0)
  asked_behind : comes (cancels E ∷ []) gateway_cancels ≡ silent 49 (three 0)
  asked : comes [] gateway_cancels ≡ came (19 ∷ []) 0 0 49 (three 0)
  -- the end of the order ends it, and the terms that wait
  ended : gateway_of (replaces E 150 ∷ gateway_cancels ∷ canceled ∷ []) ≡ no_gateway
  ended_terms : pending_of (replaces E 150 ∷ gateway_cancels ∷ canceled ∷ []) ≡ no_pending

sends : Sends
unfolding called
sends = record {
  first_fails = refl;
  cancel_fails = refl;
  elsewhere_fails = refl;
  gateway_fails = refl;
  gateway_fails_twice = refl;
  gateway_fails_done = refl;
  cancel_again = refl;
  replace_again = refl;
  first_again = refl;
  answered_again = refl;
  done_again = refl;
  asked_done = refl;
  asked_twice = refl;
  asked_behind = refl;
  asked = refl;
  ended = refl;
  ended_terms = refl;
}

-- ---- reports, each with a reason and a text

-- the venue does not know the order: a status report with Rejected and reason 5, here with a LastQty and a text
abbrev unknown_by : (venue : ℕ) (downstream : List ℕ) → List ℕ
unknown_by venue downstream =
    bytes 4
    (number 1 2 venue ∷ spelled 5 downstream ∷ number 12 1 73 ∷ number 13 1 56 ∷ number 14 8 (shares 10) ∷ number 15 8 (money 10) ∷ number 16 8 0 ∷ number 17 8 0 ∷ number 19 4 5 ∷ spelled 20 (84 ∷ []) ∷ [])

-- a replace to 150 was accepted
abbrev accepts : List ℕ
accepts = report_of (X_ 2) 53 49 0 0 40 (money 10) []

-- a report without a status
abbrev unsaid : (last cum : ℕ) → List ℕ
unsaid last cum =
    bytes 4 (number 1 2 3 ∷ spelled 5 X ∷ number 12 1 70 ∷ number 14 8 (shares last) ∷ number 15 8 (money 10) ∷ number 16 8 (shares cum) ∷ number 17 8 (money 10) ∷ loud)

record Unknown : Type 0 where
  known : comes [] (unknown_by 3 X) ≡ came [] 0 4 49 two
  at_another : comes [] (unknown_by 4 X) ≡ silent 49 two
  done : comes (canceled ∷ []) (unknown_by 3 X) ≡ silent 52 two
  old_name : comes (replaces E 150 ∷ accepts ∷ []) (unknown_by 3 X) ≡ filled [] 49 40 150 (1 ∷ 1 ∷ 1 ∷ [])
  -- the same by an event 5, which has none of these
  plainly : comes [] (unknown_to_venue X) ≡ came [] 0 4 49 two
  plainly_done : comes (canceled ∷ []) (unknown_to_venue X) ≡ silent 52 two
  plainly_elsewhere : comes [] (elsewhere 5 X []) ≡ silent 49 two
  plainly_old : comes (replaces E 150 ∷ accepts ∷ []) (unknown_to_venue X) ≡ filled [] 49 40 150 (1 ∷ 1 ∷ 1 ∷ [])

unknown : Unknown
unfolding called
unknown = record {
  known = refl;
  at_another = refl;
  done = refl;
  old_name = refl;
  plainly = refl;
  plainly_done = refl;
  plainly_elsewhere = refl;
  plainly_old = refl;
}

record Reports : Type 0 where
  -- stale: below what is booked, at nothing, at it with a LastQty; and the same again
  below : comes [] (report_of X 70 49 10 (money 10) 30 (money 10) loud) ≡ silent 49 two
  at_nothing : comes [] (report_of X 48 48 0 0 0 0 loud) ≡ silent 49 two
  at_it : comes [] (report_of X 70 49 10 (money 10) 40 (money 10) loud) ≡ silent 49 two
  same : comes [] (report_of X 73 49 0 0 40 (money 10) loud) ≡ silent 49 two
  -- a fill on a done order, and one that fills too much
  on_done : comes (canceled ∷ []) (report_of X 70 49 10 (money 10) 50 (money 10) loud) ≡ came [] 0 5 52 two
  overfill : comes [] (report_of X 70 49 61 (money 10) 101 (money 10) loud) ≡ came [] 0 2 49 two
  -- another venue's
  at_another : comes [] (elsewhere 4 X (number 12 1 70 ∷ number 13 1 49 ∷ number 14 8 (shares 10) ∷ number 15 8 (money 10) ∷ number 16 8 (shares 50) ∷ number 17 8 (money 10) ∷ loud))
      ≡ silent 49 two
  -- PartiallyFilled does not take PendingCancel back, and no status leaves it
  behind : comes (pending_cancel X ∷ []) (report_of X 70 49 10 (money 10) 50 (money 10) loud) ≡ filled (16 ∷ []) 54 50 100 two
  unsaid_status : comes (pending_cancel X ∷ []) (unsaid 10 50) ≡ filled (16 ∷ []) 54 50 100 two
  -- a replace is accepted, with a fill that the old quantity would not hold
  accepted : comes (replaces E 150 ∷ []) (report_of (X_ 2) 70 49 80 (money 10) 120 (money 10) loud) ≡ filled (16 ∷ []) 49 120 150 (1 ∷ 1 ∷ 1 ∷ [])
  -- a cancel is answered by Canceled
  answered : comes (cancels E ∷ []) (report_of (X_ 2) 52 52 0 0 40 (money 10) loud) ≡ came (16 ∷ []) 0 0 52 (three 1)
  -- the ack of the gateway's cancel is not the client's
  ack : comes (gateway_cancels ∷ []) (report_of (X_ 2) 54 54 0 0 40 (money 10) loud) ≡ silent 54 (three 0)
  -- a rejection of a cancel is a refusal, which brings no fill and sets no Rejected; one of the order ends it
  refuses : comes (cancels E ∷ []) (report_of (X_ 2) 56 56 10 (money 10) 50 (money 10) loud) ≡ came (17 ∷ []) 0 0 49 (three 1)
  rejects_it : comes [] (report_of X 56 56 10 (money 10) 50 (money 10) loud) ≡ filled (16 ∷ []) 56 50 100 two

reports : Reports
unfolding called
reports = record {
  below = refl;
  at_nothing = refl;
  at_it = refl;
  same = refl;
  on_done = refl;
  overfill = refl;
  at_another = refl;
  behind = refl;
  unsaid_status = refl;
  accepted = refl;
  answered = refl;
  ack = refl;
  refuses = refl;
  rejects_it = refl;
}

-- ---- what a report tells

-- a fill under the cancel's name, by a status report
abbrev under_cancel : Message
under_cancel = first_message (cancels E ∷ []) (report_of (X_ 2) 73 49 10 (money 10) 50 (money 10) loud)

-- a rejection of the order, with a fill
abbrev rejection : Message
rejection = first_message [] (report_of X 56 56 10 (money 10) 50 (money 10) loud)

record Tells : Type 0 where
  clordid : under_cancel.ids.clordid ≡ text_of E
  origclordid : under_cancel.ids.origclordid ≡ text_of C
  trade : under_cancel.exec.exectype ≡ 70
  no_reason : under_cancel.reason ∷ under_cancel.told.origin ∷ [] ≡ 0 ∷ 0 ∷ []
  reason : rejection.reason ∷ rejection.told.origin ∷ [] ≡ 99 ∷ 2 ∷ []

tells : Tells
unfolding called
tells = record { clordid = refl; origclordid = refl; trade = refl; no_reason = refl; reason = refl }
