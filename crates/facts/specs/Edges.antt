-- Questions at their edge, by smallest lists of events: what a condition more, a condition less or another order of the questions would answer otherwise.
-- Near readings that are wrong are ruled out: a repeat told for another average, a resent fill that is no Trade, a fill on a done order that is not Canceled, a
-- refused cancel's name forgotten, a refusal without its OrderID, a replace that no Canceled accepts, a replace at another price that nobody judged. Rests on Play.
-- Question 1 is not asked here.
use Rattle.std.specs.Prelude.{ℕ, ◌≡◌, refl, false, List, [], ◌∷◌, ◌++◌, map, replicate}
use Rattle.prelude.specs.Texts.{text_of}
use Rattle.prelude.specs.declared.Text.{Text}
use Rattle.records.specs.Record.{event_in}
use Rattle.records.specs.declared.LongText.{LongText}
use Rattle.store.specs.declared.GatewayCancel.{GatewayCancel}
use Rattle.store.specs.declared.Request.{Request}
use Rattle.store.specs.Book.{Book, order_in}
use Rattle.machine.specs.Changes.{Message}
use Rattle.machine.specs.History.{messages_of, left_by}
use Rattle.machine.specs.Machine.{step_of}
use Rattle.machine.specs.Messages.{no_message}
use Rattle.machine.specs.declared.Change.{Change}
use Rattle.facts.specs.Play.{Field, number, spelled, mark, bytes, shares, money, X, X_, C, D, E, W, books, cancel_of, cancels, replace_of, replaces, report_of, fills, turns, reject_of, rejects, send_fails, sends_again, gateway_cancels, called, empty}

-- ---- the words of the tables

abbrev stepped_on : Book → List (List ℕ) → Book
stepped_on b [] = b
stepped_on b (s ∷ ss) = stepped_on (left_by b (step_of b (event_in s))) ss

-- the order is booked, then some calls
abbrev after : (setting : ℕ) → List (List ℕ) → Book
after setting before = stepped_on (empty setting) (books ∷ before)

abbrev change : List (List ℕ) → (event : List ℕ) → Change
change before event = step_of (after 10000 before) (event_in event)

abbrev first_of : List Message → Message
first_of [] = no_message
first_of (m ∷ ms) = m

-- the first message that the last call puts out
abbrev first_message : List (List ℕ) → (event : List ℕ) → Message
first_message before event = first_of (messages_of (change before event))

-- the kinds of its messages, the alarm, and order X as it is left: status, filled, ordered; and of each request whether it is answered
record Came : Type 0 where
  kinds : List ℕ
  alarm : ℕ
  status : ℕ
  cum : ℕ
  qty : ℕ
  answered : List ℕ

abbrev kind_of : Message → ℕ
kind_of m = m.kind

abbrev answered_of : Request → ℕ
answered_of q = q.answered

abbrev came_of : Change → Book → Came
came_of c b = record {
  kinds = map kind_of (messages_of c);
  alarm = c.output.alarm;
  status = (order_in b 0).state.status;
  cum = (order_in b 0).state.cumqty;
  qty = (order_in b 0).terms.qty;
  answered = map answered_of b.requests;
}

abbrev comes : List (List ℕ) → (event : List ℕ) → Came
comes before event = came_of (change before event) (left_by (after 10000 before) (change before event))

-- as it should be; quantities in shares
abbrev came : (kinds : List ℕ) (alarm status cum qty : ℕ) (answered : List ℕ) → Came
came kinds alarm status cum qty answered = record { kinds = kinds; alarm = alarm; status = status; cum = shares cum; qty = shares qty; answered = answered }

abbrev partly : (cum : ℕ) → List ℕ
partly cum = fills cum cum (money 10) (money 10)

-- ---- reports

-- a text of one letter
abbrev T : LongText
T = record { bytes = 84 ∷ replicate 63 0; len = 1 }

record Reports : Type 0 where
  -- a repeat with another average is still a repeat: the client is not told, and its average is not kept
  average : comes (partly 40 ∷ []) (report_of X 73 49 0 0 40 (money 11) []) ≡ came [] 0 49 40 100 (0 ∷ [])
  average_kept : (order_in (after 10000 (partly 40 ∷ report_of X 73 49 0 0 40 (money 11) [] ∷ [])) 0).state.avgpx ≡ money 10
  -- a LastQty at the cumulative that is booked is stale, whatever the ExecType and the status
  last_at_it : comes (partly 40 ∷ []) (report_of X 54 54 10 (money 10) 40 (money 10) []) ≡ came [] 0 49 40 100 (0 ∷ [])
  last_canceled : comes (partly 40 ∷ []) (report_of X 52 52 10 (money 10) 40 (money 10) []) ≡ came [] 0 49 40 100 (0 ∷ [])
  -- a fill on a done order, whether Expired, Rejected or Filled, is an alarm 5 if it is no overfill
  on_expired : comes (turns X 67 67 ∷ []) (partly 40) ≡ came [] 5 67 0 100 (0 ∷ [])
  on_rejected : comes (turns X 56 56 ∷ []) (partly 40) ≡ came [] 5 56 0 100 (0 ∷ [])
  on_filled : comes (report_of X 70 50 100 (money 10) 100 (money 10) [] ∷ []) (fills 110 10 (money 10) (money 10)) ≡ came [] 5 50 100 100 (0 ∷ [])
  -- a fill has its text
  text : (first_message [] (report_of X 70 49 40 (money 10) 40 (money 10) (spelled 20 (84 ∷ []) ∷ []))).text ≡ T
  -- under a client's cancel it bears the cancel's ClOrdIDs, though that was refused before
  of_refused : (first_message (cancels D ∷ rejects (X_ 1) 99 ∷ []) (report_of (X_ 1) 70 49 40 (money 10) 40 (money 10) [])).ids.clordid ≡ text_of D
  of_refused_orig : (first_message (cancels D ∷ rejects (X_ 1) 99 ∷ []) (report_of (X_ 1) 70 49 40 (money 10) 40 (money 10) [])).ids.origclordid ≡ text_of C
  -- under a name that a replace superseded, and under the gateway's cancel, it bears the order's
  of_superseded : (first_message (replaces D 150 ∷ turns (X_ 1) 53 48 ∷ []) (partly 40)).ids.clordid ≡ text_of D
  of_gateway : (first_message (gateway_cancels ∷ []) (report_of (X_ 1) 70 49 40 (money 10) 40 (money 10) [])).ids.clordid ≡ text_of C

reports : Reports
unfolding called
reports = record {
  average = refl;
  average_kept = refl;
  last_at_it = refl;
  last_canceled = refl;
  on_expired = refl;
  on_rejected = refl;
  on_filled = refl;
  text = refl;
  of_refused = refl;
  of_refused_orig = refl;
  of_superseded = refl;
  of_gateway = refl;
}

-- ---- which reports answer a request

record Answers : Type 0 where
  -- the pending replace to 150 is accepted by Canceled, Expired and PendingCancel under its ClOrdID, and by New with ExecType PendingReplace
  canceled : comes (replaces D 150 ∷ []) (turns (X_ 1) 52 52) ≡ came (16 ∷ []) 0 52 0 150 (1 ∷ 1 ∷ [])
  expired : comes (replaces D 150 ∷ []) (turns (X_ 1) 67 67) ≡ came (16 ∷ []) 0 67 0 150 (1 ∷ 1 ∷ [])
  pending_cancel : comes (replaces D 150 ∷ []) (turns (X_ 1) 54 54) ≡ came (16 ∷ []) 0 54 0 150 (1 ∷ 1 ∷ [])
  still_pending : comes (replaces D 150 ∷ []) (turns (X_ 1) 69 48) ≡ came (16 ∷ []) 0 48 0 150 (1 ∷ 1 ∷ [])
  -- a cancel is answered by Canceled alone, and not by another end of the order
  by_canceled : comes (cancels D ∷ []) (turns (X_ 1) 52 52) ≡ came (16 ∷ []) 0 52 0 100 (0 ∷ 1 ∷ [])
  by_expired : comes (cancels D ∷ []) (turns (X_ 1) 67 67) ≡ came (16 ∷ []) 0 67 0 100 (0 ∷ 0 ∷ [])
  by_filled : comes (cancels D ∷ []) (report_of (X_ 1) 70 50 100 (money 10) 100 (money 10) []) ≡ came (16 ∷ []) 0 50 100 100 (0 ∷ 0 ∷ [])

answers : Answers
unfolding called
answers = record {
  canceled = refl;
  expired = refl;
  pending_cancel = refl;
  still_pending = refl;
  by_canceled = refl;
  by_expired = refl;
  by_filled = refl;
}

-- ---- what refuses a request

-- the text number that it is refused with, 0 if it goes
abbrev refused_by : (setting : ℕ) → List (List ℕ) → (event : List ℕ) → ℕ
refused_by setting before event = (first_of (messages_of (step_of (after setting before) (event_in event)))).told.fixedtext

-- D replaces C, 100 at that price, with a verdict
abbrev repriced : (price verdict : ℕ) → List ℕ
repriced price verdict =
    bytes 3 (number 0 2 7 ∷ spelled 3 D ∷ spelled 4 C ∷ spelled 6 W ∷ number 7 1 49 ∷ number 9 8 (shares 100) ∷ number 10 8 (money price) ∷ number 23 1 verdict ∷ [])

-- a market order, and D that makes a limit of it at 10, or of order X a market order: 100 still, with verdict 3
abbrev market : Book
market =
    stepped_on (empty 10000)
    (bytes 1 (number 0 2 7 ∷ number 1 2 3 ∷ spelled 2 X ∷ spelled 3 C ∷ spelled 6 W ∷ number 7 1 49 ∷ number 8 1 49 ∷ number 9 8 (shares 100) ∷ []) ∷ [])

abbrev retyped : List Field → List ℕ
retyped price = bytes 3 ((number 0 2 7 ∷ spelled 3 D ∷ spelled 4 C ∷ spelled 6 W ∷ number 7 1 49 ∷ []) ++ (price ++ (number 23 1 3 ∷ [])))

abbrev to_limit : List ℕ
to_limit = retyped (number 8 1 50 ∷ number 9 8 (shares 100) ∷ number 10 8 (money 10) ∷ [])

abbrev to_market : List ℕ
to_market = retyped (number 8 1 49 ∷ number 9 8 (shares 100) ∷ [])

record Refusals : Type 0 where
  -- the first that holds: duplicate, unknown, done, too many, side or symbol
  duplicate_unknown : refused_by 10000 [] (bytes 2 (number 0 2 7 ∷ spelled 3 C ∷ spelled 4 E ∷ spelled 6 W ∷ number 7 1 49 ∷ [])) ≡ 5
  duplicate_done : refused_by 10000 (turns X 52 52 ∷ []) (cancels C) ≡ 5
  done_many : refused_by 1 (turns X 52 52 ∷ []) (cancels D) ≡ 7
  many_symbol : refused_by 1 [] (cancel_of D X 49 []) ≡ 8
  symbol_gateway : refused_by 10000 (gateway_cancels ∷ []) (cancel_of D X 49 []) ≡ 9
  -- then a replace's own: the gateway cancels, a replace is pending, below filled, blocked, the verdict
  gateway_pending : refused_by 10000 (replaces D 150 ∷ gateway_cancels ∷ []) (replaces E 150) ≡ 1
  pending_below : refused_by 10000 (partly 40 ∷ replaces D 150 ∷ []) (replaces E 39) ≡ 2
  blocked_verdict : refused_by 10000 [] (replace_of D 101 (mark 22 ∷ []) 3) ≡ 4
  -- a verdict counts at a lower price as at a higher one
  lower : refused_by 10000 [] (repriced 9 3) ≡ 14
  higher : refused_by 10000 [] (repriced 11 3) ≡ 14
  same : refused_by 10000 [] (repriced 10 3) ≡ 0
  -- and at another type, a market order's price being none
  to_limit_fact : (first_of (messages_of (step_of market (event_in to_limit)))).told.fixedtext ≡ 14
  to_market_fact : refused_by 10000 [] to_market ≡ 14

refusals : Refusals
unfolding called
refusals = record {
  duplicate_unknown = refl;
  duplicate_done = refl;
  done_many = refl;
  many_symbol = refl;
  symbol_gateway = refl;
  gateway_pending = refl;
  pending_below = refl;
  blocked_verdict = refl;
  lower = refl;
  higher = refl;
  same = refl;
  to_limit_fact = refl;
  to_market_fact = refl;
}

-- ---- what a refusal leaves

-- the venue's OrderID of the order after the calls
abbrev order_id : List (List ℕ) → Text
order_id calls = (order_in (after 10000 calls) 0).names.venueorderid

abbrev gateway_of : List (List ℕ) → GatewayCancel
gateway_of calls = (order_in (after 10000 calls) 0).gateway

-- a message's reason and its origin
abbrev reason_of : Message → List ℕ
reason_of m = m.reason ∷ m.told.origin ∷ []

record Leaves : Type 0 where
  -- it brings the venue's OrderID, as an event 6 and as a report
  order_id_fact : order_id (cancels D ∷ reject_of (X_ 1) (spelled 18 E ∷ []) ∷ []) ≡ text_of E
  order_id_by_report : order_id (cancels D ∷ report_of (X_ 1) 56 56 0 0 0 0 (spelled 18 E ∷ []) ∷ []) ≡ text_of E
  -- the venue's text goes on, by a report too
  text_by_report : (first_message (cancels D ∷ []) (report_of (X_ 1) 56 56 0 0 0 0 (spelled 20 (84 ∷ []) ∷ []))).text ≡ T
  -- reason 0 is the venue's, and so it is told
  reason_0 : reason_of (first_message (cancels D ∷ []) (rejects (X_ 1) 0)) ≡ 0 ∷ 2 ∷ []
  -- by a report too it lets the gateway's cancel go that waited
  resumes : comes (cancels D ∷ gateway_cancels ∷ []) (turns (X_ 1) 56 56) ≡ came (17 ∷ 19 ∷ []) 0 65 0 100 (0 ∷ 1 ∷ 0 ∷ [])
  -- a request that was not sent leaves the status as it is: the venue said PendingCancel, or PendingReplace
  not_sent : comes (cancels D ∷ turns (X_ 1) 54 54 ∷ []) (send_fails (X_ 1)) ≡ came (17 ∷ []) 0 54 0 100 (0 ∷ 1 ∷ [])
  not_sent_replace : comes (replaces D 150 ∷ turns (X_ 1) 69 69 ∷ []) (send_fails (X_ 1)) ≡ came (17 ∷ []) 0 69 0 100 (0 ∷ 1 ∷ [])
  -- the gateway's cancel is sent again as the client's is, and a cancel that was taken is told again though the order is done
  sent_again : comes (gateway_cancels ∷ []) (sends_again (X_ 1)) ≡ came (19 ∷ []) 0 65 0 100 (0 ∷ 0 ∷ [])
  redelivered : comes (cancels D ∷ turns X 52 52 ∷ []) (cancel_of D W 49 (mark 21 ∷ [])) ≡ came (16 ∷ []) 0 52 0 100 (0 ∷ 0 ∷ [])
  -- a gateway cancel that begins again has no try and no refused send behind it
  begins_again : gateway_of (gateway_cancels ∷ send_fails (X_ 1) ∷ gateway_cancels ∷ [])
      ≡ record { tries = 1; unsent = false; stuck = false; origdownstream = 1; refusedsends = 0 }

leaves : Leaves
unfolding called
leaves = record {
  order_id_fact = refl;
  order_id_by_report = refl;
  text_by_report = refl;
  reason_0 = refl;
  resumes = refl;
  not_sent = refl;
  not_sent_replace = refl;
  sent_again = refl;
  redelivered = refl;
  begins_again = refl;
}
