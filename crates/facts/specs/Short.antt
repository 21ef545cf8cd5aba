-- Filled, but short: a venue's Filled below the quantity, by smallest lists of events, each beside what comes of it. Rests on Play.
-- Near readings that are wrong are ruled out: the status replaced before the questions, judged by the quantity before an accepted replace or by a refusal's own
-- CumQty, pending terms and gateway cancel ended all the same, alarm 1 before 6, an ack of the gateway's cancel told.
use Rattle.std.specs.Prelude.{ℕ, ◌≡◌, refl, Bool, true, false, List, [], ◌∷◌, map}
use Rattle.records.specs.Record.{event_in}
use Rattle.records.specs.Answer.{answer_bytes, head_bytes}
use Rattle.store.specs.declared.Order.{Order}
use Rattle.store.specs.declared.Request.{Request}
use Rattle.store.specs.Book.{Book, order_in}
use Rattle.machine.specs.Orders.{has_pending, has_gateway, leaves_qty}
use Rattle.machine.specs.Changes.{Message}
use Rattle.machine.specs.Machine.{step_of}
use Rattle.machine.specs.Rules.{rules}
use Rattle.machine.specs.History.{messages_of, left_by}
use Rattle.facts.specs.Play.{number, spelled, bytes, shares, money, X, X_, D, E, books, cancels, replaces, report_of, fills, turns, reject_of, rejects, gateway_cancels, called, empty, playing, standing, first, many_requests, send_fails, sends_again, line_of, reported, order_x, state, links, request, C}
use Rattle.machine.specs.declared.Change.{Change}
use Rattle.store.specs.Orders.{no_pending, no_gateway}

-- ---- the words of the tables, here and in DoneForDay

-- a message: its kind, ExecType, status, LastQty and leaves, 0 if the kind has none
pub record Summary : Type 0 where
  pub kind : ℕ
  pub exectype : ℕ
  pub status : ℕ
  pub last : ℕ
  pub leaves : ℕ

-- order X as it is left: status, filled, ordered, leaves, whether it has pending terms and a gateway cancel; and of each request whether it is answered
pub record Left : Type 0 where
  pub status : ℕ
  pub cum : ℕ
  pub qty : ℕ
  pub leaves : ℕ
  pub pending : Bool
  pub gateway : Bool
  pub answered : List ℕ

pub record Came : Type 0 where
  pub messages : List Summary
  pub alarm : ℕ
  pub alarm2 : ℕ
  pub left : Left

abbrev summary_of : Message → Summary
summary_of m = record { kind = m.kind; exectype = m.exec.exectype; status = m.exec.status; last = m.exec.lastqty; leaves = m.told.leavesqty }

abbrev answered_of : Request → ℕ
answered_of q = q.answered

abbrev left_of : Order → List Request → Left
left_of o qs = record {
  status = o.state.status;
  cum = o.state.cumqty;
  qty = o.terms.qty;
  leaves = leaves_qty o;
  pending = has_pending o;
  gateway = has_gateway o;
  answered = map answered_of qs;
}

abbrev came_of : Change → Book → Came
came_of c b = record { messages = map summary_of (messages_of c); alarm = c.output.alarm; alarm2 = c.output.alarm2; left = left_of (order_in b 0) b.requests }

abbrev pub comes_on : Book → (event : List ℕ) → Came
comes_on b event = let c = called b event in came_of c (left_by b c)

-- the order is booked, then some calls, and the one
abbrev pub comes : List (List ℕ) → (event : List ℕ) → Came
comes before event = comes_on (playing (empty 10000) (books ∷ before)) event

-- as it should be; quantities in shares
abbrev pub came : List Summary → (alarm alarm2 : ℕ) → Left → Came
came messages alarm alarm2 left = record { messages = messages; alarm = alarm; alarm2 = alarm2; left = left }

abbrev pub report : (exectype status last leaves : ℕ) → Summary
report exectype status last leaves = record { kind = 16; exectype = exectype; status = status; last = shares last; leaves = shares leaves }

abbrev pub reject : (status : ℕ) → Summary
reject status = record { kind = 17; exectype = 0; status = status; last = 0; leaves = 0 }

-- a cancel request goes out
abbrev pub sent : Summary
sent = record { kind = 19; exectype = 0; status = 0; last = 0; leaves = 0 }

abbrev pub left : (status cum qty leaves : ℕ) (pending gateway : Bool) (answered : List ℕ) → Left
left status cum qty leaves pending gateway answered = record {
  status = status;
  cum = shares cum;
  qty = shares qty;
  leaves = shares leaves;
  pending = pending;
  gateway = gateway;
  answered = answered;
}

-- with its first request alone
abbrev pub alone : (status cum leaves : ℕ) → Left
alone status cum leaves = left status cum 100 leaves false false (0 ∷ [])

-- Filled at a cumulative with a LastQty, in a report and under a name; and at status 1
abbrev pub filled_at : (downstream : List ℕ) (exectype last cum : ℕ) → List ℕ
filled_at downstream exectype last cum = report_of downstream exectype 50 last (money 10) cum (money 10) []

abbrev pub partly : (cum : ℕ) → List ℕ
partly cum = fills cum cum (money 10) (money 10)

-- Filled as a refusal's status, with and without a reason
abbrev refused_filled : (downstream : List ℕ) → List ℕ
refused_filled downstream = reject_of downstream (number 13 1 50 ∷ [])

abbrev refused_filled_for : (downstream : List ℕ) (reason : ℕ) → List ℕ
refused_filled_for downstream reason = reject_of downstream (number 13 1 50 ∷ number 19 4 reason ∷ [])

-- ---- in reports

record Reports : Type 0 where
  -- New at 0, PartiallyFilled above it, with what is left; Filled of all is Filled
  at_zero : comes [] (turns X 48 50) ≡ came (report 48 48 0 100 ∷ []) 6 0 (alone 48 0 100)
  above : comes [] (filled_at X 70 40 40) ≡ came (report 70 49 40 60 ∷ []) 6 0 (alone 49 40 60)
  one_short : comes [] (filled_at X 70 99 99) ≡ came (report 70 49 99 1 ∷ []) 6 0 (alone 49 99 1)
  whole : comes [] (filled_at X 70 100 100) ≡ came (report 70 50 100 0 ∷ []) 0 0 (alone 50 100 0)
  -- a rise is told as a Trade, whatever the ExecType
  trade : comes [] (filled_at X 48 40 40) ≡ came (report 70 49 40 60 ∷ []) 6 0 (alone 49 40 60)
  -- ExecType 8 with status 2 under the order's first request refuses no request: it is a report
  of_first : comes [] (turns X 56 50) ≡ came (report 56 48 0 100 ∷ []) 6 0 (alone 48 0 100)
  -- the questions see Filled: it repeats no live order, so that twice is two reports and two alarms, the second with no change of status
  twice : comes (turns X 48 50 ∷ []) (turns X 48 50) ≡ came (report 48 48 0 100 ∷ []) 6 0 (alone 48 0 100)
  -- and it is not behind PendingCancel, as New would be
  not_behind : comes (cancels D ∷ turns (X_ 1) 54 54 ∷ []) (turns X 70 50)
      ≡ came (report 70 48 0 100 ∷ []) 6 0 (left 48 0 100 100 false false (0 ∷ 0 ∷ []))
  -- nor behind a replace that was accepted since
  not_settled : comes (replaces D 100 ∷ turns (X_ 1) 53 48 ∷ []) (turns X 70 50)
      ≡ came (report 70 48 0 100 ∷ []) 6 0 (left 48 0 100 100 false false (1 ∷ 1 ∷ []))

reports : Reports
unfolding called
reports = record {
  at_zero = refl;
  above = refl;
  one_short = refl;
  whole = refl;
  trade = refl;
  of_first = refl;
  twice = refl;
  not_behind = refl;
  not_settled = refl;
}

-- ---- a status that is not set raises no alarm 6

record Unset : Type 0 where
  -- from another venue: a report, a refusal
  other_venue : comes [] (bytes 4 (number 1 2 4 ∷ spelled 5 X ∷ number 12 1 70 ∷ number 13 1 50 ∷ number 14 8 0 ∷ number 15 8 0 ∷ number 16 8 0 ∷ number 17 8 0 ∷ []))
      ≡ came [] 0 0 (alone 65 0 100)
  other_venues_refusal : comes (cancels D ∷ []) (bytes 6 (number 1 2 4 ∷ spelled 5 (X_ 1) ∷ number 13 1 50 ∷ []))
      ≡ came [] 0 0 (left 65 0 100 100 false false (0 ∷ 0 ∷ []))
  -- stale: below the cumulative, and a fill at it
  below : comes (partly 40 ∷ []) (filled_at X 70 0 30) ≡ came [] 0 0 (alone 49 40 60)
  again : comes (partly 40 ∷ []) (filled_at X 70 40 40) ≡ came [] 0 0 (alone 49 40 60)
  -- an overfill is that alone, by the quantity of a replace that it accepts too
  overfill : comes [] (filled_at X 70 101 101) ≡ came [] 2 0 (alone 65 0 100)
  overfill_accepting : comes (partly 40 ∷ replaces D 40 ∷ []) (filled_at (X_ 1) 53 1 41) ≡ came [] 2 0 (left 49 40 100 60 true false (0 ∷ 0 ∷ []))
  -- an order that is done already: Filled again, a fill on a Canceled one, a refusal
  repeated : comes (filled_at X 70 100 100 ∷ []) (turns X 70 50) ≡ came [] 0 0 (alone 50 100 0)
  done : comes (turns X 52 52 ∷ []) (filled_at X 70 40 40) ≡ came [] 5 0 (alone 52 0 0)
  done_refusal : comes (cancels D ∷ turns X 52 52 ∷ []) (refused_filled (X_ 1)) ≡ came (reject 52 ∷ []) 0 0 (left 52 0 100 0 false false (0 ∷ 1 ∷ []))
  -- a refusal of a request that was answered, and one that names the first request
  answered : comes (cancels D ∷ rejects (X_ 1) 99 ∷ []) (refused_filled (X_ 1)) ≡ came [] 0 0 (left 65 0 100 100 false false (0 ∷ 1 ∷ []))
  of_first : comes [] (refused_filled X) ≡ came [] 0 0 (alone 65 0 100)

unset : Unset
unfolding called
unset = record {
  other_venue = refl;
  other_venues_refusal = refl;
  below = refl;
  again = refl;
  overfill = refl;
  overfill_accepting = refl;
  repeated = refl;
  done = refl;
  done_refusal = refl;
  answered = refl;
  of_first = refl;
}

-- ---- in refusals: judged by the book

record Refusals : Type 0 where
  of_cancel : comes (cancels D ∷ []) (refused_filled (X_ 1)) ≡ came (reject 48 ∷ []) 6 0 (left 48 0 100 100 false false (0 ∷ 1 ∷ []))
  of_cancel_above : comes (partly 40 ∷ cancels D ∷ []) (refused_filled (X_ 1)) ≡ came (reject 49 ∷ []) 6 0 (left 49 40 100 60 false false (0 ∷ 1 ∷ []))
  of_cancel_whole : comes (partly 100 ∷ cancels D ∷ []) (refused_filled (X_ 1)) ≡ came (reject 50 ∷ []) 0 0 (left 50 100 100 0 false false (0 ∷ 1 ∷ []))
  of_replace : comes (replaces D 150 ∷ []) (refused_filled (X_ 1)) ≡ came (reject 48 ∷ []) 6 0 (left 48 0 100 100 false false (0 ∷ 1 ∷ []))
  -- the quantity that was asked for in vain does not count
  of_replace_whole : comes (partly 100 ∷ replaces D 150 ∷ []) (refused_filled (X_ 1))
      ≡ came (reject 50 ∷ []) 0 0 (left 50 100 100 0 false false (0 ∷ 1 ∷ []))
  -- by a report with ExecType 8; its own CumQty counts for nothing
  by_report : comes (cancels D ∷ []) (turns (X_ 1) 56 50) ≡ came (reject 48 ∷ []) 6 0 (left 48 0 100 100 false false (0 ∷ 1 ∷ []))
  own_cum : comes (cancels D ∷ []) (filled_at (X_ 1) 56 100 100) ≡ came (reject 48 ∷ []) 6 0 (left 48 0 100 100 false false (0 ∷ 1 ∷ []))
  own_cum_of_replace : comes (replaces D 40 ∷ []) (filled_at (X_ 1) 56 40 40) ≡ came (reject 48 ∷ []) 6 0 (left 48 0 100 100 false false (0 ∷ 1 ∷ []))
  -- the pending terms of another request stay
  pending_stays : comes (replaces D 150 ∷ cancels E ∷ []) (refused_filled (X_ 2)) ≡ came (reject 48 ∷ []) 6 0 (left 48 0 100 100 true false (0 ∷ 0 ∷ 1 ∷ []))

refusals : Refusals
unfolding called
refusals = record {
  of_cancel = refl;
  of_cancel_above = refl;
  of_cancel_whole = refl;
  of_replace = refl;
  of_replace_whole = refl;
  by_report = refl;
  own_cum = refl;
  own_cum_of_replace = refl;
  pending_stays = refl;
}

-- ---- with an accepted replace: judged by the new quantity

record Accepting : Type 0 where
  down : comes (partly 40 ∷ replaces D 40 ∷ []) (filled_at (X_ 1) 53 0 40) ≡ came (report 53 50 0 0 ∷ []) 0 0 (left 50 40 40 0 false false (1 ∷ 1 ∷ []))
  up : comes (partly 100 ∷ replaces D 150 ∷ []) (filled_at (X_ 1) 53 0 100) ≡ came (report 53 49 0 50 ∷ []) 6 0 (left 49 100 150 50 false false (1 ∷ 1 ∷ []))
  -- under the order's own name nothing is accepted: whole by 100, and done
  up_own : comes (partly 100 ∷ replaces D 150 ∷ []) (filled_at X 70 0 100) ≡ came (report 70 50 0 0 ∷ []) 0 0 (left 50 100 100 0 false false (0 ∷ 0 ∷ []))
  -- short by the old quantity, and by the new
  down_short : comes (replaces D 40 ∷ []) (filled_at (X_ 1) 53 30 30) ≡ came (report 70 49 30 10 ∷ []) 6 0 (left 49 30 40 10 false false (1 ∷ 1 ∷ []))
  -- nothing of nothing is whole
  to_zero : comes (replaces D 0 ∷ []) (turns (X_ 1) 53 50) ≡ came (report 53 50 0 0 ∷ []) 0 0 (left 50 0 0 0 false false (1 ∷ 1 ∷ []))

accepting : Accepting
unfolding called
accepting = record { down = refl; up = refl; up_own = refl; down_short = refl; to_zero = refl }

-- ---- what follows goes by the status left

record Follows : Type 0 where
  -- pending terms, and the gateway cancel, stay
  pending_stays : comes (replaces D 150 ∷ []) (turns X 48 50) ≡ came (report 48 48 0 100 ∷ []) 6 0 (left 48 0 100 100 true false (0 ∷ 0 ∷ []))
  gateway_stays : comes (gateway_cancels ∷ []) (turns X 48 50) ≡ came (report 48 48 0 100 ∷ []) 6 0 (left 48 0 100 100 false true (0 ∷ 0 ∷ []))
  -- an ack of the gateway's own cancel is not told; a rise is; and Filled of all ends it
  ack : comes (gateway_cancels ∷ []) (turns (X_ 1) 54 50) ≡ came [] 6 0 (left 48 0 100 100 false true (0 ∷ 0 ∷ []))
  ack_of_rise : comes (gateway_cancels ∷ []) (filled_at (X_ 1) 54 40 40) ≡ came (report 70 49 40 60 ∷ []) 6 0 (left 49 40 100 60 false true (0 ∷ 0 ∷ []))
  ack_of_all : comes (gateway_cancels ∷ []) (filled_at (X_ 1) 54 100 100) ≡ came (report 70 50 100 0 ∷ []) 0 0 (left 50 100 100 0 false false (0 ∷ 0 ∷ []))
  -- the client's cancel stays unanswered
  unanswered : comes (cancels D ∷ []) (turns (X_ 1) 54 50) ≡ came (report 54 48 0 100 ∷ []) 6 0 (left 48 0 100 100 false false (0 ∷ 0 ∷ []))

follows : Follows
unfolding called
follows = record { pending_stays = refl; gateway_stays = refl; ack = refl; ack_of_rise = refl; ack_of_all = refl; unanswered = refl }

-- ---- a gateway cancel that is refused goes on

record Gateway : Type 0 where
  again : comes (gateway_cancels ∷ []) (refused_filled_for (X_ 1) 99) ≡ came (sent ∷ []) 6 0 (left 48 0 100 100 false true (0 ∷ 1 ∷ 0 ∷ []))
  -- given up for the reason, and after three tries: both alarms, 6 before 1
  gone : comes (gateway_cancels ∷ []) (refused_filled_for (X_ 1) 1) ≡ came [] 6 1 (left 48 0 100 100 false true (0 ∷ 1 ∷ []))
  third : comes (gateway_cancels ∷ rejects (X_ 1) 99 ∷ rejects (X_ 2) 99 ∷ []) (refused_filled_for (X_ 3) 99)
      ≡ came [] 6 1 (left 48 0 100 100 false true (0 ∷ 1 ∷ 1 ∷ 1 ∷ []))
  -- Filled of all: it ends, with neither
  whole : comes (partly 100 ∷ gateway_cancels ∷ []) (refused_filled_for (X_ 1) 1) ≡ came [] 0 0 (left 50 100 100 0 false false (0 ∷ 1 ∷ []))
  -- one that waited behind the client's goes after that is refused
  resumes : comes (cancels D ∷ gateway_cancels ∷ []) (refused_filled_for (X_ 1) 99)
      ≡ came (reject 48 ∷ sent ∷ []) 6 0 (left 48 0 100 100 false true (0 ∷ 1 ∷ 0 ∷ []))

gateway : Gateway
unfolding called
gateway = record { again = refl; gone = refl; third = refl; whole = refl; resumes = refl }

-- so that question 7 is answered with no, and was not before: the try has no room behind 256 requests. Canceled ends the gateway cancel and is taken.
abbrev full : Book
full = let b = many_requests 254 in left_by b (step_of b (event_in gateway_cancels))

abbrev refused_as : (status : ℕ) → List ℕ
refused_as status = reject_of (88 ∷ 45 ∷ 50 ∷ 53 ∷ 53 ∷ []) (number 13 1 status ∷ number 19 4 99 ∷ [])

record Full : Type 0 where
  short : (step_of full (event_in (refused_as 50))).refusal ≡ 7
  canceled : (step_of full (event_in (refused_as 52))).refusal ≡ 0

is_full : Full
unfolding called
is_full = record { short = refl; canceled = refl }

-- ---- a book from before: a short Filled order keeps the rules, and stays done with nothing left

abbrev before : Book
before = record { setting = 10000; orders = standing 50 40 (money 10) 2 ∷ []; requests = first ∷ [] }

record Before : Type 0 where
  kept : rules before ≡ true
  -- Filled as it is: nothing. More filled: an alarm 5. A cancel: refused.
  repeated : comes_on before (turns X 70 50) ≡ came [] 0 0 (alone 50 40 0)
  filled : comes_on before (filled_at X 70 10 50) ≡ came [] 5 0 (alone 50 40 0)
  revived : comes_on before (partly 50) ≡ came [] 5 0 (alone 50 40 0)
  cancelled : comes_on before (cancels D) ≡ came (reject 50 ∷ []) 0 0 (alone 50 40 0)

from_before : Before
unfolding called
from_before = record { kept = refl; repeated = refl; filled = refl; revived = refl; cancelled = refl }

-- ---- the other done statuses are no Filled: they raise no alarm 6, and an order that has one keeps it

record Others : Type 0 where
  expired : comes [] (turns X 67 67) ≡ came (report 67 67 0 0 ∷ []) 0 0 (alone 67 0 0)
  canceled : comes [] (turns X 52 52) ≡ came (report 52 52 0 0 ∷ []) 0 0 (alone 52 0 0)
  rejected : comes [] (turns X 56 56) ≡ came (report 56 56 0 0 ∷ []) 0 0 (alone 56 0 0)
  refused_expired : comes (cancels D ∷ []) (reject_of (X_ 1) (number 13 1 67 ∷ [])) ≡ came (reject 67 ∷ []) 0 0 (left 67 0 100 0 false false (0 ∷ 1 ∷ []))
  refused_live : comes (cancels D ∷ []) (reject_of (X_ 1) (number 13 1 48 ∷ [])) ≡ came (reject 48 ∷ []) 0 0 (left 48 0 100 100 false false (0 ∷ 1 ∷ []))
  done_expired : comes (cancels D ∷ turns X 67 67 ∷ []) (refused_filled (X_ 1)) ≡ came (reject 67 ∷ []) 0 0 (left 67 0 100 0 false false (0 ∷ 1 ∷ []))
  done_rejected : comes (cancels D ∷ turns X 56 56 ∷ []) (refused_filled (X_ 1)) ≡ came (reject 56 ∷ []) 0 0 (left 56 0 100 0 false false (0 ∷ 1 ∷ []))

others : Others
unfolding called
others = record { expired = refl; canceled = refl; rejected = refl; refused_expired = refl; refused_live = refl; done_expired = refl; done_rejected = refl }

-- a book from before whose short Filled order has an open cancel: a refusal, a failed send, a send again leave it done, with nothing left and no alarm
abbrev before_cancel : Book
before_cancel = record { setting = 10000; orders = order_x (state 50 40 (money 10) 2) (links 1 1 2) no_pending no_gateway ∷ []; requests = first ∷ request 1 0 D C (X_ 1) ∷ [] }

abbrev stays : Came
stays = came (reject 50 ∷ []) 0 0 (left 50 40 100 0 false false (0 ∷ 1 ∷ []))

record BeforeCancel : Type 0 where
  kept : rules before_cancel ≡ true
  refused : comes_on before_cancel (refused_filled (X_ 1)) ≡ stays
  refused_new : comes_on before_cancel (reject_of (X_ 1) (number 13 1 48 ∷ [])) ≡ stays
  failed : comes_on before_cancel (send_fails (X_ 1)) ≡ stays
  again : comes_on before_cancel (sends_again (X_ 1)) ≡ stays

from_before_cancel : BeforeCancel
unfolding called
from_before_cancel = record { kept = refl; refused = refl; refused_new = refl; failed = refl; again = refl }

-- "the Rust the rest": one short Filled whole, message and book: LastPx 11 of 40 at an average of 10
abbrev booked : Book
booked = playing (empty 10000) (books ∷ [])

whole_line : line_of booked (called booked (report_of X 70 50 40 (money 11) 40 (money 10) []))
    ≡ record {
      refusal = 0;
      messages = reported (standing 49 40 (money 10) 1) 70 40 60 (money 11) 1 ∷ [];
      alarm = 6;
      alarm2 = 0;
      book = record { setting = 10000; orders = standing 49 40 (money 10) 1 ∷ []; requests = first ∷ [] };
    }
unfolding called
whole_line = refl

-- the head's bytes: length 5 in two, no message, 6 and then 1
head : answer_bytes 6 1 [] ≡ 5 ∷ 0 ∷ 0 ∷ 6 ∷ 1 ∷ []
unfolding answer_bytes head_bytes
head = refl
