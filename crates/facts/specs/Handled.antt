-- Answers that are near and wrong, each ruled out by a smallest list of events: what the definitions say of it, as facts. Rests on Play.
-- Days and Pinned have the answers that docs/SCOPE.md spells out; here is what a gateway gets wrong first.
use Rattle.std.specs.Prelude.{ℕ, ◌≡◌, refl, List, [], ◌∷◌}
use Rattle.records.specs.Record.{event_in}
use Rattle.store.specs.declared.Order.{Order}
use Rattle.store.specs.Book.{Book, order_in}
use Rattle.machine.specs.Changes.{Message}
use Rattle.machine.specs.Machine.{step_of}
use Rattle.machine.specs.History.{messages_of, left_by}
use Rattle.facts.specs.Play.{number, spelled, mark, bytes, C, W, shares, money, X, X_, D, E, books, cancels, replace_of, replaces, report_of, acknowledges, fills, turns, reject_of, rejects, send_fails, sends_again, gateway_cancels, called, empty, playing, many_orders, many_requests}
use Rattle.machine.specs.declared.Change.{Change}

-- ---- the words of the table

-- what the last call comes to: the kinds of its messages, the LastQty of the first in shares, the alarm; and of order X as it is left the status, what is
-- filled and what is ordered in shares
record Outcome : Type 0 where
  kinds : List ℕ
  lastqty : ℕ
  alarm : ℕ
  status : ℕ
  cumqty : ℕ
  qty : ℕ

abbrev kinds_of : List Message → List ℕ
kinds_of [] = []
kinds_of (m ∷ ms) = m.kind ∷ kinds_of ms

abbrev last_qty_of : List Message → ℕ
last_qty_of [] = 0
last_qty_of (m ∷ ms) = m.exec.lastqty

abbrev outcome_of : Change → Order → Outcome
outcome_of c o = record {
  kinds = kinds_of (messages_of c);
  lastqty = last_qty_of (messages_of c);
  alarm = c.output.alarm;
  status = o.state.status;
  cumqty = o.state.cumqty;
  qty = o.terms.qty;
}

abbrev outcome_in : Book → (event : List ℕ) → Outcome
outcome_in b event = outcome_of (called b event) (order_in (left_by b (called b event)) 0)

-- the order is booked; then some calls, and the one
abbrev comes : List (List ℕ) → (event : List ℕ) → Outcome
comes before event = outcome_in (playing (empty 10000) (books ∷ before)) event

-- one message 16, or none, without an alarm; 100 are ordered
abbrev reports : (last status cum : ℕ) → Outcome
reports last status cum = record { kinds = 16 ∷ []; lastqty = shares last; alarm = 0; status = status; cumqty = shares cum; qty = shares 100 }

abbrev dropped : (status cum : ℕ) → Outcome
dropped status cum = record { kinds = []; lastqty = 0; alarm = 0; status = status; cumqty = shares cum; qty = shares 100 }

-- these messages, and the order not filled
abbrev sends : (kinds : List ℕ) (status : ℕ) → Outcome
sends kinds status = record { kinds = kinds; lastqty = 0; alarm = 0; status = status; cumqty = 0; qty = shares 100 }

-- what question 5, 6 or 7 says
abbrev asked : Book → (event : List ℕ) → ℕ
asked b event = (step_of b (event_in event)).refusal

-- ---- room

record Room : Type 0 where
  -- the 64th order fits, the next gets 7
  order_64 : asked (many_orders 63) books ≡ 0
  order_65 : asked (many_orders 64) books ≡ 7
  -- request 256 fits, the next gets 7; an event that adds none is taken
  request_256 : asked (many_requests 254) gateway_cancels ≡ 0
  request_257 : asked (many_requests 255) gateway_cancels ≡ 7
  adds_none : asked (many_requests 255) (fills 40 40 (money 10) (money 10)) ≡ 0

room : Room
unfolding called
room = record { order_64 = refl; order_65 = refl; request_256 = refl; request_257 = refl; adds_none = refl }

-- ---- reports

record Reports : Type 0 where
  -- a done order is not revived: by a report, and by the status of a refusal
  done_by_report : comes (turns X 52 52 ∷ []) (fills 40 40 (money 10) (money 10))
      ≡ record { kinds = []; lastqty = 0; alarm = 5; status = 52; cumqty = 0; qty = shares 100 }
  done_by_refusal : comes (cancels D ∷ turns X 52 52 ∷ []) (reject_of (X_ 1) (number 13 1 49 ∷ [])) ≡ sends (17 ∷ []) 52
  -- LastQty told is the rise and not the venue's: under the order's ClOrdID, and under a cancel's
  rise : comes (fills 40 40 (money 10) (money 10) ∷ []) (fills 70 10 (money 10) (money 10)) ≡ reports 30 49 70
  rise_of_cancel : comes (cancels D ∷ []) (report_of (X_ 1) 54 54 10 (money 10) 40 (money 10) []) ≡ reports 40 54 40
  -- `behind`: PendingNew after New is dropped
  behind_new : comes (acknowledges ∷ []) (turns X 65 65) ≡ dropped 48 0
  -- a New or PartiallyFilled does not take PendingCancel back, and what it fills is told
  behind_pending : comes (turns X 54 54 ∷ []) (fills 40 40 (money 10) (money 10)) ≡ reports 40 54 40
  behind_pending_new : comes (turns X 54 54 ∷ []) (report_of X 70 48 40 (money 10) 40 (money 10) []) ≡ reports 40 54 40
  -- New or PendingNew above a cumulative of 0 is PartiallyFilled
  new_above_zero : comes [] (report_of X 70 48 40 (money 10) 40 (money 10) []) ≡ reports 40 49 40
  -- a report of a request that a replace superseded does not turn the status; Canceled does
  behind_settled : comes (replaces D 100 ∷ turns (X_ 1) 53 48 ∷ []) (turns X 69 69) ≡ dropped 48 0
  behind_done : comes (replaces D 100 ∷ turns (X_ 1) 53 48 ∷ []) (turns X 52 52) ≡ reports 0 52 0
  -- `repeats`: the same again says nothing, but Restated, Replaced and DoneForDay are told; so is another status
  repeat : comes (acknowledges ∷ []) acknowledges ≡ dropped 48 0
  restated : comes (acknowledges ∷ []) (turns X 68 48) ≡ reports 0 48 0
  replaced : comes (acknowledges ∷ []) (turns X 53 48) ≡ reports 0 48 0
  done_for_day : comes (acknowledges ∷ []) (turns X 51 48) ≡ reports 0 48 0
  another_status : comes (acknowledges ∷ []) (turns X 54 54) ≡ reports 0 54 0
  -- `accepts`: Replaced under the replace's ClOrdID gives the order its new quantity; PendingReplace does not, nor does Replaced under the order's
  accepted : comes (replaces D 200 ∷ []) (turns (X_ 1) 53 48) ≡ record { kinds = 16 ∷ []; lastqty = 0; alarm = 0; status = 48; cumqty = 0; qty = shares 200 }
  not_yet : comes (replaces D 200 ∷ []) (turns (X_ 1) 69 69) ≡ reports 0 69 0
  not_its_own : comes (replaces D 200 ∷ []) (turns X 53 48) ≡ reports 0 48 0
  -- overfill is judged by the new quantity when accepting, else by the old
  fills_new : comes (replaces D 200 ∷ []) (report_of (X_ 1) 53 49 150 (money 10) 150 (money 10) [])
      ≡ record { kinds = 16 ∷ []; lastqty = shares 150; alarm = 0; status = 49; cumqty = shares 150; qty = shares 200 }
  fills_old : comes (replaces D 200 ∷ []) (fills 150 150 (money 10) (money 10)) ≡ record { kinds = []; lastqty = 0; alarm = 2; status = 65; cumqty = 0; qty = shares 100 }

reports_handled : Reports
unfolding called
reports_handled = record {
  done_by_report = refl;
  done_by_refusal = refl;
  rise = refl;
  rise_of_cancel = refl;
  behind_new = refl;
  behind_pending = refl;
  behind_pending_new = refl;
  new_above_zero = refl;
  behind_settled = refl;
  behind_done = refl;
  repeat = refl;
  restated = refl;
  replaced = refl;
  done_for_day = refl;
  another_status = refl;
  accepted = refl;
  not_yet = refl;
  not_its_own = refl;
  fills_new = refl;
  fills_old = refl;
}

-- ---- requests

-- a market order, and a replace of it with a verdict
abbrev books_market : List ℕ
books_market = bytes 1 (number 0 2 7 ∷ number 1 2 3 ∷ spelled 2 X ∷ spelled 3 C ∷ spelled 6 W ∷ number 7 1 49 ∷ number 8 1 49 ∷ number 9 8 (shares 100) ∷ [])

abbrev replaces_market : (verdict : ℕ) → List ℕ
replaces_market verdict = bytes 3 (number 0 2 7 ∷ spelled 3 D ∷ spelled 4 C ∷ spelled 6 W ∷ number 7 1 49 ∷ number 9 8 (shares 100) ∷ number 23 1 verdict ∷ [])

record Requests : Type 0 where
  -- a replace goes out once: neither a second one nor the same redelivered puts it out again; sent again it is the same request
  replace_once : comes [] (replaces D 100) ≡ sends (20 ∷ []) 65
  second_replace : comes (replaces D 100 ∷ []) (replaces E 100) ≡ sends (17 ∷ []) 65
  redelivered : comes (replaces D 100 ∷ []) (replace_of D 100 (mark 21 ∷ []) 0) ≡ sends (16 ∷ []) 65
  sent_again : comes (replaces D 100 ∷ []) (sends_again (X_ 1)) ≡ sends (20 ∷ []) 65
  -- a gateway cancel that waits behind the client's goes when that is refused, in the same answer; not after its failed send
  waits : comes (cancels D ∷ []) gateway_cancels ≡ sends [] 65
  resumes : comes (cancels D ∷ gateway_cancels ∷ []) (rejects (X_ 1) 99) ≡ sends (17 ∷ 19 ∷ []) 65
  not_resumed : comes (cancels D ∷ gateway_cancels ∷ []) (send_fails (X_ 1)) ≡ sends (17 ∷ []) 65
  -- a gateway cancel whose send failed goes out after any cancel reject of the order, another venue's too
  resumes_by_another : comes (gateway_cancels ∷ send_fails (X_ 1) ∷ []) (bytes 6 (number 1 2 4 ∷ spelled 5 X ∷ [])) ≡ sends (19 ∷ []) 65
  -- a market order's price is none, so that a replace without a price leaves it, and no verdict is asked for
  market_kept : outcome_in (playing (empty 10000) (books_market ∷ [])) (replaces_market 3) ≡ sends (20 ∷ []) 65
  -- a refused cancel without the venue's status takes PendingCancel back to New
  back_to_new : comes (cancels D ∷ turns (X_ 1) 54 54 ∷ []) (rejects (X_ 1) 99) ≡ sends (17 ∷ []) 48
  -- a gateway cancel that is asked for twice goes out once
  asked_twice : comes (gateway_cancels ∷ []) gateway_cancels ≡ sends [] 65

requests_handled : Requests
unfolding called
requests_handled = record {
  replace_once = refl;
  second_replace = refl;
  redelivered = refl;
  sent_again = refl;
  waits = refl;
  resumes = refl;
  not_resumed = refl;
  resumes_by_another = refl;
  market_kept = refl;
  back_to_new = refl;
  asked_twice = refl;
}
