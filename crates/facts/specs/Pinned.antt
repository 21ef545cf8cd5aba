-- The papers' numbers, each by a smallest list of events that gives it: fixed texts 1 to 18, reasons and their origin, alarms 1 to 6, the kinds of messages, and the
-- codes that end an order. All stand here as they are written in docs/SCOPE.md and none by its name of Constants or Codes, so that a wrong number there is refused. Rests on Play.
use Rattle.std.specs.Prelude.{ℕ, ◌≡◌, refl, List, [], ◌∷◌, length}
use Rattle.machine.specs.Changes.{Message}
use Rattle.machine.specs.History.{messages_of}
use Rattle.facts.specs.Play.{number, mark, money, X, X_, C, D, E, W, books, cancel_of, cancels, replace_of, replaces, report_of, fills, turns, unknown_to_venue, reject_of, rejects, send_fails, sends_again, gateway_cancels, called, empty, playing}
use Rattle.machine.specs.declared.Change.{Change}

-- ---- the words of the table

-- what the last of the calls puts out: how many messages; of the first its kind, ExecType, response-to, reason, the reason's origin, and text number; and both alarms
record Said : Type 0 where
  count : ℕ
  kind : ℕ
  exectype : ℕ
  responseto : ℕ
  reason : ℕ
  origin : ℕ
  text : ℕ
  alarm : ℕ
  alarm2 : ℕ

abbrev said_of : List Message → (alarm alarm2 : ℕ) → Said
said_of [] alarm alarm2 = record { count = 0; kind = 0; exectype = 0; responseto = 0; reason = 0; origin = 0; text = 0; alarm = alarm; alarm2 = alarm2 }
said_of (m ∷ ms) alarm alarm2 = record {
  count = length (m ∷ ms);
  kind = m.kind;
  exectype = m.exec.exectype;
  responseto = m.told.responseto;
  reason = m.reason;
  origin = m.told.origin;
  text = m.told.fixedtext;
  alarm = alarm;
  alarm2 = alarm2;
}

abbrev change_says : Change → Said
change_says c = said_of (messages_of c) c.output.alarm c.output.alarm2

-- first some calls on the empty book, then the one
abbrev says : (setting : ℕ) → List (List ℕ) → (event : List ℕ) → Said
says setting before event = change_says (called (playing (empty setting) before) event)

-- one message
abbrev tells : (kind exectype responseto reason origin text : ℕ) → Said
tells kind exectype responseto reason origin text = record {
  count = 1;
  kind = kind;
  exectype = exectype;
  responseto = responseto;
  reason = reason;
  origin = origin;
  text = text;
  alarm = 0;
  alarm2 = 0;
}

-- a cancel, or a replace, is refused for a reason of ours
abbrev cancel_refused : (reason text : ℕ) → Said
cancel_refused reason text = tells 17 0 1 reason 1 text

abbrev replace_refused : (reason text : ℕ) → Said
replace_refused reason text = tells 17 0 2 reason 1 text

-- no message, and an alarm
abbrev alarms : ℕ → Said
alarms n = said_of [] n 0

-- ---- fixed texts, each with its reason

record Texts : Type 0 where
  -- gateway is cancelling
  text_1 : says 10000 (books ∷ gateway_cancels ∷ []) (cancels D) ≡ cancel_refused 3 1
  text_1_replace : says 10000 (books ∷ gateway_cancels ∷ []) (replaces D 100) ≡ replace_refused 3 1
  -- replace pending
  text_2 : says 10000 (books ∷ replaces D 100 ∷ []) (replaces E 100) ≡ replace_refused 3 2
  -- below filled
  text_3 : says 10000 (books ∷ fills 40 40 (money 10) (money 10) ∷ []) (replaces D 39) ≡ replace_refused 99 3
  -- blocked
  text_4 : says 10000 (books ∷ []) (replace_of D 101 (mark 22 ∷ []) 0) ≡ replace_refused 99 4
  -- duplicate
  text_5 : says 10000 (books ∷ []) (cancels C) ≡ cancel_refused 6 5
  -- unknown order
  text_6 : says 10000 [] (cancels D) ≡ cancel_refused 1 6
  -- order is done
  text_7 : says 10000 (books ∷ turns X 52 52 ∷ []) (cancels D) ≡ cancel_refused 0 7
  -- too many requests
  text_8 : says 1 (books ∷ []) (cancels D) ≡ cancel_refused 99 8
  -- side or symbol
  text_9_side : says 10000 (books ∷ []) (cancel_of D W 50 []) ≡ cancel_refused 99 9
  text_9_symbol : says 10000 (books ∷ []) (cancel_of D X 49 []) ≡ cancel_refused 99 9
  -- rejected by the venue, which gives no reason
  text_10 : says 10000 (books ∷ cancels D ∷ []) (reject_of (X_ 1) []) ≡ cancel_refused 99 10
  -- not sent before restart
  text_11 : says 10000 (books ∷ cancels D ∷ turns X 52 52 ∷ []) (sends_again (X_ 1)) ≡ cancel_refused 99 11
  -- the risk verdicts 1 to 7
  text_12 : says 10000 (books ∷ []) (replace_of D 101 [] 1) ≡ replace_refused 99 12
  text_13 : says 10000 (books ∷ []) (replace_of D 101 [] 2) ≡ replace_refused 99 13
  text_14 : says 10000 (books ∷ []) (replace_of D 101 [] 3) ≡ replace_refused 99 14
  text_15 : says 10000 (books ∷ []) (replace_of D 101 [] 4) ≡ replace_refused 99 15
  text_16 : says 10000 (books ∷ []) (replace_of D 101 [] 5) ≡ replace_refused 99 16
  text_17 : says 10000 (books ∷ []) (replace_of D 101 [] 6) ≡ replace_refused 99 17
  text_18 : says 10000 (books ∷ []) (replace_of D 101 [] 7) ≡ replace_refused 99 18

texts : Texts
unfolding called
texts = record {
  text_1 = refl;
  text_1_replace = refl;
  text_2 = refl;
  text_3 = refl;
  text_4 = refl;
  text_5 = refl;
  text_6 = refl;
  text_7 = refl;
  text_8 = refl;
  text_9_side = refl;
  text_9_symbol = refl;
  text_10 = refl;
  text_11 = refl;
  text_12 = refl;
  text_13 = refl;
  text_14 = refl;
  text_15 = refl;
  text_16 = refl;
  text_17 = refl;
  text_18 = refl;
}

-- ---- reasons: ours are above, with origin 1

record Reasons : Type 0 where
  -- the first send fails: reason 99, ours, in a report with ExecType 8
  first_send : says 10000 (books ∷ []) (send_fails X) ≡ tells 16 56 0 99 1 0
  -- the venue's own reason goes on as it is, origin 2: of a cancel, of a replace, and of the order
  of_cancel : says 10000 (books ∷ cancels D ∷ []) (rejects (X_ 1) 1) ≡ tells 17 0 1 1 2 10
  of_replace : says 10000 (books ∷ replaces D 101 ∷ []) (rejects (X_ 1) 1234567) ≡ tells 17 0 2 1234567 2 10
  of_order : says 10000 (books ∷ []) (report_of X 56 56 0 0 0 0 (number 19 4 99 ∷ [])) ≡ tells 16 56 0 99 2 0
  -- 0 too late and 1 unknown give a gateway cancel up at once; with 2 it is tried again
  too_late : says 10000 (books ∷ gateway_cancels ∷ []) (rejects (X_ 1) 0) ≡ alarms 1
  unknown : says 10000 (books ∷ gateway_cancels ∷ []) (rejects (X_ 1) 1) ≡ alarms 1
  another : says 10000 (books ∷ gateway_cancels ∷ []) (rejects (X_ 1) 2) ≡ tells 19 0 0 0 0 0
  -- 5 unknown order, in a status report (ExecType I, OrdStatus 8), says unknown at venue; 6 is a rejection
  unknown_order : says 10000 (books ∷ []) (report_of X 73 56 0 0 0 0 (number 19 4 5 ∷ [])) ≡ alarms 4
  not_unknown : says 10000 (books ∷ []) (report_of X 73 56 0 0 0 0 (number 19 4 6 ∷ [])) ≡ tells 16 73 0 6 2 0

reasons : Reasons
unfolding called
reasons = record {
  first_send = refl;
  of_cancel = refl;
  of_replace = refl;
  of_order = refl;
  too_late = refl;
  unknown = refl;
  another = refl;
  unknown_order = refl;
  not_unknown = refl;
}

-- ---- alarms

record Alarms : Type 0 where
  -- stuck cancel
  alarm_1 : says 10000 (books ∷ gateway_cancels ∷ []) (rejects (X_ 1) 0) ≡ alarms 1
  -- overfill
  alarm_2 : says 10000 (books ∷ []) (fills 101 101 (money 10) (money 10)) ≡ alarms 2
  -- unknown order: events 4, 5 and 6; and for 7, 8 and 9 none
  alarm_3_report : says 10000 [] (fills 40 40 (money 10) (money 10)) ≡ alarms 3
  alarm_3_unknown : says 10000 [] (unknown_to_venue X) ≡ alarms 3
  alarm_3_reject : says 10000 [] (rejects X 1) ≡ alarms 3
  none_failed : says 10000 [] (send_fails X) ≡ alarms 0
  none_again : says 10000 [] (sends_again X) ≡ alarms 0
  none_cancel : says 10000 [] gateway_cancels ≡ alarms 0
  -- unknown at venue
  alarm_4 : says 10000 (books ∷ []) (unknown_to_venue X) ≡ alarms 4
  -- fill on done order
  alarm_5 : says 10000 (books ∷ turns X 52 52 ∷ []) (fills 40 40 (money 10) (money 10)) ≡ alarms 5
  -- filled, but short: alone, and before alarm 1 in one answer
  alarm_6 : says 10000 (books ∷ gateway_cancels ∷ []) (turns (X_ 1) 54 50) ≡ alarms 6
  alarm_6_1 : says 10000 (books ∷ gateway_cancels ∷ []) (reject_of (X_ 1) (number 13 1 50 ∷ number 19 4 1 ∷ [])) ≡ said_of [] 6 1

alarms_pinned : Alarms
unfolding called
alarms_pinned = record {
  alarm_1 = refl;
  alarm_2 = refl;
  alarm_3_report = refl;
  alarm_3_unknown = refl;
  alarm_3_reject = refl;
  none_failed = refl;
  none_again = refl;
  none_cancel = refl;
  alarm_4 = refl;
  alarm_5 = refl;
  alarm_6 = refl;
  alarm_6_1 = refl;
}

-- ---- codes: which statuses end an order, the kinds of messages, and ExecTypes of our own

record Codes : Type 0 where
  -- 2 with all that is ordered filled, 4, C and 8 end it; A, 0, 1, 6 and E do not, nor does 2 with less, and a cancel goes out
  done_filled : says 10000 (books ∷ report_of X 70 50 100 (money 10) 100 (money 10) [] ∷ []) (cancels D) ≡ cancel_refused 0 7
  done_canceled : says 10000 (books ∷ turns X 52 52 ∷ []) (cancels D) ≡ cancel_refused 0 7
  done_expired : says 10000 (books ∷ turns X 67 67 ∷ []) (cancels D) ≡ cancel_refused 0 7
  done_rejected : says 10000 (books ∷ turns X 56 56 ∷ []) (cancels D) ≡ cancel_refused 0 7
  live_filled_short : says 10000 (books ∷ turns X 70 50 ∷ []) (cancels D) ≡ tells 19 0 0 0 0 0
  live_pending_new : says 10000 (books ∷ turns X 65 65 ∷ []) (cancels D) ≡ tells 19 0 0 0 0 0
  live_new : says 10000 (books ∷ turns X 48 48 ∷ []) (cancels D) ≡ tells 19 0 0 0 0 0
  live_partial : says 10000 (books ∷ turns X 70 49 ∷ []) (cancels D) ≡ tells 19 0 0 0 0 0
  live_pending_cancel : says 10000 (books ∷ turns X 54 54 ∷ []) (cancels D) ≡ tells 19 0 0 0 0 0
  live_pending_replace : says 10000 (books ∷ turns X 69 69 ∷ []) (cancels D) ≡ tells 19 0 0 0 0 0
  -- 18 a new order, 20 a replace; a cancel that was taken, redelivered: a report with ExecType I
  new_order : says 10000 (books ∷ []) (sends_again X) ≡ tells 18 0 0 0 0 0
  a_replace : says 10000 (books ∷ []) (replaces D 101) ≡ tells 20 0 0 0 0 0
  status_report : says 10000 (books ∷ cancels D ∷ []) (cancel_of D W 49 (mark 21 ∷ [])) ≡ tells 16 73 0 0 0 0

codes : Codes
unfolding called
codes = record {
  done_filled = refl;
  done_canceled = refl;
  done_expired = refl;
  done_rejected = refl;
  live_filled_short = refl;
  live_pending_new = refl;
  live_new = refl;
  live_partial = refl;
  live_pending_cancel = refl;
  live_pending_replace = refl;
  new_order = refl;
  a_replace = refl;
  status_report = refl;
}
