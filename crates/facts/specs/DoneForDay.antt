-- Done for the day: OrdStatus 3, by smallest lists of events, each beside what comes of it. Rests on Play and on Short's words.
-- Near readings that are wrong are ruled out: a 3 that is done, or leaves what is ordered less what is filled; one that is New, or PartiallyFilled, and repeats such an
-- order; one that a fill takes away, or that turns PartiallyFilled by it; one that accepts no replace, or refuses no request; leaves 0 as a bound of what may be filled.
use Rattle.std.specs.Prelude.{ℕ, ◌≡◌, refl, true, false, List, [], ◌∷◌}
use Rattle.prelude.specs.Cases.{if◌then◌otherwise◌}
use Rattle.store.specs.Book.{Book}
use Rattle.store.specs.Orders.{no_pending}
use Rattle.machine.specs.Orders.{as_asked}
use Rattle.machine.specs.Rules.{rules}
use Rattle.facts.specs.Play.{number, spelled, mark, bytes, shares, money, X, X_, C, D, W, books, cancel_of, cancels, replaces, report_of, acknowledges, turns, unknown_to_venue, reject_of, rejects, send_fails, sends_again, gateway_cancels, called, empty, playing, order_x, state, links, request, standing, first, cancelling, replace_of}
use Rattle.facts.specs.Short.{Summary, comes_on, comes, came, report, reject, sent, left, alone, filled_at, partly}

-- ---- as the questions take it: New if nothing is filled, else PartiallyFilled; any other status is asked as it is

record Asked : Type 0 where
  at_zero : as_asked 0 51 ≡ 48
  above : as_asked 1 51 ≡ 49
  pending_cancel : as_asked 1 54 ≡ 54

asked : Asked
unfolding as_asked if◌then◌otherwise◌
asked = record { at_zero = refl; above = refl; pending_cancel = refl }

-- ---- the events

-- ExecType 3 and status 3, nothing filled
abbrev ends : List ℕ
ends = turns X 51 51

-- a 3 at a cumulative with a LastQty, in a report under a name
abbrev day_at : (downstream : List ℕ) (exectype last cum : ℕ) → List ℕ
day_at downstream exectype last cum = report_of downstream exectype 51 last (money 10) cum (money 10) []

-- a report at a cumulative with a LastQty and a status
abbrev fills_as : (status last cum : ℕ) → List ℕ
fills_as status last cum = report_of X 70 status last (money 10) cum (money 10) []

-- a fill without a status
abbrev silent : (last cum : ℕ) → List ℕ
silent last cum =
    bytes 4
    (number 1 2 3 ∷ spelled 5 X ∷ number 12 1 70 ∷ number 14 8 (shares last) ∷ number 15 8 (money 10) ∷ number 16 8 (shares cum) ∷ number 17 8 (money 10) ∷ [])

-- a refusal with a status
abbrev refused_as : (downstream : List ℕ) (status : ℕ) → List ℕ
refused_as downstream status = reject_of downstream (number 13 1 status ∷ [])

-- a replace goes out
abbrev replace_sent : Summary
replace_sent = record { kind = 20; exectype = 0; status = 0; last = 0; leaves = 0 }

-- ---- set by a report: told as 3, with nothing left

record Reports : Type 0 where
  at_zero : comes [] ends ≡ came (report 51 51 0 0 ∷ []) 0 0 (alone 51 0 0)
  after_new : comes (acknowledges ∷ []) ends ≡ came (report 51 51 0 0 ∷ []) 0 0 (alone 51 0 0)
  above : comes (partly 40 ∷ []) (day_at X 51 0 40) ≡ came (report 51 51 0 0 ∷ []) 0 0 (alone 51 40 0)
  -- with a fill, even of all that is ordered, it is a Trade, and the status is no other
  trade : comes [] (day_at X 51 40 40) ≡ came (report 70 51 40 0 ∷ []) 0 0 (alone 51 40 0)
  all : comes [] (day_at X 70 100 100) ≡ came (report 70 51 100 0 ∷ []) 0 0 (alone 51 100 0)
  -- 3/3 again is told again; 0/3 repeats it, at a cumulative above 0 too
  again : comes (ends ∷ []) ends ≡ came (report 51 51 0 0 ∷ []) 0 0 (alone 51 0 0)
  repeated : comes (ends ∷ []) (turns X 48 51) ≡ came [] 0 0 (alone 51 0 0)
  repeated_above : comes (day_at X 70 40 40 ∷ []) (day_at X 73 0 40) ≡ came [] 0 0 (alone 51 40 0)
  -- it repeats neither New nor PartiallyFilled, and they do not repeat it
  not_new : comes (acknowledges ∷ []) (turns X 48 51) ≡ came (report 48 51 0 0 ∷ []) 0 0 (alone 51 0 0)
  not_partial : comes (partly 40 ∷ []) (day_at X 73 0 40) ≡ came (report 73 51 0 0 ∷ []) 0 0 (alone 51 40 0)
  new : comes (ends ∷ []) (turns X 48 48) ≡ came (report 48 48 0 100 ∷ []) 0 0 (alone 48 0 100)
  partial : comes (day_at X 70 40 40 ∷ []) (report_of X 73 49 0 0 40 (money 10) []) ≡ came (report 73 49 0 60 ∷ []) 0 0 (alone 49 40 60)
  -- a resent fill is stale
  resent : comes (day_at X 70 40 40 ∷ []) (day_at X 70 40 40) ≡ came [] 0 0 (alone 51 40 0)
  lower : comes (partly 40 ∷ []) (day_at X 51 0 30) ≡ came [] 0 0 (alone 49 40 60)
  -- ExecType 8 with it under the order's first request refuses no request: it is a report
  of_first : comes [] (turns X 56 51) ≡ came (report 56 51 0 0 ∷ []) 0 0 (alone 51 0 0)
  -- F/3 with nothing filled repeats it too
  repeated_trade : comes (ends ∷ []) (turns X 70 51) ≡ came [] 0 0 (alone 51 0 0)
  -- above what is ordered it is an overfill as with any status, and is not set
  overfilled : comes [] (day_at X 51 101 101) ≡ came [] 2 0 (alone 65 0 100)

reports : Reports
unfolding called
reports = record {
  at_zero = refl;
  after_new = refl;
  above = refl;
  trade = refl;
  all = refl;
  again = refl;
  repeated = refl;
  repeated_above = refl;
  not_new = refl;
  not_partial = refl;
  new = refl;
  partial = refl;
  resent = refl;
  lower = refl;
  of_first = refl;
  repeated_trade = refl;
  overfilled = refl;
}

-- ---- it stays: through a fill without a status, or with one that is dropped; what is filled is bounded by what is ordered, and no fill on it is an alarm 5

record Stays : Type 0 where
  silently : comes (ends ∷ []) (silent 40 40) ≡ came (report 70 51 40 0 ∷ []) 0 0 (alone 51 40 0)
  to_all : comes (ends ∷ []) (silent 100 100) ≡ came (report 70 51 100 0 ∷ []) 0 0 (alone 51 100 0)
  over : comes (ends ∷ []) (silent 101 101) ≡ came [] 2 0 (alone 51 0 0)
  -- PendingNew is behind it
  pending_new : comes (ends ∷ []) (turns X 65 65) ≡ came [] 0 0 (alone 51 0 0)
  pending_new_fill : comes (ends ∷ []) (fills_as 65 40 40) ≡ came (report 70 51 40 0 ∷ []) 0 0 (alone 51 40 0)
  -- and so is New under the request that an accepted replace superseded
  superseded : comes (replaces D 150 ∷ turns (X_ 1) 53 51 ∷ []) (turns X 48 48) ≡ came [] 0 0 (left 51 0 150 0 false false (1 ∷ 1 ∷ []))
  superseded_fill : comes (replaces D 150 ∷ turns (X_ 1) 53 51 ∷ []) (fills_as 49 40 40) ≡ came (report 70 51 40 0 ∷ []) 0 0 (left 51 40 150 0 false false (1 ∷ 1 ∷ []))
  -- a failed first send is dropped, and the order is not sent again: it is not PendingNew
  first_fails : comes (ends ∷ []) (send_fails X) ≡ came [] 0 0 (alone 51 0 0)
  first_again : comes (ends ∷ []) (sends_again X) ≡ came [] 0 0 (alone 51 0 0)
  -- a client's request that was not sent is refused at 3
  cancel_fails : comes (ends ∷ cancels D ∷ []) (send_fails (X_ 1)) ≡ came (reject 51 ∷ []) 0 0 (left 51 0 100 0 false false (0 ∷ 1 ∷ []))
  replace_fails : comes (day_at X 70 40 40 ∷ replaces D 150 ∷ []) (send_fails (X_ 1)) ≡ came (reject 51 ∷ []) 0 0 (left 51 40 100 0 false false (0 ∷ 1 ∷ []))

stays : Stays
unfolding called
stays = record {
  silently = refl;
  to_all = refl;
  over = refl;
  pending_new = refl;
  pending_new_fill = refl;
  superseded = refl;
  superseded_fill = refl;
  first_fails = refl;
  first_again = refl;
  cancel_fails = refl;
  replace_fails = refl;
}

-- ---- a later report sets another

record Later : Type 0 where
  filling : comes (ends ∷ []) (fills_as 49 40 40) ≡ came (report 70 49 40 60 ∷ []) 0 0 (alone 49 40 60)
  filled : comes (ends ∷ []) (filled_at X 70 100 100) ≡ came (report 70 50 100 0 ∷ []) 0 0 (alone 50 100 0)
  canceled : comes (ends ∷ []) (turns X 52 52) ≡ came (report 52 52 0 0 ∷ []) 0 0 (alone 52 0 0)
  expired : comes (ends ∷ []) (turns X 67 67) ≡ came (report 67 67 0 0 ∷ []) 0 0 (alone 67 0 0)
  rejected : comes (ends ∷ []) (turns X 56 56) ≡ came (report 56 56 0 0 ∷ []) 0 0 (alone 56 0 0)
  pending_cancel : comes (ends ∷ cancels D ∷ []) (turns (X_ 1) 54 54) ≡ came (report 54 54 0 100 ∷ []) 0 0 (left 54 0 100 100 false false (0 ∷ 0 ∷ []))
  -- New at a cumulative above 0 is PartiallyFilled, as after any status
  new_above : comes (day_at X 70 40 40 ∷ []) (report_of X 48 48 0 0 40 (money 10) []) ≡ came (report 48 49 0 60 ∷ []) 0 0 (alone 49 40 60)
  -- Filled, but short, is New or PartiallyFilled with alarm 6: not a 3 again
  short : comes (ends ∷ []) (turns X 48 50) ≡ came (report 48 48 0 100 ∷ []) 6 0 (alone 48 0 100)
  short_above : comes (ends ∷ []) (filled_at X 70 40 40) ≡ came (report 70 49 40 60 ∷ []) 6 0 (alone 49 40 60)
  -- once the order is done, a 3 changes nothing, or is a fill on a done order
  done : comes (turns X 52 52 ∷ []) ends ≡ came [] 0 0 (alone 52 0 0)
  done_fill : comes (turns X 52 52 ∷ []) (day_at X 51 40 40) ≡ came [] 5 0 (alone 52 0 0)

later : Later
unfolding called
later = record {
  filling = refl;
  filled = refl;
  canceled = refl;
  expired = refl;
  rejected = refl;
  pending_cancel = refl;
  new_above = refl;
  short = refl;
  short_above = refl;
  done = refl;
  done_fill = refl;
}

-- ---- behind a pending cancel or replace, as New and PartiallyFilled are, unless it accepts the replace

record Behind : Type 0 where
  cancel : comes (cancels D ∷ turns (X_ 1) 54 54 ∷ []) ends ≡ came [] 0 0 (left 54 0 100 100 false false (0 ∷ 0 ∷ []))
  cancel_own : comes (cancels D ∷ turns (X_ 1) 54 54 ∷ []) (turns (X_ 1) 51 51) ≡ came [] 0 0 (left 54 0 100 100 false false (0 ∷ 0 ∷ []))
  replace : comes (replaces D 150 ∷ turns (X_ 1) 69 69 ∷ []) ends ≡ came [] 0 0 (left 69 0 100 100 true false (0 ∷ 0 ∷ []))
  -- above a cumulative of 0; and a fill applies without it
  cancel_above : comes (partly 40 ∷ cancels D ∷ report_of (X_ 1) 54 54 0 0 40 (money 10) [] ∷ []) (day_at X 51 0 40) ≡ came [] 0 0 (left 54 40 100 60 false false (0 ∷ 0 ∷ []))
  cancel_fill : comes (cancels D ∷ turns (X_ 1) 54 54 ∷ []) (day_at X 70 40 40) ≡ came (report 70 54 40 60 ∷ []) 0 0 (left 54 40 100 60 false false (0 ∷ 0 ∷ []))
  replace_fill : comes (replaces D 150 ∷ turns (X_ 1) 69 69 ∷ []) (day_at X 70 40 40) ≡ came (report 70 69 40 60 ∷ []) 0 0 (left 69 40 100 60 true false (0 ∷ 0 ∷ []))
  -- while the order is not pending it is set: a cancel or a replace alone is no status
  not_pending : comes (cancels D ∷ []) ends ≡ came (report 51 51 0 0 ∷ []) 0 0 (left 51 0 100 0 false false (0 ∷ 0 ∷ []))
  not_pending_replace : comes (replaces D 150 ∷ []) ends ≡ came (report 51 51 0 0 ∷ []) 0 0 (left 51 0 100 0 true false (0 ∷ 0 ∷ []))
  -- under the pending replace it accepts, from 3, New and PendingReplace
  accepts : comes (replaces D 150 ∷ []) (turns (X_ 1) 53 51) ≡ came (report 53 51 0 0 ∷ []) 0 0 (left 51 0 150 0 false false (1 ∷ 1 ∷ []))
  accepts_day : comes (ends ∷ replaces D 150 ∷ []) (turns (X_ 1) 51 51) ≡ came (report 51 51 0 0 ∷ []) 0 0 (left 51 0 150 0 false false (1 ∷ 1 ∷ []))
  accepts_pending : comes (replaces D 150 ∷ turns (X_ 1) 69 69 ∷ []) (turns (X_ 1) 53 51) ≡ came (report 53 51 0 0 ∷ []) 0 0 (left 51 0 150 0 false false (1 ∷ 1 ∷ []))
  accepts_fill : comes (replaces D 150 ∷ []) (day_at (X_ 1) 53 120 120) ≡ came (report 70 51 120 0 ∷ []) 0 0 (left 51 120 150 0 false false (1 ∷ 1 ∷ []))
  -- under the request that the replace superseded it is settled
  settled : comes (replaces D 150 ∷ turns (X_ 1) 53 48 ∷ []) ends ≡ came [] 0 0 (left 48 0 150 150 false false (1 ∷ 1 ∷ []))
  -- a 3 is not Canceled: the cancel stays open
  open_cancel : comes (cancels D ∷ []) (turns (X_ 1) 51 51) ≡ came (report 51 51 0 0 ∷ []) 0 0 (left 51 0 100 0 false false (0 ∷ 0 ∷ []))
  open_cancel_above : comes (partly 40 ∷ cancels D ∷ []) (day_at (X_ 1) 51 0 40) ≡ came (report 51 51 0 0 ∷ []) 0 0 (left 51 40 100 0 false false (0 ∷ 0 ∷ []))
  open_cancel_fill : comes (cancels D ∷ []) (day_at (X_ 1) 54 100 100) ≡ came (report 70 51 100 0 ∷ []) 0 0 (left 51 100 100 0 false false (0 ∷ 0 ∷ []))

behind : Behind
unfolding called
behind = record {
  cancel = refl;
  cancel_own = refl;
  replace = refl;
  cancel_above = refl;
  cancel_fill = refl;
  replace_fill = refl;
  not_pending = refl;
  not_pending_replace = refl;
  accepts = refl;
  accepts_day = refl;
  accepts_pending = refl;
  accepts_fill = refl;
  settled = refl;
  open_cancel = refl;
  open_cancel_above = refl;
  open_cancel_fill = refl;
}

-- ---- requests on it go out, and it is told as it stands

record Requests : Type 0 where
  cancel : comes (ends ∷ []) (cancels D) ≡ came (sent ∷ []) 0 0 (left 51 0 100 0 false false (0 ∷ 0 ∷ []))
  replace : comes (ends ∷ []) (replaces D 150) ≡ came (replace_sent ∷ []) 0 0 (left 51 0 100 0 true false (0 ∷ 0 ∷ []))
  replace_above : comes (day_at X 70 40 40 ∷ []) (replaces D 40) ≡ came (replace_sent ∷ []) 0 0 (left 51 40 100 0 true false (0 ∷ 0 ∷ []))
  replace_below : comes (day_at X 70 40 40 ∷ []) (replaces D 39) ≡ came (reject 51 ∷ []) 0 0 (alone 51 40 0)
  gateways : comes (ends ∷ []) gateway_cancels ≡ came (sent ∷ []) 0 0 (left 51 0 100 0 false true (0 ∷ 0 ∷ []))
  -- its requests are sent again, as those of any live order are
  cancel_again : comes (ends ∷ cancels D ∷ []) (sends_again (X_ 1)) ≡ came (sent ∷ []) 0 0 (left 51 0 100 0 false false (0 ∷ 0 ∷ []))
  replace_again : comes (ends ∷ replaces D 150 ∷ []) (sends_again (X_ 1)) ≡ came (replace_sent ∷ []) 0 0 (left 51 0 100 0 true false (0 ∷ 0 ∷ []))
  -- a request that was taken, redelivered
  status : comes (ends ∷ cancels D ∷ []) (cancel_of D W 49 (mark 21 ∷ [])) ≡ came (report 73 51 0 0 ∷ []) 0 0 (left 51 0 100 0 false false (0 ∷ 0 ∷ []))
  -- a live order that the venue does not know is an alarm 4
  unknown : comes (ends ∷ []) (unknown_to_venue X) ≡ came [] 4 0 (alone 51 0 0)
  unknown_above : comes (day_at X 70 40 40 ∷ []) (unknown_to_venue X) ≡ came [] 4 0 (alone 51 40 0)
  -- an order that is filled whole is not done by a 3 either: requests go out
  whole_cancel : comes (day_at X 70 100 100 ∷ []) (cancels D) ≡ came (sent ∷ []) 0 0 (left 51 100 100 0 false false (0 ∷ 0 ∷ []))
  whole_replace : comes (day_at X 70 100 100 ∷ []) (replaces D 150) ≡ came (replace_sent ∷ []) 0 0 (left 51 100 100 0 true false (0 ∷ 0 ∷ []))
  whole_gateways : comes (day_at X 70 100 100 ∷ []) gateway_cancels ≡ came (sent ∷ []) 0 0 (left 51 100 100 0 false true (0 ∷ 0 ∷ []))
  again_above : comes (day_at X 70 40 40 ∷ cancels D ∷ []) (sends_again (X_ 1)) ≡ came (sent ∷ []) 0 0 (left 51 40 100 0 false false (0 ∷ 0 ∷ []))
  -- what a replace adds is judged by what is ordered, though nothing is left: to as much, neither block nor verdict counts; to more, each does
  no_risk : comes (ends ∷ []) (replace_of D 100 (mark 22 ∷ []) 3) ≡ came (replace_sent ∷ []) 0 0 (left 51 0 100 0 true false (0 ∷ 0 ∷ []))
  blocked : comes (ends ∷ []) (replace_of D 101 (mark 22 ∷ []) 0) ≡ came (reject 51 ∷ []) 0 0 (alone 51 0 0)
  risk : comes (ends ∷ []) (replace_of D 101 [] 3) ≡ came (reject 51 ∷ []) 0 0 (alone 51 0 0)

requests : Requests
unfolding called
requests = record {
  cancel = refl;
  replace = refl;
  replace_above = refl;
  replace_below = refl;
  gateways = refl;
  cancel_again = refl;
  replace_again = refl;
  status = refl;
  unknown = refl;
  unknown_above = refl;
  whole_cancel = refl;
  whole_replace = refl;
  whole_gateways = refl;
  again_above = refl;
  no_risk = refl;
  blocked = refl;
  risk = refl;
}

-- ---- refusals: a 3 is set, over PendingCancel and PendingReplace too; without a status it stays

record Refusals : Type 0 where
  over_cancel : comes (cancels D ∷ turns (X_ 1) 54 54 ∷ []) (refused_as (X_ 1) 51) ≡ came (reject 51 ∷ []) 0 0 (left 51 0 100 0 false false (0 ∷ 1 ∷ []))
  over_replace : comes (replaces D 150 ∷ turns (X_ 1) 69 69 ∷ []) (refused_as (X_ 1) 51) ≡ came (reject 51 ∷ []) 0 0 (left 51 0 100 0 false false (0 ∷ 1 ∷ []))
  above : comes (partly 40 ∷ cancels D ∷ []) (refused_as (X_ 1) 51) ≡ came (reject 51 ∷ []) 0 0 (left 51 40 100 0 false false (0 ∷ 1 ∷ []))
  -- a refusal sets it on an order that is filled whole too: of a cancel, of a replace, by a report, and of the gateway's cancel, which is tried again; New is PartiallyFilled there
  whole : comes (partly 100 ∷ cancels D ∷ []) (refused_as (X_ 1) 51) ≡ came (reject 51 ∷ []) 0 0 (left 51 100 100 0 false false (0 ∷ 1 ∷ []))
  whole_replace : comes (partly 100 ∷ replaces D 150 ∷ []) (refused_as (X_ 1) 51) ≡ came (reject 51 ∷ []) 0 0 (left 51 100 100 0 false false (0 ∷ 1 ∷ []))
  whole_by_report : comes (partly 100 ∷ cancels D ∷ []) (turns (X_ 1) 56 51) ≡ came (reject 51 ∷ []) 0 0 (left 51 100 100 0 false false (0 ∷ 1 ∷ []))
  whole_gateway : comes (partly 100 ∷ gateway_cancels ∷ []) (refused_as (X_ 1) 51) ≡ came (sent ∷ []) 0 0 (left 51 100 100 0 false true (0 ∷ 1 ∷ 0 ∷ []))
  whole_another : comes (partly 100 ∷ cancels D ∷ []) (refused_as (X_ 1) 48) ≡ came (reject 49 ∷ []) 0 0 (left 49 100 100 0 false false (0 ∷ 1 ∷ []))
  without : comes (ends ∷ cancels D ∷ []) (rejects (X_ 1) 99) ≡ came (reject 51 ∷ []) 0 0 (left 51 0 100 0 false false (0 ∷ 1 ∷ []))
  another : comes (ends ∷ cancels D ∷ []) (refused_as (X_ 1) 48) ≡ came (reject 48 ∷ []) 0 0 (left 48 0 100 100 false false (0 ∷ 1 ∷ []))
  short : comes (ends ∷ cancels D ∷ []) (refused_as (X_ 1) 50) ≡ came (reject 48 ∷ []) 6 0 (left 48 0 100 100 false false (0 ∷ 1 ∷ []))
  -- with ExecType 8 it is some status, and refuses a request: a cancel, and the pending replace, which it does not accept. Its CumQty counts for nothing.
  cancel : comes (cancels D ∷ []) (turns (X_ 1) 56 51) ≡ came (reject 51 ∷ []) 0 0 (left 51 0 100 0 false false (0 ∷ 1 ∷ []))
  replace : comes (replaces D 150 ∷ []) (turns (X_ 1) 56 51) ≡ came (reject 51 ∷ []) 0 0 (left 51 0 100 0 false false (0 ∷ 1 ∷ []))
  own_cum : comes (cancels D ∷ []) (day_at (X_ 1) 56 40 40) ≡ came (reject 51 ∷ []) 0 0 (left 51 0 100 0 false false (0 ∷ 1 ∷ []))
  own_zero : comes (partly 40 ∷ cancels D ∷ []) (turns (X_ 1) 56 51) ≡ came (reject 51 ∷ []) 0 0 (left 51 40 100 0 false false (0 ∷ 1 ∷ []))
  without_above : comes (day_at X 70 40 40 ∷ cancels D ∷ []) (rejects (X_ 1) 99) ≡ came (reject 51 ∷ []) 0 0 (left 51 40 100 0 false false (0 ∷ 1 ∷ []))
  -- of the first request, or of a done order, it sets nothing
  first_request : comes [] (refused_as X 51) ≡ came [] 0 0 (alone 65 0 100)
  of_done : comes (cancels D ∷ turns X 52 52 ∷ []) (refused_as (X_ 1) 51) ≡ came (reject 52 ∷ []) 0 0 (left 52 0 100 0 false false (0 ∷ 1 ∷ []))

refusals : Refusals
unfolding called
refusals = record {
  over_cancel = refl;
  over_replace = refl;
  above = refl;
  whole = refl;
  whole_replace = refl;
  whole_by_report = refl;
  whole_gateway = refl;
  whole_another = refl;
  without = refl;
  another = refl;
  short = refl;
  cancel = refl;
  replace = refl;
  own_cum = refl;
  own_zero = refl;
  without_above = refl;
  first_request = refl;
  of_done = refl;
}

-- ---- the gateway's cancel

record Gateway : Type 0 where
  -- an ack with a 3 is not told, and nothing is left; a rise is told
  ack : comes (gateway_cancels ∷ []) (turns (X_ 1) 54 51) ≡ came [] 0 0 (left 51 0 100 0 false true (0 ∷ 0 ∷ []))
  ack_day : comes (gateway_cancels ∷ []) (turns (X_ 1) 51 51) ≡ came [] 0 0 (left 51 0 100 0 false true (0 ∷ 0 ∷ []))
  ack_of_rise : comes (gateway_cancels ∷ []) (day_at (X_ 1) 54 40 40) ≡ came (report 70 51 40 0 ∷ []) 0 0 (left 51 40 100 0 false true (0 ∷ 0 ∷ []))
  -- under the order's own name it is told, and the gateway cancel stays
  own : comes (gateway_cancels ∷ []) ends ≡ came (report 51 51 0 0 ∷ []) 0 0 (left 51 0 100 0 false true (0 ∷ 0 ∷ []))
  -- refused with a 3 it goes on: tried again, given up, or resumed after the client's
  again : comes (gateway_cancels ∷ []) (reject_of (X_ 1) (number 13 1 51 ∷ number 19 4 99 ∷ [])) ≡ came (sent ∷ []) 0 0 (left 51 0 100 0 false true (0 ∷ 1 ∷ 0 ∷ []))
  gone : comes (gateway_cancels ∷ []) (reject_of (X_ 1) (number 13 1 51 ∷ number 19 4 1 ∷ [])) ≡ came [] 1 0 (left 51 0 100 0 false true (0 ∷ 1 ∷ []))
  resumes : comes (cancels D ∷ gateway_cancels ∷ []) (refused_as (X_ 1) 51) ≡ came (reject 51 ∷ sent ∷ []) 0 0 (left 51 0 100 0 false true (0 ∷ 1 ∷ 0 ∷ []))
  -- above a cumulative of 0 too
  ack_above : comes (partly 40 ∷ gateway_cancels ∷ []) (day_at (X_ 1) 54 0 40) ≡ came [] 0 0 (left 51 40 100 0 false true (0 ∷ 0 ∷ []))
  again_above : comes (partly 40 ∷ gateway_cancels ∷ []) (reject_of (X_ 1) (number 13 1 51 ∷ number 19 4 99 ∷ [])) ≡ came (sent ∷ []) 0 0 (left 51 40 100 0 false true (0 ∷ 1 ∷ 0 ∷ []))
  -- the order whole: an ack that is not told takes no report sequence, and the tries stay
  ack_whole : (playing (empty 10000) (books ∷ gateway_cancels ∷ turns (X_ 1) 54 51 ∷ [])).orders ≡ order_x (state 51 0 0 0) (links 1 1 2) no_pending (cancelling 1 false) ∷ []

gateway : Gateway
unfolding called
gateway = record {
  ack = refl;
  ack_day = refl;
  ack_of_rise = refl;
  own = refl;
  again = refl;
  gone = refl;
  resumes = refl;
  ack_above = refl;
  again_above = refl;
  ack_whole = refl;
}

-- ---- an image may hold it, at any cumulative, with pending terms and a gateway cancel; question 4 takes it in events 4 and 6, as it does no code beside the list

abbrev held : Book
held = record { setting = 10000; orders = standing 51 40 (money 10) 2 ∷ []; requests = first ∷ [] }

abbrev held_pending : Book
held_pending = record {
  setting = 10000;
  orders =
      order_x (state 51 0 0 2) (links 2 1 3) (record { request = 2; qty = shares 150; price = money 10; ordtype = 50; timeinforce = 0 }) (cancelling 1 false) ∷ [];
  requests = first ∷ request 2 0 D C (X_ 1) ∷ request 3 0 [] [] (X_ 2) ∷ [];
}

record Held : Type 0 where
  kept : rules held ≡ true
  kept_pending : rules held_pending ≡ true
  filled : comes_on held (silent 60 100) ≡ came (report 70 51 60 0 ∷ []) 0 0 (alone 51 100 0)
  report_taken : (called (playing (empty 10000) (books ∷ [])) ends).refusal ≡ 0
  refusal_taken : (called (playing (empty 10000) (books ∷ [])) (refused_as X 51)).refusal ≡ 0
  report_unlisted : (called (playing (empty 10000) (books ∷ [])) (turns X 51 55)).refusal ≡ 4
  refusal_unlisted : (called (playing (empty 10000) (books ∷ [])) (refused_as X 55)).refusal ≡ 4
  -- nor are FIX's others: 5, 9, B and D
  replaced_unlisted : (called (playing (empty 10000) (books ∷ [])) (turns X 48 53)).refusal ≡ 4
  suspended_unlisted : (called (playing (empty 10000) (books ∷ [])) (turns X 48 57)).refusal ≡ 4
  calculated_unlisted : (called (playing (empty 10000) (books ∷ [])) (turns X 48 66)).refusal ≡ 4
  bidding_unlisted : (called (playing (empty 10000) (books ∷ [])) (turns X 48 68)).refusal ≡ 4

is_held : Held
unfolding called
is_held = record {
  kept = refl;
  kept_pending = refl;
  filled = refl;
  report_taken = refl;
  refusal_taken = refl;
  report_unlisted = refl;
  refusal_unlisted = refl;
  replaced_unlisted = refl;
  suspended_unlisted = refl;
  calculated_unlisted = refl;
  bidding_unlisted = refl;
}
