-- Which status a venue's event leaves (change requests 8 and 14), and when alarm 6 comes (change request 8): of every book and every event. Rests on Machine.
-- It is said by the papers' own questions (`stale`, `repeats`, `behind`, `accepts`) and by no handler. The proofs are in proofs/Venue.
-- `link` is that of the request that the event names, and `order` that request's order as it was.
use Rattle.std.specs.Prelude.{ℕ, ◌+◌, ◌≤◌, ◌≡◌, Bool, true, false, not, ◌&&◌, ◌||◌, eqb, ltb, Some}
use Rattle.prelude.specs.Cases.{if◌then◌otherwise◌, maybe}
use Rattle.format.specs.Codes.{pending_new, new, partially_filled, filled, pending_cancel, pending_replace, rejected}
use Rattle.store.specs.declared.Order.{Order}
use Rattle.store.specs.declared.Request.{Request}
use Rattle.store.specs.Book.{Book, order_in, request_in}
use Rattle.store.specs.Finds.{find_downstream}
use Rattle.machine.specs.Constants.{filled_short}
use Rattle.machine.specs.Orders.{is_done}
use Rattle.machine.specs.Changes.{Event, is_first, is_answered}
use Rattle.machine.specs.Report.{says_unknown_at_venue, is_rejection, behind, stale, repeats, accepts}
use Rattle.machine.specs.Machine.{step_of, after}
use Rattle.machine.specs.Rules.{rules}

-- ---- which events set a status

-- an event 4, unless it says what an event 5 says
abbrev pub is_report : Event → Bool
is_report e = eqb e.kind 4 && not (says_unknown_at_venue e)

-- the report rejects a cancel or a replace
abbrev pub rejects : Request → Event → Bool
rejects request event = is_rejection event && not (is_first request)

-- a refusal of the request: an event 6, or a report that rejects it
unfoldable pub refuses : Request → Event → Bool
refuses request event = eqb event.kind 6 || (is_report event && rejects request event)

-- any other report is one of the order
unfoldable pub reports : Request → Event → Bool
reports request event = is_report event && not (rejects request event)

-- the quantity that a report leaves: that of the replace which it accepts, or the order's own
unfoldable pub qty_by : (link : ℕ) → Request → Order → Event → ℕ
qty_by link request order event = if accepts link request order event then order.pending.qty otherwise order.terms.qty

-- from another venue, or to an order already done, nothing is taken
abbrev pub heard : Order → Event → Bool
heard o e = eqb o.venue e.venue && not (is_done o.state.status)

-- nor is a refusal taken of a request that is answered, or of the first
unfoldable pub takes_refusal : Request → Order → Event → Bool
takes_refusal request order event = refuses request event && (heard order event && (not (is_answered request) && not (is_first request)))

-- nor a report that is stale, repeats what the order has, or overfills it
unfoldable pub takes_report : (link : ℕ) → Request → Order → Event → Bool
takes_report link request order event =
    reports request event && (heard order event
    && (not (stale link request order event) && (not (repeats link order event) && not (ltb (qty_by link request order event) event.exec.cumqty))))

-- the status that it brings to the order, 0 for none: a report's Rejected is the refused request's, and what is `behind` is dropped
unfoldable pub brings : (link : ℕ) → Request → Order → Event → ℕ
brings link request order event =
    if refuses request event then (if eqb event.kind 4 && eqb event.exec.status rejected then 0 otherwise event.exec.status)
    otherwise if behind link request order event then 0
    otherwise event.exec.status

-- ---- what is left

-- a status as it is set: a Filled below the quantity is New at cumulative 0 and PartiallyFilled above it, and above it so are New and PendingNew
unfoldable pub as_set : (qty cumqty s : ℕ) → ℕ
as_set qty cumqty s =
    if eqb s filled && ltb cumqty qty then (if eqb cumqty 0 then new otherwise partially_filled)
    otherwise if (eqb s new || eqb s pending_new) && not (eqb cumqty 0) then partially_filled
    otherwise s

-- a refusal leaves the status that it brings; if it brings none the order is no longer held pending
unfoldable pub refused_to : Order → (s : ℕ) → ℕ
refused_to o s =
    if not (eqb s 0) then as_set o.terms.qty o.state.cumqty s
    otherwise if eqb o.state.status pending_cancel || eqb o.state.status pending_replace then as_set o.terms.qty o.state.cumqty new
    otherwise o.state.status

-- a report leaves the status that it brings, or the order's own
unfoldable pub reported_to : (qty cumqty : ℕ) → Order → (s : ℕ) → ℕ
reported_to qty cumqty o s = as_set qty cumqty (if eqb s 0 then o.state.status otherwise s)

-- the order as it is left: the report's cumulative, the quantity of the replace that it accepts, and the status. What is not taken leaves all three.
pub record Left (link : ℕ) (request : Request) (order : Order) (event : Event) (left : Order) : Type 0 where
  pub cumqty : left.state.cumqty ≡ (if takes_report link request order event then event.exec.cumqty otherwise order.state.cumqty)
  pub qty : left.terms.qty ≡ (if takes_report link request order event then qty_by link request order event otherwise order.terms.qty)
  pub status : left.state.status
      ≡ (if takes_refusal request order event then refused_to order (brings link request order event)
      otherwise if takes_report link request order event
      then reported_to (qty_by link request order event) event.exec.cumqty order (brings link request order event)
      otherwise order.state.status)

-- THE STATUS THAT IS SET: of every order of a book that keeps its rules, and every event of a venue that is taken
abbrev pub StatusSet : Type 0
StatusSet = (b : Book) (e : Event) → rules b ≡ true → (step_of b e).refusal ≡ 0 → 4 ≤ e.kind → e.kind ≤ 6
    → (k : ℕ) → find_downstream b e.ids.downstream ≡ Some k
    → let q = request_in b k in Left (k + 1) q (order_in b q.order) e (order_in (after b (step_of b e)) q.order)

-- ---- alarm 6

-- the event's Filled is taken, and the order left is below its quantity
unfoldable pub short_of : (link : ℕ) → Request → Order → Event → (left : Order) → Bool
short_of link request order event left =
    (takes_refusal request order event || takes_report link request order event)
    && (eqb (brings link request order event) filled && ltb left.state.cumqty left.terms.qty)

unfoldable pub taken_short : Book → Event → (left : Book) → Bool
taken_short b e left =
    maybe false (λ k. let q = request_in b k in short_of (k + 1) q (order_in b q.order) e (order_in left q.order)) (find_downstream b e.ids.downstream)

-- ALARM 6 comes exactly then; a second alarm is never 6 (`AlarmsRight`)
abbrev pub SixRight : Type 0
SixRight = (b : Book) (e : Event) → rules b ≡ true → (step_of b e).refusal ≡ 0
    → eqb (step_of b e).output.alarm filled_short ≡ taken_short b e (after b (step_of b e))
