-- Done for the day (change request 14): OrdStatus 3, of any order, request and report. Rests on Orders, Amend and Report; the proofs are in proofs/DoneForDay.
-- The status ends nothing and leaves nothing; once set it stands; and the questions take it as New or PartiallyFilled, but for the one that compares two statuses.
use Rattle.std.specs.Prelude.{ℕ, ◌-◌, ◌≡◌, Bool, true, false, ◌||◌, eqb}
use Rattle.format.specs.Codes.{pending_new, new, partially_filled, pending_cancel, pending_replace, done_for_day}
use Rattle.store.specs.declared.Order.{Order}
use Rattle.store.specs.declared.Request.{Request}
use Rattle.machine.specs.Orders.{is_done, leaves_of, as_asked, set_status, with_state}
use Rattle.machine.specs.Changes.{Event}
use Rattle.machine.specs.declared.Findings.{Findings}
use Rattle.machine.specs.declared.Reject.{Reject}
use Rattle.machine.specs.Amend.{amend_refusal, cancel_refusal, replace_refusal, resendable}
use Rattle.machine.specs.Report.{says_unknown_at_venue, is_rejection, behind, stale, repeats, accepts}

-- what it is, and what setting it does
pub record Stands : Type 0 where
  pub live : is_done done_for_day ≡ false
  -- nothing is left while it lasts; of any other live order what is ordered less what is filled
  pub leaves : (qty cumqty : ℕ) → leaves_of done_for_day qty cumqty ≡ 0
  pub others : (s qty cumqty : ℕ) → is_done s ≡ false → eqb s done_for_day ≡ false → leaves_of s qty cumqty ≡ qty - cumqty
  -- set at any cumulative it stands, and nothing else of the order moves: pending terms and gateway cancel stay
  pub set : (o : Order) → set_status done_for_day o ≡ with_state (record { status = done_for_day; cumqty = o.state.cumqty; avgpx = o.state.avgpx; execseq = o.state.execseq }) o

-- what it is taken as; any other status is taken as itself
pub record TakenAs : Type 0 where
  pub zero : as_asked 0 done_for_day ≡ new
  pub above : (cumqty : ℕ) → eqb cumqty 0 ≡ false → as_asked cumqty done_for_day ≡ partially_filled
  pub others : (cumqty s : ℕ) → eqb s done_for_day ≡ false → as_asked cumqty s ≡ s

-- a report with its status as it is asked, by its own CumQty; an order with its status, by the booked
abbrev pub asked_report : Event → Event
asked_report e = record {
  kind = e.kind;
  map = e.map;
  client = e.client;
  venue = e.venue;
  reason = e.reason;
  verdict = e.verdict;
  ids = e.ids;
  terms = e.terms;
  exec = record {
    exectype = e.exec.exectype;
    status = as_asked e.exec.cumqty e.exec.status;
    lastqty = e.exec.lastqty;
    lastpx = e.exec.lastpx;
    cumqty = e.exec.cumqty;
    avgpx = e.exec.avgpx;
  };
  told = e.told;
  text = e.text;
}

abbrev pub asked_order : Order → Order
asked_order o = with_state (record { status = as_asked o.state.cumqty o.state.status; cumqty = o.state.cumqty; avgpx = o.state.avgpx; execseq = o.state.execseq }) o

-- each question about a reported status has the same answer for a 3 as for what it is taken as
pub record ReportAsked : Type 0 where
  pub unknown : (e : Event) → says_unknown_at_venue e ≡ says_unknown_at_venue (asked_report e)
  pub rejection : (e : Event) → is_rejection e ≡ is_rejection (asked_report e)
  pub behind! : (k : ℕ) (q : Request) (o : Order) (e : Event) → behind k q o e ≡ behind k q o (asked_report e)
  pub stale! : (k : ℕ) (q : Request) (o : Order) (e : Event) → stale k q o e ≡ stale k q o (asked_report e)
  pub accepts! : (k : ℕ) (q : Request) (o : Order) (e : Event) → accepts k q o e ≡ accepts k q o (asked_report e)

-- and each about the booked one: is it done, PendingNew, or pending a cancel or replace; with them those about a report
pub record OrderAsked : Type 0 where
  pub done : (o : Order) → is_done o.state.status ≡ is_done (asked_order o).state.status
  pub unacknowledged : (o : Order) → eqb o.state.status pending_new ≡ eqb (asked_order o).state.status pending_new
  pub pending : (o : Order)
      → (eqb o.state.status pending_cancel || eqb o.state.status pending_replace) ≡ (eqb (asked_order o).state.status pending_cancel || eqb (asked_order o).state.status pending_replace)
  pub behind! : (k : ℕ) (q : Request) (o : Order) (e : Event) → behind k q o e ≡ behind k q (asked_order o) e
  pub stale! : (k : ℕ) (q : Request) (o : Order) (e : Event) → stale k q o e ≡ stale k q (asked_order o) e
  pub accepts! : (k : ℕ) (q : Request) (o : Order) (e : Event) → accepts k q o e ≡ accepts k q (asked_order o) e

-- what refuses a cancel or a replace, or sends one again, does so of a 3 as of what it is taken as, whatever is filled
pub record RequestsAsked : Type 0 where
  pub amend : (f : Findings) (order : ℕ) (full : Bool) (o : Order) (e : Event) (own : Reject)
      → amend_refusal f order full o e own ≡ amend_refusal f order full (asked_order o) e own
  pub cancel : (f : Findings) (o : Order) → cancel_refusal f o ≡ cancel_refusal f (asked_order o)
  pub replace : (f : Findings) (o : Order) (e : Event) → replace_refusal f o e ≡ replace_refusal f (asked_order o) e
  pub resend : (q : Request) (venue : ℕ) (o : Order) → resendable q venue o ≡ resendable q venue (asked_order o)

-- reported against booked, a 3 is equal only to another 3
abbrev pub RepeatsItself : Type 0
RepeatsItself = (k : ℕ) (o : Order) (e : Event) → repeats k o e ≡ true → eqb e.exec.status done_for_day ≡ eqb o.state.status done_for_day
