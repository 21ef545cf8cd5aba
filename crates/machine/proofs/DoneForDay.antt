-- Done for the day: its statements proved. A test that is the same of New, PartiallyFilled and a 3 is the same of a status and of what it is asked as. Rests on DoneForDay.
use Rattle.std.proofs.Common.{ℕ, ◌-◌, ◌≡◌, refl, sym, ap, ◌∙◌, Bool, true, false, not, ◌&&◌, ◌||◌, eqb, eqb-true}
use Rattle.std.proofs.lemmas.Bool.{and_parts}
use Rattle.prelude.specs.Cases.{if◌then◌otherwise◌}
use Rattle.prelude.specs.Laws.Cases.{split_if, if_false}
use Rattle.format.specs.Codes.{pending_new, new, partially_filled, pending_cancel, pending_replace, rejected, done_for_day, exec_status, exec_rejected}
use Rattle.store.specs.declared.Order.{Order}
use Rattle.store.specs.declared.Request.{Request}
use Rattle.machine.specs.Constants.{unknown_order_reason}
use Rattle.machine.specs.Orders.{is_done, leaves_of, has_pending, as_asked, status_at, is_short, unless_short, set_status}
use Rattle.machine.specs.Changes.{Event, has}
use Rattle.machine.specs.declared.Findings.{Findings}
use Rattle.machine.specs.declared.Reject.{Reject}
use Rattle.machine.specs.GatewayCancel.{outstanding_cancel, gateway_cancel_in_flight}
use Rattle.machine.specs.Amend.{matches, amend_refusal, cancel_refusal, check_replace, replace_refusal, resendable}
use Rattle.machine.specs.Report.{says_unknown_at_venue, is_rejection, pending_here, behind, stale, repeats, status_taken, accepts}
use Rattle.machine.specs.DoneForDay.{Stands, TakenAs, asked_report, asked_order, ReportAsked, OrderAsked, RequestsAsked, RepeatsItself}

-- ---- what it is

left : (s qty cumqty : ℕ) → is_done s ≡ false → eqb s done_for_day ≡ false → leaves_of s qty cumqty ≡ qty - cumqty
unfolding leaves_of
left s qty cumqty a b = rw (a, b) (unfold if◌then◌otherwise◌ in refl)

pub stands : Stands
unfolding is_done leaves_of set_status status_at unless_short is_short if◌then◌otherwise◌
stands = record { live = refl; leaves = λ qty cumqty. refl; others = left; set = λ o. refl }

-- ---- as it is asked

tested : (t : ℕ → Bool) → t new ≡ t done_for_day → t partially_filled ≡ t done_for_day → (cumqty s : ℕ) → t s ≡ t (as_asked cumqty s)
unfolding as_asked
tested t a b cumqty s =
    split_if (λ (n : ℕ). t s ≡ t n) (eqb s done_for_day)
    (λ e.
    let z : t s ≡ t done_for_day = ap t (eqb-true s done_for_day e) in
    split_if (λ (n : ℕ). t s ≡ t n) (eqb cumqty 0) (λ y. z ∙ sym a) (λ y. z ∙ sym b))
    (λ e. refl)

as_above : (cumqty : ℕ) → eqb cumqty 0 ≡ false → as_asked cumqty done_for_day ≡ partially_filled
unfolding as_asked
as_above cumqty a = rw a (unfold if◌then◌otherwise◌ in refl)

pub taken_as : TakenAs
unfolding as_asked
taken_as = record { zero = unfold if◌then◌otherwise◌ in refl; above = as_above; others = λ cumqty s a. if_false _ _ _ a }

-- asked again it is the same
again : (cumqty s : ℕ) → as_asked cumqty (as_asked cumqty s) ≡ as_asked cumqty s
unfolding as_asked
again cumqty s =
    split_if (λ (n : ℕ). as_asked cumqty n ≡ n) (eqb s done_for_day)
    (λ y. split_if (λ (n : ℕ). as_asked cumqty n ≡ n) (eqb cumqty 0) (λ z. unfold if◌then◌otherwise◌ in refl) (λ z. unfold if◌then◌otherwise◌ in refl))
    (λ y. if_false _ _ _ y)

unknown : (e : Event) → says_unknown_at_venue e ≡ says_unknown_at_venue (asked_report e)
unfolding says_unknown_at_venue
unknown e =
    tested (λ (n : ℕ). eqb e.exec.exectype exec_status && eqb n rejected && (has e 19 && eqb e.reason unknown_order_reason)) refl refl e.exec.cumqty e.exec.status

rejection : (e : Event) → is_rejection e ≡ is_rejection (asked_report e)
unfolding is_rejection
rejection e = tested (λ (n : ℕ). eqb n rejected || (eqb e.exec.exectype exec_rejected && not (eqb n 0))) refl refl e.exec.cumqty e.exec.status

behind_asked : (k : ℕ) (q : Request) (o : Order) (e : Event) → behind k q o e ≡ behind k q o (asked_report e)
unfolding behind
behind_asked k q o e = rw (again e.exec.cumqty e.exec.status)

stale_asked : (k : ℕ) (q : Request) (o : Order) (e : Event) → stale k q o e ≡ stale k q o (asked_report e)
unfolding stale
stale_asked k q o e = rw (behind_asked k q o e)

-- a status that is taken accepts the pending replace
abbrev taking : ℕ → Order → Event → ℕ → Bool
taking k o e s = pending_here k o && not (is_rejection e) && (not (eqb s 0) && not (eqb s pending_replace))

taking_asked : (k : ℕ) (o : Order) (e : Event) (b : Bool) → taking k o e (if b then 0 otherwise e.exec.status) ≡ taking k o e (if b then 0 otherwise as_asked e.exec.cumqty e.exec.status)
unfolding if◌then◌otherwise◌
taking_asked k o e true = refl
taking_asked k o e false = tested (taking k o e) refl refl e.exec.cumqty e.exec.status

accepts_asked : (k : ℕ) (q : Request) (o : Order) (e : Event) → accepts k q o e ≡ accepts k q o (asked_report e)
unfolding accepts status_taken
accepts_asked k q o e = taking_asked k o e (behind k q o e) ∙ rw (rejection e, behind_asked k q o e)

pub report_asked : ReportAsked
report_asked = record { unknown = unknown; rejection = rejection; behind! = behind_asked; stale! = stale_asked; accepts! = accepts_asked }

-- ---- booked

done : (o : Order) → is_done o.state.status ≡ is_done (asked_order o).state.status
done o = tested is_done (unfold is_done in refl) (unfold is_done in refl) o.state.cumqty o.state.status

pending : (o : Order)
    → (eqb o.state.status pending_cancel || eqb o.state.status pending_replace) ≡ (eqb (asked_order o).state.status pending_cancel || eqb (asked_order o).state.status pending_replace)
pending o = tested (λ (n : ℕ). eqb n pending_cancel || eqb n pending_replace) refl refl o.state.cumqty o.state.status

unacknowledged : (o : Order) → eqb o.state.status pending_new ≡ eqb (asked_order o).state.status pending_new
unacknowledged o = tested (λ (n : ℕ). eqb n pending_new) refl refl o.state.cumqty o.state.status

behind_booked : (k : ℕ) (q : Request) (o : Order) (e : Event) → behind k q o e ≡ behind k q (asked_order o) e
unfolding behind pending_here
behind_booked k q o e = rw (unacknowledged o, pending o)

stale_booked : (k : ℕ) (q : Request) (o : Order) (e : Event) → stale k q o e ≡ stale k q (asked_order o) e
unfolding stale
stale_booked k q o e = rw (done o, behind_booked k q o e)

accepts_booked : (k : ℕ) (q : Request) (o : Order) (e : Event) → accepts k q o e ≡ accepts k q (asked_order o) e
unfolding accepts status_taken pending_here
accepts_booked k q o e = rw (behind_booked k q o e)

pub order_asked : OrderAsked
order_asked = record { done = done; unacknowledged = unacknowledged; pending = pending; behind! = behind_booked; stale! = stale_booked; accepts! = accepts_booked }

amend_asked : (f : Findings) (order : ℕ) (full : Bool) (o : Order) (e : Event) (own : Reject)
    → amend_refusal f order full o e own ≡ amend_refusal f order full (asked_order o) e own
unfolding amend_refusal matches
amend_asked f order full o e own = rw (done o)

resend_asked : (q : Request) (venue : ℕ) (o : Order) → resendable q venue o ≡ resendable q venue (asked_order o)
unfolding resendable
resend_asked q venue o = rw (done o)

pub requests_asked : RequestsAsked
unfolding cancel_refusal replace_refusal check_replace gateway_cancel_in_flight outstanding_cancel has_pending
requests_asked = record { amend = amend_asked; cancel = λ f o. refl; replace = λ f o e. refl; resend = resend_asked }

-- ---- equal only to itself

pub repeats_itself : RepeatsItself
unfolding repeats
repeats_itself k o e h =
    let at : Bool = eqb o.links.current k in
    let same : Bool = eqb e.exec.status o.state.status in
    let filled : Bool = eqb e.exec.cumqty o.state.cumqty in
    let quiet : Bool = eqb e.exec.lastqty 0 in
    let (p, _) = and_parts (at && same && filled && quiet) _ h in
    let (u, _) = and_parts (at && same && filled) quiet p in
    ap (λ (n : ℕ). eqb n done_for_day) (eqb-true e.exec.status o.state.status (and_parts at same (and_parts (at && same) filled u).0).1)
