-- Every change, by the way that it was put together: the ways, of which each property of changes is an induction. Rests on Machine.
-- That every handler goes one of them is in Walked.
use Rattle.std.proofs.Common.{ℕ, ◌-◌, ◌≤◌, ◌<◌, ◌≡◌, ◌⊎◌, Bool, true, false, not, ◌&&◌, eqb}
use Rattle.prelude.specs.Cases.{if◌then◌otherwise◌}
use Rattle.store.specs.declared.Order.{Order}
use Rattle.store.specs.declared.Request.{Request}
use Rattle.store.specs.Requests.{no_request}
use Rattle.text.specs.Stored.{no_text}
use Rattle.format.specs.Codes.{pending_new, rejected, exec_rejected, exec_status}
use Rattle.machine.specs.Constants as came
use Rattle.machine.specs.Constants.{cancel_kind, replace_kind, most_alarm, stuck_cancel, other, ours, text_not_sent}
use Rattle.machine.specs.Orders.{has_gateway, is_done, short_alarm, set_status, record_venue_order_id, pending_terms, next_exec, with_gateway}
use Rattle.machine.specs.Messages.{no_message, no_price, no_note, no_long_text, report, cancel_reject, new_order, cancel_request, replace_request}
use Rattle.machine.specs.Changes.{Event, Message, refusing, is_first, is_gateway, is_cancel, is_answered}
use Rattle.machine.specs.GatewayCancel.{gateway_cancel_in_flight, begun, given_up, send_gateway_cancel}
use Rattle.machine.specs.Amend.{amend_refusal, already_taken, cancel_refusal, cancel_goes, or_own, replace_refusal, priced_right, replace_goes, refused_order, refused_alarm, refused_note, venue_note, send_refused, resendable}
use Rattle.machine.specs.Report.{is_rejection, status_taken, accepts, answers_request, ordered_qty, reported_order, fill_price_of, client_report}
use Rattle.machine.specs.Machine.{text_note}
use Rattle.machine.specs.Outcomes.{outcome_by}
use Rattle.machine.specs.declared.Findings.{Findings}
use Rattle.machine.specs.declared.Note.{Note}
use Rattle.machine.specs.declared.Reject.{Reject}
use Rattle.machine.specs.declared.Refused.{Refused}
use Rattle.machine.specs.declared.Output.{Output}
use Rattle.machine.specs.declared.Change.{Change}

-- ---- a change written out

-- nothing is told, and this alarm is raised, 0 for none
abbrev pub calm : (alarm : ℕ) → Output
calm a = record { count = 0; first = no_message; second = no_message; alarm = a; alarm2 = 0 }

-- one message, and this alarm
abbrev pub says : Message → (alarm : ℕ) → Output
says m a = record { count = 1; first = m; second = no_message; alarm = a; alarm2 = 0 }

-- the gateway cannot cancel the order: its alarm, behind the first one if there is one
abbrev pub stuck_behind : (alarm : ℕ) → Output
stuck_behind a = record { count = 0; first = no_message; second = no_message; alarm = if eqb a 0 then stuck_cancel otherwise a; alarm2 = if eqb a 0 then 0 otherwise stuck_cancel }

-- the order that is left, the links of the requests answered and superseded, what they come to, and what is put out. No request is added.
abbrev pub left : (place : ℕ) → Order → (answered superseded outcome : ℕ) → Output → Change
left p x j s v out = record { refusal = 0; place = p; order = x; requests = record { answered = j; superseded = s; outcome = v; added = 0; request = no_request }; output = out }

abbrev pub findings : (place : ℕ) (cancel : Request) (requests : ℕ) → Findings
findings p x n = record { place = p; requests = n; cancel = x }

-- ---- events 4 to 8: k is the link of the request that the event names, q that request, and o its order

module _ (k : ℕ) (q : Request) (o : Order) (e : Event) where
  -- the note of a send that failed, and what its request comes to
  pub data Failure : Note → ℕ → Type 0 where
    told_us : outcome_by e ≡ came.failed_to_send → Failure (text_note e) came.failed_to_send
    not_sent : outcome_by e ≡ came.refused → Failure (record { text = no_long_text; fixedtext = text_not_sent; reason = 0; origin = 0 }) came.refused

  -- what refuses the request
  pub data From : Refused → Type 0 where
    by_report : outcome_by e ≡ came.refused
        → From (record { status = if eqb e.exec.status rejected then 0 otherwise e.exec.status; venueorderid = e.ids.venueorderid; note = text_note e; outcome = came.refused })
    by_reject : outcome_by e ≡ came.refused → From (record { status = e.exec.status; venueorderid = e.ids.venueorderid; note = venue_note e; outcome = came.refused })
    by_failure : {n : Note} {v : ℕ} → Failure n v → From (record { status = o.state.status; venueorderid = no_text; note = n; outcome = v })

  -- the request may be refused
  pub record Open : Type 0 where
    pub later : is_first q ≡ false
    pub there : eqb o.venue e.venue ≡ true
    pub unanswered : is_answered q ≡ false

  -- a request refused: nothing changes; the gateway's is answered, and given up or not; the client's is answered and the client told
  pub data Refuses : Order → ℕ → ℕ → ℕ → Output → Type 0 where
    still : Refuses o 0 0 0 (calm 0)
    gone : {r : Refused} → From r → Open → is_gateway q ≡ true → Refuses (refused_order k r o) k 0 r.outcome (calm (refused_alarm r o))
    given_up_lem : {r : Refused} → From r → Open → is_gateway q ≡ true → has_gateway (refused_order k r o) ≡ true
        → Refuses (with_gateway (given_up (refused_order k r o)) (refused_order k r o)) k 0 r.outcome (stuck_behind (refused_alarm r o))
    told : {r : Refused} → From r → Open → is_gateway q ≡ false
        → Refuses (refused_order k r o) k 0 r.outcome
        (says (cancel_reject o.client o.names.name (refused_order k r o).state.status q.clordid q.origclordid q.kind (refused_note r.note)) (refused_alarm r o))

  -- a send that failed
  pub data Fails : Order → ℕ → ℕ → ℕ → Output → Type 0 where
    unfailed : Fails o 0 0 0 (calm 0)
    refused : {x : Order} {j s v : ℕ} {out : Output} → Refuses x j s v out → is_gateway q ≡ false → Fails x j s v out
    freed : {n : Note} {v : ℕ} → Failure n v → is_gateway q ≡ true → has_gateway o ≡ false → Fails o k 0 v (calm 0)
    fell : {n : Note} {v : ℕ} → Failure n v → eqb o.venue e.venue ≡ true → is_gateway q ≡ true → is_answered q ≡ false → has_gateway o ≡ true
        → Fails (with_gateway (send_refused o.gateway) o) k 0 v (calm 0)
    ended : {n : Note} {v : ℕ} → Failure n v → is_first q ≡ true → is_gateway q ≡ false → eqb o.state.status pending_new ≡ true
        → Fails (next_exec (set_status rejected o)) k 0 v
        (says (report (next_exec (set_status rejected o)) (next_exec (set_status rejected o)).names.clordid no_text exec_rejected 0 no_price
        (record { text = n.text; fixedtext = n.fixedtext; reason = other; origin = ours })) 0)

  -- a request sent again, or a send that failed
  pub data Resends : Order → ℕ → ℕ → ℕ → Output → Type 0 where
    new_again : Resends o 0 0 0 (says (new_order o q.downstream) 0)
    cancel_again : is_cancel q ≡ true → Resends o 0 0 0 (says (cancel_request o q.downstream) 0)
    replace_again : eqb o.pending.request k ≡ true → Resends o 0 0 0 (says (replace_request o q.downstream (pending_terms o)) 0)
    failing : {x : Order} {j s v : ℕ} {out : Output} → resendable q e.venue o && is_cancel q ≡ false → Fails x j s v out → Resends x j s v out

  -- a report that is applied: of a live order, neither less than was filled nor more than was ordered, and a rejection at most of the first request
  pub record Applied : Type 0 where
    pub kind : eqb e.kind 4 ≡ true
    pub live : is_done o.state.status ≡ false
    pub up : o.state.cumqty ≤ e.exec.cumqty
    pub fits : e.exec.cumqty ≤ ordered_qty (accepts k q o e) o
    pub first : is_rejection e && not (is_first q) ≡ false

  abbrev pub reported : Order
  reported = reported_order (accepts k q o e) (status_taken k q o e) q o e

  abbrev pub reported_alarm : ℕ
  reported_alarm = short_alarm (ordered_qty (accepts k q o e) o) e.exec.cumqty (status_taken k q o e)

  -- the links of the requests that it answers, and what they come to
  pub data Settles : ℕ → ℕ → ℕ → Type 0 where
    replaced : accepts k q o e ≡ true → outcome_by e ≡ came.accepted → Settles k o.links.current came.accepted
    cancelled : accepts k q o e ≡ false → is_cancel q ≡ true → outcome_by e ≡ came.accepted → Settles k 0 came.accepted
    neither : accepts k q o e ≡ false → Settles 0 0 0

  pub data Left : Order → ℕ → ℕ → ℕ → Output → Type 0 where
    fails : {x : Order} {j s v : ℕ} {out : Output} → eqb e.kind 7 ≡ true → Fails x j s v out → Left x j s v out
    resends : {x : Order} {j s v : ℕ} {out : Output} → eqb e.kind 7 ≡ false → Resends x j s v out → Left x j s v out
    alarms : (a : ℕ) → a ≤ most_alarm → Left o 0 0 0 (calm a)
    names : Left (record_venue_order_id e.ids.venueorderid false o) 0 0 0 (calm 0)
    applies : {j s v : ℕ} → Applied → e.exec.cumqty ≡ o.state.cumqty → Settles j s v → Left reported j s v (calm reported_alarm)
    informs : {j s v : ℕ} → Applied → Settles j s v
        → Left (next_exec reported) j s v
        (says (client_report (answers_request k q o) (e.exec.cumqty - o.state.cumqty) q (fill_price_of o e) (next_exec reported) e) reported_alarm)

  -- the order's link is p, its latest cancel x, and m and n are the counts
  module _ (p : ℕ) (x : Request) (m n : ℕ) where
    -- nothing is added, and both changes are one
    pub data Rests (L : Order → ℕ → ℕ → ℕ → Output → Type 0) : Change → Change → Type 0 where
      rests : {y : Order} {j s v : ℕ} {out : Output} → L y j s v out → Rests L (left p y j s v out) (left p y j s v out)

    -- a request refused, and the gateway's tried again
    pub data Refusing : Change → Change → Type 0 where
      quietly : {y : Order} {j s v : ℕ} {out : Output} → Refuses y j s v out → Refusing (left p y j s v out) (left p y j s v out)
      retries : {r : Refused} → From r → Open → is_gateway q ≡ true → has_gateway (refused_order k r o) ≡ true → (refused_order k r o).gateway.tries < 3
          → Refusing (send_gateway_cancel (findings p x m) (left p (refused_order k r o) k 0 r.outcome (calm (refused_alarm r o))))
          (send_gateway_cancel (findings p x n) (left p (refused_order k r o) k 0 r.outcome (calm (refused_alarm r o))))

    -- and a gateway's cancel that waited goes out
    pub data Made : Change → Change → Type 0 where
      stays : {y : Order} {j s v : ℕ} {out : Output} → Left y j s v out → Made (left p y j s v out) (left p y j s v out)
      refusing! : {c c' : Change} → eqb e.kind 7 ≡ false → Refusing c c' → Made c c'
      resumes : {y : Order} {j s v : ℕ} {out : Output} → eqb e.kind 7 ≡ false → Refuses y j s v out → has_gateway y ≡ true → y.gateway.unsent ≡ true
          → Made (send_gateway_cancel (findings p x m) (left p y j s v out)) (send_gateway_cancel (findings p x n) (left p y j s v out))

-- ---- event 9

module _ (o : Order) (p : ℕ) (x : Request) (m n : ℕ) where
  pub data Asked : Change → Change → Type 0 where
    declined : (is_done o.state.status ≡ true) ⊎ (gateway_cancel_in_flight (findings p x m) o ≡ true) → Asked (left p o 0 0 0 (calm 0)) (left p o 0 0 0 (calm 0))
    waits : is_done o.state.status ≡ false → gateway_cancel_in_flight (findings p x m) o ≡ false
        → Asked (left p (with_gateway (begun o) o) 0 0 0 (calm 0)) (left p (with_gateway (begun o) o) 0 0 0 (calm 0))
    goes : is_done o.state.status ≡ false → gateway_cancel_in_flight (findings p x m) o ≡ false
        → Asked (send_gateway_cancel (findings p x m) (left p (with_gateway (begun o) o) 0 0 0 (calm 0))) (send_gateway_cancel (findings p x n) (left p (with_gateway (begun o) o) 0 0 0 (calm 0)))

-- ---- events 2 and 3: `order` is the link of the order that the ClOrdID was used for, and `full` says that the client may use no more

-- the order's state, told again
abbrev pub status_told : Order → Event → Message
status_told o e = report (next_exec o) e.ids.clordid e.ids.origclordid exec_status 0 no_price no_note

-- a refusal of ours, told
abbrev pub refusal_told : (place responseto : ℕ) → Order → Event → Reject → Message
refusal_told p responseto o e r =
    cancel_reject e.client o.names.name (if eqb p 0 then rejected otherwise o.state.status) e.ids.clordid e.ids.origclordid responseto
    (record { text = no_long_text; fixedtext = r.fixedtext; reason = r.reason; origin = ours })

module _ (order : ℕ) (full : Bool) (o : Order) (e : Event) (p : ℕ) (x : Request) (m n : ℕ) where
  -- the caller's own refusal, by what it is a response to
  pub data Own : ℕ → Reject → Type 0 where
    of_cancel : Own cancel_kind (cancel_refusal (findings p x m) o)
    of_replace : Own replace_kind (replace_refusal (findings p x m) o e)

  pub data Amended : Change → Change → Type 0 where
    repeated : already_taken (findings p x m) order e ≡ true
        → Amended (left p (next_exec o) 0 0 0 (says (status_told o e) 0)) (left p (next_exec o) 0 0 0 (says (status_told o e) 0))
    turned : {kind : ℕ} {own : Reject} → Own kind own → not (eqb (amend_refusal (findings p x m) order full o e own).fixedtext 0) ≡ true
        → Amended (left p o 0 0 0 (says (refusal_told p kind o e (amend_refusal (findings p x m) order full o e own)) 0))
        (left p o 0 0 0 (says (refusal_told p kind o e (amend_refusal (findings p x m) order full o e own)) 0))
    unpriced : not (eqb (amend_refusal (findings p x m) order full o e (replace_refusal (findings p x m) o e)).fixedtext 0) ≡ false → Amended (refusing 6) (refusing 6)
    cancel_sent : eqb e.kind 2 ≡ true → not (eqb (amend_refusal (findings p x m) order full o e (cancel_refusal (findings p x m) o)).fixedtext 0) ≡ false
        → Amended (cancel_goes (findings p x m) o e) (cancel_goes (findings p x n) o e)
    replace_sent : not (eqb (amend_refusal (findings p x m) order full o e (replace_refusal (findings p x m) o e)).fixedtext 0) ≡ false
        → priced_right (or_own e.terms.ordtype o.terms.ordtype) e ≡ true → Amended (replace_goes (findings p x m) o e) (replace_goes (findings p x n) o e)
