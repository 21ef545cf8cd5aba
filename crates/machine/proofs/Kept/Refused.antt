-- A request that is refused or whose send failed, and a report that is applied: each keeps the rules of its order. Rests on Keep and Stepped.
use Rattle.std.proofs.Common.{ℕ, ◌+◌, ◌-◌, ◌≤◌, ◌<◌, max, arith, ◌≡◌, refl, sym, ap, subst, ◌∙◌, ⊎_elim, Bool, true, false, not, ◌&&◌, List, eqb, leb, ltb, length, eqb-true, ne_eqb, le-leb}
use Rattle.std.proofs.lemmas.Bool.{eqb-false, not-true, and_parts, and_from, or_left, not_from_false, not_from_true}
use Rattle.prelude.specs.Below.{all_below}
use Rattle.prelude.specs.Cases.{if◌then◌otherwise◌}
use Rattle.prelude.specs.Laws.Cases.{split_if, clash}
use Rattle.prelude.specs.Texts.{is_text}
use Rattle.prelude.specs.declared.Text.{Text}
use Rattle.store.specs.declared.Pending.{Pending}
use Rattle.store.specs.declared.GatewayCancel.{GatewayCancel}
use Rattle.store.specs.declared.Order.{Order}
use Rattle.store.specs.declared.Request.{Request}
use Rattle.store.specs.Book.{Book}
use Rattle.text.specs.Stored.{no_text}
use Rattle.machine.specs.Orders.{is_done, has_gateway, set_status, record_venue_order_id, pending_terms, apply_replace, next_exec, with_pending, with_gateway}
use Rattle.store.specs.Orders.{no_pending}
use Rattle.machine.specs.Changes.{Event, is_first, is_replace, is_gateway, is_cancel, is_answered}
use Rattle.machine.specs.GatewayCancel.{given_up, send_gateway_cancel}
use Rattle.machine.specs.Amend.{not_pending, refused_order, send_refused}
use Rattle.machine.specs.Report.{is_rejection, pending_here, status_taken, accepts, ordered_qty, reported_order}
use Rattle.machine.specs.Machine.{answer_link, requests_after}
use Rattle.machine.specs.Events.{Ranged}
use Rattle.format.specs.Codes.{is_status, statuses, pending_new, new, partially_filled, rejected}
use Rattle.machine.specs.Ranges.{text_within}
use Rattle.machine.specs.Rules.{gateway_range, pending_test, filled_rule, in_flight_rule}
use Rattle.machine.specs.declared.Findings.{Findings}
use Rattle.machine.specs.declared.Refused.{Refused}
use Rattle.machine.specs.declared.Output.{Output}
use Rattle.machine.specs.declared.Change.{Change}
use Rattle.machine.proofs.Made.{left, From, by_report, by_reject, by_failure, Open, Refuses, still, gone, given_up_lem, told, Fails, unfailed, refused, freed, fell, ended, new_again, cancel_again, replace_again, failing, Applied, reported, Settles, replaced, cancelled, neither, fails, resends, alarms, names, applies, informs, quietly, retries, stays, refusing!, resumes}
use Rattle.machine.proofs.Stepped.{MadeBy}
use Rattle.machine.proofs.Kept.Laws.{or_else}
use Rattle.machine.proofs.Kept.Tables.{at}
use Rattle.machine.proofs.Kept.Local.{OrderKept, Quiet, InFlight, in_flight, quiet_unsent, quiet_answer, answer_kept}
use Rattle.machine.proofs.Kept.OrderSteps.{gateway_live, sequence_kept, named_kept, gateway_kept, cleared_kept, state_kept, pending_parts, replaced_kept}
use Rattle.machine.proofs.Kept.Keep.{Owns, Kept, Here, Same, left_kept, still_kept, own_still, once_kept, answered_kept, current_link, few_tries, three_tries, tries_at, tries_unsent, not_stuck, send_kept, stuck_range}

-- ---- a request refused

-- an order after a step that clears the pending terms of request k
pub record After (i k : ℕ) (o p : Order) (qs : List Request) : Type 0 where
  pub kept : OrderKept i p qs
  pub same : Same o p
  pub live : is_done p.state.status ≡ false → is_done o.state.status ≡ false
  pub gateway : has_gateway p ≡ true → p.gateway ≡ o.gateway
  pub free : k ≡ p.pending.request → k ≡ 0

set_free : (s k : ℕ) (p : Order) → (k ≡ p.pending.request → k ≡ 0) → k ≡ (set_status s p).pending.request → k ≡ 0
unfolding set_status
set_free s k p h = split_if (λ (x : Pending). k ≡ x.request → k ≡ 0) _ (λ d z. z) (λ d z. h z)

-- the status of an order that is no longer pending
pub freed_coded : (t : Bool) → is_status (if t then partially_filled otherwise new) ≡ true
unfolding is_status statuses if◌then◌otherwise◌
freed_coded true = refl
freed_coded false = refl

set_after : (s i k : ℕ) (o p : Order) (qs : List Request) → is_done p.state.status ≡ false → is_status s ≡ true → After i k o p qs → After i k o (set_status s p) qs
set_after s i k o p qs live coded a = record {
  kept = state_kept s p.state.cumqty p.state.avgpx p.state.execseq i p qs live coded a.kept.average (unfold filled_rule in a.kept.filled) a.kept;
  same = unfold set_status in record { name = a.same.name; client = a.same.client };
  live = λ e. a.live live;
  gateway = unfold set_status has_gateway in split_if (λ (g : GatewayCancel). not (eqb g.origdownstream 0) ≡ true → g ≡ o.gateway) _ (λ d e. clash false e refl) (λ d e. a.gateway e);
  free = set_free s k p a.free;
}

module _ (i : ℕ) (o : Order) (qs : List Request) (l : OrderKept i o qs) (k : ℕ) where
  cleared_after : (given : Text) → text_within 0 32 given ≡ true
      → After i k o (with_pending (if eqb o.pending.request k then no_pending otherwise o.pending) (record_venue_order_id given false o)) qs
  unfolding record_venue_order_id
  cleared_after given w =
      let n : OrderKept i (record_venue_order_id given false o) qs = named_kept i o qs l given false w in
      split_if (λ (p : Pending). After i k o (with_pending p (record_venue_order_id given false o)) qs) (eqb o.pending.request k)
      (λ e. record { kept = cleared_kept i (record_venue_order_id given false o) qs n; same = record { name = refl; client = refl }; live = λ d. d; gateway = λ g. unfold has_gateway in refl; free = λ z. z })
      (λ e. record { kept = n; same = record { name = refl; client = refl }; live = λ d. d; gateway = λ g. refl; free = λ z. absurd (eqb-false o.pending.request k e (sym z)) })

  refused_after : (r : Refused) → (eqb r.status 0 ≡ false → is_status r.status ≡ true) → text_within 0 32 r.venueorderid ≡ true → After i k o (refused_order k r o) qs
  unfolding refused_order not_pending record_venue_order_id
  refused_after r s w =
      let a = cleared_after r.venueorderid w in
      let p : Order = with_pending (if eqb o.pending.request k then no_pending otherwise o.pending) (record_venue_order_id r.venueorderid false o) in
      split_if (λ (x : Order). After i k o x qs) _ (λ e. a)
      (λ e. split_if (λ (x : Order). After i k o x qs) _
      (λ t. set_after r.status i k o p qs e (s (not-true (eqb r.status 0) t)) a)
      (λ t. split_if (λ (x : Order). After i k o x qs) _
      (λ t. set_after _ i k o p qs e (freed_coded (ltb 0 o.state.cumqty)) a)
      (λ t. a)))

-- kinds apart
kinds_apart : (k m n : ℕ) → (m ≡ n → ⊥) → eqb k m ≡ true → eqb k n ≡ false
kinds_apart k m n d e = ne_eqb k n (λ z. d (sym (eqb-true k m e) ∙ z))

gateway_not_replace : (q : Request) → is_gateway q ≡ true → is_replace q ≡ false
unfolding is_gateway is_replace
gateway_not_replace q = kinds_apart q.kind 3 2 (omega arith)

first_not_replace : (q : Request) → is_first q ≡ true → is_replace q ≡ false
unfolding is_first is_replace
first_not_replace q = kinds_apart q.kind 0 2 (omega arith)

cancel_not_replace : (q : Request) → is_cancel q ≡ true → is_replace q ≡ false
unfolding is_cancel
cancel_not_replace q e = not-true (is_replace q) (and_parts (not (is_first q)) (not (is_replace q)) e).1

pub no_text_lem : text_within 0 32 no_text ≡ true
unfolding text_within is_text all_below
no_text_lem = refl

refused_range : (n : ℕ) (g : GatewayCancel) → not (eqb g.origdownstream 0) ≡ true → g.stuck ≡ false → gateway_range n g ≡ true → gateway_range n (send_refused g) ≡ true
unfolding gateway_range send_refused
refused_range n g some free e =
    let (e, r3) = and_parts _ _ e in
    and_from _ _ (and_from _ _ (not_from_false _ free) (and_parts (not (g.unsent && g.stuck)) (leb g.origdownstream n) e).1) (or_left _ _ some)

-- request j of the book is order i's
pub record Asked (b : Book) (i j : ℕ) (q : Request) : Type 0 where
  pub below : j < length b.requests
  pub is : q ≡ at b.requests j
  pub own : q.order ≡ i

module _ (b : Book) (i : ℕ) (f : Findings) (o : Order) (here : Here b i f o) (j : ℕ) (q : Request) (asked : Asked b i j q) where
  owns : Owns b i (j + 1)
  owns k e = subst (λ (n : ℕ). (at b.requests n).order ≡ i) (omega arith) (sym (ap (λ (x : Request). x.order) asked.is) ∙ asked.own)

  -- what the rules say of the request if it is an unanswered gateway cancel of a live order
  asked_flight : is_gateway q ≡ true → is_answered q ≡ false → is_done o.state.status ≡ false → InFlight (j + 1) o
  asked_flight g a live =
      ⊎_elim (λ s. clash (is_answered q) (or_else (not (is_gateway q)) (is_answered q) (not_from_true _ g) s) a) (λ f. f)
      (in_flight (j + 1) q o live (subst (λ (x : Request). in_flight_rule (j + 1) x o ≡ true) (sym asked.is)
      (here.kept.flight j asked.below (sym (ap (λ (x : Request). x.order) asked.is) ∙ asked.own))))

  -- none is in flight once that one is answered
  asked_quiet : (v : ℕ) → is_gateway q ≡ true → is_answered q ≡ false → is_done o.state.status ≡ false → Quiet i (answer_link (j + 1) v b.requests)
  asked_quiet v g a live = subst (λ (k : ℕ). Quiet i (answer_link k v b.requests)) (asked_flight g a live).latest (quiet_answer i v o b.requests live here.kept.flight)

  -- pending terms do not name it unless it is an unanswered replace
  asked_free : is_replace q ≡ false → j + 1 ≡ o.pending.request → j + 1 ≡ 0
  asked_free r z =
      let some : eqb o.pending.request 0 ≡ false = ne_eqb o.pending.request 0 (λ y. omega arith) in
      let t : pending_test (at b.requests (o.pending.request - 1)) ≡ true = (pending_parts i o b.requests some here.kept).link.passes in
      let same : at b.requests (o.pending.request - 1) ≡ q = ap (at b.requests) (omega arith) ∙ sym asked.is in
      clash (is_replace q) (and_parts (is_replace q) (not (is_answered q)) (subst (λ (x : Request). pending_test x ≡ true) same t)).0 r

  -- what refuses the request is in range
  module _ (e : Event) (ranged : Ranged e) where
    from_coded : {r : Refused} → From (j + 1) q o e r → (eqb r.status 0 ≡ false → is_status r.status ≡ true) × (text_within 0 32 r.venueorderid ≡ true)
    from_coded (by_report v) = (split_if (λ (n : ℕ). eqb n 0 ≡ false → is_status n ≡ true) _ (λ t h. clash true refl h) (λ t h. ranged.status h), ranged.venueorderid)
    from_coded (by_reject v) = (ranged.status, ranged.venueorderid)
    from_coded (by_failure n) = (λ z. here.kept.coded, no_text_lem)

    after_refusal : {r : Refused} → From (j + 1) q o e r → After i (j + 1) o (refused_order (j + 1) r o) b.requests
    after_refusal {r} w = let (s, t) = from_coded w in refused_after i o b.requests here.kept (j + 1) r s t

    gone_kept : {r : Refused} {out : Output} → From (j + 1) q o e r → Kept b i (left f.place (refused_order (j + 1) r o) (j + 1) 0 r.outcome out)
    gone_kept w = let a = after_refusal w in answered_kept b i f o here a.same owns a.free a.kept

    -- a gateway cancel that was sent, and is settled now
    record Sent (v : ℕ) (p : Order) : Type 0 where
      live : is_done p.state.status ≡ false
      quiet : Quiet i (answer_link (j + 1) v b.requests)
      sent : p.gateway.unsent ≡ false
      free : p.gateway.stuck ≡ false

    sent_after : {r : Refused} → From (j + 1) q o e r → Open (j + 1) q o e → is_gateway q ≡ true → has_gateway (refused_order (j + 1) r o) ≡ true → Sent r.outcome (refused_order (j + 1) r o)
    sent_after {r} w u g h =
        let p : Order = refused_order (j + 1) r o in
        let a : After i (j + 1) o p b.requests = after_refusal w in
        let live : is_done p.state.status ≡ false = gateway_live p a.kept.done h in
        let flight : InFlight (j + 1) o = asked_flight g u.unanswered (a.live live) in
        record {
          live = live;
          quiet = asked_quiet r.outcome g u.unanswered (a.live live);
          sent = ap (λ (x : GatewayCancel). x.unsent) (a.gateway h) ∙ flight.sent;
          free = ap (λ (x : GatewayCancel). x.stuck) (a.gateway h) ∙ flight.free;
        }

    up_kept : {r : Refused} {out : Output} → From (j + 1) q o e r → Open (j + 1) q o e → is_gateway q ≡ true → has_gateway (refused_order (j + 1) r o) ≡ true
        → Kept b i (left f.place (with_gateway (given_up (refused_order (j + 1) r o)) (refused_order (j + 1) r o)) (j + 1) 0 r.outcome out)
    up_kept {r} w u g h =
        let p : Order = refused_order (j + 1) r o in
        let a : After i (j + 1) o p b.requests = after_refusal w in
        let s : Sent r.outcome p = sent_after w u g h in
        let l : OrderKept i p (answer_link (j + 1) r.outcome b.requests) = answer_kept i (j + 1) r.outcome p b.requests a.free a.kept in
        once_kept b i f o here (record { name = a.same.name; client = a.same.client }) owns
        (gateway_kept i p _ l (given_up p) s.live s.quiet (stuck_range _ p h s.sent l.gateway) (unfold given_up in three_tries (given_up p) s.sent (tries_at p.gateway l.tries)))

    refuses_kept : {y : Order} {k s v : ℕ} {out : Output} → Refuses (j + 1) q o e y k s v out → Kept b i (left f.place y k s v out)
    refuses_kept still = own_still b i f o here
    refuses_kept (gone w u g) = gone_kept w
    refuses_kept (given_up_lem w u g h) = up_kept w u g h
    refuses_kept (told w u g) = gone_kept w

    retried_kept : {r : Refused} (out : Output) → From (j + 1) q o e r → Open (j + 1) q o e → is_gateway q ≡ true → has_gateway (refused_order (j + 1) r o) ≡ true → (refused_order (j + 1) r o).gateway.tries < 3
        → Kept b i (send_gateway_cancel f (left f.place (refused_order (j + 1) r o) (j + 1) 0 r.outcome out))
    retried_kept {r} out w u g h few =
        let s : Sent r.outcome (refused_order (j + 1) r o) = sent_after w u g h in
        send_kept b i f o here _
        (record { kept = gone_kept w; idle = refl; live = s.live; quiet = unfold requests_after answer_link if◌then◌otherwise◌ in s.quiet; few = omega arith; free = s.free })

  -- the one that waited goes
  resumed_kept : {y : Order} {k s v : ℕ} {out : Output} → Kept b i (left f.place y k s v out) → has_gateway y ≡ true → y.gateway.unsent ≡ true → Kept b i (send_gateway_cancel f (left f.place y k s v out))
  resumed_kept {y} {k} {s} {v} {out} l g u =
      let live : is_done y.state.status ≡ false = gateway_live y l.rule.done g in
      send_kept b i f o here _
      (record {
        kept = l;
        idle = refl;
        live = live;
        quiet = quiet_unsent i y (requests_after b.requests (left f.place y k s v out)) live u l.rule.flight;
        few = tries_unsent y.gateway u l.rule.tries;
        free = not_stuck _ y.gateway u l.rule.gateway;
      })

  -- ---- a send that failed

  failed_gateway : {v : ℕ} {out : Output} → is_gateway q ≡ true → is_answered q ≡ false → has_gateway o ≡ true → Kept b i (left f.place (with_gateway (send_refused o.gateway) o) (j + 1) 0 v out)
  failed_gateway {v} g un h =
      let live : is_done o.state.status ≡ false = gateway_live o here.kept.done h in
      let flight : InFlight (j + 1) o = asked_flight g un live in
      let l : OrderKept i o (answer_link (j + 1) v b.requests) = answer_kept i (j + 1) v o b.requests (asked_free (gateway_not_replace q g)) here.kept in
      let few : o.gateway.tries ≤ 3 = tries_at o.gateway here.kept.tries in
      once_kept b i f o here (record { name = refl; client = refl }) owns
      (gateway_kept i o _ l (send_refused o.gateway) live (asked_quiet v g un live)
      (refused_range _ o.gateway (unfold has_gateway in h) flight.free l.gateway) (unfold send_refused in few_tries (send_refused o.gateway) 2 (omega arith) (omega arith)))

  first_failed : {v : ℕ} {out : Output} → is_first q ≡ true → eqb o.state.status pending_new ≡ true → Kept b i (left f.place (next_exec (set_status rejected o)) (j + 1) 0 v out)
  unfolding next_exec
  first_failed first s =
      let live : is_done o.state.status ≡ false = subst (λ (x : ℕ). is_done x ≡ false) (sym (eqb-true o.state.status pending_new s)) (unfold is_done in refl) in
      let same : After i (j + 1) o o b.requests =
      record { kept = here.kept; same = record { name = refl; client = refl }; live = λ d. d; gateway = λ g. refl; free = asked_free (first_not_replace q first) } in
      let a : After i (j + 1) o (set_status rejected o) b.requests = set_after rejected i (j + 1) o o b.requests live (unfold is_status statuses in refl) same in
      answered_kept b i f o here (record { name = a.same.name; client = a.same.client }) owns a.free (sequence_kept i _ b.requests a.kept)

  -- ---- a report

  -- the order as the report leaves it
  record Reported (accepted : Bool) (p : Order) : Type 0 where
    kept : OrderKept i p b.requests
    same : Same o p
    none : accepted ≡ true → (k : ℕ) → k ≡ p.pending.request → k ≡ 0
    left : accepted ≡ false → (k : ℕ) → (k ≡ o.pending.request → k ≡ 0) → k ≡ p.pending.request → k ≡ 0

  sequence_reported : (accepted : Bool) (p : Order) → Reported accepted p → Reported accepted (next_exec p)
  unfolding next_exec
  sequence_reported accepted p r = record {
    kept = sequence_kept i p b.requests r.kept;
    same = record { name = r.same.name; client = r.same.client };
    none = r.none;
    left = r.left;
  }

  module _ (e : Event) (ranged : Ranged e) (clordid : is_replace q ≡ true → text_within 1 32 q.clordid ≡ true) (downstream : text_within 1 32 q.downstream ≡ true) where
    -- the pending terms that a report accepts are those of its request
    accepts_here : accepts (j + 1) q o e ≡ true → o.pending.request ≡ j + 1
    unfolding accepts pending_here
    accepts_here a = eqb-true o.pending.request (j + 1) (and_parts (eqb o.pending.request (j + 1)) (not (is_rejection e)) (and_parts (eqb o.pending.request (j + 1) && not (is_rejection e)) _ a).0).0

    status_given : (s : ℕ) → s ≡ status_taken (j + 1) q o e → is_status (if eqb s 0 then o.state.status otherwise s) ≡ true
    status_given s is = split_if (λ (n : ℕ). is_status n ≡ true) _ (λ z. here.kept.coded) (λ z. taken z is)
      where
        taken : eqb s 0 ≡ false → s ≡ status_taken (j + 1) q o e → is_status s ≡ true
        taken z is = unfold status_taken in
            split_if (λ (n : ℕ). s ≡ n → is_status s ≡ true) _ (λ d k. absurd (eqb-false s 0 z k))
            (λ d k. subst (λ (n : ℕ). is_status n ≡ true) (sym k) (ranged.status (sym (ap (λ (n : ℕ). eqb n 0) k) ∙ z))) is

    reported_order_lem : (accepted : Bool) (s : ℕ) → accepted ≡ accepts (j + 1) q o e → s ≡ status_taken (j + 1) q o e → is_done o.state.status ≡ false
        → max e.exec.cumqty o.state.cumqty ≤ ordered_qty accepted o → Reported accepted (reported_order accepted s q o e)
    unfolding reported_order ordered_qty if◌then◌otherwise◌ apply_replace pending_terms record_venue_order_id
    reported_order_lem true s is taken live fits =
        let p : Order = record_venue_order_id e.ids.venueorderid true o in
        let l : OrderKept i p b.requests = named_kept i o b.requests here.kept e.ids.venueorderid true ranged.venueorderid in
        let pending : o.pending.request ≡ j + 1 = accepts_here (sym is) in
        let some : eqb o.pending.request 0 ≡ false = ne_eqb o.pending.request 0 (λ z. omega arith) in
        let same : at b.requests (o.pending.request - 1) ≡ q = ap (at b.requests) (omega arith) ∙ sym asked.is in
        let t : pending_test q ≡ true = subst (λ (x : Request). pending_test x ≡ true) same (pending_parts i p b.requests some l).link.passes in
        let r : OrderKept i (apply_replace q p) b.requests =
        replaced_kept i p b.requests q live some same (clordid (and_parts (is_replace q) _ t).0) downstream (le-leb o.state.cumqty o.pending.qty (omega arith)) l in
        record {
          kept = state_kept _ e.exec.cumqty e.exec.avgpx o.state.execseq i (apply_replace q p) b.requests live (status_given s taken) ranged.avgpx
              (le-leb e.exec.cumqty o.pending.qty (omega arith)) r;
          same = unfold set_status in record { name = refl; client = refl };
          none = λ a k. set_free _ k _ (λ z. z);
          left = λ a. clash true refl a;
        }
    reported_order_lem false s is taken live fits =
        let p : Order = record_venue_order_id e.ids.venueorderid false o in
        let l : OrderKept i p b.requests = named_kept i o b.requests here.kept e.ids.venueorderid false ranged.venueorderid in
        record {
          kept = state_kept _ e.exec.cumqty e.exec.avgpx o.state.execseq i p b.requests live (status_given s taken) ranged.avgpx
              (le-leb e.exec.cumqty o.terms.qty (omega arith)) l;
          same = unfold set_status in record { name = refl; client = refl };
          none = λ a. clash false a refl;
          left = λ a k h. set_free _ k _ h;
        }

    settles_kept : {p : Order} {k s v : ℕ} {out : Output} → Reported (accepts (j + 1) q o e) p → Settles (j + 1) q o e k s v → Kept b i (left f.place p k s v out)
    settles_kept {p} {k} {s} {v} r (replaced t h) =
        left_kept b i f o here r.same owns
        (λ k z. let c = current_link i o b.requests here.kept.current in subst (λ (n : ℕ). (at b.requests n).order ≡ i) (omega arith) c.own)
        (answer_kept i o.links.current v p _ (r.none t o.links.current) (answer_kept i (j + 1) v p b.requests (r.none t (j + 1)) r.kept))
    settles_kept r (cancelled t u h) = answered_kept b i f o here r.same owns (r.left t (j + 1) (asked_free (cancel_not_replace q u))) r.kept
    settles_kept r (neither t) = still_kept b i f o here r.same r.kept

    applied : Applied (j + 1) q o e → Reported (accepts (j + 1) q o e) (reported (j + 1) q o e)
    applied x = reported_order_lem (accepts (j + 1) q o e) (status_taken (j + 1) q o e) refl refl x.live (let l : o.state.cumqty ≤ e.exec.cumqty = x.up in let m : e.exec.cumqty ≤ ordered_qty (accepts (j + 1) q o e) o = x.fits in omega arith)

    fails_kept : {y : Order} {k s v : ℕ} {out : Output} → Fails (j + 1) q o e y k s v out → Kept b i (left f.place y k s v out)
    fails_kept unfailed = own_still b i f o here
    fails_kept (refused r g) = refuses_kept e ranged r
    fails_kept (freed w g h) = answered_kept b i f o here (record { name = refl; client = refl }) owns (asked_free (gateway_not_replace q g)) here.kept
    fails_kept (fell w t g u h) = failed_gateway g u h
    fails_kept (ended w t g h) = first_failed t h

    pub made_kept : {c c' : Change} → MadeBy f (j + 1) q o e c c' → Kept b i c
    made_kept (stays (fails z l)) = fails_kept l
    made_kept (stays (resends z new_again)) = own_still b i f o here
    made_kept (stays (resends z (cancel_again t))) = own_still b i f o here
    made_kept (stays (resends z (replace_again t))) = own_still b i f o here
    made_kept (stays (resends z (failing t l))) = fails_kept l
    made_kept (stays (alarms a l)) = own_still b i f o here
    made_kept (stays names) =
        still_kept b i f o here (unfold record_venue_order_id in record { name = refl; client = refl }) (named_kept i o b.requests here.kept e.ids.venueorderid false ranged.venueorderid)
    made_kept (stays (applies a u s)) = settles_kept (applied a) s
    made_kept (stays (informs a s)) = settles_kept (sequence_reported _ _ (applied a)) s
    made_kept (refusing! z (quietly r)) = refuses_kept e ranged r
    made_kept (refusing! z (retries w u g h t)) = retried_kept e ranged _ w u g h t
    made_kept (resumes z r h t) = resumed_kept (refuses_kept e ranged r) h t
