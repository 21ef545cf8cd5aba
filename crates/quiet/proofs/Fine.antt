-- Where the links of a changed order come from: each is one that the order had, the next request's, or none. Rests on machine's Made and Walked.
use Rattle.std.proofs.Common.{ℕ, Bool, false}
use Rattle.prelude.specs.Cases.{if◌then◌otherwise◌}
use Rattle.prelude.specs.Laws.Cases.{split_if}
use Rattle.prelude.specs.declared.Text.{Text}
use Rattle.store.specs.declared.State.{State}
use Rattle.store.specs.declared.Pending.{Pending}
use Rattle.store.specs.declared.GatewayCancel.{GatewayCancel}
use Rattle.store.specs.declared.Order.{Order}
use Rattle.store.specs.declared.Request.{Request}
use Rattle.store.specs.Orders.{no_pending, no_gateway}
use Rattle.format.specs.Codes.{rejected}
use Rattle.machine.specs.Orders.{one_more, set_status, record_venue_order_id, apply_replace, next_exec, with_pending, with_gateway, with_state}
use Rattle.machine.specs.Changes.{Event, unchanged, refusing, adding, telling, next_link, numbered_order}
use Rattle.machine.specs.GatewayCancel.{begun, try_sent, given_up, send_gateway_cancel}
use Rattle.machine.specs.Amend.{cancel_goes, new_pending, replace_goes, not_pending, refused_order, send_refused}
use Rattle.machine.specs.Report.{reported_order}
use Rattle.machine.specs.declared.Findings.{Findings}
use Rattle.machine.specs.declared.Refused.{Refused}
use Rattle.machine.specs.declared.Output.{Output}
use Rattle.machine.specs.declared.Change.{Change}
use Rattle.machine.proofs.Made.{left, declined, waits, goes, repeated, turned, unpriced, cancel_sent, replace_sent}
use Rattle.machine.proofs.Walked.{Closed, closed_made}
use Rattle.machine.proofs.Stepped.{MadeBy, AskedBy, AmendedBy}

-- L holds of all four links
pub record Links (L : ℕ → Type 0) (o : Order) : Type 0 where
  pub current : L o.links.current
  pub cancel : L o.links.cancel
  pub pending : L o.pending.request
  pub named : L o.gateway.origdownstream

module _ (L : ℕ → Type 0) (none : L 0) where
  module _ (o : Order) (w : Links L o) where
    pending_links : (p : Pending) → L p.request → Links L (with_pending p o)
    pending_links p l = record { current = w.current; cancel = w.cancel; pending = l; named = w.named }

    gateway_links : (g : GatewayCancel) → L g.origdownstream → Links L (with_gateway g o)
    gateway_links g l = record { current = w.current; cancel = w.cancel; pending = w.pending; named = l }

    none_pending : (a : Bool) → L (if a then no_pending otherwise o.pending).request
    none_pending a = split_if (λ (p : Pending). L p.request) a (λ e. none) (λ e. w.pending)

    none_named : (a : Bool) → L (if a then no_gateway otherwise o.gateway).origdownstream
    none_named a = split_if (λ (g : GatewayCancel). L g.origdownstream) a (λ e. none) (λ e. w.named)

    status_links : (s : ℕ) → Links L (set_status s o)
    unfolding set_status
    status_links s = record { current = w.current; cancel = w.cancel; pending = none_pending _; named = none_named _ }

    venue_links : (given : Text) (replaced : Bool) → Links L (record_venue_order_id given replaced o)
    unfolding record_venue_order_id
    venue_links given replaced = record { current = w.current; cancel = w.cancel; pending = w.pending; named = w.named }

    state_links : (s : State) → Links L (with_state s o)
    state_links s = record { current = w.current; cancel = w.cancel; pending = w.pending; named = w.named }

    exec_links : Links L (next_exec o)
    unfolding next_exec
    exec_links = record { current = w.current; cancel = w.cancel; pending = w.pending; named = w.named }

    replaced_links : (q : Request) → Links L (apply_replace q o)
    unfolding apply_replace
    replaced_links q = record { current = w.pending; cancel = w.cancel; pending = none; named = w.named }

    begun_links : Links L (with_gateway (begun o) o)
    unfolding begun
    begun_links = gateway_links _ w.current

    given_up_links : Links L (with_gateway (given_up o) o)
    unfolding given_up
    given_up_links = gateway_links _ w.named

    fallen_links : Links L (with_gateway (send_refused o.gateway) o)
    unfolding send_refused
    fallen_links = gateway_links _ w.named

  not_pending_links : (o : Order) → Links L o → Links L (not_pending o)
  unfolding not_pending
  not_pending_links o w = split_if (Links L) _ (λ e. status_links o w _) (λ e. w)

  refused_links : (k : ℕ) (r : Refused) (o : Order) → Links L o → Links L (refused_order k r o)
  unfolding refused_order
  refused_links k r o w =
      let v = pending_links _ (venue_links o w r.venueorderid false) _ (none_pending o w _) in
      split_if (Links L) _ (λ e. v) (λ e. split_if (Links L) _ (λ e. status_links _ v _) (λ e. not_pending_links _ v))

  reported_links : (accepted : Bool) (s : ℕ) (q : Request) (o : Order) (e : Event) → Links L o → Links L (reported_order accepted s q o e)
  unfolding reported_order
  reported_links accepted s q o e w =
      let v = venue_links o w e.ids.venueorderid accepted in
      status_links _ (state_links _ (split_if (Links L) accepted (λ h. replaced_links _ v q) (λ h. v)) _) _

  -- ---- the changes, of an order whose request would have the next link

  module _ (f : Findings) (next : L (one_more 65535 f.requests)) where
    send_links : (y : Order) (j s v : ℕ) (out : Output) → Links L y → Links L (send_gateway_cancel f (left f.place y j s v out)).order
    unfolding send_gateway_cancel numbered_order next_link telling adding try_sent if◌then◌otherwise◌
    send_links y j s v out w = record { current = w.current; cancel = next; pending = w.pending; named = w.current }

    module _ {o : Order} (w : Links L o) where
      pub made_links : {k : ℕ} {q : Request} {e : Event} {c c' : Change} → MadeBy f k q o e c c' → Links L c.order
      made_links {k} {q} {e} = closed_made z
        where
          z : Closed k q o e f.place f.cancel f.requests f.requests (Links L) (λ c c'. Links L c.order)
          z = record {
            own = w;
            refused = λ {r} u. refused_links k r o w;
            named = venue_links o w _ _;
            fallen = fallen_links o w;
            ended = status_links o w rejected;
            reports = reported_links _ _ q o e w;
            gives_up = given_up_links;
            counts = exec_links;
            leaves = λ v u s g. v;
            sends = λ out v u s g. send_links _ _ _ _ out v;
          }

      pub asked_links : {c c' : Change} → AskedBy f o c c' → Links L c.order
      asked_links (declined z) = w
      asked_links (waits d g) = begun_links o w
      asked_links (goes d g) = send_links _ _ _ _ _ (begun_links o w)

      pub amended_links : {order : ℕ} {full : Bool} {e : Event} {c c' : Change} → AmendedBy f order full o e c c' → Links L c.order
      unfolding refusing cancel_goes replace_goes numbered_order next_link new_pending telling adding unchanged if◌then◌otherwise◌
      amended_links (repeated z) = exec_links o w
      amended_links (turned v z) = w
      amended_links (unpriced z) = record { current = none; cancel = none; pending = none; named = none }
      amended_links (cancel_sent z u) = record { current = w.current; cancel = next; pending = w.pending; named = w.named }
      amended_links (replace_sent z u) = record { current = w.current; cancel = w.cancel; pending = next; named = w.named }
