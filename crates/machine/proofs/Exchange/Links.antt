-- What the count of the book's requests does to a change: it is the link of the request that the change adds, and nothing else. Rests on Made.
use Rattle.std.proofs.Common.{ℕ, ◌≤◌, arith, ◌≡◌, refl, sym, ap, ◌∙◌, ◌⊎◌, inl, inr, Bool, false, eqb}
use Rattle.prelude.specs.Cases.{if◌then◌otherwise◌}
use Rattle.prelude.specs.Laws.Cases.{split_if}
use Rattle.prelude.specs.declared.Text.{Text}
use Rattle.store.specs.declared.State.{State}
use Rattle.store.specs.declared.Pending.{Pending}
use Rattle.store.specs.declared.GatewayCancel.{GatewayCancel}
use Rattle.store.specs.declared.Order.{Order}
use Rattle.store.specs.declared.Request.{Request}
use Rattle.format.specs.Codes.{rejected}
use Rattle.machine.specs.Orders.{one_more, set_status, record_venue_order_id, apply_replace, next_exec, with_links, with_pending, with_gateway, with_state}
use Rattle.store.specs.Orders.{no_pending, no_gateway}
use Rattle.machine.specs.Messages.{cancel_request, replace_request, to_venue}
use Rattle.machine.specs.Changes.{Event, unchanged, refusing, with_order, adding, telling, next_link, next_request, numbered_order}
use Rattle.machine.specs.GatewayCancel.{begun, try_sent, given_up, send_gateway_cancel}
use Rattle.machine.specs.Amend.{cancel_goes, new_pending, replace_goes, not_pending, refused_order, send_refused}
use Rattle.machine.specs.Report.{reported_order}
use Rattle.machine.specs.declared.Refused.{Refused}
use Rattle.machine.specs.declared.Output.{Output}
use Rattle.machine.specs.declared.Change.{Change}
use Rattle.machine.proofs.Made.{left, findings, Made, Asked, declined, waits, goes, Amended, repeated, turned, unpriced, cancel_sent, replace_sent}
use Rattle.machine.proofs.Walked.{Closed, closed_made}

-- ---- an order's links

-- the order with another latest cancel, and with another request pending
abbrev pub with_cancel : ℕ → Order → Order
with_cancel k o = with_links (record { amendments = o.links.amendments; current = o.links.current; cancel = k }) o

abbrev pub with_request : ℕ → Order → Order
with_request k o = with_pending (record { request = k; qty = o.pending.qty; price = o.pending.price; ordtype = o.pending.ordtype; timeinforce = o.pending.timeinforce }) o

-- no link is above t
pub record Within (t : ℕ) (o : Order) : Type 0 where
  pub current : o.links.current ≤ t
  pub cancel : o.links.cancel ≤ t
  pub pending : o.pending.request ≤ t
  pub named : o.gateway.origdownstream ≤ t

module _ (t : ℕ) (o : Order) (w : Within t o) where
  pending_within : (p : Pending) → p.request ≤ t → Within t (with_pending p o)
  pending_within p l = record { current = w.current; cancel = w.cancel; pending = l; named = w.named }

  gateway_within : (g : GatewayCancel) → g.origdownstream ≤ t → Within t (with_gateway g o)
  gateway_within g l = record { current = w.current; cancel = w.cancel; pending = w.pending; named = l }

  none_pending : (a : Bool) → (if a then no_pending otherwise o.pending).request ≤ t
  none_pending a = split_if (λ (p : Pending). p.request ≤ t) a (λ e. omega arith) (λ e. w.pending)

  none_named : (a : Bool) → (if a then no_gateway otherwise o.gateway).origdownstream ≤ t
  none_named a = split_if (λ (g : GatewayCancel). g.origdownstream ≤ t) a (λ e. omega arith) (λ e. w.named)

  status_within : (s : ℕ) → Within t (set_status s o)
  unfolding set_status
  status_within s = record { current = w.current; cancel = w.cancel; pending = none_pending _; named = none_named _ }

  venue_within : (given : Text) (replaced : Bool) → Within t (record_venue_order_id given replaced o)
  unfolding record_venue_order_id
  venue_within given replaced = record { current = w.current; cancel = w.cancel; pending = w.pending; named = w.named }

  state_within : (s : State) → Within t (with_state s o)
  state_within s = record { current = w.current; cancel = w.cancel; pending = w.pending; named = w.named }

  next_within : Within t (next_exec o)
  unfolding next_exec
  next_within = record { current = w.current; cancel = w.cancel; pending = w.pending; named = w.named }

  replaced_within : (q : Request) → Within t (apply_replace q o)
  unfolding apply_replace
  replaced_within q = record { current = w.pending; cancel = w.cancel; pending = omega arith; named = w.named }

  begun_within : Within t (with_gateway (begun o) o)
  unfolding begun
  begun_within = gateway_within _ w.current

  given_up_within : Within t (with_gateway (given_up o) o)
  unfolding given_up
  given_up_within = gateway_within _ w.named

  refused_gateway_within : Within t (with_gateway (send_refused o.gateway) o)
  unfolding send_refused
  refused_gateway_within = gateway_within _ w.named

not_pending_within : (t : ℕ) (o : Order) → Within t o → Within t (not_pending o)
unfolding not_pending
not_pending_within t o w = split_if (Within t) _ (λ e. status_within t o w _) (λ e. w)

refused_within : (t k : ℕ) (r : Refused) (o : Order) → Within t o → Within t (refused_order k r o)
unfolding refused_order
refused_within t k r o w =
    let v = pending_within t _ (venue_within t o w r.venueorderid false) _ (none_pending t o w (eqb o.pending.request k)) in
    split_if (Within t) _ (λ e. v) (λ e. split_if (Within t) _ (λ e. status_within t _ v _) (λ e. not_pending_within t _ v))

reported_within : (t : ℕ) (accepted : Bool) (s : ℕ) (q : Request) (o : Order) (e : Event) → Within t o → Within t (reported_order accepted s q o e)
unfolding reported_order
reported_within t accepted s q o e w =
    let v = venue_within t o w e.ids.venueorderid accepted in
    status_within t _ (state_within t _ (split_if (Within t) accepted (λ h. replaced_within t _ v q) (λ h. v)) _) _

-- ---- two changes that differ in the link of what they add

pub record Rests (t : ℕ) (c : Change) : Type 0 where
  pub adds : c.requests.added ≡ 0
  pub within : Within t c.order

-- m and n are the links; the other links are not above t
pub data Linked (t m n : ℕ) (c c' : Change) : Type 0 where
  same : Rests t c → c' ≡ c → Linked t m n c c'
  cancels : c.requests.added ≡ 1 → c.order.links.cancel ≡ m → Within t (with_cancel 0 c.order) → c' ≡ with_order (with_cancel n c.order) c → Linked t m n c c'
  replaces : c.requests.added ≡ 1 → c.order.pending.request ≡ m → Within t (with_request 0 c.order) → c' ≡ with_order (with_request n c.order) c → Linked t m n c c'

-- they are otherwise one
linked_field : {A : Type 0} (f : Change → A) (t m n : ℕ) (c c' : Change) → ((o : Order) → f (with_order o c) ≡ f c) → Linked t m n c c' → f c' ≡ f c
linked_field f t m n c c' k (same r e) = ap f e
linked_field f t m n c c' k (cancels a z w e) = ap f e ∙ k _
linked_field f t m n c c' k (replaces a z w e) = ap f e ∙ k _

module _ {t m n : ℕ} {c c' : Change} (l : Linked t m n c c') where
  pub same_refusal : c'.refusal ≡ c.refusal
  same_refusal = linked_field (λ (x : Change). x.refusal) t m n c c' (λ o. refl) l

  pub same_place : c'.place ≡ c.place
  same_place = linked_field (λ (x : Change). x.place) t m n c c' (λ o. refl) l

  pub same_requests : c'.requests ≡ c.requests
  same_requests = linked_field (λ (x : Change). x.requests) t m n c c' (λ o. refl) l

  pub same_output : c'.output ≡ c.output
  same_output = linked_field (λ (x : Change). x.output) t m n c c' (λ o. refl) l

-- if the link is the same, or nothing is added, they are one
pub linked_equal : (t m n : ℕ) (c c' : Change) → (m ≡ n) ⊎ (c.requests.added ≡ 0) → Linked t m n c c' → c' ≡ c
linked_equal t m n c c' z (same r e) = e
linked_equal t m n c c' (inl z) (cancels a l w e) = e ∙ ap (λ (k : ℕ). with_order (with_cancel k c.order) c) (sym (l ∙ z))
linked_equal t m n c c' (inl z) (replaces a l w e) = e ∙ ap (λ (k : ℕ). with_order (with_request k c.order) c) (sym (l ∙ z))
linked_equal t m n c c' (inr z) (cancels a l w e) = absurd (omega arith)
linked_equal t m n c c' (inr z) (replaces a l w e) = absurd (omega arith)

-- ---- the handlers: p is the order's link, x its latest cancel, and m and n the counts

abbrev pub Pair : (t m n : ℕ) → Change → Change → Type 0
Pair t m n = Linked t (one_more 65535 m) (one_more 65535 n)

module _ {t : ℕ} (p : ℕ) (x : Request) (m n : ℕ) {o : Order} (w : Within t o) where
  rest : {y : Order} {j s v : ℕ} {out : Output} → Within t y → Pair t m n (left p y j s v out) (left p y j s v out)
  rest v = same (record { adds = refl; within = v }) refl

  send : (y : Order) (j s v : ℕ) (out : Output) → Within t y → Pair t m n (send_gateway_cancel (findings p x m) (left p y j s v out)) (send_gateway_cancel (findings p x n) (left p y j s v out))
  unfolding send_gateway_cancel numbered_order next_link telling adding try_sent cancel_request to_venue next_request if◌then◌otherwise◌
  send y j s g out v = cancels refl refl (record { current = v.current; cancel = omega arith; pending = v.pending; named = v.current }) refl

  cancel_goes_lem : (e : Event) → Pair t m n (cancel_goes (findings p x m) o e) (cancel_goes (findings p x n) o e)
  unfolding cancel_goes numbered_order next_link telling adding unchanged cancel_request to_venue next_request if◌then◌otherwise◌
  cancel_goes_lem e = cancels refl refl (record { current = w.current; cancel = omega arith; pending = w.pending; named = w.named }) refl

  replace_goes_lem : (e : Event) → Pair t m n (replace_goes (findings p x m) o e) (replace_goes (findings p x n) o e)
  unfolding replace_goes numbered_order next_link new_pending telling adding unchanged replace_request to_venue next_request if◌then◌otherwise◌
  replace_goes_lem e = replaces refl refl (record { current = w.current; cancel = w.cancel; pending = omega arith; named = w.named }) refl

  pub made_pair : {k : ℕ} {q : Request} {e : Event} {c c' : Change} → Made k q o e p x m n c c' → Pair t m n c c'
  made_pair {k} {q} {e} = closed_made z
    where
      z : Closed k q o e p x m n (Within t) (Pair t m n)
      z = record {
        own = w;
        refused = λ {r} v. refused_within t k r o w;
        named = venue_within t o w _ _;
        fallen = refused_gateway_within t o w;
        ended = status_within t o w rejected;
        reports = reported_within t _ _ q o e w;
        gives_up = given_up_within t;
        counts = next_within t;
        leaves = λ v u s g. rest v;
        sends = λ out v u s g. send _ _ _ _ out v;
      }

  pub asked_pair : {c c' : Change} → Asked o p x m n c c' → Pair t m n c c'
  asked_pair (declined z) = rest w
  asked_pair (waits d g) = rest (begun_within t o w)
  asked_pair (goes d g) = send _ _ _ _ _ (begun_within t o w)

  pub amended_pair : {order : ℕ} {full : Bool} {e : Event} {c c' : Change} → Amended order full o e p x m n c c' → Pair t m n c c'
  amended_pair (repeated z) = rest (next_within t o w)
  amended_pair (turned v z) = rest w
  amended_pair (unpriced z) = same (unfold refusing in record { adds = refl; within = record { current = omega arith; cancel = omega arith; pending = omega arith; named = omega arith } }) refl
  amended_pair {e = e} (cancel_sent z u) = cancel_goes_lem e
  amended_pair {e = e} (replace_sent z u) = replace_goes_lem e
