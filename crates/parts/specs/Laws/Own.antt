-- In every book that events lead to, a gateway cancel names nothing or a request of its own order: each event keeps it so. Rests on machine's ways of a change.
-- An event makes an order's gateway cancel name what it named, or what was the order's current or pending request.
use Rattle.std.specs.Prelude.{◌≡◌, Bool, true, false, ◌||◌, ◌⊎◌, refl, List, ℕ, ◌+◌, ◌-◌, ◌≤◌, ◌<◌, eqb, length, get_or}
use Rattle.std.proofs.Common.{ap, subst, sym, ◌∙◌, inl, inr, ⊎_elim, arith, eqb-true, eq-eqb}
use Rattle.std.proofs.Math.Decide.{ℕ_discrete}
use Rattle.std.proofs.lemmas.Bool.{or_cases, or_left, or_right}
use Rattle.prelude.specs.Cases.{if◌then◌otherwise◌}
use Rattle.prelude.specs.Below.{count_below}
use Rattle.prelude.specs.Laws.Cases.{split_if, if_true}
use Rattle.prelude.specs.Laws.Below.{First, first_some}
use Rattle.prelude.specs.declared.Text.{Text}
use Rattle.store.specs.declared.State.{State}
use Rattle.store.specs.declared.Pending.{Pending}
use Rattle.store.specs.declared.GatewayCancel.{GatewayCancel}
use Rattle.store.specs.declared.Order.{Order}
use Rattle.store.specs.declared.Request.{Request}
use Rattle.store.specs.Orders.{no_order, no_pending}
use Rattle.store.specs.Book.{Book, order_in, request_in}
use Rattle.store.specs.Finds.{bears_name, bears_clordid, bears_downstream, find_name, find_downstream, find_clordid}
use Rattle.format.specs.Codes.{rejected}
use Rattle.machine.specs.Orders.{set_status, record_venue_order_id, apply_replace, next_exec, with_pending, with_gateway, with_state}
use Rattle.machine.specs.Changes.{Event, unchanged, refusing, adding, telling, alarming, numbered_order}
use Rattle.machine.specs.GatewayCancel.{begun, try_sent, given_up, send_gateway_cancel}
use Rattle.machine.specs.Amend.{cancel_goes, replace_goes, not_pending, refused_order, send_refused}
use Rattle.machine.specs.Report.{reported_order}
use Rattle.machine.specs.Machine.{findings_of, booked_order, orders_after, after, step_of, book_after}
use Rattle.machine.specs.Rules.{current_test, current_rule, pending_test, pending_rule}
use Rattle.machine.specs.declared.Refused.{Refused}
use Rattle.machine.specs.declared.Output.{Output}
use Rattle.machine.specs.declared.Change.{Change}
use Rattle.machine.proofs.Made.{left, findings, Made, Asked, declined, waits, goes, Amended, repeated, turned, unpriced, cancel_sent, replace_sent}
use Rattle.machine.proofs.Walked.{Closed, closed_made}
use Rattle.machine.proofs.Stepped.{Ways, step_made}
use Rattle.machine.proofs.Kept.Tables.{Linked, linked_at}
use Rattle.machine.proofs.Kept.Indexed.{BookKept}
use Rattle.machine.proofs.Kept.Lift.{after_order, after_longer, Placed, placed}
use Rattle.machine.proofs.Claim.Filled.{orders_same}
use Rattle.parts.specs.Alike.{OwnLink, OwnNamed}
use Rattle.parts.specs.Parts.{of_passing, own_cancel, named_along, moved_link, moved_order, moved_request, joined}
use Rattle.parts.specs.Laws.Joined.{moved_none, moved_above, joined_requests, joined_old_order, joined_old_request, FromOrder, order_from}
use Rattle.parts.specs.Laws.Linked.{new_place, Along, along_within, along_at}

-- ---- what an order's gateway cancel may come to name, whatever P says of links

module _ (P : ℕ → Type 0) (nothing : P 0) where
  pub record Holds (o : Order) : Type 0 where
    pub current : P o.links.current
    pub pending : P o.pending.request
    pub named : P o.gateway.origdownstream

  module _ (o : Order) (w : Holds o) where
    gateway_holds : (g : GatewayCancel) → P g.origdownstream → Holds (with_gateway g o)
    gateway_holds g l = record { current = w.current; pending = w.pending; named = l }

    status_holds : (s : ℕ) → Holds (set_status s o)
    unfolding set_status
    status_holds s = record {
      current = w.current;
      pending = split_if (λ (p : Pending). P p.request) _ (λ e. nothing) (λ e. w.pending);
      named = split_if (λ (g : GatewayCancel). P g.origdownstream) _ (λ e. nothing) (λ e. w.named);
    }

    venue_holds : (given : Text) (replaced : Bool) → Holds (record_venue_order_id given replaced o)
    unfolding record_venue_order_id
    venue_holds given replaced = record { current = w.current; pending = w.pending; named = w.named }

    state_holds : (s : State) → Holds (with_state s o)
    state_holds s = record { current = w.current; pending = w.pending; named = w.named }

    next_holds : Holds (next_exec o)
    unfolding next_exec
    next_holds = record { current = w.current; pending = w.pending; named = w.named }

    replaced_holds : (q : Request) → Holds (apply_replace q o)
    unfolding apply_replace
    replaced_holds q = record { current = w.pending; pending = nothing; named = w.named }

    begun_holds : Holds (with_gateway (begun o) o)
    unfolding begun
    begun_holds = gateway_holds _ w.current

    given_up_holds : Holds (with_gateway (given_up o) o)
    unfolding given_up
    given_up_holds = gateway_holds _ w.named

    refused_gateway_holds : Holds (with_gateway (send_refused o.gateway) o)
    unfolding send_refused
    refused_gateway_holds = gateway_holds _ w.named

  not_pending_holds : (o : Order) → Holds o → Holds (not_pending o)
  unfolding not_pending
  not_pending_holds o w = split_if Holds _ (λ e. status_holds o w _) (λ e. w)

  pending_holds : (o : Order) → Holds o → (p : Pending) → P p.request → Holds (with_pending p o)
  pending_holds o w p l = record { current = w.current; pending = l; named = w.named }

  none_pending : (o : Order) → Holds o → (a : Bool) → P (if a then no_pending otherwise o.pending).request
  none_pending o w a = split_if (λ (p : Pending). P p.request) a (λ e. nothing) (λ e. w.pending)

  refused_holds : (k : ℕ) (r : Refused) (o : Order) → Holds o → Holds (refused_order k r o)
  unfolding refused_order
  refused_holds k r o w =
      let v = pending_holds _ (venue_holds o w r.venueorderid false) _ (none_pending o w (eqb o.pending.request k)) in
      split_if Holds _ (λ e. v) (λ e. split_if Holds _ (λ e. status_holds _ v _) (λ e. not_pending_holds _ v))

  reported_holds : (accepted : Bool) (s : ℕ) (q : Request) (o : Order) (e : Event) → Holds o → Holds (reported_order accepted s q o e)
  unfolding reported_order
  reported_holds accepted s q o e w =
      let v = venue_holds o w e.ids.venueorderid accepted in
      status_holds _ (state_holds _ (split_if Holds accepted (λ h. replaced_holds _ v q) (λ h. v)) _) _

  -- ---- a change of the order at link p, or of none

  pub record Names (p : ℕ) (c : Change) : Type 0 where
    pub is : (c.place ≡ 0) ⊎ ((c.place ≡ p) × P c.order.gateway.origdownstream)

  module _ (p : ℕ) (x : Request) (m n : ℕ) {o : Order} (w : Holds o) where
    rest : {y : Order} {j s v : ℕ} {out : Output} → Holds y → Names p (left p y j s v out)
    rest v = record { is = inr (refl, v.named) }

    send : (y : Order) (j s v : ℕ) (out : Output) → Holds y → Names p (send_gateway_cancel (findings p x m) (left p y j s v out))
    unfolding send_gateway_cancel numbered_order telling adding try_sent
    send y j s g out v = record { is = inr (refl, v.current) }

    cancel_goes_lem : (e : Event) → Names p (cancel_goes (findings p x m) o e)
    unfolding cancel_goes numbered_order telling adding unchanged
    cancel_goes_lem e = record { is = inr (refl, w.named) }

    replace_goes_lem : (e : Event) → Names p (replace_goes (findings p x m) o e)
    unfolding replace_goes numbered_order telling adding unchanged
    replace_goes_lem e = record { is = inr (refl, w.named) }

    made_names : {k : ℕ} {q : Request} {e : Event} {c c' : Change} → Made k q o e p x m n c c' → Names p c
    made_names {k} {q} {e} = closed_made z
      where
        z : Closed k q o e p x m n Holds (λ c c'. Names p c)
        z = record {
          own = w;
          refused = λ {r} v. refused_holds k r o w;
          named = venue_holds o w _ _;
          fallen = refused_gateway_holds o w;
          ended = status_holds o w rejected;
          reports = reported_holds _ _ q o e w;
          gives_up = given_up_holds;
          counts = next_holds;
          leaves = λ v u s g. rest v;
          sends = λ out v u s g. send _ _ _ _ out v;
        }

    asked_names : {c c' : Change} → Asked o p x m n c c' → Names p c
    asked_names (declined z) = rest w
    asked_names (waits d g) = rest (begun_holds o w)
    asked_names (goes d g) = send _ _ _ _ _ (begun_holds o w)

    none_named : Names p (refusing 6)
    unfolding refusing
    none_named = record { is = inl refl }

    amended_names : {order : ℕ} {full : Bool} {e : Event} {c c' : Change} → Amended order full o e p x m n c c' → Names p c
    amended_names (repeated z) = rest (next_holds o w)
    amended_names (turned v z) = rest w
    amended_names (unpriced z) = none_named
    amended_names {e = e} (cancel_sent z u) = cancel_goes_lem e
    amended_names {e = e} (replace_sent z u) = replace_goes_lem e

-- ---- on the book

-- the order that a change leaves names its own, by the requests before it
record Owns (b : Book) (c : Change) : Type 0 where
  pub within : c.place ≤ length b.orders + 1
  pub own : (i : ℕ) → c.place ≡ i + 1 → OwnLink b i c.order.gateway.origdownstream

nowhere : (b : Book) (c : Change) → c.place ≡ 0 → Owns b c
nowhere b c z = record { within = omega arith; own = λ i e. absurd (omega arith) }

module _ (b : Book) (good : BookKept b) (own : OwnNamed b) where
  holds_at : (i : ℕ) → i < length b.orders → Holds (OwnLink b i) (inl refl) (order_in b i)
  unfolding current_rule pending_rule
  holds_at i h =
      let o = order_in b i in
      let c : Linked (current_test o.names.downstream) i o.links.current b.requests = linked_at _ i o.links.current b.requests (good.order i h).current in
      record {
        current = inr (c.above, c.within, c.own);
        pending = ⊎_elim (λ z. inl (eqb-true _ 0 z)) (λ t. pending i (linked_at pending_test i o.pending.request b.requests t)) (or_cases _ _ (good.order i h).pending);
        named = own i h;
      }
    where
      pending : (i : ℕ) → Linked pending_test i (order_in b i).pending.request b.requests → OwnLink b i (order_in b i).pending.request
      pending i l = inr (l.above, l.within, l.own)

  from_names : (i : ℕ) → i < length b.orders → (c : Change) → Names (OwnLink b i) (inl refl) (i + 1) c → Owns b c
  from_names i h c n = ⊎_elim (nowhere b c) there n.is
    where
      there : (c.place ≡ i + 1) × OwnLink b i c.order.gateway.origdownstream → Owns b c
      there (p, l) = record {
        within = omega arith;
        own = λ j e. let z : i ≡ j = omega arith in subst (λ (k : ℕ). OwnLink b k c.order.gateway.origdownstream) z l;
      }

  -- a change of no order
  none_names : (c : Change) → Names (λ l. Unit {0}) tt 0 c → Owns b c
  none_names c n = ⊎_elim (nowhere b c) (λ (t : (c.place ≡ 0) × Unit {0}). nowhere b c t.0) n.is

  no_holds : Holds (λ l. Unit {0}) tt no_order
  no_holds = record { current = tt; pending = tt; named = tt }

  own_ways : (e : Event) → Ways (Owns b) b e
  unfolding find_downstream find_clordid find_name findings_of unchanged refusing alarming adding booked_order
  own_ways e = record {
    refuses = λ n z. nowhere b (refusing n) refl;
    no_order_lem = λ z. nowhere b _ refl;
    unknown = λ z. nowhere b _ refl;
    books = λ t u v. record { within = omega arith; own = λ i z. inl refl };
    amends_none = λ z order full c c' a. none_names c (amended_names (λ l. Unit {0}) tt 0 _ _ _ no_holds a);
    amends = λ z k y full c c' a.
        let f : First (λ n. bears_clordid b.orders e.client e.ids.origclordid (request_in b n)) (length b.requests) k = first_some _ (length b.requests) k y in
        let h : (request_in b k).order < length b.orders = (good.request k f.below).order in
        from_names (request_in b k).order h c (amended_names (OwnLink b (request_in b k).order) (inl refl) _ _ _ _ (holds_at _ h) a);
    answers = λ z k y c c' a.
        let f : First (λ n. bears_downstream e.ids.downstream (request_in b n)) (length b.requests) k = first_some _ (length b.requests) k y in
        let h : (request_in b k).order < length b.orders = (good.request k f.below).order in
        from_names (request_in b k).order h c (made_names (OwnLink b (request_in b k).order) (inl refl) _ _ _ _ (holds_at _ h) a);
    asks = λ z i y c c' a.
        let f : First (λ n. bears_name e.ids.name (order_in b n)) (length b.orders) i = first_some _ (length b.orders) i y in
        from_names i f.below c (asked_names (OwnLink b i) (inl refl) _ _ _ _ (holds_at i f.below) a);
  }

  -- links stay those of their orders
  own_later : (c : Change) (i l : ℕ) → OwnLink b i l → OwnLink (after b c) i l
  unfolding after
  own_later c i l (inl z) = inl z
  own_later c i l (inr (above, within, at)) = inr (above, omega (arith, after_longer b.requests c), after_order b.requests c (l - 1) (omega arith) ∙ at)

  own_after : (c : Change) → Owns b c → OwnNamed (after b c)
  unfolding after
  own_after c w k h = go (ℕ_discrete c.place 0)
    where
      same : c.place ≡ 0 → OwnLink (after b c) k (order_in (after b c) k).gateway.origdownstream
      same z =
          subst (λ (os : List Order). OwnLink (after b c) k (get_or os k no_order).gateway.origdownstream) (sym (orders_same b.orders c z))
          (own_later c k _ (own k (subst (λ (os : List Order). k < length os) (orders_same b.orders c z) h)))

      at : (i : ℕ) → c.place ≡ i + 1 → Placed b.orders (orders_after b.orders c) i c.order → Dec (k ≡ i) → OwnLink (after b c) k (order_in (after b c) k).gateway.origdownstream
      at i z p (yes e) =
          subst (λ (n : ℕ). OwnLink (after b c) n (order_in (after b c) n).gateway.origdownstream) (sym e)
          (subst (λ (o : Order). OwnLink (after b c) i o.gateway.origdownstream) (sym p.here) (own_later c i _ (w.own i z)))
      at i z p (no e) =
          let (l, s) = p.other k e h in
          subst (λ (o : Order). OwnLink (after b c) k o.gateway.origdownstream) (sym s) (own_later c k _ (own k l))

      go : Dec (c.place ≡ 0) → OwnLink (after b c) k (order_in (after b c) k).gateway.origdownstream
      go (yes z) = same z
      go (no n) =
          let z : c.place ≡ c.place - 1 + 1 = omega arith in
          at (c.place - 1) z (placed b.orders c (c.place - 1) z (omega (arith, w.within))) (ℕ_discrete k (c.place - 1))

  -- THE LAW: each event keeps it so, taken or refused
  pub own_kept : (e : Event) → OwnNamed (book_after b e)
  unfolding book_after
  own_kept e = split_if OwnNamed _ (λ t. own_after (step_of b e) (step_made (Owns b) b e (own_ways e))) (λ t. own)

-- ---- and each move does

module _ (p : ℕ → Bool) (into b : Book) (hi : BookKept into) (hb : BookKept b) (oi : OwnNamed into) (ob : OwnNamed b) where
  -- what is named goes along, so it is named still
  pub own_along : (i : ℕ) → i < length b.orders → p i ≡ true → named_along p b i ≡ (order_in b i).gateway.origdownstream
  unfolding named_along
  own_along i h e =
      let link = (order_in b i).gateway.origdownstream in
      if_true (eqb link 0 || of_passing p b (link - 1)) link (own_cancel b i)
      (⊎_elim (λ z. or_left _ _ (eq-eqb link 0 z)) (λ (o : (0 < link) × (link ≤ length b.requests) × ((request_in b (link - 1)).order ≡ i)). or_right _ _ (ap p o.2 ∙ e)) (ob i h))

  moved_own : (i l : ℕ) → p i ≡ true → OwnLink b i l → OwnLink (joined p into b) (new_place p into i) (moved_link (of_passing p b) (length into.requests) l)
  moved_own i l e (inl z) = inl (ap (moved_link (of_passing p b) (length into.requests)) z ∙ moved_none (of_passing p b) (length into.requests))
  moved_own i l e (inr (above, within, at)) =
      let a : Along p b l = record { above = above; within = within; passes = ap p at ∙ e } in
      inr (
        omega (arith, moved_above (of_passing p b) (length into.requests) l above),
        along_within p into b l a,
        ap (λ (q : Request). q.order) (along_at p into b l a) ∙ (unfold moved_request in ap (λ (n : ℕ). length into.orders + count_below p n) at),
      )

  old_own : (i l : ℕ) → OwnLink into i l → OwnLink (joined p into b) i l
  old_own i l (inl z) = inl z
  old_own i l (inr (above, within, at)) =
      inr (above, omega (arith, joined_requests p into b), ap (λ (q : Request). q.order) (joined_old_request p into b (l - 1) (omega arith)) ∙ at)

  pub own_joined : OwnNamed (joined p into b)
  own_joined k h = ⊎_elim old moved (order_from p into b k h)
    where
      old : k < length into.orders → OwnLink (joined p into b) k (order_in (joined p into b) k).gateway.origdownstream
      old l = subst (λ (o : Order). OwnLink (joined p into b) k o.gateway.origdownstream) (sym (joined_old_order p into b k l)) (old_own k _ (oi k l))

      moved : FromOrder p into b k → OwnLink (joined p into b) k (order_in (joined p into b) k).gateway.origdownstream
      moved f =
          subst (λ (o : Order). OwnLink (joined p into b) k o.gateway.origdownstream) (sym f.is)
          (subst (λ (n : ℕ). OwnLink (joined p into b) n (moved_order p (length into.requests) b f.at).gateway.origdownstream) (sym f.place)
          (unfold moved_order in moved_own f.at (named_along p b f.at) f.passes (subst (OwnLink b f.at) (sym (own_along f.at f.below f.passes)) (ob f.at f.below))))
