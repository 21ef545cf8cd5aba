-- An order that moves keeps its rules in the joined book, and so does one that was there. Rests on Linked and the book's rules.
use Rattle.std.specs.Prelude.{◌≡◌, Bool, true, false, not, ◌&&◌, ◌||◌, refl, List, [], ◌∷◌, ◌++◌, ℕ, suc, ◌+◌, ◌≤◌, ◌<◌, eqb, leb, ltb, length}
use Rattle.std.proofs.Common.{ap, subst, sym, ◌∙◌, ⊎_elim, arith, append-nil, eqb-true, eq-eqb, le-leb}
use Rattle.std.proofs.Math.Seq.{append_snoc}
use Rattle.std.proofs.lemmas.Bool.{and_parts, and_from}
use Rattle.prelude.specs.Below.{count_below}
use Rattle.prelude.specs.Laws.Cases.{clash}
use Rattle.store.specs.declared.GatewayCancel.{GatewayCancel}
use Rattle.store.specs.declared.Order.{Order}
use Rattle.store.specs.declared.Request.{Request}
use Rattle.store.specs.Book.{Book, order_in, request_in}
use Rattle.machine.specs.Orders.{is_done, has_pending, has_gateway}
use Rattle.machine.specs.Changes.{is_first, is_replace, is_gateway, is_cancel, is_answered}
use Rattle.machine.specs.Rules.{current_test, current_rule, cancel_rule, pending_rule, pending_test, gateway_range, pending_range, done_rule, filled_rule, tries_rule, in_flight_rule}
use Rattle.machine.proofs.Kept.Tables.{at, amendments_at, at_amendments}
use Rattle.machine.proofs.Kept.Local.{OrderKept, other_kept}
use Rattle.machine.proofs.Kept.Indexed.{BookKept}
use Rattle.parts.specs.Parts.{of_passing, named_along, moved_link, moved_order, moved_request, joined}
use Rattle.parts.specs.Laws.Ranks.{rank_injective}
use Rattle.parts.specs.Laws.Joined.{moved_none, moved_some, moved_zero, joined_old_request, FromRequest, request_from}
use Rattle.parts.specs.Laws.Linked.{new_place, along_within, linked_joined, zero_joined, owned_joined, named_zero, named_along_along}

-- the first of four tests anew
flight_map : (x a c r2 r3 r4 : Bool) → (a ≡ true → c ≡ true) → x || a && r2 && r3 && r4 ≡ true → x || c && r2 && r3 && r4 ≡ true
flight_map true a c r2 r3 r4 f e = refl
flight_map false true c r2 r3 r4 f e = rw (f refl) e
flight_map false false c r2 r3 r4 f e = clash false e refl

-- requests of other orders behind
pub others_kept : (i : ℕ) (o : Order) (qs ys : List Request) → ((k : ℕ) → k < length ys → (at ys k).order ≡ i → ⊥) → OrderKept i o qs → OrderKept i o (qs ++ ys)
others_kept i o qs [] d l = subst (OrderKept i o) (sym (append-nil qs)) l
others_kept i o qs (y ∷ ys) d l =
    subst (OrderKept i o) (append_snoc qs y ys)
    (others_kept i o (qs ++ (y ∷ [])) ys (λ k h. d (suc k) (omega arith)) (other_kept i qs y o (d 0 (omega arith)) l))

module _ (p : ℕ → Bool) (into b : Book) (hi : BookKept into) (hb : BookKept b) where
  behind_range : (n m : ℕ) (g h : GatewayCancel) → g.unsent ≡ h.unsent → g.stuck ≡ h.stuck → g.tries ≡ h.tries → g.refusedsends ≡ h.refusedsends
      → eqb g.origdownstream 0 ≡ eqb h.origdownstream 0 → g.origdownstream ≤ n → gateway_range m h ≡ true → gateway_range n g ≡ true
  unfolding gateway_range
  behind_range n m g h a c d f z l e =
      let (e, r3) = and_parts _ _ e in
      let (r1, r2) = and_parts (not (h.unsent && h.stuck)) (leb h.origdownstream m) e in
      and_from _ _ (and_from _ _ (rw (a, c) r1) (le-leb g.origdownstream n l)) (rw (a, c, d, f, z) r3)

  module _ (i : ℕ) (here : i < length b.orders) (go : p i ≡ true) where
    old : OrderKept i (order_in b i) b.requests
    old = hb.order i here

    named_within : moved_link (of_passing p b) (length into.requests) (named_along p b i) ≤ length (joined p into b).requests
    named_within =
        ⊎_elim
        (λ z. let e : moved_link (of_passing p b) (length into.requests) (named_along p b i) ≡ 0 = ap (moved_link (of_passing p b) (length into.requests)) z ∙ moved_none (of_passing p b) (length into.requests) in omega arith)
        (λ a. along_within p into b (named_along p b i) a)
        (named_along_along p b hb i here go)

    gateway_joined : gateway_range (length (joined p into b).requests) (moved_order p (length into.requests) b i).gateway ≡ true
    unfolding moved_order
    gateway_joined =
        behind_range _ (length b.requests) _ (order_in b i).gateway refl refl refl refl
        (moved_zero (of_passing p b) (length into.requests) (named_along p b i) ∙ named_zero p b hb i here go) named_within old.gateway

    done_joined : done_rule (moved_order p (length into.requests) b i) ≡ true
    unfolding done_rule has_pending has_gateway moved_order
    done_joined =
        rw (moved_zero (of_passing p b) (length into.requests) (order_in b i).pending.request, moved_zero (of_passing p b) (length into.requests) (named_along p b i), named_zero p b hb i here go)
        old.done

    -- a request that it has there is one that it had
    pub flight_joined : (j : ℕ) → j < length b.requests → of_passing p b j ≡ true → (request_in b j).order ≡ i
        → in_flight_rule (length into.requests + count_below (of_passing p b) j + 1) (moved_request p (length into.orders) (request_in b j)) (moved_order p (length into.requests) b i) ≡ true
    unfolding in_flight_rule moved_request moved_order is_gateway is_answered
    flight_joined j h e own =
        let o = order_in b i in
        let q = request_in b j in
        let link : ℕ → ℕ = moved_link (of_passing p b) (length into.requests) in
        flight_map (not (is_gateway q) || is_answered q || is_done o.state.status) (eqb o.links.cancel (j + 1))
        (eqb (link o.links.cancel) (length into.requests + count_below (of_passing p b) j + 1)) (ltb 0 o.gateway.tries) (not o.gateway.unsent) (not o.gateway.stuck)
        (λ r. eq-eqb (link o.links.cancel) _ (ap link (eqb-true o.links.cancel (j + 1) r) ∙ moved_some (of_passing p b) (length into.requests) j))
        (old.flight j h own)

    flights_joined : (k : ℕ) → k < length (joined p into b).requests → (at (joined p into b).requests k).order ≡ new_place p into i
        → in_flight_rule (k + 1) (at (joined p into b).requests k) (moved_order p (length into.requests) b i) ≡ true
    flights_joined k h own = ⊎_elim before moved (request_from p into b k h)
      where
        order_at : (f : FromRequest p into b k) → length into.orders + count_below p (request_in b f.at).order ≡ (at (joined p into b).requests k).order
        order_at f = unfold moved_request in sym (ap (λ (q : Request). q.order) f.is)

        before : k < length into.requests → in_flight_rule (k + 1) (at (joined p into b).requests k) (moved_order p (length into.requests) b i) ≡ true
        before l =
            let s : (at into.requests k).order ≡ new_place p into i = sym (ap (λ (q : Request). q.order) (joined_old_request p into b k l)) ∙ own in
            let m : (at into.requests k).order < length into.orders = (hi.request k l).order in
            absurd (omega arith)

        moved : FromRequest p into b k → in_flight_rule (k + 1) (at (joined p into b).requests k) (moved_order p (length into.requests) b i) ≡ true
        moved f =
            let s : length into.orders + count_below p (request_in b f.at).order ≡ length into.orders + count_below p i =
            order_at f ∙ own in
            subst (λ (q : Request). in_flight_rule (k + 1) q (moved_order p (length into.requests) b i) ≡ true) (sym f.is)
            (subst (λ (n : ℕ). in_flight_rule (n + 1) (moved_request p (length into.orders) (request_in b f.at)) (moved_order p (length into.requests) b i) ≡ true) (sym f.place)
            (flight_joined f.at f.below f.passes (rank_injective p (request_in b f.at).order i f.passes go (omega arith))))

    pub order_joined : OrderKept (new_place p into i) (moved_order p (length into.requests) b i) (joined p into b).requests
    order_joined = record {
      names = unfold moved_order in old.names;
      terms = unfold moved_order in old.terms;
      coded = unfold moved_order in old.coded;
      average = unfold moved_order in old.average;
      waiting = unfold moved_order pending_range in rw (moved_zero (of_passing p b) (length into.requests) (order_in b i).pending.request) old.waiting;
      gateway = gateway_joined;
      current = unfold moved_order current_rule is_cancel is_first is_replace moved_request in linked_joined p into b i go (current_test (order_in b i).names.downstream) (order_in b i).links.current (λ q. refl) old.current;
      cancel = unfold moved_order cancel_rule is_cancel is_first is_replace moved_request in zero_joined p into b i go (order_in b i).links.cancel (linked_joined p into b i go is_cancel (order_in b i).links.cancel (λ q. refl)) old.cancel;
      pending = unfold moved_order pending_rule is_replace is_answered moved_request in zero_joined p into b i go (order_in b i).pending.request (linked_joined p into b i go pending_test (order_in b i).pending.request (λ q. refl)) old.pending;
      amendments = unfold moved_order in at_amendments _ _ (joined p into b).requests (amendments_at i _ b.requests old.amendments ∙ sym (owned_joined p into b hi hb i here go));
      filled = unfold moved_order filled_rule in old.filled;
      status = unfold moved_order in old.status;
      done = done_joined;
      tries = unfold moved_order tries_rule in old.tries;
      flight = flights_joined;
    }
