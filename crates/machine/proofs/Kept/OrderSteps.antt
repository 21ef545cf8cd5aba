-- The small steps of one order, its gateway cancel, pending terms, status and accepted replace: each keeps what the rules ask of it. Rests on Local.
use Rattle.std.proofs.Common.{ℕ, ◌+◌, ◌-◌, ◌≤◌, arith, ◌≡◌, refl, sym, subst, ◌∙◌, ⊎_elim, Bool, true, false, not, ◌&&◌, ◌||◌, List, eqb, leb, ltb, length, eq-eqb, le-leb, ltb-false}
use Rattle.std.proofs.lemmas.Bool.{not-true, and_parts, and_from, or_left, or_right, and_right, not_from_false, not_from_true}
use Rattle.prelude.specs.Cases.{if◌then◌otherwise◌}
use Rattle.prelude.specs.Laws.Cases.{split_if, if_false, clash}
use Rattle.prelude.specs.Texts.{same_text}
use Rattle.prelude.specs.Laws.Texts.{same_self}
use Rattle.prelude.specs.declared.Text.{Text}
use Rattle.prelude.specs.declared.Terms.{Terms}
use Rattle.store.specs.declared.Names.{Names}
use Rattle.store.specs.declared.Pending.{Pending}
use Rattle.store.specs.declared.GatewayCancel.{GatewayCancel}
use Rattle.store.specs.declared.Order.{Order}
use Rattle.store.specs.declared.Request.{Request}
use Rattle.machine.specs.Orders.{is_done, has_pending, has_gateway, status_at, unless_short, set_status, kept_order_id, record_venue_order_id, pending_terms, apply_replace, next_exec, with_state, with_pending, with_gateway}
use Rattle.store.specs.Orders.{no_pending, no_gateway}
use Rattle.machine.specs.Changes.{is_first, is_replace, is_cancel}
use Rattle.format.specs.Codes.{is_side, is_status, statuses, is_qty, is_price, pending_new, new}
use Rattle.machine.specs.Ranges.{text_within, name_range}
use Rattle.machine.specs.Rules.{names_range, force_range, priced_range, terms_range, pending_range, gateway_range, current_test, pending_test, current_rule, pending_rule, filled_rule, status_rule, done_rule, tries_rule, in_flight_rule}
use Rattle.machine.proofs.Kept.Laws.{or_map, or_else, decide}
use Rattle.machine.proofs.Kept.Tables.{at, Linked, linked_at, at_linked}
use Rattle.machine.proofs.Kept.Local.{OrderKept, settled, Quiet, quiet_flights, in_flight, flight_test}

-- ---- the order's steps

-- a live order may have what a done one may not
pub live_done : (o : Order) → is_done o.state.status ≡ false → done_rule o ≡ true
unfolding done_rule
live_done o live = or_left _ _ (not_from_false _ live)

-- an order with a gateway cancel is live
pub gateway_live : (o : Order) → done_rule o ≡ true → has_gateway o ≡ true → is_done o.state.status ≡ false
unfolding done_rule
gateway_live o d g = decide (is_done o.state.status)
    (λ e. clash (has_gateway o) g (not-true (has_gateway o) (and_parts (not (has_pending o)) (not (has_gateway o)) (or_else (not (is_done o.state.status)) _ (not_from_true _ e) d)).1))
    (λ e. e)

-- the parts of the names' range, and of the terms'
pub record NamesKept (n : Names) : Type 0 where
  pub name : name_range n.name ≡ true
  pub clordid : text_within 1 32 n.clordid ≡ true
  pub downstream : text_within 1 32 n.downstream ≡ true
  pub symbol : text_within 1 16 n.symbol ≡ true
  pub venueorderid : text_within 0 32 n.venueorderid ≡ true

pub names_kept : (n : Names) → names_range n ≡ true → NamesKept n
unfolding names_range
names_kept n e =
    let (e, r5) = and_parts _ _ e in let (e, r4) = and_parts _ _ e in let (e, r3) = and_parts _ _ e in let (r1, r2) = and_parts _ _ e in
    record { name = r1; clordid = r2; downstream = r3; symbol = r4; venueorderid = r5 }

pub kept_names : (n : Names) → NamesKept n → names_range n ≡ true
unfolding names_range
kept_names n k = and_from _ _ (and_from _ _ (and_from _ _ (and_from _ _ k.name k.clordid) k.downstream) k.symbol) k.venueorderid

pub record TermsKept (t : Terms) : Type 0 where
  pub side : is_side t.side ≡ true
  pub priced : priced_range t.ordtype t.price ≡ true
  pub timeinforce : force_range t.timeinforce ≡ true
  pub qty : is_qty t.qty ≡ true

pub terms_kept : (t : Terms) → terms_range t ≡ true → TermsKept t
unfolding terms_range
terms_kept t e =
    let (e, r4) = and_parts _ _ e in let (e, r3) = and_parts _ _ e in let (r1, r2) = and_parts _ _ e in
    record { side = r1; priced = r2; timeinforce = r3; qty = r4 }

pub kept_terms : (t : Terms) → TermsKept t → terms_range t ≡ true
unfolding terms_range
kept_terms t k = and_from _ _ (and_from _ _ (and_from _ _ k.side k.priced) k.timeinforce) k.qty

kept_id : (kept given : Text) (r : Bool) → text_within 0 32 kept ≡ true → text_within 0 32 given ≡ true → text_within 0 32 (kept_order_id kept given r) ≡ true
unfolding kept_order_id
kept_id kept given r p q =
    split_if (λ (t : Text). text_within 0 32 t ≡ true) _ (λ e. p) (λ e. split_if (λ (t : Text). text_within 0 32 t ≡ true) _ (λ e. q) (λ e. p))

module _ (i : ℕ) (o : Order) (qs : List Request) (l : OrderKept i o qs) where
  pub sequence_kept : OrderKept i (next_exec o) qs
  unfolding next_exec current_rule filled_rule done_rule has_pending has_gateway in_flight_rule
  sequence_kept = record {
    names = l.names;
    terms = l.terms;
    coded = l.coded;
    average = l.average;
    waiting = l.waiting;
    gateway = l.gateway;
    current = l.current;
    cancel = l.cancel;
    pending = l.pending;
    amendments = l.amendments;
    filled = l.filled;
    status = l.status;
    done = l.done;
    tries = l.tries;
    flight = l.flight;
  }

  -- the venue's OrderID
  pub named_kept : (given : Text) (r : Bool) → text_within 0 32 given ≡ true → OrderKept i (record_venue_order_id given r o) qs
  unfolding record_venue_order_id current_rule filled_rule done_rule has_pending has_gateway in_flight_rule
  named_kept given r w = record {
    names = let n = names_kept o.names l.names in
        kept_names _ (record {
          name = n.name;
          clordid = n.clordid;
          downstream = n.downstream;
          symbol = n.symbol;
          venueorderid = kept_id o.names.venueorderid given r n.venueorderid w;
        });
    terms = l.terms;
    coded = l.coded;
    average = l.average;
    waiting = l.waiting;
    gateway = l.gateway;
    current = l.current;
    cancel = l.cancel;
    pending = l.pending;
    amendments = l.amendments;
    filled = l.filled;
    status = l.status;
    done = l.done;
    tries = l.tries;
    flight = l.flight;
  }

  -- a gateway cancel anew, when none is in flight
  pub gateway_kept : (g : GatewayCancel) → is_done o.state.status ≡ false → Quiet i qs → gateway_range (length qs) g ≡ true → tries_rule g ≡ true
      → OrderKept i (with_gateway g o) qs
  unfolding current_rule filled_rule
  gateway_kept g live quiet r t = record {
    names = l.names;
    terms = l.terms;
    coded = l.coded;
    average = l.average;
    waiting = l.waiting;
    gateway = r;
    current = l.current;
    cancel = l.cancel;
    pending = l.pending;
    amendments = l.amendments;
    filled = l.filled;
    status = l.status;
    done = live_done (with_gateway g o) live;
    tries = t;
    flight = quiet_flights i (with_gateway g o) qs quiet;
  }

  -- pending terms anew
  pub pending_kept : (p : Pending) → is_done o.state.status ≡ false → pending_range p ≡ true → pending_rule i p.request qs ≡ true
      → OrderKept i (with_pending p o) qs
  unfolding current_rule filled_rule in_flight_rule
  pending_kept p live r t = record {
    names = l.names;
    terms = l.terms;
    coded = l.coded;
    average = l.average;
    waiting = r;
    gateway = l.gateway;
    current = l.current;
    cancel = l.cancel;
    pending = t;
    amendments = l.amendments;
    filled = l.filled;
    status = l.status;
    done = live_done (with_pending p o) live;
    tries = l.tries;
    flight = l.flight;
  }

  -- none any more
  pub cleared_kept : OrderKept i (with_pending no_pending o) qs
  unfolding current_rule filled_rule in_flight_rule pending_range pending_rule if◌then◌otherwise◌ done_rule has_pending has_gateway
  cleared_kept = record {
    names = l.names;
    terms = l.terms;
    coded = l.coded;
    average = l.average;
    waiting = refl;
    gateway = l.gateway;
    current = l.current;
    cancel = l.cancel;
    pending = refl;
    amendments = l.amendments;
    filled = l.filled;
    status = l.status;
    done = or_map (not (is_done o.state.status)) (not (has_pending o) && not (has_gateway o)) (λ e. e) (λ e. (and_parts (not (has_pending o)) (not (has_gateway o)) e).1) l.done;
    tries = l.tries;
    flight = l.flight;
  }

-- ---- a status

pub status_coded : (cumqty s : ℕ) → is_status s ≡ true → is_status (status_at cumqty s) ≡ true
unfolding status_at
status_coded cumqty s e = split_if (λ (t : ℕ). is_status t ≡ true) _ (λ h. unfold is_status statuses in refl) (λ h. e)

pub short_coded : (qty cumqty s : ℕ) → is_status s ≡ true → is_status (unless_short qty cumqty s) ≡ true
unfolding unless_short
short_coded qty cumqty s e = split_if (λ (t : ℕ). is_status t ≡ true) _ (λ h. unfold is_status statuses in refl) (λ h. e)

neither : (a b : Bool) → (a || b) && true ≡ false → not (b || a) ≡ true
neither a b e = grind arith

status_right : (cumqty s : ℕ) → status_rule cumqty (status_at cumqty s) ≡ true
unfolding status_at
status_right cumqty s =
    split_if (λ (t : ℕ). status_rule cumqty t ≡ true) _ (λ h. unfold status_rule in or_right (eqb cumqty 0) _ refl) (λ h. unfold status_rule in go (ltb 0 cumqty) refl h)
  where
    go : (b : Bool) → ltb 0 cumqty ≡ b → (eqb s new || eqb s pending_new) && b ≡ false → eqb cumqty 0 || not (eqb s pending_new || eqb s new) ≡ true
    go true t h = or_right (eqb cumqty 0) _ (neither (eqb s new) (eqb s pending_new) h)
    go false t h = or_left _ _ (eq-eqb cumqty 0 (let none : cumqty ≤ 0 = ltb-false 0 cumqty t in omega arith))

pub gateway_none : (n : ℕ) → gateway_range n no_gateway ≡ true
unfolding gateway_range
gateway_none n = and_from _ _ (le-leb 0 n (omega arith)) refl

-- what a done order gives up
done_if : (d : Bool) (p : Pending) (g : GatewayCancel)
    → not d || (not (not (eqb (if d then no_pending otherwise p).request 0)) && not (not (eqb (if d then no_gateway otherwise g).origdownstream 0))) ≡ true
unfolding if◌then◌otherwise◌
done_if true p g = refl
done_if false p g = refl

flight_if : (d s c : Bool) (g : GatewayCancel) → s || (c && ltb 0 g.tries && not g.unsent && not g.stuck) ≡ true
    → s || d || (c && ltb 0 (if d then no_gateway otherwise g).tries && not (if d then no_gateway otherwise g).unsent && not (if d then no_gateway otherwise g).stuck) ≡ true
unfolding if◌then◌otherwise◌
flight_if true s c g e = or_left _ _ (or_right s _ refl)
flight_if false s c g e = or_map s _ (λ p. or_left _ false p) (λ p. p) e

live_flight : (link : ℕ) (q : Request) (o : Order) → is_done o.state.status ≡ false → in_flight_rule link q o ≡ true
    → settled q || (eqb o.links.cancel link && ltb 0 o.gateway.tries && not o.gateway.unsent && not o.gateway.stuck) ≡ true
live_flight link q o live e =
    ⊎_elim (λ s. or_left _ _ s) (λ f. or_right (settled q) _ (flight_test link o f)) (in_flight link q o live e)

-- a live order with these quantities and this status; with its own quantities this is `set_status` alone
pub state_kept : (s cumqty avgpx execseq i : ℕ) (o : Order) (qs : List Request) → is_done o.state.status ≡ false → is_status s ≡ true → is_price avgpx ≡ true
    → leb cumqty o.terms.qty ≡ true → OrderKept i o qs
    → OrderKept i (set_status s (with_state (record { status = o.state.status; cumqty = cumqty; avgpx = avgpx; execseq = execseq }) o)) qs
unfolding set_status current_rule filled_rule
state_kept s cumqty avgpx execseq i o qs live coded priced fits l =
    let s' : ℕ = unless_short o.terms.qty cumqty s in
    let d : Bool = is_done (status_at cumqty s') in
    record {
      names = l.names;
      terms = l.terms;
      coded = status_coded cumqty s' (short_coded o.terms.qty cumqty s coded);
      average = priced;
      waiting = split_if (λ (p : Pending). pending_range p ≡ true) d (λ e. unfold pending_range if◌then◌otherwise◌ in refl) (λ e. l.waiting);
      gateway = split_if (λ (g : GatewayCancel). gateway_range (length qs) g ≡ true) d (λ e. gateway_none (length qs)) (λ e. l.gateway);
      current = l.current;
      cancel = l.cancel;
      pending = split_if (λ (p : Pending). pending_rule i p.request qs ≡ true) d (λ e. unfold pending_rule in refl) (λ e. l.pending);
      amendments = l.amendments;
      filled = fits;
      status = status_right cumqty s';
      done = unfold done_rule has_pending has_gateway in done_if d o.pending o.gateway;
      tries = split_if (λ (g : GatewayCancel). tries_rule g ≡ true) d (λ e. unfold tries_rule if◌then◌otherwise◌ in refl) (λ e. l.tries);
      flight = λ j h e. unfold in_flight_rule in flight_if d (settled (at qs j)) (eqb o.links.cancel (j + 1)) o.gateway (live_flight (j + 1) (at qs j) o live (l.flight j h e));
    }

-- ---- an accepted replace

pub not_cancel : (q : Request) → is_replace q ≡ true → is_cancel q ≡ false
unfolding is_cancel
not_cancel q e = and_right (not (is_first q)) _ (not_from_true _ e)

-- pending terms stand in the book as terms do
pub record PendingKept (i : ℕ) (o : Order) (qs : List Request) : Type 0 where
  pub terms : terms_range (pending_terms o) ≡ true
  pub link : Linked pending_test i o.pending.request qs

pub pending_parts : (i : ℕ) (o : Order) (qs : List Request) → eqb o.pending.request 0 ≡ false → OrderKept i o qs → PendingKept i o qs
unfolding pending_range pending_rule pending_terms
pending_parts i o qs some l =
    let p : Pending = o.pending in
    let e : priced_range p.ordtype p.price && force_range p.timeinforce && is_qty p.qty ≡ true = sym (if_false (eqb p.request 0) _ _ some) ∙ l.waiting in
    let (e, r3) = and_parts (priced_range p.ordtype p.price && force_range p.timeinforce) (is_qty p.qty) e in
    let (r1, r2) = and_parts (priced_range p.ordtype p.price) (force_range p.timeinforce) e in
    record {
      terms = kept_terms _ (record { side = (terms_kept o.terms l.terms).side; priced = r1; timeinforce = r2; qty = r3 });
      link = linked_at pending_test i p.request qs (or_else (eqb p.request 0) _ some l.pending);
    }

pub replaced_kept : (i : ℕ) (o : Order) (qs : List Request) (q : Request) → is_done o.state.status ≡ false → eqb o.pending.request 0 ≡ false
    → at qs (o.pending.request - 1) ≡ q → text_within 1 32 q.clordid ≡ true → text_within 1 32 q.downstream ≡ true → leb o.state.cumqty o.pending.qty ≡ true
    → OrderKept i o qs → OrderKept i (apply_replace q o) qs
unfolding apply_replace pending_terms current_rule pending_range pending_rule if◌then◌otherwise◌ filled_rule in_flight_rule
replaced_kept i o qs q live some here clordid downstream fits l =
    let p : PendingKept i o qs = pending_parts i o qs some l in
    let link : Linked pending_test i o.pending.request qs = p.link in
    let replace : is_replace (at qs (o.pending.request - 1)) ≡ true = (and_parts (is_replace (at qs (o.pending.request - 1))) _ link.passes).0 in
    record {
      names = let n = names_kept o.names l.names in
          kept_names _ (record { name = n.name; clordid = clordid; downstream = downstream; symbol = n.symbol; venueorderid = n.venueorderid });
      terms = p.terms;
      coded = l.coded;
      average = l.average;
      waiting = refl;
      gateway = l.gateway;
      current = at_linked (current_test q.downstream) i o.pending.request qs
          (record {
            above = link.above;
            within = link.within;
            own = link.own;
            passes = and_from _ _ (not_from_false _ (not_cancel (at qs (o.pending.request - 1)) replace))
                (subst (λ (x : Request). same_text q.downstream x.downstream ≡ true) (sym here) (same_self q.downstream));
          });
      cancel = l.cancel;
      pending = refl;
      amendments = l.amendments;
      filled = fits;
      status = l.status;
      done = live_done (apply_replace q o) live;
      tries = l.tries;
      flight = l.flight;
    }
