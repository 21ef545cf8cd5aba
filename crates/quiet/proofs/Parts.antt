-- The parts of the handling under other numbers for links and places: what is done to the order, to a change, and to the gateway's cancel. Rests on Renamed.
use Rattle.std.proofs.Common.{ℕ, ◌≡◌, refl, sym, ap, subst, ◌∙◌, Bool, true, false, not, eqb}
use Rattle.prelude.specs.Cases.{if◌then◌otherwise◌}
use Rattle.prelude.specs.declared.Text.{Text}
use Rattle.wide.specs.declared.Priced.{Priced}
use Rattle.store.specs.declared.State.{State}
use Rattle.store.specs.declared.Pending.{Pending}
use Rattle.store.specs.declared.GatewayCancel.{GatewayCancel}
use Rattle.store.specs.declared.Order.{Order}
use Rattle.store.specs.declared.Request.{Request}
use Rattle.store.specs.Orders.{no_pending, no_gateway}
use Rattle.machine.specs.Orders.{has_pending, has_gateway, status_at, unless_short, is_done, leaves_qty, set_status, record_venue_order_id, pending_terms, apply_replace, next_exec, with_state}
use Rattle.machine.specs.Messages.{report, new_order, cancel_request, to_venue}
use Rattle.machine.specs.Changes.{Message, unchanged, refusing, with_order, answering, superseding, adding, telling, alarming}
use Rattle.machine.specs.declared.Note.{Note}
use Rattle.machine.specs.declared.Change.{Change}
use Rattle.quiet.specs.Renamed.{renamed_order, renamed_request, renamed_change}

-- ---- tests that come out alike

pub same_if : {A B : Type 0} (f : A → B) {s t : Bool} {u v : B} {x y : A} → s ≡ t → u ≡ f x → v ≡ f y → (if s then u otherwise v) ≡ f (if t then x otherwise y)
unfolding if◌then◌otherwise◌
same_if f {s} {t} {u} {v} {x} {y} e p q = subst (λ (k : Bool). (if k then u otherwise v) ≡ f (if t then x otherwise y)) (sym e) (go t)
  where
    go : (k : Bool) → (if k then u otherwise v) ≡ f (if k then x otherwise y)
    go true = p
    go false = q

-- what renames: no two links become one, and none stays none
pub record Renames (g h w : ℕ → ℕ) : Type 0 where
  pub apart : (x y : ℕ) → eqb (g x) (g y) ≡ eqb x y
  pub none : g 0 ≡ 0
  pub no_place : h 0 ≡ 0
  pub first : w 0 ≡ 0

-- ---- tests of an order, and what is done to it

module _ (g h w : ℕ → ℕ) (r : Renames g h w) where
  abbrev pub ren : Order → Order
  ren = renamed_order g

  abbrev pub R : Change → Change
  R = renamed_change g h w

  pub zero_test : (x : ℕ) → eqb (g x) 0 ≡ eqb x 0
  zero_test x = ap (eqb (g x)) (sym r.none) ∙ r.apart x 0

  pub has_pending_ren : (o : Order) → has_pending (ren o) ≡ has_pending o
  unfolding has_pending
  has_pending_ren o = ap not (zero_test o.pending.request)

  pub has_gateway_ren : (o : Order) → has_gateway (ren o) ≡ has_gateway o
  unfolding has_gateway
  has_gateway_ren o = ap not (zero_test o.gateway.origdownstream)

  -- no pending terms, no gateway cancel
  abbrev ren_pending : Pending → Pending
  ren_pending p = record { request = g p.request; qty = p.qty; price = p.price; ordtype = p.ordtype; timeinforce = p.timeinforce }

  abbrev ren_gateway : GatewayCancel → GatewayCancel
  ren_gateway c = record { tries = c.tries; unsent = c.unsent; stuck = c.stuck; origdownstream = g c.origdownstream; refusedsends = c.refusedsends }

  pub none_pending : no_pending ≡ ren_pending no_pending
  none_pending = rw r.none

  none_gateway : no_gateway ≡ ren_gateway no_gateway
  none_gateway = rw r.none

  pub status_ren : (s : ℕ) (o : Order) → set_status s (ren o) ≡ ren (set_status s o)
  unfolding set_status
  status_ren s o =
      let s' : ℕ = status_at o.state.cumqty (unless_short o.terms.qty o.state.cumqty s) in
      go (is_done s')
    where
      go : (d : Bool) → record {
        client = o.client;
        venue = o.venue;
        names = o.names;
        terms = o.terms;
        state = record { status = status_at o.state.cumqty (unless_short o.terms.qty o.state.cumqty s); cumqty = o.state.cumqty; avgpx = o.state.avgpx; execseq = o.state.execseq };
        links = (ren o).links;
        pending = if d then no_pending otherwise (ren o).pending;
        gateway = if d then no_gateway otherwise (ren o).gateway;
      } ≡ ren (record {
        client = o.client;
        venue = o.venue;
        names = o.names;
        terms = o.terms;
        state = record { status = status_at o.state.cumqty (unless_short o.terms.qty o.state.cumqty s); cumqty = o.state.cumqty; avgpx = o.state.avgpx; execseq = o.state.execseq };
        links = o.links;
        pending = if d then no_pending otherwise o.pending;
        gateway = if d then no_gateway otherwise o.gateway;
      })
      go true = unfold if◌then◌otherwise◌ in rw r.none
      go false = unfold if◌then◌otherwise◌ in refl

  pub venue_ren : (given : Text) (replaced : Bool) (o : Order) → record_venue_order_id given replaced (ren o) ≡ ren (record_venue_order_id given replaced o)
  unfolding record_venue_order_id
  venue_ren given replaced o = refl

  pub terms_ren : (o : Order) → pending_terms (ren o) ≡ pending_terms o
  unfolding pending_terms
  terms_ren o = refl

  pub replace_ren : (q : Request) (o : Order) → apply_replace (renamed_request w q) (ren o) ≡ ren (apply_replace q o)
  unfolding apply_replace pending_terms
  replace_ren q o = rw r.none

  pub exec_ren : (o : Order) → next_exec (ren o) ≡ ren (next_exec o)
  unfolding next_exec
  exec_ren o = refl

  pub state_ren : (s : State) (o : Order) → with_state s (ren o) ≡ ren (with_state s o)
  state_ren s o = refl

  -- ---- messages, which show no link

  pub report_ren : (o : Order) (clordid origclordid : Text) (exectype lastqty : ℕ) (price : Priced) (note : Note)
      → report (ren o) clordid origclordid exectype lastqty price note ≡ report o clordid origclordid exectype lastqty price note
  unfolding report leaves_qty
  report_ren o clordid origclordid exectype lastqty price note = refl

  pub new_order_ren : (o : Order) (t : Text) → new_order (ren o) t ≡ new_order o t
  unfolding new_order to_venue
  new_order_ren o t = refl

  pub cancel_request_ren : (o : Order) (t : Text) → cancel_request (ren o) t ≡ cancel_request o t
  unfolding cancel_request to_venue
  cancel_request_ren o t = refl

  -- ---- changes

  pub unchanged_ren : (p : ℕ) (o : Order) → unchanged (h p) (ren o) ≡ R (unchanged p o)
  unfolding unchanged renamed_change
  unchanged_ren p o = rw (r.none, r.first)

  pub refusing_ren : (n : ℕ) → refusing n ≡ R (refusing n)
  unfolding refusing renamed_change
  refusing_ren n = rw (r.none, r.first, r.no_place)

  pub answering_ren : (k v : ℕ) (c : Change) → answering (g k) v (R c) ≡ R (answering k v c)
  unfolding answering renamed_change
  answering_ren k v c = refl

  pub superseding_ren : (k : ℕ) (c : Change) → superseding (g k) (R c) ≡ R (superseding k c)
  unfolding superseding renamed_change
  superseding_ren k c = refl

  pub adding_ren : (q : Request) (c : Change) → adding (renamed_request w q) (R c) ≡ R (adding q c)
  unfolding adding renamed_change
  adding_ren q c = refl

  pub telling_ren : (m : Message) (c : Change) → telling m (R c) ≡ R (telling m c)
  unfolding telling renamed_change
  telling_ren m c = refl

  pub alarming_ren : (a : ℕ) (c : Change) → alarming a (R c) ≡ R (alarming a c)
  unfolding alarming renamed_change
  alarming_ren a c = refl

  pub with_order_ren : (o : Order) (c : Change) → with_order (ren o) (R c) ≡ R (with_order o c)
  unfolding renamed_change
  with_order_ren o c = refl
