-- The orders that a refusal and a report leave, by status, quantity and cumulative. Rests on Status, Amend and Report.
use Rattle.std.proofs.Common.{ℕ, arith, ◌≡◌, refl, sym, ap, ◌∙◌, ◌⊎◌, inl, inr, Bool, true, false, not, ◌&&◌, ◌||◌, eqb, ltb}
use Rattle.std.proofs.lemmas.Bool.{cases_Bool}
use Rattle.std.proofs.lemmas.Bool.Decides.{nat_tests}
use Rattle.prelude.specs.Cases.{if◌then◌otherwise◌}
use Rattle.prelude.specs.Laws.Cases.{split_if, if_true, if_false, clash}
use Rattle.prelude.specs.declared.Text.{Text}
use Rattle.format.specs.Codes.{pending_new, new, partially_filled, filled}
use Rattle.store.specs.declared.Order.{Order}
use Rattle.store.specs.declared.Request.{Request}
use Rattle.machine.specs.Constants.{filled_short}
use Rattle.machine.specs.Orders.{is_done, status_at, is_short, unless_short, short_alarm, set_status, record_venue_order_id, pending_terms, apply_replace, next_exec}
use Rattle.machine.specs.Changes.{Event}
use Rattle.machine.specs.Amend.{not_pending, refused_order}
use Rattle.machine.specs.Report.{ordered_qty, reported_order}
use Rattle.machine.specs.Status.{as_set, refused_to, reported_to}
use Rattle.machine.specs.declared.Refused.{Refused}

-- ---- a status set

above : (n : ℕ) → ltb 0 n ≡ not (eqb n 0)
above n = grind (arith, nat_tests)

turned : (t : Bool) → (if not t then partially_filled otherwise new) ≡ (if t then new otherwise partially_filled)
unfolding if◌then◌otherwise◌
turned true = refl
turned false = refl

at_new : (cumqty : ℕ) → status_at cumqty new ≡ (if eqb cumqty 0 then new otherwise partially_filled)
unfolding status_at
at_new cumqty = ap (λ (t : Bool). if t then partially_filled otherwise new) (above cumqty) ∙ turned (eqb cumqty 0)

-- the machine's two steps are the one of the papers
as_set_lem : (qty cumqty s : ℕ) → status_at cumqty (unless_short qty cumqty s) ≡ as_set qty cumqty s
unfolding status_at unless_short is_short as_set
as_set_lem qty cumqty s = go (cases_Bool (eqb s filled && ltb cumqty qty))
  where
    go : (eqb s filled && ltb cumqty qty ≡ true) ⊎ (eqb s filled && ltb cumqty qty ≡ false) → status_at cumqty (unless_short qty cumqty s) ≡ as_set qty cumqty s
    go (inl z) = ap (status_at cumqty) (if_true _ new s z) ∙ at_new cumqty ∙ sym (if_true _ _ _ z)
    go (inr z) =
        ap (status_at cumqty) (if_false _ new s z)
        ∙ ap (λ (t : Bool). if (eqb s new || eqb s pending_new) && t then partially_filled otherwise s) (above cumqty)
        ∙ sym (if_false _ _ _ z)

-- no longer pending: New or PartiallyFilled, by the cumulative
as_freed : (qty cumqty : ℕ) → as_set qty cumqty (if ltb 0 cumqty then partially_filled otherwise new) ≡ as_set qty cumqty new
as_freed qty cumqty = go (cases_Bool (eqb cumqty 0))
  where
    go : (eqb cumqty 0 ≡ true) ⊎ (eqb cumqty 0 ≡ false) → as_set qty cumqty (if ltb 0 cumqty then partially_filled otherwise new) ≡ as_set qty cumqty new
    go (inl z) = ap (as_set qty cumqty) (if_false _ _ _ (above cumqty ∙ ap not z))
    go (inr z) = ap (as_set qty cumqty) (if_true _ _ _ (above cumqty ∙ ap not z)) ∙ (unfold as_set if◌then◌otherwise◌ in rw z refl)

-- ---- the orders

pub record Is (s qty cumqty : ℕ) (x : Order) : Type 0 where
  pub status : x.state.status ≡ s
  pub ordered : x.terms.qty ≡ qty
  pub filled! : x.state.cumqty ≡ cumqty

abbrev pub IsOwn : Order → Order → Type 0
IsOwn o = Is o.state.status o.terms.qty o.state.cumqty

set_is : (s : ℕ) (o : Order) → Is (as_set o.terms.qty o.state.cumqty s) o.terms.qty o.state.cumqty (set_status s o)
unfolding set_status
set_is s o = record { status = as_set_lem _ _ s; ordered = refl; filled! = refl }

pub own_is : (o : Order) → IsOwn o o
own_is o = record { status = refl; ordered = refl; filled! = refl }

pub named_is : (t : Text) (o : Order) → IsOwn o (record_venue_order_id t false o)
unfolding record_venue_order_id
named_is t o = record { status = refl; ordered = refl; filled! = refl }

pub next_is : (s qty cumqty : ℕ) (o : Order) → Is s qty cumqty o → Is s qty cumqty (next_exec o)
unfolding next_exec
next_is s qty cumqty o i = record { status = i.status; ordered = i.ordered; filled! = i.filled! }

module _ (k : ℕ) (r : Refused) (o : Order) where
  -- done stays done
  pub refused_done : is_done o.state.status ≡ true → IsOwn o (refused_order k r o)
  unfolding refused_order record_venue_order_id
  refused_done d = split_if (IsOwn o) _ (λ h. record { status = refl; ordered = refl; filled! = refl }) (λ h. clash _ d h)

  -- a live order has the status that is brought, or is no longer pending
  pub refused_live : is_done o.state.status ≡ false → Is (refused_to o r.status) o.terms.qty o.state.cumqty (refused_order k r o)
  unfolding refused_order record_venue_order_id not_pending refused_to
  refused_live d =
      split_if (Is (refused_to o r.status) o.terms.qty o.state.cumqty) _ (λ h. clash _ h d)
      (λ h. split_if (Is (refused_to o r.status) o.terms.qty o.state.cumqty) (not (eqb r.status 0)) (λ z. to (if_true _ _ _ z) (set_is r.status _))
      (λ z. split_if (Is (refused_to o r.status) o.terms.qty o.state.cumqty) _ (λ p. to (if_false _ _ _ z ∙ if_true _ _ _ p ∙ sym (as_freed _ _)) (set_is _ _))
      (λ p. record { status = sym (if_false _ _ _ z ∙ if_false _ _ _ p); ordered = refl; filled! = refl })))
    where
      to : {s : ℕ} {x : Order} → refused_to o r.status ≡ s → Is s o.terms.qty o.state.cumqty x → Is (refused_to o r.status) o.terms.qty o.state.cumqty x
      to w i = record { status = i.status ∙ sym w; ordered = i.ordered; filled! = i.filled! }

pub reported_is : (accepted : Bool) (s : ℕ) (q : Request) (o : Order) (e : Event)
    → Is (reported_to (ordered_qty accepted o) e.exec.cumqty o s) (ordered_qty accepted o) e.exec.cumqty (reported_order accepted s q o e)
unfolding reported_order record_venue_order_id apply_replace pending_terms ordered_qty reported_to if◌then◌otherwise◌
reported_is true s q o e = let i = set_is (if eqb s 0 then o.state.status otherwise s) _ in record { status = i.status; ordered = i.ordered; filled! = i.filled! }
reported_is false s q o e = let i = set_is (if eqb s 0 then o.state.status otherwise s) _ in record { status = i.status; ordered = i.ordered; filled! = i.filled! }

-- ---- alarm 6

six_if : (t : Bool) → eqb (if t then filled_short otherwise 0) filled_short ≡ t
unfolding if◌then◌otherwise◌
six_if true = refl
six_if false = refl

pub short_six : (qty cumqty s : ℕ) → eqb (short_alarm qty cumqty s) filled_short ≡ eqb s filled && ltb cumqty qty
unfolding short_alarm is_short
short_six qty cumqty s = six_if (eqb s filled && ltb cumqty qty)
