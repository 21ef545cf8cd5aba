-- Refused requests and sends that failed under other numbers for links and places. Rests on Cancels.
use Rattle.std.proofs.Common.{ℕ, ◌≡◌, refl, ap, ◌∙◌, Bool, false, not, ◌&&◌, eqb}
use Rattle.prelude.specs.Cases.{if◌then◌otherwise◌}
use Rattle.records.specs.declared.Record.{Record}
use Rattle.store.specs.declared.Pending.{Pending}
use Rattle.store.specs.declared.Order.{Order}
use Rattle.store.specs.declared.Request.{Request}
use Rattle.store.specs.Orders.{no_pending}
use Rattle.text.specs.Stored.{no_text}
use Rattle.format.specs.Codes.{rejected, exec_rejected}
use Rattle.machine.specs.Constants as came
use Rattle.machine.specs.Constants.{other, ours, text_not_sent}
use Rattle.machine.specs.Orders.{set_status, record_venue_order_id, pending_terms, next_exec, with_pending, with_gateway}
use Rattle.machine.specs.Messages.{no_price, report, cancel_reject, new_order, cancel_request, replace_request, to_venue}
use Rattle.machine.specs.Changes.{Event, unchanged, answering, telling, alarming, is_first, is_replace, is_gateway, is_cancel, is_answered}
use Rattle.machine.specs.GatewayCancel.{gateway_cancel_refused, resume_gateway_cancel}
use Rattle.machine.specs.Amend.{not_pending, refused_order, refused_alarm, refused_note, refuse_request, venue_cancel_reject, send_refused, first_failed, send_failed, resendable, unsent}
use Rattle.machine.specs.declared.Findings.{Findings}
use Rattle.machine.specs.declared.Note.{Note}
use Rattle.machine.specs.declared.Refused.{Refused}
use Rattle.machine.specs.declared.Change.{Change}
use Rattle.quiet.specs.Renamed.{renamed_order, renamed_request, renamed_findings, renamed_change}
use Rattle.quiet.proofs.Parts.{same_if, Renames, R, has_gateway_ren, none_pending, status_ren, exec_ren, report_ren, unchanged_ren, answering_ren, telling_ren, alarming_ren}
use Rattle.quiet.proofs.Cancels.{Placed, resume_ren, gateway_refused_ren}

module _ (g h w : ℕ → ℕ) (r : Renames g h w) where
  pub not_pending_ren : (o : Order) → not_pending (renamed_order g o) ≡ renamed_order g (not_pending o)
  unfolding not_pending
  not_pending_ren o = same_if (renamed_order g) refl (status_ren g h w r _ o) refl

  -- what was pending, unless it is this request
  kept_pending : (k : ℕ) (o : Order)
      → (if eqb (g o.pending.request) (g k) then no_pending otherwise (renamed_order g o).pending)
      ≡ record {
        request = g (if eqb o.pending.request k then no_pending otherwise o.pending).request;
        qty = (if eqb o.pending.request k then no_pending otherwise o.pending).qty;
        price = (if eqb o.pending.request k then no_pending otherwise o.pending).price;
        ordtype = (if eqb o.pending.request k then no_pending otherwise o.pending).ordtype;
        timeinforce = (if eqb o.pending.request k then no_pending otherwise o.pending).timeinforce;
      }
  kept_pending k o =
      same_if (λ (p : Pending). record { request = g p.request; qty = p.qty; price = p.price; ordtype = p.ordtype; timeinforce = p.timeinforce })
      (r.apart o.pending.request k) (none_pending g h w r) refl

  pub refused_order_ren : (k : ℕ) (d : Refused) (o : Order) → refused_order (g k) d (renamed_order g o) ≡ renamed_order g (refused_order k d o)
  unfolding refused_order
  refused_order_ren k d o =
      same_if (renamed_order g) refl here
      (same_if (renamed_order g) refl (ap (set_status d.status) here ∙ status_ren g h w r d.status _) (ap not_pending here ∙ not_pending_ren _))
    where
      here : with_pending (if eqb (g o.pending.request) (g k) then no_pending otherwise (renamed_order g o).pending) (record_venue_order_id d.venueorderid false (renamed_order g o))
          ≡ renamed_order g (with_pending (if eqb o.pending.request k then no_pending otherwise o.pending) (record_venue_order_id d.venueorderid false o))
      here = unfold record_venue_order_id in ap (λ (p : Pending). with_pending p (record_venue_order_id d.venueorderid false (renamed_order g o))) (kept_pending k o)

module _ (g h w : ℕ → ℕ) (r : Renames g h w) (n : ℕ) (f : Findings) (l : Placed g h w n f) (k : ℕ) (q : Request) where
  abbrev Q : Request
  Q = renamed_request w q

  abbrev G : Findings
  G = renamed_findings h w n f

  abbrev refusal_left : Refused → Order → Change
  refusal_left d o = alarming (refused_alarm d o) (answering k d.outcome (unchanged f.place (refused_order k d o)))

  abbrev refusal_told : Refused → Order → Order → Record
  refusal_told d o x = cancel_reject o.client o.names.name x.state.status q.clordid q.origclordid q.kind (refused_note d.note)

  pub refuse_request_ren : (venue : ℕ) (d : Refused) (o : Order) → refuse_request G (g k) Q venue d (renamed_order g o) ≡ renamed_change g h w (refuse_request f k q venue d o)
  unfolding refuse_request is_first is_answered is_gateway
  refuse_request_ren venue d o =
      same_if (R g h w r) refl same
      (same_if (R g h w r) refl same
      (same_if (R g h w r) refl same
      (same_if (R g h w r) (ap (λ (x : Bool). is_gateway q && not x) (r.apart o.links.cancel k)) change
      (same_if (R g h w r) refl (ap (gateway_cancel_refused G d.note) change ∙ gateway_refused_ren g h w r n f l d.note _)
      (ap (telling (refusal_told d o (refused_order (g k) d (renamed_order g o)))) change
      ∙ ap (λ (x : Order). telling (refusal_told d o x) (renamed_change g h w (refusal_left d o))) (refused_order_ren g h w r k d o)
      ∙ telling_ren g h w r _ (refusal_left d o))))))
    where
      same : unchanged G.place (renamed_order g o) ≡ renamed_change g h w (unchanged f.place o)
      same = unchanged_ren g h w r f.place o

      change : alarming (refused_alarm d (renamed_order g o)) (answering (g k) d.outcome (unchanged G.place (refused_order (g k) d (renamed_order g o)))) ≡ renamed_change g h w (refusal_left d o)
      change =
          unfold refused_alarm in
          ap (λ (x : Order). alarming (refused_alarm d o) (answering (g k) d.outcome (unchanged G.place x))) (refused_order_ren g h w r k d o)
          ∙ ap (λ (x : Change). alarming (refused_alarm d o) (answering (g k) d.outcome x)) (unchanged_ren g h w r f.place (refused_order k d o))
          ∙ ap (alarming (refused_alarm d o)) (answering_ren g h w r k d.outcome (unchanged f.place (refused_order k d o)))
          ∙ alarming_ren g h w r (refused_alarm d o) _

  pub venue_reject_ren : (o : Order) (e : Event) → venue_cancel_reject G (g k) Q (renamed_order g o) e ≡ renamed_change g h w (venue_cancel_reject f k q o e)
  unfolding venue_cancel_reject
  venue_reject_ren o e = ap (resume_gateway_cancel G) (refuse_request_ren e.venue _ o) ∙ resume_ren g h w r n f l _

  first_failed_ren : (v : ℕ) (note : Note) (o : Order) → first_failed G (g k) v note (renamed_order g o) ≡ renamed_change g h w (first_failed f k v note o)
  unfolding first_failed
  first_failed_ren v note o =
      let left : Order = next_exec (set_status rejected o) in
      let said : Order → Record = λ x. report x x.names.clordid no_text exec_rejected 0 no_price (record { text = note.text; fixedtext = note.fixedtext; reason = other; origin = ours }) in
      ap (λ (x : Order). telling (said x) (answering (g k) v (unchanged G.place x))) (ap next_exec (status_ren g h w r rejected o) ∙ exec_ren g h w r (set_status rejected o))
      ∙ ap (λ (x : Change). telling (said (renamed_order g left)) (answering (g k) v x)) (unchanged_ren g h w r f.place left)
      ∙ ap (telling (said (renamed_order g left))) (answering_ren g h w r k v (unchanged f.place left))
      ∙ telling_ren g h w r _ _
      ∙ ap (λ (m : Record). renamed_change g h w (telling m (answering k v (unchanged f.place left)))) (report_ren g h w r left _ _ _ _ _ _)

  pub send_failed_ren : (venue v : ℕ) (note : Note) (o : Order) → send_failed G (g k) Q venue v note (renamed_order g o) ≡ renamed_change g h w (send_failed f k q venue v note o)
  unfolding send_failed send_refused is_first is_answered is_gateway
  send_failed_ren venue v note o =
      same_if (R g h w r) refl same
      (same_if (R g h w r) refl same
      (same_if (R g h w r) (ap (λ (x : Bool). is_gateway q && not x) (has_gateway_ren g h w r o)) (answers o)
      (same_if (R g h w r) refl (answers (with_gateway (send_refused o.gateway) o))
      (same_if (R g h w r) refl (refuse_request_ren venue _ o)
      (same_if (R g h w r) refl same (first_failed_ren v note o))))))
    where
      same : unchanged G.place (renamed_order g o) ≡ renamed_change g h w (unchanged f.place o)
      same = unchanged_ren g h w r f.place o

      answers : (x : Order) → answering (g k) v (unchanged G.place (renamed_order g x)) ≡ renamed_change g h w (answering k v (unchanged f.place x))
      answers x = ap (answering (g k) v) (unchanged_ren g h w r f.place x) ∙ answering_ren g h w r k v (unchanged f.place x)

  pub unsent_ren : (venue : ℕ) (o : Order) → unsent G (g k) Q venue (renamed_order g o) ≡ renamed_change g h w (unsent f k q venue o)
  unfolding unsent resendable is_first is_answered is_cancel is_replace new_order cancel_request replace_request to_venue pending_terms
  unsent_ren venue o =
      same_if (R g h w r) refl (says _)
      (same_if (R g h w r) refl (says _)
      (same_if (R g h w r) (ap (λ (x : Bool). resendable q venue o && is_replace q && x) (r.apart o.pending.request k)) (says _)
      (send_failed_ren venue came.refused _ o)))
    where
      says : (m : Record) → telling m (unchanged G.place (renamed_order g o)) ≡ renamed_change g h w (telling m (unchanged f.place o))
      says m = ap (telling m) (unchanged_ren g h w r f.place o) ∙ telling_ren g h w r m (unchanged f.place o)
