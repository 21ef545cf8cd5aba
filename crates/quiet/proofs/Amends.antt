-- Cancels and replaces of a client under other numbers for links and places. Rests on Cancels.
use Rattle.std.proofs.Common.{ℕ, ◌≡◌, refl, ap, ◌∙◌, Bool, not, eqb}
use Rattle.prelude.specs.Cases.{if◌then◌otherwise◌}
use Rattle.prelude.specs.Refusal.{number_of}
use Rattle.prelude.specs.declared.Refusal.TheVariants.{WrongPrice}
use Rattle.records.specs.declared.Record.{Record}
use Rattle.store.specs.declared.Order.{Order}
use Rattle.format.specs.Codes.{rejected, exec_status}
use Rattle.machine.specs.Constants.{cancel_kind, replace_kind, ours}
use Rattle.machine.specs.Orders.{next_exec}
use Rattle.machine.specs.Messages.{report, cancel_reject, cancel_request, replace_request, to_venue, no_price, no_note, no_long_text}
use Rattle.machine.specs.Changes.{Event, unchanged, adding, telling, next_link, next_number, next_downstream, next_request, numbered_order}
use Rattle.machine.specs.Amend.{amendable, matches, amend_refusal, refuse, redelivered_report, already_taken, cancel_refusal, cancel_goes, cancel, check_replace, replace_refusal, new_terms, new_pending, replace_goes, replace}
use Rattle.machine.specs.declared.Findings.{Findings}
use Rattle.machine.specs.declared.Reject.{Reject}
use Rattle.machine.specs.declared.Change.{Change}
use Rattle.quiet.specs.Renamed.{renamed_order, renamed_findings, renamed_change}
use Rattle.quiet.proofs.Parts.{same_if, Renames, R, has_pending_ren, exec_ren, report_ren, unchanged_ren, refusing_ren, telling_ren}
use Rattle.quiet.proofs.Cancels.{Placed, in_flight_ren}

-- what was looked up for a client's cancel or replace: the order's place, and that of the order that the ClOrdID was used for, are there or not, and one or not
pub record Used (h : ℕ → ℕ) (f : Findings) (used : ℕ) : Type 0 where
  pub place : eqb (h f.place) 0 ≡ eqb f.place 0
  pub none : eqb (h used) 0 ≡ eqb used 0
  pub same : eqb (h used) (h f.place) ≡ eqb used f.place

module _ (g h w : ℕ → ℕ) (r : Renames g h w) (n : ℕ) (f : Findings) (l : Placed g h w n f) (used : ℕ) (u : Used h f used) (full : Bool) (o : Order) (e : Event) where
  abbrev G : Findings
  G = renamed_findings h w n f

  amend_refusal_ren : (own : Reject) → amend_refusal G (h used) full (renamed_order g o) e own ≡ amend_refusal f used full o e own
  unfolding amend_refusal matches
  amend_refusal_ren own =
      same_if (λ (x : Reject). x) (ap not u.none) refl
      (same_if (λ (x : Reject). x) u.place refl refl)

  taken_ren : already_taken G (h used) e ≡ already_taken f used e
  unfolding already_taken
  taken_ren = rw (u.none, u.same)

  refuse_ren : (responseto : ℕ) (d : Reject) → refuse G responseto (renamed_order g o) e d ≡ renamed_change g h w (refuse f responseto o e d)
  unfolding refuse
  refuse_ren responseto d =
      let said : ℕ → Record = λ s. cancel_reject e.client o.names.name s e.ids.clordid e.ids.origclordid responseto
      (record { text = no_long_text; fixedtext = d.fixedtext; reason = d.reason; origin = ours }) in
      ap (λ (x : Bool). telling (said (if x then rejected otherwise o.state.status)) (unchanged G.place (renamed_order g o))) u.place
      ∙ ap (telling (said (if eqb f.place 0 then rejected otherwise o.state.status))) (unchanged_ren g h w r f.place o)
      ∙ telling_ren g h w r _ (unchanged f.place o)

  redelivered_ren : redelivered_report G (renamed_order g o) e ≡ renamed_change g h w (redelivered_report f o e)
  unfolding redelivered_report
  redelivered_ren =
      let said : Order → Record = λ x. report x e.ids.clordid e.ids.origclordid exec_status 0 no_price no_note in
      ap (λ (x : Order). telling (said x) (unchanged G.place x)) (exec_ren g h w r o)
      ∙ ap (λ (m : Record). telling m (unchanged G.place (renamed_order g (next_exec o)))) (report_ren g h w r (next_exec o) _ _ _ _ _ _)
      ∙ ap (telling (said (next_exec o))) (unchanged_ren g h w r f.place (next_exec o))
      ∙ telling_ren g h w r _ (unchanged f.place (next_exec o))

  -- `amendable`: if what goes on to the order goes on alike
  amendable_ren : (responseto : ℕ) (own own' : Reject) (goes goes' : Change) → own' ≡ own → goes' ≡ renamed_change g h w goes
      → amendable G responseto (h used) full (renamed_order g o) e own' goes' ≡ renamed_change g h w (amendable f responseto used full o e own goes)
  amendable_ren responseto own own' goes goes' p q =
      let same : amend_refusal G (h used) full (renamed_order g o) e own' ≡ amend_refusal f used full o e own =
      ap (amend_refusal G (h used) full (renamed_order g o) e) p ∙ amend_refusal_ren own in
      same_if (R g h w r) taken_ren redelivered_ren
      (same_if (R g h w r) (ap (λ (x : Reject). not (eqb x.fixedtext 0)) same)
      (ap (refuse G responseto (renamed_order g o) e) same ∙ refuse_ren responseto (amend_refusal f used full o e own)) q)

  cancel_goes_ren : cancel_goes G (renamed_order g o) e ≡ renamed_change g h w (cancel_goes f o e)
  unfolding cancel_goes numbered_order next_link telling adding unchanged renamed_change cancel_request to_venue next_request next_downstream next_number if◌then◌otherwise◌
  cancel_goes_ren = rw (l.next, l.order, r.none)

  pub cancel_ren : cancel G (h used) full (renamed_order g o) e ≡ renamed_change g h w (cancel f used full o e)
  unfolding cancel cancel_refusal
  cancel_ren =
      amendable_ren cancel_kind _ _ _ _
      (same_if (λ (x : Reject). x) (in_flight_ren g h w r n f l o) refl refl) cancel_goes_ren

  replace_goes_ren : replace_goes G (renamed_order g o) e ≡ renamed_change g h w (replace_goes f o e)
  unfolding replace_goes new_pending new_terms numbered_order next_link telling adding unchanged renamed_change replace_request to_venue next_request next_downstream next_number if◌then◌otherwise◌
  replace_goes_ren = rw (l.next, l.order, r.none)

  pub replace_ren : replace G (h used) full (renamed_order g o) e ≡ renamed_change g h w (replace f used full o e)
  unfolding replace replace_refusal check_replace
  replace_ren =
      amendable_ren replace_kind _ _ _ _
      (same_if (λ (x : Reject). x) (in_flight_ren g h w r n f l o) refl (same_if (λ (x : Reject). x) (has_pending_ren g h w r o) refl refl))
      (same_if (R g h w r) refl (refusing_ren g h w r (number_of WrongPrice)) replace_goes_ren)
