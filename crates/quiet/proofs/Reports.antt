-- Venues' reports under other numbers for links and places. Rests on Refusals.
use Rattle.std.proofs.Common.{ℕ, ◌-◌, max, ◌≡◌, refl, ap, ◌∙◌, Bool, false, not, ◌&&◌, eqb, ltb}
use Rattle.prelude.specs.Cases.{if◌then◌otherwise◌}
use Rattle.wide.specs.declared.Priced.{Priced}
use Rattle.records.specs.declared.Record.{Record}
use Rattle.store.specs.declared.State.{State}
use Rattle.store.specs.declared.Order.{Order}
use Rattle.store.specs.declared.Request.{Request}
use Rattle.machine.specs.Constants as came
use Rattle.machine.specs.Constants.{overfill, unknown_at_venue_alarm, fill_on_done_order}
use Rattle.machine.specs.Orders.{is_done, short_alarm, set_status, record_venue_order_id, apply_replace, next_exec, with_state}
use Rattle.machine.specs.Changes.{Event, unchanged, answering, superseding, telling, alarming, is_first, is_replace, is_gateway, is_cancel, is_answered}
use Rattle.machine.specs.GatewayCancel.{resume_gateway_cancel}
use Rattle.machine.specs.Report.{unknown_at_venue, pending_here, behind, stale, repeats, dropped_stale, dropped_repeat, status_taken, accepts, answers_request, ordered_qty, reported_order, fill_price_of, client_report, settles, apply_report, venue_report}
use Rattle.machine.specs.Machine.{on_report}
use Rattle.machine.specs.declared.Findings.{Findings}
use Rattle.machine.specs.declared.Change.{Change}
use Rattle.quiet.specs.Renamed.{renamed_order, renamed_request, renamed_findings, renamed_change}
use Rattle.quiet.proofs.Parts.{same_if, Renames, R, status_ren, venue_ren, replace_ren, exec_ren, report_ren, unchanged_ren, answering_ren, superseding_ren, telling_ren, alarming_ren}
use Rattle.quiet.proofs.Cancels.{Placed, resume_ren}
use Rattle.quiet.proofs.Refusals.{refuse_request_ren}

module _ (g h w : ℕ → ℕ) (r : Renames g h w) (k : ℕ) (q : Request) (o : Order) (e : Event) where
  abbrev Q : Request
  Q = renamed_request w q

  abbrev O : Order
  O = renamed_order g o

  pending_here_ren : pending_here (g k) O ≡ pending_here k o
  unfolding pending_here
  pending_here_ren = r.apart o.pending.request k

  behind_ren : behind (g k) Q O e ≡ behind k q o e
  unfolding behind is_answered
  behind_ren = rw (r.apart o.links.current k, pending_here_ren)

  stale_ren : stale (g k) Q O e ≡ stale k q o e
  unfolding stale
  stale_ren = rw behind_ren

  repeats_ren : repeats (g k) O e ≡ repeats k o e
  unfolding repeats
  repeats_ren = rw (r.apart o.links.current k)

  status_taken_ren : status_taken (g k) Q O e ≡ status_taken k q o e
  unfolding status_taken
  status_taken_ren = rw behind_ren

  accepts_ren : accepts (g k) Q O e ≡ accepts k q o e
  unfolding accepts
  accepts_ren = rw (status_taken_ren, pending_here_ren)

  answers_ren : answers_request (g k) Q O ≡ answers_request k q o
  unfolding answers_request is_gateway is_cancel is_first is_replace
  answers_ren = rw pending_here_ren

  ordered_ren : (accepted : Bool) → ordered_qty accepted O ≡ ordered_qty accepted o
  unfolding ordered_qty
  ordered_ren accepted = refl

  reported_ren : (accepted : Bool) (s : ℕ) → reported_order accepted s Q O e ≡ renamed_order g (reported_order accepted s q o e)
  unfolding reported_order
  reported_ren accepted s =
      let state : State = record { status = o.state.status; cumqty = e.exec.cumqty; avgpx = e.exec.avgpx; execseq = o.state.execseq } in
      let named : Order = record_venue_order_id e.ids.venueorderid accepted o in
      let left : Order = if accepted then apply_replace q named otherwise named in
      let same : (if accepted then apply_replace Q (record_venue_order_id e.ids.venueorderid accepted O) otherwise record_venue_order_id e.ids.venueorderid accepted O) ≡ renamed_order g left =
      same_if (renamed_order g) refl (ap (apply_replace Q) (venue_ren g h w r e.ids.venueorderid accepted o) ∙ replace_ren g h w r q named) (venue_ren g h w r e.ids.venueorderid accepted o) in
      ap (λ (x : Order). set_status (if eqb s 0 then o.state.status otherwise s) (with_state state x)) same
      ∙ status_ren g h w r _ (with_state state left)

  told_ren : (answers : Bool) (rise : ℕ) (price : Priced) (x : Order) → client_report answers rise Q price (renamed_order g x) e ≡ client_report answers rise q price x e
  unfolding client_report
  told_ren answers rise price x = report_ren g h w r x _ _ _ _ _ _

  price_ren : fill_price_of O e ≡ fill_price_of o e
  unfolding fill_price_of
  price_ren = refl

  settles_ren : (accepted : Bool) (s : ℕ) (c : Change) → settles accepted s (g k) Q O (renamed_change g h w c) ≡ renamed_change g h w (settles accepted s k q o c)
  unfolding settles is_cancel is_first is_replace
  settles_ren accepted s c =
      same_if (R g h w r) refl
      (ap (superseding (g o.links.current)) (answering_ren g h w r k came.accepted c) ∙ superseding_ren g h w r o.links.current (answering k came.accepted c))
      (same_if (R g h w r) refl (answering_ren g h w r k came.accepted c) refl)

  -- ---- with what was looked up

  module _ (n : ℕ) (f : Findings) (l : Placed g h w n f) where
    abbrev G : Findings
    G = renamed_findings h w n f

    same : unchanged G.place O ≡ renamed_change g h w (unchanged f.place o)
    same = unchanged_ren g h w r f.place o

    pub unknown_ren : unknown_at_venue G (g k) O e ≡ renamed_change g h w (unknown_at_venue f k o e)
    unfolding unknown_at_venue
    unknown_ren =
        same_if (R g h w r) refl same
        (same_if (R g h w r) refl same
        (same_if (R g h w r) (ap not (r.apart o.links.current k)) same
        (ap (alarming unknown_at_venue_alarm) same ∙ alarming_ren g h w r unknown_at_venue_alarm (unchanged f.place o))))

    dropped_stale_ren : dropped_stale G O e ≡ renamed_change g h w (dropped_stale f o e)
    unfolding dropped_stale
    dropped_stale_ren = same_if (R g h w r) refl (ap (alarming fill_on_done_order) same ∙ alarming_ren g h w r fill_on_done_order (unchanged f.place o)) same

    dropped_repeat_ren : dropped_repeat G O e ≡ renamed_change g h w (dropped_repeat f o e)
    unfolding dropped_repeat
    dropped_repeat_ren = ap (unchanged G.place) (venue_ren g h w r e.ids.venueorderid false o) ∙ unchanged_ren g h w r f.place _

    -- what is settled, with the order that is left
    settled : (accepted : Bool) (s : ℕ) (x : Order) → settles accepted s (g k) Q O (unchanged G.place (renamed_order g x)) ≡ renamed_change g h w (settles accepted s k q o (unchanged f.place x))
    settled accepted s x = ap (settles accepted s (g k) Q O) (unchanged_ren g h w r f.place x) ∙ settles_ren accepted s (unchanged f.place x)

    -- by what is accepted, and the status taken
    abbrev applied : Findings → (link : ℕ) → Request → Order → (accepted : Bool) (s : ℕ) (answers : Bool) (price : Priced) (left : Order) → Change
    applied f k q o accepted s answers price left =
        if is_gateway q && eqb (e.exec.cumqty - o.state.cumqty) 0 && not (is_done left.state.status) && not accepted
        then settles accepted s k q o (unchanged f.place left)
        otherwise telling (client_report answers (e.exec.cumqty - o.state.cumqty) q price (next_exec left) e) (settles accepted s k q o (unchanged f.place (next_exec left)))

    applied_ren : (accepted : Bool) (s : ℕ) (answers : Bool) (price : Priced) (left : Order)
        → applied G (g k) Q O accepted s answers price (renamed_order g left) ≡ renamed_change g h w (applied f k q o accepted s answers price left)
    unfolding is_gateway
    applied_ren accepted s answers price left =
        same_if (R g h w r) refl (settled accepted s left)
        (ap (λ (x : Order). telling (client_report answers (e.exec.cumqty - o.state.cumqty) Q price x e) (settles accepted s (g k) Q O (unchanged G.place x))) (exec_ren g h w r left)
        ∙ ap (λ (m : Record). telling m (settles accepted s (g k) Q O (unchanged G.place (renamed_order g (next_exec left))))) (told_ren answers (e.exec.cumqty - o.state.cumqty) price (next_exec left))
        ∙ ap (telling (client_report answers (e.exec.cumqty - o.state.cumqty) q price (next_exec left) e)) (settled accepted s (next_exec left))
        ∙ telling_ren g h w r _ _)

    apply_ren : apply_report G (g k) Q O e ≡ renamed_change g h w (apply_report f k q o e)
    unfolding apply_report
    apply_ren =
        ap (λ (a : Bool). applied G (g k) Q O a (status_taken (g k) Q O e) (answers_request (g k) Q O) (fill_price_of O e) (reported_order a (status_taken (g k) Q O e) Q O e)) accepts_ren
        ∙ ap (λ (s : ℕ). applied G (g k) Q O (accepts k q o e) s (answers_request (g k) Q O) (fill_price_of O e) (reported_order (accepts k q o e) s Q O e)) status_taken_ren
        ∙ ap (λ (a : Bool). applied G (g k) Q O (accepts k q o e) (status_taken k q o e) a (fill_price_of O e) (reported_order (accepts k q o e) (status_taken k q o e) Q O e)) answers_ren
        ∙ ap (λ (p : Priced). applied G (g k) Q O (accepts k q o e) (status_taken k q o e) (answers_request k q o) p (reported_order (accepts k q o e) (status_taken k q o e) Q O e)) price_ren
        ∙ ap (applied G (g k) Q O (accepts k q o e) (status_taken k q o e) (answers_request k q o) (fill_price_of o e)) (reported_ren (accepts k q o e) (status_taken k q o e))
        ∙ applied_ren (accepts k q o e) (status_taken k q o e) (answers_request k q o) (fill_price_of o e) (reported_order (accepts k q o e) (status_taken k q o e) q o e)

    ordered_accepted : ordered_qty (accepts (g k) Q O e) O ≡ ordered_qty (accepts k q o e) o
    ordered_accepted = ap (λ (a : Bool). ordered_qty a O) accepts_ren ∙ ordered_ren (accepts k q o e)

    pub venue_report_ren : venue_report G (g k) Q O e ≡ renamed_change g h w (venue_report f k q o e)
    unfolding venue_report is_first
    venue_report_ren =
        same_if (R g h w r) refl
        (ap (resume_gateway_cancel G) (refuse_request_ren g h w r n f l k q e.venue _ o) ∙ resume_ren g h w r n f l _)
        (same_if (R g h w r) refl same
        (same_if (R g h w r) stale_ren dropped_stale_ren
        (same_if (R g h w r) repeats_ren dropped_repeat_ren
        (same_if (R g h w r) (ap (λ (x : ℕ). ltb x (max e.exec.cumqty o.state.cumqty)) ordered_accepted)
        (ap (alarming overfill) same ∙ alarming_ren g h w r overfill (unchanged f.place o))
        (ap (λ (x : ℕ). alarming (short_alarm x e.exec.cumqty (status_taken (g k) Q O e)) (apply_report G (g k) Q O e)) ordered_accepted
        ∙ ap (λ (x : ℕ). alarming (short_alarm (ordered_qty (accepts k q o e) o) e.exec.cumqty x) (apply_report G (g k) Q O e)) status_taken_ren
        ∙ ap (alarming (short_alarm (ordered_qty (accepts k q o e) o) e.exec.cumqty (status_taken k q o e))) apply_ren
        ∙ alarming_ren g h w r _ (apply_report f k q o e))))))

    pub on_report_ren : on_report e G (g k) Q O ≡ renamed_change g h w (on_report e f k q o)
    unfolding on_report
    on_report_ren = same_if (R g h w r) refl unknown_ren venue_report_ren
