-- What a change does to its order: the LastQty told, the cumulative quantity, the quantity ordered and a done status. Rests on Laws and Stepped.
use Rattle.std.proofs.Common.{ℕ, ◌+◌, ◌-◌, ◌≤◌, arith, ◌≡◌, refl, sym, ap, ◌∙◌, ◌⊎◌, inl, inr, Bool, true, false, ◌&&◌, List, eqb, eqb-true}
use Rattle.std.proofs.Math.Bool.{and-false}
use Rattle.wide.specs.declared.Priced.{Priced}
use Rattle.prelude.specs.Cases.{if◌then◌otherwise◌}
use Rattle.prelude.specs.Laws.Cases.{split_if, clash, if_false}
use Rattle.prelude.specs.Texts.{same_text}
use Rattle.prelude.specs.Totals.{total_of}
use Rattle.prelude.specs.Laws.Totals.{total_append}
use Rattle.prelude.specs.declared.Text.{Text}
use Rattle.prelude.specs.declared.Terms.{Terms}
use Rattle.store.specs.declared.Order.{Order}
use Rattle.store.specs.declared.Request.{Request}
use Rattle.store.specs.declared.Pending.{Pending}
use Rattle.store.specs.declared.GatewayCancel.{GatewayCancel}
use Rattle.format.specs.Codes.{pending_new, rejected}
use Rattle.machine.specs.Orders.{is_done, set_status, record_venue_order_id, apply_replace, pending_terms, next_exec, with_pending, with_gateway}
use Rattle.store.specs.Orders.{no_pending}
use Rattle.text.specs.Stored.{no_text}
use Rattle.machine.specs.Constants.{gateway_kind}
use Rattle.machine.specs.Messages.{report, cancel_reject, to_venue, new_order, cancel_request, replace_request}
use Rattle.machine.specs.Changes.{Event, Message, unchanged, refusing, adding, telling, next_downstream, next_request, numbered_order}
use Rattle.machine.specs.GatewayCancel.{try_sent, send_gateway_cancel}
use Rattle.machine.specs.Amend.{refuse, redelivered_report, cancel_goes, replace_goes, not_pending, refused_order, refused_alarm}
use Rattle.machine.specs.Report.{accepts, status_taken, ordered_qty, reported_order, client_report}
use Rattle.records.specs.Answer.{chosen}
use Rattle.machine.specs.Claim.{last_qty}
use Rattle.machine.specs.declared.Findings.{Findings}
use Rattle.machine.specs.declared.Note.{Note}
use Rattle.machine.specs.declared.Reject.{Reject}
use Rattle.machine.specs.declared.Refused.{Refused}
use Rattle.machine.specs.declared.Output.{Output}
use Rattle.machine.specs.declared.Change.{Change}
use Rattle.machine.proofs.Made.{calm, says, stuck_behind, left, reported_alarm, Refuses, still, gone, given_up_lem, told, Fails, unfailed, refused, freed, fell, ended, new_again, cancel_again, replace_again, failing, Left, fails, resends, alarms, names, applies, informs, quietly, retries, stays, refusing!, resumes, declined, waits, goes, repeated, turned, unpriced, cancel_sent, replace_sent}
use Rattle.machine.proofs.Stepped.{MadeBy, AskedBy, AmendedBy}
use Rattle.machine.proofs.Claim.Laws.{tells, Whose, whose, last_qty_by, filled_by, bears, filled_same, tells_more, count_more}

-- ---- the order alone

-- another state of the same order: what was filled and ordered stays, and so does a done status
pub record Keeps (o p : Order) : Type 0 where
  pub same : whose p ≡ whose o
  pub same_cum : p.state.cumqty ≡ o.state.cumqty
  pub same_qty : p.terms.qty ≡ o.terms.qty
  pub done : is_done o.state.status ≡ true → p.state.status ≡ o.state.status

pub same_keeps : (o : Order) → Keeps o o
same_keeps o = record { same = refl; same_cum = refl; same_qty = refl; done = λ h. refl }

keeps_trans : (o p q : Order) → Keeps o p → Keeps p q → Keeps o q
keeps_trans o p q k l = record {
  same = l.same ∙ k.same;
  same_cum = l.same_cum ∙ k.same_cum;
  same_qty = l.same_qty ∙ k.same_qty;
  done = λ h. l.done (ap is_done (k.done h) ∙ h) ∙ k.done h;
}

numbered_keeps : (f : Findings) (cancels : Bool) (o : Order) → Keeps o (numbered_order f cancels o)
unfolding numbered_order
numbered_keeps f cancels o = record { same = refl; same_cum = refl; same_qty = refl; done = λ h. refl }

pending_keeps : (p : Pending) (o : Order) → Keeps o (with_pending p o)
pending_keeps p o = record { same = refl; same_cum = refl; same_qty = refl; done = λ h. refl }

gateway_keeps : (g : GatewayCancel) (o : Order) → Keeps o (with_gateway g o)
gateway_keeps g o = record { same = refl; same_cum = refl; same_qty = refl; done = λ h. refl }

named_keeps : (given : Text) (replaced : Bool) (o : Order) → Keeps o (record_venue_order_id given replaced o)
unfolding record_venue_order_id
named_keeps given replaced o = record { same = refl; same_cum = refl; same_qty = refl; done = λ h. refl }

told_keeps : (o : Order) → Keeps o (next_exec o)
unfolding next_exec
told_keeps o = record { same = refl; same_cum = refl; same_qty = refl; done = λ h. refl }

-- a live order's status may change
live_keeps : (o : Order) (s : ℕ) → is_done o.state.status ≡ false → Keeps o (set_status s o)
unfolding set_status
live_keeps o s e = record { same = refl; same_cum = refl; same_qty = refl; done = λ h. clash (is_done o.state.status) h e }

not_pending_keeps : (o : Order) → is_done o.state.status ≡ false → Keeps o (not_pending o)
unfolding not_pending
not_pending_keeps o e = split_if (Keeps o) _ (λ h. live_keeps o _ e) (λ h. same_keeps o)

pub refused_keeps : (k : ℕ) (r : Refused) (o : Order) → Keeps o (refused_order k r o)
unfolding refused_order record_venue_order_id
refused_keeps k r o =
    split_if (Keeps o) _ (λ e. first)
    (λ e. split_if (Keeps o) _ (λ h. keeps_trans o _ _ first (live_keeps _ r.status e)) (λ h. keeps_trans o _ _ first (not_pending_keeps _ e)))
  where
    first : Keeps o (with_pending (if eqb o.pending.request k then no_pending otherwise o.pending) (record_venue_order_id r.venueorderid false o))
    first = record { same = refl; same_cum = refl; same_qty = refl; done = λ h. refl }

-- ---- the change

-- the change is taken, at that place, with at most two messages. Whichever orders are looked at, it tells of their rise: by its own order's reports.
pub record Moves (n p : ℕ) (o : Order) (c : Change) : Type 0 where
  pub taken : c.refusal ≡ 0
  pub there : c.place ≡ p
  pub within : c.output.count ≤ n
  pub same : whose c.order ≡ whose o
  pub told : (t : Whose → Bool) → total_of (last_qty_by t) (tells c) + filled_by t o ≡ filled_by t c.order
  pub ordered : o.state.cumqty ≤ o.terms.qty → c.order.state.cumqty ≤ c.order.terms.qty
  pub done : is_done o.state.status ≡ true → c.order.state.status ≡ o.state.status

-- of an order of another name nothing is told
module _ {n p : ℕ} {o : Order} {c : Change} (m : Moves n p o c) where
  pub told_others : (client : ℕ) (name : Text) → same_text o.names.name name ≡ false → total_of (last_qty client name) (tells c) ≡ 0
  told_others client name h =
      let other : bears client name (whose o) ≡ false = ap (λ (x : Bool). eqb o.client client && x) h ∙ and-false (eqb o.client client) in
      omega (
        arith,
        m.told (bears client name),
        if_false _ o.state.cumqty 0 other,
        filled_same (bears client name) o c.order _ m.same refl,
        if_false _ c.order.state.cumqty 0 other,
      )

-- ---- messages that report no rise

quiet_cancel : (o : Order) (d : Text) (t : Whose → Bool) → last_qty_by t (cancel_request o d) ≡ 0
unfolding cancel_request to_venue if◌then◌otherwise◌
quiet_cancel o d t = refl

quiet_replace : (o : Order) (d : Text) (terms : Terms) (t : Whose → Bool) → last_qty_by t (replace_request o d terms) ≡ 0
unfolding replace_request to_venue if◌then◌otherwise◌
quiet_replace o d terms t = refl

quiet_new : (o : Order) (d : Text) (t : Whose → Bool) → last_qty_by t (new_order o d) ≡ 0
unfolding new_order to_venue if◌then◌otherwise◌
quiet_new o d t = refl

quiet_reject : (client : ℕ) (name : Text) (status : ℕ) (clordid origclordid : Text) (responseto : ℕ) (n : Note) (t : Whose → Bool)
    → last_qty_by t (cancel_reject client name status clordid origclordid responseto n) ≡ 0
unfolding cancel_reject if◌then◌otherwise◌
quiet_reject client name status clordid origclordid responseto n t = refl

quiet_report : (o : Order) (clordid origclordid : Text) (exectype : ℕ) (price : Priced) (n : Note) (t : Whose → Bool)
    → last_qty_by t (report o clordid origclordid exectype 0 price n) ≡ 0
unfolding report
quiet_report o clordid origclordid exectype price n t = split_if (λ (x : ℕ). x ≡ 0) _ (λ e. refl) (λ e. refl)

pending_live : (s : ℕ) → s ≡ pending_new → is_done s ≡ false
unfolding is_done
pending_live s e = rw e

-- ---- a change that leaves what was filled

-- what is put out tells of no rise
record Hush (out : Output) : Type 0 where
  few : out.count ≤ 1
  silent : (t : Whose → Bool) → total_of (last_qty_by t) (chosen out.count out.first out.second) ≡ 0

calm_hush : (a : ℕ) → Hush (calm a)
unfolding if◌then◌otherwise◌
calm_hush a = record { few = omega arith; silent = λ t. refl }

behind_hush : (a : ℕ) → Hush (stuck_behind a)
unfolding if◌then◌otherwise◌
behind_hush a = record { few = omega arith; silent = λ t. refl }

says_total : (m : Message) (a : ℕ) (t : Whose → Bool) → total_of (last_qty_by t) (chosen (says m a).count m (says m a).second) ≡ last_qty_by t m
unfolding if◌then◌otherwise◌
says_total m a t = omega arith

says_hush : {m : Message} {a : ℕ} → ((t : Whose → Bool) → last_qty_by t m ≡ 0) → Hush (says m a)
says_hush {m} {a} q = record { few = omega arith; silent = λ t. says_total m a t ∙ q t }

module _ {o y : Order} {out : Output} (k : Keeps o y) (h : Hush out) where
  left_moves : {p j s v : ℕ} → Moves 2 p o (left p y j s v out)
  left_moves = record {
    taken = refl;
    there = refl;
    within = omega (arith, h.few);
    same = k.same;
    told = λ t. omega (arith, h.silent t, filled_same t o y _ k.same k.same_cum);
    ordered = λ z. omega (arith, k.same_cum, k.same_qty);
    done = k.done;
  }

  -- the gateway's cancel goes out
  send_moves : (f : Findings) (p j s v : ℕ) → Moves 2 p o (send_gateway_cancel f (left p y j s v out))
  unfolding send_gateway_cancel telling adding
  send_moves f p j s v =
      let x : Order = with_gateway (try_sent y) (numbered_order f true y) in
      let m : Message = cancel_request x (next_downstream y) in
      let c : Change = adding (next_request f y gateway_kind no_text no_text) (left p x j s v out) in
      let l : Keeps o x = keeps_trans o y x k (keeps_trans y _ x (numbered_keeps f true y) (gateway_keeps (try_sent y) _)) in
      record {
        taken = refl;
        there = refl;
        within = count_more m c 1 h.few;
        same = l.same;
        told = λ t. ap (λ (ms : List Message). total_of (last_qty_by t) ms + filled_by t o) (tells_more m c h.few)
            ∙ rw total_append (omega (arith, h.silent t, quiet_cancel x (next_downstream y) t, filled_same t o x _ l.same l.same_cum));
        ordered = λ z. omega (arith, l.same_cum, l.same_qty);
        done = l.done;
      }

-- ---- a report that is applied

-- the order with the report's cumulative quantity, and the quantity that it may not pass
pub record Grown (o q : Order) (cum qty : ℕ) : Type 0 where
  pub same : whose q ≡ whose o
  pub now : q.state.cumqty ≡ cum
  pub most : q.terms.qty ≡ qty

pub reported_grown : (accepted : Bool) (s : ℕ) (q : Request) (o : Order) (e : Event) → Grown o (reported_order accepted s q o e) e.exec.cumqty (ordered_qty accepted o)
unfolding reported_order set_status record_venue_order_id apply_replace pending_terms ordered_qty if◌then◌otherwise◌
reported_grown true s q o e = record { same = refl; now = refl; most = refl }
reported_grown false s q o e = record { same = refl; now = refl; most = refl }

told_grown : (o q : Order) (cum qty : ℕ) → Grown o q cum qty → Grown o (next_exec q) cum qty
unfolding next_exec
told_grown o q cum qty g = record { same = g.same; now = g.now; most = g.most }

says_report : (answers : Bool) (rise : ℕ) (q : Request) (price : Priced) (x : Order) (e : Event) (t : Whose → Bool)
    → last_qty_by t (client_report answers rise q price x e) ≡ (if t (whose x) then rise otherwise 0)
unfolding client_report report
says_report answers rise q price x e t = refl

grown_moves : {o y : Order} {out : Output} {p j s v cum qty : ℕ} → Grown o y cum qty → cum ≤ qty → is_done o.state.status ≡ false → out.count ≤ 2
    → ((t : Whose → Bool) → total_of (last_qty_by t) (chosen out.count out.first out.second) + filled_by t o ≡ (if t (whose o) then cum otherwise 0)) → Moves 2 p o (left p y j s v out)
grown_moves {o} {y} {out} {cum = cum} {qty = qty} g fits live l h = record {
  taken = refl;
  there = refl;
  within = l;
  same = g.same;
  told = λ t. h t ∙ sym (filled_same t o y cum g.same g.now);
  ordered = λ z. omega (arith, g.now, g.most);
  done = λ z. clash _ z live;
}

rise_of : (x : Bool) {l : ℕ} (rise old cum : ℕ) → rise + old ≡ cum → l ≡ (if x then rise otherwise 0) → l + (if x then old otherwise 0) ≡ (if x then cum otherwise 0)
unfolding if◌then◌otherwise◌
rise_of true rise old cum u e = omega arith
rise_of false rise old cum u e = omega arith

-- ---- the ways

module _ {k : ℕ} {q : Request} {o : Order} {e : Event} where
  refuses_keeps : {y : Order} {j s v : ℕ} {out : Output} → Refuses k q o e y j s v out → Keeps o y × Hush out
  refuses_keeps still = (same_keeps o, calm_hush 0)
  refuses_keeps (gone {r} w u g) = (refused_keeps k r o, calm_hush _)
  refuses_keeps (given_up_lem {r} w u g h) = (keeps_trans o _ _ (refused_keeps k r o) (gateway_keeps _ _), behind_hush (refused_alarm r o))
  refuses_keeps (told {r} w u g) = (refused_keeps k r o, says_hush (quiet_reject _ _ _ _ _ _ _))

  fails_keeps : {y : Order} {j s v : ℕ} {out : Output} → Fails k q o e y j s v out → Keeps o y × Hush out
  fails_keeps unfailed = (same_keeps o, calm_hush 0)
  fails_keeps (refused r g) = refuses_keeps r
  fails_keeps (freed w g h) = (same_keeps o, calm_hush 0)
  fails_keeps (fell w t g u h) = (gateway_keeps _ o, calm_hush 0)
  fails_keeps (ended w t g h) =
      (keeps_trans o _ _ (live_keeps o rejected (pending_live o.state.status (eqb-true _ _ h))) (told_keeps _), says_hush (quiet_report _ _ _ _ _ _))

  made_left : {y : Order} {p j s v : ℕ} {out : Output} → Left k q o e y j s v out → Moves 2 p o (left p y j s v out)
  made_left (fails z l) = let (y, h) = fails_keeps l in left_moves y h
  made_left (resends z new_again) = left_moves (same_keeps o) (says_hush (quiet_new _ _))
  made_left (resends z (cancel_again t)) = left_moves (same_keeps o) (says_hush (quiet_cancel _ _))
  made_left (resends z (replace_again t)) = left_moves (same_keeps o) (says_hush (quiet_replace _ _ _))
  made_left (resends z (failing t l)) = let (y, h) = fails_keeps l in left_moves y h
  made_left (alarms a l) = left_moves (same_keeps o) (calm_hush a)
  made_left names = left_moves (named_keeps _ _ o) (calm_hush 0)
  made_left (applies a u s) =
      grown_moves (reported_grown _ _ q o e) a.fits a.live (omega arith)
      (λ t. omega (arith, (calm_hush (reported_alarm k q o e)).silent t, ap (λ (n : ℕ). if t (whose o) then n otherwise 0) u))
  made_left (informs a s) =
      let g = told_grown o _ _ _ (reported_grown (accepts k q o e) (status_taken k q o e) q o e) in
      let rise : ℕ = e.exec.cumqty - o.state.cumqty in
      let up : rise + o.state.cumqty ≡ e.exec.cumqty = omega (arith, a.up) in
      grown_moves g a.fits a.live (omega arith)
      (λ t. rise_of (t (whose o)) rise _ _ up (says_total _ (reported_alarm k q o e) t ∙ says_report _ rise q _ _ e t ∙ ap (λ (w : Whose). if t w then rise otherwise 0) g.same))

pub made_moves : {f : Findings} {k : ℕ} {q : Request} {o : Order} {e : Event} {c c' : Change} → MadeBy f k q o e c c' → Moves 2 f.place o c
made_moves (stays l) = made_left l
made_moves (refusing! z (quietly r)) = let (y, h) = refuses_keeps r in left_moves y h
made_moves {f} {k} {q} {o} (refusing! z (retries {r} w u g h t)) = send_moves (refused_keeps k r o) (calm_hush _) f _ _ _ _
made_moves {f} (resumes z r h t) = let (y, h) = refuses_keeps r in send_moves y h f _ _ _ _

pub asked_moves : {f : Findings} {o : Order} {c c' : Change} → AskedBy f o c c' → Moves 2 f.place o c
asked_moves {f} {o} (declined z) = left_moves (same_keeps o) (calm_hush 0)
asked_moves {f} {o} (waits d g) = left_moves (gateway_keeps _ o) (calm_hush 0)
asked_moves {f} {o} (goes d g) = send_moves (gateway_keeps _ o) (calm_hush 0) f _ _ _ _

-- the client's request goes out
goes_moves : (p : ℕ) (o y : Order) (q : Request) (m : Message) → Keeps o y → ((t : Whose → Bool) → last_qty_by t m ≡ 0) → Moves 2 p o (telling m (adding q (unchanged p y)))
unfolding telling adding unchanged
goes_moves p o y q m k h =
    let g : Moves 2 p o (left p y 0 0 0 (says m 0)) = left_moves k (says_hush h) in
    unfold if◌then◌otherwise◌ in record { taken = refl; there = refl; within = g.within; same = g.same; told = g.told; ordered = g.ordered; done = g.done }

module _ (f : Findings) (o : Order) (e : Event) where
  pub status_moves : Moves 2 f.place o (redelivered_report f o e)
  unfolding redelivered_report telling unchanged if◌then◌otherwise◌
  status_moves = left_moves (told_keeps o) (says_hush (quiet_report _ _ _ _ _ _))

  pub told_refusal : (responseto : ℕ) (r : Reject) → Moves 2 f.place o (refuse f responseto o e r)
  unfolding refuse telling unchanged if◌then◌otherwise◌
  told_refusal responseto r = left_moves (same_keeps o) (says_hush (quiet_reject _ _ _ _ _ _ _))

  pub cancel_goes_moves : Moves 2 f.place o (cancel_goes f o e)
  unfolding cancel_goes
  cancel_goes_moves = goes_moves _ o _ _ _ (numbered_keeps f true o) (quiet_cancel _ _)

  pub replace_goes_moves : Moves 2 f.place o (replace_goes f o e)
  unfolding replace_goes
  replace_goes_moves = goes_moves _ o _ _ _ (keeps_trans o _ _ (numbered_keeps f false o) (pending_keeps _ _)) (quiet_replace _ _ _)

pub amended_moves : {f : Findings} {order : ℕ} {full : Bool} {o : Order} {e : Event} {c c' : Change} → AmendedBy f order full o e c c'
    → (eqb c.refusal 0 ≡ false) ⊎ Moves 2 f.place o c
amended_moves {o = o} (repeated t) = inr (left_moves (told_keeps o) (says_hush (quiet_report _ _ _ _ _ _)))
amended_moves {o = o} (turned w t) = inr (left_moves (same_keeps o) (says_hush (quiet_reject _ _ _ _ _ _ _)))
amended_moves (unpriced t) = inl (unfold refusing in refl)
amended_moves {f} {o = o} {e = e} (cancel_sent z t) = inr (cancel_goes_moves f o e)
amended_moves {f} {o = o} {e = e} (replace_sent t u) = inr (replace_goes_moves f o e)
