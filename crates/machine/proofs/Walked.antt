-- Every handler makes its change in one of the ways of Made: one walk through the handlers. Rests on Made.
-- A handler is followed twice, with findings that differ in the count of the requests alone; if the count does not matter, both are the same.
use Rattle.std.proofs.Common.{ℕ, ◌-◌, ◌≤◌, max, arith, ◌≡◌, refl, sym, ap, subst, ◌∙◌, ◌⊎◌, inl, inr, Bool, true, false, not, ◌&&◌, ◌||◌, eqb, ltb, eqb-true, ltb-false, leb-false}
use Rattle.std.proofs.lemmas.Bool.{not-false, not-true, and_parts, or_parts, and_left, and_right}
use Rattle.prelude.specs.Cases.{if◌then◌otherwise◌}
use Rattle.prelude.specs.Laws.Cases.{split_if, clash, if_true, if_false}
use Rattle.store.specs.declared.Order.{Order}
use Rattle.store.specs.declared.Request.{Request}
use Rattle.format.specs.Codes.{pending_replace, canceled, rejected, exec_rejected}
use Rattle.machine.specs.Constants as came
use Rattle.machine.specs.Constants.{most_tries, most_alarm}
use Rattle.machine.specs.Orders.{has_gateway, is_done, set_status, record_venue_order_id, next_exec, with_gateway}
use Rattle.machine.specs.Changes.{Event, unchanged, adding, answering, superseding, telling, alarming, is_first, is_replace, is_gateway, is_cancel, is_answered}
use Rattle.machine.specs.GatewayCancel.{outstanding_cancel, gateway_cancel_in_flight, try_sent, given_up, send_gateway_cancel, cancel_order, gateway_cancel_waiting, resume_gateway_cancel, stuck, retry_gateway_cancel, gateway_cancel_refused}
use Rattle.machine.specs.Amend.{amend_refusal, refuse, redelivered_report, already_taken, cancel_refusal, cancel, replace_refusal, replace, refused_order, refused_alarm, refuse_request, venue_cancel_reject, send_refused, first_failed, send_failed, resendable, unsent}
use Rattle.machine.specs.Report.{unknown_at_venue, is_rejection, pending_here, stale, dropped_stale, dropped_repeat, status_taken, accepts, answers_request, ordered_qty, fill_price_of, client_report, settles, apply_report, venue_report}
use Rattle.machine.specs.Machine.{text_note, on_report}
use Rattle.machine.specs.Outcomes.{outcome_by}
use Rattle.machine.proofs.Kept.Laws.{and_else}
use Rattle.machine.specs.declared.Findings.{Findings}
use Rattle.machine.specs.declared.Note.{Note}
use Rattle.machine.specs.declared.Refused.{Refused}
use Rattle.machine.specs.declared.Output.{Output}
use Rattle.machine.specs.declared.Change.{Change}
use Rattle.machine.proofs.Made.{calm, left, findings, not_sent, told_us, Failure, by_failure, From, by_report, by_reject, Open, Refuses, gone, given_up_lem, still, told, ended, fell, refused, freed, Fails, unfailed, Resends, failing, cancel_again, replace_again, new_again, Applied, reported, reported_alarm, cancelled, neither, replaced, Settles, fails, informs, alarms, names, resends, applies, Left, Rests, rests, retries, quietly, Refusing, resumes, refusing!, Made, stays, Asked, goes, declined, waits, of_cancel, of_replace, Amended, unpriced, repeated, replace_sent, cancel_sent, turned}

-- ---- the walk

-- an event of one kind is of no other
pub not_kind : (e : Event) (n m : ℕ) → eqb e.kind n ≡ true → eqb n m ≡ false → eqb e.kind m ≡ false
not_kind e n m k z = ap (λ (x : ℕ). eqb x m) (eqb-true e.kind n k) ∙ z

module _ {A : Type 0} (R : A → A → Type 0) where
  pub split_two : (b : Bool) {x y x' y' : A} → (b ≡ true → R x x') → (b ≡ false → R y y') → R (if b then x otherwise y) (if b then x' otherwise y')
  unfolding if◌then◌otherwise◌
  split_two true f g = f refl
  split_two false f g = g refl

-- a gateway cancel that went out does not wait
not_waiting : (f : Findings) (c : Change) → c.order.gateway.unsent ≡ false → gateway_cancel_waiting f c ≡ false
unfolding gateway_cancel_waiting
not_waiting f c u = and_left _ _ (and_right (has_gateway c.order) c.order.gateway.unsent u)

sent_once : (f : Findings) (c : Change) → resume_gateway_cancel f (send_gateway_cancel f c) ≡ send_gateway_cancel f c
unfolding resume_gateway_cancel
sent_once f c = if_false (gateway_cancel_waiting f (send_gateway_cancel f c)) _ _
    (not_waiting f (send_gateway_cancel f c) (unfold send_gateway_cancel telling adding try_sent in refl))

not_stale : (k : ℕ) (q : Request) (o : Order) (e : Event) → stale k q o e ≡ false → (is_done o.state.status ≡ false) × (o.state.cumqty ≤ e.exec.cumqty)
unfolding stale
not_stale k q o e h =
    let (d, l) = or_parts (is_done o.state.status) (ltb e.exec.cumqty o.state.cumqty)
    (or_parts (is_done o.state.status || ltb e.exec.cumqty o.state.cumqty) _ h).0 in
    (d, ltb-false _ _ l)

-- what the event's kind and status say of the outcome
module _ (e : Event) where
  pub outcome_failed : eqb e.kind 7 ≡ true → outcome_by e ≡ came.failed_to_send
  unfolding outcome_by
  outcome_failed z = if_true _ _ _ z

  pub outcome_else : eqb e.kind 7 ≡ false → eqb e.kind 4 ≡ false → outcome_by e ≡ came.refused
  unfolding outcome_by if◌then◌otherwise◌
  outcome_else z y = rw (z, y) refl

  outcome_rejected : eqb e.kind 4 ≡ true → is_rejection e ≡ true → outcome_by e ≡ came.refused
  unfolding outcome_by is_rejection
  outcome_rejected z h =
      if_false _ _ _ (not_kind e 4 7 z refl)
      ∙ if_false _ _ _ (none (eqb e.kind 4) (eqb e.exec.status rejected) (eqb e.exec.exectype exec_rejected) (not (eqb e.exec.status 0)) h)
    where
      none : (k a b c : Bool) → a || (b && c) ≡ true → k && not a && not b ≡ false
      none k a b c h = grind arith

  outcome_taken : eqb e.kind 4 ≡ true → is_rejection e ≡ false → eqb e.exec.status 0 ≡ false → outcome_by e ≡ came.accepted
  unfolding outcome_by is_rejection
  outcome_taken z h n =
      if_false _ _ _ (not_kind e 4 7 z refl)
      ∙ if_true _ _ _ (all (eqb e.kind 4) (eqb e.exec.status rejected) (eqb e.exec.exectype exec_rejected) (eqb e.exec.status 0) z h n)
    where
      all : (k a b c : Bool) → k ≡ true → a || (b && not c) ≡ false → c ≡ false → k && not a && not b ≡ true
      all k a b c z h n = grind arith

level : (a b c d : Bool) → a && b && c && d ≡ true → b ≡ true
level a b c d h = grind arith

module _ (k : ℕ) (q : Request) (o : Order) (e : Event) (p : ℕ) (x : Request) (m n : ℕ) where
  abbrev M : Change → Change → Type 0
  M = Made k q o e p x m n

  abbrev f : Findings
  f = findings p x m

  abbrev f' : Findings
  f' = findings p x n

  abbrev N : Change → Change → Type 0
  N = Refusing k q o e p x m n

  -- ---- a request refused

  gateway_made : (note : Note) {r : Refused} → From k q o e r → Open k q o e → is_gateway q ≡ true
      → let c = left p (refused_order k r o) k 0 r.outcome (calm (refused_alarm r o)) in N (gateway_cancel_refused f note c) (gateway_cancel_refused f' note c)
  unfolding gateway_cancel_refused retry_gateway_cancel
  gateway_made note {r} w u g =
      split_two N _ (λ h. quietly (gone w u g))
      (λ h. split_two N _ (λ t. up (not-false _ h)) (λ t. split_two N _ (λ t. up (not-false _ h)) (λ t. retries w u g (not-false _ h) (leb-false most_tries _ t))))
    where
      up : has_gateway (refused_order k r o) ≡ true → let c = left p (refused_order k r o) k 0 r.outcome (calm (refused_alarm r o)) in N (stuck c) (stuck c)
      up h = unfold stuck alarming in quietly (given_up_lem w u g h)

  refuse_made : {r : Refused} → From k q o e r → N (refuse_request f k q e.venue r o) (refuse_request f' k q e.venue r o)
  unfolding refuse_request
  refuse_made {r} w =
      split_two N _ (λ z. none)
      (λ first. split_two N _ (λ z. none)
      (λ there. split_two N _ (λ z. none)
      (λ un. let u : Open k q o e = record { later = first; there = not-false _ there; unanswered = un } in
      split_two N _ (λ g. unfold alarming answering unchanged if◌then◌otherwise◌ in quietly (gone w u (and_parts (is_gateway q) _ g).0))
      (λ z. split_two N _ (λ g. unfold alarming answering unchanged if◌then◌otherwise◌ in gateway_made r.note w u g)
      (λ g. unfold telling alarming answering unchanged if◌then◌otherwise◌ in quietly (told w u g))))))
    where
      none : N (unchanged p o) (unchanged p o)
      none = unfold unchanged in quietly still

  once : eqb e.kind 7 ≡ false → (c : Change) → N (send_gateway_cancel f c) (send_gateway_cancel f' c) → M (resume_gateway_cancel f (send_gateway_cancel f c)) (resume_gateway_cancel f' (send_gateway_cancel f' c))
  once z c l = subst (λ (y : Change). M y (resume_gateway_cancel f' (send_gateway_cancel f' c))) (sym (sent_once f c)) (subst (M (send_gateway_cancel f c)) (sym (sent_once f' c)) (refusing! z l))

  resume_made : eqb e.kind 7 ≡ false → {c c' : Change} → N c c' → M (resume_gateway_cancel f c) (resume_gateway_cancel f' c')
  unfolding resume_gateway_cancel gateway_cancel_waiting outstanding_cancel
  resume_made z (quietly {y} {j} {s} {out} r) =
      split_two M _ (λ w. let (h, t) = and_parts (has_gateway y) y.gateway.unsent (and_parts (has_gateway y && y.gateway.unsent) _ w).0 in resumes z r h t) (λ w. refusing! z (quietly r))
  resume_made z (retries {r} w u g h t) = once z (left p (refused_order k r o) k 0 r.outcome (calm (refused_alarm r o))) (retries w u g h t)

  pub reject_made : eqb e.kind 6 ≡ true → M (venue_cancel_reject f k q o e) (venue_cancel_reject f' k q o e)
  unfolding venue_cancel_reject
  reject_made z =
      let z₇ : eqb e.kind 7 ≡ false = not_kind e 6 7 z refl in
      resume_made z₇ (refuse_made (by_reject (outcome_else e z₇ (not_kind e 6 4 z refl))))

  -- ---- reports

  here : (a : ℕ) → a ≤ most_alarm → M (alarming a (unchanged p o)) (alarming a (unchanged p o))
  unfolding alarming unchanged if◌then◌otherwise◌
  here a l = stays (alarms a l)

  none : M (unchanged p o) (unchanged p o)
  unfolding unchanged
  none = stays (alarms 0 (omega arith))

  pub unknown_made : M (unknown_at_venue f k o e) (unknown_at_venue f' k o e)
  unfolding unknown_at_venue
  unknown_made = split_two M _ (λ h. none) (λ h. split_two M _ (λ h. none) (λ h. split_two M _ (λ h. none) (λ h. here _ (omega arith))))

  -- a status that is taken is the event's
  taken_status : eqb (status_taken k q o e) 0 ≡ false → eqb e.exec.status 0 ≡ false
  unfolding status_taken
  taken_status = split_if (λ (n : ℕ). eqb n 0 ≡ false → eqb e.exec.status 0 ≡ false) _ (λ t h. clash true refl h) (λ t h. h)

  accepts_taken : Applied k q o e → accepts k q o e ≡ true → outcome_by e ≡ came.accepted
  unfolding accepts
  accepts_taken a h =
      let (r, s) = accepted (pending_here k o) (is_rejection e) (eqb (status_taken k q o e) 0) (eqb (status_taken k q o e) pending_replace) h in
      outcome_taken e a.kind r (taken_status s)
    where
      accepted : (a b c d : Bool) → a && not b && (not c && not d) ≡ true → (b ≡ false) × (c ≡ false)
      accepted a b c d h = (grind arith, grind arith)

  cancel_taken : Applied k q o e → is_cancel q && eqb (status_taken k q o e) canceled ≡ true → outcome_by e ≡ came.accepted
  unfolding is_cancel
  cancel_taken a h =
      let (c, s) = and_parts _ (eqb (status_taken k q o e) canceled) h in
      outcome_taken e a.kind (later (is_rejection e) (is_first q) (is_replace q) a.first c)
      (taken_status (ap (λ (n : ℕ). eqb n 0) (eqb-true (status_taken k q o e) canceled s)))
    where
      later : (a b c : Bool) → a && not b ≡ false → not b && not c ≡ true → a ≡ false
      later a b c h n = grind arith

  settles_made : Applied k q o e → (P : Change → Type 0) (y : Order) → ((j s v : ℕ) → Settles k q o e j s v → P (left p y j s v (calm 0))) → P (settles (accepts k q o e) (status_taken k q o e) k q o (unchanged p y))
  unfolding settles superseding answering unchanged
  settles_made a P y h =
      split_if P _ (λ t. h _ _ _ (replaced t (accepts_taken a t)))
      (λ t. split_if P _ (λ u. h _ _ _ (cancelled t (and_parts (is_cancel q) _ u).0 (cancel_taken a u))) (λ u. h _ _ _ (neither t)))

  abbrev Quiet : Change → Type 0
  Quiet c = M (alarming (reported_alarm k q o e) c) (alarming (reported_alarm k q o e) c)

  abbrev Aloud : Change → Type 0
  Aloud c = Quiet (telling (client_report (answers_request k q o) (e.exec.cumqty - o.state.cumqty) q (fill_price_of o e) (next_exec (reported k q o e)) e) c)

  quiet : Applied k q o e → e.exec.cumqty ≡ o.state.cumqty → (j s v : ℕ) → Settles k q o e j s v → Quiet (left p (reported k q o e) j s v (calm 0))
  unfolding alarming if◌then◌otherwise◌
  quiet a z j s v t = stays (applies a z t)

  aloud : Applied k q o e → (j s v : ℕ) → Settles k q o e j s v → Aloud (left p (next_exec (reported k q o e)) j s v (calm 0))
  unfolding alarming telling if◌then◌otherwise◌
  aloud a j s v t = stays (informs a t)

  apply_made : Applied k q o e → M (alarming (reported_alarm k q o e) (apply_report f k q o e)) (alarming (reported_alarm k q o e) (apply_report f' k q o e))
  unfolding apply_report
  apply_made a =
      split_if Quiet _
      (λ h. settles_made a Quiet _ (quiet a (even (level (is_gateway q) (eqb (e.exec.cumqty - o.state.cumqty) 0) (not (is_done (reported k q o e).state.status)) (not (accepts k q o e)) h) a.up)))
      (λ h. settles_made a Aloud _ (aloud a))
    where
      even : eqb (e.exec.cumqty - o.state.cumqty) 0 ≡ true → o.state.cumqty ≤ e.exec.cumqty → e.exec.cumqty ≡ o.state.cumqty
      even h l = let z : e.exec.cumqty - o.state.cumqty ≡ 0 = eqb-true _ 0 h in omega arith

  report_made : eqb e.kind 4 ≡ true → M (venue_report f k q o e) (venue_report f' k q o e)
  unfolding venue_report dropped_stale dropped_repeat
  report_made z =
      split_two M _ (λ h. resume_made (not_kind e 4 7 z refl) (refuse_made (by_report (outcome_rejected e z (and_parts (is_rejection e) _ h).0))))
      (λ first. split_two M _ (λ a. none)
      (λ a. split_two M _ (λ s. split_two M _ (λ t. here _ (omega arith)) (λ t. none))
      (λ s. split_two M _ (λ r. unfold unchanged in stays names)
      (λ r. split_two M _ (λ v. here _ (omega arith))
      (λ v. let (d, l) = not_stale k q o e s in let w : max e.exec.cumqty o.state.cumqty ≤ ordered_qty (accepts k q o e) o = ltb-false _ _ v in
      apply_made (record { kind = z; live = d; up = l; fits = omega arith; first = first }))))))

  pub on_report_made : eqb e.kind 4 ≡ true → M (on_report e f k q o) (on_report e f' k q o)
  unfolding on_report
  on_report_made z = split_two M _ (λ h. unknown_made) (λ h. report_made z)

  -- ---- sends that failed

  abbrev F : Change → Change → Type 0
  F = Rests k q o e p x m n (Fails k q o e)

  client_failed : is_gateway q ≡ false → {c c' : Change} → N c c' → F c c'
  client_failed g (quietly r) = rests (refused r g)
  client_failed g (retries w u h t l) = clash _ h g

  failed_fails : {z : Note} {v : ℕ} → Failure k q o e z v → F (send_failed f k q e.venue v z o) (send_failed f' k q e.venue v z o)
  unfolding send_failed first_failed
  failed_fails w =
      split_two F _ (λ z. same)
      (λ there. split_two F _ (λ z. same)
      (λ a. split_two F _ (λ h. unfold answering unchanged in rests (freed w (and_parts (is_gateway q) _ h).0 (not-true _ (and_parts (is_gateway q) _ h).1)))
      (λ h. split_two F _
      (λ g. unfold answering unchanged in rests (fell w (not-false _ there) g (and_else (is_gateway q) (is_answered q) g a) (not-false _ (and_else (is_gateway q) _ g h))))
      (λ g. split_two F _ (λ t. client_failed g (refuse_made (by_failure w)))
      (λ t. split_two F _ (λ z. same)
      (λ z. unfold telling answering unchanged if◌then◌otherwise◌ in rests (ended w (not-false _ t) g (not-false _ (or_parts (is_answered q) _ z).1))))))))
    where
      same : F (unchanged p o) (unchanged p o)
      same = unfold unchanged in rests unfailed

  abbrev G : Change → Change → Type 0
  G = Rests k q o e p x m n (Resends k q o e)

  failing_again : resendable q e.venue o && is_cancel q ≡ false → {c c' : Change} → F c c' → G c c'
  failing_again h (rests l) = rests (failing h l)

  unsent_resends : eqb e.kind 8 ≡ true → G (unsent f k q e.venue o) (unsent f' k q e.venue o)
  unfolding unsent
  unsent_resends z =
      split_two G _ (λ h. unfold telling unchanged if◌then◌otherwise◌ in rests new_again)
      (λ h. split_two G (resendable q e.venue o && is_cancel q) (λ t. unfold telling unchanged if◌then◌otherwise◌ in rests (cancel_again (and_parts (resendable q e.venue o) _ t).1))
      (λ t. split_two G _ (λ u. unfold telling unchanged if◌then◌otherwise◌ in rests (replace_again (and_parts (resendable q e.venue o && is_replace q) _ u).1))
      (λ u. failing_again t (failed_fails (not_sent (outcome_else e (not_kind e 8 7 z refl) (not_kind e 8 4 z refl)))))))

  pub failed_made : eqb e.kind 7 ≡ true → M (send_failed f k q e.venue came.failed_to_send (text_note e) o) (send_failed f' k q e.venue came.failed_to_send (text_note e) o)
  failed_made z = by (failed_fails (told_us (outcome_failed e z)))
    where
      by : {c c' : Change} → F c c' → M c c'
      by (rests l) = stays (fails z l)

  pub unsent_made : eqb e.kind 8 ≡ true → M (unsent f k q e.venue o) (unsent f' k q e.venue o)
  unsent_made z = by (unsent_resends z)
    where
      by : {c c' : Change} → G c c' → M c c'
      by (rests l) = stays (resends (not_kind e 8 7 z refl) l)

-- event 9
module _ (o : Order) (p : ℕ) (x : Request) (m n : ℕ) where
  pub asked_made : Asked o p x m n (cancel_order (findings p x m) o) (cancel_order (findings p x n) o)
  unfolding cancel_order unchanged gateway_cancel_in_flight outstanding_cancel
  asked_made =
      split_two A _ (λ d. declined (inl d))
      (λ d. split_two A _ (λ g. declined (inr g)) (λ g. split_two A _ (λ t. waits d g) (λ t. goes d g)))
    where
      A : Change → Change → Type 0
      A = Asked o p x m n

-- events 2 and 3
module _ (order : ℕ) (full : Bool) (o : Order) (e : Event) (p : ℕ) (x : Request) (m n : ℕ) where
  abbrev D : Change → Change → Type 0
  D = Amended order full o e p x m n

  pub cancel_made : eqb e.kind 2 ≡ true → D (cancel (findings p x m) order full o e) (cancel (findings p x n) order full o e)
  unfolding cancel already_taken amend_refusal cancel_refusal gateway_cancel_in_flight outstanding_cancel redelivered_report refuse
  cancel_made z =
      split_two D _ (λ h. unfold telling unchanged if◌then◌otherwise◌ in repeated h)
      (λ h. split_two D _ (λ t. unfold telling unchanged if◌then◌otherwise◌ in turned of_cancel t) (cancel_sent z))

  pub replace_made : D (replace (findings p x m) order full o e) (replace (findings p x n) order full o e)
  unfolding replace already_taken amend_refusal replace_refusal gateway_cancel_in_flight outstanding_cancel redelivered_report refuse
  replace_made =
      split_two D _ (λ h. unfold telling unchanged if◌then◌otherwise◌ in repeated h)
      (λ h. split_two D _ (λ t. unfold telling unchanged if◌then◌otherwise◌ in turned of_replace t) (λ t. split_two D _ (λ u. unpriced t) (λ u. replace_sent t (not-false _ u))))

-- ---- a property of the order that is left, and of the links: P of two changes, by S of the order

-- what the requests of these links come to: no request, and 0, or what the event makes of them
abbrev pub Came : Event → (answered superseded outcome : ℕ) → Type 0
Came e j s v = ((j ≡ 0) × (s ≡ 0) × (v ≡ 0)) ⊎ (v ≡ outcome_by e)

pub record Closed (k : ℕ) (q : Request) (o : Order) (e : Event) (p : ℕ) (x : Request) (m n : ℕ) (S : Order → Type 0) (P : Change → Change → Type 0) : Type 0 where
  pub own : S o
  pub refused : {r : Refused} → From k q o e r → S (refused_order k r o)
  pub named : S (record_venue_order_id e.ids.venueorderid false o)
  pub fallen : S (with_gateway (send_refused o.gateway) o)
  pub ended : S (set_status rejected o)
  pub reports : S (reported k q o e)
  pub gives_up : (y : Order) → S y → S (with_gateway (given_up y) y)
  pub counts : (y : Order) → S y → S (next_exec y)
  pub leaves : {y : Order} {j s v : ℕ} {out : Output} → S y → (j ≡ 0) ⊎ (j ≡ k) → (s ≡ 0) ⊎ (s ≡ o.links.current) → Came e j s v → P (left p y j s v out) (left p y j s v out)
  pub sends : {y : Order} {j s v : ℕ} (out : Output) → S y → (j ≡ 0) ⊎ (j ≡ k) → (s ≡ 0) ⊎ (s ≡ o.links.current) → Came e j s v
      → P (send_gateway_cancel (findings p x m) (left p y j s v out)) (send_gateway_cancel (findings p x n) (left p y j s v out))

module _ {k : ℕ} {q : Request} {o : Order} {e : Event} {p : ℕ} {x : Request} {m n : ℕ} {S : Order → Type 0} {P : Change → Change → Type 0} (z : Closed k q o e p x m n S P) where
  abbrev Linked : Order → ℕ → ℕ → ℕ → Type 0
  Linked y j s v = S y × ((j ≡ 0) ⊎ (j ≡ k)) × ((s ≡ 0) ⊎ (s ≡ o.links.current)) × Came e j s v

  none_linked : {y : Order} → S y → Linked y 0 0 0
  none_linked y = (y, inl refl, inl refl, inl (refl, refl, refl))

  one_linked : {y : Order} {v : ℕ} → S y → v ≡ outcome_by e → Linked y k 0 v
  one_linked y v = (y, inr refl, inl refl, inr v)

  failure_came : {n : Note} {v : ℕ} → Failure k q o e n v → v ≡ outcome_by e
  failure_came (told_us h) = sym h
  failure_came (not_sent h) = sym h

  from_came : {r : Refused} → From k q o e r → r.outcome ≡ outcome_by e
  from_came (by_report h) = sym h
  from_came (by_reject h) = sym h
  from_came (by_failure w) = failure_came w

  refuses_linked : {y : Order} {j s v : ℕ} {out : Output} → Refuses k q o e y j s v out → Linked y j s v
  refuses_linked still = none_linked z.own
  refuses_linked (gone w u g) = one_linked (z.refused w) (from_came w)
  refuses_linked (given_up_lem w u g h) = one_linked (z.gives_up _ (z.refused w)) (from_came w)
  refuses_linked (told w u g) = one_linked (z.refused w) (from_came w)

  fails_linked : {y : Order} {j s v : ℕ} {out : Output} → Fails k q o e y j s v out → Linked y j s v
  fails_linked unfailed = none_linked z.own
  fails_linked (refused r g) = refuses_linked r
  fails_linked (freed w g h) = one_linked z.own (failure_came w)
  fails_linked (fell w t g u h) = one_linked z.fallen (failure_came w)
  fails_linked (ended w t g h) = one_linked (z.counts _ z.ended) (failure_came w)

  settles_linked : {y : Order} {j s v : ℕ} → S y → Settles k q o e j s v → Linked y j s v
  settles_linked y (replaced t h) = (y, inr refl, inr refl, inr (sym h))
  settles_linked y (cancelled t u h) = one_linked y (sym h)
  settles_linked y (neither t) = none_linked y

  left_linked : {y : Order} {j s v : ℕ} {out : Output} → Left k q o e y j s v out → Linked y j s v
  left_linked (fails z₇ l) = fails_linked l
  left_linked (resends z₇ new_again) = none_linked z.own
  left_linked (resends z₇ (cancel_again t)) = none_linked z.own
  left_linked (resends z₇ (replace_again t)) = none_linked z.own
  left_linked (resends z₇ (failing t l)) = fails_linked l
  left_linked (alarms a l) = none_linked z.own
  left_linked names = none_linked z.named
  left_linked (applies a u s) = settles_linked z.reports s
  left_linked (informs a s) = settles_linked (z.counts _ z.reports) s

  pub closed_made : {c c' : Change} → Made k q o e p x m n c c' → P c c'
  closed_made (stays l) = let (y, j, s, v) = left_linked l in z.leaves y j s v
  closed_made (refusing! z₇ (quietly r)) = let (y, j, s, v) = refuses_linked r in z.leaves y j s v
  closed_made (refusing! z₇ (retries w u g h t)) = let (y, j, s, v) = one_linked (z.refused w) (from_came w) in z.sends _ y j s v
  closed_made (resumes z₇ r h t) = let (y, j, s, v) = refuses_linked r in z.sends _ y j s v
