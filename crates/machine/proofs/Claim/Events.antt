-- The shape of each of the nine events. Rests on Steps.
use Rattle.std.proofs.Common.{ℕ, ◌+◌, ◌≤◌, ◌<◌, arith, ◌≡◌, refl, sym, ap, ◌∙◌, ◌⊎◌, inl, inr, Bool, true, false, not, ◌&&◌, Some, eqb, length, eq-eqb, ne_eqb}
use Rattle.std.proofs.Math.Bool.{and-false}
use Rattle.std.proofs.lemmas.Bool.{and_from, cases_Bool}
use Rattle.prelude.specs.Cases.{if◌then◌otherwise◌, maybe}
use Rattle.prelude.specs.Laws.Cases.{clash, maybe_some}
use Rattle.store.specs.declared.GatewayCancel.{GatewayCancel}
use Rattle.store.specs.declared.Order.{Order}
use Rattle.store.specs.Book.{Book, order_in, request_in}
use Rattle.format.specs.Codes.{rejected}
use Rattle.machine.specs.Orders.{has_gateway, is_done}
use Rattle.machine.specs.Changes.{Event, refusing, is_gateway, is_answered}
use Rattle.machine.specs.GatewayCancel.{gateway_cancel_in_flight}
use Rattle.machine.specs.Amend.{replace_goes, refused_alarm, send_refused, resendable}
use Rattle.store.specs.Finds.{find_name, find_downstream}
use Rattle.machine.specs.Machine.{findings_of, order_link}
use Rattle.machine.specs.Rules.{tries_rule}
use Rattle.machine.specs.History.{read_as}
use Rattle.machine.specs.Claim.{starts, cancels_in}
use Rattle.machine.specs.declared.Output.{Output}
use Rattle.machine.specs.declared.Change.{Change}
use Rattle.machine.proofs.Claim.Ruled.{Ruled, order_ruled, request_ruled, done_none}
use Rattle.machine.proofs.Claim.Walk.{found_request, found_text, Either, Handles, requests_order}
use Rattle.machine.proofs.Claim.Filled.{Moved, handles_moved}
use Rattle.machine.proofs.Claim.Tries.{asks_at, find_cong, gateway_cancels}
use Rattle.machine.proofs.Walked.{not_kind}
use Rattle.machine.proofs.Made.{left, repeated, turned, unpriced, cancel_sent, replace_sent, Fails, unfailed, refused, freed, fell, ended, Resends, new_again, cancel_again, replace_again, failing, fails, resends, alarms, names, applies, informs, quietly, retries, stays, refusing!, resumes, declined, waits, goes}
use Rattle.machine.proofs.Stepped.{MadeBy, AskedBy, AmendedBy}
use Rattle.machine.proofs.Claim.Shapes.{plain_reject, plain_report, plain_client, plain_new, plain_replace, one_cancel, Near, near_self, near_trans, status_near, told_near, named_near, refused_near, reported_near, Mute, calm_mute, says_mute, Idle, left_idle, Sent, send_fields, refuses_near, refuses_links, retried_sent, resumed_sent, cancel_out, cancel_fields, replace_fields, begun_out, begun_once, begun_none}
use Rattle.machine.proofs.Claim.Steps.{Shape, idle, repeats, client, gateway, begins!, fails!, Shaped, findings_index}

pub asks_none : (b : Book) (e : Event) → eqb e.kind 9 ≡ false → (j : ℕ) → asks_at j b (read_as e) ≡ false
asks_none b e z j = ap (λ (x : Bool). x && maybe false (λ i. eqb i j && starts b i) (find_name b e.ids.name)) z

module _ (b : Book) (e : Event) (i : ℕ) (c : Change) (n₉ : eqb e.kind 9 ≡ false) (n₇ : eqb e.kind 7 ≡ false) where
  -- the event is neither 7 nor 9
  plainly : Shape b e i c → Shaped b e i c
  plainly s = record { alone = λ j n. asks_none b e n₉ j; spares = λ z. clash _ z n₇; shape = s }

  idle_shaped : Idle (order_in b i) c → Shaped b e i c
  idle_shaped d = plainly (idle (asks_none b e n₉ i) d.silent (inl d.adds) (λ hg. let (x, t, u) = d.near.gate hg in (x, t, λ z. clash _ z n₇)))

  sent_shaped : eqb e.kind 2 ≡ false → Sent (findings_of b (i + 1)) (order_in b i) c → Shaped b e i c
  sent_shaped n₂ d = plainly (gateway n₇ n₂ d.out d.by_gateway (inr (asks_none b e n₉ i, d.from, d.room, d.more)))

refusing_shaped : (b : Book) (e : Event) (i n : ℕ) → eqb e.kind 9 ≡ false → eqb e.kind 7 ≡ false → Shaped b e i (refusing n)
unfolding refusing if◌then◌otherwise◌ cancels_in has_gateway
refusing_shaped b e i n n₉ n₇ = plainly b e i _ n₉ n₇ (idle (asks_none b e n₉ i) refl (inl refl) (λ h. clash false h refl))

has_same : (o p : Order) → p.gateway ≡ o.gateway → has_gateway p ≡ true → has_gateway o ≡ true
unfolding has_gateway
has_same o p y h = sym (ap (λ (g : GatewayCancel). not (eqb g.origdownstream 0)) y) ∙ h

replaced_shaped : (b : Book) (e : Event) (i : ℕ) → eqb e.kind 9 ≡ false → eqb e.kind 7 ≡ false → Shaped b e i (replace_goes (findings_of b (i + 1)) (order_in b i) e)
replaced_shaped b e i n₉ n₇ =
    let (x, y, z, w) = replace_fields (findings_of b (i + 1)) (order_in b i) e in
    plainly b e i _ n₉ n₇ (idle (asks_none b e n₉ i) z (inr (x, w ∙ findings_index b i))
    (λ hg. (has_same (order_in b i) _ y hg, ap (λ (g : GatewayCancel). g.tries) y, λ w. clash _ w n₇)))

module _ (b : Book) (r : Ruled b) (e : Event) (above : 0 < e.kind) (below : e.kind ≤ 9) where
  rule : (i : ℕ) → i < length b.orders → tries_rule (order_in b i).gateway ≡ true
  rule i h = (order_ruled b r i h).tries

  rule_of : (k : ℕ) → find_downstream b e.ids.downstream ≡ Some k → tries_rule (requests_order b k).gateway ≡ true
  rule_of k w = rule (request_in b k).order (request_ruled b r k (found_request b e.ids.downstream k w)).placed

  -- a cancel or replace of the client's
  amended_shaped : eqb e.kind 7 ≡ false → eqb e.kind 9 ≡ false → (i order : ℕ) (full : Bool) {c c' : Change} → AmendedBy (findings_of b (i + 1)) order full (order_in b i) e c c' → Shaped b e i c
  amended_shaped n₇ n₉ i order full (repeated t) = idle_shaped b e i _ n₉ n₇ (left_idle (told_near _, says_mute (plain_report _ _ _ _ _ _ _)))
  amended_shaped n₇ n₉ i order full (turned w t) = idle_shaped b e i _ n₉ n₇ (left_idle (near_self _, says_mute (plain_reject _ _ _ _ _ _ _)))
  amended_shaped n₇ n₉ i order full (unpriced t) = refusing_shaped b e i 6 n₉ n₇
  amended_shaped n₇ n₉ i order full (cancel_sent k t) =
      let (x, y) = cancel_fields (findings_of b (i + 1)) (order_in b i) e in plainly b e i _ n₉ n₇ (client (asks_none b e n₉ i) n₇ k (cancel_out _ _ e) x y)
  amended_shaped n₇ n₉ i order full (replace_sent t u) = replaced_shaped b e i n₉ n₇

  -- an event that names a request
  module _ (n₂ : eqb e.kind 2 ≡ false) (n₉ : eqb e.kind 9 ≡ false) (k : ℕ) (w : find_downstream b e.ids.downstream ≡ Some k) where
    -- nothing is answered
    still_shaped : {y : Order} {out : Output} → Near (order_in b (request_in b k).order) y × Mute out → {p : ℕ} → Shaped b e (request_in b k).order (left p y 0 0 0 out)
    still_shaped n = record {
      alone = λ j n. asks_none b e n₉ j;
      spares = λ y. (refl, λ x p. absurd (omega arith));
      shape = idle (asks_none b e n₉ _) n.1.silent (inl refl) (λ hg. let (x, t, u) = n.0.gate hg in (x, t, λ y x p. absurd (omega arith)));
    }

    -- a failed send, told by event 7: the tries stay, and no gateway request of a standing gateway cancel is answered
    stays_shaped : eqb e.kind 7 ≡ true → {y : Order} {j s v : ℕ} {out : Output} → Near (order_in b (request_in b k).order) y × Mute out → (s ≡ 0) × ((j ≡ 0) ⊎ (j ≡ k + 1))
        → (is_gateway (request_in b k) ≡ true → (j ≡ 0) ⊎ (has_gateway y ≡ false)) → {p : ℕ} → Shaped b e (request_in b k).order (left p y j s v out)
    stays_shaped z {y} {j} n (s₀, a) g = record {
      alone = λ j n. asks_none b e n₉ j;
      spares = λ y. (s₀, λ x p. ap (λ (n : ℕ). (request_in b n).order) (sym (only x p a)));
      shape = idle (asks_none b e n₉ _) n.1.silent (inl refl) (λ hg. let (x, t, u) = n.0.gate hg in (x, t, λ y x p. calm_one x p hg (cases_Bool (is_gateway (request_in b k)))));
    }
      where
        only : (x : ℕ) → j ≡ x + 1 → (j ≡ 0) ⊎ (j ≡ k + 1) → k ≡ x
        only x p (inl z) = omega arith
        only x p (inr z) = omega arith

        calm_one : (x : ℕ) → j ≡ x + 1 → has_gateway y ≡ true → (is_gateway (request_in b k) ≡ true) ⊎ (is_gateway (request_in b k) ≡ false) → is_gateway (request_in b x) ≡ false
        calm_one x p hg (inr z) = ap (λ (n : ℕ). is_gateway (request_in b n)) (sym (only x p a)) ∙ z
        calm_one x p hg (inl z) = none (g z)
          where
            none : (j ≡ 0) ⊎ (has_gateway y ≡ false) → is_gateway (request_in b x) ≡ false
            none (inl y) = absurd (omega arith)
            none (inr y) = clash _ hg y

    failed_shaped : eqb e.kind 7 ≡ true → {y : Order} {j s v : ℕ} {out : Output} → Fails (k + 1) (request_in b k) (requests_order b k) e y j s v out → {p : ℕ} → Shaped b e (request_in b k).order (left p y j s v out)
    failed_shaped z unfailed = stays_shaped z (near_self _, calm_mute 0) (refl, inl refl) (λ y. inl refl)
    failed_shaped z (refused r g) = stays_shaped z (refuses_near r) (refuses_links r) (λ y. clash _ y g)
    failed_shaped z (freed v g h) = stays_shaped z (near_self _, calm_mute 0) (refl, inr refl) (λ y. inr h)
    failed_shaped z (fell v t g u h) = record {
      alone = λ j n. asks_none b e n₉ j;
      spares = λ y. (refl, λ x p. let q : k ≡ x = omega arith in ap (λ (n : ℕ). (request_in b n).order) (sym q));
      shape = fails! (asks_none b e n₉ _) z e.ids.downstream k w refl g u refl refl (calm_mute 0).silent refl h (unfold send_refused in refl);
    }
    failed_shaped z (ended v t g h) = stays_shaped z (near_trans _ _ _ (status_near rejected _) (told_near _), says_mute (plain_report _ _ _ _ _ _ _)) (refl, inr refl) (λ y. clash _ y g)

    -- sent again, by event 8; what cannot be sent again is of a done order
    resent_shaped : eqb e.kind 7 ≡ false → {y : Order} {j s v : ℕ} {out : Output} → Resends (k + 1) (request_in b k) (requests_order b k) e y j s v out → {p : ℕ} → Shaped b e (request_in b k).order (left p y j s v out)
    resent_shaped n₇ new_again = idle_shaped b e _ _ n₉ n₇ (left_idle (near_self _, says_mute (plain_new _ _)))
    resent_shaped n₇ (cancel_again t) =
        plainly b e _ _ n₉ n₇
        (repeats (asks_none b e n₉ _) n₇ (request_in b k).downstream k (find_cong b _ e.ids.downstream (found_text b e.ids.downstream k w) ∙ w) t (unfold if◌then◌otherwise◌ in one_cancel _ _) refl refl)
    resent_shaped n₇ (replace_again t) = idle_shaped b e _ _ n₉ n₇ (left_idle (near_self _, says_mute (plain_replace _ _ _)))
    resent_shaped n₇ (failing t unfailed) = idle_shaped b e _ _ n₉ n₇ (left_idle (near_self _, calm_mute 0))
    resent_shaped n₇ (failing t (refused r g)) = idle_shaped b e _ _ n₉ n₇ (left_idle (refuses_near r))
    resent_shaped n₇ (failing t (freed v g h)) = idle_shaped b e _ _ n₉ n₇ (left_idle (near_self _, calm_mute 0))
    resent_shaped n₇ (failing t (ended v u g h)) = idle_shaped b e _ _ n₉ n₇ (left_idle (near_trans _ _ _ (status_near rejected _) (told_near _), says_mute (plain_report _ _ _ _ _ _ _)))
    resent_shaped n₇ (failing t (fell x v g u h)) =
        let y : is_done (requests_order b k).state.status ≡ true =
        (unfold resendable in done! (is_answered (request_in b k)) (is_done (requests_order b k).state.status) (eqb (requests_order b k).venue e.venue) u v
        (ap (λ (t : Bool). resendable (request_in b k) e.venue (requests_order b k) && t) (sym (gateway_cancels _ g)) ∙ t)) in
        clash _ h (done_none (requests_order b k) (order_ruled b r (request_in b k).order (request_ruled b r k (found_request b e.ids.downstream k w)).placed).done y)
      where
        done! : (x y v : Bool) → x ≡ false → v ≡ true → not x && not y && v && true ≡ false → y ≡ true
        done! x y v p q h = grind arith

    made_shaped : {c c' : Change} → MadeBy (findings_of b (order_link b k)) (k + 1) (request_in b k) (requests_order b k) e c c' → Shaped b e (request_in b k).order c
    made_shaped (stays (fails z l)) = failed_shaped z l
    made_shaped (stays (resends n₇ l)) = resent_shaped n₇ l
    made_shaped (stays (alarms a l)) = still_shaped (near_self _, calm_mute a)
    made_shaped (stays names) = still_shaped (named_near _ _ _, calm_mute 0)
    made_shaped (stays (applies a u s)) = idle_shaped b e _ _ n₉ (not_kind e 4 7 a.kind refl) (left_idle (reported_near _ _ _ _ e, calm_mute _))
    made_shaped (stays (informs a s)) = idle_shaped b e _ _ n₉ (not_kind e 4 7 a.kind refl) (left_idle (near_trans _ _ _ (reported_near _ _ _ _ e) (told_near _), says_mute (plain_client _ _ _ _ _ e)))
    made_shaped (refusing! n₇ (quietly r)) = idle_shaped b e _ _ n₉ n₇ (left_idle (refuses_near r))
    made_shaped (refusing! n₇ (retries {r} v u g h t)) = sent_shaped b e _ _ n₉ n₇ n₂ (retried_sent _ _ (rule_of k w) _ _ _ _ (refused_near (k + 1) r _, calm_mute (refused_alarm r (requests_order b k))) h t)
    made_shaped (resumes n₇ r h t) = sent_shaped b e _ _ n₉ n₇ n₂ (resumed_sent _ _ (rule_of k w) _ _ _ _ (refuses_near r) h t)

  -- event 9
  asks_at_lem : (i j : ℕ) → find_name b e.ids.name ≡ Some i → e.kind ≡ 9 → asks_at j b (read_as e) ≡ eqb i j && starts b i
  asks_at_lem i j w k =
      ap (λ (x : ℕ). eqb x 9 && maybe false (λ i. eqb i j && starts b i) (find_name b e.ids.name)) k ∙ maybe_some _ i _ _ w

  not_started : (i : ℕ) → (is_done (order_in b i).state.status ≡ true) ⊎ (gateway_cancel_in_flight (findings_of b (i + 1)) (order_in b i) ≡ true) → starts b i ≡ false
  unfolding starts
  not_started i (inl d) = ap (λ (x : Bool). not x && not (gateway_cancel_in_flight (findings_of b (i + 1)) (order_in b i))) d
  not_started i (inr g) = ap (λ (x : Bool). not (is_done (order_in b i).state.status) && not x) g ∙ and-false (not (is_done (order_in b i).state.status))

  started : (i : ℕ) → is_done (order_in b i).state.status ≡ false → gateway_cancel_in_flight (findings_of b (i + 1)) (order_in b i) ≡ false → starts b i ≡ true
  unfolding starts
  started i d g = and_from _ _ (ap not d) (ap not g)

  asked_shaped : e.kind ≡ 9 → (i : ℕ) (w : find_name b e.ids.name ≡ Some i) {c c' : Change} → AskedBy (findings_of b (i + 1)) (order_in b i) c c' → Shaped b e i c
  asked_shaped z i w s = record {
    alone = λ j n. asks_at_lem i j w z ∙ ap (λ (x : Bool). x && starts b i) (ne_eqb i j (λ y. n (sym y)));
    spares = λ y. clash _ y n₇;
    shape = by s;
  }
    where
      n₇ : eqb e.kind 7 ≡ false
      n₇ = ap (λ (x : ℕ). eqb x 7) z

      n₂ : eqb e.kind 2 ≡ false
      n₂ = ap (λ (x : ℕ). eqb x 2) z

      here : asks_at i b (read_as e) ≡ starts b i
      here = asks_at_lem i i w z ∙ ap (λ (x : Bool). x && starts b i) (eq-eqb i i refl)

      by : {c c' : Change} → AskedBy (findings_of b (i + 1)) (order_in b i) c c' → Shape b e i c
      by (declined p) =
          idle (here ∙ not_started i p) (calm_mute 0).silent (inl refl) (λ hg. let (x, t, u) = (near_self (order_in b i)).gate hg in (x, t, λ y. clash _ y n₇))
      by (waits d g) = begins! (here ∙ started i d g) (calm_mute 0).silent refl (begun_none (findings_of b (i + 1)) (order_in b i))
      by (goes d g) = gateway n₇ n₂ (begun_out (findings_of b (i + 1)) (order_in b i)) (send_fields (findings_of b (i + 1)) _).0 (inl (here ∙ started i d g, begun_once (findings_of b (i + 1)) (order_in b i)))

  -- ---- all of them

  unfoldable pub Stepped : ℕ → Change → Type 0
  Stepped i c = Moved b e i c × Shaped b e i c

  and_shaped : (i : ℕ) (c : Change) → Either (Moved b e i c) c → Shaped b e i c → Either (Stepped i c) c
  unfolding Either Stepped
  and_shaped i c (inl z) s = inl z
  and_shaped i c (inr z) s = inr (z.0, (z.1, s))

  pub handles_stepped : Handles Stepped b e
  handles_stepped =
      let m = handles_moved b e in
      record {
        amends = λ l₃ n₇ n₉ i h order full t. and_shaped i _ (m.amends l₃ n₇ n₉ i h order full t) (amended_shaped n₇ n₉ i order full t);
        answers = λ n₂ n₉ k w t. and_shaped _ _ (m.answers n₂ n₉ k w t) (made_shaped n₂ n₉ k w t);
        asks = λ past i w t. and_shaped i _ (m.asks past i w t) (asked_shaped (let l : 8 < e.kind = past above in omega arith) i w t);
      }
