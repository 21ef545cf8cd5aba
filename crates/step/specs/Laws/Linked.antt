-- The link that was looked up is the one that is stored: a request that a change adds has no OrigClOrdID, or that of the cancel or replace. Rests on machine's Stepped
-- and index's Named.
use Rattle.std.specs.Prelude.{ℕ, ◌+◌, ◌<◌, ◌≡◌, List, Bool, true, not, eqb, refl}
use Rattle.std.proofs.Common.{arith, sym, ap, ap₂, ◌∙◌, ◌⊎◌, inl, inr, eqb-true, eq-eqb}
use Rattle.std.proofs.Math.Decide.{dec_lt}
use Rattle.prelude.specs.Cases.{if◌then◌otherwise◌}
use Rattle.prelude.specs.Laws.Cases.{split_if, clash, maybe_none, if_true}
use Rattle.store.specs.declared.Order.{Order}
use Rattle.store.specs.declared.Request.{Request}
use Rattle.store.specs.Book.{Book}
use Rattle.store.specs.Finds.{find_clordid}
use Rattle.machine.specs.declared.Findings.{Findings}
use Rattle.machine.specs.declared.Reject.{Reject}
use Rattle.machine.specs.declared.Change.{Change}
use Rattle.machine.specs.Changes.{Event, unchanged, refusing, adding, telling, alarming, next_request, numbered_order}
use Rattle.machine.specs.Orders.{is_empty}
use Rattle.machine.specs.GatewayCancel.{send_gateway_cancel}
use Rattle.machine.specs.Amend.{amend_refusal, cancel_goes, replace_goes}
use Rattle.machine.specs.Machine.{findings_of, first_request, has_room, change_of, step_of}
use Rattle.machine.proofs.Made.{declined, waits, goes, repeated, turned, unpriced, cancel_sent, replace_sent}
use Rattle.machine.proofs.Stepped.{MadeBy, AskedBy, AmendedBy, ByName, Ways, change_made}
use Rattle.machine.proofs.Walked.{Closed, closed_made}
use Rattle.index.specs.Index.{origin_of}
use Rattle.index.specs.Laws.Named.{empty_none, found_bears}
use Rattle.step.specs.Steps.{origin_asked}
use Rattle.step.specs.Laws.Steps.{origin_amended, origin_low, origin_high}
use Rattle.step.specs.Entries.{place_origin}

-- ---- the request that a change adds

-- nothing is looked up for the event
abbrev Silent : Book → Event → Type 0
Silent b e = origin_asked b e ≡ 0

-- none; or one without an OrigClOrdID; or one with the event's, and the order is the event's client's
abbrev Named : Book → Event → Change → Type 0
Named b e c =
    (c.requests.added ≡ 0) ⊎ ((Silent b e × (is_empty c.requests.request.origclordid ≡ true))
    ⊎ (((e.kind ≡ 2) ⊎ (e.kind ≡ 3)) × (c.order.client ≡ e.client) × (c.requests.request.origclordid ≡ e.ids.origclordid)))

module _ (b : Book) (e : Event) where
  made_named : Silent b e → {f : Findings} {k : ℕ} {q : Request} {o : Order} {c c' : Change} → MadeBy f k q o e c c' → Named b e c
  unfolding send_gateway_cancel telling adding next_request
  made_named s {f} {k} {q} {o} = closed_made z
    where
      z : Closed k q o e f.place f.cancel f.requests f.requests (λ (x : Order). x ≡ x) (λ c c'. Named b e c)
      z = record {
        own = refl;
        refused = λ w. refl;
        named = refl;
        fallen = refl;
        ended = refl;
        reports = refl;
        gives_up = λ y t. refl;
        counts = λ y t. refl;
        leaves = λ t u s v. inl refl;
        sends = λ out t u v w. inr (inl (s, refl));
      }

  asked_named : Silent b e → {f : Findings} {o : Order} {c c' : Change} → AskedBy f o c c' → Named b e c
  unfolding send_gateway_cancel telling adding next_request
  asked_named s (declined z) = inl refl
  asked_named s (waits d g) = inl refl
  asked_named s (goes d g) = inr (inl (s, refl))

  -- an unknown order is refused
  none_refused : (order : ℕ) (full : Bool) (o : Order) (own : Reject) → not (eqb (amend_refusal (findings_of b 0) order full o e own).fixedtext 0) ≡ true
  unfolding amend_refusal findings_of if◌then◌otherwise◌
  none_refused order full o own = split_if (λ (r : Reject). not (eqb r.fixedtext 0) ≡ true) (not (eqb order 0)) (λ t. refl) (λ t. refl)

  none_named : {order : ℕ} {full : Bool} {o : Order} {c c' : Change} → AmendedBy (findings_of b 0) order full o e c c' → Named b e c
  unfolding refusing
  none_named (repeated t) = inl refl
  none_named (turned w t) = inl refl
  none_named (unpriced t) = inl refl
  none_named (cancel_sent z t) = clash _ (none_refused _ _ _ _) t
  none_named (replace_sent t u) = clash _ (none_refused _ _ _ _) t

  some_named : (e.kind ≡ 2) ⊎ (e.kind ≡ 3) → {f : Findings} {order : ℕ} {full : Bool} {o : Order} {c c' : Change} → o.client ≡ e.client → AmendedBy f order full o e c c' → Named b e c
  unfolding refusing cancel_goes replace_goes telling adding unchanged next_request numbered_order
  some_named z h (repeated t) = inl refl
  some_named z h (turned w t) = inl refl
  some_named z h (unpriced t) = inl refl
  some_named z h (cancel_sent k t) = inr (inr (z, h, refl))
  some_named z h (replace_sent t u) = inr (inr (z, h, refl))

  ways : Ways (Named b e) b e
  unfolding refusing adding alarming unchanged first_request
  ways = record {
    refuses = λ n z. inl refl;
    no_order_lem = λ z. inl refl;
    unknown = λ z. inl refl;
    books = λ t u v. let k : e.kind ≡ 1 = eqb-true e.kind 1 t in inr (inl (sym (origin_low b e (omega arith)), refl));
    amends_none = λ z order full c c' m. none_named m;
    amends = λ z k y full c c' m. some_named z (found_bears b e.client e.ids.origclordid k y).whose m;
    answers = λ z k y c c' m. made_named (sym (origin_high b e (omega (arith, z.0)))) m;
    asks = λ z i y c c' m. asked_named (by_name z) m;
  }
    where
      by_name : ByName e → Silent b e
      by_name h = go (dec_lt 0 e.kind)
        where
          go : Dec (0 < e.kind) → Silent b e
          go (yes k) = sym (origin_high b e (omega (arith, h k)))
          go (no k) = sym (origin_low b e (omega arith))

-- ---- what is stored beside it

-- an event that is taken has the change of its kind
taken_is : (b : Book) (e : Event) → (step_of b e).refusal ≡ 0 → step_of b e ≡ change_of b e
unfolding step_of refusing
taken_is b e =
    let P : Change → Type 0 = λ c. c.refusal ≡ 0 → c ≡ change_of b e in
    split_if P (not (eqb (change_of b e).refusal 0)) (λ t z. refl) (λ t. split_if P (has_room b (change_of b e)) (λ u z. refl) (λ u z. absurd (omega arith)))

module _ (b : Book) (e : Event) (c : Change) (is : c ≡ step_of b e) (taken : c.refusal ≡ 0) where
  named : Named b e c
  named = rw (is, taken_is b e (ap (λ (d : Change). d.refusal) (sym is) ∙ taken)) (change_made (Named b e) b e (ways b e))

  -- the link that the bytes have beside the request that is added
  pub linked : (c.requests.added ≡ 0) ⊎ (origin_asked b e ≡ origin_of b c.order.client c.requests.request.origclordid)
  unfolding origin_of
  linked = go named
    where
      go : Named b e c → (c.requests.added ≡ 0) ⊎ (origin_asked b e ≡ origin_of b c.order.client c.requests.request.origclordid)
      go (inl h) = inl h
      go (inr (inl (s, h))) =
          inr (s ∙ sym (maybe_none (find_clordid b c.order.client c.requests.request.origclordid) 0 (λ k. k + 1) (empty_none b c.order.client c.requests.request.origclordid h)))
      go (inr (inr (z, client, text))) = inr (sym (origin_amended b e (low z) (high z)) ∙ ap₂ (origin_of b) (sym client) (sym text))
        where
          low : (e.kind ≡ 2) ⊎ (e.kind ≡ 3) → 1 < e.kind
          low (inl k) = omega arith
          low (inr k) = omega arith

          high : (e.kind ≡ 2) ⊎ (e.kind ≡ 3) → e.kind < 4
          high (inl k) = omega arith
          high (inr k) = omega arith

  pub placed_linked : (t : List ℕ) (k : ℕ)
      → place_origin t c.requests.added k (origin_asked b e) ≡ place_origin t c.requests.added k (origin_of b c.order.client c.requests.request.origclordid)
  unfolding place_origin
  placed_linked t k = go linked
    where
      go : (c.requests.added ≡ 0) ⊎ (origin_asked b e ≡ origin_of b c.order.client c.requests.request.origclordid)
          → place_origin t c.requests.added k (origin_asked b e) ≡ place_origin t c.requests.added k (origin_of b c.order.client c.requests.request.origclordid)
      go (inl h) = if_true _ _ _ (eq-eqb _ 0 h) ∙ sym (if_true _ _ _ (eq-eqb _ 0 h))
      go (inr h) = ap (place_origin t c.requests.added k) h
