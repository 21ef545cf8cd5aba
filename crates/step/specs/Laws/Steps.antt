-- The parts of a step are together machine's. Rests on Steps and machine's Machine.
use Rattle.std.specs.Prelude.{ℕ, ◌+◌, ◌<◌, ◌≡◌, Bool, true, false, ◌&&◌, ◌||◌, eqb, refl, leb, ltb, Option, None, Some}
use Rattle.std.proofs.Common.{sym, ap, ◌∙◌, arith, eqb-true, eq-eqb, ne_eqb, lt-ltb, le-ltb, le-leb}
use Rattle.std.proofs.Math.Decide.{dec_lt}
use Rattle.std.proofs.lemmas.Bool.{eqb-false, lt-leb}
use Rattle.prelude.specs.Cases.{if◌then◌otherwise◌, maybe}
use Rattle.prelude.specs.declared.Text.{Text}
use Rattle.store.specs.declared.Order.{Order}
use Rattle.store.specs.declared.Request.{Request}
use Rattle.store.specs.Book.{Book, order_in, request_in}
use Rattle.store.specs.Finds.{find_clordid}
use Rattle.machine.specs.declared.Findings.{Findings}
use Rattle.machine.specs.declared.Change.{Change}
use Rattle.machine.specs.Changes.{Event, refusing}
use Rattle.machine.specs.GatewayCancel.{cancel_order}
use Rattle.machine.specs.Machine.{order_link, order_of, order_at_link, latest_cancel, findings_of, Amending, amending, on_request, on_name, book_order, change_of, has_room, step_of}
use Rattle.machine.proofs.Kept.Tables.{at_link}
use Rattle.prelude.specs.declared.Refusal.{Refusal}
use Rattle.prelude.specs.Refusal.{number_of}
use Rattle.prelude.specs.Laws.Cases.{if_true, if_false}
use Rattle.step.specs.Laws.Taken.{numbered}
use Rattle.index.specs.Index.{origin_of}
use Rattle.step.specs.Steps.{origin_asked, order_of_link, request_at_link, findings_at, is_full, amended, handled, unknown_of, has_room_for}

-- ---- what an event finds

pub findings_at_lem : (b : Book) (place : ℕ) → findings_at b place (order_at_link b place) ≡ findings_of b place
unfolding findings_at findings_of request_at_link latest_cancel
findings_at_lem b place = refl

pub findings_of_lem : (b : Book) (i : ℕ) → findings_at b (i + 1) (order_in b i) ≡ findings_of b (i + 1)
findings_of_lem b i = ap (findings_at b (i + 1)) (sym (at_link b i)) ∙ findings_at_lem b (i + 1)

-- ---- events by kind

unfoldable pub by_kind : Book → Event → Change
by_kind b e =
    if eqb e.kind 1 then book_order b e
    otherwise if eqb e.kind 2 || eqb e.kind 3 then amended b e
    otherwise if ltb e.kind 4 || ltb 8 e.kind then on_name b e
    otherwise on_request (unknown_of e) (handled e) b e

-- by the event's kind: what it is, or that it is another
module _ (b : Book) (e : Event) where
  at_kind : (n : ℕ) → ((e.kind ≡ n) → change_of b e ≡ by_kind b e) → (eqb e.kind n ≡ false → change_of b e ≡ by_kind b e) → change_of b e ≡ by_kind b e
  at_kind n yes' no' = go (eqb e.kind n) refl
    where
      go : (x : Bool) → eqb e.kind n ≡ x → change_of b e ≡ by_kind b e
      go true t = yes' (eqb-true e.kind n t)
      go false t = no' t

  other : eqb e.kind 1 ≡ false → eqb e.kind 2 ≡ false → eqb e.kind 3 ≡ false → eqb e.kind 4 ≡ false → eqb e.kind 5 ≡ false
      → eqb e.kind 6 ≡ false → eqb e.kind 7 ≡ false → eqb e.kind 8 ≡ false → change_of b e ≡ by_kind b e
  unfolding change_of by_kind if◌then◌otherwise◌
  other k1 k2 k3 k4 k5 k6 k7 k8 = rw (k1, k2, k3, k4, k5, k6, k7, k8) (sym (outside (dec_lt e.kind 4)))
    where
      outside : Dec (e.kind < 4) → (if ltb e.kind 4 || ltb 8 e.kind then on_name b e otherwise on_request (unknown_of e) (handled e) b e) ≡ on_name b e
      outside (yes h) = rw (lt-ltb e.kind 4 h) refl
      outside (no h) =
          let m : 8 < e.kind = omega (arith, eqb-false e.kind 4 k4, eqb-false e.kind 5 k5, eqb-false e.kind 6 k6, eqb-false e.kind 7 k7, eqb-false e.kind 8 k8) in
          rw (le-ltb e.kind 4 (omega arith), lt-ltb 8 e.kind m) refl

  pub by_kind_lem : change_of b e ≡ by_kind b e
  unfolding change_of by_kind amended handled unknown_of on_request if◌then◌otherwise◌
  by_kind_lem =
      at_kind 1 (λ k. rw k refl) (λ k1. at_kind 2 (λ k. rw k refl) (λ k2. at_kind 3 (λ k. rw k refl) (λ k3. at_kind 4 (λ k. rw k refl)
      (λ k4. at_kind 5 (λ k. rw k refl) (λ k5. at_kind 6 (λ k. rw k refl) (λ k6. at_kind 7 (λ k. rw k refl) (λ k7. at_kind 8 (λ k. rw k refl)
      (λ k8. other k1 k2 k3 k4 k5 k6 k7 k8))))))))

-- the change of each kind, once it is asked for
module _ (b : Book) (e : Event) where
  pub kind_1 : eqb e.kind 1 ≡ true → book_order b e ≡ change_of b e
  unfolding by_kind if◌then◌otherwise◌
  kind_1 h = sym (by_kind_lem b e ∙ (rw h refl))

  pub kind_2 : eqb e.kind 1 ≡ false → eqb e.kind 2 || eqb e.kind 3 ≡ true → amended b e ≡ change_of b e
  unfolding by_kind if◌then◌otherwise◌
  kind_2 h g = sym (by_kind_lem b e ∙ (rw (h, g) refl))

  pub kind_9 : eqb e.kind 1 ≡ false → eqb e.kind 2 || eqb e.kind 3 ≡ false → ltb e.kind 4 || ltb 8 e.kind ≡ true → on_name b e ≡ change_of b e
  unfolding by_kind if◌then◌otherwise◌
  kind_9 h g f = sym (by_kind_lem b e ∙ (rw (h, g, f) refl))

  pub kind_4 : eqb e.kind 1 ≡ false → eqb e.kind 2 || eqb e.kind 3 ≡ false → ltb e.kind 4 || ltb 8 e.kind ≡ false
      → on_request (unknown_of e) (handled e) b e ≡ change_of b e
  unfolding by_kind if◌then◌otherwise◌
  kind_4 h g f = sym (by_kind_lem b e ∙ (rw (h, g, f) refl))

-- the change of each kind, by the arms of a match
module _ (b : Book) (e : Event) where
  pub kind_is_1 : e.kind ≡ 1 → book_order b e ≡ change_of b e
  kind_is_1 h = kind_1 b e (eq-eqb e.kind 1 h)

  pub kind_2_to_3 : 1 < e.kind → e.kind < 4 → amended b e ≡ change_of b e
  kind_2_to_3 low high = kind_2 b e (ne_eqb e.kind 1 (omega arith)) (asks (dec_lt e.kind 3))
    where
      asks : Dec (e.kind < 3) → eqb e.kind 2 || eqb e.kind 3 ≡ true
      asks (yes h) = rw (eq-eqb e.kind 2 (omega arith)) refl
      asks (no h) = rw (ne_eqb e.kind 2 (omega arith), eq-eqb e.kind 3 (omega arith)) refl

  pub kind_4_to_8 : 3 < e.kind → e.kind < 9 → on_request (unknown_of e) (handled e) b e ≡ change_of b e
  kind_4_to_8 low high =
      kind_4 b e (ne_eqb e.kind 1 (omega arith)) (rw (ne_eqb e.kind 2 (omega arith), ne_eqb e.kind 3 (omega arith)) refl)
      (rw (le-ltb e.kind 4 (omega arith), le-ltb 8 e.kind (omega arith)) refl)

  pub kind_below_1 : e.kind < 1 → on_name b e ≡ change_of b e
  kind_below_1 low =
      kind_9 b e (ne_eqb e.kind 1 (omega arith)) (rw (ne_eqb e.kind 2 (omega arith), ne_eqb e.kind 3 (omega arith)) refl)
      (rw (lt-ltb e.kind 4 (omega arith)) refl)

  pub kind_past_8 : 8 < e.kind → on_name b e ≡ change_of b e
  kind_past_8 high =
      kind_9 b e (ne_eqb e.kind 1 (omega arith)) (rw (ne_eqb e.kind 2 (omega arith), ne_eqb e.kind 3 (omega arith)) refl)
      (rw (le-ltb e.kind 4 (omega arith), lt-ltb 8 e.kind high) refl)

-- the same, for the tactic of the function that has the match
pub ruleset kinds = (kind_is_1, kind_2_to_3, kind_4_to_8, kind_below_1, kind_past_8)

-- ---- what the code has found is what the definitions take

pub named : (b : Book) (i : ℕ) (o : Order) (f : Findings) (r : Change) → o ≡ order_in b i → f ≡ findings_at b (i + 1) o → r ≡ cancel_order f o
    → r ≡ cancel_order (findings_of b (i + 1)) (order_in b i)
named b i o f r ho hf hr = rw (hr, hf, ho, findings_of_lem b i) refl

pub asked : (b : Book) (e : Event) (k : ℕ) (q : Request) (o : Order) (f : Findings) (r : Change) → q ≡ request_in b k → o ≡ order_in b q.order
    → f ≡ findings_at b (q.order + 1) o → r ≡ handled e f (k + 1) q o
    → r ≡ handled e (findings_of b (order_link b k)) (k + 1) (request_in b k) (order_in b (request_in b k).order)
asked b e k q o f r hq ho hf hr = rw (hr, hf, ho, hq, findings_of_lem b (request_in b k).order) refl

-- the request of the OrigClOrdID, looked up once
module _ (b : Book) (e : Event) where
  amended_kind : 1 < e.kind → e.kind < 4 → leb 2 e.kind && leb e.kind 3 ≡ true
  amended_kind low high = rw (le-leb 2 e.kind (omega arith), le-leb e.kind 3 (omega arith)) refl

  pub origin_amended : 1 < e.kind → e.kind < 4 → origin_of b e.client e.ids.origclordid ≡ origin_asked b e
  unfolding origin_asked
  origin_amended low high = sym (if_true _ _ _ (amended_kind low high))

  pub origin_low : e.kind < 2 → 0 ≡ origin_asked b e
  unfolding origin_asked
  origin_low low = sym (if_false _ _ _ (rw (lt-leb 2 e.kind low) refl))

  pub origin_high : 3 < e.kind → 0 ≡ origin_asked b e
  unfolding origin_asked
  origin_high high = sym (if_false _ _ _ (rw (le-leb 2 e.kind (omega arith), lt-leb e.kind 3 high) refl))

  order_linked : (client : ℕ) (t : Text) → order_of_link b (origin_of b client t) ≡ order_of b client t
  unfolding order_of_link origin_of order_of maybe
  order_linked client t = go (find_clordid b client t)
    where
      go : (x : Option ℕ) → order_of_link b (maybe 0 (λ k. k + 1) x) ≡ maybe 0 (order_link b) x
      go None = if_true _ _ _ refl
      go (Some k) = if_false _ _ _ (ne_eqb (k + 1) 0 (λ z. omega arith)) ∙ ap (order_link b) (omega arith)

  pub order_found : 1 < e.kind → e.kind < 4 → (origin place : ℕ) → origin ≡ origin_asked b e → place ≡ order_of_link b origin → place ≡ order_of b e.client e.ids.origclordid
  order_found low high origin place h k = k ∙ ap (order_of_link b) (h ∙ sym (origin_amended low high)) ∙ order_linked e.client e.ids.origclordid

-- for the tactic of the function that asks for it
pub ruleset origins = (origin_amended, origin_low, origin_high)

pub amends : (handle : Amending) (b : Book) (e : Event) (place : ℕ) (o : Order) (f : Findings) (used : ℕ) (full : Bool) (r : Change)
    → place ≡ order_of b e.client e.ids.origclordid → o ≡ order_at_link b place → f ≡ findings_at b place o
    → used ≡ order_of b e.client e.ids.clordid → full ≡ is_full b e.client → r ≡ handle f used full o e → r ≡ amending handle b e
unfolding amending is_full
amends handle b e place o f used full r hp ho hf hu hl hr =
    rw (hr, hl, hu, hf, ho, hp, findings_at_lem b (order_of b e.client e.ids.origclordid)) refl

-- ---- question 7

pub has_room_lem : (b : Book) (c : Change) → has_room_for b c.place c.requests.added ≡ has_room b c
unfolding has_room_for has_room
has_room_lem b c = refl

module _ (b : Book) (e : Event) (c : Change) (h : c ≡ change_of b e) where
  pub step_refused : eqb c.refusal 0 ≡ false → c ≡ step_of b e
  unfolding step_of if◌then◌otherwise◌
  step_refused r = rw (← h, r) refl

  pub step_taken : eqb c.refusal 0 ≡ true → has_room_for b c.place c.requests.added ≡ true → c ≡ step_of b e
  unfolding step_of if◌then◌otherwise◌
  step_taken r g = rw (← h, r, sym (has_room_lem b c) ∙ g) refl

  pub step_full : eqb c.refusal 0 ≡ true → has_room_for b c.place c.requests.added ≡ false → refusing 7 ≡ step_of b e
  unfolding step_of if◌then◌otherwise◌
  step_full r g = rw (← h, r, sym (has_room_lem b c) ∙ g) refl

-- the same of what the code has as a result: a refusal has a number, and what is no refusal has 0
module _ (b : Book) (e : Event) where
  pub step_err : (r : Refusal) → refusing (number_of r) ≡ change_of b e → refusing (number_of r) ≡ step_of b e
  unfolding refusing
  step_err r h = step_refused b e _ h (numbered r)

  module _ (c : Change) (h : c ≡ change_of b e) (taken : c.refusal ≡ 0) where
    pub step_ok : has_room_for b c.place c.requests.added ≡ true → c ≡ step_of b e
    step_ok g = step_taken b e c h (eq-eqb c.refusal 0 taken) g

    pub step_no_room : has_room_for b c.place c.requests.added ≡ false → refusing 7 ≡ step_of b e
    step_no_room g = step_full b e c h (eq-eqb c.refusal 0 taken) g

-- how a step ends, for the tactic of the function that takes it
pub ruleset stepped = (step_err, step_ok, step_no_room)
