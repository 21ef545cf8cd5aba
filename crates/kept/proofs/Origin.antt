-- The request that an event adds: without an OrigClOrdID, or of the order that the change places, whose client the order keeps. And what an event never changes of the
-- requests that were there. Rests on machine's walk over the handlers, and on Records.
use Rattle.std.proofs.Common.{ℕ, ◌+◌, ◌-◌, ◌<◌, arith, ◌≡◌, refl, ap, ◌⊎◌, inl, inr, true, false, eqb, length, eq-eqb}
use Rattle.prelude.specs.Laws.Cases.{clash}
use Rattle.store.specs.declared.Request.{Request}
use Rattle.store.specs.Book.{Book, order_in, request_in}
use Rattle.machine.specs.declared.Change.{Change}
use Rattle.machine.specs.Orders.{is_empty}
use Rattle.machine.specs.Changes.{Event, adding}
use Rattle.machine.specs.Machine.{first_request, step_of, after}
use Rattle.machine.proofs.Kept.Lift.{after_case}
use Rattle.machine.proofs.Claim.Laws.{Whose}
use Rattle.machine.proofs.Claim.Records.{there_like}
use Rattle.machine.proofs.Claim.Ruled.{Ruled}
use Rattle.machine.proofs.Claim.Moves.{Moves, made_moves, asked_moves, amended_moves}
use Rattle.machine.proofs.Claim.Touches.{made_touches, asked_touches, amended_touches}
use Rattle.machine.proofs.Claim.Filled.{findings_place}
use Rattle.machine.proofs.Claim.Walk.{Did, Roomy, turned_away, no_order_lem, on_order, new_order, Either, Handles, step_walk}

-- ---- what is added

-- THE REQUEST THAT A CHANGE ADDS
pub data Added (b : Book) (c : Change) : Type 0 where
  nothing_added : c.requests.added ≡ 0 → Added b c
  first_one : is_empty c.requests.request.origclordid ≡ true → Added b c
  own : (i : ℕ) → c.requests.request.order ≡ i → c.order.client ≡ (order_in b i).client → Added b c

module _ (b : Book) (e : Event) where
  -- of an order that was there
  unfoldable Own : ℕ → Change → Type 0
  Own i c = (c.requests.added ≡ 0) ⊎ ((c.requests.request.order ≡ i) × (c.order.client ≡ (order_in b i).client))

  owned : (i p : ℕ) (c : Change) → p ≡ i + 1 → (eqb c.refusal 0 ≡ false) ⊎ Moves 2 p (order_in b i) c → (c.requests.added ≡ 0) ⊎ (c.requests.request.order ≡ p - 1) → Either (Own i c) c
  unfolding Either Own
  owned i p c z (inl y) a = inl y
  owned i p c z (inr m) (inl y) = inr (m.taken, inl y)
  owned i p c z (inr m) (inr y) = inr (m.taken, inr (omega (arith, y), ap (λ (w : Whose). w.client) m.same))

  handles_own : Handles Own b e
  handles_own = record {
    amends = λ l₃ n₇ n₉ i h order full m. owned i _ _ (findings_place b (i + 1)) (amended_moves m) (amended_touches m).adds;
    answers = λ n₂ n₉ k w m. owned (request_in b k).order _ _ (findings_place b ((request_in b k).order + 1)) (inr (made_moves m)) (made_touches m).adds;
    asks = λ past i w m. owned i _ _ (findings_place b (i + 1)) (inr (asked_moves m)) (asked_touches m).adds;
  }

  added_own : (i : ℕ) (c : Change) → Roomy Own b i c → Added b c
  unfolding Roomy Own
  added_own i c (inl y, room) = nothing_added y
  added_own i c (inr (o, m), room) = own i o m

  pub step_added : Ruled b → (step_of b e).refusal ≡ 0 → Added b (step_of b e)
  unfolding adding first_request
  step_added r z = go z (step_walk Own b e r handles_own)
    where
      go : {c : Change} → c.refusal ≡ 0 → Did (Roomy Own b) b e c → Added b c
      go {c} t (turned_away y) = clash (eqb c.refusal 0) (eq-eqb c.refusal 0 t) y
      go t (no_order_lem s y) = nothing_added s.adds
      go {c} t (on_order i h u p) = added_own i c p
      go t (new_order k u) = first_one refl

-- ---- the requests that were there

module _ (b : Book) (c : Change) (k : ℕ) (l : k < length b.requests) where
  -- what a change never changes of a request
  pub same_order : (request_in (after b c) k).order ≡ (request_in b k).order
  same_order = (there_like b c k l).order

  pub same_clordid : (request_in (after b c) k).clordid ≡ (request_in b k).clordid
  unfolding after
  same_clordid = after_case (λ (q : Request). q.clordid ≡ (request_in b k).clordid) b.requests c k l refl (λ z. refl)

  pub same_origclordid : (request_in (after b c) k).origclordid ≡ (request_in b k).origclordid
  unfolding after
  same_origclordid = after_case (λ (q : Request). q.origclordid ≡ (request_in b k).origclordid) b.requests c k l refl (λ z. refl)
