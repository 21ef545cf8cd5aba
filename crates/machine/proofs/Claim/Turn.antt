-- The tries of a gateway cancel: what one call does to them and to the requests. Rests on Tries.
use Rattle.std.proofs.Common.{ℕ, ◌+◌, ◌-◌, ◌<◌, ◌≡◌, refl, sym, ap, ◌∙◌, ◌⊎◌, inl, inr, Bool, true, false, not, ◌&&◌, None, Some, List, [], ◌∷◌, ◌++◌, eqb, length, eqb-true, eq-eqb}
use Rattle.std.proofs.lemmas.Bool.{and_parts, and_from, or_cases, or_left, or_right}
use Rattle.prelude.specs.Cases.{if◌then◌otherwise◌}
use Rattle.prelude.specs.Laws.Cases.{split_if, clash, if_true, same_some}
use Rattle.prelude.specs.Texts.{same_text}
use Rattle.prelude.specs.Laws.Texts.{same_back}
use Rattle.prelude.specs.declared.Text.{Text}
use Rattle.store.specs.declared.Request.{Request}
use Rattle.store.specs.Book.{order_in, request_in}
use Rattle.machine.specs.Constants.{gateway_kind}
use Rattle.machine.specs.Orders.{has_gateway}
use Rattle.machine.specs.Changes.{is_first, is_replace, is_gateway, is_cancel, is_answered}
use Rattle.store.specs.Finds.{find_downstream}
use Rattle.machine.specs.History.{Entry}
use Rattle.machine.specs.Claim.{holds, of_kind, cancels_in, once, fails}
use Rattle.machine.proofs.Claim.Tries.{begins_at, Distinct, holds_self, find_cong, gateway_cancels, Own}

-- ---- one call

-- a record after the call: the same request, answered if it was
pub record Same (q q' : Request) : Type 0 where
  pub kind : q'.kind ≡ q.kind
  pub order : q'.order ≡ q.order
  pub answered : is_answered q ≡ true → is_answered q' ≡ true

-- the cancel requests in the answer: none, one that went out before, or a new one
pub data Goes (e : Entry) : Type 0 where
  silent : cancels_in e.messages ≡ [] → ((d : Text) (k : ℕ) → find_downstream e.left d ≡ Some k → find_downstream e.before d ≡ None → is_cancel (request_in e.left k) ≡ false) → Goes e
  repeated : (d : Text) (k : ℕ) → cancels_in e.messages ≡ d ∷ [] → find_downstream e.before d ≡ Some k → is_cancel (request_in e.before k) ≡ true
      → ((d : Text) (k : ℕ) → find_downstream e.left d ≡ Some k → find_downstream e.before d ≡ None → is_cancel (request_in e.left k) ≡ false) → Goes e
  fresh : (d : Text) (k : ℕ) → cancels_in e.messages ≡ d ∷ [] → find_downstream e.before d ≡ None → find_downstream e.left d ≡ Some k
      → is_gateway (request_in e.left k) ≡ not (of_kind 2 e.input) → is_answered (request_in e.left k) ≡ false
      → ((d' : Text) (k' : ℕ) → find_downstream e.left d' ≡ Some k' → find_downstream e.before d' ≡ None → same_text d d' ≡ true) → Goes e

-- those that the gateway puts out for the order
unfoldable pub new_of : {e : Entry} → Goes e → ℕ → List Text
new_of (silent m n) j = []
new_of (repeated d k m w c n) j = []
new_of {e} (fresh d k m w v g a n) j = if not (of_kind 2 e.input) && eqb (request_in e.left k).order j then d ∷ [] otherwise []

-- the tries after the call, of an order whose gateway cancel then stands
pub data Tried (j : ℕ) (e : Entry) (l : List Text) : Type 0 where
  begun : begins_at j e ≡ true → ((d : Text) (w : Own j e.before d) → is_answered (request_in e.before w.at) ≡ true)
      → (order_in e.left j).gateway.tries ≡ length l → Tried j e l
  goes_on_lem : begins_at j e ≡ false → has_gateway (order_in e.before j) ≡ true → ((d : Text) → Own j e.before d → fails e d ≡ false)
      → (order_in e.left j).gateway.tries ≡ (order_in e.before j).gateway.tries + length l → Tried j e l
  fell : begins_at j e ≡ false → has_gateway (order_in e.before j) ≡ true → 0 < (order_in e.before j).gateway.tries → l ≡ [] → (d : Text) (w : Own j e.before d) → is_answered (request_in e.before w.at) ≡ false
      → fails e d ≡ true → ((d' : Text) → same_text d d' ≡ false → fails e d' ≡ false)
      → (order_in e.left j).gateway.tries ≡ (order_in e.before j).gateway.tries - 1 → Tried j e l

pub record Turn (e : Entry) : Type 0 where
  pub grows : (d : Text) (k : ℕ) → find_downstream e.before d ≡ Some k → (find_downstream e.left d ≡ Some k) × Same (request_in e.before k) (request_in e.left k)
  pub goes : Goes e
  pub tried : (j : ℕ) → has_gateway (order_in e.left j) ≡ true → Tried j e (new_of goes j)

-- ---- the requests that the call puts out for an order, in front of a list

pub gateway_same : (q q' : Request) → Same q q' → is_gateway q' ≡ is_gateway q
unfolding is_gateway
gateway_same q q' s = ap (λ (k : ℕ). eqb k gateway_kind) s.kind

pub cancel_same : (q q' : Request) → Same q q' → is_cancel q' ≡ is_cancel q
unfolding is_cancel is_first is_replace
cancel_same q q' s = rw s.kind

pub once_one : (d : Text) → once (d ∷ []) ≡ d ∷ []
unfolding once if◌then◌otherwise◌
once_one d = refl

pub once_none : once [] ≡ []
unfolding once
once_none = refl

pub still_held : (l m : List Text) (d : Text) → holds d m ≡ true → holds d (l ++ m) ≡ true
still_held [] m d h = h
still_held (x ∷ l) m d h = or_right (same_text d x) _ (still_held l m d h)

pub new_held : (l m : List Text) (d : Text) → holds d l ≡ true → holds d (l ++ m) ≡ true
new_held [] m d h = clash false h refl
new_held (x ∷ l) m d h = go (or_cases (same_text d x) (holds d l) h) (new_held l m d)
  where
    go : (same_text d x ≡ true) ⊎ (holds d l ≡ true) → (holds d l ≡ true → holds d (l ++ m) ≡ true) → holds d (x ∷ (l ++ m)) ≡ true
    go (inl p) r = or_left _ (holds d (l ++ m)) p
    go (inr p) r = or_right (same_text d x) _ (r p)

module _ (e : Entry) (j : ℕ) where
  -- what holds of a list with the new ones in front, whatever list it is
  pub own_new : (g : Goes e) (l : List Text) → ((d : Text) → holds d l ≡ true → Own j e.left d) → (d : Text) → holds d (new_of g j ++ l) ≡ true → Own j e.left d
  unfolding new_of
  own_new (silent m n) l f d h = f d h
  own_new (repeated d₀ k m w c n) l f d h = f d h
  own_new (fresh d₀ k m w v g u n) l f d h = go (not (of_kind 2 e.input) && eqb (request_in e.left k).order j) refl h
    where
      mine : not (of_kind 2 e.input) && eqb (request_in e.left k).order j ≡ true → (same_text d d₀ ≡ true) ⊎ (holds d l ≡ true) → Own j e.left d
      mine z (inl p) =
          let (x, y) = and_parts (not (of_kind 2 e.input)) (eqb (request_in e.left k).order j) z in
          record { at = k; found = find_cong e.left d d₀ p ∙ v; by_gateway = g ∙ x; of_order = eqb-true _ _ y }
      mine z (inr p) = f d p

      go : (x : Bool) → not (of_kind 2 e.input) && eqb (request_in e.left k).order j ≡ x → holds d ((if x then d₀ ∷ [] otherwise []) ++ l) ≡ true → Own j e.left d
      go true z p = mine z (or_cases (same_text d d₀) (holds d l) (unfold if◌then◌otherwise◌ in p))
      go false z p = f d (unfold if◌then◌otherwise◌ in p)

  pub distinct_new : (g : Goes e) (l : List Text) → Distinct l → ((d : Text) → find_downstream e.before d ≡ None → holds d l ≡ false) → Distinct (new_of g j ++ l)
  unfolding new_of Distinct
  distinct_new (silent m n) l u f = u
  distinct_new (repeated d₀ k m w c n) l u f = u
  distinct_new (fresh d₀ k m w v g a n) l u f = split_if (λ (x : List Text). Distinct (x ++ l)) _ (λ z. (f d₀ w, u)) (λ z. u)

  -- a new gateway request is put out
  pub new_put : (g : Goes e) (d : Text) (w : Own j e.left d) → find_downstream e.before d ≡ None → holds d (new_of g j) ≡ true
  unfolding new_of
  new_put (silent m n) d w h = clash _ (gateway_cancels _ w.by_gateway) (n d w.at w.found h)
  new_put (repeated d₀ k m v c n) d w h = clash _ (gateway_cancels _ w.by_gateway) (n d w.at w.found h)
  new_put (fresh d₀ k m v x g a n) d w h =
      let p : same_text d d₀ ≡ true = same_back d₀ d (n d w.at w.found h) in
      let z : k ≡ w.at = same_some x (sym (find_cong e.left d d₀ p) ∙ w.found) in
      ap (holds d) (if_true _ (d₀ ∷ []) [] (and_from (not (of_kind 2 e.input)) (eqb (request_in e.left k).order j)
      (sym g ∙ ap (λ (i : ℕ). is_gateway (request_in e.left i)) z ∙ w.by_gateway)
      (eq-eqb _ _ (ap (λ (i : ℕ). (request_in e.left i).order) z ∙ w.of_order))))
      ∙ holds_self d d₀ [] p
