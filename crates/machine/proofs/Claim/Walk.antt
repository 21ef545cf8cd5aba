-- What an event does, by cases: it is turned away, finds no order, changes one order, or books a new one. Rests on Ruled and Stepped.
-- `P i c` stands for what is to be shown of a change `c` of the order at index i; each handler shows it, and `walk` finds the handler.
use Rattle.std.proofs.Common.{ℕ, ◌+◌, ◌≤◌, ◌<◌, arith, ◌≡◌, refl, ap, ◌∙◌, ◌⊎◌, inl, inr, Bool, true, false, not, ◌&&◌, Option, None, Some, [], eqb, length, eq-eqb, ne_eqb}
use Rattle.std.proofs.lemmas.Bool.{not-true, not-false, and_parts}
use Rattle.prelude.specs.Laws.Below.{first_some}
use Rattle.prelude.specs.Cases.{if◌then◌otherwise◌, maybe}
use Rattle.prelude.specs.Laws.Cases.{split_if, clash}
use Rattle.prelude.specs.Texts.{same_text}
use Rattle.prelude.specs.Totals.{total_of}
use Rattle.prelude.specs.declared.Text.{Text}
use Rattle.store.specs.declared.Order.{Order}
use Rattle.store.specs.Book.{Book, order_in, request_in}
use Rattle.machine.specs.Messages.{cancel_reject}
use Rattle.machine.specs.Changes.{Event, has, unchanged, refusing, adding, alarming}
use Rattle.machine.specs.Amend.{amend_refusal, already_taken}
use Rattle.store.specs.Finds.{find_name, find_downstream, find_clordid}
use Rattle.machine.specs.Machine.{order_link, findings_of, booked_order, first_request, unused, nothing, unknown_report, change_of, has_room, step_of}
use Rattle.machine.specs.Claim.{cancels_in}
use Rattle.machine.specs.declared.Findings.{Findings}
use Rattle.machine.specs.declared.Reject.{Reject}
use Rattle.machine.specs.declared.Change.{Change}
use Rattle.machine.proofs.Made.{repeated, turned, unpriced, cancel_sent, replace_sent}
use Rattle.machine.proofs.Stepped.{MadeBy, AskedBy, AmendedBy, ByRequest, ByName, change_made}
use Rattle.machine.proofs.Claim.Laws.{tells, Whose, last_qty_by}
use Rattle.machine.proofs.Claim.Ruled.{Ruled, request_ruled}

-- a change of nothing, whose answer has neither report nor cancel request
pub record Bystands (c : Change) : Type 0 where
  pub taken : c.refusal ≡ 0
  pub nowhere : c.place ≡ 0
  pub answers : c.requests.answered ≡ 0
  pub supersedes : c.requests.superseded ≡ 0
  pub adds : c.requests.added ≡ 0
  pub no_report : (t : Whose → Bool) → total_of (last_qty_by t) (tells c) ≡ 0
  pub no_cancel : cancels_in (tells c) ≡ []

-- the change that books an order
abbrev pub booking : Book → Event → Change
booking b e = adding (first_request (length b.orders) e) (unchanged (length b.orders + 1) (booked_order (length b.requests + 1) e))

pub data Did (P : ℕ → Change → Type 0) (b : Book) (e : Event) : Change → Type 0 where
  turned_away : {c : Change} → eqb c.refusal 0 ≡ false → Did P b e c
  no_order_lem : {c : Change} → Bystands c → (eqb e.kind 9 ≡ false) ⊎ (find_name b e.ids.name ≡ None) → Did P b e c
  on_order : {c : Change} (i : ℕ) → i < length b.orders → c.refusal ≡ 0 → P i c → Did P b e c
  new_order : eqb e.kind 1 ≡ true → find_name b e.ids.name ≡ None → Did P b e (booking b e)

-- and there is room for it
unfoldable pub Roomy : (ℕ → Change → Type 0) → Book → ℕ → Change → Type 0
Roomy P b i c = P i c × (has_room b c ≡ true)

-- ---- lookups

pub found_request : (b : Book) (d : Text) (k : ℕ) → find_downstream b d ≡ Some k → k < length b.requests
unfolding find_downstream
found_request b d k h = (first_some _ _ k h).below

pub found_text : (b : Book) (d : Text) (k : ℕ) → find_downstream b d ≡ Some k → same_text (request_in b k).downstream d ≡ true
unfolding find_downstream
found_text b d k h = (first_some _ _ k h).passes

pub found_order : (b : Book) (t : Text) (i : ℕ) → find_name b t ≡ Some i → i < length b.orders
unfolding find_name
found_order b t i h = (first_some _ _ i h).below

pub found_name : (b : Book) (t : Text) (i : ℕ) → find_name b t ≡ Some i → same_text (order_in b i).names.name t ≡ true
unfolding find_name
found_name b t i h = (first_some _ _ i h).passes

found_clordid : (b : Book) (client : ℕ) (t : Text) (k : ℕ) → find_clordid b client t ≡ Some k → k < length b.requests
unfolding find_clordid
found_clordid b client t k h = (first_some _ _ k h).below

-- ---- a cancel or replace of no order

pub none_taken : (f : Findings) (order : ℕ) (e : Event) → f.place ≡ 0 → already_taken f order e ≡ false
unfolding already_taken
none_taken f order e p = ap (λ (n : ℕ). has e 21 && not (eqb order 0) && eqb order n) p ∙ go (has e 21) (eqb order 0)
  where
    go : (x y : Bool) → x && not y && y ≡ false
    go x y = grind arith

pub none_refused : (f : Findings) (order : ℕ) (full : Bool) (o : Order) (e : Event) (own : Reject) → f.place ≡ 0
    → eqb (amend_refusal f order full o e own).fixedtext 0 ≡ false
unfolding amend_refusal if◌then◌otherwise◌
none_refused f order full o e own p =
    split_if (λ (r : Reject). eqb r.fixedtext 0 ≡ false) (not (eqb order 0)) (λ h. refl)
    (λ h. split_if (λ (r : Reject). eqb r.fixedtext 0 ≡ false) (eqb f.place 0) (λ k. refl) (λ k. clash _ (eq-eqb f.place 0 p) k))

none_bystands : {f : Findings} {order : ℕ} {full : Bool} {o : Order} {e : Event} {c c' : Change} → f.place ≡ 0 → AmendedBy f order full o e c c' → Bystands c
none_bystands {f} {order} {full} {o} {e} p (repeated t) = clash _ t (none_taken f order e p)
none_bystands p (turned w t) = unfold if◌then◌otherwise◌ cancel_reject cancels_in in
    record { taken = refl; nowhere = p; answers = refl; supersedes = refl; adds = refl; no_report = λ t. refl; no_cancel = refl }
none_bystands {f} {order} {full} {o} {e} p (unpriced t) = clash _ (not-false _ t) (none_refused f order full o e _ p)
none_bystands {f} {order} {full} {o} {e} p (cancel_sent z t) = clash _ (not-false _ t) (none_refused f order full o e _ p)
none_bystands {f} {order} {full} {o} {e} p (replace_sent t u) = clash _ (not-false _ t) (none_refused f order full o e _ p)

nothing_bystands : Bystands nothing
unfolding unchanged if◌then◌otherwise◌ cancels_in
nothing_bystands = record { taken = refl; nowhere = refl; answers = refl; supersedes = refl; adds = refl; no_report = λ t. refl; no_cancel = refl }

unknown_bystands : Bystands unknown_report
unfolding unchanged alarming if◌then◌otherwise◌ cancels_in
unknown_bystands = record { taken = refl; nowhere = refl; answers = refl; supersedes = refl; adds = refl; no_report = λ t. refl; no_cancel = refl }

pub refusing_bystands : Bystands (refusing 0)
unfolding refusing if◌then◌otherwise◌ cancels_in
refusing_bystands = record { taken = refl; nowhere = refl; answers = refl; supersedes = refl; adds = refl; no_report = λ t. refl; no_cancel = refl }

pub refusing_away : (n : ℕ) → eqb n 0 ≡ false → eqb (refusing n).refusal 0 ≡ false
unfolding refusing
refusing_away n e = e

-- ---- the handlers

-- what is to be shown of a change, or it is turned away
unfoldable pub Either : Type 0 → Change → Type 0
Either X c = (eqb c.refusal 0 ≡ false) ⊎ ((c.refusal ≡ 0) × X)

abbrev pub requests_order : Book → ℕ → Order
requests_order b k = order_in b (request_in b k).order

pub record Handles (P : ℕ → Change → Type 0) (b : Book) (e : Event) : Type 0 where
  pub amends : e.kind ≤ 3 → eqb e.kind 7 ≡ false → eqb e.kind 9 ≡ false → (i : ℕ) → i < length b.orders → (order : ℕ) (full : Bool) {c c' : Change}
      → AmendedBy (findings_of b (i + 1)) order full (order_in b i) e c c' → Either (P i c) c
  pub answers : eqb e.kind 2 ≡ false → eqb e.kind 9 ≡ false → (k : ℕ) → find_downstream b e.ids.downstream ≡ Some k → {c c' : Change}
      → MadeBy (findings_of b (order_link b k)) (k + 1) (request_in b k) (requests_order b k) e c c' → Either (P (request_in b k).order c) c
  pub asks : (0 < e.kind → 8 < e.kind) → (i : ℕ) → find_name b e.ids.name ≡ Some i → {c c' : Change} → AskedBy (findings_of b (i + 1)) (order_in b i) c c' → Either (P i c) c

findings_none : (b : Book) → (findings_of b 0).place ≡ 0
unfolding findings_of
findings_none b = refl

name_unused : (b : Book) (e : Event) → unused b e ≡ true → find_name b e.ids.name ≡ None
unfolding unused maybe
name_unused b e h = go (find_name b e.ids.name) (and_parts _ _ h).0
  where
    go : (x : Option ℕ) → maybe true (λ k. false) x ≡ true → x ≡ None
    go None z = refl
    go (Some i) z = clash false z refl

module _ (P : ℕ → Change → Type 0) (b : Book) (e : Event) (r : Ruled b) (h : Handles P b e) where
  handled : (i : ℕ) (c : Change) → i < length b.orders → Either (P i c) c → Did P b e c
  unfolding Either
  handled i c h (inl z) = turned_away z
  handled i c h (inr z) = on_order i h z.0 z.1

  walk : Did P b e (change_of b e)
  walk = change_made (Did P b e) b e (record {
    refuses = λ n z. turned_away {c = refusing n} (refusing_away n z);
    no_order_lem = λ z. no_order_lem nothing_bystands (by z);
    unknown = λ z. no_order_lem unknown_bystands (inl (not_named z));
    books = λ t u v. new_order t (name_unused b e u);
    amends_none = λ z order full c c' m. no_order_lem (none_bystands (findings_none b) m) (inl (not_ninth (low z)));
    amends = λ z k w full c c' m.
        let i : ℕ = (request_in b k).order in
        let l : i < length b.orders = (request_ruled b r k (found_clordid b e.client e.ids.origclordid k w)).placed in
        let l₃ : e.kind ≤ 3 = low z in
        handled i c l (h.amends l₃ (ne_eqb e.kind 7 (λ y. omega arith)) (not_ninth l₃) i l _ full m);
    answers = λ z k w c c' m.
        handled (request_in b k).order c (request_ruled b r k (found_request b e.ids.downstream k w)).placed
        (h.answers (let l : 4 ≤ e.kind = z.0 in ne_eqb e.kind 2 (λ y. omega arith)) (not_named z) k w m);
    asks = λ z i w c c' m. handled i c (found_order b e.ids.name i w) (h.asks z i w m);
  })
    where
      not_named : ByRequest e → eqb e.kind 9 ≡ false
      not_named z = let l : e.kind ≤ 8 = z.1 in ne_eqb e.kind 9 (λ y. omega arith)

      by : ByRequest e ⊎ (ByName e × (find_name b e.ids.name ≡ None)) → (eqb e.kind 9 ≡ false) ⊎ (find_name b e.ids.name ≡ None)
      by (inl z) = inl (not_named z)
      by (inr z) = inr z.1

      not_ninth : e.kind ≤ 3 → eqb e.kind 9 ≡ false
      not_ninth l = ne_eqb e.kind 9 (λ y. omega arith)

      low : (e.kind ≡ 2) ⊎ (e.kind ≡ 3) → e.kind ≤ 3
      low (inl z) = omega arith
      low (inr z) = omega arith

  roomy : (c : Change) → has_room b c ≡ true → Did P b e c → Did (Roomy P b) b e c
  unfolding Roomy
  roomy c h (turned_away z) = turned_away z
  roomy c h (no_order_lem s n) = no_order_lem s n
  roomy c h (on_order i l t p) = on_order i l t (p, h)
  roomy c h (new_order k u) = new_order k u

  pub step_walk : Did (Roomy P b) b e (step_of b e)
  unfolding step_of
  step_walk =
      split_if (Did (Roomy P b) b e) (not (eqb (change_of b e).refusal 0)) (λ z. turned_away (not-true _ z))
      (λ z. split_if (Did (Roomy P b) b e) (has_room b (change_of b e)) (λ w. roomy _ w walk) (λ w. turned_away {c = refusing 7} (refusing_away 7 refl)))
