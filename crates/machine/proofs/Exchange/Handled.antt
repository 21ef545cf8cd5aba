-- The order that an event of kinds 2 to 9 concerns: how the event finds it, what it does to it, and that another order's change is no matter to it.
-- Rests on Links, Frame, and Touches and Moves of Claim.
use Rattle.std.proofs.Common.{ℕ, ◌+◌, ◌-◌, ◌≤◌, ◌<◌, arith, ◌≡◌, refl, sym, ap, subst, ◌∙◌, ◌⊎◌, inl, inr, Bool, false, ◌&&◌, Option, None, Some, eqb, leb, ltb, length, eqb-true, eq-eqb, ne_eqb}
use Rattle.std.proofs.Math.Decide.{ℕ_discrete}
use Rattle.std.proofs.Math.Logic.{by_cases}
use Rattle.std.proofs.lemmas.Bool.{and_parts}
use Rattle.prelude.specs.Laws.Below.{first_some}
use Rattle.prelude.specs.Cases.{if◌then◌otherwise◌, maybe}
use Rattle.prelude.specs.Laws.Cases.{if_true, if_false, maybe_some, clash}
use Rattle.prelude.specs.Texts.{same_text}
use Rattle.prelude.specs.declared.Text.{Text}
use Rattle.store.specs.declared.Order.{Order}
use Rattle.store.specs.declared.Request.{Request}
use Rattle.store.specs.Book.{Book, order_in, request_in}
use Rattle.store.specs.Finds.{find_name, find_downstream, find_clordid, count_clordids, has_clordid, of_client}
use Rattle.machine.specs.Orders.{one_more}
use Rattle.machine.specs.Constants.{failed_to_send}
use Rattle.machine.specs.Changes.{Event}
use Rattle.machine.specs.GatewayCancel.{cancel_order}
use Rattle.machine.specs.Amend.{cancel, replace, venue_cancel_reject, send_failed, unsent}
use Rattle.machine.specs.Report.{unknown_at_venue}
use Rattle.machine.specs.Machine.{order_link, order_of, latest_cancel, order_at_link, findings_of, Amending, amending, on_request, nothing, unknown_report, text_note, on_report, on_name, change_of}
use Rattle.machine.specs.Exchange.{concerns}
use Rattle.machine.specs.declared.Findings.{Findings}
use Rattle.machine.specs.declared.Change.{Change}
use Rattle.machine.proofs.Made.{findings, Made, Amended}
use Rattle.machine.proofs.Walked.{on_report_made, unknown_made, reject_made, failed_made, unsent_made, asked_made, cancel_made, replace_made}
use Rattle.machine.proofs.Stepped.{AmendedBy}
use Rattle.machine.proofs.Kept.Tables.{at_link}
use Rattle.machine.proofs.Kept.Indexed.{BookKept}
use Rattle.machine.proofs.Claim.Laws.{Whose}
use Rattle.machine.proofs.Claim.Ruled.{Ruled, order_ruled, request_ruled}
use Rattle.machine.proofs.Claim.Walk.{found_request, found_order}
use Rattle.machine.proofs.Claim.Moves.{Moves, made_moves, asked_moves, amended_moves}
use Rattle.machine.proofs.Claim.Touches.{Touches, made_touches, asked_touches, amended_touches}
use Rattle.machine.proofs.Exchange.Links.{Within, Linked, made_pair, asked_pair, amended_pair}
use Rattle.machine.proofs.Exchange.Frame.{Owned, Apart, name_same, downstream_stays, clordid_same, count_same, latest_same, links_within}

-- ---- how a handler makes its change

-- of a client's cancel or replace
abbrev Client : Amending → Event → Type 0
Client handle e = (order : ℕ) (full : Bool) (o : Order) (p : ℕ) (x : Request) (m n : ℕ) → Amended order full o e p x m n (handle (findings p x m) order full o e) (handle (findings p x n) order full o e)

-- of an event that names a request
abbrev Venue : (Findings → ℕ → Request → Order → Change) → Event → Type 0
Venue handle e = (k : ℕ) (q : Request) (o : Order) (p : ℕ) (x : Request) (m n : ℕ) → Made k q o e p x m n (handle (findings p x m) k q o) (handle (findings p x n) k q o)

taken_moves : {f : Findings} {order : ℕ} {full : Bool} {o : Order} {e : Event} {c c' : Change} → AmendedBy f order full o e c c' → c.refusal ≡ 0 → Moves 2 f.place o c
taken_moves {f} {o = o} {c = c} m z = by (amended_moves m)
  where
    by : (eqb c.refusal 0 ≡ false) ⊎ Moves 2 f.place o c → Moves 2 f.place o c
    by (inl y) = clash _ (eq-eqb c.refusal 0 z) y
    by (inr y) = y

-- ---- the order at index i is the one that the event concerns

pub data Handled (b : Book) (e : Event) (i : ℕ) : Type 0 where
  by_clordid : (handle : Amending) → Client handle e → ((x : Book) → change_of x e ≡ amending handle x e)
      → (k : ℕ) → find_clordid b e.client e.ids.origclordid ≡ Some k → (request_in b k).order ≡ i → Handled b e i
  by_request : (unknown : Change) (handle : Findings → ℕ → Request → Order → Change) → Venue handle e → ((x : Book) → change_of x e ≡ on_request unknown handle x e)
      → (k : ℕ) → find_downstream b e.ids.downstream ≡ Some k → (request_in b k).order ≡ i → Handled b e i
  by_name : ((x : Book) → change_of x e ≡ on_name x e) → find_name b e.ids.name ≡ Some i → Handled b e i

module _ (e : Event) where
  change_2 : e.kind ≡ 2 → (x : Book) → change_of x e ≡ amending cancel x e
  unfolding change_of if◌then◌otherwise◌
  change_2 z x = rw z

  change_3 : e.kind ≡ 3 → (x : Book) → change_of x e ≡ amending replace x e
  unfolding change_of if◌then◌otherwise◌
  change_3 z x = rw z

  change_4 : e.kind ≡ 4 → (x : Book) → change_of x e ≡ on_request unknown_report (on_report e) x e
  unfolding change_of if◌then◌otherwise◌
  change_4 z x = rw z

  change_5 : e.kind ≡ 5 → (x : Book) → change_of x e ≡ on_request unknown_report (λ f k q o. unknown_at_venue f k o e) x e
  unfolding change_of if◌then◌otherwise◌
  change_5 z x = rw z

  change_6 : e.kind ≡ 6 → (x : Book) → change_of x e ≡ on_request unknown_report (λ f k q o. venue_cancel_reject f k q o e) x e
  unfolding change_of if◌then◌otherwise◌
  change_6 z x = rw z

  change_7 : e.kind ≡ 7 → (x : Book) → change_of x e ≡ on_request nothing (λ f k q o. send_failed f k q e.venue failed_to_send (text_note e) o) x e
  unfolding change_of if◌then◌otherwise◌
  change_7 z x = rw z

  change_8 : e.kind ≡ 8 → (x : Book) → change_of x e ≡ on_request nothing (λ f k q o. unsent f k q e.venue o) x e
  unfolding change_of if◌then◌otherwise◌
  change_8 z x = rw z

  change_9 : e.kind ≡ 9 → (x : Book) → change_of x e ≡ on_name x e
  unfolding change_of if◌then◌otherwise◌
  change_9 z x = rw z

-- what a link that is not 0 was found by
found : (o : Option ℕ) (f : ℕ → ℕ) (i : ℕ) → maybe 0 (λ k. f k + 1) o ≡ i + 1 → (k : ℕ) × (o ≡ Some k) × (f k ≡ i)
unfolding maybe
found None f i e = absurd (omega arith)
found (Some k) f i e = (k, refl, omega arith)

module _ (b : Book) (e : Event) (i : ℕ) where
  concerns_clordid : (e.kind ≡ 2) ⊎ (e.kind ≡ 3) → concerns b e ≡ i + 1 → maybe 0 (order_link b) (find_clordid b e.client e.ids.origclordid) ≡ i + 1
  unfolding concerns order_of
  concerns_clordid (inl z) c = sym (if_true _ _ _ (eq-eqb e.kind 2 z)) ∙ c
  concerns_clordid (inr z) c = sym (if_false _ _ _ (ne_eqb e.kind 2 (λ y. omega arith)) ∙ if_true _ _ _ (eq-eqb e.kind 3 z)) ∙ c

  concerns_name : e.kind ≡ 9 → concerns b e ≡ i + 1 → maybe 0 (λ k. k + 1) (find_name b e.ids.name) ≡ i + 1
  unfolding concerns
  concerns_name z c =
      sym (if_false _ _ _ (ne_eqb e.kind 2 (λ y. omega arith)) ∙ if_false _ _ _ (ne_eqb e.kind 3 (λ y. omega arith)) ∙ if_true _ _ _ (eq-eqb e.kind 9 z)) ∙ c

  concerns_request : 4 ≤ e.kind → e.kind ≤ 8 → concerns b e ≡ i + 1 → maybe 0 (order_link b) (find_downstream b e.ids.downstream) ≡ i + 1
  unfolding concerns
  concerns_request l h c =
      sym (if_false _ _ _ (ne_eqb e.kind 2 (λ z. omega arith)) ∙ if_false _ _ _ (ne_eqb e.kind 3 (λ z. omega arith)) ∙ if_false _ _ _ (ne_eqb e.kind 9 (λ z. omega arith))) ∙ c

  module _ (low : 2 ≤ e.kind) (high : e.kind ≤ 9) (c : concerns b e ≡ i + 1) where
    clordid : (handle : Amending) → Client handle e → ((x : Book) → change_of x e ≡ amending handle x e) → (e.kind ≡ 2) ⊎ (e.kind ≡ 3) → Handled b e i
    clordid handle h s z =
        let (k, w, o) = found (find_clordid b e.client e.ids.origclordid) (λ k. (request_in b k).order) i (concerns_clordid z c) in by_clordid handle h s k w o

    request : (unknown : Change) (handle : Findings → ℕ → Request → Order → Change) → Venue handle e → ((x : Book) → change_of x e ≡ on_request unknown handle x e)
        → 4 ≤ e.kind → e.kind ≤ 8 → Handled b e i
    request unknown handle h s l u =
        let (k, w, o) = found (find_downstream b e.ids.downstream) (λ k. (request_in b k).order) i (concerns_request l u c) in by_request unknown handle h s k w o

    name : e.kind ≡ 9 → Handled b e i
    name z =
        let (k, w, o) = found (find_name b e.ids.name) (λ k. k) i (concerns_name z c) in
        by_name (change_9 e z) (w ∙ ap Some o)

    pub handled : Handled b e i
    handled =
        by_cases (ℕ_discrete e.kind 2) (λ z. clordid _ (λ order full o p x m n. cancel_made order full o e p x m n (eq-eqb e.kind 2 z)) (change_2 e z) (inl z))
        (λ n₂. by_cases (ℕ_discrete e.kind 3) (λ z. clordid _ (λ order full o. replace_made order full o e) (change_3 e z) (inr z))
        (λ n₃. by_cases (ℕ_discrete e.kind 4) (λ z. request _ _ (λ k q o p x m n. on_report_made k q o e p x m n (eq-eqb e.kind 4 z)) (change_4 e z) (omega arith) (omega arith))
        (λ n₄. by_cases (ℕ_discrete e.kind 5) (λ z. request _ _ (λ k q o. unknown_made k q o e) (change_5 e z) (omega arith) (omega arith))
        (λ n₅. by_cases (ℕ_discrete e.kind 6) (λ z. request _ _ (λ k q o p x m n. reject_made k q o e p x m n (eq-eqb e.kind 6 z)) (change_6 e z) (omega arith) (omega arith))
        (λ n₆. by_cases (ℕ_discrete e.kind 7) (λ z. request _ _ (λ k q o p x m n. failed_made k q o e p x m n (eq-eqb e.kind 7 z)) (change_7 e z) (omega arith) (omega arith))
        (λ n₇. by_cases (ℕ_discrete e.kind 8) (λ z. request _ _ (λ k q o p x m n. unsent_made k q o e p x m n (eq-eqb e.kind 8 z)) (change_8 e z) (omega arith) (omega arith))
        (λ n₈. name (let z : 8 < e.kind = past 7 n₈ (past 6 n₇ (past 5 n₆ (past 4 n₅ (past 3 n₄ (past 2 n₃ (past 1 n₂ low)))))) in omega arith))))))))
      where
        past : (n : ℕ) → (e.kind ≡ n + 1 → ⊥) → n < e.kind → n + 1 < e.kind
        past n z l = omega arith

-- ---- the change, by what was found

module _ (b : Book) (e : Event) where
  on_request_lem : (unknown : Change) (handle : Findings → ℕ → Request → Order → Change) (k : ℕ) → find_downstream b e.ids.downstream ≡ Some k
      → on_request unknown handle b e ≡ handle (findings_of b (order_link b k)) (k + 1) (request_in b k) (order_in b (request_in b k).order)
  unfolding on_request
  on_request_lem unknown handle k w = maybe_some _ k _ _ w

  on_name_lem : (i : ℕ) → find_name b e.ids.name ≡ Some i → on_name b e ≡ cancel_order (findings_of b (i + 1)) (order_in b i)
  unfolding on_name
  on_name_lem i w = maybe_some _ i _ _ w

  on_clordid : (handle : Amending) (i : ℕ) → order_of b e.client e.ids.origclordid ≡ i + 1
      → amending handle b e ≡ handle (findings_of b (i + 1)) (order_of b e.client e.ids.clordid) (leb b.setting (count_clordids b e.client)) (order_in b i) e
  unfolding amending
  on_clordid handle i w =
      ap (λ (p : ℕ). handle (findings_of b p) (order_of b e.client e.ids.clordid) (leb b.setting (count_clordids b e.client)) (order_at_link b p) e) w
      ∙ ap (λ (o : Order). handle (findings_of b (i + 1)) (order_of b e.client e.ids.clordid) (leb b.setting (count_clordids b e.client)) o e) (at_link b i)

  order_of_lem : (client : ℕ) (t : Text) (k : ℕ) → find_clordid b client t ≡ Some k → order_of b client t ≡ (request_in b k).order + 1
  unfolding order_of
  order_of_lem client t k w = maybe_some _ k _ _ w

-- what was found for a ClOrdID
record ClordidFound (b : Book) (client k : ℕ) : Type 0 where
  below : k < length b.requests
  client_of : (order_in b (request_in b k).order).client ≡ client

clordid_found : (b : Book) (client : ℕ) (t : Text) (k : ℕ) → find_clordid b client t ≡ Some k → ClordidFound b client k
unfolding find_clordid of_client
clordid_found b client t k h =
    let f = first_some _ _ k h in
    let q = request_in b k in
    let x : Bool = ltb q.order (length b.orders) in
    let y : Bool = eqb (order_in b q.order).client client in
    record { below = f.below; client_of = eqb-true _ client (and_parts x y (and_parts (same_text q.clordid t) (x && y) (and_parts (has_clordid q) _ f.passes).1).1).1 }

-- ---- it changes its own order

module _ (b : Book) (r : Ruled b) (good : BookKept b) where
  owned_from : (c : Change) (i k : ℕ) → i < length b.orders → k ≤ length b.requests → Moves 2 (findings_of b (i + 1)).place (order_in b i) c → Touches (findings_of b (i + 1)) k (order_in b i) c
      → ((j : ℕ) → k ≡ j + 1 → (request_in b j).order ≡ i) → Owned b i c
  unfolding findings_of
  owned_from c i k h u m t own = record {
    inside = h;
    there = m.there;
    client = ap (λ (w : Whose). w.client) m.same;
    name = ap (λ (w : Whose). w.name) m.same;
    answers = λ j z. answered j z t.answers;
    supersedes = λ j z. superseded j z t.supersedes;
    answers_in = answered_in t.answers;
    supersedes_in = superseded_in t.supersedes;
    adds = added t.adds;
  }
    where
      answered : (j : ℕ) → c.requests.answered ≡ j + 1 → (c.requests.answered ≡ 0) ⊎ (c.requests.answered ≡ k) → (request_in b j).order ≡ i
      answered j z (inl x) = absurd (omega arith)
      answered j z (inr x) = own j (sym x ∙ z)

      superseded : (j : ℕ) → c.requests.superseded ≡ j + 1 → (c.requests.superseded ≡ 0) ⊎ (c.requests.superseded ≡ (order_in b i).links.current) → (request_in b j).order ≡ i
      superseded j z (inl x) = absurd (omega arith)
      superseded j z (inr x) =
          let y : (order_in b i).links.current - 1 ≡ j = omega arith in
          sym (ap (λ (l : ℕ). (request_in b l).order) y) ∙ (order_ruled b r i h).current

      answered_in : (c.requests.answered ≡ 0) ⊎ (c.requests.answered ≡ k) → c.requests.answered ≤ length b.requests
      answered_in (inl x) = omega arith
      answered_in (inr x) = omega arith

      superseded_in : (c.requests.superseded ≡ 0) ⊎ (c.requests.superseded ≡ (order_in b i).links.current) → c.requests.superseded ≤ length b.requests
      superseded_in (inl x) = omega arith
      superseded_in (inr x) = omega (arith, (links_within b good i h).current)

      added : (c.requests.added ≡ 0) ⊎ (c.requests.request.order ≡ i + 1 - 1) → (c.requests.added ≡ 0) ⊎ (c.requests.request.order ≡ i)
      added (inl x) = inl x
      added (inr x) = inr (omega arith)

  -- the order is booked
  placed : (e : Event) (i : ℕ) → Handled b e i → i < length b.orders
  placed e i (by_clordid handle h s k w o) = subst (λ (j : ℕ). j < length b.orders) o (request_ruled b r k (clordid_found b e.client e.ids.origclordid k w).below).placed
  placed e i (by_request unknown handle h s k w o) = subst (λ (j : ℕ). j < length b.orders) o (request_ruled b r k (found_request b e.ids.downstream k w)).placed
  placed e i (by_name s w) = found_order b e.ids.name i w

  pub owned_of : (e : Event) (i : ℕ) → Handled b e i → (change_of b e).refusal ≡ 0 → Owned b i (change_of b e)
  owned_of e i v z = go v z
    where
      go : Handled b e i → (change_of b e).refusal ≡ 0 → Owned b i (change_of b e)
      go (by_clordid handle h s k w o) z =
          let q = s b ∙ on_clordid b e handle i (order_of_lem b e e.client e.ids.origclordid k w ∙ ap (λ (n : ℕ). n + 1) o) in
          subst (Owned b i) (sym q)
          (owned_from _ i 0 (placed e i v) (omega arith) (taken_moves (h _ _ _ _ _ _ _) (ap (λ (c : Change). c.refusal) (sym q) ∙ z)) (amended_touches (h _ _ _ _ _ _ _)) (λ j y. absurd (omega arith)))
      go (by_request unknown handle h s k w o) z =
          let q = s b ∙ on_request_lem b e unknown handle k w ∙ ap (λ (j : ℕ). handle (findings_of b (j + 1)) (k + 1) (request_in b k) (order_in b j)) o in
          subst (Owned b i) (sym q)
          (owned_from _ i (k + 1) (placed e i v) (let l = found_request b e.ids.downstream k w in omega arith) (made_moves (h _ _ _ _ _ _ _)) (made_touches (h _ _ _ _ _ _ _)) (λ j y. let x : k ≡ j = omega arith in sym (ap (λ (n : ℕ). (request_in b n).order) x) ∙ o))
      go (by_name s w) z =
          subst (Owned b i) (sym (s b ∙ on_name_lem b e i w))
          (owned_from _ i 0 (placed e i v) (omega arith) (asked_moves (asked_made _ _ _ _ _)) (asked_touches (asked_made _ _ _ _ _)) (λ j y. absurd (omega arith)))

-- the client of an order that a client's own event concerns
client_of : (b : Book) (e : Event) (i k : ℕ) → find_clordid b e.client e.ids.origclordid ≡ Some k → (request_in b k).order ≡ i → (order_in b i).client ≡ e.client
client_of b e i k w o = sym (ap (λ (j : ℕ). (order_in b j).client) o) ∙ (clordid_found b e.client e.ids.origclordid k w).client_of

-- ---- another order's change is no matter to it, but for the link of the request that it adds

module _ (b b' : Book) (i : ℕ) (a : Apart b b' i) (r : Ruled b) (good : BookKept b) (e : Event) (j : ℕ) (v : Handled b e j) (other : j ≡ i → ⊥) where
  latest : Request
  latest = latest_cancel b (order_in b j)

  findings_before : findings_of b (j + 1) ≡ findings (j + 1) latest (length b.requests)
  unfolding findings_of latest
  findings_before = ap (λ (o : Order). findings (j + 1) (latest_cancel b o) (length b.requests)) (at_link b j)

  findings_after : findings_of b' (j + 1) ≡ findings (j + 1) latest (length b'.requests)
  unfolding findings_of latest
  findings_after =
      ap (λ (o : Order). findings (j + 1) (latest_cancel b' o) (length b'.requests)) (at_link b' j ∙ a.others j other)
      ∙ ap (λ (x : Request). findings (j + 1) x (length b'.requests)) (latest_same b b' i a good j (placed b r good e j v) other)

  abbrev Seen : Change → Change → Type 0
  Seen = Linked (length b.requests) (one_more 65535 (length b.requests)) (one_more 65535 (length b'.requests))

  seen_by : (c c' x x' : Change) → c ≡ x → c' ≡ x' → Seen x x' → Seen c c'
  seen_by c c' x x' p q l = subst (λ (y : Change). Seen y c') (sym p) (subst (Seen x) (sym q) l)

  order_same : (client : ℕ) → ((order_in b i).client ≡ client → ⊥) → (t : Text) → order_of b' client t ≡ order_of b client t
  unfolding order_of
  order_same client n t = ap (maybe 0 (order_link b')) (clordid_same b b' i a client n t) ∙ go (find_clordid b client t) refl
    where
      go : (o : Option ℕ) → find_clordid b client t ≡ o → maybe 0 (order_link b') o ≡ maybe 0 (order_link b) o
      go None w = unfold maybe in refl
      go (Some k) w = unfold maybe in ap (λ (x : ℕ). x + 1) (a.orders k (clordid_found b client t k w).below)

  pub seen : ((order_in b j).client ≡ (order_in b i).client → ⊥) → Seen (change_of b e) (change_of b' e)
  seen apart = go v
    where
      inside : Within (length b.requests) (order_in b j)
      inside = links_within b good j (placed b r good e j v)

      go : Handled b e j → Seen (change_of b e) (change_of b' e)
      go (by_clordid handle h s k w o) =
          let n : ((order_in b i).client ≡ e.client → ⊥) = (λ z. apart (client_of b e j k w o ∙ sym z)) in
          let place : order_of b e.client e.ids.origclordid ≡ j + 1 = order_of_lem b e e.client e.ids.origclordid k w ∙ ap (λ (x : ℕ). x + 1) o in
          let order : ℕ = order_of b e.client e.ids.clordid in
          let full : Bool = leb b.setting (count_clordids b e.client) in
          seen_by _ _ _ _
          (s b ∙ on_clordid b e handle j place ∙ ap (λ (f : Findings). handle f order full (order_in b j) e) findings_before)
          (s b' ∙ on_clordid b' e handle j (order_same e.client n e.ids.origclordid ∙ place)
          ∙ ap (λ (f : Findings). handle f (order_of b' e.client e.ids.clordid) (leb b'.setting (count_clordids b' e.client)) (order_in b' j) e) findings_after
          ∙ ap (λ (x : ℕ). handle (findings (j + 1) latest (length b'.requests)) x (leb b'.setting (count_clordids b' e.client)) (order_in b' j) e) (order_same e.client n e.ids.clordid)
          ∙ ap (λ (x : ℕ). handle (findings (j + 1) latest (length b'.requests)) order (leb x (count_clordids b' e.client)) (order_in b' j) e) a.setting
          ∙ ap (λ (x : ℕ). handle (findings (j + 1) latest (length b'.requests)) order (leb b.setting x) (order_in b' j) e) (count_same b b' i a e.client n)
          ∙ ap (λ (x : Order). handle (findings (j + 1) latest (length b'.requests)) order full x e) (a.others j other))
          (amended_pair _ _ _ _ inside (h _ _ _ _ _ _ _))
      go (by_request unknown handle h s k w o) =
          let same : request_in b' k ≡ request_in b k = a.requests k (found_request b e.ids.downstream k w) (λ z. other (sym o ∙ z)) in
          seen_by _ _ _ _
          (s b ∙ on_request_lem b e unknown handle k w
          ∙ ap (λ (x : ℕ). handle (findings_of b (x + 1)) (k + 1) (request_in b k) (order_in b x)) o
          ∙ ap (λ (f : Findings). handle f (k + 1) (request_in b k) (order_in b j)) findings_before)
          (s b' ∙ on_request_lem b' e unknown handle k (downstream_stays b b' i a e.ids.downstream k w)
          ∙ ap (λ (q : Request). handle (findings_of b' (q.order + 1)) (k + 1) q (order_in b' q.order)) same
          ∙ ap (λ (x : ℕ). handle (findings_of b' (x + 1)) (k + 1) (request_in b k) (order_in b' x)) o
          ∙ ap (λ (f : Findings). handle f (k + 1) (request_in b k) (order_in b' j)) findings_after
          ∙ ap (λ (x : Order). handle (findings (j + 1) latest (length b'.requests)) (k + 1) (request_in b k) x) (a.others j other))
          (made_pair _ _ _ _ inside (h _ _ _ _ _ _ _))
      go (by_name s w) =
          seen_by _ _ _ _
          (s b ∙ on_name_lem b e j w ∙ ap (λ (f : Findings). cancel_order f (order_in b j)) findings_before)
          (s b' ∙ on_name_lem b' e j (name_same b b' i a e.ids.name ∙ w)
          ∙ ap (λ (f : Findings). cancel_order f (order_in b' j)) findings_after
          ∙ ap (λ (x : Order). cancel_order (findings (j + 1) latest (length b'.requests)) x) (a.others j other))
          (asked_pair _ _ _ _ inside (asked_made _ _ _ _ _))
