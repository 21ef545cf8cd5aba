-- Every change is a turn: the six shapes of a change, and the shape of each event. Rests on Turn, Shapes, Records and Fresh.
use Rattle.std.proofs.Common.{ℕ, ◌+◌, ◌-◌, ◌≤◌, ◌<◌, arith, ◌≡◌, refl, sym, ap, ◌∙◌, subst, ◌⊎◌, inl, inr, Bool, true, false, not, ◌&&◌, ◌||◌, Option, None, Some, [], ◌∷◌, eqb, leb, ltb, length, set, eqb-true, eq-eqb, ne_eqb, ltb-true}
use Rattle.std.proofs.Math.Bool.{and-false, not-and_self}
use Rattle.std.proofs.Math.Decide.{ℕ_discrete}
use Rattle.std.proofs.lemmas.Bool.{not-true, and_parts, and_from, or_cases, cases_Bool, false_from_ne_true}
use Rattle.prelude.specs.Cases.{if◌then◌otherwise◌, maybe}
use Rattle.prelude.specs.Laws.Cases.{clash, if_true, if_false}
use Rattle.prelude.specs.Texts.{same_text}
use Rattle.prelude.specs.Laws.Texts.{same_self, same_back, same_trans}
use Rattle.prelude.specs.declared.Text.{Text}
use Rattle.store.specs.declared.GatewayCancel.{GatewayCancel}
use Rattle.store.specs.declared.Order.{Order}
use Rattle.store.specs.declared.Request.{Request}
use Rattle.store.specs.Book.{Book, order_in, request_in}
use Rattle.store.specs.Requests.{no_request}
use Rattle.machine.specs.Orders.{has_gateway, is_done}
use Rattle.machine.specs.Changes.{Event, is_gateway, is_cancel, is_answered, next_downstream}
use Rattle.machine.specs.GatewayCancel.{outstanding_cancel, gateway_cancel_in_flight}
use Rattle.store.specs.Finds.{find_name, find_downstream}
use Rattle.machine.specs.Machine.{latest_cancel, findings_of, has_room, after}
use Rattle.machine.specs.History.{Decoded, read_as, Entry}
use Rattle.machine.specs.Claim.{of_kind, starts, cancels_in, answered_in, fails}
use Rattle.machine.specs.declared.Findings.{Findings}
use Rattle.machine.specs.declared.Change.{Change}
use Rattle.machine.proofs.Claim.Laws.{tells}
use Rattle.machine.proofs.Claim.Moves.{Moves}
use Rattle.machine.proofs.Claim.Ruled.{Ruled, order_ruled, request_ruled, done_none, latest_cancel_lem}
use Rattle.machine.proofs.Claim.Walk.{found_request, found_text}
use Rattle.machine.proofs.Claim.Filled.{orders_set, after_orders, at, beside}
use Rattle.machine.proofs.Claim.Fresh.{fresh_text}
use Rattle.machine.proofs.Claim.Records.{there_like, there_other, there_answered, find_stays, find_new, find_added, added_at}
use Rattle.machine.proofs.Claim.Tries.{asks_at, begins_at, answered_at, Own}
use Rattle.machine.proofs.Claim.Turn.{Same, Goes, silent, repeated, fresh, new_of, Tried, begun, goes_on_lem, fell, Turn}
use Rattle.machine.proofs.Claim.Shapes.{Out}
use Rattle.machine.proofs.Numbered.{NumberedLaws}
use Rattle.machine.proofs.Kept.Tables.{at_link}
use Rattle.machine.proofs.Kept.Keep.{tries_at}

-- the line of a change that is taken
abbrev pub line : Book → Decoded → Change → Entry
line b i c = record { before = b; input = i; refusal = c.refusal; messages = tells c; left = after b c }

-- ---- the requests

module _ (b : Book) (i : Decoded) (c : Change) where
  pub grown : (d : Text) (k : ℕ) → find_downstream b d ≡ Some k → (find_downstream (after b c) d ≡ Some k) × Same (request_in b k) (request_in (after b c) k)
  grown d k h =
      let l = there_like b c k (found_request b d k h) in
      (find_stays b c d k h, record { kind = l.kind; order = l.order; answered = l.answered })

  pub none_new : (c.requests.added ≡ 0) ⊎ (is_cancel c.requests.request ≡ false) → (d : Text) (k : ℕ) → find_downstream (after b c) d ≡ Some k → find_downstream b d ≡ None
      → is_cancel (request_in (after b c) k) ≡ false
  none_new (inl z) d k h w = absurd ((find_new b c d k h w).adds z)
  none_new (inr z) d k h w =
      let n = find_new b c d k h w in
      ap is_cancel (ap (λ (j : ℕ). request_in (after b c) j) n.at ∙ added_at b c n.adds) ∙ z

  pub goes_fresh : (f : Findings) (o : Order) → Out f o c → find_downstream b (next_downstream o) ≡ None → is_gateway c.requests.request ≡ not (of_kind 2 i) → Goes (line b i c)
  goes_fresh f o u w g =
      let a : (c.requests.added ≡ 0 → ⊥) = (λ z. omega (arith, u.adds)) in
      fresh (next_downstream o) (length b.requests) u.says w
      (find_added b c a (next_downstream o) (ap (λ (t : Text). same_text t (next_downstream o)) u.text ∙ same_self (next_downstream o)) w)
      (ap is_gateway (added_at b c a) ∙ g) (ap is_answered (added_at b c a) ∙ u.unanswered)
      (λ d k h v. subst (λ (t : Text). same_text t d ≡ true) u.text (find_new b c d k h v).same)

  -- the order of the request that goes out
  module _ (f : Findings) (o : Order) (j : ℕ) (u : Out f o c) (w : find_downstream b (next_downstream o) ≡ None) (g : is_gateway c.requests.request ≡ not (of_kind 2 i)) where
    of_added : (request_in (after b c) (length b.requests)).order ≡ f.place - 1
    of_added = ap (λ (q : Request). q.order) (added_at b c (λ z. omega (arith, u.adds))) ∙ u.of_order

    pub new_other : (f.place - 1 ≡ j → ⊥) → new_of (goes_fresh f o u w g) j ≡ []
    unfolding new_of goes_fresh
    new_other n =
        if_false _ _ _ (ap (λ (x : Bool). not (of_kind 2 i) && x) (ne_eqb _ j (λ z. n (sym of_added ∙ z))) ∙ and-false (not (of_kind 2 i)))

    pub new_client : of_kind 2 i ≡ true → new_of (goes_fresh f o u w g) j ≡ []
    unfolding new_of goes_fresh
    new_client e = if_false _ _ _ (ap (λ (x : Bool). not x && eqb (request_in (after b c) (length b.requests)).order j) e)

    pub new_own : of_kind 2 i ≡ false → f.place - 1 ≡ j → new_of (goes_fresh f o u w g) j ≡ next_downstream o ∷ []
    unfolding new_of goes_fresh
    new_own e z = if_true _ _ _ (and_from _ _ (ap not e) (eq-eqb _ j (of_added ∙ z)))

-- ---- failing

module _ (b : Book) (e : Event) (c : Change) where
  calm_fails : eqb e.kind 7 ≡ false → (d : Text) → fails (line b (read_as e) c) d ≡ false
  calm_fails n d = ap (λ (x : Bool). x && (not (answered_in b d) && answered_in (after b c) d)) n

  still_fails : (d : Text) (k : ℕ) → find_downstream b d ≡ Some k → is_answered (request_in (after b c) k) ≡ is_answered (request_in b k) → fails (line b (read_as e) c) d ≡ false
  still_fails d k h s =
      ap (λ (x : Bool). eqb e.kind 7 && (not x && answered_in (after b c) d)) (answered_at b d k h)
      ∙ ap (λ (x : Bool). eqb e.kind 7 && (not (is_answered (request_in b k)) && x)) (answered_at (after b c) d k (find_stays b c d k h) ∙ s)
      ∙ ap (λ (x : Bool). eqb e.kind 7 && x) (not-and_self (is_answered (request_in b k))) ∙ and-false (eqb e.kind 7)

  none_fails : (d : Text) → find_downstream b d ≡ None → answered_in (after b c) d ≡ false → fails (line b (read_as e) c) d ≡ false
  none_fails d h a =
      ap (λ (x : Bool). eqb e.kind 7 && (not (answered_in b d) && x)) a
      ∙ ap (λ (x : Bool). eqb e.kind 7 && x) (and-false (not (answered_in b d))) ∙ and-false (eqb e.kind 7)

  now_fails : (d : Text) (k : ℕ) → find_downstream b d ≡ Some k → eqb e.kind 7 ≡ true → is_answered (request_in b k) ≡ false → is_answered (request_in (after b c) k) ≡ true
      → fails (line b (read_as e) c) d ≡ true
  now_fails d k h s u a =
      and_from _ _ s (and_from _ _ (ap not (answered_at b d k h ∙ u)) (answered_at (after b c) d k (find_stays b c d k h) ∙ a))

-- ---- a gateway cancel begins: every gateway request of the order is answered

asks_starts : (i : ℕ) (b : Book) (e : Event) → asks_at i b (read_as e) ≡ true → starts b i ≡ true
unfolding maybe
asks_starts i b e h = go (find_name b e.ids.name) (and_parts (eqb e.kind 9) _ h).1
  where
    go : (x : Option ℕ) → maybe false (λ j. eqb j i && starts b j) x ≡ true → starts b i ≡ true
    go None z = clash false z refl
    go (Some j) z = let (p, q) = and_parts (eqb j i) (starts b j) z in sym (ap (starts b) (eqb-true j i p)) ∙ q

starts_parts : (b : Book) (i : ℕ) → starts b i ≡ true → (is_done (order_in b i).state.status ≡ false) × (gateway_cancel_in_flight (findings_of b (i + 1)) (order_in b i) ≡ false)
unfolding starts
starts_parts b i h = let (p, q) = and_parts (not (is_done (order_in b i).state.status)) _ h in (not-true _ p, not-true _ q)

pub findings_cancel : (b : Book) (i k : ℕ) → (order_in b i).links.cancel ≡ k + 1 → (findings_of b (i + 1)).cancel ≡ request_in b k
unfolding findings_of latest_cancel
findings_cancel b i k e =
    ap (λ (o : Order). if eqb o.links.cancel 0 then no_request otherwise request_in b (o.links.cancel - 1)) (at_link b i)
    ∙ if_false _ _ _ (ne_eqb (order_in b i).links.cancel 0 (λ z. omega arith))
    ∙ (let z : (order_in b i).links.cancel - 1 ≡ k = omega arith in ap (λ (j : ℕ). request_in b j) z)

flies : (f : Findings) (o : Order) (q : Request) → f.cancel ≡ q → (o.links.cancel ≡ 0 → ⊥) → is_gateway q ≡ true → is_answered q ≡ false → gateway_cancel_in_flight f o ≡ true
unfolding gateway_cancel_in_flight outstanding_cancel
flies f o q e n g a =
    and_from _ _ (and_from _ _ (ap not (ne_eqb o.links.cancel 0 n)) (ap not (ap is_answered e ∙ a))) (ap is_gateway e ∙ g)

begins_answered : (b : Book) (r : Ruled b) (e : Event) (i : ℕ) → asks_at i b (read_as e) ≡ true → (d : Text) (w : Own i b d) → is_answered (request_in b w.at) ≡ true
begins_answered b r e i h d w = go (cases_Bool (is_answered (request_in b w.at)))
  where
    go : (is_answered (request_in b w.at) ≡ true) ⊎ (is_answered (request_in b w.at) ≡ false) → is_answered (request_in b w.at) ≡ true
    go (inl a) = a
    go (inr a) =
        let (live, calm) = starts_parts b i (asks_starts i b e h) in
        let q = request_ruled b r w.at (found_request b d w.at w.found) in
        let z : (order_in b i).links.cancel ≡ w.at + 1 =
        subst (λ (j : ℕ). (order_in b j).links.cancel ≡ w.at + 1) w.of_order
        (latest_cancel_lem (w.at + 1) (request_in b w.at) (order_in b (request_in b w.at).order) q.in_flight w.by_gateway a
        (ap (λ (j : ℕ). is_done (order_in b j).state.status) w.of_order ∙ live)).0 in
        clash _ (flies (findings_of b (i + 1)) (order_in b i) (request_in b w.at) (findings_cancel b i w.at z) (λ y. omega arith) w.by_gateway a) calm

-- ---- the six shapes of a change of the order at index i

pub data Shape (b : Book) (e : Event) (i : ℕ) (c : Change) : Type 0 where
  -- no cancel request goes out, and the tries stay
  idle : asks_at i b (read_as e) ≡ false → cancels_in (tells c) ≡ [] → (c.requests.added ≡ 0) ⊎ ((is_cancel c.requests.request ≡ false) × (c.requests.request.order ≡ i))
      → (has_gateway c.order ≡ true → (has_gateway (order_in b i) ≡ true) × (c.order.gateway.tries ≡ (order_in b i).gateway.tries)
      × (eqb e.kind 7 ≡ true → (k : ℕ) → c.requests.answered ≡ k + 1 → is_gateway (request_in b k) ≡ false))
      → Shape b e i c
  -- one goes out again
  repeats : asks_at i b (read_as e) ≡ false → eqb e.kind 7 ≡ false → (d : Text) (k : ℕ) → find_downstream b d ≡ Some k → is_cancel (request_in b k) ≡ true
      → cancels_in (tells c) ≡ d ∷ [] → c.requests.added ≡ 0 → c.order ≡ order_in b i → Shape b e i c
  -- the client's goes out
  client : asks_at i b (read_as e) ≡ false → eqb e.kind 7 ≡ false → eqb e.kind 2 ≡ true → Out (findings_of b (i + 1)) (order_in b i) c
      → is_gateway c.requests.request ≡ false → c.order.gateway ≡ (order_in b i).gateway → Shape b e i c
  -- the gateway's goes out; its cancel begins with it, or goes on
  gateway : eqb e.kind 7 ≡ false → eqb e.kind 2 ≡ false → Out (findings_of b (i + 1)) (order_in b i) c → is_gateway c.requests.request ≡ true
      → ((asks_at i b (read_as e) ≡ true) × (c.order.gateway.tries ≡ 1))
      ⊎ ((asks_at i b (read_as e) ≡ false) × (has_gateway (order_in b i) ≡ true) × ((order_in b i).gateway.tries ≤ 2) × (c.order.gateway.tries ≡ (order_in b i).gateway.tries + 1))
      → Shape b e i c
  -- the gateway's begins, and waits
  begins! : asks_at i b (read_as e) ≡ true → cancels_in (tells c) ≡ [] → c.requests.added ≡ 0 → c.order.gateway.tries ≡ 0 → Shape b e i c
  -- a send of the gateway's failed
  fails! : asks_at i b (read_as e) ≡ false → eqb e.kind 7 ≡ true → (d : Text) (k : ℕ) → find_downstream b d ≡ Some k → (request_in b k).order ≡ i
      → is_gateway (request_in b k) ≡ true → is_answered (request_in b k) ≡ false → c.requests.answered ≡ k + 1 → c.requests.superseded ≡ 0
      → cancels_in (tells c) ≡ [] → c.requests.added ≡ 0 → has_gateway (order_in b i) ≡ true → c.order.gateway.tries ≡ (order_in b i).gateway.tries - 1 → Shape b e i c

pub record Shaped (b : Book) (e : Event) (i : ℕ) (c : Change) : Type 0 where
  -- the event begins no other order's gateway cancel, and fails no other order's request
  pub alone : (j : ℕ) → (j ≡ i → ⊥) → asks_at j b (read_as e) ≡ false
  pub spares : eqb e.kind 7 ≡ true → (c.requests.superseded ≡ 0) × ((k : ℕ) → c.requests.answered ≡ k + 1 → (request_in b k).order ≡ i)
  pub shape : Shape b e i c

pub findings_index : (b : Book) (i : ℕ) → (findings_of b (i + 1)).place - 1 ≡ i
unfolding findings_of
findings_index b i = omega arith

has_room_lem : (b : Book) (c : Change) → has_room b c ≡ true → (c.requests.added ≡ 0 → ⊥) → length b.requests < 256
unfolding has_room
has_room_lem b c h n = go (or_cases (eqb c.requests.added 0) (ltb (length b.requests) 256)
    (and_parts (leb c.place (length b.orders) || ltb (length b.orders) 64) _ h).1)
  where
    go : (eqb c.requests.added 0 ≡ true) ⊎ (ltb (length b.requests) 256 ≡ true) → length b.requests < 256
    go (inl z) = absurd (n (eqb-true c.requests.added 0 z))
    go (inr z) = ltb-true (length b.requests) 256 z

module _ (laws : NumberedLaws) (b : Book) (r : Ruled b) (e : Event) (i : ℕ) (h : i < length b.orders) (c : Change) (m : Moves 2 (i + 1) (order_in b i) c) (room : has_room b c ≡ true) (s : Shaped b e i c) where
  orders : (after b c).orders ≡ set b.orders i c.order
  orders = after_orders b c ∙ orders_set b.orders c i h m.there

  now : order_in (after b c) i ≡ c.order
  now = at b c i h m (after b c) orders

  begins_at_lem : (j : ℕ) → begins_at j (line b (read_as e) c) ≡ asks_at j b (read_as e)
  unfolding begins_at
  begins_at_lem j = ap (λ (x : Bool). x && asks_at j b (read_as e)) (eq-eqb c.refusal 0 m.taken)

  -- a request that the event does not answer
  kept_fails : (j : ℕ) (d : Text) (w : Own j b d) → (eqb e.kind 7 ≡ true → c.requests.answered ≡ w.at + 1 → ⊥) → fails (line b (read_as e) c) d ≡ false
  kept_fails j d w n = go (cases_Bool (eqb e.kind 7))
    where
      go : (eqb e.kind 7 ≡ true) ⊎ (eqb e.kind 7 ≡ false) → fails (line b (read_as e) c) d ≡ false
      go (inl z) =
          still_fails b e c d w.at w.found
          (ap is_answered (there_other b c w.at (found_request b d w.at w.found) (n z) (λ y. let x = (s.spares z).0 in omega arith)))
      go (inr z) = calm_fails b e c z d

  -- the other orders
  other_tried : (g : Goes (line b (read_as e) c)) (j : ℕ) → (j ≡ i → ⊥) → new_of g j ≡ [] → has_gateway (order_in (after b c) j) ≡ true → Tried j (line b (read_as e) c) (new_of g j)
  other_tried g j n z hg =
      let same : order_in (after b c) j ≡ order_in b j = beside b c i h m (after b c) orders j n in
      subst (Tried j (line b (read_as e) c)) (sym z)
      (goes_on_lem (begins_at_lem j ∙ s.alone j n) (sym (ap has_gateway same) ∙ hg)
      (λ d w. kept_fails j d w (λ y x. n (sym w.of_order ∙ (s.spares y).1 w.at x)))
      (let t : (order_in (after b c) j).gateway.tries ≡ (order_in b j).gateway.tries = ap (λ (o : Order). o.gateway.tries) same in omega arith))

  free : Out (findings_of b (i + 1)) (order_in b i) c → find_downstream b (next_downstream (order_in b i)) ≡ None
  free u = fresh_text laws b r i h (has_room_lem b c room (λ z. omega (arith, u.adds)))

  turn_of : (g : Goes (line b (read_as e) c)) → ((j : ℕ) → (j ≡ i → ⊥) → new_of g j ≡ [])
      → (has_gateway c.order ≡ true → Tried i (line b (read_as e) c) (new_of g i)) → Turn (line b (read_as e) c)
  turn_of g n own = record { grows = grown b (read_as e) c; goes = g; tried = λ j hg. by j hg (ℕ_discrete j i) }
    where
      by : (j : ℕ) → has_gateway (order_in (after b c) j) ≡ true → Dec (j ≡ i) → Tried j (line b (read_as e) c) (new_of g j)
      by j hg (no z) = other_tried g j z (n j z) hg
      by j hg (yes z) =
          subst (λ (x : ℕ). Tried x (line b (read_as e) c) (new_of g x)) (sym z)
          (own (sym (ap has_gateway now) ∙ ap (λ (x : ℕ). has_gateway (order_in (after b c) x)) (sym z) ∙ hg))

  tries_now : (order_in (after b c) i).gateway.tries ≡ c.order.gateway.tries
  tries_now = ap (λ (o : Order). o.gateway.tries) now

  pub shape_turn : Shape b e i c → Turn (line b (read_as e) c)
  unfolding new_of
  shape_turn (idle a q n g) =
      turn_of (silent q (none_new b (read_as e) c (no_cancel n))) (λ j z. refl)
      (λ hg. let (x, t, u) = g hg in
      goes_on_lem (begins_at_lem i ∙ a) x (λ d w. kept_fails i d w (λ y z. clash _ w.by_gateway (u y w.at z))) (omega (arith, tries_now)))
    where
      no_cancel : (c.requests.added ≡ 0) ⊎ ((is_cancel c.requests.request ≡ false) × (c.requests.request.order ≡ i))
          → (c.requests.added ≡ 0) ⊎ (is_cancel c.requests.request ≡ false)
      no_cancel (inl z) = inl z
      no_cancel (inr z) = inr z.0
  shape_turn (repeats a z d k w k! q n o) =
      turn_of (repeated d k q w k! (none_new b (read_as e) c (inl n))) (λ j z. refl)
      (λ hg. goes_on_lem (begins_at_lem i ∙ a) (sym (ap has_gateway o) ∙ hg) (λ d w. calm_fails b e c z d) (omega (arith, tries_now, ap (λ (x : Order). x.gateway.tries) o)))
  shape_turn (client a z z₂ u g o) =
      let gt : is_gateway c.requests.request ≡ not (of_kind 2 (read_as e)) = g ∙ sym (ap not z₂) in
      turn_of (goes_fresh b (read_as e) c _ _ u (free u) gt) (λ j n. new_client b (read_as e) c _ _ j u (free u) gt z₂)
      (λ hg. subst (Tried i (line b (read_as e) c)) (sym (new_client b (read_as e) c _ _ i u (free u) gt z₂))
      (goes_on_lem (begins_at_lem i ∙ a) (sym (gateway_same o) ∙ hg) (λ d w. calm_fails b e c z d)
      (let t : c.order.gateway.tries ≡ (order_in b i).gateway.tries = ap (λ (x : GatewayCancel). x.tries) o in omega (arith, tries_now))))
    where
      gateway_same : c.order.gateway ≡ (order_in b i).gateway → has_gateway c.order ≡ has_gateway (order_in b i)
      gateway_same o = unfold has_gateway in ap (λ (x : GatewayCancel). not (eqb x.origdownstream 0)) o
  shape_turn (gateway z z₂ u g p) =
      let gt : is_gateway c.requests.request ≡ not (of_kind 2 (read_as e)) = g ∙ sym (ap not z₂) in
      turn_of (goes_fresh b (read_as e) c _ _ u (free u) gt) (λ j n. new_other b (read_as e) c _ _ j u (free u) gt (λ y. n (sym y ∙ findings_index b i)))
      (λ hg. subst (Tried i (line b (read_as e) c)) (sym (new_own b (read_as e) c _ _ i u (free u) gt z₂ (findings_index b i))) (by p))
    where
      by : ((asks_at i b (read_as e) ≡ true) × (c.order.gateway.tries ≡ 1))
          ⊎ ((asks_at i b (read_as e) ≡ false) × (has_gateway (order_in b i) ≡ true) × ((order_in b i).gateway.tries ≤ 2) × (c.order.gateway.tries ≡ (order_in b i).gateway.tries + 1))
          → Tried i (line b (read_as e) c) (next_downstream (order_in b i) ∷ [])
      by (inl x) = begun (begins_at_lem i ∙ x.0) (begins_answered b r e i x.0) (tries_now ∙ x.1)
      by (inr x) = goes_on_lem (begins_at_lem i ∙ x.0) x.1 (λ d w. calm_fails b e c z d) (tries_now ∙ x.3)
  shape_turn (begins! a q n t) =
      turn_of (silent q (none_new b (read_as e) c (inl n))) (λ j z. refl) (λ hg. begun (begins_at_lem i ∙ a) (begins_answered b r e i a) (tries_now ∙ t))
  shape_turn (fails! a z d k w oi g u x y q n hg t) =
      turn_of (silent q (none_new b (read_as e) c (inl n))) (λ j z. refl)
      (λ hg'. fell (begins_at_lem i ∙ a) hg (tried_yet hg) refl d (record { at = k; found = w; by_gateway = g; of_order = oi }) u
      (now_fails b e c d k w z u (there_answered b c k (found_request b d k w) x)) others (tries_now ∙ t))
    where
      live : has_gateway (order_in b i) ≡ true → is_done (order_in b i).state.status ≡ false
      live hg = false_from_ne_true _ (λ y. clash _ hg (done_none (order_in b i) (order_ruled b r i h).done y))

      tried_yet : has_gateway (order_in b i) ≡ true → 0 < (order_in b i).gateway.tries
      tried_yet hg =
          subst (λ (j : ℕ). 0 < (order_in b j).gateway.tries) oi
          (latest_cancel_lem (k + 1) (request_in b k) (order_in b (request_in b k).order) (request_ruled b r k (found_request b d k w)).in_flight g u
          (ap (λ (j : ℕ). is_done (order_in b j).state.status) oi ∙ live hg)).1

      others : (d' : Text) → same_text d d' ≡ false → fails (line b (read_as e) c) d' ≡ false
      others d' ne = by (find_downstream b d') refl
        where
          by : (v : Option ℕ) → find_downstream b d' ≡ v → fails (line b (read_as e) c) d' ≡ false
          by None v = none_fails b e c d' v (unanswered (find_downstream (after b c) d') refl)
            where
              unanswered : (v' : Option ℕ) → find_downstream (after b c) d' ≡ v' → maybe false (λ k. is_answered (request_in (after b c) k)) v' ≡ false
              unanswered None v' = unfold maybe in refl
              unanswered (Some k') v' = absurd ((find_new b c d' k' v' v).adds n)
          by (Some k') v =
              still_fails b e c d' k' v
              (ap is_answered (there_other b c k' (found_request b d' k' v)
              (λ p. clash (same_text d d') (same_key p) ne)
              (λ p. omega arith)))
            where
              same_key : c.requests.answered ≡ k' + 1 → same_text d d' ≡ true
              same_key p =
                  let same : k ≡ k' = omega arith in
                  same_trans d (request_in b k).downstream d' (same_back _ _ (found_text b d k w))
                  (subst (λ (j : ℕ). same_text (request_in b j).downstream d' ≡ true) (sym same) (found_text b d' k' v))

  pub few_tries : has_gateway c.order ≡ true → Shape b e i c → c.order.gateway.tries ≤ 3
  few_tries hg (idle a q n g) = let (x, t, u) = g hg in omega (arith, tries_at (order_in b i).gateway (order_ruled b r i h).tries)
  few_tries hg (repeats a z d k w k! q n o) = omega (arith, ap (λ (x : Order). x.gateway.tries) o, tries_at (order_in b i).gateway (order_ruled b r i h).tries)
  few_tries hg (client a z z₂ u g o) =
      let t : c.order.gateway.tries ≡ (order_in b i).gateway.tries = ap (λ (x : GatewayCancel). x.tries) o in
      omega (arith, tries_at (order_in b i).gateway (order_ruled b r i h).tries)
  few_tries hg (gateway z z₂ u g (inl x)) = omega (arith, x.1)
  few_tries hg (gateway z z₂ u g (inr x)) = omega (arith, x.2, x.3)
  few_tries hg (begins! a q n t) = omega arith
  few_tries hg (fails! a z d k w oi g u x y q n hg' t) = omega (arith, tries_at (order_in b i).gateway (order_ruled b r i h).tries)

  -- a request that is added is the order's
  pub added_own : Shape b e i c → (c.requests.added ≡ 0) ⊎ (c.requests.request.order ≡ i)
  added_own (idle a q (inl n) g) = inl n
  added_own (idle a q (inr n) g) = inr n.1
  added_own (repeats a z d k w k! q n o) = inl n
  added_own (client a z z₂ u g o) = inr (u.of_order ∙ findings_index b i)
  added_own (gateway z z₂ u g p) = inr (u.of_order ∙ findings_index b i)
  added_own (begins! a q n t) = inl n
  added_own (fails! a z d k w oi g u x y q n hg t) = inl n
