-- Demand 3 from any image, one call: a round keeps what the claim needs, whatever the call does. Rests on Turn and Events.
use Rattle.std.proofs.Common.{ℕ, ◌+◌, ◌≤◌, ◌<◌, arith, ◌≡◌, refl, sym, ap, ◌∙◌, subst, ◌⊎◌, inl, inr, Bool, true, false, not, ◌&&◌, None, List, [], ◌∷◌, ◌++◌, eqb, length, set, eqb-true, eq-eqb}
use Rattle.std.proofs.Math.Bool.{and-false}
use Rattle.std.proofs.Math.Decide.{ℕ_discrete, dec_lt}
use Rattle.std.proofs.Math.ListN.{get_or-eq_default}
use Rattle.std.proofs.lemmas.Bool.{cases_Bool}
use Rattle.prelude.specs.Laws.Below.{first_elim}
use Rattle.prelude.specs.Cases.{if◌then◌otherwise◌}
use Rattle.prelude.specs.Laws.Cases.{split_if, clash, if_true, maybe_none, none_some}
use Rattle.prelude.specs.Texts.{same_text}
use Rattle.prelude.specs.Laws.Texts.{same_back}
use Rattle.prelude.specs.declared.Text.{Text}
use Rattle.store.specs.declared.Order.{Order}
use Rattle.store.specs.declared.Request.{Request}
use Rattle.store.specs.Book.{Book, order_in, request_in}
use Rattle.store.specs.Orders.{no_order}
use Rattle.machine.specs.Orders.{has_gateway}
use Rattle.machine.specs.Changes.{Event, Message, refusing, adding, is_first, is_replace, is_cancel}
use Rattle.store.specs.Finds.{find_name}
use Rattle.machine.specs.Machine.{booked_order, first_request, answer_link, requests_after, after, has_room, step_of}
use Rattle.machine.specs.Rules.{rules}
use Rattle.machine.specs.History.{Decoded, unread, read_as, comes_to, Entry, line_of}
use Rattle.machine.specs.Claim.{of_kind, cancels_in, answered_in, fails}
use Rattle.machine.specs.declared.Change.{Change}
use Rattle.machine.proofs.Claim.Laws.{tells}
use Rattle.machine.proofs.Claim.Moves.{Moves}
use Rattle.machine.proofs.Claim.Ruled.{Ruled, ruled, request_ruled}
use Rattle.machine.proofs.Walked.{not_kind}
use Rattle.machine.proofs.Claim.Walk.{Bystands, booking, Did, Roomy, turned_away, no_order_lem, on_order, new_order, step_walk, refusing_bystands, refusing_away}
use Rattle.machine.proofs.Claim.Filled.{Moved, same_name, orders_set, orders_same, orders_more, at, beside, long, more_at, more_beside, more_long, changed_persists, after_orders, refused_line, taken_line, booking_place, booking_silent}
use Rattle.machine.proofs.Claim.Records.{there_like, added_at, added_long, none_kept}
use Rattle.machine.proofs.Claim.Tries.{asks_at, begins_at}
use Rattle.machine.proofs.Claim.Turn.{silent, new_of, goes_on_lem, Turn}
use Rattle.machine.proofs.Claim.Steps.{line, grown, none_new, Shaped, shape_turn, few_tries, added_own}
use Rattle.machine.proofs.Claim.Events.{asks_none, Stepped, handles_stepped}
use Rattle.machine.proofs.Numbered.{NumberedLaws}

-- ---- a round: what one call keeps

-- each request names a booked order, and no two orders have one name
abbrev pub Placed : Book → Type 0
Placed b = (k : ℕ) → k < length b.requests → (request_in b k).order < length b.orders

abbrev pub Apart : Book → Type 0
Apart b = (i j : ℕ) → i < length b.orders → j < length b.orders → same_text (order_in b i).names.name (order_in b j).names.name ≡ true → i ≡ j

abbrev pub Few : Book → Type 0
Few b = (j : ℕ) → has_gateway (order_in b j) ≡ true → (order_in b j).gateway.tries ≤ 3

pub record Round (e : Entry) : Type 0 where
  pub turn : Turn e
  pub few : Few e.before → Few e.left
  pub placed : Placed e.before → Placed e.left
  pub apart : Apart e.before → Apart e.left

-- the book stays, and no cancel request goes out
still_round : (b : Book) (i : Decoded) (n : ℕ) (ms : List Message) → cancels_in ms ≡ []
    → ((j : ℕ) → begins_at j (record { before = b; input = i; refusal = n; messages = ms; left = b }) ≡ false)
    → Round (record { before = b; input = i; refusal = n; messages = ms; left = b })
unfolding new_of
still_round b i n ms m beg = record {
  turn = record {
    grows = λ d k h. (h, record { kind = refl; order = refl; answered = λ a. a });
    goes = silent m (λ d k h w. none_some w h);
    tried = λ j hg. goes_on_lem (beg j) hg (λ d w. never (of_kind 7 i) (answered_in b d)) (omega arith);
  };
  few = λ f. f;
  placed = λ p. p;
  apart = λ a. a;
}
  where
    never : (x y : Bool) → x && (not y && y) ≡ false
    never x y = grind arith

refused_path : (b : Book) (i : Decoded) (c : Change) → eqb c.refusal 0 ≡ false → line_of b i c ≡ record { before = b; input = i; refusal = c.refusal; messages = []; left = b }
refused_path b i c h = let s = refused_line b i c h in λ x. record { before = b; input = i; refusal = c.refusal; messages = s.0 x; left = s.1 x }

taken_path : (b : Book) (i : Decoded) (c : Change) → c.refusal ≡ 0 → line_of b i c ≡ line b i c
taken_path b i c h = let s = taken_line b i c h in λ x. record { before = b; input = i; refusal = c.refusal; messages = s.0 x; left = s.1 x }

refused_round : (b : Book) (i : Decoded) (c : Change) → eqb c.refusal 0 ≡ false → Round (line_of b i c)
refused_round b i c h =
    subst Round (sym (refused_path b i c h))
    (still_round b i c.refusal [] (unfold cancels_in in refl) (λ j. unfold begins_at in ap (λ (x : Bool). x && asks_at j b i) h))

-- a change of nothing leaves the book as it was
none_answered : (v : ℕ) (qs : List Request) → answer_link 0 v qs ≡ qs
unfolding answer_link if◌then◌otherwise◌
none_answered v qs = refl

requests_same : (qs : List Request) (c : Change) → c.requests.answered ≡ 0 → c.requests.superseded ≡ 0 → c.requests.added ≡ 0 → requests_after qs c ≡ qs
unfolding requests_after
requests_same qs c a s d =
    if_true _ _ _ (eq-eqb c.requests.added 0 d)
    ∙ ap (λ (k : ℕ). answer_link k c.requests.outcome (answer_link c.requests.answered c.requests.outcome qs)) s ∙ none_answered _ _
    ∙ ap (λ (k : ℕ). answer_link k c.requests.outcome qs) a ∙ none_answered _ qs

pub after_same : (b : Book) (c : Change) → Bystands c → after b c ≡ b
unfolding after
after_same b c s = λ x. record {
  setting = b.setting;
  orders = orders_same b.orders c s.nowhere x;
  requests = requests_same b.requests c s.answers s.supersedes s.adds x;
}

bystands_round : (b : Book) (i : Decoded) (c : Change) → Bystands c → ((j : ℕ) → asks_at j b i ≡ false) → Round (line_of b i c)
bystands_round b i c s a =
    subst Round (sym (taken_path b i c s.taken))
    (subst (λ (x : Book). Round (record { before = b; input = i; refusal = c.refusal; messages = tells c; left = x })) (sym (after_same b c s))
    (still_round b i c.refusal (tells c) s.no_cancel (λ j. unfold begins_at in ap (λ (x : Bool). eqb c.refusal 0 && x) (a j) ∙ and-false (eqb c.refusal 0))))

unknown_asks : (b : Book) (e : Event) → (eqb e.kind 9 ≡ false) ⊎ (find_name b e.ids.name ≡ None) → (j : ℕ) → asks_at j b (read_as e) ≡ false
unknown_asks b e (inl z) j = asks_none b e z j
unknown_asks b e (inr z) j = ap (λ (x : Bool). eqb e.kind 9 && x) (maybe_none _ _ _ z) ∙ and-false (eqb e.kind 9)

-- one order is changed
module _ (laws : NumberedLaws) (b : Book) (r : Ruled b) (e : Event) (i : ℕ) (h : i < length b.orders) (c : Change) (m : Moves 2 (i + 1) (order_in b i) c) (room : has_room b c ≡ true) (s : Shaped b e i c) where
  set_orders : (after b c).orders ≡ set b.orders i c.order
  set_orders = after_orders b c ∙ orders_set b.orders c i h m.there

  changed_round : Round (line_of b (read_as e) c)
  changed_round = subst Round (sym (taken_path b (read_as e) c m.taken)) (record {
    turn = shape_turn laws b r e i h c m room s s.shape;
    few = λ f j hg. by f j hg (ℕ_discrete j i);
    placed = λ p k l. own k l (dec_lt k (length b.requests));
    apart = λ a j k lj lk w.
        let n = long b c i h m (after b c) set_orders in
        let p = changed_persists b c i h m (after b c) set_orders in
        a j k (omega arith) (omega arith) (sym (ap (λ (t : Text). same_text (order_in b j).names.name t) (same_name b (after b c) p k (omega arith))) ∙ sym (ap (λ (t : Text). same_text t (order_in (after b c) k).names.name) (same_name b (after b c) p j (omega arith))) ∙ w);
  })
    where
      by : Few b → (j : ℕ) → has_gateway (order_in (after b c) j) ≡ true → Dec (j ≡ i) → (order_in (after b c) j).gateway.tries ≤ 3
      by f j hg (yes z) =
          let q : order_in (after b c) j ≡ c.order = ap (λ (k : ℕ). order_in (after b c) k) z ∙ at b c i h m (after b c) set_orders in
          omega (arith, ap (λ (o : Order). o.gateway.tries) q, few_tries laws b r e i h c m room s (sym (ap has_gateway q) ∙ hg) s.shape)
      by f j hg (no z) =
          let q : order_in (after b c) j ≡ order_in b j = beside b c i h m (after b c) set_orders j z in
          omega (arith, ap (λ (o : Order). o.gateway.tries) q, f j (sym (ap has_gateway q) ∙ hg))

      own : (k : ℕ) → k < length (after b c).requests → Dec (k < length b.requests) → (request_in (after b c) k).order < length (after b c).orders
      own k l (yes z) = omega (arith, (there_like b c k z).order, (request_ruled b r k z).placed, long b c i h m (after b c) set_orders)
      own k l (no z) = new (added_own laws b r e i h c m room s s.shape)
        where
          new : (c.requests.added ≡ 0) ⊎ (c.requests.request.order ≡ i) → (request_in (after b c) k).order < length (after b c).orders
          new (inl a) = absurd (omega (arith, none_kept b c a))
          new (inr a) = go (ℕ_discrete c.requests.added 0)
            where
              go : Dec (c.requests.added ≡ 0) → (request_in (after b c) k).order < length (after b c).orders
              go (yes x) = absurd (omega (arith, none_kept b c x))
              go (no x) =
                  let y : k ≡ length b.requests = omega (arith, added_long b c x) in
                  let w : (request_in (after b c) k).order ≡ i = ap (λ (j : ℕ). (request_in (after b c) j).order) y ∙ ap (λ (q : Request). q.order) (added_at b c x) ∙ a in
                  omega (arith, long b c i h m (after b c) set_orders)

-- an order is booked
booked_gateway : (b : Book) (e : Event) → has_gateway (booked_order (length b.requests + 1) e) ≡ false
unfolding booked_order has_gateway
booked_gateway b e = refl

pub no_gateway : has_gateway no_order ≡ false
unfolding has_gateway
no_gateway = refl

booked_name : (b : Book) (e : Event) → (booked_order (length b.requests + 1) e).names.name ≡ e.ids.name
unfolding booked_order
booked_name b e = refl

booking_request : (b : Book) (e : Event) → ((booking b e).requests.request.order ≡ length b.orders) × (is_cancel (booking b e).requests.request ≡ false)
    × ((booking b e).requests.added ≡ 1)
unfolding adding first_request is_cancel is_first is_replace
booking_request b e = (refl, refl, refl)

module _ (b : Book) (r : Ruled b) (e : Event) (k : eqb e.kind 1 ≡ true) (u : find_name b e.ids.name ≡ None) where
  more_orders : (after b (booking b e)).orders ≡ b.orders ++ (booked_order (length b.requests + 1) e ∷ [])
  more_orders =
      let p = booking_place b e in
      after_orders b (booking b e) ∙ orders_more b.orders (booking b e) p.1 ∙ ap (λ (x : Order). b.orders ++ (x ∷ [])) p.2

  -- an order with a gateway cancel was there before
  old_order : (j : ℕ) → has_gateway (order_in (after b (booking b e)) j) ≡ true → order_in (after b (booking b e)) j ≡ order_in b j
  old_order j hg = go (dec_lt j (length b.orders)) (ℕ_discrete j (length b.orders))
    where
      go : Dec (j < length b.orders) → Dec (j ≡ length b.orders) → order_in (after b (booking b e)) j ≡ order_in b j
      go (yes l) d = more_beside b (booked_order (length b.requests + 1) e) (after b (booking b e)) more_orders j l
      go (no l) (yes z) =
          clash _ hg (ap (λ (n : ℕ). has_gateway (order_in (after b (booking b e)) n)) z ∙ ap has_gateway (more_at b (booked_order (length b.requests + 1) e) (after b (booking b e)) more_orders) ∙ booked_gateway b e)
      go (no l) (no z) =
          clash _ hg (ap has_gateway (get_or-eq_default (after b (booking b e)).orders no_order (let n = more_long b (booked_order (length b.requests + 1) e) (after b (booking b e)) more_orders in omega arith)) ∙ no_gateway)

  fresh_name : (j : ℕ) → j < length b.orders → same_text (order_in b j).names.name e.ids.name ≡ false
  unfolding find_name
  fresh_name j l = first_elim (λ i. same_text (order_in b i).names.name e.ids.name) (length b.orders) u j l

  booked_round : Round (line_of b (read_as e) (booking b e))
  unfolding new_of
  booked_round = subst Round (sym (taken_path b (read_as e) (booking b e) (booking_place b e).0)) (record {
    turn = record {
      grows = grown b (read_as e) (booking b e);
      goes = silent (ap cancels_in (booking_silent b e) ∙ (unfold cancels_in in refl)) (none_new b (read_as e) (booking b e) (inr (booking_request b e).1));
      tried = λ j hg.
          let q = old_order j hg in
          goes_on_lem (not_begun j) (sym (ap has_gateway q) ∙ hg) (λ d w. not_failed d) (omega (arith, ap (λ (o : Order). o.gateway.tries) q));
    };
    few = λ f j hg. let q = old_order j hg in omega (arith, ap (λ (o : Order). o.gateway.tries) q, f j (sym (ap has_gateway q) ∙ hg));
    placed = λ p n l. own p n l (dec_lt n (length b.requests));
    apart = λ a i j li lj w. pair a i j li lj w (dec_lt i (length b.orders)) (dec_lt j (length b.orders));
  })
    where
      not_begun : (j : ℕ) → begins_at j (line b (read_as e) (booking b e)) ≡ false
      not_begun j = unfold begins_at in ap (λ (x : Bool). eqb (booking b e).refusal 0 && x) (asks_none b e (not_kind e 1 9 k refl) j) ∙ and-false (eqb (booking b e).refusal 0)

      not_failed : (d : Text) → fails (line b (read_as e) (booking b e)) d ≡ false
      not_failed d = ap (λ (x : Bool). x && (not (answered_in b d) && answered_in (after b (booking b e)) d)) (not_kind e 1 7 k refl)

      own : Placed b → (n : ℕ) → n < length (after b (booking b e)).requests → Dec (n < length b.requests)
          → (request_in (after b (booking b e)) n).order < length (after b (booking b e)).orders
      own p n l (yes z) = omega (arith, (there_like b (booking b e) n z).order, p n z, more_long b (booked_order (length b.requests + 1) e) (after b (booking b e)) more_orders)
      own p n l (no z) =
          let (x, y, w) = booking_request b e in
          let one : ((booking b e).requests.added ≡ 0 → ⊥) = (λ v. omega arith) in
          let at_end : n ≡ length b.requests = omega (arith, added_long b (booking b e) one) in
          let v : (request_in (after b (booking b e)) n).order ≡ length b.orders =
          ap (λ (j : ℕ). (request_in (after b (booking b e)) j).order) at_end ∙ ap (λ (q : Request). q.order) (added_at b (booking b e) one) ∙ x in
          omega (arith, more_long b (booked_order (length b.requests + 1) e) (after b (booking b e)) more_orders)

      name_at : (j : ℕ) → j < length b.orders → (order_in (after b (booking b e)) j).names.name ≡ (order_in b j).names.name
      name_at j l = ap (λ (o : Order). o.names.name) (more_beside b (booked_order (length b.requests + 1) e) (after b (booking b e)) more_orders j l)

      new_name : (j : ℕ) → j < length (after b (booking b e)).orders → (j < length b.orders → ⊥) → (order_in (after b (booking b e)) j).names.name ≡ e.ids.name
      new_name j l n =
          let z : j ≡ length b.orders = omega (arith, more_long b (booked_order (length b.requests + 1) e) (after b (booking b e)) more_orders) in
          ap (λ (i : ℕ). (order_in (after b (booking b e)) i).names.name) z
          ∙ ap (λ (o : Order). o.names.name) (more_at b (booked_order (length b.requests + 1) e) (after b (booking b e)) more_orders) ∙ booked_name b e

      pair : Apart b → (i j : ℕ) → i < length (after b (booking b e)).orders → j < length (after b (booking b e)).orders
          → same_text (order_in (after b (booking b e)) i).names.name (order_in (after b (booking b e)) j).names.name ≡ true
          → Dec (i < length b.orders) → Dec (j < length b.orders) → i ≡ j
      pair a i j li lj w (yes x) (yes y) = a i j x y (sym (ap (same_text (order_in b i).names.name) (name_at j y)) ∙ sym (ap (λ (t : Text). same_text t (order_in (after b (booking b e)) j).names.name) (name_at i x)) ∙ w)
      pair a i j li lj w (yes x) (no y) =
          clash _ (sym (ap (same_text (order_in b i).names.name) (new_name j lj y)) ∙ sym (ap (λ (t : Text). same_text t (order_in (after b (booking b e)) j).names.name) (name_at i x)) ∙ w) (fresh_name i x)
      pair a i j li lj w (no x) (yes y) =
          clash _ (sym (ap (same_text (order_in b j).names.name) (new_name i li x)) ∙ sym (ap (λ (t : Text). same_text t (order_in (after b (booking b e)) i).names.name) (name_at j y)) ∙ same_back _ _ w) (fresh_name j y)
      pair a i j li lj w (no x) (no y) = omega (arith, more_long b (booked_order (length b.requests + 1) e) (after b (booking b e)) more_orders)

-- ---- a call

module _ (laws : NumberedLaws) (b : Book) where
  did_round : (r : Ruled b) (e : Event) (l : 0 < e.kind) (h : e.kind ≤ 9) (c : Change) → Did (Roomy (Stepped b r e l h) b) b e c → Round (line_of b (read_as e) c)
  unfolding Stepped Moved Roomy
  did_round r e l h c (turned_away z) = refused_round b (read_as e) c z
  did_round r e l h c (no_order_lem s n) = bystands_round b (read_as e) c s (unknown_asks b e n)
  did_round r e l h c (on_order i m t p) = changed_round laws b r e i m c p.0.0 p.1 p.0.1
  did_round r e l h c (new_order k u) = booked_round b r e k u

  unread_round : (n m : ℕ) → Round (line_of b (unread n) (refusing m))
  unread_round n m = go (cases_Bool (eqb m 0))
    where
      go : (eqb m 0 ≡ true) ⊎ (eqb m 0 ≡ false) → Round (line_of b (unread n) (refusing m))
      go (inl z) = subst (λ (x : ℕ). Round (line_of b (unread n) (refusing x))) (sym (eqb-true m 0 z)) (bystands_round b (unread n) (refusing 0) refusing_bystands (λ j. refl))
      go (inr z) = refused_round b (unread n) (refusing m) (refusing_away m z)

  pub call_round : (i : Decoded) → ((e : Event) → i ≡ read_as e → (0 < e.kind) × (e.kind ≤ 9)) → Round (line_of b i (comes_to b i))
  unfolding comes_to
  call_round (unread n) k = split_if (λ c. Round (line_of b (unread n) c)) (rules b) (λ x. unread_round n n) (λ x. unread_round n 1)
  call_round (read_as e) k =
      let (l, h) = k e refl in
      split_if (λ c. Round (line_of b (read_as e) c)) (rules b)
      (λ x. did_round (ruled b x) e l h (step_of b e) (step_walk (Stepped b (ruled b x) e l h) b e (ruled b x) (handles_stepped b (ruled b x) e l h)))
      (λ x. refused_round b (read_as e) (refusing 1) (refusing_away 1 refl))
