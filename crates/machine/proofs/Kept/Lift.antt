-- From one order to the book: a change that keeps its order's rules keeps the book's. Rests on Indexed and Keep.
use Rattle.std.proofs.Common.{ℕ, ◌+◌, ◌-◌, ◌≤◌, ◌<◌, arith, ◌≡◌, refl, sym, ap, subst, ◌∙◌, ◌⊎◌, inl, inr, ⊎_elim, Bool, true, false, not, ◌&&◌, ◌||◌, List, [], ◌∷◌, ◌++◌, eqb, leb, ltb, length, get_or, set, length-append, length-set, get_or-set_same, get_or-set_other, eqb-true, leb-true, leb-false, le-leb, ltb-true, lt-ltb}
use Rattle.std.proofs.Math.Decide.{ℕ_discrete, dec_lt}
use Rattle.std.proofs.Math.ListN.{get_or-append}
use Rattle.std.proofs.Math.Seq.{get_or-append_seam}
use Rattle.std.proofs.lemmas.Bool.{lt-leb, and_parts, and_from, not_from_false}
use Rattle.prelude.specs.Below.{count_below}
use Rattle.prelude.specs.Laws.Below.{count_ext}
use Rattle.prelude.specs.Cases.{if◌then◌otherwise◌}
use Rattle.prelude.specs.Laws.Cases.{split_if, if_true, if_false}
use Rattle.prelude.specs.Texts.{same_text}
use Rattle.prelude.specs.declared.Text.{Text}
use Rattle.store.specs.declared.Order.{Order}
use Rattle.store.specs.declared.Request.{Request}
use Rattle.store.specs.Book.{Book, order_in, request_in, answered}
use Rattle.store.specs.Orders.{no_order}
use Rattle.machine.specs.Orders.{is_empty}
use Rattle.machine.specs.Changes.{is_first, is_gateway, is_answered}
use Rattle.machine.specs.Machine.{answer_link, orders_after, requests_after, after, has_room}
use Rattle.machine.specs.Rules.{request_range, outcome_rule, of_order, number_in, number_rule, origin_rule, client_of, same_key}
use Rattle.machine.specs.declared.Change.{Change}
use Rattle.machine.proofs.Kept.Laws.{or_else, decide}
use Rattle.machine.proofs.Kept.Tables.{at, Linked, length_answer, answer_case, answer_order, length_more, more_old, more_new, owned, number_same, Same, origin_same}
use Rattle.machine.proofs.Kept.Local.{OrderKept, answer_kept, other_kept}
use Rattle.machine.proofs.Kept.OrderSteps.{pending_parts}
use Rattle.machine.proofs.Kept.Keep.{Added, Kept, settled_by, after_settled, after_more, length_settled}
use Rattle.machine.proofs.Kept.Indexed.{RangeKept, range_kept, kept_range, RequestKept, BookKept}

-- ---- the requests after a change

-- the change answers or supersedes request j
abbrev pub Settled : Change → ℕ → Type 0
Settled c j = (c.requests.answered ≡ j + 1) ⊎ (c.requests.superseded ≡ j + 1)

pub after_case : (P : Request → Type 0) (qs : List Request) (c : Change) (j : ℕ) → j < length qs → P (at qs j) → (Settled c j → P (answered c.requests.outcome (at qs j)))
    → P (at (requests_after qs c) j)
unfolding requests_after if◌then◌otherwise◌
after_case P qs c j h p a =
    let v : ℕ = c.requests.outcome in
    let h' : j < length (answer_link c.requests.answered v qs) = subst (λ (n : ℕ). j < n) (sym (length_answer c.requests.answered v qs)) h in
    let s : P (at (settled_by qs c) j) =
    answer_case P c.requests.superseded v (answer_link c.requests.answered v qs) j h'
    (λ d. answer_case P c.requests.answered v qs j h (λ d. p) (λ e. a (inl e)))
    (λ e. answer_case (λ (q : Request). P (answered v q)) c.requests.answered v qs j h (λ d. a (inr e)) (λ d. a (inl d))) in
    split_if (λ (l : List Request). P (at l j)) (eqb c.requests.added 0) (λ e. s)
    (λ e. subst P (sym (more_old (settled_by qs c) c.requests.request j (subst (λ (n : ℕ). j < n) (sym (length_settled qs c)) h))) s)

pub after_order : (qs : List Request) (c : Change) (j : ℕ) → j < length qs → (at (requests_after qs c) j).order ≡ (at qs j).order
after_order qs c j h = after_case (λ (q : Request). q.order ≡ (at qs j).order) qs c j h refl (λ z. refl)

pub after_same : (qs : List Request) (c : Change) (j : ℕ) → j < length qs → Same (at (requests_after qs c) j) (at qs j)
after_same qs c j h =
    after_case (λ (q : Request). Same q (at qs j)) qs c j h (record { order = refl; clordid = refl; origclordid = refl }) (λ z. record { order = refl; clordid = refl; origclordid = refl })

-- a request is an old one, or the one that was added
pub record NewAt (qs : List Request) (c : Change) (j : ℕ) : Type 0 where
  pub added : eqb c.requests.added 0 ≡ false
  pub place : j ≡ length qs
  pub is : at (requests_after qs c) j ≡ c.requests.request

pub after_new : (qs : List Request) (c : Change) (j : ℕ) → j < length (requests_after qs c) → (j < length qs) ⊎ NewAt qs c j
after_new qs c j h = decide (eqb c.requests.added 0) old more
  where
    old : eqb c.requests.added 0 ≡ true → (j < length qs) ⊎ NewAt qs c j
    old e = inl (subst (λ (n : ℕ). j < n) (ap length (after_settled qs c e) ∙ length_settled qs c) h)

    new : eqb c.requests.added 0 ≡ false → j ≡ length (settled_by qs c) → NewAt qs c j
    new e z = record {
      added = e;
      place = z ∙ length_settled qs c;
      is = ap (λ (l : List Request). at l j) (after_more qs c e) ∙ ap (at (settled_by qs c ++ (c.requests.request ∷ []))) z ∙ more_new (settled_by qs c) c.requests.request;
    }

    more : eqb c.requests.added 0 ≡ false → (j < length qs) ⊎ NewAt qs c j
    more e =
        let n : length (requests_after qs c) ≡ length (settled_by qs c) + 1 = ap length (after_more qs c e) ∙ length_more (settled_by qs c) c.requests.request in
        go n (length_settled qs c) (ℕ_discrete j (length (settled_by qs c)))
      where
        go : length (requests_after qs c) ≡ length (settled_by qs c) + 1 → length (settled_by qs c) ≡ length qs → Dec (j ≡ length (settled_by qs c)) → (j < length qs) ⊎ NewAt qs c j
        go n m (yes z) = inr (new e z)
        go n m (no z) = inl (omega arith)

pub after_longer : (qs : List Request) (c : Change) → length qs ≤ length (requests_after qs c)
after_longer qs c =
    decide (eqb c.requests.added 0) (λ e. omega (arith, ap length (after_settled qs c e) ∙ length_settled qs c))
    (λ e. omega (arith, ap length (after_more qs c e) ∙ length_more (settled_by qs c) c.requests.request, length_settled qs c))

-- ---- the orders after a change

-- order i is the change's, and the others are as they were
pub record Placed (os os' : List Order) (i : ℕ) (o : Order) : Type 0 where
  pub here : get_or os' i no_order ≡ o
  pub below : i < length os'
  pub other : (k : ℕ) → (k ≡ i → ⊥) → k < length os' → (k < length os) × (get_or os' k no_order ≡ get_or os k no_order)
  pub longer : length os ≤ length os'
  pub room : leb (i + 1) (length os) || ltb (length os) 64 ≡ true → length os ≤ 64 → length os' ≤ 64

placed_set : (os : List Order) (i : ℕ) (o : Order) → i < length os → Placed os (set os i o) i o
placed_set os i o h = record {
  here = get_or-set_same os i o no_order h;
  below = subst (λ (n : ℕ). i < n) (sym (length-set os i o)) h;
  other = λ k d l. (subst (λ (n : ℕ). k < n) (length-set os i o) l, get_or-set_other os i k o no_order d);
  longer = omega (arith, length-set os i o);
  room = λ r n. omega (arith, length-set os i o);
}

placed_new : (os : List Order) (o : Order) → Placed os (os ++ (o ∷ [])) (length os) o
placed_new os o =
    let n : length (os ++ (o ∷ [])) ≡ length os + 1 = length-append os (o ∷ []) in
    record {
      here = get_or-append_seam os o [] no_order;
      below = omega arith;
      other = λ k d l. let h : k < length os = omega (arith, apart k d n l) in (h, get_or-append os (o ∷ []) no_order k h);
      longer = omega arith;
      room = λ r m. let h : length os < 64 = ltb-true (length os) 64 (or_else (leb (length os + 1) (length os)) _ (lt-leb (length os + 1) (length os) (omega arith)) r) in omega arith;
    }
  where
    apart : (k : ℕ) → (k ≡ length os → ⊥) → length (os ++ (o ∷ [])) ≡ length os + 1 → k < length (os ++ (o ∷ [])) → k < length os
    apart k d n l = omega arith

pub placed : (os : List Order) (c : Change) (i : ℕ) → c.place ≡ i + 1 → i ≤ length os → Placed os (orders_after os c) i c.order
unfolding orders_after
placed os c i p h =
    let minus : c.place - 1 ≡ i = omega arith in
    split_if (λ (l : List Order). Placed os l i c.order) (eqb c.place 0) (λ e. let z : c.place ≡ 0 = eqb-true c.place 0 e in absurd (omega arith))
    (λ e. split_if (λ (l : List Order). Placed os l i c.order) (leb c.place (length os))
    (λ t. let l : c.place ≤ length os = leb-true c.place (length os) t in
    subst (λ (k : ℕ). Placed os (set os k c.order) i c.order) (sym minus) (placed_set os i c.order (omega arith)))
    (λ t. let l : length os < c.place = leb-false c.place (length os) t in
    let z : length os ≡ i = omega arith in
    subst (λ (k : ℕ). Placed os (os ++ (c.order ∷ [])) k c.order) z (placed_new os c.order)))

-- ---- the other orders

-- a link of order i's is not what another order's pending terms name
other_free : (i k link : ℕ) (o : Order) (qs : List Request) → (i ≡ k → ⊥) → ((j : ℕ) → link ≡ j + 1 → j < length qs → (at qs j).order ≡ i) → OrderKept k o qs
    → link ≡ o.pending.request → link ≡ 0
other_free i k link o qs d owns l z = decide (eqb o.pending.request 0) (λ e. z ∙ eqb-true o.pending.request 0 e) (λ e. absurd (never e))
  where
    never : eqb o.pending.request 0 ≡ false → ⊥
    never e =
        let p : Linked _ k o.pending.request qs = (pending_parts k o qs e l).link in
        let above : 0 < o.pending.request = p.above in
        let within : o.pending.request ≤ length qs = p.within in
        d (sym (owns (o.pending.request - 1) (omega arith) (omega arith)) ∙ p.own)

module _ (b : Book) (i : ℕ) (c : Change) (m : Kept b i c) where
  pub others_kept : (k : ℕ) (o : Order) → (i ≡ k → ⊥) → OrderKept k o b.requests → OrderKept k o (requests_after b.requests c)
  others_kept k o d l =
      let a : ℕ = c.requests.answered in
      let v : ℕ = c.requests.outcome in
      let qs : List Request = answer_link a v b.requests in
      let l₁ : OrderKept k o qs = answer_kept k a v o b.requests (other_free i k a o b.requests d (λ j z h. m.answers j z) l) l in
      let l₂ : OrderKept k o (settled_by b.requests c) =
      answer_kept k c.requests.superseded v o qs
      (other_free i k c.requests.superseded o qs d
      (λ j z h. answer_order a v b.requests j (subst (λ (n : ℕ). j < n) (length_answer a v b.requests) h) ∙ m.supersedes j z) l₁) l₁ in
      decide (eqb c.requests.added 0)
      (λ e. subst (OrderKept k o) (sym (after_settled b.requests c e)) l₂)
      (λ e. subst (OrderKept k o) (sym (after_more b.requests c e))
      (other_kept k (settled_by b.requests c) c.requests.request o (λ z. d (sym (m.added e).order ∙ z)) l₂))

-- ---- the book

answered_range : (v : ℕ) (q : Request) → request_range q ≡ true → request_range (answered v q) ≡ true
unfolding is_gateway is_first
answered_range v q e = let r : RangeKept q = range_kept q e in kept_range (answered v q) (record { kind = r.kind; answered = omega arith; clordid = r.clordid; origclordid = r.origclordid })

answered_number : (v : ℕ) (name : Text) (n : ℕ) (q : Request) → number_rule name n q ≡ true → number_rule name n (answered v q) ≡ true
unfolding number_rule is_first
answered_number v name n q e = e

-- what an answered request comes to fits, and a request that was answered keeps what it has
answered_outcome : (v : ℕ) (q : Request) → 0 < v → v ≤ 3 → outcome_rule q ≡ true → outcome_rule (answered v q) ≡ true
unfolding outcome_rule is_answered if◌then◌otherwise◌
answered_outcome v q l m e = decide (eqb q.answered 0)
    (λ z. fits (if_true _ _ _ z) l m)
    (λ z. subst (λ (n : ℕ). ltb 0 n && leb n 3 ≡ true) (sym (if_false _ v q.outcome z)) (sym (if_true (not (eqb q.answered 0)) _ _ (not_from_false _ z)) ∙ e))
  where
    fits : {n : ℕ} → n ≡ v → 0 < v → v ≤ 3 → ltb 0 n && leb n 3 ≡ true
    fits {n} s l m = and_from _ _ (lt-ltb 0 n (omega arith)) (le-leb n 3 (omega arith))

-- what the requests that a change answers come to is an outcome
abbrev pub Outcome : Change → Type 0
Outcome c = ((c.requests.answered ≡ 0) × (c.requests.superseded ≡ 0)) ⊎ ((0 < c.requests.outcome) × (c.requests.outcome ≤ 3))

module _ (b : Book) (i : ℕ) (c : Change) (good : BookKept b) (m : Kept b i c) (there : i ≤ length b.orders) (room : has_room b c ≡ true) (came : Outcome c)
    (apart : length b.orders ≤ i → (j : ℕ) → j < length b.orders → same_text c.order.names.name (order_in b j).names.name ≡ false) where
  put : Placed b.orders (orders_after b.orders c) i c.order
  put = placed b.orders c i m.place there

  -- what an order that was there had
  order_case : (P : Order → Type 0) (k : ℕ) → k < length b.orders → (k ≡ i → P c.order) → P (order_in b k) → P (get_or (orders_after b.orders c) k no_order)
  order_case P k h p q = go (ℕ_discrete k i) put.longer
    where
      go : Dec (k ≡ i) → length b.orders ≤ length (orders_after b.orders c) → P (get_or (orders_after b.orders c) k no_order)
      go (yes z) l = subst (λ (n : ℕ). P (get_or (orders_after b.orders c) n no_order)) (sym z) (subst P (sym put.here) (p z))
      go (no z) l = subst P (sym (put.other k z (omega arith)).1) q

  name_same : (k : ℕ) → k < length b.orders → (get_or (orders_after b.orders c) k no_order).names.name ≡ (order_in b k).names.name
  name_same k h = order_case (λ (o : Order). o.names.name ≡ (order_in b k).names.name) k h
      (λ z. m.name (subst (λ (n : ℕ). n < length b.orders) z h) ∙ ap (λ (n : ℕ). (order_in b n).names.name) (sym z)) refl

  client_same : (k : ℕ) → k < length b.orders → (get_or (orders_after b.orders c) k no_order).client ≡ (order_in b k).client
  client_same k h = order_case (λ (o : Order). o.client ≡ (order_in b k).client) k h
      (λ z. m.client (subst (λ (n : ℕ). n < length b.orders) z h) ∙ ap (λ (n : ℕ). (order_in b n).client) (sym z)) refl

  orders_kept : (k : ℕ) → k < length (orders_after b.orders c) → OrderKept k (get_or (orders_after b.orders c) k no_order) (requests_after b.requests c)
  orders_kept k h = go (ℕ_discrete k i)
    where
      go : Dec (k ≡ i) → OrderKept k (get_or (orders_after b.orders c) k no_order) (requests_after b.requests c)
      go (yes z) = subst (λ (n : ℕ). OrderKept n (get_or (orders_after b.orders c) n no_order) (requests_after b.requests c)) (sym z)
          (subst (λ (o : Order). OrderKept i o (requests_after b.requests c)) (sym put.here) m.rule)
      go (no z) =
          let o = put.other k z h in
          subst (λ (o : Order). OrderKept k o (requests_after b.requests c)) (sym o.1) (others_kept b i c m k (order_in b k) (λ y. z (sym y)) (good.order k o.0))

  -- the client of a request that was there
  old_client : (j : ℕ) → j < length b.requests → client_of (after b c) j ≡ client_of b j
  unfolding after
  old_client j h =
      ap (λ (n : ℕ). (get_or (orders_after b.orders c) n no_order).client) (after_order b.requests c j h) ∙ client_same (request_in b j).order (good.request j h).order

  old_request : (j : ℕ) → j < length b.requests → RequestKept (after b c) j
  unfolding after
  old_request j h =
      let qs : List Request = requests_after b.requests c in
      let r : RequestKept b j = good.request j h in
      let same : (at qs j).order ≡ (request_in b j).order = after_order b.requests c j h in
      let l : (at qs j).order < length (orders_after b.orders c) = omega (arith, r.order, put.longer, same) in
      record {
        range = after_case (λ (q : Request). request_range q ≡ true) b.requests c j h r.range (λ z. answered_range _ (request_in b j) r.range);
        outcome = after_case (λ (q : Request). outcome_rule q ≡ true) b.requests c j h r.outcome (λ z. settled_outcome r.outcome came z);
        order = l;
        number =
            subst (λ (t : Text). number_rule t (number_in qs j) (at qs j) ≡ true)
            (sym (ap (λ (n : ℕ). (get_or (orders_after b.orders c) n no_order).names.name) same ∙ name_same (request_in b j).order r.order))
            (subst (λ (n : ℕ). number_rule (order_in b (request_in b j).order).names.name n (at qs j) ≡ true)
            (sym (number_same qs b.requests j (λ k z. after_order b.requests c k (omega arith))))
            (after_case (λ (q : Request). number_rule (order_in b (request_in b j).order).names.name (number_in b.requests j) q ≡ true) b.requests c j h r.number
            (λ z. answered_number _ _ _ (request_in b j) r.number)));
        flight = (orders_kept (at qs j).order l).flight j (omega (arith, after_longer b.requests c)) refl;
        origin = origin_same qs b.requests j (λ k z. after_same b.requests c k (omega arith)) ∙ r.origin;
      }
    where
      settled_outcome : outcome_rule (request_in b j) ≡ true → Outcome c → Settled c j → outcome_rule (answered c.requests.outcome (request_in b j)) ≡ true
      settled_outcome e (inr (l, h)) z = answered_outcome _ (request_in b j) l h e
      settled_outcome e (inl (x, y)) (inl z) = absurd (omega arith)
      settled_outcome e (inl (x, y)) (inr z) = absurd (omega arith)

  new_request : (j : ℕ) → NewAt b.requests c j → j < length (requests_after b.requests c) → RequestKept (after b c) j
  unfolding after
  new_request j n h =
      let qs : List Request = requests_after b.requests c in
      let a : Added b i c.order c.requests.request = m.added n.added in
      let same : (at qs j).order ≡ i = ap (λ (q : Request). q.order) n.is ∙ a.order in
      let l : (at qs j).order < length (orders_after b.orders c) = omega (arith, put.below, same) in
      record {
        range = subst (λ (q : Request). request_range q ≡ true) (sym n.is) a.range;
        outcome = subst (λ (q : Request). outcome_rule q ≡ true) (sym n.is) a.outcome;
        order = l;
        number =
            subst (λ (t : Text). number_rule t (number_in qs j) (at qs j) ≡ true)
            (sym (ap (λ (k : ℕ). (get_or (orders_after b.orders c) k no_order).names.name) same ∙ ap (λ (o : Order). o.names.name) put.here))
            (subst (λ (k : ℕ). number_rule c.order.names.name k (at qs j) ≡ true) (sym (number n same))
            (subst (λ (q : Request). number_rule c.order.names.name (owned i b.requests) q ≡ true) (sym n.is) a.number));
        flight = (orders_kept (at qs j).order l).flight j h refl;
        origin = subst (λ (k : ℕ). origin_rule qs k ≡ true) (sym n.place) (origin_same qs (b.requests ++ (c.requests.request ∷ [])) (length b.requests) same_up ∙ a.origin);
      }
    where
      -- a request that was there, or the one that is added
      same_up : (k : ℕ) → k ≤ length b.requests → Same (at (requests_after b.requests c) k) (at (b.requests ++ (c.requests.request ∷ [])) k)
      same_up k z = go (ℕ_discrete k (length b.requests))
        where
          go : Dec (k ≡ length b.requests) → Same (at (requests_after b.requests c) k) (at (b.requests ++ (c.requests.request ∷ [])) k)
          go (yes y) =
              subst (λ (q : Request). Same (at (requests_after b.requests c) k) q) (sym (ap (at (b.requests ++ (c.requests.request ∷ []))) y ∙ more_new b.requests c.requests.request))
              (subst (λ (q : Request). Same q c.requests.request) (sym (ap (at (requests_after b.requests c)) (y ∙ sym n.place) ∙ n.is)) (record { order = refl; clordid = refl; origclordid = refl }))
          go (no y) =
              let old : k < length b.requests = omega arith in
              subst (λ (q : Request). Same (at (requests_after b.requests c) k) q) (sym (more_old b.requests c.requests.request k old)) (after_same b.requests c k old)

      number : NewAt b.requests c j → (at (requests_after b.requests c) j).order ≡ i → number_in (requests_after b.requests c) j ≡ owned i b.requests
      number n same = unfold number_in in
          ap (λ (k : ℕ). count_below (of_order (requests_after b.requests c) k) j) same
          ∙ ap (count_below (of_order (requests_after b.requests c) i)) n.place
          ∙ count_ext (of_order (requests_after b.requests c) i) (of_order b.requests i) (length b.requests) (λ k l. ap (λ (x : ℕ). eqb x i) (after_order b.requests c k l))

  names_apart_lem : (k j : ℕ) → k < length (orders_after b.orders c) → j < k
      → same_text (get_or (orders_after b.orders c) k no_order).names.name (get_or (orders_after b.orders c) j no_order).names.name ≡ false
  names_apart_lem k j h l = go (dec_lt k (length b.orders)) (ℕ_discrete k i)
    where
      name_of : ℕ → Text
      name_of n = (get_or (orders_after b.orders c) n no_order).names.name

      go : Dec (k < length b.orders) → Dec (k ≡ i) → same_text (name_of k) (name_of j) ≡ false
      go (yes z) d =
          ap (λ (t : Text). same_text t (name_of j)) (name_same k z) ∙ ap (same_text (order_in b k).names.name) (name_same j (omega arith)) ∙ good.names k j z l
      go (no z) (no d) = absurd (z (put.other k d h).0)
      go (no z) (yes d) =
          ap (λ (t : Text). same_text t (name_of j)) (ap name_of d ∙ ap (λ (o : Order). o.names.name) put.here)
          ∙ ap (same_text c.order.names.name) (name_same j (omega arith)) ∙ apart (omega arith) j (omega arith)

  old_clordid : (j : ℕ) → j < length b.requests → (at (requests_after b.requests c) j).clordid ≡ (request_in b j).clordid
  old_clordid j h = after_case (λ (q : Request). q.clordid ≡ (request_in b j).clordid) b.requests c j h refl (λ z. refl)

  keys_apart_lem : (k j : ℕ) → k < length (requests_after b.requests c) → j < k → same_key (after b c) k j ≡ false
  unfolding same_key after
  keys_apart_lem k j h l = ⊎_elim old new (after_new b.requests c k h)
    where
      key : Text → ℕ → ℕ → Text → Bool
      key s x y t = not (is_empty s) && eqb x y && same_text s t

      qs : List Request
      qs = requests_after b.requests c

      -- the key of k, and j's as it was
      of : (s : Text) (x : ℕ) → (at qs k).clordid ≡ s → client_of (after b c) k ≡ x → j < length b.requests → key s x (client_of b j) (request_in b j).clordid ≡ false
          → same_key (after b c) k j ≡ false
      of s x p q old f =
          ap (λ (t : Text). key t (client_of (after b c) k) (client_of (after b c) j) (at qs j).clordid) p
          ∙ ap (λ (n : ℕ). key s n (client_of (after b c) j) (at qs j).clordid) q
          ∙ ap (λ (n : ℕ). key s x n (at qs j).clordid) (old_client j old)
          ∙ ap (key s x (client_of b j)) (old_clordid j old)
          ∙ f

      old : k < length b.requests → same_key (after b c) k j ≡ false
      old z = of (request_in b k).clordid (client_of b k) (old_clordid k z) (old_client k z) (omega arith) (good.keys k j z l)

      new : NewAt b.requests c k → same_key (after b c) k j ≡ false
      new n =
          let z : k ≡ length b.requests = n.place in
          of c.requests.request.clordid c.order.client (ap (λ (q : Request). q.clordid) n.is)
          (ap (λ (q : Request). (get_or (orders_after b.orders c) q.order no_order).client) n.is
          ∙ ap (λ (x : ℕ). (get_or (orders_after b.orders c) x no_order).client) (m.added n.added).order ∙ ap (λ (o : Order). o.client) put.here)
          (omega arith) ((m.added n.added).fresh j (omega arith))

  -- there is room for the request
  requests_room : length (requests_after b.requests c) ≤ 256
  unfolding has_room
  requests_room =
      let r : eqb c.requests.added 0 || ltb (length b.requests) 256 ≡ true =
      (and_parts (leb c.place (length b.orders) || ltb (length b.orders) 64) (eqb c.requests.added 0 || ltb (length b.requests) 256) room).1 in
      decide (eqb c.requests.added 0) (λ e. omega (arith, good.requests, ap length (after_settled b.requests c e) ∙ length_settled b.requests c))
      (λ e. omega (
        arith,
        ltb-true (length b.requests) 256 (or_else (eqb c.requests.added 0) _ e r),
        ap length (after_more b.requests c e) ∙ length_more (settled_by b.requests c) c.requests.request,
        length_settled b.requests c,
      ))

  orders_room : length (orders_after b.orders c) ≤ 64
  unfolding has_room
  orders_room =
      put.room (subst (λ (n : ℕ). leb n (length b.orders) || ltb (length b.orders) 64 ≡ true) m.place
      (and_parts (leb c.place (length b.orders) || ltb (length b.orders) 64) (eqb c.requests.added 0 || ltb (length b.requests) 256) room).0) good.orders

  pub lift : BookKept (after b c)
  unfolding after
  lift = record {
    orders = orders_room;
    requests = requests_room;
    order = orders_kept;
    request = λ j h. ⊎_elim (λ z. old_request j z) (λ n. new_request j n h) (after_new b.requests c j h);
    names = names_apart_lem;
    keys = keys_apart_lem;
  }
