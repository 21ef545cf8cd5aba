-- What a change to one order leaves as it was: the other orders and their requests, and what is looked up for them. Rests on Records and Lift.
use Rattle.std.proofs.Common.{ℕ, ◌+◌, ◌-◌, ◌≤◌, ◌<◌, arith, ◌≡◌, refl, sym, ap, subst, ◌∙◌, ◌⊎◌, inl, inr, ⊎_elim, Bool, true, false, not, ◌&&◌, Some, List, eqb, leb, ltb, length, get_or, set, length-set, get_or-set_same, get_or-set_other, eqb-true, eq-eqb, ne_eqb, leb-true}
use Rattle.std.proofs.Math.Bool.{and-false}
use Rattle.std.proofs.Math.Decide.{ℕ_discrete}
use Rattle.std.proofs.lemmas.Bool.{and_parts, or_cases}
use Rattle.prelude.specs.Below.{first_below}
use Rattle.prelude.specs.Laws.Below.{First, first_some, first_hit, first_ext, first_past, count_ext, count_past}
use Rattle.prelude.specs.Cases.{if◌then◌otherwise◌}
use Rattle.prelude.specs.Laws.Cases.{clash}
use Rattle.prelude.specs.Texts.{same_text}
use Rattle.prelude.specs.declared.Text.{Text}
use Rattle.store.specs.declared.Order.{Order}
use Rattle.store.specs.declared.Request.{Request}
use Rattle.store.specs.Book.{Book, order_in, request_in}
use Rattle.store.specs.Orders.{no_order}
use Rattle.store.specs.Requests.{no_request}
use Rattle.store.specs.Finds.{find_name, find_downstream, find_clordid, count_clordids, has_clordid, of_client, used_by, bears_clordid}
use Rattle.machine.specs.Changes.{is_cancel}
use Rattle.machine.specs.Machine.{after, latest_cancel}
use Rattle.machine.specs.Rules.{cancel_rule, current_rule, pending_rule, current_test, pending_test, gateway_range}
use Rattle.machine.specs.declared.Change.{Change}
use Rattle.machine.proofs.Kept.Tables.{Linked, linked_at}
use Rattle.machine.proofs.Kept.Indexed.{BookKept}
use Rattle.machine.proofs.Kept.Lift.{after_case}
use Rattle.machine.proofs.Claim.Filled.{orders_set, after_orders}
use Rattle.machine.proofs.Claim.Records.{there_like, there_other, longer, added_own}
use Rattle.machine.proofs.Exchange.Links.{Within}

-- ---- a change of the order at index i and of its own requests

pub record Owned (b : Book) (i : ℕ) (c : Change) : Type 0 where
  pub inside : i < length b.orders
  pub there : c.place ≡ i + 1
  pub client : c.order.client ≡ (order_in b i).client
  pub name : c.order.names.name ≡ (order_in b i).names.name
  pub answers : (k : ℕ) → c.requests.answered ≡ k + 1 → (request_in b k).order ≡ i
  pub supersedes : (k : ℕ) → c.requests.superseded ≡ k + 1 → (request_in b k).order ≡ i
  pub answers_in : c.requests.answered ≤ length b.requests
  pub supersedes_in : c.requests.superseded ≤ length b.requests
  pub adds : (c.requests.added ≡ 0) ⊎ (c.requests.request.order ≡ i)

-- b' is b but for the order at index i and its own requests
pub record Apart (b b' : Book) (i : ℕ) : Type 0 where
  pub setting : b'.setting ≡ b.setting
  pub count : length b'.orders ≡ length b.orders
  pub others : (j : ℕ) → (j ≡ i → ⊥) → order_in b' j ≡ order_in b j
  pub clients : (j : ℕ) → (order_in b' j).client ≡ (order_in b j).client
  pub names : (j : ℕ) → (order_in b' j).names.name ≡ (order_in b j).names.name
  pub longer : length b.requests ≤ length b'.requests
  pub requests : (k : ℕ) → k < length b.requests → ((request_in b k).order ≡ i → ⊥) → request_in b' k ≡ request_in b k
  pub orders : (k : ℕ) → k < length b.requests → (request_in b' k).order ≡ (request_in b k).order
  pub clordids : (k : ℕ) → k < length b.requests → (request_in b' k).clordid ≡ (request_in b k).clordid
  pub downstreams : (k : ℕ) → k < length b.requests → (request_in b' k).downstream ≡ (request_in b k).downstream
  pub added : (k : ℕ) → length b.requests ≤ k → k < length b'.requests → (request_in b' k).order ≡ i

after_clordid : (b : Book) (c : Change) (k : ℕ) → k < length b.requests → (request_in (after b c) k).clordid ≡ (request_in b k).clordid
unfolding after
after_clordid b c k l = after_case (λ (q : Request). q.clordid ≡ (request_in b k).clordid) b.requests c k l refl (λ z. refl)

pub after_setting : (b : Book) (c : Change) → (after b c).setting ≡ b.setting
unfolding after
after_setting b c = refl

module _ (b : Book) (i : ℕ) (c : Change) (w : Owned b i c) where
  pub owned_orders : (after b c).orders ≡ set b.orders i c.order
  owned_orders = after_orders b c ∙ orders_set b.orders c i w.inside w.there

  pub owned_at : order_in (after b c) i ≡ c.order
  owned_at = ap (λ (os : List Order). get_or os i no_order) owned_orders ∙ get_or-set_same b.orders i c.order no_order w.inside

  pub owned_beside : (j : ℕ) → (j ≡ i → ⊥) → order_in (after b c) j ≡ order_in b j
  owned_beside j n = ap (λ (os : List Order). get_or os j no_order) owned_orders ∙ get_or-set_other b.orders i j c.order no_order n

  -- what the change keeps of its order, all orders keep
  each_order : {A : Type 0} (f : Order → A) → f c.order ≡ f (order_in b i) → (j : ℕ) → f (order_in (after b c) j) ≡ f (order_in b j)
  each_order f e j = go (ℕ_discrete j i)
    where
      go : Dec (j ≡ i) → f (order_in (after b c) j) ≡ f (order_in b j)
      go (yes z) = subst (λ (x : ℕ). f (order_in (after b c) x) ≡ f (order_in b x)) (sym z) (ap f owned_at ∙ e)
      go (no z) = ap f (owned_beside j z)

  pub apart : Apart b (after b c) i
  apart = record {
    setting = after_setting b c;
    count = ap length owned_orders ∙ length-set b.orders i c.order;
    others = owned_beside;
    clients = each_order (λ (o : Order). o.client) w.client;
    names = each_order (λ (o : Order). o.names.name) w.name;
    longer = longer b c;
    requests = λ k l n. there_other b c k l (λ z. n (w.answers k z)) (λ z. n (w.supersedes k z));
    orders = λ k l. (there_like b c k l).order;
    clordids = after_clordid b c;
    downstreams = λ k l. (there_like b c k l).text;
    added = added_own b c i w.adds;
  }

-- ---- lookups

module _ (b b' : Book) (i : ℕ) (a : Apart b b' i) where
  pub name_same : (t : Text) → find_name b' t ≡ find_name b t
  unfolding find_name
  name_same t =
      ap (first_below (λ k. same_text (order_in b' k).names.name t)) a.count
      ∙ first_ext (λ k. same_text (order_in b' k).names.name t) (λ k. same_text (order_in b k).names.name t) (length b.orders) (λ k l. ap (λ (x : Text). same_text x t) (a.names k))

  pub downstream_stays : (t : Text) (k : ℕ) → find_downstream b t ≡ Some k → find_downstream b' t ≡ Some k
  unfolding find_downstream
  downstream_stays t k h =
      let f : First (λ j. same_text (request_in b j).downstream t) (length b.requests) k = first_some _ _ k h in
      let l = f.below in
      first_hit (λ j. same_text (request_in b' j).downstream t) (length b'.requests) k (omega (arith, a.longer))
      (first_ext (λ j. same_text (request_in b' j).downstream t) (λ j. same_text (request_in b j).downstream t) k
      (λ j m. ap (λ (x : Text). same_text x t) (a.downstreams j (omega arith)))
      ∙ f.least)
      (ap (λ (x : Text). same_text x t) (a.downstreams k l) ∙ f.passes)

  -- the ClOrdIDs of another client
  module _ (client : ℕ) (other : (order_in b i).client ≡ client → ⊥) where
    of_same : (k : ℕ) → k < length b.requests → of_client b'.orders client (request_in b' k) ≡ of_client b.orders client (request_in b k)
    unfolding of_client
    of_same k l =
        ap (λ (x : ℕ). ltb x (length b'.orders) && eqb (order_in b' x).client client) (a.orders k l)
        ∙ ap (λ (x : ℕ). ltb (request_in b k).order x && eqb (order_in b' (request_in b k).order).client client) a.count
        ∙ ap (λ (x : ℕ). ltb (request_in b k).order (length b.orders) && eqb x client) (a.clients (request_in b k).order)

    of_added : (k : ℕ) → length b.requests ≤ k → k < length b'.requests → of_client b'.orders client (request_in b' k) ≡ false
    unfolding of_client
    of_added k l u =
        let e : eqb (order_in b' (request_in b' k).order).client client ≡ false =
        ap (λ (x : ℕ). eqb (order_in b' x).client client) (a.added k l u) ∙ ap (λ (x : ℕ). eqb x client) (a.clients i) ∙ ne_eqb _ client other in
        ap (λ (x : Bool). ltb (request_in b' k).order (length b'.orders) && x) e ∙ and-false (ltb (request_in b' k).order (length b'.orders))

    has_same : (k : ℕ) → k < length b.requests → has_clordid (request_in b' k) ≡ has_clordid (request_in b k)
    has_same k l = ap (λ (t : Text). has_clordid (record { order = 0; kind = 0; answered = 0; clordid = t; origclordid = t; downstream = t; outcome = 0 })) (a.clordids k l)

    pub clordid_same : (t : Text) → find_clordid b' client t ≡ find_clordid b client t
    unfolding find_clordid
    clordid_same t =
        first_past (λ k. bears_clordid b'.orders client t (request_in b' k)) (length b.requests) (length b'.requests) a.longer
        (λ k l u. ap (λ (x : Bool). has_clordid (request_in b' k) && (same_text (request_in b' k).clordid t && x)) (of_added k l u)
        ∙ ap (λ (x : Bool). has_clordid (request_in b' k) && x) (and-false (same_text (request_in b' k).clordid t)) ∙ and-false (has_clordid (request_in b' k)))
        ∙ first_ext (λ k. bears_clordid b'.orders client t (request_in b' k)) (λ k. bears_clordid b.orders client t (request_in b k)) (length b.requests)
        (λ k l. ap (λ (x : Bool). x && (same_text (request_in b' k).clordid t && of_client b'.orders client (request_in b' k))) (has_same k l)
        ∙ ap (λ (x : Text). has_clordid (request_in b k) && (same_text x t && of_client b'.orders client (request_in b' k))) (a.clordids k l)
        ∙ ap (λ (x : Bool). has_clordid (request_in b k) && (same_text (request_in b k).clordid t && x)) (of_same k l))

    pub count_same : count_clordids b' client ≡ count_clordids b client
    unfolding count_clordids
    count_same =
        count_past (λ k. used_by b'.orders client (request_in b' k)) (length b.requests) (length b'.requests) a.longer
        (λ k l u. ap (λ (x : Bool). has_clordid (request_in b' k) && x) (of_added k l u) ∙ and-false (has_clordid (request_in b' k)))
        ∙ count_ext (λ k. used_by b'.orders client (request_in b' k)) (λ k. used_by b.orders client (request_in b k)) (length b.requests)
        (λ k l. ap (λ (x : Bool). x && of_client b'.orders client (request_in b' k)) (has_same k l)
        ∙ ap (λ (x : Bool). has_clordid (request_in b k) && x) (of_same k l))

  -- the latest cancel of another order
  module _ (good : BookKept b) (j : ℕ) (h : j < length b.orders) (other : j ≡ i → ⊥) where
    linked_same : (l : ℕ) → (l ≡ 0) ⊎ Linked is_cancel j l b.requests → (eqb l 0 ≡ false) → request_in b' (l - 1) ≡ request_in b (l - 1)
    linked_same l (inl z) e = clash (eqb l 0) (eq-eqb l 0 z) e
    linked_same l (inr k) e =
        let above = k.above in
        let within = k.within in
        a.requests (l - 1) (omega arith) (λ z. other (sym k.own ∙ z))

    cancel_of : (l : ℕ) → cancel_rule j l b.requests ≡ true → (l ≡ 0) ⊎ Linked is_cancel j l b.requests
    unfolding cancel_rule
    cancel_of l e = ⊎_elim (λ z. inl (eqb-true l 0 z)) (λ z. inr (linked_at is_cancel j l b.requests z)) (or_cases (eqb l 0) _ e)

    pub latest_same : latest_cancel b' (order_in b j) ≡ latest_cancel b (order_in b j)
    unfolding latest_cancel
    latest_same =
        let l : ℕ = (order_in b j).links.cancel in
        go (eqb l 0) (λ e. linked_same l (cancel_of l (good.order j h).cancel) e)
      where
        go : (z : Bool) → (z ≡ false → request_in b' ((order_in b j).links.cancel - 1) ≡ request_in b ((order_in b j).links.cancel - 1))
            → (if z then no_request otherwise request_in b' ((order_in b j).links.cancel - 1)) ≡ (if z then no_request otherwise request_in b ((order_in b j).links.cancel - 1))
        go true f = unfold if◌then◌otherwise◌ in refl
        go false f = unfold if◌then◌otherwise◌ in f refl

-- ---- the links of a book's orders name its requests

module _ (b : Book) (good : BookKept b) where
  module _ (i : ℕ) (h : i < length b.orders) where
    current_within : (order_in b i).links.current ≤ length b.requests
    current_within = go (good.order i h).current
      where
        go : current_rule i (order_in b i) b.requests ≡ true → (order_in b i).links.current ≤ length b.requests
        go e = unfold current_rule in (linked_at (current_test (order_in b i).names.downstream) i (order_in b i).links.current b.requests e).within

    cancel_within : (l : ℕ) → cancel_rule i l b.requests ≡ true → l ≤ length b.requests
    unfolding cancel_rule
    cancel_within l e = ⊎_elim (λ z. let w : l ≡ 0 = eqb-true l 0 z in omega arith) (λ z. (linked_at is_cancel i l b.requests z).within) (or_cases (eqb l 0) _ e)

    pending_within : (l : ℕ) → pending_rule i l b.requests ≡ true → l ≤ length b.requests
    unfolding pending_rule
    pending_within l e = ⊎_elim (λ z. let w : l ≡ 0 = eqb-true l 0 z in omega arith) (λ z. (linked_at pending_test i l b.requests z).within) (or_cases (eqb l 0) _ e)

    gateway_within : gateway_range (length b.requests) (order_in b i).gateway ≡ true → (order_in b i).gateway.origdownstream ≤ length b.requests
    unfolding gateway_range
    gateway_within e =
        let g = (order_in b i).gateway in
        let x : Bool = not (g.unsent && g.stuck) in
        let y : Bool = leb g.origdownstream (length b.requests) in
        leb-true _ _ (and_parts x y (and_parts (x && y) _ e).0).1

    pub links_within : Within (length b.requests) (order_in b i)
    links_within = record {
      current = current_within;
      cancel = cancel_within _ (good.order i h).cancel;
      pending = pending_within _ (good.order i h).pending;
      named = gateway_within (good.order i h).gateway;
    }
