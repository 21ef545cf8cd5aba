-- What an order's links name in a joined book: each the request that it named, in its new place. Rests on Joined and the book's rules.
use Rattle.std.specs.Prelude.{◌≡◌, Bool, true, false, not, ◌&&◌, ◌||◌, refl, ℕ, ◌+◌, ◌-◌, ◌≤◌, ◌<◌, eqb, length}
use Rattle.std.proofs.Common.{ap, sym, ◌∙◌, ◌⊎◌, inl, inr, ⊎_elim, arith, eqb-true, eq-eqb, ne_eqb, leb-true}
use Rattle.std.proofs.lemmas.Bool.{eqb-false, and_parts, or_left, or_right, or_cases}
use Rattle.std.specs.Cmp.{both_ways}
use Rattle.prelude.specs.Below.{first_below, count_below}
use Rattle.prelude.specs.Laws.Below.{First, first_some, count_ext}
use Rattle.prelude.specs.Laws.Cases.{split_if, split_maybe, clash}
use Rattle.store.specs.declared.Request.{Request}
use Rattle.store.specs.Book.{Book, order_in, request_in}
use Rattle.machine.specs.Changes.{is_gateway}
use Rattle.machine.specs.Rules.{linked, of_order, current_test, current_rule, gateway_range}
use Rattle.machine.proofs.Kept.Tables.{at, Linked, linked_at, at_linked, owned}
use Rattle.machine.proofs.Kept.Indexed.{BookKept}
use Rattle.parts.specs.Parts.{of_passing, own_cancel, named_along, moved_link, moved_request, joined}
use Rattle.parts.specs.Laws.Ranks.{rank_below, rank_injective, count_ranks, count_behind}
use Rattle.parts.specs.Laws.Joined.{moved_above, moved_zero, joined_requests, joined_old_request, joined_request}

-- where order i goes
abbrev pub new_place : (p : ℕ → Bool) (into : Book) (i : ℕ) → ℕ
new_place p into i = length into.orders + count_below p i

-- the link of a request that goes along
pub record Along (p : ℕ → Bool) (b : Book) (l : ℕ) : Type 0 where
  pub above : 0 < l
  pub within : l ≤ length b.requests
  pub passes : of_passing p b (l - 1) ≡ true

or_first : (x y : Bool) → x || y ≡ false → x ≡ false
or_first x y e = grind arith

module _ (p : ℕ → Bool) (into b : Book) where
  -- a link of one that goes along is within the table
  pub along_within : (l : ℕ) → Along p b l → moved_link (of_passing p b) (length into.requests) l ≤ length (joined p into b).requests
  along_within l a =
      let above : 0 < l = a.above in
      let within : l ≤ length b.requests = a.within in
      let r : count_below (of_passing p b) (l - 1) < count_below (of_passing p b) (length b.requests) =
      rank_below (of_passing p b) (l - 1) (length b.requests) (omega arith) a.passes in
      omega (arith, moved_above (of_passing p b) (length into.requests) l above, joined_requests p into b)

  -- and its request is there
  pub along_at : (l : ℕ) → Along p b l
      → at (joined p into b).requests (moved_link (of_passing p b) (length into.requests) l - 1) ≡ moved_request p (length into.orders) (at b.requests (l - 1))
  along_at l a =
      let above : 0 < l = a.above in
      let within : l ≤ length b.requests = a.within in
      let m : moved_link (of_passing p b) (length into.requests) l ≡ length into.requests + count_below (of_passing p b) (l - 1) + 1 =
      moved_above (of_passing p b) (length into.requests) l above in
      let e : moved_link (of_passing p b) (length into.requests) l - 1 ≡ length into.requests + count_below (of_passing p b) (l - 1) = omega arith in
      ap (at (joined p into b).requests) e ∙ joined_request p into b (l - 1) (omega arith) a.passes

  module _ (i : ℕ) (go : p i ≡ true) where
    -- the request of an order that goes
    pub linked_along : (test : Request → Bool) (l : ℕ) → Linked test i l b.requests → Along p b l
    linked_along test l k = record { above = k.above; within = k.within; passes = ap p k.own ∙ go }

    pub linked_joined : (test : Request → Bool) (l : ℕ) → ((q : Request) → test (moved_request p (length into.orders) q) ≡ test q) → linked test i l b.requests ≡ true
        → linked test (length into.orders + count_below p i) (moved_link (of_passing p b) (length into.requests) l) (joined p into b).requests ≡ true
    linked_joined test l same e =
        let k : Linked test i l b.requests = linked_at test i l b.requests e in
        let a : Along p b l = linked_along test l k in
        at_linked test _ _ (joined p into b).requests
        (record {
          above = omega (arith, moved_above (of_passing p b) (length into.requests) l k.above);
          within = along_within l a;
          own = ap (λ (q : Request). q.order) (along_at l a) ∙ (unfold moved_request in ap (λ (n : ℕ). length into.orders + count_below p n) k.own);
          passes = ap test (along_at l a) ∙ same (at b.requests (l - 1)) ∙ k.passes;
        })

    -- or there is none, and there was none
    pub zero_joined : (link : ℕ) {x y : Bool} → (x ≡ true → y ≡ true) → eqb link 0 || x ≡ true → eqb (moved_link (of_passing p b) (length into.requests) link) 0 || y ≡ true
    zero_joined link {x} {y} f e =
        ⊎_elim (λ z. or_left _ _ (moved_zero (of_passing p b) (length into.requests) link ∙ z)) (λ t. or_right _ _ (f t)) (or_cases (eqb link 0) x e)

  -- ---- how many requests an order has

  module _ (hi : BookKept into) (hb : BookKept b) (i : ℕ) (here : i < length b.orders) (go : p i ≡ true) where
    -- none that the book had
    old_other : (j : ℕ) → j < length into.requests → of_order (joined p into b).requests (new_place p into i) j ≡ false
    old_other j h =
        let l : (at into.requests j).order < length into.orders = (hi.request j h).order in
        ap (λ (q : Request). eqb q.order (new_place p into i)) (joined_old_request p into b j h)
        ∙ ne_eqb (at into.requests j).order (length into.orders + count_below p i) (λ z. omega arith)

    -- of those that move, the ones that were its own
    new_own : (j : ℕ) → j < length b.requests → of_passing p b j ≡ true
        → of_order (joined p into b).requests (new_place p into i) (length into.requests + count_below (of_passing p b) j) ≡ of_order b.requests i j
    new_own j h e =
        ap (λ (q : Request). eqb q.order (new_place p into i)) (joined_request p into b j h e)
        ∙ (unfold moved_request in both_ways _ _
        (λ t. let s : length into.orders + count_below p (at b.requests j).order ≡ length into.orders + count_below p i = eqb-true _ _ t in
        eq-eqb _ _ (rank_injective p (at b.requests j).order i e go (omega arith)))
        (λ t. eq-eqb _ _ (ap (λ (k : ℕ). length into.orders + count_below p k) (eqb-true _ _ t))))

    -- up to a request
    pub owned_before : (n : ℕ) → n ≤ length b.requests
        → count_below (of_order (joined p into b).requests (new_place p into i)) (length into.requests + count_below (of_passing p b) n) ≡ count_below (of_order b.requests i) n
    owned_before n h =
        count_behind (of_order (joined p into b).requests (new_place p into i)) (length into.requests) (count_below (of_passing p b) n) old_other
        ∙ count_ranks (of_passing p b) n (λ k. of_order (joined p into b).requests (new_place p into i) (length into.requests + k)) (of_order b.requests i) (λ j l e. new_own j (omega arith) e)
        ∙ count_ext (λ j. of_passing p b j && of_order b.requests i j) (of_order b.requests i) n (λ j l. both (of_passing p b j) (of_order b.requests i j) (λ t. ap p (eqb-true _ _ t) ∙ go))
      where
        both : (x y : Bool) → (y ≡ true → x ≡ true) → x && y ≡ y
        both true y f = refl
        both false true f = clash false (f refl) refl
        both false false f = refl

    pub owned_joined : owned (new_place p into i) (joined p into b).requests ≡ owned i b.requests
    owned_joined = ap (count_below (of_order (joined p into b).requests (new_place p into i))) (joined_requests p into b) ∙ owned_before (length b.requests) (omega arith)

-- ---- the request that a gateway cancel names

-- a link that is 0 or one of a request that goes along
abbrev pub NoneOrAlong : (p : ℕ → Bool) (b : Book) (l : ℕ) → Type 0
NoneOrAlong p b l = (l ≡ 0) ⊎ Along p b l

module _ (p : ℕ → Bool) (b : Book) (hb : BookKept b) (i : ℕ) (here : i < length b.orders) (go : p i ≡ true) where
  current_along : Along p b (order_in b i).links.current
  unfolding current_rule
  current_along =
      let o = order_in b i in
      let k : Linked (current_test o.names.downstream) i o.links.current b.requests = linked_at _ i o.links.current b.requests (hb.order i here).current in
      record { above = k.above; within = k.within; passes = ap p k.own ∙ go }

  own_along : Along p b (own_cancel b i)
  unfolding own_cancel
  own_along =
      split_maybe (Along p b) (first_below (λ j. eqb (request_in b j).order i && is_gateway (request_in b j)) (length b.requests)) (λ e. current_along)
      (λ j e.
      let f : First (λ j. eqb (request_in b j).order i && is_gateway (request_in b j)) (length b.requests) j = first_some _ (length b.requests) j e in
      let own : (request_in b j).order ≡ i = eqb-true _ _ (and_parts (eqb (request_in b j).order i) (is_gateway (request_in b j)) f.passes).0 in
      let z : j + 1 - 1 ≡ j = omega arith in
      record { above = omega arith; within = omega (arith, f.below); passes = ap (of_passing p b) z ∙ ap p own ∙ go })

  -- it names none exactly if it did, else one that goes along
  pub named_zero : eqb (named_along p b i) 0 ≡ eqb (order_in b i).gateway.origdownstream 0
  unfolding named_along
  named_zero =
      let link = (order_in b i).gateway.origdownstream in
      split_if (λ (l : ℕ). eqb l 0 ≡ eqb link 0) (eqb link 0 || of_passing p b (link - 1)) (λ e. refl)
      (λ e. ne_eqb (own_cancel b i) 0 (λ z. let h : 0 < own_cancel b i = own_along.above in omega arith) ∙ sym (or_first _ _ e))

  pub named_along_along : NoneOrAlong p b (named_along p b i)
  unfolding named_along gateway_range
  named_along_along =
      let link = (order_in b i).gateway.origdownstream in
      split_if (NoneOrAlong p b) (eqb link 0 || of_passing p b (link - 1))
      (λ e. ⊎_elim (λ z. inl (eqb-true link 0 z)) (λ t. some t (eqb link 0) refl) (or_cases (eqb link 0) (of_passing p b (link - 1)) e))
      (λ e. inr own_along)
    where
      within : (order_in b i).gateway.origdownstream ≤ length b.requests
      within =
          let (e, r3) = and_parts _ _ (hb.order i here).gateway in
          leb-true (order_in b i).gateway.origdownstream (length b.requests) (and_parts (not ((order_in b i).gateway.unsent && (order_in b i).gateway.stuck)) _ e).1

      some : of_passing p b ((order_in b i).gateway.origdownstream - 1) ≡ true → (x : Bool) → eqb (order_in b i).gateway.origdownstream 0 ≡ x → NoneOrAlong p b (order_in b i).gateway.origdownstream
      some t true z = inl (eqb-true _ 0 z)
      some t false z = let n : (order_in b i).gateway.origdownstream ≡ 0 → ⊥ = eqb-false _ 0 z in inr (record { above = omega arith; within = within; passes = t })
