-- A joined book keeps its rules if both did, has room, and no name or ClOrdID of what moves stands in it. Rests on Kept, Linked and the book's rules.
use Rattle.std.specs.Prelude.{◌≡◌, Bool, true, false, not, ◌&&◌, refl, ℕ, zero, suc, ◌+◌, ◌<◌, eqb, length}
use Rattle.std.proofs.Common.{ap, subst, sym, ◌∙◌, ◌⊎◌, ⊎_elim, arith, eqb-true, eq-eqb}
use Rattle.std.proofs.lemmas.Bool.{and_parts, and_from, or_left, or_cases}
use Rattle.prelude.specs.Below.{all_below, count_below}
use Rattle.prelude.specs.Laws.Cases.{clash}
use Rattle.prelude.specs.Texts.{same_text}
use Rattle.store.specs.declared.Request.{Request}
use Rattle.store.specs.Book.{Book, order_in, request_in}
use Rattle.machine.specs.Orders.{is_empty}
use Rattle.machine.specs.Changes.{is_first, is_gateway, is_answered}
use Rattle.machine.specs.Rules.{in_flight_rule, request_range, outcome_rule, number_rule, number_in, of_order, origin_rule, bears_origin, client_of}
use Rattle.machine.proofs.Kept.Tables.{at, borne}
use Rattle.machine.proofs.Kept.Indexed.{RequestKept, BookKept}
use Rattle.machine.proofs.Kept.Laws.{decide}
use Rattle.parts.specs.Parts.{of_passing, moved_order, moved_request, joined}
use Rattle.parts.specs.Laws.Ranks.{rank_below}
use Rattle.parts.specs.Laws.Joined.{joined_orders, joined_order, joined_request}
use Rattle.parts.specs.Laws.Linked.{owned_before}
use Rattle.parts.specs.Laws.Kept.{flight_joined}

-- one that does, where not all do not
record Found (t : ℕ → Bool) (n : ℕ) : Type 0 where
  at : ℕ
  below : at < n
  passes : t at ≡ true

found : (t : ℕ → Bool) (n : ℕ) → not (all_below (λ i. not (t i)) n) ≡ true → Found t n
unfolding all_below
found t zero e = clash false e refl
found t (suc n) e =
    decide (t n) (λ h. record { at = n; below = omega arith; passes = h })
    (λ h. let f : Found t n = found t n (less (all_below (λ i. not (t i)) n) (t n) h e) in record { at = f.at; below = omega (arith, f.below); passes = f.passes })
  where
    less : (a b : Bool) → b ≡ false → not (a && not b) ≡ true → not a ≡ true
    less a b h e = grind arith

-- "the name of a done order .. stands in the archive": none that moves does
abbrev pub FreeNames : (p : ℕ → Bool) (into b : Book) → Type 0
FreeNames p into b =
    (i : ℕ) → i < length b.orders → p i ≡ true → (k : ℕ) → k < length into.orders → same_text (order_in b i).names.name (order_in into k).names.name ≡ false

-- and no ClOrdID of what moves, for the same client
abbrev pub taken_key : (into b : Book) (j k : ℕ) → Bool
taken_key into b j k = not (is_empty (request_in b j).clordid) && eqb (client_of b j) (client_of into k) && same_text (request_in b j).clordid (request_in into k).clordid

abbrev pub FreeKeys : (p : ℕ → Bool) (into b : Book) → Type 0
FreeKeys p into b = (j : ℕ) → j < length b.requests → of_passing p b j ≡ true → (k : ℕ) → k < length into.requests → taken_key into b j k ≡ false

module _ (p : ℕ → Bool) (into b : Book) (hi : BookKept into) (hb : BookKept b) where
  -- ---- a request that moves

  module _ (j : ℕ) (h : j < length b.requests) (e : of_passing p b j ≡ true) where
    old : RequestKept b j
    old = hb.request j h

    number_joined : number_in (joined p into b).requests (length into.requests + count_below (of_passing p b) j) ≡ number_in b.requests j
    unfolding number_in moved_request
    number_joined =
        ap (λ (q : Request). count_below (of_order (joined p into b).requests q.order) (length into.requests + count_below (of_passing p b) j)) (joined_request p into b j h e)
        ∙ owned_before p into b hi hb (request_in b j).order old.order e j (omega arith)

    -- the request that bears its OrigClOrdID goes along
    bearer_joined : Found (bears_origin b.requests j) j → origin_rule (joined p into b).requests (length into.requests + count_below (of_passing p b) j) ≡ true
    unfolding moved_request
    bearer_joined f =
        let (o, t) = and_parts (eqb (at b.requests f.at).order (at b.requests j).order) _ f.passes in
        let own : (at b.requests f.at).order ≡ (at b.requests j).order = eqb-true (at b.requests f.at).order (at b.requests j).order o in
        let e' : of_passing p b f.at ≡ true = ap p own ∙ e in
        let r : count_below (of_passing p b) f.at < count_below (of_passing p b) j = rank_below (of_passing p b) f.at j f.below e' in
        borne (joined p into b).requests (length into.requests + count_below (of_passing p b) j) (length into.requests + count_below (of_passing p b) f.at) (omega arith)
        (subst (λ (q : Request). eqb (request_in (joined p into b) (length into.requests + count_below (of_passing p b) f.at)).order q.order
        && same_text (request_in (joined p into b) (length into.requests + count_below (of_passing p b) f.at)).clordid q.origclordid ≡ true)
        (sym (joined_request p into b j h e))
        (subst (λ (q : Request). eqb q.order (length into.orders + count_below p (at b.requests j).order) && same_text q.clordid (at b.requests j).origclordid ≡ true)
        (sym (joined_request p into b f.at (omega (arith, f.below)) e'))
        (and_from _ _ (eq-eqb _ _ (ap (λ (n : ℕ). length into.orders + count_below p n) own)) t)))

    origin_cases : (is_empty (at b.requests j).origclordid ≡ true) ⊎ (not (all_below (λ i. not (bears_origin b.requests j i)) j) ≡ true)
    unfolding origin_rule
    origin_cases = or_cases (is_empty (at b.requests j).origclordid) (not (all_below (λ i. not (bears_origin b.requests j i)) j)) old.origin

    none_joined : is_empty (at b.requests j).origclordid ≡ true → origin_rule (joined p into b).requests (length into.requests + count_below (of_passing p b) j) ≡ true
    unfolding origin_rule moved_request
    none_joined z = or_left _ _ (ap (λ (q : Request). is_empty q.origclordid) (joined_request p into b j h e) ∙ z)

    origin_joined : origin_rule (joined p into b).requests (length into.requests + count_below (of_passing p b) j) ≡ true
    origin_joined = ⊎_elim none_joined (λ t. bearer_joined (found (bears_origin b.requests j) j t)) origin_cases

    order_moved : order_in (joined p into b) (length into.orders + count_below p (request_in b j).order) ≡ moved_order p (length into.requests) b (request_in b j).order
    order_moved = joined_order p into b (request_in b j).order old.order e

    place_joined : (request_in (joined p into b) (length into.requests + count_below (of_passing p b) j)).order < length (joined p into b).orders
    unfolding moved_request
    place_joined =
        let r : count_below p (request_in b j).order < count_below p (length b.orders) = rank_below p (request_in b j).order (length b.orders) old.order e in
        let o : (request_in (joined p into b) (length into.requests + count_below (of_passing p b) j)).order ≡ length into.orders + count_below p (request_in b j).order =
        ap (λ (q : Request). q.order) (joined_request p into b j h e) in
        omega (arith, joined_orders p into b)

    number_named : number_rule (order_in (joined p into b) (request_in (joined p into b) (length into.requests + count_below (of_passing p b) j)).order).names.name
        (number_in (joined p into b).requests (length into.requests + count_below (of_passing p b) j)) (request_in (joined p into b) (length into.requests + count_below (of_passing p b) j)) ≡ true
    unfolding number_rule is_first moved_request moved_order
    number_named = rw (number_joined, joined_request p into b j h e, order_moved) old.number

    flight_kept : in_flight_rule (length into.requests + count_below (of_passing p b) j + 1) (request_in (joined p into b) (length into.requests + count_below (of_passing p b) j))
        (order_in (joined p into b) (request_in (joined p into b) (length into.requests + count_below (of_passing p b) j)).order) ≡ true
    unfolding moved_request
    flight_kept =
        rw (joined_request p into b j h e, order_moved) (flight_joined p into b hi hb (request_in b j).order old.order e j h e refl)

    pub request_joined : RequestKept (joined p into b) (length into.requests + count_below (of_passing p b) j)
    request_joined =
        let is = joined_request p into b j h e in
        let k : ℕ = length into.requests + count_below (of_passing p b) j in
        record {
          range = ap request_range is ∙ (unfold request_range is_gateway is_first moved_request in old.range);
          outcome = ap outcome_rule is ∙ (unfold outcome_rule is_answered moved_request in old.outcome);
          order = place_joined;
          number = number_named;
          flight = flight_kept;
          origin = origin_joined;
        }
