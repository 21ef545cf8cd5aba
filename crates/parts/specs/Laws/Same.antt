-- An order that moves is the same order: the same record, each link read as the request that it names, and the same requests in the same order; and what the joined
-- book comes to. Rests on Linked, Sums and machine's Exchange.
use Rattle.std.specs.Prelude.{◌≡◌, Bool, true, false, refl, List, ◌++◌, ℕ, ◌+◌, ◌-◌, ◌<◌, eqb, length, map}
use Rattle.std.proofs.Common.{ap, sym, ◌∙◌, inl, inr, ⊎_elim, arith, append-nil, eqb-true, eq-eqb, ne_eqb}
use Rattle.std.proofs.lemmas.Bool.{or_cases}
use Rattle.std.proofs.lemmas.List.{map-append}
use Rattle.prelude.specs.Laws.Cases.{if_true, if_false}
use Rattle.prelude.specs.Below.{count_below}
use Rattle.prelude.specs.Totals.{those}
use Rattle.prelude.specs.Laws.Totals.{those_append}
use Rattle.text.specs.Stored.{no_text}
use Rattle.store.specs.declared.Request.{Request}
use Rattle.store.specs.Requests.{no_request}
use Rattle.store.specs.Book.{Book, order_in, request_in}
use Rattle.machine.specs.Exchange.{requests_of, link_text, SameRecord}
use Rattle.machine.specs.Orders.{pending_terms}
use Rattle.machine.specs.Rules.{current_test, current_rule, cancel_rule, pending_test, pending_rule}
use Rattle.machine.specs.Changes.{is_cancel}
use Rattle.machine.proofs.Kept.Tables.{linked_at}
use Rattle.machine.proofs.Kept.Indexed.{BookKept}
use Rattle.std.specs.Cmp.{both_ways}
use Rattle.parts.specs.Alike.{alone, naming}
use Rattle.parts.specs.Parts.{passing, of_passing, named_along, moved_link, moved_order, moved_request, joined}
use Rattle.parts.specs.Laws.Ranks.{rank_injective}
use Rattle.parts.specs.Laws.Joined.{moved_none, moved_above}
use Rattle.parts.specs.Laws.Linked.{new_place, along_at, NoneOrAlong, linked_along, named_along_along}
use Rattle.parts.specs.Laws.Sums.{list_places, those_none, those_passing, those_missing}

module _ (p : ℕ → Bool) (into b : Book) where
  -- a link reads as it did
  pub moved_text : (l : ℕ) → NoneOrAlong p b l → link_text b l ≡ link_text (joined p into b) (moved_link (of_passing p b) (length into.requests) l)
  moved_text l (inl z) =
      ap (link_text b) z ∙ if_true _ no_text _ refl
      ∙ sym (ap (λ (k : ℕ). link_text (joined p into b) k) (ap (moved_link (of_passing p b) (length into.requests)) z ∙ moved_none (of_passing p b) (length into.requests)) ∙ if_true _ no_text _ refl)
  moved_text l (inr a) =
      let above : 0 < l = a.above in
      let m : ℕ = moved_link (of_passing p b) (length into.requests) l in
      let e : moved_link (of_passing p b) (length into.requests) l ≡ length into.requests + count_below (of_passing p b) (l - 1) + 1 = moved_above (of_passing p b) (length into.requests) l above in
      if_false (eqb l 0) no_text (request_in b (l - 1)).downstream (ne_eqb l 0 (λ z. omega arith))
      ∙ sym (if_false (eqb m 0) no_text (request_in (joined p into b) (m - 1)).downstream (ne_eqb m 0 (λ z. omega arith))
      ∙ ap (λ (q : Request). q.downstream) (along_at p into b l a) ∙ (unfold moved_request in refl))

  module _ (hi : BookKept into) (hb : BookKept b) (i : ℕ) (here : i < length b.orders) (go : p i ≡ true) where
    current_goes : NoneOrAlong p b (order_in b i).links.current
    unfolding current_rule
    current_goes = inr (linked_along p into b i go _ _ (linked_at (current_test (order_in b i).names.downstream) i (order_in b i).links.current b.requests (hb.order i here).current))

    cancel_goes : NoneOrAlong p b (order_in b i).links.cancel
    unfolding cancel_rule
    cancel_goes =
        ⊎_elim (λ z. inl (eqb-true _ 0 z)) (λ t. inr (linked_along p into b i go _ _ (linked_at is_cancel i (order_in b i).links.cancel b.requests t)))
        (or_cases _ _ (hb.order i here).cancel)

    pending_goes : NoneOrAlong p b (order_in b i).pending.request
    unfolding pending_rule
    pending_goes =
        ⊎_elim (λ z. inl (eqb-true _ 0 z)) (λ t. inr (linked_along p into b i go _ _ (linked_at pending_test i (order_in b i).pending.request b.requests t)))
        (or_cases _ _ (hb.order i here).pending)

    -- the record is the same, but that its gateway cancel is read to name what goes along
    pub same_record : SameRecord b (joined p into b) (naming (named_along p b i) (order_in b i)) (moved_order p (length into.requests) b i)
    same_record = record {
      client = unfold moved_order in refl;
      venue = unfold moved_order in refl;
      names = unfold moved_order in refl;
      terms = unfold moved_order in refl;
      state = unfold moved_order in refl;
      amendments = unfold moved_order in refl;
      current = unfold moved_order in moved_text (order_in b i).links.current current_goes;
      cancel = unfold moved_order in moved_text (order_in b i).links.cancel cancel_goes;
      pending = unfold moved_order in moved_text (order_in b i).pending.request pending_goes;
      wanted = unfold moved_order pending_terms in refl;
      tries = unfold moved_order in refl;
      unsent = unfold moved_order in refl;
      stuck = unfold moved_order in refl;
      refused = unfold moved_order in refl;
      named = unfold moved_order in moved_text (named_along p b i) (named_along_along p b hb i here go);
    }

    -- ---- its requests

    own_tests : (j : ℕ) → of_passing p b j ≡ true → eqb (moved_request p (length into.orders) (request_in b j)).order (new_place p into i) ≡ eqb (request_in b j).order i
    own_tests j e = unfold moved_request in
        both_ways _ _
        (λ t. let s : length into.orders + count_below p (request_in b j).order ≡ length into.orders + count_below p i = eqb-true _ _ t in
        eq-eqb _ _ (rank_injective p (request_in b j).order i e go (omega arith)))
        (λ t. eq-eqb _ _ (ap (λ (k : ℕ). length into.orders + count_below p k) (eqb-true _ _ t)))

    old_tests : (k : ℕ) → k < length into.requests → eqb (request_in into k).order (new_place p into i) ≡ false
    old_tests k h = let l : (request_in into k).order < length into.orders = (hi.request k h).order in ne_eqb (request_in into k).order (length into.orders + count_below p i) (λ z. omega arith)

    pub same_requests : map alone (requests_of b i) ≡ map alone (requests_of (joined p into b) (new_place p into i))
    unfolding joined moved_request
    same_requests =
        let own : Request → Bool = λ q. eqb q.order (new_place p into i) in
        let moved : ℕ → Request = λ j. moved_request p (length into.orders) (request_in b j) in
        sym (ap (map alone) (those_append own into.requests (passing (of_passing p b) moved (length b.requests)))
        ∙ map-append {0, 0} alone (those own into.requests) (those own (passing (of_passing p b) moved (length b.requests)))
        ∙ ap (λ (l : List Request). map alone l ++ map alone (those own (passing (of_passing p b) moved (length b.requests)))) (those_none no_request own into.requests old_tests)
        ∙ those_passing (of_passing p b) moved (request_in b) own (λ q. eqb q.order i) alone (length b.requests)
        (λ j h e. own_tests j e) (λ j h e. ap p (eqb-true _ _ e) ∙ go) (λ j. refl)
        ∙ ap (λ (l : List Request). map alone (those (λ q. eqb q.order i) l)) (list_places no_request b.requests))

  -- no request is added to an order that the book had
  pub old_requests : (k : ℕ) → k < length into.orders → requests_of (joined p into b) k ≡ requests_of into k
  unfolding joined
  old_requests k h =
      let own : Request → Bool = λ q. eqb q.order k in
      let moved : ℕ → Request = λ j. moved_request p (length into.orders) (request_in b j) in
      those_append own into.requests (passing (of_passing p b) moved (length b.requests))
      ∙ ap (λ (l : List Request). those own into.requests ++ l)
      (those_missing (of_passing p b) moved own (length b.requests) (λ j l e. unfold moved_request in ne_eqb (length into.orders + count_below p (request_in b j).order) k (λ z. omega arith)))
      ∙ append-nil (those own into.requests)
