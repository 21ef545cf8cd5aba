-- What a joined book's names and downstream ClOrdIDs find, and in which order. Rests on Joined and on what the rules of a book give.
use Rattle.std.specs.Prelude.{◌≡◌, Bool, true, false, not, Some, refl, ℕ, zero, suc, ◌+◌, ◌≤◌, ◌<◌, length}
use Rattle.std.proofs.Common.{ap, sym, ◌∙◌, ⊎_elim, arith}
use Rattle.prelude.specs.Below.{count_below}
use Rattle.prelude.specs.Laws.Below.{first_ext, first_past}
use Rattle.prelude.specs.Texts.{same_text}
use Rattle.prelude.specs.declared.Text.{Text}
use Rattle.store.specs.declared.Order.{Order}
use Rattle.store.specs.declared.Request.{Request}
use Rattle.store.specs.Book.{Book, order_in, request_in}
use Rattle.store.specs.Finds.{bears_name, find_name, find_downstream}
use Rattle.machine.proofs.Kept.Indexed.{BookKept}
use Rattle.machine.proofs.Kept.Consequences.{found_name, found_downstream}
use Rattle.machine.proofs.Numbered.{numbered_laws}
use Rattle.parts.specs.Parts.{of_passing, moved_order, moved_request, joined}
use Rattle.parts.specs.Laws.Ranks.{decide, rank_hit, rank_pass, rank_below}
use Rattle.parts.specs.Laws.Joined.{joined_orders, joined_requests, joined_old_order, joined_order, joined_request, FromOrder, order_from}
use Rattle.parts.specs.Laws.Linked.{new_place}

-- each number passes a test or does not
pub count_rest : (p : ℕ → Bool) (n : ℕ) → count_below p n + count_below (λ k. not (p k)) n ≡ n
count_rest p zero = unfold count_below in refl
count_rest p (suc n) =
    let less : count_below p n + count_below (λ k. not (p k)) n ≡ n = count_rest p n in
    decide (p n)
    (λ e. omega (arith, rank_hit p n e, rank_pass (λ k. not (p k)) n (ap not e)))
    (λ e. omega (arith, rank_pass p n e, rank_hit (λ k. not (p k)) n (ap not e)))

-- where request j goes
abbrev pub new_request : (p : ℕ → Bool) (into b : Book) (j : ℕ) → ℕ
new_request p into b j = length into.requests + count_below (of_passing p b) j

module _ (p : ℕ → Bool) (into b : Book) where
  -- a name that no order that moves has
  pub find_old : (t : Text) → ((i : ℕ) → i < length b.orders → p i ≡ true → same_text (order_in b i).names.name t ≡ false) → find_name (joined p into b) t ≡ find_name into t
  unfolding find_name
  find_old t free =
      first_past (λ k. bears_name t (order_in (joined p into b) k)) (length into.orders) (length (joined p into b).orders) (omega (arith, joined_orders p into b)) behind
      ∙ first_ext (λ k. bears_name t (order_in (joined p into b) k)) (λ k. bears_name t (order_in into k)) (length into.orders)
      (λ k h. ap (bears_name t) (joined_old_order p into b k h))
    where
      behind : (k : ℕ) → length into.orders ≤ k → k < length (joined p into b).orders → bears_name t (order_in (joined p into b) k) ≡ false
      behind k l h =
          ⊎_elim (λ m. absurd (omega arith))
          (λ (f : FromOrder p into b k). ap (bears_name t) f.is ∙ (unfold moved_order in free f.at f.below f.passes))
          (order_from p into b k h)

  module _ (kj : BookKept (joined p into b)) where
    place_within : (i : ℕ) → i < length b.orders → p i ≡ true → new_place p into i < length (joined p into b).orders
    place_within i h e = omega (arith, joined_orders p into b, rank_below p i (length b.orders) h e)

    -- the name of an order that moves finds it
    pub joined_found : (i : ℕ) → i < length b.orders → p i ≡ true → find_name (joined p into b) (order_in b i).names.name ≡ Some (new_place p into i)
    joined_found i h e =
        ap (find_name (joined p into b)) (sym (ap (λ (o : Order). o.names.name) (joined_order p into b i h e) ∙ (unfold moved_order in refl)))
        ∙ found_name (joined p into b) kj (new_place p into i) (place_within i h e)

    request_within : (j : ℕ) → j < length b.requests → of_passing p b j ≡ true → new_request p into b j < length (joined p into b).requests
    request_within j h e = omega (arith, joined_requests p into b, rank_below (of_passing p b) j (length b.requests) h e)

    -- and so does the downstream ClOrdID of a request
    pub joined_downstream : (j : ℕ) → j < length b.requests → of_passing p b j ≡ true
        → find_downstream (joined p into b) (request_in b j).downstream ≡ Some (new_request p into b j)
    joined_downstream j h e =
        ap (find_downstream (joined p into b)) (sym (ap (λ (q : Request). q.downstream) (joined_request p into b j h e) ∙ (unfold moved_request in refl)))
        ∙ found_downstream (joined p into b) kj numbered_laws (new_request p into b j) (request_within j h e)

  -- its order is the one that it was of
  pub joined_owner : (j : ℕ) → j < length b.requests → of_passing p b j ≡ true → (request_in b j).order < length b.orders
      → (order_in (joined p into b) (request_in (joined p into b) (new_request p into b j)).order).names.name ≡ (order_in b (request_in b j).order).names.name
  unfolding moved_request
  joined_owner j h e l =
      ap (λ (q : Request). (order_in (joined p into b) q.order).names.name) (joined_request p into b j h e)
      ∙ ap (λ (o : Order). o.names.name) (joined_order p into b (request_in b j).order l e) ∙ (unfold moved_order in refl)
