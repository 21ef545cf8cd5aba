-- The rows of a joined book: those that it had stand as they did, and each order and request that moves stands at its rank behind them. Rests on Passing.
use Rattle.std.specs.Prelude.{◌≡◌, Bool, true, refl, ℕ, ◌+◌, ◌-◌, ◌≤◌, ◌<◌, eqb, length}
use Rattle.std.proofs.Common.{ap, sym, ◌∙◌, ◌⊎◌, inl, inr, ⊎_elim, arith, length-append, ne_eqb}
use Rattle.std.proofs.Math.ListN.{get_or-append}
use Rattle.std.proofs.lemmas.List.{get_or-append-add}
use Rattle.std.proofs.lemmas.Bool.{cases_lt}
use Rattle.prelude.specs.Below.{count_below}
use Rattle.prelude.specs.Laws.Cases.{if_true, if_false, split_if}
use Rattle.store.specs.declared.Order.{Order}
use Rattle.store.specs.declared.Request.{Request}
use Rattle.store.specs.Orders.{no_order}
use Rattle.store.specs.Requests.{no_request}
use Rattle.store.specs.Book.{Book, order_in, request_in}
use Rattle.machine.specs.Rules.{client_of}
use Rattle.parts.specs.Parts.{of_passing, moved_link, moved_order, moved_request, joined}
use Rattle.parts.specs.Laws.Ranks.{Source, source}
use Rattle.parts.specs.Laws.Passing.{length_passing, get_passing}

-- ---- links

module _ (q : ℕ → Bool) (behind : ℕ) where
  pub moved_none : moved_link q behind 0 ≡ 0
  unfolding moved_link
  moved_none = if_true _ 0 _ refl

  -- the link of the request behind those
  pub moved_some : (j : ℕ) → moved_link q behind (j + 1) ≡ behind + count_below q j + 1
  unfolding moved_link
  moved_some j =
      if_false (eqb (j + 1) 0) 0 _ (ne_eqb (j + 1) 0 (λ z. omega arith))
      ∙ (let e : j + 1 - 1 ≡ j = omega arith in ap (λ (k : ℕ). behind + count_below q k + 1) e)

  pub moved_above : (l : ℕ) → 0 < l → moved_link q behind l ≡ behind + count_below q (l - 1) + 1
  unfolding moved_link
  moved_above l h = if_false (eqb l 0) 0 _ (ne_eqb l 0 (λ z. omega arith))

  -- there is one as there was
  pub moved_zero : (l : ℕ) → eqb (moved_link q behind l) 0 ≡ eqb l 0
  unfolding moved_link
  moved_zero l = split_if (λ (k : ℕ). eqb k 0 ≡ eqb l 0) (eqb l 0) (λ e. sym e) (λ e. ne_eqb (behind + count_below q (l - 1) + 1) 0 (λ z. omega arith) ∙ sym e)

-- ---- the rows

module _ (p : ℕ → Bool) (into b : Book) where
  pub joined_orders : length (joined p into b).orders ≡ length into.orders + count_below p (length b.orders)
  unfolding joined
  joined_orders = length-append into.orders _ ∙ ap (λ (n : ℕ). length into.orders + n) (length_passing p (moved_order p (length into.requests) b) (length b.orders))

  pub joined_requests : length (joined p into b).requests ≡ length into.requests + count_below (of_passing p b) (length b.requests)
  unfolding joined
  joined_requests =
      length-append into.requests _
      ∙ ap (λ (n : ℕ). length into.requests + n) (length_passing (of_passing p b) (λ j. moved_request p (length into.orders) (request_in b j)) (length b.requests))

  -- rows that it had
  pub joined_old_order : (i : ℕ) → i < length into.orders → order_in (joined p into b) i ≡ order_in into i
  unfolding joined
  joined_old_order i h = get_or-append into.orders _ no_order i h

  pub joined_old_request : (j : ℕ) → j < length into.requests → request_in (joined p into b) j ≡ request_in into j
  unfolding joined
  joined_old_request j h = get_or-append into.requests _ no_request j h

  -- rows that move
  pub joined_order : (i : ℕ) → i < length b.orders → p i ≡ true
      → order_in (joined p into b) (length into.orders + count_below p i) ≡ moved_order p (length into.requests) b i
  unfolding joined
  joined_order i h e =
      get_or-append-add into.orders _ (count_below p i) no_order
      ∙ get_passing p (moved_order p (length into.requests) b) no_order (length b.orders) i h e

  pub joined_request : (j : ℕ) → j < length b.requests → of_passing p b j ≡ true
      → request_in (joined p into b) (length into.requests + count_below (of_passing p b) j) ≡ moved_request p (length into.orders) (request_in b j)
  unfolding joined
  joined_request j h e =
      get_or-append-add into.requests _ (count_below (of_passing p b) j) no_request
      ∙ get_passing (of_passing p b) (λ k. moved_request p (length into.orders) (request_in b k)) no_request (length b.requests) j h e

  -- every row is one of the two
  pub record FromOrder (k : ℕ) : Type 0 where
    pub at : ℕ
    pub below : at < length b.orders
    pub passes : p at ≡ true
    pub place : k ≡ length into.orders + count_below p at
    pub is : order_in (joined p into b) k ≡ moved_order p (length into.requests) b at

  pub record FromRequest (k : ℕ) : Type 0 where
    pub at : ℕ
    pub below : at < length b.requests
    pub passes : of_passing p b at ≡ true
    pub place : k ≡ length into.requests + count_below (of_passing p b) at
    pub is : request_in (joined p into b) k ≡ moved_request p (length into.orders) (request_in b at)

  pub order_from : (k : ℕ) → k < length (joined p into b).orders → (k < length into.orders) ⊎ FromOrder k
  order_from k h = ⊎_elim (λ l. inl l) (λ l. inr (new l)) (cases_lt k (length into.orders))
    where
      new : length into.orders ≤ k → FromOrder k
      new l =
          let n : length (joined p into b).orders ≡ length into.orders + count_below p (length b.orders) = joined_orders in
          let s : Source p (length b.orders) (k - length into.orders) = source p (length b.orders) (k - length into.orders) (omega arith) in
          let r : count_below p s.at ≡ k - length into.orders = s.rank in
          let place : k ≡ length into.orders + count_below p s.at = omega arith in
          record {
            at = s.at;
            below = s.below;
            passes = s.passes;
            place = place;
            is = ap (order_in (joined p into b)) place ∙ joined_order s.at s.below s.passes;
          }

  pub request_from : (k : ℕ) → k < length (joined p into b).requests → (k < length into.requests) ⊎ FromRequest k
  request_from k h = ⊎_elim (λ l. inl l) (λ l. inr (new l)) (cases_lt k (length into.requests))
    where
      new : length into.requests ≤ k → FromRequest k
      new l =
          let n : length (joined p into b).requests ≡ length into.requests + count_below (of_passing p b) (length b.requests) = joined_requests in
          let s : Source (of_passing p b) (length b.requests) (k - length into.requests) =
          source (of_passing p b) (length b.requests) (k - length into.requests) (omega arith) in
          let r : count_below (of_passing p b) s.at ≡ k - length into.requests = s.rank in
          let place : k ≡ length into.requests + count_below (of_passing p b) s.at = omega arith in
          record {
            at = s.at;
            below = s.below;
            passes = s.passes;
            place = place;
            is = ap (request_in (joined p into b)) place ∙ joined_request s.at s.below s.passes;
          }

  -- the client of a request stays
  pub joined_client : (j : ℕ) → j < length b.requests → of_passing p b j ≡ true → (request_in b j).order < length b.orders
      → client_of (joined p into b) (length into.requests + count_below (of_passing p b) j) ≡ client_of b j
  unfolding moved_request
  joined_client j h e l =
      ap (λ (q : Request). (order_in (joined p into b) q.order).client) (joined_request j h e)
      ∙ ap (λ (o : Order). o.client) (joined_order (request_in b j).order l e)
      ∙ (unfold moved_order in refl)

  pub joined_old_client : (j : ℕ) → j < length into.requests → (request_in into j).order < length into.orders → client_of (joined p into b) j ≡ client_of into j
  joined_old_client j h l =
      ap (λ (q : Request). (order_in (joined p into b) q.order).client) (joined_old_request j h)
      ∙ ap (λ (o : Order). o.client) (joined_old_order (request_in into j).order l)
