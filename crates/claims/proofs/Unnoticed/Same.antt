-- A book and the part of it that was not done are the same but for what was done. Rests on Named and parts' laws.
use Rattle.std.proofs.Common.{ℕ, ◌≤◌, ◌<◌, arith, ◌≡◌, refl, sym, ap, subst, ◌∙◌, ⊎_elim, Bool, true, false, not, length}
use Rattle.std.proofs.Math.Decide.{dec_lt}
use Rattle.std.proofs.Math.ListN.{get_or-eq_default}
use Rattle.std.proofs.lemmas.Bool.{cases_Bool, cases_lt, not-true}
use Rattle.std.specs.Cmp.{both_ways}
use Rattle.prelude.specs.Below.{count_below}
use Rattle.prelude.specs.Laws.Below.{count_ext, count_past}
use Rattle.prelude.specs.Laws.Cases.{clash}
use Rattle.store.specs.declared.Order.{Order}
use Rattle.store.specs.declared.Request.{Request}
use Rattle.store.specs.Orders.{no_order}
use Rattle.store.specs.Book.{Book, order_in, request_in, empty_book}
use Rattle.machine.specs.Orders.{is_done}
use Rattle.machine.specs.Exchange.{SameRecord}
use Rattle.machine.proofs.Kept.Indexed.{BookKept, book_kept}
use Rattle.machine.proofs.Kept.Steps.{start_keeps}
use Rattle.parts.specs.Parts.{done_at, live_at, of_passing, moved_order, joined, part}
use Rattle.parts.specs.Laws.Joined.{joined_order}
use Rattle.parts.specs.Laws.Linked.{new_place}
use Rattle.parts.specs.Alike.{naming}
use Rattle.parts.specs.Laws.Same.{same_record, same_requests}
use Rattle.parts.specs.Laws.Found.{count_rest, joined_found}
use Rattle.parts.specs.Laws.Whole.{part_rules}
use Rattle.quiet.specs.Part.{Parted, Fixed}
use Rattle.quiet.proofs.Links.{named_same}
use Rattle.quiet.proofs.Lookups.{count_orders, count_requests}
use Rattle.claims.specs.Retire.{order_done, request_done, done_orders, done_requests}
use Rattle.claims.specs.RetirePlaced.{StandsAt, DoneOrder}
use Rattle.claims.specs.Unnoticed.{NotRetired, lower, SameBut}
use Rattle.claims.proofs.Unnoticed.Named.{done_order, not_live}

-- two tests that only numbers below both ends pass, and there both or neither: as many pass one as the other
count_within : (s t : ℕ → Bool) (m n : ℕ) → ((k : ℕ) → k < m → s k ≡ true → (k < n) × (t k ≡ true)) → ((k : ℕ) → k < n → t k ≡ true → (k < m) × (s k ≡ true))
    → count_below s m ≡ count_below t n
count_within s t m n f g = ⊎_elim (λ l. low m n s t f g (omega arith)) (λ l. sym (low n m t s g f l)) (cases_lt m n)
  where
    same : (s t : ℕ → Bool) (k : ℕ) → (s k ≡ true → t k ≡ true) → (t k ≡ true → s k ≡ true) → s k ≡ t k
    same s t k u v = both_ways (s k) (t k) u v

    low : (m n : ℕ) (s t : ℕ → Bool) → ((k : ℕ) → k < m → s k ≡ true → (k < n) × (t k ≡ true)) → ((k : ℕ) → k < n → t k ≡ true → (k < m) × (s k ≡ true)) → m ≤ n
        → count_below s m ≡ count_below t n
    low m n s t f g l =
        count_ext s t m (λ k h. same s t k (λ u. (f k h u).1) (λ u. (g k (omega arith) u).1))
        ∙ sym (count_past t m n l (λ k h j. ⊎_elim (λ z. absurd (late (g k j z) h)) (λ z. z) (cases_Bool (t k))))
      where
        late : {k : ℕ} → (k < m) × (s k ≡ true) → m ≤ k → ⊥
        late (a, c) h = omega arith

module _ (was b : Book) (w : Parted (live_at was) b) (fixed : Fixed (live_at was) was b) where
  abbrev p : ℕ → Bool
  p = live_at was

  abbrev c : Book
  c = part p b

  passes : (i : ℕ) → NotRetired was i → p i ≡ true
  passes i n = ⊎_elim (λ z. z) (λ z. absurd (n (done_order was i z))) (cases_Bool (p i))

  -- what was done is there still
  pub done_there : (i : ℕ) → DoneOrder was i → i < length b.orders
  done_there i d = go (dec_lt i (length b.orders))
    where
      go : Dec (i < length b.orders) → i < length b.orders
      go (yes l) = l
      go (no l) =
          clash (is_done (order_in was i).state.status) d.done
          (ap (λ (o : Order). is_done o.state.status) (sym (fixed.orders i (not_live was i d)) ∙ get_or-eq_default b.orders no_order (omega arith)) ∙ (unfold is_done in refl))

  not_done : (i : ℕ) → not (p i) ≡ order_done was i
  unfolding done_at
  not_done i = twice (order_done was i)
    where
      twice : (a : Bool) → not (not a) ≡ a
      twice true = refl
      twice false = refl

  orders_done : count_below (λ k. not (p k)) (length b.orders) ≡ done_orders was
  orders_done =
      count_within (λ k. not (p k)) (order_done was) (length b.orders) (length was.orders)
      (λ k l h. let d = done_order was k (not-true (p k) h) in (d.there, d.done))
      (λ k l h. (done_there k (record { there = l; done = h }), not_done k ∙ h))

  requests_done : count_below (λ k. not (of_passing p b k)) (length b.requests) ≡ done_requests was
  requests_done =
      count_within (λ k. not (of_passing p b k)) (request_done was) (length b.requests) (length was.requests)
      (λ k l h. before k (fixed.requests k l (not-true (of_passing p b k) h)) h)
      (λ k l h. later k h (fixed.there k l (sym (not-back (of_passing p was k)) ∙ ap not (not_done (request_in was k).order ∙ h))))
    where
      not-back : (a : Bool) → not (not a) ≡ a
      not-back true = refl
      not-back false = refl

      before : (k : ℕ) → (k < length was.requests) × (request_in b k ≡ request_in was k) → not (of_passing p b k) ≡ true → (k < length was.requests) × (request_done was k ≡ true)
      before k (m, s) h = (m, sym (not_done (request_in was k).order) ∙ sym (ap (λ (q : Request). not (p q.order)) s) ∙ h)

      later : (k : ℕ) → request_done was k ≡ true → (k < length b.requests) × (request_in b k ≡ request_in was k) → (k < length b.requests) × (not (of_passing p b k) ≡ true)
      later k h (m, s) = (m, ap (λ (q : Request). not (p q.order)) s ∙ not_done (request_in was k).order ∙ h)

  good : BookKept b
  good = book_kept b w.kept

  empty_kept : BookKept (empty_book b.setting)
  empty_kept = book_kept (empty_book b.setting) (start_keeps b.setting)

  part_kept : BookKept c
  part_kept = book_kept c (part_rules p b w.kept)

  -- an order's place is as much lower as there were done ones before it
  place_is : (i : ℕ) → new_place p (empty_book b.setting) i ≡ lower was i
  place_is i =
      let s : count_below (λ k. not (p k)) i ≡ count_below (order_done was) i = count_ext (λ k. not (p k)) (order_done was) i (λ k l. not_done k) in
      omega (arith, count_rest p i)

  stands_at : (i : ℕ) → i < length b.orders → p i ≡ true → StandsAt b c i (order_in b i) (new_place p (empty_book b.setting) i)
  stands_at i l h = record {
    found = joined_found p (empty_book b.setting) b part_kept i l h;
    same =
        subst (SameRecord b c (order_in b i)) (sym (joined_order p (empty_book b.setting) b i l h))
        (subst (λ (k : ℕ). SameRecord b c (naming k (order_in b i)) (moved_order p 0 b i)) (named_same p b b (λ k m. refl) (omega arith) i h (w.own i l h))
        (same_record p (empty_book b.setting) b empty_kept good i l h));
    requests = same_requests p (empty_book b.setting) b empty_kept good i l h;
  }

  pub same_but : SameBut was b c
  same_but = record {
    setting = unfold joined in refl;
    orders =
        let n : length c.orders ≡ count_below p (length b.orders) = count_orders p b w in
        omega (arith, count_rest p (length b.orders), orders_done);
    requests =
        let n : length c.requests ≡ count_below (of_passing p b) (length b.requests) = count_requests p b w in
        omega (arith, count_rest (of_passing p b) (length b.requests), requests_done);
    stands = λ i l n. subst (StandsAt b c i (order_in b i)) (place_is i) (stands_at i l (passes i n));
    retired = λ i d. fixed.orders i (not_live was i d);
    retired_requests = λ j d. (fixed.there j d.there (not_live was (request_in was j).order d.done)).1;
  }
