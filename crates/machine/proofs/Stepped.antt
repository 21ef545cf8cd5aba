-- What an event comes to, by cases: one walk from the event to its handler, for a property of its change. Rests on Made.
use Rattle.std.proofs.Common.{ℕ, suc, ◌+◌, ◌≤◌, ◌<◌, arith, ◌≡◌, refl, sym, subst, ◌⊎◌, inl, inr, Bool, true, false, None, Some, eqb, leb, length, eqb-true}
use Rattle.std.proofs.lemmas.Bool.{eqb-false, not-false}
use Rattle.prelude.specs.Cases.{if◌then◌otherwise◌}
use Rattle.prelude.specs.Laws.Cases.{split_if, split_maybe}
use Rattle.store.specs.declared.Order.{Order}
use Rattle.store.specs.declared.Request.{Request}
use Rattle.store.specs.Book.{Book, order_in, request_in}
use Rattle.store.specs.Orders.{no_order}
use Rattle.store.specs.Finds.{find_name, find_downstream, find_clordid, count_clordids}
use Rattle.machine.specs.Changes.{Event, unchanged, refusing, adding}
use Rattle.machine.specs.Amend.{priced_right, cancel, replace}
use Rattle.machine.specs.Machine.{order_link, order_of, order_at_link, findings_of, booked_order, first_request, unused, book_order, Amending, amending, on_request, nothing, unknown_report, on_name, change_of, step_of}
use Rattle.machine.specs.declared.Findings.{Findings}
use Rattle.machine.specs.declared.Change.{Change}
use Rattle.machine.proofs.Kept.Tables.{at_link}
use Rattle.machine.proofs.Made.{Made, Asked, Amended}
use Rattle.machine.proofs.Walked.{on_report_made, unknown_made, reject_made, failed_made, unsent_made, asked_made, cancel_made, replace_made}

-- by one handler, with its findings
abbrev pub MadeBy : Findings → ℕ → Request → Order → Event → Change → Change → Type 0
MadeBy f k q o e = Made k q o e f.place f.cancel f.requests f.requests

abbrev pub AskedBy : Findings → Order → Change → Change → Type 0
AskedBy f o = Asked o f.place f.cancel f.requests f.requests

abbrev pub AmendedBy : Findings → (order : ℕ) (full : Bool) → Order → Event → Change → Change → Type 0
AmendedBy f order full o e = Amended order full o e f.place f.cancel f.requests f.requests

-- it names a request, or an order
abbrev pub ByRequest : Event → Type 0
ByRequest e = (4 ≤ e.kind) × (e.kind ≤ 8)

abbrev pub ByName : Event → Type 0
ByName e = 0 < e.kind → 8 < e.kind

pub record Ways (P : Change → Type 0) (b : Book) (e : Event) : Type 0 where
  pub refuses : (n : ℕ) → eqb n 0 ≡ false → P (refusing n)
  pub no_order_lem : ByRequest e ⊎ (ByName e × (find_name b e.ids.name ≡ None)) → P nothing
  pub unknown : ByRequest e → P unknown_report
  pub books : eqb e.kind 1 ≡ true → unused b e ≡ true → priced_right e.terms.ordtype e ≡ true
      → P (adding (first_request (length b.orders) e) (unchanged (length b.orders + 1) (booked_order (length b.requests + 1) e)))
  pub amends_none : (e.kind ≡ 2) ⊎ (e.kind ≡ 3) → (order : ℕ) (full : Bool) (c c' : Change) → AmendedBy (findings_of b 0) order full no_order e c c' → P c
  pub amends : (e.kind ≡ 2) ⊎ (e.kind ≡ 3) → (k : ℕ) → find_clordid b e.client e.ids.origclordid ≡ Some k → (full : Bool) (c c' : Change)
      → AmendedBy (findings_of b (order_link b k)) (order_of b e.client e.ids.clordid) full (order_in b (request_in b k).order) e c c' → P c
  pub answers : ByRequest e → (k : ℕ) → find_downstream b e.ids.downstream ≡ Some k
      → (c c' : Change) → MadeBy (findings_of b (order_link b k)) (k + 1) (request_in b k) (order_in b (request_in b k).order) e c c' → P c
  pub asks : ByName e → (i : ℕ) → find_name b e.ids.name ≡ Some i → (c c' : Change) → AskedBy (findings_of b (i + 1)) (order_in b i) c c' → P c

none_at : (b : Book) → no_order ≡ order_at_link b 0
unfolding order_at_link if◌then◌otherwise◌
none_at b = refl

past : (n k : ℕ) → eqb k (suc n) ≡ false → n < k → suc n < k
past n k e l = let z : (k ≡ suc n → ⊥) = eqb-false k (suc n) e in omega arith

module _ (P : Change → Type 0) (b : Book) (e : Event) (w : Ways P b e) where
  by_request : (n : ℕ) → eqb e.kind n ≡ true → 4 ≤ n → n ≤ 8 → (unknown : Change) (handle : Findings → ℕ → Request → Order → Change) → (ByRequest e → P unknown)
      → ((f : Findings) (k : ℕ) (q : Request) (o : Order) → MadeBy f k q o e (handle f k q o) (handle f k q o)) → P (on_request unknown handle b e)
  unfolding on_request
  by_request n t l m unknown handle u h =
      let is : e.kind ≡ n = eqb-true e.kind n t in
      let by : ByRequest e = (omega arith, omega arith) in
      split_maybe P _ (λ z. u by) (λ k z. w.answers by k z _ _ (h _ _ _ _))

  by_clordid : (handle : Amending) → (e.kind ≡ 2) ⊎ (e.kind ≡ 3)
      → ((f : Findings) (order : ℕ) (full : Bool) (o : Order) → AmendedBy f order full o e (handle f order full o e) (handle f order full o e)) → P (amending handle b e)
  unfolding amending order_of
  by_clordid handle z m =
      let order : ℕ = order_of b e.client e.ids.clordid in
      let full : Bool = leb b.setting (count_clordids b e.client) in
      split_maybe (λ (p : ℕ). P (handle (findings_of b p) order full (order_at_link b p) e)) (find_clordid b e.client e.ids.origclordid)
      (λ n. subst (λ (o : Order). P (handle (findings_of b 0) order full o e)) (none_at b) (w.amends_none z order full _ _ (m _ _ _ _)))
      (λ k y. subst (λ (o : Order). P (handle (findings_of b (order_link b k)) order full o e)) (sym (at_link b (request_in b k).order)) (w.amends z k y full _ _ (m _ _ _ _)))

  by_name : ByName e → P (on_name b e)
  unfolding on_name
  by_name by = split_maybe P _ (λ z. w.no_order_lem (inr (by, z))) (λ i z. w.asks by i z _ _ (asked_made (order_in b i) _ _ _ _))

  pub change_made : P (change_of b e)
  unfolding change_of book_order
  change_made =
      split_if P (eqb e.kind 1)
      (λ t. split_if P _ (λ u. w.refuses 5 refl) (λ u. split_if P _ (λ v. w.refuses 6 refl) (λ v. w.books t (not-false _ u) (not-false _ v))))
      (λ k₁. split_if P (eqb e.kind 2) (λ t. by_clordid cancel (inl (eqb-true e.kind 2 t)) (λ f order full o. cancel_made order full o e _ _ _ _ t))
      (λ k₂. split_if P (eqb e.kind 3) (λ t. by_clordid replace (inr (eqb-true e.kind 3 t)) (λ f order full o. replace_made order full o e _ _ _ _))
      (λ k₃. split_if P (eqb e.kind 4) (λ t. by_request 4 t (omega arith) (omega arith) _ _ w.unknown (λ f k q o. on_report_made k q o e _ _ _ _ t))
      (λ k₄. split_if P (eqb e.kind 5) (λ t. by_request 5 t (omega arith) (omega arith) _ _ w.unknown (λ f k q o. unknown_made k q o e _ _ _ _))
      (λ k₅. split_if P (eqb e.kind 6) (λ t. by_request 6 t (omega arith) (omega arith) _ _ w.unknown (λ f k q o. reject_made k q o e _ _ _ _ t))
      (λ k₆. split_if P (eqb e.kind 7) (λ t. by_request 7 t (omega arith) (omega arith) _ _ (λ z. w.no_order_lem (inl z)) (λ f k q o. failed_made k q o e _ _ _ _ t))
      (λ k₇. split_if P (eqb e.kind 8) (λ t. by_request 8 t (omega arith) (omega arith) _ _ (λ z. w.no_order_lem (inl z)) (λ f k q o. unsent_made k q o e _ _ _ _ t))
      (λ k₈. by_name (λ l. past 7 _ k₈ (past 6 _ k₇ (past 5 _ k₆ (past 4 _ k₅ (past 3 _ k₄ (past 2 _ k₃ (past 1 _ k₂ (past 0 _ k₁ l))))))))))))))))

  pub step_made : P (step_of b e)
  unfolding step_of
  step_made = split_if P _ (λ t. change_made) (λ t. split_if P _ (λ t. change_made) (λ t. w.refuses 7 refl))
