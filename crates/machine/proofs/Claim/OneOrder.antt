-- One order stays one order: whatever ClOrdID of an order a venue uses, the event changes that order and no other. Rests on Filled and the laws of
-- numbered texts.
use Rattle.std.proofs.Common.{ℕ, ◌+◌, ◌-◌, ◌≤◌, ◌<◌, arith, ◌≡◌, refl, sym, ap, ◌∙◌, subst, ◌⊎◌, inl, inr, true, false, Option, None, Some, List, [], eqb, length, set, eqb-true, ⊎_elim}
use Rattle.std.proofs.lemmas.Bool.{cases_Bool}
use Rattle.prelude.specs.Laws.Below.{first_elim}
use Rattle.prelude.specs.Laws.Cases.{split_if, clash, same_some}
use Rattle.prelude.specs.Texts.{same_text}
use Rattle.prelude.specs.Laws.Texts.{same_back, same_trans}
use Rattle.prelude.specs.Totals.{total_of}
use Rattle.prelude.specs.declared.Text.{Text}
use Rattle.text.specs.Numbered.{numbered_text}
use Rattle.store.specs.declared.Order.{Order}
use Rattle.store.specs.Book.{Book, order_in, request_in}
use Rattle.machine.specs.Changes.{Event, Message, refusing}
use Rattle.store.specs.Finds.{find_downstream}
use Rattle.machine.specs.Machine.{findings_of, order_link, after, step_of}
use Rattle.machine.specs.Ranges.{name_range}
use Rattle.machine.specs.Rules.{rules, name_number, number_in}
use Rattle.machine.specs.History.{read_as, comes_to, line_of}
use Rattle.machine.specs.Claim.{last_qty, StaysOne}
use Rattle.machine.specs.declared.Change.{Change}
use Rattle.machine.proofs.Claim.Laws.{tells, Whose, bears}
use Rattle.machine.proofs.Claim.Moves.{told_others}
use Rattle.machine.proofs.Claim.Ruled.{Ruled, ruled, one_name, order_ruled, request_ruled}
use Rattle.machine.proofs.Claim.Walk.{Did, Roomy, turned_away, no_order_lem, on_order, new_order, found_request, found_text, Either, Handles, step_walk, refusing_away}
use Rattle.machine.proofs.Claim.Filled.{Moved, handles_moved, orders_set, after_orders, at, beside, long, line_of_lem, refused_of}
use Rattle.machine.proofs.Claim.Records.{there_other, added_own}
use Rattle.machine.proofs.Claim.Touches.{Touches, made_touches}
use Rattle.machine.proofs.Claim.Steps.{findings_index}
use Rattle.machine.proofs.Claim.Rounds.{after_same}
use Rattle.machine.proofs.Claim.Fresh.{named_zero, named_more, number_small, above_zero}
use Rattle.machine.proofs.Numbered.{NumberedLaws, numbered_laws}

-- ---- two requests of one text are one order's

module _ (laws : NumberedLaws) (x y : Text) (m n : ℕ) (nx : name_range x ≡ true) (ny : name_range y ≡ true) (lm : m ≤ 255) (ln : n ≤ 255) where
  pub same_names : same_text (name_number x m) (name_number y n) ≡ true → same_text x y ≡ true
  same_names e = go (cases_Bool (eqb m 0)) (cases_Bool (eqb n 0))
    where
      go : (eqb m 0 ≡ true) ⊎ (eqb m 0 ≡ false) → (eqb n 0 ≡ true) ⊎ (eqb n 0 ≡ false) → same_text x y ≡ true
      go (inl p) (inl q) = sym (ap (λ (t : Text). same_text x t) (named_zero y n q)) ∙ sym (ap (λ (t : Text). same_text t (name_number y n)) (named_zero x m p)) ∙ e
      go (inl p) (inr q) =
          clash _
          (same_back _ _ (sym (ap (λ (t : Text). same_text x t) (named_more y n q)) ∙ sym (ap (λ (t : Text). same_text t (name_number y n)) (named_zero x m p)) ∙ e))
          (laws.dashed y x n ny nx (above_zero n q) ln)
      go (inr p) (inl q) =
          clash _
          (sym (ap (λ (t : Text). same_text (numbered_text x m) t) (named_zero y n q)) ∙ sym (ap (λ (t : Text). same_text t (name_number y n)) (named_more x m p)) ∙ e)
          (laws.dashed x y m nx ny (above_zero m p) lm)
      go (inr p) (inr q) =
          (laws.apart x y m n nx ny (above_zero m p) lm (above_zero n q) ln
          (sym (ap (λ (t : Text). same_text (numbered_text x m) t) (named_more y n q)) ∙ sym (ap (λ (t : Text). same_text t (name_number y n)) (named_more x m p)) ∙ e)).0

module _ (laws : NumberedLaws) (b : Book) (r : Ruled b) where
  one_order : (k j : ℕ) → k < length b.requests → j < length b.requests → same_text (request_in b k).downstream (request_in b j).downstream ≡ true
      → (request_in b k).order ≡ (request_in b j).order
  one_order k j lk lj e =
      let p = request_ruled b r k lk in
      let q = request_ruled b r j lj in
      one_name b r _ _ p.placed q.placed
      (same_names laws _ _ (number_in b.requests k) (number_in b.requests j)
      (order_ruled b r (request_in b k).order p.placed).named (order_ruled b r (request_in b j).order q.placed).named
      (omega (arith, number_small b k, r.few_requests)) (omega (arith, number_small b j, r.few_requests))
      (same_trans _ (request_in b k).downstream _ (same_back _ _ p.numbered) (same_trans _ (request_in b j).downstream _ e q.numbered)))

-- ---- one event

-- the book and the messages of a line, as far as they go
record Alone (b : Book) (i : ℕ) (ms : List Message) (b' : Book) : Type 0 where
  count : length b'.orders ≡ length b.orders
  others : (j : ℕ) → (j ≡ i → ⊥) → order_in b' j ≡ order_in b j
  requests : (k : ℕ) → k < length b.requests → ((request_in b k).order ≡ i → ⊥) → request_in b' k ≡ request_in b k
  added : (k : ℕ) → length b.requests ≤ k → k < length b'.requests → (request_in b' k).order ≡ i
  same_client : (order_in b' i).client ≡ (order_in b i).client
  same_name : (order_in b' i).names.name ≡ (order_in b i).names.name
  silent : (client : ℕ) (name : Text) → same_text (order_in b i).names.name name ≡ false → total_of (last_qty client name) ms ≡ 0

still_alone : (b : Book) (i : ℕ) (ms : List Message) → ((client : ℕ) (name : Text) → total_of (last_qty client name) ms ≡ 0) → Alone b i ms b
still_alone b i ms q = record {
  count = refl;
  others = λ j n. refl;
  requests = λ k l n. refl;
  added = λ k l u. absurd (omega arith);
  same_client = refl;
  same_name = refl;
  silent = λ client name n. q client name;
}

module _ (b : Book) (r : Ruled b) (e : Event) (low : 4 ≤ e.kind) (high : e.kind ≤ 8) (k : ℕ) (w : find_downstream b e.ids.downstream ≡ Some k) where
  Alike : ℕ → Change → Type 0
  Alike i c = Moved b e i c × (i ≡ (request_in b k).order) × Touches (findings_of b (i + 1)) (k + 1) (order_in b i) c

  alike : (j : ℕ) (c : Change) → find_downstream b e.ids.downstream ≡ Some j → Either (Moved b e (request_in b j).order c) c
      → Touches (findings_of b (order_link b j)) (j + 1) (order_in b (request_in b j).order) c → Either (Alike (request_in b j).order c) c
  unfolding Either Alike
  alike j c v (inl z) t = inl z
  alike j c v (inr z) t =
      inr (z.0, (z.1, ap (λ (n : ℕ). (request_in b n).order) (same_some v w), subst (λ (n : ℕ). Touches (findings_of b (order_link b j)) (n + 1) (order_in b (request_in b j).order) c) (same_some v w) t))

  handles_alike : Handles Alike b e
  handles_alike =
      let m = handles_moved b e in
      record {
        amends = λ l₃ n₇ n₉ i h order full t. absurd (omega arith);
        answers = λ n₂ n₉ j v t. alike j _ v (m.answers n₂ n₉ j v t) (made_touches t);
        asks = λ past i v t. let l : 8 < e.kind = past (omega arith) in absurd (omega arith);
      }

  -- the requests that the change touches are the order's
  module _ (c : Change) (i : ℕ) (h : i < length b.orders) (z : i ≡ (request_in b k).order) (t : Touches (findings_of b (i + 1)) (k + 1) (order_in b i) c) where
    not_answered : (j : ℕ) → ((request_in b j).order ≡ i → ⊥) → c.requests.answered ≡ j + 1 → ⊥
    not_answered j n p = go t.answers
      where
        go : (c.requests.answered ≡ 0) ⊎ (c.requests.answered ≡ k + 1) → ⊥
        go (inl x) = omega arith
        go (inr x) = let y : k ≡ j = omega arith in n (sym (ap (λ (m : ℕ). (request_in b m).order) y) ∙ sym z)

    not_superseded : (j : ℕ) → ((request_in b j).order ≡ i → ⊥) → c.requests.superseded ≡ j + 1 → ⊥
    not_superseded j n p = go t.supersedes
      where
        go : (c.requests.superseded ≡ 0) ⊎ (c.requests.superseded ≡ (order_in b i).links.current) → ⊥
        go (inl x) = omega arith
        go (inr x) =
            let y : (order_in b i).links.current - 1 ≡ j = omega arith in
            n (sym (ap (λ (m : ℕ). (request_in b m).order) y) ∙ (order_ruled b r i h).current)

    own_added : (j : ℕ) → length b.requests ≤ j → j < length (after b c).requests → (request_in (after b c) j).order ≡ i
    own_added = added_own b c i (⊎_elim inl (λ y. inr (y ∙ findings_index b i)) t.adds)

  did_alone : (c : Change) → Did (Roomy Alike b) b e c → Alone b (request_in b k).order (line_of b (read_as e) c).messages (line_of b (read_as e) c).left
  unfolding Alike Moved Roomy
  did_alone c (turned_away z) = refused_of (Alone b (request_in b k).order) b (read_as e) c z (still_alone b _ [] (λ client name. refl))
  did_alone c (no_order_lem s n) =
      line_of_lem (Alone b (request_in b k).order) b (read_as e) c s.taken
      (subst (Alone b (request_in b k).order (tells c)) (sym (after_same b c s)) (still_alone b _ (tells c) (λ client name. s.no_report (bears client name))))
  did_alone c (on_order i h t p) =
      let (m, z, x) = p.0 in
      let o : (after b c).orders ≡ set b.orders i c.order = after_orders b c ∙ orders_set b.orders c i h m.there in
      subst (λ (j : ℕ). Alone b j (line_of b (read_as e) c).messages (line_of b (read_as e) c).left) z
      (line_of_lem (Alone b i) b (read_as e) c t
      (record {
        count = long b c i h m (after b c) o;
        others = beside b c i h m (after b c) o;
        requests = λ j l n. there_other b c j l (not_answered c i h z x j n) (not_superseded c i h z x j n);
        added = own_added c i h z x;
        same_client = ap (λ (y : Order). y.client) (at b c i h m (after b c) o) ∙ ap (λ (w : Whose). w.client) m.same;
        same_name = ap (λ (y : Order). y.names.name) (at b c i h m (after b c) o) ∙ ap (λ (w : Whose). w.name) m.same;
        silent = told_others m;
      }))
  did_alone c (new_order z u) = let q : e.kind ≡ 1 = eqb-true e.kind 1 z in absurd (omega arith)

-- a text that a request bears is found
found : (b : Book) (d : Text) (k : ℕ) → k < length b.requests → same_text (request_in b k).downstream d ≡ true → (j : ℕ) × (find_downstream b d ≡ Some j)
found b d k l e = go (find_downstream b d) refl
  where
    go : (x : Option ℕ) → find_downstream b d ≡ x → (j : ℕ) × (find_downstream b d ≡ Some j)
    go None h = unfold find_downstream in clash _ e (first_elim (λ j. same_text (request_in b j).downstream d) (length b.requests) h k l)
    go (Some j) h = (j, h)

call_alone : (laws : NumberedLaws) (b : Book) (e : Event) → 4 ≤ e.kind → e.kind ≤ 8 → (k : ℕ) → k < length b.requests → same_text (request_in b k).downstream e.ids.downstream ≡ true
    → Alone b (request_in b k).order (line_of b (read_as e) (comes_to b (read_as e))).messages (line_of b (read_as e) (comes_to b (read_as e))).left
unfolding comes_to
call_alone laws b e low high k l t =
    split_if (λ c. Alone b (request_in b k).order (line_of b (read_as e) c).messages (line_of b (read_as e) c).left) (rules b)
    (λ h.
    let (j, w) = found b e.ids.downstream k l t in
    let r = ruled b h in
    let z : (request_in b j).order ≡ (request_in b k).order =
    one_order laws b r j k (found_request b e.ids.downstream j w) l (same_trans _ e.ids.downstream _ (found_text b e.ids.downstream j w) (same_back _ _ t)) in
    subst (λ (i : ℕ). Alone b i (line_of b (read_as e) (step_of b e)).messages (line_of b (read_as e) (step_of b e)).left) z
    (did_alone b r e low high j w (step_of b e) (step_walk (Alike b r e low high j w) b e r (handles_alike b r e low high j w))))
    (λ h. refused_of (Alone b (request_in b k).order) b (read_as e) (refusing 1) (refusing_away 1 refl) (still_alone b _ [] (λ client name. refl)))

pub stays_one : StaysOne
stays_one b e low high k l t =
    let a = call_alone numbered_laws b e low high k l t in
    record { count = a.count; others = a.others; requests = a.requests; added = a.added; same_client = a.same_client; same_name = a.same_name; silent = a.silent }
