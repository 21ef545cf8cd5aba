-- The order that a record concerns, as machine's `concerns` finds it: on a book that keeps its rules texts are distinct, so that the first found is the only one.
-- Rests on Concern and machine's Consequences.
use Rattle.std.proofs.Common.{ℕ, ◌+◌, ◌≤◌, ◌<◌, arith, ◌≡◌, refl, sym, ap, ◌∙◌, ◌⊎◌, inl, inr, Bool, true, not, ◌&&◌, Option, None, Some, List, eqb, leb, ltb, length, eqb-true, eq-eqb, ne_eqb, leb-true, lt-ltb}
use Rattle.std.proofs.Math.Decide.{ℕ_discrete, dec_lt}
use Rattle.std.proofs.lemmas.Bool.{and_parts, and_from}
use Rattle.prelude.specs.Below.{first_below}
use Rattle.prelude.specs.Laws.Below.{First, first_elim, first_some}
use Rattle.prelude.specs.Cases.{maybe}
use Rattle.prelude.specs.Laws.Cases.{if_true, if_false, maybe_some, clash}
use Rattle.prelude.specs.Number.{Bytes}
use Rattle.prelude.specs.Texts.{is_text, same_text}
use Rattle.prelude.specs.Laws.Texts.{same_back, same_trans, same_length}
use Rattle.prelude.specs.declared.Text.{Text}
use Rattle.records.specs.Record.{event_in}
use Rattle.store.specs.Book.{Book, book_of, order_in, request_in}
use Rattle.store.specs.Finds.{find_name, find_downstream, find_clordid, has_clordid, of_client, bears_name, bears_downstream, bears_clordid}
use Rattle.machine.specs.Changes.{Event}
use Rattle.machine.specs.Orders.{is_empty}
use Rattle.machine.specs.Machine.{order_link, order_of}
use Rattle.machine.specs.Ranges.{text_within}
use Rattle.machine.specs.Rules.{client_of, same_key}
use Rattle.machine.specs.Exchange.{concerns}
use Rattle.machine.proofs.Numbered.{numbered_laws}
use Rattle.machine.proofs.Kept.Indexed.{BookKept, book_kept}
use Rattle.machine.proofs.Kept.Consequences.{names_apart_lem, downstreams_apart}
use Rattle.machine.proofs.Said.Reads.{event_ranged, event_kind}
use Rattle.rules.specs.Laws.Keeps.{keeps_held}
use Rattle.step.specs.Entries.{check_of}
use Rattle.format.specs.Refusal.{event_refusal}
use Rattle.claims.specs.Concern.{Concerns, by_clordid, by_request, by_name, OneConcern}
use Rattle.claims.proofs.Taken.{kept_check}

-- the only one that passes is the first
first_only : (p : ℕ → Bool) (n k : ℕ) → k < n → p k ≡ true → ((m : ℕ) → m < n → p m ≡ true → m ≡ k) → first_below p n ≡ Some k
first_only p n k h t only = go (first_below p n) refl
  where
    go : (v : Option ℕ) → first_below p n ≡ v → first_below p n ≡ Some k
    go None e = clash (p k) t (first_elim p n e k h)
    go (Some m) e = let f : First p n m = first_some p n m e in e ∙ ap Some (only m f.below f.passes)

-- ---- what is looked up is found

module _ (x : Book) (good : BookKept x) where
  -- two texts that are a third's are each other's
  both_same : (s u t : Text) → same_text s t ≡ true → same_text u t ≡ true → same_text s u ≡ true
  both_same s u t e f = same_trans s t u e (same_back u t f)

  name_found : (i : ℕ) (t : Text) → i < length x.orders → same_text (order_in x i).names.name t ≡ true → find_name x t ≡ Some i
  unfolding find_name
  name_found i t h e = first_only (λ m. bears_name t (order_in x m)) (length x.orders) i h e (λ m l f. go m l f (ℕ_discrete m i))
    where
      go : (m : ℕ) → m < length x.orders → same_text (order_in x m).names.name t ≡ true → Dec (m ≡ i) → m ≡ i
      go m l f (yes z) = z
      go m l f (no z) = clash _ (both_same _ _ t f e) (names_apart_lem x good m i l h z)

  downstream_found : (k : ℕ) (t : Text) → k < length x.requests → same_text (request_in x k).downstream t ≡ true → find_downstream x t ≡ Some k
  unfolding find_downstream
  downstream_found k t h e = first_only (λ m. bears_downstream t (request_in x m)) (length x.requests) k h e (λ m l f. go m l f (ℕ_discrete m k))
    where
      go : (m : ℕ) → m < length x.requests → same_text (request_in x m).downstream t ≡ true → Dec (m ≡ k) → m ≡ k
      go m l f (yes z) = z
      go m l f (no z) = clash _ (both_same _ _ t f e) (downstreams_apart x good numbered_laws m k l h z)

  -- what a request that bears the client's ClOrdID has
  record Bears (client : ℕ) (t : Text) (k : ℕ) : Type 0 where
    has : has_clordid (request_in x k) ≡ true
    text : same_text (request_in x k).clordid t ≡ true
    its : client_of x k ≡ client

  bears_of : (client : ℕ) (t : Text) (k : ℕ) → bears_clordid x.orders client t (request_in x k) ≡ true → Bears client t k
  unfolding of_client
  bears_of client t k e =
      let q = request_in x k in
      let a : Bool = ltb q.order (length x.orders) in
      let c : Bool = eqb (client_of x k) client in
      let u = and_parts (has_clordid q) (same_text q.clordid t && (a && c)) e in
      let v = and_parts (same_text q.clordid t) (a && c) u.1 in
      record { has = u.0; text = v.0; its = eqb-true (client_of x k) client (and_parts a c v.1).1 }

  of_bears : (client : ℕ) (t : Text) (k : ℕ) → k < length x.requests → Bears client t k → bears_clordid x.orders client t (request_in x k) ≡ true
  unfolding of_client
  of_bears client t k h b =
      and_from _ _ b.has (and_from _ _ b.text (and_from _ _ (lt-ltb _ _ (good.request k h).order) (eq-eqb (client_of x k) client b.its)))

  one_key : (client : ℕ) (t : Text) (k m : ℕ) → Bears client t k → Bears client t m → same_key x k m ≡ true
  unfolding same_key
  one_key client t k m b c =
      and_from _ _ (and_from (not (is_empty (request_in x k).clordid)) _ b.has (eq-eqb (client_of x k) (client_of x m) (b.its ∙ sym c.its))) (both_same _ _ t b.text c.text)

  clordid_found : (client : ℕ) (t : Text) (k : ℕ) → k < length x.requests → Bears client t k → find_clordid x client t ≡ Some k
  unfolding find_clordid
  clordid_found client t k h b =
      first_only (λ m. bears_clordid x.orders client t (request_in x m)) (length x.requests) k h (of_bears client t k h b)
      (λ m l f. go m l (bears_of client t m f) (dec_lt m k) (dec_lt k m))
    where
      go : (m : ℕ) → m < length x.requests → Bears client t m → Dec (m < k) → Dec (k < m) → m ≡ k
      go m l c (yes z) y = clash _ (one_key client t k m b c) (good.keys k m h z)
      go m l c (no z) (yes y) = clash _ (one_key client t m k c b) (good.keys m k l y)
      go m l c (no z) (no y) = omega arith

-- ---- machine's `concerns`, by kind

module _ (x : Book) (e : Event) where
  by_2_3 : (e.kind ≡ 2) ⊎ (e.kind ≡ 3) → concerns x e ≡ maybe 0 (order_link x) (find_clordid x e.client e.ids.origclordid)
  unfolding concerns order_of
  by_2_3 (inl z) = if_true _ _ _ (eq-eqb e.kind 2 z)
  by_2_3 (inr z) = if_false _ _ _ (ne_eqb e.kind 2 (λ y. omega arith)) ∙ if_true _ _ _ (eq-eqb e.kind 3 z)

  by_9 : e.kind ≡ 9 → concerns x e ≡ maybe 0 (λ k. k + 1) (find_name x e.ids.name)
  unfolding concerns
  by_9 z = if_false _ _ _ (ne_eqb e.kind 2 (λ y. omega arith)) ∙ if_false _ _ _ (ne_eqb e.kind 3 (λ y. omega arith)) ∙ if_true _ _ _ (eq-eqb e.kind 9 z)

  by_4_8 : 4 ≤ e.kind → e.kind ≤ 8 → concerns x e ≡ maybe 0 (order_link x) (find_downstream x e.ids.downstream)
  unfolding concerns
  by_4_8 l h =
      if_false _ _ _ (ne_eqb e.kind 2 (λ z. omega arith)) ∙ if_false _ _ _ (ne_eqb e.kind 3 (λ z. omega arith)) ∙ if_false _ _ _ (ne_eqb e.kind 9 (λ z. omega arith))

-- a link that is not 0 was found
record Found (o : Option ℕ) (f : ℕ → ℕ) (i : ℕ) : Type 0 where
  at : ℕ
  found : o ≡ Some at
  is : f at ≡ i

found_link : (o : Option ℕ) (f : ℕ → ℕ) (i : ℕ) → maybe 0 (λ k. f k + 1) o ≡ i + 1 → Found o f i
unfolding maybe
found_link None f i e = absurd (omega arith)
found_link (Some k) f i e = record { at = k; found = refl; is = omega arith }

-- ---- on bytes

long_text : (t : Text) → text_within 1 32 t ≡ true → 1 ≤ t.len
unfolding text_within
long_text t e = leb-true 1 t.len (and_parts (is_text t) (leb 1 t.len) (and_parts (is_text t && leb 1 t.len) (leb t.len 32) e).0).1

module _ (b r : List ℕ) (keeps : check_of b ≡ 0) (bytes : Bytes r) (reads : event_refusal r ≡ 0) where
  abbrev x : Book
  x = book_of b

  abbrev e : Event
  e = event_in r

  good : BookKept x
  good = book_kept x (keeps_held b (kept_check b keeps)).rules

  orig_long : (e.kind ≡ 2) ⊎ (e.kind ≡ 3) → 1 ≤ e.ids.origclordid.len
  orig_long z = long_text e.ids.origclordid ((event_ranged r bytes reads).amendment z).origclordid

  pub link_of : (i : ℕ) → Concerns b r i → concerns x e ≡ i + 1
  link_of i (by_clordid z c k (l, o) t) =
      by_2_3 x e z
      ∙ maybe_some _ k 0 (order_link x)
      (clordid_found x good e.client e.ids.origclordid k l
      (record {
        has = ap not (ne_eqb (request_in x k).clordid.len 0 (λ y. omega (arith, orig_long z, same_length (request_in x k).clordid e.ids.origclordid t)));
        text = t;
        its = ap (λ (m : ℕ). (order_in x m).client) o ∙ c;
      }))
      ∙ ap (λ (m : ℕ). m + 1) o
  link_of i (by_request l h k (m, o) t) =
      by_4_8 x e l h ∙ maybe_some _ k 0 (order_link x) (downstream_found x good k e.ids.downstream m t) ∙ ap (λ (n : ℕ). n + 1) o
  link_of i (by_name z l t) = by_9 x e z ∙ maybe_some _ i 0 (λ k. k + 1) (name_found x good i e.ids.name l t)

  one : (i j : ℕ) → Concerns b r i → Concerns b r j → i ≡ j
  one i j c d = let z : i + 1 ≡ j + 1 = sym (link_of i c) ∙ link_of j d in omega arith

  -- and back
  by_2_3_found : (e.kind ≡ 2) ⊎ (e.kind ≡ 3) → (i : ℕ) → concerns x e ≡ i + 1 → Concerns b r i
  unfolding find_clordid
  by_2_3_found z i c =
      let f : Found (find_clordid x e.client e.ids.origclordid) (λ k. (request_in x k).order) i = found_link _ (λ k. (request_in x k).order) i (sym (by_2_3 x e z) ∙ c) in
      let g = first_some (λ m. bears_clordid x.orders e.client e.ids.origclordid (request_in x m)) (length x.requests) f.at f.found in
      let s : Bears x good e.client e.ids.origclordid f.at = bears_of x good e.client e.ids.origclordid f.at g.passes in
      by_clordid z (ap (λ (m : ℕ). (order_in x m).client) (sym f.is) ∙ s.its) f.at (g.below, f.is) s.text

  by_4_8_found : 4 ≤ e.kind → e.kind ≤ 8 → (i : ℕ) → concerns x e ≡ i + 1 → Concerns b r i
  unfolding find_downstream
  by_4_8_found l h i c =
      let f : Found (find_downstream x e.ids.downstream) (λ k. (request_in x k).order) i = found_link _ (λ k. (request_in x k).order) i (sym (by_4_8 x e l h) ∙ c) in
      let g = first_some (λ m. bears_downstream e.ids.downstream (request_in x m)) (length x.requests) f.at f.found in
      by_request l h f.at (g.below, f.is) g.passes

  by_9_found : e.kind ≡ 9 → (i : ℕ) → concerns x e ≡ i + 1 → Concerns b r i
  unfolding find_name
  by_9_found z i c =
      let f : Found (find_name x e.ids.name) (λ k. k) i = found_link _ (λ k. k) i (sym (by_9 x e z) ∙ c) in
      let g = first_some (λ m. bears_name e.ids.name (order_in x m)) (length x.orders) i (f.found ∙ ap Some f.is) in
      by_name z g.below g.passes

  concern_of : 2 ≤ e.kind → e.kind ≤ 9 → (i : ℕ) → concerns x e ≡ i + 1 → Concerns b r i
  concern_of low high i c = go (ℕ_discrete e.kind 2) (ℕ_discrete e.kind 3) (ℕ_discrete e.kind 9)
    where
      go : Dec (e.kind ≡ 2) → Dec (e.kind ≡ 3) → Dec (e.kind ≡ 9) → Concerns b r i
      go (yes z) p q = by_2_3_found (inl z) i c
      go (no z) (yes p) q = by_2_3_found (inr p) i c
      go (no z) (no p) (yes q) = by_9_found q i c
      go (no z) (no p) (no q) = by_4_8_found (omega arith) (omega arith) i c

  pub kinds_of : (i : ℕ) → Concerns b r i → (2 ≤ e.kind) × (e.kind ≤ 9)
  kinds_of i (by_clordid (inl z) c k o t) = (omega arith, omega arith)
  kinds_of i (by_clordid (inr z) c k o t) = (omega arith, omega arith)
  kinds_of i (by_request l h k o t) = (omega arith, omega arith)
  kinds_of i (by_name z l t) = (omega arith, omega arith)

-- ONE ORDER at most, and the one that is handled
pub one_concern : OneConcern
one_concern = record {
  one = one;
  handled = λ b r k y z low i. (link_of b r k y z i, concern_of b r k y z low (event_kind r z).1 i);
}
