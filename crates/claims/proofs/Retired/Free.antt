-- When a name or a ClOrdID of what goes stands in the archive, as the call decides it, is when it does; and when there is no room. Rests on Retire, parts and store's Finds.
use Rattle.std.specs.Prelude.{ℕ, zero, suc, ◌+◌, ◌≤◌, ◌<◌, ◌≡◌, Bool, true, false, not, ◌&&◌, ◌||◌, Option, None, Some, eqb, leb, ltb, length, refl}
use Rattle.std.proofs.Common.{arith, sym, ap, ◌∙◌, inl, inr, ⊎_elim, eqb-true, eq-eqb, leb-true, leb-false, lt-ltb}
use Rattle.std.proofs.Math.Bool.{and-false}
use Rattle.std.proofs.lemmas.Bool.{and_parts, and_from, not-true, false_from_ne_true}
use Rattle.prelude.specs.Below.{all_below}
use Rattle.prelude.specs.Laws.Below.{First, all_miss, first_elim, first_some}
use Rattle.prelude.specs.Cases.{maybe}
use Rattle.prelude.specs.Laws.Cases.{clash}
use Rattle.prelude.specs.Texts.{same_text}
use Rattle.prelude.specs.Laws.Texts.{same_back, same_length}
use Rattle.store.specs.Book.{Book, order_in, request_in}
use Rattle.store.specs.Finds.{bears_name, bears_clordid, of_client, find_name, find_clordid}
use Rattle.machine.specs.Orders.{is_empty, is_done}
use Rattle.machine.specs.Rules.{client_of}
use Rattle.machine.proofs.Kept.Indexed.{BookKept}
use Rattle.machine.proofs.Kept.Laws.{decide}
use Rattle.index.specs.Laws.Named.{Bears, found_bears}
use Rattle.parts.specs.Parts.{done_at, orders_gone, requests_gone}
use Rattle.parts.specs.Laws.Rules.{FreeNames, FreeKeys}
use Rattle.retire.specs.Retire.{name_free, clordid_free, all_free, has_room}
use Rattle.claims.specs.Retire.{done_orders, done_requests, NameStands, ClOrdIDStands, InArchive, NoRoom}

-- one that does not pass
record Fails (t : ℕ → Bool) (n : ℕ) : Type 0 where
  at : ℕ
  below : at < n
  fails : t at ≡ false

fails : (t : ℕ → Bool) (n : ℕ) → all_below t n ≡ false → Fails t n
unfolding all_below
fails t zero e = clash true refl e
fails t (suc n) e =
    decide (t n) (λ h. let f : Fails t n = fails t n (less (all_below t n) (t n) h e) in record { at = f.at; below = omega (arith, f.below); fails = f.fails })
    (λ h. record { at = n; below = omega arith; fails = h })
  where
    less : (a b : Bool) → b ≡ true → a && b ≡ false → a ≡ false
    less a b h e = grind arith

module _ (b a : Book) (kept : BookKept a) where
  -- ---- names

  name_stands : (i : ℕ) → i < length b.orders → name_free a b i ≡ false → NameStands b a
  unfolding name_free done_at find_name maybe
  name_stands i h e = go (is_done (order_in b i).state.status) (find_name a (order_in b i).names.name) refl refl e
    where
      go : (d : Bool) (o : Option ℕ) → is_done (order_in b i).state.status ≡ d → find_name a (order_in b i).names.name ≡ o → not d || maybe true (λ k. false) o ≡ false → NameStands b a
      go true (Some k) p q r =
          let f : First (λ k. bears_name (order_in b i).names.name (order_in a k)) (length a.orders) k = first_some _ (length a.orders) k q in
          record { i = i; k = k; there = h; done = p; within = f.below; same = f.passes }
      go true None p q r = clash true refl r
      go false o p q r = clash true refl r

  stands_name : (n : NameStands b a) → name_free a b n.i ≡ false
  unfolding name_free done_at find_name maybe
  stands_name n = go (find_name a (order_in b n.i).names.name) refl
    where
      go : (o : Option ℕ) → find_name a (order_in b n.i).names.name ≡ o → not (is_done (order_in b n.i).state.status) || maybe true (λ k. false) (find_name a (order_in b n.i).names.name) ≡ false
      go (Some k) q = rw (n.done, q) refl
      go None q = clash _ n.same (first_elim (λ k. bears_name (order_in b n.i).names.name (order_in a k)) (length a.orders) q n.k n.within)

  -- ---- ClOrdIDs

  clordid_stands : (j : ℕ) → j < length b.requests → clordid_free a b j ≡ false → ClOrdIDStands b a
  unfolding clordid_free done_at maybe
  clordid_stands j h e = go (is_done (order_in b (request_in b j).order).state.status) (find_clordid a (client_of b j) (request_in b j).clordid) refl refl e
    where
      go : (d : Bool) (o : Option ℕ) → is_done (order_in b (request_in b j).order).state.status ≡ d → find_clordid a (client_of b j) (request_in b j).clordid ≡ o → not d || maybe true (λ k. false) o ≡ false → ClOrdIDStands b a
      go true (Some k) p q r =
          let f : Bears a (client_of b j) (request_in b j).clordid k = found_bears a (client_of b j) (request_in b j).clordid k q in
          record { j = j; k = k; there = h; done = p; within = f.used; some = not-true _ f.named; client = f.whose; same = f.same }
      go true None p q r = clash true refl r
      go false o p q r = clash true refl r

  stands_clordid : (n : ClOrdIDStands b a) → clordid_free a b n.j ≡ false
  unfolding clordid_free done_at find_clordid of_client maybe
  stands_clordid n = go (find_clordid a (client_of b n.j) (request_in b n.j).clordid) refl
    where
      bears : bears_clordid a.orders (client_of b n.j) (request_in b n.j).clordid (request_in a n.k) ≡ true
      bears =
          and_from (not (is_empty (request_in a n.k).clordid)) _ (ap not n.some)
          (and_from (same_text (request_in a n.k).clordid (request_in b n.j).clordid) _ n.same
          (and_from (ltb (request_in a n.k).order (length a.orders)) _ (lt-ltb _ _ (kept.request n.k n.within).order) (eq-eqb _ _ n.client)))

      go : (o : Option ℕ) → find_clordid a (client_of b n.j) (request_in b n.j).clordid ≡ o
          → not (is_done (order_in b (request_in b n.j).order).state.status) || maybe true (λ k. false) (find_clordid a (client_of b n.j) (request_in b n.j).clordid) ≡ false
      go (Some k) q = rw (n.done, q) refl
      go None q = clash _ bears (first_elim (λ k. bears_clordid a.orders (client_of b n.j) (request_in b n.j).clordid (request_in a k)) (length a.requests) q n.k n.within)

  -- ---- either

  pub stands_if : all_free a b ≡ false → InArchive b a
  unfolding all_free
  stands_if e =
      decide (all_below (name_free a b) (length b.orders))
      (λ t. let f : Fails (clordid_free a b) (length b.requests) = fails (clordid_free a b) (length b.requests) (sym (ap (λ (v : Bool). v && all_below (clordid_free a b) (length b.requests)) t) ∙ e) in
      inr (clordid_stands f.at f.below f.fails))
      (λ t. let f : Fails (name_free a b) (length b.orders) = fails (name_free a b) (length b.orders) t in inl (name_stands f.at f.below f.fails))

  pub if_stands : InArchive b a → all_free a b ≡ false
  unfolding all_free
  if_stands =
      ⊎_elim
      (λ n. ap (λ (v : Bool). v && all_below (clordid_free a b) (length b.requests)) (all_miss (name_free a b) (length b.orders) n.i n.there (stands_name n)))
      (λ n. ap (λ (v : Bool). all_below (name_free a b) (length b.orders) && v) (all_miss (clordid_free a b) (length b.requests) n.j n.there (stands_clordid n)) ∙ and-false _)

  -- so what goes is free
  module _ (free : all_free a b ≡ true) where
    pub free_names : FreeNames (done_at b) a b
    unfolding done_at
    free_names i h e k l =
        false_from_ne_true _
        (λ s. clash (all_free a b) free
        (if_stands (inl (record { i = i; k = k; there = h; done = e; within = l; same = same_back (order_in b i).names.name (order_in a k).names.name s }))))

    pub free_keys : FreeKeys (done_at b) a b
    unfolding done_at
    free_keys j h e k l =
        false_from_ne_true _
        (λ s.
        let (x, t) = and_parts _ (same_text (request_in b j).clordid (request_in a k).clordid) s in
        let (z, c) = and_parts (not (is_empty (request_in b j).clordid)) (eqb (client_of b j) (client_of a k)) x in
        clash (all_free a b) free
        (if_stands (inr (record {
          j = j;
          k = k;
          there = h;
          done = e;
          within = l;
          some = ap (λ (n : ℕ). eqb n 0) (sym (same_length (request_in b j).clordid (request_in a k).clordid t)) ∙ not-true _ z;
          client = sym (eqb-true _ _ c);
          same = same_back (request_in b j).clordid (request_in a k).clordid t;
        }))))

-- ---- room

pub gone_orders : (b : Book) → orders_gone b ≡ done_orders b
unfolding done_at
gone_orders b = refl

pub gone_requests : (b : Book) → requests_gone b ≡ done_requests b
unfolding done_at
gone_requests b = refl

module _ (b a : Book) where
  pub room_if : has_room a b ≡ true → (length a.orders + orders_gone b ≤ 64) × (length a.requests + requests_gone b ≤ 256)
  unfolding has_room
  room_if e =
      let (o, r) = and_parts (leb (length a.orders + orders_gone b) 64) (leb (length a.requests + requests_gone b) 256) e in
      (leb-true _ _ o, leb-true _ _ r)

  pub no_room_if : has_room a b ≡ false → NoRoom b a
  unfolding has_room
  no_room_if e =
      decide (leb (length a.orders + orders_gone b) 64)
      (λ t. inr (omega (arith, leb-false (length a.requests + requests_gone b) 256 (sym (ap (λ (v : Bool). v && leb (length a.requests + requests_gone b) 256) t) ∙ e), gone_requests b)))
      (λ t. inl (omega (arith, leb-false (length a.orders + orders_gone b) 64 t, gone_orders b)))

  pub if_no_room : NoRoom b a → has_room a b ≡ false
  if_no_room n =
      false_from_ne_true _
      (λ e. let r = room_if e in
      let o : length a.orders + orders_gone b ≤ 64 = r.0 in
      let q : length a.requests + requests_gone b ≤ 256 = r.1 in
      ⊎_elim (λ l. absurd (omega (arith, gone_orders b))) (λ l. absurd (omega (arith, gone_requests b))) n)
