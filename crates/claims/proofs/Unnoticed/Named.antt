-- An event that names nothing that was done: what that is on the book later, where what was done still is as it was. Rests on quiet.
use Rattle.std.proofs.Common.{ℕ, ◌≤◌, ◌<◌, arith, ◌≡◌, refl, sym, ap, ◌∙◌, ◌⊎◌, inl, inr, ⊎_elim, Bool, true, false, not, ◌&&◌, eqb, ltb, length, eqb-true}
use Rattle.std.proofs.Math.Decide.{dec_lt}
use Rattle.std.proofs.Math.ListN.{get_or-eq_default}
use Rattle.std.proofs.lemmas.Bool.{cases_Bool, and_parts, not-true}
use Rattle.prelude.specs.Laws.Cases.{clash}
use Rattle.prelude.specs.Texts.{same_text}
use Rattle.prelude.specs.declared.Text.{Text}
use Rattle.store.specs.declared.Order.{Order}
use Rattle.store.specs.declared.Request.{Request}
use Rattle.store.specs.Orders.{no_order}
use Rattle.store.specs.Book.{Book, order_in, request_in}
use Rattle.store.specs.Finds.{has_clordid, of_client, bears_clordid}
use Rattle.machine.specs.Orders.{is_done, is_empty}
use Rattle.machine.specs.Changes.{Event}
use Rattle.machine.specs.Rules.{rules, client_of}
use Rattle.machine.proofs.Kept.Indexed.{BookKept}
use Rattle.parts.specs.Parts.{done_at, live_at, of_passing}
use Rattle.quiet.specs.Part.{Parted, NamesPassing, Fixed}
use Rattle.parts.specs.Alike.{OwnNamed}
use Rattle.claims.specs.RetirePlaced.{DoneOrder, DoneRequest}
use Rattle.claims.specs.Unnoticed.{NamesNoneDone}

module _ (was : Book) where
  -- beyond the orders none is done
  pub live_past : (i : ℕ) → length was.orders ≤ i → live_at was i ≡ true
  unfolding done_at is_done
  live_past i l = ap (λ (o : Order). not (is_done o.state.status)) (get_or-eq_default was.orders no_order l)

  pub done_order : (i : ℕ) → live_at was i ≡ false → DoneOrder was i
  unfolding done_at
  done_order i h = record { there = go (dec_lt i (length was.orders)); done = back (is_done (order_in was i).state.status) h }
    where
      go : Dec (i < length was.orders) → i < length was.orders
      go (yes l) = l
      go (no l) = clash (live_at was i) (live_past i (omega arith)) h

      back : (a : Bool) → not a ≡ false → a ≡ true
      back true e = refl
      back false e = clash true refl e

  pub not_live : (i : ℕ) → DoneOrder was i → live_at was i ≡ false
  unfolding done_at
  not_live i d = ap not d.done

  module _ (good : BookKept was) where
    pub done_request : (j : ℕ) → j < length was.requests → of_passing (live_at was) was j ≡ false → DoneRequest was j
    done_request j l h = record { there = l; done = done_order (request_in was j).order h }

    -- at the retirement
    pub parted_start : rules was ≡ true → OwnNamed was → Parted (live_at was) was
    parted_start r own = record { kept = r; more = live_past; own = λ i l h. own i l }

    module _ (b : Book) (fixed : Fixed (live_at was) was b) (e : Event) (kinds : (0 < e.kind) × (e.kind ≤ 9)) (names : NamesNoneDone was e) where
      abbrev p : ℕ → Bool
      p = live_at was

      request_was : (j : ℕ) → j < length b.requests → of_passing p b j ≡ false → DoneRequest was j × (request_in b j ≡ request_in was j)
      request_was j l h =
          let (m, s) = fixed.requests j l h in
          (done_request j m (sym (ap (λ (q : Request). p q.order) s) ∙ h), s)

      name_passes : (e.kind ≤ 1) ⊎ (9 ≤ e.kind) → (i : ℕ) → i < length b.orders → same_text (order_in b i).names.name e.ids.name ≡ true → p i ≡ true
      name_passes kind i l t =
          ⊎_elim (λ z. z) (λ z. clash _ (sym (ap (λ (o : Order). same_text o.names.name e.ids.name) (fixed.orders i z)) ∙ t) (names.name named i (done_order i z))) (cases_Bool (p i))
        where
          named : (e.kind ≡ 1) ⊎ (e.kind ≡ 9)
          named = let (low, high) = kinds in ⊎_elim (λ m. inl (omega arith)) (λ m. inr (omega arith)) kind

      downstream_passes : (4 ≤ e.kind) × (e.kind ≤ 8) → (j : ℕ) → j < length b.requests → same_text (request_in b j).downstream e.ids.downstream ≡ true → of_passing p b j ≡ true
      downstream_passes kind j l t = ⊎_elim (λ z. z) (λ z. go z (request_was j l z)) (cases_Bool (of_passing p b j))
        where
          go : of_passing p b j ≡ false → DoneRequest was j × (request_in b j ≡ request_in was j) → of_passing p b j ≡ true
          go z (d, s) = clash _ (sym (ap (λ (q : Request). same_text q.downstream e.ids.downstream) s) ∙ t) (names.downstream kind.0 kind.1 j d)

      -- a ClOrdID of the event's client
      clordid_passes : (t : Text)
          → ((j : ℕ) → DoneRequest was j → client_of was j ≡ e.client → is_empty (request_in was j).clordid ≡ false → same_text (request_in was j).clordid t ≡ false)
          → (j : ℕ) → j < length b.requests → bears_clordid b.orders e.client t (request_in b j) ≡ true → of_passing p b j ≡ true
      unfolding of_client
      clordid_passes t unused j l h = ⊎_elim (λ z. z) (λ z. go z (request_was j l z)) (cases_Bool (of_passing p b j))
        where
          go : of_passing p b j ≡ false → DoneRequest was j × (request_in b j ≡ request_in was j) → of_passing p b j ≡ true
          go z (d, s) =
              let q = request_in b j in
              let inside : Bool = ltb q.order (length b.orders) in
              let client : Bool = eqb (order_in b q.order).client e.client in
              let (a, f) = and_parts (has_clordid q) (same_text q.clordid t && (inside && client)) h in
              let (g, k) = and_parts (same_text q.clordid t) (inside && client) f in
              let c : (order_in b q.order).client ≡ e.client = eqb-true _ _ (and_parts inside client k).1 in
              let own : client_of was j ≡ e.client =
              ap (λ (x : Request). (order_in was x.order).client) (sym s) ∙ sym (ap (λ (o : Order). o.client) (fixed.orders q.order z)) ∙ c in
              let some : is_empty (request_in was j).clordid ≡ false = sym (ap (λ (x : Request). is_empty x.clordid) s) ∙ not-true _ a in
              clash _ (sym (ap (λ (x : Request). same_text x.clordid t) s) ∙ g) (unused j d own some)

      pub names_passing : NamesPassing p b e
      names_passing = record {
        name = name_passes;
        downstream = downstream_passes;
        clordid = λ kind. clordid_passes e.ids.clordid (names.clordid kind);
        origclordid = λ kind. clordid_passes e.ids.origclordid (names.origclordid kind);
      }

      -- and what was done stays as it was over one more event
      pub fixed_on : (b' : Book) → Fixed p b b' → Fixed p was b'
      fixed_on b' f = record {
        orders = λ i h. f.orders i h ∙ fixed.orders i h;
        requests = λ j l h. before j (f.requests j l h) h;
        there = λ j l h. later j (fixed.there j l h) h;
      }
        where
          before : (j : ℕ) → (j < length b.requests) × (request_in b' j ≡ request_in b j) → of_passing p b' j ≡ false → (j < length was.requests) × (request_in b' j ≡ request_in was j)
          before j (l, s) h =
              let (m, t) = fixed.requests j l (sym (ap (λ (q : Request). p q.order) s) ∙ h) in
              (m, s ∙ t)

          later : (j : ℕ) → (j < length b.requests) × (request_in b j ≡ request_in was j) → of_passing p was j ≡ false → (j < length b'.requests) × (request_in b' j ≡ request_in was j)
          later j (l, s) h =
              let (m, t) = f.there j l (ap (λ (q : Request). p q.order) s ∙ h) in
              (m, t ∙ s)
