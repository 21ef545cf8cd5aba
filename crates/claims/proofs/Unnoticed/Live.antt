-- A record that concerns an order that was not retired names nothing of one that was, as names, downstream ClOrdIDs and a client's ClOrdIDs are distinct. Rests on Concern and machine's
-- Consequences.
use Rattle.std.proofs.Common.{ℕ, ◌≤◌, ◌<◌, arith, ◌≡◌, sym, ap, subst, ◌∙◌, ◌⊎◌, inl, inr, ⊎_elim, true, false, not, List, eqb, length, eq-eqb}
use Rattle.std.proofs.Math.Decide.{dec_lt}
use Rattle.std.proofs.lemmas.Bool.{cases_Bool, and_from}
use Rattle.prelude.specs.Laws.Cases.{clash}
use Rattle.prelude.specs.Texts.{same_text}
use Rattle.prelude.specs.Laws.Texts.{same_back, same_trans, same_length}
use Rattle.prelude.specs.declared.Text.{Text}
use Rattle.records.specs.Record.{event_in}
use Rattle.store.specs.declared.Order.{Order}
use Rattle.store.specs.declared.Request.{Request}
use Rattle.store.specs.Book.{Book, book_of, order_in, request_in}
use Rattle.machine.specs.Changes.{Event}
use Rattle.machine.specs.Orders.{is_empty}
use Rattle.machine.specs.Rules.{client_of, same_key}
use Rattle.machine.proofs.Numbered.{numbered_laws}
use Rattle.machine.proofs.Kept.Indexed.{BookKept, book_kept}
use Rattle.machine.proofs.Kept.Consequences.{names_apart_lem, downstreams_apart}
use Rattle.parts.specs.Parts.{live_at}
use Rattle.quiet.specs.Part.{Parted, Fixed}
use Rattle.claims.specs.Concern.{Concerns, by_clordid, by_request, by_name}
use Rattle.claims.specs.RetirePlaced.{DoneOrder, DoneRequest}
use Rattle.claims.specs.Unnoticed.{NamesNoneDone, ConcernsLive}
use Rattle.claims.proofs.Unnoticed.Named.{not_live}
use Rattle.claims.proofs.Unnoticed.Same.{done_there}

module _ (was : Book) (b r : List ℕ) (w : Parted (live_at was) (book_of b)) (fixed : Fixed (live_at was) was (book_of b)) (c : ConcernsLive was b r) where
  abbrev x : Book
  x = book_of b

  abbrev e : Event
  e = event_in r

  good : BookKept x
  good = book_kept x w.kept

  -- what was done is there as it was
  order_was : (k : ℕ) → DoneOrder was k → order_in x k ≡ order_in was k
  order_was k d = fixed.orders k (not_live was k d)

  request_was : (j : ℕ) → DoneRequest was j → (j < length x.requests) × (request_in x j ≡ request_in was j)
  request_was j d = fixed.there j d.there (not_live was (request_in was j).order d.done)

  client_was : (j : ℕ) → DoneRequest was j → client_of x j ≡ client_of was j
  client_was j d =
      ap (λ (q : Request). (order_in x q.order).client) (request_was j d).1 ∙ ap (λ (o : Order). o.client) (order_was (request_in was j).order d.done)

  -- and is another order
  other : (k : ℕ) → DoneOrder was k → k ≡ c.place → ⊥
  other k d z = c.live (subst (DoneOrder was) z d)

  -- or a request of one
  other_request : (j k : ℕ) → DoneRequest was j → (request_in x k).order ≡ c.place → j ≡ k → ⊥
  other_request j k d z y =
      other (request_in was j).order d.done (ap (λ (q : Request). q.order) (sym (request_was j d).1) ∙ ap (λ (m : ℕ). (request_in x m).order) y ∙ z)

  -- two texts that are a third's are each other's
  both_same : (s u t : Text) → same_text s t ≡ true → same_text u t ≡ true → same_text s u ≡ true
  both_same s u t p q = same_trans s t u p (same_back u t q)

  name_other : (k : ℕ) → c.place < length x.orders → same_text (order_in x c.place).names.name e.ids.name ≡ true → DoneOrder was k → same_text (order_in was k).names.name e.ids.name ≡ false
  name_other k l t d = ap (λ (o : Order). same_text o.names.name e.ids.name) (sym (order_was k d))
      ∙ ⊎_elim (λ z. clash _ (both_same _ _ _ z t) (names_apart_lem x good k c.place (done_there was x w fixed k d) l (other k d))) (λ z. z)
      (cases_Bool (same_text (order_in x k).names.name e.ids.name))

  downstream_other : (k j : ℕ) → k < length x.requests → (request_in x k).order ≡ c.place → same_text (request_in x k).downstream e.ids.downstream ≡ true → DoneRequest was j
      → same_text (request_in was j).downstream e.ids.downstream ≡ false
  downstream_other k j l o t d = ap (λ (q : Request). same_text q.downstream e.ids.downstream) (sym (request_was j d).1)
      ∙ ⊎_elim (λ z. clash _ (both_same _ _ _ z t) (downstreams_apart x good numbered_laws j k (request_was j d).0 l (other_request j k d o))) (λ z. z)
      (cases_Bool (same_text (request_in x j).downstream e.ids.downstream))

  key_is : (j k : ℕ) → is_empty (request_in x j).clordid ≡ false → client_of x j ≡ client_of x k → same_text (request_in x j).clordid (request_in x k).clordid ≡ true → same_key x j k ≡ true
  unfolding same_key
  key_is j k some client t = and_from _ _ (and_from _ _ (ap not some) (eq-eqb (client_of x j) (client_of x k) client)) t

  clordid_other : (k j : ℕ) → k < length x.requests → (request_in x k).order ≡ c.place → (order_in x c.place).client ≡ e.client
      → same_text (request_in x k).clordid e.ids.origclordid ≡ true → DoneRequest was j → client_of was j ≡ e.client → is_empty (request_in was j).clordid ≡ false
      → same_text (request_in was j).clordid e.ids.origclordid ≡ false
  clordid_other k j l o own t d client' some' = ap (λ (q : Request). same_text q.clordid e.ids.origclordid) (sym (request_was j d).1)
      ∙ ⊎_elim (λ z. go z (dec_lt j k) (dec_lt k j)) (λ z. z) (cases_Bool (same_text (request_in x j).clordid e.ids.origclordid))
    where
      client : client_of x j ≡ e.client
      client = client_was j d ∙ client'

      some : is_empty (request_in x j).clordid ≡ false
      some = ap (λ (q : Request). is_empty q.clordid) (request_was j d).1 ∙ some'

      its : client_of x k ≡ e.client
      its = ap (λ (m : ℕ). (order_in x m).client) o ∙ own

      empty_of : (u v : Text) → same_text u v ≡ true → is_empty u ≡ false → is_empty v ≡ false
      empty_of u v s n = ap (λ (m : ℕ). eqb m 0) (sym (same_length u v s)) ∙ n

      go : same_text (request_in x j).clordid e.ids.origclordid ≡ true → Dec (j < k) → Dec (k < j) → same_text (request_in x j).clordid e.ids.origclordid ≡ false
      go z (yes m) n =
          clash _ (key_is k j (empty_of _ _ (both_same _ _ _ z t) some) (its ∙ sym client) (both_same _ _ _ t z)) (good.keys k j l m)
      go z (no m) (yes n) = clash _ (key_is j k some (client ∙ sym its) (both_same _ _ _ z t)) (good.keys j k (request_was j d).0 n)
      go z (no m) (no n) = absurd (other_request j k d o (omega arith))

  by : Concerns b r c.place → NamesNoneDone was e
  by (by_clordid kind client k own t) = record {
    name = λ n j d. absurd (not_both kind n);
    downstream = λ l h j d. absurd (low kind l);
    clordid = λ n j d. c.clordid j d;
    origclordid = λ n j d. clordid_other k j own.0 own.1 client t d;
  }
    where
      not_both : (e.kind ≡ 2) ⊎ (e.kind ≡ 3) → (e.kind ≡ 1) ⊎ (e.kind ≡ 9) → ⊥
      not_both (inl u) (inl v) = omega arith
      not_both (inl u) (inr v) = omega arith
      not_both (inr u) (inl v) = omega arith
      not_both (inr u) (inr v) = omega arith

      low : (e.kind ≡ 2) ⊎ (e.kind ≡ 3) → 4 ≤ e.kind → ⊥
      low (inl u) l = omega arith
      low (inr u) l = omega arith
  by (by_request l h k own t) = record {
    name = λ n j d. absurd (apart n);
    downstream = λ l' h' j d. downstream_other k j own.0 own.1 t d;
    clordid = λ n j d. absurd (omega arith);
    origclordid = λ n j d. absurd (early n);
  }
    where
      apart : (e.kind ≡ 1) ⊎ (e.kind ≡ 9) → ⊥
      apart (inl u) = omega arith
      apart (inr u) = omega arith

      early : (e.kind ≡ 2) ⊎ (e.kind ≡ 3) → ⊥
      early (inl u) = omega arith
      early (inr u) = omega arith
  by (by_name z inside t) = record {
    name = λ n j d. name_other j inside t d;
    downstream = λ l h j d. absurd (omega arith);
    clordid = λ n j d. absurd (omega arith);
    origclordid = λ n j d. absurd (early n);
  }
    where
      early : (e.kind ≡ 2) ⊎ (e.kind ≡ 3) → ⊥
      early (inl u) = omega arith
      early (inr u) = omega arith

  pub concerns_live : NamesNoneDone was e
  concerns_live = by c.concerns
