-- Where a retirement puts everything, on books: the parts of the statement, from the laws of joined books. Rests on parts' laws.
use Rattle.std.proofs.Common.{ℕ, ◌+◌, ◌-◌, ◌≤◌, ◌<◌, arith, ◌≡◌, refl, sym, ap, subst, ◌∙◌, ◌⊎◌, inl, inr, ⊎_elim, Bool, true, false, not, ◌&&◌, None, Some, eqb, length, eqb-true, eq-eqb, ne_eqb}
use Rattle.std.proofs.lemmas.Bool.{and_parts, cases_lt, not-true, not_from_false, or_left, or_right}
use Rattle.prelude.specs.Laws.Cases.{if_true, if_false, split_maybe, clash, same_some}
use Rattle.prelude.specs.Below.{first_below}
use Rattle.prelude.specs.Laws.Below.{First, first_some, first_elim, first_none}
use Rattle.store.specs.Book.{Book, order_in, request_in, empty_book}
use Rattle.store.specs.Finds.{find_name, find_downstream}
use Rattle.machine.specs.Changes.{is_gateway}
use Rattle.machine.specs.Orders.{is_done, has_gateway}
use Rattle.machine.specs.Exchange.{SameRecord}
use Rattle.machine.proofs.Kept.Indexed.{BookKept, book_kept}
use Rattle.machine.proofs.Kept.OrderSteps.{gateway_live}
use Rattle.machine.proofs.Kept.Steps.{start_keeps}
use Rattle.machine.proofs.Kept.Consequences.{names_apart_lem}
use Rattle.parts.specs.Parts.{done_at, live_at, of_passing, own_cancel, named_along, moved_request, joined, live_part, archived}
use Rattle.parts.specs.Laws.Ranks.{rank_below}
use Rattle.parts.specs.Laws.Joined.{joined_orders, joined_requests, joined_old_order, joined_old_request, joined_order, joined_request, FromOrder, order_from}
use Rattle.parts.specs.Laws.Linked.{new_place}
use Rattle.parts.specs.Laws.Same.{same_record, same_requests, old_requests}
use Rattle.parts.specs.Laws.Found.{count_rest, new_request, find_old, joined_found, joined_downstream, joined_owner}
use Rattle.parts.specs.Alike.{alone, naming, OwnNamed}
use Rattle.claims.specs.RetirePlaced.{StandsAt, SentAt, LiveOrder, DoneOrder, LiveRequest, DoneRequest, GatewaysOwn, GatewaysFirst, NamedStill, LivePlaced, DonePlaced, FromLive, FromDone, Placed}

-- ---- what moves, on either side

module _ (p : ℕ → Bool) (into b : Book) (hi : BookKept into) (hb : BookKept b) (kj : BookKept (joined p into b)) where
  stands : (i : ℕ) → i < length b.orders → p i ≡ true → StandsAt b (joined p into b) i (naming (named_along p b i) (order_in b i)) (new_place p into i)
  stands i h e = record {
    found = joined_found p into b kj i h e;
    same = subst (SameRecord b (joined p into b) (naming (named_along p b i) (order_in b i))) (sym (joined_order p into b i h e)) (same_record p into b hi hb i h e);
    requests = same_requests p into b hi hb i h e;
  }

  -- naming what it names
  stands_exact : (i : ℕ) → i < length b.orders → p i ≡ true → named_along p b i ≡ (order_in b i).gateway.origdownstream → StandsAt b (joined p into b) i (order_in b i) (new_place p into i)
  stands_exact i h e n = subst (λ (l : ℕ). StandsAt b (joined p into b) i (naming l (order_in b i)) (new_place p into i)) n (stands i h e)

  sent : (j : ℕ) → j < length b.requests → of_passing p b j ≡ true → SentAt b (joined p into b) j (new_request p into b j)
  sent j h e = record {
    found = joined_downstream p into b kj j h e;
    same = ap alone (joined_request p into b j h e) ∙ (unfold moved_request in refl);
    order = joined_owner p into b j h e (hb.request j h).order;
  }

  booked : (i j : ℕ) → i < j → i < length b.orders → p i ≡ true → j < length b.orders → p j ≡ true
      → (k l : ℕ) → find_name (joined p into b) (order_in b i).names.name ≡ Some k → find_name (joined p into b) (order_in b j).names.name ≡ Some l → k < l
  booked i j less h d g e k l x y =
      let u : k ≡ new_place p into i = same_some x (joined_found p into b kj i h d) in
      let v : l ≡ new_place p into j = same_some y (joined_found p into b kj j g e) in
      omega (arith, rank_below p i j less d)

  sending : (i j : ℕ) → i < j → i < length b.requests → of_passing p b i ≡ true → j < length b.requests → of_passing p b j ≡ true
      → (k l : ℕ) → find_downstream (joined p into b) (request_in b i).downstream ≡ Some k → find_downstream (joined p into b) (request_in b j).downstream ≡ Some l → k < l
  sending i j less h d g e k l x y =
      let u : k ≡ new_request p into b i = same_some x (joined_downstream p into b kj i h d) in
      let v : l ≡ new_request p into b j = same_some y (joined_downstream p into b kj j g e) in
      omega (arith, rank_below (of_passing p b) i j less d)

-- ---- what a gateway cancel names

module _ (b : Book) (i : ℕ) where
  live_along : LiveRequest b ((order_in b i).gateway.origdownstream - 1) → of_passing (live_at b) b ((order_in b i).gateway.origdownstream - 1) ≡ true
  live_along r = unfold done_at in not_from_false _ r.live.live

  named_none : (order_in b i).gateway.origdownstream ≡ 0 → named_along (live_at b) b i ≡ (order_in b i).gateway.origdownstream
  unfolding named_along
  named_none z = if_true _ _ _ (or_left _ _ (eq-eqb _ 0 z))

  named_stays : of_passing (live_at b) b ((order_in b i).gateway.origdownstream - 1) ≡ true → named_along (live_at b) b i ≡ (order_in b i).gateway.origdownstream
  unfolding named_along
  named_stays t = if_true _ _ _ (or_right _ _ t)

  named_goes : 0 < (order_in b i).gateway.origdownstream → DoneRequest b ((order_in b i).gateway.origdownstream - 1) → named_along (live_at b) b i ≡ own_cancel b i
  unfolding named_along
  named_goes h r =
      let z : eqb (order_in b i).gateway.origdownstream 0 ≡ false = ne_eqb _ 0 (λ z. omega arith) in
      let t : of_passing (live_at b) b ((order_in b i).gateway.origdownstream - 1) ≡ false = unfold done_at in ap not r.done.done in
      if_false _ _ _ (rw (z, t) refl)

  -- the first gateway's cancel of order i, or its current request if it has none
  own_is : GatewaysFirst b i (own_cancel b i) ⊎ (((k : ℕ) → GatewaysOwn b i k → ⊥) × (own_cancel b i ≡ (order_in b i).links.current))
  unfolding own_cancel is_gateway
  own_is =
      split_maybe (λ (l : ℕ). GatewaysFirst b i l ⊎ (((k : ℕ) → GatewaysOwn b i k → ⊥) × (l ≡ (order_in b i).links.current)))
      (first_below (λ j. eqb (request_in b j).order i && is_gateway (request_in b j)) (length b.requests))
      (λ e. inr (none e, refl)) (λ j e. inl (some j (first_some _ (length b.requests) j e)))
    where
      none_below : (n : ℕ) → first_below (λ j. eqb (request_in b j).order i && is_gateway (request_in b j)) n ≡ None → (k : ℕ) → GatewaysOwn b i k → k ≤ n → ⊥
      none_below n e k g h =
          let (above, within) = g.there in
          clash _ (unfold is_gateway in rw (eq-eqb _ i g.own, eq-eqb _ _ g.kind) refl)
          (first_elim (λ j. eqb (request_in b j).order i && is_gateway (request_in b j)) n e (k - 1) (omega arith))

      some : (j : ℕ) → First (λ j. eqb (request_in b j).order i && is_gateway (request_in b j)) (length b.requests) j → GatewaysFirst b i (j + 1)
      some j f =
          let (x, y) = and_parts (eqb (request_in b j).order i) (is_gateway (request_in b j)) f.passes in
          let z : j + 1 - 1 ≡ j = omega arith in
          record {
            owned = record {
              there = (omega arith, omega (arith, f.below));
              own = ap (λ (k : ℕ). (request_in b k).order) z ∙ eqb-true _ i x;
              kind = ap (λ (k : ℕ). (request_in b k).kind) z ∙ eqb-true _ _ (unfold is_gateway in y);
            };
            first = λ k g. ⊎_elim (λ l. absurd (none_below j f.least k g (omega (arith, l)))) (λ l. l) (cases_lt k (j + 1));
          }

      none : first_below (λ j. eqb (request_in b j).order i && is_gateway (request_in b j)) (length b.requests) ≡ None → (k : ℕ) → GatewaysOwn b i k → ⊥
      none e k g = none_below (length b.requests) e k g g.there.1

  named_still : NamedStill b i (named_along (live_at b) b i)
  named_still = record {
    none = λ z. named_none z ∙ z;
    stays = λ r. named_stays (live_along r);
    goes = λ h r. subst (λ (l : ℕ). GatewaysFirst b i l ⊎ (((k : ℕ) → GatewaysOwn b i k → ⊥) × (l ≡ (order_in b i).links.current))) (sym (named_goes h r)) own_is;
  }

-- a done order's gateway cancel names nothing
done_names : (b : Book) → BookKept b → (i : ℕ) → DoneOrder b i → (order_in b i).gateway.origdownstream ≡ 0
done_names b good i d = go (eqb (order_in b i).gateway.origdownstream 0) refl
  where
    go : (t : Bool) → eqb (order_in b i).gateway.origdownstream 0 ≡ t → (order_in b i).gateway.origdownstream ≡ 0
    go true e = eqb-true _ 0 e
    go false e = clash _ d.done (gateway_live (order_in b i) (good.order i d.there).done (unfold has_gateway in ap not e))

done_along : (b : Book) → BookKept b → (i : ℕ) → DoneOrder b i → named_along (done_at b) b i ≡ (order_in b i).gateway.origdownstream
unfolding named_along
done_along b good i d = if_true _ _ _ (or_left _ _ (eq-eqb _ 0 (done_names b good i d)))

-- ---- each order in exactly one of the two

not_same : (b : Book) (i k : ℕ) → is_done (order_in b i).state.status ≡ true → is_done (order_in b k).state.status ≡ false → i ≡ k → ⊥
not_same b i k d l e = clash _ d (ap (λ (j : ℕ). is_done (order_in b j).state.status) e ∙ l)

module _ (was held : Book) (hw : BookKept was) (hh : BookKept held) (hl : BookKept (live_part was)) (hk : BookKept (archived held was))
    (fresh : (i : ℕ) → DoneOrder was i → find_name held (order_in was i).names.name ≡ None) where
  none_kept : BookKept (empty_book was.setting)
  none_kept = book_kept (empty_book was.setting) (start_keeps was.setting)

  to_live : (i : ℕ) → is_done (order_in was i).state.status ≡ false → live_at was i ≡ true
  to_live i e = unfold done_at in ap not e

  live_from : (i : ℕ) → live_at was i ≡ true → is_done (order_in was i).state.status ≡ false
  live_from i e = unfold done_at in not-true _ e

  live_placed : (i : ℕ) → LiveOrder was i → LivePlaced was held (live_part was) (archived held was) i
  live_placed i r = record {
    place = new_place (live_at was) (empty_book was.setting) i;
    link = named_along (live_at was) was i;
    stands = stands (live_at was) (empty_book was.setting) was none_kept hw hl i r.there (to_live i r.live);
    named = named_still was i;
    apart = find_old (done_at was) held was (order_in was i).names.name
        (λ k h e. names_apart_lem was hw k i h r.there (not_same was k i (unfold done_at in e) r.live));
  }

  done_placed : (i : ℕ) → DoneOrder was i → DonePlaced was held (live_part was) (archived held was) i
  done_placed i r = record {
    place = new_place (done_at was) held i;
    stands = stands_exact (done_at was) held was hh hw hk i r.there (unfold done_at in r.done) (done_along was hw i r);
    behind = omega arith;
    apart = find_old (live_at was) (empty_book was.setting) was (order_in was i).names.name
        (λ k h e. names_apart_lem was hw k i h r.there (λ z. not_same was i k r.done (live_from k e) (sym z)))
        ∙ (unfold find_name in first_none _);
    fresh = fresh i r;
  }

  from_live : (k : ℕ) → k < length (live_part was).orders → FromLive was (live_part was) k
  from_live k h = ⊎_elim (λ l. absurd (omega arith)) new (order_from (live_at was) (empty_book was.setting) was k h)
    where
      new : FromOrder (live_at was) (empty_book was.setting) was k → FromLive was (live_part was) k
      new f = record {
        place = f.at;
        live = record { there = f.below; live = live_from f.at f.passes };
        found = joined_found (live_at was) (empty_book was.setting) was hl f.at f.below f.passes ∙ ap Some (sym f.place);
      }

  from_done : (k : ℕ) → k < length (archived held was).orders → (k < length held.orders) ⊎ FromDone was (archived held was) k
  from_done k h = ⊎_elim (λ l. inl l) (λ f. inr (new f)) (order_from (done_at was) held was k h)
    where
      new : FromOrder (done_at was) held was k → FromDone was (archived held was) k
      new f = record {
        place = f.at;
        done = record { there = f.below; done = unfold done_at in f.passes };
        found = joined_found (done_at was) held was hk f.at f.below f.passes ∙ ap Some (sym f.place);
      }

  exact : OwnNamed was → (i : ℕ) → LiveOrder was i → (k : ℕ) × StandsAt was (live_part was) i (order_in was i) k
  exact own i r = (
    new_place (live_at was) (empty_book was.setting) i,
    stands_exact (live_at was) (empty_book was.setting) was none_kept hw hl i r.there (to_live i r.live)
        (⊎_elim (λ z. named_none was i z) (λ o. named_stays was i (to_live _ (ap (λ (k : ℕ). is_done (order_in was k).state.status) o.2 ∙ r.live))) (own i r.there)),
  )

  pub placed : Placed was held (live_part was) (archived held was)
  placed = record {
    live = live_placed;
    done = done_placed;
    orders = omega (arith, joined_orders (live_at was) (empty_book was.setting) was, joined_orders (done_at was) held was, count_rest (done_at was) (length was.orders));
    requests = omega (arith, joined_requests (live_at was) (empty_book was.setting) was, joined_requests (done_at was) held was, count_rest (of_passing (done_at was) was) (length was.requests));
    from_live = from_live;
    from_done = from_done;
    held_orders = λ k h. joined_old_order (done_at was) held was k h;
    held_requests = λ j h. joined_old_request (done_at was) held was j h;
    held_own = λ k h. old_requests (done_at was) held was k h;
    booked_live = λ i j less r s. booked (live_at was) (empty_book was.setting) was none_kept hw hl i j less r.there (to_live i r.live) s.there (to_live j s.live);
    booked_done = λ i j less r s. booked (done_at was) held was hh hw hk i j less r.there (unfold done_at in r.done) s.there (unfold done_at in s.done);
    sent_live = λ j r. (new_request (live_at was) (empty_book was.setting) was j, sent (live_at was) (empty_book was.setting) was none_kept hw hl j r.there (to_live _ r.live.live));
    sent_done = λ j r. (new_request (done_at was) held was j, sent (done_at was) held was hh hw hk j r.there (unfold done_at in r.done.done), omega arith);
    sending_live = λ i j less r s. sending (live_at was) (empty_book was.setting) was none_kept hw hl i j less r.there (to_live _ r.live.live) s.there (to_live _ s.live.live);
    sending_done = λ i j less r s. sending (done_at was) held was hh hw hk i j less r.there (unfold done_at in r.done.done) s.there (unfold done_at in s.done.done);
    exact = exact;
  }
