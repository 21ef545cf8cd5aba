-- If both events add a request, the books differ in the places of these two, and in the links that name them. Rests on Whole.
use Rattle.std.proofs.Common.{ℕ, ◌+◌, ◌≤◌, arith, ◌≡◌, sym, ap, subst, ◌∙◌, length, eq-eqb, ne_eqb}
use Rattle.std.proofs.Math.Decide.{ℕ_discrete}
use Rattle.prelude.specs.Laws.Cases.{if_true, if_false}
use Rattle.store.specs.declared.Order.{Order}
use Rattle.store.specs.Book.{Book, order_in, request_in}
use Rattle.machine.specs.Machine.{change_of, after, book_after}
use Rattle.machine.specs.Exchange.{turned_link, turned_order, Turned, TurnedBook}
use Rattle.machine.specs.declared.Requests.{Requests}
use Rattle.machine.specs.declared.Change.{Change}
use Rattle.machine.proofs.Kept.Local.{one_more_lem}
use Rattle.machine.proofs.Kept.Indexed.{BookKept}
use Rattle.machine.proofs.Claim.Records.{added_long}
use Rattle.machine.proofs.Exchange.Links.{Within, Linked, same, cancels, replaces, with_cancel, with_request, same_requests}
use Rattle.machine.proofs.Exchange.Commute.{added_one, added_two}
use Rattle.machine.proofs.Exchange.Both.{next, Crossed, crossed_back, Both, both_ways}
use Rattle.machine.proofs.Exchange.Whole.{within, old_at, first_one, first_two, beside_one, beside_two, same_count}
use Rattle.machine.proofs.Exchange.Frame.{after_setting}

-- ---- links

module _ (t : ℕ) where
  turned_old : (l : ℕ) → l ≤ t → turned_link t l ≡ l
  unfolding turned_link
  turned_old l h = if_false _ _ _ (ne_eqb l (t + 1) (λ z. omega arith)) ∙ if_false _ _ _ (ne_eqb l (t + 2) (λ z. omega arith))

  turned_first : (l : ℕ) → l ≡ t + 1 → turned_link t l ≡ t + 2
  unfolding turned_link
  turned_first l z = if_true _ _ _ (eq-eqb l (t + 1) z)

  turned_second : (l : ℕ) → l ≡ t + 2 → turned_link t l ≡ t + 1
  unfolding turned_link
  turned_second l z = if_false _ _ _ (ne_eqb l (t + 1) (λ y. omega arith)) ∙ if_true _ _ _ (eq-eqb l (t + 2) z)

  -- an order whose links come to these
  abbrev linked_order : (current cancel pending named : ℕ) → Order → Order
  linked_order current cancel pending named o = record {
    client = o.client;
    venue = o.venue;
    names = o.names;
    terms = o.terms;
    state = o.state;
    links = record { amendments = o.links.amendments; current = current; cancel = cancel };
    pending = record { request = pending; qty = o.pending.qty; price = o.pending.price; ordtype = o.pending.ordtype; timeinforce = o.pending.timeinforce };
    gateway = record {
      tries = o.gateway.tries;
      unsent = o.gateway.unsent;
      stuck = o.gateway.stuck;
      origdownstream = named;
      refusedsends = o.gateway.refusedsends;
    };
  }

  turned_is : (o : Order) (current cancel pending named : ℕ) → turned_link t o.links.current ≡ current → turned_link t o.links.cancel ≡ cancel
      → turned_link t o.pending.request ≡ pending → turned_link t o.gateway.origdownstream ≡ named → turned_order t o ≡ linked_order current cancel pending named o
  unfolding turned_order
  turned_is o current cancel pending named p q r s = λ i. linked_order (p i) (q i) (r i) (s i) o

  turned_within : (o : Order) → Within t o → turned_order t o ≡ o
  turned_within o w = turned_is o _ _ _ _ (turned_old _ w.current) (turned_old _ w.cancel) (turned_old _ w.pending) (turned_old _ w.named)

  -- the order with the one link, and with the other
  module _ (m n : ℕ) (zm : m ≡ t + 1) (zn : n ≡ t + 2) (c c' : Change) (a : c.requests.added ≡ 0 → ⊥) where
    turned_there : Linked t m n c c' → turned_order t c.order ≡ c'.order
    turned_there (same r e) = absurd (a r.adds)
    turned_there (cancels x z w e) =
        turned_is c.order _ n _ _ (turned_old _ w.current) (turned_first _ (z ∙ zm) ∙ sym zn) (turned_old _ w.pending) (turned_old _ w.named) ∙ ap (λ (y : Change). y.order) (sym e)
    turned_there (replaces x z w e) =
        turned_is c.order _ _ n _ (turned_old _ w.current) (turned_old _ w.cancel) (turned_first _ (z ∙ zm) ∙ sym zn) (turned_old _ w.named) ∙ ap (λ (y : Change). y.order) (sym e)

    turned_back : Linked t m n c c' → turned_order t c'.order ≡ c.order
    turned_back (same r e) = absurd (a r.adds)
    turned_back (cancels x z w e) =
        ap (λ (y : Change). turned_order t y.order) e
        ∙ turned_is (with_cancel n c.order) _ c.order.links.cancel _ _ (turned_old _ w.current) (turned_second n zn ∙ sym (z ∙ zm)) (turned_old _ w.pending) (turned_old _ w.named)
    turned_back (replaces x z w e) =
        ap (λ (y : Change). turned_order t y.order) e
        ∙ turned_is (with_request n c.order) _ _ c.order.pending.request _ (turned_old _ w.current) (turned_old _ w.cancel) (turned_second n zn ∙ sym (z ∙ zm)) (turned_old _ w.named)

-- ---- the books

module _ (b : Book) (good : BookKept b) (i j : ℕ) (c c' d d' : Change) (x : Crossed b i j c c' d d')
    (p : c.requests.added ≡ 0 → ⊥) (q : d.requests.added ≡ 0 → ⊥) where
  next_now : next b ≡ length b.requests + 1
  next_now = one_more_lem 65535 (length b.requests) (omega (arith, good.requests))

  next_after : (e : Change) → (e.requests.added ≡ 0 → ⊥) → next (after b e) ≡ length b.requests + 2
  next_after e a = let l = added_long b e a in one_more_lem 65535 (length (after b e).requests) (omega (arith, good.requests)) ∙ omega arith

  turned_orders : (k : ℕ) → order_in (after (after b d) c') k ≡ turned_order (length b.requests) (order_in (after (after b c) d') k)
  turned_orders k = go (ℕ_discrete k i) (ℕ_discrete k j)
    where
      go : Dec (k ≡ i) → Dec (k ≡ j) → order_in (after (after b d) c') k ≡ turned_order (length b.requests) (order_in (after (after b c) d') k)
      go (yes z) y = subst (λ (m : ℕ). order_in (after (after b d) c') m ≡ turned_order (length b.requests) (order_in (after (after b c) d') m)) (sym z)
          (first_two b good i j c c' d d' x ∙ sym (turned_there _ _ _ next_now (next_after d q) c c' p x.first_linked) ∙ sym (ap (turned_order _) (first_one b good i j c c' d d' x)))
      go (no z) (yes y) = subst (λ (m : ℕ). order_in (after (after b d) c') m ≡ turned_order (length b.requests) (order_in (after (after b c) d') m)) (sym y)
          (first_one b good j i d d' c c' (crossed_back b i j c c' d d' x) ∙ sym (turned_back _ _ _ next_now (next_after c p) d d' q x.second_linked)
          ∙ sym (ap (turned_order _) (first_two b good j i d d' c c' (crossed_back b i j c c' d d' x))))
      go (no z) (no y) =
          beside_two b good i j c c' d d' x k z y ∙ sym (turned_within (length b.requests) (order_in b k) (within b good k))
          ∙ sym (ap (turned_order _) (beside_one b good i j c c' d d' x k z y))

  long : (e e' f : Change) → e'.requests ≡ e.requests → (e.requests.added ≡ 0 → ⊥) → (f.requests.added ≡ 0 → ⊥) → length (after (after b f) e').requests ≡ length b.requests + 2
  long e e' f s a h = added_long (after b f) e' (λ z. a (sym (ap (λ (r : Requests). r.added) s) ∙ z)) ∙ omega (arith, added_long b f h)

  -- what c adds, and what d adds, in either book
  turned : Turned (length b.requests) (after (after b c) d') (after (after b d) c')
  turned =
      let u = same_requests x.first_linked in
      let v = same_requests x.second_linked in
      record {
        setting = after_setting (after b d) c' ∙ after_setting b d ∙ sym (after_setting (after b c) d' ∙ after_setting b c);
        count = sym (same_count b good i j c c' d d' x);
        orders = turned_orders;
        requests = (long d d' c v q p, long c c' d u p q);
        older = λ k l. sym (old_at b good i j c c' d d' x k l);
        first =
            ap (λ (k : ℕ). request_in (after (after b d) c') k) (sym (added_long b d q)) ∙ added_two b i j x.apart c c' d d' x.first x.second u v p
            ∙ sym (added_one b i j x.apart c c' d d' x.first x.second u v p);
        second =
            added_one b j i (λ z. x.apart (sym z)) d d' c c' x.second x.first v u q
            ∙ sym (ap (λ (k : ℕ). request_in (after (after b c) d') k) (sym (added_long b c p)) ∙ added_two b j i (λ z. x.apart (sym z)) d d' c c' x.second x.first v u q);
      }

pub turned_book : TurnedBook
turned_book b d e h p q =
    let w : Both b d e = both_ways b d e h in
    subst (λ (y : Book). Turned (length b.requests) y (book_after (book_after b e) d)) (sym w.left_one)
    (subst (Turned (length b.requests) (after (after b (change_of b d)) (change_of (after b (change_of b d)) e))) (sym w.left_two)
    (turned b w.kept w.i w.j _ _ _ _ w.crossed
    (λ z. p (ap (λ (c : Change). c.requests.added) w.first.step ∙ z)) (λ z. q (ap (λ (c : Change). c.requests.added) w.earlier.step ∙ z))))
