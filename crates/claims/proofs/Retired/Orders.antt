-- The orders' rows of a retirement, on bytes: each order that moves can be written and is written behind those that the book has, and nothing else changes.
-- Rests on parts' laws of a joined book, on store's laws, and on kept's of the header.
use Rattle.std.specs.Prelude.{ℕ, zero, suc, ◌+◌, ◌≤◌, ◌<◌, ◌≡◌, Bool, true, false, not, ◌&&◌, ◌||◌, List, [], ◌∷◌, ◌++◌, eqb, leb, length, refl}
use Rattle.std.proofs.Common.{arith, sym, ap, subst, ◌∙◌, ⊎_elim, append_assoc, append-nil, length-append, eqb-true, eq-eqb, leb-true}
use Rattle.std.proofs.lemmas.Bool.{and_parts, not-true, or_cases}
use Rattle.prelude.specs.Below.{count_below}
use Rattle.prelude.specs.Laws.Cases.{split_if}
use Rattle.store.specs.declared.GatewayCancel.{GatewayCancel}
use Rattle.store.specs.declared.Order.{Order}
use Rattle.store.specs.declared.Request.{Request}
use Rattle.store.specs.Layout.{most_requests}
use Rattle.store.specs.Orders.{OneStage, WholeOrder}
use Rattle.store.specs.Book.{Book, book_of, order_in, order_count, origin_at, add_order, plus_order}
use Rattle.store.specs.Laws.Stored.{length_orders}
use Rattle.store.specs.Laws.Adds.{add_order_book}
use Rattle.store.specs.Laws.Beside.{add_order_origin}
use Rattle.store.specs.Laws.Kept.{Keeps, add_order_keeps}
use Rattle.machine.specs.Changes.{is_cancel}
use Rattle.machine.specs.Rules.{linked, current_test, pending_test, current_rule, cancel_rule, pending_rule, gateway_range}
use Rattle.machine.specs.Whole.{WholeBook}
use Rattle.machine.proofs.Kept.Laws.{or_else}
use Rattle.machine.proofs.Kept.Tables.{linked_at}
use Rattle.machine.proofs.Kept.Local.{OrderKept}
use Rattle.machine.proofs.Kept.Indexed.{BookKept}
use Rattle.kept.proofs.Header.{Headed, add_order_head}
use Rattle.parts.specs.Parts.{passing, moved_order, joined}
use Rattle.parts.specs.Laws.Ranks.{rank_below}
use Rattle.parts.specs.Laws.Passing.{passing_hit, passing_pass, length_passing}
use Rattle.parts.specs.Laws.Joined.{joined_order, joined_orders}
use Rattle.parts.specs.Laws.Linked.{new_place}
use Rattle.retire.specs.Retire.{orders_moved}

-- ---- what an order's rules say of the size of its links

module _ (test : Request → Bool) (i l : ℕ) (qs : List Request) where
  linked_small : linked test i l qs ≡ true → l ≤ length qs
  linked_small e = (linked_at test i l qs e).within

  optional_small : eqb l 0 || linked test i l qs ≡ true → l ≤ length qs
  optional_small e = ⊎_elim (λ z. let z : l ≡ 0 = eqb-true l 0 z in omega arith) linked_small (or_cases (eqb l 0) (linked test i l qs) e)

-- and of its gateway cancel
gateway_small : (n : ℕ) (g : GatewayCancel) → gateway_range n g ≡ true → (g.origdownstream ≤ n) × OneStage g
unfolding gateway_range
gateway_small n g e =
    let (e, r3) = and_parts _ _ e in
    let (r1, r2) = and_parts (not (g.unsent && g.stuck)) (leb g.origdownstream n) e in
    (leb-true g.origdownstream n r2, record { one = not-true (g.unsent && g.stuck) r1; none = none r3 })
  where
    none : not (eqb g.origdownstream 0) || (not g.unsent && not g.stuck && eqb g.tries 0 && eqb g.refusedsends 0) ≡ true → g.origdownstream ≡ 0 → (g.unsent ≡ false) × (g.stuck ≡ false)
    none r z =
        let e : not g.unsent && not g.stuck && eqb g.tries 0 && eqb g.refusedsends 0 ≡ true = or_else (not (eqb g.origdownstream 0)) _ (ap not (eq-eqb g.origdownstream 0 z)) r in
        let (e, r4) = and_parts _ (eqb g.refusedsends 0) e in
        let (e, r3) = and_parts _ (eqb g.tries 0) e in
        let (r1, r2) = and_parts (not g.unsent) (not g.stuck) e in
        (not-true g.unsent r1, not-true g.stuck r2)

-- the same orders, and these behind them
abbrev pub with_more : Book → List Order → Book
with_more b os = record { setting = b.setting; orders = b.orders ++ os; requests = b.requests }

module _ (p : ℕ → Bool) (was into : List ℕ) (good : BookKept (joined p (book_of into) (book_of was))) (whole : WholeBook (book_of was)) where
  abbrev W : Book
  W = book_of was

  abbrev O : Book
  O = book_of into

  -- an order that moves can be written
  module _ (i : ℕ) (h : i < length W.orders) (e : p i ≡ true) where
    abbrev new : Order
    new = moved_order p (length O.requests) W i

    moved_kept : OrderKept (new_place p O i) new (joined p O W).requests
    moved_kept =
        let r : count_below p i < count_below p (length W.orders) = rank_below p i (length W.orders) h e in
        subst (λ (o : Order). OrderKept (new_place p O i) o (joined p O W).requests) (joined_order p O W i h e) (good.order (new_place p O i) (omega (arith, joined_orders p O W)))

    few : length (joined p O W).requests ≤ 256
    few = good.requests

    pub whole_order : WholeOrder (moved_order p (length O.requests) W i)
    unfolding moved_order current_rule cancel_rule pending_rule
    whole_order =
        let w : WholeOrder (order_in W i) = whole.order i h in
        let qs : List Request = (joined p O W).requests in
        let k : OrderKept (new_place p O i) new qs = moved_kept in
        let few : length qs ≤ 256 = few in
        let current : new.links.current ≤ length qs = linked_small (current_test new.names.downstream) (new_place p O i) new.links.current qs k.current in
        let cancel : new.links.cancel ≤ length qs = optional_small is_cancel (new_place p O i) new.links.cancel qs k.cancel in
        let pending : new.pending.request ≤ length qs = optional_small pending_test (new_place p O i) new.pending.request qs k.pending in
        let g = gateway_small (length qs) new.gateway k.gateway in
        let named : new.gateway.origdownstream ≤ length qs = g.0 in
        record {
          fits = record {
            client = w.fits.client;
            venue = w.fits.venue;
            names = w.fits.names;
            terms = w.fits.terms;
            state = w.fits.state;
            links = record { amendments = w.fits.links.amendments; current = omega arith; cancel = omega arith };
            pending = record { request = omega arith; qty = w.fits.pending.qty; price = w.fits.pending.price; ordtype = w.fits.pending.ordtype; timeinforce = w.fits.pending.timeinforce };
            gateway = record { tries = w.fits.gateway.tries; origdownstream = omega arith; refusedsends = w.fits.gateway.refusedsends };
          };
          stage = g.1;
        }

  -- ---- the loop

  -- d is what the first n orders leave
  pub record OrdersAt (n : ℕ) (d : List ℕ) : Type 0 where
    pub head : Headed d
    pub keeps : Keeps into d
    pub is : book_of d ≡ with_more O (passing p (moved_order p (length O.requests) W) n)
    pub origin : (j : ℕ) → j < most_requests → origin_at d j ≡ origin_at into j

  -- so many orders stand there
  pub orders_count : (n : ℕ) (d : List ℕ) → OrdersAt n d → order_count d ≡ length O.orders + count_below p n
  orders_count n d at =
      sym (length_orders d)
      ∙ ap (λ (b : Book). length b.orders) at.is
      ∙ length-append O.orders _
      ∙ ap (λ (k : ℕ). length O.orders + k) (length_passing p (moved_order p (length O.requests) W) n)

  module _ (head : Headed into) where
    orders_start : OrdersAt 0 into
    unfolding passing
    orders_start = record {
      head = head;
      keeps = record { same = refl; bytes = λ h. h };
      is = λ t. record { setting = O.setting; orders = sym (append-nil O.orders) t; requests = O.requests };
      origin = λ j h. refl;
    }

    orders_hit : (n : ℕ) → n < length W.orders → (d : List ℕ) → OrdersAt n d → p n ≡ true → OrdersAt (suc n) (add_order d (moved_order p (length O.requests) W n))
    orders_hit n h d at e =
        let o : Order = moved_order p (length O.requests) W n in
        let w : WholeOrder o = whole_order n h e in
        let r : count_below p n < count_below p (length W.orders) = rank_below p n (length W.orders) h e in
        let c : order_count d ≡ length O.orders + count_below p n = orders_count n d at in
        let most : length (joined p O W).orders ≤ 64 = good.orders in
        let more : Keeps d (add_order d o) = add_order_keeps d o w.fits in
        record {
          head = add_order_head d at.head o w;
          keeps = record { same = more.same ∙ at.keeps.same; bytes = λ k. more.bytes (at.keeps.bytes k) };
          is =
              add_order_book d o at.head.long (omega (arith, joined_orders p O W)) w
              ∙ ap (λ (b : Book). plus_order b o) at.is
              ∙ (λ t. record { setting = O.setting; orders = append_assoc O.orders (passing p (moved_order p (length O.requests) W) n) (o ∷ []) t; requests = O.requests })
              ∙ ap (with_more O) (sym (passing_hit p (moved_order p (length O.requests) W) n e));
          origin = λ j k. add_order_origin d j k o w.fits ∙ at.origin j k;
        }

    orders_miss : (n : ℕ) (d : List ℕ) → OrdersAt n d → p n ≡ false → OrdersAt (suc n) d
    orders_miss n d at e = record {
      head = at.head;
      keeps = at.keeps;
      is = at.is ∙ ap (with_more O) (sym (passing_pass p (moved_order p (length O.requests) W) n e));
      origin = at.origin;
    }

    pub orders_at : (n : ℕ) → n ≤ length W.orders → OrdersAt n (orders_moved p was (length O.requests) into n)
    unfolding orders_moved
    orders_at zero h = orders_start
    orders_at (suc n) h =
        let at = orders_at n (omega arith) in
        split_if (OrdersAt (suc n)) (p n) (orders_hit n (omega arith) _ at) (orders_miss n _ at)
