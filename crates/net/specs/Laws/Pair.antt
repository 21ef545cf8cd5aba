-- What the first orders bought and sold of one client in one symbol, one order more at a time. Rests on Net and prelude's Totals.
use Rattle.std.specs.Prelude.{ℕ, zero, suc, ◌+◌, ◌*◌, ◌^◌, ◌≤◌, ◌<◌, ◌≡◌, refl, Bool, ◌&&◌, List, [], ◌∷◌, length, get_or, true, false, not, eqb, take}
use Rattle.std.proofs.Common.{ap, subst, sym, ◌∙◌, add-one, take-suc, arith, eq-eqb, ne_eqb, take_all}
use Rattle.std.proofs.lemmas.Bool.{not-true, and_parts}
use Rattle.prelude.specs.Below.{all_below}
use Rattle.prelude.specs.Cases.{if◌then◌otherwise◌}
use Rattle.prelude.specs.Laws.Cases.{if_true, if_false}
use Rattle.prelude.specs.Number.{word16, word64}
use Rattle.prelude.specs.Texts.{same_text}
use Rattle.prelude.specs.Totals.{total_of}
use Rattle.prelude.specs.Laws.Totals.{total_append}
use Rattle.prelude.specs.declared.Text.{Text}
use Rattle.format.specs.Codes.{buy}
use Rattle.store.specs.declared.Order.{Order}
use Rattle.store.specs.Orders.{no_order}
use Rattle.store.specs.Layout.{book_size, header·orders, most_orders, order_base, order·client, names·symbol, terms·side, state·cumqty}
use Rattle.store.specs.Book.{Book, order_in, book_of, order_count}
use Rattle.store.specs.Laws.Fields.{order_client, names_symbol, terms_side, state_cumqty}
use Rattle.store.specs.Laws.Stored.{count_book, count_most, order_in_lem}
use Rattle.text.specs.Stored.{text_is}
use Rattle.text.specs.Laws.InPlace.{text_is_here}
use Rattle.machine.specs.Since.{on_side, filled_on}
use Rattle.net.specs.declared.Amounts.{Amounts}
use Rattle.net.specs.Net.{filled_in, of_pair, miss_at, unseen}

-- ---- an order in use, read in place

pub record InUse (b : List ℕ) (k : ℕ) : Type 0 where
  pub long : length b ≡ book_size
  pub few : k < most_orders
  pub used : k < order_count b

pub used_long : (b : List ℕ) (k : ℕ) → k < order_count b → length b ≡ book_size
used_long b k h = count_book header·orders most_orders b k h

pub used_few : (b : List ℕ) (k : ℕ) → k < order_count b → k < most_orders
used_few b k h = omega (arith, count_most header·orders most_orders b)

pub in_use : (b : List ℕ) (k : ℕ) → k < order_count b → InUse b k
in_use b k h = record { long = used_long b k h; few = used_few b k h; used = h }

module _ (b : List ℕ) (k : ℕ) (u : InUse b k) where
  pub filled_at_lem : (order_in (book_of b) k).state.cumqty ≡ word64 b (order_base k + state·cumqty)
  filled_at_lem = ap (λ (o : Order). o.state.cumqty) (order_in_lem b k u.used) ∙ state_cumqty b k

  pub side_at : (order_in (book_of b) k).terms.side ≡ get_or b (order_base k + terms·side) 0
  side_at = ap (λ (o : Order). o.terms.side) (order_in_lem b k u.used) ∙ terms_side b k

  -- by the client that was read, and by the symbol that was compared
  module _ (client : ℕ) (symbol : Text) (c : ℕ) (is : c ≡ word16 b (order_base k + order·client)) where
    whose : (order_in (book_of b) k).client ≡ c
    whose = ap (λ (o : Order). o.client) (order_in_lem b k u.used) ∙ order_client b k ∙ sym is

    pub pair_other : (c ≡ client → ⊥) → false ≡ of_pair client symbol (order_in (book_of b) k)
    unfolding of_pair
    pair_other n = rw (whose, ne_eqb c client n)

    pub pair_same : c ≡ client → (t : Bool) → t ≡ text_is b (order_base k + names·symbol) symbol → t ≡ of_pair client symbol (order_in (book_of b) k)
    unfolding of_pair
    pair_same e t s =
        rw (whose, eq-eqb c client e)
        (s ∙ text_is_here b (order_base k + names·symbol) symbol (omega arith)
        ∙ ap (λ (x : Text). same_text x symbol) (sym (ap (λ (o : Order). o.names.symbol) (order_in_lem b k u.used) ∙ names_symbol b k)))

-- ---- one order

module _ (client : ℕ) (symbol : Text) (o : Order) where
  pub filled_miss : (bought : Bool) → of_pair client symbol o ≡ false → filled_on bought client symbol o ≡ 0
  unfolding of_pair
  filled_miss bought e = if_false _ _ _ (go (eqb o.client client) (same_text o.names.symbol symbol) e)
    where
      go : (u v : Bool) → u && v ≡ false → u && (v && on_side bought o.terms.side) ≡ false
      go true true f = absurd (let z : ◌≡◌ {A = ℕ} 0 1 = cc in omega arith)
      go true false f = refl
      go false v f = refl

  module _ (e : of_pair client symbol o ≡ true) where
    parts : (eqb o.client client ≡ true) × (same_text o.names.symbol symbol ≡ true)
    unfolding of_pair
    parts = and_parts _ _ e

    pub filled_on_lem : (bought : Bool) → on_side bought o.terms.side ≡ true → filled_on bought client symbol o ≡ o.state.cumqty
    filled_on_lem bought s = if_true _ _ _ (rw (parts.0, parts.1) s)

    pub filled_off : (bought : Bool) → on_side bought o.terms.side ≡ false → filled_on bought client symbol o ≡ 0
    filled_off bought s = if_false _ _ _ (rw (parts.0, parts.1) s)

-- ---- the first k orders

pub record IsSum (b : Book) (client : ℕ) (symbol : Text) (k : ℕ) (a : Amounts) : Type 0 where
  pub bought : a.bought ≡ total_of (filled_on true client symbol) (take k b.orders)
  pub sold : a.sold ≡ total_of (filled_on false client symbol) (take k b.orders)
  pub few : a.bought + a.sold ≤ 10 ^ 12 * k

total_more : (f : Order → ℕ) (os : List Order) (k : ℕ) → k < length os → total_of f (take (k + 1) os) ≡ total_of f (take k os) + f (get_or os k no_order)
total_more f os k h =
    ap (λ (n : ℕ). total_of f (take n os)) (add-one k)
    ∙ ap (total_of f) (take-suc os k no_order h)
    ∙ total_append f (take k os) (get_or os k no_order ∷ [])
    ∙ omega arith

module _ (b : Book) (client : ℕ) (symbol : Text) (k : ℕ) (a : Amounts) (s : IsSum b client symbol k a) (h : k < length b.orders) where
  abbrev o : Order
  o = order_in b k

  -- one that is not theirs, a purchase and a sale
  pub sum_miss : of_pair client symbol (order_in b k) ≡ false → IsSum b client symbol (k + 1) a
  sum_miss e = record {
    bought = omega (arith, s.bought, total_more (filled_on true client symbol) b.orders k h, filled_miss client symbol o true e);
    sold = omega (arith, s.sold, total_more (filled_on false client symbol) b.orders k h, filled_miss client symbol o false e);
    few = omega (arith, s.few);
  }

  module _ (q : ℕ) (is : q ≡ (order_in b k).state.cumqty) (small : q ≤ 10 ^ 12) (e : of_pair client symbol (order_in b k) ≡ true) where
    pub sum_bought : (order_in b k).terms.side ≡ buy → IsSum b client symbol (k + 1) (record { bought = a.bought + q; sold = a.sold })
    unfolding if◌then◌otherwise◌
    sum_bought y =
        let t : eqb o.terms.side buy ≡ true = eq-eqb _ _ y in
        record {
          bought = omega (arith, s.bought, total_more (filled_on true client symbol) b.orders k h, filled_on_lem client symbol o e true t, is);
          sold = omega (arith, s.sold, total_more (filled_on false client symbol) b.orders k h, filled_off client symbol o e false (ap not t));
          few = omega (arith, s.few);
        }

    pub sum_sold : ((order_in b k).terms.side ≡ buy → ⊥) → IsSum b client symbol (k + 1) (record { bought = a.bought; sold = a.sold + q })
    unfolding if◌then◌otherwise◌
    sum_sold y =
        let t : eqb o.terms.side buy ≡ false = ne_eqb _ _ y in
        record {
          bought = omega (arith, s.bought, total_more (filled_on true client symbol) b.orders k h, filled_off client symbol o e true t);
          sold = omega (arith, s.sold, total_more (filled_on false client symbol) b.orders k h, filled_on_lem client symbol o e false (ap not t), is);
          few = omega (arith, s.few);
        }

abbrev pub none : Amounts
none = record { bought = 0; sold = 0 }

module _ (b : Book) (client : ℕ) (symbol : Text) where
  -- of orders that are not theirs, nothing
  pub sum_none : (n : ℕ) → n ≤ length b.orders → unseen b client symbol n ≡ true → IsSum b client symbol n none
  unfolding all_below
  sum_none zero h e = record { bought = refl; sold = refl; few = omega arith }
  sum_none (suc n) h e =
      let p = and_parts (unseen b client symbol n) (miss_at b client symbol n) e in
      subst (λ (m : ℕ). IsSum b client symbol m none) (add-one n)
      (sum_miss b client symbol n none (sum_none n (omega arith) p.0) (omega arith) (not-true _ p.1))

  -- of all
  pub sum_all : (n : ℕ) (a : Amounts) → n ≡ length b.orders → IsSum b client symbol n a → a ≡ filled_in b client symbol
  unfolding filled_in
  sum_all n a e s =
      let t : take n b.orders ≡ b.orders = take_all n b.orders (omega arith) in
      λ i. record {
        bought = (s.bought ∙ ap (total_of (filled_on true client symbol)) t) i;
        sold = (s.sold ∙ ap (total_of (filled_on false client symbol)) t) i;
      }
