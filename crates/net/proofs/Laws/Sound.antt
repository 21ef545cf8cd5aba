-- The net position is what Promise says. Rests on Pair, Lines and Call.
use Rattle.std.proofs.Common.{ℕ, zero, suc, ◌+◌, ◌≤◌, ◌≡◌, Bool, ◌&&◌, ◌||◌, length, get_or, refl, ap, sym, subst, ◌∙◌, arith, eqb-true, true, false, not, List, [], ◌∷◌, ◌++◌, append-nil, append_assoc, eqb}
use Rattle.std.proofs.Math.Bool.{and-false}
use Rattle.std.proofs.Math.Decide.{dec_le}
use Rattle.std.proofs.lemmas.Bool.{and_parts}
use Rattle.std.proofs.lemmas.List.{get_or_at}
use Rattle.std.specs.List.{list_any}
use Rattle.prelude.specs.Below.{all_below}
use Rattle.prelude.specs.Laws.Below.{all_ext}
use Rattle.prelude.specs.Cases.{if◌then◌otherwise◌}
use Rattle.prelude.specs.Texts.{same_text}
use Rattle.prelude.specs.Laws.Texts.{same_right}
use Rattle.prelude.specs.Totals.{total_of, how_many}
use Rattle.prelude.specs.Laws.Totals.{many_append}
use Rattle.prelude.specs.declared.Text.{Text}
use Rattle.store.specs.declared.Order.{Order}
use Rattle.store.specs.Book.{Book, order_in}
use Rattle.machine.specs.Since.{on_side, filled_on}
use Rattle.net.specs.Net.{Signed, nothing, netted, filled_in, Position, position_of, of_pair, miss_at, unseen, is_first, positions, net_of, no_position, is_of, net_for}
use Rattle.net.specs.Promise.{NetRight, NetOnce, NetInOrder}
use Rattle.net.specs.Laws.Pair.{none, sum_none, sum_all}
use Rattle.net.specs.Laws.Call.{positions_first}

-- ---- the same client and symbol

module _ (b : Book) (client : ℕ) (symbol : Text) (o : Order) (e : of_pair client symbol o ≡ true) where
  parts : (eqb o.client client ≡ true) × (same_text o.names.symbol symbol ≡ true)
  unfolding of_pair
  parts = and_parts _ _ e

  same_client : o.client ≡ client
  same_client = eqb-true _ _ parts.0

  pub same_pair : (x : Order) → of_pair o.client o.names.symbol x ≡ of_pair client symbol x
  unfolding of_pair
  same_pair x = λ i. eqb x.client (same_client i) && same_right x.names.symbol o.names.symbol symbol parts.1 i

  pub same_unseen : (n : ℕ) → unseen b o.client o.names.symbol n ≡ unseen b client symbol n
  same_unseen n = all_ext (miss_at b o.client o.names.symbol) (miss_at b client symbol) n (λ k h. ap not (same_pair (order_in b k)))

  same_on : (bought : Bool) (x : Order) → filled_on bought o.client o.names.symbol x ≡ filled_on bought client symbol x
  same_on bought x = λ i.
      if eqb x.client (same_client i) && (same_right x.names.symbol o.names.symbol symbol parts.1 i && on_side bought x.terms.side) then x.state.cumqty otherwise 0

  pub same_filled : filled_in b o.client o.names.symbol ≡ filled_in b client symbol
  unfolding filled_in
  same_filled = λ i. record {
    bought = total_of (λ x. same_on true x i) b.orders;
    sold = total_of (λ x. same_on false x i) b.orders;
  }

-- ---- the positions, one order more at a time

module _ (client : ℕ) (symbol : Text) where
  some_append : (ps qs : List Position) → list_any (is_of client symbol) (ps ++ qs) ≡ list_any (is_of client symbol) ps || list_any (is_of client symbol) qs
  some_append [] qs = refl
  some_append (p ∷ ps) qs = go (is_of client symbol p) (some_append ps qs)
    where
      go : (v : Bool) → list_any (is_of client symbol) (ps ++ qs) ≡ list_any (is_of client symbol) ps || list_any (is_of client symbol) qs
          → v || list_any (is_of client symbol) (ps ++ qs) ≡ (v || list_any (is_of client symbol) ps) || list_any (is_of client symbol) qs
      go true e = refl
      go false e = e

  for_append : (ps qs : List Position) → net_for client symbol (ps ++ qs) ≡ (if list_any (is_of client symbol) ps then net_for client symbol ps otherwise net_for client symbol qs)
  unfolding net_for if◌then◌otherwise◌
  for_append [] qs = refl
  for_append (p ∷ ps) qs = go (is_of client symbol p) (for_append ps qs)
    where
      go : (v : Bool) → net_for client symbol (ps ++ qs) ≡ (if list_any (is_of client symbol) ps then net_for client symbol ps otherwise net_for client symbol qs)
          → (if v then p.net otherwise net_for client symbol (ps ++ qs))
          ≡ (if v || list_any (is_of client symbol) ps then (if v then p.net otherwise net_for client symbol ps) otherwise net_for client symbol qs)
      go true e = refl
      go false e = e

  -- positions with one of that client and symbol, or none; `net` is its net
  record Has (net : Signed) (ps : List Position) (t : Bool) : Type 0 where
    some : list_any (is_of client symbol) ps ≡ t
    many : how_many (is_of client symbol) ps ≡ (if t then 1 otherwise 0)
    is : net_for client symbol ps ≡ (if t then net otherwise nothing)

  has_one : (net : Signed) (p : Position) (w v : Bool) → is_of client symbol p ≡ v → (v ≡ true → p.net ≡ net) → Has net (if w then p ∷ [] otherwise []) (w && v)
  unfolding net_for if◌then◌otherwise◌
  has_one net p true true e x = record { some = rw e; many = rw e; is = rw e (x refl) }
  has_one net p true false e x = record { some = rw e; many = rw e; is = rw e }
  has_one net p false v e x = record { some = refl; many = refl; is = refl }

  has_more : (net : Signed) (ps qs : List Position) (u v : Bool) → Has net ps (not u) → Has net qs (u && v) → Has net (ps ++ qs) (not (u && not v))
  unfolding if◌then◌otherwise◌
  has_more net ps qs u v x y = record {
    some = some_append ps qs ∙ (λ i. x.some i || y.some i) ∙ bits u v;
    many = many_append (is_of client symbol) ps qs ∙ (λ i. x.many i + y.many i) ∙ ones u v;
    is = for_append ps qs ∙ (λ i. if x.some i then x.is i otherwise y.is i) ∙ nets u v;
  }
    where
      bits : (u v : Bool) → not u || (u && v) ≡ not (u && not v)
      bits true true = refl
      bits true false = refl
      bits false v = refl

      ones : (u v : Bool) → (if not u then 1 otherwise 0) + (if u && v then 1 otherwise 0) ≡ (if not (u && not v) then 1 otherwise 0)
      ones true true = refl
      ones true false = refl
      ones false v = refl

      nets : (u v : Bool) → (if not u then (if not u then net otherwise nothing) otherwise (if u && v then net otherwise nothing)) ≡ (if not (u && not v) then net otherwise nothing)
      nets true true = refl
      nets true false = refl
      nets false v = refl

module _ (b : Book) (client : ℕ) (symbol : Text) where
  abbrev whole : Signed
  whole = netted (filled_in b client symbol)

  -- order n is theirs and the first of its client and symbol exactly if it is theirs and none before it is
  first_same : (n : ℕ) → is_first b n && of_pair client symbol (order_in b n) ≡ unseen b client symbol n && of_pair client symbol (order_in b n)
  first_same n = go (of_pair client symbol (order_in b n)) refl
    where
      go : (v : Bool) → of_pair client symbol (order_in b n) ≡ v → is_first b n && v ≡ unseen b client symbol n && v
      go true e = ap (λ (t : Bool). t && true) (same_unseen b client symbol (order_in b n) e n)
      go false e = and-false (is_first b n) ∙ sym (and-false (unseen b client symbol n))

  none_yet : Has client symbol whole [] false
  unfolding net_for if◌then◌otherwise◌
  none_yet = record { some = refl; many = refl; is = refl }

  same_of : (o : Order) → is_of client symbol (position_of b o) ≡ of_pair client symbol o
  unfolding position_of of_pair
  same_of o = refl

  same_net : (o : Order) → of_pair client symbol o ≡ true → (position_of b o).net ≡ whole
  unfolding position_of
  same_net o e = ap netted (same_filled b client symbol o e)

  has : (n : ℕ) → Has client symbol whole (positions b n) (not (unseen b client symbol n))
  unfolding positions all_below
  has zero = none_yet
  has (suc n) =
      has_more client symbol whole (positions b n) _ (unseen b client symbol n) (of_pair client symbol (order_in b n)) (has n)
      (subst (Has client symbol whole _) (first_same n) (has_one client symbol whole (position_of b (order_in b n)) (is_first b n) (of_pair client symbol (order_in b n)) (same_of (order_in b n)) (same_net (order_in b n))))

pub net_once : NetOnce
unfolding net_of if◌then◌otherwise◌
net_once b client symbol = (has b client symbol (length b.orders)).many ∙ turned (unseen b client symbol (length b.orders))
  where
    turned : (u : Bool) → ◌≡◌ {A = ℕ} (if not u then 1 otherwise 0) (if u then 0 otherwise 1)
    turned true = refl
    turned false = refl

pub net_right : NetRight
unfolding net_of if◌then◌otherwise◌
net_right b client symbol = (has b client symbol (length b.orders)).is ∙ go (unseen b client symbol (length b.orders)) refl
  where
    go : (u : Bool) → unseen b client symbol (length b.orders) ≡ u → (if not u then netted (filled_in b client symbol) otherwise nothing) ≡ netted (filled_in b client symbol)
    go true e = ap netted (sum_all b client symbol (length b.orders) none refl (sum_none b client symbol (length b.orders) (omega arith) e))
    go false e = refl

-- ---- by first booking

record Begins (ps qs : List Position) : Type 0 where
  rest : List Position
  is : qs ≡ ps ++ rest

-- positions of more orders begin with those of fewer
more : (b : Book) (n m : ℕ) → n ≤ m → Begins (positions b n) (positions b m)
unfolding positions
more b n zero h = let e : n ≡ 0 = omega arith in record { rest = []; is = ap (positions b) (sym e) ∙ sym (append-nil (positions b n)) }
more b n (suc m) h = go (dec_le n m) (λ k. more b n m k)
  where
    added : List Position
    added = if is_first b m then position_of b (order_in b m) ∷ [] otherwise []

    go : Dec (n ≤ m) → (n ≤ m → Begins (positions b n) (positions b m)) → Begins (positions b n) (positions b (suc m))
    go (yes k) f =
        let s = f k in
        record { rest = s.rest ++ added; is = ap (λ (l : List Position). l ++ added) s.is ∙ append_assoc (positions b n) s.rest added }
    go (no k) f = let e : n ≡ suc m = omega arith in record { rest = []; is = ap (positions b) (sym e) ∙ sym (append-nil (positions b n)) }

pub net_in_order : NetInOrder
unfolding net_of
net_in_order b i h e =
    let m = more b (i + 1) (length b.orders) (omega arith) in
    let p : Position = position_of b (order_in b i) in
    ap (λ (l : List Position). get_or l (length (positions b i)) no_position)
    (m.is ∙ ap (λ (l : List Position). l ++ m.rest) (positions_first b i e) ∙ append_assoc (positions b i) (p ∷ []) m.rest)
    ∙ get_or_at (positions b i) p m.rest no_position (length (positions b i)) refl
