-- The rules on the book's bytes, and that they are the rules of the book that the bytes are. Rests on machine's Rules and store's Laws.
-- n is how many orders are in use, m how many requests.
use Rattle.std.specs.Prelude.{◌≡◌, ℕ, ◌+◌, ◌-◌, ◌<◌, ◌≤◌, Bool, true, false, not, ◌&&◌, ◌||◌, List, ◌==◌, nat_eq, nat_le, nat_lt, slice_index, refl}
use Rattle.std.proofs.Common.{ap, ◌∙◌, arith, ltb-true, leb-true, lt-ltb, le-ltb, le-leb, eqb-true}
use Rattle.std.proofs.Math.Bool.{and_assoc}
use Rattle.std.proofs.lemmas.Bool.{lt-leb, eqb-false, and_parts}
use Rattle.std.specs.Bool.{beq}
use Rattle.prelude.specs.Below.{all_below, count_below}
use Rattle.prelude.specs.Laws.Below.{all_ext, all_elim, count_ext}
use Rattle.prelude.specs.Cases.{if◌then◌otherwise◌}
use Rattle.prelude.specs.Laws.Cases.{clash}
use Rattle.prelude.specs.Texts.{same_text, filled_at, is_text}
use Rattle.prelude.specs.declared.Text.{Text}
use Rattle.store.specs.declared.Order.{Order}
use Rattle.store.specs.declared.Request.{Request}
use Rattle.store.specs.Layout.{most_orders}
use Rattle.store.specs.Book.{book_of, order_at, request_at, order_in, request_in, order_count, request_count}
use Rattle.store.specs.Laws.Stored.{length_orders, length_requests, order_in_lem, request_in_lem}
use Rattle.machine.specs.Changes.{is_cancel}
use Rattle.machine.specs.Orders.{is_empty, is_done}
use Rattle.machine.specs.Ranges.{text_within, name_range}
use Rattle.machine.specs.Rules.{names_range, order_range, request_range, outcome_rule, linked, current_test, pending_test, current_rule, cancel_rule, pending_rule, filled_rule, status_rule, done_rule, tries_rule, amendments_rule, order_rule, of_order, number_in, number_rule, in_flight_rule, origin_rule, request_rule, name_rule, client_of, same_key, key_rule, keys_apart}
use Rattle.rules.specs.Laws.Beside.{beside_at}

-- ---- orders

unfoldable pub range_at : List ℕ → ℕ → ℕ → Bool
range_at b m i = order_range m (order_at b i)

-- the request of a link is there, and is order i's
unfoldable pub own_at : List ℕ → ℕ → ℕ → ℕ → Bool
own_at b m i link = nat_lt 0 link && nat_le link m && (request_at b (link - 1)).order == i

unfoldable pub linked_at : List ℕ → ℕ → (Request → Bool) → ℕ → ℕ → Bool
linked_at b m test i link = own_at b m i link && test (request_at b (link - 1))

unfoldable pub optional_at : List ℕ → ℕ → (Request → Bool) → ℕ → ℕ → Bool
optional_at b m test i link = link == 0 || linked_at b m test i link

abbrev pub of_order_at : List ℕ → ℕ → ℕ → Bool
of_order_at b i j = (request_at b j).order == i

-- its counts and its status, if it has that many requests
unfoldable pub counts_at : List ℕ → (count : ℕ) → ℕ → Bool
counts_at b count i =
    let o = order_at b i in
    (o.links.amendments + 1 == count) && filled_rule o && status_rule o.state.cumqty o.state.status && done_rule o && tries_rule o.gateway

-- an order's rules beside the ranges
unfoldable pub links_at : List ℕ → ℕ → (count : ℕ) → ℕ → Bool
links_at b m count i =
    let o = order_at b i in
    linked_at b m (current_test o.names.downstream) i o.links.current && optional_at b m is_cancel i o.links.cancel
    && optional_at b m pending_test i o.pending.request && counts_at b count i

unfoldable pub links_of : List ℕ → ℕ → ℕ → Bool
links_of b m i = links_at b m (count_below (of_order_at b i) m) i

-- a link of the order's own is one of a request in use
pub own_link : (b : List ℕ) (m i link : ℕ) → own_at b m i link ≡ true → (0 < link) × (link ≤ m)
unfolding own_at
own_link b m i link e =
    let s = and_parts (nat_lt 0 link && nat_le link m) ((request_at b (link - 1)).order == i) e in
    let u = and_parts (nat_lt 0 link) (nat_le link m) s.0 in
    (ltb-true 0 link u.0, leb-true link m u.1)

-- ---- requests

-- the order is done, or the request of the link is its latest cancel, with tries above 0, sent and not stuck
unfoldable pub sent_rule : (link : ℕ) → Order → Bool
sent_rule link o =
    is_done o.state.status || (o.links.cancel == link && nat_lt 0 o.gateway.tries && not o.gateway.unsent && not o.gateway.stuck)

-- a request's rules but for its OrigClOrdID, if it is the k-th of order o
unfoldable pub request_here : List ℕ → ℕ → ℕ → ℕ → Bool
request_here b j o k =
    request_range (request_at b j) && outcome_rule (request_at b j) && number_rule (order_at b o).names.name k (request_at b j)
    && in_flight_rule (j + 1) (request_at b j) (order_at b o)

unfoldable pub request_rule_at : List ℕ → ℕ → ℕ → Bool
request_rule_at b n j = nat_lt (request_at b j).order n && request_here b j (request_at b j).order (count_below (of_order_at b (request_at b j).order) j)

-- what the pass asks of a request: its rules, and that its OrigClOrdID's link is right
abbrev pub pass_at : List ℕ → ℕ → ℕ → Bool
pass_at b n j = request_rule_at b n j && beside_at b j

-- by the order that it names
module _ (b : List ℕ) (n j o : ℕ) (e : (request_at b j).order ≡ o) where
  pub rule_unbooked : n ≤ o → pass_at b n j ≡ false
  unfolding request_rule_at
  rule_unbooked h = rw (e, le-ltb _ _ h)

  pub rule_booked : (k : ℕ) → o < n → k ≡ count_below (of_order_at b o) j → pass_at b n j ≡ request_here b j o k && beside_at b j
  unfolding request_rule_at
  rule_booked k h c = rw (e, lt-ltb _ _ h, ← c)

-- what the pass over the requests gives if they keep their rules
pub record IsPass (b : List ℕ) (n m : ℕ) (next : List ℕ) : Type 0 where
  pub right : all_below (pass_at b n) m ≡ true
  pub counted : (o : ℕ) → o < most_orders → slice_index next o ≡ count_below (of_order_at b o) m

-- ---- names and keys

unfoldable pub same_name_at : List ℕ → ℕ → ℕ → Bool
same_name_at b i j = same_text (order_at b i).names.name (order_at b j).names.name

abbrev pub client_at : List ℕ → ℕ → ℕ
client_at b j = (order_at b (request_at b j).order).client

unfoldable pub same_key_at : List ℕ → ℕ → ℕ → Bool
same_key_at b i j = not (is_empty (request_at b i).clordid) && client_at b i == client_at b j && same_text (request_at b i).clordid (request_at b j).clordid

-- ---- parts of the ranges

-- an order in range has a name in range
pub range_name : (b : List ℕ) (m i : ℕ) → range_at b m i ≡ true → name_range (order_at b i).names.name ≡ true
unfolding range_at order_range names_range
range_name b m i h = go (name_range (order_at b i).names.name) refl
  where
    go : (v : Bool) → name_range (order_at b i).names.name ≡ v → name_range (order_at b i).names.name ≡ true
    go true e = e
    go false e = clash false (rw e at h) refl

-- a text that may be absent, by its length
pub optional_text : (t : Text) (absent : Bool) → is_text t && beq (t.len == 0) absent ≡ (if absent then text_within 0 0 t otherwise text_within 1 32 t)
unfolding text_within is_text if◌then◌otherwise◌
optional_text t absent = go (nat_le t.len 32) (all_below (filled_at t) 32) (t.len == 0) absent refl refl refl
  where
    go : (s v u a : Bool) → nat_le t.len 32 ≡ s → all_below (filled_at t) 32 ≡ v → (t.len == 0) ≡ u
        → nat_le t.len 32 && all_below (filled_at t) 32 && beq (t.len == 0) a
        ≡ (if a then (nat_le t.len 32 && all_below (filled_at t) 32 && nat_le 0 t.len && nat_le t.len 0)
        otherwise (nat_le t.len 32 && all_below (filled_at t) 32 && nat_le 1 t.len && nat_le t.len 32))
    go false v u true d e f = rw d
    go false v u false d e f = rw d
    go true false u true d e f = rw (d, e)
    go true false u false d e f = rw (d, e)
    go true true true true d e f =
        let z : t.len ≡ 0 = eqb-true _ _ f in
        rw (d, e, f, le-leb 0 t.len (omega arith), le-leb t.len 0 (omega arith))
    go true true true false d e f =
        let z : t.len ≡ 0 = eqb-true _ _ f in
        rw (d, e, f, lt-leb 1 t.len (omega arith))
    go true true false true d e f =
        let z : 0 < t.len = let n : t.len ≡ 0 → ⊥ = eqb-false _ _ f in omega arith in
        rw (d, e, f, le-leb 0 t.len (omega arith), lt-leb t.len 0 z)
    go true true false false d e f =
        let z : 1 ≤ t.len = let n : t.len ≡ 0 → ⊥ = eqb-false _ _ f in omega arith in
        rw (d, e, f, le-leb 1 t.len z)

-- ---- they are the rules of the book

module _ (b : List ℕ) where
  linked_here : (test : Request → Bool) (i link : ℕ) → linked test i link (book_of b).requests ≡ linked_at b (request_count b) test i link
  unfolding linked linked_at own_at
  linked_here test i link = rw (length_requests b) (go (nat_lt 0 link) (nat_le link (request_count b)) refl refl)
    where
      go : (u v : Bool) → nat_lt 0 link ≡ u → nat_le link (request_count b) ≡ v
          → nat_lt 0 link && nat_le link (request_count b) && (request_in (book_of b) (link - 1)).order == i && test (request_in (book_of b) (link - 1))
          ≡ nat_lt 0 link && nat_le link (request_count b) && (request_at b (link - 1)).order == i && test (request_at b (link - 1))
      go true true p q =
          let k : link - 1 < request_count b = omega (arith, ltb-true 0 link p, leb-true link (request_count b) q) in
          rw (request_in_lem b (link - 1) k)
      go true false p q = rw (p, q)
      go false v p q = rw p

  count_here : (i n : ℕ) → n ≤ request_count b → count_below (of_order (book_of b).requests i) n ≡ count_below (of_order_at b i) n
  count_here i n h = count_ext _ _ n (λ k l. ap (λ (q : Request). nat_eq q.order i) (request_in_lem b k (omega arith)))

  pub order_here : (i : ℕ) → i < order_count b → order_rule (book_of b) i ≡ range_at b (request_count b) i && links_of b (request_count b) i
  unfolding order_rule range_at links_of links_at counts_at current_rule cancel_rule pending_rule optional_at amendments_rule
  order_here i h =
      rw (
        order_in_lem b i h,
        linked_here (current_test (order_at b i).names.downstream) i (order_at b i).links.current,
        linked_here is_cancel i (order_at b i).links.cancel,
        linked_here pending_test i (order_at b i).pending.request,
        length_requests b,
        count_here i (request_count b) (omega arith),
      ) (simp and_assoc)

  pub request_here_lem : (j : ℕ) → j < request_count b → request_rule (book_of b) j ≡ request_rule_at b (order_count b) j && origin_rule (book_of b).requests j
  unfolding request_rule request_rule_at request_here number_in
  request_here_lem j h = ap (λ (v : Bool). v && origin_rule (book_of b).requests j) (rw (request_in_lem b j h, length_orders b) (go (nat_lt (request_at b j).order (order_count b)) refl))
    where
      shut : (r a v w : Bool) → r && a && false && v && w ≡ false
      shut true true v w = refl
      shut true false v w = refl
      shut false a v w = refl

      go : (u : Bool) → nat_lt (request_at b j).order (order_count b) ≡ u
          → request_range (request_at b j) && outcome_rule (request_at b j) && nat_lt (request_at b j).order (order_count b)
          && number_rule (order_in (book_of b) (request_at b j).order).names.name (count_below (of_order (book_of b).requests (request_at b j).order) j) (request_at b j)
          && in_flight_rule (j + 1) (request_at b j) (order_in (book_of b) (request_at b j).order)
          ≡ nat_lt (request_at b j).order (order_count b)
          && (request_range (request_at b j) && outcome_rule (request_at b j) && number_rule (order_at b (request_at b j).order).names.name (count_below (of_order_at b (request_at b j).order) j) (request_at b j)
          && in_flight_rule (j + 1) (request_at b j) (order_at b (request_at b j).order))
      go true e =
          rw (order_in_lem b (request_at b j).order (ltb-true _ _ e), count_here (request_at b j).order j (omega arith), e) (simp and_assoc)
      go false e = rw e (shut (request_range (request_at b j)) (outcome_rule (request_at b j)) _ _)

  pub name_here : (i : ℕ) → i < order_count b → name_rule (book_of b) i ≡ all_below (λ j. not (same_name_at b i j)) i
  unfolding same_name_at
  name_here i h = all_ext _ _ i (λ k l. rw (order_in_lem b i h, order_in_lem b k (omega arith)))

  -- each of the first m requests is of a booked order
  pub booked : (n m : ℕ) → all_below (request_rule_at b n) m ≡ true → (j : ℕ) → j < m → (request_at b j).order < n
  unfolding request_rule_at
  booked n m e j h = ltb-true _ _ (and_parts _ _ (all_elim (request_rule_at b n) m e j h)).0

  module _ (e : all_below (request_rule_at b (order_count b)) (request_count b) ≡ true) where
    client_here : (j : ℕ) → j < request_count b → client_of (book_of b) j ≡ client_at b j
    client_here j h =
        ap (λ (q : Request). (order_in (book_of b) q.order).client) (request_in_lem b j h)
        ∙ ap (λ (o : Order). o.client) (order_in_lem b (request_at b j).order (booked (order_count b) (request_count b) e j h))

    same_key_here : (i j : ℕ) → i < request_count b → j < request_count b → same_key (book_of b) i j ≡ same_key_at b i j
    unfolding same_key same_key_at
    same_key_here i j h k = rw (client_here i h, client_here j k, request_in_lem b i h, request_in_lem b j k)

    pub key_here : (i : ℕ) → i < request_count b → key_rule (book_of b) i ≡ all_below (λ j. not (same_key_at b i j)) i
    key_here i h = all_ext (keys_apart (book_of b) i) (λ j. not (same_key_at b i j)) i (λ k l. ap not (same_key_here i k h (omega arith)))
