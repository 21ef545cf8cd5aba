-- What a side's orders and requests name, in a book that keeps its rules: each link is of a request in use, and an order's requests are. Rests on Side.
use Rattle.std.specs.Prelude.{◌≡◌, refl, ℕ, ◌+◌, ◌-◌, ◌≤◌, ◌<◌, Bool, true, false, ◌&&◌, ◌||◌, List, None, Some, eqb, length, get_or}
use Rattle.std.proofs.Common.{arith, ap, sym, ◌∙◌, subst, eqb-true, eq-eqb, ne_eqb, leb-true}
use Rattle.std.proofs.Math.Bool.{or-true}
use Rattle.std.proofs.lemmas.Bool.{and_parts}
use Rattle.prelude.specs.Below.{first_below}
use Rattle.prelude.specs.Laws.Below.{First, first_some, all_elim}
use Rattle.prelude.specs.Laws.Cases.{if_true, if_false, split_maybe, maybe_none, maybe_some}
use Rattle.store.specs.declared.Order.{Order}
use Rattle.store.specs.declared.Request.{Request}
use Rattle.store.specs.Layout.{header·requests, most_requests, request_base, request·kind}
use Rattle.store.specs.Book.{Book, book_of, order_in, request_in, order_count, request_count, origin_at, load_order}
use Rattle.store.specs.Laws.Fields.{request_kind}
use Rattle.store.specs.Laws.Stored.{length_orders, length_requests, request_in_lem, load_order_in, count_most}
use Rattle.machine.specs.Changes.{is_gateway}
use Rattle.machine.specs.Orders.{is_empty}
use Rattle.machine.specs.Rules.{current_rule, cancel_rule, pending_rule, gateway_range, linked}
use Rattle.machine.proofs.Kept.Indexed.{BookKept}
use Rattle.machine.proofs.Kept.Local.{OrderKept}
use Rattle.machine.proofs.Kept.Tables.{linked_at}
use Rattle.index.specs.Index.{link_right, links_right}
use Rattle.index.specs.Laws.Links.{link_lower}
use Rattle.rules.specs.Keeps.{keeps_of}
use Rattle.rules.specs.Laws.Keeps.{keeps_links}
use Rattle.parts.specs.Parts.{of_passing, own_cancel, named_along, moved_link}
use Rattle.retire.specs.Retire.{moved_origin}
use Rattle.retire.specs.Laws.Side.{good, kept_long, order_read}

-- ---- an order's own gateway cancel

abbrev pub own_at : Book → (i j : ℕ) → Bool
own_at b i j = eqb (request_in b j).order i && is_gateway (request_in b j)

-- the links of an order are of the first n requests
pub record Few (n : ℕ) (o : Order) : Type 0 where
  pub current : o.links.current ≤ n
  pub cancel : o.links.cancel ≤ n
  pub pending : o.pending.request ≤ n
  pub named : o.gateway.origdownstream ≤ n

linked_few : (test : Request → Bool) (i link : ℕ) (qs : List Request) → linked test i link qs ≡ true → link ≤ length qs
linked_few test i link qs e = (linked_at test i link qs e).within

-- a rule that is asked only of a link above 0
some_few : (link n : ℕ) (t : Bool) → eqb link 0 || t ≡ true → (t ≡ true → link ≤ n) → link ≤ n
some_few link n t e f = go (eqb link 0) refl e
  where
    go : (z : Bool) → eqb link 0 ≡ z → z || t ≡ true → link ≤ n
    go true y h = let k : link ≡ 0 = eqb-true link 0 y in omega arith
    go false y h = f h

module _ (b : List ℕ) (keeps : keeps_of b ≡ true) where
  abbrev x : Book
  x = book_of b

  order_few : (i : ℕ) → i < order_count b → Few (request_count b) (order_in x i)
  unfolding current_rule cancel_rule pending_rule gateway_range
  order_few i h =
      let k : OrderKept i (order_in x i) x.requests = (good b keeps).order i (omega (arith, length_orders b)) in
      let few : (link : ℕ) → link ≤ length x.requests → link ≤ request_count b = λ link l. omega (arith, length_requests b) in
      record {
        current = few _ (linked_few _ _ _ _ k.current);
        cancel = few _ (some_few _ _ _ k.cancel (linked_few _ _ _ _));
        pending = few _ (some_few _ _ _ k.pending (linked_few _ _ _ _));
        named = few _ (leb-true _ _ (and_parts _ _ (and_parts _ _ k.gateway).0).1);
      }

  pub load_few : (i : ℕ) (o : Order) → i < order_count b → o ≡ load_order b i → (o ≡ order_in x i) × Few (request_count b) o
  load_few i o h e =
      let is : o ≡ order_in x i = e ∙ load_order_in b i h in
      (is, subst (Few (request_count b)) (sym is) (order_few i h))

  -- ---- the link of a request with an OrigClOrdID

  pub origin_few : (j : ℕ) → j < request_count b → is_empty (request_in x j).origclordid ≡ false → origin_at b j ≤ request_count b
  origin_few j h e =
      let used : j < length x.requests = omega (arith, length_requests b) in
      let g : BookKept x = good b keeps in
      let (above, l) =
      link_lower b (λ k z. (g.request k z).order) g.keys j used e (g.request j used).origin (all_elim (link_right b) (request_count b) (unfold links_right in keeps_links b keeps) j h) in
      omega (arith, l.below)

-- as the code reads it
pub kind_read : (b : List ℕ) (j : ℕ) → j < request_count b → eqb (get_or b (request_base j + request·kind) 0) 3 ≡ is_gateway (request_in (book_of b) j)
unfolding is_gateway
kind_read b j h = ap (λ (n : ℕ). eqb n 3) (sym (ap (λ (q : Request). q.kind) (request_in_lem b j h) ∙ request_kind b j))

-- ---- the order's own gateway cancel as the code finds it

module _ (b : List ℕ) (i : ℕ) where
  own_here : first_below (own_at (book_of b) i) (length (book_of b).requests) ≡ first_below (own_at (book_of b) i) (request_count b)
  own_here = ap (first_below (own_at (book_of b) i)) (length_requests b)

  pub own_found : (j : ℕ) → first_below (own_at (book_of b) i) (request_count b) ≡ Some j → own_cancel (book_of b) i ≡ j + 1
  unfolding own_cancel
  own_found j e = maybe_some _ j _ (λ k. k + 1) (own_here ∙ e)

  pub own_below : (j : ℕ) → first_below (own_at (book_of b) i) (request_count b) ≡ Some j → j < most_requests
  own_below j e = let f : First (own_at (book_of b) i) (request_count b) j = first_some _ _ j e in omega (arith, f.below, count_most header·requests most_requests b)

  pub own_none : first_below (own_at (book_of b) i) (request_count b) ≡ None → own_cancel (book_of b) i ≡ (order_in (book_of b) i).links.current
  unfolding own_cancel
  own_none e = maybe_none _ _ (λ k. k + 1) (own_here ∙ e)

module _ (b : Book) (i : ℕ) where
  own_few : (n : ℕ) → (order_in b i).links.current ≤ n → length b.requests ≤ n → own_cancel b i ≤ n
  unfolding own_cancel
  own_few n c m =
      split_maybe (λ (l : ℕ). l ≤ n) (first_below (own_at b i) (length b.requests)) (λ e. c)
      (λ j e. let f : First (own_at b i) (length b.requests) j = first_some _ _ j e in omega (arith, f.below))

  module _ (p : ℕ → Bool) (o : Order) (is : o ≡ order_in b i) where
    abbrev link : ℕ
    link = o.gateway.origdownstream

    -- what is asked, of the order that was loaded
    asked : (t : Bool) → eqb link 0 || of_passing p b (link - 1) ≡ t → eqb (order_in b i).gateway.origdownstream 0 || of_passing p b ((order_in b i).gateway.origdownstream - 1) ≡ t
    asked t e = subst (λ (a : Order). eqb a.gateway.origdownstream 0 || of_passing p b (a.gateway.origdownstream - 1) ≡ t) is e

    same : eqb link 0 || of_passing p b (link - 1) ≡ true → link ≡ named_along p b i
    unfolding named_along
    same e = ap (λ (a : Order). a.gateway.origdownstream) is ∙ sym (if_true _ _ _ (asked true e))

    pub named_zero : link ≡ 0 → 0 ≡ named_along p b i
    named_zero e = sym e ∙ same (ap (λ (t : Bool). t || of_passing p b (link - 1)) (eq-eqb link 0 e))

    pub named_same : of_passing p b (link - 1) ≡ true → link ≡ named_along p b i
    named_same e = same (ap (λ (t : Bool). eqb link 0 || t) e ∙ or-true (eqb link 0))

    pub named_own : (c : ℕ) → c ≡ own_cancel b i → (link ≡ 0 → ⊥) → of_passing p b (link - 1) ≡ false → c ≡ named_along p b i
    unfolding named_along
    named_own c e n f = e ∙ sym (if_false _ _ _ (asked false (rw (ne_eqb link 0 n, f))))

    pub own_within : (n c : ℕ) → Few n o → length b.requests ≤ n → c ≡ own_cancel b i → c ≤ n
    own_within n c few m e = let f : own_cancel b i ≤ n = own_few n (subst (λ (a : Order). a.links.current ≤ n) is few.current) m in omega arith

-- ---- the link of the request that an OrigClOrdID names

module _ (p : ℕ → Bool) (b : List ℕ) (behind j : ℕ) where
  pub origin_none : (request_in (book_of b) j).origclordid.len ≡ 0 → moved_origin p b behind j ≡ 0
  unfolding moved_origin
  origin_none e = if_true _ _ _ (eq-eqb _ 0 e)

  pub origin_some : ((request_in (book_of b) j).origclordid.len ≡ 0 → ⊥) → moved_origin p b behind j ≡ moved_link (of_passing p (book_of b)) behind (origin_at b j)
  unfolding moved_origin
  origin_some n = if_false _ _ _ (ne_eqb _ 0 n)

-- ---- for the tactics of functions
pub ruleset owned = (kept_long, kind_read)

pub ruleset own = (own_found, own_below, own_none)

pub ruleset loaded = load_few

pub ruleset origin = (origin_none, origin_some, origin_few)
