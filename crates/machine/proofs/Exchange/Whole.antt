-- Change request 12 on the machine: two events that concern orders of different clients may be exchanged. Rests on Both and Commute.
use Rattle.std.proofs.Common.{ℕ, ◌+◌, ◌-◌, ◌≤◌, ◌<◌, arith, ◌≡◌, refl, sym, ap, subst, ◌∙◌, ◌⊎◌, inl, inr, ⊎_elim, eqb, length, eq-eqb, ne_eqb}
use Rattle.std.proofs.Math.Decide.{ℕ_discrete, dec_lt}
use Rattle.std.proofs.Math.ListN.{get_or-eq_default}
use Rattle.prelude.specs.Cases.{if◌then◌otherwise◌}
use Rattle.prelude.specs.Laws.Cases.{if_true, if_false}
use Rattle.prelude.specs.Laws.Totals.{total_ext}
use Rattle.prelude.specs.declared.Terms.{Terms}
use Rattle.store.specs.declared.Order.{Order}
use Rattle.store.specs.declared.Request.{Request}
use Rattle.store.specs.declared.State.{State}
use Rattle.store.specs.Book.{Book, order_in, request_in}
use Rattle.store.specs.Orders.{no_order}
use Rattle.machine.specs.Orders.{one_more, leaves_of, leaves_qty, pending_terms}
use Rattle.machine.specs.Machine.{change_of, step_of, after, book_after}
use Rattle.machine.specs.Exchange.{link_text, SameRecord, SameOrder, open_of, TwoClients, SameBook}
use Rattle.machine.specs.declared.Change.{Change}
use Rattle.machine.proofs.Kept.Local.{one_more_lem}
use Rattle.machine.proofs.Kept.Indexed.{BookKept}
use Rattle.machine.proofs.Claim.Records.{added_long, none_kept}
use Rattle.machine.proofs.Exchange.Links.{Within, Linked, same, cancels, replaces, with_cancel, with_request, linked_equal, same_place, same_requests, same_output}
use Rattle.machine.proofs.Exchange.Frame.{links_within}
use Rattle.machine.proofs.Exchange.Commute.{after_comm, count_two, first_at, second_at, others_at, old_same, added_one, added_two, requests_same}
use Rattle.machine.proofs.Exchange.Both.{next, Crossed, crossed_back, Both, both_ways}

-- ---- an order in two books, links read as what they name

alike_sym : (x y : Book) (o p : Order) → SameRecord x y o p → SameRecord y x p o
alike_sym x y o p a = record {
  client = sym a.client;
  venue = sym a.venue;
  names = sym a.names;
  terms = sym a.terms;
  state = sym a.state;
  amendments = sym a.amendments;
  current = sym a.current;
  cancel = sym a.cancel;
  pending = sym a.pending;
  wanted = sym a.wanted;
  tries = sym a.tries;
  unsent = sym a.unsent;
  stuck = sym a.stuck;
  refused = sym a.refused;
  named = sym a.named;
}

-- t is the number of requests that both books share, place by place
module _ (x y : Book) (t : ℕ) (old : (l : ℕ) → l ≤ t → link_text x l ≡ link_text y l) where
  alike_self : (o : Order) → Within t o → SameRecord x y o o
  alike_self o w = record {
    client = refl;
    venue = refl;
    names = refl;
    terms = refl;
    state = refl;
    amendments = refl;
    current = old _ w.current;
    cancel = old _ w.cancel;
    pending = old _ w.pending;
    wanted = refl;
    tries = refl;
    unsent = refl;
    stuck = refl;
    refused = refl;
    named = old _ w.named;
  }

  -- and m in x names what n names in y
  module _ (m n : ℕ) where
    cancel_alike : (o : Order) → link_text x m ≡ link_text y n → o.links.cancel ≡ m → Within t (with_cancel 0 o) → SameRecord x y o (with_cancel n o)
    unfolding pending_terms
    cancel_alike o new z w = record {
      client = refl;
      venue = refl;
      names = refl;
      terms = refl;
      state = refl;
      amendments = refl;
      current = old _ w.current;
      cancel = ap (link_text x) z ∙ new;
      pending = old _ w.pending;
      wanted = refl;
      tries = refl;
      unsent = refl;
      stuck = refl;
      refused = refl;
      named = old _ w.named;
    }

    pending_alike : (o : Order) → link_text x m ≡ link_text y n → o.pending.request ≡ m → Within t (with_request 0 o) → SameRecord x y o (with_request n o)
    unfolding pending_terms
    pending_alike o new z w = record {
      client = refl;
      venue = refl;
      names = refl;
      terms = refl;
      state = refl;
      amendments = refl;
      current = old _ w.current;
      cancel = old _ w.cancel;
      pending = ap (link_text x) z ∙ new;
      wanted = refl;
      tries = refl;
      unsent = refl;
      stuck = refl;
      refused = refl;
      named = old _ w.named;
    }

    linked_alike : (c c' : Change) → ((c.requests.added ≡ 0 → ⊥) → link_text x m ≡ link_text y n) → Linked t m n c c' → SameRecord x y c.order c'.order
    linked_alike c c' new (same r e) = subst (λ (z : Change). SameRecord x y c.order z.order) (sym e) (alike_self c.order r.within)
    linked_alike c c' new (cancels a z w e) =
        subst (λ (z : Change). SameRecord x y c.order z.order) (sym e) (cancel_alike c.order (new (λ u. omega arith)) z w)
    linked_alike c c' new (replaces a z w e) =
        subst (λ (z : Change). SameRecord x y c.order z.order) (sym e) (pending_alike c.order (new (λ u. omega arith)) z w)

-- every order's links are within the requests, and so are none
pub within : (b : Book) → BookKept b → (k : ℕ) → Within (length b.requests) (order_in b k)
within b good k = go (dec_lt k (length b.orders))
  where
    go : Dec (k < length b.orders) → Within (length b.requests) (order_in b k)
    go (yes l) = links_within b good k l
    go (no l) =
        subst (Within (length b.requests)) (sym (get_or-eq_default b.orders no_order (omega arith)))
        (record { current = omega arith; cancel = omega arith; pending = omega arith; named = omega arith })

-- ---- two changes, one after the other and the other way round

-- the link that a count of requests gives
link_of : (b : Book) (n : ℕ) → n < 65535 → link_text b (one_more 65535 n) ≡ (request_in b n).downstream
link_of b n l =
    ap (link_text b) (one_more_lem 65535 n l) ∙ if_false _ _ _ (ne_eqb (n + 1) 0 (λ z. omega arith))
    ∙ (let z : n + 1 - 1 ≡ n = omega arith in ap (λ (k : ℕ). (request_in b k).downstream) z)

module _ (b : Book) (good : BookKept b) (i j : ℕ) (c c' d d' : Change) (x : Crossed b i j c c' d d') where
  abbrev pub one : Book
  one = after (after b c) d'

  abbrev pub two : Book
  two = after (after b d) c'

  pub old_at : (k : ℕ) → k < length b.requests → request_in one k ≡ request_in two k
  old_at = old_same b i j x.apart c c' d d' x.first x.second (same_requests x.first_linked) (same_requests x.second_linked)

  link_old : (l : ℕ) → l ≤ length b.requests → link_text one l ≡ link_text two l
  link_old l h = go (ℕ_discrete l 0)
    where
      go : Dec (l ≡ 0) → link_text one l ≡ link_text two l
      go (yes z) = if_true _ _ _ (eq-eqb l 0 z) ∙ sym (if_true _ _ _ (eq-eqb l 0 z))
      go (no z) = if_false _ _ _ (ne_eqb l 0 z) ∙ ap (λ (r : Request). r.downstream) (old_at (l - 1) (omega arith)) ∙ sym (if_false _ _ _ (ne_eqb l 0 z))

  after_few : length (after b d).requests ≤ 257
  after_few = go (ℕ_discrete d.requests.added 0)
    where
      go : Dec (d.requests.added ≡ 0) → length (after b d).requests ≤ 257
      go (yes z) = omega (arith, none_kept b d z, good.requests)
      go (no z) = omega (arith, added_long b d z, good.requests)

  -- the request that the first adds, by its link in either book
  link_new : (c.requests.added ≡ 0 → ⊥) → link_text one (next b) ≡ link_text two (next (after b d))
  link_new a =
      link_of one (length b.requests) (omega (arith, good.requests))
      ∙ ap (λ (r : Request). r.downstream) (added_one b i j x.apart c c' d d' x.first x.second (same_requests x.first_linked) (same_requests x.second_linked) a)
      ∙ sym (link_of two (length (after b d).requests) (omega (arith, after_few))
      ∙ ap (λ (r : Request). r.downstream) (added_two b i j x.apart c c' d d' x.first x.second (same_requests x.first_linked) (same_requests x.second_linked) a))

  -- the order of the first, in either book
  pub first_one : order_in one i ≡ c.order
  first_one = first_at b i j c d d' x.first x.second (same_place x.second_linked) x.apart

  pub first_two : order_in two i ≡ c'.order
  first_two = second_at b j i d c c' x.second x.first (same_place x.first_linked) (λ z. x.apart (sym z))

  -- an order beside them
  module _ (k : ℕ) (ni : k ≡ i → ⊥) (nj : k ≡ j → ⊥) where
    pub beside_one : order_in one k ≡ order_in b k
    beside_one = others_at b i j c d d' x.first x.second (same_place x.second_linked) x.apart k ni nj

    pub beside_two : order_in two k ≡ order_in b k
    beside_two = others_at b j i d c c' x.second x.first (same_place x.first_linked) (λ z. x.apart (sym z)) k nj ni

  first_alike : SameRecord one two (order_in one i) (order_in two i)
  first_alike =
      subst (λ (o : Order). SameRecord one two o (order_in two i)) (sym first_one)
      (subst (SameRecord one two c.order) (sym first_two) (linked_alike one two (length b.requests) link_old _ _ c c' link_new x.first_linked))

  beside_alike : (k : ℕ) → (k ≡ i → ⊥) → (k ≡ j → ⊥) → SameRecord one two (order_in one k) (order_in two k)
  beside_alike k ni nj =
      subst (λ (o : Order). SameRecord one two o (order_in two k)) (sym (beside_one k ni nj))
      (subst (SameRecord one two (order_in b k)) (sym (beside_two k ni nj)) (alike_self one two (length b.requests) link_old (order_in b k) (within b good k)))

  pub same_count : length one.orders ≡ length two.orders
  same_count = count_two b i j c d d' x.first x.second (same_place x.second_linked) ∙ sym (count_two b j i d c c' x.second x.first (same_place x.first_linked))

-- ---- every order

module _ (b : Book) (good : BookKept b) (i j : ℕ) (c c' d d' : Change) (x : Crossed b i j c c' d d') where
  orders_alike : (k : ℕ) → SameRecord (after (after b c) d') (after (after b d) c') (order_in (after (after b c) d') k) (order_in (after (after b d) c') k)
  orders_alike k = go (ℕ_discrete k i) (ℕ_discrete k j)
    where
      go : Dec (k ≡ i) → Dec (k ≡ j) → SameRecord (after (after b c) d') (after (after b d) c') (order_in (after (after b c) d') k) (order_in (after (after b d) c') k)
      go (yes z) y = subst (λ (m : ℕ). SameRecord (after (after b c) d') (after (after b d) c') (order_in (after (after b c) d') m) (order_in (after (after b d) c') m)) (sym z)
          (first_alike b good i j c c' d d' x)
      go (no z) (yes y) = subst (λ (m : ℕ). SameRecord (after (after b c) d') (after (after b d) c') (order_in (after (after b c) d') m) (order_in (after (after b d) c') m)) (sym y)
          (alike_sym _ _ _ _ (first_alike b good j i d d' c c' (crossed_back b i j c c' d d' x)))
      go (no z) (no y) = beside_alike b good i j c c' d d' x k z y

  same_order : (k : ℕ) → SameOrder (after (after b c) d') (after (after b d) c') k
  same_order k = record {
    order = orders_alike k;
    requests = requests_same b i j x.apart c c' d d' x.first x.second (same_requests x.first_linked) (same_requests x.second_linked) k;
  }

-- what is left open goes by client, terms and state
same_leaves : (client : ℕ) (o p : Order) → o.client ≡ p.client → o.terms ≡ p.terms → o.state ≡ p.state
    → (if eqb o.client client then leaves_qty o otherwise 0) ≡ (if eqb p.client client then leaves_qty p otherwise 0)
unfolding leaves_qty
same_leaves client o p x y z =
    ap (λ (k : ℕ). if eqb k client then leaves_of o.state.status o.terms.qty o.state.cumqty otherwise 0) x
    ∙ ap (λ (t : Terms). if eqb p.client client then leaves_of o.state.status t.qty o.state.cumqty otherwise 0) y
    ∙ ap (λ (s : State). if eqb p.client client then leaves_of s.status p.terms.qty s.cumqty otherwise 0) z

same_open : (x y : Book) → length x.orders ≡ length y.orders → ((k : ℕ) → SameOrder x y k) → (client : ℕ) → open_of x client ≡ open_of y client
same_open x y l s client =
    total_ext (λ (o : Order). if eqb o.client client then leaves_qty o otherwise 0) no_order x.orders y.orders l
    (λ k. same_leaves client (order_in x k) (order_in y k) (s k).order.client (s k).order.terms (s k).order.state)

-- ---- the two events

pub two_clients : TwoClients
two_clients b d e h =
    let w : Both b d e = both_ways b d e h in
    let x : Book = after (after b (change_of b d)) (change_of (after b (change_of b d)) e) in
    let y : Book = after (after b (change_of b e)) (change_of (after b (change_of b e)) d) in
    let n : length x.orders ≡ length y.orders = same_count b w.kept w.i w.j _ _ _ _ w.crossed in
    let s : ((k : ℕ) → SameOrder x y k) = same_order b w.kept w.i w.j _ _ _ _ w.crossed in
    let again : step_of (book_after b e) d ≡ change_of (after b (change_of b e)) d = ap (λ (z : Book). step_of z d) w.earlier.left ∙ w.later.step in
    record {
      taken_first = ap (λ (c : Change). c.refusal) w.earlier.step ∙ w.earlier.taken;
      taken_second = ap (λ (c : Change). c.refusal) again ∙ w.later.taken;
      first_answer = ap (λ (c : Change). c.output) again ∙ same_output w.crossed.first_linked ∙ sym (ap (λ (c : Change). c.output) w.first.step);
      second_answer =
          ap (λ (z : Book). (step_of z e).output) w.first.left ∙ ap (λ (c : Change). c.output) w.second.step
          ∙ same_output w.crossed.second_linked ∙ sym (ap (λ (c : Change). c.output) w.earlier.step);
      count = ap (λ (z : Book). length z.orders) w.left_one ∙ n ∙ sym (ap (λ (z : Book). length z.orders) w.left_two);
      orders = λ k. subst (λ (z : Book). SameOrder z (book_after (book_after b e) d) k) (sym w.left_one) (subst (λ (z : Book). SameOrder x z k) (sym w.left_two) (s k));
      opens = λ client. ap (λ (z : Book). open_of z client) w.left_one ∙ same_open x y n s client ∙ sym (ap (λ (z : Book). open_of z client) w.left_two);
    }

-- ---- if one of them adds nothing

module _ (b : Book) (i j : ℕ) (c c' d d' : Change) (x : Crossed b i j c c' d d') where
  -- the next link stays, or no request has it
  no_link : (a e : Change) → (a.requests.added ≡ 0) ⊎ (e.requests.added ≡ 0) → (next b ≡ next (after b a)) ⊎ (e.requests.added ≡ 0)
  no_link a e (inl z) = inl (ap (one_more 65535) (sym (none_kept b a z)))
  no_link a e (inr z) = inr z

  one_adds : (c.requests.added ≡ 0) ⊎ (d.requests.added ≡ 0) → after (after b c) d' ≡ after (after b d) c'
  one_adds z =
      ap (after (after b c)) (linked_equal _ _ _ _ _ (no_link c d z) x.second_linked)
      ∙ after_comm b i j x.apart c d x.first x.second z
      ∙ sym (ap (after (after b d)) (linked_equal _ _ _ _ _ (no_link d c (⊎_elim inr inl z)) x.first_linked))

pub same_book : SameBook
same_book b d e h z =
    let w : Both b d e = both_ways b d e h in
    w.left_one
    ∙ one_adds b w.i w.j _ _ _ _ w.crossed
    (⊎_elim (λ y. inl (sym (ap (λ (c : Change). c.requests.added) w.first.step) ∙ y)) (λ y. inr (sym (ap (λ (c : Change). c.requests.added) w.earlier.step) ∙ y)) z)
    ∙ sym w.left_two
