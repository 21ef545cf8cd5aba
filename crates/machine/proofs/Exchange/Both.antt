-- Two events, one after the other and the other way round: what each comes to on the book as it is, and on the book that the other leaves.
-- Rests on Handled.
use Rattle.std.proofs.Common.{ℕ, ◌-◌, ◌≤◌, ◌<◌, arith, ◌≡◌, refl, sym, ap, subst, ◌∙◌, ◌⊎◌, inl, inr, ⊎_elim, true, false, not, ◌||◌, eqb, leb, ltb, length, eqb-true, eq-eqb, le-leb, lt-ltb, ltb-true}
use Rattle.std.proofs.Math.Decide.{ℕ_discrete}
use Rattle.std.proofs.lemmas.Bool.{and_parts, or_cases, cases_Bool, and_from, or_left, or_right}
use Rattle.prelude.specs.Cases.{if◌then◌otherwise◌}
use Rattle.prelude.specs.Laws.Cases.{if_true, if_false, clash}
use Rattle.store.specs.Book.{Book, order_in}
use Rattle.machine.specs.Orders.{one_more}
use Rattle.machine.specs.Changes.{Event, refusing}
use Rattle.machine.specs.Machine.{change_of, has_room, step_of, after, book_after}
use Rattle.machine.specs.Exchange.{concerns, OfTwoClients}
use Rattle.machine.specs.declared.Requests.{Requests}
use Rattle.machine.specs.declared.Change.{Change}
use Rattle.machine.proofs.Kept.Indexed.{BookKept, book_kept}
use Rattle.machine.proofs.Claim.Ruled.{Ruled, ruled}
use Rattle.machine.proofs.Claim.Records.{longer, added_long, none_kept}
use Rattle.machine.proofs.Claim.Walk.{refusing_away}
use Rattle.machine.proofs.Exchange.Links.{Linked, same_refusal, same_place, same_requests}
use Rattle.machine.proofs.Exchange.Frame.{Owned, apart}
use Rattle.machine.proofs.Exchange.Handled.{Handled, handled, owned_of, seen}

-- ---- an event that is taken

pub record Taken (b : Book) (e : Event) : Type 0 where
  pub step : step_of b e ≡ change_of b e
  pub taken : (change_of b e).refusal ≡ 0
  pub room : has_room b (change_of b e) ≡ true
  pub left : book_after b e ≡ after b (change_of b e)

module _ (b : Book) (e : Event) where
  left_taken : (c : Change) → c.refusal ≡ 0 → (if eqb c.refusal 0 then after b c otherwise b) ≡ after b c
  left_taken c z = if_true _ _ _ (eq-eqb c.refusal 0 z)

  taken_of : (change_of b e).refusal ≡ 0 → has_room b (change_of b e) ≡ true → Taken b e
  taken_of z h = record { step = step; taken = z; room = h; left = left }
    where
      step : step_of b e ≡ change_of b e
      step = unfold step_of in if_false _ _ _ (ap not (eq-eqb (change_of b e).refusal 0 z)) ∙ if_true _ _ _ h

      left : book_after b e ≡ after b (change_of b e)
      left = unfold book_after in left_taken (step_of b e) (ap (λ (c : Change). c.refusal) step ∙ z) ∙ ap (after b) step

  step_taken : (step_of b e).refusal ≡ 0 → Taken b e
  step_taken z = go (cases_Bool (eqb (change_of b e).refusal 0)) (cases_Bool (has_room b (change_of b e)))
    where
      away : (n : ℕ) → eqb n 0 ≡ false → step_of b e ≡ refusing n → ⊥
      away n h s = clash _ (eq-eqb (refusing n).refusal 0 (ap (λ (c : Change). c.refusal) (sym s) ∙ z)) (refusing_away n h)

      go : (eqb (change_of b e).refusal 0 ≡ true) ⊎ (eqb (change_of b e).refusal 0 ≡ false) → (has_room b (change_of b e) ≡ true) ⊎ (has_room b (change_of b e) ≡ false) → Taken b e
      go (inr x) y =
          let s : step_of b e ≡ change_of b e = unfold step_of in if_true _ _ _ (ap not x) in
          clash _ (eq-eqb (change_of b e).refusal 0 (ap (λ (c : Change). c.refusal) (sym s) ∙ z)) x
      go (inl x) (inl y) = taken_of (eqb-true _ 0 x) y
      go (inl x) (inr y) = absurd (away 7 refl (unfold step_of in if_false _ _ _ (ap not x) ∙ if_false _ _ _ y))

-- ---- room

room_of : (b : Book) (c : Change) → c.place ≤ length b.orders → (c.requests.added ≡ 0) ⊎ (length b.requests < 256) → has_room b c ≡ true
unfolding has_room
room_of b c l h =
    and_from _ _ (or_left _ _ (le-leb c.place (length b.orders) l))
    (⊎_elim (λ z. or_left _ _ (eq-eqb c.requests.added 0 z)) (λ z. or_right (eqb c.requests.added 0) _ (lt-ltb (length b.requests) 256 z)) h)

of_room : (b : Book) (c : Change) → has_room b c ≡ true → (c.requests.added ≡ 0) ⊎ (length b.requests < 256)
unfolding has_room
of_room b c h =
    ⊎_elim (λ z. inl (eqb-true c.requests.added 0 z)) (λ z. inr (ltb-true (length b.requests) 256 z))
    (or_cases (eqb c.requests.added 0) (ltb (length b.requests) 256) (and_parts (leb c.place (length b.orders) || ltb (length b.orders) 64) _ h).1)

-- ---- two changes of the orders at indices i and j: c' is c as it is seen after d, and d' is d as it is seen after c

-- the link of the next request
abbrev pub next : Book → ℕ
next b = one_more 65535 (length b.requests)

pub record Crossed (b : Book) (i j : ℕ) (c c' d d' : Change) : Type 0 where
  pub apart : i ≡ j → ⊥
  pub first : Owned b i c
  pub second : Owned b j d
  pub first_linked : Linked (length b.requests) (next b) (next (after b d)) c c'
  pub second_linked : Linked (length b.requests) (next b) (next (after b c)) d d'

pub crossed_back : (b : Book) (i j : ℕ) (c c' d d' : Change) → Crossed b i j c c' d d' → Crossed b j i d d' c c'
crossed_back b i j c c' d d' x = record {
  apart = λ z. x.apart (sym z);
  first = x.second;
  second = x.first;
  first_linked = x.second_linked;
  second_linked = x.first_linked;
}

-- ---- the two events

-- i and j are the orders that they concern; d is taken first
module _ (b : Book) (d e : Event) (good : BookKept b) (r : Ruled b) (i j : ℕ) (first : Handled b d i) (second : Handled b e j)
    (clients : (order_in b i).client ≡ (order_in b j).client → ⊥) (t : Taken b d) (u : Taken (after b (change_of b d)) e) where
  apart_orders : i ≡ j → ⊥
  apart_orders z = clients (ap (λ (k : ℕ). (order_in b k).client) z)

  -- their changes of the book as it is
  abbrev by_first : Change
  by_first = change_of b d

  abbrev by_second : Change
  by_second = change_of b e

  own_first : Owned b i by_first
  own_first = owned_of b r good d i first t.taken

  -- the second as the first leaves it
  linked_second : Linked (length b.requests) (next b) (next (after b by_first)) by_second (change_of (after b by_first) e)
  linked_second = seen b (after b by_first) i (apart b i by_first own_first) r good e j second (λ z. apart_orders (sym z)) (λ z. clients (sym z))

  requests_second : (change_of (after b by_first) e).requests ≡ by_second.requests
  requests_second = same_requests linked_second

  taken_second : by_second.refusal ≡ 0
  taken_second = sym (same_refusal linked_second) ∙ u.taken

  own_second : Owned b j by_second
  own_second = owned_of b r good e j second taken_second

  -- the first as the second leaves it
  linked_first : Linked (length b.requests) (next b) (next (after b by_second)) by_first (change_of (after b by_second) d)
  linked_first = seen b (after b by_second) j (apart b j by_second own_second) r good d i first apart_orders clients

  requests_first : (change_of (after b by_second) d).requests ≡ by_first.requests
  requests_first = same_requests linked_first

  -- there is room for the second before the first
  earlier : Taken b e
  earlier = taken_of b e taken_second (room_of b by_second (omega (arith, own_second.there, own_second.inside)) (go (of_room (after b by_first) _ u.room)))
    where
      go : ((change_of (after b by_first) e).requests.added ≡ 0) ⊎ (length (after b by_first).requests < 256) → (by_second.requests.added ≡ 0) ⊎ (length b.requests < 256)
      go (inl z) = inl (sym (ap (λ (x : Requests). x.added) requests_second) ∙ z)
      go (inr z) = inr (omega (arith, longer b by_first))

  -- and for the first after the second
  later : Taken (after b by_second) d
  later =
      taken_of (after b by_second) d (same_refusal linked_first ∙ t.taken)
      (room_of (after b by_second) _ inside (go (ℕ_discrete by_first.requests.added 0) (ℕ_discrete by_second.requests.added 0) (of_room b by_first t.room) (of_room (after b by_first) _ u.room)))
    where
      inside : (change_of (after b by_second) d).place ≤ length (after b by_second).orders
      inside =
          let z : (change_of (after b by_second) d).place ≡ by_first.place = same_place linked_first in
          omega (arith, own_first.there, own_first.inside, (apart b j by_second own_second).count)

      go : Dec (by_first.requests.added ≡ 0) → Dec (by_second.requests.added ≡ 0) → (by_first.requests.added ≡ 0) ⊎ (length b.requests < 256)
          → ((change_of (after b by_first) e).requests.added ≡ 0) ⊎ (length (after b by_first).requests < 256)
          → ((change_of (after b by_second) d).requests.added ≡ 0) ⊎ (length (after b by_second).requests < 256)
      go (yes x) y f g = inl (ap (λ (z : Requests). z.added) requests_first ∙ x)
      go (no x) y (inl f) g = absurd (x f)
      go (no x) (yes y) (inr f) g = inr (omega (arith, none_kept b by_second y))
      go (no x) (no y) (inr f) (inl g) = absurd (y (sym (ap (λ (z : Requests). z.added) requests_second) ∙ g))
      go (no x) (no y) (inr f) (inr g) = inr (omega (arith, added_long b by_first x, added_long b by_second y))

  crossed : Crossed b i j by_first (change_of (after b by_second) d) by_second (change_of (after b by_first) e)
  crossed = record { apart = apart_orders; first = own_first; second = own_second; first_linked = linked_first; second_linked = linked_second }

  book_one : book_after (book_after b d) e ≡ after (after b by_first) (change_of (after b by_first) e)
  book_one = ap (λ (x : Book). book_after x e) t.left ∙ u.left

  book_two : book_after (book_after b e) d ≡ after (after b by_second) (change_of (after b by_second) d)
  book_two = ap (λ (x : Book). book_after x d) earlier.left ∙ later.left

-- the two ways round, and what they leave
pub record Both (b : Book) (d e : Event) : Type 0 where
  pub kept : BookKept b
  pub i : ℕ
  pub j : ℕ
  pub crossed : Crossed b i j (change_of b d) (change_of (after b (change_of b e)) d) (change_of b e) (change_of (after b (change_of b d)) e)
  pub first : Taken b d
  pub second : Taken (after b (change_of b d)) e
  pub earlier : Taken b e
  pub later : Taken (after b (change_of b e)) d
  pub left_one : book_after (book_after b d) e ≡ after (after b (change_of b d)) (change_of (after b (change_of b d)) e)
  pub left_two : book_after (book_after b e) d ≡ after (after b (change_of b e)) (change_of (after b (change_of b e)) d)

-- the events concern the orders at these indices
module _ (b : Book) (d e : Event) (h : OfTwoClients b d e) where
  handled_first : Handled b d (concerns b d - 1)
  handled_first = let l : 0 < concerns b d = h.concern.0 in handled b d (concerns b d - 1) h.first_kind.0 h.first_kind.1 (omega arith)

  handled_second : Handled b e (concerns b e - 1)
  handled_second = let l : 0 < concerns b e = h.concern.1 in handled b e (concerns b e - 1) h.second_kind.0 h.second_kind.1 (omega arith)

  taken_both : Taken (after b (change_of b d)) e
  taken_both = subst (λ (x : Book). Taken x e) (step_taken b d h.first).left (step_taken (book_after b d) e h.second)

  pub both_ways : Both b d e
  both_ways =
      let good : BookKept b = book_kept b h.kept in
      let r : Ruled b = ruled b h.kept in
      let i : ℕ = concerns b d - 1 in
      let j : ℕ = concerns b e - 1 in
      let t : Taken b d = step_taken b d h.first in
      let u : Taken (after b (change_of b d)) e = taken_both in
      record {
        kept = good;
        i = i;
        j = j;
        crossed = crossed b d e good r i j handled_first handled_second h.clients t u;
        first = t;
        second = u;
        earlier = earlier b d e good r i j handled_first handled_second h.clients t u;
        later = later b d e good r i j handled_first handled_second h.clients t u;
        left_one = book_one b d e good r i j handled_first handled_second h.clients t u;
        left_two = book_two b d e good r i j handled_first handled_second h.clients t u;
      }
