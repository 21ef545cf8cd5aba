-- The number that an event gets is that of the first question answered with no. Rests on machine's Moves: what is no booking and no replace is taken.
use Rattle.std.proofs.Common.{ℕ, ◌+◌, ◌-◌, ◌≤◌, ◌<◌, arith, ◌≡◌, refl, sym, ap, ◌∙◌, subst, Bool, true, false, not, ◌&&◌, ◌||◌, List, [], ◌∷◌, eqb, leb, ltb, length, length-append, length-set, leb-false, le-leb, ne_eqb}
use Rattle.std.proofs.lemmas.Bool.{lt-leb, not-true, not-false}
use Rattle.std.proofs.Math.Bool.{or-false}
use Rattle.std.proofs.lemmas.Bool.Decides.{nat_tests}
use Rattle.prelude.specs.Laws.Below.{first_some}
use Rattle.prelude.specs.Cases.{if◌then◌otherwise◌}
use Rattle.prelude.specs.Laws.Cases.{split_if, split_maybe, if_true, if_false, clash}
use Rattle.prelude.specs.declared.Text.{Text}
use Rattle.store.specs.declared.Order.{Order}
use Rattle.store.specs.declared.Request.{Request}
use Rattle.store.specs.Book.{Book, order_in}
use Rattle.store.specs.Finds.{find_clordid}
use Rattle.machine.specs.declared.Change.{Change}
use Rattle.machine.specs.Changes.{Event, unchanged, refusing, adding, alarming}
use Rattle.machine.specs.Amend.{amend_refusal, already_taken, or_own, replace_refusal, priced_right, cancel, replace}
use Rattle.machine.specs.Machine.{order_link, order_of, unused, book_order, amending, on_request, nothing, unknown_report, on_name, change_of, has_room, step_of, answer_link, orders_after, requests_after, after, findings_of}
use Rattle.machine.proofs.Walked.{not_kind, on_report_made, unknown_made, reject_made, failed_made, unsent_made, asked_made}
use Rattle.machine.proofs.Claim.Moves.{Moves, made_moves, asked_moves, told_refusal, status_moves, cancel_goes_moves, replace_goes_moves}
use Rattle.machine.proofs.Claim.Ruled.{Ruled, request_ruled}
use Rattle.machine.proofs.Claim.Walk.{found_request, found_order}
use Rattle.claims.specs.Questions.{is_booking, used, replaced, passed_all, mispriced, adds, full, is_replacing}
use Rattle.claims.specs.Claims.{Grown}
use Rattle.machine.specs.declared.Findings.{Findings}
use Rattle.machine.proofs.Kept.Tables.{length_answer}
use Rattle.machine.proofs.Venue.Books.{step_change}
use Rattle.machine.proofs.Claim.Filled.{findings_place}

-- ---- a change that books nothing: its number, and its place among the orders in use

record Unbooked (b : Book) (n : ℕ) (c : Change) : Type 0 where
  number : c.refusal ≡ n
  place : c.place ≤ length b.orders

module _ (b : Book) where
  moves_unbooked : (k p : ℕ) (o : Order) (c : Change) → p ≤ length b.orders → Moves k p o c → Unbooked b 0 c
  moves_unbooked k p o c l m = record { number = m.taken; place = omega (arith, m.there) }

  nothing_unbooked : Unbooked b 0 nothing
  unfolding unchanged
  nothing_unbooked = record { number = refl; place = omega arith }

  unknown_unbooked : Unbooked b 0 unknown_report
  unfolding unchanged alarming
  unknown_unbooked = record { number = refl; place = omega arith }

  findings_unbooked : (k p : ℕ) (o : Order) (c : Change) → p ≤ length b.orders → Moves k (findings_of b p).place o c → Unbooked b 0 c
  findings_unbooked k p o c l m = moves_unbooked k (findings_of b p).place o c (omega (arith, findings_place b p)) m

module _ (b : Book) (r : Ruled b) (e : Event) where
  order_small : (client : ℕ) (t : Text) → order_of b client t ≤ length b.orders
  unfolding order_of find_clordid
  order_small client t =
      split_maybe (λ (p : ℕ). p ≤ length b.orders) _ (λ z. omega arith)
      (λ k z. let l : k < length b.requests = (first_some _ (length b.requests) k z).below in omega (arith, (request_ruled b r k l).placed))

  request_unbooked : (unknown : Change) (handle : Findings → ℕ → Request → Order → Change) → Unbooked b 0 unknown
      → ((f : Findings) (k : ℕ) (q : Request) (o : Order) → Moves 2 f.place o (handle f k q o)) → Unbooked b 0 (on_request unknown handle b e)
  unfolding on_request
  request_unbooked unknown handle u m =
      split_maybe (Unbooked b 0) _ (λ z. u)
      (λ k z. findings_unbooked b 2 (order_link b k) _ _ (let l = (request_ruled b r k (found_request b e.ids.downstream k z)).placed in omega arith) (m _ (k + 1) _ _))

-- ---- cancels and replaces

cancel_moves : (f : Findings) (order : ℕ) (full' : Bool) (o : Order) (e : Event) → Moves 2 f.place o (cancel f order full' o e)
unfolding cancel
cancel_moves f order full' o e =
    split_if (Moves 2 f.place o) _ (λ t. status_moves f o e)
    (λ t. split_if (Moves 2 f.place o) _ (λ u. told_refusal f o e _ _) (λ u. cancel_goes_moves f o e))

refusing_unbooked : (b : Book) (n : ℕ) → Unbooked b n (refusing n)
unfolding refusing
refusing_unbooked b n = record { number = refl; place = omega arith }

module _ (b : Book) (e : Event) (p : ℕ) (small : p ≤ length b.orders) (order : ℕ) (full' : Bool) (o : Order) where
  abbrev f : Findings
  f = findings_of b p

  abbrev unrefused : Bool
  unrefused = eqb (amend_refusal f order full' o e (replace_refusal f o e)).fixedtext 0

  -- question 6 is asked, and answered with no
  abbrev wrong : Bool
  wrong = not (already_taken f order e) && unrefused && not (priced_right (or_own e.terms.ordtype o.terms.ordtype) e)

  told_if : (c : Change) → wrong ≡ false → Moves 2 f.place o c → Unbooked b (if wrong then 6 otherwise 0) c
  told_if c w m = subst (λ (n : ℕ). Unbooked b n c) (sym (if_false wrong 6 0 w)) (findings_unbooked b 2 p o c small m)

  replace_unbooked : Unbooked b (if wrong then 6 otherwise 0) (replace f order full' o e)
  unfolding replace
  replace_unbooked =
      let T : Change → Type 0 = Unbooked b (if wrong then 6 otherwise 0) in
      split_if T (already_taken f order e) (λ t. told_if _ (rw t refl) (status_moves f o e))
      (λ t. split_if T _ (λ u. told_if _ (rw (t, not-true unrefused u) refl) (told_refusal f o e _ _))
      (λ u. split_if T _ (λ v. subst (λ (n : ℕ). Unbooked b n (refusing 6)) (sym (if_true wrong 6 0 (rw (t, not-false unrefused u, v) refl))) (refusing_unbooked b 6))
      (λ v. told_if _ (rw (t, not-false unrefused u, v) refl) (replace_goes_moves f o e))))

-- ---- what is no booking

mispriced_replace : (b : Book) (e : Event) → is_booking e ≡ false → is_replacing e ≡ true
    → mispriced b e ≡ passed_all b e && not (priced_right (or_own e.terms.ordtype (replaced b e).terms.ordtype) e)
unfolding mispriced
mispriced_replace b e n m = rw (n, m) refl

mispriced_none : (b : Book) (e : Event) → is_booking e ≡ false → is_replacing e ≡ false → mispriced b e ≡ false
unfolding mispriced
mispriced_none b e n m = rw (n, m) refl

module _ (b : Book) (r : Ruled b) (e : Event) (other : is_booking e ≡ false) where
  abbrev T : Change → Type 0
  T = Unbooked b (if mispriced b e then 6 otherwise 0)

  plain : (c : Change) → is_replacing e ≡ false → Unbooked b 0 c → T c
  plain c n t = subst (λ (k : ℕ). Unbooked b k c) (sym (if_false _ 6 0 (mispriced_none b e other n))) t

  cancels : Unbooked b 0 (amending cancel b e)
  unfolding amending
  cancels = findings_unbooked b 2 (order_of b e.client e.ids.origclordid) _ _ (order_small b r e e.client e.ids.origclordid) (cancel_moves _ _ _ _ e)

  replaces : is_replacing e ≡ true → T (amending replace b e)
  unfolding amending passed_all
  replaces m =
      subst (λ (x : Bool). Unbooked b (if x then 6 otherwise 0) (amending replace b e)) (sym (mispriced_replace b e other m))
      (replace_unbooked b e (order_of b e.client e.ids.origclordid) (order_small b r e e.client e.ids.origclordid) _ _ _)

  others_unbooked : T (change_of b e)
  unfolding change_of on_name
  others_unbooked =
      split_if T (eqb e.kind 1) (λ t. clash _ t other)
      (λ t. split_if T (eqb e.kind 2) (λ t. plain _ (not_kind e 2 3 t refl) cancels)
      (λ t. split_if T (eqb e.kind 3) (λ t. replaces t)
      (λ n. split_if T (eqb e.kind 4)
      (λ t. plain _ n (request_unbooked b r e _ _ (unknown_unbooked b) (λ f k q o. made_moves (on_report_made k q o e _ _ _ _ t))))
      (λ t. split_if T (eqb e.kind 5) (λ t. plain _ n (request_unbooked b r e _ _ (unknown_unbooked b) (λ f k q o. made_moves (unknown_made k q o e _ _ _ _))))
      (λ t. split_if T (eqb e.kind 6) (λ t. plain _ n (request_unbooked b r e _ _ (unknown_unbooked b) (λ f k q o. made_moves (reject_made k q o e _ _ _ _ t))))
      (λ t. split_if T (eqb e.kind 7) (λ t. plain _ n (request_unbooked b r e _ _ (nothing_unbooked b) (λ f k q o. made_moves (failed_made k q o e _ _ _ _ t))))
      (λ t. split_if T (eqb e.kind 8) (λ t. plain _ n (request_unbooked b r e _ _ (nothing_unbooked b) (λ f k q o. made_moves (unsent_made k q o e _ _ _ _ t))))
      (λ t. plain _ n (split_maybe (Unbooked b 0) _ (λ z. nothing_unbooked b)
      (λ i z. findings_unbooked b 2 (i + 1) _ _ (let l : i < length b.orders = found_order b e.ids.name i z in omega arith) (asked_moves (asked_made (order_in b i) _ _ _ _))))))))))))

-- ---- every event

-- the number of questions 5 and 6, and whether the change wants a new order record
record Walked (b : Book) (e : Event) (c : Change) : Type 0 where
  number : c.refusal ≡ (if used b e then 5 otherwise if mispriced b e then 6 otherwise 0)
  place : c.refusal ≡ 0 → leb c.place (length b.orders) ≡ not (is_booking e)

used_none : (b : Book) (e : Event) → is_booking e ≡ false → used b e ≡ false
unfolding used
used_none b e n = rw n refl

module _ (b : Book) (e : Event) (book : is_booking e ≡ true) where
  used_is : used b e ≡ not (unused b e)
  unfolding used
  used_is = rw book refl

  mispriced_is : mispriced b e ≡ not (priced_right e.terms.ordtype e)
  unfolding mispriced
  mispriced_is = rw (book, not_kind e 1 3 book refl) (or-false (not (priced_right e.terms.ordtype e)))

  refused_walked : (n : ℕ) → (n ≡ 0 → ⊥) → n ≡ (if used b e then 5 otherwise if mispriced b e then 6 otherwise 0) → Walked b e (refusing n)
  unfolding refusing
  refused_walked n z w = record { number = w; place = λ y. absurd (z y) }

  booking_walked : Walked b e (book_order b e)
  unfolding book_order
  booking_walked =
      split_if (Walked b e) (not (unused b e)) (λ t. refused_walked 5 (λ z. omega arith) (sym (if_true _ _ _ (used_is ∙ t))))
      (λ t. split_if (Walked b e) (not (priced_right e.terms.ordtype e))
      (λ p. refused_walked 6 (λ z. omega arith) (sym (if_false _ _ _ (used_is ∙ t) ∙ if_true _ _ _ (mispriced_is ∙ p))))
      (λ p. unfold adding unchanged in
      record {
        number = sym (if_false _ _ _ (used_is ∙ t) ∙ if_false _ _ _ (mispriced_is ∙ p));
        place = λ z. lt-leb _ (length b.orders) (omega arith) ∙ sym (ap not book);
      }))

  booked : Walked b e (change_of b e)
  unfolding change_of
  booked = split_if (Walked b e) (eqb e.kind 1) (λ t. booking_walked) (λ t. clash _ book t)

walked : (b : Book) → Ruled b → (e : Event) → Walked b e (change_of b e)
walked b r e = go (is_booking e) refl
  where
    go : (t : Bool) → is_booking e ≡ t → Walked b e (change_of b e)
    go true h = booked b e h
    go false h =
        let t = others_unbooked b r e h in
        record { number = t.number ∙ sym (if_false (used b e) 5 _ (used_none b e h)); place = λ z. le-leb _ _ t.place ∙ sym (ap not h) }

-- ---- question 7

no_more : (k x y z : Bool) → (not k || not x) && (y || not z) ≡ not ((k && x) || (not y && z))
no_more k x y z = grind arith

below : (n m : ℕ) → ltb n m ≡ not (leb m n)
below n m = grind (arith, nat_tests)

module _ (b : Book) (r : Ruled b) (e : Event) where
  room_is : (change_of b e).refusal ≡ 0 → has_room b (change_of b e) ≡ not (full b e)
  unfolding has_room full adds
  room_is z =
      rw ((walked b r e).place z, below (length b.orders) 64, below (length b.requests) 256)
      (no_more (is_booking e) (leb 64 (length b.orders)) (eqb (change_of b e).requests.added 0) (leb 256 (length b.requests)))

  -- THE NUMBER of an event on a book that keeps its rules
  pub step_number : (step_of b e).refusal ≡ (if used b e then 5 otherwise if mispriced b e then 6 otherwise if full b e then 7 otherwise 0)
  unfolding step_of if◌then◌otherwise◌ refusing
  step_number = go (used b e) (mispriced b e) (full b e) refl refl refl
    where
      n : ℕ
      n = (change_of b e).refusal

      go : (x y z : Bool) → used b e ≡ x → mispriced b e ≡ y → full b e ≡ z → (step_of b e).refusal ≡ (if x then 5 otherwise if y then 6 otherwise if z then 7 otherwise 0)
      go true y z h k l = let w : n ≡ 5 = rw h at (walked b r e).number in rw w refl
      go false true z h k l = let w : n ≡ 6 = rw (h, k) at (walked b r e).number in rw w refl
      go false false true h k l = let w : n ≡ 0 = rw (h, k) at (walked b r e).number in rw (room_is w, l, w) refl
      go false false false h k l = let w : n ≡ 0 = rw (h, k) at (walked b r e).number in rw (room_is w, l, w) refl

-- ---- what an event taken adds

-- n more exactly if the test holds
orders_grow : (os : List Order) (c : Change) (t : Bool) → leb c.place (length os) ≡ not t → length (orders_after os c) ≡ length os + (if t then 1 otherwise 0)
unfolding orders_after if◌then◌otherwise◌
orders_grow os c true h =
    let l : length os < c.place = leb-false c.place (length os) h in
    rw (ne_eqb c.place 0 (λ z. omega arith), h) (length-append os (c.order ∷ []))
orders_grow os c false h = go (eqb c.place 0) refl
  where
    go : (z : Bool) → eqb c.place 0 ≡ z → length (orders_after os c) ≡ length os + 0
    go true e = rw e (omega arith)
    go false e = rw (e, h) (omega (arith, length-set os (c.place - 1) c.order))

pub requests_grow : (qs : List Request) (c : Change) → length (requests_after qs c) ≡ length qs + (if not (eqb c.requests.added 0) then 1 otherwise 0)
unfolding requests_after if◌then◌otherwise◌
requests_grow qs c = go (eqb c.requests.added 0) refl
  where
    settled : List Request
    settled = answer_link c.requests.superseded c.requests.outcome (answer_link c.requests.answered c.requests.outcome qs)

    same : length settled ≡ length qs
    same = length_answer c.requests.superseded _ _ ∙ length_answer c.requests.answered _ qs

    go : (z : Bool) → eqb c.requests.added 0 ≡ z → length (requests_after qs c) ≡ length qs + (if not z then 1 otherwise 0)
    go true e = rw e (omega (arith, same))
    go false e = rw e (omega (arith, same, length-append settled (c.requests.request ∷ [])))

pub step_grown : (b : Book) → Ruled b → (e : Event) → (step_of b e).refusal ≡ 0 → Grown b e (after b (step_of b e))
unfolding after adds
step_grown b r e z =
    let is : step_of b e ≡ change_of b e = step_change b e z in
    let taken : (change_of b e).refusal ≡ 0 = ap (λ (c : Change). c.refusal) (sym is) ∙ z in
    rw is (record {
      orders = orders_grow b.orders (change_of b e) (is_booking e) ((walked b r e).place taken);
      requests = requests_grow b.requests (change_of b e);
    })
