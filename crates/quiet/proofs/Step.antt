-- An event on the part and on the book: the same answer, and the part of what is left. Rests on Seen, Left and Done.
use Rattle.std.proofs.Common.{ℕ, ◌+◌, ◌-◌, ◌≤◌, ◌<◌, arith, ◌≡◌, refl, sym, ap, subst, ◌∙◌, ◌⊎◌, inl, inr, Bool, true, false, not, ◌||◌, List, eqb, leb, ltb, length, eqb-true, eq-eqb, le-leb, leb-true, lt-ltb, ltb-true, get_or}
use Rattle.std.proofs.Math.Decide.{ℕ_discrete, dec_lt}
use Rattle.std.proofs.lemmas.Bool.{cases_Bool, and_parts, and_from, or_cases, or_left, or_right}
use Rattle.prelude.specs.Below.{count_below}
use Rattle.prelude.specs.Laws.Below.{count_le}
use Rattle.prelude.specs.Laws.Cases.{if_true, if_false, clash}
use Rattle.store.specs.declared.Order.{Order}
use Rattle.store.specs.Book.{Book, order_in, request_in}
use Rattle.store.specs.Orders.{no_order}
use Rattle.machine.specs.Changes.{Event, refusing}
use Rattle.machine.specs.Machine.{change_of, has_room, step_of, after, book_after, booked_order}
use Rattle.machine.specs.Events.{Ranged}
use Rattle.machine.specs.Rules.{rules}
use Rattle.machine.specs.declared.Change.{Change}
use Rattle.machine.proofs.Kept.Steps.{step_keeps}
use Rattle.machine.proofs.Kept.Indexed.{BookKept, book_kept}
use Rattle.machine.proofs.Kept.Lift.{Placed, placed}
use Rattle.machine.proofs.Claim.Records.{there_like, there_other, longer, added_own, none_kept}
use Rattle.machine.proofs.Claim.Filled.{after_orders, orders_same, booking_place}
use Rattle.machine.proofs.Exchange.Frame.{links_within}
use Rattle.parts.specs.Parts.{of_passing, part}
use Rattle.parts.specs.Laws.Ranks.{rank_below}
use Rattle.quiet.specs.Renamed.{renamed_change}
use Rattle.parts.specs.Alike.{OwnLink}
use Rattle.quiet.specs.Part.{Parted, NamesPassing, NotMany, Fixed, Unnoticed, UnnoticedEvent, part_link, part_place, part_index}
use Rattle.quiet.proofs.Links.{part_renames, owns_by}
use Rattle.quiet.proofs.Lookups.{count_orders, count_requests, place_at}
use Rattle.quiet.proofs.Seen.{change_seen}
use Rattle.quiet.proofs.Left as left
use Rattle.quiet.proofs.Left.{Goes, nowhere, there, Passing, Fits, book_left}
use Rattle.quiet.proofs.Done.{OwnOrNext, own, next, Done, away, still, one, new, done, done_fits}

-- ---- the step is the change, if it is not refused for want of room

step_change : (b : Book) (e : Event) → ((step_of b e).refusal ≡ 7 → ⊥)
    → (step_of b e ≡ change_of b e) × ((eqb (change_of b e).refusal 0 ≡ false) ⊎ (has_room b (change_of b e) ≡ true))
unfolding step_of
step_change b e n = go (cases_Bool (eqb (change_of b e).refusal 0)) (cases_Bool (has_room b (change_of b e)))
  where
    seven : (refusing 7).refusal ≡ 7
    seven = unfold refusing in refl

    go : (eqb (change_of b e).refusal 0 ≡ true) ⊎ (eqb (change_of b e).refusal 0 ≡ false) → (has_room b (change_of b e) ≡ true) ⊎ (has_room b (change_of b e) ≡ false)
        → (step_of b e ≡ change_of b e) × ((eqb (change_of b e).refusal 0 ≡ false) ⊎ (has_room b (change_of b e) ≡ true))
    go (inr x) y = (if_true _ _ _ (ap not x), inl x)
    go (inl x) (inl y) = (if_false _ _ _ (ap not x) ∙ if_true _ _ _ y, inr y)
    go (inl x) (inr y) = absurd (n (ap (λ (c : Change). c.refusal) (if_false _ _ _ (ap not x) ∙ if_false _ _ _ y) ∙ seven))

change_step : (b : Book) (e : Event) → (eqb (change_of b e).refusal 0 ≡ false) ⊎ (has_room b (change_of b e) ≡ true) → step_of b e ≡ change_of b e
unfolding step_of
change_step b e (inl x) = if_true _ _ _ (ap not x)
change_step b e (inr y) = go (cases_Bool (eqb (change_of b e).refusal 0))
  where
    go : (eqb (change_of b e).refusal 0 ≡ true) ⊎ (eqb (change_of b e).refusal 0 ≡ false) → step_of b e ≡ change_of b e
    go (inl x) = if_false _ _ _ (ap not x) ∙ if_true _ _ _ y
    go (inr x) = if_true _ _ _ (ap not x)

module _ (p : ℕ → Bool) (b : Book) (e : Event) (w : Parted p b) (names : NamesPassing p b e) (ranged : Ranged e)
    (roomy : (step_of b e).refusal ≡ 7 → ⊥) (few : NotMany (step_of b e)) where
  abbrev c : Book
  c = part p b

  abbrev R : Change → Change
  R = renamed_change (part_link p b) (part_place p) (part_index p)

  -- the change of either
  d : Change
  d = change_of b e

  d_is : d ≡ change_of b e
  unfolding d
  d_is = refl

  step_is : step_of b e ≡ d
  unfolding d
  step_is = (step_change b e roomy).0

  seen : change_of c e ≡ R d
  unfolding d
  seen = change_seen p b w e names (subst NotMany (step_change b e roomy).0 few)

  -- ---- room

  more_room : (k : Change) → Goes p b k.place → has_room b k ≡ true → has_room c (R k) ≡ true
  unfolding has_room renamed_change
  more_room k goes h =
      let (x, y) = and_parts (leb k.place (length b.orders) || ltb (length b.orders) 64) (eqb k.requests.added 0 || ltb (length b.requests) 256) h in
      and_from _ _ (place (or_cases (leb k.place (length b.orders)) _ x)) (request (or_cases (eqb k.requests.added 0) _ y))
    where
      inside : Goes p b k.place → k.place ≤ length b.orders → part_place p k.place ≤ length c.orders
      inside (nowhere z) l = let r = part_renames p b in let t : part_place p k.place ≡ 0 = ap (part_place p) z ∙ r.no_place in omega arith
      inside (there i m q z) l =
          let t : part_place p k.place ≡ count_below p i + 1 = ap (part_place p) z ∙ place_at p b w i in
          let s : count_below p i < count_below p (length b.orders) = rank_below p i (length b.orders) (omega arith) q in
          omega (arith, count_orders p b w)

      place : (leb k.place (length b.orders) ≡ true) ⊎ (ltb (length b.orders) 64 ≡ true) → leb (part_place p k.place) (length c.orders) || ltb (length c.orders) 64 ≡ true
      place (inl z) = or_left _ _ (le-leb (part_place p k.place) (length c.orders) (inside goes (leb-true k.place (length b.orders) z)))
      place (inr z) =
          let t : length b.orders < 64 = ltb-true (length b.orders) 64 z in
          or_right (leb (part_place p k.place) (length c.orders)) _ (lt-ltb (length c.orders) 64 (omega (arith, count_orders p b w, count_le p (length b.orders))))

      request : (eqb k.requests.added 0 ≡ true) ⊎ (ltb (length b.requests) 256 ≡ true) → eqb k.requests.added 0 || ltb (length c.requests) 256 ≡ true
      request (inl z) = or_left _ _ z
      request (inr z) =
          let t : length b.requests < 256 = ltb-true (length b.requests) 256 z in
          or_right (eqb k.requests.added 0) _ (lt-ltb (length c.requests) 256 (omega (arith, count_requests p b w, count_le (of_passing p b) (length b.requests))))

  done_d : Done p b e d
  unfolding d
  done_d = done p b w e names

  step_seen : step_of c e ≡ R d
  step_seen = change_step c e (go (cases_Bool (eqb d.refusal 0)) (unfold d in (step_change b e roomy).1)) ∙ seen
    where
      refusal_is : (change_of c e).refusal ≡ d.refusal
      refusal_is = ap (λ (x : Change). x.refusal) seen ∙ (unfold renamed_change in refl)

      go : (eqb d.refusal 0 ≡ true) ⊎ (eqb d.refusal 0 ≡ false) → (eqb d.refusal 0 ≡ false) ⊎ (has_room b d ≡ true)
          → (eqb (change_of c e).refusal 0 ≡ false) ⊎ (has_room c (change_of c e) ≡ true)
      go x (inl y) = inl (ap (λ (n : ℕ). eqb n 0) refusal_is ∙ y)
      go (inr x) (inr y) = inl (ap (λ (n : ℕ). eqb n 0) refusal_is ∙ x)
      go (inl x) (inr y) = inr (ap (has_room c) seen ∙ more_room d (done_fits p b w e names d (eqb-true d.refusal 0 x) done_d).place y)

  refusal_same : (step_of c e).refusal ≡ (step_of b e).refusal
  unfolding renamed_change
  refusal_same = ap (λ (x : Change). x.refusal) step_seen ∙ sym (ap (λ (x : Change). x.refusal) step_is)

  output_same : (step_of c e).output ≡ (step_of b e).output
  unfolding renamed_change
  output_same = ap (λ (x : Change). x.output) step_seen ∙ sym (ap (λ (x : Change). x.output) step_is)

  -- ---- the book that is left

  kept_after : rules (book_after b e) ≡ true
  kept_after = step_keeps b e ranged w.kept

  after_is : d.refusal ≡ 0 → book_after b e ≡ after b d
  unfolding book_after
  after_is z = if_true _ _ _ (eq-eqb (step_of b e).refusal 0 (ap (λ (x : Change). x.refusal) step_is ∙ z)) ∙ ap (after b) step_is

  after_part : d.refusal ≡ 0 → book_after c e ≡ after c (R d)
  unfolding book_after
  after_part z = if_true _ _ _ (eq-eqb (step_of c e).refusal 0 (refusal_same ∙ ap (λ (x : Change). x.refusal) step_is ∙ z)) ∙ ap (after c) step_seen

  module _ (z : d.refusal ≡ 0) where
    abbrev b' : Book
    b' = after b d

    kept' : rules b' ≡ true
    kept' = subst (λ (x : Book). rules x ≡ true) (after_is z) kept_after

    good' : BookKept b'
    good' = book_kept b' kept'

    -- a link of an order's own is one still
    carried : (i l : ℕ) → OwnLink b i l → OwnLink b' i l
    carried i l (inl y) = inl y
    carried i l (inr (a, m, o)) = inr (a, omega (arith, longer b d), (there_like b d (l - 1) (omega arith)).order ∙ o)

    -- and so is the next request's, if there is one
    next_own : (i l : ℕ) → (d.requests.added ≡ 0) ⊎ (d.requests.request.order ≡ i) → OwnOrNext b i l → l ≤ length b'.requests → OwnLink b' i l
    next_own i l adds (own y) m = carried i l y
    next_own i l adds (next y) m =
        let k : l - 1 ≡ length b.requests = omega arith in
        inr (omega arith, m, ap (λ (j : ℕ). (request_in b' j).order) k ∙ added_own b d i adds (length b.requests) (omega arith) (omega arith))

    own_after : Done p b e d → (i : ℕ) → i < length b'.orders → p i ≡ true → OwnLink b' i (order_in b' i).gateway.origdownstream
    own_after (away y) i l h = clash _ (eq-eqb d.refusal 0 z) y
    own_after (still s) i l h =
        let same : b'.orders ≡ b.orders = after_orders b d ∙ orders_same b.orders d s.place in
        subst (λ (t : List Order). OwnLink b' i (get_or t i no_order).gateway.origdownstream) (sym same)
        (carried i _ (w.own i (subst (λ (t : List Order). i < length t) same l) h))
    own_after (one j m q s) i l h =
        let at : Placed b.orders b'.orders j d.order = subst (λ (t : List Order). Placed b.orders t j d.order) (sym (after_orders b d)) (placed b.orders d j s.place (omega arith)) in
        go at (ℕ_discrete i j)
      where
        within : (order_in b' i).gateway.origdownstream ≤ length b'.requests
        within = (links_within b' good' i l).named

        go : Placed b.orders b'.orders j d.order → Dec (i ≡ j) → OwnLink b' i (order_in b' i).gateway.origdownstream
        go at (yes y) =
            let is : order_in b' i ≡ d.order = ap (order_in b') y ∙ at.here in
            let named : OwnOrNext b i d.order.gateway.origdownstream = subst (λ (k : ℕ). OwnOrNext b k d.order.gateway.origdownstream) (sym y) (s.links).named in
            let adds : (d.requests.added ≡ 0) ⊎ (d.requests.request.order ≡ i) = subst (λ (k : ℕ). (d.requests.added ≡ 0) ⊎ (d.requests.request.order ≡ k)) (sym y) s.adds in
            subst (λ (o : Order). OwnLink b' i o.gateway.origdownstream) (sym is)
            (next_own i _ adds named (subst (λ (o : Order). o.gateway.origdownstream ≤ length b'.requests) is within))
        go at (no y) =
            let (inside, was) = at.other i y l in
            subst (λ (o : Order). OwnLink b' i o.gateway.origdownstream) (sym was) (carried i _ (w.own i inside h))
    own_after (new y) i l h =
        let (taken, place, order) = booking_place b e in
        let j : ℕ = length b.orders in
        let there : d.place ≡ j + 1 = ap (λ (x : Change). x.place) y ∙ place in
        let at : Placed b.orders b'.orders j d.order = subst (λ (t : List Order). Placed b.orders t j d.order) (sym (after_orders b d)) (placed b.orders d j there (omega arith)) in
        go at (ap (λ (x : Change). x.order) y ∙ order) (ℕ_discrete i j)
      where
        go : Placed b.orders b'.orders (length b.orders) d.order → d.order ≡ booked_order (length b.requests + 1) e → Dec (i ≡ length b.orders)
            → OwnLink b' i (order_in b' i).gateway.origdownstream
        go at order (yes y) =
            let is : order_in b' i ≡ booked_order (length b.requests + 1) e = ap (order_in b') y ∙ at.here ∙ order in
            inl (ap (λ (o : Order). o.gateway.origdownstream) is ∙ (unfold booked_order in refl))
        go at order (no y) =
            let (inside, was) = at.other i y l in
            subst (λ (o : Order). OwnLink b' i o.gateway.origdownstream) (sym was) (carried i _ (w.own i inside h))

    orders_longer : length b.orders ≤ length b'.orders
    orders_longer = go (done_fits p b w e names d z done_d).place
      where
        go : Goes p b d.place → length b.orders ≤ length b'.orders
        go (nowhere y) = let s = ap length (after_orders b d ∙ orders_same b.orders d y) in omega arith
        go (there i l q y) = (subst (λ (t : List Order). Placed b.orders t i d.order) (sym (after_orders b d)) (placed b.orders d i y l)).longer

    parted_after : Parted p b'
    parted_after = record { kept = kept'; more = λ i l. w.more i (omega (arith, orders_longer)); own = own_after done_d }

    left_same : after c (R d) ≡ part p b'
    left_same = book_left p b w d (done_fits p b w e names d z done_d) (λ i l h. owns_by b' good' i l (own_after done_d i l h))

    -- ---- what does not pass

    fits : Fits p b d
    fits = done_fits p b w e names d z done_d

    -- no such request is answered
    not_passing : (l j : ℕ) → Passing p b l → of_passing p b j ≡ false → l ≡ j + 1 → ⊥
    not_passing l j (left.none y) h t = omega arith
    not_passing l j (left.some k m q y) h t = let s : k ≡ j = omega arith in clash (of_passing p b j) (ap (of_passing p b) (sym s) ∙ q) h

    request_fixed : (j : ℕ) → j < length b.requests → of_passing p b j ≡ false → request_in b' j ≡ request_in b j
    request_fixed j m h = there_other b d j m (not_passing _ j fits.answers h) (not_passing _ j fits.supersedes h)

    -- what is added passes
    old_request : (j : ℕ) → j < length b'.requests → of_passing p b' j ≡ false → j < length b.requests
    old_request j m h = go (dec_lt j (length b.requests)) (ℕ_discrete d.requests.added 0) fits.adds
      where
        go : Dec (j < length b.requests) → Dec (d.requests.added ≡ 0) → (d.requests.added ≡ 0) ⊎ (p d.requests.request.order ≡ true) → j < length b.requests
        go (yes l) u v = l
        go (no l) (yes u) v = absurd (omega (arith, none_kept b d u))
        go (no l) (no u) (inl v) = absurd (u v)
        go (no l) (no u) (inr v) = clash (of_passing p b' j) (ap p (added_own b d d.requests.request.order (inr refl) j (omega arith) m) ∙ v) h

    order_fixed : (i : ℕ) → p i ≡ false → order_in b' i ≡ order_in b i
    order_fixed i h = go (dec_lt i (length b.orders)) fits.place
      where
        go : Dec (i < length b.orders) → Goes p b d.place → order_in b' i ≡ order_in b i
        go (no l) y = clash (p i) (w.more i (omega arith)) h
        go (yes l) (nowhere y) = ap (λ (t : List Order). get_or t i no_order) (after_orders b d ∙ orders_same b.orders d y)
        go (yes l) (there j m q y) =
            ((subst (λ (t : List Order). Placed b.orders t j d.order) (sym (after_orders b d)) (placed b.orders d j y m)).other i (λ s. clash (p i) (ap p s ∙ q) h) (omega (arith, orders_longer))).1

    fixed_after : Fixed p b b'
    fixed_after = record {
      orders = order_fixed;
      requests = λ j m h.
          let l : j < length b.requests = old_request j m h in
          (l, request_fixed j l (sym (ap p (there_like b d j l).order) ∙ h));
      there = λ j m h. (omega (arith, longer b d), request_fixed j m h);
    }

  away_is : eqb d.refusal 0 ≡ false → book_after b e ≡ b
  unfolding book_after
  away_is x = if_false _ _ _ (ap (λ (k : Change). eqb k.refusal 0) step_is ∙ x)

  away_part : eqb d.refusal 0 ≡ false → book_after c e ≡ c
  unfolding book_after
  away_part x = if_false _ _ _ (ap (λ (n : ℕ). eqb n 0) refusal_same ∙ ap (λ (k : Change). eqb k.refusal 0) step_is ∙ x)

  unnoticed_one : Unnoticed p b e
  unnoticed_one = go (cases_Bool (eqb d.refusal 0))
    where
      go : (eqb d.refusal 0 ≡ true) ⊎ (eqb d.refusal 0 ≡ false) → Unnoticed p b e
      go (inl x) =
          let z : d.refusal ≡ 0 = eqb-true d.refusal 0 x in
          record {
            refusal = refusal_same;
            output = output_same;
            left = after_part z ∙ left_same z ∙ ap (part p) (sym (after_is z));
            parted = subst (Parted p) (sym (after_is z)) (parted_after z);
            fixed = subst (Fixed p b) (sym (after_is z)) (fixed_after z);
          }
      go (inr x) = record {
        refusal = refusal_same;
        output = output_same;
        left = away_part x ∙ ap (part p) (sym (away_is x));
        parted = subst (Parted p) (sym (away_is x)) w;
        fixed = subst (Fixed p b) (sym (away_is x)) (record { orders = λ i h. refl; requests = λ j m h. (m, refl); there = λ j m h. (m, refl) });
      }

pub unnoticed_event : UnnoticedEvent
unnoticed_event p b e w names ranged roomy few = unnoticed_one p b e w names ranged roomy few
