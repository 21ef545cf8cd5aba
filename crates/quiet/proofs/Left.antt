-- What a change leaves of the part is the part of what it leaves of the book. Rests on Lookups.
use Rattle.std.proofs.Common.{ℕ, ◌+◌, ◌≤◌, ◌<◌, arith, ◌≡◌, refl, sym, ap, subst, ◌∙◌, ◌⊎◌, inl, inr, Bool, true, List, [], ◌∷◌, ◌++◌, length, get_or, length-append, length-set, add-one}
use Rattle.std.proofs.Math.Decide.{ℕ_discrete, dec_lt}
use Rattle.std.proofs.Math.ListN.{get_or-append}
use Rattle.std.proofs.lemmas.List.{ext_get_or}
use Rattle.prelude.specs.Below.{count_below}
use Rattle.prelude.specs.Laws.Below.{count_ext}
use Rattle.store.specs.declared.Order.{Order}
use Rattle.store.specs.declared.Request.{Request}
use Rattle.store.specs.Book.{Book, order_in, request_in, answered, empty_book}
use Rattle.store.specs.Orders.{no_order}
use Rattle.store.specs.Requests.{no_request}
use Rattle.machine.specs.Machine.{answer_link, after}
use Rattle.machine.specs.declared.Change.{Change}
use Rattle.machine.proofs.Kept.Tables.{at, length_answer, answer_case}
use Rattle.machine.proofs.Kept.Lift.{Placed, placed}
use Rattle.machine.proofs.Claim.Records.{added_at, added_long, none_kept, there_like}
use Rattle.machine.proofs.Claim.Filled.{after_orders, orders_set, orders_same, orders_more}
use Rattle.machine.proofs.Exchange.Commute.{settle, more, requests_after_lem}
use Rattle.parts.specs.Parts.{of_passing, moved_order, moved_request, joined, part}
use Rattle.parts.specs.Laws.Ranks.{rank_injective, rank_below, rank_most, rank_hit}
use Rattle.parts.specs.Laws.Joined.{joined_orders, joined_requests, FromOrder, FromRequest, order_from, request_from}
use Rattle.quiet.specs.Renamed.{renamed_order, renamed_request, renamed_change}
use Rattle.quiet.specs.Part.{Owns, Parted, part_link, part_place, part_index}
use Rattle.quiet.proofs.Links.{part_renames, part_link_at, order_agrees}
use Rattle.quiet.proofs.Lookups.{count_orders, count_requests, order_at, request_at, place_at}

-- ---- what is asked of a change: the order that it changes or enters passes, and so do the requests that it settles and adds

pub data Goes (p : ℕ → Bool) (b : Book) (l : ℕ) : Type 0 where
  nowhere : l ≡ 0 → Goes p b l
  there : (i : ℕ) → i ≤ length b.orders → p i ≡ true → l ≡ i + 1 → Goes p b l

pub data Passing (p : ℕ → Bool) (b : Book) (l : ℕ) : Type 0 where
  none : l ≡ 0 → Passing p b l
  some : (k : ℕ) → k < length b.requests → of_passing p b k ≡ true → l ≡ k + 1 → Passing p b l

pub record Fits (p : ℕ → Bool) (b : Book) (d : Change) : Type 0 where
  pub place : Goes p b d.place
  pub answers : Passing p b d.requests.answered
  pub supersedes : Passing p b d.requests.superseded
  pub adds : (d.requests.added ≡ 0) ⊎ (p d.requests.request.order ≡ true)

-- the request that is answered, and another
link_at : (k v : ℕ) (qs : List Request) (j : ℕ) → j < length qs → k ≡ j + 1 → at (answer_link k v qs) j ≡ answered v (at qs j)
link_at k v qs j l e = answer_case (λ (t : Request). t ≡ answered v (at qs j)) k v qs j l (λ n. absurd (n e)) (λ z. refl)

link_other : (k v : ℕ) (qs : List Request) (j : ℕ) → j < length qs → (k ≡ j + 1 → ⊥) → at (answer_link k v qs) j ≡ at qs j
link_other k v qs j l n = answer_case (λ (t : Request). t ≡ at qs j) k v qs j l (λ z. refl) (λ e. absurd (n e))

module _ (p : ℕ → Bool) (b : Book) (w : Parted p b) where
  abbrev c : Book
  c = part p b

  abbrev g : ℕ → ℕ
  g = part_link p b

  abbrev x : ℕ → ℕ
  x = part_index p

  abbrev q : ℕ → Bool
  q = of_passing p b

  abbrev m : ℕ
  m = length b.requests

  -- ---- requests

  -- ys has, of the requests xs, those that pass
  record Under (xs ys : List Request) : Type 0 where
    count : length xs ≡ m
    few : length ys ≡ count_below q m
    same : (j : ℕ) → j < m → q j ≡ true → at ys (count_below q j) ≡ renamed_request x (at xs j)

  under_start : Under b.requests c.requests
  under_start = record { count = refl; few = count_requests p b w; same = request_at p b w }

  under_answer : (l v : ℕ) → Passing p b l → (xs ys : List Request) → Under xs ys → Under (answer_link l v xs) (answer_link (g l) v ys)
  under_answer l v (none z) xs ys u = record {
    count = length_answer l v xs ∙ u.count;
    few = length_answer (g l) v ys ∙ u.few;
    same = λ j h e.
        still (g l) ys _ (let few = u.few in let r : count_below q j < count_below q m = rank_below q j m h e in omega arith) (let r = part_renames p b in ap g z ∙ r.none)
        ∙ u.same j h e ∙ ap (renamed_request x) (sym (still l xs j (let all = u.count in omega arith) z));
  }
    where
      still : (k : ℕ) (zs : List Request) (j : ℕ) → j < length zs → k ≡ 0 → at (answer_link k v zs) j ≡ at zs j
      still k zs j h z = link_other k v zs j h (λ y. omega arith)
  under_answer l v (some k h e z) xs ys u = record {
    count = length_answer l v xs ∙ u.count;
    few = length_answer (g l) v ys ∙ u.few;
    same = λ j n a. go j n a (ℕ_discrete j k);
  }
    where
      gl : g l ≡ count_below q k + 1
      gl = ap g z ∙ part_link_at p b k h e

      go : (j : ℕ) → j < m → q j ≡ true → Dec (j ≡ k) → at (answer_link (g l) v ys) (count_below q j) ≡ renamed_request x (at (answer_link l v xs) j)
      go j n a (yes y) =
          let f = u.few in
          let d = u.count in
          let r : count_below q j < count_below q m = rank_below q j m n a in
          link_at (g l) v ys (count_below q j) (omega arith) (gl ∙ ap (λ (i : ℕ). count_below q i + 1) (sym y))
          ∙ ap (answered v) (u.same j n a)
          ∙ ap (renamed_request x) (sym (link_at l v xs j (omega arith) (omega arith)))
      go j n a (no y) =
          let f = u.few in
          let d = u.count in
          let r : count_below q j < count_below q m = rank_below q j m n a in
          link_other (g l) v ys (count_below q j) (omega arith) (λ t. y (rank_injective q j k a e (omega (arith, gl))))
          ∙ u.same j n a ∙ ap (renamed_request x) (sym (link_other l v xs j (omega arith) (λ t. y (omega arith))))

  module _ (d : Change) (f : Fits p b d) where
    abbrev d' : Change
    d' = renamed_change g (part_place p) x d

    abbrev b' : Book
    b' = after b d

    settled : Under (settle d.requests b.requests) (settle d'.requests c.requests)
    unfolding renamed_change
    settled = under_answer d.requests.superseded d.requests.outcome f.supersedes _ _ (under_answer d.requests.answered d.requests.outcome f.answers _ _ under_start)

    added_same : d'.requests.added ≡ d.requests.added
    unfolding renamed_change
    added_same = refl

    request_same : d'.requests.request ≡ renamed_request x d.requests.request
    unfolding renamed_change
    request_same = refl

    -- a request that was there passes as it did
    passes_same : (j : ℕ) → j < m → of_passing p b' j ≡ q j
    passes_same j l = ap p (there_like b d j l).order

    count_same : (j : ℕ) → j ≤ m → count_below (of_passing p b') j ≡ count_below q j
    count_same j l = count_ext (of_passing p b') q j (λ k h. passes_same k (omega arith))

    is_left : (after c d').requests ≡ settle d'.requests c.requests ++ more d'.requests
    is_left = requests_after_lem c d'

    left_at : (j : ℕ) → j < length b'.requests → of_passing p b' j ≡ true → request_in (after c d') (count_below (of_passing p b') j) ≡ moved_request p 0 (request_in b' j)
    unfolding moved_request
    left_at j l e = go (dec_lt j m)
      where
        old : j < m → request_in (after c d') (count_below (of_passing p b') j) ≡ renamed_request x (request_in b' j)
        old h =
            let u = settled in
            let few = u.few in
            let all = u.count in
            let pass : q j ≡ true = sym (passes_same j h) ∙ e in
            let s : count_below (of_passing p b') j ≡ count_below q j = count_same j (omega arith) in
            let r : count_below q j < count_below q m = rank_below q j m h pass in
            ap (λ (t : List Request). at t (count_below (of_passing p b') j)) is_left
            ∙ ap (at (settle d'.requests c.requests ++ more d'.requests)) s
            ∙ get_or-append (settle d'.requests c.requests) (more d'.requests) no_request (count_below q j) (omega arith)
            ∙ u.same j h pass
            ∙ ap (renamed_request x) (sym (ap (λ (t : List Request). at t j) (requests_after_lem b d)
            ∙ get_or-append (settle d.requests b.requests) (more d.requests) no_request j (omega arith)))

        new : (j < m → ⊥) → request_in (after c d') (count_below (of_passing p b') j) ≡ renamed_request x (request_in b' j)
        new n = by (ℕ_discrete d.requests.added 0)
          where
            by : Dec (d.requests.added ≡ 0) → request_in (after c d') (count_below (of_passing p b') j) ≡ renamed_request x (request_in b' j)
            by (yes z) = absurd (omega (arith, none_kept b d z))
            by (no z) =
                let last : j ≡ m = omega (arith, added_long b d z) in
                let s : count_below (of_passing p b') j ≡ length c.requests = ap (count_below (of_passing p b')) last ∙ count_same m (omega arith) ∙ sym (count_requests p b w) in
                ap (request_in (after c d')) s ∙ added_at c d' (λ y. z (sym added_same ∙ y)) ∙ request_same
                ∙ ap (renamed_request x) (sym (ap (request_in b') last ∙ added_at b d z))

        go : Dec (j < m) → request_in (after c d') (count_below (of_passing p b') j) ≡ renamed_request x (request_in b' j)
        go (yes h) = old h
        go (no n) = new n

    count_left : length (part p b').requests ≡ length (after c d').requests
    count_left =
        joined_requests p (empty_book b'.setting) b'
        ∙ (let y : 0 + count_below (of_passing p b') (length b'.requests) ≡ count_below (of_passing p b') (length b'.requests) = omega arith in y)
        ∙ go (ℕ_discrete d.requests.added 0)
      where
        go : Dec (d.requests.added ≡ 0) → count_below (of_passing p b') (length b'.requests) ≡ length (after c d').requests
        go (yes z) =
            ap (count_below (of_passing p b')) (none_kept b d z) ∙ count_same m (omega arith) ∙ sym (count_requests p b w) ∙ sym (none_kept c d' (added_same ∙ z))
        go (no z) =
            ap (count_below (of_passing p b')) (added_long b d z ∙ add-one m)
            ∙ rank_hit (of_passing p b') m (ap p (ap (λ (t : Request). t.order) (added_at b d z)) ∙ passes f.adds)
            ∙ ap (λ (k : ℕ). k + 1) (count_same m (omega arith) ∙ sym (count_requests p b w)) ∙ sym (added_long c d' (λ y. z (sym added_same ∙ y)))
          where
            passes : (d.requests.added ≡ 0) ⊎ (p d.requests.request.order ≡ true) → p d.requests.request.order ≡ true
            passes (inl y) = absurd (z y)
            passes (inr y) = y

    requests_left : (part p b').requests ≡ (after c d').requests
    requests_left = ext_get_or no_request (part p b').requests (after c d').requests count_left (λ k l. go k (request_from p (empty_book b'.setting) b' k l))
      where
        go : (k : ℕ) → (k < length (empty_book b'.setting).requests) ⊎ FromRequest p (empty_book b'.setting) b' k → request_in (part p b') k ≡ request_in (after c d') k
        go k (inl h) = absurd (omega arith)
        go k (inr s) =
            let place : k ≡ 0 + count_below (of_passing p b') s.at = s.place in
            s.is ∙ sym (left_at s.at s.below s.passes) ∙ ap (request_in (after c d')) (let y : count_below (of_passing p b') s.at ≡ k = omega arith in y)

    -- ---- orders

    module _ (owns : (i : ℕ) → i < length b'.orders → p i ≡ true → Owns b' i (order_in b' i)) where
      orders_like : (k : ℕ) → k < m → (request_in b' k).order ≡ (request_in b k).order
      orders_like k l = (there_like b d k l).order

      few_more : length b'.requests ≤ m + 1
      few_more = go (ℕ_discrete d.requests.added 0)
        where
          go : Dec (d.requests.added ≡ 0) → length b'.requests ≤ m + 1
          go (yes z) = omega (arith, none_kept b d z)
          go (no z) = omega (arith, added_long b d z)

      moved_is : (i : ℕ) → i < length b'.orders → p i ≡ true → moved_order p 0 b' i ≡ renamed_order g (order_in b' i)
      moved_is i l e = order_agrees p b b' orders_like few_more i e (owns i l e)

      place_is : d'.place ≡ part_place p d.place
      place_is = unfold renamed_change in refl

      order_is : d'.order ≡ renamed_order g d.order
      order_is = unfold renamed_change in refl

      n : ℕ
      n = length b.orders

      -- the orders of the part, and how many
      record OrdersLeft : Type 0 where
        count : length (after c d').orders ≡ count_below p (length b'.orders)
        same : (i : ℕ) → i < length b'.orders → p i ≡ true → order_in (after c d') (count_below p i) ≡ renamed_order g (order_in b' i)

      orders_goes : Goes p b d.place → OrdersLeft
      orders_goes (nowhere z) =
          let z' : d'.place ≡ 0 = (let r = part_renames p b in place_is ∙ ap (part_place p) z ∙ r.no_place) in
          let s : b'.orders ≡ b.orders = after_orders b d ∙ orders_same b.orders d z in
          let s' : (after c d').orders ≡ c.orders = after_orders c d' ∙ orders_same c.orders d' z' in
          record {
            count = ap length s' ∙ count_orders p b w ∙ ap (λ (t : List Order). count_below p (length t)) (sym s);
            same = λ i l e.
                ap (λ (t : List Order). get_or t (count_below p i) no_order) s' ∙ order_at p b w i (subst (λ (t : List Order). i < length t) s l) e
                ∙ ap (λ (t : List Order). renamed_order g (get_or t i no_order)) (sym s);
          }
      orders_goes (there i l e z) =
          let z' : d'.place ≡ count_below p i + 1 = place_is ∙ ap (part_place p) z ∙ place_at p b w i in
          let k : ℕ = count_below p i in
          let most : k ≤ length c.orders = (let r : count_below p i ≤ count_below p (length b.orders) = rank_most p i (length b.orders) l in omega (arith, count_orders p b w)) in
          let s : Placed b.orders b'.orders i d.order = subst (λ (t : List Order). Placed b.orders t i d.order) (sym (after_orders b d)) (placed b.orders d i z l) in
          let s' : Placed c.orders (after c d').orders k d'.order = subst (λ (t : List Order). Placed c.orders t k d'.order) (sym (after_orders c d')) (placed c.orders d' k z' most) in
          record { count = long i l e z z' (dec_lt i (length b.orders)); same = λ j h o. by i e s s' j h o (ℕ_discrete j i) }
        where
          by : (i : ℕ) → p i ≡ true → Placed b.orders b'.orders i d.order → Placed c.orders (after c d').orders (count_below p i) d'.order
              → (j : ℕ) → j < length b'.orders → p j ≡ true → Dec (j ≡ i) → order_in (after c d') (count_below p j) ≡ renamed_order g (order_in b' j)
          by i e s s' j h o (yes y) =
              ap (λ (t : ℕ). order_in (after c d') (count_below p t)) y ∙ s'.here ∙ order_is ∙ ap (renamed_order g) (sym (ap (order_in b') y ∙ s.here))
          by i e s s' j h o (no y) =
              let (inside, was) = s.other j y h in
              let rank : count_below p j < count_below p (length b.orders) = rank_below p j (length b.orders) inside o in
              let there' : count_below p j < length (after c d').orders = omega (arith, count_orders p b w, s'.longer) in
              let (inside', was') = s'.other (count_below p j) (λ t. y (rank_injective p j i o e t)) there' in
              was' ∙ order_at p b w j inside o ∙ ap (renamed_order g) (sym was)

          long : (i : ℕ) → i ≤ length b.orders → p i ≡ true → d.place ≡ i + 1 → d'.place ≡ count_below p i + 1 → Dec (i < length b.orders)
              → length (after c d').orders ≡ count_below p (length b'.orders)
          long i l e z z' (yes h) =
              let rank : count_below p i < count_below p (length b.orders) = rank_below p i (length b.orders) h e in
              ap length (after_orders c d' ∙ orders_set c.orders d' (count_below p i) (omega (arith, count_orders p b w)) z') ∙ length-set c.orders (count_below p i) d'.order
              ∙ count_orders p b w
              ∙ ap (count_below p) (sym (ap length (after_orders b d ∙ orders_set b.orders d i h z) ∙ length-set b.orders i d.order))
          long i l e z z' (no h) =
              let last : i ≡ length b.orders = omega arith in
              let end : d'.place ≡ length c.orders + 1 = z' ∙ ap (λ (t : ℕ). count_below p t + 1) last ∙ ap (λ (t : ℕ). t + 1) (sym (count_orders p b w)) in
              ap length (after_orders c d' ∙ orders_more c.orders d' end) ∙ length-append c.orders (d'.order ∷ []) ∙ ap (λ (t : ℕ). t + 1) (count_orders p b w)
              ∙ sym (rank_hit p (length b.orders) (ap p (sym last) ∙ e))
              ∙ ap (count_below p) (sym (ap length (after_orders b d ∙ orders_more b.orders d (z ∙ ap (λ (t : ℕ). t + 1) last)) ∙ length-append b.orders (d.order ∷ []) ∙ add-one (length b.orders)))

      orders_left : (part p b').orders ≡ (after c d').orders
      orders_left =
          let s = orders_goes f.place in
          ext_get_or no_order (part p b').orders (after c d').orders
          (joined_orders p (empty_book b'.setting) b' ∙ (let y : 0 + count_below p (length b'.orders) ≡ count_below p (length b'.orders) = omega arith in y) ∙ sym s.count)
          (λ k l. go s k (order_from p (empty_book b'.setting) b' k l))
        where
          go : OrdersLeft → (k : ℕ) → (k < length (empty_book b'.setting).orders) ⊎ FromOrder p (empty_book b'.setting) b' k → order_in (part p b') k ≡ order_in (after c d') k
          go s k (inl h) = absurd (omega arith)
          go s k (inr t) =
              let place : k ≡ 0 + count_below p t.at = t.place in
              t.is ∙ moved_is t.at t.below t.passes ∙ sym (s.same t.at t.below t.passes) ∙ ap (order_in (after c d')) (let y : count_below p t.at ≡ k = omega arith in y)

      setting_left : (part p b').setting ≡ (after c d').setting
      unfolding joined after
      setting_left = refl

      pub book_left : after c d' ≡ part p b'
      book_left = sym (λ k. record { setting = setting_left k; orders = orders_left k; requests = requests_left k })
