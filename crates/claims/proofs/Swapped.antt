-- Two changes of orders of different clients, written into the bytes of a book one after the other and the other way round: if at most one of them adds a
-- request, the bytes are the same; if both do, the two records are exchanged and the two orders' links. Rests on Paired and Placed.
use Rattle.std.proofs.Common.{ℕ, ◌+◌, ◌≤◌, ◌<◌, arith, ◌≡◌, refl, sym, ap, ap₂, ◌∙◌, ◌⊎◌, inl, inr, ⊎_elim, List, [], ◌∷◌, ◌++◌, length}
use Rattle.prelude.specs.Span.{span}
use Rattle.prelude.specs.Totals.{Every, every[], every∷}
use Rattle.prelude.specs.Laws.Totals.{every_map, every_append}
use Rattle.store.specs.declared.Order.{Order}
use Rattle.store.specs.declared.Request.{Request}
use Rattle.store.specs.Layout.{book_size, most_requests, request_size, request_base}
use Rattle.store.specs.Orders.{WholeOrder}
use Rattle.store.specs.Requests.{WholeRequest}
use Rattle.store.specs.Laws.Orders.{length_order}
use Rattle.store.specs.Book.{Book, book_of, order_in}
use Rattle.machine.specs.declared.Requests.{Requests}
use Rattle.machine.specs.declared.Change.{Change}
use Rattle.machine.specs.Orders.{one_more}
use Rattle.machine.specs.Machine.{after}
use Rattle.machine.proofs.Claim.Records.{none_kept, added_long}
use Rattle.machine.proofs.Exchange.Links.{same_requests, linked_equal}
use Rattle.machine.proofs.Exchange.Both.{next}
use Rattle.step.specs.Entries.{book_with}
use Rattle.claims.proofs.Splices.{Write, put, put_all, Inside, Beside, put_append, length_all, all_comm, put_over, span_put}
use Rattle.claims.proofs.Placed.{order_write, origin_by, linked_bytes, length_linked, request_write, count_write, add_writes, none_added, one_added, Zone, No, InOrder, InRest, InRequest, InAdded, in_count, zone_inside, zones_beside, request_zone, behind_zone, count_zone}
use Rattle.claims.proofs.Paired.{Pair, turn, its, word_at, rest, here, there, rest_in, now_in, order_in_lem}

-- ---- lists beside each other

inside_all : {O R : ℕ → Type 0} {C : Type 0} {P : ℕ → Type 0} {ws : List Write} → Every (Zone O R C P) ws → Every (Inside book_size) ws
inside_all z = every_map (λ w y. zone_inside w y) z

module _ (b : List ℕ) (i j : ℕ) (c c' d d' : Change) (h : Pair b i j c c' d d') where
  abbrev k : Pair b j i d d' c c'
  k = turn b i j c c' d d' h

  abbrev rest_c : List Write
  rest_c = rest b i j c c' d d' h

  abbrev rest_d : List Write
  rest_d = rest b j i d d' c c' k

  abbrev t : ℕ
  t = length (book_of b).requests

  abbrev origin_c : ℕ
  origin_c = origin_by b c

  abbrev origin_d : ℕ
  origin_d = origin_by b d

  pos : word_at b i j c c' d d' h ≡ word_at b j i d d' c c' k → ⊥
  pos z =
      h.clients (sym (its b i j c c' d d' h).its ∙ ap (λ (m : ℕ). (order_in (book_of b) m).client) z ∙ (its b j i d d' c c' k).its)

  -- what is added stands beside d's own writes
  added_own : (s : List ℕ) (o : Order) → WholeOrder o → length s ≡ book_size
      → put_all (put_all s (add_writes t origin_c c.requests)) (order_write j o ∷ rest_d) ≡ put_all (put_all s (order_write j o ∷ rest_d)) (add_writes t origin_c c.requests)
  added_own s o f l =
      let order : InOrder j (order_write j o) = order_in_lem b j i d d' c c' k o f in
      let rests : Every (InRest (book_of b) j (word_at b j i d d' c c' k)) rest_d = rest_in b j i d d' c c' k in
      let adds : Every (InAdded t) (add_writes t origin_c c.requests) = now_in b i j c c' d d' h in
      all_comm book_size s (add_writes t origin_c c.requests) (order_write j o ∷ rest_d) l (inside_all adds) (every∷ (zone_inside _ order) (inside_all rests))
      (every_map (λ q y. every∷ (zones_beside q (λ m a e. a) (λ m a e. e) (λ a e. e) (λ m a e. a) _ y order)
      (every_map (λ u z. zones_beside q (λ m a e. a) (λ m a e. omega (arith, a, e.1)) (λ a e. e) (λ m a e. a) u y z) rests)) adds)

  -- the two orders' own writes
  own_own : (s : List ℕ) (o u : Order) → WholeOrder o → WholeOrder u → length s ≡ book_size
      → put_all (put_all s (order_write j u ∷ rest_d)) (order_write i o ∷ rest_c) ≡ put_all (put_all s (order_write i o ∷ rest_c)) (order_write j u ∷ rest_d)
  own_own s o u f g l =
      let one : InOrder i (order_write i o) = order_in_lem b i j c c' d d' h o f in
      let two : InOrder j (order_write j u) = order_in_lem b j i d d' c c' k u g in
      let ones : Every (InRest (book_of b) i (word_at b i j c c' d d' h)) rest_c = rest_in b i j c c' d d' h in
      let twos : Every (InRest (book_of b) j (word_at b j i d d' c c' k)) rest_d = rest_in b j i d d' c c' k in
      all_comm book_size s (order_write j u ∷ rest_d) (order_write i o ∷ rest_c) l (every∷ (zone_inside _ two) (inside_all twos)) (every∷ (zone_inside _ one) (inside_all ones))
      (every∷
      (every∷ (zones_beside _ (λ m a e. h.crossed.apart (sym e ∙ a)) (λ m a e. a) (λ a e. a) (λ m a e. a) _ two one)
      (every_map (λ y z. zones_beside _ (λ m a e. e) (λ m a e. a) (λ a e. a) (λ m a e. a) y two z) ones))
      (every_map (λ y z. every∷ (zones_beside y (λ m a e. a) (λ m a e. e) (λ a e. a) (λ m a e. e) _ z one)
      (every_map (λ y' z'. zones_beside y (λ m a e. a) (λ m a e. h.crossed.apart (sym e.0 ∙ a.0)) (λ a e. a) (λ m a e. pos (sym e ∙ a)) y' z z') ones)) twos))

  -- one after the other: both orders' own writes, and then what they add, each in its turn
  own_long : (o : Order) → WholeOrder o → length (put_all b (order_write i o ∷ rest_c)) ≡ book_size
  own_long o f = length_all b _ book_size h.long (every∷ (zone_inside _ (order_in_lem b i j c c' d d' h o f)) (inside_all (rest_in b i j c c' d d' h)))

  one_form : book_with (book_with b c) d'
      ≡ put_all (put_all (put_all (put_all b (order_write i c.order ∷ rest_c)) (order_write j d'.order ∷ rest_d)) (add_writes t origin_c c.requests))
      (add_writes (length (after (book_of b) c).requests) origin_d d.requests)
  one_form =
      there b j i d d' c c' k
      ∙ ap (λ (s : List ℕ). put_all (put_all s (order_write j d'.order ∷ rest_d)) (add_writes (length (after (book_of b) c).requests) origin_d d.requests)) (here b i j c c' d d' h)
      ∙ ap (λ (s : List ℕ). put_all s (add_writes (length (after (book_of b) c).requests) origin_d d.requests))
      (added_own (put_all b (order_write i c.order ∷ rest_c)) d'.order h.behind.order (own_long c.order h.first.order))

-- ---- the two ways round

module _ (b : List ℕ) (i j : ℕ) (c c' d d' : Change) (h : Pair b i j c c' d d') where
  abbrev from_c : ℕ
  from_c = origin_by b c

  abbrev from_d : ℕ
  from_d = origin_by b d

  abbrev k' : Pair b j i d d' c c'
  k' = turn b i j c c' d d' h

  -- both orders' own writes, c's with this order and d's with that
  abbrev owns : Order → Order → List ℕ
  owns o u = put_all (put_all b (order_write i o ∷ rest_c b i j c c' d d' h)) (order_write j u ∷ rest_d b i j c c' d d' h)

  two_form : book_with (book_with b d) c'
      ≡ put_all (put_all (owns c'.order d.order) (add_writes (length (book_of b).requests) from_d d.requests)) (add_writes (length (after (book_of b) d).requests) from_c c.requests)
  two_form =
      one_form b j i d d' c c' k'
      ∙ ap (λ (s : List ℕ). put_all (put_all s (add_writes (length (book_of b).requests) from_d d.requests)) (add_writes (length (after (book_of b) d).requests) from_c c.requests))
      (own_own b i j c c' d d' h b c'.order d.order h.later.order h.second.order h.long)

  -- THE BYTES are the same if one of them adds nothing
  module _ (z : (c.requests.added ≡ 0) ⊎ (d.requests.added ≡ 0)) where
    no_link : (e f : Change) → (e.requests.added ≡ 0) ⊎ (f.requests.added ≡ 0) → (next (book_of b) ≡ next (after (book_of b) e)) ⊎ (f.requests.added ≡ 0)
    no_link e f (inl y) = inl (ap (one_more 65535) (sym (none_kept (book_of b) e y)))
    no_link e f (inr y) = inr y

    first_same : c' ≡ c
    first_same = linked_equal _ _ _ c c' (no_link d c (⊎_elim inr inl z)) h.crossed.first_linked

    second_same : d' ≡ d
    second_same = linked_equal _ _ _ d d' (no_link c d z) h.crossed.second_linked

    adds_same : (s : List ℕ) → (c.requests.added ≡ 0) ⊎ (d.requests.added ≡ 0)
        → put_all (put_all s (add_writes (length (book_of b).requests) from_c c.requests)) (add_writes (length (after (book_of b) c).requests) from_d d.requests)
        ≡ put_all (put_all s (add_writes (length (book_of b).requests) from_d d.requests)) (add_writes (length (after (book_of b) d).requests) from_c c.requests)
    adds_same s (inl y) =
        ap (λ (u : List Write). put_all (put_all s u) (add_writes (length (after (book_of b) c).requests) from_d d.requests)) (none_added _ _ c.requests y)
        ∙ ap (λ (n : ℕ). put_all s (add_writes n from_d d.requests)) (none_kept (book_of b) c y)
        ∙ sym (ap (put_all (put_all s (add_writes (length (book_of b).requests) from_d d.requests))) (none_added _ _ c.requests y))
    adds_same s (inr y) =
        ap (put_all (put_all s (add_writes (length (book_of b).requests) from_c c.requests))) (none_added _ _ d.requests y)
        ∙ sym (ap (λ (u : List Write). put_all (put_all s u) (add_writes (length (after (book_of b) d).requests) from_c c.requests)) (none_added _ _ d.requests y)
        ∙ ap (λ (n : ℕ). put_all s (add_writes n from_c c.requests)) (none_kept (book_of b) d y))

    pub bytes_same : book_with (book_with b c) d' ≡ book_with (book_with b d) c'
    bytes_same =
        one_form b i j c c' d d' h
        ∙ adds_same (owns c.order d'.order) z
        ∙ ap (λ (s : List ℕ). put_all (put_all s (add_writes (length (book_of b).requests) from_d d.requests)) (add_writes (length (after (book_of b) d).requests) from_c c.requests))
        (ap₂ (λ (e f : Change). owns e.order f.order) (sym first_same) second_same)
        ∙ sym two_form

  -- if both add one, the two requests are exchanged, and the links of the two orders
  module _ (nc : c.requests.added ≡ 0 → ⊥) (nd : d.requests.added ≡ 0 → ⊥) where
    abbrev n : ℕ
    n = length (book_of b).requests

    abbrev qc : Request
    qc = c.requests.request

    abbrev qd : Request
    qd = d.requests.request

    -- what is added: a request with its origin, and another behind it
    abbrev tail : ℕ → Request → ℕ → Request → List Write
    tail y q z u = request_write n y q ∷ count_write (n + 1) ∷ request_write (n + 1) z u ∷ count_write (n + 1 + 1) ∷ []

    one_tail : book_with (book_with b c) d' ≡ put_all (owns c.order d'.order) (tail from_c qc from_d qd)
    one_tail =
        one_form b i j c c' d d' h
        ∙ ap₂ (λ (y z : List Write). put_all (put_all (owns c.order d'.order) y) z) (one_added n from_c c.requests nc)
        (ap (λ (m : ℕ). add_writes m from_d d.requests) (added_long (book_of b) c nc) ∙ one_added (n + 1) from_d d.requests nd)

    two_tail : book_with (book_with b d) c' ≡ put_all (owns c'.order d.order) (tail from_d qd from_c qc)
    two_tail =
        two_form
        ∙ ap₂ (λ (y z : List Write). put_all (put_all (owns c'.order d.order) y) z) (one_added n from_d d.requests nd)
        (ap (λ (m : ℕ). add_writes m from_c c.requests) (added_long (book_of b) d nd) ∙ one_added (n + 1) from_c c.requests nc)

    pub room_two : n + 1 < most_requests
    room_two = go h.behind.room
      where
        go : (d'.requests.added ≡ 0) ⊎ (length (book_of (book_with b c)).requests < most_requests) → n + 1 < most_requests
        go (inl y) = absurd (nd (sym (ap (λ (r : Requests). r.added) (same_requests h.crossed.second_linked)) ∙ y))
        go (inr y) = omega (arith, ap (λ (x : Book). length x.requests) h.first.writes.is, added_long (book_of b) c nc)

    whole_c : WholeRequest qc
    whole_c = h.first.request nc

    whole_d : WholeRequest qd
    whole_d = h.second.request nd

    request_in_lem : (m y : ℕ) (q : Request) → m ≤ n + 1 → WholeRequest q → InRequest m (request_write m y q)
    request_in_lem m y q l whole = request_zone m y q (omega (arith, room_two)) whole

    tail_in : (y : ℕ) (q : Request) (z : ℕ) (u : Request) → WholeRequest q → WholeRequest u → Every (InAdded n) (tail y q z u)
    tail_in y q z u f g =
        every∷ (behind_zone n n _ (omega arith) (request_in_lem n y q (omega arith) f)) (every∷ (count_zone n (n + 1))
        (every∷ (behind_zone n (n + 1) _ (omega arith) (request_in_lem (n + 1) z u (omega arith) g)) (every∷ (count_zone n (n + 1 + 1)) every[])))

    order_i : (o : Order) → WholeOrder o → InOrder i (order_write i o)
    order_i o f = order_in_lem b i j c c' d d' h o f

    order_j : (o : Order) → WholeOrder o → InOrder j (order_write j o)
    order_j o f = order_in_lem b j i d d' c c' k' o f

    owns_long : (o u : Order) → WholeOrder o → WholeOrder u → length (owns o u) ≡ book_size
    owns_long o u f g =
        length_all _ _ book_size (own_long b i j c c' d d' h o f) (every∷ (zone_inside _ (order_j u g)) (inside_all (rest_in b j i d d' c c' k')))

    same_size : (y : ℕ) (q : Request) (z : ℕ) (u : Request) → WholeRequest q → WholeRequest u → length (linked_bytes y q) ≡ length (linked_bytes z u)
    same_size y q z u f g = length_linked y q f ∙ sym (length_linked z u g)

    -- a request, and the count
    beside_count : (m l y : ℕ) (q : Request) → m ≤ n + 1 → WholeRequest q → Beside (request_write m y q) (count_write l)
    beside_count m l y q e f = zones_beside _ (λ k a g. a) (λ k a g. g) (λ a g. a) (λ k a g. a) _ (request_in_lem m y q e f) (only_count l)
      where
        only_count : (l : ℕ) → Zone No No (Unit {0}) No (count_write l)
        only_count l = in_count tt refl refl

    module _ (s : List ℕ) (l : length s ≡ book_size) where
      second_over : put (put_all s (tail from_c qc from_d qd)) (request_write (n + 1) from_c qc) ≡ put_all s (tail from_c qc from_c qc)
      second_over =
          put_over book_size (put_all s (request_write n from_c qc ∷ count_write (n + 1) ∷ [])) (request_write (n + 1) from_d qd) (request_write (n + 1) from_c qc) (count_write (n + 1 + 1) ∷ [])
          (length_all s _ book_size l (every∷ (zone_inside _ (request_in_lem n from_c qc (omega arith) whole_c)) (every∷ (zone_inside _ (count_zone n (n + 1))) every[])))
          (zone_inside _ (request_in_lem (n + 1) from_d qd (omega arith) whole_d)) refl (same_size from_c qc from_d qd whole_c whole_d)
          (every∷ (zone_inside _ (count_zone n (n + 1 + 1))) every[]) (every∷ (beside_count (n + 1) (n + 1 + 1) from_c qc (omega arith) whole_c) every[])

      first_over : put (put_all s (tail from_c qc from_c qc)) (request_write n from_d qd) ≡ put_all s (tail from_d qd from_c qc)
      first_over =
          put_over book_size s (request_write n from_c qc) (request_write n from_d qd) (count_write (n + 1) ∷ request_write (n + 1) from_c qc ∷ count_write (n + 1 + 1) ∷ []) l
          (zone_inside _ (request_in_lem n from_c qc (omega arith) whole_c)) refl (same_size from_d qd from_c qc whole_d whole_c)
          (every∷ (zone_inside _ (count_zone n (n + 1))) (every∷ (zone_inside _ (request_in_lem (n + 1) from_c qc (omega arith) whole_c)) (every∷ (zone_inside _ (count_zone n (n + 1 + 1))) every[])))
          (every∷ (beside_count n (n + 1) from_d qd (omega arith) whole_d)
          (every∷ (zones_beside _ (λ y a f. a) (λ y a f. omega arith) (λ a f. a) (λ y a f. a) _ (request_in_lem n from_d qd (omega arith) whole_d) (request_in_lem (n + 1) from_c qc (omega arith) whole_c))
          (every∷ (beside_count n (n + 1 + 1) from_d qd (omega arith) whole_d) every[])))

      -- the two records, as bytes
      first_record : span (put_all s (tail from_c qc from_d qd)) (request_base n) request_size ≡ linked_bytes from_c qc
      first_record =
          span_put book_size s (request_write n from_c qc) (count_write (n + 1) ∷ request_write (n + 1) from_d qd ∷ count_write (n + 1 + 1) ∷ []) request_size l
          (zone_inside _ (request_in_lem n from_c qc (omega arith) whole_c)) (length_linked from_c qc whole_c)
          (every∷ (zone_inside _ (count_zone n (n + 1))) (every∷ (zone_inside _ (request_in_lem (n + 1) from_d qd (omega arith) whole_d)) (every∷ (zone_inside _ (count_zone n (n + 1 + 1))) every[])))
          (every∷ (beside_count n (n + 1) from_c qc (omega arith) whole_c)
          (every∷ (zones_beside _ (λ y a f. a) (λ y a f. omega arith) (λ a f. a) (λ y a f. a) _ (request_in_lem n from_c qc (omega arith) whole_c) (request_in_lem (n + 1) from_d qd (omega arith) whole_d))
          (every∷ (beside_count n (n + 1 + 1) from_c qc (omega arith) whole_c) every[])))

      second_record : span (put_all s (tail from_c qc from_d qd)) (request_base (n + 1)) request_size ≡ linked_bytes from_d qd
      second_record =
          span_put book_size (put_all s (request_write n from_c qc ∷ count_write (n + 1) ∷ [])) (request_write (n + 1) from_d qd) (count_write (n + 1 + 1) ∷ []) request_size
          (length_all s _ book_size l (every∷ (zone_inside _ (request_in_lem n from_c qc (omega arith) whole_c)) (every∷ (zone_inside _ (count_zone n (n + 1))) every[])))
          (zone_inside _ (request_in_lem (n + 1) from_d qd (omega arith) whole_d)) (length_linked from_d qd whole_d)
          (every∷ (zone_inside _ (count_zone n (n + 1 + 1))) every[]) (every∷ (beside_count (n + 1) (n + 1 + 1) from_d qd (omega arith) whole_d) every[])

    -- an order's record, and what is no order's
    beside_order : {R : ℕ → Type 0} {C : Type 0} {P : ℕ → Type 0} (m : ℕ) (q : Write) → InOrder m q → {ws : List Write} → Every (Zone No R C P) ws → Every (Beside q) ws
    beside_order m q z ys = every_map (λ u y. zones_beside q (λ a f g. g) (λ a f g. f) (λ f g. f) (λ a f g. f) u z y) ys

    -- the second's order, and then the first's
    over_j : (o u y : Order) (ws : List Write) → WholeOrder o → WholeOrder u → WholeOrder y → Every (InAdded n) ws
        → put (put_all (owns o u) ws) (order_write j y) ≡ put_all (owns o y) ws
    over_j o u y ws a e f zs =
        let s : List ℕ = put_all b (order_write i o ∷ rest_c b i j c c' d d' h) in
        let more : List Write = rest_d b i j c c' d d' h in
        ap (λ (z : List ℕ). put z (order_write j y)) (sym (put_append s (order_write j u ∷ more) ws))
        ∙ put_over book_size s (order_write j u) (order_write j y) (more ++ ws) (own_long b i j c c' d d' h o a) (zone_inside _ (order_j u e)) refl
        (length_order y f.fits ∙ sym (length_order u e.fits))
        (every_append (inside_all (rest_in b j i d d' c c' k')) (inside_all zs))
        (every_append (beside_order j _ (order_j y f) (rest_in b j i d d' c c' k')) (beside_order j _ (order_j y f) zs))
        ∙ put_append s (order_write j y ∷ more) ws

    over_i : (o u y : Order) (ws : List Write) → WholeOrder o → WholeOrder u → WholeOrder y → Every (InAdded n) ws
        → put (put_all (owns o u) ws) (order_write i y) ≡ put_all (owns y u) ws
    over_i o u y ws a e f zs =
        let more : List Write = rest_c b i j c c' d d' h in
        let next : List Write = order_write j u ∷ rest_d b i j c c' d d' h in
        let nexts : Every (Beside (order_write i y)) next =
        every∷ (zones_beside _ (λ m k z. h.crossed.apart (sym k ∙ z)) (λ m k z. k) (λ k z. k) (λ m k z. k) _ (order_i y f) (order_j u e)) (beside_order i _ (order_i y f) (rest_in b j i d d' c c' k')) in
        let flat : (z : Write) → put_all (put_all (put_all b (z ∷ more)) next) ws ≡ put_all b (z ∷ (more ++ (next ++ ws))) = λ z. sym (put_append b (z ∷ more) (next ++ ws) ∙ put_append (put_all b (z ∷ more)) next ws) in
        ap (λ (z : List ℕ). put z (order_write i y)) (flat (order_write i o))
        ∙ put_over book_size b (order_write i o) (order_write i y) (more ++ (next ++ ws)) h.long (zone_inside _ (order_i o a)) refl (length_order y f.fits ∙ sym (length_order o a.fits))
        (every_append (inside_all (rest_in b i j c c' d d' h)) (every_append (every∷ (zone_inside _ (order_j u e)) (inside_all (rest_in b j i d d' c c' k'))) (inside_all zs)))
        (every_append (beside_order i _ (order_i y f) (rest_in b i j c c' d d' h)) (every_append nexts (beside_order i _ (order_i y f) zs)))
        ∙ sym (flat (order_write i y))

    -- THE BYTES the other way round are these with four records written again
    pub bytes_turned : put (put (put (put (book_with (book_with b c) d') (request_write (n + 1) from_c qc)) (request_write n from_d qd)) (order_write j d.order)) (order_write i c'.order) ≡ book_with (book_with b d) c'
    bytes_turned =
        let o : WholeOrder c.order = h.first.order in
        let u : WholeOrder d'.order = h.behind.order in
        let l : length (owns c.order d'.order) ≡ book_size = owns_long c.order d'.order o u in
        ap (λ (y : List ℕ). put (put (put (put y (request_write (n + 1) from_c qc)) (request_write n from_d qd)) (order_write j d.order)) (order_write i c'.order)) one_tail
        ∙ ap (λ (y : List ℕ). put (put (put y (request_write n from_d qd)) (order_write j d.order)) (order_write i c'.order)) (second_over (owns c.order d'.order) l)
        ∙ ap (λ (y : List ℕ). put (put y (order_write j d.order)) (order_write i c'.order)) (first_over (owns c.order d'.order) l)
        ∙ ap (λ (y : List ℕ). put y (order_write i c'.order)) (over_j c.order d'.order d.order (tail from_d qd from_c qc) o u h.second.order (tail_in from_d qd from_c qc whole_d whole_c))
        ∙ over_i c.order d.order c'.order (tail from_d qd from_c qc) o h.second.order h.later.order (tail_in from_d qd from_c qc whole_d whole_c)
        ∙ sym two_tail

    -- and the two records are, as bytes, what each event wrote
    pub records : (span (book_with (book_with b c) d') (request_base n) request_size ≡ linked_bytes from_c qc)
        × (span (book_with (book_with b c) d') (request_base (n + 1)) request_size ≡ linked_bytes from_d qd)
    records =
        let l : length (owns c.order d'.order) ≡ book_size = owns_long c.order d'.order h.first.order h.behind.order in (
          ap (λ (y : List ℕ). span y (request_base n) request_size) one_tail ∙ first_record (owns c.order d'.order) l,
          ap (λ (y : List ℕ). span y (request_base (n + 1)) request_size) one_tail ∙ second_record (owns c.order d'.order) l,
        )
