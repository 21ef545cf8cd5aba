-- The open quantities as a change leaves them: the client of the order that is placed has the new leaves for the old, and no other client's sum or first order moves. So
-- what is worked out by value before the write is the sum over the book as it is left. Rests on Sums, machine's `after` and its law that no order changes its client.
use Rattle.std.specs.Prelude.{◌≡◌, ℕ, zero, suc, ◌+◌, ◌-◌, ◌*◌, ◌/◌, ◌%◌, ◌^◌, ◌<◌, ◌≤◌, Bool, true, false, ◌&&◌, List, [], ◌∷◌, ◌++◌, length, get_or, ◌==◌, ◌≢◌, nat_eq, nat_lt, slice_index_or, slice_set, refl, Option, None, Some}
use Rattle.std.proofs.Common.{arith, sym, ap, ap₂, subst, ◌∙◌, inl, length-append, length-set, get_or-set_same, eqb-true, eq-eqb, ne_eqb, le-leb}
use Rattle.std.proofs.Math.Decide.{ℕ_discrete, dec_lt}
use Rattle.std.proofs.lemmas.Bool.{lt-leb}
use Rattle.std.proofs.lemmas.List.{get_or_at}
use Rattle.prelude.specs.Below.{first_below}
use Rattle.prelude.specs.Laws.Below.{First, first_ext, first_elim, first_hit, first_some}
use Rattle.prelude.specs.Cases.{if◌then◌otherwise◌, maybe}
use Rattle.prelude.specs.Laws.Cases.{if_true, if_false, maybe_none, maybe_some, clash}
use Rattle.prelude.specs.Number.{bytes_of}
use Rattle.prelude.specs.Span.{splice}
use Rattle.prelude.specs.Totals.{total_of}
use Rattle.prelude.specs.Laws.Totals.{total_append, total_set}
use Rattle.store.specs.declared.Order.{Order}
use Rattle.store.specs.Layout.{book_size, header·orders, most_orders, open_base}
use Rattle.store.specs.Orders.{no_order}
use Rattle.store.specs.Book.{Book, is_book, book_of, order_in, order_at, order_count, open_at, load_open, store_open}
use Rattle.store.specs.Finds.{is_clients, find_client}
use Rattle.store.specs.Laws.Stored.{length_orders, order_in_lem, count_out}
use Rattle.store.specs.Laws.Opens.{load_open_in}
use Rattle.machine.specs.declared.Change.{Change}
use Rattle.machine.specs.Changes.{Event}
use Rattle.machine.specs.Orders.{is_done, leaves_of, leaves_qty}
use Rattle.machine.specs.Machine.{order_at_link, orders_after, after, step_of}
use Rattle.machine.specs.Rules.{rules}
use Rattle.machine.specs.History.{read_as, comes_to, line_of}
use Rattle.machine.specs.Exchange.{open_of}
use Rattle.machine.proofs.Claim.Laws.{Whose}
use Rattle.machine.proofs.Claim.Filled.{Persists, taken_line, call_advances}
use Rattle.index.specs.declared.Word.{Word}
use Rattle.index.specs.Index.{stored_open, opens_right, word, opening_of}
use Rattle.index.specs.Laws.Sums.{client_at, open_none, stored_right}

-- ---- no order changes its client

abbrev pub SameClients : Book → Book → Type 0
SameClients b d = (k : ℕ) → k < length b.orders → (order_in d k).client ≡ (order_in b k).client

pub step_clients : (b : Book) (e : Event) → rules b ≡ true → (step_of b e).refusal ≡ 0 → SameClients b (after b (step_of b e))
unfolding comes_to
step_clients b e r z =
    let is : comes_to b (read_as e) ≡ step_of b e = if_true _ _ _ r in
    let left : (line_of b (read_as e) (comes_to b (read_as e))).left ≡ after b (step_of b e) =
    ap (λ (c : Change). (line_of b (read_as e) c).left) is ∙ (taken_line b (read_as e) (step_of b e) z).1 in
    let p : Persists b (after b (step_of b e)) = subst (Persists b) left (call_advances b (read_as e)).persists in
    λ k h. ap (λ (w : Whose). w.client) (p.same k h)

-- ---- a change, on the book

-- a client's part of the sum
abbrev part : ℕ → Order → ℕ
part client o = if o.client == client then leaves_qty o otherwise 0

part_own : (client : ℕ) (o : Order) → o.client ≡ client → part client o ≡ leaves_qty o
part_own client o e = if_true _ _ _ (eq-eqb o.client client e)

part_other : (client : ℕ) (o : Order) → (o.client ≢ client) → part client o ≡ 0
part_other client o n = if_false _ _ _ (ne_eqb o.client client n)

none_left : leaves_qty no_order ≡ 0
unfolding leaves_qty leaves_of is_done if◌then◌otherwise◌
none_left = refl

part_none : (client : ℕ) → part client no_order ≡ 0
part_none client = go (no_order.client == client) refl
  where
    go : (t : Bool) → (no_order.client == client) ≡ t → part client no_order ≡ 0
    go true e = if_true _ _ _ e ∙ none_left
    go false e = if_false _ _ _ e

-- past the end there is no order
past : (os : List Order) (i : ℕ) → length os ≤ i → slice_index_or os i no_order ≡ no_order
past [] i l = refl
past (o ∷ os) zero l = absurd (omega arith)
past (o ∷ os) (suc i) l = past os i (omega arith)

-- a list's part is at most its total
part_less : (client : ℕ) (os : List Order) (i : ℕ) → i < length os → part client (slice_index_or os i no_order) ≤ total_of (part client) os
part_less client os i h = omega (arith, total_set (part client) os i no_order no_order h, part_none client)

module _ (x : Book) (c : Change) (there : c.place ≡ 0 → ⊥) (kept : SameClients x (after x c)) where
  abbrev d : Book
  d = after x c

  set_is : c.place ≤ length x.orders → d.orders ≡ slice_set x.orders (c.place - 1) c.order
  unfolding after orders_after
  set_is h = if_false _ _ _ (ne_eqb c.place 0 there) ∙ if_true _ _ _ (le-leb c.place (length x.orders) h)

  new_is : length x.orders < c.place → d.orders ≡ x.orders ++ (c.order ∷ [])
  unfolding after orders_after
  new_is h = if_false _ _ _ (ne_eqb c.place 0 there) ∙ if_false _ _ _ (lt-leb c.place (length x.orders) h)

  set_long : c.place ≤ length x.orders → length d.orders ≡ length x.orders
  set_long h = ap length (set_is h) ∙ length-set x.orders (c.place - 1) c.order

  new_long : length x.orders < c.place → length d.orders ≡ length x.orders + 1
  new_long h = ap length (new_is h) ∙ length-append x.orders (c.order ∷ [])

  longer : length x.orders ≤ length d.orders
  longer = go (dec_lt (length x.orders) c.place)
    where
      go : Dec (length x.orders < c.place) → length x.orders ≤ length d.orders
      go (yes h) = omega (arith, new_long h)
      go (no h) = omega (arith, set_long (omega arith))

  -- the order that was there is the client's
  old_client : c.place ≤ length x.orders → (order_in x (c.place - 1)).client ≡ c.order.client
  old_client h =
      let i : ℕ = c.place - 1 in
      let l : i < length x.orders = let n : (c.place ≢ 0) = there in omega arith in
      sym (kept i l) ∙ ap (λ (o : Order). o.client) (ap (λ (os : List Order). get_or os i no_order) (set_is h) ∙ get_or-set_same x.orders i c.order no_order l)

  -- an order past those that were is the one that is added
  new_order : (j : ℕ) → length x.orders ≤ j → j < length d.orders → order_in d j ≡ c.order
  new_order j l h = go (dec_lt (length x.orders) c.place)
    where
      go : Dec (length x.orders < c.place) → order_in d j ≡ c.order
      go (yes k) =
          let z : length x.orders ≡ j = omega (arith, new_long k) in
          ap (λ (os : List Order). get_or os j no_order) (new_is k) ∙ get_or_at x.orders c.order [] no_order j z
      go (no k) = absurd (omega (arith, set_long (omega arith)))

  -- ---- sums

  -- with the order that was there, if any
  abbrev before : Order
  before = order_at_link x c.place

  before_set : before ≡ order_in x (c.place - 1)
  unfolding order_at_link
  before_set = if_false _ _ _ (ne_eqb c.place 0 there)

  total_set' : (client : ℕ) → c.place ≤ length x.orders
      → (open_of d client + part client (order_in x (c.place - 1)) ≡ open_of x client + part client c.order) × (part client (order_in x (c.place - 1)) ≤ open_of x client)
  total_set' client h =
      let i : ℕ = c.place - 1 in
      let l : i < length x.orders = let n : (c.place ≢ 0) = there in omega arith in
      let e : open_of d client ≡ total_of (part client) (slice_set x.orders i c.order) = ap (total_of (part client)) (set_is h) in
      (omega (arith, total_set (part client) x.orders i c.order no_order l), part_less client x.orders i l)

  total_new : (client : ℕ) → length x.orders < c.place → open_of d client ≡ open_of x client + part client c.order
  total_new client h =
      let e : open_of d client ≡ total_of (part client) (x.orders ++ (c.order ∷ [])) = ap (total_of (part client)) (new_is h) in
      omega (arith, total_append (part client) x.orders (c.order ∷ []))

  -- THE SUM of the order's client
  pub sum_after : open_of d c.order.client ≡ open_of x c.order.client - leaves_qty before + leaves_qty c.order
  sum_after = go (dec_lt (length x.orders) c.place)
    where
      go : Dec (length x.orders < c.place) → open_of d c.order.client ≡ open_of x c.order.client - leaves_qty before + leaves_qty c.order
      go (yes h) =
          let gone : order_in x (c.place - 1) ≡ no_order = past x.orders (c.place - 1) (omega arith) in
          let z : leaves_qty before ≡ 0 = ap leaves_qty (before_set ∙ gone) ∙ none_left in
          omega (arith, total_new c.order.client h, part_own c.order.client c.order refl)
      go (no h) =
          let k : c.place ≤ length x.orders = omega arith in
          let old : part c.order.client (order_in x (c.place - 1)) ≡ leaves_qty before =
          part_own c.order.client (order_in x (c.place - 1)) (old_client k) ∙ ap leaves_qty (sym before_set) in
          let t = total_set' c.order.client k in
          omega (arith, t.0, t.1, part_own c.order.client c.order refl)

  -- and of any other
  pub sum_others : (client : ℕ) → (c.order.client ≢ client) → open_of d client ≡ open_of x client
  sum_others client n = go (dec_lt (length x.orders) c.place)
    where
      go : Dec (length x.orders < c.place) → open_of d client ≡ open_of x client
      go (yes h) = omega (arith, total_new client h, part_other client c.order n)
      go (no h) =
          let k : c.place ≤ length x.orders = omega arith in
          let old : part client (order_in x (c.place - 1)) ≡ 0 = part_other client (order_in x (c.place - 1)) (λ z. n (sym (old_client k) ∙ z)) in
          omega (arith, (total_set' client k).0, part_other client c.order n)

  -- ---- first orders

  abbrev was : ℕ → ℕ → Bool
  was client k = is_clients client (order_in x k)

  abbrev is : ℕ → ℕ → Bool
  is client k = is_clients client (order_in d k)

  same_test : (client k : ℕ) → k < length x.orders → was client k ≡ is client k
  same_test client k h = ap (λ (v : ℕ). nat_eq v client) (sym (kept k h))

  pub first_stays : (client i : ℕ) → find_client x client ≡ Some i → find_client d client ≡ Some i
  unfolding find_client
  first_stays client i e =
      let f : First (was client) (length x.orders) i = first_some (was client) (length x.orders) i e in
      first_hit (is client) (length d.orders) i (omega (arith, f.below, longer))
      (sym (first_ext (was client) (is client) i (λ k h. same_test client k (omega (arith, f.below)))) ∙ f.least)
      (sym (same_test client i f.below) ∙ f.passes)

  -- the order that is added is the first of a client without one
  pub first_new : find_client x c.order.client ≡ None → find_client d c.order.client ≡ Some (length x.orders)
  unfolding find_client
  first_new e = go (dec_lt (length x.orders) c.place)
    where
      go : Dec (length x.orders < c.place) → first_below (is c.order.client) (length d.orders) ≡ Some (length x.orders)
      go (yes h) =
          first_hit (is c.order.client) (length d.orders) (length x.orders) (omega (arith, new_long h))
          (sym (first_ext (was c.order.client) (is c.order.client) (length x.orders) (λ k l. same_test c.order.client k l)) ∙ e)
          (ap (is_clients c.order.client) (new_order (length x.orders) (omega arith) (omega (arith, new_long h))) ∙ eq-eqb c.order.client c.order.client refl)
      go (no h) =
          let i : ℕ = c.place - 1 in
          let l : i < length x.orders = let n : (c.place ≢ 0) = there in omega arith in
          clash (was c.order.client i) (eq-eqb _ c.order.client (old_client (omega arith))) (first_elim (was c.order.client) (length x.orders) e i l)

  pub first_others : (client : ℕ) → (c.order.client ≢ client) → find_client d client ≡ find_client x client
  first_others client n = go (find_client x client) refl
    where
      go : (v : Option ℕ) → find_client x client ≡ v → find_client d client ≡ find_client x client
      go (Some i) e = first_stays client i e ∙ sym e
      go None e = nowhere (find_client d client) refl ∙ sym e
        where
          nowhere : (v : Option ℕ) → find_client d client ≡ v → find_client d client ≡ None
          nowhere None w = w
          nowhere (Some j) w = absurd (at (dec_lt j (length x.orders)))
            where
              f : First (is client) (length d.orders) j
              f = unfold find_client in first_some (is client) (length d.orders) j w

              at : Dec (j < length x.orders) → ⊥
              at (yes h) = clash (was client j) (same_test client j h ∙ f.passes) (first_elim (was client) (length x.orders) (unfold find_client in e) j h)
              at (no h) = n (ap (λ (o : Order). o.client) (sym (new_order j (omega arith) f.below)) ∙ eqb-true _ client f.passes)

-- ---- by value

-- the lowest k bytes do not see what stands above them
shifted : ℕ → ℕ → ℕ
shifted zero q = q
shifted (suc k) q = 256 * shifted k q

bytes_low : (k r q : ℕ) → bytes_of k (r + shifted k q) ≡ bytes_of k r
unfolding shifted
bytes_low zero r q = refl
bytes_low (suc k) r q =
    let low : (r + 256 * shifted k q) % 256 ≡ r % 256 = omega arith in
    let high : (r + 256 * shifted k q) / 256 ≡ r / 256 + shifted k q = omega arith in
    ap₂ (λ (y : ℕ) (ys : List ℕ). y ∷ ys) low (ap (bytes_of k) high ∙ bytes_low k (r / 256) q)

bytes_word : (n : ℕ) → bytes_of 8 (n % 2 ^ 64) ≡ bytes_of 8 n
unfolding shifted
bytes_word n =
    let e : n ≡ n % 2 ^ 64 + shifted 8 (n / 2 ^ 64) = omega arith in
    sym (ap (bytes_of 8) e ∙ bytes_low 8 (n % 2 ^ 64) (n / 2 ^ 64))

store_word : (b : List ℕ) (i n : ℕ) → store_open b i (n % 2 ^ 64) ≡ store_open b i n
unfolding store_open
store_word b i n = ap (λ (w : List ℕ). if is_book b && nat_lt i most_orders then splice b (open_base i) w otherwise b) (bytes_word n)

-- what the order of a link has left, as the code comes to it
pub link_none : (x : Book) (place : ℕ) → place ≡ 0 → 0 ≡ leaves_qty (order_at_link x place)
unfolding order_at_link
link_none x place e = sym (ap leaves_qty (if_true _ _ _ (eq-eqb place 0 e)) ∙ none_left)

module _ (b : List ℕ) (place n : ℕ) (there : place ≡ 0 → ⊥) (e : n ≡ order_count b) where
  pub link_past : n ≤ place - 1 → 0 ≡ leaves_qty (order_at_link (book_of b) place)
  unfolding order_at_link
  link_past h = sym (ap leaves_qty (if_false _ _ _ (ne_eqb place 0 there) ∙ past (book_of b).orders (place - 1) (omega (arith, length_orders b))) ∙ none_left)

  pub link_at : place - 1 < n → leaves_qty (order_at b (place - 1)) ≡ leaves_qty (order_at_link (book_of b) place)
  unfolding order_at_link
  link_at h = ap leaves_qty (sym (if_false _ _ _ (ne_eqb place 0 there) ∙ order_in_lem b (place - 1) (omega arith)))

-- bytes that are no book have no order
pub link_no_book : (b : List ℕ) (place : ℕ) → (length b ≡ book_size → ⊥) → 0 ≡ leaves_qty (order_at_link (book_of b) place)
link_no_book b place h = go (ℕ_discrete place 0)
  where
    go : Dec (place ≡ 0) → 0 ≡ leaves_qty (order_at_link (book_of b) place)
    go (yes e) = link_none (book_of b) place e
    go (no d) = link_past b place (order_count b) d refl (omega (arith, count_out header·orders most_orders b (place - 1) (inl h)))

module _ (b : List ℕ) (place client leaves : ℕ) where
  pub by_found : (i stored before rest q : ℕ) → find_client (book_of b) client ≡ Some i → stored ≡ load_open b i → before ≡ leaves_qty (order_at_link (book_of b) place)
      → rest ≡ stored - before → q ≡ (rest + leaves) % 2 ^ 64 → word i q ≡ opening_of b place client leaves
  unfolding opening_of
  by_found i stored before rest q f s l r w =
      let sum : q ≡ (load_open b i - leaves_qty (order_at_link (book_of b) place) + leaves) % 2 ^ 64 = w ∙ ap (λ (n : ℕ). (n + leaves) % 2 ^ 64) (r ∙ ap₂ (λ (x y : ℕ). x - y) s l) in
      λ t. record {
        at = sym (maybe_some (find_client (book_of b) client) i (order_count b) (λ i. i) f) t;
        quantity = (sum ∙ sym (maybe_some (find_client (book_of b) client) i leaves (λ i. (load_open b i - leaves_qty (order_at_link (book_of b) place) + leaves) % 2 ^ 64) f)) t;
      }

  pub by_none : (n : ℕ) → find_client (book_of b) client ≡ None → n ≡ order_count b → word n leaves ≡ opening_of b place client leaves
  unfolding opening_of
  by_none n f e = λ t. record {
    at = (e ∙ sym (maybe_none (find_client (book_of b) client) (order_count b) (λ i. i) f)) t;
    quantity = sym (maybe_none (find_client (book_of b) client) leaves (λ i. (load_open b i - leaves_qty (order_at_link (book_of b) place) + leaves) % 2 ^ 64) f) t;
  }

-- what is worked out before the write is the sum over the book as it is left, at the client's first order there
module _ (b : List ℕ) (right : opens_right b ≡ true) (c : Change) (there : c.place ≡ 0 → ⊥) (kept : SameClients (book_of b) (after (book_of b) c)) (to : List ℕ) where
  abbrev left : Book
  left = after (book_of b) c

  abbrev client : ℕ
  client = c.order.client

  abbrev opening : Word
  opening = opening_of b c.place client (leaves_qty c.order)

  abbrev found : Option ℕ
  found = find_client (book_of b) client

  sum_left : open_of left client ≡ open_of (book_of b) client - leaves_qty (order_at_link (book_of b) c.place) + leaves_qty c.order
  sum_left = sum_after (book_of b) c there kept

  -- the client has no order yet
  opening_none : found ≡ None → (opening.at ≡ length (book_of b).orders) × (opening.quantity ≡ open_of left client)
  unfolding opening_of
  opening_none e = (
    maybe_none found (order_count b) (λ i. i) e ∙ sym (length_orders b),
    maybe_none found (leaves_qty c.order) _ e ∙ omega (arith, sum_left, open_none b client e),
  )

  opening_some : (i : ℕ) → found ≡ Some i → (opening.at ≡ i) × (opening.quantity ≡ open_of left client % 2 ^ 64)
  unfolding opening_of stored_open
  opening_some i e =
      let stored : load_open b i ≡ open_of (book_of b) client = load_open_in b i (client_at b client i e).0 ∙ sym (maybe_some found i 0 (open_at b) e) ∙ stored_right b right client in (
        maybe_some found i (order_count b) (λ i. i) e,
        maybe_some found i (leaves_qty c.order) (λ i. (load_open b i - leaves_qty (order_at_link (book_of b) c.place) + leaves_qty c.order) % 2 ^ 64) e
            ∙ ap (λ (n : ℕ). (n - leaves_qty (order_at_link (book_of b) c.place) + leaves_qty c.order) % 2 ^ 64) stored
            ∙ ap (λ (n : ℕ). n % 2 ^ 64) (sym sum_left),
      )

  pub opening_is : store_open to opening.at opening.quantity ≡ maybe to (λ i. store_open to i (open_of left client)) (find_client left client)
  opening_is = go found refl
    where
      go : (v : Option ℕ) → found ≡ v → store_open to opening.at opening.quantity ≡ maybe to (λ i. store_open to i (open_of left client)) (find_client left client)
      go None e =
          ap₂ (store_open to) (opening_none e).0 (opening_none e).1
          ∙ sym (maybe_some (find_client left client) (length (book_of b).orders) to (λ i. store_open to i (open_of left client)) (first_new (book_of b) c there kept e))
      go (Some i) e =
          ap₂ (store_open to) (opening_some i e).0 (opening_some i e).1
          ∙ store_word to i (open_of left client)
          ∙ sym (maybe_some (find_client left client) i to (λ i. store_open to i (open_of left client)) (first_stays (book_of b) c there kept client i e))

-- for the tactic of the function that looks at a link
pub ruleset links = (link_no_book, link_none, link_past, link_at)
