-- What is stored behind the tables after a change: the word of the order's client is its open quantity in the book as it is left, and every other client's word
-- and sum are as they were. Rests on Written, and on index's laws of what a change moves.
use Rattle.std.proofs.Common.{ℕ, ◌-◌, ◌<◌, arith, ◌≡◌, refl, sym, ap, ◌∙◌, Bool, true, false, Option, None, Some, List, eqb, length, eqb-true, eq-eqb}
use Rattle.std.proofs.Math.Decide.{ℕ_discrete}
use Rattle.std.proofs.lemmas.Bool.{eqb-false}
use Rattle.prelude.specs.Laws.Below.{First, first_some, all_intro}
use Rattle.prelude.specs.Cases.{if◌then◌otherwise◌, maybe}
use Rattle.prelude.specs.Laws.Cases.{split_if, if_true, if_false, maybe_some}
use Rattle.prelude.specs.Lists.{first_in}
use Rattle.prelude.specs.Totals.{total_of}
use Rattle.store.specs.declared.Order.{Order}
use Rattle.store.specs.Layout.{most_orders}
use Rattle.store.specs.Orders.{WholeOrder, no_order}
use Rattle.store.specs.Requests.{WholeRequest}
use Rattle.store.specs.Book.{Book, book_of, order_in, order_count, open_at, store_open}
use Rattle.store.specs.Finds.{is_clients, find_client}
use Rattle.store.specs.Laws.Opens.{open_here, open_other, store_order_open, add_order_open, add_request_open, mark_open}
use Rattle.store.specs.Laws.Beside.{store_origin_open}
use Rattle.machine.specs.declared.Requests.{Requests}
use Rattle.machine.specs.declared.Change.{Change}
use Rattle.machine.specs.Orders.{leaves_qty}
use Rattle.machine.specs.Machine.{after}
use Rattle.machine.specs.Rules.{rules}
use Rattle.machine.specs.Whole.{WholeBook}
use Rattle.machine.specs.Exchange.{open_of}
use Rattle.machine.proofs.Kept.Indexed.{book_kept}
use Rattle.machine.proofs.Claim.Filled.{after_orders, orders_same}
use Rattle.index.specs.Index.{origin_of, stored_open, open_right, opens_right}
use Rattle.rules.specs.Keeps.{keeps_of}
use Rattle.index.specs.Laws.Sums.{open_fits}
use Rattle.rules.specs.Laws.Keeps.{keeps_held, keeps_stored}
use Rattle.index.specs.Laws.Moved.{SameClients, sum_others, first_stays, first_new, first_others}
use Rattle.step.specs.Entries.{place_order, mark_link, place_requests, tables_with, place_origin, place_open, place_index, book_with}
use Rattle.kept.proofs.Written.{order_written, request_written, origin_keeps, Writes}

-- ---- the other writes leave the words

abbrev SameWord : List ℕ → ℕ → List ℕ → Type 0
SameWord b j d = open_at d j ≡ open_at b j

module _ (j : ℕ) (k : j < most_orders) where
  place_word : (b : List ℕ) (place : ℕ) (o : Order) → (eqb place 0 ≡ false → WholeOrder o) → SameWord b j (place_order b place o)
  unfolding place_order
  place_word b place o w =
      split_if (SameWord b j) (eqb place 0) (λ e. refl)
      (λ e. split_if (SameWord b j) _ (λ f. store_order_open b j k (place - 1) o (w e).fits) (λ f. add_order_open b j k o (w e).fits))

  link_word : (b : List ℕ) (link v : ℕ) → SameWord b j (mark_link b link v)
  unfolding mark_link
  link_word b link v = split_if (SameWord b j) (eqb link 0) (λ e. refl) (λ e. mark_open b j k (link - 1) v)

  requests_word : (b : List ℕ) (r : Requests) → (eqb r.added 0 ≡ false → WholeRequest r.request) → SameWord b j (place_requests b r)
  unfolding place_requests
  requests_word b r w =
      let v : ℕ = r.outcome in
      let once : List ℕ = mark_link b r.answered v in
      let marked : SameWord b j (mark_link once r.superseded v) = link_word once r.superseded v ∙ link_word b r.answered v in
      split_if (SameWord b j) (eqb r.added 0) (λ e. marked) (λ e. add_request_open (mark_link once r.superseded v) j k r.request (w e) ∙ marked)

  origin_word : (b : List ℕ) (added m origin : ℕ) → SameWord b j (place_origin b added m origin)
  unfolding place_origin
  origin_word b added m origin = split_if (SameWord b j) (eqb added 0) (λ e. refl) (λ e. store_origin_open b m origin j k)

-- what is stored by the same words
stored_same : (b f : List ℕ) (x : Option ℕ) → ((j : ℕ) → x ≡ Some j → open_at f j ≡ open_at b j) → maybe 0 (open_at f) x ≡ maybe 0 (open_at b) x
unfolding maybe
stored_same b f None h = refl
stored_same b f (Some j) h = h j refl

module _ (b : List ℕ) (c : Change) (keeps : keeps_of b ≡ true) (w : Writes b c) (kept : rules (after (book_of b) c) ≡ true) (whole : WholeBook (after (book_of b) c))
    (clients : SameClients (book_of b) (after (book_of b) c)) where
  abbrev left : Book
  left = after (book_of b) c

  -- the tables and the origin are written
  abbrev d : List ℕ
  d = place_origin (tables_with b c) c.requests.added (length (book_of b).requests) (origin_of (book_of b) c.order.client c.requests.request.origclordid)

  abbrev f : List ℕ
  f = book_with b c

  abbrev client : ℕ
  client = c.order.client

  -- a first order is in its table, and its client's
  found_few : (k j : ℕ) → find_client left k ≡ Some j → j < most_orders
  unfolding find_client
  found_few k j e =
      let g : First (λ i. is_clients k (order_in left i)) (length left.orders) j = first_some (λ i. is_clients k (order_in left i)) (length left.orders) j e in
      omega (arith, g.below, (book_kept left kept).orders)

  found_client : (k j : ℕ) → find_client left k ≡ Some j → (order_in left j).client ≡ k
  unfolding find_client
  found_client k j e =
      let g : First (λ i. is_clients k (order_in left i)) (length left.orders) j = first_some (λ i. is_clients k (order_in left i)) (length left.orders) j e in
      eqb-true (order_in left j).client k g.passes

  table_word : (j : ℕ) → j < most_orders → open_at d j ≡ open_at b j
  unfolding tables_with
  table_word j k =
      origin_word j k (tables_with b c) c.requests.added _ _
      ∙ requests_word j k (place_order b c.place c.order) c.requests (request_written (book_of b) c whole)
      ∙ place_word j k b c.place c.order (order_written (book_of b) c whole)

  -- a client's word stays right if its first order, its sum and the word are as they were
  calm : (k : ℕ) → find_client left k ≡ find_client (book_of b) k → open_of left k ≡ open_of (book_of b) k → ((j : ℕ) → find_client left k ≡ Some j → open_at f j ≡ open_at b j)
      → maybe 0 (open_at f) (find_client left k) ≡ open_of left k
  unfolding stored_open
  calm k same sum words =
      stored_same b f (find_client left k) words ∙ ap (maybe 0 (open_at b)) same ∙ keeps_stored b keeps k ∙ sym sum

  -- ---- no order is placed

  still : c.place ≡ 0 → (k : ℕ) → maybe 0 (open_at f) (find_client left k) ≡ open_of left k
  unfolding book_with place_index place_open find_client
  still z k =
      let os : left.orders ≡ (book_of b).orders = after_orders (book_of b) c ∙ orders_same (book_of b).orders c z in
      let is : f ≡ d = if_true _ _ _ (eq-eqb c.place 0 z) in
      calm k (ap (λ (l : List Order). first_in no_order (is_clients k) l) os) (ap (λ (l : List Order). total_of (λ (o : Order). if eqb o.client k then leaves_qty o otherwise 0) l) os)
      (λ j e. ap (λ (y : List ℕ). open_at y j) is ∙ table_word j (found_few k j e))

  -- ---- an order is placed

  module _ (there : c.place ≡ 0 → ⊥) (z : eqb c.place 0 ≡ false) where
    -- its client's first order
    record Own : Type 0 where
      at : ℕ
      found : find_client left client ≡ Some at

    own : Own
    own = go (find_client (book_of b) client) refl
      where
        go : (x : Option ℕ) → find_client (book_of b) client ≡ x → Own
        go None e = record { at = length (book_of b).orders; found = first_new (book_of b) c there clients e }
        go (Some i) e = record { at = i; found = first_stays (book_of b) c there clients client i e }

    written : f ≡ store_open d own.at (open_of left client)
    unfolding book_with place_index place_open
    written = if_false _ _ _ z ∙ maybe_some (find_client left client) own.at d (λ i. store_open d i (open_of left client)) own.found

    its_own : maybe 0 (open_at f) (find_client left client) ≡ open_of left client
    its_own =
        maybe_some (find_client left client) own.at 0 (open_at f) own.found
        ∙ ap (λ (y : List ℕ). open_at y own.at) written
        ∙ open_here d own.at (open_of left client) ((origin_keeps (tables_with b c) c.requests.added _ _).same ∙ w.tables.same ∙ (keeps_held b keeps).long) (found_few client own.at own.found) (open_fits left kept client)

    others : (k : ℕ) → (client ≡ k → ⊥) → maybe 0 (open_at f) (find_client left k) ≡ open_of left k
    others k n =
        calm k (first_others (book_of b) c there clients k n) (sum_others (book_of b) c there clients k n)
        (λ j e.
        ap (λ (y : List ℕ). open_at y j) written
        ∙ open_other d own.at (open_of left client) j (found_few k j e)
        (λ q. n (sym (found_client client own.at own.found) ∙ ap (λ (i : ℕ). (order_in left i).client) q ∙ found_client k j e))
        ∙ table_word j (found_few k j e))

    placed : (k : ℕ) → maybe 0 (open_at f) (find_client left k) ≡ open_of left k
    placed k = go (ℕ_discrete client k)
      where
        go : Dec (client ≡ k) → maybe 0 (open_at f) (find_client left k) ≡ open_of left k
        go (yes q) = ap (λ (m : ℕ). maybe 0 (open_at f) (find_client left m)) (sym q) ∙ its_own ∙ ap (open_of left) q
        go (no n) = others k n

  left_right : (k : ℕ) → maybe 0 (open_at f) (find_client left k) ≡ open_of left k
  left_right k = go (eqb c.place 0) refl
    where
      go : (t : Bool) → eqb c.place 0 ≡ t → maybe 0 (open_at f) (find_client left k) ≡ open_of left k
      go true e = still (eqb-true c.place 0 e) k
      go false e = placed (eqb-false c.place 0 e) e k

  stored_after : (k : ℕ) → stored_open f k ≡ open_of (book_of f) k
  unfolding stored_open
  stored_after k = ap (λ (x : Book). maybe 0 (open_at f) (find_client x k)) w.is ∙ left_right k ∙ sym (ap (λ (x : Book). open_of x k) w.is)

  -- WHAT IS STORED STAYS RIGHT
  pub opens_after : opens_right f ≡ true
  unfolding opens_right open_right
  opens_after = all_intro (open_right f) (order_count f) (λ i h. eq-eqb _ _ (stored_after (order_in (book_of f) i).client))
