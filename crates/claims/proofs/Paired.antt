-- Two changes of orders of different clients: what the one writes into the bytes of a book, as they are and as the other leaves them. Rests on Placed, and on
-- machine's Frame and Commute.
use Rattle.std.proofs.Common.{ℕ, ◌+◌, ◌-◌, ◌≤◌, ◌<◌, arith, ◌≡◌, refl, sym, ap, ap₂, subst, ◌∙◌, ◌⊎◌, Bool, Option, None, Some, List, ◌∷◌, eqb, length, eqb-true, eq-eqb, ne_eqb}
use Rattle.std.proofs.Math.Decide.{ℕ_discrete}
use Rattle.prelude.specs.Below.{first_below}
use Rattle.prelude.specs.Laws.Below.{First, first_elim, first_ext, first_some}
use Rattle.prelude.specs.Cases.{if◌then◌otherwise◌, maybe}
use Rattle.prelude.specs.Laws.Cases.{if_false, clash}
use Rattle.prelude.specs.Totals.{Every}
use Rattle.prelude.specs.Laws.Totals.{total_ext}
use Rattle.store.specs.declared.Order.{Order}
use Rattle.store.specs.Layout.{book_size, most_orders, most_requests}
use Rattle.store.specs.Orders.{WholeOrder, no_order}
use Rattle.store.specs.Requests.{WholeRequest}
use Rattle.store.specs.Book.{Book, book_of, order_in, request_in, settled_as}
use Rattle.store.specs.Finds.{is_clients, find_client, find_clordid}
use Rattle.machine.specs.declared.Requests.{Requests}
use Rattle.machine.specs.declared.Change.{Change}
use Rattle.machine.specs.Orders.{leaves_qty}
use Rattle.machine.specs.Machine.{after}
use Rattle.machine.specs.Exchange.{open_of}
use Rattle.machine.proofs.Kept.Indexed.{BookKept}
use Rattle.machine.proofs.Exchange.Links.{Linked, same, cancels, replaces, same_place, same_requests}
use Rattle.machine.proofs.Exchange.Frame.{Owned, apart, owned_at, owned_beside, clordid_same}
use Rattle.machine.proofs.Exchange.Commute.{count_two, first_at, second_at, others_at}
use Rattle.machine.proofs.Exchange.Both.{Crossed, crossed_back}
use Rattle.index.specs.Index.{origin_of}
use Rattle.step.specs.Entries.{book_with}
use Rattle.kept.proofs.Written.{Writes}
use Rattle.claims.proofs.Splices.{Write, put_all}
use Rattle.claims.proofs.Placed.{order_write, rest_writes, rest_values, value_of, origin_by, add_writes, InOrder, InRest, InAdded, order_zone, rest_zones, add_zones, change_is}

-- ---- a client's first order

pub record FirstOf (x : Book) (client : ℕ) : Type 0 where
  pub at : ℕ
  pub found : find_client x client ≡ Some at
  pub below : at < length x.orders
  pub its : (order_in x at).client ≡ client

abbrev test : Book → ℕ → ℕ → Bool
test x client k = is_clients client (order_in x k)

pub first_of : (x : Book) (i : ℕ) → i < length x.orders → FirstOf x (order_in x i).client
unfolding find_client
first_of x i h = go (order_in x i).client (find_client x (order_in x i).client) refl refl
  where
    go : (c : ℕ) (v : Option ℕ) → (order_in x i).client ≡ c → find_client x c ≡ v → FirstOf x c
    go c None z e = clash (test x c i) (eq-eqb (order_in x i).client c z) (first_elim (test x c) (length x.orders) e i h)
    go c (Some k) z e =
        let f : First (test x c) (length x.orders) k = first_some (test x c) (length x.orders) k e in
        record { at = k; found = e; below = f.below; its = eqb-true (order_in x k).client c f.passes }

-- in a book with the same clients it is the same
find_same : (x y : Book) → length y.orders ≡ length x.orders → ((k : ℕ) → (order_in y k).client ≡ (order_in x k).client) → (client : ℕ) → find_client y client ≡ find_client x client
unfolding find_client
find_same x y l s client =
    ap (first_below (λ k. is_clients client (order_in y k))) l
    ∙ first_ext (λ k. is_clients client (order_in y k)) (λ k. is_clients client (order_in x k)) (length x.orders) (λ k h. ap (λ (c : ℕ). eqb c client) (s k))

-- what a client has open of an order
abbrev part : ℕ → Order → ℕ
part client o = if eqb o.client client then leaves_qty o otherwise 0

-- a link more or less changes neither client nor quantities
linked_client : (t m n : ℕ) (c c' : Change) → Linked t m n c c' → c'.order.client ≡ c.order.client
linked_client t m n c c' (same r e) = ap (λ (y : Change). y.order.client) e
linked_client t m n c c' (cancels a z w e) = ap (λ (y : Change). y.order.client) e
linked_client t m n c c' (replaces a z w e) = ap (λ (y : Change). y.order.client) e

linked_part : (client t m n : ℕ) (c c' : Change) → Linked t m n c c' → part client c'.order ≡ part client c.order
unfolding leaves_qty
linked_part client t m n c c' (same r e) = ap (λ (y : Change). part client y.order) e
linked_part client t m n c c' (cancels a z w e) = ap (λ (y : Change). part client y.order) e
linked_part client t m n c c' (replaces a z w e) = ap (λ (y : Change). part client y.order) e

-- ---- changes of the orders at indices i and j: c' is c as it is seen after d, and d' is d as it is seen after c

-- what a change needs, so that it can be written into these bytes
pub record Fit (b : List ℕ) (c : Change) : Type 0 where
  pub room : (c.requests.added ≡ 0) ⊎ (length (book_of b).requests < most_requests)
  pub writes : Writes b c
  pub small : c.requests.outcome ≤ 3
  pub order : WholeOrder c.order
  pub request : (c.requests.added ≡ 0 → ⊥) → WholeRequest c.requests.request

pub record Pair (b : List ℕ) (i j : ℕ) (c c' d d' : Change) : Type 0 where
  pub long : length b ≡ book_size
  pub kept : BookKept (book_of b)
  pub clients : (order_in (book_of b) i).client ≡ (order_in (book_of b) j).client → ⊥
  -- where their clients' words stand
  pub first_word : FirstOf (book_of b) (order_in (book_of b) i).client
  pub second_word : FirstOf (book_of b) (order_in (book_of b) j).client
  pub crossed : Crossed (book_of b) i j c c' d d'
  pub first : Fit b c
  pub second : Fit b d
  pub later : Fit (book_with b d) c'
  pub behind : Fit (book_with b c) d'

abbrev pub turn : (b : List ℕ) (i j : ℕ) (c c' d d' : Change) → Pair b i j c c' d d' → Pair b j i d d' c c'
turn b i j c c' d d' h = record {
  long = h.long;
  kept = h.kept;
  clients = λ z. h.clients (sym z);
  first_word = h.second_word;
  second_word = h.first_word;
  crossed = crossed_back (book_of b) i j c c' d d' h.crossed;
  first = h.second;
  second = h.first;
  later = h.behind;
  behind = h.later;
}

-- c on the bytes as they are, and c' on those that d leaves
module _ (b : List ℕ) (i j : ℕ) (c c' d d' : Change) (h : Pair b i j c c' d d') where
  abbrev x : Book
  x = book_of b

  abbrev client : ℕ
  client = c.order.client

  -- x with d, and then c'
  abbrev both : Book
  both = after (after x d) c'

  own : Owned x i c
  own = h.crossed.first

  other : Owned x j d
  other = h.crossed.second

  away : j ≡ i → ⊥
  away z = h.crossed.apart (sym z)

  place_same : c'.place ≡ c.place
  place_same = same_place h.crossed.first_linked

  requests_same : c'.requests ≡ c.requests
  requests_same = same_requests h.crossed.first_linked

  client_same : c'.order.client ≡ client
  client_same = linked_client _ _ _ c c' h.crossed.first_linked

  -- each order by where it stands
  each : (P : Order → Order → Order → Type 0) → P c'.order c.order (order_in x i) → P d.order (order_in x j) (order_in x j) → ((k : ℕ) → P (order_in x k) (order_in x k) (order_in x k))
      → (k : ℕ) → P (order_in both k) (order_in (after x c) k) (order_in x k)
  each P p q r k = go (ℕ_discrete k i) (ℕ_discrete k j)
    where
      at : (m : ℕ) → (o u : Order) → order_in both m ≡ o → order_in (after x c) m ≡ u → P o u (order_in x m) → P (order_in both m) (order_in (after x c) m) (order_in x m)
      at m o u e f t = subst (λ (y : Order). P y (order_in (after x c) m) (order_in x m)) (sym e) (subst (λ (y : Order). P o y (order_in x m)) (sym f) t)

      go : Dec (k ≡ i) → Dec (k ≡ j) → P (order_in both k) (order_in (after x c) k) (order_in x k)
      go (yes z) y =
          subst (λ (m : ℕ). P (order_in both m) (order_in (after x c) m) (order_in x m)) (sym z)
          (at i c'.order c.order (second_at x j i d c c' other own place_same away) (owned_at x i c own) p)
      go (no z) (yes y) =
          subst (λ (m : ℕ). P (order_in both m) (order_in (after x c) m) (order_in x m)) (sym y)
          (at j d.order (order_in x j) (first_at x j i d c c' other own place_same away) (owned_beside x i c own j away) q)
      go (no z) (no y) = at k (order_in x k) (order_in x k) (others_at x j i d c c' other own place_same away k y z) (owned_beside x i c own k z) (r k)

  both_long : length both.orders ≡ length x.orders
  both_long = count_two x j i d c c' other own place_same

  abbrev pub its : FirstOf x (order_in x i).client
  its = h.first_word

  abbrev pub word_at : ℕ
  word_at = its.at

  found_here : find_client (after x c) client ≡ Some word_at
  found_here =
      ap (find_client (after x c)) own.client
      ∙ find_same x (after x c) (apart x i c own).count (apart x i c own).clients (order_in x i).client ∙ its.found

  found_there : find_client both c'.order.client ≡ Some word_at
  found_there =
      ap (find_client both) (client_same ∙ own.client)
      ∙ find_same x both both_long (each (λ y u o. y.client ≡ o.client) (client_same ∙ own.client) other.client (λ k. refl)) (order_in x i).client ∙ its.found

  -- d does not change what the client has open
  no_part : (o : Order) → o.client ≡ (order_in x j).client → part client o ≡ 0
  no_part o e = if_false _ _ _ (ne_eqb o.client client (λ z. h.clients (sym own.client ∙ sym z ∙ e)))

  open_same : open_of both c'.order.client ≡ open_of (after x c) client
  open_same =
      ap (open_of both) client_same
      ∙ total_ext (part client) no_order both.orders (after x c).orders (both_long ∙ sym (apart x i c own).count)
      (each (λ y u o. part client y ≡ part client u) (linked_part client _ _ _ c c' h.crossed.first_linked) (no_part d.order other.client ∙ sym (no_part (order_in x j) refl)) (λ k. refl))

  few_orders : i < most_orders
  few_orders = omega (arith, own.inside, h.kept.orders)

  first_few : word_at < most_orders
  first_few = omega (arith, its.below, h.kept.orders)

  -- its own writes, but for the order, and the origin of what it adds
  abbrev pub rest : List Write
  rest = rest_writes word_at (open_of (after x c) client) (value_of b c.requests c.requests.answered) (value_of b c.requests c.requests.superseded) c.requests

  abbrev origin : ℕ
  origin = origin_by b c

  pub here : book_with b c ≡ put_all (put_all b (order_write i c.order ∷ rest)) (add_writes (length x.requests) origin c.requests)
  here = change_is b i word_at c (record {
    long = h.long;
    there = own.there;
    inside = own.inside;
    answers = own.answers_in;
    supersedes = own.supersedes_in;
    room = h.first.room;
    order = h.first.order;
    small = h.first.small;
    request = h.first.request;
    found = found_here;
    first = first_few;
  })

  abbrev left : List ℕ
  left = book_with b d

  left_is : book_of left ≡ after x d
  left_is = h.second.writes.is

  left_long : length left ≡ book_size
  left_long = h.second.writes.keeps.same ∙ h.long

  -- d changes neither what c's requests come to, nor which request an OrigClOrdID of c's client names
  value_same : (link : ℕ) → link ≤ length x.requests → ((k : ℕ) → link ≡ k + 1 → (request_in x k).order ≡ i) → (link ≡ 0 → ⊥)
      → value_of left c.requests link ≡ value_of b c.requests link
  value_same link l mine z =
      let k : ℕ = link - 1 in
      ap (λ (y : Book). settled_as c.requests.outcome (request_in y k)) left_is
      ∙ ap (settled_as c.requests.outcome) ((apart x j d other).requests k (omega arith) (λ y. away (sym y ∙ mine k (omega arith))))

  origin_same : origin_by left c' ≡ origin
  unfolding origin_of
  origin_same =
      ap₂ (λ (m : ℕ) (r : Requests). origin_of (book_of left) m r.request.origclordid) client_same requests_same
      ∙ ap (λ (y : Book). maybe 0 (λ k. k + 1) (find_clordid y client c.requests.request.origclordid)) left_is
      ∙ ap (maybe 0 (λ k. k + 1)) (clordid_same x (after x d) j (apart x j d other) client (λ z. h.clients (sym own.client ∙ sym z)) c.requests.request.origclordid)

  pub there : book_with left c' ≡ put_all (put_all left (order_write i c'.order ∷ rest)) (add_writes (length (after x d).requests) origin c.requests)
  there =
      change_is left i word_at c' (record {
        long = left_long;
        there = place_same ∙ own.there;
        inside = omega (arith, own.inside, ap (λ (y : Book). length y.orders) left_is, (apart x j d other).count);
        answers = omega (arith, ap (λ (r : Requests). r.answered) requests_same, own.answers_in, longer);
        supersedes = omega (arith, ap (λ (r : Requests). r.superseded) requests_same, own.supersedes_in, longer);
        room = h.later.room;
        order = h.later.order;
        small = h.later.small;
        request = h.later.request;
        found = ap (λ (y : Book). find_client (after y c') c'.order.client) left_is ∙ found_there;
        first = first_few;
      })
      ∙ ap₂ (λ (n : ℕ) (r : Requests). put_all (put_all left (order_write i c'.order ∷ rest_writes word_at n (value_of left r r.answered) (value_of left r r.superseded) r))
      (add_writes (length (book_of left).requests) (origin_by left c') r))
      (ap (λ (y : Book). open_of (after y c') c'.order.client) left_is ∙ open_same) requests_same
      ∙ ap₂ (λ (ws : List Write) (n : ℕ). put_all (put_all left (order_write i c'.order ∷ ws)) (add_writes (length (book_of left).requests) n c.requests))
      (rest_values word_at (open_of (after x c) client) _ _ _ _ c.requests (value_same c.requests.answered own.answers_in own.answers)
      (value_same c.requests.superseded own.supersedes_in own.supersedes)) origin_same
      ∙ ap (λ (n : ℕ). put_all (put_all left (order_write i c'.order ∷ rest)) (add_writes n origin c.requests)) (ap (λ (y : Book). length y.requests) left_is)
    where
      longer : length x.requests ≤ length (book_of left).requests
      longer = omega (arith, ap (λ (y : Book). length y.requests) left_is, (apart x j d other).longer)

  pub rest_in : Every (InRest x i word_at) rest
  rest_in =
      rest_zones x i word_at (open_of (after x c) client) _ _ c.requests h.kept.requests first_few own.answers_in own.supersedes_in own.answers own.supersedes

  -- what is added, before the other and behind it
  pub now_in : Every (InAdded (length x.requests)) (add_writes (length x.requests) origin c.requests)
  now_in = add_zones (length x.requests) origin c.requests h.first.room h.first.request

  pub order_in_lem : (o : Order) → WholeOrder o → InOrder i (order_write i o)
  order_in_lem o f = order_zone i o few_orders f
