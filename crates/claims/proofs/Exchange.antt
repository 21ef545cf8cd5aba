-- Two clients, either order, on bytes: each call on a book that keeps its rules is the machine's, and if at most one adds a request the writes commute.
-- Rests on Steps, Concern, Swapped, OpenQuantity and machine's Exchange.
use Rattle.std.proofs.Common.{ℕ, ◌≤◌, ◌+◌, ◌-◌, ◌<◌, ◌≡◌, sym, ap, ◌∙◌, subst, ap₂, List, [], ◌∷◌, length, eq-eqb, lt-ltb, arith, ◌⊎◌, inl, inr}
use Rattle.std.proofs.Math.Decide.{ℕ_discrete}
use Rattle.std.proofs.lemmas.Bool.{and_from}
use Rattle.prelude.specs.Laws.Cases.{if_true}
use Rattle.prelude.specs.Span.{span, splice}
use Rattle.prelude.specs.Totals.{every[], every∷}
use Rattle.store.specs.Book.{Book, book_of, order_in, request_count, put_order, store_order}
use Rattle.store.specs.Requests.{WholeRequest}
use Rattle.machine.specs.declared.Change.{Change}
use Rattle.machine.specs.Machine.{step_of, after, book_after, change_of}
use Rattle.machine.specs.Exchange.{SameOrder, open_of, Turned, OfTwoClients, Exchanged, concerns, client_at, turned_order}
use Rattle.machine.proofs.Exchange.Whole.{two_clients}
use Rattle.machine.proofs.Exchange.Places.{turned_book}
use Rattle.opens.specs.Opens.{opened}
use Rattle.claims.specs.Claims.{Call}
use Rattle.claims.specs.Exchange.{called, CallsOfTwoClients, CallsExchanged, TwoClientsOnBytes, after_two, lent, SameBooks, turned_bytes}
use Rattle.kept.proofs.Taken.{Taken, call_taken, returned_is}
use Rattle.claims.proofs.Taken.{check_kept}
use Rattle.step.specs.Entries.{Returned, book_with}
use Rattle.rules.specs.Laws.Keeps.{keeps_held}
use Rattle.store.specs.Layout.{most_requests, book_size, most_orders, request_size, request_base}
use Rattle.store.specs.Laws.Stored.{length_requests}
use Rattle.machine.specs.declared.Requests.{Requests}
use Rattle.machine.proofs.Kept.Indexed.{BookKept, book_kept}
use Rattle.machine.proofs.Claim.Ruled.{ruled}
use Rattle.machine.proofs.Claim.Records.{added_long, none_kept}
use Rattle.machine.proofs.Exchange.Links.{same_requests, same_place}
use Rattle.machine.proofs.Exchange.Frame.{Owned}
use Rattle.machine.proofs.Exchange.Handled.{handled, owned_of}
use Rattle.machine.proofs.Exchange.Both.{Both, both_ways, Crossed}
use Rattle.claims.specs.Opens.{OpenRight}
use Rattle.claims.proofs.OpenQuantity.{right}
use Rattle.claims.proofs.Concern.{link_of, kinds_of}
use Rattle.claims.proofs.Paired.{first_of, Fit, Pair}
use Rattle.claims.proofs.Swapped.{bytes_same, room_two, bytes_turned, records}
use Rattle.store.specs.declared.Order.{Order}
use Rattle.store.specs.declared.Request.{Request}
use Rattle.store.specs.Laws.Kept.{store_order_keeps}
use Rattle.machine.proofs.Exchange.Commute.{first_at, second_at}
use Rattle.claims.proofs.Splices.{Write, put, length_all}
use Rattle.claims.proofs.Placed.{order_write, request_write, linked_bytes, origin_by, zone_inside, request_zone}
use Rattle.claims.proofs.Steps.{call_event, taken_here, called_is, left_is, left_keeps, left_bytes, returned_none, fit, answer_of, answer_fits, answer_same}

-- ---- the two calls

module _ (b : List ℕ) (d e : Call) (i j : ℕ) (h : CallsOfTwoClients b d e i j) (p q : List ℕ) (lp : 1024 ≤ length p) (lq : 1024 ≤ length q) where
  abbrev x : Book
  x = book_of b

  -- the same records, the other way round
  abbrev d' : Call
  d' = lent d p

  abbrev e' : Call
  e' = lent e q

  abbrev by_first : Change
  by_first = step_of x (call_event d)

  abbrev by_second : Change
  by_second = step_of x (call_event e)

  first : Taken b d.event d.answer
  first = call_taken b d.event d.answer (sym (returned_is b d.event d.answer) ∙ h.first)

  second : Taken (called b d).book e.event e.answer
  second = call_taken (called b d).book e.event e.answer (sym (returned_is (called b d).book e.event e.answer) ∙ h.second)

  good : BookKept x
  good = book_kept x (keeps_held b first.keeps).rules

  -- the orders that they concern, as the machine finds them
  link_first : concerns x (call_event d) ≡ i + 1
  link_first = link_of b d.event (check_kept b first.keeps) d.bytes first.reads i h.first_concern

  link_second : concerns x (call_event e) ≡ j + 1
  link_second = link_of b e.event (check_kept b first.keeps) e.bytes second.reads j h.second_concern

  kinds_first : (2 ≤ (call_event d).kind) × ((call_event d).kind ≤ 9)
  kinds_first = kinds_of b d.event (check_kept b first.keeps) d.bytes first.reads i h.first_concern

  kinds_second : (2 ≤ (call_event e).kind) × ((call_event e).kind ≤ 9)
  kinds_second = kinds_of b e.event (check_kept b first.keeps) e.bytes second.reads j h.second_concern

  client_of : (link k : ℕ) → link ≡ k + 1 → client_at x link ≡ (order_in x k).client
  client_of link k z = let y : link - 1 ≡ k = omega arith in ap (λ (m : ℕ). (order_in x m).client) y

  of_two : OfTwoClients x (call_event d) (call_event e)
  of_two = record {
    kept = (keeps_held b first.keeps).rules;
    first_kind = kinds_first;
    second_kind = kinds_second;
    concern = (omega (arith, link_first), omega (arith, link_second));
    clients = λ z. h.clients (sym (client_of _ i link_first) ∙ z ∙ client_of _ j link_second);
    first = first.taken;
    second = ap (λ (y : Book). (step_of y (call_event e)).refusal) (sym (left_is b d h.bytes first)) ∙ second.taken;
  }

  machine : Exchanged x (call_event d) (call_event e)
  machine = two_clients x (call_event d) (call_event e) of_two

  ways : Both x (call_event d) (call_event e)
  ways = both_ways x (call_event d) (call_event e) of_two

  earlier : Taken b e.event q
  earlier = taken_here b e' first.keeps lq second.reads machine.taken_first

  later : Taken (called b e').book d.event p
  later =
      taken_here (called b e').book d' (left_keeps b e' h.bytes earlier) lp first.reads
      (ap (λ (y : Book). (step_of y (call_event d)).refusal) (left_is b e' h.bytes earlier) ∙ machine.taken_second)

  -- ---- the books that are left

  abbrev one : List ℕ
  one = after_two b d e

  abbrev two : List ℕ
  two = after_two b e' d'

  one_is : book_of one ≡ book_after (book_after x (call_event d)) (call_event e)
  one_is = left_is (called b d).book e (left_bytes b d h.bytes first) second ∙ ap (λ (y : Book). book_after y (call_event e)) (left_is b d h.bytes first)

  two_is : book_of two ≡ book_after (book_after x (call_event e)) (call_event d)
  two_is = left_is (called b e').book d' (left_bytes b e' h.bytes earlier) later ∙ ap (λ (y : Book). book_after y (call_event d)) (left_is b e' h.bytes earlier)

  -- what holds of the machine's two books holds of these
  both_are : (P : Book → Book → Type 0) → P (book_after (book_after x (call_event d)) (call_event e)) (book_after (book_after x (call_event e)) (call_event d)) → P (book_of one) (book_of two)
  both_are P r = subst (λ (y : Book). P y (book_of two)) (sym one_is) (subst (P (book_after (book_after x (call_event d)) (call_event e))) (sym two_is) r)

  opens : (client : ℕ) → open_of (book_of one) client ≡ open_of (book_of two) client
  opens client = both_are (λ y z. open_of y client ≡ open_of z client) (machine.opens client)

  right_one : OpenRight one
  right_one = right one (left_keeps (called b d).book e (left_bytes b d h.bytes first) second)

  right_two : OpenRight two
  right_two = right two (left_keeps (called b e').book d' (left_bytes b e' h.bytes earlier) later)

  books : SameBooks one two
  books = record {
    count = both_are (λ y z. length y.orders ≡ length z.orders) machine.count;
    orders = λ k. both_are (λ y z. SameOrder y z k) (machine.orders k);
    given = λ client. (right_one.given client, right_two.given client ∙ ap (opened 0) (sym (opens client)) ∙ sym (right_one.given client));
    stored = λ client. (right_one.stored client, right_two.stored client ∙ sym (opens client) ∙ sym (right_one.stored client));
  }

  -- ---- the changes that the machine makes, and their writes

  -- d's and e's on the book as it is, and each behind the other
  abbrev first_change : Change
  first_change = change_of x (call_event d)

  abbrev second_change : Change
  second_change = change_of x (call_event e)

  abbrev next_change : Change
  next_change = change_of (after x first_change) (call_event e)

  abbrev last_change : Change
  last_change = change_of (after x second_change) (call_event d)

  abbrev None : Change → Type 0
  None c = c.requests.added ≡ 0

  owned_first : Owned x i first_change
  owned_first = owned_of x (ruled x (keeps_held b first.keeps).rules) good (call_event d) i (handled x (call_event d) i kinds_first.0 kinds_first.1 link_first) ways.first.taken

  owned_second : Owned x j second_change
  owned_second = owned_of x (ruled x (keeps_held b first.keeps).rules) good (call_event e) j (handled x (call_event e) j kinds_second.0 kinds_second.1 link_second) ways.earlier.taken

  crossed : Crossed x i j first_change last_change second_change next_change
  crossed =
      let one-i : ways.i ≡ i = omega (arith, owned_first.there, ways.crossed.first.there) in
      let one-j : ways.j ≡ j = omega (arith, owned_second.there, ways.crossed.second.there) in
      subst (λ (m : ℕ). Crossed x m j first_change last_change second_change next_change) one-i
      (subst (λ (m : ℕ). Crossed x ways.i m first_change last_change second_change next_change) one-j ways.crossed)

  left_first : (called b d).book ≡ book_with b first_change
  left_first = ap (λ (o : Returned). o.book) (called_is b d h.bytes first) ∙ ap (book_with b) ways.first.step

  left_second : (called b e').book ≡ book_with b second_change
  left_second = ap (λ (o : Returned). o.book) (called_is b e' h.bytes earlier) ∙ ap (book_with b) ways.earlier.step

  step_next : step_of (book_of (called b d).book) (call_event e) ≡ next_change
  step_next = ap (λ (y : Book). step_of y (call_event e)) (left_is b d h.bytes first ∙ ways.first.left) ∙ ways.second.step

  step_last : step_of (book_of (called b e').book) (call_event d) ≡ last_change
  step_last = ap (λ (y : Book). step_of y (call_event d)) (left_is b e' h.bytes earlier ∙ ways.earlier.left) ∙ ways.later.step

  one_writes : one ≡ book_with (book_with b first_change) next_change
  one_writes = ap (λ (o : Returned). o.book) (called_is (called b d).book e (left_bytes b d h.bytes first) second) ∙ ap₂ book_with left_first step_next

  two_writes : two ≡ book_with (book_with b second_change) last_change
  two_writes = ap (λ (o : Returned). o.book) (called_is (called b e').book d' (left_bytes b e' h.bytes earlier) later) ∙ ap₂ book_with left_second step_last

  -- a place is the order's
  placed : (c f : Change) (k : ℕ) → c.place ≡ f.place → f.place ≡ k + 1 → c.place ≡ 0 → ⊥
  placed c f k y z w = omega arith

  pair : Pair b i j first_change last_change second_change next_change
  pair = record {
    long = (keeps_held b first.keeps).long;
    kept = good;
    clients = h.clients;
    first_word = first_of x i owned_first.inside;
    second_word = first_of x j owned_second.inside;
    crossed = crossed;
    first = subst (Fit b) ways.first.step (fit b d h.bytes first (placed by_first first_change i (ap (λ (c : Change). c.place) ways.first.step) owned_first.there));
    second = subst (Fit b) ways.earlier.step (fit b e' h.bytes earlier (placed by_second second_change j (ap (λ (c : Change). c.place) ways.earlier.step) owned_second.there));
    later =
        subst (λ (y : List ℕ). Fit y last_change) left_second
        (subst (Fit (called b e').book) step_last
        (fit (called b e').book d' (left_bytes b e' h.bytes earlier) later
        (placed (step_of (book_of (called b e').book) (call_event d)) first_change i (ap (λ (c : Change). c.place) step_last ∙ same_place crossed.first_linked) owned_first.there)));
    behind =
        subst (λ (y : List ℕ). Fit y next_change) left_first
        (subst (Fit (called b d).book) step_next
        (fit (called b d).book e (left_bytes b d h.bytes first) second
        (placed (step_of (book_of (called b d).book) (call_event e)) second_change j (ap (λ (c : Change). c.place) step_next ∙ same_place crossed.second_linked) owned_second.there)));
  }

  -- ---- how many requests were added

  adds_next : next_change.requests.added ≡ second_change.requests.added
  adds_next = ap (λ (r : Requests). r.added) (same_requests crossed.second_linked)

  one_after : book_of one ≡ after (after x first_change) next_change
  one_after = one_is ∙ ways.left_one

  count_one : request_count one ≡ length (after (after x first_change) next_change).requests
  count_one = sym (length_requests one) ∙ ap (λ (y : Book). length y.requests) one_after

  data Added : Type 0 where
    fewer : None first_change ⊎ None second_change → request_count one < request_count b + 2 → Added
    both : (None first_change → ⊥) → (None second_change → ⊥) → request_count one ≡ request_count b + 2 → Added

  added : Added
  added = go (ℕ_discrete first_change.requests.added 0) (ℕ_discrete second_change.requests.added 0)
    where
      go : Dec (None first_change) → Dec (None second_change) → Added
      go (yes y) (yes z) =
          fewer (inl y) (omega (arith, count_one, length_requests b, none_kept x first_change y, none_kept (after x first_change) next_change (adds_next ∙ z)))
      go (yes y) (no z) =
          fewer (inl y) (omega (arith, count_one, length_requests b, none_kept x first_change y, added_long (after x first_change) next_change (λ w. z (sym adds_next ∙ w))))
      go (no y) (yes z) =
          fewer (inr z) (omega (arith, count_one, length_requests b, added_long x first_change y, none_kept (after x first_change) next_change (adds_next ∙ z)))
      go (no y) (no z) =
          both y z (omega (arith, count_one, length_requests b, added_long x first_change y, added_long (after x first_change) next_change (λ w. z (sym adds_next ∙ w))))

  -- ---- both add one

  module _ (nc : None first_change → ⊥) (nd : None second_change → ⊥) where
    turned : Turned (length x.requests) (book_of one) (book_of two)
    turned =
        both_are (Turned (length x.requests))
        (turned_book x (call_event d) (call_event e) of_two (λ z. nc (sym (ap (λ (c : Change). c.requests.added) ways.first.step) ∙ z))
        (λ z. nd (sym (ap (λ (c : Change). c.requests.added) ways.earlier.step) ∙ z)))

    abbrev n : ℕ
    n = length x.requests

    abbrev qc : Request
    qc = first_change.requests.request

    abbrev qd : Request
    qd = second_change.requests.request

    abbrev from_c : ℕ
    from_c = origin_by b first_change

    abbrev from_d : ℕ
    from_d = origin_by b second_change

    -- the two records, as bytes
    record_first : span one (request_base n) request_size ≡ linked_bytes from_c qc
    record_first =
        ap (λ (y : List ℕ). span y (request_base n) request_size) one_writes
        ∙ (records b i j first_change last_change second_change next_change pair nc nd).0

    record_second : span one (request_base (n + 1)) request_size ≡ linked_bytes from_d qd
    record_second =
        ap (λ (y : List ℕ). span y (request_base (n + 1)) request_size) one_writes
        ∙ (records b i j first_change last_change second_change next_change pair nc nd).1

    order_first : turned_order n (order_in (book_of one) i) ≡ last_change.order
    order_first =
        sym (turned.orders i) ∙ ap (λ (y : Book). order_in y i) (two_is ∙ ways.left_two)
        ∙ second_at x j i second_change first_change last_change owned_second owned_first (same_place crossed.first_linked) (λ z. crossed.apart (sym z))

    order_second : turned_order n (order_in (book_of one) j) ≡ second_change.order
    order_second =
        sym (turned.orders j) ∙ ap (λ (y : Book). order_in y j) (two_is ∙ ways.left_two)
        ∙ first_at x j i second_change first_change last_change owned_second owned_first (same_place crossed.first_linked) (λ z. crossed.apart (sym z))

    -- a record stored is its write
    order_put : (s : List ℕ) (k : ℕ) (o : Order) → length s ≡ book_size → k < most_orders → store_order s k o ≡ put s (order_write k o)
    unfolding store_order put_order
    order_put s k o l m = if_true _ _ _ (and_from _ _ (eq-eqb (length s) book_size l) (lt-ltb k most_orders m))

    long_one : length one ≡ book_size
    long_one = (keeps_held one (left_keeps (called b d).book e (left_bytes b d h.bytes first) second)).long

    two_bytes : turned_bytes n i j one ≡ two
    two_bytes =
        let w₁ : Write = request_write (n + 1) from_c qc in
        let w₂ : Write = request_write n from_d qd in
        let room : n + 1 < most_requests = room_two b i j first_change last_change second_change next_change pair nc nd in
        let whole_c : WholeRequest qc = pair.first.request nc in
        let whole_d : WholeRequest qd = pair.second.request nd in
        let s₂ : List ℕ = put (put one w₁) w₂ in
        let s₃ : List ℕ = store_order s₂ j second_change.order in
        let l₂ : length s₂ ≡ book_size =
        length_all one (w₁ ∷ w₂ ∷ []) book_size long_one
        (every∷ (zone_inside w₁ (request_zone (n + 1) from_c qc room whole_c)) (every∷ (zone_inside w₂ (request_zone n from_d qd (omega arith) whole_d)) every[])) in
        let l₃ : length s₃ ≡ book_size = (store_order_keeps s₂ j second_change.order pair.second.order.fits).same ∙ l₂ in
        ap₂ (λ (q u : List ℕ). store_order (store_order (splice (splice one (request_base (n + 1)) q) (request_base n) u) j (turned_order n (order_in (book_of one) j))) i (turned_order n (order_in (book_of one) i))) record_first record_second
        ∙ ap₂ (λ (o u : Order). store_order (store_order s₂ j o) i u) order_second order_first
        ∙ order_put s₃ i last_change.order l₃ (omega (arith, owned_first.inside, good.orders))
        ∙ ap (λ (y : List ℕ). put y (order_write i last_change.order)) (order_put s₂ j second_change.order l₂ (omega (arith, owned_second.inside, good.orders)))
        ∙ ap (λ (y : List ℕ). put (put (put (put y w₁) w₂) (order_write j second_change.order)) (order_write i last_change.order)) one_writes
        ∙ bytes_turned b i j first_change last_change second_change next_change pair nc nd
        ∙ sym two_writes

  -- ---- all of it

  exchanged : CallsExchanged b d e d' e' i j
  exchanged = record {
    taken_first = returned_none b e' h.bytes earlier;
    taken_second = returned_none (called b e').book d' (left_bytes b e' h.bytes earlier) later;
    first_answer = record {
      written = answer_of by_first;
      fits = answer_fits by_first;
      one = ap (λ (o : Returned). o.answer) (called_is b d h.bytes first);
      two =
          ap (λ (o : Returned). o.answer) (called_is (called b e').book d' (left_bytes b e' h.bytes earlier) later)
          ∙ ap (splice p 0) (answer_same _ by_first later.taken first.taken (ap (λ (y : Book). (step_of y (call_event d)).output) (left_is b e' h.bytes earlier) ∙ machine.first_answer));
    };
    second_answer = record {
      written = answer_of by_second;
      fits = answer_fits by_second;
      one =
          ap (λ (o : Returned). o.answer) (called_is (called b d).book e (left_bytes b d h.bytes first) second)
          ∙ ap (splice e.answer 0) (answer_same _ by_second second.taken earlier.taken (ap (λ (y : Book). (step_of y (call_event e)).output) (left_is b d h.bytes first) ∙ machine.second_answer));
      two = ap (λ (o : Returned). o.answer) (called_is b e' h.bytes earlier);
    };
    books = books;
    few = λ l. same_of l added;
    two = λ l. bytes_of_lem l added;
    turned = λ l. turned_of l added;
  }
    where
      same_of : request_count one < request_count b + 2 → Added → one ≡ two
      same_of l (fewer z k) = one_writes ∙ bytes_same b i j first_change last_change second_change next_change pair z ∙ sym two_writes
      same_of l (both y z k) = absurd (omega arith)

      bytes_of_lem : request_count b + 2 ≤ request_count one → Added → turned_bytes (request_count b) i j one ≡ two
      bytes_of_lem l (fewer z k) = absurd (omega arith)
      bytes_of_lem l (both y z k) = ap (λ (m : ℕ). turned_bytes m i j one) (sym (length_requests b)) ∙ two_bytes y z

      turned_of : request_count b + 2 ≤ request_count one → Added → Turned (request_count b) (book_of one) (book_of two)
      turned_of l (fewer z k) = absurd (omega arith)
      turned_of l (both y z k) = subst (λ (m : ℕ). Turned m (book_of one) (book_of two)) (length_requests b) (turned y z)

-- TWO CLIENTS, EITHER ORDER
pub two_clients_on_bytes : TwoClientsOnBytes
two_clients_on_bytes b d e i j h p q lp lq = exchanged b d e i j h p q lp lq
