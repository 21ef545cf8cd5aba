-- A PART OF A BOOK, the orders that pass a test, MOVED BEHIND WHAT ANOTHER BOOK HOLDS: "orders in booking order and requests in the order of sending", each order
-- with all its requests. What moves has the same fields; the numbers that name a place, an order's links and a request's order, are those of the new places.
-- What stands in quotes is the desk's wording. Rests on machine.
use Rattle.std.specs.Prelude.{ℕ, zero, suc, ◌+◌, ◌-◌, Bool, not, ◌&&◌, ◌||◌, List, [], ◌∷◌, ◌++◌, eqb, length}
use Rattle.prelude.specs.Below.{count_below, first_below}
use Rattle.prelude.specs.Cases.{if◌then◌otherwise◌, maybe}
use Rattle.store.specs.declared.Order.{Order}
use Rattle.store.specs.declared.Request.{Request}
use Rattle.store.specs.Book.{Book, order_in, request_in, empty_book}
use Rattle.machine.specs.Orders.{is_done}
use Rattle.machine.specs.Changes.{is_gateway}

-- the values of f at the numbers below n that pass, in order
module _ {A : Type 0} where
  unfoldable pub passing : (ℕ → Bool) → (ℕ → A) → ℕ → List A
  passing p f zero = []
  passing p f (suc n) = passing p f n ++ (if p n then f n ∷ [] otherwise [])

-- ---- which orders

unfoldable pub done_at : Book → ℕ → Bool
done_at b i = is_done (order_in b i).state.status

abbrev pub live_at : Book → ℕ → Bool
live_at b i = not (done_at b i)

-- request j is of an order that passes
abbrev pub of_passing : (ℕ → Bool) → Book → ℕ → Bool
of_passing p b j = p (request_in b j).order

-- ---- links: 0 for none, else one more than the request's index

-- the link of the same request behind so many others, if the requests that pass go there
unfoldable pub moved_link : (passes : ℕ → Bool) (behind link : ℕ) → ℕ
moved_link passes behind link = if eqb link 0 then 0 otherwise behind + count_below passes (link - 1) + 1

-- "a gateway's cancel of the same order, or its current request if it has none": of order i
unfoldable pub own_cancel : Book → (i : ℕ) → ℕ
own_cancel b i =
    maybe (order_in b i).links.current (λ j. j + 1)
    (first_below (λ j. eqb (request_in b j).order i && is_gateway (request_in b j)) (length b.requests))

-- what order i's gateway cancel names, `gateway.origdownstream`: in a book that no events led to this may be a request of an order that does not go along
unfoldable pub named_along : (p : ℕ → Bool) → Book → (i : ℕ) → ℕ
named_along p b i =
    let link = (order_in b i).gateway.origdownstream in
    if eqb link 0 || of_passing p b (link - 1) then link otherwise own_cancel b i

-- ---- an order and a request as they stand behind so many requests, or orders

unfoldable pub moved_order : (p : ℕ → Bool) (behind : ℕ) → Book → (i : ℕ) → Order
moved_order p behind b i =
    let o = order_in b i in
    let moved : ℕ → ℕ = moved_link (of_passing p b) behind in
    record {
      client = o.client;
      venue = o.venue;
      names = o.names;
      terms = o.terms;
      state = o.state;
      links = record { amendments = o.links.amendments; current = moved o.links.current; cancel = moved o.links.cancel };
      pending = record {
        request = moved o.pending.request;
        qty = o.pending.qty;
        price = o.pending.price;
        ordtype = o.pending.ordtype;
        timeinforce = o.pending.timeinforce;
      };
      gateway = record {
        tries = o.gateway.tries;
        unsent = o.gateway.unsent;
        stuck = o.gateway.stuck;
        origdownstream = moved (named_along p b i);
        refusedsends = o.gateway.refusedsends;
      };
    }

unfoldable pub moved_request : (p : ℕ → Bool) (behind : ℕ) → Request → Request
moved_request p behind q = record {
  order = behind + count_below p q.order;
  kind = q.kind;
  answered = q.answered;
  clordid = q.clordid;
  origclordid = q.origclordid;
  downstream = q.downstream;
  outcome = q.outcome;
}

-- ---- THE MOVE

-- the orders of b that pass, with all their requests, behind what `into` holds
unfoldable pub joined : (p : ℕ → Bool) → (into b : Book) → Book
joined p into b = record {
  setting = into.setting;
  orders = into.orders ++ passing p (moved_order p (length into.requests) b) (length b.orders);
  requests = into.requests ++ passing (of_passing p b) (λ j. moved_request p (length into.orders) (request_in b j)) (length b.requests);
}

-- the orders of b that pass, alone
abbrev pub part : (p : ℕ → Bool) → Book → Book
part p b = joined p (empty_book b.setting) b

-- what a retirement leaves of the book, and of the archive: "the live orders stay in theirs"; "every done order goes there with all its requests, behind what it holds"
abbrev pub live_part : Book → Book
live_part b = part (live_at b) b

abbrev pub archived : (archive b : Book) → Book
archived a b = joined (done_at b) a b

-- how many go
abbrev pub orders_gone : Book → ℕ
orders_gone b = count_below (done_at b) (length b.orders)

abbrev pub requests_gone : Book → ℕ
requests_gone b = count_below (of_passing (done_at b) b) (length b.requests)
