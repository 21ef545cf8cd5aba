-- Words by which an order of one book is compared with its place in another: a request but for its order's index, an order that names another request, and
-- gateway cancels that name requests of their own orders. Rests on store's book and machine's orders.
use Rattle.std.specs.Prelude.{ℕ, ◌-◌, ◌≤◌, ◌<◌, ◌≡◌, ◌⊎◌, length}
use Rattle.store.specs.declared.Order.{Order}
use Rattle.store.specs.declared.Request.{Request}
use Rattle.store.specs.Book.{Book, order_in, request_in}
use Rattle.machine.specs.Orders.{with_gateway}

-- a request, but for the index of its order
abbrev pub alone : Request → Request
alone q = record { order = 0; kind = q.kind; answered = q.answered; clordid = q.clordid; origclordid = q.origclordid; downstream = q.downstream; outcome = q.outcome }

-- the order with another `gateway.origdownstream`
abbrev pub naming : (link : ℕ) → Order → Order
naming link o =
    with_gateway
    (record { tries = o.gateway.tries; unsent = o.gateway.unsent; stuck = o.gateway.stuck; origdownstream = link; refusedsends = o.gateway.refusedsends })
    o

-- the link is 0, or that of a request of order i
abbrev pub OwnLink : Book → (i link : ℕ) → Type 0
OwnLink b i link = (link ≡ 0) ⊎ ((0 < link) × (link ≤ length b.requests) × ((request_in b (link - 1)).order ≡ i))

-- each order's gateway cancel names nothing, or a request of that order
abbrev pub OwnNamed : Book → Type 0
OwnNamed b = (i : ℕ) → i < length b.orders → OwnLink b i (order_in b i).gateway.origdownstream
