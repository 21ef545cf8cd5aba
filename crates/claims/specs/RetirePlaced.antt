-- WHERE A RETIREMENT PUTS EVERYTHING (the desk's request of retirement), on bytes: each order with its record and its requests in exactly one of book and archive,
-- what the archive held where it was, and open quantities and nets as they were. Rests on Net, machine's Exchange, opens, net and retire.
-- Books are read by `book_of`; an order is found by its name and a request by its downstream ClOrdID, and a link is read as the request that it names.
use Rattle.std.specs.Prelude.{ℕ, ◌+◌, ◌-◌, ◌^◌, ◌≤◌, ◌<◌, ◌≡◌, ◌⊎◌, true, false, List, [], ◌∷◌, map, length, None, Some}
use Rattle.prelude.specs.Number.{Bytes}
use Rattle.prelude.specs.declared.Text.{Text}
use Rattle.store.specs.declared.Order.{Order}
use Rattle.store.specs.Book.{Book, order_in, request_in, book_of}
use Rattle.store.specs.Finds.{find_name, find_downstream}
use Rattle.machine.specs.Constants.{gateway_kind}
use Rattle.machine.specs.Exchange.{requests_of, SameRecord}
use Rattle.machine.specs.Orders.{is_done}
use Rattle.net.specs.Net.{Signed, difference, filled_in, least_scratch, least_lines, net_call}
use Rattle.opens.specs.Opens.{open_call}
use Rattle.parts.specs.Alike.{alone, naming, OwnNamed}
use Rattle.retire.specs.Retire.{Retired, retire_of}
use Rattle.step.specs.Entries.{event_of, start_of, start_refusal}
use Rattle.claims.specs.Claims.{Call}
use Rattle.claims.specs.Net.{plus, said_net, Says}

-- ---- an order and its requests in another book

-- order i of b, as o says it, stands in c at k
pub record StandsAt (b c : Book) (i : ℕ) (o : Order) (k : ℕ) : Type 0 where
  -- its name finds it
  pub found : find_name c o.names.name ≡ Some k
  -- the same record, links read as the requests that they name
  pub same : SameRecord b c o (order_in c k)
  -- the same requests in the same order, with their outcomes
  pub requests : map alone (requests_of b i) ≡ map alone (requests_of c k)

-- request j of b stands in c at k
pub record SentAt (b c : Book) (j k : ℕ) : Type 0 where
  -- its downstream ClOrdID finds it
  pub found : find_downstream c (request_in b j).downstream ≡ Some k
  pub same : alone (request_in c k) ≡ alone (request_in b j)
  -- it is of the order of that name
  pub order : (order_in c (request_in c k).order).names.name ≡ (order_in b (request_in b j).order).names.name

-- ---- live and done

pub record LiveOrder (b : Book) (i : ℕ) : Type 0 where
  pub there : i < length b.orders
  pub live : is_done (order_in b i).state.status ≡ false

pub record DoneOrder (b : Book) (i : ℕ) : Type 0 where
  pub there : i < length b.orders
  pub done : is_done (order_in b i).state.status ≡ true

-- a request of a live order, and of a done one
pub record LiveRequest (b : Book) (j : ℕ) : Type 0 where
  pub there : j < length b.requests
  pub live : LiveOrder b (request_in b j).order

pub record DoneRequest (b : Book) (j : ℕ) : Type 0 where
  pub there : j < length b.requests
  pub done : DoneOrder b (request_in b j).order

-- ---- the one exception: what a live order's gateway cancel names may go

-- the link is that of a gateway's cancel of order i
pub record GatewaysOwn (b : Book) (i link : ℕ) : Type 0 where
  pub there : (0 < link) × (link ≤ length b.requests)
  pub own : (request_in b (link - 1)).order ≡ i
  pub kind : (request_in b (link - 1)).kind ≡ gateway_kind

-- and of those the one sent first
pub record GatewaysFirst (b : Book) (i link : ℕ) : Type 0 where
  pub owned : GatewaysOwn b i link
  pub first : (k : ℕ) → GatewaysOwn b i k → link ≤ k

-- what the gateway cancel of order i is read to name
pub record NamedStill (b : Book) (i link : ℕ) : Type 0 where
  -- nothing, if it named nothing
  pub none : (order_in b i).gateway.origdownstream ≡ 0 → link ≡ 0
  -- what it named, if that is a request of a live order
  pub stays : LiveRequest b ((order_in b i).gateway.origdownstream - 1) → link ≡ (order_in b i).gateway.origdownstream
  -- else the first gateway's cancel of the same order, or its current request if it has none
  pub goes : 0 < (order_in b i).gateway.origdownstream → DoneRequest b ((order_in b i).gateway.origdownstream - 1)
      → GatewaysFirst b i link ⊎ (((k : ℕ) → GatewaysOwn b i k → ⊥) × (link ≡ (order_in b i).links.current))

-- ---- each order in exactly one of the two

pub record LivePlaced (was held left kept : Book) (i : ℕ) : Type 0 where
  pub place : ℕ
  pub link : ℕ
  pub stands : StandsAt was left i (naming link (order_in was i)) place
  pub named : NamedStill was i link
  -- the archive has of its name what it had
  pub apart : find_name kept (order_in was i).names.name ≡ find_name held (order_in was i).names.name

pub record DonePlaced (was held left kept : Book) (i : ℕ) : Type 0 where
  pub place : ℕ
  pub stands : StandsAt was kept i (order_in was i) place
  -- behind what the archive held
  pub behind : length held.orders ≤ place
  -- the book has no order of its name, and the archive had none
  pub apart : find_name left (order_in was i).names.name ≡ None
  pub fresh : find_name held (order_in was i).names.name ≡ None

-- what stands at k of the book came from a live order, and what stands at k of the archive stood there or came from a done order
pub record FromLive (was left : Book) (k : ℕ) : Type 0 where
  pub place : ℕ
  pub live : LiveOrder was place
  pub found : find_name left (order_in was place).names.name ≡ Some k

pub record FromDone (was kept : Book) (k : ℕ) : Type 0 where
  pub place : ℕ
  pub done : DoneOrder was place
  pub found : find_name kept (order_in was place).names.name ≡ Some k

-- the book `was` and the archive `held` have become the book `left` and the archive `kept`
pub record Placed (was held left kept : Book) : Type 0 where
  -- a live order is in the book, a done one in the archive
  pub live : (i : ℕ) → LiveOrder was i → LivePlaced was held left kept i
  pub done : (i : ℕ) → DoneOrder was i → DonePlaced was held left kept i
  -- nothing is added and nothing lost
  pub orders : length left.orders + length kept.orders ≡ length was.orders + length held.orders
  pub requests : length left.requests + length kept.requests ≡ length was.requests + length held.requests
  pub from_live : (k : ℕ) → k < length left.orders → FromLive was left k
  pub from_done : (k : ℕ) → k < length kept.orders → (k < length held.orders) ⊎ FromDone was kept k
  -- what the archive held stands there as it did, at its index, and no request is added to it
  pub held_orders : (k : ℕ) → k < length held.orders → order_in kept k ≡ order_in held k
  pub held_requests : (j : ℕ) → j < length held.requests → request_in kept j ≡ request_in held j
  pub held_own : (k : ℕ) → k < length held.orders → requests_of kept k ≡ requests_of held k
  -- booking order is kept
  pub booked_live : (i j : ℕ) → i < j → LiveOrder was i → LiveOrder was j
      → (k l : ℕ) → find_name left (order_in was i).names.name ≡ Some k → find_name left (order_in was j).names.name ≡ Some l → k < l
  pub booked_done : (i j : ℕ) → i < j → DoneOrder was i → DoneOrder was j
      → (k l : ℕ) → find_name kept (order_in was i).names.name ≡ Some k → find_name kept (order_in was j).names.name ≡ Some l → k < l
  -- each request goes with its order
  pub sent_live : (j : ℕ) → LiveRequest was j → (k : ℕ) × SentAt was left j k
  pub sent_done : (j : ℕ) → DoneRequest was j → (k : ℕ) × SentAt was kept j k × (length held.requests ≤ k)
  -- and the order of sending is kept, of requests of any orders
  pub sending_live : (i j : ℕ) → i < j → LiveRequest was i → LiveRequest was j
      → (k l : ℕ) → find_downstream left (request_in was i).downstream ≡ Some k → find_downstream left (request_in was j).downstream ≡ Some l → k < l
  pub sending_done : (i j : ℕ) → i < j → DoneRequest was i → DoneRequest was j
      → (k l : ℕ) → find_downstream kept (request_in was i).downstream ≡ Some k → find_downstream kept (request_in was j).downstream ≡ Some l → k < l
  -- the exception does not arise if gateway cancels name their own orders' requests
  pub exact : OwnNamed was → (i : ℕ) → LiveOrder was i → (k : ℕ) × StandsAt was left i (order_in was i) k

-- ---- open quantities and nets

-- two nets added up
abbrev pub added : Signed → Signed → Signed
added x y = difference (x.above + y.above) (x.below + y.below)

-- what the call `net_position` writes of book and archive afterwards adds up to what it writes of them before, whatever is lent
abbrev pub NetsAdd : (b a left kept : List ℕ) → Type 0
NetsAdd b a left kept = (scratch : ℕ) (lines : List ℕ) → least_scratch ≤ scratch → least_lines ≤ length lines → (client : ℕ) (symbol : Text)
    → added (said_net (net_call left scratch lines) client symbol) (said_net (net_call kept scratch lines) client symbol)
    ≡ added (said_net (net_call b scratch lines) client symbol) (said_net (net_call a scratch lines) client symbol)

pub record SumsStay (b a : List ℕ) (r : Retired) : Type 0 where
  -- `open_quantity` gives each client the same, of the book and of the archive
  pub given : (client : ℕ) → open_call r.book client ≡ open_call b client
  pub given_archive : (client : ℕ) → open_call r.archive client ≡ open_call a client
  -- bought and sold add up to what they were
  pub filled : (client : ℕ) (symbol : Text) → plus (filled_in (book_of r.book) client symbol) (filled_in (book_of r.archive) client symbol)
      ≡ plus (filled_in (book_of b) client symbol) (filled_in (book_of a) client symbol)
  -- and so do the nets that `net_position` writes; the call is taken on both, and says what was bought and sold
  pub nets : NetsAdd b a r.book r.archive
  pub said : Says r.book (filled_in (book_of r.book))
  pub said_archive : Says r.archive (filled_in (book_of r.archive))

-- ---- the theorem

-- what `retire` leaves of two buffers of any bytes, if it is taken
pub record Retires (b a : List ℕ) : Type 0 where
  pub placed : Placed (book_of b) (book_of a) (book_of (retire_of b a).book) (book_of (retire_of b a).archive)
  pub sums : SumsStay b a (retire_of b a)

-- a call of `event`, or a retirement into an archive of any bytes
pub data Act : Type 0 where
  event : Call → Act
  retire : (archive : List ℕ) → Act

abbrev pub book_then : List ℕ → Act → List ℕ
book_then b (event c) = (event_of b c.event c.answer).book
book_then b (retire archive) = (retire_of b archive).book

-- the book's bytes after all of them, taken or refused
abbrev pub book_acted : List ℕ → List Act → List ℕ
book_acted b [] = b
book_acted b (x ∷ xs) = book_acted (book_then b x) xs

pub record RetirePlacedOnBytes : Type 0 where
  pub retires : (b a : List ℕ) → Bytes b → Bytes a → (retire_of b a).returned.refusal ≡ 0 → Retires b a
  -- the exception does not arise in a book that events and retirements led to: there gateway cancels name their own orders' requests
  pub own : (b : List ℕ) (setting : ℕ) → setting < 2 ^ 32 → start_refusal b ≡ 0 → (xs : List Act) → OwnNamed (book_of (book_acted (start_of b setting) xs))
  -- on any book each event keeps it so, and each retirement of both
  pub own_event : (b r a : List ℕ) → Bytes b → Bytes r → OwnNamed (book_of b) → OwnNamed (book_of (event_of b r a).book)
  pub own_retire : (b a : List ℕ) → Bytes b → OwnNamed (book_of b) → OwnNamed (book_of a)
      → OwnNamed (book_of (retire_of b a).book) × OwnNamed (book_of (retire_of b a).archive)
