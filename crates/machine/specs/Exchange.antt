-- Change request 12's claim on the machine: two events of kinds 2 to 9 that concern orders of different clients, taken one way round, are taken the other
-- with the same answers, and leave the same orders. Rests on Machine and Rules.
-- Links are indices, and two requests that are added change places: a link is read as the request that it names.
use Rattle.std.specs.Prelude.{ℕ, ◌+◌, ◌-◌, ◌≤◌, ◌<◌, ◌≡◌, ◌⊎◌, true, List, eqb, length}
use Rattle.prelude.specs.Cases.{if◌then◌otherwise◌, maybe}
use Rattle.prelude.specs.Totals.{total_of, those}
use Rattle.prelude.specs.declared.Text.{Text}
use Rattle.store.specs.declared.Order.{Order}
use Rattle.store.specs.declared.Request.{Request}
use Rattle.store.specs.Book.{Book, order_in, request_in}
use Rattle.store.specs.Finds.{find_name, find_downstream}
use Rattle.text.specs.Stored.{no_text}
use Rattle.machine.specs.Constants.{event_cancel, event_replace, event_gateway_cancel}
use Rattle.machine.specs.Orders.{leaves_qty, pending_terms}
use Rattle.machine.specs.Changes.{Event}
use Rattle.machine.specs.Machine.{order_of, order_link, step_of, book_after}
use Rattle.machine.specs.Rules.{rules}

-- the link of the order that an event of kinds 2 to 9 concerns, 0 for none
unfoldable pub concerns : Book → Event → ℕ
concerns b e =
    if eqb e.kind event_cancel then order_of b e.client e.ids.origclordid
    otherwise if eqb e.kind event_replace then order_of b e.client e.ids.origclordid
    otherwise if eqb e.kind event_gateway_cancel then maybe 0 (λ i. i + 1) (find_name b e.ids.name)
    otherwise maybe 0 (order_link b) (find_downstream b e.ids.downstream)

abbrev pub client_at : Book → ℕ → ℕ
client_at b link = (order_in b (link - 1)).client

-- an order's requests, in the order of their numbers
abbrev pub requests_of : Book → ℕ → List Request
requests_of b i = those (λ q. eqb q.order i) b.requests

-- what a link names
abbrev pub link_text : Book → ℕ → Text
link_text b k = if eqb k 0 then no_text otherwise (request_in b (k - 1)).downstream

-- the same record in both books, links read as what they name
pub record SameRecord (b c : Book) (o p : Order) : Type 0 where
  pub client : o.client ≡ p.client
  pub venue : o.venue ≡ p.venue
  pub names : o.names ≡ p.names
  pub terms : o.terms ≡ p.terms
  pub state : o.state ≡ p.state
  pub amendments : o.links.amendments ≡ p.links.amendments
  pub current : link_text b o.links.current ≡ link_text c p.links.current
  pub cancel : link_text b o.links.cancel ≡ link_text c p.links.cancel
  pub pending : link_text b o.pending.request ≡ link_text c p.pending.request
  pub wanted : pending_terms o ≡ pending_terms p
  pub tries : o.gateway.tries ≡ p.gateway.tries
  pub unsent : o.gateway.unsent ≡ p.gateway.unsent
  pub stuck : o.gateway.stuck ≡ p.gateway.stuck
  pub refused : o.gateway.refusedsends ≡ p.gateway.refusedsends
  pub named : link_text b o.gateway.origdownstream ≡ link_text c p.gateway.origdownstream

-- the order at index i has the same record in both books, and the same requests
pub record SameOrder (b c : Book) (i : ℕ) : Type 0 where
  pub order : SameRecord b c (order_in b i) (order_in c i)
  pub requests : requests_of b i ≡ requests_of c i

-- what the client's orders have left open
abbrev pub open_of : Book → ℕ → ℕ
open_of b client = total_of (λ (o : Order). if eqb o.client client then leaves_qty o otherwise 0) b.orders

pub record Exchanged (b : Book) (d e : Event) : Type 0 where
  -- taken one way round, they are taken the other
  pub taken_first : (step_of b e).refusal ≡ 0
  pub taken_second : (step_of (book_after b e) d).refusal ≡ 0
  -- each the same answer: messages and alarm
  pub first_answer : (step_of (book_after b e) d).output ≡ (step_of b d).output
  pub second_answer : (step_of (book_after b d) e).output ≡ (step_of b e).output
  pub count : length (book_after (book_after b d) e).orders ≡ length (book_after (book_after b e) d).orders
  pub orders : (i : ℕ) → SameOrder (book_after (book_after b d) e) (book_after (book_after b e) d) i
  pub opens : (client : ℕ) → open_of (book_after (book_after b d) e) client ≡ open_of (book_after (book_after b e) d) client

-- two events of kinds 2 to 9 that concern orders of different clients, on a book that keeps its rules: d taken, and then e
pub record OfTwoClients (b : Book) (d e : Event) : Type 0 where
  pub kept : rules b ≡ true
  pub first_kind : (2 ≤ d.kind) × (d.kind ≤ 9)
  pub second_kind : (2 ≤ e.kind) × (e.kind ≤ 9)
  -- "concern" is judged on the book before both
  pub concern : (0 < concerns b d) × (0 < concerns b e)
  pub clients : client_at b (concerns b d) ≡ client_at b (concerns b e) → ⊥
  pub first : (step_of b d).refusal ≡ 0
  pub second : (step_of (book_after b d) e).refusal ≡ 0

abbrev pub TwoClients : Type 0
TwoClients = (b : Book) (d e : Event) → OfTwoClients b d e → Exchanged b d e

-- if at most one of them adds a request, the books are equal
abbrev pub SameBook : Type 0
SameBook = (b : Book) (d e : Event) → OfTwoClients b d e → ((step_of b d).requests.added ≡ 0) ⊎ ((step_of b e).requests.added ≡ 0)
    → book_after (book_after b d) e ≡ book_after (book_after b e) d

-- ---- "only the place of a request in the table may differ"

-- links t + 1 and t + 2 exchanged
unfoldable pub turned_link : ℕ → ℕ → ℕ
turned_link t k = if eqb k (t + 1) then t + 2 otherwise if eqb k (t + 2) then t + 1 otherwise k

unfoldable pub turned_order : ℕ → Order → Order
turned_order t o = record {
  client = o.client;
  venue = o.venue;
  names = o.names;
  terms = o.terms;
  state = o.state;
  links = record { amendments = o.links.amendments; current = turned_link t o.links.current; cancel = turned_link t o.links.cancel };
  pending = record {
    request = turned_link t o.pending.request;
    qty = o.pending.qty;
    price = o.pending.price;
    ordtype = o.pending.ordtype;
    timeinforce = o.pending.timeinforce;
  };
  gateway = record {
    tries = o.gateway.tries;
    unsent = o.gateway.unsent;
    stuck = o.gateway.stuck;
    origdownstream = turned_link t o.gateway.origdownstream;
    refusedsends = o.gateway.refusedsends;
  };
}

-- c is b with its last two requests exchanged, and the links that name them
pub record Turned (t : ℕ) (b c : Book) : Type 0 where
  pub setting : c.setting ≡ b.setting
  pub count : length c.orders ≡ length b.orders
  pub orders : (i : ℕ) → order_in c i ≡ turned_order t (order_in b i)
  pub requests : (length b.requests ≡ t + 2) × (length c.requests ≡ t + 2)
  pub older : (k : ℕ) → k < t → request_in c k ≡ request_in b k
  pub first : request_in c (t + 1) ≡ request_in b t
  pub second : request_in c t ≡ request_in b (t + 1)

-- if both add a request, these two are exchanged
abbrev pub TurnedBook : Type 0
TurnedBook = (b : Book) (d e : Event) → OfTwoClients b d e → ((step_of b d).requests.added ≡ 0 → ⊥) → ((step_of b e).requests.added ≡ 0 → ⊥)
    → Turned (length b.requests) (book_after (book_after b d) e) (book_after (book_after b e) d)
