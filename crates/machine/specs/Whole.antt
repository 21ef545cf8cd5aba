-- What the book's bytes can hold: every number fits its field and every text has 32 bytes. An order and a request that do are read back as they were written.
-- Rests on Kept, and on store for what its layout can write.
use Rattle.std.specs.Prelude.{ℕ, ◌^◌, ◌<◌, ◌≡◌, true, length}
use Rattle.prelude.specs.Texts.{WholeText}
use Rattle.store.specs.Book.{Book, empty_book, order_in, request_in}
use Rattle.store.specs.Orders.{WholeOrder}
use Rattle.store.specs.Requests.{WholeRequest}
use Rattle.machine.specs.Changes.{Event}
use Rattle.machine.specs.Machine.{book_after}
use Rattle.machine.specs.Rules.{rules}
use Rattle.machine.specs.Events.{Ranged}

pub record WholeBook (b : Book) : Type 0 where
  pub setting : b.setting < 2 ^ 32
  pub order : (i : ℕ) → i < length b.orders → WholeOrder (order_in b i)
  pub request : (j : ℕ) → j < length b.requests → WholeRequest (request_in b j)

-- the same of the event's fields that a book takes over as they are
pub record WholeEvent (e : Event) : Type 0 where
  pub client : e.client < 2 ^ 16
  pub venue : e.venue < 2 ^ 16
  pub name : WholeText e.ids.name
  pub clordid : WholeText e.ids.clordid
  pub origclordid : WholeText e.ids.origclordid
  pub symbol : WholeText e.ids.symbol
  pub venueorderid : WholeText e.ids.venueorderid

abbrev pub WholeStart : Type 0
WholeStart = (setting : ℕ) → setting < 2 ^ 32 → WholeBook (empty_book setting)

abbrev pub WholeKept : Type 0
WholeKept = (b : Book) (e : Event) → Ranged e → WholeEvent e → rules b ≡ true → WholeBook b → WholeBook (book_after b e)
