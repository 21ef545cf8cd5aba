-- Two calls of `event` whose records concern orders of different clients may be exchanged (change request 12), on bytes. Rests on Concern, Claims, machine's
-- Exchange (what "the same record and requests" means) and opens.
use Rattle.std.specs.Prelude.{ℕ, ◌+◌, ◌≤◌, ◌<◌, ◌≡◌, List, length}
use Rattle.prelude.specs.Number.{Bytes}
use Rattle.prelude.specs.Span.{span, splice}
use Rattle.store.specs.Layout.{request_size, request_base}
use Rattle.store.specs.Book.{book_of, order_in, request_count, store_order}
use Rattle.machine.specs.Exchange.{open_of, SameOrder, turned_order, Turned}
use Rattle.index.specs.Index.{stored_open}
use Rattle.opens.specs.Opens.{opened, open_call}
use Rattle.step.specs.Entries.{Returned, event_of}
use Rattle.claims.specs.Claims.{Call}
use Rattle.claims.specs.Concern.{Concerns}

abbrev pub called : List ℕ → Call → Returned
called b c = event_of b c.event c.answer

-- the book's bytes after two calls, one after the other
abbrev pub after_two : List ℕ → Call → Call → List ℕ
after_two b d e = (called (called b d).book e).book

-- the same record, lent another answer buffer
abbrev pub lent : Call → (answer : List ℕ) → Call
lent c a = record { event = c.event; answer = a; bytes = c.bytes }

-- d concerns the order at index i and e that at index j, of another client, both by the book b before them; d is taken, and then e
pub record CallsOfTwoClients (b : List ℕ) (d e : Call) (i j : ℕ) : Type 0 where
  pub bytes : Bytes b
  pub first_concern : Concerns b d.event i
  pub second_concern : Concerns b e.event j
  pub clients : (order_in (book_of b) i).client ≡ (order_in (book_of b) j).client → ⊥
  pub first : (called b d).returned ≡ 0
  pub second : (called (called b d).book e).returned ≡ 0

-- the same bytes at the front of both answer buffers, and nothing else written: `out` and `out'` are what `a` and `a'` are after their calls
pub record SameAnswer (a a' out out' : List ℕ) : Type 0 where
  pub written : List ℕ
  pub fits : length written ≤ 1024
  pub one : out ≡ splice a 0 written
  pub two : out' ≡ splice a' 0 written

-- the bytes with the 128-byte records of the requests t and t + 1 exchanged, and the links of the orders at i and j that name them; every other byte as it was
abbrev pub turned_bytes : (t i j : ℕ) → List ℕ → List ℕ
turned_bytes t i j b =
    let x = book_of b in
    let turned : List ℕ =
    splice (splice b (request_base (t + 1)) (span b (request_base t) request_size)) (request_base t) (span b (request_base (t + 1)) request_size) in
    store_order (store_order turned j (turned_order t (order_in x j))) i (turned_order t (order_in x i))

-- what two books, in bytes, have in common after the two ways round
pub record SameBooks (one two : List ℕ) : Type 0 where
  -- every order has the same record, links read as the requests that they name, and the same requests in the same order
  pub count : length (book_of one).orders ≡ length (book_of two).orders
  pub orders : (i : ℕ) → SameOrder (book_of one) (book_of two) i
  -- `open_quantity` gives each client the same sum, which is what both store
  pub given : (client : ℕ) → (open_call one client ≡ opened 0 (open_of (book_of one) client)) × (open_call two client ≡ open_call one client)
  pub stored : (client : ℕ) → (stored_open one client ≡ open_of (book_of one) client) × (stored_open two client ≡ stored_open one client)

-- d and then e, or e' and then d': the same two records, lent buffers of their own; i and j are the orders that they concern
pub record CallsExchanged (b : List ℕ) (d e d' e' : Call) (i j : ℕ) : Type 0 where
  -- taken one way round, they are taken the other
  pub taken_first : (called b e').returned ≡ 0
  pub taken_second : (called (called b e').book d').returned ≡ 0
  -- each the same answer, byte for byte
  pub first_answer : SameAnswer d.answer d'.answer (called b d).answer (called (called b e').book d').answer
  pub second_answer : SameAnswer e.answer e'.answer (called (called b d).book e).answer (called b e').answer
  pub books : SameBooks (after_two b d e) (after_two b e' d')
  -- with fewer than two requests added the books are equal byte for byte, all 65,536
  pub few : request_count (after_two b d e) < request_count b + 2 → after_two b d e ≡ after_two b e' d'
  -- with two they are, once the last two requests are exchanged, and the links that name them
  pub two : request_count b + 2 ≤ request_count (after_two b d e) → turned_bytes (request_count b) i j (after_two b d e) ≡ after_two b e' d'
  -- and so of every order and request of the two books
  pub turned : request_count b + 2 ≤ request_count (after_two b d e) → Turned (request_count b) (book_of (after_two b d e)) (book_of (after_two b e' d'))

-- TWO CLIENTS, EITHER ORDER: on any bytes, with any records, and any answer buffers of 1,024 bytes or more the other way round
abbrev pub TwoClientsOnBytes : Type 0
TwoClientsOnBytes = (b : List ℕ) (d e : Call) (i j : ℕ) → CallsOfTwoClients b d e i j
    → (x y : List ℕ) → 1024 ≤ length x → 1024 ≤ length y → CallsExchanged b d e (lent d x) (lent e y) i j
