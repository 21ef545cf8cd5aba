-- What `open_quantity` gives of each client is the sum of `leaves_qty` over its orders (change request 4), on bytes. Rests on Claims, opens and index.
use Rattle.std.specs.Prelude.{ℕ, ◌<◌, ◌^◌, ◌≡◌, true, List, [], ◌∷◌, Some}
use Rattle.prelude.specs.Number.{Bytes}
use Rattle.store.specs.Book.{book_of, order_in, order_count, store_open}
use Rattle.store.specs.Finds.{find_client}
use Rattle.machine.specs.Exchange.{open_of}
use Rattle.index.specs.Index.{links_right, stored_open}
use Rattle.rules.specs.Keeps.{ruled_of}
use Rattle.opens.specs.Opens.{opened, open_call}
use Rattle.step.specs.Entries.{event_of, start_of, start_refusal, check_of}
use Rattle.claims.specs.Claims.{Call, Exactly}

-- the book's bytes after a list of calls, taken or refused
abbrev pub bytes_after : List ℕ → List Call → List ℕ
bytes_after b [] = b
bytes_after b (i ∷ is) = bytes_after (event_of b i.event i.answer).book is

-- of each client: the call gives the sum, 0 for one without orders, and that sum is what the bytes store
pub record OpenRight (b : List ℕ) : Type 0 where
  pub given : (client : ℕ) → open_call b client ≡ opened 0 (open_of (book_of b) client)
  pub stored : (client : ℕ) → stored_open b client ≡ open_of (book_of b) client

pub record OpenOnBytes : Type 0 where
  -- after start, and any list of calls
  pub calls : (b : List ℕ) (setting : ℕ) → start_refusal b ≡ 0 → (cs : List Call) → OpenRight (bytes_after (start_of b setting) cs)
  -- after any event, taken or refused, on any book that it does not refuse with 1
  pub event : (b r a : List ℕ) → Bytes b → Bytes r → ((event_of b r a).returned ≡ 1 → ⊥) → OpenRight (event_of b r a).book
  -- the call refuses with 1 exactly if check gives 1, and then gives 0; it has no other refusal
  pub one : (b : List ℕ) (client : ℕ) → Exactly (open_call b client ≡ opened 1 0) (check_of b ≡ 1)
  -- a book with another sum is refused with 1
  pub other : (b : List ℕ) (client : ℕ) → (stored_open b client ≡ open_of (book_of b) client → ⊥) → (check_of b ≡ 1) × ((r a : List ℕ) → (event_of b r a).returned ≡ 1)
  -- and no more is asked: a book that keeps machine's rules, stores each client's sum and has right links (Outcomes) is taken, whatever its other words and the
  -- bytes behind them say
  pub exact : (b : List ℕ) → ruled_of b ≡ true → ((client : ℕ) → stored_open b client ≡ open_of (book_of b) client) → links_right b ≡ true → check_of b ≡ 0
  -- the sum stands in the bytes: on any book, another number written in the word of a client's first order is refused with 1
  pub bytes : (b : List ℕ) (i q : ℕ) → i < order_count b → find_client (book_of b) (order_in (book_of b) i).client ≡ Some i → q < 2 ^ 64 → (q ≡ open_of (book_of b) (order_in (book_of b) i).client → ⊥) → check_of (store_open b i q) ≡ 1
