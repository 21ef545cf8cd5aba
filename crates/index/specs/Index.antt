-- WHAT IS STORED ONLY TO BE FOUND QUICKLY, which the machine does not see: the link of the request that an OrigClOrdID names (change request 9), and each
-- client's open quantity (change request 4), which is machine's `open_of`: the sum of `leaves_qty` over its orders. Here is where the book's bytes store them,
-- when what is stored is right, and what an event makes of it, by value. Rests on store's words behind the tables and on machine.
use Rattle.std.specs.Prelude.{ℕ, ◌+◌, ◌-◌, ◌%◌, ◌^◌, Bool, ◌&&◌, ◌||◌, List, ◌==◌}
use Rattle.prelude.specs.Below.{all_below}
use Rattle.prelude.specs.Cases.{maybe}
use Rattle.prelude.specs.declared.Text.{Text}
use Rattle.store.specs.Book.{Book, book_of, order_in, request_in, order_count, request_count, origin_at, open_at, load_open}
use Rattle.store.specs.Finds.{find_client, find_clordid}
use Rattle.machine.specs.Orders.{is_empty, leaves_qty}
use Rattle.machine.specs.Rules.{client_of}
use Rattle.machine.specs.Machine.{order_at_link}
use Rattle.machine.specs.Exchange.{open_of}
use Rattle.index.specs.declared.Word.{Word}

-- ---- the link of an OrigClOrdID's request

-- the link of the request that an OrigClOrdID of a client names, 0 for none
unfoldable pub origin_of : Book → (client : ℕ) → Text → ℕ
origin_of b client t = maybe 0 (λ k. k + 1) (find_clordid b client t)

-- what is stored for request k is the link of the request that its OrigClOrdID names; without one it says nothing
unfoldable pub link_right : List ℕ → ℕ → Bool
link_right b k =
    let q = request_in (book_of b) k in
    is_empty q.origclordid || origin_at b k == origin_of (book_of b) (client_of (book_of b) k) q.origclordid

unfoldable pub links_right : List ℕ → Bool
links_right b = all_below (link_right b) (request_count b)

-- ---- a client's open quantity

-- what is stored for a client: the word of its first order; 0 for a client without orders. The words of other orders, and all bytes behind them, say nothing.
unfoldable pub stored_open : List ℕ → (client : ℕ) → ℕ
stored_open b client = maybe 0 (open_at b) (find_client (book_of b) client)

-- what is stored for the client of order i is its open quantity
unfoldable pub open_right : List ℕ → ℕ → Bool
open_right b i = stored_open b (order_in (book_of b) i).client == open_of (book_of b) (order_in (book_of b) i).client

unfoldable pub opens_right : List ℕ → Bool
opens_right b = all_below (open_right b) (order_count b)

-- ---- THE RULE: every derived word is what it derives from

unfoldable pub indexed : List ℕ → Bool
indexed b = links_right b && opens_right b

-- ---- by value, before an event writes: the index of the client's word and what it becomes, if the order of link `place` then has these leaves

abbrev pub word : (at quantity : ℕ) → Word
word at quantity = record { at = at; quantity = quantity }

-- the first order of a client without one is the order that is added
unfoldable pub opening_of : List ℕ → (place client leaves : ℕ) → Word
opening_of b place client leaves = record {
  at = maybe (order_count b) (λ i. i) (find_client (book_of b) client);
  quantity = maybe leaves (λ i. (load_open b i - leaves_qty (order_at_link (book_of b) place) + leaves) % 2 ^ 64) (find_client (book_of b) client);
}
