-- DONE ORDERS RETIRED FROM A BOOK INTO AN ARCHIVE, which is a book: what the call `retire` returns and every byte that it leaves, by the moves of parts on the
-- books that the bytes are. What stands in quotes is the desk's wording. Rests on parts, rules' `keeps_of` and store.
use Rattle.std.specs.Prelude.{ℕ, zero, suc, ◌+◌, ◌*◌, Bool, true, false, not, ◌&&◌, ◌||◌, List, eqb, leb, length}
use Rattle.prelude.specs.Below.{all_below}
use Rattle.prelude.specs.Bytes.{zeros}
use Rattle.prelude.specs.Cases.{if◌then◌otherwise◌, maybe}
use Rattle.prelude.specs.Counted.{refusing, counting}
use Rattle.prelude.specs.Span.{splice}
use Rattle.prelude.specs.declared.Counted.{Counted}
use Rattle.store.specs.declared.Request.{Request}
use Rattle.store.specs.Layout.{header·orders, orders_at, order_size, most_orders, requests_at, request_size, most_requests}
use Rattle.store.specs.Book.{Book, order_in, request_in, book_of, order_count, request_count, add_order, add_request, origin_at, store_origin, store_open}
use Rattle.store.specs.Finds.{find_name, find_clordid, find_client}
use Rattle.machine.specs.Orders.{is_empty}
use Rattle.machine.specs.Rules.{client_of}
use Rattle.machine.specs.Exchange.{open_of}
use Rattle.rules.specs.Keeps.{keeps_of}
use Rattle.parts.specs.Parts.{done_at, live_at, of_passing, moved_link, moved_order, moved_request, orders_gone, requests_gone}

-- ---- rows: the records of `was` that pass, written behind those of `into`, in order

-- those of the first n orders; `behind` is how many requests `into` had
unfoldable pub orders_moved : (p : ℕ → Bool) (was : List ℕ) (behind : ℕ) (into : List ℕ) → (n : ℕ) → List ℕ
orders_moved p was behind into zero = into
orders_moved p was behind into (suc n) =
    let before : List ℕ = orders_moved p was behind into n in
    if p n then add_order before (moved_order p behind (book_of was) n) otherwise before

-- a request and, beside its fields, the link of the one that its OrigClOrdID names
unfoldable pub add_linked : List ℕ → Request → (origin : ℕ) → List ℕ
add_linked b q origin = store_origin (add_request b q) (request_count b) origin

-- that link in the new place; without an OrigClOrdID it is written as 0
unfoldable pub moved_origin : (p : ℕ → Bool) (was : List ℕ) (behind : ℕ) → (j : ℕ) → ℕ
moved_origin p was behind j =
    if is_empty (request_in (book_of was) j).origclordid then 0 otherwise moved_link (of_passing p (book_of was)) behind (origin_at was j)

-- those of the first n requests; `into` had so many orders and requests
unfoldable pub requests_moved : (p : ℕ → Bool) (was : List ℕ) (orders requests : ℕ) (into : List ℕ) → (n : ℕ) → List ℕ
requests_moved p was orders requests into zero = into
requests_moved p was orders requests into (suc n) =
    let before : List ℕ = requests_moved p was orders requests into n in
    if of_passing p (book_of was) n then add_linked before (moved_request p orders (request_in (book_of was) n)) (moved_origin p was requests n) otherwise before

-- all of them: orders, then requests
unfoldable pub rows_moved : (p : ℕ → Bool) (was into : List ℕ) → List ℕ
rows_moved p was into =
    let orders : List ℕ = orders_moved p was (request_count into) into (order_count was) in
    requests_moved p was (order_count into) (request_count into) orders (request_count was)

-- ---- "open-quantity words as the layout has them and zero where they mean nothing"

-- the word of order i: its client's open quantity if it is the client's first, else 0
unfoldable pub open_word : Book → (i : ℕ) → ℕ
open_word b i =
    let client = (order_in b i).client in
    maybe 0 (λ first. if eqb first i then open_of b client otherwise 0) (find_client b client)

-- the first n words
unfoldable pub opens_settled : List ℕ → (n : ℕ) → List ℕ
opens_settled b zero = b
opens_settled b (suc n) = store_open (opens_settled b n) n (open_word (book_of b) n)

-- ---- what is left

-- "rows that become free are zeros": no row is in use
unfoldable pub emptied : List ℕ → List ℕ
emptied b =
    splice (splice (splice b header·orders (zeros 4)) orders_at (zeros (order_count b * order_size))) requests_at (zeros (request_count b * request_size))

-- the rows that pass, alone, or behind what an archive holds, and all words
unfoldable pub moved_into : (p : ℕ → Bool) (was into : List ℕ) → List ℕ
moved_into p was into = opens_settled (rows_moved p was into) most_orders

-- "the live orders stay in theirs, in order, with theirs"
unfoldable pub book_left : List ℕ → List ℕ
book_left b = moved_into (live_at (book_of b)) b (emptied b)

-- "every done order goes there with all its requests, behind what it holds"
unfoldable pub archive_left : (archive b : List ℕ) → List ℕ
archive_left a b = moved_into (done_at (book_of b)) b a

-- ---- what is asked

-- order i stays, or its name does not stand in the archive
unfoldable pub name_free : (archive b : Book) → (i : ℕ) → Bool
name_free a b i = live_at b i || maybe true (λ k. false) (find_name a (order_in b i).names.name)

-- request j stays, or its client has not used its ClOrdID in the archive
unfoldable pub clordid_free : (archive b : Book) → (j : ℕ) → Bool
clordid_free a b j = of_passing (live_at b) b j || maybe true (λ k. false) (find_clordid a (client_of b j) (request_in b j).clordid)

unfoldable pub all_free : (archive b : Book) → Bool
all_free a b = all_below (name_free a b) (length b.orders) && all_below (clordid_free a b) (length b.requests)

unfoldable pub has_room : (archive b : Book) → Bool
has_room a b = leb (length a.orders + orders_gone b) most_orders && leb (length a.requests + requests_gone b) most_requests

-- ---- the call

-- what it returns, and what book and archive are then
pub record Retired : Type 0 where
  pub returned : Counted
  pub book : List ℕ
  pub archive : List ℕ

abbrev pub retired : Counted → (book archive : List ℕ) → Retired
retired n b a = record { returned = n; book = b; archive = a }

-- `retire`: 1 if the book does not keep its rules, then 16 if the archive does not, then 17 if a name or ClOrdID of a done order stands in the archive, then 18 if
-- the archive has no room for all of them. "A refused call has written nothing." "With none done, 0 and nothing changes." Else the number of the orders moved.
unfoldable pub retire_of : (book archive : List ℕ) → Retired
retire_of b a =
    if not (keeps_of b) then retired (refusing 1) b a
    otherwise if not (keeps_of a) then retired (refusing 16) b a
    otherwise if not (all_free (book_of a) (book_of b)) then retired (refusing 17) b a
    otherwise if not (has_room (book_of a) (book_of b)) then retired (refusing 18) b a
    otherwise if eqb (orders_gone (book_of b)) 0 then retired (counting 0) b a
    otherwise retired (counting (orders_gone (book_of b))) (book_left b) (archive_left a b)
