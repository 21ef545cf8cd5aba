-- The book: its records in use as lists, what the bytes of one say, and what each function makes of the bytes.
-- Rests on Layout, Orders and Requests. A buffer of another length than 65,536 is an empty book, and no function changes it.
-- A count in the header that is above the table's size counts as the table's size.
use Rattle.std.specs.Prelude.{Bool, ◌&&◌, List, [], ◌∷◌, ◌++◌, ℕ, ◌+◌, min, eqb, ltb, length, get_or, set}
use Rattle.prelude.specs.Cases.{if◌then◌otherwise◌}
use Rattle.prelude.specs.Lists.{list_below}
use Rattle.prelude.specs.Number.{word16, word32, word64, bytes_of}
use Rattle.prelude.specs.Span.{splice}
use Rattle.prelude.specs.Table.{row_at, put_row}
use Rattle.prelude.specs.Bytes.{zeros}
use Rattle.store.specs.declared.Order.{Order}
use Rattle.store.specs.declared.Request.{Request}
use Rattle.store.specs.Layout.{book_size, header·orders, header·requests, header·setting, orders_at, order_size, most_orders, requests_at, request_size, most_requests, request_base, request·answered, request·outcome, request·origin, open_base}
use Rattle.store.specs.Orders.{decode_order, encode_order, no_order}
use Rattle.store.specs.Requests.{decode_request, encode_request, no_request}

pub record Book : Type 0 where
  pub setting : ℕ
  pub orders : List Order
  pub requests : List Request

abbrev pub order_in : Book → ℕ → Order
order_in b i = get_or b.orders i no_order

abbrev pub request_in : Book → ℕ → Request
request_in b i = get_or b.requests i no_request

-- ---- records in the bytes

unfoldable pub order_at : List ℕ → ℕ → Order
order_at b i = row_at orders_at order_size decode_order b i

unfoldable pub put_order : List ℕ → ℕ → Order → List ℕ
put_order b i o = put_row orders_at order_size encode_order b i o

unfoldable pub request_at : List ℕ → ℕ → Request
request_at b i = row_at requests_at request_size decode_request b i

unfoldable pub put_request : List ℕ → ℕ → Request → List ℕ
put_request b i r = put_row requests_at request_size encode_request b i r

-- ---- the header

abbrev pub is_book : List ℕ → Bool
is_book b = eqb (length b) book_size

-- the count at an index, at most `most`
unfoldable pub count_at : ℕ → ℕ → List ℕ → ℕ
count_at at most b = if is_book b then min most (word16 b at) otherwise 0

abbrev pub order_count : List ℕ → ℕ
order_count b = count_at header·orders most_orders b

abbrev pub request_count : List ℕ → ℕ
request_count b = count_at header·requests most_requests b

unfoldable pub setting_of : List ℕ → ℕ
setting_of b = if is_book b then word32 b header·setting otherwise 0

-- THE BOOK that the bytes are
unfoldable pub book_of : List ℕ → Book
book_of b = record {
  setting = setting_of b;
  orders = list_below (order_at b) (order_count b);
  requests = list_below (request_at b) (request_count b);
}

-- ---- what the functions give and leave

unfoldable pub load_order : List ℕ → ℕ → Order
load_order b i = if is_book b && ltb i most_orders then order_at b i otherwise no_order

unfoldable pub load_request : List ℕ → ℕ → Request
load_request b i = if is_book b && ltb i most_requests then request_at b i otherwise no_request

unfoldable pub store_order : List ℕ → ℕ → Order → List ℕ
store_order b i o = if is_book b && ltb i most_orders then put_order b i o otherwise b

unfoldable pub set_count : List ℕ → ℕ → ℕ → List ℕ
set_count b at n = splice b at (bytes_of 2 n)

unfoldable pub add_order : List ℕ → Order → List ℕ
add_order b o = if is_book b && ltb (order_count b) most_orders then set_count (put_order b (order_count b) o) header·orders (order_count b + 1) otherwise b

unfoldable pub add_request : List ℕ → Request → List ℕ
add_request b r = if is_book b && ltb (request_count b) most_requests then set_count (put_request b (request_count b) r) header·requests (request_count b + 1) otherwise b

-- beside the request's fields, no part of the book that the bytes are: its origin, the link of the request that the OrigClOrdID names, 0 for none
abbrev pub origin_at : List ℕ → ℕ → ℕ
origin_at b i = word16 b (request_base i + request·origin)

unfoldable pub load_origin : List ℕ → ℕ → ℕ
load_origin b i = if is_book b && ltb i most_requests then origin_at b i otherwise 0

unfoldable pub store_origin : List ℕ → (i origin : ℕ) → List ℕ
store_origin b i origin = if is_book b && ltb i most_requests then splice b (request_base i + request·origin) (bytes_of 2 origin) otherwise b

-- an outcome is set once, for good: a request that is answered keeps the one that it has
abbrev pub settled_as : (outcome : ℕ) → Request → ℕ
settled_as outcome r = if eqb r.answered 0 then outcome otherwise r.outcome

abbrev pub settle : List ℕ → ℕ → (outcome : ℕ) → List ℕ
settle b i outcome = splice (splice b (request_base i + request·answered) (1 ∷ [])) (request_base i + request·outcome) (settled_as outcome (request_at b i) ∷ [])

unfoldable pub mark_answered : List ℕ → ℕ → (outcome : ℕ) → List ℕ
mark_answered b i outcome = if is_book b && ltb i most_requests then settle b i outcome otherwise b

-- the word of order i behind the tables; it is no part of the book that the bytes are
abbrev pub open_at : List ℕ → ℕ → ℕ
open_at b i = word64 b (open_base i)

unfoldable pub load_open : List ℕ → ℕ → ℕ
load_open b i = if is_book b && ltb i most_orders then open_at b i otherwise 0

unfoldable pub store_open : List ℕ → (i quantity : ℕ) → List ℕ
store_open b i quantity = if is_book b && ltb i most_orders then splice b (open_base i) (bytes_of 8 quantity) otherwise b

-- an empty book with its setting
unfoldable pub blank : ℕ → List ℕ
blank setting = splice (zeros book_size) header·setting (bytes_of 4 setting)

unfoldable pub clear_book : List ℕ → ℕ → List ℕ
clear_book b setting = if is_book b then blank setting otherwise b

-- ---- the same on the book

abbrev pub with_order : Book → ℕ → Order → Book
with_order b i o = record { setting = b.setting; orders = set b.orders i o; requests = b.requests }

abbrev pub with_request : Book → ℕ → Request → Book
with_request b i r = record { setting = b.setting; orders = b.orders; requests = set b.requests i r }

abbrev pub plus_order : Book → Order → Book
plus_order b o = record { setting = b.setting; orders = b.orders ++ (o ∷ []); requests = b.requests }

abbrev pub plus_request : Book → Request → Book
plus_request b r = record { setting = b.setting; orders = b.orders; requests = b.requests ++ (r ∷ []) }

abbrev pub answered : (outcome : ℕ) → Request → Request
answered outcome r = record { order = r.order; kind = r.kind; answered = 1; clordid = r.clordid; origclordid = r.origclordid; downstream = r.downstream; outcome = settled_as outcome r }

abbrev pub with_answered : Book → ℕ → (outcome : ℕ) → Book
with_answered b i outcome = with_request b i (answered outcome (request_in b i))

abbrev pub empty_book : ℕ → Book
empty_book setting = record { setting = setting; orders = []; requests = [] }
