-- Lookups: what each means on the book. Rests on Book.
use Rattle.std.specs.Prelude.{Bool, not, ◌&&◌, List, ℕ, eqb, ltb, length, get_or, Option}
use Rattle.prelude.specs.Lists.{first_in, count_in}
use Rattle.prelude.specs.Texts.{same_text}
use Rattle.prelude.specs.declared.Text.{Text}
use Rattle.store.specs.declared.Order.{Order}
use Rattle.store.specs.declared.Request.{Request}
use Rattle.store.specs.Orders.{no_order}
use Rattle.store.specs.Requests.{no_request}
use Rattle.store.specs.Book.{Book}

-- ---- on the book

abbrev pub bears_name : Text → Order → Bool
bears_name t o = same_text o.names.name t

abbrev pub bears_downstream : Text → Request → Bool
bears_downstream t r = same_text r.downstream t

-- a gateway cancel has no ClOrdID
abbrev pub has_clordid : Request → Bool
has_clordid r = not (eqb r.clordid.len 0)

-- the request's order is booked, and the client's
unfoldable pub of_client : List Order → ℕ → Request → Bool
of_client os c r = ltb r.order (length os) && eqb (get_or os r.order no_order).client c

abbrev pub used_by : List Order → ℕ → Request → Bool
used_by os c r = has_clordid r && of_client os c r

abbrev pub bears_clordid : List Order → ℕ → Text → Request → Bool
bears_clordid os c t r = has_clordid r && (same_text r.clordid t && of_client os c r)

-- the first order of that client
abbrev pub is_clients : ℕ → Order → Bool
is_clients c o = eqb o.client c

unfoldable pub find_client : Book → ℕ → Option ℕ
find_client b c = first_in no_order (is_clients c) b.orders

-- the first order of that name
unfoldable pub find_name : Book → Text → Option ℕ
find_name b t = first_in no_order (bears_name t) b.orders

-- the first request that bears that downstream ClOrdID
unfoldable pub find_downstream : Book → Text → Option ℕ
find_downstream b t = first_in no_request (bears_downstream t) b.requests

-- the first request in which that client used that ClOrdID
unfoldable pub find_clordid : Book → ℕ → Text → Option ℕ
find_clordid b c t = first_in no_request (bears_clordid b.orders c t) b.requests

-- how many ClOrdIDs that client has used
unfoldable pub count_clordids : Book → ℕ → ℕ
count_clordids b c = count_in no_request (used_by b.orders c) b.requests
