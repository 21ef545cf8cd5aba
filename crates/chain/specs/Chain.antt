-- WHICH CLORDID STANDS FOR WHICH ORDER (change request 9): the chain of a client's ClOrdID back to the first, as requests and as the bytes of its entries;
-- and the call that writes them. What stands in quotes is the desk's wording. Rests on counted, store's book, and rules' `keeps_of`.
use Rattle.std.specs.Prelude.{ℕ, zero, suc, ◌*◌, not, ◌&&◌, List, [], ◌∷◌, ◌++◌, map, leb, ltb, length, take, replicate, Option, None, Some}
use Rattle.std.specs.List.{concat}
use Rattle.prelude.specs.Cases.{if◌then◌otherwise◌}
use Rattle.prelude.specs.Span.{splice}
use Rattle.prelude.specs.Texts.{contents, text_of}
use Rattle.prelude.specs.declared.Counted.{Counted}
use Rattle.prelude.specs.Counted.{refusing, counting}
use Rattle.store.specs.Book.{Book, request_in, book_of}
use Rattle.store.specs.Finds.{find_clordid}
use Rattle.rules.specs.Keeps.{keeps_of}

-- ---- the chain

-- from a request "on to each one's OrigClOrdID", in at most so many entries: the indexes of the requests. No request without an OrigClOrdID has another
-- behind it: `find_clordid` finds nothing for an empty name.
unfoldable pub chain_from : Book → (client most : ℕ) → Option ℕ → List ℕ
chain_from x client zero at = []
chain_from x client (suc n) None = []
chain_from x client (suc n) (Some k) = k ∷ chain_from x client n (find_clordid x client (request_in x k).origclordid)

-- the request in which that client used that name. A name that is empty, or longer than 32 bytes, was never used.
unfoldable pub called_by : Book → (client : ℕ) → (name : List ℕ) → Option ℕ
called_by x client name = if leb 1 (length name) && leb (length name) 32 then find_clordid x client (text_of name) otherwise None

-- THE CHAIN: as many entries as there are requests are enough
unfoldable pub chain_of : Book → (client : ℕ) → (name : List ℕ) → List ℕ
chain_of x client name = chain_from x client (length x.requests) (called_by x client name)

-- ---- its bytes

abbrev pub entry_size : ℕ
entry_size = 34

-- "length, 32 bytes filled with zeros, outcome"
abbrev pub entry_fields : (name : List ℕ) (outcome : ℕ) → List (List ℕ)
entry_fields name outcome = (length name ∷ []) ∷ take 32 (name ++ replicate 32 0) ∷ (outcome ∷ []) ∷ []

-- of a request of the book
unfoldable pub entry_of : List ℕ → ℕ → List ℕ
entry_of b k = concat (entry_fields (contents (request_in (book_of b) k).clordid) (request_in (book_of b) k).outcome)

-- one entry behind the other
unfoldable pub entries_of : List ℕ → List ℕ → List ℕ
entries_of b ks = concat (map (entry_of b) ks)

-- ---- the call

-- what it returns, and what the lent list is then
pub record Chained : Type 0 where
  pub returned : Counted
  pub list : List ℕ

abbrev pub chained : Counted → List ℕ → Chained
chained r list = record { returned = r; list = list }

-- 1 if the book does not keep its rules, then 12 if "the lent list cannot hold the whole chain": nothing is written. Else the entries stand at the
-- front of the list, every other byte is as it was, and their count is returned.
unfoldable pub chain_call : (book : List ℕ) (client : ℕ) (name list : List ℕ) → Chained
chain_call book client name list =
    let ks : List ℕ = chain_of (book_of book) client name in
    if not (keeps_of book) then chained (refusing 1) list
    otherwise if ltb (length list) (entry_size * length ks) then chained (refusing 12) list
    otherwise chained (counting (length ks)) (splice list 0 (entries_of book ks))
