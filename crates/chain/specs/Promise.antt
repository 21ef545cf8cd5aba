-- What the chain of a name is, of a book that keeps its rules; and how the call ends, said of any book, name and list. Rests on Chain. It is proved in
-- Laws/Sound, and what is said of the call in Laws/Called.
use Rattle.std.specs.Prelude.{ℕ, suc, ◌+◌, ◌-◌, ◌*◌, ◌≤◌, ◌<◌, ◌≡◌, true, false, List, [], ◌∷◌, length, get_or}
use Rattle.prelude.specs.Span.{span}
use Rattle.prelude.specs.Texts.{contents}
use Rattle.prelude.specs.Counted.{refusing, counting}
use Rattle.store.specs.Book.{Book, book_of, order_in, request_in}
use Rattle.machine.specs.Changes.{is_first}
use Rattle.machine.specs.Rules.{number_in, client_of}
use Rattle.rules.specs.Keeps.{keeps_of}
use Rattle.chain.specs.Chain.{chain_of, entry_size, Chained, chained, chain_call}

-- ---- the chain

-- from request k to request j: "a request numbered lower in that order", whose ClOrdID is the OrigClOrdID of k
pub record IsStep (x : Book) (k j : ℕ) : Type 0 where
  pub order : (request_in x j).order ≡ (request_in x k).order
  pub number : number_in x.requests j < number_in x.requests k
  pub lower : j < k
  pub name : contents (request_in x j).clordid ≡ contents (request_in x k).origclordid

-- request k is the one in which that client used that name
pub record Uses (x : Book) (client : ℕ) (name : List ℕ) (k : ℕ) : Type 0 where
  pub used : k < length x.requests
  pub whose : client_of x k ≡ client
  pub called : contents (request_in x k).clordid ≡ name

-- a chain that begins at request k
pub record IsChain (x : Book) (client : ℕ) (name : List ℕ) (k : ℕ) (ks : List ℕ) : Type 0 where
  pub uses : Uses x client name k
  -- the first entry, and each step from one to the next
  pub some : 0 < length ks
  pub head : get_or ks 0 0 ≡ k
  pub steps : (i : ℕ) → suc i < length ks → IsStep x (get_or ks i 0) (get_or ks (suc i) 0)
  -- "back to the first": the last entry is the order's first request
  pub first : is_first (request_in x (get_or ks (length ks - 1) 0)) ≡ true
  -- and there are no more than the order has requests
  pub few : length ks ≤ (order_in x (request_in x k).order).links.amendments + 1

-- a name that the client used has a chain, and from its second entry on it is that entry's own. "A name never used by that client gives an empty chain", as does the
-- empty name.
pub record Chains (x : Book) : Type 0 where
  pub used : (client : ℕ) (name : List ℕ) (k : ℕ) → 0 < length name → Uses x client name k → IsChain x client name k (chain_of x client name)
  pub rest : (client : ℕ) (name : List ℕ) (k j : ℕ) (ks : List ℕ) → chain_of x client name ≡ k ∷ j ∷ ks → chain_of x client (contents (request_in x j).clordid) ≡ j ∷ ks
  pub unused : (client : ℕ) (name : List ℕ) → ((k : ℕ) → Uses x client name k → ⊥) → chain_of x client name ≡ []
  pub empty : (client : ℕ) → chain_of x client [] ≡ []

abbrev pub SoundChain : Type 0
SoundChain = (b : List ℕ) → keeps_of b ≡ true → Chains (book_of b)

-- ---- the call

-- the 34 bytes of request k: the length of its ClOrdID, 32 bytes that are those of the ClOrdID and 0 behind its end, and what came of the request
pub record IsEntry (book : List ℕ) (k : ℕ) (entry : List ℕ) : Type 0 where
  pub size : length entry ≡ 34
  pub long : get_or entry 0 0 ≡ length (contents (request_in (book_of book) k).clordid)
  pub name : (i : ℕ) → i < 32 → get_or entry (suc i) 0 ≡ get_or (contents (request_in (book_of book) k).clordid) i 0
  pub outcome : get_or entry 33 0 ≡ (request_in (book_of book) k).outcome

-- the chain was written: the count of its entries is returned, entry i is the one of its request, and every byte behind them is as it was
pub record IsWritten (book : List ℕ) (ks list : List ℕ) (r : Chained) : Type 0 where
  pub returned : r.returned ≡ counting (length ks)
  pub size : length r.list ≡ length list
  pub entries : (i : ℕ) → i < length ks → IsEntry book (get_or ks i 0) (span r.list (entry_size * i) entry_size)
  pub rest : (k : ℕ) → entry_size * length ks ≤ k → get_or r.list k 0 ≡ get_or list k 0

-- 1 for a book that does not keep its rules, whatever is lent; then 12 for a list that is too short, even by one byte: nothing is written. A list that is
-- exactly long enough is taken, and for an empty chain any list is.
pub record IsCall (book : List ℕ) (client : ℕ) (name list : List ℕ) : Type 0 where
  pub bad : keeps_of book ≡ false → chain_call book client name list ≡ chained (refusing 1) list
  pub short : keeps_of book ≡ true → length list < entry_size * length (chain_of (book_of book) client name) → chain_call book client name list ≡ chained (refusing 12) list
  pub enough : keeps_of book ≡ true → entry_size * length (chain_of (book_of book) client name) ≤ length list
      → IsWritten book (chain_of (book_of book) client name) list (chain_call book client name list)

abbrev pub SoundCall : Type 0
SoundCall = (book : List ℕ) (client : ℕ) (name list : List ℕ) → IsCall book client name list
