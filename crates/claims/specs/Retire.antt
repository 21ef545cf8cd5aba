-- WHAT A RETIREMENT RETURNS, AND THAT BOTH BOOKS KEEP THEIR RULES (the desk's request of retirement), on bytes: each refusal has its one condition, a refused call
-- writes nothing, and book and archive pass `check` afterwards. Rests on Claims, store and retire. What moves where is in RetirePlaced.
-- Both buffers are read as books by `book_of`; what stands in quotes is the desk's wording.
use Rattle.std.specs.Prelude.{ℕ, ◌+◌, ◌*◌, ◌≤◌, ◌<◌, ◌≡◌, ◌⊎◌, Bool, true, false, List, length, get_or, Some}
use Rattle.prelude.specs.Below.{count_below}
use Rattle.prelude.specs.Counted.{counting}
use Rattle.prelude.specs.Number.{Bytes}
use Rattle.prelude.specs.Texts.{same_text}
use Rattle.prelude.specs.declared.Counted.{Counted}
use Rattle.store.specs.Layout.{order_size, request_size, order_base, request_base, request·origin, opens_at}
use Rattle.store.specs.Orders.{encode_order}
use Rattle.store.specs.Requests.{encode_request}
use Rattle.store.specs.Book.{Book, book_of, order_in, request_in, origin_at, open_at}
use Rattle.store.specs.Finds.{find_client}
use Rattle.machine.specs.Orders.{is_empty, is_done}
use Rattle.machine.specs.Rules.{client_of}
use Rattle.machine.specs.Exchange.{open_of}
use Rattle.step.specs.Entries.{start_of, start_refusal, check_of}
use Rattle.retire.specs.Retire.{Retired, retire_of}
use Rattle.claims.specs.Claims.{Exactly}

-- ---- done orders and their requests

abbrev pub order_done : Book → ℕ → Bool
order_done b i = is_done (order_in b i).state.status

-- request j is of a done order
abbrev pub request_done : Book → ℕ → Bool
request_done b j = order_done b (request_in b j).order

-- how many there are
abbrev pub done_orders : Book → ℕ
done_orders b = count_below (order_done b) (length b.orders)

abbrev pub done_requests : Book → ℕ
done_requests b = count_below (request_done b) (length b.requests)

-- ---- "the name of a done order, or the ClOrdID of one of its requests for the same client, stands in the archive"

-- the name of done order i of b is that of order k of a
pub record NameStands (b a : Book) : Type 0 where
  pub i : ℕ
  pub k : ℕ
  pub there : i < length b.orders
  pub done : order_done b i ≡ true
  pub within : k < length a.orders
  pub same : same_text (order_in a k).names.name (order_in b i).names.name ≡ true

-- the ClOrdID of request j of b, of a done order, is that of request k of a, of the same client; a gateway's cancel has none
pub record ClOrdIDStands (b a : Book) : Type 0 where
  pub j : ℕ
  pub k : ℕ
  pub there : j < length b.requests
  pub done : request_done b j ≡ true
  pub within : k < length a.requests
  pub some : is_empty (request_in a k).clordid ≡ false
  pub client : client_of a k ≡ client_of b j
  pub same : same_text (request_in a k).clordid (request_in b j).clordid ≡ true

abbrev pub InArchive : (b a : Book) → Type 0
InArchive b a = NameStands b a ⊎ ClOrdIDStands b a

-- "the archive has no room for all done orders and their requests"
abbrev pub NoRoom : (b a : Book) → Type 0
NoRoom b a = (64 < length a.orders + done_orders b) ⊎ (256 < length a.requests + done_requests b)

-- ---- what is returned

-- questions 1 and 16 are answered with yes: both keep their rules
abbrev pub BothPass : (b a : List ℕ) → Type 0
BothPass b a = (check_of b ≡ 0) × (check_of a ≡ 0)

-- n is what the call returns of book b and archive a
pub record RetireNumbers (b a : List ℕ) (n : Counted) : Type 0 where
  -- the refusal is 0, 1, 16, 17 or 18
  pub known : (n.refusal ≡ 0) ⊎ (n.refusal ≡ 1) ⊎ (n.refusal ≡ 16) ⊎ (n.refusal ≡ 17) ⊎ (n.refusal ≡ 18)
  -- 1 if check gives 1 of the book
  pub one : Exactly (n.refusal ≡ 1) (check_of b ≡ 1)
  -- else 16 if it gives 1 of the archive, "even with no order done"
  pub sixteen : Exactly (n.refusal ≡ 16) ((check_of b ≡ 0) × (check_of a ≡ 1))
  -- else 17 if a name or ClOrdID of what goes stands in the archive
  pub seventeen : Exactly (n.refusal ≡ 17) (BothPass b a × InArchive (book_of b) (book_of a))
  -- else 18 if there is no room
  pub eighteen : Exactly (n.refusal ≡ 18) (BothPass b a × (InArchive (book_of b) (book_of a) → ⊥) × NoRoom (book_of b) (book_of a))
  -- taken, the number is that of the done orders; refused, it is 0
  pub moved : n.refusal ≡ 0 → n.number ≡ done_orders (book_of b)
  pub none : (n.refusal ≡ 0 → ⊥) → n.number ≡ 0

-- ---- what is left

-- byte k is none of the header's counts, of the order records from n to n', of the request records from m to m', or of the words
pub record Elsewhere (n n' m m' k : ℕ) : Type 0 where
  pub counts : 4 ≤ k
  pub orders : (k < order_base n) ⊎ (order_base n' ≤ k)
  pub requests : (k < request_base m) ⊎ (request_base m' ≤ k)
  pub words : (k < opens_at) ⊎ (opens_at + 64 * 8 ≤ k)

-- rows as they are written, those of the orders from n on and of the requests from m on: the bytes of each record, zeros behind its fields; and the link beside a
-- request without an OrigClOrdID, which says nothing, is 0
pub record Written (n m : ℕ) (b : List ℕ) : Type 0 where
  pub orders : (i k : ℕ) → n ≤ i → i < length (book_of b).orders → k < order_size → get_or b (order_base i + k) 0 ≡ get_or (encode_order (order_in (book_of b) i)) k 0
  pub requests : (j k : ℕ) → m ≤ j → j < length (book_of b).requests → k < request_size → (k < request·origin) ⊎ (request·origin + 2 ≤ k)
      → get_or b (request_base j + k) 0 ≡ get_or (encode_request (request_in (book_of b) j)) k 0
  pub origins : (j : ℕ) → m ≤ j → j < length (book_of b).requests → is_empty (request_in (book_of b) j).origclordid ≡ true → origin_at b j ≡ 0

-- the words behind the tables: "as the layout has them and zero where they mean nothing"
pub record Words (b : List ℕ) : Type 0 where
  pub first : (i client : ℕ) → find_client (book_of b) client ≡ Some i → open_at b i ≡ open_of (book_of b) client
  pub other : (i : ℕ) → i < 64 → ((client : ℕ) → find_client (book_of b) client ≡ Some i → ⊥) → open_at b i ≡ 0

-- a retirement that is taken, with an order done: o is what it leaves
pub record RetireLeaves (b a : List ℕ) (o : Retired) : Type 0 where
  -- both keep their rules
  pub book : check_of o.book ≡ 0
  pub archive : check_of o.archive ≡ 0
  pub words : Words o.book × Words o.archive
  -- "rows move whole"
  pub rows : Written 0 0 o.book × Written (length (book_of a).orders) (length (book_of a).requests) o.archive
  -- "settings stay"
  pub settings : ((book_of o.book).setting ≡ (book_of b).setting) × ((book_of o.archive).setting ≡ (book_of a).setting)
  -- the archive's bytes stay but for the header's counts, the rows that come behind those that it had, and the words
  pub stays : (k : ℕ) → Elsewhere (length (book_of a).orders) (length (book_of o.archive).orders) (length (book_of a).requests) (length (book_of o.archive).requests) k
      → get_or o.archive k 0 ≡ get_or a k 0
  -- so do the book's but for the rows that were in use; and of those "rows that become free are zeros"
  pub rest : (k : ℕ) → Elsewhere 0 (length (book_of b).orders) 0 (length (book_of b).requests) k → get_or o.book k 0 ≡ get_or b k 0
  pub free_orders : (k : ℕ) → order_base (length (book_of o.book).orders) ≤ k → k < order_base (length (book_of b).orders) → get_or o.book k 0 ≡ 0
  pub free_requests : (k : ℕ) → request_base (length (book_of o.book).requests) ≤ k → k < request_base (length (book_of b).requests) → get_or o.book k 0 ≡ 0

-- ---- the theorem: for all bytes b and a

pub record RetireKeeps : Type 0 where
  pub numbers : (b a : List ℕ) → RetireNumbers b a (retire_of b a).returned
  -- "a refused call has written nothing"; and with no order done nothing changes
  pub refused : (b a : List ℕ) → ((retire_of b a).returned.refusal ≡ 0 → ⊥) → ((retire_of b a).book ≡ b) × ((retire_of b a).archive ≡ a)
  pub idle : (b a : List ℕ) → done_orders (book_of b) ≡ 0 → ((retire_of b a).book ≡ b) × ((retire_of b a).archive ≡ a)
  -- both keep their rules
  pub kept : (b a : List ℕ) → Bytes b → Bytes a → (retire_of b a).returned.refusal ≡ 0 → BothPass (retire_of b a).book (retire_of b a).archive
  pub leaves : (b a : List ℕ) → Bytes b → Bytes a → (retire_of b a).returned.refusal ≡ 0 → 0 < (retire_of b a).returned.number → RetireLeaves b a (retire_of b a)
  -- no length changes, and bytes stay bytes
  pub long : (b a : List ℕ) → Bytes b → Bytes a → (length (retire_of b a).book ≡ length b) × (length (retire_of b a).archive ≡ length a)
  pub bytes : (b a : List ℕ) → Bytes b → Bytes a → Bytes (retire_of b a).book × Bytes (retire_of b a).archive
  -- "an archive fresh from start never gets 17 or 18"
  pub fresh : (b s : List ℕ) (setting : ℕ) → check_of b ≡ 0 → start_refusal s ≡ 0 → (retire_of b (start_of s setting)).returned ≡ counting (done_orders (book_of b))
