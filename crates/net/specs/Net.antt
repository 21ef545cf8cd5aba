-- THE NET POSITION of a book (change request 6): for each client and symbol that has an order, what was bought less what was sold, as values
-- and as the bytes of a line; and the call that writes the lines. Rests on counted, store's book, machine's `filled_on` and rules' `keeps_of`.
use Rattle.std.specs.Prelude.{ℕ, zero, suc, ◌-◌, ◌*◌, ◌^◌, ◌≡◌, Bool, true, false, not, ◌&&◌, ◌||◌, List, [], ◌∷◌, ◌++◌, map, eqb, ltb, length, replicate}
use Rattle.std.specs.List.{concat}
use Rattle.prelude.specs.Below.{all_below}
use Rattle.prelude.specs.Cases.{if◌then◌otherwise◌}
use Rattle.prelude.specs.Lists.{list_below}
use Rattle.prelude.specs.Number.{number, bytes_of}
use Rattle.prelude.specs.Span.{span, splice}
use Rattle.prelude.specs.Texts.{contents, text_of, same_text}
use Rattle.prelude.specs.Totals.{total_of}
use Rattle.prelude.specs.declared.Text.{Text}
use Rattle.prelude.specs.declared.Counted.{Counted}
use Rattle.prelude.specs.Counted.{refusing, counting}
use Rattle.store.specs.declared.Order.{Order}
use Rattle.store.specs.Book.{Book, order_in, book_of}
use Rattle.machine.specs.Since.{filled_on}
use Rattle.rules.specs.Keeps.{keeps_of}
use Rattle.net.specs.declared.Amounts.{Amounts}

-- ---- signed numbers

-- how far above zero, or how far below: one of the two is 0
pub record Signed : Type 0 where
  pub above : ℕ
  pub below : ℕ

-- a less b
abbrev pub difference : (a b : ℕ) → Signed
difference a b = record { above = a - b; below = b - a }

abbrev pub nothing : Signed
nothing = difference 0 0

-- ---- what is bought and sold

abbrev pub netted : Amounts → Signed
netted a = difference a.bought a.sold

-- of a client in a symbol, over all orders, done or not; a short sale is a sale
unfoldable pub filled_in : Book → (client : ℕ) (symbol : Text) → Amounts
filled_in b client symbol = record {
  bought = total_of (filled_on true client symbol) b.orders;
  sold = total_of (filled_on false client symbol) b.orders;
}

-- ---- the positions

pub record Position : Type 0 where
  pub client : ℕ
  pub symbol : Text
  pub net : Signed

unfoldable pub position_of : Book → Order → Position
position_of b o = record { client = o.client; symbol = o.names.symbol; net = netted (filled_in b o.client o.names.symbol) }

-- the order is that client's in that symbol: symbols are the same by length and bytes
unfoldable pub of_pair : (client : ℕ) (symbol : Text) → Order → Bool
of_pair client symbol o = eqb o.client client && same_text o.names.symbol symbol

-- order k is not
abbrev pub miss_at : Book → (client : ℕ) (symbol : Text) → ℕ → Bool
miss_at b client symbol k = not (of_pair client symbol (order_in b k))

-- none of the first n orders is
abbrev pub unseen : Book → (client : ℕ) (symbol : Text) → ℕ → Bool
unseen b client symbol n = all_below (miss_at b client symbol) n

-- order n is the first of its client in its symbol
abbrev pub is_first : Book → ℕ → Bool
is_first b n = unseen b (order_in b n).client (order_in b n).names.symbol n

-- those of the first n orders: a position for each that is the first of its client and symbol
unfoldable pub positions : Book → ℕ → List Position
positions b zero = []
positions b (suc n) = positions b n ++ (if is_first b n then position_of b (order_in b n) ∷ [] otherwise [])

-- THE NET POSITION: each client and symbol once, by its first booking
unfoldable pub net_of : Book → List Position
net_of b = positions b (length b.orders)

-- ---- a line

-- a text of at most so many bytes, and zeros behind it
unfoldable pub padded : ℕ → List ℕ → List ℕ
padded width text = text ++ replicate (width - length text) 0

-- in 64 bits: a number below zero counts back from 2^64
unfoldable pub twos : Signed → ℕ
twos n = if eqb n.below 0 then n.above otherwise 2 ^ 64 - n.below

-- 27 bytes: client, length of the symbol, symbol, net; numbers have their low byte first
abbrev pub fields : (client : ℕ) (symbol : Text) (net : ℕ) → List (List ℕ)
fields client symbol net = bytes_of 2 client ∷ (symbol.len ∷ []) ∷ padded 16 (contents symbol) ∷ bytes_of 8 net ∷ []

unfoldable pub line_bytes : Position → List ℕ
line_bytes p = concat (fields p.client p.symbol (twos p.net))

unfoldable pub net_bytes : List Position → List ℕ
net_bytes ps = concat (map line_bytes ps)

-- ---- a line read

-- from 2^63 on it is below zero
unfoldable pub signed_of : ℕ → Signed
signed_of n = if ltb n (2 ^ 63) then difference n 0 otherwise difference 0 (2 ^ 64 - n)

unfoldable pub read_line : List ℕ → Position
read_line s = record {
  client = number (span s 0 2);
  symbol = text_of (span s 3 (number (span s 2 1)));
  net = signed_of (number (span s 19 8));
}

unfoldable pub read_lines : (count : ℕ) → List ℕ → List Position
read_lines count lines = list_below (λ i. read_line (span lines (27 * i) 27)) count

abbrev pub is_of : (client : ℕ) (symbol : Text) → Position → Bool
is_of client symbol p = eqb p.client client && same_text p.symbol symbol

-- the net of a client in a symbol by the positions: 0 if it has none
unfoldable pub net_for : (client : ℕ) (symbol : Text) → List Position → Signed
net_for client symbol [] = nothing
net_for client symbol (p ∷ ps) = if is_of client symbol p then p.net otherwise net_for client symbol ps

abbrev pub no_position : Position
no_position = record { client = 0; symbol = text_of []; net = nothing }

-- ---- the call

-- the numbers that the lent scratch must have at least, and the bytes that the lent lines must have: 64 lines
abbrev pub least_scratch : ℕ
least_scratch = 1

abbrev pub least_lines : ℕ
least_lines = 1728

-- what it returns, and what the lent lines are then
pub record Written : Type 0 where
  pub returned : Counted
  pub lines : List ℕ

abbrev pub written : Counted → List ℕ → Written
written r lines = record { returned = r; lines = lines }

-- 1 if the book does not keep its rules, then 11 if scratch or lines are too short, even for an empty book: nothing is written.
-- Else the lines stand at the front of the buffer, and their count is returned.
unfoldable pub net_call : (book : List ℕ) (scratch : ℕ) (lines : List ℕ) → Written
net_call book scratch lines =
    let net : List Position = net_of (book_of book) in
    if not (keeps_of book) then written (refusing 1) lines
    otherwise if ltb scratch least_scratch || ltb (length lines) least_lines then written (refusing 11) lines
    otherwise written (counting (length net)) (splice lines 0 (net_bytes net))

-- The contract: result and lines by one equation. The scratch keeps its length, and is as it was if the call is refused; else what it
-- holds afterwards is free.
pub record IsNet (book scratch lines : List ℕ) (returned : Counted) (left linesLeft : List ℕ) : Type 0 where
  pub is : written returned linesLeft ≡ net_call book (length scratch) lines
  pub long : length left ≡ length scratch
  pub same : (returned.refusal ≡ 0 → ⊥) → left ≡ scratch
