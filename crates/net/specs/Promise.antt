-- What the net position of any book is, said of each client and symbol; what holds of the lines of a book that keeps its rules; and how the
-- call ends, said of any book, scratch and lines. Rests on Net. All of it is proved in Laws/Sound.
use Rattle.std.specs.Prelude.{ℕ, ◌+◌, ◌*◌, ◌^◌, ◌≤◌, ◌<◌, ◌≡◌, true, false, List, ◌⊎◌, length, get_or}
use Rattle.prelude.specs.Cases.{if◌then◌otherwise◌}
use Rattle.prelude.specs.Number.{Bytes}
use Rattle.prelude.specs.Texts.{contents}
use Rattle.prelude.specs.Totals.{how_many, Every}
use Rattle.prelude.specs.declared.Text.{Text}
use Rattle.prelude.specs.Counted.{refusing, counting}
use Rattle.store.specs.Book.{Book, order_in, book_of}
use Rattle.machine.specs.Rules.{rules}
use Rattle.rules.specs.Keeps.{keeps_of}
use Rattle.net.specs.Net.{netted, filled_in, Position, position_of, unseen, is_first, positions, net_of, no_position, is_of, net_for, line_bytes, read_lines, Written, written, net_call}

-- ---- the positions

-- each client has in each symbol what its orders bought less what they sold: 0 if it has no order
abbrev pub NetRight : Type 0
NetRight = (b : Book) (client : ℕ) (symbol : Text) → net_for client symbol (net_of b) ≡ netted (filled_in b client symbol)

-- a client has no position in a symbol if none of the orders is its, and one if an order is, even if its net is 0
abbrev pub NetOnce : Type 0
NetOnce = (b : Book) (client : ℕ) (symbol : Text) → how_many (is_of client symbol) (net_of b) ≡ (if unseen b client symbol (length b.orders) then 0 otherwise 1)

-- by first booking: behind the positions of the orders before it stands that of an order which is the first of its client and symbol
abbrev pub NetInOrder : Type 0
NetInOrder = (b : Book) (i : ℕ) → i < length b.orders → is_first b i ≡ true → get_or (net_of b) (length (positions b i)) no_position ≡ position_of b (order_in b i)

-- 64 orders of 10^12 each: a net is far from what 64 bits hold
abbrev pub small : ℕ
small = 64 * 10 ^ 12

pub record IsSmall (p : Position) : Type 0 where
  pub above : p.net.above ≤ small
  pub below : p.net.below ≤ small

abbrev pub NetSmall : Type 0
NetSmall = (b : Book) → rules b ≡ true → Every IsSmall (net_of b)

-- ---- a line

-- behind a symbol are zeros: nobody reads them, yet they are promised
abbrev pub LineZeros : Type 0
LineZeros = (p : Position) (k : ℕ) → length (contents p.symbol) ≤ k → k < 16 → get_or (line_bytes p) (3 + k) 0 ≡ 0

-- ---- the call

-- the lines were written: their count is returned, they are read as the positions, and every byte behind them is as it was
pub record IsWritten (book lines : List ℕ) (r : Written) : Type 0 where
  pub returned : r.returned ≡ counting (length (net_of (book_of book)))
  pub most : length (net_of (book_of book)) ≤ 64
  pub size : length r.lines ≡ length lines
  pub read : Bytes book → read_lines (length (net_of (book_of book))) r.lines ≡ net_of (book_of book)
  pub rest : (k : ℕ) → 27 * length (net_of (book_of book)) ≤ k → get_or r.lines k 0 ≡ get_or lines k 0

-- 1 for a book that does not keep its rules, whatever is lent; then 11 for a scratch or lines that are too short, even by one, and even
-- for an empty book: nothing is written. What is exactly long enough is taken.
pub record IsCall (book : List ℕ) (scratch : ℕ) (lines : List ℕ) : Type 0 where
  pub bad : keeps_of book ≡ false → net_call book scratch lines ≡ written (refusing 1) lines
  pub short : keeps_of book ≡ true → ((scratch < 1) ⊎ (length lines < 64 * 27)) → net_call book scratch lines ≡ written (refusing 11) lines
  pub enough : keeps_of book ≡ true → 1 ≤ scratch → 64 * 27 ≤ length lines → IsWritten book lines (net_call book scratch lines)

abbrev pub SoundCall : Type 0
SoundCall = (book : List ℕ) (scratch : ℕ) (lines : List ℕ) → IsCall book scratch lines
