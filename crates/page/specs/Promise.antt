-- What the page of a book that keeps its rules is, said of its bytes, column by column; and how the call ends, said of any book and any
-- buffer. Column k of a line is the byte at index k - 1 of it. Rests on Page, and on decimal's `is_digit` and `number_in`.
-- `SoundPage`, `LargestFits` and `SoundCall` are proved in Laws/Sound, `OnlyPage` in Laws/Only.
use Rattle.std.specs.Prelude.{ℕ, ◌+◌, ◌*◌, ◌/◌, ◌%◌, ◌^◌, ◌≤◌, ◌<◌, ◌≡◌, true, false, List, length, get_or, take, drop}
use Rattle.prelude.specs.Span.{span}
use Rattle.prelude.specs.declared.Text.{Text}
use Rattle.decimal.specs.Decimal.{blank, point, decimal, is_digit, number_in}
use Rattle.prelude.specs.Counted.{refusing, counting}
use Rattle.store.specs.declared.Order.{Order}
use Rattle.store.specs.Book.{book_of, order_in, order_count}
use Rattle.machine.specs.Orders.{leaves_qty}
use Rattle.rules.specs.Keeps.{keeps_of}
use Rattle.page.specs.Page.{line_feed, line_of, line_bytes, page_of, page_bytes, Paged, paged, page_call}

-- ---- one line

-- so many columns show a text: none of it is cut, byte k stands at index k, a byte below 32 as a blank, and blanks stand behind it
pub record Shows (width : ℕ) (bytes : List ℕ) (t : Text) : Type 0 where
  pub long : length bytes ≡ width
  pub uncut : t.len ≤ width
  pub same : (k : ℕ) → k < t.len → blank ≤ get_or t.bytes k 0 → get_or bytes k 0 ≡ get_or t.bytes k 0
  pub blanked : (k : ℕ) → k < t.len → get_or t.bytes k 0 < blank → get_or bytes k 0 ≡ blank
  pub behind : (k : ℕ) → t.len ≤ k → k < width → get_or bytes k 0 ≡ blank

-- fourteen columns read as a quantity
pub record Reads (bytes : List ℕ) (n : ℕ) : Type 0 where
  pub long : length bytes ≡ 14
  -- column 10 is the point, and 11 to 14 are digits
  pub tenth : get_or bytes 9 0 ≡ point
  pub last : (k : ℕ) → 9 < k → k < 14 → is_digit (get_or bytes k 0) ≡ true
  -- the index of the first digit, in column 9 or before it: before it are blanks, from it to the point are digits, and it is a 0 in column 9 alone
  pub first : ℕ
  pub ninth : first ≤ 8
  pub blanks : (k : ℕ) → k < first → get_or bytes k 0 ≡ blank
  pub digits : (k : ℕ) → first ≤ k → k < 9 → is_digit (get_or bytes k 0) ≡ true
  pub leading : first < 8 → 48 < get_or bytes first 0
  -- all the digits are the quantity's number, those before the point its units, those behind it its ten-thousandths
  pub number : number_in bytes ≡ n
  pub units : number_in (take 9 bytes) ≡ n / 10000
  pub parts : number_in (drop 10 bytes) ≡ n % 10000

-- what the book's rules allow: no text is longer than its columns, and no quantity wider
pub record InRange (o : Order) : Type 0 where
  pub name : o.names.name.len ≤ 20
  pub symbol : o.names.symbol.len ≤ 16
  pub ordered : o.terms.qty ≤ 10 ^ 12
  pub cumulative : o.state.cumqty ≤ 10 ^ 12
  pub leaves : leaves_qty o ≤ 10 ^ 12

-- the columns of line i of p are order o's: 1-20, 21-36, 37, 38-51, 52-65, 66-79, 80, and the line feed
pub record Columns (p : List ℕ) (i : ℕ) (o : Order) : Type 0 where
  pub name : Shows 20 (span p (81 * i) 20) o.names.name
  pub symbol : Shows 16 (span p (81 * i + 20) 16) o.names.symbol
  pub status : get_or p (81 * i + 36) 0 ≡ o.state.status
  pub ordered : Reads (span p (81 * i + 37) 14) o.terms.qty
  pub cumulative : Reads (span p (81 * i + 51) 14) o.state.cumqty
  pub leaves : Reads (span p (81 * i + 65) 14) (leaves_qty o)
  pub gap : get_or p (81 * i + 79) 0 ≡ blank
  pub feed : get_or p (81 * i + 80) 0 ≡ line_feed

-- line i of the printed page p is order o's, and none of its eighty columns is below 32
pub record IsLine (p : List ℕ) (i : ℕ) (o : Order) : Type 0 where
  pub range : InRange o
  pub columns : Columns p i o
  pub line : span p (81 * i) 81 ≡ line_bytes (line_of o)
  pub visible : (k : ℕ) → k < 80 → blank ≤ get_or p (81 * i + k) 0

-- ---- the page

abbrev pub SoundPage : Type 0
SoundPage =
    (b : List ℕ) → keeps_of b ≡ true → let p = page_bytes (page_of (book_of b)) in
    (length p ≡ 81 * order_count b) × ((i : ℕ) → i < order_count b → IsLine p i (order_in (book_of b) i))

-- the columns leave nothing open: bytes that have them are the page
abbrev pub OnlyPage : Type 0
OnlyPage =
    (b p : List ℕ) → keeps_of b ≡ true → length p ≡ 81 * order_count b
    → ((i : ℕ) → i < order_count b → Columns p i (order_in (book_of b) i)) → p ≡ page_bytes (page_of (book_of b))

-- the largest quantity is exactly 14 wide
abbrev pub LargestFits : Type 0
LargestFits = length (decimal 4 (10 ^ 12)) ≡ 14

-- ---- the call

-- the page was printed: its length is returned, it stands at the front of the buffer, and every byte behind it is as it was
pub record IsPrinted (book out : List ℕ) (r : Paged) : Type 0 where
  pub returned : r.returned ≡ counting (81 * order_count book)
  pub size : length r.out ≡ length out
  pub page : span r.out 0 (81 * order_count book) ≡ page_bytes (page_of (book_of book))
  pub rest : (k : ℕ) → 81 * order_count book ≤ k → get_or r.out k 0 ≡ get_or out k 0

-- 1 for a book that does not keep its rules, 8 for a buffer that is too short, even by one byte: nothing is written. One that is
-- exactly long enough is taken. And 1 and 8 are returned in no other case.
pub record IsCall (book out : List ℕ) : Type 0 where
  pub bad : keeps_of book ≡ false → page_call book out ≡ paged (refusing 1) out
  pub short : keeps_of book ≡ true → length out < 81 * order_count book → page_call book out ≡ paged (refusing 8) out
  pub enough : keeps_of book ≡ true → 81 * order_count book ≤ length out → IsPrinted book out (page_call book out)
  pub one : (page_call book out).returned.refusal ≡ 1 → keeps_of book ≡ false
  pub eight : (page_call book out).returned.refusal ≡ 8 → (keeps_of book ≡ true) × (length out < 81 * order_count book)

abbrev pub SoundCall : Type 0
SoundCall = (book out : List ℕ) → IsCall book out
