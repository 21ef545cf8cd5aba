-- THE EVENING PAGE of a book (change request 1): a line for each order, as values and as the bytes that are printed; and the call that
-- prints it. Rests on decimal, counted, store's book, machine's `leaves_qty` and rules' `keeps_of`.
use Rattle.std.specs.Prelude.{ℕ, ◌-◌, ◌*◌, not, List, [], ◌∷◌, ◌++◌, map, ltb, length, take, replicate}
use Rattle.std.specs.List.{concat}
use Rattle.prelude.specs.Cases.{if◌then◌otherwise◌}
use Rattle.prelude.specs.Span.{splice}
use Rattle.prelude.specs.Texts.{contents}
use Rattle.decimal.specs.Decimal.{blank, decimal, right}
use Rattle.prelude.specs.declared.Counted.{Counted}
use Rattle.prelude.specs.Counted.{refusing, counting}
use Rattle.store.specs.declared.Order.{Order}
use Rattle.store.specs.Book.{Book, book_of}
use Rattle.machine.specs.Orders.{leaves_qty}
use Rattle.rules.specs.Keeps.{keeps_of}

-- ---- what a line says

pub record Line : Type 0 where
  pub name : List ℕ
  pub symbol : List ℕ
  pub status : ℕ
  pub ordered : ℕ
  pub cumulative : ℕ
  pub leaves : ℕ

unfoldable pub line_of : Order → Line
line_of o = record {
  name = contents o.names.name;
  symbol = contents o.names.symbol;
  status = o.state.status;
  ordered = o.terms.qty;
  cumulative = o.state.cumqty;
  leaves = leaves_qty o;
}

-- THE PAGE: a line for each order, done or not, in booking order
unfoldable pub page_of : Book → List Line
page_of b = map line_of b.orders

-- ---- how it is printed

-- the byte that a byte of a text prints as: below 32 a blank
unfoldable pub printable : ℕ → ℕ
printable c = if ltb c blank then blank otherwise c

-- a text from the left of so many columns, filled with blanks
unfoldable pub left : ℕ → List ℕ → List ℕ
left width text = map printable (take width text) ++ replicate (width - length text) blank

-- a quantity, which counts ten-thousandths: right-aligned in 14 columns, with four decimals
unfoldable pub quantity : ℕ → List ℕ
quantity n = right 14 (decimal 4 n)

abbrev pub line_feed : ℕ
line_feed = 10

-- the line's fields, in columns 1-20, 21-36, 37, 38-51, 52-65, 66-79, 80, and the line feed
abbrev pub fields : Line → List (List ℕ)
fields l =
    left 20 l.name
    ∷ left 16 l.symbol
    ∷ (l.status ∷ [])
    ∷ quantity l.ordered
    ∷ quantity l.cumulative
    ∷ quantity l.leaves
    ∷ (blank ∷ [])
    ∷ (line_feed ∷ [])
    ∷ []

unfoldable pub line_bytes : Line → List ℕ
line_bytes l = concat (fields l)

-- one line behind the other
unfoldable pub page_bytes : List Line → List ℕ
page_bytes ls = concat (map line_bytes ls)

-- ---- the call

-- what it returns, and what the lent buffer is then
pub record Paged : Type 0 where
  pub returned : Counted
  pub out : List ℕ

abbrev pub paged : Counted → List ℕ → Paged
paged r out = record { returned = r; out = out }

-- 1 if the book does not keep its rules, then 8 if the buffer is shorter than 81 bytes for each order: nothing is written.
-- Else the page stands at the front of the buffer, and its length is returned.
unfoldable pub page_call : (book out : List ℕ) → Paged
page_call book out =
    let lines : List Line = page_of (book_of book) in
    if not (keeps_of book) then paged (refusing 1) out
    otherwise if ltb (length out) (81 * length lines) then paged (refusing 8) out
    otherwise paged (counting (length (page_bytes lines))) (splice out 0 (page_bytes lines))
