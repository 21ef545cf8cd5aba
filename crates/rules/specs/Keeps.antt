-- docs/SCOPE.md, Rules: WHEN A BOOK KEEPS ITS RULES, what question 1 and `check` decide of its bytes. The length and the header's counts, machine's rules of the
-- book that the bytes are, and that all that is stored to be found quickly is right. Rests on machine's Rules and on index.
use Rattle.std.specs.Prelude.{Bool, ◌&&◌, List, ℕ, nat_le}
use Rattle.prelude.specs.Number.{word16}
use Rattle.store.specs.Layout.{header·orders, header·requests, most_orders, most_requests}
use Rattle.store.specs.Book.{is_book, book_of}
use Rattle.machine.specs.Rules.{rules}
use Rattle.index.specs.Index.{indexed}

-- the header's counts, too, are within the tables
unfoldable pub ruled_of : List ℕ → Bool
ruled_of b = is_book b && nat_le (word16 b header·orders) most_orders && nat_le (word16 b header·requests) most_requests && rules (book_of b)

unfoldable pub keeps_of : List ℕ → Bool
keeps_of b = ruled_of b && indexed b
