-- A page of four orders, byte for byte: one that was cancelled at 40 of 100, whose leaves are 0; one with the largest quantity and the
-- longest name and symbol; one whose symbol has a line feed in it, which prints as a blank; and one that is done for the day at 40 of 100, whose
-- leaves are 0 too. Rests on Page.
use Rattle.std.specs.Prelude.{ℕ, ◌^◌, ◌≡◌, refl, List, [], ◌∷◌, ◌++◌}
use Rattle.std.proofs.Common.{◌∙◌, lit≤}
use Rattle.prelude.specs.Cases.{if◌then◌otherwise◌}
use Rattle.prelude.specs.Texts.{contents, text_of}
use Rattle.decimal.specs.Decimal.{digits_by, low_digits, down, right}
use Rattle.store.specs.declared.Order.{Order}
use Rattle.store.specs.Orders.{no_order}
use Rattle.store.specs.Book.{Book}
use Rattle.machine.specs.Orders.{is_done, leaves_of, leaves_qty}
use Rattle.page.specs.Page.{printable, left, line_of, line_bytes, page_of, page_bytes}
use Rattle.page.specs.Laws.Line.{shortly, line_short}

abbrev order : (name symbol : List ℕ) (status qty cumqty : ℕ) → Order
order name symbol status qty cumqty = record {
  client = 1;
  venue = 1;
  names = record { name = text_of name; clordid = text_of name; downstream = text_of name; symbol = text_of symbol; venueorderid = text_of [] };
  terms = record { side = 49; ordtype = 49; timeinforce = 0; qty = qty; price = 0 };
  state = record { status = status; cumqty = cumqty; avgpx = 0; execseq = 0 };
  links = no_order.links;
  pending = no_order.pending;
  gateway = no_order.gateway;
}

-- A1, WHEAT DEC, cancelled
abbrev canceled : Order
canceled = order (65 ∷ 49 ∷ []) (87 ∷ 72 ∷ 69 ∷ 65 ∷ 84 ∷ 32 ∷ 68 ∷ 69 ∷ 67 ∷ []) 52 1000000 400000

-- LARGEST0ORDERNAME020, SIXTEEN-LETTERS!, new
abbrev largest : Order
largest =
    order
    (76 ∷ 65 ∷ 82 ∷ 71 ∷ 69 ∷ 83 ∷ 84 ∷ 48 ∷ 79 ∷ 82 ∷ 68 ∷ 69 ∷ 82 ∷ 78 ∷ 65 ∷ 77 ∷ 69 ∷ 48 ∷ 50 ∷ 48 ∷ [])
    (83 ∷ 73 ∷ 88 ∷ 84 ∷ 69 ∷ 69 ∷ 78 ∷ 45 ∷ 76 ∷ 69 ∷ 84 ∷ 84 ∷ 69 ∷ 82 ∷ 83 ∷ 33 ∷ [])
    48 (10 ^ 12) 0

-- B7, SOY and BEAN with a line feed between, partially filled
abbrev broken : Order
broken = order (66 ∷ 55 ∷ []) (83 ∷ 79 ∷ 89 ∷ 10 ∷ 66 ∷ 69 ∷ 65 ∷ 78 ∷ []) 49 12345678 1

-- D4, OATS, done for the day
abbrev ended : Order
ended = order (68 ∷ 52 ∷ []) (79 ∷ 65 ∷ 84 ∷ 83 ∷ []) 51 1000000 400000

abbrev day : Book
day = record { setting = 10; orders = canceled ∷ largest ∷ broken ∷ ended ∷ []; requests = [] }

-- ---- its lines, field by field; in the comments | stands for the line feed, so that the blank before it is seen

-- A1                  WHEAT DEC       4      100.0000       40.0000        0.0000 |
abbrev line_canceled : List ℕ
line_canceled =
    65 ∷ 49 ∷ 32 ∷ 32 ∷ 32 ∷ 32 ∷ 32 ∷ 32 ∷ 32 ∷ 32 ∷ 32 ∷ 32 ∷ 32 ∷ 32 ∷ 32 ∷ 32 ∷ 32 ∷ 32 ∷ 32 ∷ 32 ∷
    87 ∷ 72 ∷ 69 ∷ 65 ∷ 84 ∷ 32 ∷ 68 ∷ 69 ∷ 67 ∷ 32 ∷ 32 ∷ 32 ∷ 32 ∷ 32 ∷ 32 ∷ 32 ∷
    52 ∷
    32 ∷ 32 ∷ 32 ∷ 32 ∷ 32 ∷ 32 ∷ 49 ∷ 48 ∷ 48 ∷ 46 ∷ 48 ∷ 48 ∷ 48 ∷ 48 ∷
    32 ∷ 32 ∷ 32 ∷ 32 ∷ 32 ∷ 32 ∷ 32 ∷ 52 ∷ 48 ∷ 46 ∷ 48 ∷ 48 ∷ 48 ∷ 48 ∷
    32 ∷ 32 ∷ 32 ∷ 32 ∷ 32 ∷ 32 ∷ 32 ∷ 32 ∷ 48 ∷ 46 ∷ 48 ∷ 48 ∷ 48 ∷ 48 ∷
    32 ∷ 10 ∷ []

-- LARGEST0ORDERNAME020SIXTEEN-LETTERS!0100000000.0000        0.0000100000000.0000 |
abbrev line_largest : List ℕ
line_largest =
    76 ∷ 65 ∷ 82 ∷ 71 ∷ 69 ∷ 83 ∷ 84 ∷ 48 ∷ 79 ∷ 82 ∷ 68 ∷ 69 ∷ 82 ∷ 78 ∷ 65 ∷ 77 ∷ 69 ∷ 48 ∷ 50 ∷ 48 ∷
    83 ∷ 73 ∷ 88 ∷ 84 ∷ 69 ∷ 69 ∷ 78 ∷ 45 ∷ 76 ∷ 69 ∷ 84 ∷ 84 ∷ 69 ∷ 82 ∷ 83 ∷ 33 ∷
    48 ∷
    49 ∷ 48 ∷ 48 ∷ 48 ∷ 48 ∷ 48 ∷ 48 ∷ 48 ∷ 48 ∷ 46 ∷ 48 ∷ 48 ∷ 48 ∷ 48 ∷
    32 ∷ 32 ∷ 32 ∷ 32 ∷ 32 ∷ 32 ∷ 32 ∷ 32 ∷ 48 ∷ 46 ∷ 48 ∷ 48 ∷ 48 ∷ 48 ∷
    49 ∷ 48 ∷ 48 ∷ 48 ∷ 48 ∷ 48 ∷ 48 ∷ 48 ∷ 48 ∷ 46 ∷ 48 ∷ 48 ∷ 48 ∷ 48 ∷
    32 ∷ 10 ∷ []

-- B7                  SOY BEAN        1     1234.5678        0.0001     1234.5677 |
abbrev line_broken : List ℕ
line_broken =
    66 ∷ 55 ∷ 32 ∷ 32 ∷ 32 ∷ 32 ∷ 32 ∷ 32 ∷ 32 ∷ 32 ∷ 32 ∷ 32 ∷ 32 ∷ 32 ∷ 32 ∷ 32 ∷ 32 ∷ 32 ∷ 32 ∷ 32 ∷
    83 ∷ 79 ∷ 89 ∷ 32 ∷ 66 ∷ 69 ∷ 65 ∷ 78 ∷ 32 ∷ 32 ∷ 32 ∷ 32 ∷ 32 ∷ 32 ∷ 32 ∷ 32 ∷
    49 ∷
    32 ∷ 32 ∷ 32 ∷ 32 ∷ 32 ∷ 49 ∷ 50 ∷ 51 ∷ 52 ∷ 46 ∷ 53 ∷ 54 ∷ 55 ∷ 56 ∷
    32 ∷ 32 ∷ 32 ∷ 32 ∷ 32 ∷ 32 ∷ 32 ∷ 32 ∷ 48 ∷ 46 ∷ 48 ∷ 48 ∷ 48 ∷ 49 ∷
    32 ∷ 32 ∷ 32 ∷ 32 ∷ 32 ∷ 49 ∷ 50 ∷ 51 ∷ 52 ∷ 46 ∷ 53 ∷ 54 ∷ 55 ∷ 55 ∷
    32 ∷ 10 ∷ []

-- D4                  OATS            3      100.0000       40.0000        0.0000 |
abbrev line_ended : List ℕ
line_ended =
    68 ∷ 52 ∷ 32 ∷ 32 ∷ 32 ∷ 32 ∷ 32 ∷ 32 ∷ 32 ∷ 32 ∷ 32 ∷ 32 ∷ 32 ∷ 32 ∷ 32 ∷ 32 ∷ 32 ∷ 32 ∷ 32 ∷ 32 ∷
    79 ∷ 65 ∷ 84 ∷ 83 ∷ 32 ∷ 32 ∷ 32 ∷ 32 ∷ 32 ∷ 32 ∷ 32 ∷ 32 ∷ 32 ∷ 32 ∷ 32 ∷ 32 ∷
    51 ∷
    32 ∷ 32 ∷ 32 ∷ 32 ∷ 32 ∷ 32 ∷ 49 ∷ 48 ∷ 48 ∷ 46 ∷ 48 ∷ 48 ∷ 48 ∷ 48 ∷
    32 ∷ 32 ∷ 32 ∷ 32 ∷ 32 ∷ 32 ∷ 32 ∷ 52 ∷ 48 ∷ 46 ∷ 48 ∷ 48 ∷ 48 ∷ 48 ∷
    32 ∷ 32 ∷ 32 ∷ 32 ∷ 32 ∷ 32 ∷ 32 ∷ 32 ∷ 48 ∷ 46 ∷ 48 ∷ 48 ∷ 48 ∷ 48 ∷
    32 ∷ 10 ∷ []

-- ---- the facts

canceled_is : line_bytes (line_of canceled) ≡ line_canceled
unfolding line_of contents text_of leaves_qty leaves_of is_done if◌then◌otherwise◌ left printable shortly right digits_by low_digits down
canceled_is = line_short (line_of canceled) (lit≤ tt) (lit≤ tt) (lit≤ tt) ∙ refl

largest_is : line_bytes (line_of largest) ≡ line_largest
unfolding line_of contents text_of leaves_qty leaves_of is_done if◌then◌otherwise◌ left printable shortly right digits_by low_digits down
largest_is = line_short (line_of largest) (lit≤ tt) (lit≤ tt) (lit≤ tt) ∙ refl

broken_is : line_bytes (line_of broken) ≡ line_broken
unfolding line_of contents text_of leaves_qty leaves_of is_done if◌then◌otherwise◌ left printable shortly right digits_by low_digits down
broken_is = line_short (line_of broken) (lit≤ tt) (lit≤ tt) (lit≤ tt) ∙ refl

ended_is : line_bytes (line_of ended) ≡ line_ended
unfolding line_of contents text_of leaves_qty leaves_of is_done if◌then◌otherwise◌ left printable shortly right digits_by low_digits down
ended_is = line_short (line_of ended) (lit≤ tt) (lit≤ tt) (lit≤ tt) ∙ refl

pub sample_page : page_bytes (page_of day) ≡ line_canceled ++ (line_largest ++ (line_broken ++ (line_ended ++ [])))
unfolding page_bytes page_of
sample_page = λ i. canceled_is i ++ (largest_is i ++ (broken_is i ++ (ended_is i ++ [])))
