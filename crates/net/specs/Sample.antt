-- Seven orders and their net position, by values and by bytes: purchases, a short sale and a done order of one client in WHEAT; another client
-- in WHEAT, booked first with nothing filled; a symbol that is WHEAT and a zero byte, and one that differs in its last byte. Rests on Net.
-- What it shuts out: short sales as purchases (+210), done orders left out (-130), positions by last booking, symbols by their bytes alone.
use Rattle.std.specs.Prelude.{ℕ, ◌-◌, ◌^◌, ◌≡◌, refl, List, [], ◌∷◌}
use Rattle.prelude.specs.Below.{all_below}
use Rattle.prelude.specs.Cases.{if◌then◌otherwise◌}
use Rattle.prelude.specs.Texts.{contents, text_of, same_text}
use Rattle.store.specs.declared.Order.{Order}
use Rattle.store.specs.Orders.{no_order}
use Rattle.store.specs.Book.{Book}
use Rattle.net.specs.Net.{difference, filled_in, Position, position_of, of_pair, positions, net_of, padded, twos, line_bytes, signed_of}

abbrev wheat : List ℕ
wheat = 87 ∷ 72 ∷ 69 ∷ 65 ∷ 84 ∷ []

-- as long as WHEAT, and its last byte is another
abbrev wheau : List ℕ
wheau = 87 ∷ 72 ∷ 69 ∷ 65 ∷ 85 ∷ []

-- a symbol of one byte, and one of all sixteen
abbrev letter : List ℕ
letter = 87 ∷ []

abbrev sixteen : List ℕ
sixteen = 65 ∷ 66 ∷ 67 ∷ 68 ∷ 69 ∷ 70 ∷ 71 ∷ 72 ∷ 73 ∷ 74 ∷ 75 ∷ 76 ∷ 77 ∷ 78 ∷ 79 ∷ 80 ∷ []

abbrev wheat_zero : List ℕ
wheat_zero = 87 ∷ 72 ∷ 69 ∷ 65 ∷ 84 ∷ 0 ∷ []

-- sides 1, 2 and 5 are 49, 50 and 53; a status 4 (52) is done
abbrev order : (client : ℕ) (symbol : List ℕ) (side status cumqty : ℕ) → Order
order client symbol side status cumqty = record {
  client = client;
  venue = 1;
  names = record { name = text_of []; clordid = text_of []; downstream = text_of []; symbol = text_of symbol; venueorderid = text_of [] };
  terms = record { side = side; ordtype = 49; timeinforce = 0; qty = 10 ^ 12; price = 0 };
  state = record { status = status; cumqty = cumqty; avgpx = 0; execseq = 0 };
  links = no_order.links;
  pending = no_order.pending;
  gateway = no_order.gateway;
}

abbrev day : Book
day = record {
  setting = 10;
  orders =
      order 7 wheat 49 52 400000
      ∷ order 8 wheat 49 48 0
      ∷ order 7 wheat_zero 50 50 20000
      ∷ order 8 wheat 50 49 50000
      ∷ order 7 wheat 53 49 1500000
      ∷ order 7 wheat 49 49 200000
      ∷ order 7 wheau 49 49 30000
      ∷ [];
  requests = [];
}

abbrev position : (client : ℕ) (symbol : List ℕ) (bought sold : ℕ) → Position
position client symbol bought sold = record { client = client; symbol = text_of symbol; net = difference bought sold }

-- 40 + 20 - 150, then 0 - 5, then 0 - 2
abbrev day_net : List Position
day_net = position 7 wheat 0 900000 ∷ position 8 wheat 0 50000 ∷ position 7 wheat_zero 0 20000 ∷ position 7 wheau 30000 0 ∷ []

pub sample_net : net_of day ≡ day_net
unfolding net_of positions position_of of_pair filled_in all_below same_text text_of if◌then◌otherwise◌
sample_net = refl

-- -90.0000 and +1.0000 as lines; below, as much sold as bought, of a symbol of sixteen bytes and of one
abbrev line_below : List ℕ
line_below =
    7 ∷ 0 ∷ 5 ∷ 87 ∷ 72 ∷ 69 ∷ 65 ∷ 84 ∷ 0 ∷ 0 ∷ 0 ∷ 0 ∷ 0 ∷ 0 ∷ 0 ∷ 0 ∷ 0 ∷ 0 ∷ 0
    ∷ 96 ∷ 68 ∷ 242 ∷ 255 ∷ 255 ∷ 255 ∷ 255 ∷ 255 ∷ []

abbrev line_above : List ℕ
line_above =
    44 ∷ 1 ∷ 6 ∷ 87 ∷ 72 ∷ 69 ∷ 65 ∷ 84 ∷ 0 ∷ 0 ∷ 0 ∷ 0 ∷ 0 ∷ 0 ∷ 0 ∷ 0 ∷ 0 ∷ 0 ∷ 0
    ∷ 16 ∷ 39 ∷ 0 ∷ 0 ∷ 0 ∷ 0 ∷ 0 ∷ 0 ∷ []

pub sample_below : line_bytes (position 7 wheat 600000 1500000) ≡ line_below
unfolding line_bytes padded contents text_of twos if◌then◌otherwise◌
sample_below = refl

pub sample_above : line_bytes (position 300 wheat_zero 10000 0) ≡ line_above
unfolding line_bytes padded contents text_of twos if◌then◌otherwise◌
sample_above = refl

-- the least that 64 bits hold, -1, and the greatest
pub sample_least : signed_of (2 ^ 63) ≡ difference 0 (2 ^ 63)
unfolding signed_of if◌then◌otherwise◌
sample_least = refl

pub sample_minus_one : signed_of (2 ^ 64 - 1) ≡ difference 0 1
unfolding signed_of if◌then◌otherwise◌
sample_minus_one = refl

pub sample_greatest : signed_of (2 ^ 63 - 1) ≡ difference (2 ^ 63 - 1) 0
unfolding signed_of if◌then◌otherwise◌
sample_greatest = refl

abbrev line_sixteen : List ℕ
line_sixteen =
    7 ∷ 0 ∷ 16 ∷ 65 ∷ 66 ∷ 67 ∷ 68 ∷ 69 ∷ 70 ∷ 71 ∷ 72 ∷ 73 ∷ 74 ∷ 75 ∷ 76 ∷ 77 ∷ 78 ∷ 79 ∷ 80
    ∷ 0 ∷ 0 ∷ 0 ∷ 0 ∷ 0 ∷ 0 ∷ 0 ∷ 0 ∷ []

pub sample_sixteen : line_bytes (position 7 sixteen 5 5) ≡ line_sixteen
unfolding line_bytes padded contents text_of twos if◌then◌otherwise◌
sample_sixteen = refl

abbrev line_letter : List ℕ
line_letter =
    7 ∷ 0 ∷ 1 ∷ 87 ∷ 0 ∷ 0 ∷ 0 ∷ 0 ∷ 0 ∷ 0 ∷ 0 ∷ 0 ∷ 0 ∷ 0 ∷ 0 ∷ 0 ∷ 0 ∷ 0 ∷ 0
    ∷ 0 ∷ 0 ∷ 0 ∷ 0 ∷ 0 ∷ 0 ∷ 0 ∷ 0 ∷ []

pub sample_letter : line_bytes (position 7 letter 5 5) ≡ line_letter
unfolding line_bytes padded contents text_of twos if◌then◌otherwise◌
sample_letter = refl
