-- A small book and its archive by value, with what a retirement must leave of them, and what is asked. Rests on Retire and Parts.
-- What it shuts out: another order of the rows, a link that counts what does not go along, requests of a done order left, an origdownstream lost or left as it
-- was, a word beside a client's first order, a live order's name asked, a ClOrdID asked of every client, room counted for orders alone, refusals in another order.
use Rattle.std.specs.Prelude.{ℕ, ◌+◌, ◌≡◌, refl, Bool, true, false, List, [], ◌∷◌, length, replicate}
use Rattle.prelude.specs.Below.{count_below, first_below, all_below}
use Rattle.prelude.specs.Cases.{if◌then◌otherwise◌, maybe}
use Rattle.prelude.specs.Counted.{refusing, counting}
use Rattle.prelude.specs.Texts.{text_of, same_text}
use Rattle.store.specs.declared.Order.{Order}
use Rattle.store.specs.declared.Request.{Request}
use Rattle.store.specs.Orders.{no_order}
use Rattle.store.specs.Requests.{no_request}
use Rattle.store.specs.Book.{Book, book_of}
use Rattle.store.specs.Finds.{of_client, find_client, find_name, find_clordid}
use Rattle.machine.specs.Changes.{is_gateway}
use Rattle.machine.specs.Orders.{is_done, leaves_of, leaves_qty}
use Rattle.rules.specs.Keeps.{keeps_of}
use Rattle.parts.specs.Parts.{passing, done_at, moved_link, own_cancel, named_along, moved_order, moved_request, joined, live_part, archived, orders_gone, requests_gone}
use Rattle.retire.specs.Retire.{open_word, name_free, clordid_free, all_free, has_room, retired, retire_of}

-- ---- a book: A of client 7 is filled (50), B of client 7 is live (48), C of client 8 is canceled (52), D of client 8 is live

abbrev order : (client name status qty cumqty : ℕ) (current cancel named : ℕ) → Order
order client name status qty cumqty current cancel named = record {
  client = client;
  venue = 1;
  names = record { name = text_of (name ∷ []); clordid = text_of []; downstream = text_of []; symbol = text_of []; venueorderid = text_of [] };
  terms = record { side = 49; ordtype = 49; timeinforce = 0; qty = qty; price = 0 };
  state = record { status = status; cumqty = cumqty; avgpx = 0; execseq = 0 };
  links = record { amendments = 0; current = current; cancel = cancel };
  pending = no_order.pending;
  gateway = record { tries = 0; unsent = false; stuck = false; origdownstream = named; refusedsends = 0 };
}

-- kind 0 is a first request, 1 a cancel, 2 a replace, 3 the gateway's cancel
abbrev request : (order kind clordid : ℕ) → Request
request order kind clordid = record {
  order = order;
  kind = kind;
  answered = 0;
  clordid = text_of (clordid ∷ []);
  origclordid = text_of [];
  downstream = text_of [];
  outcome = 0;
}

-- the gateway cancels of B and D name requests of A and C, which go: B has a gateway's cancel of its own, D has none
abbrev day : Book
day = record {
  setting = 10;
  orders = order 7 65 50 100 100 1 0 0 ∷ order 7 66 48 300 0 4 5 1 ∷ order 8 67 52 50 20 3 6 0 ∷ order 8 68 48 70 0 7 0 3 ∷ [];
  requests = request 0 0 97 ∷ request 1 0 98 ∷ request 2 0 99 ∷ request 1 2 100 ∷ request 1 3 0 ∷ request 2 1 101 ∷ request 3 0 102 ∷ [];
}

-- an archive with an order Z and two requests
abbrev archive : Book
archive = record { setting = 20; orders = order 7 90 50 10 10 1 2 0 ∷ []; requests = request 0 0 122 ∷ request 0 1 121 ∷ [] }

-- ---- what is left

pub sample_book : live_part day ≡ record {
  setting = 10;
  orders = order 7 66 48 300 0 2 3 3 ∷ order 8 68 48 70 0 4 0 4 ∷ [];
  requests = request 0 0 98 ∷ request 0 2 100 ∷ request 0 3 0 ∷ request 1 0 102 ∷ [];
}
unfolding joined passing moved_order moved_request moved_link named_along own_cancel done_at is_done is_gateway count_below first_below maybe if◌then◌otherwise◌ text_of
sample_book = refl

pub sample_archive : archived archive day ≡ record {
  setting = 20;
  orders = order 7 90 50 10 10 1 2 0 ∷ order 7 65 50 100 100 3 0 0 ∷ order 8 67 52 50 20 4 5 0 ∷ [];
  requests = request 0 0 122 ∷ request 0 1 121 ∷ request 1 0 97 ∷ request 2 0 99 ∷ request 2 1 101 ∷ [];
}
unfolding joined passing moved_order moved_request moved_link named_along own_cancel done_at is_done is_gateway count_below first_below maybe if◌then◌otherwise◌ text_of
sample_archive = refl

pub sample_gone : (orders_gone day ≡ 2) × (requests_gone day ≡ 3)
unfolding done_at is_done count_below if◌then◌otherwise◌
sample_gone = (refl, refl)

-- the words: 300 of client 7 at A and 70 of client 8 at C, their first orders, and 0 elsewhere
pub sample_words : (open_word day 0 ≡ 300) × (open_word day 1 ≡ 0) × (open_word day 2 ≡ 70) × (open_word day 3 ≡ 0) × (open_word day 4 ≡ 0)
unfolding open_word find_client first_below leaves_qty leaves_of is_done maybe if◌then◌otherwise◌
sample_words = (refl, refl, refl, refl, refl)

-- ---- what is asked

-- an archive with one order of that name, whose client used that ClOrdID
abbrev shelf : (client name clordid : ℕ) → Book
shelf client name clordid = record { setting = 10; orders = order client name 50 10 10 1 0 0 ∷ []; requests = request 0 0 clordid ∷ [] }

-- nothing of the book; the name of a live order, and of a done one; the ClOrdID of a live order's request, and of a done one's, by its client and by another
pub sample_free : (all_free archive day ≡ true) × (all_free (shelf 7 66 122) day ≡ true) × (all_free (shelf 7 65 122) day ≡ false)
    × (all_free (shelf 7 90 98) day ≡ true) × (all_free (shelf 7 90 97) day ≡ false) × (all_free (shelf 8 90 97) day ≡ true) × (all_free (shelf 8 90 101) day ≡ false)
unfolding all_free name_free clordid_free find_name find_clordid of_client first_below all_below done_at is_done same_text text_of maybe if◌then◌otherwise◌
sample_free = (refl, refl, refl, refl, refl, refl, refl)

abbrev filled_with : (orders requests : ℕ) → Book
filled_with orders requests = record { setting = 10; orders = replicate orders no_order; requests = replicate requests no_request }

-- 2 orders and 3 requests find room, and the tables are full then
pub sample_room : (has_room (filled_with 62 253) day ≡ true) × (has_room (filled_with 63 253) day ≡ false) × (has_room (filled_with 62 254) day ≡ false)
unfolding has_room done_at is_done count_below if◌then◌otherwise◌
sample_room = (refl, refl, refl)

-- ---- refusals, one before the other; a refused call leaves both as they were

module _ (b a : List ℕ) where
  pub sample_one : keeps_of b ≡ false → retire_of b a ≡ retired (refusing 1) b a
  unfolding retire_of if◌then◌otherwise◌
  sample_one e = rw e

  module _ (kept : keeps_of b ≡ true) where
    -- even if no order is done
    pub sample_sixteen : keeps_of a ≡ false → retire_of b a ≡ retired (refusing 16) b a
    unfolding retire_of if◌then◌otherwise◌
    sample_sixteen e = rw (kept, e)

    module _ (right : keeps_of a ≡ true) where
      -- whether there is room or not
      pub sample_seventeen : all_free (book_of a) (book_of b) ≡ false → retire_of b a ≡ retired (refusing 17) b a
      unfolding retire_of if◌then◌otherwise◌
      sample_seventeen e = rw (kept, right, e)

      module _ (free : all_free (book_of a) (book_of b) ≡ true) where
        pub sample_eighteen : has_room (book_of a) (book_of b) ≡ false → retire_of b a ≡ retired (refusing 18) b a
        unfolding retire_of if◌then◌otherwise◌
        sample_eighteen e = rw (kept, right, free, e)

        pub sample_none : has_room (book_of a) (book_of b) ≡ true → orders_gone (book_of b) ≡ 0 → retire_of b a ≡ retired (counting 0) b a
        unfolding retire_of if◌then◌otherwise◌
        sample_none e z = rw (kept, right, free, e, z)
