-- What notices a retirement: for each condition of the promise that nothing else does, a smallest list on which an event gets another answer with the retirement than
-- without it; and beside it the same without the condition's case. From bytes, through the reader, the rules and the machine. Rests on Play and parts' `live_part`.
use Rattle.std.specs.Prelude.{ℕ, ◌≡◌, refl, true, List, [], ◌∷◌, ◌++◌}
use Rattle.prelude.specs.Below.{first_below, count_below}
use Rattle.prelude.specs.Cases.{if◌then◌otherwise◌, maybe}
use Rattle.prelude.specs.Lists.{list_below}
use Rattle.prelude.specs.Texts.{text_of}
use Rattle.store.specs.Book.{Book}
use Rattle.store.specs.Orders.{no_pending, no_gateway}
use Rattle.text.specs.Stored.{no_text}
use Rattle.machine.specs.Changes.{Message, is_gateway}
use Rattle.machine.specs.Orders.{is_done}
use Rattle.machine.specs.Rules.{rules}
use Rattle.machine.specs.History.{messages_of}
use Rattle.machine.specs.declared.Change.{Change}
use Rattle.parts.specs.Parts.{passing, done_at, moved_link, own_cancel, named_along, moved_order, moved_request, joined, live_part}
use Rattle.facts.specs.Play.{number, spelled, bytes, money, X, C, D, E, W, books, books_as, report_of, called, empty, playing, terms, state, links, order_x, first, refused_cancel}

abbrev Y : List ℕ
Y = 89 ∷ []

abbrev Z : List ℕ
Z = 90 ∷ []

-- client 7 cancels, under the one ClOrdID, the order of the other
abbrev cancel_under : (clordid origclordid : List ℕ) → List ℕ
cancel_under clordid origclordid = bytes 2 (number 0 2 7 ∷ spelled 3 clordid ∷ spelled 4 origclordid ∷ spelled 6 W ∷ number 7 1 49 ∷ [])

-- the gateway cancels Y
abbrev gateway_cancels_y : List ℕ
gateway_cancels_y = bytes 9 (spelled 2 Y ∷ [])

-- the venue fills 100 of that order, and 40 more than it has
abbrev filled : (downstream : List ℕ) → List ℕ
filled downstream = report_of downstream 70 50 100 (money 10) 100 (money 10) []

abbrev filled_more : (downstream : List ℕ) → List ℕ
filled_more downstream = report_of downstream 70 50 40 (money 10) 140 (money 10) []

-- what a call comes to: its refusal, the kinds of its messages, the reason of the first, and its alarm
record Reply : Type 0 where
  refusal : ℕ
  kinds : List ℕ
  reason : ℕ
  alarm : ℕ

abbrev reply : (refusal : ℕ) (kinds : List ℕ) (reason alarm : ℕ) → Reply
reply refusal kinds reason alarm = record { refusal = refusal; kinds = kinds; reason = reason; alarm = alarm }

abbrev kinds_of : List Message → List ℕ
kinds_of [] = []
kinds_of (m ∷ ms) = m.kind ∷ kinds_of ms

abbrev reply_of : Change → Reply
reply_of c = reply c.refusal (kinds_of (messages_of c)) c.output.first.reason c.output.alarm

-- what a retirement leaves of a book
unfoldable retired : Book → Book
unfolding joined passing moved_order moved_request moved_link named_along own_cancel done_at is_done is_gateway count_below first_below maybe if◌then◌otherwise◌
retired b = live_part b

-- X of client 7 under C is filled, and done; its order Y under D is live
abbrev day : (setting : ℕ) → Book
day setting = playing (empty setting) (books ∷ books_as Y D ∷ filled X ∷ [])

abbrev without : (setting : ℕ) → List ℕ → Reply
without setting s = reply_of (called (day setting) s)

abbrev with_it : (setting : ℕ) → List ℕ → Reply
with_it setting s = reply_of (called (retired (day setting)) s)

-- X is cancelled, with 255 requests; Y has one: 256
abbrev full_book : Book
full_book = record {
  setting = 10000;
  orders =
      order_x (state 52 0 0 1) (links 254 1 255) no_pending no_gateway
      ∷ record {
        client = 7;
        venue = 3;
        names = record { name = text_of Y; clordid = text_of D; downstream = text_of Y; symbol = text_of W; venueorderid = no_text };
        terms = terms 100;
        state = state 48 0 0 1;
        links = links 0 256 0;
        pending = no_pending;
        gateway = no_gateway;
      }
      ∷ [];
  requests =
      (first ∷ list_below refused_cancel 254)
      ++ (record { order = 1; kind = 0; answered = 0; clordid = text_of D; origclordid = no_text; downstream = text_of Y; outcome = 0 } ∷ []);
}

record Limits : Type 0 where
  -- within the words: Y is cancelled under a ClOrdID that is new, and filled, and Z is booked
  cancels : (without 10000 (cancel_under E D) ≡ reply 0 (19 ∷ []) 0 0) × (with_it 10000 (cancel_under E D) ≡ reply 0 (19 ∷ []) 0 0)
  fills_y : (without 10000 (filled Y) ≡ reply 0 (16 ∷ []) 0 0) × (with_it 10000 (filled Y) ≡ reply 0 (16 ∷ []) 0 0)
  books_z : (without 10000 (books_as Z E) ≡ reply 0 [] 0 0) × (with_it 10000 (books_as Z E) ≡ reply 0 [] 0 0)
  -- "names no ClOrdID that the same client used": Y is cancelled under X's, refused as used without the retirement, and sent with it
  again : (without 10000 (cancel_under C D) ≡ reply 0 (17 ∷ []) 6 0) × (with_it 10000 (cancel_under C D) ≡ reply 0 (19 ∷ []) 0 0)
  -- a booking under X's name, or under its ClOrdID: 5 without the retirement, and entered with it
  name_again : (without 10000 (books_as X E) ≡ reply 5 [] 0 0) × (with_it 10000 (books_as X E) ≡ reply 0 [] 0 0)
  clordid_again : (without 10000 (books_as Z C) ≡ reply 5 [] 0 0) × (with_it 10000 (books_as Z C) ≡ reply 0 [] 0 0)
  -- "live at the retirement": a late fill of X is alarm 5 without it, and an unknown order's alarm 3 with it
  late : (without 10000 (filled_more X) ≡ reply 0 [] 0 5) × (with_it 10000 (filled_more X) ≡ reply 0 [] 0 3)
  -- its client asks to cancel X: too late without it, an unknown order with it
  cancels_x : (without 10000 (cancel_under E C) ≡ reply 0 (17 ∷ []) 0 0) × (with_it 10000 (cancel_under E C) ≡ reply 0 (17 ∷ []) 1 0)
  -- "too many requests": a client that may use two ClOrdIDs has used both without it, and one with it
  many : (without 2 (cancel_under E D) ≡ reply 0 (17 ∷ []) 99 0) × (with_it 2 (cancel_under E D) ≡ reply 0 (19 ∷ []) 0 0)
  few : (without 3 (cancel_under E D) ≡ reply 0 (19 ∷ []) 0 0) × (with_it 3 (cancel_under E D) ≡ reply 0 (19 ∷ []) 0 0)
  -- "7": with 256 requests there is no room for another without it, and there is with it
  full_kept : rules full_book ≡ true
  full : (reply_of (called full_book gateway_cancels_y) ≡ reply 7 [] 0 0) × (reply_of (called (retired full_book) gateway_cancels_y) ≡ reply 0 (19 ∷ []) 0 0)

limits : Limits
unfolding called retired
limits = record {
  cancels = (refl, refl);
  fills_y = (refl, refl);
  books_z = (refl, refl);
  again = (refl, refl);
  name_again = (refl, refl);
  clordid_again = (refl, refl);
  late = (refl, refl);
  cancels_x = (refl, refl);
  many = (refl, refl);
  few = (refl, refl);
  full_kept = refl;
  full = (refl, refl);
}
