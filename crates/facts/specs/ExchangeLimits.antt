-- Where two events may not be exchanged: for each word of the statement of two clients (change request 12) a smallest list on which its conclusion fails without that word; and which order a
-- record concerns. From bytes, through the reader, the rules and the machine. Rests on Play and machine's `concerns`.
use Rattle.std.specs.Prelude.{ℕ, ◌≡◌, refl, true, List, [], ◌∷◌, ◌++◌}
use Rattle.prelude.specs.Lists.{list_below}
use Rattle.prelude.specs.Texts.{text_of}
use Rattle.records.specs.Record.{event_in}
use Rattle.store.specs.Book.{Book, order_in}
use Rattle.store.specs.Orders.{no_pending, no_gateway}
use Rattle.text.specs.Stored.{no_text}
use Rattle.machine.specs.Changes.{Message}
use Rattle.machine.specs.Machine.{step_of, after}
use Rattle.machine.specs.Rules.{rules}
use Rattle.machine.specs.History.{messages_of}
use Rattle.machine.specs.Exchange.{concerns}
use Rattle.facts.specs.Play.{number, spelled, bytes, shares, money, X, X_, C, D, E, W, books_as, books, cancels, replaces, rejects, send_fails, fills, sends_again, gateway_cancels, called, empty, playing, terms, state, links, order_x, first, refused_cancel}

abbrev Y : List ℕ
Y = 89 ∷ []

-- client 8 books Y under its own ClOrdID C
abbrev another_books : List ℕ
another_books =
    bytes 1
    (number 0 2 8 ∷ number 1 2 3 ∷ spelled 2 Y ∷ spelled 3 C ∷ spelled 6 W ∷ number 7 1 49 ∷ number 8 1 50 ∷ number 9 8 (shares 100) ∷ number 10 8 (money 10) ∷ [])

-- a client cancels, under E, the order that it booked under that ClOrdID
abbrev cancel_by : (client : ℕ) (origclordid : List ℕ) → List ℕ
cancel_by client origclordid = bytes 2 (number 0 2 client ∷ spelled 3 E ∷ spelled 4 origclordid ∷ spelled 6 W ∷ number 7 1 49 ∷ [])

-- the gateway cancels Y
abbrev gateway_cancels_y : List ℕ
gateway_cancels_y = bytes 9 (spelled 2 Y ∷ [])

-- a venue of that number does not know X
abbrev unknown_by : (venue : ℕ) → List ℕ
unknown_by venue = bytes 5 (number 1 2 venue ∷ spelled 5 X ∷ [])

-- what a call comes to on a book: its refusal, and the kinds of its messages
record Reply : Type 0 where
  refusal : ℕ
  kinds : List ℕ

abbrev reply : (refusal : ℕ) (kinds : List ℕ) → Reply
reply refusal kinds = record { refusal = refusal; kinds = kinds }

abbrev kinds_of : List Message → List ℕ
kinds_of [] = []
kinds_of (m ∷ ms) = m.kind ∷ kinds_of ms

abbrev replies : Book → List ℕ → Reply
replies b s = reply (called b s).refusal (kinds_of (messages_of (called b s)))

-- after these calls, from the empty book
abbrev replies_after : List (List ℕ) → List ℕ → Reply
replies_after calls s = replies (playing (empty 10000) calls) s

-- the link of the order that the record concerns after these calls, 0 for none
abbrev concerns_after : List (List ℕ) → List ℕ → ℕ
concerns_after calls s = concerns (playing (empty 10000) calls) (event_in s)

-- X of client 7 with 254 requests, all but the first refused cancels of the gateway, and Y of client 8 with one: 255
abbrev almost_full : Book
almost_full = record {
  setting = 10000;
  orders =
      order_x (state 48 0 0 1) (links 253 1 0) no_pending no_gateway
      ∷ record {
        client = 8;
        venue = 3;
        names = record { name = text_of Y; clordid = text_of C; downstream = text_of Y; symbol = text_of W; venueorderid = no_text };
        terms = terms 100;
        state = state 48 0 0 1;
        links = links 0 255 0;
        pending = no_pending;
        gateway = no_gateway;
      }
      ∷ [];
  requests =
      (first ∷ list_below refused_cancel 253)
      ++ (record { order = 1; kind = 0; answered = 0; clordid = text_of C; origclordid = no_text; downstream = text_of Y; outcome = 0 } ∷ []);
}

-- what question 5, 6 or 7 says, and the book that is left
abbrev asked : Book → List ℕ → ℕ
asked b s = (step_of b (event_in s)).refusal

abbrev next : Book → List ℕ → Book
next b s = after b (step_of b (event_in s))

record Limits : Type 0 where
  -- within the words, X of client 7 and Y of client 8 under one ClOrdID each: each client's cancel goes out, whichever is first
  within : replies_after (books ∷ another_books ∷ []) (cancel_by 7 C) ≡ reply 0 (19 ∷ [])
  within_after : replies_after (books ∷ another_books ∷ cancel_by 8 C ∷ []) (cancel_by 7 C) ≡ reply 0 (19 ∷ [])
  -- "different clients": both orders are client 7's, and the second to use ClOrdID E is refused
  one_client : replies_after (books ∷ books_as Y D ∷ []) (cancel_by 7 C) ≡ reply 0 (19 ∷ [])
  one_client_after : replies_after (books ∷ books_as Y D ∷ cancel_by 7 D ∷ []) (cancel_by 7 C) ≡ reply 0 (17 ∷ [])
  -- "concern": X-1 is what the gateway's cancel of X creates; sent again it goes out, and before it is nothing
  created : concerns_after (books ∷ []) (sends_again (X_ 1)) ≡ 0
  created_before : replies_after (books ∷ []) (sends_again (X_ 1)) ≡ reply 0 []
  created_after : replies_after (books ∷ gateway_cancels ∷ []) (sends_again (X_ 1)) ≡ reply 0 (19 ∷ [])
  -- "both taken": at 255 requests each is taken, and whichever is second gets 7
  full_kept : rules almost_full ≡ true
  full : (asked almost_full gateway_cancels ≡ 0) × (asked (next almost_full gateway_cancels) gateway_cancels_y ≡ 7)
  full_turned : (asked almost_full gateway_cancels_y ≡ 0) × (asked (next almost_full gateway_cancels_y) gateway_cancels ≡ 7)
  -- "kinds 2 to 9": of two bookings the first has the first record
  bookings : (order_in (playing (empty 10000) (books ∷ another_books ∷ [])) 0).client ≡ 7
  bookings_turned : (order_in (playing (empty 10000) (another_books ∷ books ∷ [])) 0).client ≡ 8

record Concern : Type 0 where
  -- kinds 2 and 3: by the client and the OrigClOrdID, which another client may have used too
  own : concerns_after (books ∷ another_books ∷ []) (cancel_by 7 C) ≡ 1
  another : concerns_after (books ∷ another_books ∷ []) (cancel_by 8 C) ≡ 2
  -- it is not found by the ClOrdID that it brings, nor by one that only another client used
  brought : concerns_after (books ∷ another_books ∷ []) (cancel_by 7 E) ≡ 0
  not_its : concerns_after (books ∷ []) (cancel_by 8 C) ≡ 0
  -- kinds 4 to 8: by the downstream ClOrdID of any of the order's requests, at any venue
  filled : concerns_after (books ∷ []) (fills 40 40 (money 10) (money 10)) ≡ 1
  amended : concerns_after (books ∷ cancels E ∷ []) (sends_again (X_ 1)) ≡ 1
  elsewhere : concerns_after (books ∷ []) (unknown_by 4) ≡ 1
  replaced : concerns_after (books ∷ []) (replaces E 100) ≡ 1
  rejected : concerns_after (books ∷ cancels E ∷ []) (rejects (X_ 1) 99) ≡ 1
  failed : concerns_after (books ∷ []) (send_fails X) ≡ 1
  -- kind 9: by the name
  asked_for : concerns_after (books ∷ another_books ∷ []) gateway_cancels_y ≡ 2
  unnamed : concerns_after (books ∷ []) gateway_cancels_y ≡ 0

limits : Limits
unfolding called concerns
limits = record {
  within = refl;
  within_after = refl;
  one_client = refl;
  one_client_after = refl;
  created = refl;
  created_before = refl;
  created_after = refl;
  full_kept = refl;
  full = (refl, refl);
  full_turned = (refl, refl);
  bookings = refl;
  bookings_turned = refl;
}

concern : Concern
unfolding called concerns
concern = record {
  own = refl;
  another = refl;
  brought = refl;
  not_its = refl;
  filled = refl;
  amended = refl;
  elsewhere = refl;
  replaced = refl;
  rejected = refl;
  failed = refl;
  asked_for = refl;
  unnamed = refl;
}
