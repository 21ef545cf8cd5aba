-- Open quantity by smallest lists of events: what is left of the ordered, by accepted terms, of the client's own orders; and that a refusal's status moves it without a
-- report. Rests on Play and machine's `open_of`.
use Rattle.std.specs.Prelude.{ℕ, ◌≡◌, refl, List, [], ◌∷◌}
use Rattle.machine.specs.Changes.{Message}
use Rattle.machine.specs.History.{messages_of}
use Rattle.machine.specs.Exchange.{open_of}
use Rattle.facts.specs.Play.{number, spelled, bytes, shares, money, X, X_, D, E, W, books_as, books, cancels, replaces, report_of, fills, turns, reject_of, rejects, gateway_cancels, called, empty, playing}

-- what the client has open after the calls, in counts of 10^-4
abbrev opens : (client : ℕ) → List (List ℕ) → ℕ
opens client calls = open_of (playing (empty 10000) calls) client

abbrev Y : List ℕ
Y = 89 ∷ []

-- client 8 books 30 under the name Y
abbrev another_books : List ℕ
another_books =
    bytes 1
    (number 0 2 8 ∷ number 1 2 3 ∷ spelled 2 Y ∷ spelled 3 D ∷ spelled 6 W ∷ number 7 1 49 ∷ number 8 1 50 ∷ number 9 8 (shares 30) ∷ number 10 8 (money 10) ∷ [])

abbrev Z : List ℕ
Z = 90 ∷ []

-- client 7 sells 30 at the market at venue 4, under that name
abbrev sells : (name : List ℕ) → List ℕ
sells name = bytes 1 (number 0 2 7 ∷ number 1 2 4 ∷ spelled 2 name ∷ spelled 3 E ∷ spelled 6 W ∷ number 7 1 50 ∷ number 8 1 49 ∷ number 9 8 (shares 30) ∷ [])

-- the venue accepts the replace X-1, with that many filled before
abbrev accepts : (cum : ℕ) → List ℕ
accepts cum = report_of (X_ 1) 53 49 0 0 cum (money 10) []

-- the last call: the kinds of its messages, and what client 7 has open before it and after it, in shares
record Moved : Type 0 where
  kinds : List ℕ
  before : ℕ
  after : ℕ

abbrev kinds_of : List Message → List ℕ
kinds_of [] = []
kinds_of (m ∷ ms) = m.kind ∷ kinds_of ms

abbrev moves : List (List ℕ) → (event : List ℕ) → Moved
moves calls event = record {
  kinds = kinds_of (messages_of (called (playing (empty 10000) calls) event));
  before = open_of (playing (empty 10000) calls) 7;
  after = open_of (playing (playing (empty 10000) calls) (event ∷ [])) 7;
}

abbrev moved : (kinds : List ℕ) (before after : ℕ) → Moved
moved kinds before after = record { kinds = kinds; before = shares before; after = shares after }

record Opens : Type 0 where
  -- a client without orders
  nobody : opens 8 (books ∷ []) ≡ 0
  -- what is left, and not what is filled
  left : opens 7 (books ∷ fills 40 40 (money 10) (money 10) ∷ []) ≡ shares 60
  -- all of the client's orders, and no other client's
  both : opens 7 (books ∷ books_as Y E ∷ []) ≡ shares 200
  own : opens 7 (books ∷ another_books ∷ []) ≡ shares 100
  another : opens 8 (books ∷ another_books ∷ []) ≡ shares 30
  -- a sale at the market at another venue counts as a buy with a limit does, with another client's order between the two as without
  every : opens 7 (books ∷ sells Y ∷ []) ≡ shares 130
  between : opens 7 (books ∷ another_books ∷ sells Z ∷ []) ≡ shares 130
  -- a booking that is refused, its name being used, does not count
  name_used : opens 7 (books ∷ another_books ∷ sells Y ∷ []) ≡ shares 100
  -- a done order has nothing left
  done : opens 7 (books ∷ fills 40 40 (money 10) (money 10) ∷ report_of X 52 52 0 0 40 (money 10) [] ∷ []) ≡ 0
  expired : opens 7 (books ∷ turns X 67 67 ∷ []) ≡ 0
  rejected : opens 7 (books ∷ turns X 56 56 ∷ []) ≡ 0
  -- one that waits for a cancel or a replace is not done
  pending_cancel : opens 7 (books ∷ cancels D ∷ turns (X_ 1) 54 54 ∷ []) ≡ shares 100
  pending_replace : opens 7 (books ∷ replaces D 200 ∷ turns (X_ 1) 69 69 ∷ []) ≡ shares 100
  -- the accepted quantity, and not the one that waits
  waiting : opens 7 (books ∷ replaces D 200 ∷ []) ≡ shares 100
  accepted : opens 7 (books ∷ replaces D 200 ∷ turns (X_ 1) 53 48 ∷ []) ≡ shares 200
  -- so with a replace down: it is not the smaller of the two while the replace waits, even if it is pending at the venue, nor once it is refused; with a fill, and down to what is filled
  waiting_down : opens 7 (books ∷ replaces D 60 ∷ []) ≡ shares 100
  pending_down : opens 7 (books ∷ replaces D 60 ∷ turns (X_ 1) 69 69 ∷ []) ≡ shares 100
  refused_down : opens 7 (books ∷ replaces D 60 ∷ rejects (X_ 1) 99 ∷ []) ≡ shares 100
  accepted_down : opens 7 (books ∷ replaces D 60 ∷ turns (X_ 1) 53 48 ∷ []) ≡ shares 60
  waiting_up_filled : opens 7 (books ∷ fills 40 40 (money 10) (money 10) ∷ replaces D 200 ∷ []) ≡ shares 60
  accepted_up_filled : opens 7 (books ∷ fills 40 40 (money 10) (money 10) ∷ replaces D 200 ∷ accepts 40 ∷ []) ≡ shares 160
  waiting_down_filled : opens 7 (books ∷ fills 40 40 (money 10) (money 10) ∷ replaces D 70 ∷ []) ≡ shares 60
  accepted_down_filled : opens 7 (books ∷ fills 40 40 (money 10) (money 10) ∷ replaces D 70 ∷ accepts 40 ∷ []) ≡ shares 30
  waiting_to_filled : opens 7 (books ∷ fills 40 40 (money 10) (money 10) ∷ replaces D 40 ∷ []) ≡ shares 60
  accepted_to_filled : opens 7 (books ∷ fills 40 40 (money 10) (money 10) ∷ replaces D 40 ∷ accepts 40 ∷ []) ≡ 0
  -- a fill above the quantity that waits, and one in the report that accepts
  filled_above : opens 7 (books ∷ replaces D 60 ∷ fills 70 70 (money 10) (money 10) ∷ []) ≡ shares 30
  accepted_with_fill : opens 7 (books ∷ replaces D 60 ∷ report_of (X_ 1) 53 49 40 (money 10) 40 (money 10) [] ∷ []) ≡ shares 20
  -- a booking moves it, without a message
  booking : moves [] books ≡ moved [] 0 100
  -- the status of a refusal moves it: with the client's cancel by a message 17 alone, with the gateway's by no message at all
  refusal : moves (books ∷ cancels D ∷ []) (reject_of (X_ 1) (number 13 1 52 ∷ [])) ≡ moved (17 ∷ []) 100 0
  refusal_silent : moves (books ∷ gateway_cancels ∷ []) (reject_of (X_ 1) (number 13 1 52 ∷ [])) ≡ moved [] 100 0
  -- a refusal without a status does not
  refusal_alone : moves (books ∷ cancels D ∷ []) (rejects (X_ 1) 99) ≡ moved (17 ∷ []) 100 100
  -- nor does Filled below the quantity, in a refusal and in a report
  refusal_short : moves (books ∷ cancels D ∷ []) (reject_of (X_ 1) (number 13 1 50 ∷ [])) ≡ moved (17 ∷ []) 100 100
  report_short : moves (books ∷ []) (turns X 48 50) ≡ moved (16 ∷ []) 100 100
  -- an order that is done for the day leaves 0, told or not, and what is left again once that ends
  day : opens 7 (books ∷ turns X 51 51 ∷ []) ≡ 0
  day_filled : opens 7 (books ∷ report_of X 70 51 40 (money 10) 40 (money 10) [] ∷ []) ≡ 0
  untold : opens 7 (books ∷ gateway_cancels ∷ turns (X_ 1) 54 51 ∷ []) ≡ 0
  day_refused : opens 7 (books ∷ cancels D ∷ reject_of (X_ 1) (number 13 1 51 ∷ []) ∷ []) ≡ 0
  next_day : opens 7 (books ∷ report_of X 70 51 40 (money 10) 40 (money 10) [] ∷ report_of X 73 49 0 0 40 (money 10) [] ∷ []) ≡ shares 60

opened : Opens
unfolding called
opened = record {
  nobody = refl;
  left = refl;
  both = refl;
  own = refl;
  another = refl;
  every = refl;
  between = refl;
  name_used = refl;
  done = refl;
  expired = refl;
  rejected = refl;
  pending_cancel = refl;
  pending_replace = refl;
  waiting = refl;
  accepted = refl;
  waiting_down = refl;
  pending_down = refl;
  refused_down = refl;
  accepted_down = refl;
  waiting_up_filled = refl;
  accepted_up_filled = refl;
  waiting_down_filled = refl;
  accepted_down_filled = refl;
  waiting_to_filled = refl;
  accepted_to_filled = refl;
  filled_above = refl;
  accepted_with_fill = refl;
  booking = refl;
  refusal = refl;
  refusal_silent = refl;
  refusal_alone = refl;
  refusal_short = refl;
  report_short = refl;
  day = refl;
  day_filled = refl;
  untold = refl;
  day_refused = refl;
  next_day = refl;
}
