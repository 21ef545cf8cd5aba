-- docs/SCOPE.md, Days in small, as one table of facts: all lines but the last, which a program runs. Beside it, what is stated in passing. Rests on Play.
-- Each row is an event beside the messages that it puts out, whole, the alarm, and the whole book as it is left: order X and its requests.
use Rattle.std.specs.Prelude.{ℕ, ◌+◌, ◌^◌, ◌-◌, ◌≡◌, refl, true, false, List, [], ◌∷◌, ◌++◌}
use Rattle.prelude.specs.Cases.{if◌then◌otherwise◌}
use Rattle.records.specs.Record.{event_in}
use Rattle.store.specs.Book.{Book}
use Rattle.store.specs.declared.Order.{Order}
use Rattle.machine.specs.Orders.{next_sequence}
use Rattle.store.specs.Orders.{no_pending, no_gateway}
use Rattle.machine.specs.Amend.{priced_right}
use Rattle.facts.specs.Play.{number, spelled, bytes, shares, money, X, X_, C, D, W, books, replaces, acknowledges, fills, rejects, gateway_cancels, called, empty, playing, day, state, links, order_x, standing, cancelling, reported, refused, to_venue', Row, row, events, lines, request, first, refused_cancels}

-- ---- the words of the table

-- a day goes as its rows say
abbrev Goes : Book → List Row → Type 0
Goes b rows = day b (events rows) ≡ lines rows

-- "a star starts again at New, cum 0"
abbrev star : Book
star = playing (empty 10000) (books ∷ acknowledges ∷ [])

-- the order with that much filled, in shares, at that average, after that many reports
abbrev filled : (cum avg sequence : ℕ) → Order
filled = standing 49

-- a fill, reported as LastQty at a price from a source, with what it leaves
abbrev fill_row : (event : List ℕ) (last leaves price source : ℕ) → Order → Row
fill_row event last leaves price source o = row event (reported o 70 last leaves price source ∷ []) 0 o (first ∷ [])

-- the gateway's cancel of that number goes out, so many tries and requests by then
abbrev tried : (event : List ℕ) (n : ℕ) → Row
tried event n = row event (to_venue' 19 (X_ n) 100 ∷ []) 0 (order_x (state 48 0 0 1) (links n 1 (n + 1)) no_pending (cancelling n false))
    (first ∷ (refused_cancels (n - 1) ++ (request 3 0 [] [] (X_ n) ∷ [])))

-- it is given up: no message, alarm 1, and it is stuck
abbrev stuck! : (event : List ℕ) (n : ℕ) → Row
stuck! event n = row event [] 1 (order_x (state 48 0 0 1) (links n 1 (n + 1)) no_pending (cancelling n true))
    (first ∷ refused_cancels n)

-- ---- the table

record Table : Type 0 where
  -- New, cum 0: report, LastQty 0. Cum 40, last 40 at 10, avg 10: LastQty 40, leaves 60. The same again: no message.
  -- From there cum 70, last 10 at 11, avg 10.3: LastQty 30 at 10.7
  forty : Goes (empty 10000)
      (row books [] 0 (standing 65 0 0 0) (first ∷ [])
      ∷ row acknowledges (reported (standing 48 0 0 1) 48 0 100 0 3 ∷ []) 0 (standing 48 0 0 1) (first ∷ [])
      ∷ fill_row (fills 40 40 (money 10) (money 10)) 40 60 (money 10) 1 (filled 40 (money 10) 2)
      ∷ row (fills 40 40 (money 10) (money 10)) [] 0 (filled 40 (money 10) 2) (first ∷ [])
      ∷ fill_row (fills 70 10 (money 11) 1030000000) 30 30 1070000000 2 (filled 70 1030000000 3)
      ∷ [])
  -- * Cum 100 applies; cum 101 gives alarm 2, all fields stay
  hundred : Goes star
      (fill_row (fills 100 100 (money 10) (money 10)) 100 0 (money 10) 1 (filled 100 (money 10) 2)
      ∷ row (fills 101 1 (money 10) (money 10)) [] 2 (filled 100 (money 10) 2) (first ∷ [])
      ∷ [])
  -- * At cum 40 replace to 39: refused, text 3; to 40: goes out
  replaced : Goes star
      (fill_row (fills 40 40 (money 10) (money 10)) 40 60 (money 10) 1 (filled 40 (money 10) 2)
      ∷ row (replaces D 39) (refused 49 2 99 3 ∷ []) 0 (filled 40 (money 10) 2) (first ∷ [])
      ∷ row (replaces D 40) (to_venue' 20 (X_ 1) 40 ∷ []) 0
      (order_x (state 49 40 (money 10) 2) (links 1 1 0) (record { request = 2; qty = shares 40; price = money 10; ordtype = 50; timeinforce = 0 }) no_gateway)
      (first ∷ request 2 0 D C (X_ 1) ∷ [])
      ∷ [])
  -- * Cum 1 avg 1, then cum 3, last 1, avg 1.00000001: price 1.00000002
  up : Goes star
      (fill_row (fills 1 1 (money 1) (money 1)) 1 99 (money 1) 1 (filled 1 (money 1) 2)
      ∷ fill_row (fills 3 1 (money 1) 100000001) 2 97 100000002 2 (filled 3 100000001 3)
      ∷ [])
  -- With first avg 1.00000002: price 1.00000001
  up_even : Goes star
      (fill_row (fills 1 1 (money 1) 100000002) 1 99 (money 1) 1 (filled 1 100000002 2)
      ∷ fill_row (fills 3 1 (money 1) 100000001) 2 97 100000001 2 (filled 3 100000001 3)
      ∷ [])
  -- * Cum 2 avg 1, then cum 3, last 0, avg 0.5: price 0.5
  average : Goes star
      (fill_row (fills 2 2 (money 1) (money 1)) 2 98 (money 1) 1 (filled 2 (money 1) 2)
      ∷ fill_row (fills 3 0 0 50000000) 1 97 50000000 3 (filled 3 50000000 3)
      ∷ [])
  -- * Three refused gateway cancels, reason 99: stuck, alarm 1
  three : Goes star (tried gateway_cancels 1 ∷ tried (rejects (X_ 1) 99) 2 ∷ tried (rejects (X_ 2) 99) 3 ∷ stuck! (rejects (X_ 3) 99) 3 ∷ [])
  -- One refused with reason 1, downstream unchanged: stuck
  gone : Goes star (tried gateway_cancels 1 ∷ stuck! (rejects (X_ 1) 1) 1 ∷ [])

days : Table
unfolding called
days = record {
  forty = refl;
  hundred = refl;
  replaced = refl;
  up = refl;
  up_even = refl;
  average = refl;
  three = refl;
  gone = refl;
}

-- ---- in passing

-- after report sequence 2^64 - 1 comes 0
sequence : next_sequence (2 ^ 64 - 1) ≡ 0
unfolding next_sequence if◌then◌otherwise◌
sequence = refl

-- a price only if the type is limit: with it, and without, for types 2 and 1
unpriced : List ℕ
unpriced = bytes 1 (number 0 2 7 ∷ number 1 2 3 ∷ spelled 2 X ∷ spelled 3 C ∷ spelled 6 W ∷ number 7 1 49 ∷ number 8 1 49 ∷ number 9 8 (shares 100) ∷ [])

priced : (priced_right 50 (event_in books) ≡ true) × (priced_right 49 (event_in books) ≡ false) × (priced_right 50 (event_in unpriced) ≡ false) × (priced_right 49 (event_in unpriced) ≡ true)
unfolding called unpriced
priced = (refl, refl, refl, refl)
