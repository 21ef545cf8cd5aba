-- docs/SCOPE.md, Questions: each as a test, and the number of the first no. What stands in quotes is the desk's wording. Rests on opens (question 1), records (3 and 4) and
-- machine (the words of 5 to 7). `event` does not decide by this file: that it returns `first_no` is proved.
use Rattle.std.specs.Prelude.{ℕ, Bool, not, ◌&&◌, ◌||◌, List, eqb, leb, ltb, length}
use Rattle.prelude.specs.Cases.{if◌then◌otherwise◌}
use Rattle.records.specs.Record.{event_in}
use Rattle.store.specs.declared.Order.{Order}
use Rattle.store.specs.Layout.{most_orders, most_requests}
use Rattle.store.specs.Book.{Book, book_of}
use Rattle.store.specs.Finds.{count_clordids}
use Rattle.machine.specs.Changes.{Event}
use Rattle.machine.specs.Amend.{amend_refusal, already_taken, or_own, replace_refusal, priced_right}
use Rattle.machine.specs.Machine.{order_of, order_at_link, unused, change_of, findings_of}
use Rattle.rules.specs.Keeps.{keeps_of}
use Rattle.format.specs.Refusal.{event_refusal}

abbrev pub is_booking : Event → Bool
is_booking e = eqb e.kind 1

abbrev pub is_replacing : Event → Bool
is_replacing e = eqb e.kind 3

-- 5. "For a booking: are the order name, and the ClOrdID for that client, both unused?"
unfoldable pub used : Book → Event → Bool
used b e = is_booking e && not (unused b e)

-- 6. "Is there a price exactly when the type is limit? Put to a booking, and to a replace that passed all trade refusals, with the order's type where it
-- names none."
abbrev pub replaced : Book → Event → Order
replaced b e = order_at_link b (order_of b e.client e.ids.origclordid)

-- it is not told again, and nothing refuses it
unfoldable pub passed_all : Book → Event → Bool
passed_all b e =
    let f = findings_of b (order_of b e.client e.ids.origclordid) in
    let order = order_of b e.client e.ids.clordid in
    let full = leb b.setting (count_clordids b e.client) in
    not (already_taken f order e) && eqb (amend_refusal f order full (replaced b e) e (replace_refusal f (replaced b e) e)).fixedtext 0

unfoldable pub mispriced : Book → Event → Bool
mispriced b e =
    (is_booking e && not (priced_right e.terms.ordtype e))
    || (is_replacing e && (passed_all b e && not (priced_right (or_own e.terms.ordtype (replaced b e).terms.ordtype) e)))

-- 7. "Is there a free order record for a booking, and a free request record for each that the event adds?" No event adds more than one.
unfoldable pub adds : Book → Event → Bool
adds b e = not (eqb (change_of b e).requests.added 0)

unfoldable pub full : Book → Event → Bool
full b e = (is_booking e && leb most_orders (length b.orders)) || (adds b e && leb most_requests (length b.requests))

-- "The first no gives its number. Zero means taken."
unfoldable pub first_no : (book event answer : List ℕ) → ℕ
first_no b r a =
    if not (keeps_of b) then 1
    otherwise if ltb (length a) 1024 then 2
    otherwise if eqb (event_refusal r) 3 then 3
    otherwise if eqb (event_refusal r) 4 then 4
    otherwise if used (book_of b) (event_in r) then 5
    otherwise if mispriced (book_of b) (event_in r) then 6
    otherwise if full (book_of b) (event_in r) then 7
    otherwise 0
