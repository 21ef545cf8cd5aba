-- The gateway's own cancels, by smallest lists of events, each beside the message, the alarm and the whole record of the gateway cancel that are left: when a
-- refusal is final, when the cancel is tried again, and when one that waits goes out. Rests on Play.
-- Near readings that are wrong are ruled out: the cancel is given up for the reason alone, whatever became of the downstream; no reason is taken for reason 0; the cancel is resumed while
-- the client's own cancel is out.
use Rattle.std.specs.Prelude.{ℕ, ◌≡◌, refl, Bool, true, false, List, [], ◌∷◌, map}
use Rattle.store.specs.declared.GatewayCancel.{GatewayCancel}
use Rattle.store.specs.Book.{Book, order_in}
use Rattle.machine.specs.Changes.{Message}
use Rattle.machine.specs.History.{messages_of, left_by}
use Rattle.machine.specs.declared.Change.{Change}
use Rattle.facts.specs.Play.{number, spelled, bytes, X, X_, D, E, books, cancels, replaces, turns, reject_of, rejects, send_fails, gateway_cancels, report_of, called, empty, playing}

-- ---- the words of the tables

-- what the last call comes to: the kinds of its messages, the alarm, and the gateway cancel of order X as it is left
record Came : Type 0 where
  kinds : List ℕ
  alarm : ℕ
  gateway : GatewayCancel

abbrev kind_of : Message → ℕ
kind_of m = m.kind

abbrev came_of : Book → Change → Came
came_of b c = record { kinds = map kind_of (messages_of c); alarm = c.output.alarm; gateway = (order_in (left_by b c) 0).gateway }

-- the order is booked; then some calls, and the one
abbrev comes : List (List ℕ) → (event : List ℕ) → Came
comes before event = let b = playing (empty 10000) (books ∷ before) in came_of b (called b event)

-- as it should be: that many tries, the request that the last one named, by its link, and refused sends
abbrev cancel : (unsent stuck : Bool) (tries named refusedsends : ℕ) → GatewayCancel
cancel unsent stuck tries named refusedsends = record { tries = tries; unsent = unsent; stuck = stuck; origdownstream = named; refusedsends = refusedsends }

-- sent, given up, or waiting
abbrev sends : (kinds : List ℕ) (tries named : ℕ) → Came
sends kinds tries named = record { kinds = kinds; alarm = 0; gateway = cancel false false tries named 0 }

abbrev gives_up : (tries named : ℕ) → Came
gives_up tries named = record { kinds = []; alarm = 1; gateway = cancel false true tries named 0 }

abbrev waits : (kinds : List ℕ) (tries named refusedsends : ℕ) → Came
waits kinds tries named refusedsends = record { kinds = kinds; alarm = 0; gateway = cancel true false tries named refusedsends }

-- the replace X-1 to 150 is accepted; a refusal of the request without a reason
abbrev accepts : List ℕ
accepts = turns (X_ 1) 53 48

abbrev rejects_plainly : (downstream : List ℕ) → List ℕ
rejects_plainly downstream = reject_of downstream []

-- ---- reason 0 or 1 is final if the current downstream is still the one that the try named

record Reasons : Type 0 where
  too_late : comes (gateway_cancels ∷ []) (rejects (X_ 1) 0) ≡ gives_up 1 1
  unknown : comes (gateway_cancels ∷ []) (rejects (X_ 1) 1) ≡ gives_up 1 1
  -- once a replace was accepted the downstream is another: the cancel is tried again and names that one, without an alarm
  moved_too_late : comes (replaces D 150 ∷ gateway_cancels ∷ accepts ∷ []) (rejects (X_ 2) 0) ≡ sends (19 ∷ []) 2 2
  moved : comes (replaces D 150 ∷ gateway_cancels ∷ accepts ∷ []) (rejects (X_ 2) 1) ≡ sends (19 ∷ []) 2 2
  -- the next try named that downstream: the refusal is final
  named_anew : comes (replaces D 150 ∷ gateway_cancels ∷ accepts ∷ rejects (X_ 2) 1 ∷ []) (rejects (X_ 3) 1) ≡ gives_up 2 2
  -- a replace that is out, one that was refused, and one that was accepted before leave the downstream as it was named
  replacing : comes (replaces D 150 ∷ gateway_cancels ∷ []) (rejects (X_ 2) 1) ≡ gives_up 1 1
  not_replaced : comes (replaces D 150 ∷ gateway_cancels ∷ rejects (X_ 1) 99 ∷ []) (rejects (X_ 2) 1) ≡ gives_up 1 1
  replaced : comes (replaces D 150 ∷ accepts ∷ gateway_cancels ∷ []) (rejects (X_ 2) 1) ≡ gives_up 1 2
  -- with any other reason the cancel is tried again; the third try is the last, even if the downstream is another
  reason_2 : comes (gateway_cancels ∷ []) (rejects (X_ 1) 2) ≡ sends (19 ∷ []) 2 1
  reason_99 : comes (gateway_cancels ∷ []) (rejects (X_ 1) 99) ≡ sends (19 ∷ []) 2 1
  moved_99 : comes (replaces D 150 ∷ gateway_cancels ∷ accepts ∷ []) (rejects (X_ 2) 99) ≡ sends (19 ∷ []) 2 2
  third : comes (gateway_cancels ∷ rejects (X_ 1) 99 ∷ rejects (X_ 2) 99 ∷ []) (rejects (X_ 3) 99) ≡ gives_up 3 1
  moved_third : comes (replaces D 150 ∷ gateway_cancels ∷ rejects (X_ 2) 99 ∷ rejects (X_ 3) 99 ∷ accepts ∷ []) (rejects (X_ 4) 1) ≡ gives_up 3 1

by_reason : Reasons
unfolding called
by_reason = record {
  too_late = refl;
  unknown = refl;
  moved_too_late = refl;
  moved = refl;
  named_anew = refl;
  replacing = refl;
  not_replaced = refl;
  replaced = refl;
  reason_2 = refl;
  reason_99 = refl;
  moved_99 = refl;
  third = refl;
  moved_third = refl;
}

-- ---- no reason is not reason 0: in a cancel reject, and in a rejecting report, whose reason counts for nothing

record Without : Type 0 where
  plainly : comes (gateway_cancels ∷ []) (rejects_plainly (X_ 1)) ≡ sends (19 ∷ []) 2 1
  plainly_third : comes (gateway_cancels ∷ rejects_plainly (X_ 1) ∷ rejects_plainly (X_ 2) ∷ []) (rejects_plainly (X_ 3)) ≡ gives_up 3 1
  by_report : comes (gateway_cancels ∷ []) (turns (X_ 1) 56 56) ≡ sends (19 ∷ []) 2 1
  by_report_for : comes (gateway_cancels ∷ []) (report_of (X_ 1) 56 48 0 0 0 0 (number 19 4 1 ∷ [])) ≡ sends (19 ∷ []) 2 1

without : Without
unfolding called
without = record { plainly = refl; plainly_third = refl; by_report = refl; by_report_for = refl }

-- ---- a gateway cancel that waits goes out after a refusal, and not while the client's own cancel is out

record Waiting : Type 0 where
  begins : comes (cancels D ∷ []) gateway_cancels ≡ waits [] 0 1 0
  own : comes (cancels D ∷ gateway_cancels ∷ []) (rejects (X_ 1) 99) ≡ sends (17 ∷ 19 ∷ []) 1 1
  -- a reject that names the order, or comes from another venue, leaves the cancel out: no message
  by_order : comes (cancels D ∷ gateway_cancels ∷ []) (rejects_plainly X) ≡ waits [] 0 1 0
  by_another : comes (cancels D ∷ gateway_cancels ∷ []) (bytes 6 (number 1 2 4 ∷ spelled 5 (X_ 1) ∷ [])) ≡ waits [] 0 1 0
  -- the refusal of a replace, or of an earlier cancel, leaves it out too: the latest cancel counts
  by_replace : comes (replaces D 150 ∷ cancels E ∷ gateway_cancels ∷ []) (rejects (X_ 1) 99) ≡ waits (17 ∷ []) 0 1 0
  after_replace : comes (replaces D 150 ∷ cancels E ∷ gateway_cancels ∷ rejects (X_ 1) 99 ∷ []) (rejects (X_ 2) 99) ≡ sends (17 ∷ 19 ∷ []) 1 1
  by_earlier : comes (cancels D ∷ cancels E ∷ gateway_cancels ∷ []) (rejects (X_ 1) 99) ≡ waits (17 ∷ []) 0 1 0
  by_latest : comes (cancels D ∷ cancels E ∷ gateway_cancels ∷ []) (rejects (X_ 2) 99) ≡ sends (17 ∷ 19 ∷ []) 1 1
  -- it names the downstream that is current when it goes
  goes_anew : comes (replaces D 150 ∷ cancels E ∷ gateway_cancels ∷ accepts ∷ []) (rejects (X_ 2) 99) ≡ sends (17 ∷ 19 ∷ []) 1 2
  -- a failed send does not let it go, the client's or its own; the next reject does, for then no cancel is out
  client_fails : comes (cancels D ∷ gateway_cancels ∷ []) (send_fails (X_ 1)) ≡ waits (17 ∷ []) 0 1 0
  client_failed : comes (cancels D ∷ gateway_cancels ∷ send_fails (X_ 1) ∷ []) (rejects_plainly X) ≡ sends (19 ∷ []) 1 1
  fails : comes (gateway_cancels ∷ []) (send_fails (X_ 1)) ≡ waits [] 0 1 1
  failed : comes (gateway_cancels ∷ send_fails (X_ 1) ∷ []) (rejects_plainly X) ≡ record { kinds = 19 ∷ []; alarm = 0; gateway = cancel false false 1 1 1 }
  -- a gateway cancel that was given up does not go out again, and neither does one that is out
  given_up_lem : comes (gateway_cancels ∷ rejects (X_ 1) 1 ∷ []) (rejects_plainly X) ≡ record { kinds = []; alarm = 0; gateway = cancel false true 1 1 0 }
  out : comes (gateway_cancels ∷ []) (rejects_plainly X) ≡ sends [] 1 1

waiting : Waiting
unfolding called
waiting = record {
  begins = refl;
  own = refl;
  by_order = refl;
  by_another = refl;
  by_replace = refl;
  after_replace = refl;
  by_earlier = refl;
  by_latest = refl;
  goes_anew = refl;
  client_fails = refl;
  client_failed = refl;
  fails = refl;
  failed = refl;
  given_up_lem = refl;
  out = refl;
}
