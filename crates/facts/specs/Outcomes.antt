-- Small days beside what comes of each request: each definition of the machine that answers one, and what is near it. Rests on Play. What they shut out: an event 8 that
-- counts as a failed send, an outcome that is set again, a cancel that is accepted by another's report, a settling without a status.
use Rattle.std.specs.Prelude.{ℕ, ◌≡◌, refl, List, [], ◌∷◌, map}
use Rattle.store.specs.Book.{Book}
use Rattle.facts.specs.Play.{number, spelled, bytes, X, X_, D, E, books, cancels, replaces, acknowledges, report_of, turns, rejects, send_fails, sends_again, gateway_cancels, called, empty, playing}

-- what came of each request, in the order of the table: 0 open, 1 accepted, 2 refused, 3 failed to send
abbrev came : List (List ℕ) → List ℕ
came calls = map (λ q. q.outcome) (playing (empty 10) calls).requests

-- booked, a cancel or a replace of it sent, or the gateway's cancel, and then these
abbrev cancelled : List (List ℕ) → List ℕ
cancelled ss = came (books ∷ cancels D ∷ ss)

abbrev replaced : List (List ℕ) → List ℕ
replaced ss = came (books ∷ acknowledges ∷ replaces D 150 ∷ ss)

abbrev gateway : List (List ℕ) → List ℕ
gateway ss = came (books ∷ gateway_cancels ∷ ss)

-- a report of X-1 with ExecType 8 and no status
abbrev unsaid : List ℕ
unsaid = bytes 4 (number 1 2 3 ∷ spelled 5 (X_ 1) ∷ number 12 1 56 ∷ number 14 8 0 ∷ number 15 8 0 ∷ number 16 8 0 ∷ number 17 8 0 ∷ [])

-- the book with a replace that waits
abbrev sent : Book
sent = playing (empty 10) (books ∷ acknowledges ∷ replaces D 150 ∷ [])

record Table : Type 0 where
  -- open until answered
  pending : (came (books ∷ []) ≡ 0 ∷ []) × (cancelled [] ≡ 0 ∷ 0 ∷ []) × (replaced [] ≡ 0 ∷ 0 ∷ []) × (gateway [] ≡ 0 ∷ 0 ∷ [])
  -- Canceled under X, then the event 8 of the request that was out: refused, not failed to send
  again : (cancelled (turns X 52 52 ∷ sends_again (X_ 1) ∷ []) ≡ 0 ∷ 2 ∷ [])
      × (replaced (turns X 52 52 ∷ sends_again (X_ 1) ∷ []) ≡ 0 ∷ 2 ∷ [])
      × (gateway (turns X 52 52 ∷ sends_again (X_ 1) ∷ []) ≡ 0 ∷ 2 ∷ [])
  -- sent again while it is out it stays open
  sent_again : (cancelled (sends_again (X_ 1) ∷ []) ≡ 0 ∷ 0 ∷ []) × (replaced (sends_again (X_ 1) ∷ []) ≡ 0 ∷ 0 ∷ []) × (came (books ∷ sends_again X ∷ []) ≡ 0 ∷ [])
  -- an event 7: failed to send, the first request too while it is PendingNew
  failed : (cancelled (send_fails (X_ 1) ∷ []) ≡ 0 ∷ 3 ∷ [])
      × (replaced (send_fails (X_ 1) ∷ []) ≡ 0 ∷ 3 ∷ [])
      × (came (books ∷ send_fails X ∷ []) ≡ 3 ∷ [])
      × (came (books ∷ acknowledges ∷ send_fails X ∷ []) ≡ 0 ∷ [])
  -- the gateway's too, of a live order and of one that is done
  gateway_failed : (gateway (send_fails (X_ 1) ∷ []) ≡ 0 ∷ 3 ∷ []) × (gateway (turns X 52 52 ∷ send_fails (X_ 1) ∷ []) ≡ 0 ∷ 3 ∷ [])
  -- the venue's cancel reject: refused
  refused : (cancelled (rejects (X_ 1) 99 ∷ []) ≡ 0 ∷ 2 ∷ []) × (replaced (rejects (X_ 1) 99 ∷ []) ≡ 0 ∷ 2 ∷ [])
  -- the gateway's too, if it is given up and if it is tried again, and of an order that is done
  gateway_refused : (gateway (rejects (X_ 1) 1 ∷ []) ≡ 0 ∷ 2 ∷ [])
      × (gateway (rejects (X_ 1) 99 ∷ []) ≡ 0 ∷ 2 ∷ 0 ∷ [])
      × (gateway (turns X 52 52 ∷ rejects (X_ 1) 99 ∷ []) ≡ 0 ∷ 2 ∷ [])
  -- a gateway cancel that waits behind the client's goes when that is refused, and is open
  resumed : came (books ∷ cancels D ∷ gateway_cancels ∷ rejects (X_ 1) 99 ∷ []) ≡ 0 ∷ 2 ∷ 0 ∷ []
  -- rejected, and then Canceled under its own ClOrdID: for good 2. Failed, and then Canceled: for good 3. Accepted, and then rejected: for good 1
  once : (cancelled (rejects (X_ 1) 99 ∷ turns (X_ 1) 52 52 ∷ []) ≡ 0 ∷ 2 ∷ [])
      × (cancelled (send_fails (X_ 1) ∷ turns (X_ 1) 52 52 ∷ []) ≡ 0 ∷ 3 ∷ [])
      × (cancelled (turns (X_ 1) 52 52 ∷ rejects (X_ 1) 99 ∷ []) ≡ 0 ∷ 1 ∷ [])
  -- a cancel is accepted by Canceled under its own ClOrdID: not by PendingCancel, nor by Canceled under X
  cancel : (cancelled (turns (X_ 1) 52 52 ∷ []) ≡ 0 ∷ 1 ∷ []) × (cancelled (turns (X_ 1) 54 54 ∷ []) ≡ 0 ∷ 0 ∷ []) × (cancelled (turns X 52 52 ∷ []) ≡ 0 ∷ 0 ∷ [])
  gateway_cancel : (gateway (turns (X_ 1) 52 52 ∷ []) ≡ 0 ∷ 1 ∷ []) × (gateway (turns (X_ 1) 54 54 ∷ []) ≡ 0 ∷ 0 ∷ [])
  -- an accepted replace settles itself and what it supersedes: by New, by Canceled and by PendingCancel; not by PendingReplace
  replace : (replaced (turns (X_ 1) 53 48 ∷ []) ≡ 1 ∷ 1 ∷ [])
      × (replaced (turns (X_ 1) 52 52 ∷ []) ≡ 1 ∷ 1 ∷ [])
      × (replaced (turns (X_ 1) 54 54 ∷ []) ≡ 1 ∷ 1 ∷ [])
      × (replaced (turns (X_ 1) 69 69 ∷ []) ≡ 0 ∷ 0 ∷ [])
  -- one that was refused is not superseded: the next one supersedes the first request
  replace_again : replaced (rejects (X_ 1) 99 ∷ replaces E 150 ∷ turns (X_ 2) 53 48 ∷ []) ≡ 1 ∷ 2 ∷ 1 ∷ []
  -- 8/4, I/8 and 8/0 refuse
  rejected : (replaced (turns (X_ 1) 56 52 ∷ []) ≡ 0 ∷ 2 ∷ []) × (replaced (turns (X_ 1) 73 56 ∷ []) ≡ 0 ∷ 2 ∷ []) × (replaced (turns (X_ 1) 56 48 ∷ []) ≡ 0 ∷ 2 ∷ [])
  -- they refuse a cancel too, and the gateway's, which is tried again
  rejected_cancel : (cancelled (turns (X_ 1) 56 48 ∷ []) ≡ 0 ∷ 2 ∷ []) × (gateway (turns (X_ 1) 56 48 ∷ []) ≡ 0 ∷ 2 ∷ 0 ∷ [])
  -- ExecType 8 without a status settles nothing, and I/8 with reason 5 is an event 5
  unsettled : (replaced (unsaid ∷ []) ≡ 0 ∷ 0 ∷ []) × (replaced (report_of (X_ 1) 73 56 0 0 0 0 (number 19 4 5 ∷ []) ∷ []) ≡ 0 ∷ 0 ∷ [])
  -- though both were taken
  taken : ((called sent unsaid).refusal ≡ 0) × ((called sent (report_of (X_ 1) 73 56 0 0 0 0 (number 19 4 5 ∷ []))).refusal ≡ 0)
  -- an order that is rejected settles none of its requests
  order_rejected : replaced (turns X 56 56 ∷ []) ≡ 0 ∷ 0 ∷ []

days : Table
unfolding called
days = record {
  pending = (refl, refl, refl, refl);
  again = (refl, refl, refl);
  sent_again = (refl, refl, refl);
  failed = (refl, refl, refl, refl);
  gateway_failed = (refl, refl);
  refused = (refl, refl);
  gateway_refused = (refl, refl, refl);
  resumed = refl;
  once = (refl, refl, refl);
  cancel = (refl, refl, refl);
  gateway_cancel = (refl, refl);
  replace = (refl, refl, refl, refl);
  replace_again = refl;
  rejected = (refl, refl, refl);
  rejected_cancel = (refl, refl);
  unsettled = (refl, refl);
  taken = (refl, refl);
  order_rejected = refl;
}
