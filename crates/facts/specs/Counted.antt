-- The claim's words on small lists of calls, by computation: what is counted, what failed, the tries, and what was reported. Rests on Claim, Since and Play.
use Rattle.std.specs.Prelude.{ℕ, ◌+◌, ◌≡◌, refl, Bool, true, false, List, [], ◌∷◌, ◌++◌, map}
use Rattle.prelude.specs.Texts.{text_of, contents}
use Rattle.prelude.specs.Totals.{how_many}
use Rattle.prelude.specs.declared.Text.{Text}
use Rattle.store.specs.Book.{Book, order_in}
use Rattle.machine.specs.Orders.{has_gateway}
use Rattle.machine.specs.History.{State, start, run, start_from}
use Rattle.machine.specs.Claim.{last_qty_of, starts, cancels_in, once, put_out_by, put_out, failed}
use Rattle.machine.specs.Since.{downstreams, new_out, base_tries, base_out}
use Rattle.facts.specs.Play.{shares, money, X, X_, D, books, cancels, fills, turns, rejects, send_fails, sends_again, gateway_cancels, decoded, called}

-- ---- the words of the tables

-- a report of cum 40
abbrev fills40 : List ℕ
fills40 = fills 40 40 (money 10) (money 10)

-- the order is Canceled
abbrev canceled : List ℕ
canceled = turns X 52 52

-- bytes that are no record
abbrev unreadable : List ℕ
unreadable = 0 ∷ []

-- ---- what is counted

record Counts : Type 0 where
  putout : List (List ℕ)
  failures : ℕ
  tries : ℕ
  stands : Bool
  lastqty : ℕ
  cumulative : ℕ

abbrev counts_of : List (List ℕ) → Counts
counts_of is =
    let s : State = run decoded (start 10000) is in
    let out : List Text = put_out (text_of X) s.past in
    record {
      putout = map contents out;
      failures = how_many (failed s.past) out;
      tries = (order_in s.book 0).gateway.tries;
      stands = has_gateway (order_in s.book 0);
      lastqty = last_qty_of 7 (text_of X) s.past;
      cumulative = (order_in s.book 0).state.cumqty;
    }

-- a gateway cancel stands, with these requests put out
abbrev standing : (putout : List (List ℕ)) (failures tries : ℕ) → Counts
standing putout failures tries = record { putout = putout; failures = failures; tries = tries; stands = true; lastqty = 0; cumulative = 0 }

abbrev filled : (lastqty cumulative : ℕ) → Counts
filled lastqty cumulative = record { putout = []; failures = 0; tries = 0; stands = false; lastqty = lastqty; cumulative = cumulative }

record Facts : Type 0 where
  -- a gateway cancel that is asked for while one is in flight does not begin anew
  twice : counts_of (books ∷ gateway_cancels ∷ gateway_cancels ∷ []) ≡ standing (X_ 1 ∷ []) 0 1
  -- a request that is sent again is one request
  again : counts_of (books ∷ gateway_cancels ∷ sends_again (X_ 1) ∷ []) ≡ standing (X_ 1 ∷ []) 0 1
  -- its send failed, which is reported twice; it is asked for again afterwards: the tries start over
  unsent! : counts_of (books ∷ gateway_cancels ∷ send_fails (X_ 1) ∷ send_fails (X_ 1) ∷ []) ≡ standing (X_ 1 ∷ []) 1 0
  over : counts_of (books ∷ gateway_cancels ∷ send_fails (X_ 1) ∷ gateway_cancels ∷ []) ≡ standing (X_ 2 ∷ []) 0 1
  -- behind the client's cancel it waits, and goes when that is refused
  waits : counts_of (books ∷ cancels D ∷ gateway_cancels ∷ []) ≡ standing [] 0 0
  resumed : counts_of (books ∷ cancels D ∷ gateway_cancels ∷ rejects (X_ 1) 99 ∷ []) ≡ standing (X_ 2 ∷ []) 0 1
  -- refused and tried again
  retried : counts_of (books ∷ gateway_cancels ∷ rejects (X_ 1) 99 ∷ rejects (X_ 2) 99 ∷ []) ≡ standing (X_ 3 ∷ X_ 2 ∷ X_ 1 ∷ []) 0 3
  -- the client's cancel, once the gateway's is stuck, is not the gateway's; nor is it when it is sent again
  clients : counts_of (books ∷ gateway_cancels ∷ rejects (X_ 1) 1 ∷ cancels D ∷ []) ≡ standing (X_ 1 ∷ []) 0 1
  clients_again : counts_of (books ∷ gateway_cancels ∷ rejects (X_ 1) 1 ∷ cancels D ∷ sends_again (X_ 2) ∷ []) ≡ standing (X_ 1 ∷ []) 0 1
  -- an event 8 that answers the request of a done order is no failed send; an event 7 is
  eight : counts_of (books ∷ gateway_cancels ∷ canceled ∷ sends_again (X_ 1) ∷ [])
      ≡ record { putout = X_ 1 ∷ []; failures = 0; tries = 0; stands = false; lastqty = 0; cumulative = 0 }
  seven : counts_of (books ∷ gateway_cancels ∷ canceled ∷ send_fails (X_ 1) ∷ [])
      ≡ record { putout = X_ 1 ∷ []; failures = 1; tries = 0; stands = false; lastqty = 0; cumulative = 0 }
  -- a fill of 40, a call that does not read, a booking that is refused, and the same fill again
  refused : counts_of (books ∷ fills40 ∷ unreadable ∷ books ∷ fills40 ∷ []) ≡ filled (shares 40) (shares 40)

facts : Facts
unfolding called starts cancels_in once put_out_by
facts = record {
  twice = refl;
  again = refl;
  unsent! = refl;
  over = refl;
  waits = refl;
  resumed = refl;
  retried = refl;
  clients = refl;
  clients_again = refl;
  eight = refl;
  seven = refl;
  refused = refl;
}

-- ---- since an image: what a first list of calls leaves is the image of a second

record Since : Type 0 where
  new : List (List ℕ)
  -- of the image, what counts still: its gateway cancel requests, and its tries
  held : List (List ℕ)
  base : ℕ
  failures : ℕ
  tries : ℕ

abbrev since_of : (before after : List (List ℕ)) → Since
since_of before after =
    let image : Book = (run decoded (start 10000) before).book in
    let s : State = run decoded (start_from image) after in
    let out : List Text = new_out image (text_of X) s.past in
    let held : List Text = base_out image (text_of X) s.past in
    record {
      new = map contents out;
      held = map contents held;
      base = base_tries image (text_of X) s.past;
      failures = how_many (failed s.past) out + how_many (failed s.past) held;
      tries = (order_in s.book 0).gateway.tries;
    }

abbrev counted : (new held : List (List ℕ)) (base failures tries : ℕ) → Since
counted new held base failures tries = record { new = new; held = held; base = base; failures = failures; tries = tries }

-- a near reading: the new requests by the messages of both, those after the return and those between the mark and it
abbrev new_of_both : (before meanwhile after : List (List ℕ)) → List (List ℕ)
new_of_both before meanwhile after =
    let image : Book = (run decoded (start 10000) before).book in
    map contents (new_out image (text_of X) ((run decoded (start_from image) after).past ++ (run decoded (start_from image) meanwhile).past))

-- each rules out a near reading
record SinceFacts : Type 0 where
  -- the image's request sent again is not new
  again : since_of (books ∷ gateway_cancels ∷ []) (sends_again (X_ 1) ∷ []) ≡ counted [] (X_ 1 ∷ []) 1 0 1
  -- the send of an image's request fails: it comes off the image's tries
  unsent! : since_of (books ∷ gateway_cancels ∷ []) (send_fails (X_ 1) ∷ []) ≡ counted [] (X_ 1 ∷ []) 1 1 0
  -- the failed send of a client's request does not
  client : since_of (books ∷ cancels D ∷ gateway_cancels ∷ []) (send_fails (X_ 1) ∷ []) ≡ counted [] [] 0 0 0
  -- begun again, nothing of the image counts
  over : since_of (books ∷ gateway_cancels ∷ rejects (X_ 1) 1 ∷ []) (gateway_cancels ∷ []) ≡ counted (X_ 2 ∷ []) [] 0 0 1
  -- the image's tries are not its requests: one whose send failed before is still among them
  before : since_of (books ∷ gateway_cancels ∷ send_fails (X_ 1) ∷ []) [] ≡ counted [] (X_ 1 ∷ []) 0 0 0
  -- a refusal is no failed send
  refused : since_of (books ∷ gateway_cancels ∷ []) (rejects (X_ 1) 99 ∷ []) ≡ counted (X_ 2 ∷ []) (X_ 1 ∷ []) 1 0 2
  -- an event 8 is no failed send either; and the client's cancel is not the gateway's
  eight : since_of (books ∷ gateway_cancels ∷ []) (canceled ∷ sends_again (X_ 1) ∷ []) ≡ counted [] (X_ 1 ∷ []) 1 0 0
  clients : since_of (books ∷ gateway_cancels ∷ rejects (X_ 1) 1 ∷ []) (cancels D ∷ []) ≡ counted [] (X_ 1 ∷ []) 1 0 1
  -- a request that is not in the image is new, even if its downstream ClOrdID went out between the mark and the return: one try, which the messages of
  -- both would not account for
  meanwhile : since_of (books ∷ []) (gateway_cancels ∷ []) ≡ counted (X_ 1 ∷ []) [] 0 0 1
  both : new_of_both (books ∷ []) (gateway_cancels ∷ []) (gateway_cancels ∷ []) ≡ []

since_facts : SinceFacts
unfolding called starts cancels_in once downstreams put_out_by
since_facts = record { again = refl; unsent! = refl; client = refl; over = refl; before = refl; refused = refl; eight = refl; clients = refl; meanwhile = refl; both = refl }
