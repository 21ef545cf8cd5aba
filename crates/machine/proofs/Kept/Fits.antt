-- What the rules leave open of a book's fields stays within their widths: client, venue, texts, and the three counters. Rests on Stepped.
use Rattle.std.proofs.Common.{ℕ, ◌-◌, ◌^◌, ◌≤◌, ◌<◌, arith, ◌≡◌, refl, Bool, true, false, List, [], ◌∷◌, ◌++◌, eqb, length, get_or, set, eqb-true, ltb-true, subst, sym, ⊎_elim, All}
use Rattle.std.proofs.lemmas.Bool.{eqb-false, cases_lt}
use Rattle.std.proofs.lemmas.List.{get_or_past}
use Rattle.std.proofs.lemmas.List.Elements.{All-get_or, All-from_get_or, All-set, All-push}
use Rattle.prelude.specs.Cases.{if◌then◌otherwise◌}
use Rattle.prelude.specs.Laws.Cases.{split_if}
use Rattle.prelude.specs.Texts.{WholeText}
use Rattle.prelude.specs.Laws.Bytes.{bytes_zeros}
use Rattle.prelude.specs.declared.Text.{Text}
use Rattle.store.specs.declared.Names.{Names}
use Rattle.store.specs.declared.Pending.{Pending}
use Rattle.store.specs.declared.GatewayCancel.{GatewayCancel}
use Rattle.store.specs.declared.Order.{Order}
use Rattle.store.specs.declared.Request.{Request}
use Rattle.store.specs.Book.{Book, order_in, request_in}
use Rattle.store.specs.Orders.{no_order, no_pending}
use Rattle.store.specs.Requests.{no_request}
use Rattle.text.specs.Stored.{no_text}
use Rattle.format.specs.Codes.{rejected}
use Rattle.machine.specs.Orders.{one_more, set_status, kept_order_id, record_venue_order_id, apply_replace, next_sequence, next_exec, with_state, with_pending, with_gateway}
use Rattle.machine.specs.Changes.{Event, unchanged, refusing, adding, telling, alarming, next_number, next_downstream, next_request, numbered_order}
use Rattle.machine.specs.GatewayCancel.{begun, try_sent, given_up, send_gateway_cancel}
use Rattle.machine.specs.Amend.{cancel_goes, replace_goes, not_pending, refused_order, send_refused}
use Rattle.machine.specs.Report.{accepts, reported_order}
use Rattle.machine.specs.Machine.{booked_order, first_request, step_of, answer_link, orders_after, requests_after, after, book_after}
use Rattle.machine.specs.Whole.{WholeEvent}
use Rattle.machine.specs.declared.Findings.{Findings}
use Rattle.machine.specs.declared.Refused.{Refused}
use Rattle.machine.specs.declared.Output.{Output}
use Rattle.machine.specs.declared.Change.{Change}
use Rattle.machine.proofs.Made.{left, From, by_report, by_reject, by_failure, declined, waits, goes, repeated, turned, unpriced, cancel_sent, replace_sent}
use Rattle.machine.proofs.Walked.{Closed, closed_made}
use Rattle.machine.proofs.Stepped.{MadeBy, AskedBy, AmendedBy, Ways, step_made}
use Rattle.machine.proofs.Numbered.{NumberedLaws}

pub record NamesFit (n : Names) : Type 0 where
  pub name : WholeText n.name
  pub short : n.name.len ≤ 20
  pub clordid : WholeText n.clordid
  pub downstream : WholeText n.downstream
  pub symbol : WholeText n.symbol
  pub venueorderid : WholeText n.venueorderid

pub record OrderFits (o : Order) : Type 0 where
  pub client : o.client < 2 ^ 16
  pub venue : o.venue < 2 ^ 16
  pub names : NamesFit o.names
  pub execseq : o.state.execseq < 2 ^ 64
  pub amendments : o.links.amendments ≤ 65535
  pub refusedsends : o.gateway.refusedsends ≤ 4294967295

pub record RequestFits (q : Request) : Type 0 where
  pub clordid : WholeText q.clordid
  pub origclordid : WholeText q.origclordid
  pub downstream : WholeText q.downstream

-- a change brings an order and a request that fit
pub record ChangeFits (c : Change) : Type 0 where
  pub order : OrderFits c.order
  pub request : RequestFits c.requests.request

-- ---- nothing fits

pub no_text_whole : WholeText no_text
no_text_whole = record { long = refl; len = omega arith; bytes = bytes_zeros 32 }

no_order_fits : OrderFits no_order
no_order_fits = record {
  client = omega arith;
  venue = omega arith;
  names = record { name = no_text_whole; short = omega arith; clordid = no_text_whole; downstream = no_text_whole; symbol = no_text_whole; venueorderid = no_text_whole };
  execseq = omega arith;
  amendments = omega arith;
  refusedsends = omega arith;
}

no_request_fits : RequestFits no_request
no_request_fits = record { clordid = no_text_whole; origclordid = no_text_whole; downstream = no_text_whole }

-- ---- the order's steps

one_more_fits : (top n : ℕ) → n ≤ top → one_more top n ≤ top
unfolding one_more
one_more_fits top n h = split_if (λ (k : ℕ). k ≤ top) _ (λ t. let l : n < top = ltb-true n top t in omega arith) (λ t. h)

sequence_fits : (n : ℕ) → n < 2 ^ 64 → next_sequence n < 2 ^ 64
unfolding next_sequence
sequence_fits n h = split_if (λ (k : ℕ). k < 2 ^ 64) _ (λ t. omega arith) (λ t. omega (arith, eqb-false n (2 ^ 64 - 1) t))

module _ (o : Order) (f : OrderFits o) where
  exec_fits : OrderFits (next_exec o)
  unfolding next_exec
  exec_fits = record {
    client = f.client;
    venue = f.venue;
    names = f.names;
    execseq = sequence_fits o.state.execseq f.execseq;
    amendments = f.amendments;
    refusedsends = f.refusedsends;
  }

  pending_fits : (p : Pending) → OrderFits (with_pending p o)
  pending_fits p = record { client = f.client; venue = f.venue; names = f.names; execseq = f.execseq; amendments = f.amendments; refusedsends = f.refusedsends }

  gateway_fits : (g : GatewayCancel) → g.refusedsends ≤ 4294967295 → OrderFits (with_gateway g o)
  gateway_fits g h = record { client = f.client; venue = f.venue; names = f.names; execseq = f.execseq; amendments = f.amendments; refusedsends = h }

  -- quantities and a status; the sequence stays
  state_fits : (s status cumqty avgpx execseq : ℕ) → execseq < 2 ^ 64 → OrderFits (set_status s (with_state (record { status = status; cumqty = cumqty; avgpx = avgpx; execseq = execseq }) o))
  unfolding set_status
  state_fits s status cumqty avgpx execseq h = record {
    client = f.client;
    venue = f.venue;
    names = f.names;
    execseq = h;
    amendments = f.amendments;
    refusedsends = split_if (λ (g : GatewayCancel). g.refusedsends ≤ 4294967295) _ (λ t. omega arith) (λ t. f.refusedsends);
  }

  numbered_fits : (x : Findings) (cancels : Bool) → OrderFits (numbered_order x cancels o)
  unfolding numbered_order next_number
  numbered_fits x cancels = record {
    client = f.client;
    venue = f.venue;
    names = f.names;
    execseq = f.execseq;
    amendments = one_more_fits 65535 o.links.amendments f.amendments;
    refusedsends = f.refusedsends;
  }

  named_fits : (given : Text) (r : Bool) → WholeText given → OrderFits (record_venue_order_id given r o)
  unfolding record_venue_order_id kept_order_id
  named_fits given r w =
      let n : NamesFit o.names = f.names in
      record {
        client = f.client;
        venue = f.venue;
        names = record {
          name = n.name;
          short = n.short;
          clordid = n.clordid;
          downstream = n.downstream;
          symbol = n.symbol;
          venueorderid = split_if WholeText _ (λ t. n.venueorderid) (λ t. split_if WholeText _ (λ t. w) (λ t. n.venueorderid));
        };
        execseq = f.execseq;
        amendments = f.amendments;
        refusedsends = f.refusedsends;
      }

  replaced_fits : (q : Request) → RequestFits q → OrderFits (apply_replace q o)
  unfolding apply_replace
  replaced_fits q r =
      let n : NamesFit o.names = f.names in
      record {
        client = f.client;
        venue = f.venue;
        names = record { name = n.name; short = n.short; clordid = r.clordid; downstream = r.downstream; symbol = n.symbol; venueorderid = n.venueorderid };
        execseq = f.execseq;
        amendments = f.amendments;
        refusedsends = f.refusedsends;
      }

status_fits : (o : Order) (s : ℕ) → OrderFits o → OrderFits (set_status s o)
status_fits o s f = state_fits o f s o.state.status o.state.cumqty o.state.avgpx o.state.execseq f.execseq

refused_fits : (k : ℕ) (r : Refused) (o : Order) → WholeText r.venueorderid → OrderFits o → OrderFits (refused_order k r o)
unfolding refused_order not_pending
refused_fits k r o w f =
    let n = pending_fits _ (named_fits o f r.venueorderid false w) (if eqb o.pending.request k then no_pending otherwise o.pending) in
    split_if OrderFits _ (λ t. n)
    (λ t. split_if OrderFits _ (λ t. status_fits _ r.status n) (λ t. split_if OrderFits _ (λ t. status_fits _ _ n) (λ t. n)))

-- ---- the handling of an event

module _ (laws : NumberedLaws) (f : Findings) where
  next_fits : (o : Order) (kind : ℕ) (clordid origclordid : Text) → OrderFits o → WholeText clordid → WholeText origclordid → RequestFits (next_request f o kind clordid origclordid)
  unfolding next_request next_downstream next_number
  next_fits o kind clordid origclordid h c d = record {
    clordid = c;
    origclordid = d;
    downstream = laws.whole o.names.name (next_number o) h.names.name h.names.short (one_more_fits 65535 o.links.amendments h.amendments);
  }

  send_fits : (p : ℕ) (y : Order) (j s v : ℕ) (out : Output) → OrderFits y → ChangeFits (send_gateway_cancel f (left p y j s v out))
  unfolding send_gateway_cancel telling adding try_sent
  send_fits p y j s v out h = record {
    order = gateway_fits (numbered_order f true y) (numbered_fits y h f true) (try_sent y) h.refusedsends;
    request = next_fits y _ no_text no_text h no_text_whole no_text_whole;
  }

  module _ {o : Order} (h : OrderFits o) {e : Event} (w : WholeEvent e) where
    made_fits : {k : ℕ} {q : Request} → RequestFits q → (c c' : Change) → MadeBy f k q o e c c' → ChangeFits c
    made_fits {k} {q} r c c' = closed_made z
      where
        from_whole : {x : Refused} → From k q o e x → WholeText x.venueorderid
        from_whole (by_report v) = w.venueorderid
        from_whole (by_reject v) = w.venueorderid
        from_whole (by_failure n) = no_text_whole

        z : Closed k q o e f.place f.cancel f.requests f.requests OrderFits (λ c c'. ChangeFits c)
        z = record {
          own = h;
          refused = λ {r = x} v. refused_fits k x o (from_whole v) h;
          named = named_fits o h e.ids.venueorderid false w.venueorderid;
          fallen = gateway_fits o h (send_refused o.gateway) (unfold send_refused in one_more_fits 4294967295 o.gateway.refusedsends h.refusedsends);
          ended = status_fits o rejected h;
          reports = unfold reported_order in
              let n : OrderFits (record_venue_order_id e.ids.venueorderid (accepts k q o e) o) = named_fits o h e.ids.venueorderid (accepts k q o e) w.venueorderid in
              state_fits _ (split_if OrderFits (accepts k q o e) (λ t. replaced_fits _ n q r) (λ t. n)) _ _ _ _ _ h.execseq;
          gives_up = λ y v. gateway_fits y v (given_up y) (unfold given_up in v.refusedsends);
          counts = exec_fits;
          leaves = λ y t u v. record { order = y; request = no_request_fits };
          sends = λ out y t u v. send_fits _ _ _ _ _ out y;
        }

    amended_fits : {order : ℕ} {full : Bool} (c c' : Change) → AmendedBy f order full o e c c' → ChangeFits c
    unfolding refusing cancel_goes replace_goes telling adding unchanged
    amended_fits c c' (repeated t) = record { order = exec_fits o h; request = no_request_fits }
    amended_fits c c' (turned v t) = record { order = h; request = no_request_fits }
    amended_fits c c' (unpriced t) = record { order = no_order_fits; request = no_request_fits }
    amended_fits c c' (cancel_sent z t) = record { order = numbered_fits o h f true; request = next_fits o _ _ _ h w.clordid w.origclordid }
    amended_fits c c' (replace_sent t u) = record { order = pending_fits _ (numbered_fits o h f false) _; request = next_fits o _ _ _ h w.clordid w.origclordid }

  asked_fits : {o : Order} → OrderFits o → (c c' : Change) → AskedBy f o c c' → ChangeFits c
  asked_fits h c c' (declined z) = record { order = h; request = no_request_fits }
  asked_fits {o} h c c' (waits d g) = record { order = gateway_fits o h (begun o) (unfold begun in omega arith); request = no_request_fits }
  asked_fits {o} h c c' (goes d g) = send_fits _ _ _ _ _ _ (gateway_fits o h (begun o) (unfold begun in omega arith))

-- ---- the book

-- the orders and requests, those past the end among them
pub record BookFits (b : Book) : Type 0 where
  pub order : (i : ℕ) → OrderFits (order_in b i)
  pub request : (j : ℕ) → RequestFits (request_in b j)

module _ {A : Type 0} (P : A → Type 0) (d : A) (blank : P d) where
  -- what all elements have, they have past the end, with one set, and with one added
  pub past_all : (l : List A) → ((k : ℕ) → k < length l → P (get_or l k d)) → (k : ℕ) → P (get_or l k d)
  past_all l h k = ⊎_elim (h k) (λ z. subst P (sym (get_or_past l k d z)) blank) (cases_lt k (length l))

  every_one : (l : List A) → ((k : ℕ) → P (get_or l k d)) → All P l
  every_one l h = All-from_get_or P l d (λ k z. h k)

  pub set_all : (l : List A) (i : ℕ) (x : A) → ((k : ℕ) → P (get_or l k d)) → P x → (k : ℕ) → P (get_or (set l i x) k d)
  set_all l i x h p = past_all (set l i x) (λ k z. All-get_or P (set l i x) k d z (All-set P l i x p (every_one l h)))

  pub more_all : (l : List A) (x : A) → ((k : ℕ) → P (get_or l k d)) → P x → (k : ℕ) → P (get_or (l ++ (x ∷ [])) k d)
  more_all l x h p = past_all (l ++ (x ∷ [])) (λ k z. All-get_or P (l ++ (x ∷ [])) k d z (All-push P l x (every_one l h) p))

pub orders_past : (l : List Order) → ((k : ℕ) → k < length l → OrderFits (get_or l k no_order)) → (k : ℕ) → OrderFits (get_or l k no_order)
orders_past = past_all OrderFits no_order no_order_fits

pub requests_past : (l : List Request) → ((k : ℕ) → k < length l → RequestFits (get_or l k no_request)) → (k : ℕ) → RequestFits (get_or l k no_request)
requests_past = past_all RequestFits no_request no_request_fits

answer_fits : (k v : ℕ) (qs : List Request) → ((j : ℕ) → RequestFits (get_or qs j no_request)) → (j : ℕ) → RequestFits (get_or (answer_link k v qs) j no_request)
unfolding answer_link
answer_fits k v qs h j =
    split_if (λ (l : List Request). RequestFits (get_or l j no_request)) _ (λ t. h j)
    (λ t. set_all RequestFits no_request no_request_fits qs (k - 1) _ h (let q = h (k - 1) in record { clordid = q.clordid; origclordid = q.origclordid; downstream = q.downstream }) j)

after_fits : (b : Book) (c : Change) → BookFits b → ChangeFits c → BookFits (after b c)
unfolding after orders_after requests_after
after_fits b c f h = record {
  order = λ i. split_if (λ (l : List Order). OrderFits (get_or l i no_order)) _ (λ t. f.order i)
      (λ t. split_if (λ (l : List Order). OrderFits (get_or l i no_order)) _ (λ t. set_all OrderFits no_order no_order_fits b.orders _ c.order f.order h.order i)
      (λ t. more_all OrderFits no_order no_order_fits b.orders c.order f.order h.order i));
  request = λ j. split_if (λ (l : List Request). RequestFits (get_or l j no_request)) _ (λ t. settled j)
      (λ t. more_all RequestFits no_request no_request_fits settled_by c.requests.request settled h.request j);
}
  where
    settled_by : List Request
    settled_by = answer_link c.requests.superseded c.requests.outcome (answer_link c.requests.answered c.requests.outcome b.requests)

    settled : (j : ℕ) → RequestFits (get_or settled_by j no_request)
    settled = answer_fits c.requests.superseded _ _ (answer_fits c.requests.answered _ b.requests f.request)

module _ (laws : NumberedLaws) (b : Book) (e : Event) (f : BookFits b) (w : WholeEvent e) (short : e.kind ≡ 1 → e.ids.name.len ≤ 20) where
  ways : Ways ChangeFits b e
  unfolding refusing unchanged alarming adding booked_order first_request
  ways = record {
    refuses = λ n z. record { order = no_order_fits; request = no_request_fits };
    no_order_lem = λ z. record { order = no_order_fits; request = no_request_fits };
    unknown = λ z. record { order = no_order_fits; request = no_request_fits };
    books = λ t u v. record {
      order = record {
        client = w.client;
        venue = w.venue;
        names = record { name = w.name; short = short (eqb-true e.kind 1 t); clordid = w.clordid; downstream = w.name; symbol = w.symbol; venueorderid = no_text_whole };
        execseq = omega arith;
        amendments = omega arith;
        refusedsends = omega arith;
      };
      request = record { clordid = w.clordid; origclordid = no_text_whole; downstream = w.name };
    };
    amends_none = λ z order full. amended_fits laws _ no_order_fits w;
    amends = λ z k y full. amended_fits laws _ (f.order (request_in b k).order) w;
    answers = λ y k z. made_fits laws _ (f.order (request_in b k).order) w (f.request k);
    asks = λ y i z. asked_fits laws _ (f.order i);
  }

  pub fits_kept : BookFits (book_after b e)
  unfolding book_after
  fits_kept = split_if BookFits _ (λ t. after_fits b (step_of b e) f (step_made ChangeFits b e ways)) (λ t. f)
