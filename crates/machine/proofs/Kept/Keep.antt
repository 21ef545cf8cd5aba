-- What a change does to its order keeps the rules: the law, the next request of an order, and the gateway's own cancel. Rests on OrderSteps and Made.
-- The ways that other changes are made are in Refused and Asked.
use Rattle.std.proofs.Common.{ℕ, ◌+◌, ◌≤◌, ◌<◌, arith, ◌≡◌, refl, sym, ap, subst, ◌∙◌, Bool, true, false, not, ◌&&◌, List, [], ◌∷◌, ◌++◌, eqb, leb, ltb, length, ne_eqb, leb-true, le-leb, lt-ltb}
use Rattle.std.proofs.lemmas.Bool.{not-true, and_parts, and_from, or_left, not_from_false}
use Rattle.prelude.specs.Below.{all_below}
use Rattle.prelude.specs.Cases.{if◌then◌otherwise◌}
use Rattle.prelude.specs.Laws.Cases.{split_if, if_true, if_false, clash}
use Rattle.prelude.specs.Texts.{is_text, same_text}
use Rattle.prelude.specs.Laws.Texts.{same_self}
use Rattle.prelude.specs.declared.Text.{Text}
use Rattle.store.specs.declared.GatewayCancel.{GatewayCancel}
use Rattle.store.specs.declared.Order.{Order}
use Rattle.store.specs.declared.Request.{Request}
use Rattle.store.specs.Book.{Book, order_in, request_in}
use Rattle.text.specs.Stored.{no_text}
use Rattle.text.specs.Numbered.{numbered_text}
use Rattle.machine.specs.Constants.{gateway_kind}
use Rattle.machine.specs.Orders.{one_more, is_empty, is_done, has_gateway, with_gateway}
use Rattle.machine.specs.Changes.{Message, unchanged, adding, telling, is_first, is_replace, is_gateway, is_cancel, is_answered, next_number, next_downstream, next_request, numbered_order}
use Rattle.machine.specs.GatewayCancel.{try_sent, given_up, send_gateway_cancel}
use Rattle.machine.specs.Machine.{answer_link, requests_after, latest_cancel}
use Rattle.machine.specs.Ranges.{text_within}
use Rattle.machine.specs.Rules.{gateway_range, request_range, outcome_rule, current_test, current_rule, tries_rule, name_number, number_rule, origin_rule, client_of}
use Rattle.machine.specs.declared.Findings.{Findings}
use Rattle.machine.specs.declared.Output.{Output}
use Rattle.machine.specs.declared.Change.{Change}
use Rattle.machine.proofs.Made.{left}
use Rattle.machine.proofs.Kept.Laws.{and_else}
use Rattle.machine.proofs.Kept.Tables.{at, Linked, linked_at, length_answer, owned, owned_answer, amendments_at, origin_none}
use Rattle.machine.proofs.Kept.Local.{OrderKept, Quiet, flight_rule, quiet_flights, answer_kept, one_more_lem, next_link_lem, next_owned, own_kept}
use Rattle.machine.proofs.Kept.OrderSteps.{gateway_kept}

-- ---- the law of a change to order i

-- an answered link is the order's own
abbrev pub Owns : Book → ℕ → ℕ → Type 0
Owns b i k = (j : ℕ) → k ≡ j + 1 → (at b.requests j).order ≡ i

-- the request that an event adds to an order, as it is left
pub record Added (b : Book) (i : ℕ) (o : Order) (x : Request) : Type 0 where
  pub order : x.order ≡ i
  pub range : request_range x ≡ true
  pub outcome : outcome_rule x ≡ true
  pub number : number_rule o.names.name (owned i b.requests) x ≡ true
  pub origin : origin_rule (b.requests ++ (x ∷ [])) (length b.requests) ≡ true
  pub fresh : (j : ℕ) → j < length b.requests → not (is_empty x.clordid) && eqb o.client (client_of b j) && same_text x.clordid (at b.requests j).clordid ≡ false

pub record Kept (b : Book) (i : ℕ) (c : Change) : Type 0 where
  pub place : c.place ≡ i + 1
  pub name : i < length b.orders → c.order.names.name ≡ (order_in b i).names.name
  pub client : i < length b.orders → c.order.client ≡ (order_in b i).client
  pub answers : Owns b i c.requests.answered
  pub supersedes : Owns b i c.requests.superseded
  pub added : eqb c.requests.added 0 ≡ false → Added b i c.order c.requests.request
  pub rule : OrderKept i c.order (requests_after b.requests c)

no_link : (b : Book) (i : ℕ) → Owns b i 0
no_link b i j e = absurd (omega arith)

-- a request of order i has this ClOrdID
pub record Named (b : Book) (i : ℕ) (t : Text) : Type 0 where
  pub at : ℕ
  pub below : at < length b.requests
  pub own : (request_in b at).order ≡ i
  pub bears : same_text (request_in b at).clordid t ≡ true

-- an order of the book and the facts that go with it
pub record Here (b : Book) (i : ℕ) (f : Findings) (o : Order) : Type 0 where
  pub is : o ≡ order_in b i
  pub place : f.place ≡ i + 1
  pub count : f.requests ≡ length b.requests
  pub latest : f.cancel ≡ latest_cancel b o
  pub few : length b.requests ≤ 256
  pub kept : OrderKept i o b.requests

-- the order that a change leaves has the name and the client that it had
pub record Same (o p : Order) : Type 0 where
  pub name : p.names.name ≡ o.names.name
  pub client : p.client ≡ o.client

module _ (b : Book) (i : ℕ) (f : Findings) (o : Order) (here : Here b i f o) where
  -- no request is added
  pub left_kept : {y : Order} {k s v : ℕ} {out : Output} → Same o y → Owns b i k → Owns b i s → OrderKept i y (answer_link s v (answer_link k v b.requests)) → Kept b i (left f.place y k s v out)
  unfolding requests_after if◌then◌otherwise◌
  left_kept y a w l = record {
    place = here.place;
    name = λ h. y.name ∙ ap (λ (x : Order). x.names.name) here.is;
    client = λ h. y.client ∙ ap (λ (x : Order). x.client) here.is;
    answers = a;
    supersedes = w;
    added = λ e. clash true refl e;
    rule = l;
  }

  -- no request is answered either
  pub still_kept : {y : Order} {out : Output} → Same o y → OrderKept i y b.requests → Kept b i (left f.place y 0 0 0 out)
  unfolding answer_link if◌then◌otherwise◌
  still_kept y l = left_kept y (no_link b i) (no_link b i) l

  pub own_still : {out : Output} → Kept b i (left f.place o 0 0 0 out)
  own_still = still_kept (record { name = refl; client = refl }) here.kept

  -- or one is answered
  pub once_kept : {y : Order} {k v : ℕ} {out : Output} → Same o y → Owns b i k → OrderKept i y (answer_link k v b.requests) → Kept b i (left f.place y k 0 v out)
  unfolding answer_link if◌then◌otherwise◌
  once_kept m w l = left_kept m w (no_link b i) l

  pub answered_kept : {y : Order} {k v : ℕ} {out : Output} → Same o y → Owns b i k → (k ≡ y.pending.request → k ≡ 0) → OrderKept i y b.requests → Kept b i (left f.place y k 0 v out)
  answered_kept {y} {k} {v} m w free l = once_kept m w (answer_kept i k v y b.requests free l)

  -- the client's request goes out
  pub goes_kept : (x : Request) (p : Order) (m : Message) → Same o p → Added b i p x → OrderKept i p (b.requests ++ (x ∷ [])) → Kept b i (telling m (adding x (unchanged f.place p)))
  unfolding telling unchanged adding requests_after answer_link if◌then◌otherwise◌
  goes_kept x p m s a l = record {
    place = here.place;
    name = λ h. s.name ∙ ap (λ (x : Order). x.names.name) here.is;
    client = λ h. s.client ∙ ap (λ (x : Order). x.client) here.is;
    answers = no_link b i;
    supersedes = no_link b i;
    added = λ e. a;
    rule = l;
  }

-- ---- the next request of an order

pub next_right : (f : Findings) (o : Order) (kind n : ℕ) (clordid origclordid : Text) → next_number o ≡ n → 0 < n → is_first (next_request f o kind clordid origclordid) ≡ false
    → number_rule o.names.name n (next_request f o kind clordid origclordid) ≡ true
unfolding number_rule next_request next_downstream
next_right f o kind n clordid origclordid e h first =
    and_from _ _
    (subst (λ (t : Text). same_text (numbered_text o.names.name (next_number o)) t ≡ true)
    (ap (numbered_text o.names.name) e ∙ sym (unfold name_number in if_false (eqb n 0) o.names.name (numbered_text o.names.name n) (ne_eqb n 0 (λ z. omega arith))))
    (same_self (numbered_text o.names.name (next_number o))))
    (if_false (is_first _) (eqb n 0) (ltb 0 n) first ∙ lt-ltb 0 n h)

-- the next request has no outcome yet
pub next_outcome : (f : Findings) (o : Order) (kind : ℕ) (clordid origclordid : Text) → outcome_rule (next_request f o kind clordid origclordid) ≡ true
unfolding outcome_rule is_answered next_request if◌then◌otherwise◌
next_outcome f o kind clordid origclordid = refl

-- the requests once a change has answered its own
abbrev pub settled_by : List Request → Change → List Request
settled_by qs c = answer_link c.requests.superseded c.requests.outcome (answer_link c.requests.answered c.requests.outcome qs)

pub after_settled : (qs : List Request) (c : Change) → eqb c.requests.added 0 ≡ true → requests_after qs c ≡ settled_by qs c
unfolding requests_after
after_settled qs c e = if_true (eqb c.requests.added 0) _ _ e

pub after_more : (qs : List Request) (c : Change) → eqb c.requests.added 0 ≡ false → requests_after qs c ≡ settled_by qs c ++ (c.requests.request ∷ [])
unfolding requests_after
after_more qs c e = if_false (eqb c.requests.added 0) _ _ e

pub length_settled : (qs : List Request) (c : Change) → length (settled_by qs c) ≡ length qs
length_settled qs c = length_answer c.requests.superseded c.requests.outcome _ ∙ length_answer c.requests.answered c.requests.outcome qs

pub owned_settled : (i : ℕ) (qs : List Request) (c : Change) → owned i (settled_by qs c) ≡ owned i qs
owned_settled i qs c = owned_answer i c.requests.superseded c.requests.outcome _ ∙ owned_answer i c.requests.answered c.requests.outcome qs

-- ---- a gateway cancel goes out

-- the link of the current request is in the table
pub current_link : (i : ℕ) (o : Order) (qs : List Request) → current_rule i o qs ≡ true → Linked (current_test o.names.downstream) i o.links.current qs
unfolding current_rule
current_link i o qs e = linked_at (current_test o.names.downstream) i o.links.current qs e

-- a gateway cancel that names the current request
pub named_range : (i : ℕ) (o : Order) (qs : List Request) (g : GatewayCancel) → g.origdownstream ≡ o.links.current → not (g.unsent && g.stuck) ≡ true → OrderKept i o qs
    → gateway_range (length qs) g ≡ true
unfolding gateway_range
named_range i o qs g e s l =
    let c : Linked (current_test o.names.downstream) i o.links.current qs = current_link i o qs l.current in
    let above : 0 < o.links.current = c.above in
    let within : o.links.current ≤ length qs = c.within in
    and_from _ _ (and_from _ _ s (le-leb g.origdownstream (length qs) (omega arith))) (or_left _ _ (not_from_false _ (ne_eqb g.origdownstream 0 (λ z. omega arith))))

pub few_tries : (g : GatewayCancel) (n : ℕ) → g.tries ≤ n → n ≤ 2 → tries_rule g ≡ true
unfolding tries_rule
few_tries g n h m = split_if (λ (k : ℕ). leb g.tries k ≡ true) g.unsent (λ e. le-leb g.tries 2 (omega arith)) (λ e. le-leb g.tries 3 (omega arith))

pub three_tries : (g : GatewayCancel) → g.unsent ≡ false → g.tries ≤ 3 → tries_rule g ≡ true
unfolding tries_rule
three_tries g u h = ap (λ (n : ℕ). leb g.tries n) (if_false g.unsent 2 3 u) ∙ le-leb g.tries 3 h

pub tries_at : (g : GatewayCancel) → tries_rule g ≡ true → g.tries ≤ 3
unfolding tries_rule
tries_at g e = leb-true g.tries 3 (split_if (λ (k : ℕ). leb g.tries k ≡ true → leb g.tries 3 ≡ true) g.unsent
    (λ u h. let l : g.tries ≤ 2 = leb-true g.tries 2 h in le-leb g.tries 3 (omega arith)) (λ u h. h) e)

pub tries_unsent : (g : GatewayCancel) → g.unsent ≡ true → tries_rule g ≡ true → g.tries ≤ 2
unfolding tries_rule
tries_unsent g u e = leb-true g.tries 2 (sym (ap (λ (n : ℕ). leb g.tries n) (if_true g.unsent 2 3 u)) ∙ e)

-- a gateway cancel that is not both unsent and stuck
pub not_stuck : (n : ℕ) (g : GatewayCancel) → g.unsent ≡ true → gateway_range n g ≡ true → g.stuck ≡ false
unfolding gateway_range
not_stuck n g u e =
    let (e, r3) = and_parts _ _ e in
    and_else g.unsent g.stuck u (not-true (g.unsent && g.stuck) (and_parts (not (g.unsent && g.stuck)) (leb g.origdownstream n) e).0)

pub record Sends (b : Book) (i : ℕ) (c : Change) : Type 0 where
  pub kept : Kept b i c
  pub idle : eqb c.requests.added 0 ≡ true
  pub live : is_done c.order.state.status ≡ false
  pub quiet : Quiet i (requests_after b.requests c)
  pub few : c.order.gateway.tries ≤ 2
  pub free : c.order.gateway.stuck ≡ false

module _ (b : Book) (i : ℕ) (f : Findings) (o : Order) (here : Here b i f o) (c : Change) where
  gateway_request : Request
  gateway_request = next_request f c.order gateway_kind no_text no_text

  send_order : Sends b i c → OrderKept i (with_gateway (try_sent c.order) (numbered_order f true c.order)) (settled_by b.requests c ++ (gateway_request ∷ []))
  unfolding gateway_request try_sent numbered_order next_number if◌then◌otherwise◌
  send_order s =
      let p : Order = c.order in
      let qs : List Request = settled_by b.requests c in
      let n : length qs ≡ length b.requests = length_settled b.requests c in
      let l : OrderKept i p qs = subst (OrderKept i p) (after_settled b.requests c s.idle) s.kept.rule in
      let quiet : Quiet i qs = subst (Quiet i) (after_settled b.requests c s.idle) s.quiet in
      let few : p.gateway.tries ≤ 2 = s.few in
      let room : length b.requests ≤ 256 = here.few in
      let more : one_more 255 p.gateway.tries ≡ p.gateway.tries + 1 = one_more_lem 255 p.gateway.tries (omega arith) in
      let g : OrderKept i (with_gateway (try_sent p) p) qs =
      gateway_kept i p qs l (try_sent p) s.live quiet (named_range i p qs (try_sent p) refl refl l) (three_tries (try_sent p) refl (omega arith)) in
      own_kept i qs (next_request f p gateway_kind no_text no_text) f true (with_gateway (try_sent p) p) (here.count ∙ sym n) (omega arith)
      (unfold next_request in let e : f.place ≡ i + 1 = here.place in omega arith) (λ e. unfold is_cancel is_first is_replace next_request in refl)
      (quiet_flights i _ qs quiet)
      (flight_rule (length qs + 1) _ _ (record { latest = next_link_lem f (length qs) (here.count ∙ sym n) (omega arith); tried = omega arith; sent = refl; free = s.free }))
      g

  send_added : Sends b i c → Added b i (with_gateway (try_sent c.order) (numbered_order f true c.order)) gateway_request
  unfolding gateway_request numbered_order
  send_added s =
      let p : Order = c.order in
      let qs : List Request = settled_by b.requests c in
      let l : OrderKept i p qs = subst (OrderKept i p) (after_settled b.requests c s.idle) s.kept.rule in
      let n : length qs ≡ length b.requests = length_settled b.requests c in
      let room : length b.requests ≤ 256 = here.few in
      let next : next_number p ≡ owned i b.requests = next_owned i p qs (omega arith) l.amendments ∙ owned_settled i b.requests c in
      let some : p.links.amendments + 1 ≡ owned i b.requests = amendments_at i p.links.amendments qs l.amendments ∙ owned_settled i b.requests c in
      record {
        order = unfold next_request in let e : f.place ≡ i + 1 = here.place in omega arith;
        range = unfold next_request request_range is_gateway is_first text_within is_text all_below if◌then◌otherwise◌ in refl;
        outcome = next_outcome f p gateway_kind no_text no_text;
        number = next_right f p gateway_kind (owned i b.requests) no_text no_text next (omega arith) (unfold is_first next_request in refl);
        origin = origin_none b.requests (next_request f p gateway_kind no_text no_text) (unfold next_request in refl);
        fresh = λ j h. unfold next_request in refl;
      }

  pub send_kept : Sends b i c → Kept b i (send_gateway_cancel f c)
  unfolding send_gateway_cancel telling adding requests_after if◌then◌otherwise◌ gateway_request
  send_kept s = record {
    place = s.kept.place;
    name = unfold numbered_order in s.kept.name;
    client = unfold numbered_order in s.kept.client;
    answers = s.kept.answers;
    supersedes = s.kept.supersedes;
    added = λ e. send_added s;
    rule = send_order s;
  }

-- ---- it is given up, or tried again

pub stuck_range : (n : ℕ) (o : Order) → has_gateway o ≡ true → o.gateway.unsent ≡ false → gateway_range n o.gateway ≡ true → gateway_range n (given_up o) ≡ true
unfolding gateway_range given_up has_gateway
stuck_range n o g u e =
    let (e, r3) = and_parts _ _ e in let (r1, r2) = and_parts (not (o.gateway.unsent && o.gateway.stuck)) (leb o.gateway.origdownstream n) e in
    and_from _ _ (and_from _ _ (not_from_false _ (ap (λ (x : Bool). x && true) u)) r2) (or_left _ _ g)
