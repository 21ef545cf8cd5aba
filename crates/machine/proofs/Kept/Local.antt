-- One order among the requests: what the rules ask of it, and that a request answered and a request added keep that. Rests on Tables.
use Rattle.std.proofs.Common.{ℕ, ◌+◌, ◌≤◌, ◌<◌, arith, ◌≡◌, refl, sym, ap, subst, ◌∙◌, ◌⊎◌, inl, inr, ⊎_elim, Bool, true, false, not, ◌&&◌, ◌||◌, List, [], ◌∷◌, ◌++◌, eqb, leb, ltb, length, eqb-true, eq-eqb, leb-true, le-leb, ltb-true, lt-ltb}
use Rattle.std.proofs.lemmas.Bool.{not-true, and_parts, or_cases, and_from, or_left, or_right, not_from_false}
use Rattle.prelude.specs.Laws.Below.{count_le}
use Rattle.prelude.specs.Laws.Cases.{split_if, if_true, clash}
use Rattle.store.specs.declared.GatewayCancel.{GatewayCancel}
use Rattle.store.specs.declared.Order.{Order}
use Rattle.store.specs.declared.Request.{Request}
use Rattle.store.specs.Book.{Book, order_in, answered}
use Rattle.machine.specs.Orders.{one_more, is_done, has_pending, has_gateway}
use Rattle.machine.specs.Changes.{is_first, is_replace, is_gateway, is_cancel, is_answered, next_link, next_number, numbered_order}
use Rattle.machine.specs.Machine.{answer_link}
use Rattle.format.specs.Codes.{is_status, is_price}
use Rattle.machine.specs.Rules.{names_range, terms_range, pending_range, gateway_range, order_range, current_test, pending_test, current_rule, cancel_rule, pending_rule, filled_rule, status_rule, done_rule, tries_rule, of_order, amendments_rule, order_rule, in_flight_rule}
use Rattle.machine.specs.declared.Findings.{Findings}
use Rattle.machine.proofs.Kept.Laws.{or_map}
use Rattle.machine.proofs.Kept.Tables.{at, linked_at, linked_answer, linked_more, linked_new, length_answer, answer_case, length_more, more_case, owned, owned_answer, owned_own, owned_other, amendments_at, at_amendments}

-- Order i, rule by rule: its ranges, its links, its numbers, and what its unanswered requests ask of it.
pub record OrderKept (i : ℕ) (o : Order) (qs : List Request) : Type 0 where
  pub names : names_range o.names ≡ true
  pub terms : terms_range o.terms ≡ true
  pub coded : is_status o.state.status ≡ true
  pub average : is_price o.state.avgpx ≡ true
  pub waiting : pending_range o.pending ≡ true
  pub gateway : gateway_range (length qs) o.gateway ≡ true
  pub current : current_rule i o qs ≡ true
  pub cancel : cancel_rule i o.links.cancel qs ≡ true
  pub pending : pending_rule i o.pending.request qs ≡ true
  pub amendments : amendments_rule i o.links.amendments qs ≡ true
  pub filled : filled_rule o ≡ true
  pub status : status_rule o.state.cumqty o.state.status ≡ true
  pub done : done_rule o ≡ true
  pub tries : tries_rule o.gateway ≡ true
  pub flight : (j : ℕ) → j < length qs → (at qs j).order ≡ i → in_flight_rule (j + 1) (at qs j) o ≡ true

abbrev pub Flights : ℕ → Order → List Request → Type 0
Flights i o qs = (j : ℕ) → j < length qs → (at qs j).order ≡ i → in_flight_rule (j + 1) (at qs j) o ≡ true

pub order_kept : (b : Book) (i : ℕ) → order_rule b i ≡ true → Flights i (order_in b i) b.requests → OrderKept i (order_in b i) b.requests
unfolding order_rule order_range
order_kept b i e flights =
    let (e, r9) = and_parts _ _ e in let (e, r8) = and_parts _ _ e in let (e, r7) = and_parts _ _ e in
    let (e, r6) = and_parts _ _ e in let (e, r5) = and_parts _ _ e in let (e, r4) = and_parts _ _ e in
    let (e, r3) = and_parts _ _ e in let (e, r2) = and_parts _ _ e in
    let (e, s6) = and_parts _ _ e in let (e, s5) = and_parts _ _ e in let (e, s4) = and_parts _ _ e in
    let (e, s3) = and_parts _ _ e in let (s1, s2) = and_parts _ _ e in
    record {
      names = s1;
      terms = s2;
      coded = s3;
      average = s4;
      waiting = s5;
      gateway = s6;
      current = r2;
      cancel = r3;
      pending = r4;
      amendments = r5;
      filled = r6;
      status = r7;
      done = r8;
      tries = r9;
      flight = flights;
    }

pub kept_rule : (b : Book) (i : ℕ) → OrderKept i (order_in b i) b.requests → order_rule b i ≡ true
unfolding order_rule order_range
kept_rule b i k =
    and_from _ _ (and_from _ _ (and_from _ _ (and_from _ _ (and_from _ _ (and_from _ _ (and_from _ _ (and_from _ _
    (and_from _ _ (and_from _ _ (and_from _ _ (and_from _ _ (and_from _ _ k.names k.terms) k.coded) k.average) k.waiting) k.gateway)
    k.current) k.cancel) k.pending) k.amendments) k.filled) k.status) k.done) k.tries

-- ---- gateway cancels in flight

-- the request is no gateway cancel, or is answered
abbrev pub settled : Request → Bool
settled q = not (is_gateway q) || is_answered q

-- none of the order's gateway cancels waits for an answer
abbrev pub Quiet : ℕ → List Request → Type 0
Quiet i qs = (j : ℕ) → j < length qs → (at qs j).order ≡ i → settled (at qs j) ≡ true

pub settled_flight : (link : ℕ) (q : Request) (o : Order) → settled q ≡ true → in_flight_rule link q o ≡ true
unfolding in_flight_rule
settled_flight link q o e = or_left _ _ (or_left _ (is_done o.state.status) e)

pub quiet_flights : (i : ℕ) (o : Order) (qs : List Request) → Quiet i qs → Flights i o qs
quiet_flights i o qs f j h e = settled_flight (j + 1) (at qs j) o (f j h e)

-- the gateway cancel of this link is the order's latest cancel, is sent and not stuck
pub record InFlight (link : ℕ) (o : Order) : Type 0 where
  pub latest : o.links.cancel ≡ link
  pub tried : 0 < o.gateway.tries
  pub sent : o.gateway.unsent ≡ false
  pub free : o.gateway.stuck ≡ false

-- a request of a live order is settled or in flight
pub in_flight : (link : ℕ) (q : Request) (o : Order) → is_done o.state.status ≡ false → in_flight_rule link q o ≡ true → (settled q ≡ true) ⊎ InFlight link o
unfolding in_flight_rule
in_flight link q o live e =
    ⊎_elim
    (λ p. ⊎_elim (λ s. inl s) (λ d. clash (is_done o.state.status) d live) (or_cases (not (is_gateway q) || is_answered q) (is_done o.state.status) p))
    (λ p.
    let (p, r4) = and_parts _ (not o.gateway.stuck) p in
    let (p, r3) = and_parts _ (not o.gateway.unsent) p in
    let (r1, r2) = and_parts (eqb o.links.cancel link) (ltb 0 o.gateway.tries) p in
    inr (record { latest = eqb-true o.links.cancel link r1; tried = ltb-true 0 o.gateway.tries r2; sent = not-true o.gateway.unsent r3; free = not-true o.gateway.stuck r4 }))
    (or_cases (not (is_gateway q) || is_answered q || is_done o.state.status) _ e)

-- as the rule tests it
pub flight_test : (link : ℕ) (o : Order) → InFlight link o → eqb o.links.cancel link && ltb 0 o.gateway.tries && not o.gateway.unsent && not o.gateway.stuck ≡ true
flight_test link o f = and_from _ _ (and_from _ _ (and_from _ _ (eq-eqb o.links.cancel link f.latest) (lt-ltb 0 o.gateway.tries f.tried)) (not_from_false _ f.sent)) (not_from_false _ f.free)

pub flight_rule : (link : ℕ) (q : Request) (o : Order) → InFlight link o → in_flight_rule link q o ≡ true
unfolding in_flight_rule
flight_rule link q o f =
    or_right (not (is_gateway q) || is_answered q || is_done o.state.status) _ (flight_test link o f)

-- a gateway cancel that is not sent: none is in flight
pub quiet_unsent : (i : ℕ) (o : Order) (qs : List Request) → is_done o.state.status ≡ false → o.gateway.unsent ≡ true → Flights i o qs → Quiet i qs
quiet_unsent i o qs live u f j h e = ⊎_elim (λ s. s) (λ g. clash o.gateway.unsent u g.sent) (in_flight (j + 1) (at qs j) o live (f j h e))

-- the latest cancel is settled, so all are
pub quiet_latest : (i : ℕ) (o : Order) (qs : List Request) → is_done o.state.status ≡ false
    → ((j : ℕ) → o.links.cancel ≡ j + 1 → settled (at qs j) ≡ true) → Flights i o qs → Quiet i qs
quiet_latest i o qs live s f j h e = ⊎_elim (λ s. s) (λ g. s j g.latest) (in_flight (j + 1) (at qs j) o live (f j h e))

-- once the latest cancel is answered, none is in flight
pub quiet_answer : (i v : ℕ) (o : Order) (qs : List Request) → is_done o.state.status ≡ false → Flights i o qs → Quiet i (answer_link o.links.cancel v qs)
unfolding is_answered is_gateway
quiet_answer i v o qs live f j h e =
    let h' : j < length qs = subst (λ (n : ℕ). j < n) (length_answer o.links.cancel v qs) h in
    answer_case (λ (q : Request). q.order ≡ i → settled q ≡ true) o.links.cancel v qs j h'
    (λ d own. ⊎_elim (λ s. s) (λ g. absurd (d g.latest)) (in_flight (j + 1) (at qs j) o live (f j h' own)))
    (λ z own. or_right (not (is_gateway (at qs j))) _ refl)
    e

-- ---- a request answered

answered_flight : (link v : ℕ) (q : Request) (o : Order) → in_flight_rule link (answered v q) o ≡ true
unfolding is_answered is_gateway
answered_flight link v q o = settled_flight link (answered v q) o (or_right (not (is_gateway q)) _ refl)

cancel_answer : (i k v c : ℕ) (qs : List Request) → cancel_rule i c qs ≡ true → cancel_rule i c (answer_link k v qs) ≡ true
unfolding cancel_rule is_cancel is_first is_replace
cancel_answer i k v c qs e = or_map (eqb c 0) _ (λ p. p) (linked_answer is_cancel i c qs k v (λ z q t. t)) e

pending_answer : (i k v p : ℕ) (qs : List Request) → (k ≡ p → k ≡ 0) → pending_rule i p qs ≡ true → pending_rule i p (answer_link k v qs) ≡ true
unfolding pending_rule
pending_answer i k v p qs free e =
    ⊎_elim (λ z. or_left _ _ z)
    (λ l. or_right (eqb p 0) _ (linked_answer pending_test i p qs k v
    (λ z q t. let above : 0 < p = (linked_at pending_test i p qs l).above in let none : k ≡ 0 = free z in absurd (omega arith)) l))
    (or_cases (eqb p 0) _ e)

-- pending terms do not name it, so an order keeps its rules
pub answer_kept : (i k v : ℕ) (o : Order) (qs : List Request) → (k ≡ o.pending.request → k ≡ 0) → OrderKept i o qs → OrderKept i o (answer_link k v qs)
unfolding current_rule is_cancel is_first is_replace
answer_kept i k v o qs free l = record {
  names = l.names;
  terms = l.terms;
  coded = l.coded;
  average = l.average;
  waiting = l.waiting;
  gateway = rw (length_answer k v qs) l.gateway;
  current = linked_answer (current_test o.names.downstream) i o.links.current qs k v (λ z q t. t) l.current;
  cancel = cancel_answer i k v o.links.cancel qs l.cancel;
  pending = pending_answer i k v o.pending.request qs free l.pending;
  amendments = at_amendments i _ (answer_link k v qs) (amendments_at i _ qs l.amendments ∙ sym (owned_answer i k v qs));
  filled = l.filled;
  status = l.status;
  done = l.done;
  tries = l.tries;
  flight = λ j h e.
      let h' : j < length qs = subst (λ (n : ℕ). j < n) (length_answer k v qs) h in
      answer_case (λ (q : Request). q.order ≡ i → in_flight_rule (j + 1) q o ≡ true) k v qs j h' (λ d own. l.flight j h' own) (λ z own. answered_flight (j + 1) v (at qs j) o) e;
}

-- ---- a request added

gateway_more : (n : ℕ) (g : GatewayCancel) → gateway_range n g ≡ true → gateway_range (n + 1) g ≡ true
unfolding gateway_range
gateway_more n g e =
    let (e, r3) = and_parts _ _ e in let (r1, r2) = and_parts (not (g.unsent && g.stuck)) (leb g.origdownstream n) e in
    and_from _ _ (and_from _ _ r1 (le-leb g.origdownstream (n + 1) (let h : g.origdownstream ≤ n = leb-true g.origdownstream n r2 in omega arith))) r3

pub one_more_lem : (top n : ℕ) → n < top → one_more top n ≡ n + 1
unfolding one_more
one_more_lem top n h = if_true (ltb n top) (n + 1) n (lt-ltb n top h)

-- the link of the request that is added
pub next_link_lem : (f : Findings) (n : ℕ) → f.requests ≡ n → n ≤ 256 → next_link f ≡ n + 1
unfolding next_link
next_link_lem f n e h = one_more_lem 65535 f.requests (omega arith) ∙ ap (λ (k : ℕ). k + 1) e

-- the next number is that of the requests so far
pub next_owned : (i : ℕ) (o : Order) (qs : List Request) → length qs ≤ 256 → amendments_rule i o.links.amendments qs ≡ true → next_number o ≡ owned i qs
unfolding next_number one_more
next_owned i o qs room e =
    let few : owned i qs ≤ length qs = count_le (of_order qs i) (length qs) in
    let n : o.links.amendments + 1 ≡ owned i qs = amendments_at i o.links.amendments qs e in
    if_true (ltb o.links.amendments 65535) (o.links.amendments + 1) o.links.amendments (lt-ltb o.links.amendments 65535 (omega arith)) ∙ n

module _ (i : ℕ) (qs : List Request) (x : Request) where
  cancel_more : (c : ℕ) → cancel_rule i c qs ≡ true → cancel_rule i c (qs ++ (x ∷ [])) ≡ true
  unfolding cancel_rule
  cancel_more c e = or_map (eqb c 0) _ (λ p. p) (linked_more is_cancel i c qs x) e

  pending_more : (p : ℕ) → pending_rule i p qs ≡ true → pending_rule i p (qs ++ (x ∷ [])) ≡ true
  unfolding pending_rule
  pending_more p e = or_map (eqb p 0) _ (λ z. z) (linked_more pending_test i p qs x) e

  current_more : (o : Order) → current_rule i o qs ≡ true → current_rule i o (qs ++ (x ∷ [])) ≡ true
  unfolding current_rule
  current_more o e = linked_more (current_test o.names.downstream) i o.links.current qs x e

  pub flight_more : (o : Order) → Flights i o qs → (x.order ≡ i → in_flight_rule (length qs + 1) x o ≡ true) → Flights i o (qs ++ (x ∷ []))
  flight_more o f n j h e = more_case (λ (k : ℕ) (q : Request). q.order ≡ i → in_flight_rule (k + 1) q o ≡ true) qs x j h (λ l own. f j l own) n e

  -- another order's
  pub other_kept : (o : Order) → (x.order ≡ i → ⊥) → OrderKept i o qs → OrderKept i o (qs ++ (x ∷ []))
  other_kept o d l = record {
    names = l.names;
    terms = l.terms;
    coded = l.coded;
    average = l.average;
    waiting = l.waiting;
    gateway = rw (length_more qs x) (gateway_more (length qs) o.gateway l.gateway);
    current = current_more o l.current;
    cancel = cancel_more o.links.cancel l.cancel;
    pending = pending_more o.pending.request l.pending;
    amendments = at_amendments i _ (qs ++ (x ∷ [])) (amendments_at i _ qs l.amendments ∙ sym (owned_other i qs x d));
    filled = l.filled;
    status = l.status;
    done = l.done;
    tries = l.tries;
    flight = flight_more o l.flight (λ e. absurd (d e));
  }

  -- the order's own: it has the next number, and a cancel becomes the latest
  pub own_kept : (f : Findings) (cancels : Bool) (o : Order) → f.requests ≡ length qs → length qs ≤ 256 → x.order ≡ i → (cancels ≡ true → is_cancel x ≡ true)
      → Flights i (numbered_order f cancels o) qs → in_flight_rule (length qs + 1) x (numbered_order f cancels o) ≡ true
      → OrderKept i o qs → OrderKept i (numbered_order f cancels o) (qs ++ (x ∷ []))
  unfolding numbered_order filled_rule done_rule has_pending has_gateway
  own_kept f cancels o n room own c old fresh l =
      record {
        names = l.names;
        terms = l.terms;
        coded = l.coded;
        average = l.average;
        waiting = l.waiting;
        gateway = rw (length_more qs x) (gateway_more (length qs) o.gateway l.gateway);
        current = unfold current_rule in current_more o l.current;
        cancel = split_if (λ (k : ℕ). cancel_rule i k (qs ++ (x ∷ [])) ≡ true) cancels
            (λ e. new (c e)) (λ e. cancel_more o.links.cancel l.cancel);
        pending = pending_more o.pending.request l.pending;
        amendments = at_amendments i _ (qs ++ (x ∷ [])) (ap (λ (k : ℕ). k + 1) (next_owned i o qs room l.amendments) ∙ sym (owned_own i qs x own));
        filled = l.filled;
        status = l.status;
        done = l.done;
        tries = l.tries;
        flight = flight_more (numbered_order f cancels o) old (λ e. fresh);
      }
    where
      new : is_cancel x ≡ true → cancel_rule i (next_link f) (qs ++ (x ∷ [])) ≡ true
      new t = subst (λ (k : ℕ). cancel_rule i k (qs ++ (x ∷ [])) ≡ true) (sym (next_link_lem f (length qs) n room))
          (unfold cancel_rule in or_right (eqb (length qs + 1) 0) _ (linked_new is_cancel i qs x own t))
