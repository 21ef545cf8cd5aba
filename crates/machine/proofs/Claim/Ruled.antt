-- What the book's rules give, as facts. Rests on Rules and Laws.
use Rattle.std.proofs.Common.{ℕ, ◌+◌, ◌-◌, ◌≤◌, ◌<◌, arith, ◌≡◌, ◌⊎◌, inl, inr, Bool, true, false, not, ◌&&◌, ◌||◌, List, eqb, leb, ltb, length, get_or, ltb-true, leb-true, eqb-true}
use Rattle.std.proofs.Math.Decide.{dec_lt}
use Rattle.std.proofs.lemmas.Bool.{not-true, and_parts, or_cases}
use Rattle.prelude.specs.Below.{all_below}
use Rattle.prelude.specs.Laws.Below.{all_elim}
use Rattle.prelude.specs.Laws.Cases.{clash}
use Rattle.prelude.specs.Texts.{same_text}
use Rattle.prelude.specs.Laws.Texts.{same_back}
use Rattle.prelude.specs.declared.Text.{Text}
use Rattle.store.specs.declared.Names.{Names}
use Rattle.store.specs.declared.Order.{Order}
use Rattle.store.specs.declared.Request.{Request}
use Rattle.store.specs.Book.{Book, order_in, request_in}
use Rattle.store.specs.Requests.{no_request}
use Rattle.machine.specs.Orders.{is_done, has_gateway, has_pending}
use Rattle.machine.specs.Changes.{is_gateway, is_answered}
use Rattle.machine.specs.Ranges.{name_range}
use Rattle.machine.specs.Rules.{rules, linked, order_rule, request_rule, name_rule, names_apart, key_rule, names_range, order_range, request_range, outcome_rule, current_rule, cancel_rule, pending_rule, amendments_rule, filled_rule, status_rule, done_rule, tries_rule, number_rule, number_in, name_number, in_flight_rule, origin_rule}

-- the first test of a chain that holds, and the rest
front : (a b : Bool) → a && b ≡ true → a ≡ true
front a b e = (and_parts a b e).0

back : (a b : Bool) → a && b ≡ true → b ≡ true
back a b e = (and_parts a b e).1

pub record Ruled (b : Book) : Type 0 where
  pub few_requests : length b.requests ≤ 256
  pub orders : (i : ℕ) → i < length b.orders → order_rule b i ≡ true
  pub requests : (k : ℕ) → k < length b.requests → request_rule b k ≡ true
  pub names : (i : ℕ) → i < length b.orders → name_rule b i ≡ true

pub ruled : (b : Book) → rules b ≡ true → Ruled b
unfolding rules
ruled b r =
    let n : ℕ = length b.orders in
    let m : ℕ = length b.requests in
    let k = front (leb n 64 && leb m 256 && all_below (order_rule b) n && all_below (request_rule b) m && all_below (name_rule b) n) (all_below (key_rule b) m) r in
    let nm = and_parts (leb n 64 && leb m 256 && all_below (order_rule b) n && all_below (request_rule b) m) (all_below (name_rule b) n) k in
    let rq = and_parts (leb n 64 && leb m 256 && all_below (order_rule b) n) (all_below (request_rule b) m) nm.0 in
    let od = and_parts (leb n 64 && leb m 256) (all_below (order_rule b) n) rq.0 in
    record {
      few_requests = leb-true m 256 (back (leb n 64) (leb m 256) od.0);
      orders = all_elim (order_rule b) n od.1;
      requests = all_elim (request_rule b) m rq.1;
      names = all_elim (name_rule b) n nm.1;
    }

-- two orders of one name are one
module _ (b : Book) (r : Ruled b) where
  pub one_name : (i j : ℕ) → i < length b.orders → j < length b.orders → same_text (order_in b i).names.name (order_in b j).names.name ≡ true → i ≡ j
  one_name i j hi hj e = go (dec_lt j i) (dec_lt i j)
    where
      apart : (x y : ℕ) → x < length b.orders → y < x → same_text (order_in b x).names.name (order_in b y).names.name ≡ false
      apart x y hx l = not-true _ (all_elim (names_apart b x) x (r.names x hx) y l)

      go : Dec (j < i) → Dec (i < j) → i ≡ j
      go (yes l) d = clash _ e (apart i j hi l)
      go (no l) (yes k) = clash _ (same_back _ _ e) (apart j i hj k)
      go (no l) (no k) = omega arith

-- ---- an order

pub record OrderRules (i : ℕ) (o : Order) (qs : List Request) : Type 0 where
  pub named : name_range o.names.name ≡ true
  pub current : (get_or qs (o.links.current - 1) no_request).order ≡ i
  pub amendments : amendments_rule i o.links.amendments qs ≡ true
  pub done : done_rule o ≡ true
  pub tries : tries_rule o.gateway ≡ true

name_range_lem : (n : Names) → names_range n ≡ true → name_range n.name ≡ true
unfolding names_range
name_range_lem n e = front (name_range n.name) _ (front (name_range n.name && _) _ (front (name_range n.name && _ && _) _ (front (name_range n.name && _ && _ && _) _ e)))

range_names : (m : ℕ) (o : Order) → order_range m o ≡ true → names_range o.names ≡ true
unfolding order_range
range_names m o e =
    front (names_range o.names) _ (front (names_range o.names && _) _ (front (names_range o.names && _ && _) _
    (front (names_range o.names && _ && _ && _) _ (front (names_range o.names && _ && _ && _ && _) _ e))))

-- the current request is the order's own
current_own : (i : ℕ) (o : Order) (qs : List Request) → current_rule i o qs ≡ true → (get_or qs (o.links.current - 1) no_request).order ≡ i
unfolding current_rule linked
current_own i o qs e =
    let l : ℕ = o.links.current in
    let x : Bool = ltb 0 l in
    let y : Bool = leb l (length qs) in
    let z : Bool = eqb (get_or qs (l - 1) no_request).order i in
    eqb-true (get_or qs (l - 1) no_request).order i (back (x && y) z (front (x && y && z) _ e))

order_rules : (b : Book) (i : ℕ) → order_rule b i ≡ true → OrderRules i (order_in b i) b.requests
unfolding order_rule
order_rules b i e =
    let o = order_in b i in
    let qs = b.requests in
    let a : Bool = order_range (length qs) o in
    let s : Bool = current_rule i o qs in
    let t : Bool = cancel_rule i o.links.cancel qs in
    let u : Bool = pending_rule i o.pending.request qs in
    let v : Bool = amendments_rule i o.links.amendments qs in
    let w : Bool = filled_rule o in
    let x : Bool = status_rule o.state.cumqty o.state.status in
    let y : Bool = done_rule o in
    let e₈ = and_parts (a && s && t && u && v && w && x && y) (tries_rule o.gateway) e in
    let e₇ = and_parts (a && s && t && u && v && w && x) y e₈.0 in
    let e₅ = front (a && s && t && u && v) w (front (a && s && t && u && v && w) x e₇.0) in
    let e₄ = and_parts (a && s && t && u) v e₅ in
    let e₁ = and_parts a s (front (a && s) t (front (a && s && t) u e₄.0)) in
    record {
      named = name_range_lem o.names (range_names (length qs) o e₁.0);
      current = current_own i o qs e₁.1;
      amendments = e₄.1;
      done = e₇.1;
      tries = e₈.1;
    }

-- a done order has no gateway cancel
pub done_none : (o : Order) → done_rule o ≡ true → is_done o.state.status ≡ true → has_gateway o ≡ false
unfolding done_rule
done_none o e d = go (or_cases (not (is_done o.state.status)) _ e)
  where
    go : (not (is_done o.state.status) ≡ true) ⊎ (not (has_pending o) && not (has_gateway o) ≡ true) → has_gateway o ≡ false
    go (inl h) = clash _ d (not-true _ h)
    go (inr h) = not-true _ (back (not (has_pending o)) (not (has_gateway o)) h)

-- ---- a request

pub record RequestRules (b : Book) (k : ℕ) : Type 0 where
  pub placed : (request_in b k).order < length b.orders
  pub numbered : same_text (request_in b k).downstream (name_number (order_in b (request_in b k).order).names.name (number_in b.requests k)) ≡ true
  pub in_flight : in_flight_rule (k + 1) (request_in b k) (order_in b (request_in b k).order) ≡ true
  pub origin : origin_rule b.requests k ≡ true

number_text : (name : Text) (n : ℕ) (q : Request) → number_rule name n q ≡ true → same_text q.downstream (name_number name n) ≡ true
unfolding number_rule
number_text name n q e = front (same_text q.downstream (name_number name n)) _ e

request_rules : (b : Book) (k : ℕ) → request_rule b k ≡ true → RequestRules b k
unfolding request_rule
request_rules b k e =
    let q = request_in b k in
    let o = order_in b q.order in
    let x : Bool = request_range q && outcome_rule q in
    let y : Bool = ltb q.order (length b.orders) in
    let z : Bool = number_rule o.names.name (number_in b.requests k) q in
    let w : Bool = in_flight_rule (k + 1) q o in
    let e₄ = and_parts (x && y && z && w) (origin_rule b.requests k) e in
    let e₃ = and_parts (x && y && z) w e₄.0 in
    let e₂ = and_parts (x && y) z e₃.0 in
    record {
      placed = ltb-true q.order (length b.orders) (back x y e₂.0);
      numbered = number_text o.names.name (number_in b.requests k) q e₂.1;
      in_flight = e₃.1;
      origin = e₄.1;
    }

module _ (b : Book) (r : Ruled b) where
  pub order_ruled : (i : ℕ) → i < length b.orders → OrderRules i (order_in b i) b.requests
  order_ruled i h = order_rules b i (r.orders i h)

  pub request_ruled : (k : ℕ) → k < length b.requests → RequestRules b k
  request_ruled k h = request_rules b k (r.requests k h)

-- an unanswered gateway cancel of a live order is its latest cancel, with tries above 0
pub latest_cancel_lem : (link : ℕ) (q : Request) (o : Order) → in_flight_rule link q o ≡ true → is_gateway q ≡ true → is_answered q ≡ false → is_done o.state.status ≡ false
    → (o.links.cancel ≡ link) × (0 < o.gateway.tries)
unfolding in_flight_rule
latest_cancel_lem link q o e g a d =
    let x : Bool = eqb o.links.cancel link in
    let y : Bool = ltb 0 o.gateway.tries in
    let z = and_parts x y (front (x && y) _ (front (x && y && _) _ (last (is_gateway q) (is_answered q) (is_done o.state.status) g a d e))) in
    (eqb-true _ _ z.0, ltb-true 0 _ z.1)
  where
    last : {z : Bool} (x y w : Bool) → x ≡ true → y ≡ false → w ≡ false → not x || y || w || z ≡ true → z ≡ true
    last x y w p q r h = grind arith
