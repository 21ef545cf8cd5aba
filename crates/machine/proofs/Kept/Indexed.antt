-- The rules of a book as facts by index, one for each order and each request. Rests on Local.
use Rattle.std.proofs.Common.{ℕ, ◌+◌, ◌≤◌, ◌<◌, arith, ◌≡◌, sym, subst, ◌∙◌, true, false, ◌||◌, leb, ltb, length, eqb-true, leb-true, le-leb, ltb-true, lt-ltb}
use Rattle.std.proofs.lemmas.Bool.{not-true, and_parts, and_from, not_from_false}
use Rattle.prelude.specs.Below.{all_below}
use Rattle.prelude.specs.Laws.Below.{all_elim, all_intro}
use Rattle.prelude.specs.Cases.{if◌then◌otherwise◌}
use Rattle.prelude.specs.Laws.Cases.{if_true, if_false, clash}
use Rattle.prelude.specs.Texts.{same_text}
use Rattle.store.specs.declared.Request.{Request}
use Rattle.store.specs.Book.{Book, order_in, request_in}
use Rattle.machine.specs.Changes.{is_first, is_gateway, is_answered}
use Rattle.machine.specs.Ranges.{text_within}
use Rattle.machine.specs.Rules.{request_range, outcome_rule, order_rule, number_in, number_rule, in_flight_rule, origin_rule, request_rule, names_apart, name_rule, same_key, keys_apart, key_rule, rules}
use Rattle.machine.proofs.Kept.Laws.{decide}
use Rattle.machine.proofs.Kept.Local.{OrderKept, order_kept, kept_rule}

-- ---- the rules as facts by index

-- the parts of a request's range
pub record RangeKept (q : Request) : Type 0 where
  pub kind : q.kind ≤ 3
  pub answered : q.answered ≤ 1
  pub clordid : (if is_gateway q then text_within 0 0 q.clordid otherwise text_within 1 32 q.clordid) ≡ true
  pub origclordid : (if is_first q || is_gateway q then text_within 0 0 q.origclordid otherwise text_within 1 32 q.origclordid) ≡ true

pub range_kept : (q : Request) → request_range q ≡ true → RangeKept q
unfolding request_range
range_kept q e =
    let (e, r4) = and_parts _ _ e in let (e, r3) = and_parts _ _ e in let (r1, r2) = and_parts (leb q.kind 3) (leb q.answered 1) e in
    record { kind = leb-true q.kind 3 r1; answered = leb-true q.answered 1 r2; clordid = r3; origclordid = r4 }

pub kept_range : (q : Request) → RangeKept q → request_range q ≡ true
unfolding request_range
kept_range q k = and_from _ _ (and_from _ _ (and_from _ _ (le-leb q.kind 3 k.kind) (le-leb q.answered 1 k.answered)) k.clordid) k.origclordid

-- what a request's outcome says of it
pub record OutcomeKept (q : Request) : Type 0 where
  pub most : q.outcome ≤ 3
  pub some : is_answered q ≡ true → 0 < q.outcome
  pub none : is_answered q ≡ false → q.outcome ≡ 0

pub outcome_kept : (q : Request) → outcome_rule q ≡ true → OutcomeKept q
unfolding outcome_rule
outcome_kept q e = decide (is_answered q) some none
  where
    some : is_answered q ≡ true → OutcomeKept q
    some t =
        let (u, v) = and_parts (ltb 0 q.outcome) (leb q.outcome 3) (sym (if_true (is_answered q) _ _ t) ∙ e) in
        record { most = leb-true q.outcome 3 v; some = λ z. ltb-true 0 q.outcome u; none = λ z. clash (is_answered q) t z }

    none : is_answered q ≡ false → OutcomeKept q
    none t =
        let z : q.outcome ≡ 0 = eqb-true q.outcome 0 (sym (if_false (is_answered q) _ _ t) ∙ e) in
        record { most = omega arith; some = λ y. clash (is_answered q) y t; none = λ y. z }

-- request j, rule by rule
pub record RequestKept (b : Book) (j : ℕ) : Type 0 where
  pub range : request_range (request_in b j) ≡ true
  pub outcome : outcome_rule (request_in b j) ≡ true
  pub order : (request_in b j).order < length b.orders
  pub number : number_rule (order_in b (request_in b j).order).names.name (number_in b.requests j) (request_in b j) ≡ true
  pub flight : in_flight_rule (j + 1) (request_in b j) (order_in b (request_in b j).order) ≡ true
  pub origin : origin_rule b.requests j ≡ true

pub record BookKept (b : Book) : Type 0 where
  pub orders : length b.orders ≤ 64
  pub requests : length b.requests ≤ 256
  pub order : (i : ℕ) → i < length b.orders → OrderKept i (order_in b i) b.requests
  pub request : (j : ℕ) → j < length b.requests → RequestKept b j
  pub names : (i j : ℕ) → i < length b.orders → j < i → same_text (order_in b i).names.name (order_in b j).names.name ≡ false
  pub keys : (i j : ℕ) → i < length b.requests → j < i → same_key b i j ≡ false

request_kept : (b : Book) (j : ℕ) → request_rule b j ≡ true → RequestKept b j
unfolding request_rule
request_kept b j e =
    let (e, r6) = and_parts _ _ e in let (e, r4) = and_parts _ _ e in let (e, r3) = and_parts _ _ e in
    let (e, r2) = and_parts _ (ltb (request_in b j).order (length b.orders)) e in
    let (r1, r5) = and_parts (request_range (request_in b j)) (outcome_rule (request_in b j)) e in
    record { range = r1; outcome = r5; order = ltb-true (request_in b j).order (length b.orders) r2; number = r3; flight = r4; origin = r6 }

kept_request : (b : Book) (j : ℕ) → RequestKept b j → request_rule b j ≡ true
unfolding request_rule
kept_request b j k =
    and_from _ _ (and_from _ _ (and_from _ _ (and_from _ _ (and_from _ _ k.range k.outcome) (lt-ltb (request_in b j).order (length b.orders) k.order)) k.number) k.flight) k.origin

pub book_kept : (b : Book) → rules b ≡ true → BookKept b
unfolding rules
book_kept b e =
    let n : ℕ = length b.orders in
    let m : ℕ = length b.requests in
    let (e, r6) = and_parts _ (all_below (key_rule b) m) e in
    let (e, r5) = and_parts _ (all_below (name_rule b) n) e in
    let (e, r4) = and_parts _ (all_below (request_rule b) m) e in
    let (e, r3) = and_parts _ (all_below (order_rule b) n) e in
    let (r1, r2) = and_parts (leb n 64) (leb m 256) e in
    let requests : (j : ℕ) → j < m → RequestKept b j = λ j h. request_kept b j (all_elim (request_rule b) m r4 j h) in
    record {
      orders = leb-true n 64 r1;
      requests = leb-true m 256 r2;
      order = λ i h. order_kept b i (all_elim (order_rule b) n r3 i h)
          (λ j l own. subst (λ (k : ℕ). in_flight_rule (j + 1) (request_in b j) (order_in b k) ≡ true) own (requests j l).flight);
      request = requests;
      names = λ i j h l. not-true (same_text (order_in b i).names.name (order_in b j).names.name) (all_elim (names_apart b i) i (all_elim (name_rule b) n r5 i h) j l);
      keys = λ i j h l. not-true (same_key b i j) (all_elim (keys_apart b i) i (all_elim (key_rule b) m r6 i h) j l);
    }

pub kept_book : (b : Book) → BookKept b → rules b ≡ true
unfolding rules
kept_book b k =
    let n : ℕ = length b.orders in
    let m : ℕ = length b.requests in
    and_from _ _ (and_from _ _ (and_from _ _ (and_from _ _ (and_from _ _ (le-leb n 64 k.orders) (le-leb m 256 k.requests))
    (all_intro (order_rule b) n (λ i h. kept_rule b i (k.order i h))))
    (all_intro (request_rule b) m (λ j h. kept_request b j (k.request j h))))
    (all_intro (name_rule b) n (λ i h. all_intro (names_apart b i) i (λ j l. not_from_false _ (k.names i j h l)))))
    (all_intro (key_rule b) m (λ i h. all_intro (keys_apart b i) i (λ j l. not_from_false _ (k.keys i j h l))))
