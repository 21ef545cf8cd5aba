-- Each event taken on any book that keeps its rules leaves a book that keeps them. Rests on Lift and Stepped.
use Rattle.std.proofs.Common.{ℕ, zero, suc, ◌+◌, ◌-◌, ◌≤◌, ◌<◌, arith, ◌≡◌, refl, sym, ap, subst, ◌∙◌, inl, inr, Bool, true, false, not, ◌&&◌, Option, None, Some, List, [], ◌∷◌, ◌++◌, eqb, ltb, length, eqb-true, eq-eqb, ne_eqb, le-leb, lt-ltb}
use Rattle.std.proofs.lemmas.Bool.{eqb-false, not-true, not-false, and_parts, and_from, not_from_false, false_from_ne_true}
use Rattle.prelude.specs.Below.{all_below, first_below, count_below}
use Rattle.prelude.specs.Laws.Below.{first_elim, First, first_some, count_le, count_ext}
use Rattle.prelude.specs.Cases.{if◌then◌otherwise◌, maybe}
use Rattle.prelude.specs.Laws.Cases.{split_if, if_false, clash}
use Rattle.prelude.specs.Texts.{is_text, same_text}
use Rattle.prelude.specs.Laws.Texts.{same_self, same_back, same_length}
use Rattle.prelude.specs.declared.Text.{Text}
use Rattle.store.specs.declared.Order.{Order}
use Rattle.store.specs.declared.Request.{Request}
use Rattle.store.specs.Book.{Book, order_in, request_in}
use Rattle.store.specs.Orders.{no_order}
use Rattle.machine.specs.Orders.{is_empty, is_done}
use Rattle.machine.specs.Changes.{Event, has, unchanged, refusing, adding, alarming, is_first, is_replace, is_gateway, is_cancel, is_answered}
use Rattle.machine.specs.GatewayCancel.{gateway_cancel_in_flight}
use Rattle.machine.specs.Amend.{amend_refusal, already_taken, cancel_refusal, priced_right}
use Rattle.store.specs.Finds.{bears_name, bears_clordid, bears_downstream, has_clordid, of_client, find_name, find_downstream, find_clordid}
use Rattle.machine.specs.Machine.{order_link, order_of, latest_cancel, order_at_link, findings_of, booked_order, first_request, unused, change_of, has_room, step_of, answer_link, orders_after, requests_after, after, book_after}
use Rattle.format.specs.Codes.{is_status, statuses}
use Rattle.machine.specs.Ranges.{text_within, name_range}
use Rattle.machine.specs.Rules.{pending_range, request_range, current_test, current_rule, cancel_rule, pending_rule, filled_rule, status_rule, done_rule, tries_rule, of_order, number_in, outcome_rule, name_number, number_rule, client_of, rules}
use Rattle.machine.specs.Events.{Booking, Amendment, Ranged}
use Rattle.machine.specs.Kept.{StartKeeps, StepKeeps}
use Rattle.machine.specs.Outcomes.{outcome_by}
use Rattle.machine.specs.declared.Findings.{Findings}
use Rattle.machine.specs.declared.Reject.{Reject}
use Rattle.machine.specs.declared.Output.{Output}
use Rattle.machine.specs.declared.Change.{Change}
use Rattle.machine.proofs.Walked.{Came}
use Rattle.machine.proofs.Made.{left, repeated, turned, unpriced, cancel_sent, replace_sent}
use Rattle.machine.proofs.Stepped.{AmendedBy, Ways, change_made}
use Rattle.machine.proofs.Outcomes.Set.{change_sets}
use Rattle.machine.proofs.Kept.Laws.{and_tail, text_kept, name_within, same_within}
use Rattle.machine.proofs.Kept.Tables.{at, linked_new, owned, owned_own, at_amendments, origin_none}
use Rattle.machine.proofs.Kept.Local.{OrderKept, settled_flight, flight_more}
use Rattle.machine.proofs.Kept.OrderSteps.{gateway_none, kept_names, kept_terms, names_kept}
use Rattle.machine.proofs.Kept.Keep.{Added, Kept, Named, Here, own_still}
use Rattle.machine.proofs.Kept.Refused.{Asked, no_text_lem, made_kept}
use Rattle.machine.proofs.Kept.Asked.{priced_range_lem, quiet_idle, asked_kept, status_kept, cancel_goes_lem, replace_goes_lem}
use Rattle.machine.proofs.Kept.Indexed.{range_kept, RequestKept, BookKept, book_kept, kept_book}
use Rattle.machine.proofs.Kept.Lift.{Outcome, lift}
use Rattle.machine.proofs.Numbered.{NumberedLaws, numbered_laws}

-- ---- start

pub start_keeps : StartKeeps
unfolding rules all_below
start_keeps setting = refl

-- ---- a change that may be taken

-- the rules hold if the change is taken
abbrev Keeps : Book → Change → Type 0
Keeps b c = eqb c.refusal 0 ≡ true → has_room b c ≡ true → Outcome c → rules (after b c) ≡ true

-- the same, whether there is room or not
abbrev Taken : Book → Change → Type 0
Taken b c = eqb c.refusal 0 ≡ true → rules (after b c) ≡ true

refusing_taken : (b : Book) (n : ℕ) → eqb n 0 ≡ false → Taken b (refusing n)
unfolding refusing
refusing_taken b n h e = clash (eqb n 0) e h

refusing_keeps : (b : Book) (n : ℕ) → eqb n 0 ≡ false → Keeps b (refusing n)
refusing_keeps b n h e r v = refusing_taken b n h e

-- no order, no request
nothing_keeps : (b : Book) (o : Order) (out : Output) → rules b ≡ true → Keeps b (left 0 o 0 0 0 out)
unfolding after orders_after requests_after answer_link if◌then◌otherwise◌
nothing_keeps b o out k e r v = k

kept_keeps : (b : Book) (i : ℕ) (c : Change) → BookKept b → i < length b.orders → Kept b i c → Keeps b c
kept_keeps b i c good h k e r v = kept_book (after b c) (lift b i c good k (omega arith) r v (λ z. absurd (omega arith)))

-- order i and the facts that go with it
here_at : (b : Book) (i : ℕ) → BookKept b → i < length b.orders → Here b i (findings_of b (i + 1)) (order_in b i)
unfolding findings_of order_at_link
here_at b i good h = record {
  is = refl;
  place = refl;
  count = refl;
  latest = ap (latest_cancel b) (if_false (eqb (i + 1) 0) no_order (order_in b (i + 1 - 1)) (ne_eqb (i + 1) 0 (λ z. omega arith)) ∙ ap (order_in b) (omega arith));
  few = good.requests;
  kept = good.order i h;
}

-- ---- events 4 to 8: a request that the book knows

asked_at : (b : Book) (j : ℕ) → j < length b.requests → Asked b (request_in b j).order j (request_in b j)
asked_at b j h = record { below = h; is = refl; own = refl }

-- what the rules say of a request's texts
module _ (laws : NumberedLaws) (b : Book) (good : BookKept b) where
  pub downstream_within : (j : ℕ) → j < length b.requests → text_within 1 32 (request_in b j).downstream ≡ true
  unfolding number_rule name_number number_in
  downstream_within j h =
      let r : RequestKept b j = good.request j h in
      let name : Text = (order_in b (request_in b j).order).names.name in
      let n : ℕ = number_in b.requests j in
      let few : n ≤ j = count_le (of_order b.requests (request_in b j).order) j in
      let named : name_range name ≡ true = (names_kept _ (good.order (request_in b j).order r.order).names).name in
      same_within 1 32 (request_in b j).downstream (name_number name n) (and_parts (same_text (request_in b j).downstream (name_number name n)) _ r.number).0
      (split_if (λ (t : Text). text_within 1 32 t ≡ true) (eqb n 0) (λ z. name_within name named)
      (λ z. laws.within name n named (omega (arith, eqb-false n 0 z)) (omega (arith, good.requests))))

clordid_within : (b : Book) (j : ℕ) → RequestKept b j → is_gateway (request_in b j) ≡ false → text_within 1 32 (request_in b j).clordid ≡ true
clordid_within b j r g =
    sym (if_false (is_gateway (request_in b j)) (text_within 0 0 (request_in b j).clordid) (text_within 1 32 (request_in b j).clordid) g) ∙ (range_kept (request_in b j) r.range).clordid

-- a replace is no gateway cancel
pub replace_client : (q : Request) → is_replace q ≡ true → is_gateway q ≡ false
unfolding is_replace is_gateway
replace_client q e = ne_eqb q.kind 3 (λ z. let k : q.kind ≡ 2 = eqb-true q.kind 2 e in omega arith)

-- ---- events 2 and 3: the client's ClOrdIDs

-- a request is the client's if its order is
of_client_lem : (b : Book) (client j : ℕ) → (request_in b j).order < length b.orders → client_of b j ≡ client → of_client b.orders client (request_in b j) ≡ true
unfolding of_client
of_client_lem b client j h e = and_from _ _ (lt-ltb (request_in b j).order (length b.orders) h) (eq-eqb (client_of b j) client e)

clordid_client : (b : Book) (client : ℕ) (t : Text) (j : ℕ) → bears_clordid b.orders client t (request_in b j) ≡ true → (order_in b (request_in b j).order).client ≡ client
unfolding of_client
clordid_client b client t j e =
    eqb-true (order_in b (request_in b j).order).client client
    (and_parts (ltb (request_in b j).order (length b.orders)) _ (and_parts (same_text (request_in b j).clordid t) _ (and_parts (has_clordid (request_in b j)) _ e).1).1).1

clordid_same : (b : Book) (client : ℕ) (t : Text) (j : ℕ) → bears_clordid b.orders client t (request_in b j) ≡ true → same_text (request_in b j).clordid t ≡ true
clordid_same b client t j e = (and_parts (same_text (request_in b j).clordid t) _ (and_parts (has_clordid (request_in b j)) _ e).1).0

-- a ClOrdID of no order is no request's
never_used : (b : Book) (client : ℕ) (t : Text) → eqb (order_of b client t) 0 ≡ true → (j : ℕ) → j < length b.requests → bears_clordid b.orders client t (request_in b j) ≡ false
unfolding order_of find_clordid
never_used b client t e = go (first_below (λ k. bears_clordid b.orders client t (request_in b k)) (length b.requests)) refl e
  where
    go : (r : Option ℕ) → first_below (λ k. bears_clordid b.orders client t (request_in b k)) (length b.requests) ≡ r → eqb (maybe 0 (order_link b) r) 0 ≡ true
        → (j : ℕ) → j < length b.requests → bears_clordid b.orders client t (request_in b j) ≡ false
    go None z e j h = first_elim (λ k. bears_clordid b.orders client t (request_in b k)) (length b.requests) z j h
    go (Some k) z e j h = let n : (request_in b k).order + 1 ≡ 0 = eqb-true ((request_in b k).order + 1) 0 (unfold maybe in e) in absurd (omega arith)

-- so the ClOrdID is new to the client
fresh_key : (b : Book) (client : ℕ) (t : Text) → text_within 1 32 t ≡ true → eqb (order_of b client t) 0 ≡ true
    → (j : ℕ) → j < length b.requests → (request_in b j).order < length b.orders → eqb client (client_of b j) && same_text t (request_in b j).clordid ≡ false
fresh_key b client t w e j h booked = false_from_ne_true _ (λ z.
    let (c, s) = and_parts (eqb client (client_of b j)) (same_text t (request_in b j).clordid) z in
    let n : t.len ≡ (request_in b j).clordid.len = same_length t (request_in b j).clordid s in
    let Some : 1 ≤ t.len = (text_kept 1 32 t w).above in
    clash (bears_clordid b.orders client t (request_in b j))
    (and_from _ _ (not_from_false _ (ne_eqb (request_in b j).clordid.len 0 (λ y. omega arith)))
    (and_from _ _ (same_back t (request_in b j).clordid s) (of_client_lem b client j booked (sym (eqb-true client (client_of b j) c)))))
    (never_used b client t e j h))

-- what holds of a cancel or replace that is not refused
record Passes (f : Findings) (order : ℕ) (o : Order) (own : Reject) : Type 0 where
  unused : eqb order 0 ≡ true
  found : eqb f.place 0 ≡ false
  live : is_done o.state.status ≡ false
  silent : eqb own.fixedtext 0 ≡ true

amend_passes : (f : Findings) (order : ℕ) (full : Bool) (o : Order) (e : Event) (own : Reject) → not (eqb (amend_refusal f order full o e own).fixedtext 0) ≡ false → Passes f order o own
unfolding amend_refusal
amend_passes f order full o e own =
    let P : Reject → Type 0 = λ r. not (eqb r.fixedtext 0) ≡ false → Passes f order o own in
    split_if P _ (λ t z. clash true refl z)
    (λ unused. split_if P _ (λ t z. clash true refl z)
    (λ found. split_if P _ (λ t z. clash true refl z)
    (λ live. split_if P _ (λ t z. clash true refl z)
    (λ t. split_if P _ (λ t z. clash true refl z)
    (λ t z. record { unused = not-false (eqb order 0) unused; found = found; live = live; silent = not-false (eqb own.fixedtext 0) z })))))

silent_if : (t : Bool) (r : Reject) → eqb r.fixedtext 0 ≡ false → (q : Reject) → eqb (if t then r otherwise q).fixedtext 0 ≡ true → (t ≡ false) × (eqb q.fixedtext 0 ≡ true)
unfolding if◌then◌otherwise◌
silent_if true r n q e = clash (eqb r.fixedtext 0) e n
silent_if false r n q e = (refl, e)

module _ (b : Book) (e : Event) (good : BookKept b) (k : rules b ≡ true) (amendment : Amendment e) where
  fresh : (i : ℕ) → (order_in b i).client ≡ e.client → eqb (order_of b e.client e.ids.clordid) 0 ≡ true
      → (j : ℕ) → j < length b.requests → eqb (order_in b i).client (client_of b j) && same_text e.ids.clordid (at b.requests j).clordid ≡ false
  fresh i c u j h =
      subst (λ (n : ℕ). eqb n (client_of b j) && same_text e.ids.clordid (at b.requests j).clordid ≡ false) (sym c) (fresh_key b e.client e.ids.clordid amendment.clordid u j h (good.request j h).order)

  -- of the order that was found
  some_keeps : Ranged e → (i : ℕ) → i < length b.orders → (order_in b i).client ≡ e.client → Named b i e.ids.origclordid → (full : Bool) (c c' : Change)
      → AmendedBy (findings_of b (i + 1)) (order_of b e.client e.ids.clordid) full (order_in b i) e c c' → Keeps b c
  some_keeps ranged i h o n full c c' (repeated t) = kept_keeps b i _ good h (status_kept b i _ _ (here_at b i good h))
  some_keeps ranged i h o n full c c' (turned w t) = kept_keeps b i _ good h (own_still b i _ _ (here_at b i good h))
  some_keeps ranged i h o n full c c' (unpriced t) = refusing_keeps b 6 refl
  some_keeps ranged i h o n full c c' (cancel_sent z t) =
      let here : Here b i (findings_of b (i + 1)) (order_in b i) = here_at b i good h in
      let p = amend_passes (findings_of b (i + 1)) _ full (order_in b i) e _ t in
      kept_keeps b i _ good h (cancel_goes_lem b i _ _ here e amendment.clordid amendment.origclordid (fresh i o p.unused) n p.live
      (quiet_idle b i _ _ here p.live (unfold cancel_refusal in (silent_if (gateway_cancel_in_flight (findings_of b (i + 1)) (order_in b i)) _ refl _ p.silent).0)))
  some_keeps ranged i h o n full c c' (replace_sent t u) =
      let p = amend_passes (findings_of b (i + 1)) _ full (order_in b i) e _ t in
      kept_keeps b i _ good h
      (replace_goes_lem b i _ _ (here_at b i good h) e amendment.clordid amendment.origclordid (fresh i o p.unused) n p.live ranged u)

  -- no order has the ClOrdID
  none_keeps : (order : ℕ) (full : Bool) (o : Order) (c c' : Change) → AmendedBy (findings_of b 0) order full o e c c' → Keeps b c
  unfolding findings_of already_taken
  none_keeps order full o c c' (repeated t) =
      let (t, same) = and_parts (has e 21 && not (eqb order 0)) (eqb order 0) t in
      clash (eqb order 0) same (not-true (eqb order 0) (and_parts (has e 21) (not (eqb order 0)) t).1)
  none_keeps order full o c c' (turned w t) = nothing_keeps b _ _ k
  none_keeps order full o c c' (unpriced t) = refusing_keeps b 6 refl
  none_keeps order full o c c' (cancel_sent z t) = clash (eqb 0 0) refl (amend_passes (findings_of b 0) order full o e _ t).found
  none_keeps order full o c c' (replace_sent t u) = clash (eqb 0 0) refl (amend_passes (findings_of b 0) order full o e _ t).found

-- ---- event 1

none_count : (n : ℕ) → count_below (λ j. false) n ≡ 0
unfolding count_below if◌then◌otherwise◌
none_count zero = refl
none_count (suc n) = let h : count_below (λ j. false) n ≡ 0 = none_count n in omega arith

-- no request is of an order that is not there
none_owned : (b : Book) → BookKept b → owned (length b.orders) b.requests ≡ 0
none_owned b good =
    count_ext (of_order b.requests (length b.orders)) (λ j. false) (length b.requests)
    (λ j h. ne_eqb (request_in b j).order (length b.orders) (λ z. let l : (request_in b j).order < length b.orders = (good.request j h).order in omega arith))
    ∙ none_count (length b.requests)

module _ (b : Book) (e : Event) (good : BookKept b) (booking : Booking e) (ranged : Ranged e) (priced : priced_right e.terms.ordtype e ≡ true)
    (unused' : eqb (order_of b e.client e.ids.clordid) 0 ≡ true) where
  booked_kept : OrderKept (length b.orders) (booked_order (length b.requests + 1) e) (b.requests ++ (first_request (length b.orders) e ∷ []))
  unfolding booked_order first_request is_cancel is_first is_replace is_gateway is_status statuses pending_range if◌then◌otherwise◌ current_rule cancel_rule pending_rule filled_rule status_rule done_rule is_done tries_rule
  booked_kept =
      let n : ℕ = length b.orders in
      let qs : List Request = b.requests ++ (first_request (length b.orders) e ∷ []) in
      record {
        names = kept_names _ (record { name = booking.name; clordid = booking.clordid; downstream = name_within e.ids.name booking.name; symbol = booking.symbol; venueorderid = no_text_lem });
        terms = kept_terms e.terms (record { side = booking.side; priced = priced_range_lem e.terms.ordtype e ranged booking.ordtype priced; timeinforce = ranged.timeinforce; qty = ranged.qty });
        coded = refl;
        average = refl;
        waiting = refl;
        gateway = gateway_none (length qs);
        current = linked_new (current_test e.ids.name) n b.requests (first_request (length b.orders) e) refl (same_self e.ids.name);
        cancel = refl;
        pending = refl;
        amendments = at_amendments n 0 qs (ap (λ (k : ℕ). k + 1) (sym (none_owned b good)) ∙ sym (owned_own n b.requests (first_request (length b.orders) e) refl));
        filled = le-leb 0 e.terms.qty (omega arith);
        status = refl;
        done = refl;
        tries = refl;
        flight = flight_more n b.requests (first_request (length b.orders) e) (booked_order (length b.requests + 1) e)
            (λ j h own. let l : (request_in b j).order < n = (good.request j h).order in absurd (omega arith)) (λ own. settled_flight _ (first_request (length b.orders) e) _ refl);
      }

  first_added : Added b (length b.orders) (booked_order (length b.requests + 1) e) (first_request (length b.orders) e)
  unfolding booked_order first_request
  first_added = record {
    order = refl;
    range = unfold request_range is_first is_gateway if◌then◌otherwise◌ in and_from _ _ booking.clordid (unfold text_within is_text all_below in refl);
    outcome = unfold outcome_rule is_answered if◌then◌otherwise◌ in refl;
    number = subst (λ (n : ℕ). number_rule e.ids.name n (first_request (length b.orders) e) ≡ true) (sym (none_owned b good))
        (unfold number_rule name_number is_first if◌then◌otherwise◌ in and_from _ _ (same_self e.ids.name) refl);
    origin = origin_none b.requests (first_request (length b.orders) e) (unfold first_request in refl);
    fresh = λ j h. and_tail (not (is_empty e.ids.clordid)) _ _ (fresh_key b e.client e.ids.clordid booking.clordid unused' j h (good.request j h).order);
  }

  first_kept : Kept b (length b.orders) (adding (first_request (length b.orders) e) (unchanged (length b.orders + 1) (booked_order (length b.requests + 1) e)))
  unfolding adding unchanged requests_after answer_link if◌then◌otherwise◌
  first_kept = record {
    place = refl;
    name = λ h. absurd (omega arith);
    client = λ h. absurd (omega arith);
    answers = λ j z. absurd (omega arith);
    supersedes = λ j z. absurd (omega arith);
    added = λ z. first_added;
    rule = booked_kept;
  }

-- a name that no order bears is apart from each order's
named_apart : (b : Book) (e : Event) → ((j : ℕ) → j < length b.orders → same_text e.ids.name (order_in b j).names.name ≡ false)
    → length b.orders ≤ length b.orders → (j : ℕ) → j < length b.orders
    → same_text (adding (first_request (length b.orders) e) (unchanged (length b.orders + 1) (booked_order (length b.requests + 1) e))).order.names.name (order_in b j).names.name ≡ false
unfolding adding unchanged booked_order
named_apart b e apart l j h = apart j h

booking_keeps : (b : Book) (e : Event) → BookKept b → Booking e → Ranged e → unused b e ≡ true → priced_right e.terms.ordtype e ≡ true
    → Keeps b (adding (first_request (length b.orders) e) (unchanged (length b.orders + 1) (booked_order (length b.requests + 1) e)))
booking_keeps b e good booking ranged u priced z r v =
    let (name, key) = and_parts (maybe true (λ k. false) (find_name b e.ids.name)) (eqb (order_of b e.client e.ids.clordid) 0) (unfold unused in u) in
    kept_book _ (lift b (length b.orders) _ good (first_kept b e good booking ranged priced key) (omega arith) r v (named_apart b e (apart name)))
  where
    apart : maybe true (λ k. false) (find_name b e.ids.name) ≡ true → (j : ℕ) → j < length b.orders → same_text e.ids.name (order_in b j).names.name ≡ false
    apart t j h = false_from_ne_true _ (λ s. clash (bears_name e.ids.name (order_in b j)) (same_back e.ids.name (order_in b j).names.name s) (go (find_name b e.ids.name) refl t))
      where
        go : (r : Option ℕ) → find_name b e.ids.name ≡ r → maybe true (λ k. false) r ≡ true → bears_name e.ids.name (order_in b j) ≡ false
        go None z u = first_elim (λ k. bears_name e.ids.name (order_in b k)) (length b.orders) (unfold find_name in z) j h
        go (Some k) z u = clash false (unfold maybe in u) refl

-- what an event makes of a request is an outcome
by_fits : (e : Event) → (0 < outcome_by e) × (outcome_by e ≤ 3)
unfolding outcome_by
by_fits e =
    let P : ℕ → Type 0 = λ n. (0 < n) × (n ≤ 3) in
    split_if P _ (λ t. (omega arith, omega arith)) (λ t. split_if P _ (λ u. (omega arith, omega arith)) (λ u. (omega arith, omega arith)))

outcome_fits : (e : Event) (c : Change) → Came e c.requests.answered c.requests.superseded c.requests.outcome → Outcome c
outcome_fits e c (inl (x, y, z)) = inl (x, y)
outcome_fits e c (inr z) = let (l, m) = by_fits e in inr (omega arith, omega arith)

-- ---- every event

module _ (laws : NumberedLaws) (b : Book) (e : Event) (ranged : Ranged e) (k : rules b ≡ true) where
  -- whether there is room or not: the last refusal is for want of it
  ways : Ways (Keeps b) b e
  unfolding find_downstream find_clordid find_name
  ways =
      let good : BookKept b = book_kept b k in
      record {
        refuses = refusing_keeps b;
        no_order_lem = λ z. unfold unchanged in nothing_keeps b _ _ k;
        unknown = λ z. unfold alarming unchanged in nothing_keeps b _ _ k;
        books = λ t. booking_keeps b e good (ranged.booking (eqb-true e.kind 1 t)) ranged;
        amends_none = λ z order full. none_keeps b e good k (ranged.amendment z) order full no_order;
        amends = λ z j y.
            let f : First (λ n. bears_clordid b.orders e.client e.ids.origclordid (request_in b n)) (length b.requests) j = first_some _ (length b.requests) j y in
            some_keeps b e good k (ranged.amendment z) ranged (request_in b j).order (good.request j f.below).order (clordid_client b e.client e.ids.origclordid j f.passes)
            (record { at = j; below = f.below; own = refl; bears = clordid_same b e.client e.ids.origclordid j f.passes });
        answers = λ y j z c c' m.
            let f : First (λ n. bears_downstream e.ids.downstream (request_in b n)) (length b.requests) j = first_some _ (length b.requests) j z in
            let r : RequestKept b j = good.request j f.below in
            kept_keeps b (request_in b j).order _ good r.order
            (made_kept b _ _ _ (here_at b (request_in b j).order good r.order) j _ (asked_at b j f.below) e ranged
            (λ y. clordid_within b j r (replace_client _ y)) (downstream_within laws b good j f.below) m);
        asks = λ y i z c c' m.
            let f : First (λ n. bears_name e.ids.name (order_in b n)) (length b.orders) i = first_some _ (length b.orders) i z in
            kept_keeps b i _ good f.below (asked_kept b i _ _ (here_at b i good f.below) m);
      }

  step_taken : Taken b (step_of b e)
  unfolding step_of
  step_taken =
      split_if (Taken b) (not (eqb (change_of b e).refusal 0)) (λ t z. clash (eqb (change_of b e).refusal 0) z (not-true (eqb (change_of b e).refusal 0) t))
      (λ t. split_if (Taken b) (has_room b (change_of b e)) (λ r z. change_made (Keeps b) b e ways z r (outcome_fits e (change_of b e) (change_sets b e).came)) (λ r. refusing_taken b 7 refl))

-- demand 1: each event taken leaves a book that keeps its rules
pub step_keeps : StepKeeps
unfolding book_after
step_keeps b e ranged k = split_if (λ (x : Book). rules x ≡ true) _ (λ t. step_taken numbered_laws b e ranged k t) (λ t. k)
