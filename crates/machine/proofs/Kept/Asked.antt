-- What is asked of an order itself, a client's cancel or replace and the gateway's own cancel: each keeps its rules. Rests on Keep and Stepped.
use Rattle.std.proofs.Common.{ℕ, ◌+◌, ◌-◌, ◌<◌, arith, ◌≡◌, refl, sym, ap, subst, ◌∙◌, Bool, true, false, not, ◌&&◌, ◌||◌, [], ◌∷◌, ◌++◌, eqb, leb, length, eq-eqb, ne_eqb}
use Rattle.std.proofs.lemmas.Bool.{not-true, and_parts, and_from, or_left, or_right, not_from_false}
use Rattle.prelude.specs.Cases.{if◌then◌otherwise◌}
use Rattle.prelude.specs.Laws.Cases.{split_if, if_false, clash}
use Rattle.prelude.specs.Texts.{same_text}
use Rattle.prelude.specs.declared.Text.{Text}
use Rattle.store.specs.declared.Order.{Order}
use Rattle.store.specs.declared.Request.{Request}
use Rattle.store.specs.Book.{Book}
use Rattle.store.specs.Requests.{no_request}
use Rattle.machine.specs.Constants.{cancel_kind, replace_kind}
use Rattle.machine.specs.Orders.{is_empty, is_done, next_exec, with_pending, with_gateway}
use Rattle.machine.specs.Changes.{Event, has, is_first, is_replace, is_gateway, is_cancel, is_answered, next_link, next_number, next_request, numbered_order}
use Rattle.machine.specs.GatewayCancel.{outstanding_cancel, gateway_cancel_in_flight, begun}
use Rattle.machine.specs.Amend.{cancel_goes, or_own, new_terms, priced_right, new_pending, replace_goes}
use Rattle.machine.specs.Machine.{answer_link, requests_after, latest_cancel}
use Rattle.machine.specs.Events.{Ranged}
use Rattle.format.specs.Codes.{is_ordtype, is_price, limit}
use Rattle.machine.specs.Ranges.{text_within}
use Rattle.machine.specs.Rules.{force_range, priced_range, pending_range, request_range, linked, pending_test, pending_rule, number_rule, in_flight_rule, client_of}
use Rattle.machine.specs.declared.Findings.{Findings}
use Rattle.machine.specs.declared.Output.{Output}
use Rattle.machine.specs.declared.Change.{Change}
use Rattle.machine.proofs.Made.{left, declined, waits, goes}
use Rattle.machine.proofs.Stepped.{AskedBy}
use Rattle.machine.proofs.Kept.Laws.{and_tail}
use Rattle.machine.proofs.Kept.Tables.{at, linked_new, owned, amendments_at, origin_new}
use Rattle.machine.proofs.Kept.Local.{OrderKept, Flights, Quiet, settled, settled_flight, quiet_flights, quiet_latest, next_link_lem, next_owned, own_kept}
use Rattle.machine.proofs.Kept.OrderSteps.{terms_kept, sequence_kept, gateway_kept, pending_kept}
use Rattle.machine.proofs.Kept.Keep.{Added, Kept, Named, Here, Same, still_kept, own_still, goes_kept, next_right, next_outcome, named_range, few_tries, send_kept}

-- ---- what is asked of the order itself

-- there is a price exactly if the type is limit
pub priced_range_lem : (ordtype : ℕ) (e : Event) → Ranged e → is_ordtype ordtype ≡ true → priced_right ordtype e ≡ true → priced_range ordtype e.terms.price ≡ true
unfolding priced_right priced_range
priced_range_lem ordtype e ranged listed right =
    and_from _ _ (and_from _ _ listed ranged.price)
    (split_if (λ (x : Bool). x ≡ true → eqb ordtype limit || eqb e.terms.price 0 ≡ true) (eqb ordtype limit)
    (λ t h. or_left _ _ t) (λ t h. or_right (eqb ordtype limit) _ (eq-eqb e.terms.price 0 (ranged.unpriced (not-true (has e 10) h)))) right)

priced_listed : (ordtype price : ℕ) → priced_range ordtype price ≡ true → is_ordtype ordtype ≡ true
unfolding priced_range
priced_listed ordtype price e = (and_parts (is_ordtype ordtype) (is_price price) (and_parts (is_ordtype ordtype && is_price price) _ e).0).0

-- a client's cancel or replace is in its range
client_range : (f : Findings) (o : Order) (kind : ℕ) (clordid origclordid : Text) → leb kind 3 ≡ true → is_first (next_request f o kind clordid origclordid) ≡ false
    → is_gateway (next_request f o kind clordid origclordid) ≡ false → text_within 1 32 clordid ≡ true → text_within 1 32 origclordid ≡ true
    → request_range (next_request f o kind clordid origclordid) ≡ true
unfolding request_range next_request
client_range f o kind clordid origclordid k first gateway c d =
    and_from _ _ (and_from _ _ (and_from _ _ k refl) (if_false (is_gateway _) (text_within 0 0 clordid) (text_within 1 32 clordid) gateway ∙ c))
    (if_false (is_first _ || is_gateway _) (text_within 0 0 origclordid) (text_within 1 32 origclordid) (rw (first, gateway) refl) ∙ d)

settled_or : {c : Bool} (a g : Bool) → c ≡ true → c && not a && g ≡ false → not g || a ≡ true
settled_or a g s e = grind arith

module _ (b : Book) (i : ℕ) (f : Findings) (o : Order) (here : Here b i f o) where
  -- none of the gateway's in flight, by the latest cancel
  pub quiet_idle : is_done o.state.status ≡ false → gateway_cancel_in_flight f o ≡ false → Quiet i b.requests
  unfolding gateway_cancel_in_flight outstanding_cancel latest_cancel
  quiet_idle live idle = quiet_latest i o b.requests live latest here.kept.flight
    where
      latest : (j : ℕ) → o.links.cancel ≡ j + 1 → settled (at b.requests j) ≡ true
      latest j z =
          let some : eqb o.links.cancel 0 ≡ false = ne_eqb o.links.cancel 0 (λ y. omega arith) in
          let is : f.cancel ≡ at b.requests j =
          here.latest ∙ if_false (eqb o.links.cancel 0) no_request (at b.requests (o.links.cancel - 1)) some ∙ ap (at b.requests) (omega arith) in
          subst (λ (x : Request). settled x ≡ true) is (settled_or (is_answered f.cancel) (is_gateway f.cancel) (not_from_false _ some) idle)

  begun_kept : {out : Output} → is_done o.state.status ≡ false → gateway_cancel_in_flight f o ≡ false → Kept b i (left f.place (with_gateway (begun o) o) 0 0 0 out)
  begun_kept live idle =
      still_kept b i f o here (record { name = refl; client = refl })
      (unfold begun in gateway_kept i o b.requests here.kept (begun o) live (quiet_idle live idle) (named_range i o b.requests (begun o) refl refl here.kept) (few_tries (begun o) 0 (omega arith) (omega arith)))

  pub asked_kept : {c c' : Change} → AskedBy f o c c' → Kept b i c
  asked_kept (declined z) = own_still b i f o here
  asked_kept (waits live idle) = begun_kept live idle
  asked_kept (goes live idle) =
      send_kept b i f o here _
      (unfold begun requests_after answer_link if◌then◌otherwise◌ in
      record { kept = begun_kept live idle; idle = refl; live = live; quiet = quiet_idle live idle; few = omega arith; free = refl })

  pub status_kept : {out : Output} → Kept b i (left f.place (next_exec o) 0 0 0 out)
  status_kept = still_kept b i f o here (unfold next_exec in record { name = refl; client = refl }) (sequence_kept i o b.requests here.kept)

  -- the client's request, under a ClOrdID that it never used, with the one of a request of this order as its OrigClOrdID
  module _ (e : Event) (clordid : text_within 1 32 e.ids.clordid ≡ true) (origclordid : text_within 1 32 e.ids.origclordid ≡ true)
      (fresh : (j : ℕ) → j < length b.requests → eqb o.client (client_of b j) && same_text e.ids.clordid (at b.requests j).clordid ≡ false)
      (named : Named b i e.ids.origclordid) (live : is_done o.state.status ≡ false) where
    client_added : (kind : ℕ) (p : Order) → Same o p → leb kind 3 ≡ true → is_first (next_request f o kind e.ids.clordid e.ids.origclordid) ≡ false
        → is_gateway (next_request f o kind e.ids.clordid e.ids.origclordid) ≡ false → Added b i p (next_request f o kind e.ids.clordid e.ids.origclordid)
    client_added kind p s k first gateway =
        let next : next_number o ≡ owned i b.requests = next_owned i o b.requests here.few here.kept.amendments in
        let some : o.links.amendments + 1 ≡ owned i b.requests = amendments_at i o.links.amendments b.requests here.kept.amendments in
        record {
          order = unfold next_request in let z : f.place ≡ i + 1 = here.place in omega arith;
          range = client_range f o kind e.ids.clordid e.ids.origclordid k first gateway clordid origclordid;
          outcome = next_outcome f o kind e.ids.clordid e.ids.origclordid;
          number = subst (λ (t : Text). number_rule t (owned i b.requests) (next_request f o kind e.ids.clordid e.ids.origclordid) ≡ true) (sym s.name)
              (next_right f o kind (owned i b.requests) e.ids.clordid e.ids.origclordid next (omega arith) first);
          origin = unfold next_request in
              let z : f.place - 1 ≡ i = omega (arith, here.place) in
              origin_new b.requests (next_request f o kind e.ids.clordid e.ids.origclordid) named.at named.below (named.own ∙ sym z) named.bears;
          fresh = λ j h. unfold next_request in and_tail (not (is_empty e.ids.clordid)) _ _
              (subst (λ (n : ℕ). eqb n (client_of b j) && same_text e.ids.clordid (at b.requests j).clordid ≡ false) (sym s.client) (fresh j h));
        }

    pub cancel_goes_lem : Quiet i b.requests → Kept b i (cancel_goes f o e)
    unfolding cancel_goes
    cancel_goes_lem quiet =
        goes_kept b i f o here (next_request f o cancel_kind e.ids.clordid e.ids.origclordid) (numbered_order f true o) _ same
        (client_added cancel_kind (numbered_order f true o) same refl (unfold is_first next_request in refl) (unfold is_gateway next_request in refl))
        (own_kept i b.requests (next_request f o cancel_kind e.ids.clordid e.ids.origclordid) f true o here.count here.few
        (unfold next_request in let z : f.place ≡ i + 1 = here.place in omega arith) (λ t. unfold is_cancel is_first is_replace next_request in refl)
        (quiet_flights i _ b.requests quiet) (settled_flight _ _ _ (unfold is_gateway next_request in refl)) here.kept)
      where
        same : Same o (numbered_order f true o)
        same = unfold numbered_order in record { name = refl; client = refl }

    pub replace_goes_lem : Ranged e → priced_right (or_own e.terms.ordtype o.terms.ordtype) e ≡ true → Kept b i (replace_goes f o e)
    unfolding replace_goes
    replace_goes_lem ranged priced =
        goes_kept b i f o here x p _ same (client_added replace_kind p same refl (unfold is_first next_request in refl) (unfold is_gateway next_request in refl)) kept
      where
        x : Request
        x = next_request f o replace_kind e.ids.clordid e.ids.origclordid

        p : Order
        p = with_pending (new_pending f (new_terms o e)) (numbered_order f false o)

        same : Same o p
        same = unfold numbered_order in record { name = refl; client = refl }

        flights : Flights i (numbered_order f false o) b.requests
        flights = unfold numbered_order in_flight_rule if◌then◌otherwise◌ in here.kept.flight

        numbered : OrderKept i (numbered_order f false o) (b.requests ++ (x ∷ []))
        numbered = own_kept i b.requests x f false o here.count here.few (unfold next_request in let z : f.place ≡ i + 1 = here.place in omega arith) (λ t. clash false t refl)
            flights (settled_flight _ _ _ (unfold is_gateway next_request in refl)) here.kept

        listed : is_ordtype (or_own e.terms.ordtype o.terms.ordtype) ≡ true
        listed = unfold or_own in split_if (λ (n : ℕ). is_ordtype n ≡ true) _ (λ t. priced_listed _ o.terms.price (terms_kept o.terms here.kept.terms).priced) (λ t. ranged.ordtype t)

        force : force_range (or_own e.terms.timeinforce o.terms.timeinforce) ≡ true
        force = unfold or_own in split_if (λ (n : ℕ). force_range n ≡ true) _ (λ t. (terms_kept o.terms here.kept.terms).timeinforce) (λ t. ranged.timeinforce)

        link : next_link f ≡ length b.requests + 1
        link = next_link_lem f (length b.requests) here.count here.few

        range : pending_range (new_pending f (new_terms o e)) ≡ true
        range = unfold new_pending new_terms pending_range in
            if_false (eqb (next_link f) 0) _ _ (ne_eqb (next_link f) 0 (λ z. omega (arith, link))) ∙ and_from _ _ (and_from _ _ (priced_range_lem (or_own e.terms.ordtype o.terms.ordtype) e ranged listed priced) force) ranged.qty

        rule : pending_rule i (new_pending f (new_terms o e)).request (b.requests ++ (x ∷ [])) ≡ true
        rule = unfold new_pending pending_rule in or_right (eqb (next_link f) 0) _
            (subst (λ (n : ℕ). linked pending_test i n (b.requests ++ (x ∷ [])) ≡ true) (sym link)
            (linked_new pending_test i b.requests x (unfold next_request in let z : f.place ≡ i + 1 = here.place in omega arith) (unfold is_replace is_answered next_request in refl)))

        kept : OrderKept i p (b.requests ++ (x ∷ []))
        kept = pending_kept i (numbered_order f false o) (b.requests ++ (x ∷ [])) numbered (new_pending f (new_terms o e)) (unfold numbered_order in live) range rule
