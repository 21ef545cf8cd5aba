-- WRONG RETIREMENTS that RetirePlaced shuts out, each by a small book: no proof text can save a `retire` whose definition and code are wrong alike.
-- The book has A, live, with a cancel under way; B, filled after a replace; and C, live. The archive has D. Rests on RetirePlaced.
use Rattle.std.specs.Prelude.{ℕ, zero, suc, ◌+◌, ◌≤◌, ◌<◌, ◌≡◌, refl, true, false, List, [], ◌∷◌, ◌++◌, length, get_or, None, Some}
use Rattle.std.proofs.Common.{ap, subst, ⊎_elim, arith}
use Rattle.prelude.specs.Below.{first_below, all_below, count_below}
use Rattle.prelude.specs.Cases.{if◌then◌otherwise◌, maybe}
use Rattle.prelude.specs.Laws.Cases.{none_some, same_some}
use Rattle.prelude.specs.Texts.{text_of, same_text, contents, is_text}
use Rattle.prelude.specs.declared.Text.{Text}
use Rattle.store.specs.declared.Names.{Names}
use Rattle.store.specs.declared.State.{State}
use Rattle.store.specs.declared.Order.{Order}
use Rattle.store.specs.declared.Request.{Request}
use Rattle.store.specs.Orders.{no_order}
use Rattle.store.specs.Requests.{no_request}
use Rattle.store.specs.Book.{Book, order_in}
use Rattle.store.specs.Finds.{find_name, find_downstream}
use Rattle.machine.specs.Exchange.{open_of}
use Rattle.machine.specs.Orders.{is_done, leaves_of, leaves_qty, with_gateway, has_pending, has_gateway}
use Rattle.machine.specs.Changes.{is_first, is_replace, is_gateway, is_cancel, is_answered}
use Rattle.machine.specs.Ranges.{text_within, name_range}
use Rattle.machine.specs.Rules.{names_range, force_range, priced_range, terms_range, pending_range, gateway_range, order_range, request_range, linked, current_rule, cancel_rule, pending_rule, filled_rule, status_rule, done_rule, tries_rule, amendments_rule, order_rule, number_in, name_number, number_rule, outcome_rule, in_flight_rule, origin_rule, request_rule, same_key, rules}
use Rattle.format.specs.Codes.{is_side, is_ordtype, is_timeinforce, is_status, sides, ordtypes, timesinforce, statuses, is_alnum, is_none, is_name}
use Rattle.text.specs.Numbered.{numbered_text, decimal, digits_of}
use Rattle.net.specs.declared.Amounts.{Amounts}
use Rattle.net.specs.Net.{filled_in}
use Rattle.parts.specs.Parts.{passing, done_at, own_cancel, named_along, moved_link, moved_order, moved_request, joined, live_part, archived}
use Rattle.claims.specs.Net.{plus}
use Rattle.claims.specs.RetirePlaced.{StandsAt, LiveOrder, DoneOrder, GatewaysOwn, GatewaysFirst, NamedStill, DonePlaced, Placed}

-- ---- the books

-- a name of one letter, and the letter, '-' and 1
abbrev letter : ℕ → Text
letter a = text_of (a ∷ [])

abbrev dashed : ℕ → Text
dashed a = text_of (a ∷ 45 ∷ 49 ∷ [])

-- 48 is New and 50 Filled
abbrev order : (name venue status cumqty amendments current cancel : ℕ) → Order
order name venue status cumqty amendments current cancel = record {
  client = 7;
  venue = venue;
  names = record { name = letter name; clordid = letter (name + 32); downstream = letter name; symbol = letter 87; venueorderid = letter 86 };
  terms = record { side = 49; ordtype = 49; timeinforce = 0; qty = 50000; price = 0 };
  state = record { status = status; cumqty = cumqty; avgpx = 0; execseq = 0 };
  links = record { amendments = amendments; current = current; cancel = cancel };
  pending = no_order.pending;
  gateway = no_order.gateway;
}

-- kind 0 is an order's first request
abbrev request : (order kind answered outcome : ℕ) (downstream : Text) → Request
request order kind answered outcome downstream =
    record { order = order; kind = kind; answered = answered; clordid = downstream; origclordid = text_of []; downstream = downstream; outcome = outcome }

-- 1 a cancel and 2 a replace: -1 behind the order's name, whose first ClOrdID it names
abbrev amendment : (order kind answered outcome name : ℕ) → Request
amendment order kind answered outcome name =
    record { order = order; kind = kind; answered = answered; clordid = dashed name; origclordid = letter name; downstream = dashed name; outcome = outcome }

-- 3 a gateway's cancel, which has no ClOrdID
abbrev gateways : (order answered outcome : ℕ) (downstream : Text) → Request
gateways order answered outcome downstream =
    record { order = order; kind = 3; answered = answered; clordid = text_of []; origclordid = text_of []; downstream = downstream; outcome = outcome }

abbrev book : List Order → List Request → Book
book os qs = record { setting = 10000; orders = os; requests = qs }

-- rows by where their requests and orders stand
abbrev a : (current cancel : ℕ) → Order
a current cancel = order 65 1 48 0 1 current cancel

-- B after its replace: filled, and known by the replace's ClOrdIDs
abbrev replaced : (venue cumqty current : ℕ) → Order
replaced venue cumqty current = let o = order 66 venue 50 cumqty 1 current 0 in record {
  client = o.client;
  venue = o.venue;
  names = record { name = o.names.name; clordid = dashed 66; downstream = dashed 66; symbol = o.names.symbol; venueorderid = o.names.venueorderid };
  terms = o.terms;
  state = o.state;
  links = o.links;
  pending = o.pending;
  gateway = o.gateway;
}

abbrev c : (current : ℕ) → Order
c current = order 67 1 48 0 0 current 0

abbrev a_first : (place : ℕ) → Request
a_first place = request place 0 1 1 (letter 65)

abbrev a_cancel : (place : ℕ) → Request
a_cancel place = amendment place 1 0 0 65

abbrev c_first : (place : ℕ) → Request
c_first place = request place 0 1 1 (letter 67)

abbrev d_first : Request
d_first = request 0 0 1 1 (letter 68)

abbrev was : Book
was =
    book (a 1 4 ∷ replaced 1 50000 5 ∷ c 3 ∷ [])
    (a_first 0 ∷ request 1 0 1 1 (letter 66) ∷ c_first 2 ∷ a_cancel 0 ∷ amendment 1 2 1 1 66 ∷ [])

abbrev d : Order
d = order 68 1 50 50000 0 1 0

abbrev held : Book
held = book (d ∷ []) (d_first ∷ [])

-- as it should be: A and C stay, and B stands behind D
abbrev left : Book
left = book (a 1 3 ∷ c 2 ∷ []) (a_first 0 ∷ c_first 1 ∷ a_cancel 0 ∷ [])

abbrev b : Order
b = replaced 1 50000 3

abbrev b_first : Request
b_first = request 1 0 1 1 (letter 66)

abbrev b_replace : Request
b_replace = amendment 1 2 1 1 66

-- the archive with B and its requests behind what it held
abbrev with_b : Order → (first second : Request) → Book
with_b o first second = book (d ∷ o ∷ []) (d_first ∷ first ∷ second ∷ [])

abbrev kept : Book
kept = with_b b b_first b_replace

-- this is what parts' definitions make of the two books
sample_left : live_part was ≡ left
unfolding joined passing moved_order moved_request moved_link named_along own_cancel count_below done_at is_done if◌then◌otherwise◌
sample_left = refl

sample_kept : archived held was ≡ kept
unfolding joined passing moved_order moved_request moved_link named_along own_cancel count_below done_at is_done if◌then◌otherwise◌
sample_kept = refl

-- they keep the rules
books_keep : (rules was ≡ true) × (rules held ≡ true)
unfolding if◌then◌otherwise◌ all_below first_below count_below maybe text_of contents same_text numbered_text decimal digits_of has_pending has_gateway is_done is_first is_replace is_gateway is_cancel is_answered is_text is_side is_ordtype is_timeinforce is_status text_within sides ordtypes timesinforce statuses is_alnum is_none is_name name_range names_range force_range priced_range terms_range pending_range gateway_range order_range request_range linked current_rule cancel_rule pending_rule filled_rule status_rule done_rule tries_rule amendments_rule order_rule number_in name_number number_rule outcome_rule in_flight_rule origin_rule request_rule same_key rules
books_keep = (refl, refl)

-- ---- what is known of A, B and C

b_done : DoneOrder was 1
unfolding is_done
b_done = record { there = omega arith; done = refl }

a_live : LiveOrder was 0
unfolding is_done
a_live = record { there = omega arith; live = refl }

c_live : LiveOrder was 2
unfolding is_done
c_live = record { there = omega arith; live = refl }

b_stands : (kept : Book) → Placed was held left kept → find_name kept (letter 66) ≡ Some 1 → StandsAt was kept 1 (order_in was 1) 1
b_stands kept p e =
    let s : DonePlaced was held left kept 1 = p.done 1 b_done in
    subst (λ (k : ℕ). StandsAt was kept 1 (order_in was 1) k) (same_some s.stands.found e) s.stands

-- ---- what is wrong with B in the archive

-- its requests stand in another order
requests_turned : Placed was held left (with_b (replaced 1 50000 2) b_replace b_first) → ⊥
unfolding find_name first_below all_below same_text text_of maybe if◌then◌otherwise◌
requests_turned p =
    let s = b_stands (with_b (replaced 1 50000 2) b_replace b_first) p refl in
    let z : ◌≡◌ {A = ℕ} 0 2 = ap (λ (l : List Request). (get_or l 0 no_request).kind) s.requests in
    absurd (omega arith)

-- its link names its first request, and it named its replace
link_of_another : Placed was held left (with_b (replaced 1 50000 2) b_first b_replace) → ⊥
unfolding find_name first_below all_below same_text text_of maybe if◌then◌otherwise◌
link_of_another p =
    let s = b_stands (with_b (replaced 1 50000 2) b_first b_replace) p refl in
    let z : ◌≡◌ {A = ℕ} 3 1 = ap (λ (t : Text). t.len) s.same.current in
    absurd (omega arith)

-- an outcome is lost
outcome_lost : Placed was held left (with_b b b_first (amendment 1 2 1 0 66)) → ⊥
unfolding find_name first_below all_below same_text text_of maybe if◌then◌otherwise◌
outcome_lost p =
    let s = b_stands (with_b b b_first (amendment 1 2 1 0 66)) p refl in
    let z : ◌≡◌ {A = ℕ} 1 0 = ap (λ (l : List Request). (get_or l 1 no_request).outcome) s.requests in
    absurd (omega arith)

-- a request is lost
request_lost : Placed was held left (with_b b b_first (amendment 0 2 1 1 66)) → ⊥
unfolding find_name first_below all_below same_text text_of maybe if◌then◌otherwise◌
request_lost p =
    let s = b_stands (with_b b b_first (amendment 0 2 1 1 66)) p refl in
    let z : ◌≡◌ {A = ℕ} 2 1 = ap (λ (l : List Request). length l) s.requests in
    absurd (omega arith)

-- it went to another venue
venue_changed : Placed was held left (with_b (replaced 2 50000 3) b_first b_replace) → ⊥
unfolding find_name first_below all_below same_text text_of maybe if◌then◌otherwise◌
venue_changed p =
    let s = b_stands (with_b (replaced 2 50000 3) b_first b_replace) p refl in
    let z : ◌≡◌ {A = ℕ} 1 2 = s.same.venue in
    absurd (omega arith)

-- what was filled is forgotten
filled_lost : Placed was held left (with_b (replaced 1 0 3) b_first b_replace) → ⊥
unfolding find_name first_below all_below same_text text_of maybe if◌then◌otherwise◌
filled_lost p =
    let s = b_stands (with_b (replaced 1 0 3) b_first b_replace) p refl in
    let z : ◌≡◌ {A = ℕ} 50000 0 = ap (λ (x : State). x.cumqty) s.same.state in
    absurd (omega arith)

-- its symbol and the venue's name of it are exchanged
abbrev b_turned : Order
b_turned = record {
  client = b.client;
  venue = b.venue;
  names = record { name = b.names.name; clordid = b.names.clordid; downstream = b.names.downstream; symbol = b.names.venueorderid; venueorderid = b.names.symbol };
  terms = b.terms;
  state = b.state;
  links = b.links;
  pending = b.pending;
  gateway = b.gateway;
}

texts_turned : Placed was held left (with_b b_turned b_first b_replace) → ⊥
unfolding find_name first_below all_below same_text text_of maybe if◌then◌otherwise◌
texts_turned p =
    let s = b_stands (with_b b_turned b_first b_replace) p refl in
    let z : ◌≡◌ {A = ℕ} 87 86 = ap (λ (n : Names). get_or n.symbol.bytes 0 0) s.same.names in
    absurd (omega arith)

-- ---- what is wrong with A's gateway cancel, where it named B's first request

-- A with two gateway's cancels, of which the first is answered
abbrev twice : Book
twice =
    book (with_gateway (record { tries = 2; unsent = false; stuck = false; origdownstream = 2; refusedsends = 0 }) (order 65 1 48 0 2 1 4) ∷ order 66 1 50 50000 0 2 0 ∷ [])
    (a_first 0 ∷ request 1 0 1 1 (letter 66) ∷ gateways 0 1 2 (dashed 65) ∷ gateways 0 0 0 (text_of (65 ∷ 45 ∷ 50 ∷ [])) ∷ [])

-- it may name the first
cancel_own : (k : ℕ) → GatewaysOwn twice 0 k → 3 ≤ k
cancel_own zero g = absurd (omega (arith, g.there.0))
cancel_own (suc zero) g = let z : ◌≡◌ {A = ℕ} 0 3 = g.kind in absurd (omega arith)
cancel_own (suc (suc zero)) g = let z : ◌≡◌ {A = ℕ} 1 0 = g.own in absurd (omega arith)
cancel_own (suc (suc (suc k))) g = omega arith

cancel_first : GatewaysFirst twice 0 3
cancel_first = record { owned = record { there = (omega arith, omega arith); own = refl; kind = refl }; first = cancel_own }

-- and not the one sent last
cancel_last : NamedStill twice 0 4 → ⊥
unfolding is_done
cancel_last s =
    ⊎_elim (λ (g : GatewaysFirst twice 0 4). let z : 4 ≤ 3 = g.first 3 cancel_first.owned in absurd (omega arith))
    (λ (z : ((k : ℕ) → GatewaysOwn twice 0 k → ⊥) × (◌≡◌ {A = ℕ} 4 1)). absurd (z.0 3 cancel_first.owned))
    (s.goes (omega arith) (record { there = omega arith; done = record { there = omega arith; done = refl } }))

-- ---- what is wrong with the rest

-- B stands before what the archive held
held_moved : Placed was held left
    (book (replaced 1 50000 2 ∷ order 68 1 50 50000 0 3 0 ∷ []) (request 0 0 1 1 (letter 66) ∷ amendment 0 2 1 1 66 ∷ request 1 0 1 1 (letter 68) ∷ [])) → ⊥
unfolding text_of
held_moved p =
    let z : ◌≡◌ {A = ℕ} 66 68 = ap (λ (o : Order). get_or o.names.name.bytes 0 0) (p.held_orders 0 (omega arith)) in
    absurd (omega arith)

-- B is lost
order_lost : Placed was held left held → ⊥
unfolding find_name first_below all_below same_text text_of maybe if◌then◌otherwise◌
order_lost p = let s = p.done 1 b_done in none_some (let e : find_name held (letter 66) ≡ None = refl in e) s.stands.found

-- C, which is live, goes along
live_taken : Placed was held (book (a 1 2 ∷ []) (a_first 0 ∷ a_cancel 0 ∷ []))
    (book (d ∷ b ∷ c 4 ∷ []) (d_first ∷ b_first ∷ b_replace ∷ c_first 2 ∷ [])) → ⊥
unfolding find_name first_below all_below same_text text_of maybe if◌then◌otherwise◌
live_taken p =
    let s = p.live 2 c_live in
    let e : find_name (book (a 1 2 ∷ []) (a_first 0 ∷ a_cancel 0 ∷ [])) (letter 67) ≡ None = refl in
    none_some e s.stands.found

-- C stands in both
live_doubled : Placed was held left (book (d ∷ b ∷ c 4 ∷ []) (d_first ∷ b_first ∷ b_replace ∷ c_first 2 ∷ [])) → ⊥
live_doubled p = let z : ◌≡◌ {A = ℕ} 5 4 = p.orders in absurd (omega arith)

-- B goes along and stays in the book too
done_doubled : Placed was held (book (a 1 3 ∷ c 2 ∷ order 66 1 50 50000 0 4 0 ∷ []) (left.requests ++ (request 2 0 1 1 (letter 66) ∷ []))) kept → ⊥
done_doubled p = let z : ◌≡◌ {A = ℕ} 5 4 = p.orders in absurd (omega arith)

-- A and C are booked in another order
booking_turned : Placed was held (book (c 1 ∷ a 2 3 ∷ []) (c_first 0 ∷ a_first 1 ∷ a_cancel 1 ∷ [])) kept → ⊥
unfolding find_name first_below all_below same_text text_of maybe if◌then◌otherwise◌
booking_turned p = let z : 1 < 0 = p.booked_live 0 2 (omega arith) a_live c_live 1 0 refl refl in absurd (omega arith)

-- C's request stands behind A's cancel, which was sent later
sending_turned : Placed was held (book (a 1 2 ∷ c 3 ∷ []) (a_first 0 ∷ a_cancel 0 ∷ c_first 1 ∷ [])) kept → ⊥
unfolding find_downstream first_below all_below same_text text_of maybe if◌then◌otherwise◌
sending_turned p =
    let z : 2 < 1 = p.sending_live 2 3 (omega arith) (record { there = omega arith; live = c_live }) (record { there = omega arith; live = a_live }) 2 1 refl refl in
    absurd (omega arith)

-- ---- what is wrong with sums: what `SumsStay` says of the books that the buffers are

-- what B had filled is forgotten, or counted in both
filled_forgotten : plus (filled_in left 7 (letter 87)) (filled_in (with_b (replaced 1 0 3) b_first b_replace) 7 (letter 87))
    ≡ plus (filled_in was 7 (letter 87)) (filled_in held 7 (letter 87)) → ⊥
unfolding filled_in all_below same_text text_of if◌then◌otherwise◌
filled_forgotten e = let z : ◌≡◌ {A = ℕ} 50000 100000 = ap (λ (x : Amounts). x.bought) e in absurd (omega arith)

filled_twice : plus (filled_in was 7 (letter 87)) (filled_in kept 7 (letter 87)) ≡ plus (filled_in was 7 (letter 87)) (filled_in held 7 (letter 87)) → ⊥
unfolding filled_in all_below same_text text_of if◌then◌otherwise◌
filled_twice e = let z : ◌≡◌ {A = ℕ} 150000 100000 = ap (λ (x : Amounts). x.bought) e in absurd (omega arith)

-- C's quantity is open no more, or stands open in the archive too
open_lost : open_of (book (a 1 2 ∷ []) (a_first 0 ∷ a_cancel 0 ∷ [])) 7 ≡ open_of was 7 → ⊥
unfolding leaves_qty leaves_of is_done if◌then◌otherwise◌
open_lost e = let z : ◌≡◌ {A = ℕ} 50000 100000 = e in absurd (omega arith)

open_twice : open_of (book (d ∷ b ∷ c 4 ∷ []) (d_first ∷ b_first ∷ b_replace ∷ c_first 2 ∷ [])) 7 ≡ open_of held 7 → ⊥
unfolding leaves_qty leaves_of is_done if◌then◌otherwise◌
open_twice e = let z : ◌≡◌ {A = ℕ} 50000 0 = e in absurd (omega arith)
