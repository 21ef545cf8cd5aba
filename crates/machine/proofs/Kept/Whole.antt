-- The book that an event leaves can be written to bytes if the book that it found could. Rests on Fits and Steps.
use Rattle.std.proofs.Common.{ℕ, ◌^◌, ◌≤◌, ◌<◌, not-suc-le-zero, arith, ◌≡◌, refl, sym, subst, ⊎_elim, Bool, true, false, not, ◌&&◌, ◌||◌, List, eqb, leb, length, eqb-true, leb-true}
use Rattle.std.proofs.lemmas.Bool.{not-true, and_parts, or_cases}
use Rattle.std.proofs.lemmas.Bool.Decides.{nat_tests}
use Rattle.prelude.specs.Laws.Cases.{split_if}
use Rattle.store.specs.declared.Pending.{Pending}
use Rattle.store.specs.declared.GatewayCancel.{GatewayCancel}
use Rattle.store.specs.declared.Order.{Order}
use Rattle.store.specs.declared.Request.{Request}
use Rattle.store.specs.Book.{Book, order_in, request_in}
use Rattle.store.specs.Orders.{WholeOrder}
use Rattle.store.specs.Requests.{WholeRequest}
use Rattle.machine.specs.Changes.{Event, is_cancel}
use Rattle.machine.specs.Machine.{after, book_after}
use Rattle.format.specs.Codes.{sides, ordtypes, timesinforce, statuses, is_side, is_ordtype, is_timeinforce, is_status, is_qty, is_price}
use Rattle.machine.specs.Rules.{force_range, priced_range, pending_range, gateway_range, pending_test, cancel_rule, pending_rule, filled_rule, rules}
use Rattle.machine.specs.Whole.{WholeBook, WholeStart, WholeKept}
use Rattle.machine.proofs.Kept.Laws.{name_short}
use Rattle.machine.proofs.Kept.Tables.{linked_at}
use Rattle.machine.proofs.Kept.Local.{OrderKept}
use Rattle.machine.proofs.Kept.OrderSteps.{names_kept, TermsKept, terms_kept}
use Rattle.machine.proofs.Kept.Keep.{current_link, tries_at}
use Rattle.machine.proofs.Kept.Indexed.{RangeKept, range_kept, RequestKept, BookKept, book_kept, outcome_kept}
use Rattle.machine.proofs.Kept.Steps.{step_keeps}
use Rattle.machine.proofs.Kept.Fits.{NamesFit, OrderFits, RequestFits, BookFits, orders_past, requests_past, fits_kept}
use Rattle.machine.proofs.Numbered.{numbered_laws}
use Rattle.format.specs.Laws.Codes.{listed_small}

-- ---- a code of a list is a byte

side_byte : (c : ℕ) → is_side c ≡ true → c < 2 ^ 8
unfolding is_side sides
side_byte c = listed_small c sides refl

ordtype_byte : (c : ℕ) → is_ordtype c ≡ true → c < 2 ^ 8
unfolding is_ordtype ordtypes
ordtype_byte c = listed_small c ordtypes refl

force_byte : (c : ℕ) → force_range c ≡ true → c < 2 ^ 8
unfolding force_range is_timeinforce timesinforce
force_byte c e =
    ⊎_elim (λ z. let y : c ≡ 0 = eqb-true c 0 z in omega arith) (listed_small c timesinforce refl) (or_cases (eqb c 0) (is_timeinforce c) e)

status_byte : (c : ℕ) → is_status c ≡ true → c < 2 ^ 8
unfolding is_status statuses
status_byte c = listed_small c statuses refl

qty_word : (n : ℕ) → is_qty n ≡ true → n < 2 ^ 64
qty_word n e = let h : n ≤ 1000000000000 = leb-true n (10 ^ 12) e in omega arith

price_word : (n : ℕ) → is_price n ≡ true → n < 2 ^ 64
price_word n e = let h : n ≤ 100000000000000 = leb-true n (10 ^ 14) e in omega arith

record Priced (ordtype price : ℕ) : Type 0 where
  ordtype' : ordtype < 2 ^ 8
  price' : price < 2 ^ 64

priced_fits : (ordtype price : ℕ) → priced_range ordtype price ≡ true → Priced ordtype price
unfolding priced_range
priced_fits ordtype price e =
    let (a, c) = and_parts (is_ordtype ordtype) (is_price price) (and_parts (is_ordtype ordtype && is_price price) _ e).0 in
    record { ordtype' = ordtype_byte ordtype a; price' = price_word price c }

record PendingFits (p : Pending) : Type 0 where
  qty : p.qty < 2 ^ 64
  priced : Priced p.ordtype p.price
  timeinforce : p.timeinforce < 2 ^ 8

pending_fits : (p : Pending) → pending_range p ≡ true → PendingFits p
unfolding pending_range
pending_fits p =
    split_if (λ (x : Bool). x ≡ true → PendingFits p) (eqb p.request 0)
    (λ t e.
    let (e, force) = and_parts (eqb p.qty 0 && eqb p.price 0 && eqb p.ordtype 0) (eqb p.timeinforce 0) e in
    let (e, ordtype) = and_parts (eqb p.qty 0 && eqb p.price 0) (eqb p.ordtype 0) e in
    let (qty, price) = and_parts (eqb p.qty 0) (eqb p.price 0) e in
    record {
      qty = omega (arith, eqb-true p.qty 0 qty);
      priced = record { ordtype' = omega (arith, eqb-true p.ordtype 0 ordtype); price' = omega (arith, eqb-true p.price 0 price) };
      timeinforce = omega (arith, eqb-true p.timeinforce 0 force);
    })
    (λ t e.
    let (e, qty) = and_parts (priced_range p.ordtype p.price && force_range p.timeinforce) (is_qty p.qty) e in
    let (priced, force) = and_parts (priced_range p.ordtype p.price) (force_range p.timeinforce) e in
    record { qty = qty_word p.qty qty; priced = priced_fits p.ordtype p.price priced; timeinforce = force_byte p.timeinforce force })

record GatewayFits (n : ℕ) (g : GatewayCancel) : Type 0 where
  stage : g.unsent && g.stuck ≡ false
  within : g.origdownstream ≤ n
  no_stage : g.origdownstream ≡ 0 → (g.unsent ≡ false) × (g.stuck ≡ false)

gateway_fits : (n : ℕ) (g : GatewayCancel) → gateway_range n g ≡ true → GatewayFits n g
unfolding gateway_range
gateway_fits n g e =
    let (e, none) = and_parts (not (g.unsent && g.stuck) && leb g.origdownstream n) _ e in
    let (s, w) = and_parts (not (g.unsent && g.stuck)) (leb g.origdownstream n) e in
    record { stage = not-true (g.unsent && g.stuck) s; within = leb-true g.origdownstream n w; no_stage = λ z. blank z none }
  where
    blank : g.origdownstream ≡ 0 → not (eqb g.origdownstream 0) || (not g.unsent && not g.stuck && eqb g.tries 0 && eqb g.refusedsends 0) ≡ true
        → (g.unsent ≡ false) × (g.stuck ≡ false)
    blank z e = grind (arith, nat_tests)

-- ---- from the rules and what they leave open

cancel_within : (i c : ℕ) (qs : List Request) → cancel_rule i c qs ≡ true → c ≤ length qs
unfolding cancel_rule
cancel_within i c qs e = ⊎_elim (λ z. omega (arith, eqb-true c 0 z)) (λ z. (linked_at is_cancel i c qs z).within) (or_cases (eqb c 0) _ e)

pending_within : (i p : ℕ) (qs : List Request) → pending_rule i p qs ≡ true → p ≤ length qs
unfolding pending_rule
pending_within i p qs e = ⊎_elim (λ z. omega (arith, eqb-true p 0 z)) (λ z. (linked_at pending_test i p qs z).within) (or_cases (eqb p 0) _ e)

pub whole_order : (i : ℕ) (o : Order) (qs : List Request) → length qs ≤ 256 → OrderKept i o qs → OrderFits o → WholeOrder o
unfolding filled_rule
whole_order i o qs few l f =
    let t : TermsKept o.terms = terms_kept o.terms l.terms in
    let p : PendingFits o.pending = pending_fits o.pending l.waiting in
    let g : GatewayFits (length qs) o.gateway = gateway_fits (length qs) o.gateway l.gateway in
    let c : Priced o.terms.ordtype o.terms.price = priced_fits o.terms.ordtype o.terms.price t.priced in
    let qty : o.terms.qty < 2 ^ 64 = qty_word o.terms.qty t.qty in
    let cum : o.state.cumqty ≤ o.terms.qty = leb-true o.state.cumqty o.terms.qty l.filled in
    let n : NamesFit o.names = f.names in
    let current : o.links.current ≤ length qs = (current_link i o qs l.current).within in
    let cancel : o.links.cancel ≤ length qs = cancel_within i o.links.cancel qs l.cancel in
    let pending : o.pending.request ≤ length qs = pending_within i o.pending.request qs l.pending in
    let tries : o.gateway.tries ≤ 3 = tries_at o.gateway l.tries in
    let link : o.gateway.origdownstream ≤ length qs = g.within in
    let amendments : o.links.amendments ≤ 65535 = f.amendments in
    let sends : o.gateway.refusedsends ≤ 4294967295 = f.refusedsends in
    record {
      fits = record {
        client = f.client;
        venue = f.venue;
        names = record { name = n.name; clordid = n.clordid; downstream = n.downstream; symbol = n.symbol; venueorderid = n.venueorderid };
        terms = record {
          side = side_byte o.terms.side t.side;
          ordtype = c.ordtype';
          timeinforce = force_byte o.terms.timeinforce t.timeinforce;
          qty = qty;
          price = c.price';
        };
        state = record { status = status_byte o.state.status l.coded; cumqty = omega arith; avgpx = price_word o.state.avgpx l.average; execseq = f.execseq };
        links = record { amendments = omega arith; current = omega arith; cancel = omega arith };
        pending = record { request = omega arith; qty = p.qty; price = p.priced.price'; ordtype = p.priced.ordtype'; timeinforce = p.timeinforce };
        gateway = record { tries = omega arith; origdownstream = omega arith; refusedsends = omega arith };
      };
      stage = record { one = g.stage; none = g.no_stage };
    }

pub whole_book : (b : Book) → b.setting < 2 ^ 32 → rules b ≡ true → BookFits b → WholeBook b
whole_book b s k f =
    let good : BookKept b = book_kept b k in
    record {
      setting = s;
      order = λ i h. whole_order i (order_in b i) b.requests good.requests (good.order i h) (f.order i);
      request = λ j h.
          let r : RequestKept b j = good.request j h in
          let q : RequestFits (request_in b j) = f.request j in
          let c : RangeKept (request_in b j) = range_kept (request_in b j) r.range in
          record {
            order = omega (arith, r.order, good.orders);
            kind = omega (arith, c.kind);
            answered = omega (arith, c.answered);
            clordid = q.clordid;
            origclordid = q.origclordid;
            downstream = q.downstream;
            outcome = omega (arith, (outcome_kept (request_in b j) r.outcome).most);
          };
    }

book_fits : (b : Book) → rules b ≡ true → WholeBook b → BookFits b
book_fits b k w =
    let good : BookKept b = book_kept b k in
    record {
      order = orders_past b.orders (λ i h.
          let o : WholeOrder (order_in b i) = w.order i h in
          record {
            client = o.fits.client;
            venue = o.fits.venue;
            names = record {
              name = o.fits.names.name;
              short = name_short (order_in b i).names.name (names_kept (order_in b i).names (good.order i h).names).name;
              clordid = o.fits.names.clordid;
              downstream = o.fits.names.downstream;
              symbol = o.fits.names.symbol;
              venueorderid = o.fits.names.venueorderid;
            };
            execseq = o.fits.state.execseq;
            amendments = omega (arith, o.fits.links.amendments);
            refusedsends = omega (arith, o.fits.gateway.refusedsends);
          });
      request = requests_past b.requests (λ j h.
          let q : WholeRequest (request_in b j) = w.request j h in
          record { clordid = q.clordid; origclordid = q.origclordid; downstream = q.downstream });
    }

setting_kept : (b : Book) (e : Event) → (book_after b e).setting ≡ b.setting
unfolding book_after after
setting_kept b e = split_if (λ (x : Book). x.setting ≡ b.setting) _ (λ t. refl) (λ t. refl)

pub start_whole : WholeStart
start_whole setting h = record { setting = h; order = λ i z. absurd (not-suc-le-zero z); request = λ j z. absurd (not-suc-le-zero z) }

pub whole_kept : WholeKept
whole_kept b e ranged w k h =
    whole_book (book_after b e) (subst (λ (n : ℕ). n < 2 ^ 32) (sym (setting_kept b e)) h.setting) (step_keeps b e ranged k)
    (fits_kept numbered_laws b e (book_fits b k h) w (λ one. name_short e.ids.name (ranged.booking one).name))
