-- Each message of the machine is one that the writer writes and the reader reads back, if what it is made of is in range. Rests on Rows.
use Rattle.std.proofs.Common.{ℕ, ◌+◌, ◌-◌, ◌^◌, ◌≤◌, ◌<◌, arith, ◌≡◌, refl, Bool, true, false, not, ◌&&◌, ◌||◌, List, eqb, leb, ltb, length, get_or, replicate, eqb-true, leb-true, le-leb}
use Rattle.std.proofs.lemmas.Bool.{eqb-false, not-true, not-false, and_parts, and_from}
use Rattle.wide.specs.declared.Priced.{Priced}
use Rattle.prelude.specs.Below.{all_below}
use Rattle.prelude.specs.Laws.Below.{all_elim}
use Rattle.prelude.specs.Cases.{if◌then◌otherwise◌}
use Rattle.prelude.specs.Laws.Cases.{clash, split_if}
use Rattle.prelude.specs.Texts.{is_text}
use Rattle.prelude.specs.declared.Text.{Text}
use Rattle.prelude.specs.declared.Terms.{Terms}
use Rattle.format.specs.Codes.{sides, ordtypes, timesinforce, statuses, exectypes, is_side, is_ordtype, is_timeinforce, is_status, is_exectype, is_name, within, is_qty, is_price, limit}
use Rattle.format.specs.Format.{fields, size, range, in_range}
use Rattle.records.specs.Record.{is_message}
use Rattle.store.specs.declared.Names.{Names}
use Rattle.store.specs.declared.State.{State}
use Rattle.store.specs.declared.Order.{Order}
use Rattle.text.specs.Stored.{no_text}
use Rattle.machine.specs.Orders.{is_empty, leaves_of, leaves_qty, pending_terms}
use Rattle.machine.specs.Messages.{bit_if, no_long_text, terms_bits, note_bits, report, cancel_reject, to_venue, new_order, cancel_request, replace_request}
use Rattle.machine.specs.Ranges.{text_within, name_range}
use Rattle.machine.specs.Rules.{force_range, priced_range, terms_range}
use Rattle.machine.specs.declared.Note.{Note}
use Rattle.machine.proofs.Kept.Laws.{or_else, name_within}
use Rattle.machine.proofs.Kept.OrderSteps.{TermsKept, terms_kept}
use Rattle.machine.proofs.Said.Maps.{Mapped, report_bits, report_mapped, reject_bits, reject_mapped, venue_bits, new_mapped, cancel_mapped, replace_mapped}
use Rattle.machine.proofs.Said.Rows.{Has, gone, there, maybe_there, Fine, fine_text, text_there, text_if, ◌&◌, end, written_message}
use Rattle.format.specs.Laws.Codes.{listed_small}
use Rattle.records.specs.Laws.Right.{RightText, RightLong}

-- ---- what messages are made of

-- an order name
pub record Named (t : Text) : Type 0 where
  pub long : length t.bytes ≡ 32
  pub range : name_range t ≡ true

-- a fill price: two words
pub record Words (w : List ℕ) : Type 0 where
  pub two : length w ≡ 2
  pub low : get_or w 0 0 < 2 ^ 64
  pub high : get_or w 1 0 < 2 ^ 64

-- a note: one text at most, and a reason only with its origin
pub record Noted (n : Note) : Type 0 where
  pub text : RightLong n.text
  pub fixedtext : n.fixedtext ≤ 18
  pub reason : n.reason < 2 ^ 32
  pub origin : n.origin ≤ 2
  pub unsaid : n.origin ≡ 0 → n.reason ≡ 0
  pub one : not (eqb n.text.len 0) && not (eqb n.fixedtext 0) ≡ false

-- an order as messages tell it, and the terms of its pending replace
pub record NamesTellable (n : Names) : Type 0 where
  pub name : Named n.name
  pub clordid : Fine 1 32 n.clordid
  pub downstream : Fine 1 32 n.downstream
  pub symbol : Fine 1 16 n.symbol
  pub venueorderid : Fine 0 32 n.venueorderid

pub record StateTellable (s : State) : Type 0 where
  pub status : is_status s.status ≡ true
  pub cumqty : is_qty s.cumqty ≡ true
  pub avgpx : is_price s.avgpx ≡ true
  pub execseq : s.execseq < 2 ^ 64

pub record Tellable (o : Order) : Type 0 where
  pub client : o.client < 2 ^ 16
  pub venue : o.venue < 2 ^ 16
  pub names : NamesTellable o.names
  pub terms : terms_range o.terms ≡ true
  pub state : StateTellable o.state
  pub amendments : o.links.amendments ≤ 65535
  pub pending : eqb o.pending.request 0 ≡ false → terms_range (pending_terms o) ≡ true

-- ---- their rows

pub no_right_text : RightText no_text
unfolding is_text all_below
no_right_text = record { long = refl; short = omega arith; stored = refl }

pub no_fine : Fine 0 32 no_text
unfolding text_within is_text all_below
no_fine = record { long = refl; range = refl }

pub no_long_text_lem : RightLong no_long_text
unfolding all_below
no_long_text_lem = record { long = refl; short = omega arith; filled = all_elim (λ k. ltb k 0 || eqb (get_or (replicate 64 0) k 0) 0) 64 refl }

-- a code of a list is a byte
side_there : (c : ℕ) → is_side c ≡ true → Has true 7 c
unfolding range fields size in_range if◌then◌otherwise◌ is_side sides
side_there c e = there 7 c e (listed_small c sides refl e)

type_there : (c : ℕ) → is_ordtype c ≡ true → Has true 8 c
unfolding range fields size in_range if◌then◌otherwise◌ is_ordtype ordtypes
type_there c e = there 8 c e (listed_small c ordtypes refl e)

force_there : (c : ℕ) → is_timeinforce c ≡ true → Has true 11 c
unfolding range fields size in_range if◌then◌otherwise◌ is_timeinforce timesinforce
force_there c e = there 11 c e (listed_small c timesinforce refl e)

exec_there : (c : ℕ) → is_exectype c ≡ true → Has true 12 c
unfolding range fields size in_range if◌then◌otherwise◌ is_exectype exectypes
exec_there c e = there 12 c e (listed_small c exectypes refl e)

status_there : (c : ℕ) → is_status c ≡ true → Has true 13 c
unfolding range fields size in_range if◌then◌otherwise◌ is_status statuses
status_there c e = there 13 c e (listed_small c statuses refl e)

-- quantities and prices
qty_at : (b v : ℕ) → range b ≡ 1 → size b ≡ 8 → is_qty v ≡ true → Has true b v
unfolding in_range if◌then◌otherwise◌
qty_at b v r s e = there b v (rw r e) (rw s (let h : v ≤ 1000000000000 = leb-true v (10 ^ 12) e in omega arith))

price_at : (b v : ℕ) → range b ≡ 2 → size b ≡ 8 → is_price v ≡ true → Has true b v
unfolding in_range if◌then◌otherwise◌
price_at b v r s e = there b v (rw r e) (rw s (let h : v ≤ 100000000000000 = leb-true v (10 ^ 14) e in omega arith))

record TermsRows (t : Terms) : Type 0 where
  side : Has true 7 t.side
  ordtype : Has true 8 t.ordtype
  qty : Has true 9 t.qty
  price : Has (eqb t.ordtype limit) 10 t.price
  timeinforce : Has (not (eqb t.timeinforce 0)) 11 t.timeinforce

terms_rows : (t : Terms) → terms_range t ≡ true → TermsRows t
unfolding priced_range force_range range fields size
terms_rows t e =
    let k : TermsKept t = terms_kept t e in
    let (a, c) = and_parts (is_ordtype t.ordtype && is_price t.price) _ k.priced in
    let (p, q) = and_parts (is_ordtype t.ordtype) (is_price t.price) a in
    record {
      side = side_there t.side k.side;
      ordtype = type_there t.ordtype p;
      qty = qty_at 9 t.qty refl refl k.qty;
      price = maybe_there (eqb t.ordtype limit) 10 t.price (λ z. price_at 10 t.price refl refl q)
          (λ z. eqb-true t.price 0 (or_else (eqb t.ordtype limit) (eqb t.price 0) z c));
      timeinforce = maybe_there (not (eqb t.timeinforce 0)) 11 t.timeinforce
          (λ z. force_there t.timeinforce (or_else (eqb t.timeinforce 0) _ (not-true (eqb t.timeinforce 0) z) k.timeinforce))
          (λ z. eqb-true t.timeinforce 0 (not-false (eqb t.timeinforce 0) z));
    }

record NoteRows (n : Note) : Type 0 where
  reason : Has (not (eqb n.origin 0)) 19 n.reason
  text : Has (not (eqb n.text.len 0)) 20 n.text.len
  fixedtext : Has (not (eqb n.fixedtext 0)) 27 n.fixedtext
  origin : Has (not (eqb n.origin 0)) 28 n.origin

note_rows : (n : Note) → Noted n → NoteRows n
unfolding range fields size in_range if◌then◌otherwise◌
note_rows n k =
    let zero' : (v : ℕ) → not (eqb v 0) ≡ false → v ≡ 0 = λ v e. eqb-true v 0 (not-false (eqb v 0) e) in
    let some' : (v : ℕ) → not (eqb v 0) ≡ true → 1 ≤ v = λ v e. let z : (v ≡ 0 → ⊥) = eqb-false v 0 (not-true (eqb v 0) e) in omega arith in
    let upto : (v most : ℕ) → not (eqb v 0) ≡ true → v ≤ most → within 1 most v ≡ true = λ v most e h. and_from _ _ (le-leb 1 v (some' v e)) (le-leb v most h) in
    record {
      reason = maybe_there (not (eqb n.origin 0)) 19 n.reason (λ e. there 19 n.reason refl k.reason) (λ e. k.unsaid (zero' n.origin e));
      text = maybe_there (not (eqb n.text.len 0)) 20 n.text.len (λ e. there 20 n.text.len (upto n.text.len 64 e k.text.short) (omega (arith, k.text.short))) (zero' n.text.len);
      fixedtext = maybe_there (not (eqb n.fixedtext 0)) 27 n.fixedtext (λ e. there 27 n.fixedtext (upto n.fixedtext 18 e k.fixedtext) (omega (arith, k.fixedtext))) (zero' n.fixedtext);
      origin = maybe_there (not (eqb n.origin 0)) 28 n.origin (λ e. there 28 n.origin (upto n.origin 2 e k.origin) (omega (arith, k.origin))) (zero' n.origin);
    }

-- the parts of a name
pub named_text : (t : Text) → Named t → RightText t
named_text t n = fine_text 1 32 t (record { long = n.long; range = name_within t n.range })

pub named_is : (t : Text) → Named t → is_name t ≡ true
unfolding name_range
named_is t n = (and_parts (is_text t) (is_name t) n.range).1

name_there : (t : Text) → is_name t ≡ true → Has true 2 t.len
unfolding is_name range fields size in_range if◌then◌otherwise◌
name_there t e =
    let w : within 1 20 t.len ≡ true = (and_parts (within 1 20 t.len) _ e).0 in
    there 2 t.len w (let h : t.len ≤ 20 = leb-true t.len 20 (and_parts (leb 1 t.len) (leb t.len 20) w).1 in omega arith)

-- ---- the messages

leaves_range : (o : Order) → is_qty o.terms.qty ≡ true → is_qty (leaves_qty o) ≡ true
unfolding leaves_qty leaves_of
leaves_range o e =
    let h : o.terms.qty ≤ 1000000000000 = leb-true o.terms.qty (10 ^ 12) e in
    split_if (λ (n : ℕ). leb n (10 ^ 12) ≡ true) _ (λ d. refl) (λ d. le-leb (o.terms.qty - o.state.cumqty) (10 ^ 12) (omega arith))

pub report_right : (o : Order) (clordid origclordid : Text) (exectype lastqty : ℕ) (price : Priced) (n : Note)
    → Tellable o → Fine 1 32 clordid → Fine 0 32 origclordid → is_exectype exectype ≡ true → is_qty lastqty ≡ true → Words price.price → price.source ≤ 3 → Noted n
    → is_message (report o clordid origclordid exectype lastqty price n) ≡ true
unfolding report terms_bits note_bits range fields size in_range if◌then◌otherwise◌
report_right o clordid origclordid exectype lastqty price n k c d x q w s m =
    let t : TermsRows o.terms = terms_rows o.terms k.terms in
    let a : NoteRows n = note_rows n m in
    let l : List Bool = report_bits (not (is_empty origclordid)) (eqb o.terms.ordtype limit) (not (eqb o.terms.timeinforce 0))
    (not (eqb n.text.len 0)) (not (eqb n.fixedtext 0)) (not (eqb n.origin 0)) in
    written_message (report o clordid origclordid exectype lastqty price n) l (omega arith)
    (record {
      mapped = report_mapped (not (is_empty origclordid)) (eqb o.terms.ordtype limit) (not (eqb o.terms.timeinforce 0))
          (not (eqb n.text.len 0)) (not (eqb n.fixedtext 0)) (not (eqb n.origin 0)) m.one;
      rows =
          there 0 o.client refl k.client
          & gone
          & name_there o.names.name (named_is o.names.name k.names.name)
          & text_there 3 1 32 clordid refl (λ v e. e) c
          & text_if 4 origclordid refl (λ v e. e) d
          & gone
          & text_there 6 1 16 o.names.symbol refl (λ v e. e) k.names.symbol
          & t.side
          & t.ordtype
          & t.qty
          & t.price
          & t.timeinforce
          & exec_there exectype x
          & status_there o.state.status k.state.status
          & qty_at 14 lastqty refl refl q
          & gone
          & qty_at 16 o.state.cumqty refl refl k.state.cumqty
          & price_at 17 o.state.avgpx refl refl k.state.avgpx
          & gone
          & a.reason
          & a.text
          & gone & gone & gone
          & qty_at 24 (leaves_qty o) refl refl (leaves_range o (terms_kept o.terms k.terms).qty)
          & there 25 o.state.execseq refl k.state.execseq
          & there 26 (get_or price.price 0 0) refl w.low
          & a.fixedtext
          & a.origin
          & gone & gone
          & there 31 price.source (le-leb price.source 3 s) (omega arith)
          & end;
      named = λ e. named_is o.names.name k.names.name;
      name = named_text o.names.name k.names.name;
      clordid = fine_text 1 32 clordid c;
      origclordid = fine_text 0 32 origclordid d;
      downstream = no_right_text;
      symbol = fine_text 1 16 o.names.symbol k.names.symbol;
      venueorderid = no_right_text;
      origdownstream = no_right_text;
      text = m.text;
      two = w.two;
      high = λ e. w.high;
      nothigh = λ e. clash true refl e;
    })

-- if there is no order the name is empty
pub reject_right : (client : ℕ) (name : Text) (status : ℕ) (clordid origclordid : Text) (responseto : ℕ) (n : Note)
    → client < 2 ^ 16 → RightText name → (is_empty name ≡ false → is_name name ≡ true) → is_status status ≡ true → Fine 1 32 clordid → Fine 1 32 origclordid
    → within 1 2 responseto ≡ true → Noted n → not (eqb n.text.len 0) ≡ not (not (eqb n.fixedtext 0)) → not (eqb n.origin 0) ≡ true
    → is_message (cancel_reject client name status clordid origclordid responseto n) ≡ true
unfolding cancel_reject note_bits range fields size in_range if◌then◌otherwise◌
reject_right client name status clordid origclordid responseto n b t i s c d w m one reason =
    let a : NoteRows n = note_rows n m in
    let l : List Bool = reject_bits (not (is_empty name)) (not (eqb n.text.len 0)) (not (eqb n.fixedtext 0)) (not (eqb n.origin 0)) in
    written_message (cancel_reject client name status clordid origclordid responseto n) l (omega arith)
    (record {
      mapped = reject_mapped (not (is_empty name)) (not (eqb n.text.len 0)) (not (eqb n.fixedtext 0)) (not (eqb n.origin 0)) one reason;
      rows =
          there 0 client refl b
          & gone
          & maybe_there (not (is_empty name)) 2 name.len (λ e. name_there name (i (not-true (is_empty name) e))) (λ e. eqb-true name.len 0 (not-false (is_empty name) e))
          & text_there 3 1 32 clordid refl (λ v e. e) c
          & text_there 4 1 32 origclordid refl (λ v e. e) d
          & gone & gone & gone & gone & gone & gone & gone & gone
          & status_there status s
          & gone & gone & gone & gone & gone
          & a.reason
          & a.text
          & gone & gone & gone & gone & gone & gone
          & a.fixedtext
          & a.origin
          & there 29 responseto w (let h : responseto ≤ 2 = leb-true responseto 2 (and_parts (leb 1 responseto) (leb responseto 2) w).1 in omega arith)
          & gone & gone
          & end;
      named = λ e. i (not-true (is_empty name) e);
      name = t;
      clordid = fine_text 1 32 clordid c;
      origclordid = fine_text 1 32 origclordid d;
      downstream = no_right_text;
      symbol = no_right_text;
      venueorderid = no_right_text;
      origdownstream = no_right_text;
      text = m.text;
      two = refl;
      high = λ e. clash false e refl;
      nothigh = λ e. refl;
    })

module _ (o : Order) (k : Tellable o) (downstream : Text) (d : Fine 1 32 downstream) (terms : Terms) (t : terms_range terms ≡ true) where
  venue_right : (kind bits : ℕ) (venueorderid origdownstream : Text) (v g : Bool) → 16 ≤ kind
      → Mapped kind (to_venue kind bits o downstream venueorderid origdownstream terms).map (venue_bits v g (eqb terms.ordtype limit) (not (eqb terms.timeinforce 0)))
      → RightText venueorderid → RightText origdownstream → Has v 18 venueorderid.len → Has g 30 origdownstream.len
      → is_message (to_venue kind bits o downstream venueorderid origdownstream terms) ≡ true
  unfolding to_venue range fields size in_range if◌then◌otherwise◌
  venue_right kind bits venueorderid origdownstream v g high mapped vt gt vh gh =
      let r : TermsRows terms = terms_rows terms t in
      written_message (to_venue kind bits o downstream venueorderid origdownstream terms) (venue_bits v g (eqb terms.ordtype limit) (not (eqb terms.timeinforce 0))) high
      (record {
        mapped = mapped;
        rows =
            gone
            & there 1 o.venue refl k.venue
            & gone & gone & gone
            & text_there 5 1 32 downstream refl (λ v e. e) d
            & text_there 6 1 16 o.names.symbol refl (λ v e. e) k.names.symbol
            & r.side
            & r.ordtype
            & r.qty
            & r.price
            & r.timeinforce
            & gone & gone & gone & gone & gone & gone
            & vh
            & gone & gone & gone & gone & gone & gone & gone & gone & gone & gone & gone
            & gh
            & gone
            & end;
        named = λ e. clash false e refl;
        name = no_right_text;
        clordid = no_right_text;
        origclordid = no_right_text;
        downstream = fine_text 1 32 downstream d;
        symbol = fine_text 1 16 o.names.symbol k.names.symbol;
        venueorderid = vt;
        origdownstream = gt;
        text = no_long_text_lem;
        two = refl;
        high = λ e. clash false e refl;
        nothigh = λ e. refl;
      })

  -- a cancel or replace names the request that the venue knows the order by, and the venue's OrderID if there is one
  amend_right : (kind : ℕ) → 16 ≤ kind
      → Mapped kind (to_venue kind (2 ^ 30 + bit_if (not (is_empty o.names.venueorderid)) 18) o downstream o.names.venueorderid o.names.downstream terms).map
      (venue_bits (not (is_empty o.names.venueorderid)) true (eqb terms.ordtype limit) (not (eqb terms.timeinforce 0)))
      → is_message (to_venue kind (2 ^ 30 + bit_if (not (is_empty o.names.venueorderid)) 18) o downstream o.names.venueorderid o.names.downstream terms) ≡ true
  unfolding range fields size in_range if◌then◌otherwise◌
  amend_right kind high mapped =
      venue_right kind (2 ^ 30 + bit_if (not (is_empty o.names.venueorderid)) 18) o.names.venueorderid o.names.downstream (not (is_empty o.names.venueorderid)) true high mapped
      (fine_text 0 32 o.names.venueorderid k.names.venueorderid) (fine_text 1 32 o.names.downstream k.names.downstream)
      (text_if 18 o.names.venueorderid refl (λ v e. (and_parts (leb 1 v) (leb v 32) e).1) k.names.venueorderid)
      (text_there 30 1 32 o.names.downstream refl (λ v e. e) k.names.downstream)

  pub replace_right : is_message (replace_request o downstream terms) ≡ true
  unfolding replace_request
  replace_right = amend_right 20 (omega arith) (unfold to_venue terms_bits in replace_mapped (not (is_empty o.names.venueorderid)) (eqb terms.ordtype limit) (not (eqb terms.timeinforce 0)))

module _ (o : Order) (k : Tellable o) (downstream : Text) (d : Fine 1 32 downstream) where
  pub new_right : is_message (new_order o downstream) ≡ true
  unfolding new_order
  new_right =
      venue_right o k downstream d o.terms k.terms 18 0 no_text no_text false false (omega arith)
      (unfold to_venue terms_bits in new_mapped (eqb o.terms.ordtype limit) (not (eqb o.terms.timeinforce 0))) no_right_text no_right_text gone gone

  pub cancel_right : is_message (cancel_request o downstream) ≡ true
  unfolding cancel_request
  cancel_right =
      amend_right o k downstream d o.terms k.terms 19 (omega arith)
      (unfold to_venue terms_bits in cancel_mapped (not (is_empty o.names.venueorderid)) (eqb o.terms.ordtype limit) (not (eqb o.terms.timeinforce 0)))
