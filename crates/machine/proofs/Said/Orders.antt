-- The orders and requests that messages tell of: those of a book that keeps its rules and is whole are in range, and each step of an order keeps that. Rests on Messages.
use Rattle.std.proofs.Common.{ℕ, ◌+◌, ◌-◌, ◌^◌, ◌≤◌, ◌<◌, arith, ◌≡◌, refl, sym, ◌∙◌, Bool, true, false, ◌||◌, List, eqb, leb, length, leb-true, le-leb, ltb-true}
use Rattle.std.proofs.lemmas.Bool.{eqb-false, and_parts}
use Rattle.prelude.specs.Laws.Cases.{if_false, split_if, clash}
use Rattle.prelude.specs.Texts.{is_text, contents}
use Rattle.prelude.specs.declared.Text.{Text}
use Rattle.format.specs.Codes.{is_status, is_qty, is_price}
use Rattle.store.specs.declared.Pending.{Pending}
use Rattle.store.specs.declared.GatewayCancel.{GatewayCancel}
use Rattle.store.specs.declared.Order.{Order}
use Rattle.store.specs.declared.Request.{Request}
use Rattle.store.specs.Book.{Book, request_in}
use Rattle.store.specs.Orders.{WholeOrder}
use Rattle.store.specs.Requests.{WholeRequest}
use Rattle.text.specs.Numbered.{numbered_text, decimal}
use Rattle.machine.specs.Orders.{one_more, unless_short, set_status, kept_order_id, record_venue_order_id, pending_terms, apply_replace, next_sequence, next_exec, with_state, with_pending, with_gateway}
use Rattle.machine.specs.Changes.{is_first, is_gateway, next_number, next_downstream, numbered_order}
use Rattle.machine.specs.Ranges.{text_within}
use Rattle.machine.specs.Rules.{terms_range, filled_rule}
use Rattle.machine.specs.Whole.{WholeBook}
use Rattle.machine.specs.declared.Findings.{Findings}
use Rattle.machine.proofs.Numbered.{numbered_laws}
use Rattle.machine.proofs.Kept.Laws.{kept_text, name_short}
use Rattle.machine.proofs.Kept.Local.{OrderKept}
use Rattle.machine.proofs.Kept.OrderSteps.{NamesKept, names_kept, TermsKept, terms_kept, pending_parts, status_coded, short_coded}
use Rattle.machine.proofs.Kept.Indexed.{RangeKept, range_kept, BookKept}
use Rattle.machine.proofs.Kept.Steps.{downstream_within}
use Rattle.machine.proofs.Said.Rows.{Fine}
use Rattle.machine.proofs.Said.Messages.{Tellable}
use Rattle.text.specs.Laws.Names.{numbered_fits, numbered_is_text, numbered_long, numbered_len}

-- ---- of a book

pub order_tellable : (i : ℕ) (o : Order) (qs : List Request) → OrderKept i o qs → WholeOrder o → Tellable o
unfolding filled_rule
order_tellable i o qs l w =
    let n : NamesKept o.names = names_kept o.names l.names in
    let t : TermsKept o.terms = terms_kept o.terms l.terms in
    let cum : o.state.cumqty ≤ o.terms.qty = leb-true o.state.cumqty o.terms.qty l.filled in
    let most : o.terms.qty ≤ 1000000000000 = leb-true o.terms.qty (10 ^ 12) t.qty in
    record {
      client = w.fits.client;
      venue = w.fits.venue;
      names = record {
        name = record { long = w.fits.names.name.long; range = n.name };
        clordid = record { long = w.fits.names.clordid.long; range = n.clordid };
        downstream = record { long = w.fits.names.downstream.long; range = n.downstream };
        symbol = record { long = w.fits.names.symbol.long; range = n.symbol };
        venueorderid = record { long = w.fits.names.venueorderid.long; range = n.venueorderid };
      };
      terms = l.terms;
      state = record { status = l.coded; cumqty = le-leb o.state.cumqty (10 ^ 12) (omega arith); avgpx = l.average; execseq = w.fits.state.execseq };
      amendments = omega (arith, w.fits.links.amendments);
      pending = λ some. (pending_parts i o qs some l).terms;
    }

-- what messages take of a request
pub record Asks (q : Request) : Type 0 where
  pub kind : q.kind ≤ 3
  pub clordid : is_gateway q ≡ false → Fine 1 32 q.clordid
  pub origclordid : is_first q ≡ false → is_gateway q ≡ false → Fine 1 32 q.origclordid
  pub downstream : Fine 1 32 q.downstream

pub request_asks : (b : Book) (j : ℕ) → BookKept b → WholeBook b → j < length b.requests → Asks (request_in b j)
request_asks b j good whole h =
    let q : Request = request_in b j in
    let r : RangeKept q = range_kept q (good.request j h).range in
    let w : WholeRequest q = whole.request j h in
    record {
      kind = r.kind;
      clordid = λ g. record { long = w.clordid.long; range = sym (if_false (is_gateway q) (text_within 0 0 q.clordid) (text_within 1 32 q.clordid) g) ∙ r.clordid };
      origclordid = λ f g. record {
        long = w.origclordid.long;
        range = sym (if_false (is_first q || is_gateway q) (text_within 0 0 q.origclordid) (text_within 1 32 q.origclordid) (rw (f, g) refl)) ∙ r.origclordid;
      };
      downstream = record { long = w.downstream.long; range = downstream_within numbered_laws b good j h };
    }

-- ---- the order's steps

pub sequence_tellable : (o : Order) → Tellable o → Tellable (next_exec o)
unfolding next_exec next_sequence pending_terms
sequence_tellable o k = record {
  client = k.client;
  venue = k.venue;
  names = k.names;
  terms = k.terms;
  state = record {
    status = k.state.status;
    cumqty = k.state.cumqty;
    avgpx = k.state.avgpx;
    execseq = split_if (λ (n : ℕ). n < 2 ^ 64) _ (λ t. omega arith) (λ t. omega (arith, eqb-false o.state.execseq (2 ^ 64 - 1) t, k.state.execseq));
  };
  amendments = k.amendments;
  pending = k.pending;
}

-- quantities and a status; with its own quantities this is `set_status` alone
pub state_tellable : (s status cumqty avgpx execseq : ℕ) (o : Order) → is_status s ≡ true → is_qty cumqty ≡ true → is_price avgpx ≡ true → execseq < 2 ^ 64 → Tellable o
    → Tellable (set_status s (with_state (record { status = status; cumqty = cumqty; avgpx = avgpx; execseq = execseq }) o))
unfolding set_status pending_terms
state_tellable s status cumqty avgpx execseq o e q p x k = record {
  client = k.client;
  venue = k.venue;
  names = k.names;
  terms = k.terms;
  state = record { status = status_coded cumqty (unless_short o.terms.qty cumqty s) (short_coded o.terms.qty cumqty s e); cumqty = q; avgpx = p; execseq = x };
  amendments = k.amendments;
  pending = split_if (λ (x : Pending). eqb x.request 0 ≡ false → terms_range (record { side = o.terms.side; ordtype = x.ordtype; timeinforce = x.timeinforce; qty = x.qty; price = x.price }) ≡ true) _
      (λ d z. clash true refl z) (λ d. k.pending);
}

pub status_tellable : (s : ℕ) (o : Order) → is_status s ≡ true → Tellable o → Tellable (set_status s o)
status_tellable s o e k = state_tellable s o.state.status o.state.cumqty o.state.avgpx o.state.execseq o e k.state.cumqty k.state.avgpx k.state.execseq k

pub named_tellable : (given : Text) (r : Bool) (o : Order) → Fine 0 32 given → Tellable o → Tellable (record_venue_order_id given r o)
unfolding record_venue_order_id kept_order_id pending_terms
named_tellable given r o g k = record {
  client = k.client;
  venue = k.venue;
  names = record {
    name = k.names.name;
    clordid = k.names.clordid;
    downstream = k.names.downstream;
    symbol = k.names.symbol;
    venueorderid = split_if (Fine 0 32) _ (λ t. k.names.venueorderid) (λ t. split_if (Fine 0 32) _ (λ t. g) (λ t. k.names.venueorderid));
  };
  terms = k.terms;
  state = k.state;
  amendments = k.amendments;
  pending = k.pending;
}

pub pending_tellable : (p : Pending) (o : Order) → (eqb p.request 0 ≡ false → terms_range (pending_terms (with_pending p o)) ≡ true) → Tellable o → Tellable (with_pending p o)
pending_tellable p o t k = record {
  client = k.client;
  venue = k.venue;
  names = k.names;
  terms = k.terms;
  state = k.state;
  amendments = k.amendments;
  pending = t;
}

pub gateway_tellable : (g : GatewayCancel) (o : Order) → Tellable o → Tellable (with_gateway g o)
unfolding pending_terms
gateway_tellable g o k = record {
  client = k.client;
  venue = k.venue;
  names = k.names;
  terms = k.terms;
  state = k.state;
  amendments = k.amendments;
  pending = k.pending;
}

one_more_lem : (n : ℕ) → n ≤ 65535 → one_more 65535 n ≤ 65535
unfolding one_more
one_more_lem n h = split_if (λ (k : ℕ). k ≤ 65535) _ (λ t. omega (arith, ltb-true n 65535 t)) (λ t. h)

pub numbered_tellable : (f : Findings) (cancels : Bool) (o : Order) → Tellable o → Tellable (numbered_order f cancels o)
unfolding numbered_order next_number pending_terms
numbered_tellable f cancels o k = record {
  client = k.client;
  venue = k.venue;
  names = k.names;
  terms = k.terms;
  state = k.state;
  amendments = one_more_lem o.links.amendments k.amendments;
  pending = k.pending;
}

pub replaced_tellable : (q : Request) (o : Order) → Fine 1 32 q.clordid → Fine 1 32 q.downstream → eqb o.pending.request 0 ≡ false → Tellable o → Tellable (apply_replace q o)
unfolding apply_replace
replaced_tellable q o c d some k = record {
  client = k.client;
  venue = k.venue;
  names = record { name = k.names.name; clordid = c; downstream = d; symbol = k.names.symbol; venueorderid = k.names.venueorderid };
  terms = k.pending some;
  state = k.state;
  amendments = k.amendments;
  pending = λ z. clash true refl z;
}

-- the next numbered downstream ClOrdID fits, whatever the counter says
pub next_fine : (o : Order) → Tellable o → Fine 1 32 (next_downstream o)
unfolding next_downstream next_number is_text
next_fine o k =
    let name : Text = o.names.name in
    let n : ℕ = one_more 65535 o.links.amendments in
    let most : n ≤ 65535 = one_more_lem o.links.amendments k.amendments in
    let short : name.len ≤ 20 = name_short name k.names.name.range in
    let long : (numbered_text name n).len ≡ length (contents name) + (length (decimal n) + 1) = numbered_len name n (numbered_fits name n (omega arith) (omega arith)) in
    record {
      long = numbered_long name n;
      range = kept_text 1 32 (numbered_text name n)
          (record { stored = numbered_is_text name n; above = omega arith; below = leb-true (numbered_text name n).len 32 (and_parts (leb (numbered_text name n).len 32) _ (numbered_is_text name n)).0 });
    }
