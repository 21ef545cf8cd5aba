-- The messages that the book puts out: `ClientReport`, `Output` and `Amend::refuse`, as records. Rests on Orders and records.
use Rattle.std.specs.Prelude.{ℕ, ◌+◌, ◌^◌, Bool, not, [], ◌∷◌, eqb, replicate}
use Rattle.wide.specs.declared.Priced.{Priced}
use Rattle.format.specs.Format.{required}
use Rattle.prelude.specs.Cases.{if◌then◌otherwise◌}
use Rattle.prelude.specs.declared.Text.{Text}
use Rattle.prelude.specs.declared.Terms.{Terms}
use Rattle.bits.specs.Map.{map_of}
use Rattle.records.specs.declared.LongText.{LongText}
use Rattle.records.specs.declared.Ids.{Ids}
use Rattle.records.specs.declared.Exec.{Exec}
use Rattle.records.specs.declared.Told.{Told}
use Rattle.records.specs.declared.Record.{Record}
use Rattle.store.specs.declared.Order.{Order}
use Rattle.text.specs.Stored.{no_text}
use Rattle.machine.specs.Orders.{no_terms, is_empty, leaves_qty}
use Rattle.machine.specs.Constants.{report_kind, cancel_reject_kind, new_order_kind, cancel_request_kind, replace_request_kind}
use Rattle.format.specs.Codes.{limit}
use Rattle.machine.specs.declared.Note.{Note}

-- bit k if the test holds, else nothing
unfoldable pub bit_if : Bool → ℕ → ℕ
bit_if t k = if t then 2 ^ k otherwise 0

abbrev pub no_long_text : LongText
no_long_text = record { bytes = replicate 64 0; len = 0 }

abbrev pub no_ids : Ids
no_ids = record { name = no_text; clordid = no_text; origclordid = no_text; downstream = no_text; symbol = no_text; venueorderid = no_text; origdownstream = no_text }

abbrev pub no_exec : Exec
no_exec = record { exectype = 0; status = 0; lastqty = 0; lastpx = 0; cumqty = 0; avgpx = 0 }

abbrev pub no_told : Told
no_told = record { leavesqty = 0; execseq = 0; fillprice = 0 ∷ (0 ∷ []); fixedtext = 0; origin = 0; responseto = 0; source = 0 }

abbrev pub no_message : Record
no_message = record {
  kind = 0;
  map = 0;
  client = 0;
  venue = 0;
  reason = 0;
  verdict = 0;
  ids = no_ids;
  terms = no_terms;
  exec = no_exec;
  told = no_told;
  text = no_long_text;
}

-- no price, and no rule that set one
abbrev pub no_price : Priced
no_price = record { price = 0 ∷ (0 ∷ []); source = 0 }

abbrev pub no_note : Note
no_note = record { text = no_long_text; fixedtext = 0; reason = 0; origin = 0 }

-- price and time in force are there if the terms have them
unfoldable pub terms_bits : Terms → ℕ
terms_bits t = bit_if (eqb t.ordtype limit) 10 + bit_if (not (eqb t.timeinforce 0)) 11

unfoldable pub note_bits : Note → ℕ
note_bits n =
    bit_if (not (eqb n.text.len 0)) 20 + bit_if (not (eqb n.fixedtext 0)) 27
    + (bit_if (not (eqb n.origin 0)) 19 + bit_if (not (eqb n.origin 0)) 28)

-- `Order::report` and what `client_report` and its like set: where the order stands, under a ClOrdID and perhaps an OrigClOrdID
unfoldable pub report : Order → (clordid origclordid : Text) → (exectype lastqty : ℕ) → Priced → Note → Record
report o clordid origclordid exectype lastqty price n = record {
  kind = report_kind;
  map = required report_kind + (bit_if (not (is_empty origclordid)) 4 + (terms_bits o.terms + note_bits n));
  client = o.client;
  venue = 0;
  reason = n.reason;
  verdict = 0;
  ids = record { name = o.names.name; clordid = clordid; origclordid = origclordid; downstream = no_text; symbol = o.names.symbol; venueorderid = no_text; origdownstream = no_text };
  terms = o.terms;
  exec = record { exectype = exectype; status = o.state.status; lastqty = lastqty; lastpx = 0; cumqty = o.state.cumqty; avgpx = o.state.avgpx };
  told = record { leavesqty = leaves_qty o; execseq = o.state.execseq; fillprice = price.price; fixedtext = n.fixedtext; origin = n.origin; responseto = 0; source = price.source };
  text = n.text;
}

-- `Amend::refuse`: an OrderCancelReject under the ClOrdIDs of the request. If there is no order the name is empty and the status is Rejected.
unfoldable pub cancel_reject : (client : ℕ) (name : Text) (status : ℕ) (clordid origclordid : Text) (responseto : ℕ) → Note → Record
cancel_reject client name status clordid origclordid responseto n = record {
  kind = cancel_reject_kind;
  map = map_of (0 ∷ (3 ∷ (4 ∷ (13 ∷ (29 ∷ []))))) + (bit_if (not (is_empty name)) 2 + note_bits n);
  client = client;
  venue = 0;
  reason = n.reason;
  verdict = 0;
  ids = record { name = name; clordid = clordid; origclordid = origclordid; downstream = no_text; symbol = no_text; venueorderid = no_text; origdownstream = no_text };
  terms = no_terms;
  exec = record { exectype = 0; status = status; lastqty = 0; lastpx = 0; cumqty = 0; avgpx = 0 };
  told = record { leavesqty = 0; execseq = 0; fillprice = 0 ∷ (0 ∷ []); fixedtext = n.fixedtext; origin = n.origin; responseto = responseto; source = 0 };
  text = n.text;
}

-- what goes to the venue: a new order, or a cancel or replace of the request that the venue knows the order by
unfoldable pub to_venue : (kind bits : ℕ) → Order → (downstream venueorderid origdownstream : Text) → Terms → Record
to_venue kind bits o downstream venueorderid origdownstream terms = record {
  kind = kind;
  map = map_of (1 ∷ (5 ∷ (6 ∷ (7 ∷ (8 ∷ (9 ∷ [])))))) + (bits + terms_bits terms);
  client = 0;
  venue = o.venue;
  reason = 0;
  verdict = 0;
  ids = record { name = no_text; clordid = no_text; origclordid = no_text; downstream = downstream; symbol = o.names.symbol; venueorderid = venueorderid; origdownstream = origdownstream };
  terms = terms;
  exec = no_exec;
  told = no_told;
  text = no_long_text;
}

unfoldable pub new_order : Order → (downstream : Text) → Record
new_order o downstream = to_venue new_order_kind 0 o downstream no_text no_text o.terms

unfoldable pub cancel_request : Order → (downstream : Text) → Record
cancel_request o downstream =
    to_venue cancel_request_kind (2 ^ 30 + bit_if (not (is_empty o.names.venueorderid)) 18) o downstream o.names.venueorderid o.names.downstream o.terms

-- `replace_request`
unfoldable pub replace_request : Order → (downstream : Text) → Terms → Record
replace_request o downstream terms =
    to_venue replace_request_kind (2 ^ 30 + bit_if (not (is_empty o.names.venueorderid)) 18) o downstream o.names.venueorderid o.names.downstream terms
