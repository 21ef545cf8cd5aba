-- The words in which small days are played: an event as the bytes of its record, a call on a book, and the book and the messages as they should be.
-- Everything here is spelled out in the numbers of docs/SCOPE.md, none by a name of Constants or Codes. Rests on History and records.
-- Order X of client 7 at venue 3, a limit to buy 100 of W at 10; the client's ClOrdIDs are C, then D, E and F.
use Rattle.std.specs.Prelude.{ℕ, zero, suc, ◌+◌, ◌*◌, ◌^◌, Bool, false, List, [], ◌∷◌, ◌++◌, eqb, length}
use Rattle.prelude.specs.Below.{all_below, first_below, count_below}
use Rattle.prelude.specs.Cases.{if◌then◌otherwise◌, maybe}
use Rattle.prelude.specs.Lists.{list_below}
use Rattle.prelude.specs.Number.{bytes_of}
use Rattle.prelude.specs.Span.{span}
use Rattle.prelude.specs.Texts.{text_of, contents, same_text, is_text}
use Rattle.prelude.specs.declared.Terms.{Terms}
use Rattle.prelude.specs.declared.Text.{Text}
use Rattle.wide.specs.Wide.{fill_price, implied, by_last_px, nearest, up, at_half}
use Rattle.format.specs.Codes.{sides, ordtypes, timesinforce, statuses, exectypes, is_side, is_ordtype, is_timeinforce, is_status, is_exectype, is_alnum, is_none, is_name}
use Rattle.format.specs.Format.{in_range, fields, size, range, is_kind, required_bits, allowed_bits, required, allowed, joined, bits_right}
use Rattle.format.specs.Places.{extent, next, start, strip, part, content, value, end_of, shaped, right_at}
use Rattle.records.specs.Fields.{long_of, blank}
use Rattle.records.specs.Record.{record_at, event_in}
use Rattle.format.specs.Refusal.{name_in, ranged, event_refusal}
use Rattle.text.specs.Numbered.{numbered_text, decimal, digits_of}
use Rattle.text.specs.Stored.{no_text}
use Rattle.store.specs.declared.GatewayCancel.{GatewayCancel}
use Rattle.store.specs.declared.Links.{Links}
use Rattle.store.specs.declared.Order.{Order}
use Rattle.store.specs.declared.Pending.{Pending}
use Rattle.store.specs.declared.Request.{Request}
use Rattle.store.specs.declared.State.{State}
use Rattle.store.specs.Book.{Book}
use Rattle.store.specs.Finds.{find_name, find_downstream, find_clordid, count_clordids, of_client}
use Rattle.machine.specs.Orders.{one_more, has_pending, has_gateway, limit_price, is_done, leaves_of, leaves_qty, as_asked, status_at, is_short, unless_short, short_alarm, set_status, kept_order_id, record_venue_order_id, pending_terms, apply_replace, next_sequence, next_exec, no_terms}
use Rattle.store.specs.Orders.{no_pending, no_gateway}
use Rattle.bits.specs.Map.{map_of}
use Rattle.machine.specs.Messages.{no_exec, no_told, no_long_text, bit_if, terms_bits, note_bits, report, cancel_reject, to_venue, new_order, cancel_request, replace_request}
use Rattle.machine.specs.Changes.{Message, is_first, is_replace, is_gateway, is_cancel, is_answered, unchanged, refusing, answering, superseding, adding, telling, alarming, next_link, next_number, next_downstream, next_request, numbered_order}
use Rattle.machine.specs.GatewayCancel.{outstanding_cancel, gateway_cancel_in_flight, begun, try_sent, given_up, send_gateway_cancel, cancel_order, gateway_cancel_waiting, resume_gateway_cancel, stuck, retry_gateway_cancel, says_gone, gateway_cancel_refused}
use Rattle.machine.specs.Amend.{matches, amend_refusal, refuse, redelivered_report, already_taken, cancel_refusal, cancel_goes, cancel, or_own, price_of, verdict_text, check_replace, replace_refusal, new_terms, priced_right, new_pending, replace_goes, replace, not_pending, refused_order, refused_alarm, refused_note, refuse_request, venue_note, venue_cancel_reject, send_refused, first_failed, send_failed, resendable, unsent}
use Rattle.machine.specs.Report.{says_unknown_at_venue, unknown_at_venue, is_rejection, pending_here, behind, stale, repeats, dropped_stale, dropped_repeat, status_taken, accepts, answers_request, ordered_qty, reported_order, fill_price_of, report_note, client_report, settles, apply_report, venue_report}
use Rattle.machine.specs.Machine.{order_of, latest_cancel, order_at_link, findings_of, booked_order, first_request, unused, book_order, amending, on_request, on_report, on_name, change_of, has_room, step_of, answer_link, orders_after, requests_after, after}
use Rattle.machine.specs.Ranges.{text_within, name_range}
use Rattle.machine.specs.Rules.{rules, names_range, force_range, priced_range, terms_range, pending_range, gateway_range, order_range, request_range, linked, current_rule, cancel_rule, pending_rule, filled_rule, status_rule, done_rule, tries_rule, amendments_rule, order_rule, number_in, name_number, number_rule, outcome_rule, in_flight_rule, origin_rule, request_rule, same_key}
use Rattle.machine.specs.History.{Decoded, unread, read_as, comes_to, messages_of, left_by}
use Rattle.machine.specs.declared.Change.{Change}

-- ---- a record's bytes: its kind, the map of its bits, and its fields in the order of their bits

pub record Field : Type 0 where
  pub bit : ℕ
  pub bytes : List ℕ

-- a number in that many bytes
abbrev pub number : (bit size n : ℕ) → Field
number bit size n = record { bit = bit; bytes = bytes_of size n }

-- a length byte and the text
abbrev pub spelled : (bit : ℕ) → List ℕ → Field
spelled bit t = record { bit = bit; bytes = length t ∷ t }

-- a mark: its bit alone
abbrev pub mark : (bit : ℕ) → Field
mark bit = record { bit = bit; bytes = [] }

abbrev pub bits_of : List Field → ℕ
bits_of [] = 0
bits_of (f ∷ fs) = 2 ^ f.bit + bits_of fs

abbrev pub field_bytes : List Field → List ℕ
field_bytes [] = []
field_bytes (f ∷ fs) = f.bytes ++ field_bytes fs

abbrev pub bytes : (kind : ℕ) → List Field → List ℕ
bytes kind fs = kind ∷ (bytes_of 4 (bits_of fs) ++ field_bytes fs)

-- ---- shares and units of money, and one-letter texts

abbrev pub shares : ℕ → ℕ
shares n = n * 10000

abbrev pub money : ℕ → ℕ
money n = n * 10 ^ 8

abbrev pub X : List ℕ
X = 88 ∷ []

-- the order's downstream ClOrdID of that number, 1 to 9: X-1 and so on
abbrev pub X_ : ℕ → List ℕ
X_ n = 88 ∷ 45 ∷ (48 + n) ∷ []

abbrev pub C : List ℕ
C = 67 ∷ []

abbrev pub D : List ℕ
D = 68 ∷ []

abbrev pub E : List ℕ
E = 69 ∷ []

abbrev pub W : List ℕ
W = 87 ∷ []

-- ---- the events

-- 1: of that name and ClOrdID
abbrev pub books_as : (name clordid : List ℕ) → List ℕ
books_as name clordid =
    bytes 1
    (number 0 2 7 ∷ number 1 2 3 ∷ spelled 2 name ∷ spelled 3 clordid ∷ spelled 6 W ∷ number 7 1 49 ∷ number 8 1 50 ∷ number 9 8 (shares 100) ∷ number 10 8 (money 10) ∷ [])

abbrev pub books : List ℕ
books = books_as X C

-- 2: under a ClOrdID, of the order that C names
abbrev pub cancel_of : (clordid symbol : List ℕ) (side : ℕ) → List Field → List ℕ
cancel_of clordid symbol side more = bytes 2 (number 0 2 7 ∷ spelled 3 clordid ∷ spelled 4 C ∷ spelled 6 symbol ∷ number 7 1 side ∷ more)

abbrev pub cancels : (clordid : List ℕ) → List ℕ
cancels clordid = cancel_of clordid W 49 []

-- 3: to a quantity, at 10, with a verdict and perhaps marks
abbrev pub replace_of : (clordid : List ℕ) (qty : ℕ) → List Field → (verdict : ℕ) → List ℕ
replace_of clordid qty marks verdict =
    bytes 3
    ((number 0 2 7 ∷ spelled 3 clordid ∷ spelled 4 C ∷ spelled 6 W ∷ number 7 1 49 ∷ number 9 8 (shares qty) ∷ number 10 8 (money 10) ∷ []) ++ (marks ++ (number 23 1 verdict ∷ [])))

abbrev pub replaces : (clordid : List ℕ) (qty : ℕ) → List ℕ
replaces clordid qty = replace_of clordid qty [] 0

-- 4: of the request of that name; quantities in shares, prices in counts of 10^-8
abbrev pub report_of : (downstream : List ℕ) (exectype status last lastpx cum avg : ℕ) → List Field → List ℕ
report_of downstream exectype status last lastpx cum avg more =
    bytes 4
    ((number 1 2 3 ∷ spelled 5 downstream ∷ number 12 1 exectype ∷ number 13 1 status ∷ number 14 8 (shares last) ∷ number 15 8 lastpx ∷ number 16 8 (shares cum)
    ∷ number 17 8 avg ∷ []) ++ more)

-- New, cum 0
abbrev pub acknowledges : List ℕ
acknowledges = report_of X 48 48 0 0 0 0 []

-- "a report of a cum above 0 has status 1"
abbrev pub fills : (cum last lastpx avg : ℕ) → List ℕ
fills cum last lastpx avg = report_of X 70 49 last lastpx cum avg []

-- 4 again, with nothing filled: an ExecType and a status
abbrev pub turns : (downstream : List ℕ) (exectype status : ℕ) → List ℕ
turns downstream exectype status = report_of downstream exectype status 0 0 0 0 []

-- 5
abbrev pub unknown_to_venue : (downstream : List ℕ) → List ℕ
unknown_to_venue downstream = bytes 5 (number 1 2 3 ∷ spelled 5 downstream ∷ [])

-- 6: the venue's cancel reject, for a reason or without one
abbrev pub reject_of : (downstream : List ℕ) → List Field → List ℕ
reject_of downstream more = bytes 6 (number 1 2 3 ∷ spelled 5 downstream ∷ more)

abbrev pub rejects : (downstream : List ℕ) (reason : ℕ) → List ℕ
rejects downstream reason = reject_of downstream (number 19 4 reason ∷ [])

-- 7, with the text N
abbrev pub send_fails : (downstream : List ℕ) → List ℕ
send_fails downstream = bytes 7 (number 1 2 3 ∷ spelled 5 downstream ∷ spelled 20 (78 ∷ []) ∷ [])

-- 8
abbrev pub sends_again : (downstream : List ℕ) → List ℕ
sends_again downstream = bytes 8 (number 1 2 3 ∷ spelled 5 downstream ∷ [])

-- 9
abbrev pub gateway_cancels : List ℕ
gateway_cancels = bytes 9 (spelled 2 X ∷ [])

-- ---- a call: what the record reads as, and what comes of it. To unfold `called` is to open the reader, the rules and the machine.

abbrev pub decoded : List ℕ → Decoded
decoded s = if eqb (event_refusal s) 0 then read_as (event_in s) otherwise unread (event_refusal s)

unfoldable pub called : Book → List ℕ → Change
unfolding event_in event_refusal record_at name_in ranged long_of blank extent next start strip part content value end_of shaped right_at in_range fields size range is_kind required_bits allowed_bits required allowed joined bits_right sides ordtypes timesinforce statuses exectypes is_side is_ordtype is_timeinforce is_status is_exectype is_alnum is_none is_name all_below first_below count_below if◌then◌otherwise◌ maybe span list_below text_of contents same_text is_text numbered_text decimal digits_of fill_price implied by_last_px nearest up at_half one_more has_pending has_gateway limit_price is_done leaves_of leaves_qty as_asked status_at is_short unless_short short_alarm set_status kept_order_id record_venue_order_id pending_terms apply_replace next_sequence next_exec bit_if terms_bits note_bits report cancel_reject to_venue new_order cancel_request replace_request is_first is_replace is_gateway is_cancel is_answered unchanged refusing answering superseding adding telling alarming next_link next_number next_downstream next_request numbered_order outstanding_cancel gateway_cancel_in_flight begun try_sent given_up send_gateway_cancel cancel_order gateway_cancel_waiting resume_gateway_cancel stuck retry_gateway_cancel says_gone gateway_cancel_refused matches amend_refusal refuse redelivered_report already_taken cancel_refusal cancel_goes cancel or_own price_of verdict_text check_replace replace_refusal new_terms priced_right new_pending replace_goes replace not_pending refused_order refused_alarm refused_note refuse_request venue_note venue_cancel_reject send_refused first_failed send_failed resendable unsent says_unknown_at_venue unknown_at_venue is_rejection pending_here behind stale repeats dropped_stale dropped_repeat status_taken accepts answers_request ordered_qty reported_order fill_price_of report_note client_report settles apply_report venue_report find_name find_downstream find_clordid of_client count_clordids order_of latest_cancel order_at_link findings_of booked_order first_request unused book_order amending on_request on_report on_name change_of has_room step_of answer_link orders_after requests_after after text_within name_range rules names_range force_range priced_range terms_range pending_range gateway_range order_range request_range linked current_rule cancel_rule pending_rule filled_rule status_rule done_rule tries_rule amendments_rule order_rule number_in name_number number_rule outcome_rule in_flight_rule origin_rule request_rule same_key comes_to messages_of left_by
called b s = comes_to b (decoded s)

abbrev pub empty : (setting : ℕ) → Book
empty setting = record { setting = setting; orders = []; requests = [] }

-- the book that the calls leave
abbrev pub playing : Book → List (List ℕ) → Book
playing b [] = b
playing b (s ∷ ss) = playing (left_by b (called b s)) ss

-- ---- what came of a call: refusal, messages, both alarms, and the whole book that is left

pub record Line : Type 0 where
  pub refusal : ℕ
  pub messages : List Message
  pub alarm : ℕ
  pub alarm2 : ℕ
  pub book : Book

abbrev pub line_of : Book → Change → Line
line_of b c = record { refusal = c.refusal; messages = messages_of c; alarm = c.output.alarm; alarm2 = c.output.alarm2; book = left_by b c }

abbrev pub day : Book → List (List ℕ) → List Line
day b [] = []
day b (s ∷ ss) = line_of b (called b s) ∷ day (left_by b (called b s)) ss

-- ---- as it should be: order X, and the messages of it

abbrev pub terms : (qty : ℕ) → Terms
terms qty = record { side = 49; ordtype = 50; timeinforce = 0; qty = shares qty; price = money 10 }

-- filled so far in shares
abbrev pub state : (status cum avg sequence : ℕ) → State
state status cum avg sequence = record { status = status; cumqty = shares cum; avgpx = avg; execseq = sequence }

abbrev pub links : (amendments current cancel : ℕ) → Links
links amendments current cancel = record { amendments = amendments; current = current; cancel = cancel }

abbrev pub order_x : State → Links → Pending → GatewayCancel → Order
order_x s l p g = record {
  client = 7;
  venue = 3;
  names = record { name = text_of X; clordid = text_of C; downstream = text_of X; symbol = text_of W; venueorderid = no_text };
  terms = terms 100;
  state = s;
  links = l;
  pending = p;
  gateway = g;
}

-- with its first request alone
abbrev pub standing : (status cum avg sequence : ℕ) → Order
standing status cum avg sequence = order_x (state status cum avg sequence) (links 0 1 0) no_pending no_gateway

-- a gateway cancel that was sent that often, stuck or not
abbrev pub cancelling : (tries : ℕ) (stuck : Bool) → GatewayCancel
cancelling tries stuck = record { tries = tries; unsent = false; stuck = stuck; origdownstream = 1; refusedsends = 0 }

-- answered is 1 if something came of the request: 0 open, 1 accepted, 2 refused, 3 failed to send
abbrev pub answered_for : (outcome : ℕ) → ℕ
answered_for zero = 0
answered_for (suc n) = 1

-- a request of order X: kind 0 first, 1 the client's cancel, 2 its replace, 3 the gateway's cancel; and what came of it
abbrev pub request : (kind outcome : ℕ) (clordid origclordid downstream : List ℕ) → Request
request kind outcome clordid origclordid downstream = record {
  order = 0;
  kind = kind;
  answered = answered_for outcome;
  clordid = text_of clordid;
  origclordid = text_of origclordid;
  downstream = text_of downstream;
  outcome = outcome;
}

-- the same with any two bytes for that
abbrev pub marked : (answered outcome : ℕ) → Request → Request
marked answered outcome q = record {
  order = q.order;
  kind = q.kind;
  answered = answered;
  clordid = q.clordid;
  origclordid = q.origclordid;
  downstream = q.downstream;
  outcome = outcome;
}

abbrev pub first : Request
first = request 0 0 C [] X

-- the gateway's first n cancels, all refused
abbrev pub refused_cancels : ℕ → List Request
refused_cancels zero = []
refused_cancels (suc n) = refused_cancels n ++ (request 3 2 [] [] (X_ (suc n)) ∷ [])

-- ---- tables as full as one likes

-- order n: its name, its ClOrdID and its only request are A and the number
abbrev pub named : ℕ → Text
named n = text_of (65 ∷ decimal n)

abbrev pub order_of_many : ℕ → Order
order_of_many n = record {
  client = 7;
  venue = 3;
  names = record { name = named n; clordid = named n; downstream = named n; symbol = text_of W; venueorderid = no_text };
  terms = terms 100;
  state = state 48 0 0 1;
  links = links 0 (n + 1) 0;
  pending = no_pending;
  gateway = no_gateway;
}

abbrev pub first_of_many : ℕ → Request
first_of_many n = record { order = n; kind = 0; answered = 0; clordid = named n; origclordid = no_text; downstream = named n; outcome = 0 }

-- a book of n orders
abbrev pub many_orders : ℕ → Book
many_orders n = record { setting = 10000; orders = list_below order_of_many n; requests = list_below first_of_many n }

-- the gateway's cancels X-1, X-2 and so on, from 0 on, refused
abbrev pub refused_cancel : ℕ → Request
refused_cancel k = record { order = 0; kind = 3; answered = 1; clordid = no_text; origclordid = no_text; downstream = numbered_text (text_of X) (k + 1); outcome = 2 }

-- a book of order X with n + 1 requests: the first, and n cancels of the gateway, all refused
abbrev pub many_requests : ℕ → Book
many_requests n = record {
  setting = 10000;
  orders = order_x (state 48 0 0 1) (links n 1 0) no_pending no_gateway ∷ [];
  requests = first ∷ list_below refused_cancel n;
}

-- message 16 under C: the order as it is left, with an ExecType, LastQty and LeavesQty in shares, the fill price and its source
abbrev pub reported : Order → (exectype last leaves price source : ℕ) → Message
reported o exectype last leaves price source = record {
  kind = 16;
  map = map_of (0 ∷ 2 ∷ 3 ∷ 6 ∷ 7 ∷ 8 ∷ 9 ∷ 10 ∷ 12 ∷ 13 ∷ 14 ∷ 16 ∷ 17 ∷ 24 ∷ 25 ∷ 26 ∷ 31 ∷ []);
  client = 7;
  venue = 0;
  reason = 0;
  verdict = 0;
  ids = record { name = text_of X; clordid = text_of C; origclordid = no_text; downstream = no_text; symbol = text_of W; venueorderid = no_text; origdownstream = no_text };
  terms = terms 100;
  exec = record { exectype = exectype; status = o.state.status; lastqty = shares last; lastpx = 0; cumqty = o.state.cumqty; avgpx = o.state.avgpx };
  told = record { leavesqty = shares leaves; execseq = o.state.execseq; fillprice = price ∷ 0 ∷ []; fixedtext = 0; origin = 0; responseto = 0; source = source };
  text = no_long_text;
}

-- message 17 under D and C, for a reason of ours: the status, what it responds to (1 a cancel, 2 a replace), reason and text number
abbrev pub refused : (status responseto reason text : ℕ) → Message
refused status responseto reason text = record {
  kind = 17;
  map = map_of (0 ∷ 2 ∷ 3 ∷ 4 ∷ 13 ∷ 19 ∷ 27 ∷ 28 ∷ 29 ∷ []);
  client = 7;
  venue = 0;
  reason = reason;
  verdict = 0;
  ids = record { name = text_of X; clordid = text_of D; origclordid = text_of C; downstream = no_text; symbol = no_text; venueorderid = no_text; origdownstream = no_text };
  terms = no_terms;
  exec = record { exectype = 0; status = status; lastqty = 0; lastpx = 0; cumqty = 0; avgpx = 0 };
  told = record { leavesqty = 0; execseq = 0; fillprice = 0 ∷ 0 ∷ []; fixedtext = text; origin = 1; responseto = responseto; source = 0 };
  text = no_long_text;
}

-- messages 19 and 20 to the venue, under a new downstream ClOrdID, of the order that it knows as X
abbrev pub to_venue' : (kind : ℕ) (downstream : List ℕ) (qty : ℕ) → Message
to_venue' kind downstream qty = record {
  kind = kind;
  map = map_of (1 ∷ 5 ∷ 6 ∷ 7 ∷ 8 ∷ 9 ∷ 10 ∷ 30 ∷ []);
  client = 0;
  venue = 3;
  reason = 0;
  verdict = 0;
  ids = record { name = no_text; clordid = no_text; origclordid = no_text; downstream = text_of downstream; symbol = text_of W; venueorderid = no_text; origdownstream = text_of X };
  terms = terms qty;
  exec = no_exec;
  told = no_told;
  text = no_long_text;
}

-- ---- an event beside what it should come to

pub record Row : Type 0 where
  pub event : List ℕ
  pub line : Line

-- the event is taken and puts out these messages and at most one alarm; order and requests are left like this
abbrev pub row : (event : List ℕ) → List Message → (alarm : ℕ) → Order → List Request → Row
row event messages alarm order requests = record {
  event = event;
  line = record { refusal = 0; messages = messages; alarm = alarm; alarm2 = 0; book = record { setting = 10000; orders = order ∷ []; requests = requests } };
}

abbrev pub events : List Row → List (List ℕ)
events [] = []
events (r ∷ rs) = r.event ∷ events rs

abbrev pub lines : List Row → List Line
lines [] = []
lines (r ∷ rs) = r.line ∷ lines rs
