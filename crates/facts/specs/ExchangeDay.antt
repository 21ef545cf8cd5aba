-- Two orders in small: a book on which the claim of two clients (change request 12) says something, two readings near it that do not hold, and what an event on one order must not
-- do to another. Rests on Exchange.
use Rattle.std.specs.Prelude.{ℕ, ◌≡◌, refl, true, List, [], ◌∷◌}
use Rattle.prelude.specs.Below.{all_below, first_below, count_below}
use Rattle.prelude.specs.Cases.{if◌then◌otherwise◌, maybe}
use Rattle.prelude.specs.Texts.{text_of, contents, same_text, is_text}
use Rattle.text.specs.Numbered.{numbered_text, decimal, digits_of}
use Rattle.store.specs.Book.{Book, empty_book, order_in}
use Rattle.store.specs.Orders.{no_pending}
use Rattle.text.specs.Stored.{no_text}
use Rattle.machine.specs.Orders.{no_terms, one_more, has_pending, has_gateway, limit_price, is_done, leaves_of, leaves_qty, as_asked, status_at, is_short, unless_short, short_alarm, set_status, kept_order_id, record_venue_order_id, pending_terms, apply_replace, next_sequence, next_exec}
use Rattle.machine.specs.Messages.{no_exec, no_told, no_long_text, bit_if, terms_bits, note_bits, report, cancel_reject, to_venue, new_order, cancel_request, replace_request}
use Rattle.bits.specs.Map.{map_of}
use Rattle.machine.specs.Changes.{Event, is_first, is_replace, is_gateway, is_cancel, is_answered, unchanged, refusing, answering, superseding, adding, telling, alarming, next_link, next_number, next_downstream, next_request, numbered_order}
use Rattle.machine.specs.GatewayCancel.{outstanding_cancel, gateway_cancel_in_flight, begun, try_sent, given_up, send_gateway_cancel, cancel_order, gateway_cancel_waiting, resume_gateway_cancel, stuck, retry_gateway_cancel, says_gone, gateway_cancel_refused}
use Rattle.machine.specs.Amend.{matches, amend_refusal, refuse, redelivered_report, already_taken, cancel_refusal, cancel_goes, cancel, or_own, price_of, check_replace, replace_refusal, new_terms, priced_right, new_pending, replace_goes, replace, not_pending, refused_order, refused_alarm, refused_note, refuse_request, venue_note, venue_cancel_reject, send_refused, first_failed, send_failed, resendable, unsent}
use Rattle.machine.specs.Report.{says_unknown_at_venue, unknown_at_venue, is_rejection, pending_here, behind, stale, repeats, dropped_stale, dropped_repeat, status_taken, accepts, answers_request, ordered_qty, reported_order, fill_price_of, report_note, client_report, settles, apply_report, venue_report}
use Rattle.store.specs.Finds.{find_name, find_downstream, find_clordid, count_clordids, of_client}
use Rattle.machine.specs.Machine.{order_of, latest_cancel, order_at_link, findings_of, booked_order, first_request, unused, book_order, amending, on_request, on_report, on_name, change_of, has_room, step_of, answer_link, orders_after, requests_after, after, book_after}
use Rattle.format.specs.Codes.{sides, ordtypes, timesinforce, statuses, is_side, is_ordtype, is_timeinforce, is_status, is_alnum, is_none, is_name, buy, limit, new, rejected, exec_replaced}
use Rattle.machine.specs.Ranges.{text_within, name_range}
use Rattle.machine.specs.Rules.{names_range, force_range, priced_range, terms_range, pending_range, gateway_range, order_range, request_range, linked, current_rule, cancel_rule, pending_rule, filled_rule, status_rule, done_rule, tries_rule, amendments_rule, order_rule, number_in, name_number, number_rule, outcome_rule, in_flight_rule, origin_rule, request_rule, same_key, rules}
use Rattle.machine.specs.Exchange.{concerns, client_at, link_text}

-- an event of that client; its order is bought at 10
event : (client kind bits : ℕ) → (name clordid origclordid downstream : List ℕ) → Event
event client kind bits name clordid origclordid downstream = record {
  kind = kind;
  map = bits;
  client = client;
  venue = 3;
  reason = 0;
  verdict = 0;
  ids = record {
    name = text_of name;
    clordid = text_of clordid;
    origclordid = text_of origclordid;
    downstream = text_of downstream;
    symbol = text_of (87 ∷ []);
    venueorderid = no_text;
    origdownstream = no_text;
  };
  terms = record { side = buy; ordtype = limit; timeinforce = 0; qty = 100; price = 10 };
  exec = no_exec;
  told = no_told;
  text = no_long_text;
}

-- a client books an order of that name under that ClOrdID
books : (client : ℕ) → (name clordid : List ℕ) → Event
books client name clordid = event client 1 (map_of (10 ∷ [])) name clordid [] []

-- orders X and Y with ClOrdIDs C and D, of these clients
booked : (x y : ℕ) → Book
booked x y =
    book_after (book_after (empty_book 10000) (books x (88 ∷ []) (67 ∷ []))) (books y (89 ∷ []) (68 ∷ []))

-- the gateway cancels X, and Y
cancel_x : Event
cancel_x = event 0 9 0 (88 ∷ []) [] [] []

cancel_y : Event
cancel_y = event 0 9 0 (89 ∷ []) [] [] []

-- client 7 cancels X, and Y, both under ClOrdID E
ask_x : Event
ask_x = event 7 2 0 [] (69 ∷ []) (67 ∷ []) []

ask_y : Event
ask_y = event 7 2 0 [] (69 ∷ []) (68 ∷ []) []

-- client 7 replaces X under ClOrdID E, and the first send of X, or of Y, fails
replace_x : Event
replace_x = event 7 3 (map_of (10 ∷ [])) [] (69 ∷ []) (67 ∷ []) []

fails_x : Event
fails_x = event 0 7 0 [] [] [] (88 ∷ [])

fails_y : Event
fails_y = event 0 7 0 [] [] [] (89 ∷ [])

-- the send of X's replace, X-1, fails; the venue accepts it, and says Replaced
fails_replace : Event
fails_replace = event 0 7 0 [] [] [] (88 ∷ 45 ∷ 49 ∷ [])

accepts_replace : Event
accepts_replace = record {
  kind = 4;
  map = 0;
  client = 0;
  venue = 3;
  reason = 0;
  verdict = 0;
  ids = fails_replace.ids;
  terms = no_terms;
  exec = record { exectype = exec_replaced; status = new; lastqty = 0; lastpx = 0; cumqty = 0; avgpx = 0 };
  told = no_told;
  text = no_long_text;
}

record Facts : Type 0 where
  -- orders of clients 7 and 8: both events are taken, and both add a request
  kept : rules (booked 7 8) ≡ true
  concern : (concerns (booked 7 8) cancel_x ≡ 1) × (concerns (booked 7 8) cancel_y ≡ 2)
  clients : (client_at (booked 7 8) 1 ≡ 7) × (client_at (booked 7 8) 2 ≡ 8)
  taken : ((step_of (booked 7 8) cancel_x).refusal ≡ 0) × ((step_of (book_after (booked 7 8) cancel_x) cancel_y).refusal ≡ 0)
  added : ((step_of (booked 7 8) cancel_x).requests.added ≡ 1) × ((step_of (booked 7 8) cancel_y).requests.added ≡ 1)
  -- the link of X's cancel is another, and names the same request
  links : ((order_in (book_after (book_after (booked 7 8) cancel_x) cancel_y) 0).links.cancel ≡ 3) × ((order_in (book_after (book_after (booked 7 8) cancel_y) cancel_x) 0).links.cancel ≡ 4)
  named : link_text (book_after (book_after (booked 7 8) cancel_x) cancel_y) 3 ≡ link_text (book_after (book_after (booked 7 8) cancel_y) cancel_x) 4
  -- two orders of client 7: the second to use the ClOrdID is refused, whichever it is
  one_client : ((step_of (booked 7 7) ask_x).output.first.kind ≡ 19) × ((step_of (book_after (booked 7 7) ask_y) ask_x).output.first.kind ≡ 17)
  -- question 5: a name that any client used; a ClOrdID that this client used, which another may
  name_used : (step_of (booked 7 8) (books 9 (88 ∷ []) (69 ∷ []))).refusal ≡ 5
  clordid_used : ((step_of (booked 7 8) (books 7 (90 ∷ []) (67 ∷ []))).refusal ≡ 5) × ((step_of (booked 7 8) (books 9 (90 ∷ []) (67 ∷ []))).refusal ≡ 0)
  -- Y's first send fails: Y is rejected, and X stays
  beside : (order_in (book_after (booked 7 8) fails_y) 0 ≡ order_in (booked 7 8) 0) × ((order_in (book_after (booked 7 8) fails_y) 1).state.status ≡ rejected)
  -- X is done while a replace is pending: no terms are pending any more
  pending : has_pending (order_in (book_after (booked 7 8) replace_x) 0) ≡ true
  done_pending : (order_in (book_after (book_after (booked 7 8) replace_x) fails_x) 0).pending ≡ no_pending
  -- once the replace is refused or accepted none are pending either, and the side is as it was
  refused_pending : (order_in (book_after (book_after (booked 7 8) replace_x) fails_replace) 0).pending ≡ no_pending
  accepted : (order_in (book_after (book_after (booked 7 8) replace_x) accepts_replace) 0).pending ≡ no_pending
  side : (order_in (book_after (book_after (booked 7 8) replace_x) accepts_replace) 0).terms.side ≡ buy

facts : Facts
unfolding event books booked cancel_x cancel_y ask_x ask_y replace_x fails_x fails_y fails_replace accepts_replace concerns all_below first_below count_below if◌then◌otherwise◌ maybe text_of contents same_text numbered_text decimal digits_of one_more has_pending has_gateway limit_price is_done leaves_of leaves_qty as_asked status_at is_short unless_short short_alarm set_status kept_order_id record_venue_order_id pending_terms apply_replace next_sequence next_exec bit_if terms_bits note_bits report cancel_reject to_venue new_order cancel_request replace_request is_first is_replace is_gateway is_cancel is_answered unchanged refusing answering superseding adding telling alarming next_link next_number next_downstream next_request numbered_order outstanding_cancel gateway_cancel_in_flight begun try_sent given_up send_gateway_cancel cancel_order gateway_cancel_waiting resume_gateway_cancel stuck retry_gateway_cancel says_gone gateway_cancel_refused matches amend_refusal refuse redelivered_report already_taken cancel_refusal cancel_goes cancel or_own price_of check_replace replace_refusal new_terms priced_right new_pending replace_goes replace not_pending refused_order refused_alarm refused_note refuse_request venue_note venue_cancel_reject send_refused first_failed send_failed resendable unsent says_unknown_at_venue unknown_at_venue is_rejection pending_here behind stale repeats dropped_stale dropped_repeat status_taken accepts answers_request ordered_qty reported_order fill_price_of report_note client_report settles apply_report venue_report find_name find_downstream find_clordid of_client count_clordids order_of latest_cancel order_at_link findings_of booked_order first_request unused book_order amending on_request on_report on_name change_of has_room step_of answer_link orders_after requests_after after book_after is_text is_side is_ordtype is_timeinforce is_status text_within sides ordtypes timesinforce statuses is_alnum is_none is_name name_range names_range force_range priced_range terms_range pending_range gateway_range order_range request_range linked current_rule cancel_rule pending_rule filled_rule status_rule done_rule tries_rule amendments_rule order_rule number_in name_number number_rule outcome_rule in_flight_rule origin_rule request_rule same_key rules
facts = record {
  kept = refl;
  concern = (refl, refl);
  clients = (refl, refl);
  taken = (refl, refl);
  added = (refl, refl);
  links = (refl, refl);
  named = refl;
  one_client = (refl, refl);
  name_used = refl;
  clordid_used = (refl, refl);
  beside = (refl, refl);
  pending = refl;
  done_pending = refl;
  refused_pending = refl;
  accepted = refl;
  side = refl;
}
