-- The book's own numbers, by name: kinds and outcomes of requests, kinds of events and messages, alarms, reasons and their origin, fixed texts, the most tries. Rests on nothing.
use Rattle.std.specs.Prelude.{ℕ}

-- a request's kind: `Sent.kind` and `Sent.origin` in one
abbrev pub first_kind : ℕ
first_kind = 0

abbrev pub cancel_kind : ℕ
cancel_kind = 1

abbrev pub replace_kind : ℕ
replace_kind = 2

abbrev pub gateway_kind : ℕ
gateway_kind = 3

-- a request's outcome, 0 while it is open: "0 open until the Rust's `answered` is set, then for good 1 accepted .. 3 failed to send .. or 2 refused"
abbrev pub accepted : ℕ
accepted = 1

abbrev pub refused : ℕ
refused = 2

abbrev pub failed_to_send : ℕ
failed_to_send = 3

-- events
abbrev pub event_book : ℕ
event_book = 1

abbrev pub event_cancel : ℕ
event_cancel = 2

abbrev pub event_replace : ℕ
event_replace = 3

abbrev pub event_report : ℕ
event_report = 4

abbrev pub event_unknown : ℕ
event_unknown = 5

abbrev pub event_cancel_reject : ℕ
event_cancel_reject = 6

abbrev pub event_send_failed : ℕ
event_send_failed = 7

abbrev pub event_send_again : ℕ
event_send_again = 8

abbrev pub event_gateway_cancel : ℕ
event_gateway_cancel = 9

-- messages
abbrev pub report_kind : ℕ
report_kind = 16

abbrev pub cancel_reject_kind : ℕ
cancel_reject_kind = 17

abbrev pub new_order_kind : ℕ
new_order_kind = 18

abbrev pub cancel_request_kind : ℕ
cancel_request_kind = 19

abbrev pub replace_request_kind : ℕ
replace_request_kind = 20

-- alarms
abbrev pub stuck_cancel : ℕ
stuck_cancel = 1

abbrev pub overfill : ℕ
overfill = 2

abbrev pub unknown_order : ℕ
unknown_order = 3

abbrev pub unknown_at_venue_alarm : ℕ
unknown_at_venue_alarm = 4

abbrev pub fill_on_done_order : ℕ
fill_on_done_order = 5

abbrev pub filled_short : ℕ
filled_short = 6

-- the last of them
abbrev pub most_alarm : ℕ
most_alarm = filled_short

-- OrdRejReason(103) and CxlRejReason(102)
abbrev pub unknown_order_reason : ℕ
unknown_order_reason = 5

abbrev pub too_late : ℕ
too_late = 0

abbrev pub unknown : ℕ
unknown = 1

abbrev pub already_pending : ℕ
already_pending = 3

abbrev pub duplicate : ℕ
duplicate = 6

abbrev pub other : ℕ
other = 99

-- a reason's origin
abbrev pub ours : ℕ
ours = 1

abbrev pub venues : ℕ
venues = 2

-- fixed texts
abbrev pub text_cancelling : ℕ
text_cancelling = 1

abbrev pub text_replace_pending : ℕ
text_replace_pending = 2

abbrev pub text_below_filled : ℕ
text_below_filled = 3

abbrev pub text_blocked : ℕ
text_blocked = 4

abbrev pub text_duplicate : ℕ
text_duplicate = 5

abbrev pub text_unknown_order : ℕ
text_unknown_order = 6

abbrev pub text_done : ℕ
text_done = 7

abbrev pub text_too_many : ℕ
text_too_many = 8

abbrev pub text_side_or_symbol : ℕ
text_side_or_symbol = 9

abbrev pub text_rejected : ℕ
text_rejected = 10

abbrev pub text_not_sent : ℕ
text_not_sent = 11

-- MAX_GATEWAY_CANCEL_TRIES
abbrev pub most_tries : ℕ
most_tries = 3
