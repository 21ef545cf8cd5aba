-- Why a client's cancel or replace is refused: what each cause is told as, and what is told if there may be none. Rests on machine's Amend.
use Rattle.std.specs.Prelude.{Result, Ok, Err}
use Rattle.machine.specs.Constants.{too_late, unknown, already_pending, duplicate, other, text_cancelling, text_replace_pending, text_below_filled, text_blocked, text_duplicate, text_unknown_order, text_done, text_too_many, text_side_or_symbol}
use Rattle.machine.specs.Amend.{passes, refusal, verdict_text}
use Rattle.machine.specs.declared.Reject.{Reject}
use Rattle.amend.specs.declared.why.Why.{Why}
use Rattle.amend.specs.declared.why.Why.TheVariants.{Cancelling, ReplacePending, BelowFilled, Blocked, Duplicate, UnknownOrder, Done, TooMany, SideOrSymbol, Verdict}

abbrev pub reject_of : Why → Reject
reject_of Cancelling = refusal already_pending text_cancelling
reject_of ReplacePending = refusal already_pending text_replace_pending
reject_of BelowFilled = refusal other text_below_filled
reject_of Blocked = refusal other text_blocked
reject_of Duplicate = refusal duplicate text_duplicate
reject_of UnknownOrder = refusal unknown text_unknown_order
reject_of Done = refusal too_late text_done
reject_of TooMany = refusal other text_too_many
reject_of SideOrSymbol = refusal other text_side_or_symbol
reject_of (Verdict v) = refusal other (verdict_text v)

-- the machine's own refusal; what is not refused goes on to `own`
abbrev pub reject_or : Result Unit Why → (own : Reject) → Reject
reject_or (Ok u) own = own
reject_or (Err w) own = reject_of w

abbrev pub reject_in : Result Unit Why → Reject
reject_in r = reject_or r passes
