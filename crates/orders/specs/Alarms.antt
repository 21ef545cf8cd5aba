-- The number of each alarm, as the machine has them, and 0 for none. Rests on machine's Constants.
use Rattle.std.specs.Prelude.{ℕ, Option, None, Some}
use Rattle.machine.specs.Constants.{stuck_cancel, overfill, unknown_order, unknown_at_venue_alarm, fill_on_done_order, filled_short}
use Rattle.orders.specs.declared.alarm.Alarm.{Alarm}
use Rattle.orders.specs.declared.alarm.Alarm.TheVariants.{StuckCancel, Overfill, UnknownOrder, UnknownAtVenue, FillOnDoneOrder, FilledShort}

abbrev pub alarm_number : Alarm → ℕ
alarm_number StuckCancel = stuck_cancel
alarm_number Overfill = overfill
alarm_number UnknownOrder = unknown_order
alarm_number UnknownAtVenue = unknown_at_venue_alarm
alarm_number FillOnDoneOrder = fill_on_done_order
alarm_number FilledShort = filled_short

abbrev pub alarm_in : Option Alarm → ℕ
alarm_in None = 0
alarm_in (Some a) = alarm_number a
