-- What a report that rejects a cancel or replace says of it, by its own name. Rests on machine's Report.
use Rattle.std.specs.Prelude.{eqb}
use Rattle.prelude.specs.Cases.{if◌then◌otherwise◌}
use Rattle.format.specs.Codes.{rejected}
use Rattle.machine.specs.Constants.{refused}
use Rattle.machine.specs.Changes.{Event}
use Rattle.machine.specs.declared.Refused.{Refused}

-- Rejected is the request's status and not the order's
abbrev pub rejection_of : Event → Refused
rejection_of e = record {
  status = if eqb e.exec.status rejected then 0 otherwise e.exec.status;
  venueorderid = e.ids.venueorderid;
  note = record { text = e.text; fixedtext = 0; reason = 0; origin = 0 };
  outcome = refused;
}
