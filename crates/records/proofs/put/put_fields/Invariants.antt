-- `put::put_fields`: the fields below b are written. Assumes nothing.
use Rattle.std.proofs.Common.{◌≡◌, ◌+◌, length}
use Rattle.prelude.specs.Span.{splice}
use Rattle.format.specs.Wire.{body}
use Rattle.records.specs.Fields.{held}
use Rattle.records.proofs.put.put_fields.Given as goal

abbrev pub invariant-loop-b : goal.invariant-loop-b
invariant-loop-b l =
    (length l.dst ≡ length l.initial.dst)
    × (l.at ≡ l.start + length (body l.r.map (held l.r) l.b))
    × (l.dst ≡ splice l.initial.dst l.start (body l.r.map (held l.r) l.b))
