-- What the reader guarantees of every event that it accepts, in the words of the machine's theorems. Rests on Events, Whole and records.
-- The proofs are in proofs/.
use Rattle.std.specs.Prelude.{ℕ, ◌≤◌, ◌<◌, ◌≡◌, List}
use Rattle.prelude.specs.Number.{Bytes}
use Rattle.format.specs.Refusal.{event_refusal}
use Rattle.records.specs.Record.{event_in}
use Rattle.machine.specs.Events.{Ranged}
use Rattle.machine.specs.Whole.{WholeEvent}

abbrev pub EventRanged : Type 0
EventRanged = (s : List ℕ) → Bytes s → event_refusal s ≡ 0 → Ranged (event_in s)

abbrev pub EventWhole : Type 0
EventWhole = (s : List ℕ) → Bytes s → event_refusal s ≡ 0 → WholeEvent (event_in s)

abbrev pub EventKind : Type 0
EventKind = (s : List ℕ) → event_refusal s ≡ 0 → (0 < (event_in s).kind) × ((event_in s).kind ≤ 9)
