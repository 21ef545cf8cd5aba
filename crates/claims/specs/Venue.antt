-- What a venue's event sets, when alarm 6 comes, and where a price came from (change requests 14, 8 and 2), on bytes: of every call of `event` that is taken,
-- on any book that keeps its rules. The book, the alarms and the messages are those that are left in the two buffers. Rests on machine's Status and Sources.
-- The proofs are in proofs/Venue.
use Rattle.std.specs.Prelude.{ℕ, ◌+◌, ◌≤◌, ◌≡◌, false, List, eqb, Some}
use Rattle.prelude.specs.Number.{Bytes}
use Rattle.prelude.specs.Totals.{Every}
use Rattle.records.specs.Record.{event_in}
use Rattle.records.specs.Answer.{answer_messages, answer_alarm, answer_alarm2}
use Rattle.store.specs.Book.{order_in, request_in, book_of}
use Rattle.store.specs.Finds.{find_downstream}
use Rattle.machine.specs.Constants.{report_kind, filled_short}
use Rattle.machine.specs.Status.{Left, taken_short}
use Rattle.machine.specs.Sources.{Sourced}
use Rattle.step.specs.Entries.{event_of}

-- THE STATUS THAT IS SET: an event 4, 5 or 6 that names a request of the book leaves that request's order so
abbrev pub StatusOnBytes : Type 0
StatusOnBytes = (b r a : List ℕ) → Bytes b → Bytes r → (event_of b r a).returned ≡ 0
    → let e = event_in r in 4 ≤ e.kind → e.kind ≤ 6 → (k : ℕ) → find_downstream (book_of b) e.ids.downstream ≡ Some k
    → let q = request_in (book_of b) k in Left (k + 1) q (order_in (book_of b) q.order) e (order_in (book_of (event_of b r a).book) q.order)

-- ALARM 6 is the answer's first exactly if a Filled is taken and the order left is below its quantity, and never its second
abbrev pub SixOnBytes : Type 0
SixOnBytes = (b r a : List ℕ) → Bytes b → Bytes r → (event_of b r a).returned ≡ 0
    → let o = event_of b r a in (eqb (answer_alarm o.answer) filled_short ≡ taken_short (book_of b) (event_in r) (book_of o.book)) × (eqb (answer_alarm2 o.answer) filled_short ≡ false)

-- SOURCE 0: each message 16 that our reader reads has source 0, and then price 0, exactly if the event is no venue's report
abbrev pub SourcesOnBytes : Type 0
SourcesOnBytes = (b r a : List ℕ) → Bytes b → Bytes r → (event_of b r a).returned ≡ 0
    → Every (λ m. m.kind ≡ report_kind → Sourced (book_of b) (event_in r) m) (answer_messages (event_of b r a).answer)
