-- WHAT AN EVENT WILL NEED (change request 13): the change that the event makes, counted and not written; and the call that gives it. That the numbers are
-- those of the event then run is in claims. Rests on step's `call_of`, machine's `messages_of`, and records' answers.
use Rattle.std.specs.Prelude.{ℕ, ◌+◌, List, map, eqb, length, get_or}
use Rattle.prelude.specs.Cases.{if◌then◌otherwise◌}
use Rattle.bits.specs.Map.{standing}
use Rattle.records.specs.Answer.{head_size, shortest_answer, messages_bytes}
use Rattle.machine.specs.declared.Change.{Change}
use Rattle.machine.specs.Changes.{Message}
use Rattle.machine.specs.History.{messages_of}
use Rattle.step.specs.Entries.{call_of}
use Rattle.needs.specs.declared.Needs.{Needs}

-- ---- what is counted

-- the answer's length: its head and its messages
unfoldable pub answer_length : List Message → ℕ
answer_length ms = head_size + length (messages_bytes ms)

-- the fields of a message: the bits of its map that are 1
unfoldable pub field_count : Message → ℕ
field_count m = standing m.map

-- the fields of message n, 0 if there is none
unfoldable pub fields_of : List Message → (n : ℕ) → ℕ
fields_of ms n = get_or (map field_count ms) n 0

-- the request records that a change adds
unfoldable pub added_count : (added : ℕ) → ℕ
added_count added = if eqb added 0 then 0 otherwise 1

-- ---- the call

-- an event that is taken
unfoldable pub needed : List Message → (added : ℕ) → Needs
needed ms added = record {
  refusal = 0;
  length = answer_length ms;
  messages = length ms;
  requests = added_count added;
  fields_first = fields_of ms 0;
  fields_second = fields_of ms 1;
}

-- one that is refused: all counts are 0
unfoldable pub refused : (refusal : ℕ) → Needs
refused refusal = record { refusal = refusal; length = 0; messages = 0; requests = 0; fields_first = 0; fields_second = 0 }

unfoldable pub needs_of : Change → Needs
needs_of c = if eqb c.refusal 0 then needed (messages_of c) c.requests.added otherwise refused c.refusal

-- of the event in a record, on a book, with the shortest answer buffer that is taken
unfoldable pub needs_call : (book event : List ℕ) → Needs
needs_call b r = needs_of (call_of b r shortest_answer)
