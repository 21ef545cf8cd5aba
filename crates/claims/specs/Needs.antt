-- WHAT AN EVENT WILL NEED (change request 13), on bytes: the numbers that `needs` gives are those of the event then run on the same book and record, with any
-- answer buffer of 1,024 bytes or more, read from what the event returns and leaves. Rests on needs, records' reader and step's Entries.
use Rattle.std.specs.Prelude.{ℕ, ◌+◌, ◌≤◌, ◌≡◌, List, map, ltb, length, get_or}
use Rattle.prelude.specs.Below.{count_below}
use Rattle.prelude.specs.Number.{Bytes}
use Rattle.format.specs.Wire.{field_bytes}
use Rattle.records.specs.Fields.{held}
use Rattle.records.specs.Answer.{length_in, answer_messages}
use Rattle.machine.specs.Changes.{Message}
use Rattle.store.specs.Book.{book_of}
use Rattle.step.specs.Entries.{Returned, event_of}
use Rattle.needs.specs.declared.Needs.{Needs}
use Rattle.needs.specs.Needs.{needs_call}

-- how many fields of a message have bytes in its record
abbrev pub written_fields : Message → ℕ
written_fields m = count_below (λ b. ltb 0 (length (field_bytes m.map (held m) b))) 32

-- an event that was taken: what it wrote, in a buffer that was a, over a book that was b
pub record Used (b a : List ℕ) (o : Returned) (n : Needs) : Type 0 where
  -- the answer's own first two bytes say its length, and every byte past it is as it was
  pub long : length_in o.answer ≡ n.length
  pub behind : (k : ℕ) → n.length ≤ k → get_or o.answer k 0 ≡ get_or a k 0
  -- the messages that our reader reads, and how many fields of each were written
  pub messages : length (answer_messages o.answer) ≡ n.messages
  pub first : get_or (map written_fields (answer_messages o.answer)) 0 0 ≡ n.fields_first
  pub second : get_or (map written_fields (answer_messages o.answer)) 1 0 ≡ n.fields_second
  -- by how many the table of requests has grown
  pub requests : length (book_of o.book).requests ≡ length (book_of b).requests + n.requests

pub record Foretold (b a : List ℕ) (o : Returned) (n : Needs) : Type 0 where
  -- the event's own number, and never that of a short answer buffer
  pub refusal : n.refusal ≡ o.returned
  pub never : n.refusal ≡ 2 → ⊥
  pub taken : o.returned ≡ 0 → Used b a o n
  -- a refused event needs nothing
  pub nothing : (o.returned ≡ 0 → ⊥) → (n.length ≡ 0) × (n.messages ≡ 0) × (n.requests ≡ 0) × (n.fields_first ≡ 0) × (n.fields_second ≡ 0)

abbrev pub NeedsOnBytes : Type 0
NeedsOnBytes = (b r a : List ℕ) → Bytes b → Bytes r → 1024 ≤ length a → Foretold b a (event_of b r a) (needs_call b r)
