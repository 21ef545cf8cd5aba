-- A list of calls: each on the book that the one before it left, and what came of each, the latest first. Rests on Machine and Rules.
use Rattle.std.specs.Prelude.{ℕ, ◌<◌, ◌≤◌, ◌≡◌, List, [], ◌∷◌, eqb}
use Rattle.prelude.specs.Cases.{if◌then◌otherwise◌}
use Rattle.prelude.specs.Refusal.{number_of}
use Rattle.prelude.specs.declared.Refusal.TheVariants.{BadBook}
use Rattle.records.specs.Answer.{chosen}
use Rattle.store.specs.Book.{Book, empty_book}
use Rattle.machine.specs.Changes.{Event, Message, refusing}
use Rattle.machine.specs.Machine.{step_of, after}
use Rattle.machine.specs.Rules.{rules}
use Rattle.machine.specs.declared.Change.{Change}

-- what a call's record reads as: an event, or the number of the question that the call fails before there is one
pub data Decoded : Type 0 where
  unread : ℕ → Decoded
  read_as : Event → Decoded

-- what a call comes to: question 1 first, then the record's, then the event's own
unfoldable pub comes_to : Book → Decoded → Change
comes_to b (unread n) = if rules b then refusing n otherwise refusing (number_of BadBook)
comes_to b (read_as e) = if rules b then step_of b e otherwise refusing (number_of BadBook)

-- "A refused call .. has written nothing anywhere": the book stays, and no message counts
unfoldable pub messages_of : Change → List Message
messages_of c = if eqb c.refusal 0 then chosen c.output.count c.output.first c.output.second otherwise []

unfoldable pub left_by : Book → Change → Book
left_by b c = if eqb c.refusal 0 then after b c otherwise b

-- one line of the history: the book before the call, what was read, the refusal, the messages, and the book that is left
pub record Entry : Type 0 where
  pub before : Book
  pub input : Decoded
  pub refusal : ℕ
  pub messages : List Message
  pub left : Book

-- the line that a change makes
abbrev pub line_of : Book → Decoded → Change → Entry
line_of book input change = record { before = book; input = input; refusal = change.refusal; messages = messages_of change; left = left_by book change }

-- the book, and what has happened, the latest first
pub record State : Type 0 where
  pub book : Book
  pub past : List Entry

-- a book, and nothing has happened yet
abbrev pub start_from : Book → State
start_from b = record { book = b; past = [] }

-- the first book, as start makes it, with any setting
abbrev pub start : (setting : ℕ) → State
start setting = start_from (empty_book setting)

abbrev pub next : State → Decoded → State
next s i = let e = line_of s.book i (comes_to s.book i) in record { book = e.left; past = e ∷ s.past }

-- the calls may be of any type that reads as events: records as bytes are
module _ {In : Type 0} (read : In → Decoded) where
  abbrev pub run : State → List In → State
  run s [] = s
  run s (i ∷ is) = run (next s (read i)) is

  -- question 3: what reads as an event has a kind from 1 to 9
  pub record Kinds : Type 0 where
    pub above : (i : In) (e : Event) → read i ≡ read_as e → 0 < e.kind
    pub below : (i : In) (e : Event) → read i ≡ read_as e → e.kind ≤ 9
