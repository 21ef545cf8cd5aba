-- MANY EVENTS IN ONE CALL: each record stands after its length in 2 bytes, and all of them are run in order, each as `event` runs it on the book that the one
-- before it left. What stands in quotes is the desk's wording. Rests on step's `event_of` and rules' `keeps_of`.
use Rattle.std.specs.Prelude.{ℕ, zero, suc, ◌+◌, not, ◌&&◌, Bool, List, [], ◌∷◌, ◌++◌, eqb, leb, ltb, length, take, drop}
use Rattle.prelude.specs.Cases.{if◌then◌otherwise◌}
use Rattle.prelude.specs.Number.{word16}
use Rattle.prelude.specs.Span.{span, splice}
use Rattle.records.specs.Answer.{shortest_answer, length_in}
use Rattle.rules.specs.Keeps.{keeps_of}
use Rattle.step.specs.Entries.{Returned, event_of}
use Rattle.events.specs.declared.Ran.{Ran}

-- ---- the records

-- "a whole record is there (length and bytes)"
unfoldable pub has_whole : List ℕ → Bool
has_whole rs = leb 2 (length rs) && leb (2 + word16 rs 0) (length rs)

-- the whole records at the front, at most n. "A record cut by the end is left for the next call."
abbrev pub records_from : (n : ℕ) → List ℕ → List (List ℕ)
records_from zero rs = []
records_from (suc n) rs = if has_whole rs then span rs 2 (word16 rs 0) ∷ records_from n (drop (2 + word16 rs 0) rs) otherwise []

-- as many as there are bytes are enough
unfoldable pub records_in : List ℕ → List (List ℕ)
records_in rs = records_from (length rs) rs

-- ---- the run

-- "at least 1,025 bytes": a refusal and the answer of an event
abbrev pub most_said : ℕ
most_said = 1 + shortest_answer

-- what has been run: the book that is left, what has been said, how many events, and how many bytes of the records they took
pub record Run : Type 0 where
  pub book : List ℕ
  pub said : List ℕ
  pub events : ℕ
  pub read : ℕ

-- "for each record the answers get a byte with its refusal and, if that is 0, its answer, whose first two bytes are its length"
unfoldable pub said_of : Returned → List ℕ
said_of o = o.returned ∷ (if eqb o.returned 0 then take (length_in o.answer) o.answer otherwise [])

-- one more event: `event`, with what is left of the answers behind the byte of its refusal
unfoldable pub run_one : (answers : List ℕ) → Run → (event : List ℕ) → Run
run_one answers s r =
    let o = event_of s.book r (drop (length s.said + 1) answers) in
    record { book = o.book; said = s.said ++ said_of o; events = s.events + 1; read = s.read + (2 + length r) }

-- "the records are run in order, .., as long as .. at least 1,025 bytes of `answers` are left"
abbrev pub run : (answers : List ℕ) → Run → List (List ℕ) → Run
run answers s [] = s
run answers s (r ∷ rs) = if leb (length s.said + most_said) (length answers) then run answers (run_one answers s r) rs otherwise s

abbrev pub begun : List ℕ → Run
begun b = record { book = b; said = []; events = 0; read = 0 }

-- ---- the call

-- what it returns, and what the book and the answers are then
pub record Many : Type 0 where
  pub returned : Ran
  pub book : List ℕ
  pub answers : List ℕ

abbrev pub many : Ran → (book answers : List ℕ) → Many
many n b a = record { returned = n; book = b; answers = a }

-- "then all numbers are 0 and nothing is written"
abbrev pub refusing : (refusal : ℕ) → Ran
refusing n = record { refusal = n; events = 0; read = 0; written = 0 }

-- what a run comes to: what it said stands at the front of the answers, "the bytes behind `written` do not change"
unfoldable pub ran : (answers : List ℕ) → Run → Many
ran answers s = many (record { refusal = 0; events = s.events; read = s.read; written = length s.said }) s.book (splice answers 0 s.said)

-- `events`: 1 as `event` has it, then 2 if the answers have fewer than 1,025 bytes
unfoldable pub events_of : (book records answers : List ℕ) → Many
events_of b rs a =
    if not (keeps_of b) then many (refusing 1) b a
    otherwise if ltb (length a) most_said then many (refusing 2) b a
    otherwise ran a (run a (begun b) (records_in rs))
