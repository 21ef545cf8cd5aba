-- MANY EVENTS IN ONE CALL, OVER LISTS: `events` is no new kind of step. Its book and its answers are those of calls of `event`, one by one, and so all that is
-- promised of lists of calls is promised of lists that mix `event`, `events`, marks and returns. Rests on Claims, Opens, Outcomes, Net, Marks and events.
-- The proofs are in proofs/Events.
use Rattle.std.specs.Prelude.{ℕ, ◌+◌, ◌*◌, ◌^◌, ◌≤◌, ◌<◌, ◌≡◌, ◌⊎◌, zero, suc, true, false, List, [], ◌∷◌, ◌++◌, eqb, leb, length, take, drop, get_or}
use Rattle.prelude.specs.Cases.{if◌then◌otherwise◌}
use Rattle.prelude.specs.Number.{Bytes, bytes_of, word16}
use Rattle.prelude.specs.Totals.{Every, every∷}
use Rattle.records.specs.Answer.{length_in, answer_messages}
use Rattle.store.specs.Book.{book_of, request_count}
use Rattle.machine.specs.Changes.{Message}
use Rattle.machine.specs.Calls.{line_at, calls, SinceReturn, state_of, just_returned}
use Rattle.machine.specs.Claim.{Demand3, Each}
use Rattle.machine.specs.History.{Entry, State}
use Rattle.machine.specs.Short.{IsWhole}
use Rattle.records.specs.Answer.{length_in}
use Rattle.step.specs.Entries.{Returned, event_of, start_of, start_refusal, check_of}
use Rattle.events.specs.Events.{records_in, most_said, Run, run_one, begun, Many, events_of}
use Rattle.events.specs.Laws.Records.{records_bytes}
use Rattle.claims.specs.Claims.{Call, entries, Passes, Exactly}
use Rattle.claims.specs.Opens.{bytes_after, OpenRight}
use Rattle.claims.specs.Outcomes.{answered_in, outcome_in, SettledBy}
use Rattle.claims.specs.Net.{reported, Says}
use Rattle.claims.specs.Marks.{BookCall, after_call, SinceMark}

-- ---- the calls of `event` that a call of `events` is

-- each record in order, with the answer buffer that it meets: what is left of the answers behind the byte of its refusal
abbrev pub calls_in : (answers : List ℕ) → Run → (records : List (List ℕ)) → Every Bytes records → List Call
calls_in a s [] p = []
calls_in a s (r ∷ rs) (every∷ p ps) =
    if leb (length s.said + most_said) (length a) then record { event = r; answer = drop (length s.said + 1) a; bytes = p } ∷ calls_in a (run_one a s r) rs ps
    otherwise []

abbrev pub calls_of : (book records answers : List ℕ) → Bytes records → List Call
calls_of b rs a p = calls_in a (begun b) (records_in rs) (records_bytes rs p)

-- their records
abbrev pub events_in : List Call → List (List ℕ)
events_in [] = []
events_in (c ∷ cs) = c.event ∷ events_in cs

-- records as `events` reads them, each after its length in 2 bytes
abbrev pub packed : List (List ℕ) → List ℕ
packed [] = []
packed (r ∷ rs) = bytes_of 2 (length r) ++ (r ++ packed rs)

-- what a call of `event` says: its refusal, and its answer if that is 0. Written out, since the definition of `events` is what is judged by it
abbrev pub saying : Returned → List ℕ
saying o = o.returned ∷ (if eqb o.returned 0 then take (length_in o.answer) o.answer otherwise [])

-- what calls of `event` say, one after the other: of each its refusal, and its answer if that is 0
abbrev pub said_by : List ℕ → List Call → List ℕ
said_by b [] = []
said_by b (c ∷ cs) = let o = event_of b c.event c.answer in saying o ++ said_by o.book cs

-- what is heard of an event: its refusal, and its messages, none of a refused one
pub record Heard : Type 0 where
  pub refusal : ℕ
  pub messages : List Message

-- what our reader reads from answers of n events: the byte of a refusal, and behind a 0 an answer, as long as its first two bytes say
abbrev pub heard_from : (n : ℕ) → List ℕ → List Heard
heard_from zero w = []
heard_from (suc n) w =
    if eqb (get_or w 0 0) 0 then record { refusal = 0; messages = answer_messages (drop 1 w) } ∷ heard_from n (drop (1 + length_in (drop 1 w)) w)
    otherwise record { refusal = get_or w 0 0; messages = [] } ∷ heard_from n (drop 1 w)

-- the same of the lines of the history
abbrev pub heard_by : List ℕ → List Call → List Heard
heard_by b [] = []
heard_by b (c ∷ cs) = record { refusal = (line_at entries b c).refusal; messages = (line_at entries b c).messages } ∷ heard_by (event_of b c.event c.answer).book cs

-- a call of `events` on b is these calls of `event`
pub record OneByOne (b rs : List ℕ) (m : Many) (cs : List Call) : Type 0 where
  -- they are of the first whole records, in order
  pub records : events_in cs ≡ take (length cs) (records_in rs)
  -- each with room for its answer, so that none is refused with 2
  pub room : Every (λ (c : Call). 1024 ≤ length c.answer) cs
  -- the book that is left is the one after them, and so is the history's
  pub book : m.book ≡ bytes_after b cs
  pub history : book_of m.book ≡ (calls entries b [] cs).book
  -- so many are counted
  pub events : m.returned.events ≡ length cs
  -- the bytes read are their records, each after its length
  pub read : take m.returned.read rs ≡ packed (events_in cs)
  -- the bytes written are what they say
  pub written : take m.returned.written m.answers ≡ said_by b cs
  -- our reader reads from them what the history has, and each refusal is 0 or one of 3 to 7
  pub heard : heard_from m.returned.events m.answers ≡ heard_by b cs
  pub refusals : Every (λ (t : Heard). (t.refusal ≡ 0) ⊎ ((3 ≤ t.refusal) × (t.refusal ≤ 7))) (heard_by b cs)

-- ---- what a call changes, and what it does not

pub record Within (b rs a : List ℕ) (m : Many) : Type 0 where
  -- each number has its one condition
  pub most : m.returned.refusal ≤ 2
  pub one : Exactly (m.returned.refusal ≡ 1) (check_of b ≡ 1)
  pub two : Exactly (m.returned.refusal ≡ 2) ((check_of b ≡ 0) × (length a < 1025))
  -- a refused call has written nothing, and says 0 everywhere
  pub refused : (m.returned.refusal ≡ 0 → ⊥)
      → m ≡ record { returned = record { refusal = m.returned.refusal; events = 0; read = 0; written = 0 }; book = b; answers = a }
  -- no more is read or written than there is, and the answers behind what is written are as they were
  pub read : m.returned.read ≤ length rs
  pub written : m.returned.written ≤ length a
  pub behind : drop m.returned.written m.answers ≡ drop m.returned.written a
  -- the lengths stay, and a book that check passes is left as one
  pub answers : length m.answers ≡ length a
  pub book : Bytes b → length m.book ≡ length b
  pub passes : Passes b → Passes m.book

-- ---- where it stops

-- no whole record: fewer than the 2 bytes of a length, or fewer bytes behind them than it says
abbrev pub Partial : List ℕ → Type 0
Partial x = (length x < 2) ⊎ (length x < 2 + word16 x 0)

-- no whole record is left unread
abbrev pub ReadAll : List ℕ → Many → Type 0
ReadAll rs m = Partial (drop m.returned.read rs)

pub record Stops (b rs a : List ℕ) (m : Many) : Type 0 where
  -- if 1,025 bytes are left, no whole record is left, and the next one that comes behind the records is run
  pub rest : m.returned.written + 1025 ≤ length a → ReadAll rs m
  pub next : m.returned.written + 1025 ≤ length a → (more : List ℕ) → (Partial (drop m.returned.read rs ++ more) → ⊥)
      → m.returned.events < (events_of b (rs ++ more) a).returned.events
  -- if fewer are left, it has stopped for want of room: whatever comes behind the records, nothing more is run
  pub full : length a < m.returned.written + 1025 → (more : List ℕ) → events_of b (rs ++ more) a ≡ m
  -- 1,025 bytes for each whole record are enough for all
  pub enough : 1025 * length (records_in rs) ≤ length a → ReadAll rs m

-- ---- cut in two

-- two calls leave what one does: the book, the bytes written, one behind the other, and the numbers
pub record Joins (first second whole : Many) : Type 0 where
  pub book : second.book ≡ whole.book
  pub written : take first.returned.written first.answers ++ take second.returned.written second.answers ≡ take whole.returned.written whole.answers
  pub events : first.returned.events + second.returned.events ≡ whole.returned.events
  pub read : first.returned.read + second.returned.read ≡ whole.returned.read

-- records cut at any byte, the second call starting where the first stopped reading. If neither the second nor the call on the whole leaves a whole record for
-- want of room, they leave the same; the first may stop anywhere, and may be refused with 2
abbrev pub CutInTwo : Type 0
CutInTwo = (b rs a a1 a2 : List ℕ) (at : ℕ) → Passes b → Bytes rs
    → let first = events_of b (take at rs) a1 in let behind = drop first.returned.read rs in let second = events_of first.book behind a2 in let whole = events_of b rs a in
    ReadAll behind second → ReadAll rs whole → Joins first second whole

-- ---- lists that mix `event` and `events`

pub data Taking : Type 0 where
  one : Call → Taking
  several : (records answers : List ℕ) → Bytes records → Taking

-- the events of a call, one by one, and the book that the call itself leaves
abbrev pub singly : List ℕ → Taking → List Call
singly b (one c) = c ∷ []
singly b (several rs a p) = calls_of b rs a p

abbrev pub book_left : List ℕ → Taking → List ℕ
book_left b (one c) = (event_of b c.event c.answer).book
book_left b (several rs a p) = (events_of b rs a).book

abbrev pub all_singly : List ℕ → List Taking → List Call
all_singly b [] = []
all_singly b (t ∷ ts) = singly b t ++ all_singly (book_left b t) ts

abbrev pub all_left : List ℕ → List Taking → List ℕ
all_left b [] = b
all_left b (t ∷ ts) = all_left (book_left b t) ts

-- the lines of the history that calls add, latest first
abbrev pub lines_of : List ℕ → List Call → List Entry
lines_of b cs = (calls entries b [] cs).past

-- the book that the calls leave, and the history
abbrev pub state_left : List ℕ → List Taking → State
state_left b ts = record { book = book_of (all_left b ts); past = lines_of b (all_singly b ts) }

-- what is promised of lists of calls of `event`, of the book that calls of both kinds leave
pub record TakingOnBytes : Type 0 where
  -- one by one, they leave the same book
  pub same : (b : List ℕ) → Passes b → (ts : List Taking) → all_left b ts ≡ bytes_after b (all_singly b ts)
  pub demand3 : (b : List ℕ) (setting : ℕ) → setting < 2 ^ 32 → start_refusal b ≡ 0 → (ts : List Taking) → Demand3 (state_left (start_of b setting) ts)
  pub filled_whole : (b : List ℕ) (setting : ℕ) → setting < 2 ^ 32 → start_refusal b ≡ 0 → (ts : List Taking) → Each (state_left (start_of b setting) ts) IsWhole
  pub net : (b : List ℕ) (setting : ℕ) → setting < 2 ^ 32 → start_refusal b ≡ 0 → (ts : List Taking)
      → Says (all_left (start_of b setting) ts) (λ client symbol. reported client symbol (state_left (start_of b setting) ts).past)
  pub opens : (b : List ℕ) (setting : ℕ) → start_refusal b ≡ 0 → (ts : List Taking) → OpenRight (all_left (start_of b setting) ts)
  -- an outcome other than 0 stays, and is what the first event made of it after which the request is answered
  pub good : (b : List ℕ) → Passes b → (ts : List Taking) (k : ℕ) → k < request_count b → (outcome_in b k ≡ 0 → ⊥) → outcome_in (all_left b ts) k ≡ outcome_in b k
  pub settled : (b : List ℕ) → Passes b → (ts : List Taking) (k : ℕ) → answered_in b k ≡ false → answered_in (all_left b ts) k ≡ true → SettledBy b (all_singly b ts) k

-- ---- with marks and returns

-- a call that takes events, a call of marks, or a return to any bytes that check passes
pub data Mixed : Type 0 where
  taking : Taking → Mixed
  calling : BookCall → Mixed
  put_back : (image : List ℕ) → Passes image → Mixed

abbrev pub after_mixed : SinceReturn entries → Mixed → SinceReturn entries
after_mixed s (taking t) = record { image = s.image; held = book_left s.held t; past = lines_of s.held (singly s.held t) ++ s.past }
after_mixed s (calling c) = after_call s c
after_mixed s (put_back image p) = just_returned entries image

abbrev pub after_all : SinceReturn entries → List Mixed → SinceReturn entries
after_all s [] = s
after_all s (m ∷ ms) = after_all (after_mixed s m) ms

-- ---- the theorem

pub record EventsOnBytes : Type 0 where
  -- the history is that of the calls of `event`, one by one, whatever the answers' length
  pub one_by_one : (b rs a : List ℕ) → Passes b → (bytes : Bytes rs) → OneByOne b rs (events_of b rs a) (calls_of b rs a bytes)
  pub within : (b rs a : List ℕ) → Bytes rs → Within b rs a (events_of b rs a)
  pub stops : (b rs a : List ℕ) → Passes b → Bytes rs → Stops b rs a (events_of b rs a)
  pub cut_in_two : CutInTwo
  pub taking : TakingOnBytes
  -- SINCE A RETURN: from any bytes that check passes, over lists that mix all calls and returns (Marks, `SinceMark`), and the open quantities then
  pub since : (b : List ℕ) → Passes b → (ms : List Mixed) → let s = after_all (just_returned entries b) ms in SinceMark s × OpenRight s.held
  -- and demand 3 as it stands from the empty book, if that is the image
  pub empty : (b : List ℕ) (setting : ℕ) → setting < 2 ^ 32 → start_refusal b ≡ 0 → (ms : List Mixed)
      → let s = after_all (just_returned entries (start_of b setting)) ms in s.image ≡ start_of b setting → Demand3 (state_of entries s)
