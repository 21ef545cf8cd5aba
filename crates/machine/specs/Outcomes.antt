-- THE OUTCOME of a request (change request 9): what an event makes of it. What stands in quotes is the desk's wording. Rests on Machine and Rules.
-- The proofs are in proofs/.
use Rattle.std.specs.Prelude.{ℕ, ◌≡◌, ◌⊎◌, true, not, ◌&&◌, eqb}
use Rattle.prelude.specs.Cases.{if◌then◌otherwise◌}
use Rattle.format.specs.Codes.{rejected, exec_rejected}
use Rattle.store.specs.Book.{Book, request_in}
use Rattle.machine.specs.Constants.{accepted, refused, failed_to_send}
use Rattle.machine.specs.Changes.{Event, is_answered}
use Rattle.machine.specs.Machine.{step_of, book_after}
use Rattle.machine.specs.Rules.{rules}

-- what the requests that an event settles come to: accepted if "`venue_report` set it, neither status nor ExecType being 8", failed to send if "an
-- event 7 set it", refused for "all else", an event 8 too
unfoldable pub outcome_by : Event → ℕ
outcome_by e =
    if eqb e.kind 7 then failed_to_send
    otherwise if eqb e.kind 4 && not (eqb e.exec.status rejected) && not (eqb e.exec.exectype exec_rejected) then accepted
    otherwise refused

-- set if `answered` is, and never again: the outcome of request k, of the book before the event and the book that it left
unfoldable pub outcome_after : (before left : Book) → Event → (k : ℕ) → ℕ
outcome_after before left event k =
    if is_answered (request_in before k) then (request_in before k).outcome
    otherwise if is_answered (request_in left k) then outcome_by event
    otherwise 0

-- a change that answers or supersedes a request says that it comes to what the event makes of it; one that does neither has 0
abbrev pub OutcomeSet : Type 0
OutcomeSet = (b : Book) (e : Event) → let r = (step_of b e).requests in ((r.answered ≡ 0) × (r.superseded ≡ 0) × (r.outcome ≡ 0)) ⊎ (r.outcome ≡ outcome_by e)

-- so of every request of every book that keeps its rules, and every event
abbrev pub OutcomesAfter : Type 0
OutcomesAfter = (b : Book) (e : Event) → rules b ≡ true → (k : ℕ) → (request_in (book_after b e) k).outcome ≡ outcome_after b (book_after b e) e k
