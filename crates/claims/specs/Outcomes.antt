-- What came of each request, and what `check` asks of it (change request 9), on bytes. Rests on Claims, Opens (`bytes_after`) and machine's Outcomes.
use Rattle.std.specs.Prelude.{ℕ, ◌+◌, ◌≤◌, ◌<◌, ◌≡◌, ◌⊎◌, Bool, true, false, List, [], ◌∷◌, ◌++◌}
use Rattle.prelude.specs.Number.{Bytes}
use Rattle.prelude.specs.Span.{splice}
use Rattle.prelude.specs.Texts.{same_text}
use Rattle.format.specs.Codes.{rejected, exec_rejected}
use Rattle.records.specs.Record.{event_in}
use Rattle.store.specs.declared.Request.{Request}
use Rattle.store.specs.Layout.{request_base, request·outcome}
use Rattle.store.specs.Book.{book_of, request_in, request_count, origin_at}
use Rattle.machine.specs.Orders.{is_empty}
use Rattle.machine.specs.Changes.{Event, is_answered}
use Rattle.machine.specs.Rules.{number_in, outcome_rule, origin_rule}
use Rattle.machine.specs.Outcomes.{outcome_by, outcome_after}
use Rattle.index.specs.Index.{links_right, opens_right}
use Rattle.rules.specs.Keeps.{ruled_of}
use Rattle.step.specs.Entries.{event_of, check_of}
use Rattle.claims.specs.Claims.{Call, Passes, Exactly}
use Rattle.claims.specs.Opens.{bytes_after}

-- request k is answered; one that is not there is not
abbrev pub answered_in : List ℕ → ℕ → Bool
answered_in b k = is_answered (request_in (book_of b) k)

-- what came of it, 0 of one that is not there
abbrev pub outcome_in : List ℕ → ℕ → ℕ
outcome_in b k = (request_in (book_of b) k).outcome

-- ---- what it comes to

-- what a request that the event settles comes to: 1 accepted, by a report whose status and ExecType are both not 8; 3 failed to send, by an event 7; 2 refused, by all else
pub record Spelled (e : Event) : Type 0 where
  pub accepted : Exactly (outcome_by e ≡ 1) ((e.kind ≡ 4) × (e.exec.status ≡ rejected → ⊥) × (e.exec.exectype ≡ exec_rejected → ⊥))
  pub failed : Exactly (outcome_by e ≡ 3) (e.kind ≡ 7)
  pub refused : (outcome_by e ≡ 1 → ⊥) → (outcome_by e ≡ 3 → ⊥) → outcome_by e ≡ 2

-- the first call of a list after which request k is answered; it is taken, and what came of the request is what that call made of it
pub record SettledBy (b : List ℕ) (cs : List Call) (k : ℕ) : Type 0 where
  pub before : List Call
  pub call : Call
  pub behind : List Call
  pub splits : cs ≡ before ++ (call ∷ behind)
  pub taken : (event_of (bytes_after b before) call.event call.answer).returned ≡ 0
  pub unanswered : answered_in (bytes_after b before) k ≡ false
  pub answered : answered_in (bytes_after b (before ++ (call ∷ []))) k ≡ true
  pub outcome : outcome_in (bytes_after b cs) k ≡ outcome_by (event_in call.event)

-- ---- what check asks

-- what came of a request
pub record RightOutcome (q : Request) : Type 0 where
  -- 0 exactly if it is unanswered
  pub none : Exactly (q.outcome ≡ 0) (is_answered q ≡ false)
  pub most : q.outcome ≤ 3

-- an earlier request, of the same order and numbered lower in it, with the OrigClOrdID of request k as its ClOrdID
pub record Earlier (b : List ℕ) (k : ℕ) : Type 0 where
  pub at : ℕ
  -- the one of the link
  pub link : origin_at b k ≡ at + 1
  pub below : at < k
  pub order : (request_in (book_of b) at).order ≡ (request_in (book_of b) k).order
  pub number : number_in (book_of b).requests at < number_in (book_of b).requests k
  pub text : same_text (request_in (book_of b) at).clordid (request_in (book_of b) k).origclordid ≡ true

-- what stands beside request k: the link, if it has an OrigClOrdID
abbrev pub RightOrigin : List ℕ → ℕ → Type 0
RightOrigin b k = (is_empty (request_in (book_of b) k).origclordid ≡ true) ⊎ Earlier b k

-- the same by the requests alone, whatever link is stored: a request of request k's order that stands before it, with its OrigClOrdID as ClOrdID
pub record Borne (b : List ℕ) (k : ℕ) : Type 0 where
  pub at : ℕ
  pub below : at < k
  pub order : (request_in (book_of b) at).order ≡ (request_in (book_of b) k).order
  pub text : same_text (request_in (book_of b) at).clordid (request_in (book_of b) k).origclordid ≡ true

-- 0 for an answered request, another than 0 for an unanswered, or above 3
abbrev pub Wrong : List ℕ → (k outcome : ℕ) → Type 0
Wrong b k v = ((answered_in b k ≡ true) × (v ≡ 0)) ⊎ (((answered_in b k ≡ false) × (v ≡ 0 → ⊥)) ⊎ (3 < v))

-- ---- the theorem

pub record OutcomesOnBytes : Type 0 where
  -- a call that is taken: a request that was answered keeps its outcome, one that is answered now has the event's, and any other has 0, one that is added too
  pub line : (b r a : List ℕ) → Bytes b → Bytes r → (event_of b r a).returned ≡ 0 → (k : ℕ)
      → outcome_in (event_of b r a).book k ≡ outcome_after (book_of b) (book_of (event_of b r a).book) (event_in r) k
  pub added : (b r a : List ℕ) → Bytes b → Bytes r → (event_of b r a).returned ≡ 0 → (k : ℕ) → request_count b ≤ k → k < request_count (event_of b r a).book
      → outcome_in (event_of b r a).book k ≡ 0
  -- for good: from any bytes that check passes, over any list of calls, an outcome other than 0 stays
  pub good : (b : List ℕ) → Passes b → (cs : List Call) (k : ℕ) → k < request_count b → (outcome_in b k ≡ 0 → ⊥) → outcome_in (bytes_after b cs) k ≡ outcome_in b k
  -- and so a request that was unanswered, or not there, and is answered at the end has what the first call made of it after which it is answered
  pub first : (b : List ℕ) → Passes b → (cs : List Call) (k : ℕ) → answered_in b k ≡ false → answered_in (bytes_after b cs) k ≡ true → SettledBy b cs k
  pub spelled : (e : Event) → Spelled e
  -- check passes bytes only if what came of each request and what stands beside it are right
  pub rule : (b : List ℕ) → check_of b ≡ 0 → (k : ℕ) → k < request_count b → RightOutcome (request_in (book_of b) k) × RightOrigin b k
  -- and no more is asked: machine's rules of what came of a request and of its OrigClOrdID are just these
  pub alone : (q : Request) → Exactly (outcome_rule q ≡ true) (RightOutcome q)
  pub borne : (b : List ℕ) (k : ℕ) → Exactly (origin_rule (book_of b).requests k ≡ true) ((is_empty (request_in (book_of b) k).origclordid ≡ true) ⊎ Borne b k)
  -- on a book that keeps machine's rules, the links are right exactly if each leads to such a request
  pub links : (b : List ℕ) → ruled_of b ≡ true → Exactly (links_right b ≡ true) ((k : ℕ) → k < request_count b → RightOrigin b k)
  -- check passes exactly the books that keep machine's rules and have right sums and links
  pub exact : (b : List ℕ) → Exactly (check_of b ≡ 0) ((ruled_of b ≡ true) × (opens_right b ≡ true) × (links_right b ≡ true))
  -- on any book, another outcome byte is refused with 1, by every event too
  pub bytes : (b : List ℕ) (k v : ℕ) → k < request_count b → Wrong b k v
      → let d = splice b (request_base k + request·outcome) (v ∷ []) in (check_of d ≡ 1) × ((r a : List ℕ) → (event_of d r a).returned ≡ 1)
