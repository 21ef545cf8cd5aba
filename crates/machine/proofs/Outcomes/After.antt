-- The outcome of each request of the book that an event leaves. Rests on Set and Kept.
use Rattle.std.proofs.Common.{ℕ, ◌≤◌, ◌<◌, arith, ◌≡◌, refl, sym, ap, ◌∙◌, ◌⊎◌, inl, inr, ⊎_elim, false, not, List, eqb, length}
use Rattle.std.proofs.Math.Decide.{dec_lt}
use Rattle.std.proofs.lemmas.List.{get_or_past}
use Rattle.prelude.specs.Cases.{if◌then◌otherwise◌}
use Rattle.prelude.specs.Laws.Cases.{split_if, if_true, if_false}
use Rattle.store.specs.declared.Request.{Request}
use Rattle.store.specs.Book.{Book, request_in, answered}
use Rattle.store.specs.Requests.{no_request}
use Rattle.machine.specs.Changes.{Event, is_answered}
use Rattle.machine.specs.Machine.{step_of, requests_after, after, book_after}
use Rattle.machine.specs.Outcomes.{outcome_by, outcome_after, OutcomesAfter}
use Rattle.machine.specs.declared.Change.{Change}
use Rattle.machine.proofs.Outcomes.Set.{Sets, step_sets}
use Rattle.machine.proofs.Kept.Laws.{decide}
use Rattle.machine.proofs.Kept.Tables.{at}
use Rattle.machine.proofs.Kept.Indexed.{outcome_kept, BookKept, book_kept}
use Rattle.machine.proofs.Kept.Lift.{Settled, after_case, NewAt, after_new}

-- as outcome_after has it, by the request before and after
abbrev becomes : Event → (q r : Request) → ℕ
becomes e q r = if is_answered q then q.outcome otherwise if is_answered r then outcome_by e otherwise 0

past : (qs : List Request) (k : ℕ) → length qs ≤ k → at qs k ≡ no_request
past qs k h = get_or_past qs k no_request h

module _ (b : Book) (e : Event) (good : BookKept b) (k : ℕ) where
  -- nothing has come of an unanswered request
  open_in : is_answered (request_in b k) ≡ false → (request_in b k).outcome ≡ 0
  open_in u = go (dec_lt k (length b.requests))
    where
      go : Dec (k < length b.requests) → (request_in b k).outcome ≡ 0
      go (yes l) = (outcome_kept (request_in b k) (good.request k l).outcome).none u
      go (no l) = ap (λ (q : Request). q.outcome) (past b.requests k (omega arith))

  -- a request that stays as it is
  same : (request_in b k).outcome ≡ becomes e (request_in b k) (request_in b k)
  same = decide (is_answered (request_in b k)) (λ t. sym (if_true _ _ _ t)) (λ u. open_in u ∙ sym (if_false _ _ _ u ∙ if_false _ _ _ u))

  module _ (c : Change) (s : Sets e c) where
    -- one that the change answers
    settled : Settled c k → (answered c.requests.outcome (request_in b k)).outcome ≡ becomes e (request_in b k) (answered c.requests.outcome (request_in b k))
    unfolding is_answered if◌then◌otherwise◌
    settled z = decide (eqb (request_in b k).answered 0) (λ u. rw (u, comes s.came z) refl) (λ t. rw t refl)
      where
        comes : ((c.requests.answered ≡ 0) × (c.requests.superseded ≡ 0) × (c.requests.outcome ≡ 0)) ⊎ (c.requests.outcome ≡ outcome_by e) → Settled c k → c.requests.outcome ≡ outcome_by e
        comes (inr v) z = v
        comes (inl (x, y, v)) (inl z) = absurd (omega arith)
        comes (inl (x, y, v)) (inr z) = absurd (omega arith)

    -- one that is not there before
    new : (r : Request) → length b.requests ≤ k → is_answered r ≡ false → r.outcome ≡ 0 → r.outcome ≡ becomes e (request_in b k) r
    new r h u z = z ∙ sym (if_false _ _ _ (ap (λ (q : Request). is_answered q) (past b.requests k h) ∙ none) ∙ if_false _ _ _ u)
      where
        none : is_answered no_request ≡ false
        none = unfold is_answered in refl

    taken : (at (requests_after b.requests c) k).outcome ≡ becomes e (request_in b k) (at (requests_after b.requests c) k)
    taken = go (dec_lt k (length b.requests)) (dec_lt k (length (requests_after b.requests c)))
      where
        go : Dec (k < length b.requests) → Dec (k < length (requests_after b.requests c)) → (at (requests_after b.requests c) k).outcome ≡ becomes e (request_in b k) (at (requests_after b.requests c) k)
        go (yes l) d = after_case (λ (r : Request). r.outcome ≡ becomes e (request_in b k) r) b.requests c k l same settled
        go (no l) (yes d) = ⊎_elim (λ z. absurd (l z))
            (λ (n : NewAt b.requests c k).
            new _ (omega arith) (ap (λ (q : Request). is_answered q) n.is ∙ (unfold is_answered in ap (λ (x : ℕ). not (eqb x 0)) s.unanswered)) (ap (λ (q : Request). q.outcome) n.is ∙ s.outcome))
            (after_new b.requests c k d)
        go (no l) (no d) =
            let none : at (requests_after b.requests c) k ≡ no_request = past _ k (omega arith) in
            new _ (omega arith) (ap (λ (q : Request). is_answered q) none ∙ (unfold is_answered in refl)) (ap (λ (q : Request). q.outcome) none)

pub outcomes_after : OutcomesAfter
unfolding book_after outcome_after after
outcomes_after b e h k =
    let good : BookKept b = book_kept b h in
    split_if (λ (x : Book). (request_in x k).outcome ≡ becomes e (request_in b k) (request_in x k)) _ (λ t. taken b e good k (step_of b e) (step_sets b e)) (λ t. same b e good k)
