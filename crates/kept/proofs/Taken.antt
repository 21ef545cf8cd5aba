-- A call by the questions that it is asked, and what an event that is taken leaves: a book that keeps its rules, the machine's, of the same length.
-- Rests on Written and Header, and on machine's step_keeps and whole_kept.
use Rattle.std.proofs.Common.{ℕ, ◌≤◌, ◌<◌, arith, ◌≡◌, refl, sym, ap, ◌∙◌, subst, ⊎_elim, Bool, true, false, not, List, eqb, ltb, length, eqb-true, eq-eqb, ltb-true, ltb-false}
use Rattle.std.proofs.lemmas.Bool.{eqb-false, not-true, not-false}
use Rattle.prelude.specs.Laws.Cases.{split_if, if_true, if_false, clash}
use Rattle.prelude.specs.Number.{Bytes}
use Rattle.prelude.specs.Span.{splice}
use Rattle.records.specs.Record.{event_in}
use Rattle.records.specs.Answer.{answer_bytes}
use Rattle.store.specs.Book.{Book, book_of}
use Rattle.machine.specs.declared.Change.{Change}
use Rattle.machine.specs.Changes.{Event, refusing}
use Rattle.machine.specs.Machine.{has_room, change_of, step_of, after, book_after}
use Rattle.machine.specs.Rules.{rules}
use Rattle.machine.specs.History.{messages_of}
use Rattle.machine.specs.Events.{Ranged}
use Rattle.machine.specs.Outcomes.{outcome_by}
use Rattle.machine.specs.Whole.{WholeBook}
use Rattle.machine.proofs.Claim.Ruled.{ruled}
use Rattle.machine.proofs.Kept.Indexed.{book_kept}
use Rattle.machine.proofs.Kept.Steps.{step_keeps}
use Rattle.machine.proofs.Kept.Whole.{whole_kept}
use Rattle.machine.proofs.Outcomes.Set.{outcome_set}
use Rattle.machine.proofs.Said.Reads.{event_ranged, event_whole}
use Rattle.rules.specs.Keeps.{keeps_of}
use Rattle.step.specs.Entries.{book_with, Returned, returned, call_of, event_of}
use Rattle.kept.proofs.Written.{whole_held, order_written, request_written, Writes, change_writes}
use Rattle.kept.proofs.Header.{Headed, change_head}
use Rattle.kept.proofs.Words.{opens_after}
use Rattle.kept.proofs.Origin.{step_added}
use Rattle.kept.proofs.Links.{links_after}
use Rattle.format.specs.Refusal.{event_refusal}
use Rattle.rules.specs.Laws.Ruled.{Held}
use Rattle.rules.specs.Laws.Keeps.{keeps_held, keeps_links, held_keeps}
use Rattle.index.specs.Laws.Moved.{step_clients}

-- ---- the questions

pub data Asked (b r a : List ℕ) : Change → Type 0 where
  broken : keeps_of b ≡ false → Asked b r a (refusing 1)
  short : keeps_of b ≡ true → length a < 1024 → Asked b r a (refusing 2)
  unreadable : keeps_of b ≡ true → 1024 ≤ length a → (event_refusal r ≡ 0 → ⊥) → Asked b r a (refusing (event_refusal r))
  stepped : keeps_of b ≡ true → 1024 ≤ length a → event_refusal r ≡ 0 → Asked b r a (step_of (book_of b) (event_in r))

pub asked : (b r a : List ℕ) → Asked b r a (call_of b r (length a))
unfolding call_of
asked b r a =
    split_if (Asked b r a) (not (keeps_of b)) (λ t. broken (not-true (keeps_of b) t))
    (λ t. let k : keeps_of b ≡ true = not-false (keeps_of b) t in
    split_if (Asked b r a) (ltb (length a) 1024) (λ u. short k (ltb-true (length a) 1024 u))
    (λ u. let l : 1024 ≤ length a = ltb-false (length a) 1024 u in
    split_if (Asked b r a) (not (eqb (event_refusal r) 0)) (λ v. unreadable k l (eqb-false _ 0 (not-true _ v))) (λ v. stepped k l (eqb-true _ 0 (not-false _ v)))))

-- what is known of a call that is taken
pub record Taken (b r a : List ℕ) : Type 0 where
  pub keeps : keeps_of b ≡ true
  pub room : 1024 ≤ length a
  pub reads : event_refusal r ≡ 0
  pub is : call_of b r (length a) ≡ step_of (book_of b) (event_in r)
  pub taken : (step_of (book_of b) (event_in r)).refusal ≡ 0

taken_by : (b r a : List ℕ) (c : Change) → call_of b r (length a) ≡ c → Asked b r a c → c.refusal ≡ 0 → Taken b r a
unfolding refusing
taken_by b r a c w (broken k) z = absurd (omega arith)
taken_by b r a c w (short k l) z = absurd (omega arith)
taken_by b r a c w (unreadable k l n) z = absurd (n z)
taken_by b r a c w (stepped k l e) z = record { keeps = k; room = l; reads = e; is = w; taken = z }

pub call_taken : (b r a : List ℕ) → (call_of b r (length a)).refusal ≡ 0 → Taken b r a
call_taken b r a z = taken_by b r a (call_of b r (length a)) refl (asked b r a) z

-- ---- what a call returns

abbrev pub left : (b r a : List ℕ) → Change → Returned
left b r a c = returned 0 (book_with b c) (splice a 0 (answer_bytes c.output.alarm c.output.alarm2 (messages_of c)))

pub event_taken : (b r a : List ℕ) → eqb (call_of b r (length a)).refusal 0 ≡ true → event_of b r a ≡ left b r a (call_of b r (length a))
unfolding event_of
event_taken b r a e = if_true _ _ _ e

pub event_refused : (b r a : List ℕ) → eqb (call_of b r (length a)).refusal 0 ≡ false → event_of b r a ≡ returned (call_of b r (length a)).refusal b a
unfolding event_of
event_refused b r a e = if_false _ _ _ e

pub returned_is : (b r a : List ℕ) → (event_of b r a).returned ≡ (call_of b r (length a)).refusal
unfolding event_of
returned_is b r a = split_if (λ (o : Returned). o.returned ≡ (call_of b r (length a)).refusal) _ (λ e. sym (eqb-true _ 0 e)) (λ e. refl)

-- ---- the book that is left

few_outcomes : (b : Book) (e : Event) → (step_of b e).requests.outcome ≤ 3
unfolding outcome_by
few_outcomes b e = ⊎_elim (λ z. omega (arith, z.2)) (λ z. subst (λ (n : ℕ). n ≤ 3) (sym z) few) (outcome_set b e)
  where
    few : outcome_by e ≤ 3
    few = let P : ℕ → Type 0 = λ n. n ≤ 3 in split_if P _ (λ h. omega arith) (λ h. split_if P _ (λ g. omega arith) (λ g. omega arith))

pub step_room : (b : Book) (e : Event) → (step_of b e).refusal ≡ 0 → has_room b (step_of b e) ≡ true
unfolding step_of refusing
step_room b e =
    let P : Change → Type 0 = λ c. c.refusal ≡ 0 → has_room b c ≡ true in
    split_if P (not (eqb (change_of b e).refusal 0)) (λ t z. clash _ (eq-eqb _ 0 z) (not-true _ t))
    (λ t. split_if P (has_room b (change_of b e)) (λ h z. h) (λ h z. absurd (omega arith)))

pub after_is : (b : Book) (e : Event) → (step_of b e).refusal ≡ 0 → book_after b e ≡ after b (step_of b e)
unfolding book_after
after_is b e z = if_true _ _ _ (eq-eqb _ 0 z)

module _ (b r : List ℕ) (bytes : Bytes b) (bytes' : Bytes r) (keeps : keeps_of b ≡ true) (reads : event_refusal r ≡ 0) (taken : (step_of (book_of b) (event_in r)).refusal ≡ 0) where
  abbrev e : Event
  e = event_in r

  abbrev c : Change
  c = step_of (book_of b) e

  held : Held b
  held = keeps_held b keeps

  pub whole : WholeBook (book_of b)
  whole = whole_held b held bytes

  ranged : Ranged e
  ranged = event_ranged r bytes' reads

  pub whole_after : WholeBook (after (book_of b) c)
  whole_after = subst WholeBook (after_is (book_of b) e taken) (whole_kept (book_of b) e ranged (event_whole r bytes' reads) held.rules whole)

  rules_after : rules (after (book_of b) c) ≡ true
  rules_after = ap rules (sym (after_is (book_of b) e taken)) ∙ step_keeps (book_of b) e ranged held.rules

  -- an outcome is a byte
  pub small : c.requests.outcome ≤ 3
  small = few_outcomes (book_of b) e

  pub writes : Writes b c
  writes = change_writes b c small held.long (step_room (book_of b) e taken) whole_after

  head : Headed (book_with b c)
  head =
      change_head b c (record { long = held.long; orders = omega (arith, held.orders, held.few_orders); requests = omega (arith, held.requests, held.few_requests) })
      (order_written (book_of b) c whole_after) (request_written (book_of b) c whole_after)

  pub keeps_after : keeps_of (book_with b c) ≡ true
  keeps_after =
      held_keeps (book_with b c) head.long head.orders head.requests (ap rules writes.is ∙ rules_after)
      (links_after b c held.long (keeps_links b keeps) (book_kept (book_of b) held.rules) (book_kept (after (book_of b) c) rules_after) (step_room (book_of b) e taken) whole_after
      (step_added (book_of b) e (ruled (book_of b) held.rules) taken) small writes)
      (opens_after b c keeps writes rules_after whole_after (step_clients (book_of b) e held.rules taken))

-- ---- one call, taken or refused

-- a book that keeps its rules is left as one
pub event_keeps : (b r a : List ℕ) → Bytes b → Bytes r → keeps_of b ≡ true → keeps_of (event_of b r a).book ≡ true
event_keeps b r a bytes bytes' keeps = go (eqb (call_of b r (length a)).refusal 0) refl
  where
    go : (t : Bool) → eqb (call_of b r (length a)).refusal 0 ≡ t → keeps_of (event_of b r a).book ≡ true
    go true e =
        let t : Taken b r a = call_taken b r a (eqb-true _ 0 e) in
        rw (event_taken b r a e) (ap (λ (c : Change). keeps_of (book_with b c)) t.is ∙ keeps_after b r bytes bytes' t.keeps t.reads t.taken)
    go false e = rw (event_refused b r a e) keeps
