-- What came of each request, on bytes: an event sets an outcome once, so over a list of calls it stays; and another outcome byte is refused. Rests on Rules,
-- Taken, Calls and Demands, and on machine's theorem of what an event makes of an outcome.
use Rattle.std.proofs.Common.{ℕ, ◌+◌, ◌≤◌, ◌<◌, arith, ◌≡◌, refl, sym, ap, subst, ◌∙◌, ◌⊎◌, inl, inr, Bool, true, false, not, List, [], ◌∷◌, eqb, length, eqb-true}
use Rattle.std.proofs.Math.Decide.{ℕ_discrete, dec_lt}
use Rattle.std.proofs.Math.ListN.{get_or-eq_default}
use Rattle.std.proofs.lemmas.Bool.{eqb-false, cases_Bool}
use Rattle.prelude.specs.Cases.{if◌then◌otherwise◌}
use Rattle.prelude.specs.Laws.Cases.{if_true, if_false, clash}
use Rattle.prelude.specs.Number.{Bytes}
use Rattle.prelude.specs.Span.{splice}
use Rattle.prelude.specs.Laws.Span.{length_splice, span_byte, span_splice_same, span_splice_before}
use Rattle.format.specs.Codes.{rejected, exec_rejected}
use Rattle.records.specs.Record.{event_in}
use Rattle.store.specs.declared.Request.{Request}
use Rattle.store.specs.Layout.{book_size, header·requests, most_requests, request_base, request·answered, request·outcome}
use Rattle.store.specs.Requests.{no_request}
use Rattle.store.specs.Book.{Book, book_of, request_in, request_count}
use Rattle.store.specs.Laws.Cells.{same_8}
use Rattle.store.specs.Laws.Fields.{request_answered, request_outcome}
use Rattle.store.specs.Laws.Tables.{same_count}
use Rattle.store.specs.Laws.Stored.{count_book, count_most, length_requests, request_in_lem}
use Rattle.machine.specs.declared.Change.{Change}
use Rattle.machine.specs.Changes.{Event, is_answered}
use Rattle.machine.specs.Machine.{step_of, after}
use Rattle.machine.specs.Outcomes.{outcome_by, outcome_after}
use Rattle.rules.specs.Keeps.{keeps_of}
use Rattle.rules.specs.Laws.Keeps.{keeps_held}
use Rattle.step.specs.Entries.{Returned, book_with, event_of, check_of}
use Rattle.claims.specs.Claims.{Call}
use Rattle.claims.specs.Opens.{bytes_after}
use Rattle.claims.specs.Outcomes.{answered_in, outcome_in, Spelled, SettledBy, Wrong, OutcomesOnBytes}
use Rattle.kept.proofs.Taken.{Taken, writes, after_is}
use Rattle.claims.proofs.Taken.{check_broken, kept_check, either_way}
use Rattle.claims.proofs.Calls.{Good, faithful}
use Rattle.claims.proofs.Demands.{demand1}
use Rattle.machine.proofs.Kept.Indexed.{OutcomeKept}
use Rattle.machine.proofs.Claim.Records.{added_at, added_long, none_kept}
use Rattle.machine.proofs.Outcomes.Set.{step_sets}
use Rattle.machine.proofs.Outcomes.After.{outcomes_after}
use Rattle.claims.proofs.Rules.{ruled, settled, alone, borne, rule, links, exact}

-- ---- a request that is not there

-- a request that is not there is unanswered
past_unanswered : (b : List ℕ) (k : ℕ) → request_count b ≤ k → answered_in b k ≡ false
unfolding is_answered
past_unanswered b k h = ap (λ (q : Request). is_answered q) (get_or-eq_default (book_of b).requests no_request (omega (arith, h, length_requests b)))

-- ---- one call that is taken

line : (b r a : List ℕ) → Bytes b → Bytes r → (event_of b r a).returned ≡ 0 → (k : ℕ)
    → outcome_in (event_of b r a).book k ≡ outcome_after (book_of b) (book_of (event_of b r a).book) (event_in r) k
line b r a bytes bytes' z k =
    either_way (λ (o : Returned). o.returned ≡ 0 → outcome_in o.book k ≡ outcome_after (book_of b) (book_of o.book) (event_in r) k) b r a
    (λ t y.
    let left = (writes b r bytes bytes' t.keeps t.reads t.taken).is ∙ sym (after_is (book_of b) (event_in r) t.taken) in
    subst (λ (x : Book). (request_in x k).outcome ≡ outcome_after (book_of b) x (event_in r) k) (sym left)
    (outcomes_after (book_of b) (event_in r) (keeps_held b t.keeps).rules k))
    (λ e y. absurd (eqb-false _ 0 e y)) z

added : (b r a : List ℕ) → Bytes b → Bytes r → (event_of b r a).returned ≡ 0 → (k : ℕ) → request_count b ≤ k → k < request_count (event_of b r a).book
    → outcome_in (event_of b r a).book k ≡ 0
added b r a bytes bytes' z k h l =
    either_way (λ (o : Returned). o.returned ≡ 0 → k < request_count o.book → outcome_in o.book k ≡ 0) b r a (λ t y m. new t m) (λ e y m. absurd (eqb-false _ 0 e y)) z l
  where
    new : (t : Taken b r a) → k < request_count (book_with b (step_of (book_of b) (event_in r))) → outcome_in (book_with b (step_of (book_of b) (event_in r))) k ≡ 0
    new t m =
        let x : Book = book_of b in
        let c : Change = step_of x (event_in r) in
        let f : List ℕ = book_with b c in
        let is : book_of f ≡ after x c = (writes b r bytes bytes' t.keeps t.reads t.taken).is in
        let count : request_count f ≡ length (after x c).requests = sym (length_requests f) ∙ ap (λ (y : Book). length y.requests) is in
        let adds : (c.requests.added ≡ 0 → ⊥) = λ y. omega (arith, h, m, count, none_kept x c y, length_requests b) in
        let last : k ≡ length x.requests = omega (arith, h, m, count, added_long x c adds, length_requests b) in
        ap (λ (y : Book). (request_in y k).outcome) is
        ∙ ap (λ (i : ℕ). (request_in (after x c) i).outcome) last
        ∙ ap (λ (q : Request). q.outcome) (added_at x c adds)
        ∙ (step_sets x (event_in r)).outcome

-- ---- one call, taken or refused

module _ (b : List ℕ) (g : Good b) (i : Call) where
  abbrev next : List ℕ
  next = (event_of b i.event i.answer).book

  abbrev returned : ℕ
  returned = (event_of b i.event i.answer).returned

  stays : Good next
  stays = faithful.stays b i g

  refused_same : (returned ≡ 0 → ⊥) → next ≡ b
  refused_same n = (demand1.refused b i.event i.answer n).0

  longer : request_count b ≤ request_count next
  longer = go (ℕ_discrete returned 0)
    where
      go : Dec (returned ≡ 0) → request_count b ≤ request_count next
      go (yes z) = omega (arith, length_requests b, length_requests next, (demand1.grown b i.event i.answer g.bytes i.bytes z).requests)
      go (no n) = omega (arith, ap request_count (refused_same n))

  -- an outcome stays if the request was answered
  kept : (k : ℕ) → k < request_count b → answered_in b k ≡ true → outcome_in next k ≡ outcome_in b k
  kept k l a = go (ℕ_discrete returned 0)
    where
      go : Dec (returned ≡ 0) → outcome_in next k ≡ outcome_in b k
      go (yes z) = line b i.event i.answer g.bytes i.bytes z k ∙ (unfold outcome_after in if_true _ _ _ a)
      go (no n) = ap (λ (x : List ℕ). outcome_in x k) (refused_same n)

  -- and one that is answered by the call has what the event made of it
  record Now (k : ℕ) : Type 0 where
    there : k < request_count b
    taken : returned ≡ 0
    outcome : outcome_in next k ≡ outcome_by (event_in i.event)

  now : (k : ℕ) → answered_in b k ≡ false → answered_in next k ≡ true → Now k
  now k u a = go (ℕ_discrete returned 0) (dec_lt k (request_count b)) (dec_lt k (request_count next))
    where
      go : Dec (returned ≡ 0) → Dec (k < request_count b) → Dec (k < request_count next) → Now k
      go (no n) y z = clash _ (ap (λ (x : List ℕ). answered_in x k) (sym (refused_same n)) ∙ a) u
      go (yes t) (yes l) z = record {
        there = l;
        taken = t;
        outcome = line b i.event i.answer g.bytes i.bytes t k ∙ (unfold outcome_after in if_false _ _ _ u ∙ if_true _ _ _ a);
      }
      go (yes t) (no l) (yes m) = absurd (settled _ (ruled next stays.keeps k m) a (added b i.event i.answer g.bytes i.bytes t k (omega arith) m))
      go (yes t) (no l) (no m) = clash _ a (past_unanswered next k (omega arith))

-- ---- a list of calls

answered_there : (b : List ℕ) (k : ℕ) → answered_in b k ≡ true → k < request_count b
answered_there b k a = go (dec_lt k (request_count b))
  where
    go : Dec (k < request_count b) → k < request_count b
    go (yes l) = l
    go (no l) = clash _ a (past_unanswered b k (omega arith))

good : (b : List ℕ) → Good b → (cs : List Call) (k : ℕ) → k < request_count b → (outcome_in b k ≡ 0 → ⊥) → outcome_in (bytes_after b cs) k ≡ outcome_in b k
good b g [] k l n = refl
good b g (i ∷ is) k l n =
    let same : outcome_in (next b g i) k ≡ outcome_in b k = kept b g i k l (answered (answered_in b k) refl) in
    good (next b g i) (stays b g i) is k (omega (arith, l, longer b g i)) (λ z. n (sym same ∙ z)) ∙ same
  where
    answered : (a : Bool) → answered_in b k ≡ a → answered_in b k ≡ true
    answered true e = e
    answered false e = absurd (n ((ruled b g.keeps k l).none e))

first : (b : List ℕ) → Good b → (cs : List Call) (k : ℕ) → answered_in b k ≡ false → answered_in (bytes_after b cs) k ≡ true → SettledBy b cs k
first b g [] k u a = clash _ a u
first b g (i ∷ is) k u a = go (cases_Bool (answered_in (next b g i) k)) (λ y. first (next b g i) (stays b g i) is k y a)
  where
    go : (answered_in (next b g i) k ≡ true) ⊎ (answered_in (next b g i) k ≡ false) → (answered_in (next b g i) k ≡ false → SettledBy (next b g i) is k) → SettledBy b (i ∷ is) k
    go (inl y) later =
        let n : Now b g i k = now b g i k u y in
        let l : k < request_count (next b g i) = answered_there (next b g i) k y in
        record {
          before = [];
          call = i;
          behind = is;
          splits = refl;
          taken = n.taken;
          unanswered = u;
          answered = y;
          outcome = good (next b g i) (stays b g i) is k l (settled _ (ruled (next b g i) (stays b g i).keeps k l) y) ∙ n.outcome;
        }
    go (inr y) later =
        let s : SettledBy (next b g i) is k = later y in
        record {
          before = i ∷ s.before;
          call = s.call;
          behind = s.behind;
          splits = ap (λ (cs : List Call). i ∷ cs) s.splits;
          taken = s.taken;
          unanswered = s.unanswered;
          answered = s.answered;
          outcome = s.outcome;
        }

-- ---- the event's outcome, spelled out

spelled : (e : Event) → Spelled e
unfolding outcome_by if◌then◌otherwise◌
spelled e = go (eqb e.kind 7) (eqb e.kind 4) (eqb e.exec.status rejected) (eqb e.exec.exectype exec_rejected) refl refl refl refl
  where
    go : (s t u v : Bool) → eqb e.kind 7 ≡ s → eqb e.kind 4 ≡ t → eqb e.exec.status rejected ≡ u → eqb e.exec.exectype exec_rejected ≡ v → Spelled e
    go true t u v p q r w =
        let seven : e.kind ≡ 7 = eqb-true e.kind 7 p in
        let is : outcome_by e ≡ 3 = rw p refl in
        record {
          accepted = (λ z. absurd (omega arith), λ z. let f : e.kind ≡ 4 = z.0 in absurd (omega arith));
          failed = (λ z. seven, λ z. is);
          refused = λ y z. absurd (z is);
        }
    go false true false false p q r w =
        let is : outcome_by e ≡ 1 = rw (p, q, r, w) refl in
        record {
          accepted = (λ z. (eqb-true e.kind 4 q, eqb-false _ _ r, eqb-false _ _ w), λ z. is);
          failed = (λ z. absurd (omega arith), λ z. absurd (eqb-false e.kind 7 p z));
          refused = λ y z. absurd (y is);
        }
    go false false u v p q r w =
        let is : outcome_by e ≡ 2 = rw (p, q) refl in
        record {
          accepted = (λ z. absurd (omega arith), λ z. absurd (eqb-false e.kind 4 q z.0));
          failed = (λ z. absurd (omega arith), λ z. absurd (eqb-false e.kind 7 p z));
          refused = λ y z. is;
        }
    go false true true v p q r w =
        let is : outcome_by e ≡ 2 = rw (p, q, r) refl in
        record {
          accepted = (λ z. absurd (omega arith), λ z. absurd (z.1 (eqb-true _ _ r)));
          failed = (λ z. absurd (omega arith), λ z. absurd (eqb-false e.kind 7 p z));
          refused = λ y z. is;
        }
    go false true false true p q r w =
        let is : outcome_by e ≡ 2 = rw (p, q, r, w) refl in
        record {
          accepted = (λ z. absurd (omega arith), λ z. absurd (z.2 (eqb-true _ _ w)));
          failed = (λ z. absurd (omega arith), λ z. absurd (eqb-false e.kind 7 p z));
          refused = λ y z. is;
        }

-- ---- another byte

module _ (b : List ℕ) (k v : ℕ) (l : k < request_count b) where
  abbrev d : List ℕ
  d = splice b (request_base k + request·outcome) (v ∷ [])

  few : k < most_requests
  few = omega (arith, l, count_most header·requests most_requests b)

  long : length b ≡ book_size
  long = count_book header·requests most_requests b k l

  d_long : length d ≡ book_size
  d_long = length_splice b (request_base k + request·outcome) (v ∷ []) (omega (arith, few, long)) ∙ long

  d_count : request_count d ≡ request_count b
  d_count = same_count b d long d_long header·requests most_requests (omega arith) (span_splice_before b (request_base k + request·outcome) (v ∷ []) header·requests 2 (omega arith) (omega (arith, few, long)))

  d_outcome : outcome_in d k ≡ v
  d_outcome =
      ap (λ (q : Request). q.outcome) (request_in_lem d k (omega (arith, l, d_count)))
      ∙ request_outcome d k
      ∙ span_byte d (request_base k + request·outcome) v (span_splice_same b (request_base k + request·outcome) (v ∷ []) 1 refl (omega (arith, few, long)))

  d_answered : answered_in d k ≡ answered_in b k
  unfolding is_answered
  d_answered =
      ap (λ (n : ℕ). not (eqb n 0))
      (ap (λ (q : Request). q.answered) (request_in_lem d k (omega (arith, l, d_count)))
      ∙ request_answered d k
      ∙ same_8 d b (request_base k + request·answered) (span_splice_before b (request_base k + request·outcome) (v ∷ []) (request_base k + request·answered) 1 (omega arith) (omega (arith, few, long)))
      ∙ sym (request_answered b k)
      ∙ sym (ap (λ (q : Request). q.answered) (request_in_lem b k l)))

  wrong : Wrong b k v → keeps_of d ≡ true → ⊥
  wrong w g = go w
    where
      r : OutcomeKept (request_in (book_of d) k)
      r = ruled d g k (omega (arith, l, d_count))

      go : Wrong b k v → ⊥
      go (inl (a, z)) = settled _ r (d_answered ∙ a) (d_outcome ∙ z)
      go (inr (inl (a, n))) = n (sym d_outcome ∙ r.none (d_answered ∙ a))
      go (inr (inr h)) = omega (arith, h, r.most, d_outcome)

  other : Wrong b k v → (check_of d ≡ 1) × ((r a : List ℕ) → (event_of d r a).returned ≡ 1)
  other w = let broken : check_of d ≡ 1 = check_broken d (go (keeps_of d) refl) in (broken, λ r a. (demand1.numbers d r a).one.1 broken)
    where
      go : (t : Bool) → keeps_of d ≡ t → keeps_of d ≡ false
      go true e = absurd (wrong w e)
      go false e = e

-- WHAT CAME OF EACH REQUEST, on bytes
pub outcomes_on_bytes : OutcomesOnBytes
outcomes_on_bytes = record {
  line = line;
  added = added;
  good = λ b p. good b (record { keeps = kept_check b p.passes; bytes = p.bytes });
  first = λ b p. first b (record { keeps = kept_check b p.passes; bytes = p.bytes });
  spelled = spelled;
  rule = rule;
  alone = alone;
  borne = borne;
  links = links;
  exact = exact;
  bytes = other;
}
