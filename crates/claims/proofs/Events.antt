-- Lists that mix `event`, `events`, marks and returns: each call is its events, one by one, so all that is promised of those holds of them. Rests on EventsCalls, Calls,
-- Net, Marks, OpenQuantity and Outcomes.
use Rattle.std.specs.Prelude.{ℕ, ◌^◌, ◌<◌, ◌≡◌, refl, List, [], ◌∷◌, ◌++◌}
use Rattle.std.proofs.Common.{sym, ap, ◌∙◌, subst, append-nil, append_assoc}
use Rattle.store.specs.Book.{Book, book_of, empty_book}
use Rattle.machine.specs.Calls.{line_at, calls, back, SinceReturn, state_of, follow, just_returned}
use Rattle.machine.specs.Claim.{Demand3, Each}
use Rattle.machine.specs.History.{Entry, State}
use Rattle.machine.specs.Short.{IsWhole}
use Rattle.machine.specs.Since.{Demand3From}
use Rattle.machine.proofs.Claim.Start.{from_start}
use Rattle.store.specs.Laws.Adds.{blank_book}
use Rattle.step.specs.Entries.{event_of, start_of, start_refusal}
use Rattle.claims.specs.Claims.{Call, entries, Passes}
use Rattle.claims.specs.Opens.{bytes_after, OpenRight}
use Rattle.claims.specs.Outcomes.{answered_in, outcome_in}
use Rattle.claims.specs.Net.{reported, Says, only_calls, start_calls}
use Rattle.claims.specs.Marks.{SinceMark}
use Rattle.claims.specs.Events.{Taking, one, several, singly, book_left, all_singly, all_left, lines_of, state_left, TakingOnBytes, Mixed, taking, calling, put_back, after_mixed, after_all, EventsOnBytes}
use Rattle.claims.proofs.Taken.{kept_check}
use Rattle.claims.proofs.Calls.{start_is, demand3, filled_whole_on_bytes}
use Rattle.claims.proofs.Net.{net_on_bytes, start_passes}
use Rattle.claims.proofs.Marks.{Followed, follow_more, one_more_lem, after_call_lem, since_mark}
use Rattle.claims.proofs.OpenQuantity.{right, open_on_bytes}
use Rattle.claims.proofs.Outcomes.{outcomes_on_bytes}
use Rattle.claims.proofs.EventsCalls.{facts, history_book, one_by_one, passes_after_calls, within, stops, events_cut}

-- ---- one by one

bytes_append : (b : List ℕ) (cs ds : List Call) → bytes_after b (cs ++ ds) ≡ bytes_after (bytes_after b cs) ds
bytes_append b [] ds = refl
bytes_append b (c ∷ cs) ds = bytes_append (event_of b c.event c.answer).book cs ds

pub left_is : (b : List ℕ) → Passes b → (t : Taking) → book_left b t ≡ bytes_after b (singly b t)
left_is b p (one c) = refl
left_is b p (several rs a bytes) = (facts b rs a (kept_check b p.passes) bytes).book

pub left_passes : (b : List ℕ) → Passes b → (t : Taking) → Passes (book_left b t)
left_passes b p t = subst Passes (sym (left_is b p t)) (passes_after_calls b p (singly b t))

same : (b : List ℕ) → Passes b → (ts : List Taking) → all_left b ts ≡ bytes_after b (all_singly b ts)
same b p [] = refl
same b p (t ∷ ts) =
    same (book_left b t) (left_passes b p t) ts
    ∙ ap (λ (x : List ℕ). bytes_after x (all_singly (book_left b t) ts)) (left_is b p t)
    ∙ sym (bytes_append b (singly b t) (all_singly (book_left b t) ts))

-- ---- the history

pub past_more : (b : List ℕ) (past : List Entry) (cs : List Call) → (calls entries b past cs).past ≡ lines_of b cs ++ past
past_more b past [] = refl
past_more b past (c ∷ cs) =
    let left : List ℕ = (event_of b c.event c.answer).book in
    let l : Entry = line_at entries b c in
    past_more left (l ∷ past) cs
    ∙ sym (append_assoc (lines_of left cs) (l ∷ []) past)
    ∙ ap (λ (x : List Entry). x ++ past) (sym (past_more left (l ∷ []) cs))

state_is : (b : List ℕ) → Passes b → (ts : List Taking) → calls entries b [] (all_singly b ts) ≡ state_left b ts
state_is b p ts =
    let e = sym (ap book_of (same b p ts) ∙ history_book b [] (all_singly b ts)) in
    λ i. record { book = e i; past = lines_of b (all_singly b ts) }

follow_calls : (s : SinceReturn entries) (cs : List Call)
    → follow entries s (only_calls cs) ≡ record { image = s.image; held = bytes_after s.held cs; past = lines_of s.held cs ++ s.past }
follow_calls s [] = refl
follow_calls s (c ∷ cs) =
    let left : List ℕ = (event_of s.held c.event c.answer).book in
    let l : Entry = line_at entries s.held c in
    let e : lines_of left cs ++ (l ∷ s.past) ≡ lines_of s.held (c ∷ cs) ++ s.past =
    sym (append_assoc (lines_of left cs) (l ∷ []) s.past) ∙ ap (λ (x : List Entry). x ++ s.past) (sym (past_more left (l ∷ []) cs)) in
    follow_calls (record { image = s.image; held = left; past = l ∷ s.past }) cs
    ∙ (λ i. record { image = s.image; held = bytes_after left cs; past = e i })

-- ---- what is promised of calls of `event`

net : (b : List ℕ) (setting : ℕ) → setting < 2 ^ 32 → start_refusal b ≡ 0 → (ts : List Taking)
    → Says (all_left (start_of b setting) ts) (λ client symbol. reported client symbol (state_left (start_of b setting) ts).past)
net b setting small z ts =
    let begin : List ℕ = start_of b setting in
    let cs : List Call = all_singly begin ts in
    let e : start_calls b setting cs ≡ record { image = begin; held = bytes_after begin cs; past = lines_of begin cs ++ [] } = follow_calls (just_returned entries begin) cs in
    let f : Says (bytes_after begin cs) (λ client symbol. reported client symbol (lines_of begin cs ++ [])) =
    subst (λ (s : SinceReturn entries). Says s.held (λ client symbol. reported client symbol s.past)) e (net_on_bytes b setting small z cs) in
    subst (λ (x : List ℕ). Says x (λ client symbol. reported client symbol (lines_of begin cs))) (sym (same begin (start_passes b setting z) ts))
    (subst (λ (past : List Entry). Says (bytes_after begin cs) (λ client symbol. reported client symbol past)) (append-nil (lines_of begin cs)) f)

taking_on_bytes : TakingOnBytes
taking_on_bytes = record {
  same = same;
  demand3 = λ b setting small z ts.
      subst Demand3 (state_is (start_of b setting) (start_passes b setting z) ts) (demand3 b setting small z (all_singly (start_of b setting) ts));
  filled_whole = λ b setting small z ts.
      subst (λ (s : State). Each s IsWhole) (state_is (start_of b setting) (start_passes b setting z) ts) (filled_whole_on_bytes b setting small z (all_singly (start_of b setting) ts));
  net = net;
  opens = λ b setting z ts.
      subst OpenRight (sym (same (start_of b setting) (start_passes b setting z) ts)) (open_on_bytes.calls b setting z (all_singly (start_of b setting) ts));
  good = λ b p ts k l n. ap (λ (x : List ℕ). outcome_in x k) (same b p ts) ∙ outcomes_on_bytes.good b p (all_singly b ts) k l n;
  settled = λ b p ts k u v. outcomes_on_bytes.first b p (all_singly b ts) k u (ap (λ (x : List ℕ). answered_in x k) (sym (same b p ts)) ∙ v);
}

-- ---- with marks and returns

after_mixed_lem : (b : List ℕ) (s : SinceReturn entries) → Followed b s → (m : Mixed) → Followed b (after_mixed s m)
after_mixed_lem b s f (taking t) =
    let cs : List Call = singly s.held t in
    let e : bytes_after s.held cs ≡ book_left s.held t = sym (left_is s.held f.passes t) in
    record {
      steps = f.steps ++ only_calls cs;
      is =
          follow_more f.steps (just_returned entries b) (only_calls cs)
          ∙ ap (λ (x : SinceReturn entries). follow entries x (only_calls cs)) f.is
          ∙ follow_calls s cs
          ∙ (λ i. record { image = s.image; held = e i; past = lines_of s.held cs ++ s.past });
      passes = left_passes s.held f.passes t;
    }
after_mixed_lem b s f (calling c) = after_call_lem b s f c
after_mixed_lem b s f (put_back image p) = record {
  steps = f.steps ++ (back image p ∷ []);
  is = one_more_lem b s f (back image p);
  passes = p;
}

after_all_lem : (b : List ℕ) (s : SinceReturn entries) → Followed b s → (ms : List Mixed) → Followed b (after_all s ms)
after_all_lem b s f [] = f
after_all_lem b s f (m ∷ ms) = after_all_lem b (after_mixed s m) (after_mixed_lem b s f m) ms

since : (b : List ℕ) → Passes b → (ms : List Mixed) → let s = after_all (just_returned entries b) ms in SinceMark s × OpenRight s.held
since b p ms =
    let f : Followed b (after_all (just_returned entries b) ms) = after_all_lem b (just_returned entries b) (record { steps = []; is = refl; passes = p }) ms in
    (since_mark b p _ f, right _ (kept_check _ f.passes.passes))

empty : (b : List ℕ) (setting : ℕ) → setting < 2 ^ 32 → start_refusal b ≡ 0 → (ms : List Mixed)
    → let s = after_all (just_returned entries (start_of b setting)) ms in s.image ≡ start_of b setting → Demand3 (state_of entries s)
empty b setting small z ms e =
    let s = after_all (just_returned entries (start_of b setting)) ms in
    let i : book_of s.image ≡ empty_book setting = ap book_of (e ∙ start_is b setting z) ∙ blank_book setting small in
    from_start setting (state_of entries s) (subst (λ (x : Book). Demand3From x (state_of entries s)) i (since (start_of b setting) (start_passes b setting z) ms).0.demand)

-- ---- the theorem

-- MANY EVENTS IN ONE CALL, on bytes
pub events_on_bytes : EventsOnBytes
events_on_bytes = record { one_by_one = one_by_one; within = within; stops = stops; cut_in_two = events_cut; taking = taking_on_bytes; since = since; empty = empty }
