-- A run is calls of `event`, one by one: what the calls are, the book that they leave, what they say, and why they end. Rests on Taken and events.
use Rattle.std.specs.Prelude.{ℕ, suc, ◌+◌, ◌*◌, ◌≤◌, ◌≡◌, refl, Bool, true, false, List, [], ◌∷◌, ◌++◌, eqb, leb, length, take, drop}
use Rattle.std.proofs.Common.{arith, sym, ap, ◌∙◌, subst, append-nil, append_assoc, length-append, length-drop, length-take, take_at, leb-true}
use Rattle.std.proofs.lemmas.Bool.{leb-false}
use Rattle.prelude.specs.Cases.{if◌then◌otherwise◌}
use Rattle.prelude.specs.Number.{Bytes}
use Rattle.prelude.specs.Span.{splice}
use Rattle.prelude.specs.Totals.{Every, every[], every∷}
use Rattle.prelude.specs.Laws.Cases.{split_if, if_true, if_false}
use Rattle.records.specs.Answer.{length_in, answer_bytes}
use Rattle.records.specs.Laws.Writing.{answer_most}
use Rattle.machine.specs.declared.Change.{Change}
use Rattle.machine.specs.History.{messages_of}
use Rattle.machine.proofs.Said.Steps.{messages_few}
use Rattle.step.specs.Entries.{book_with, Returned, call_of, event_of}
use Rattle.events.specs.Events.{most_said, Run, said_of, run_one, run}
use Rattle.claims.specs.Claims.{Call}
use Rattle.claims.specs.Opens.{bytes_after}
use Rattle.claims.specs.Events.{calls_in, events_in, packed, said_by, saying}
use Rattle.kept.proofs.Taken.{event_taken, event_refused}
use Rattle.claims.proofs.Taken.{keeps_sizes}
use Rattle.claims.proofs.Needs.{same_call, long_there, long_is}
use Rattle.claims.proofs.EventsRecords.{packed_long}

-- ---- what one call says, and the book that it leaves, whatever the buffer

pub left_with : List ℕ → Change → List ℕ
left_with b c = if eqb c.refusal 0 then book_with b c otherwise b

pub said_with : Change → List ℕ
said_with c = if eqb c.refusal 0 then 0 ∷ answer_bytes c.output.alarm c.output.alarm2 (messages_of c) otherwise c.refusal ∷ []

said_most : (c : Change) → length (said_with c) ≤ 1025
unfolding said_with
said_most c =
    let P : List ℕ → Type 0 = λ l. length l ≤ 1025 in
    split_if P (eqb c.refusal 0) (λ e. omega (arith, answer_most c.output.alarm c.output.alarm2 (messages_of c) (messages_few c))) (λ e. omega arith)

-- the bytes of the answer that was written, and no more
pub answer_taken : (a : List ℕ) (c : Change) → 1024 ≤ length a
    → let s = splice a 0 (answer_bytes c.output.alarm c.output.alarm2 (messages_of c)) in take (length_in s) s ≡ answer_bytes c.output.alarm c.output.alarm2 (messages_of c)
unfolding splice
answer_taken a c room =
    let w : List ℕ = answer_bytes c.output.alarm c.output.alarm2 (messages_of c) in
    take_at w (drop (length w) a) (length_in (splice a 0 w)) (long_is a c room ∙ sym (long_there a c room))

record Same (b : List ℕ) (c : Change) (o : Returned) : Type 0 where
  book : o.book ≡ left_with b c
  said : saying o ≡ said_with c

same_of : (b r a : List ℕ) → 1024 ≤ length a → Same b (call_of b r (length a)) (event_of b r a)
unfolding left_with said_with
same_of b r a room = go (eqb (call_of b r (length a)).refusal 0) refl
  where
    c : Change
    c = call_of b r (length a)

    go : (t : Bool) → eqb c.refusal 0 ≡ t → Same b c (event_of b r a)
    go true e =
        subst (Same b c) (sym (event_taken b r a e)) (record {
          book = sym (if_true _ _ _ e);
          said = ap (λ (l : List ℕ). 0 ∷ l) (if_true _ _ _ refl ∙ answer_taken a c room) ∙ sym (if_true _ _ _ e);
        })
    go false e =
        subst (Same b c) (sym (event_refused b r a e)) (record {
          book = sym (if_false _ _ _ e);
          said = ap (λ (l : List ℕ). c.refusal ∷ l) (if_false _ _ _ e) ∙ sym (if_false _ _ _ e);
        })

same_at : (b r a : List ℕ) → 1024 ≤ length a → Same b (call_of b r 1024) (event_of b r a)
same_at b r a room = subst (λ (c : Change). Same b c (event_of b r a)) (same_call b r (length a) room) (same_of b r a room)

-- ---- the same of a list of records

abbrev pub book_alone : List ℕ → List (List ℕ) → List ℕ
book_alone b [] = b
book_alone b (r ∷ rs) = book_alone (left_with b (call_of b r 1024)) rs

abbrev pub said_alone : List ℕ → List (List ℕ) → List ℕ
said_alone b [] = []
said_alone b (r ∷ rs) = said_with (call_of b r 1024) ++ said_alone (left_with b (call_of b r 1024)) rs

pub book_calls : (b : List ℕ) (cs : List Call) → Every (λ (c : Call). 1024 ≤ length c.answer) cs → bytes_after b cs ≡ book_alone b (events_in cs)
book_calls b [] room = refl
book_calls b (c ∷ cs) (every∷ p ps) =
    ap (λ (x : List ℕ). bytes_after x cs) (same_at b c.event c.answer p).book ∙ book_calls (left_with b (call_of b c.event 1024)) cs ps

pub said_calls : (b : List ℕ) (cs : List Call) → Every (λ (c : Call). 1024 ≤ length c.answer) cs → said_by b cs ≡ said_alone b (events_in cs)
said_calls b [] room = refl
said_calls b (c ∷ cs) (every∷ p ps) =
    let s : Same b (call_of b c.event 1024) (event_of b c.event c.answer) = same_at b c.event c.answer p in
    (λ i. s.said i ++ said_by (s.book i) cs)
    ∙ ap (λ (x : List ℕ). said_with (call_of b c.event 1024) ++ x) (said_calls (left_with b (call_of b c.event 1024)) cs ps)

pub book_append : (b : List ℕ) (xs ys : List (List ℕ)) → book_alone b (xs ++ ys) ≡ book_alone (book_alone b xs) ys
book_append b [] ys = refl
book_append b (r ∷ xs) ys = book_append (left_with b (call_of b r 1024)) xs ys

pub said_append : (b : List ℕ) (xs ys : List (List ℕ)) → said_alone b (xs ++ ys) ≡ said_alone b xs ++ said_alone (book_alone b xs) ys
said_append b [] ys = refl
said_append b (r ∷ xs) ys =
    ap (λ (l : List ℕ). said_with (call_of b r 1024) ++ l) (said_append (left_with b (call_of b r 1024)) xs ys)
    ∙ sym (append_assoc (said_with (call_of b r 1024)) (said_alone (left_with b (call_of b r 1024)) xs) _)

pub said_alone_most : (b : List ℕ) (xs : List (List ℕ)) → length (said_alone b xs) ≤ 1025 * length xs
said_alone_most b [] = omega arith
said_alone_most b (r ∷ xs) = simp length-append (omega (arith, said_most (call_of b r 1024), said_alone_most (left_with b (call_of b r 1024)) xs))

-- ---- the run

-- from s to t, by these calls
pub record RunIs (a : List ℕ) (s t : Run) (rs : List (List ℕ)) (cs : List Call) : Type 0 where
  pub records : events_in cs ≡ take (length cs) rs
  pub few : length cs ≤ length rs
  pub room : Every (λ (c : Call). 1024 ≤ length c.answer) cs
  pub book : t.book ≡ bytes_after s.book cs
  pub said : t.said ≡ s.said ++ said_by s.book cs
  pub events : t.events ≡ s.events + length cs
  pub read : t.read ≡ s.read + length (packed (events_in cs))
  pub fits : length s.said ≤ length a → length t.said ≤ length a
  -- it ends early only for want of room
  pub ends : length t.said + most_said ≤ length a → length cs ≡ length rs

-- an answer and its refusal stand in the buffer and one byte more
said_fits : (b r a : List ℕ) → length (saying (event_of b r a)) ≤ 1 + length a
said_fits b r a =
    let o : Returned = event_of b r a in
    let l : length o.answer ≡ length a = (keeps_sizes b r a).answer in
    split_if (λ (x : List ℕ). length (o.returned ∷ x) ≤ 1 + length a) (eqb o.returned 0) (λ e. simp length-take (omega arith)) (λ e. omega arith)

module _ (a : List ℕ) (s : Run) (r : List ℕ) (p : Bytes r) (h : length s.said + most_said ≤ length a) where
  abbrev c : Call
  c = record { event = r; answer = drop (length s.said + 1) a; bytes = p }

  rest_long : length (drop (length s.said + 1) a) + (length s.said + 1) ≡ length a
  rest_long = simp length-drop (omega arith)

  one_more : (t : Run) (rs : List (List ℕ)) (cs : List Call) → RunIs a (run_one a s r) t rs cs → RunIs a s t (r ∷ rs) (c ∷ cs)
  unfolding run_one said_of
  one_more t rs cs i =
      let o : Returned = event_of s.book r (drop (length s.said + 1) a) in
      record {
        records = ap (λ (l : List (List ℕ)). r ∷ l) i.records;
        few = omega (arith, i.few);
        room = every∷ (omega (arith, rest_long)) i.room;
        book = i.book;
        said = i.said ∙ append_assoc s.said (saying o) (said_by o.book cs);
        events = omega (arith, i.events);
        read = omega (arith, i.read, packed_long r (events_in cs));
        fits = λ k. i.fits (let f = said_fits s.book r (drop (length s.said + 1) a) in simp length-append (omega (arith, rest_long)));
        ends = λ k. ap suc (i.ends k);
      }

none_more : (a : List ℕ) (s : Run) (rs : List (List ℕ)) → (length s.said + most_said ≤ length a → 0 ≡ length rs) → RunIs a s s rs []
none_more a s rs h = record {
  records = refl;
  few = omega arith;
  room = every[];
  book = refl;
  said = sym (append-nil s.said);
  events = omega arith;
  read = omega arith;
  fits = λ k. k;
  ends = h;
}

pub run_is : (a : List ℕ) (s : Run) (rs : List (List ℕ)) (p : Every Bytes rs) → RunIs a s (run a s rs) rs (calls_in a s rs p)
unfolding if◌then◌otherwise◌
run_is a s [] p = none_more a s [] (λ h. refl)
run_is a s (r ∷ rs) (every∷ p ps) = go (run_is a (run_one a s r) rs ps) (leb (length s.said + most_said) (length a)) refl
  where
    go : RunIs a (run_one a s r) (run a (run_one a s r) rs) rs (calls_in a (run_one a s r) rs ps) → (t : Bool) → leb (length s.said + most_said) (length a) ≡ t
        → RunIs a s (run a s (r ∷ rs)) (r ∷ rs) (calls_in a s (r ∷ rs) (every∷ p ps))
    go i true e = rw e (one_more a s r p (leb-true _ _ e) (run a (run_one a s r) rs) rs (calls_in a (run_one a s r) rs ps) i)
    go i false e = rw e (none_more a s (r ∷ rs) (λ h. absurd (omega (arith, leb-false _ _ e))))
