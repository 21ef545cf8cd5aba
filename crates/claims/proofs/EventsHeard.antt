-- Our reader reads from the answers of `events` what calls of `event`, one by one, tell. Rests on Calls, Demands and EventsRun.
use Rattle.std.specs.Prelude.{ℕ, suc, ◌+◌, ◌*◌, ◌/◌, ◌%◌, ◌≤◌, ◌≡◌, ◌⊎◌, refl, true, List, [], ◌∷◌, ◌++◌, eqb, length, drop}
use Rattle.std.proofs.Common.{arith, sym, ap, ◌∙◌, inl, inr, append_assoc, drop_at, length-append}
use Rattle.std.proofs.Math.Decide.{ℕ_discrete}
use Rattle.prelude.specs.Cases.{if◌then◌otherwise◌}
use Rattle.prelude.specs.Number.{Bytes}
use Rattle.prelude.specs.Span.{splice}
use Rattle.prelude.specs.Totals.{Every, every[], every∷}
use Rattle.prelude.specs.Laws.Cases.{if_true, if_false}
use Rattle.records.specs.Answer.{head_size, length_in, are_messages, messages_bytes, head_bytes, answer_bytes, answer_messages}
use Rattle.records.specs.Laws.Accepted.{event_right}
use Rattle.records.specs.Laws.AnswerBack.{answer_messages_lem}
use Rattle.records.specs.Laws.Writing.{length_answer, answer_most}
use Rattle.records.specs.Record.{event_in}
use Rattle.store.specs.Book.{book_of}
use Rattle.machine.specs.declared.Change.{Change}
use Rattle.machine.specs.Changes.{Message}
use Rattle.machine.specs.Machine.{step_of}
use Rattle.machine.specs.History.{messages_of}
use Rattle.machine.proofs.Said.Steps.{messages_few, messages_right}
use Rattle.rules.specs.Laws.Keeps.{keeps_held}
use Rattle.step.specs.Entries.{Returned, returned, call_of, event_of}
use Rattle.kept.proofs.Taken.{left, whole}
use Rattle.claims.specs.Claims.{Call, heard_of, Passes}
use Rattle.claims.specs.Events.{said_by, Heard, heard_from, heard_by, saying}
use Rattle.claims.proofs.Taken.{either_way}
use Rattle.claims.proofs.Calls.{read_back, passing}
use Rattle.claims.proofs.Demands.{demand1}
use Rattle.claims.proofs.EventsRun.{answer_taken}

-- ---- an answer with bytes behind it

module _ (c : Change) (rest : List ℕ) where
  abbrev ms : List Message
  ms = messages_of c

  abbrev w : List ℕ
  w = answer_bytes c.output.alarm c.output.alarm2 ms

  length_here : length_in (w ++ rest) ≡ length w
  unfolding answer_bytes head_bytes
  length_here =
      let n : ℕ = head_size + length (messages_bytes ms) in
      let e : length_in (w ++ rest) ≡ n % 256 + 256 * (n / 256 % 256) = refl in
      let l : length w ≡ n = length_answer c.output.alarm c.output.alarm2 ms in
      let m = answer_most c.output.alarm c.output.alarm2 ms (messages_few c) in
      e ∙ omega arith

  messages_here : are_messages ms ≡ true → answer_messages (w ++ rest) ≡ ms
  unfolding splice
  messages_here ok =
      ap (λ (x : List ℕ). answer_messages (w ++ x)) (sym (drop_at w rest (length w) refl))
      ∙ answer_messages_lem (w ++ rest) c.output.alarm c.output.alarm2 ms ok (messages_few c) (simp length-append (omega arith))

-- ---- one call

heard_one : Returned → Heard
heard_one o = record { refusal = o.returned; messages = if eqb o.returned 0 then answer_messages o.answer otherwise [] }

one_heard : (b r a : List ℕ) → Bytes b → Bytes r → (n : ℕ) (rest : List ℕ)
    → heard_from (suc n) (saying (event_of b r a) ++ rest) ≡ heard_one (event_of b r a) ∷ heard_from n rest
unfolding heard_one
one_heard b r a bytes bytes' n rest =
    either_way (λ (o : Returned). heard_from (suc n) (saying o ++ rest) ≡ heard_one o ∷ heard_from n rest) b r a
    (λ t.
    let c : Change = step_of (book_of b) (event_in r) in
    let w : List ℕ = answer_bytes c.output.alarm c.output.alarm2 (messages_of c) in
    let o : Returned = left b r a c in
    let ok : are_messages (messages_of c) ≡ true =
    messages_right (book_of b) (event_in r) (keeps_held b t.keeps).rules (whole b r bytes bytes' t.keeps t.reads t.taken) (event_right r bytes' t.reads) in
    let said : saying o ≡ 0 ∷ w = ap (λ (l : List ℕ). 0 ∷ l) (if_true _ _ _ refl ∙ answer_taken a c t.room) in
    let mm : answer_messages (w ++ rest) ≡ (heard_one o).messages = messages_here c rest ok ∙ sym (if_true _ _ _ refl ∙ (read_back b r a bytes bytes' t).messages) in
    let dd : drop (1 + length_in (w ++ rest)) (0 ∷ (w ++ rest)) ≡ rest =
    ap (λ (k : ℕ). drop (1 + k) (0 ∷ (w ++ rest))) (length_here c rest) ∙ drop_at (0 ∷ w) rest (1 + length w) (omega arith) in
    ap (λ (x : List ℕ). heard_from (suc n) (x ++ rest)) said
    ∙ if_true _ _ _ refl
    ∙ (λ i. record { refusal = 0; messages = mm i } ∷ heard_from n (dd i)))
    (λ e.
    let k : ℕ = (call_of b r (length a)).refusal in
    let o : Returned = returned k b a in
    let said : saying o ≡ k ∷ [] = ap (λ (l : List ℕ). k ∷ l) (if_false _ _ _ e) in
    let mm : ◌≡◌ {A = List Message} [] (heard_one o).messages = sym (if_false _ _ _ e) in
    ap (λ (x : List ℕ). heard_from (suc n) (x ++ rest)) said
    ∙ if_false _ _ _ e
    ∙ (λ i. record { refusal = k; messages = mm i } ∷ heard_from n rest))

-- ---- all of them

pub heard_calls : (b : List ℕ) → Passes b → (cs : List Call) (rest : List ℕ) → heard_from (length cs) (said_by b cs ++ rest) ≡ heard_by b cs
unfolding heard_one heard_of
heard_calls b p [] rest = refl
heard_calls b p (c ∷ cs) rest =
    let o : Returned = event_of b c.event c.answer in
    ap (heard_from (suc (length cs))) (append_assoc (saying o) (said_by o.book cs) rest)
    ∙ one_heard b c.event c.answer p.bytes c.bytes (length cs) (said_by o.book cs ++ rest)
    ∙ ap (λ (l : List Heard). heard_one o ∷ l) (heard_calls o.book (passing.stays b c p) cs rest)

number : (b r a : List ℕ) → Passes b → 1024 ≤ length a → let n = (event_of b r a).returned in (n ≡ 0) ⊎ ((3 ≤ n) × (n ≤ 7))
number b r a p room = go (ℕ_discrete n 0) (ℕ_discrete n 1) (ℕ_discrete n 2)
  where
    n : ℕ
    n = (event_of b r a).returned

    go : Dec (n ≡ 0) → Dec (n ≡ 1) → Dec (n ≡ 2) → (n ≡ 0) ⊎ ((3 ≤ n) × (n ≤ 7))
    go (yes z) d e = inl z
    go (no z) (yes o) e = absurd (omega (arith, (demand1.numbers b r a).one.0 o, p.passes))
    go (no z) (no o) (yes t) = let s = ((demand1.numbers b r a).two.0 t).1 in absurd (omega arith)
    go (no z) (no o) (no t) = inr ((omega (arith, z, o, t)), (demand1.numbers b r a).most)

pub refusals : (b : List ℕ) → Passes b → (cs : List Call) → Every (λ (c : Call). 1024 ≤ length c.answer) cs
    → Every (λ (t : Heard). (t.refusal ≡ 0) ⊎ ((3 ≤ t.refusal) × (t.refusal ≤ 7))) (heard_by b cs)
refusals b p [] room = every[]
refusals b p (c ∷ cs) (every∷ h hs) = every∷ (number b c.event c.answer p h) (refusals (event_of b c.event c.answer).book (passing.stays b c p) cs hs)
