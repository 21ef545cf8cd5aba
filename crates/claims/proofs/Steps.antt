-- A call of `event` that is taken, on bytes: it is the machine's step, and leaves the book and the answer of the change. Rests on Taken and Paired.
use Rattle.std.proofs.Common.{ℕ, ◌≤◌, ◌<◌, ◌≡◌, sym, ap, ◌∙◌, true, not, ◌||◌, List, eqb, leb, ltb, length, eq-eqb, le-ltb, eqb-true, ne_eqb, ltb-true, arith, ◌⊎◌, inl, inr, ⊎_elim}
use Rattle.std.proofs.lemmas.Bool.{and_parts, or_cases}
use Rattle.prelude.specs.Laws.Cases.{if_true, if_false}
use Rattle.prelude.specs.Number.{Bytes}
use Rattle.records.specs.Answer.{answer_bytes}
use Rattle.store.specs.Book.{Book, book_of}
use Rattle.machine.specs.declared.Output.{Output}
use Rattle.machine.specs.declared.Change.{Change}
use Rattle.machine.specs.Changes.{Event, refusing}
use Rattle.machine.specs.Machine.{step_of, after, book_after, has_room}
use Rattle.machine.specs.History.{messages_of}
use Rattle.rules.specs.Keeps.{keeps_of}
use Rattle.claims.specs.Claims.{Call}
use Rattle.claims.specs.Exchange.{called}
use Rattle.kept.proofs.Taken.{Taken, left, writes, keeps_after, step_room, whole_after, small}
use Rattle.claims.proofs.Taken.{returned_taken, keeps_sizes}
use Rattle.step.specs.Entries.{Returned, call_of}
use Rattle.format.specs.Refusal.{event_refusal}
use Rattle.records.specs.Record.{event_in}
use Rattle.records.specs.Laws.Writing.{answer_most}
use Rattle.store.specs.Layout.{most_requests}
use Rattle.machine.proofs.Said.Steps.{messages_few}
use Rattle.kept.proofs.Written.{order_written, request_written}
use Rattle.claims.proofs.Paired.{Fit}

-- what a call's record reads as
abbrev pub call_event : Call → Event
call_event c = event_in c.event

-- ---- a call that gets to the machine

steps : (b : List ℕ) (i : Call) → keeps_of b ≡ true → 1024 ≤ length i.answer → event_refusal i.event ≡ 0 → call_of b i.event (length i.answer) ≡ step_of (book_of b) (call_event i)
unfolding call_of
steps b i k l z = if_false _ _ _ (ap not k) ∙ if_false _ _ _ (le-ltb (length i.answer) 1024 l) ∙ if_false _ _ _ (ap not (eq-eqb (event_refusal i.event) 0 z))

pub taken_here : (b : List ℕ) (i : Call) → keeps_of b ≡ true → 1024 ≤ length i.answer → event_refusal i.event ≡ 0 → (step_of (book_of b) (call_event i)).refusal ≡ 0
    → Taken b i.event i.answer
taken_here b i k l z t = record { keeps = k; room = l; reads = z; is = steps b i k l z; taken = t }

after_is : (b : Book) (e : Event) → (step_of b e).refusal ≡ 0 → after b (step_of b e) ≡ book_after b e
unfolding book_after
after_is b e z = sym (if_true _ _ _ (eq-eqb (step_of b e).refusal 0 z))

-- what a call that is taken leaves
module _ (b : List ℕ) (i : Call) (bytes : Bytes b) (t : Taken b i.event i.answer) where
  pub called_is : called b i ≡ left b i.event i.answer (step_of (book_of b) (call_event i))
  called_is = returned_taken b i.event i.answer t

  pub left_is : book_of (called b i).book ≡ book_after (book_of b) (call_event i)
  left_is =
      ap (λ (o : Returned). book_of o.book) called_is ∙ (writes b i.event bytes i.bytes t.keeps t.reads t.taken).is
      ∙ after_is (book_of b) (call_event i) t.taken

  pub left_keeps : keeps_of (called b i).book ≡ true
  left_keeps = ap (λ (o : Returned). keeps_of o.book) called_is ∙ keeps_after b i.event bytes i.bytes t.keeps t.reads t.taken

  pub left_bytes : Bytes (called b i).book
  left_bytes = (keeps_sizes b i.event i.answer).bytes bytes i.bytes

  pub returned_none : (called b i).returned ≡ 0
  returned_none = ap (λ (o : Returned). o.returned) called_is

  -- the change of an order, as its writes want it
  pub fit : ((step_of (book_of b) (call_event i)).place ≡ 0 → ⊥) → Fit b (step_of (book_of b) (call_event i))
  fit n =
      let c : Change = step_of (book_of b) (call_event i) in
      let whole = whole_after b i.event bytes i.bytes t.keeps t.reads t.taken in
      record {
        room = room_of (step_room (book_of b) (call_event i) t.taken);
        writes = writes b i.event bytes i.bytes t.keeps t.reads t.taken;
        small = small b i.event bytes i.bytes t.keeps t.reads t.taken;
        order = order_written (book_of b) c whole (ne_eqb c.place 0 n);
        request = λ m. request_written (book_of b) c whole (ne_eqb c.requests.added 0 m);
      }
    where
      room_of : has_room (book_of b) (step_of (book_of b) (call_event i)) ≡ true → ((step_of (book_of b) (call_event i)).requests.added ≡ 0) ⊎ (length (book_of b).requests < most_requests)
      room_of h =
          let c : Change = step_of (book_of b) (call_event i) in
          let n : ℕ = length (book_of b).orders in
          ⊎_elim (λ z. inl (eqb-true c.requests.added 0 z)) (λ z. inr (ltb-true (length (book_of b).requests) most_requests z))
          (or_cases _ _ (and_parts (leb c.place n || ltb n 64) (eqb c.requests.added 0 || ltb (length (book_of b).requests) most_requests) (unfold has_room in h)).1)

-- ---- the answer is in the change's output

abbrev pub answer_of : Change → List ℕ
answer_of c = answer_bytes c.output.alarm c.output.alarm2 (messages_of c)

pub answer_fits : (c : Change) → length (answer_of c) ≤ 1024
answer_fits c = omega (arith, answer_most c.output.alarm c.output.alarm2 (messages_of c) (messages_few c))

abbrev telling : ℕ → Output → Change
telling n o = record { refusal = n; place = 0; order = (refusing 0).order; requests = (refusing 0).requests; output = o }

pub answer_same : (c d : Change) → c.refusal ≡ 0 → d.refusal ≡ 0 → c.output ≡ d.output → answer_of c ≡ answer_of d
unfolding messages_of
answer_same c d p q e = ap (λ (n : ℕ). answer_of (telling n c.output)) (p ∙ sym q) ∙ ap (λ (o : Output). answer_of (telling d.refusal o)) e
