-- What an event will need, on bytes: the call's change is the event's own, and what it leaves is read back. Rests on Taken, Calls and Refusals.
use Rattle.std.proofs.Common.{ℕ, ◌+◌, ◌*◌, ◌/◌, ◌%◌, ◌≤◌, arith, ◌≡◌, refl, sym, ap, ◌∙◌, subst, Bool, true, false, not, List, map, eqb, length, get_or, eqb-true, eq-eqb, le-ltb}
use Rattle.std.proofs.lemmas.Bool.{eqb-false}
use Rattle.prelude.specs.Cases.{if◌then◌otherwise◌}
use Rattle.prelude.specs.Number.{Bytes}
use Rattle.prelude.specs.Span.{splice}
use Rattle.records.specs.Record.{event_in}
use Rattle.records.specs.Answer.{head_size, length_in, are_messages, messages_bytes, head_bytes, answer_bytes, answer_messages}
use Rattle.records.specs.Laws.Accepted.{event_right}
use Rattle.records.specs.Laws.Writing.{length_answer, answer_most}
use Rattle.store.specs.Book.{Book, book_of}
use Rattle.machine.specs.declared.Change.{Change}
use Rattle.machine.specs.Changes.{Message}
use Rattle.machine.specs.Machine.{step_of, after}
use Rattle.machine.specs.History.{messages_of}
use Rattle.machine.specs.Said.{Answers}
use Rattle.machine.proofs.Said.Steps.{messages_few, messages_right}
use Rattle.rules.specs.Laws.Keeps.{keeps_held}
use Rattle.page.specs.Laws.Sound.{behind_front}
use Rattle.step.specs.Entries.{Returned, call_of, event_of}
use Rattle.needs.specs.declared.Needs.{Needs}
use Rattle.needs.specs.Needs.{answer_length, field_count, fields_of, added_count, needed, refused, needs_of, needs_call}
use Rattle.needs.specs.Laws.Needs.{needs_taken, needs_refused}
use Rattle.claims.specs.Needs.{written_fields, Used, Foretold, NeedsOnBytes}
use Rattle.claims.proofs.Fields.{fields_written}
use Rattle.claims.proofs.Refusals.{requests_grow}
use Rattle.kept.proofs.Taken.{Taken, left, returned_is, whole, writes}
use Rattle.claims.proofs.Taken.{either_way}
use Rattle.claims.proofs.Calls.{read_back}
use Rattle.claims.proofs.Demands.{demand1}

-- ---- the same change

pub same_call : (b r : List ℕ) (n : ℕ) → 1024 ≤ n → call_of b r n ≡ call_of b r 1024
unfolding call_of if◌then◌otherwise◌
same_call b r n h = rw (le-ltb n 1024 h) refl

-- ---- the answer's length

module _ (a : List ℕ) (c : Change) (room : 1024 ≤ length a) where
  abbrev ms : List Message
  ms = messages_of c

  abbrev written : List ℕ
  written = answer_bytes c.output.alarm c.output.alarm2 ms

  pub long_is : length written ≡ answer_length ms
  unfolding answer_length
  long_is = length_answer c.output.alarm c.output.alarm2 ms

  long_most : answer_length ms ≤ 1024
  long_most = omega (arith, long_is, answer_most c.output.alarm c.output.alarm2 ms (messages_few c))

  pub long_there : length_in (splice a 0 written) ≡ answer_length ms
  unfolding splice answer_bytes head_bytes answer_length
  long_there =
      let n : ℕ = head_size + length (messages_bytes ms) in
      let e : length_in (splice a 0 written) ≡ n % 256 + 256 * (n / 256 % 256) = refl in
      e ∙ omega (arith, long_most)

-- ---- requests

added_is : (added : ℕ) → (if not (eqb added 0) then 1 otherwise 0) ≡ added_count added
unfolding added_count if◌then◌otherwise◌
added_is added = go (eqb added 0) refl
  where
    go : (t : Bool) → eqb added 0 ≡ t → (if not (eqb added 0) then 1 otherwise 0) ≡ added_count added
    go true e = rw e refl
    go false e = rw e refl

-- ---- a refusal

zeros : (n : Needs) (k : ℕ) → n ≡ refused k → (n.length ≡ 0) × (n.messages ≡ 0) × (n.requests ≡ 0) × (n.fields_first ≡ 0) × (n.fields_second ≡ 0)
unfolding refused
zeros n k e = (
  ap (λ (x : Needs). x.length) e,
  ap (λ (x : Needs). x.messages) e,
  ap (λ (x : Needs). x.requests) e,
  ap (λ (x : Needs). x.fields_first) e,
  ap (λ (x : Needs). x.fields_second) e,
)

-- ---- the event

module _ (b r a : List ℕ) (bytes : Bytes b) (bytes' : Bytes r) (room : 1024 ≤ length a) where
  abbrev c : Change
  c = step_of (book_of b) (event_in r)

  used : Taken b r a → Used b a (left b r a c) (needed (messages_of c) c.requests.added)
  unfolding needed fields_of after
  used t =
      let back : Answers c (left b r a c).answer = read_back b r a bytes bytes' t in
      let right : are_messages (messages_of c) ≡ true =
      messages_right (book_of b) (event_in r) (keeps_held b t.keeps).rules (whole b r bytes bytes' t.keeps t.reads t.taken) (event_right r bytes' t.reads) in
      let fields : map written_fields (answer_messages (left b r a c).answer) ≡ map field_count (messages_of c) =
      ap (map written_fields) back.messages ∙ fields_written (messages_of c) right in
      record {
        long = long_there a c room;
        behind = λ k h. behind_front a (written a c room) k (omega (arith, long_is a c room)) (omega (arith, long_is a c room, long_most a c room));
        messages = ap length back.messages;
        first = ap (λ (l : List ℕ). get_or l 0 0) fields;
        second = ap (λ (l : List ℕ). get_or l 1 0) fields;
        requests =
            ap (λ (x : Book). length x.requests) (writes b r bytes bytes' t.keeps t.reads t.taken).is
            ∙ requests_grow (book_of b).requests c
            ∙ ap (λ (n : ℕ). length (book_of b).requests + n) (added_is c.requests.added);
      }

  -- the needs of the event's own change
  abbrev n : Needs
  n = needs_of (call_of b r (length a))

  number : n.refusal ≡ (call_of b r (length a)).refusal
  number = go (eqb (call_of b r (length a)).refusal 0) refl
    where
      d : Change
      d = call_of b r (length a)

      go : (t : Bool) → eqb d.refusal 0 ≡ t → (needs_of d).refusal ≡ d.refusal
      go true e = unfold needed in ap (λ (x : Needs). x.refusal) (needs_taken d e) ∙ sym (eqb-true d.refusal 0 e)
      go false e = unfold refused in ap (λ (x : Needs). x.refusal) (needs_refused d e)

  same_number : n.refusal ≡ (event_of b r a).returned
  same_number = number ∙ sym (returned_is b r a)

  when_taken : (event_of b r a).returned ≡ 0 → Used b a (event_of b r a) n
  when_taken =
      either_way (λ (o : Returned). o.returned ≡ 0 → Used b a o n) b r a
      (λ t z. subst (Used b a (left b r a c)) (sym (ap needs_of t.is ∙ needs_taken c (eq-eqb c.refusal 0 t.taken))) (used t))
      (λ e z. absurd (eqb-false _ 0 e z))

  when_refused : ((event_of b r a).returned ≡ 0 → ⊥) → n ≡ refused (event_of b r a).returned
  when_refused =
      either_way (λ (o : Returned). (o.returned ≡ 0 → ⊥) → n ≡ refused o.returned) b r a
      (λ t z. absurd (z refl))
      (λ e z. needs_refused (call_of b r (length a)) e)

  foretold : Foretold b a (event_of b r a) n
  foretold = record {
    refusal = same_number;
    never = λ z. let short = ((demand1.numbers b r a).two.0 (sym same_number ∙ z)).1 in omega arith;
    taken = when_taken;
    nothing = λ z. zeros n _ (when_refused z);
  }

-- WHAT AN EVENT WILL NEED is what it then uses
pub needs_on_bytes : NeedsOnBytes
unfolding needs_call
needs_on_bytes b r a bytes bytes' room =
    subst (λ (x : Change). Foretold b a (event_of b r a) (needs_of x)) (same_call b r (length a) room) (foretold b r a bytes bytes' room)
