-- The call as the code comes to it, and case by case. Rests on Needs.
use Rattle.std.specs.Prelude.{ℕ, ◌≡◌, true, false, eqb, leb, length, replicate, refl, List}
use Rattle.std.proofs.Common.{sym, ap, ◌∙◌, eq-eqb, ne_eqb}
use Rattle.std.proofs.lemmas.List.{length-replicate}
use Rattle.prelude.specs.Cases.{if◌then◌otherwise◌}
use Rattle.prelude.specs.Laws.Cases.{if_true, if_false}
use Rattle.records.specs.Answer.{shortest_answer, answer_bytes, chosen}
use Rattle.records.specs.Laws.Writing.{length_answer}
use Rattle.machine.specs.declared.Change.{Change}
use Rattle.machine.specs.declared.Output.{Output}
use Rattle.machine.specs.Changes.{Message}
use Rattle.machine.specs.History.{messages_of}
use Rattle.step.specs.Entries.{call_of}
use Rattle.needs.specs.declared.Needs.{Needs}
use Rattle.needs.specs.Needs.{answer_length, field_count, fields_of, added_count, needed, refused, needs_of, needs_call}

-- ---- the answer's length, by its writer

pub written_length : (r alarm alarm2 : ℕ) (ms : List Message)
    → r ≡ (if leb shortest_answer (length {A = ℕ} (replicate shortest_answer 0)) then length (answer_bytes alarm alarm2 ms) otherwise 0) → r ≡ answer_length ms
unfolding answer_length
written_length r alarm alarm2 ms e = e ∙ if_true _ _ _ (ap (leb shortest_answer) (length-replicate {A = ℕ} shortest_answer 0)) ∙ length_answer alarm alarm2 ms

-- ---- what is counted, by how many messages there are

-- the messages that are put out
abbrev put : Output → List Message
put out = chosen out.count out.first out.second

abbrev counts : (length messages requests first second : ℕ) → Needs
counts length messages requests first second = record {
  refusal = 0;
  length = length;
  messages = messages;
  requests = requests;
  fields_first = first;
  fields_second = second;
}

module _ (out : Output) (added n k : ℕ) (long : n ≡ answer_length (put out)) (adds : k ≡ added_count added) where
  pub needed_none : eqb out.count 0 ≡ true → counts n 0 k 0 0 ≡ needed (put out) added
  unfolding needed fields_of if◌then◌otherwise◌
  needed_none z = rw (long, adds, z) refl

  module _ (some : eqb out.count 0 ≡ false) (f : ℕ) (fs : f ≡ field_count out.first) where
    pub needed_one : eqb out.count 1 ≡ true → counts n 1 k f 0 ≡ needed (put out) added
    unfolding needed fields_of if◌then◌otherwise◌
    needed_one z = rw (long, adds, fs, some, z) refl

    pub needed_two : eqb out.count 1 ≡ false → (g : ℕ) → g ≡ field_count out.second → counts n 2 k f g ≡ needed (put out) added
    unfolding needed fields_of if◌then◌otherwise◌
    needed_two z g gs = rw (long, adds, fs, gs, some, z) refl

-- ---- the call

-- of a change that is taken
pub needs_taken : (c : Change) → eqb c.refusal 0 ≡ true → needs_of c ≡ needed (messages_of c) c.requests.added
unfolding needs_of
needs_taken c e = if_true _ _ _ e

-- and of one that is refused
pub needs_refused : (c : Change) → eqb c.refusal 0 ≡ false → needs_of c ≡ refused c.refusal
unfolding needs_of
needs_refused c e = if_false _ _ _ e

module _ (b r : List ℕ) (c : Change) (h : c ≡ call_of b r shortest_answer) where
  pub call_refused : eqb c.refusal 0 ≡ false → (n : Needs) → n ≡ refused c.refusal → n ≡ needs_call b r
  unfolding needs_call
  call_refused e n v = v ∙ sym (needs_refused c e) ∙ ap needs_of h

  pub call_taken : eqb c.refusal 0 ≡ true → (n : Needs)
      → n ≡ needed (chosen c.output.count c.output.first c.output.second) c.requests.added → n ≡ needs_call b r
  unfolding needs_call messages_of
  call_taken e n v = v ∙ ap (λ (ms : List Message). needed ms c.requests.added) (sym (if_true _ _ _ e)) ∙ sym (needs_taken c e) ∙ ap needs_of h

-- ---- for the tactics of functions
pub ruleset counted = (eq-eqb, ne_eqb, needed_none, needed_one, needed_two)

pub ruleset called = (eq-eqb, call_refused, call_taken)
