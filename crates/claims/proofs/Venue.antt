-- Machine's laws of a venue's event, on bytes: the book that is left and the answer that is read are the machine's. Rests on Taken and Calls.
use Rattle.std.proofs.Common.{ℕ, ◌+◌, ◌≡◌, refl, sym, ap, ◌∙◌, subst, ◌⊎◌, inl, inr, true, false, List, eqb}
use Rattle.prelude.specs.Number.{Bytes}
use Rattle.prelude.specs.Totals.{Every}
use Rattle.records.specs.Record.{event_in}
use Rattle.store.specs.Book.{Book, order_in, request_in, book_of}
use Rattle.machine.specs.Constants.{report_kind, filled_short, stuck_cancel}
use Rattle.machine.specs.Changes.{Message}
use Rattle.machine.specs.Machine.{step_of, after}
use Rattle.machine.specs.Rules.{rules}
use Rattle.machine.specs.Said.{Answers}
use Rattle.machine.specs.Status.{Left, taken_short}
use Rattle.machine.specs.Sources.{Sourced}
use Rattle.machine.specs.declared.Change.{Change}
use Rattle.machine.proofs.Venue.Books.{status_set, six_right, sources_right}
use Rattle.rules.specs.Laws.Keeps.{keeps_held}
use Rattle.step.specs.Entries.{Returned, event_of}
use Rattle.claims.specs.Venue.{StatusOnBytes, SixOnBytes, SourcesOnBytes}
use Rattle.kept.proofs.Taken.{Taken, call_taken, returned_is, writes}
use Rattle.claims.proofs.Taken.{returned_taken}
use Rattle.claims.proofs.Calls.{answers_on_bytes}

module _ (b r a : List ℕ) (bytes : Bytes b) (bytes' : Bytes r) (z : (event_of b r a).returned ≡ 0) where
  abbrev c : Change
  c = step_of (book_of b) (event_in r)

  taken : Taken b r a
  taken = call_taken b r a (sym (returned_is b r a) ∙ z)

  keeps : rules (book_of b) ≡ true
  keeps = (keeps_held b taken.keeps).rules

  book_left : book_of (event_of b r a).book ≡ after (book_of b) c
  book_left =
      ap (λ (x : Returned). book_of x.book) (returned_taken b r a taken) ∙ (writes b r bytes bytes' taken.keeps taken.reads taken.taken).is

  answer : Answers c (event_of b r a).answer
  answer = answers_on_bytes b r a bytes bytes' z

never_six : (alarm alarm2 : ℕ) → (alarm2 ≡ 0) ⊎ ((alarm ≡ filled_short) × (alarm2 ≡ stuck_cancel)) → eqb alarm2 filled_short ≡ false
never_six alarm alarm2 (inl e) = rw e refl
never_six alarm alarm2 (inr e) = rw e.1 refl

pub status_on_bytes : StatusOnBytes
status_on_bytes b r a bytes bytes' z low high k w =
    let q = request_in (book_of b) k in
    subst (λ (x : Book). Left (k + 1) q (order_in (book_of b) q.order) (event_in r) (order_in x q.order)) (sym (book_left b r a bytes bytes' z))
    (status_set (book_of b) (event_in r) (keeps b r a bytes bytes' z) (taken b r a bytes bytes' z).taken low high k w)

pub six_on_bytes : SixOnBytes
six_on_bytes b r a bytes bytes' z =
    let h = answer b r a bytes bytes' z in (
      ap (λ (n : ℕ). eqb n filled_short) h.alarm
          ∙ six_right (book_of b) (event_in r) (keeps b r a bytes bytes' z) (taken b r a bytes bytes' z).taken
          ∙ ap (taken_short (book_of b) (event_in r)) (sym (book_left b r a bytes bytes' z)),
      never_six _ _ h.alarms.second,
    )

pub sources_on_bytes : SourcesOnBytes
sources_on_bytes b r a bytes bytes' z =
    subst (λ (ms : List Message). Every (λ m. m.kind ≡ report_kind → Sourced (book_of b) (event_in r) m) ms) (sym (answer b r a bytes bytes' z).messages)
    (sources_right (book_of b) (event_in r))
