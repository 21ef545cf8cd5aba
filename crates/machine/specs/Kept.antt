-- Demand 1 on the machine: the book that start makes keeps its rules, and so does the book that an event leaves. Rests on Machine, Rules and Events.
-- The proofs are in proofs/.
use Rattle.std.specs.Prelude.{ℕ, ◌≡◌, true}
use Rattle.store.specs.Book.{Book, empty_book}
use Rattle.machine.specs.Changes.{Event}
use Rattle.machine.specs.Machine.{book_after}
use Rattle.machine.specs.Rules.{rules}
use Rattle.machine.specs.Events.{Ranged}

abbrev pub StartKeeps : Type 0
StartKeeps = (setting : ℕ) → rules (empty_book setting) ≡ true

abbrev pub StepKeeps : Type 0
StepKeeps = (b : Book) (e : Event) → Ranged e → rules b ≡ true → rules (book_after b e) ≡ true
