-- In the book of any bytes that calls lead to, gateway cancels name their own orders' requests. Rests on parts' Own and on kept's Taken.
use Rattle.std.proofs.Common.{ℕ, ◌^◌, ◌<◌, arith, ◌≡◌, sym, ap, subst, ◌∙◌, List}
use Rattle.prelude.specs.Number.{Bytes}
use Rattle.records.specs.Record.{event_in}
use Rattle.store.specs.Book.{book_of, empty_book}
use Rattle.store.specs.Laws.Adds.{blank_book}
use Rattle.machine.proofs.Kept.Indexed.{book_kept}
use Rattle.rules.specs.Laws.Keeps.{keeps_held}
use Rattle.step.specs.Entries.{Returned, event_of, start_of, start_refusal}
use Rattle.kept.proofs.Taken.{writes, after_is}
use Rattle.parts.specs.Laws.Own.{own_kept}
use Rattle.parts.specs.Alike.{OwnNamed}
use Rattle.claims.proofs.Taken.{either_way}
use Rattle.claims.proofs.Calls.{start_is}

-- a book without orders
own_empty : (setting : ℕ) → OwnNamed (empty_book setting)
own_empty setting i h = absurd (omega arith)

pub own_start : (b : List ℕ) (setting : ℕ) → setting < 2 ^ 32 → start_refusal b ≡ 0 → OwnNamed (book_of (start_of b setting))
own_start b setting small z = subst OwnNamed (sym (ap book_of (start_is b setting z) ∙ blank_book setting small)) (own_empty setting)

pub own_event : (b r a : List ℕ) → Bytes b → Bytes r → OwnNamed (book_of b) → OwnNamed (book_of (event_of b r a).book)
own_event b r a bytes bytes' own =
    either_way (λ (o : Returned). OwnNamed (book_of o.book)) b r a
    (λ t.
    subst OwnNamed (after_is (book_of b) (event_in r) t.taken ∙ sym (writes b r bytes bytes' t.keeps t.reads t.taken).is)
    (own_kept (book_of b) (book_kept (book_of b) (keeps_held b t.keeps).rules) own (event_in r)))
    (λ e. own)
