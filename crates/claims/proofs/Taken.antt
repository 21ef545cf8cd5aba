-- What holds of a call, taken or refused, and check's number. Rests on kept's Taken.
use Rattle.std.proofs.Common.{ℕ, arith, ◌≡◌, refl, sym, ap, ◌∙◌, subst, Bool, true, false, List, eqb, length, eqb-true, eq-eqb}
use Rattle.prelude.specs.Laws.Cases.{if_true, if_false}
use Rattle.prelude.specs.Number.{Bytes}
use Rattle.prelude.specs.Laws.Span.{length_splice}
use Rattle.records.specs.Record.{event_in}
use Rattle.records.specs.Answer.{answer_bytes}
use Rattle.store.specs.Book.{book_of}
use Rattle.machine.specs.declared.Change.{Change}
use Rattle.machine.specs.Machine.{step_of}
use Rattle.machine.specs.History.{messages_of}
use Rattle.machine.proofs.Said.Steps.{messages_few}
use Rattle.rules.specs.Keeps.{keeps_of}
use Rattle.step.specs.Entries.{book_with, Returned, returned, call_of, event_of, check_of}
use Rattle.claims.specs.Claims.{WritesChange, Sizes, KeepsSizes}
use Rattle.records.specs.Laws.Writing.{answer_most}
use Rattle.store.specs.Laws.Kept.{Keeps}
use Rattle.kept.proofs.Taken.{Taken, call_taken, left, event_taken, event_refused, writes}

-- ---- check and its number

pub check_kept : (b : List ℕ) → keeps_of b ≡ true → check_of b ≡ 0
unfolding check_of
check_kept b k = if_true _ _ _ k

pub check_broken : (b : List ℕ) → keeps_of b ≡ false → check_of b ≡ 1
unfolding check_of
check_broken b k = if_false _ _ _ k

pub kept_check : (b : List ℕ) → check_of b ≡ 0 → keeps_of b ≡ true
kept_check b z = go (keeps_of b) refl
  where
    go : (t : Bool) → keeps_of b ≡ t → t ≡ true
    go true k = refl
    go false k = absurd (omega (arith, check_broken b k))

-- A CHANGE ON BYTES is the change on the book
pub writes_change : WritesChange
writes_change b r bytes bytes' z reads taken = (writes b r bytes bytes' (kept_check b z) reads taken).is

-- ---- one call, taken or refused

pub returned_taken : (b r a : List ℕ) → Taken b r a → event_of b r a ≡ left b r a (step_of (book_of b) (event_in r))
returned_taken b r a t = event_taken b r a (eq-eqb _ 0 (ap (λ (c : Change). c.refusal) t.is ∙ t.taken)) ∙ ap (left b r a) t.is

-- what holds both of a call that is taken and of one that is refused, holds
pub either_way : (P : Returned → Type 0) (b r a : List ℕ) → (Taken b r a → P (left b r a (step_of (book_of b) (event_in r))))
    → (eqb (call_of b r (length a)).refusal 0 ≡ false → P (returned (call_of b r (length a)).refusal b a)) → P (event_of b r a)
either_way P b r a f g = go (eqb (call_of b r (length a)).refusal 0) refl
  where
    go : (t : Bool) → eqb (call_of b r (length a)).refusal 0 ≡ t → P (event_of b r a)
    go true e = let t : Taken b r a = call_taken b r a (eqb-true _ 0 e) in subst P (sym (returned_taken b r a t)) (f t)
    go false e = subst P (sym (event_refused b r a e)) (g e)

pub keeps_sizes : KeepsSizes
keeps_sizes b r a =
    either_way (Sizes b r a) b r a
    (λ t.
    let c : Change = step_of (book_of b) (event_in r) in
    let w : List ℕ = answer_bytes c.output.alarm c.output.alarm2 (messages_of c) in
    let k : (Bytes b → Bytes r → Keeps b (book_with b c)) = λ x y. (writes b r x y t.keeps t.reads t.taken).keeps in
    record {
      answer = length_splice a 0 w (omega (arith, t.room, answer_most c.output.alarm c.output.alarm2 (messages_of c) (messages_few c)));
      book = λ x y. (k x y).same;
      bytes = λ x y. (k x y).bytes x;
    })
    (λ e. record { answer = refl; book = λ x y. refl; bytes = λ x y. x })
