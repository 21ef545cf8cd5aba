-- `say` says what `said_of` says of the event. Assumes nothing.
use Rattle.std.proofs.Common.{ℕ, ◌-◌, ◌≤◌, ◌≡◌, arith, refl, ap, ◌∙◌, subst, List, [], ◌∷◌, ◌++◌, length, slice_set, take}
use Rattle.std.proofs.lemmas.Bool.{eqb-false}
use borrow.Rule.Slice.PartMut.{put_mid}
use Rattle.step.specs.Entries.{event_of}
use Rattle.step.specs.Laws.Taken.{numbered}
use Rattle.events.specs.Laws.Said.{Answered, said_taken, said_refused}
use Rattle.events.proofs.Lent.{lent, back}
use Rattle.events.proofs.list.say.Goals as goal

-- what comes back stands behind the byte that is set
set_front : (xs ys : List ℕ) (v : ℕ) → 1 ≤ length xs → slice_set (take 1 xs ++ ys) 0 v ≡ v ∷ ys
set_front [] ys v h = absurd (omega arith)
set_front (x ∷ xs) ys v h = refl

said_back : (xs ys : List ℕ) (v : ℕ) → 1 ≤ length xs → slice_set (put_mid 1 (length xs - 1) xs ys) 0 v ≡ v ∷ ys
said_back xs ys v h = ap (λ (l : List ℕ). slice_set l 0 v) (back 1 xs ys) ∙ set_front xs ys v h

pub returns-in-Ok : goal.returns-in-Ok
returns-in-Ok c =
    let a = c.args.answers.now in
    said_taken _ _ a c.requires.room 0 c.take.new.book c.take.new.answer (c.in-Ok.ensures.is ∙ ap (event_of _ _) (lent 1 a)) c.in-Ok.ensures.kept c.in-Ok.ensures.fits refl c.in-Ok.length
    (subst (λ (x : List ℕ). Answered c.in-Ok.length x c.take.new.answer) (lent 1 a) c.in-Ok.ensures.answered) _ refl _ (said_back a c.take.new.answer 0 (omega (arith, c.requires.room)))

pub returns-in-Err : goal.returns-in-Err
returns-in-Err c =
    let a = c.args.answers.now in
    rw c.number.ensures
    (said_refused _ _ a c.requires.room _ c.take.new.book c.take.new.answer (c.in-Err.ensures.is ∙ ap (event_of _ _) (lent 1 a)) c.in-Err.ensures.kept c.in-Err.ensures.fits (eqb-false _ 0 (numbered c.in-Err.refusal)) _ (said_back a c.take.new.answer _ (omega (arith, c.requires.room))))
