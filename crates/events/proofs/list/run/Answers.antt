-- `run` is the definition's, turn by turn. Assumes nothing.
use Rattle.std.proofs.Common.{ℕ, zero, suc, ◌+◌, ◌-◌, ◌≤◌, ◌≡◌, arith, refl, sym, ap, ◌∙◌, subst, List, length, take, drop, length-drop, Bool, true, false, Option, None, Some}
use Rattle.prelude.specs.Cases.{if◌then◌otherwise◌, maybe}
use Rattle.prelude.specs.Number.{word16}
use Rattle.prelude.specs.Laws.Cases.{if_true, if_false}
use Rattle.events.specs.Events.{has_whole}
use Rattle.events.specs.Laws.Said.{Says}
use Rattle.events.specs.Laws.Runs.{stands_full, stands_ended, stands_next, whole_long}
use Rattle.events.proofs.Lent.{lent, back}
use Rattle.events.proofs.list.run.Goals as goal

-- ---- what `whole` found

apart : (n : ℕ) → Some n ≡ None → ⊥
unfolding maybe
apart n e = let z : suc zero ≡ zero = ap (maybe zero (λ (k : ℕ). suc zero)) e in omega (arith, z)

found : (d : List ℕ) (n : ℕ) → Some n ≡ (if has_whole d then Some (word16 d 0) otherwise None) → (has_whole d ≡ true) × (n ≡ word16 d 0)
unfolding maybe
found d n e = go (has_whole d) refl
  where
    go : (t : Bool) → has_whole d ≡ t → (has_whole d ≡ true) × (n ≡ word16 d 0)
    go true w = (w, ap (maybe 0 (λ k. k)) (e ∙ if_true _ _ _ w))
    go false w = absurd (apart n (e ∙ if_false _ _ _ w))

missed : (d : List ℕ) (o : Option ℕ) → o ≡ None → o ≡ (if has_whole d then Some (word16 d 0) otherwise None) → has_whole d ≡ false
missed d o z e = go (has_whole d) refl
  where
    go : (t : Bool) → has_whole d ≡ t → has_whole d ≡ false
    go true w = absurd (apart (word16 d 0) (sym (sym z ∙ e ∙ if_true _ _ _ w)))
    go false w = w

module _ (rs : List ℕ) (read n : ℕ) (e : Some n ≡ (if has_whole (take (length rs - read) (drop read rs)) then Some (word16 (take (length rs - read) (drop read rs)) 0) otherwise None)) where
  there : (has_whole (drop read rs) ≡ true) × (n ≡ word16 (drop read rs) 0)
  there = subst (λ (d : List ℕ). (has_whole d ≡ true) × (n ≡ word16 d 0)) (lent read rs) (found _ n e)

  within : read ≤ length rs → read + (2 + n) ≤ length rs
  within h = omega (arith, whole_long (drop read rs) there.0, there.1, length-drop read rs)

-- ---- the turn

pub overflow_add-record-in-loop-answers-2 : goal.overflow_add-record-in-loop-answers-2
overflow_add-record-in-loop-answers-2 c =
    let l = c.loop-answers in
    record { fits = omega (arith, within c.args.records.now l.read c.in-Some.length c.in-Some.ensures l.invariant.read_in, c.well_formed.1.0.0) }

pub slice_bounds-record-end : goal.slice_bounds-record-end
slice_bounds-record-end c =
    let l = c.loop-answers in
    omega (arith, within c.args.records.now l.read c.in-Some.length c.in-Some.ensures l.invariant.read_in)

pub loop-answers-smaller : goal.loop-answers-smaller
loop-answers-smaller c =
    let l = c.loop-answers in
    omega (arith, within c.args.records.now l.read c.in-Some.length c.in-Some.ensures l.invariant.read_in)

pub loop-answers-preserved : goal.loop-answers-preserved
loop-answers-preserved c =
    let l = c.loop-answers in
    let w = there c.args.records.now l.read c.in-Some.length c.in-Some.ensures in
    let lent-record : List ℕ = take ((l.read + 2 + c.in-Some.length) - (l.read + 2)) (drop (l.read + 2) c.args.records.now) in
    let r : lent-record ≡ take c.in-Some.length (drop (l.read + 2) c.args.records.now) = ap (λ (n : ℕ). take n (drop (l.read + 2) c.args.records.now)) (omega arith) in
    stands_next _ _ _ _ _ _ _ _ l.invariant c.loop-answers-test.true c.in-Some.length w.0 w.1 c.say-written.result c.say-written.new.book c.say-written.new.answers
    (subst (λ (x : List ℕ). Says l.book x (drop l.written l.answers) c.say-written.result c.say-written.new.book c.say-written.new.answers) r
    (subst (λ (x : List ℕ). Says l.book lent-record x c.say-written.result c.say-written.new.book c.say-written.new.answers) (lent l.written l.answers) c.say-written.ensures))
    _ (back l.written l.answers c.say-written.new.answers)

pub returns-after-loop-answers : goal.returns-after-loop-answers
returns-after-loop-answers c =
    stands_full _ _ _ _ _ _ _ _ c.loop-answers.invariant c.loop-answers-test.false

pub returns-in_default : goal.returns-in_default
returns-in_default c =
    let l = c.loop-answers in
    stands_ended _ _ _ _ _ _ _ _ l.invariant (subst (λ (d : List ℕ). has_whole d ≡ false) (lent l.read c.args.records.now) (missed _ _ c.in_default.is c.whole.ensures))
