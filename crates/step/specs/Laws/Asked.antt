-- The questions as the code comes to them: what a call is once some are asked. Rests on Entries.
use Rattle.std.specs.Prelude.{ℕ, ◌≤◌, ◌<◌, ◌≡◌, ◌≢◌, Bool, not, ◌&&◌, List, leb, ltb, refl, true, false, eqb}
use Rattle.std.proofs.Common.{sym, subst, arith, le-leb, le-ltb, lt-ltb}
use Rattle.std.proofs.Math.Decide.{dec_lt}
use Rattle.std.proofs.lemmas.Bool.{not-true, not-false, lt-leb}
use Rattle.prelude.specs.Cases.{if◌then◌otherwise◌}
use Rattle.prelude.specs.Laws.Cases.{split_if, clash}
use Rattle.prelude.specs.declared.Refusal.{Refusal}
use Rattle.prelude.specs.declared.Refusal.TheVariants.{BadBook}
use Rattle.prelude.specs.Refusal.{number_of}
use Rattle.format.specs.Refusal.{event_refusal}
use Rattle.records.specs.Record.{event_in}
use Rattle.records.specs.Answer.{shortest_answer}
use Rattle.store.specs.Book.{book_of}
use Rattle.machine.specs.declared.Change.{Change}
use Rattle.machine.specs.Changes.{Event, refusing}
use Rattle.machine.specs.Machine.{step_of}
use Rattle.rules.specs.Keeps.{keeps_of}
use Rattle.step.specs.Entries.{call_of}
use Rattle.step.specs.Steps.{reads}
use Rattle.step.specs.Laws.Taken.{numbered}

-- a test that the code has negated
pub found_not : (x y : Bool) → x ≡ y → not x ≡ true → y ≡ false
found_not true y e h = clash false h refl
found_not false y e h = sym e

pub found_so : (x y : Bool) → x ≡ y → not x ≡ false → y ≡ true
found_so true y e h = sym e
found_so false y e h = clash true refl h

-- what a record is refused with fits a byte
few : (r : List ℕ) → event_refusal r ≤ 4
unfolding event_refusal
few r =
    let P : ℕ → Type 0 = λ n. n ≤ 4 in
    split_if P _ (λ t. split_if P _ (λ u. omega arith) (λ u. omega arith)) (λ t. omega arith)

pub read_few : (r : List ℕ) (n : ℕ) → n ≡ event_refusal r → n ≤ 4
read_few r n e = omega (arith, few r)

-- a record that is refused gets 3 or 4
abbrev ThreeFour : ℕ → Type 0
ThreeFour n = n ≢ 0 → n ≢ 3 → n ≡ 4

four : (r : List ℕ) → ThreeFour (event_refusal r)
unfolding event_refusal
four r = split_if ThreeFour _ (λ t. split_if ThreeFour _ (λ u z h. absurd (z refl)) (λ u z h. refl)) (λ t z h. absurd (h refl))

pub read_four : (r : List ℕ) (n : ℕ) → n ≡ event_refusal r → ThreeFour n
read_four r n e = rw e (four r)

-- ---- whether the record is read

pub unread_short : (r : List ℕ) (room : ℕ) → room < shortest_answer → reads r room ≡ false
unfolding reads
unread_short r room l = rw (lt-leb shortest_answer room l) refl

pub unread_refused : (r : List ℕ) (room : ℕ) (q : Refusal) → number_of q ≡ event_refusal r → reads r room ≡ false
unfolding reads
unread_refused r room q e = rw (← e, numbered q) (and_false (leb shortest_answer room))
  where
    and_false : (x : Bool) → x && false ≡ false
    and_false true = refl
    and_false false = refl

pub read_both : (r : List ℕ) (room : ℕ) → shortest_answer ≤ room → 0 ≡ event_refusal r → reads r room ≡ true
unfolding reads
read_both r room l e = rw (le-leb shortest_answer room l, ← e) refl

module _ (b r : List ℕ) (room : ℕ) where
  -- ---- question 1

  pub call_1 : keeps_of b ≡ false → refusing 1 ≡ call_of b r room
  unfolding call_of if◌then◌otherwise◌
  call_1 k = rw k refl

  module _ (k : keeps_of b ≡ true) where
    -- ---- question 2

    pub call_2 : room < shortest_answer → refusing 2 ≡ call_of b r room
    unfolding call_of if◌then◌otherwise◌
    call_2 l = rw (k, lt-ltb room shortest_answer l) refl

    module _ (l : shortest_answer ≤ room) (n : ℕ) (e : n ≡ event_refusal r) where
      -- ---- questions 3 and 4

      pub call_3 : eqb n 0 ≡ false → refusing n ≡ call_of b r room
      unfolding call_of if◌then◌otherwise◌
      call_3 z = rw (k, le-ltb room shortest_answer l, ← e, z) refl

      -- ---- questions 5, 6 and 7

      pub call_5 : eqb n 0 ≡ true → (v : Event) → v ≡ event_in r → (c : Change) → c ≡ step_of (book_of b) v → c ≡ call_of b r room
      unfolding call_of if◌then◌otherwise◌
      call_5 z v f c s = rw (k, le-ltb room shortest_answer l, ← e, z, ← f) s

  -- the same as the code has it: the book that was asked for is `k`, and a refusal is an enum's
  pub call_bad : (q : Refusal) → q ≡ BadBook → keeps_of b ≡ false → refusing (number_of q) ≡ call_of b r room
  call_bad q e k = rw e (call_1 k)

  module _ (k : List ℕ) (same : k ≡ b) (kept : keeps_of k ≡ true) where
    pub call_short : room < shortest_answer → refusing 2 ≡ call_of b r room
    call_short l = call_2 (subst (λ (s : List ℕ). keeps_of s ≡ true) same kept) l

    pub call_unread : shortest_answer ≤ room → (q : Refusal) → number_of q ≡ event_refusal r → refusing (number_of q) ≡ call_of b r room
    call_unread l q e = call_3 (subst (λ (s : List ℕ). keeps_of s ≡ true) same kept) l (number_of q) e (numbered q)

    pub call_read : shortest_answer ≤ room → 0 ≡ event_refusal r → (v : Event) → v ≡ event_in r → (c : Change) → c ≡ step_of (book_of k) v → c ≡ call_of b r room
    call_read l z v f c s =
        call_5 (subst (λ (x : List ℕ). keeps_of x ≡ true) same kept) l 0 z refl v f c (rw (← same) s)

  -- a call that is taken has room for its answer
  short : (k : Bool) → keeps_of b ≡ k → room < shortest_answer → eqb (call_of b r room).refusal 0 ≡ false
  unfolding call_of refusing if◌then◌otherwise◌
  short false e l = rw e refl
  short true e l = rw (e, lt-ltb room shortest_answer l) refl

  -- it is the machine's step, on a book that keeps its rules
  pub taken_step : eqb (call_of b r room).refusal 0 ≡ true → (keeps_of b ≡ true) × (call_of b r room ≡ step_of (book_of b) (event_in r))
  unfolding call_of refusing
  taken_step =
      let P : Change → Type 0 = λ c. eqb c.refusal 0 ≡ true → (keeps_of b ≡ true) × (c ≡ step_of (book_of b) (event_in r)) in
      split_if P (not (keeps_of b)) (λ t z. clash _ z refl)
      (λ t. split_if P (ltb room shortest_answer) (λ u z. clash _ z refl)
      (λ u. split_if P (not (eqb (event_refusal r) 0)) (λ v z. clash _ z (not-true _ v)) (λ v z. (not-false (keeps_of b) t, refl))))

  pub room_enough : eqb (call_of b r room).refusal 0 ≡ true → leb shortest_answer room ≡ true
  room_enough z = go (dec_lt room shortest_answer)
    where
      go : Dec (room < shortest_answer) → leb shortest_answer room ≡ true
      go (yes h) = clash _ z (short (keeps_of b) refl h)
      go (no h) = le-leb shortest_answer room (omega arith)

-- how a call ends, for the tactic of the function that asks
pub ruleset questions = (call_bad, call_short, call_unread, call_read)
