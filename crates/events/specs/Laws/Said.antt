-- What is said of one event: its refusal, and its answer if that is 0, at the front of what is left of the answers. Rests on step's Entries, records' Answer and kept.
use Rattle.std.specs.Prelude.{ℕ, suc, ◌+◌, ◌*◌, ◌/◌, ◌%◌, ◌≤◌, ◌≡◌, refl, Bool, true, false, List, [], ◌∷◌, eqb, leb, length, take, drop}
use Rattle.std.proofs.Common.{arith, sym, ap, ◌∙◌, eq-eqb, le-leb, ne_eqb, length-drop, drop-drop, drop_at}
use Rattle.prelude.specs.Cases.{if◌then◌otherwise◌}
use Rattle.prelude.specs.Number.{Bytes}
use Rattle.prelude.specs.Span.{splice}
use Rattle.prelude.specs.Laws.Cases.{if_true, if_false}
use Rattle.prelude.specs.Laws.Span.{length_splice}
use Rattle.records.specs.declared.Record.{Record}
use Rattle.records.specs.Answer.{head_size, length_in, answer_bytes, messages_bytes, head_bytes, chosen}
use Rattle.records.specs.Laws.Writing.{answer_most, length_answer}
use Rattle.rules.specs.Keeps.{keeps_of}
use Rattle.step.specs.Entries.{Returned, returned, call_of, event_of}
use Rattle.kept.proofs.Taken.{event_refused, returned_is, event_keeps}
use Rattle.events.specs.Events.{said_of}

-- ---- the answer of an event that is taken

-- it is n bytes long and says so, and what stands behind it is as it was
pub record Answered (n : ℕ) (a answer : List ℕ) : Type 0 where
  pub most : n ≤ 1024
  pub said : length_in answer ≡ n
  pub behind : drop n answer ≡ drop n a
  pub same : length answer ≡ length a

few : (count : ℕ) (first second : Record) → length (chosen count first second) ≤ 2
unfolding if◌then◌otherwise◌
few count first second = go (eqb count 0) (eqb count 1)
  where
    go : (x y : Bool) → length (if x then [] otherwise if y then first ∷ [] otherwise first ∷ second ∷ []) ≤ 2
    go true y = omega arith
    go false true = omega arith
    go false false = omega arith

module _ (a : List ℕ) (alarm alarm2 count : ℕ) (first second : Record) (room : 1024 ≤ length a) where
  abbrev ms : List Record
  ms = chosen count first second

  abbrev written : List ℕ
  written = answer_bytes alarm alarm2 ms

  most : length written ≤ 1024
  most = omega (arith, answer_most alarm alarm2 ms (few count first second))

  length_said : length_in (splice a 0 written) ≡ length written
  unfolding splice answer_bytes head_bytes
  length_said =
      let n : ℕ = head_size + length (messages_bytes ms) in
      let e : length_in (splice a 0 written) ≡ n % 256 + 256 * (n / 256 % 256) = refl in
      e ∙ omega (arith, most, length_answer alarm alarm2 ms)

  -- behind what is spliced in front
  behind_splice : drop (length written) (splice a 0 written) ≡ drop (length written) a
  unfolding splice
  behind_splice = drop_at written (drop (length written) a) (length written) refl

  pub answer_written : (n : ℕ) (answer : List ℕ) → n ≡ (if leb 1024 (length a) then length written otherwise 0)
      → answer ≡ (if leb 1024 (length a) then splice a 0 written otherwise a) → Answered n a answer
  answer_written n answer e f =
      let t : leb 1024 (length a) ≡ true = le-leb 1024 (length a) room in
      rw (f ∙ if_true _ _ _ t, e ∙ if_true _ _ _ t) (record {
        most = most;
        said = length_said;
        behind = behind_splice;
        same = length_splice a 0 written (omega (arith, room, most));
      })

-- ---- the book that is left

pub left_keeps : (b r a : List ℕ) → Bytes b → Bytes r → keeps_of b ≡ true → (n : ℕ) (book answer : List ℕ) → returned n book answer ≡ event_of b r a → keeps_of book ≡ true
left_keeps b r a bytes bytes' keeps n book answer is = ap (λ (x : Returned). keeps_of x.book) is ∙ event_keeps b r a bytes bytes' keeps

-- ---- what is said

-- the event is taken as `event` takes it, with what is left of the answers behind a byte; what is said stands in front, n bytes of it, and the book keeps its rules
pub record Says (b r a : List ℕ) (n : ℕ) (book answers : List ℕ) : Type 0 where
  pub left : book ≡ (event_of b r (drop 1 a)).book
  pub said : take n answers ≡ said_of (event_of b r (drop 1 a))
  pub long : n ≤ length answers
  pub behind : drop n answers ≡ drop n a
  pub same : length answers ≡ length a
  pub keeps : keeps_of book ≡ true
  pub bytes : Bytes book

module _ (b r a : List ℕ) (room : 1025 ≤ length a) where
  abbrev o : Returned
  o = event_of b r (drop 1 a)

  -- what `take` leaves in the book and in the answers behind the first byte
  module _ (n : ℕ) (book answer : List ℕ) (is : returned n book answer ≡ o) (kept : keeps_of book ≡ true) (fits : Bytes book) where
    -- it was taken
    taken : n ≡ 0 → (k : ℕ) → Answered k (drop 1 a) answer → Says b r a (suc k) book (0 ∷ answer)
    unfolding said_of
    taken z k w = record {
      left = ap (λ (x : Returned). x.book) is;
      said =
          ap (λ (m : ℕ). 0 ∷ take m answer) (sym w.said)
          ∙ ap (λ (m : ℕ). m ∷ take (length_in answer) answer) (sym z)
          ∙ ap (λ (x : List ℕ). n ∷ x) (sym (if_true (eqb n 0) (take (length_in answer) answer) [] (eq-eqb n 0 z)))
          ∙ ap said_of is;
      long = omega (arith, w.most, w.same, length-drop 1 a);
      behind = w.behind ∙ drop-drop k 1 a ∙ ap (λ (m : ℕ). drop m a) (let s : 1 + k ≡ suc k = omega arith in s);
      same = omega (arith, w.same, length-drop 1 a);
      keeps = kept;
      bytes = fits;
    }

    pub said_taken : n ≡ 0 → (k : ℕ) → Answered k (drop 1 a) answer → (m : ℕ) → m ≡ 1 + k → (answers : List ℕ) → answers ≡ 0 ∷ answer → Says b r a m book answers
    said_taken z k w m e answers f = rw (f, let s : m ≡ suc k = omega arith in s) (taken z k w)

    -- it was refused
    refused_lem : (n ≡ 0 → ⊥) → Says b r a 1 book (n ∷ answer)
    unfolding said_of
    refused_lem z = record {
      left = ap (λ (x : Returned). x.book) is;
      said = ap (λ (x : List ℕ). n ∷ x) (sym (if_false (eqb n 0) (take (length_in answer) answer) [] (ne_eqb n 0 z))) ∙ ap said_of is;
      long = omega arith;
      behind = unchanged;
      same = omega (arith, ap length unchanged, length-drop 1 a);
      keeps = kept;
      bytes = fits;
    }
      where
        refused : eqb (call_of b r (length (drop 1 a))).refusal 0 ≡ false
        refused = ne_eqb _ 0 (λ k. z (ap (λ (x : Returned). x.returned) is ∙ returned_is b r (drop 1 a) ∙ k))

        unchanged : answer ≡ drop 1 a
        unchanged = ap (λ (x : Returned). x.answer) is ∙ ap (λ (x : Returned). x.answer) (event_refused b r (drop 1 a) refused)

    pub said_refused : (n ≡ 0 → ⊥) → (answers : List ℕ) → answers ≡ n ∷ answer → Says b r a 1 book answers
    said_refused z answers f = rw f (refused_lem z)
