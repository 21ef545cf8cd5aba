-- One call on two books in bytes, one of which is the part of the other that was not done: the same number and answer, and two such books. Rests on Named and Steps.
use Rattle.std.proofs.Common.{ℕ, ◌≤◌, ◌<◌, arith, ◌≡◌, refl, sym, ap, subst, ◌∙◌, ◌⊎◌, inl, inr, Bool, true, false, not, List, [], ◌∷◌, eqb, ltb, length, eqb-true, eq-eqb, ne_eqb, le-ltb, lt-ltb, ltb-false}
use Rattle.std.specs.List.{list_any}
use Rattle.std.proofs.Math.Decide.{ℕ_discrete, dec_lt}
use Rattle.std.proofs.lemmas.Bool.{and_from}
use Rattle.prelude.specs.Laws.Cases.{if_true, if_false, clash}
use Rattle.prelude.specs.Number.{Bytes}
use Rattle.prelude.specs.Span.{splice}
use Rattle.records.specs.Answer.{chosen}
use Rattle.store.specs.Book.{Book, book_of}
use Rattle.machine.specs.declared.Change.{Change}
use Rattle.machine.specs.Changes.{Event, Message, refusing}
use Rattle.machine.specs.Machine.{step_of, book_after}
use Rattle.machine.specs.History.{messages_of}
use Rattle.machine.proofs.Kept.Indexed.{BookKept}
use Rattle.machine.proofs.Said.Reads.{event_ranged, event_kind}
use Rattle.rules.specs.Keeps.{keeps_of}
use Rattle.format.specs.Refusal.{event_refusal}
use Rattle.step.specs.Entries.{Returned, returned, call_of}
use Rattle.kept.proofs.Taken.{Taken, event_refused, returned_is}
use Rattle.parts.specs.Parts.{live_at, part}
use Rattle.quiet.specs.Part.{Parted, NotMany, Fixed, Unnoticed}
use Rattle.quiet.proofs.Silent.{refused_silent}
use Rattle.quiet.proofs.Step.{unnoticed_event}
use Rattle.claims.specs.Claims.{Call, heard_of}
use Rattle.claims.specs.Exchange.{called}
use Rattle.claims.specs.Unnoticed.{NamesNoneDone, says_too_many}
use Rattle.claims.proofs.Calls.{answers_on_bytes}
use Rattle.claims.proofs.Steps.{call_event, taken_here, called_is, left_is, left_keeps, left_bytes, answer_same}
use Rattle.claims.proofs.Unnoticed.Named.{names_passing, fixed_on}

-- y is x but for what was done in `was`
pub record Apart (was : Book) (x y : List ℕ) : Type 0 where
  pub bytes : Bytes x
  pub bytes' : Bytes y
  pub keeps : keeps_of x ≡ true
  pub keeps' : keeps_of y ≡ true
  pub part_of : book_of y ≡ part (live_at was) (book_of x)
  pub parted : Parted (live_at was) (book_of x)
  pub fixed : Fixed (live_at was) was (book_of x)

pub record SameCall (was : Book) (x y : List ℕ) (k : Call) : Type 0 where
  pub number : (called y k).returned ≡ (called x k).returned
  pub answer : (called y k).answer ≡ (called x k).answer
  pub apart : Apart was (called x k).book (called y k).book

-- ---- a call by its questions

module _ (b : List ℕ) (k : Call) (keeps : keeps_of b ≡ true) where
  call_short : ltb (length k.answer) 1024 ≡ true → call_of b k.event (length k.answer) ≡ refusing 2
  unfolding call_of
  call_short s = if_false _ _ _ (ap not keeps) ∙ if_true _ _ _ s

  call_unread : ltb (length k.answer) 1024 ≡ false → eqb (event_refusal k.event) 0 ≡ false → call_of b k.event (length k.answer) ≡ refusing (event_refusal k.event)
  unfolding call_of
  call_unread s u = if_false _ _ _ (ap not keeps) ∙ if_false _ _ _ s ∙ if_true _ _ _ (ap not u)

  call_step : ltb (length k.answer) 1024 ≡ false → eqb (event_refusal k.event) 0 ≡ true → call_of b k.event (length k.answer) ≡ step_of (book_of b) (call_event k)
  unfolding call_of
  call_step s u = if_false _ _ _ (ap not keeps) ∙ if_false _ _ _ s ∙ if_false _ _ _ (ap not u)

-- what a refused change gives
refused_call : (b : List ℕ) (k : Call) (c : Change) → call_of b k.event (length k.answer) ≡ c → eqb c.refusal 0 ≡ false → called b k ≡ returned c.refusal b k.answer
refused_call b k c e z =
    event_refused b k.event k.answer (ap (λ (x : Change). eqb x.refusal 0) e ∙ z) ∙ ap (λ (x : Change). returned x.refusal b k.answer) e

refusing_is : (n : ℕ) → (refusing n).refusal ≡ n
unfolding refusing
refusing_is n = refl

-- ---- what is heard of a step that is taken: not too many

heard_few : (b : List ℕ) (k : Call) → Bytes b → (called b k).returned ≡ 0 → (step_of (book_of b) (call_event k)).refusal ≡ 0 → list_any says_too_many (heard_of b k) ≡ false
    → NotMany (step_of (book_of b) (call_event k))
unfolding NotMany heard_of messages_of
heard_few b k bytes z t few some kind text =
    let d : Change = step_of (book_of b) (call_event k) in
    let heard : heard_of b k ≡ chosen d.output.count d.output.first d.output.second =
    if_true _ _ _ (eq-eqb _ 0 z) ∙ (answers_on_bytes b k.event k.answer bytes k.bytes z).messages ∙ if_true _ _ _ (eq-eqb d.refusal 0 t) in
    let says : says_too_many d.output.first ≡ true = and_from _ _ (eq-eqb _ _ kind) (eq-eqb _ _ text) in
    clash _ (told d.output.count d.output.first d.output.second some says) (ap (list_any says_too_many) (sym heard) ∙ few)
  where
    told : (n : ℕ) (m m' : Message) → 0 < n → says_too_many m ≡ true → list_any says_too_many (chosen n m m') ≡ true
    told n m m' l s = go (ℕ_discrete n 1)
      where
        front : (ms : List Message) → list_any says_too_many (m ∷ ms) ≡ true
        front ms = rw s

        go : Dec (n ≡ 1) → list_any says_too_many (chosen n m m') ≡ true
        go (yes e) = ap (list_any says_too_many) (if_false (eqb n 0) _ _ (ne_eqb n 0 (λ z. omega arith)) ∙ if_true (eqb n 1) _ _ (eq-eqb n 1 e)) ∙ front []
        go (no e) = ap (list_any says_too_many) (if_false (eqb n 0) _ _ (ne_eqb n 0 (λ z. omega arith)) ∙ if_false (eqb n 1) _ _ (ne_eqb n 1 e)) ∙ front (m' ∷ [])

-- ---- the call on both

module _ (was : Book) (good : BookKept was) (x y : List ℕ) (a : Apart was x y) (k : Call) (names : event_refusal k.event ≡ 0 → NamesNoneDone was (call_event k))
    (roomy : (called x k).returned ≡ 7 → ⊥) (few : list_any says_too_many (heard_of x k) ≡ false) where
  abbrev e : Event
  e = call_event k

  abbrev p : ℕ → Bool
  p = live_at was

  both_refused : (n : ℕ) → called x k ≡ returned n x k.answer → called y k ≡ returned n y k.answer → SameCall was x y k
  both_refused n u v = record {
    number = ap (λ (o : Returned). o.returned) v ∙ sym (ap (λ (o : Returned). o.returned) u);
    answer = ap (λ (o : Returned). o.answer) v ∙ sym (ap (λ (o : Returned). o.answer) u);
    apart = subst (λ (o : Returned). Apart was o.book (called y k).book) (sym u) (subst (λ (o : Returned). Apart was x o.book) (sym v) a);
  }

  module _ (long : ltb (length k.answer) 1024 ≡ false) (reads : eqb (event_refusal k.event) 0 ≡ true) where
    reads_is : event_refusal k.event ≡ 0
    reads_is = eqb-true _ 0 reads

    room_is : 1024 ≤ length k.answer
    room_is = ltb-false (length k.answer) 1024 long

    returned_step : (called x k).returned ≡ (step_of (book_of x) e).refusal
    returned_step = returned_is x k.event k.answer ∙ ap (λ (c : Change). c.refusal) (call_step x k a.keeps long reads)

    not_many : NotMany (step_of (book_of x) e)
    not_many = go (refused_silent (book_of x) e)
      where
        go : ((step_of (book_of x) e).refusal ≡ 0) ⊎ ((step_of (book_of x) e).output.count ≡ 0) → NotMany (step_of (book_of x) e)
        go (inl z) = heard_few x k a.bytes (returned_step ∙ z) z few
        go (inr z) = unfold NotMany in λ some kind text. absurd (omega arith)

    unnoticed : Unnoticed p (book_of x) e
    unnoticed =
        unnoticed_event p (book_of x) e a.parted (names_passing was good (book_of x) a.fixed e (event_kind k.event reads_is) (names reads_is)) (event_ranged k.event k.bytes reads_is)
        (λ z. roomy (returned_step ∙ z)) not_many

    same_refusal : (step_of (book_of y) e).refusal ≡ (step_of (book_of x) e).refusal
    same_refusal = ap (λ (b : Book). (step_of b e).refusal) a.part_of ∙ (unnoticed).refusal

    same_output : (step_of (book_of y) e).output ≡ (step_of (book_of x) e).output
    same_output = ap (λ (b : Book). (step_of b e).output) a.part_of ∙ (unnoticed).output

    taken_both : (step_of (book_of x) e).refusal ≡ 0 → SameCall was x y k
    taken_both z =
        let u = unnoticed in
        let t : Taken x k.event k.answer = taken_here x k a.keeps room_is reads_is z in
        let t' : Taken y k.event k.answer = taken_here y k a.keeps' room_is reads_is (same_refusal ∙ z) in
        let left : book_of (called x k).book ≡ book_after (book_of x) e = left_is x k a.bytes t in
        record {
          number = ap (λ (o : Returned). o.returned) (called_is y k a.bytes' t') ∙ sym (ap (λ (o : Returned). o.returned) (called_is x k a.bytes t));
          answer =
              ap (λ (o : Returned). o.answer) (called_is y k a.bytes' t')
              ∙ ap (splice k.answer 0) (answer_same (step_of (book_of y) e) (step_of (book_of x) e) (same_refusal ∙ z) z same_output)
              ∙ sym (ap (λ (o : Returned). o.answer) (called_is x k a.bytes t));
          apart = record {
            bytes = left_bytes x k a.bytes t;
            bytes' = left_bytes y k a.bytes' t';
            keeps = left_keeps x k a.bytes t;
            keeps' = left_keeps y k a.bytes' t';
            part_of = left_is y k a.bytes' t' ∙ ap (λ (b : Book). book_after b e) a.part_of ∙ u.left ∙ ap (part p) (sym left);
            parted = subst (Parted p) (sym left) u.parted;
            fixed = subst (Fixed p was) (sym left) (fixed_on was good (book_of x) a.fixed e (event_kind k.event reads_is) (names reads_is) (book_after (book_of x) e) u.fixed);
          };
        }

    refused_both : eqb (step_of (book_of x) e).refusal 0 ≡ false → SameCall was x y k
    refused_both z =
        both_refused (step_of (book_of x) e).refusal
        (refused_call x k _ (call_step x k a.keeps long reads) z)
        (refused_call y k _ (call_step y k a.keeps' long reads) (ap (λ (n : ℕ). eqb n 0) same_refusal ∙ z) ∙ ap (λ (n : ℕ). returned n y k.answer) same_refusal)

    stepped : SameCall was x y k
    stepped = go (ℕ_discrete (step_of (book_of x) e).refusal 0)
      where
        go : Dec ((step_of (book_of x) e).refusal ≡ 0) → SameCall was x y k
        go (yes z) = taken_both z
        go (no z) = refused_both (ne_eqb _ 0 z)

  -- a refusal before the machine
  early : (n : ℕ) → eqb n 0 ≡ false → call_of x k.event (length k.answer) ≡ refusing n → call_of y k.event (length k.answer) ≡ refusing n → SameCall was x y k
  early n z u v =
      both_refused n
      (refused_call x k (refusing n) u (ap (λ (m : ℕ). eqb m 0) (refusing_is n) ∙ z) ∙ ap (λ (m : ℕ). returned m x k.answer) (refusing_is n))
      (refused_call y k (refusing n) v (ap (λ (m : ℕ). eqb m 0) (refusing_is n) ∙ z) ∙ ap (λ (m : ℕ). returned m y k.answer) (refusing_is n))

  pub same_call : SameCall was x y k
  same_call = go (dec_lt (length k.answer) 1024) (ℕ_discrete (event_refusal k.event) 0)
    where
      go : Dec (length k.answer < 1024) → Dec (event_refusal k.event ≡ 0) → SameCall was x y k
      go (yes s) u = let z = lt-ltb (length k.answer) 1024 s in early 2 refl (call_short x k a.keeps z) (call_short y k a.keeps' z)
      go (no s) (no u) =
          let z = le-ltb (length k.answer) 1024 (omega arith) in
          let v = ne_eqb (event_refusal k.event) 0 u in
          early (event_refusal k.event) v (call_unread x k a.keeps z v) (call_unread y k a.keeps' z v)
      go (no s) (yes u) = stepped (le-ltb (length k.answer) 1024 (omega arith)) (eq-eqb (event_refusal k.event) 0 u)
