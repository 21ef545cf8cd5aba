-- Marks over lists: a list of calls is a list of events and returns to books that pass, and a mark stands through what may happen meanwhile. Rests on Calls, Net
-- and marks' laws.
use Rattle.std.proofs.Common.{ℕ, arith, ◌≡◌, refl, sym, ap, ◌∙◌, subst, Bool, true, false, List, [], ◌∷◌, ◌++◌, eqb, length, eqb-true, eq-eqb}
use Rattle.std.proofs.lemmas.Bool.{eqb-false}
use Rattle.prelude.specs.Cases.{if◌then◌otherwise◌}
use Rattle.prelude.specs.Laws.Cases.{split_if, if_true}
use Rattle.prelude.specs.Number.{Bytes}
use Rattle.store.specs.Book.{Book, book_of, empty_book}
use Rattle.store.specs.Laws.Adds.{blank_book}
use Rattle.machine.specs.Calls.{Step, call, back, SinceReturn, state_of, follow, just_returned}
use Rattle.machine.specs.Since.{Demand3From}
use Rattle.machine.proofs.Claim.Start.{from_start}
use Rattle.rules.specs.Keeps.{keeps_of}
use Rattle.rules.specs.Laws.Keeps.{keeps_held}
use Rattle.store.specs.Layout.{book_size}
use Rattle.step.specs.Entries.{start_of, start_refusal}
use Rattle.marks.specs.Marks.{is_mark_name, Marked, marked, set_mark_of, return_of}
use Rattle.marks.specs.Promise.{Stands}
use Rattle.marks.specs.Laws.Calls.{set_ends}
use Rattle.marks.proofs.Laws.Stands.{calls_keep, marks_stand}
use Rattle.claims.specs.Claims.{entries, Passes}
use Rattle.claims.specs.Marks.{BookCall, event, set_mark, return_to, book_after, after_call, after_calls, SinceMark, Meanwhile, elsewhere, set_here, return_here, start, Both, both, goes_on, go_on, MarksOnBytes}
use Rattle.claims.proofs.Taken.{check_kept, kept_check}
use Rattle.claims.proofs.Calls.{start_is, passing, since_on_bytes}
use Rattle.claims.proofs.Net.{net_since_on_bytes, start_passes}

-- ---- each call leaves a book that passes

-- a call of marks, taken or not
passes_after : (b : List ℕ) (r : Marked) → Passes b → Bytes r.book → ((r.returned ≡ 0 → ⊥) → r.book ≡ b) → (r.returned ≡ 0 → keeps_of r.book ≡ true) → Passes r.book
passes_after b r p bytes same keeps = go (eqb r.returned 0) refl
  where
    go : (t : Bool) → eqb r.returned 0 ≡ t → Passes r.book
    go true e = record { bytes = bytes; passes = check_kept r.book (keeps (eqb-true _ 0 e)) }
    go false e = subst Passes (sym (same (eqb-false _ 0 e))) p

set_passes : (b name places : List ℕ) → Passes b → Passes (set_mark_of b name places).book
set_passes b name places p = subst Passes (sym (calls_keep.same_book b name places)) p

pub return_passes : (b name places : List ℕ) → Passes b → Bytes places → Passes (return_of b name places).book
return_passes b name places p bytes =
    let k = calls_keep.returns b name places in
    passes_after b (return_of b name places) p (k.bytes p.bytes bytes).0 (λ z. (k.refused z).0) k.keeps

call_passes : (b : List ℕ) → Passes b → (c : BookCall) → Passes (book_after b c)
call_passes b p (event c) = passing.stays b c p
call_passes b p (set_mark name places) = set_passes b name places p
call_passes b p (return_to name places bytes) = return_passes b name places p bytes

-- ---- the calls as events and returns

pub follow_more : (is : List (Step entries Passes)) (s : SinceReturn entries) (js : List (Step entries Passes)) → follow entries s (is ++ js) ≡ follow entries (follow entries s is) js
follow_more [] s js = refl
follow_more (call i ∷ is) s js = follow_more is _ js
follow_more (back h g ∷ is) s js = follow_more is _ js

-- what has happened is so many events and returns
pub record Followed (b : List ℕ) (s : SinceReturn entries) : Type 0 where
  pub steps : List (Step entries Passes)
  pub is : follow entries (just_returned entries b) steps ≡ s
  pub passes : Passes s.held

module _ (b : List ℕ) (s : SinceReturn entries) (f : Followed b s) where
  pub one_more_lem : (step : Step entries Passes) → follow entries (just_returned entries b) (f.steps ++ (step ∷ [])) ≡ follow entries s (step ∷ [])
  one_more_lem step = follow_more f.steps (just_returned entries b) (step ∷ []) ∙ ap (λ (x : SinceReturn entries). follow entries x (step ∷ [])) f.is

  -- the book is the same, and nothing was told
  unmoved : (held : List ℕ) → held ≡ s.held → Followed b (record { image = s.image; held = held; past = s.past })
  unmoved held e = record {
    steps = f.steps;
    is = f.is ∙ (λ i. record { image = s.image; held = sym e i; past = s.past });
    passes = subst Passes (sym e) f.passes;
  }

  pub after_call_lem : (c : BookCall) → Followed b (after_call s c)
  unfolding if◌then◌otherwise◌
  after_call_lem (event c) = record { steps = f.steps ++ (call c ∷ []); is = one_more_lem (call c); passes = call_passes s.held f.passes (event c) }
  after_call_lem (set_mark name places) = unmoved _ (calls_keep.same_book s.held name places)
  after_call_lem (return_to name places bytes) =
      let r : Marked = return_of s.held name places in
      let p : Passes r.book = return_passes s.held name places f.passes bytes in
      split_if (Followed b) (eqb r.returned 0)
      (λ e. record { steps = f.steps ++ (back r.book p ∷ []); is = one_more_lem (back r.book p); passes = p })
      (λ e. unmoved r.book ((calls_keep.returns s.held name places).refused (eqb-false _ 0 e)).0)

after_calls_lem : (b : List ℕ) (s : SinceReturn entries) → Followed b s → (cs : List BookCall) → Followed b (after_calls s cs)
after_calls_lem b s f [] = f
after_calls_lem b s f (c ∷ cs) = after_calls_lem b (after_call s c) (after_call_lem b s f c) cs

pub since_mark : (b : List ℕ) → Passes b → (s : SinceReturn entries) → Followed b s → SinceMark s
since_mark b p s f =
    subst SinceMark f.is (record {
      passes = subst (λ (x : SinceReturn entries). Passes x.held) (sym f.is) f.passes;
      demand = (since_on_bytes b p f.steps).0;
      net = (since_on_bytes b p f.steps).1;
      said = net_since_on_bytes b p f.steps;
    })

since : (b : List ℕ) → Passes b → (cs : List BookCall) → SinceMark (after_calls (just_returned entries b) cs)
since b p cs = since_mark b p _ (after_calls_lem b (just_returned entries b) (record { steps = []; is = refl; passes = p }) cs)

-- ---- what a call that is taken has asked

set_named : (book name places : List ℕ) → (set_mark_of book name places).returned ≡ 0 → is_mark_name name ≡ true
set_named book name places =
    set_ends book name places (λ (r : Marked). r.returned ≡ 0 → is_mark_name name ≡ true)
    (λ _ z. absurd (omega (arith, z))) (λ _ _ z. absurd (omega (arith, z))) (λ _ n _ z. n) (λ _ n _ _ z. n)

start_taken : (b : List ℕ) → keeps_of b ≡ true → start_refusal b ≡ 0
unfolding start_refusal
start_taken b k = if_true _ _ _ (eq-eqb (length b) book_size (keeps_held b k).long)

-- ---- a mark comes back

-- the book passes, the buffer is bytes, and the mark stands in it
record Marking (name image : List ℕ) (s : Both) : Type 0 where
  passes : Passes s.book
  bytes : Bytes s.places
  stands : Stands s.places name image

module _ (name image : List ℕ) (n : is_mark_name name ≡ true) where
  goes_on_lem : (s : Both) → Marking name image s → (m : Meanwhile name) → Marking name image (goes_on s m)
  goes_on_lem s k (elsewhere c) = record { passes = call_passes s.book k.passes c; bytes = k.bytes; stands = k.stands }
  goes_on_lem s k (set_here another d) = record {
    passes = set_passes s.book another s.places k.passes;
    bytes = ((calls_keep.sets s.book another s.places).bytes k.passes.bytes k.bytes).1;
    stands = marks_stand.other s.book name another s.places image n d k.stands;
  }
  goes_on_lem s k (return_here another) =
      let same = calls_keep.same_places s.book another s.places in
      record {
        passes = return_passes s.book another s.places k.passes k.bytes;
        bytes = subst Bytes (sym same) k.bytes;
        stands = subst (λ (x : List ℕ). Stands x name image) (sym same) k.stands;
      }
  goes_on_lem s k (start setting) = record {
    passes = start_passes s.book setting (start_taken s.book (kept_check s.book k.passes.passes));
    bytes = k.bytes;
    stands = k.stands;
  }

  go_on_lem : (s : Both) → Marking name image s → (ms : List (Meanwhile name)) → Marking name image (go_on s ms)
  go_on_lem s k [] = k
  go_on_lem s k (m ∷ ms) = go_on_lem (goes_on s m) (goes_on_lem s k m) ms

comes_back_lem : (book name places : List ℕ) → Bytes book → Bytes places → (set_mark_of book name places).returned ≡ 0 → (ms : List (Meanwhile name))
    → let s = go_on (both (set_mark_of book name places)) ms in return_of s.book name s.places ≡ marked 0 book s.places
comes_back_lem book name places b p z ms =
    let k = calls_keep.sets book name places in
    let n : is_mark_name name ≡ true = set_named book name places z in
    let first : Marking name book (both (set_mark_of book name places)) = record {
      passes = record { bytes = (k.bytes b p).0; passes = check_kept _ (k.keeps z) };
      bytes = (k.bytes b p).1;
      stands = marks_stand.set book name places z;
    } in
    let s : Both = go_on (both (set_mark_of book name places)) ms in
    let last : Marking name book s = go_on_lem name book n (both (set_mark_of book name places)) first ms in
    marks_stand.back s.book name s.places book (kept_check s.book last.passes.passes) n last.stands

-- ---- the theorem

pub marks_on_bytes : MarksOnBytes
marks_on_bytes = record {
  since = since;
  start = λ b setting z cs. since (start_of b setting) (start_passes b setting z) cs;
  empty = λ b setting small z cs e.
      let s = after_calls (just_returned entries (start_of b setting)) cs in
      let i : book_of s.image ≡ empty_book setting = ap book_of (e ∙ start_is b setting z) ∙ blank_book setting small in
      from_start setting (state_of entries s) (subst (λ (x : Book). Demand3From x (state_of entries s)) i (since (start_of b setting) (start_passes b setting z) cs).demand);
  comes_back = comes_back_lem;
}
