-- Demand 3 on bytes: each call on a book that keeps its rules is the machine's, so every list of calls is. Rests on Taken and machine's Calls.
use Rattle.std.proofs.Common.{ℕ, ◌≤◌, ◌<◌, arith, ◌≡◌, refl, sym, ap, ◌∙◌, subst, Bool, true, false, not, List, [], eqb, length, eqb-true, eq-eqb, lt-ltb, le-ltb, ne_eqb}
use Rattle.std.proofs.lemmas.Bool.{eqb-false, not-false}
use Rattle.prelude.specs.Cases.{if◌then◌otherwise◌}
use Rattle.prelude.specs.Laws.Cases.{split_if, if_true, if_false, clash}
use Rattle.prelude.specs.Number.{Bytes}
use Rattle.records.specs.Record.{event_in}
use Rattle.records.specs.Answer.{answer_messages}
use Rattle.store.specs.Book.{request_in, is_book, book_of, blank}
use Rattle.machine.specs.declared.Change.{Change}
use Rattle.machine.specs.Changes.{Event}
use Rattle.machine.specs.Machine.{step_of, after}
use Rattle.machine.specs.History.{Decoded, unread, read_as, comes_to, messages_of, left_by, line_of, Kinds, State}
use Rattle.machine.specs.Said.{Answers}
use Rattle.machine.specs.Calls.{line_at, calls, Faithful}
use Rattle.machine.specs.Claim.{Demand3, OneOrder, Each}
use Rattle.machine.specs.Short.{IsWhole}
use Rattle.machine.proofs.Claim.Short.{filled_whole}
use Rattle.machine.proofs.Said.Reads.{event_kind}
use Rattle.machine.proofs.Said.Steps.{answer_read}
use Rattle.machine.proofs.Claim.Calls.{run_of, demand_of, since_return}
use Rattle.machine.proofs.Claim.OneOrder.{stays_one}
use Rattle.rules.specs.Keeps.{keeps_of}
use Rattle.claims.specs.Claims.{Call, read_call, heard_of, entries, AnswersOnBytes, Demand3OnBytes, FilledWholeOnBytes, Passes, SinceOnBytes, StaysOneOnBytes}
use Rattle.kept.proofs.Header.{blank_keeps}
use Rattle.kept.proofs.Taken.{Asked, broken, short, unreadable, stepped, asked, Taken, call_taken, left, event_refused, returned_is, whole, writes, keeps_after}
use Rattle.claims.proofs.Taken.{returned_taken, either_way, check_kept, kept_check, keeps_sizes}
use Rattle.step.specs.Entries.{Returned, call_of, event_of, start_refusal, start_of}
use Rattle.format.specs.Refusal.{event_refusal}
use Rattle.records.specs.Laws.Accepted.{event_right}
use Rattle.store.specs.Laws.Adds.{blank_book}
use Rattle.store.specs.Laws.Kept.{bytes_blank}
use Rattle.rules.specs.Laws.Keeps.{keeps_held}

-- ---- a call comes to what the machine's comes to

asked_comes : (b : List ℕ) (i : Call) (c : Change) → keeps_of b ≡ true → Asked b i.event i.answer c → comes_to (book_of b) (read_call i) ≡ c
unfolding read_call comes_to if◌then◌otherwise◌
asked_comes b i c k (broken n) = clash (keeps_of b) k n
asked_comes b i c k (short _ l) = rw (lt-ltb (length i.answer) 1024 l, (keeps_held b k).rules) refl
asked_comes b i c k (unreadable _ l n) = rw (le-ltb (length i.answer) 1024 l, ne_eqb (event_refusal i.event) 0 n, (keeps_held b k).rules) refl
asked_comes b i c k (stepped _ l z) = rw (le-ltb (length i.answer) 1024 l, eq-eqb (event_refusal i.event) 0 z, (keeps_held b k).rules) refl

comes : (b : List ℕ) (i : Call) → keeps_of b ≡ true → comes_to (book_of b) (read_call i) ≡ call_of b i.event (length i.answer)
comes b i k = asked_comes b i (call_of b i.event (length i.answer)) k (asked b i.event i.answer)

-- ---- what is heard, and the book that is left

pub read_back : (b r a : List ℕ) → Bytes b → Bytes r → Taken b r a → Answers (step_of (book_of b) (event_in r)) (left b r a (step_of (book_of b) (event_in r))).answer
read_back b r a bytes bytes' t =
    answer_read (book_of b) (event_in r) a (keeps_held b t.keeps).rules
    (whole b r bytes bytes' t.keeps t.reads t.taken) (event_right r bytes' t.reads) t.room

-- OUR READER reads what `event` writes
pub answers_on_bytes : AnswersOnBytes
answers_on_bytes b r a bytes bytes' =
    either_way (λ (o : Returned). o.returned ≡ 0 → Answers (step_of (book_of b) (event_in r)) o.answer) b r a
    (λ t z. read_back b r a bytes bytes' t) (λ e z. absurd (eqb-false _ 0 e z))

pub record Good (b : List ℕ) : Type 0 where
  pub keeps : keeps_of b ≡ true
  pub bytes : Bytes b

module _ (b : List ℕ) (i : Call) (g : Good b) where
  abbrev c : Change
  c = call_of b i.event (length i.answer)

  abbrev o : Returned
  o = event_of b i.event i.answer

  -- what the call returns, as the change says it
  record Alike : Type 0 where
    refusal : o.returned ≡ c.refusal
    messages : heard_of b i ≡ messages_of c
    left' : book_of o.book ≡ left_by (book_of b) c

  alike : Alike
  unfolding heard_of messages_of left_by
  alike = go (eqb c.refusal 0) refl
    where
      go : (t : Bool) → eqb c.refusal 0 ≡ t → Alike
      go true e =
          let t : Taken b i.event i.answer = call_taken b i.event i.answer (eqb-true c.refusal 0 e) in
          let d : Change = step_of (book_of b) (event_in i.event) in
          let is : o ≡ left b i.event i.answer d = returned_taken b i.event i.answer t in
          let zero : eqb d.refusal 0 ≡ true = eq-eqb d.refusal 0 t.taken in
          record {
            refusal = ap (λ (x : Returned). x.returned) is ∙ sym (eqb-true c.refusal 0 e);
            messages =
                ap (λ (x : Returned). if eqb x.returned 0 then answer_messages x.answer otherwise []) is
                ∙ if_true _ _ _ refl
                ∙ (read_back b i.event i.answer g.bytes i.bytes t).messages
                ∙ ap messages_of (sym t.is);
            left' =
                ap (λ (x : Returned). book_of x.book) is
                ∙ (writes b i.event g.bytes i.bytes g.keeps t.reads t.taken).is
                ∙ ap (after (book_of b)) (sym t.is)
                ∙ sym (if_true _ _ _ e);
          }
      go false e =
          let is = event_refused b i.event i.answer e in
          record {
            refusal = ap (λ (x : Returned). x.returned) is;
            messages =
                ap (λ (x : Returned). if eqb x.returned 0 then answer_messages x.answer otherwise []) is
                ∙ if_false _ _ _ e
                ∙ sym (if_false _ _ _ e);
            left' = ap (λ (x : Returned). book_of x.book) is ∙ sym (if_false _ _ _ e);
          }

  -- the line of the call is the machine's
  pub same_line : line_at entries b i ≡ line_of (book_of b) (read_call i) (comes_to (book_of b) (read_call i))
  same_line =
      let a : Alike = alike in
      (λ t. record { before = book_of b; input = read_call i; refusal = a.refusal t; messages = a.messages t; left = a.left' t })
      ∙ ap (line_of (book_of b) (read_call i)) (sym (comes b i g.keeps))

-- ---- the list

stays : (b : List ℕ) (i : Call) → Good b → Good (event_of b i.event i.answer).book
stays b i g = record { keeps = keeps; bytes = (keeps_sizes b i.event i.answer).bytes g.bytes i.bytes }
  where
    keeps : keeps_of (event_of b i.event i.answer).book ≡ true
    keeps =
        either_way (λ (x : Returned). keeps_of x.book ≡ true) b i.event i.answer
        (λ t. keeps_after b i.event g.bytes i.bytes t.keeps t.reads t.taken)
        (λ e. g.keeps)

pub faithful : Faithful entries Good
faithful = record { same = same_line; stays = stays }

-- the kind of the event, or 1 if the record was not read
kind_of : Decoded → ℕ
kind_of (unread n) = 1
kind_of (read_as e) = e.kind

kinds_right : (i : Call) → (0 < kind_of (read_call i)) × (kind_of (read_call i) ≤ 9)
unfolding read_call kind_of
kinds_right i =
    let P : Decoded → Type 0 = λ d. (0 < kind_of d) × (kind_of d ≤ 9) in
    split_if P _ (λ t. (omega arith, omega arith))
    (λ t. split_if P _ (λ u. (omega arith, omega arith)) (λ u. event_kind i.event (eqb-true (event_refusal i.event) 0 (not-false _ u))))

pub kinds : Kinds read_call
unfolding kind_of
kinds = record {
  above = λ i e z. omega (arith, (kinds_right i).0, ap kind_of z);
  below = λ i e z. omega (arith, (kinds_right i).1, ap kind_of z);
}

pub start_is : (b : List ℕ) (setting : ℕ) → start_refusal b ≡ 0 → start_of b setting ≡ blank setting
unfolding start_refusal start_of
start_is b setting = go (is_book b) refl
  where
    go : (t : Bool) → is_book b ≡ t → start_refusal b ≡ 0 → start_of b setting ≡ blank setting
    go true e z = if_true _ _ _ e
    go false e z = let w : start_refusal b ≡ 1 = if_false _ _ _ e in absurd (omega arith)

-- DEMAND 3 on bytes
pub demand3 : Demand3OnBytes
demand3 b setting small z cs =
    subst (λ (x : List ℕ). Demand3 (calls entries x [] cs)) (sym (start_is b setting z))
    (demand_of entries Good faithful kinds setting (blank setting) (record { keeps = blank_keeps setting; bytes = bytes_blank setting }) (blank_book setting small) cs)

-- A FILLED ORDER IS FILLED WHOLE, on bytes
pub filled_whole_on_bytes : FilledWholeOnBytes
filled_whole_on_bytes b setting small z cs =
    subst (λ (s : State). Each s IsWhole)
    (sym (ap (λ (x : List ℕ). calls entries x [] cs) (start_is b setting z)
    ∙ run_of entries Good faithful setting (blank setting) (record { keeps = blank_keeps setting; bytes = bytes_blank setting }) (blank_book setting small) cs))
    (filled_whole Call read_call kinds setting cs)

-- SINCE A RETURN, on bytes
good : {b : List ℕ} → Passes b → Good b
good {b} p = record { keeps = kept_check b p.passes; bytes = p.bytes }

pub passing : Faithful entries Passes
passing = record {
  same = λ b i p. same_line b i (good p);
  stays = λ b i p. let g = stays b i (good p) in record { bytes = g.bytes; passes = check_kept _ g.keeps };
}

pub since_on_bytes : SinceOnBytes
since_on_bytes = since_return entries Passes passing (λ b p. (keeps_held b (kept_check b p.passes)).rules) kinds

-- ---- one order stays one order

read_is : (i : Call) → 1024 ≤ length i.answer → event_refusal i.event ≡ 0 → read_call i ≡ read_as (event_in i.event)
unfolding read_call
read_is i l z = if_false _ _ _ (le-ltb (length i.answer) 1024 l) ∙ if_false _ _ _ (ap not (eq-eqb (event_refusal i.event) 0 z))

pub stays_one_on_bytes : StaysOneOnBytes
stays_one_on_bytes b i bytes z low high k l same =
    let t : Taken b i.event i.answer = call_taken b i.event i.answer (sym (returned_is b i.event i.answer) ∙ z) in
    let e : Event = event_in i.event in
    let is : line_at entries b i ≡ line_of (book_of b) (read_as e) (comes_to (book_of b) (read_as e)) =
    same_line b i (record { keeps = t.keeps; bytes = bytes }) ∙ ap (λ (d : Decoded). line_of (book_of b) d (comes_to (book_of b) d)) (read_is i t.room t.reads) in
    subst (OneOrder (book_of b) (request_in (book_of b) k).order) (sym is) (stays_one (book_of b) e low high k l same)
