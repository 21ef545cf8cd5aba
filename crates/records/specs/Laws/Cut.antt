-- What is cut out of an answer at the place of message n is the writing of message n, and a record by itself. Rests on Place and the laws of answers.
use Rattle.std.specs.Prelude.{ℕ, zero, suc, ◌+◌, ◌-◌, ◌≤◌, ◌<◌, ◌≡◌, Bool, true, false, ◌&&◌, eqb, leb, ltb, length, refl, List, [], ◌++◌, get_or}
use Rattle.std.proofs.Common.{sym, ap, subst, ◌∙◌, arith, append-nil, leb-true, eq-eqb, ne_eqb, lt-ltb, le-ltb}
use Rattle.std.proofs.lemmas.Bool.{and_parts}
use Rattle.prelude.specs.Cases.{if◌then◌otherwise◌}
use Rattle.prelude.specs.Laws.Cases.{if_true, if_false}
use Rattle.prelude.specs.Span.{span, splice}
use Rattle.prelude.specs.Laws.Span.{length_span, span_span}
use Rattle.prelude.specs.Number.{Bytes}
use Rattle.prelude.specs.Laws.Bytes.{bytes_span}
use Rattle.format.specs.Places.{map_at, start, end_of, shaped}
use Rattle.format.specs.Refusal.{ranged, refusal_by, message_shaped, message_refusal}
use Rattle.format.specs.Laws.Places.{start_up}
use Rattle.records.specs.declared.Record.{Record}
use Rattle.records.specs.Fields.{blank}
use Rattle.records.specs.Record.{record_bytes, record_at, is_record, is_message, message_of}
use Rattle.records.specs.Answer.{head_size, length_in, count_in, are_messages, answer_bytes, messages_from, shaped_from, ranged_from, answer_in, head_right, answer_refusal, answer_messages}
use Rattle.records.specs.Laws.Right.{Right, right}
use Rattle.records.specs.Laws.Back.{end_here, ranged_here}
use Rattle.records.specs.Laws.AnswerBack.{message_shaped_lem, answer_accepted, answer_messages_lem}
use Rattle.records.specs.Laws.Accepted.{message_right, message_writing}
use Rattle.records.specs.Laws.Reading.{whole_of}
use Rattle.records.specs.declared.cut.Place.{Place}
use Rattle.records.specs.Place.{start_from, place_of, stands, nowhere}

-- ---- messages one behind the other

module _ (s : List ℕ) where
  pub start_next : (n o : ℕ) → start_from s o (suc n) ≡ end_of s (start_from s o n)
  unfolding start_from
  start_next zero o = refl
  start_next (suc n) o = start_next n (end_of s o)

  pub shaped_at : (n c o : ℕ) → n < c → shaped_from s o c ≡ true → message_shaped s (start_from s o n) ≡ true
  unfolding start_from shaped_from
  shaped_at n zero o h e = absurd (omega arith)
  shaped_at zero (suc c) o h e = (and_parts (message_shaped s o) _ e).0
  shaped_at (suc n) (suc c) o h e = shaped_at n c (end_of s o) (omega arith) (and_parts (message_shaped s o) _ e).1

  ranged_at : (n c o : ℕ) → n < c → ranged_from s o c ≡ true → ranged s (start_from s o n) ≡ true
  unfolding start_from ranged_from
  ranged_at n zero o h e = absurd (omega arith)
  ranged_at zero (suc c) o h e = (and_parts (ranged s o) _ e).0
  ranged_at (suc n) (suc c) o h e = ranged_at n c (end_of s o) (omega arith) (and_parts (ranged s o) _ e).1

  message_from : (n c o : ℕ) → n < c → get_or (messages_from s o c) n blank ≡ record_at s (start_from s o n)
  unfolding start_from messages_from
  message_from n zero o h = absurd (omega arith)
  message_from zero (suc c) o h = refl
  message_from (suc n) (suc c) o h = message_from n c (end_of s o) (omega arith)

  length_from : (c o : ℕ) → length (messages_from s o c) ≡ c
  unfolding messages_from
  length_from zero o = refl
  length_from (suc c) o = ap suc (length_from c (end_of s o))

-- ---- an answer that is taken

pub record Taken (s : List ℕ) : Type 0 where
  pub head : head_size ≤ length s
  pub long : head_size ≤ length_in s
  pub fits : length_in s ≤ length s
  pub few : count_in s ≤ 2
  pub shapes : shaped_from (answer_in s) head_size (count_in s) ≡ true
  pub ranges : ranged_from (answer_in s) head_size (count_in s) ≡ true

refusal_0 : (x y : Bool) → refusal_by x y ≡ 0 → (x ≡ true) × (y ≡ true)
unfolding if◌then◌otherwise◌
refusal_0 true true e = (refl, refl)
refusal_0 true false e = absurd (omega (arith, e))
refusal_0 false y e = absurd (omega (arith, e))

module _ (s : List ℕ) (ok : answer_refusal s ≡ 0) where
  pub taken : Taken s
  unfolding answer_refusal head_right
  taken =
      let p = refusal_0 (head_right s && shaped_from (answer_in s) head_size (count_in s)) (ranged_from (answer_in s) head_size (count_in s)) ok in
      let q = and_parts (head_right s) (shaped_from (answer_in s) head_size (count_in s)) p.0 in
      let a = and_parts (leb head_size (length s)) _ q.0 in
      let b = and_parts (leb head_size (length_in s)) _ a.1 in
      let c = and_parts (leb (length_in s) (length s)) (leb (count_in s) 2) b.1 in
      record {
        head = leb-true _ _ a.0;
        long = leb-true _ _ b.0;
        fits = leb-true _ _ c.0;
        few = leb-true _ _ c.1;
        shapes = q.1;
        ranges = p.1;
      }

  pub length_in_lem : length (answer_in s) ≡ length_in s
  length_in_lem = length_span s 0 (length_in s) (omega (arith, taken.fits))

  messages_in : answer_messages s ≡ messages_from (answer_in s) head_size (count_in s)
  unfolding answer_messages
  messages_in = if_true (eqb (answer_refusal s) 0) _ _ (eq-eqb _ 0 ok)

  pub count_in_lem : length (answer_messages s) ≡ count_in s
  count_in_lem = ap length messages_in ∙ length_from (answer_in s) (count_in s) head_size

-- ---- message n of an answer that is taken

module _ (s : List ℕ) (ok : answer_refusal s ≡ 0) (n : ℕ) (h : n < count_in s) where
  abbrev from : ℕ
  from = start_from (answer_in s) head_size n

  shape : message_shaped (answer_in s) from ≡ true
  shape = shaped_at (answer_in s) n (count_in s) head_size h (taken s ok).shapes

  accepted : message_refusal (answer_in s) from ≡ 0
  unfolding message_refusal if◌then◌otherwise◌
  accepted = rw (shape, ranged_at (answer_in s) n (count_in s) head_size h (taken s ok).ranges) refl

  -- it has a head of five bytes and ends within the answer
  pub up : from + 5 ≤ end_of (answer_in s) from
  unfolding end_of start
  up = start_up (answer_in s) from (map_at (answer_in s) from) 0 32 (omega arith)

  pub inside : end_of (answer_in s) from ≤ length_in s
  unfolding message_shaped end_of
  inside = omega (arith, (whole_of (answer_in s) from (and_parts (shaped (answer_in s) from) _ shape).0).inside, length_in_lem s ok)

  pub place : place_of s n ≡ stands from (end_of (answer_in s) from)
  unfolding place_of
  place =
      if_true (eqb (answer_refusal s) 0) _ _ (eq-eqb _ 0 ok)
      ∙ if_true (ltb n (count_in s)) _ _ (lt-ltb n (count_in s) h)
      ∙ ap (stands from) (start_next (answer_in s) n head_size)

  abbrev message : Record
  message = get_or (answer_messages s) n blank

  message_is : message ≡ message_of (answer_in s) from
  unfolding message_of
  message_is =
      ap (λ (ms : List Record). get_or ms n blank) (messages_in s ok)
      ∙ message_from (answer_in s) n (count_in s) head_size h
      ∙ sym (if_true (eqb (message_refusal (answer_in s) from) 0) _ _ (eq-eqb _ 0 accepted))

-- the bytes at a place
abbrev pub cut_at : List ℕ → Place → List ℕ
cut_at s p = span s p.at p.length

-- WHAT IS CUT OUT is the writing of message n as it is read, which is one; alone it is a whole record, no byte over, and in range
pub record CutOut (s : List ℕ) (n : ℕ) : Type 0 where
  pub refusal : (place_of s n).refusal ≡ 0
  pub writing : cut_at s (place_of s n) ≡ record_bytes (get_or (answer_messages s) n blank)
  pub message : is_message (get_or (answer_messages s) n blank) ≡ true
  pub shape : message_shaped (cut_at s (place_of s n)) 0 ≡ true
  pub whole : end_of (cut_at s (place_of s n)) 0 ≡ length (cut_at s (place_of s n))
  pub right : ranged (cut_at s (place_of s n)) 0 ≡ true

-- a message's writing by itself
module _ (m : Record) (ok : is_message m ≡ true) where
  rightly : Right m
  unfolding is_message
  rightly = right m (and_parts (is_record m) (leb 16 m.kind) ok).0

  alone : (P : List ℕ → Type 0) → P (record_bytes m ++ []) → P (record_bytes m)
  alone P p = subst P (append-nil (record_bytes m)) p

  alone_shaped : message_shaped (record_bytes m) 0 ≡ true
  alone_shaped = alone (λ s. message_shaped s 0 ≡ true) (message_shaped_lem m ok [] [])

  alone_whole : end_of (record_bytes m) 0 ≡ length (record_bytes m)
  alone_whole = alone (λ s. end_of s 0 ≡ 0 + length (record_bytes m)) (end_here m rightly [] []) ∙ omega arith

  alone_ranged : ranged (record_bytes m) 0 ≡ true
  alone_ranged = alone (λ s. ranged s 0 ≡ true) (ranged_here m rightly [] [])

pub cut_out : (s : List ℕ) → Bytes s → answer_refusal s ≡ 0 → (n : ℕ) → n < count_in s → CutOut s n
cut_out s w ok n h =
    let a = answer_in s in
    let o = from s ok n h in
    let e = end_of a o in
    let m = message s ok n h in
    let i = inside s ok n h in
    let u = up s ok n h in
    let wa = bytes_span s 0 (length_in s) w in
    let is = message_is s ok n h in
    let yes : is_message m ≡ true = ap is_message is ∙ message_right a o wa (accepted s ok n h) in
    let here : cut_at s (place_of s n) ≡ span s (0 + o) (e - o) = ap (cut_at s) (place s ok n h) ∙ ap (λ (k : ℕ). span s k (e - o)) (omega arith) in
    let wr : cut_at s (place_of s n) ≡ record_bytes m =
    here
    ∙ sym (span_span s 0 (length_in s) o (e - o) (omega arith))
    ∙ sym (message_writing a o wa (accepted s ok n h))
    ∙ ap record_bytes (sym is) in
    record {
      refusal = ap (λ (p : Place). p.refusal) (place s ok n h);
      writing = wr;
      message = yes;
      shape = ap (λ (c : List ℕ). message_shaped c 0) wr ∙ alone_shaped m yes;
      whole = ap (λ (c : List ℕ). end_of c 0) wr ∙ alone_whole m yes ∙ ap length (sym wr);
      right = ap (λ (c : List ℕ). ranged c 0) wr ∙ alone_ranged m yes;
    }

-- OF AN ANSWER THAT WAS WRITTEN, what is cut out at message n is what the writer put there for it
pub cut_written : (buf : List ℕ) (a a2 : ℕ) (ms : List Record) → are_messages ms ≡ true → length ms ≤ 2 → length (answer_bytes a a2 ms) ≤ length buf
    → Bytes (splice buf 0 (answer_bytes a a2 ms)) → (n : ℕ) → n < length ms
    → cut_at (splice buf 0 (answer_bytes a a2 ms)) (place_of (splice buf 0 (answer_bytes a a2 ms)) n) ≡ record_bytes (get_or ms n blank)
cut_written buf a a2 ms ok few room w n h =
    let s = splice buf 0 (answer_bytes a a2 ms) in
    let y = answer_accepted buf a a2 ms ok few room in
    let e = answer_messages_lem buf a a2 ms ok few room in
    let c : n < count_in s = omega (arith, count_in_lem s y, ap length e) in
    (cut_out s w y n c).writing ∙ ap (λ (l : List Record). record_bytes (get_or l n blank)) e

-- PAST THE COUNT there is no place
pub none_past : (s : List ℕ) (n : ℕ) → answer_refusal s ≡ 0 → count_in s ≤ n → place_of s n ≡ nowhere 0
unfolding place_of
none_past s n ok h = if_true (eqb (answer_refusal s) 0) _ _ (eq-eqb _ 0 ok) ∙ if_false (ltb n (count_in s)) _ _ (le-ltb n (count_in s) h)

-- ---- how code finds it: the first behind the head, the second behind the first

pub place_refused : (s : List ℕ) (n : ℕ) → (answer_refusal s ≡ 0 → ⊥) → place_of s n ≡ nowhere (answer_refusal s)
unfolding place_of
place_refused s n f = if_false (eqb (answer_refusal s) 0) _ _ (ne_eqb _ 0 f)

module _ (s : List ℕ) (ok : answer_refusal s ≡ 0) where
  abbrev first : ℕ
  first = end_of (answer_in s) head_size

  abbrev second : ℕ
  second = end_of (answer_in s) first

  module _ (h : 0 < count_in s) where
    pub first_place : place_of s 0 ≡ stands head_size first
    unfolding start_from
    first_place = place s ok 0 h

    pub first_up : head_size + 5 ≤ first
    unfolding start_from
    first_up = up s ok 0 h

    pub first_inside : first ≤ length_in s
    unfolding start_from
    first_inside = inside s ok 0 h

  module _ (h : 1 < count_in s) where
    pub second_place : place_of s 1 ≡ stands first second
    unfolding start_from
    second_place = place s ok 1 h

    pub second_up : first + 5 ≤ second
    unfolding start_from
    second_up = up s ok 1 h

    pub second_inside : second ≤ length_in s
    unfolding start_from
    second_inside = inside s ok 1 h
