-- A run turn by turn, as the code comes to it. Rests on Events and Said.
use Rattle.std.specs.Prelude.{ℕ, zero, suc, ◌+◌, ◌*◌, ◌-◌, ◌≤◌, ◌<◌, ◌≡◌, refl, Bool, true, false, List, [], ◌∷◌, ◌++◌, leb, length, take, drop}
use Rattle.std.proofs.Common.{arith, sym, ap, ◌∙◌, length-append, length-drop, length-take-le, get_or-take, drop-drop, take-add, take_at, drop_at, take-append-drop, ap₂, le-leb, le-ltb, lt-ltb, leb-true}
use Rattle.std.proofs.lemmas.Bool.{lt-leb, and_parts}
use Rattle.prelude.specs.Cases.{if◌then◌otherwise◌}
use Rattle.prelude.specs.Number.{Bytes, word16}
use Rattle.prelude.specs.Span.{span, splice}
use Rattle.prelude.specs.Laws.Cases.{if_true, if_false}
use Rattle.prelude.specs.Laws.Span.{length_span}
use Rattle.rules.specs.Keeps.{keeps_of}
use Rattle.step.specs.Entries.{event_of}
use Rattle.events.specs.Events.{has_whole, records_from, records_in, most_said, Run, said_of, run_one, run, begun, Many, many, refusing, ran, events_of}
use Rattle.events.specs.Laws.Said.{Says}

-- ---- a whole record at the front

pub whole_none : (rs : List ℕ) → length rs < 2 → has_whole rs ≡ false
unfolding has_whole
whole_none rs h = rw (lt-leb 2 (length rs) h) refl

pub whole_some : (rs : List ℕ) → 2 ≤ length rs → (n : ℕ) → n ≡ word16 rs 0 → n ≤ length rs - 2 → has_whole rs ≡ true
unfolding has_whole
whole_some rs h n e f = rw (le-leb 2 (length rs) h, le-leb (2 + word16 rs 0) (length rs) (omega arith)) refl

pub whole_cut : (rs : List ℕ) → 2 ≤ length rs → (n : ℕ) → n ≡ word16 rs 0 → length rs - 2 < n → has_whole rs ≡ false
unfolding has_whole
whole_cut rs h n e f = rw (le-leb 2 (length rs) h, lt-leb (2 + word16 rs 0) (length rs) (omega arith)) refl

pub whole_long : (rs : List ℕ) → has_whole rs ≡ true → 2 + word16 rs 0 ≤ length rs
unfolding has_whole
whole_long rs e = leb-true (2 + word16 rs 0) (length rs) (and_parts (leb 2 (length rs)) (leb (2 + word16 rs 0) (length rs)) e).1

-- the number that the first two bytes are
pub word_front : (rs : List ℕ) → word16 (take 2 rs) 0 ≡ word16 rs 0
word_front rs = rw (get_or-take 2 rs 0 0 (omega arith), get_or-take 2 rs 1 0 (omega arith)) refl

-- ---- the whole records, first and then the others

from_enough : (n m : ℕ) (rs : List ℕ) → length rs ≤ n → length rs ≤ m → records_from n rs ≡ records_from m rs
from_enough zero zero rs h k = refl
from_enough zero (suc m) rs h k = sym (if_false _ _ _ (whole_none rs (omega arith)))
from_enough (suc n) zero rs h k = if_false _ _ _ (whole_none rs (omega arith))
from_enough (suc n) (suc m) rs h k = go (from_enough n m (drop (2 + word16 rs 0) rs)) (has_whole rs) refl
  where
    next : List ℕ
    next = drop (2 + word16 rs 0) rs

    go : (length next ≤ n → length next ≤ m → records_from n next ≡ records_from m next) → (t : Bool) → has_whole rs ≡ t → records_from (suc n) rs ≡ records_from (suc m) rs
    go same true e =
        let l : 2 + word16 rs 0 ≤ length rs = whole_long rs e in
        if_true _ _ _ e
        ∙ ap (λ (x : List (List ℕ)). span rs 2 (word16 rs 0) ∷ x)
        (same (simp length-drop (omega arith)) (simp length-drop (omega arith)))
        ∙ sym (if_true _ _ _ e)
    go same false e = if_false _ _ _ e ∙ sym (if_false _ _ _ e)

pub records_next : (rs : List ℕ) → has_whole rs ≡ true → records_in rs ≡ span rs 2 (word16 rs 0) ∷ records_in (drop (2 + word16 rs 0) rs)
unfolding records_in
records_next rs e =
    let l : 2 + word16 rs 0 ≤ length rs = whole_long rs e in
    from_enough (length rs) (suc (length rs)) rs (omega arith) (omega arith)
    ∙ if_true _ _ _ e
    ∙ ap (λ (x : List (List ℕ)). span rs 2 (word16 rs 0) ∷ x)
    (from_enough (length rs) (length (drop (2 + word16 rs 0) rs)) (drop (2 + word16 rs 0) rs) (simp length-drop (omega arith)) (omega arith))

pub records_none : (rs : List ℕ) → has_whole rs ≡ false → records_in rs ≡ []
unfolding records_in
records_none rs e = from_enough (length rs) (suc (length rs)) rs (omega arith) (omega arith) ∙ if_false _ _ _ e

-- ---- a turn

-- what has been run, as the code holds it
abbrev pub so_far : (book answers : List ℕ) (events read written : ℕ) → Run
so_far book answers events read written = record { book = book; said = take written answers; events = events; read = read }

-- where the loop stands: what is still to be run makes of what has been run what the whole list makes of the book
pub record Stands (b rs a book answers : List ℕ) (events read written : ℕ) : Type 0 where
  pub keeps : keeps_of book ≡ true
  pub bytes : Bytes book
  pub read_in : read ≤ length rs
  pub few : 2 * events ≤ read
  pub written_in : written ≤ length answers
  pub same : length answers ≡ length a
  pub behind : drop written answers ≡ drop written a
  pub rest : run a (begun b) (records_in rs) ≡ run a (so_far book answers events read written) (records_in (drop read rs))

pub stands_first : (b rs a : List ℕ) → keeps_of b ≡ true → Bytes b → Stands b rs a b a 0 0 0
stands_first b rs a k bytes = record { keeps = k; bytes = bytes; read_in = omega arith; few = omega arith; written_in = omega arith; same = refl; behind = refl; rest = refl }

module _ (b rs a book answers : List ℕ) (events read written : ℕ) (s : Stands b rs a book answers events read written) where
  abbrev st : Run
  st = so_far book answers events read written

  long_said : length (take written answers) ≡ written
  long_said = length-take-le written answers s.written_in

  -- the run is over
  over : (run a st (records_in (drop read rs)) ≡ st) → many (record { refusal = 0; events = events; read = read; written = written }) book answers ≡ ran a (run a (begun b) (records_in rs))
  unfolding ran splice
  over e =
      let front : answers ≡ take written answers ++ drop (length (take written answers)) a =
      sym (take-append-drop written answers)
      ∙ ap (λ (x : List ℕ). take written answers ++ x) (s.behind ∙ ap (λ (n : ℕ). drop n a) (sym long_said)) in
      ap (many (record { refusal = 0; events = events; read = read; written = written }) book) front
      ∙ ap (λ (n : ℕ). many (record { refusal = 0; events = events; read = read; written = n }) book (take written answers ++ drop (length (take written answers)) a)) (sym long_said)
      ∙ ap (ran a) (sym (s.rest ∙ e))

  -- for want of room
  pub stands_full : length answers - written < most_said → many (record { refusal = 0; events = events; read = read; written = written }) book answers ≡ ran a (run a (begun b) (records_in rs))
  stands_full h = over (stopped (records_in (drop read rs)))
    where
      stopped : (ss : List (List ℕ)) → run a st ss ≡ st
      stopped [] = refl
      stopped (r ∷ ss) = if_false _ _ _ (lt-leb (length (take written answers) + most_said) (length a) (omega (arith, long_said, s.same, s.written_in)))

  -- for want of a whole record
  pub stands_ended : has_whole (drop read rs) ≡ false → many (record { refusal = 0; events = events; read = read; written = written }) book answers ≡ ran a (run a (begun b) (records_in rs))
  stands_ended h = over (ap (run a st) (records_none (drop read rs) h))

  -- one more event
  pub stands_next : most_said ≤ length answers - written → (n : ℕ) → has_whole (drop read rs) ≡ true → n ≡ word16 (drop read rs) 0
      → (k : ℕ) (book' said : List ℕ) → Says book (take n (drop (read + 2) rs)) (drop written answers) k book' said
      → (answers' : List ℕ) → answers' ≡ take written answers ++ said
      → Stands b rs a book' answers' (events + 1) (read + (2 + n)) (written + k)
  unfolding run_one span
  stands_next h n w e k book' said y answers' f = record {
    keeps = y.keeps;
    bytes = y.bytes;
    read_in = omega (arith, whole_long (drop read rs) w, length-drop read rs, s.read_in);
    few = omega (arith, s.few);
    written_in = omega (arith, long, y.long, long_said);
    same = long ∙ omega (arith, y.same, long_said, length-drop written answers, s.same, s.written_in);
    behind = behind_is;
    rest = s.rest ∙ turn;
  }
    where
      long : length answers' ≡ length (take written answers) + length said
      long = ap length f ∙ length-append (take written answers) said

      behind_is : drop (written + k) answers' ≡ drop (written + k) a
      behind_is =
          ap (drop (written + k)) f
          ∙ sym (drop-drop k written (take written answers ++ said))
          ∙ ap (drop k) (drop_at (take written answers) said written long_said)
          ∙ y.behind
          ∙ ap (drop k) s.behind
          ∙ drop-drop k written a

      record_is : take n (drop (read + 2) rs) ≡ span (drop read rs) 2 (word16 (drop read rs) 0)
      record_is = ap (λ (m : ℕ). take m (drop (read + 2) rs)) e ∙ ap (take (word16 (drop read rs) 0)) (sym (drop-drop 2 read rs))

      record_long : length (span (drop read rs) 2 (word16 (drop read rs) 0)) ≡ n
      record_long = length_span (drop read rs) 2 (word16 (drop read rs) 0) (whole_long (drop read rs) w) ∙ sym e

      said_is : take (written + k) answers' ≡ take written answers ++ take k said
      said_is =
          take-add written k answers'
          ∙ ap (λ (x : List ℕ). take written x ++ take k (drop written x)) f
          ∙ (λ i. take_at (take written answers) said written long_said i ++ take k (drop_at (take written answers) said written long_said i))

      -- the event is the one of the definition
      met : drop 1 (drop written answers) ≡ drop (length (take written answers) + 1) a
      met = ap (drop 1) s.behind ∙ drop-drop 1 written a ∙ ap (λ (m : ℕ). drop (m + 1) a) (sym long_said)

      one : run_one a st (span (drop read rs) 2 (word16 (drop read rs) 0)) ≡ so_far book' answers' (events + 1) (read + (2 + n)) (written + k)
      one =
          let o = λ (r x : List ℕ). event_of book r x in
          let book_is = y.left ∙ (λ j. (o (record_is j) (met j)).book) in
          let saying = said_is ∙ ap (λ (x : List ℕ). take written answers ++ x) (y.said ∙ (λ j. said_of (o (record_is j) (met j)))) in
          sym (λ i. record { book = book_is i; said = saying i; events = events + 1; read = read + (2 + sym record_long i) })

      turn : run a st (records_in (drop read rs)) ≡ run a (so_far book' answers' (events + 1) (read + (2 + n)) (written + k)) (records_in (drop (read + (2 + n)) rs))
      turn =
          ap (run a st) (records_next (drop read rs) w)
          ∙ if_true _ _ _ (le-leb (length (take written answers) + most_said) (length a) (omega (arith, long_said, s.same, s.written_in, h)))
          ∙ ap₂ (run a) one (ap records_in (ap (λ (m : ℕ). drop (2 + m) (drop read rs)) (sym e) ∙ drop-drop (2 + n) read rs))

-- ---- the call

module _ (b rs a : List ℕ) where
  pub called_broken : keeps_of b ≡ false → many (refusing 1) b a ≡ events_of b rs a
  unfolding events_of if◌then◌otherwise◌
  called_broken k = rw k refl

  pub called_short : keeps_of b ≡ true → length a < most_said → many (refusing 2) b a ≡ events_of b rs a
  unfolding events_of if◌then◌otherwise◌
  called_short k h = rw (k, lt-ltb (length a) most_said h) refl

  pub called_run : keeps_of b ≡ true → most_said ≤ length a → (m : Many) → m ≡ ran a (run a (begun b) (records_in rs)) → m ≡ events_of b rs a
  unfolding events_of if◌then◌otherwise◌
  called_run k h m e = e ∙ (rw (k, le-ltb (length a) most_said h) refl)

-- for the tactic of the function that is called
pub ruleset called = (called_broken, called_short, called_run)
