-- A call of `events`: which number it returns, what its run comes to, where it stops, and that a list cut in two leaves the same. Rests on EventsRun.
use Rattle.std.specs.Prelude.{ℕ, suc, ◌+◌, ◌*◌, ◌≤◌, ◌<◌, ◌≡◌, refl, Bool, true, false, not, List, [], ◌∷◌, ◌++◌, leb, length, take, drop}
use Rattle.std.proofs.Common.{arith, sym, ap, ◌∙◌, subst, append-nil, length-append, take-append-drop, length-take-le, drop_of_length-le, take_at, drop_at, lt-ltb, le-ltb, le-leb}
use Rattle.std.proofs.Math.Decide.{dec_lt}
use Rattle.std.proofs.lemmas.Bool.{leb-false, lt-leb}
use Rattle.std.proofs.lemmas.List.{take-append-le}
use Rattle.prelude.specs.Number.{Bytes, word16}
use Rattle.prelude.specs.Span.{span, splice}
use Rattle.prelude.specs.Totals.{Every, every[], every∷}
use Rattle.prelude.specs.Laws.Bytes.{bytes_drop, bytes_take}
use Rattle.prelude.specs.Laws.Cases.{split_if, if_true, if_false}
use Rattle.prelude.specs.Laws.Span.{length_splice}
use Rattle.store.specs.Book.{book_of}
use Rattle.machine.specs.Calls.{calls}
use Rattle.machine.specs.History.{Entry}
use Rattle.machine.specs.Calls.{line_at}
use Rattle.rules.specs.Keeps.{keeps_of}
use Rattle.step.specs.Entries.{event_of}
use Rattle.events.specs.Events.{has_whole, records_in, most_said, Run, run_one, run, begun, Many, many, refusing, ran, events_of}
use Rattle.claims.specs.Claims.{Call, entries, Passes}
use Rattle.claims.specs.Opens.{bytes_after}
use Rattle.claims.specs.Events.{calls_in, calls_of, events_in, packed, said_by, heard_from, OneByOne, Within, Partial, ReadAll, Stops, Joins, CutInTwo}
use Rattle.claims.proofs.Taken.{check_kept, check_broken, kept_check}
use Rattle.claims.proofs.Calls.{passing}
use Rattle.claims.proofs.Demands.{demand1}
use Rattle.claims.proofs.EventsRecords.{packed_long, Front, ends, goes, front, front_same, records_are, front_behind, front_packed, front_more, packed_fits, partial, none_whole, whole_there}
use Rattle.claims.proofs.EventsHeard.{heard_calls, refusals}
use Rattle.claims.proofs.EventsRun.{book_alone, said_alone, book_calls, said_calls, book_append, said_append, said_alone_most, RunIs, run_is}

-- ---- which number

went : (b rs a : List ℕ) → keeps_of b ≡ true → 1025 ≤ length a → events_of b rs a ≡ ran a (run a (begun b) (records_in rs))
unfolding events_of
went b rs a k h = if_false _ _ _ (ap not k) ∙ if_false _ _ _ (le-ltb (length a) 1025 h)

short : (b rs a : List ℕ) → keeps_of b ≡ true → length a < 1025 → events_of b rs a ≡ many (refusing 2) b a
unfolding events_of
short b rs a k h = if_false _ _ _ (ap not k) ∙ if_true _ _ _ (lt-ltb (length a) 1025 h)

broken : (b rs a : List ℕ) → keeps_of b ≡ false → events_of b rs a ≡ many (refusing 1) b a
unfolding events_of
broken b rs a k = if_true _ _ _ (ap not k)

-- ---- a run on a book that keeps its rules

pub record Facts (b rs a : List ℕ) (m : Many) (cs : List Call) : Type 0 where
  pub records : events_in cs ≡ take (length cs) (records_in rs)
  pub few : length cs ≤ length (records_in rs)
  pub room : Every (λ (c : Call). 1024 ≤ length c.answer) cs
  pub book : m.book ≡ bytes_after b cs
  pub events : m.returned.events ≡ length cs
  pub read : m.returned.read ≡ length (packed (events_in cs))
  pub fits : m.returned.written ≤ length a
  pub said : take m.returned.written m.answers ≡ said_by b cs
  pub long : m.returned.written ≡ length (said_by b cs)
  pub behind : drop m.returned.written m.answers ≡ drop m.returned.written a
  pub answers : length m.answers ≡ length a
  pub stops : m.returned.written + 1025 ≤ length a → length cs ≡ length (records_in rs)

none_in : (a : List ℕ) (s : Run) (rs : List (List ℕ)) (p : Every Bytes rs) → length a < length s.said + most_said → ◌≡◌ {A = List Call} [] (calls_in a s rs p)
none_in a s [] p h = refl
none_in a s (r ∷ rs) (every∷ p ps) h = sym (if_false _ _ _ (lt-leb (length s.said + most_said) (length a) h))

run_facts : (b rs a : List ℕ) (t : Run) (cs : List Call) → RunIs a (begun b) t (records_in rs) cs → Facts b rs a (ran a t) cs
unfolding ran splice
run_facts b rs a t cs i =
    let fits : length t.said ≤ length a = i.fits (omega arith) in
    record {
      records = i.records;
      few = i.few;
      room = i.room;
      book = i.book;
      events = omega (arith, i.events);
      read = omega (arith, i.read);
      fits = fits;
      said = take_at t.said (drop (length t.said) a) (length t.said) refl ∙ i.said;
      long = ap length i.said;
      behind = drop_at t.said (drop (length t.said) a) (length t.said) refl;
      answers = length_splice a 0 t.said (omega arith);
      stops = i.ends;
    }

pub facts : (b rs a : List ℕ) → keeps_of b ≡ true → (bytes : Bytes rs) → Facts b rs a (events_of b rs a) (calls_of b rs a bytes)
facts b rs a k bytes = go (dec_lt (length a) 1025)
  where
    go : Dec (length a < 1025) → Facts b rs a (events_of b rs a) (calls_of b rs a bytes)
    go (yes l) =
        subst (λ (m : Many). Facts b rs a m (calls_of b rs a bytes)) (sym (short b rs a k l))
        (subst (Facts b rs a (many (refusing 2) b a)) (none_in a (begun b) (records_in rs) _ l) (record {
          records = refl;
          few = omega arith;
          room = every[];
          book = refl;
          events = refl;
          read = refl;
          fits = omega arith;
          said = refl;
          long = refl;
          behind = refl;
          answers = refl;
          stops = λ h. absurd (omega arith);
        }))
    go (no n) =
        subst (λ (m : Many). Facts b rs a m (calls_of b rs a bytes)) (sym (went b rs a k (omega arith)))
        (run_facts b rs a _ _ (run_is a (begun b) (records_in rs) _))

-- ---- what is left of the records

module _ (b rs a : List ℕ) (m : Many) (cs : List Call) (f : Facts b rs a m cs) where
  pub read_is : m.returned.read ≡ length (packed (take (length cs) (records_in rs)))
  read_is = f.read ∙ ap (λ (l : List (List ℕ)). length (packed l)) f.records

  pub left_is : Front (drop m.returned.read rs) (drop (length cs) (records_in rs))
  left_is =
      subst (λ (n : ℕ). Front (drop n rs) (drop (length cs) (records_in rs))) (sym read_is) (front_behind rs (records_in rs) (front rs) (length cs))

  pub all_run : ReadAll rs m → events_in cs ≡ records_in rs
  all_run z =
      f.records
      ∙ sym (append-nil (take (length cs) (records_in rs)))
      ∙ ap (λ (l : List (List ℕ)). take (length cs) (records_in rs) ++ l) (front_same (drop m.returned.read rs) [] (drop (length cs) (records_in rs)) (ends (drop m.returned.read rs) (none_whole (drop m.returned.read rs) z)) left_is)
      ∙ take-append-drop (length cs) (records_in rs)

  pub run_all : length cs ≡ length (records_in rs) → ReadAll rs m
  run_all e =
      none_left (drop m.returned.read rs)
      (subst (Front (drop m.returned.read rs)) (drop_of_length-le (records_in rs) {i = length cs} (omega arith)) left_is)
    where
      none_left : (x : List ℕ) → Front x [] → Partial x
      none_left x (ends _ z) = partial x z

  pub read_packed : Bytes rs → take m.returned.read rs ≡ packed (events_in cs)
  read_packed bytes =
      ap (λ (n : ℕ). take n rs) read_is ∙ front_packed rs (records_in rs) bytes (front rs) (length cs) ∙ ap packed (sym f.records)

  pub read_most : m.returned.read ≤ length rs
  read_most = subst (λ (n : ℕ). n ≤ length rs) (sym read_is) (packed_fits rs (records_in rs) (front rs) (length cs))

-- ---- one by one

pub history_book : (b : List ℕ) (past : List Entry) (cs : List Call) → book_of (bytes_after b cs) ≡ (calls entries b past cs).book
history_book b past [] = refl
history_book b past (c ∷ cs) = history_book (event_of b c.event c.answer).book (line_at entries b c ∷ past) cs

pub one_by_one : (b rs a : List ℕ) → Passes b → (bytes : Bytes rs) → OneByOne b rs (events_of b rs a) (calls_of b rs a bytes)
one_by_one b rs a p bytes =
    let m : Many = events_of b rs a in
    let cs : List Call = calls_of b rs a bytes in
    let f : Facts b rs a m cs = facts b rs a (kept_check b p.passes) bytes in
    record {
      records = f.records;
      room = f.room;
      book = f.book;
      history = ap book_of f.book ∙ history_book b [] cs;
      events = f.events;
      read = read_packed b rs a m cs f bytes;
      written = f.said;
      heard =
          (λ i. heard_from (f.events i) (sym (take-append-drop m.returned.written m.answers) i))
          ∙ ap (λ (l : List ℕ). heard_from (length cs) (l ++ drop m.returned.written m.answers)) f.said
          ∙ heard_calls b p cs (drop m.returned.written m.answers);
      refusals = refusals b p cs f.room;
    }

pub passes_after_calls : (b : List ℕ) → Passes b → (cs : List Call) → Passes (bytes_after b cs)
passes_after_calls b p [] = p
passes_after_calls b p (c ∷ cs) = passes_after_calls (event_of b c.event c.answer).book (passing.stays b c p) cs

pub events_pass : (b rs a : List ℕ) → Passes b → Bytes rs → Passes (events_of b rs a).book
events_pass b rs a p bytes =
    subst Passes (sym (facts b rs a (kept_check b p.passes) bytes).book) (passes_after_calls b p (calls_of b rs a bytes))

-- ---- what a call changes

same_long : (x y : List ℕ) → Passes x → Passes y → length x ≡ length y
same_long x y p q = (demand1.counted x p.passes).long ∙ sym (demand1.counted y q.passes).long

pub within : (b rs a : List ℕ) → Bytes rs → Within b rs a (events_of b rs a)
within b rs a bytes = go (keeps_of b) refl (dec_lt (length a) 1025)
  where
    go : (t : Bool) → keeps_of b ≡ t → Dec (length a < 1025) → Within b rs a (events_of b rs a)
    go false k d = subst (Within b rs a) (sym (broken b rs a k)) (record {
      most = omega arith;
      one = (λ e. check_broken b k, λ e. refl);
      two = (λ e. absurd (omega arith), λ e. absurd (omega (arith, e.0, check_broken b k)));
      refused = λ n. refl;
      read = omega arith;
      written = omega arith;
      behind = refl;
      answers = refl;
      book = λ h. refl;
      passes = λ p. p;
    })
    go true k (yes l) = subst (Within b rs a) (sym (short b rs a k l)) (record {
      most = omega arith;
      one = (λ e. absurd (omega arith), λ e. absurd (omega (arith, e, check_kept b k)));
      two = (λ e. (check_kept b k, l), λ e. refl);
      refused = λ n. refl;
      read = omega arith;
      written = omega arith;
      behind = refl;
      answers = refl;
      book = λ h. refl;
      passes = λ p. p;
    })
    go true k (no n) =
        let m : Many = events_of b rs a in
        let f : Facts b rs a m (calls_of b rs a bytes) = facts b rs a k bytes in
        let z : m.returned.refusal ≡ 0 = unfold ran in ap (λ (x : Many). x.returned.refusal) (went b rs a k (omega arith)) in
        record {
          most = omega arith;
          one = (λ e. absurd (omega arith), λ e. absurd (omega (arith, e, check_kept b k)));
          two = (λ e. absurd (omega arith), λ e. absurd (omega (arith, e.1)));
          refused = λ x. absurd (x z);
          read = read_most b rs a m (calls_of b rs a bytes) f;
          written = f.fits;
          behind = f.behind;
          answers = f.answers;
          book = λ h. let p : Passes b = record { bytes = h; passes = check_kept b k } in same_long (events_of b rs a).book b (events_pass b rs a p bytes) p;
          passes = λ p. events_pass b rs a p bytes;
        }

-- ---- where it stops

stuck : (a : List ℕ) (s : Run) (rs : List (List ℕ)) → length a < length s.said + most_said → run a s rs ≡ s
stuck a s [] h = refl
stuck a s (r ∷ rs) h = if_false _ _ _ (lt-leb (length s.said + most_said) (length a) h)

run_append : (a : List ℕ) (s : Run) (xs ys : List (List ℕ)) → run a s (xs ++ ys) ≡ run a (run a s xs) ys
run_append a s [] ys = refl
run_append a s (x ∷ xs) ys = go (leb (length s.said + most_said) (length a)) refl (run_append a (run_one a s x) xs ys)
  where
    go : (t : Bool) → leb (length s.said + most_said) (length a) ≡ t → run a (run_one a s x) (xs ++ ys) ≡ run a (run a (run_one a s x) xs) ys
        → run a s (x ∷ (xs ++ ys)) ≡ run a (run a s (x ∷ xs)) ys
    go true e i = if_true _ _ _ e ∙ i ∙ ap (λ (u : Run). run a u ys) (sym (if_true _ _ _ e))
    go false e i = if_false _ _ _ e ∙ sym (ap (λ (u : Run). run a u ys) (if_false _ _ _ e) ∙ stuck a s ys (leb-false _ _ e))

run_grows : (a : List ℕ) (s : Run) (rs : List (List ℕ)) → s.events ≤ (run a s rs).events
unfolding run_one
run_grows a s [] = omega arith
run_grows a s (r ∷ rs) =
    split_if (λ (u : Run). s.events ≤ u.events) (leb (length s.said + most_said) (length a)) (λ e. omega (arith, run_grows a (run_one a s r) rs)) (λ e. omega arith)

one_grows : (a : List ℕ) (s : Run) (r : List ℕ) (rs : List (List ℕ)) → length s.said + most_said ≤ length a → s.events < (run a s (r ∷ rs)).events
unfolding run_one
one_grows a s r rs h =
    subst (λ (u : Run). s.events < u.events) (sym (if_true _ _ _ (le-leb (length s.said + most_said) (length a) h))) (omega (arith, run_grows a (run_one a s r) rs))

-- more bytes behind the records only add records
records_more : (rs more : List ℕ) → records_in (rs ++ more) ≡ records_in rs ++ records_in (drop (length (packed (records_in rs))) rs ++ more)
records_more rs more = records_are (rs ++ more) _ (front_more rs (records_in rs) (front rs) more _ (front _))

first_whole : (x : List ℕ) → has_whole x ≡ true → records_in x ≡ span x 2 (word16 x 0) ∷ records_in (drop (2 + word16 x 0) x)
first_whole x e = records_are x _ (goes x _ e (front _))

module _ (b rs a : List ℕ) (p : Passes b) (bytes : Bytes rs) where
  abbrev m : Many
  m = events_of b rs a

  abbrev cs : List Call
  cs = calls_of b rs a bytes

  keeps : keeps_of b ≡ true
  keeps = kept_check b p.passes

  f : Facts b rs a m cs
  f = facts b rs a keeps bytes

  abbrev t : Run
  t = run a (begun b) (records_in rs)

  written_is : 1025 ≤ length a → m.returned.written ≡ length t.said
  unfolding ran
  written_is h = ap (λ (x : Many). x.returned.written) (went b rs a keeps h)

  events_are : 1025 ≤ length a → m.returned.events ≡ t.events
  unfolding ran
  events_are h = ap (λ (x : Many). x.returned.events) (went b rs a keeps h)

  rest_lem : m.returned.written + 1025 ≤ length a → ReadAll rs m
  rest_lem h = run_all b rs a m cs f (f.stops h)

  -- all the bytes of the whole records are read
  read_to : m.returned.written + 1025 ≤ length a → m.returned.read ≡ length (packed (records_in rs))
  read_to h = read_is b rs a m cs f ∙ ap (λ (l : List (List ℕ)). length (packed l)) (sym (f.records) ∙ all_run b rs a m cs f (rest_lem h))

  next_lem : m.returned.written + 1025 ≤ length a → (more : List ℕ) → (Partial (drop m.returned.read rs ++ more) → ⊥)
      → m.returned.events < (events_of b (rs ++ more) a).returned.events
  unfolding ran
  next_lem h more w =
      let room : 1025 ≤ length a = omega arith in
      let x : List ℕ = drop m.returned.read rs ++ more in
      let r : List ℕ = span x 2 (word16 x 0) in
      let ss : List (List ℕ) = records_in (drop (2 + word16 x 0) x) in
      let all : records_in (rs ++ more) ≡ records_in rs ++ (r ∷ ss) =
      records_more rs more
      ∙ ap (λ (n : ℕ). records_in rs ++ records_in (drop n rs ++ more)) (sym (read_to h))
      ∙ ap (λ (l : List (List ℕ)). records_in rs ++ l) (first_whole x (whole_there x w)) in
      let runs : run a (begun b) (records_in (rs ++ more)) ≡ run a t (r ∷ ss) = ap (run a (begun b)) all ∙ run_append a (begun b) (records_in rs) (r ∷ ss) in
      let more_events : (events_of b (rs ++ more) a).returned.events ≡ (run a t (r ∷ ss)).events =
      ap (λ (y : Many). y.returned.events) (went b (rs ++ more) a keeps room) ∙ ap (λ (u : Run). u.events) runs in
      omega (arith, more_events, events_are room, one_grows a t r ss (omega (arith, written_is room)))

  full_lem : length a < m.returned.written + 1025 → (more : List ℕ) → events_of b (rs ++ more) a ≡ m
  full_lem h more = go (dec_lt (length a) 1025)
    where
      go : Dec (length a < 1025) → events_of b (rs ++ more) a ≡ m
      go (yes l) = short b (rs ++ more) a keeps l ∙ sym (short b rs a keeps l)
      go (no n) =
          let room : 1025 ≤ length a = omega arith in
          went b (rs ++ more) a keeps room
          ∙ ap (ran a) (ap (run a (begun b)) (records_more rs more) ∙ run_append a (begun b) (records_in rs) _ ∙ stuck a t _ (omega (arith, written_is room)))
          ∙ sym (went b rs a keeps room)

  enough_lem : 1025 * length (records_in rs) ≤ length a → ReadAll rs m
  enough_lem h = run_all b rs a m cs f (go (dec_lt (length cs) (length (records_in rs))))
    where
      go : Dec (length cs < length (records_in rs)) → length cs ≡ length (records_in rs)
      go (no n) = omega (arith, f.few)
      go (yes l) =
          let w : m.returned.written ≤ 1025 * length (events_in cs) =
          omega (arith, f.long, ap length (said_calls b cs f.room), said_alone_most b (events_in cs)) in
          let k : length (events_in cs) ≡ length cs = ap length f.records ∙ length-take-le (length cs) (records_in rs) f.few in
          f.stops (omega arith)

pub stops : (b rs a : List ℕ) → Passes b → Bytes rs → Stops b rs a (events_of b rs a)
stops b rs a p bytes = record { rest = rest_lem b rs a p bytes; next = next_lem b rs a p bytes; full = full_lem b rs a p bytes; enough = enough_lem b rs a p bytes }

-- ---- cut in two

events_long : (cs : List Call) → length (events_in cs) ≡ length cs
events_long [] = refl
events_long (c ∷ cs) = ap suc (events_long cs)

lengths : (xs ys : List (List ℕ)) → length (xs ++ ys) ≡ length xs + length ys
lengths xs ys = length-append xs ys

packed_both : (xs ys : List (List ℕ)) → length (packed (xs ++ ys)) ≡ length (packed xs) + length (packed ys)
packed_both [] ys = omega arith
packed_both (x ∷ xs) ys = omega (arith, packed_long x (xs ++ ys), packed_long x xs, packed_both xs ys)

module _ (b rs a a1 a2 : List ℕ) (at : ℕ) (p : Passes b) (bytes : Bytes rs) where
  abbrev front_part : List ℕ
  front_part = take at rs

  abbrev first : Many
  first = events_of b front_part a1

  abbrev behind : List ℕ
  behind = drop first.returned.read rs

  abbrev second : Many
  second = events_of first.book behind a2

  abbrev whole : Many
  whole = events_of b rs a

  joins : ReadAll behind second → ReadAll rs whole → Joins first second whole
  joins z2 z =
      let p1 : Passes first.book = events_pass b front_part a1 p (bytes_take rs at bytes) in
      let bytes2 : Bytes behind = bytes_drop rs first.returned.read bytes in
      let cs1 : List Call = calls_of b front_part a1 (bytes_take rs at bytes) in
      let cs2 : List Call = calls_of first.book behind a2 bytes2 in
      let cs : List Call = calls_of b rs a bytes in
      let f1 : Facts b front_part a1 first cs1 = facts b front_part a1 (kept_check b p.passes) (bytes_take rs at bytes) in
      let f2 : Facts first.book behind a2 second cs2 = facts first.book behind a2 (kept_check first.book p1.passes) bytes2 in
      let f : Facts b rs a whole cs = facts b rs a (kept_check b p.passes) bytes in
      let k : ℕ = length cs1 in
      let R : List (List ℕ) = records_in rs in
      let rest : List (List ℕ) = records_in (drop (length (packed (records_in front_part))) front_part ++ drop at rs) in
      let parts : R ≡ records_in front_part ++ rest = ap records_in (sym (take-append-drop at rs)) ∙ records_more front_part (drop at rs) in
      let e1 : events_in cs1 ≡ take k R = f1.records ∙ sym (take-append-le k (records_in front_part) rest f1.few) ∙ ap (take k) (sym parts) in
      let r1 : first.returned.read ≡ length (packed (take k R)) = f1.read ∙ ap (λ (l : List (List ℕ)). length (packed l)) e1 in
      let left : records_in behind ≡ drop k R =
      records_are behind (drop k R) (subst (λ (n : ℕ). Front (drop n rs) (drop k R)) (sym r1) (front_behind rs R (front rs) k)) in
      let e2 : events_in cs2 ≡ drop k R = all_run first.book behind a2 second cs2 f2 z2 ∙ left in
      let e : events_in cs ≡ R = all_run b rs a whole cs f z in
      let both : events_in cs1 ++ events_in cs2 ≡ events_in cs = (λ i. e1 i ++ e2 i) ∙ take-append-drop k R ∙ sym e in
      let book1 : first.book ≡ book_alone b (events_in cs1) = f1.book ∙ book_calls b cs1 f1.room in
      record {
        book =
            f2.book
            ∙ book_calls first.book cs2 f2.room
            ∙ ap (λ (x : List ℕ). book_alone x (events_in cs2)) book1
            ∙ sym (book_append b (events_in cs1) (events_in cs2))
            ∙ ap (book_alone b) both
            ∙ sym (f.book ∙ book_calls b cs f.room);
        written =
            (λ i. (f1.said ∙ said_calls b cs1 f1.room) i ++ (f2.said ∙ said_calls first.book cs2 f2.room ∙ ap (λ (x : List ℕ). said_alone x (events_in cs2)) book1) i)
            ∙ sym (said_append b (events_in cs1) (events_in cs2))
            ∙ ap (said_alone b) both
            ∙ sym (f.said ∙ said_calls b cs f.room);
        events = omega (arith, f1.events, f2.events, f.events, events_long cs1, events_long cs2, events_long cs, ap length both, lengths (events_in cs1) (events_in cs2));
        read = omega (arith, f1.read, f2.read, f.read, ap (λ (l : List (List ℕ)). length (packed l)) both, packed_both (events_in cs1) (events_in cs2));
      }

pub events_cut : CutInTwo
events_cut b rs a a1 a2 at p bytes = joins b rs a a1 a2 at p bytes
