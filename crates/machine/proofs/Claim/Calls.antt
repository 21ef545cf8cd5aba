-- Demand 3 of a book in some other form, as bytes are: what the machine does, the form does. Rests on Start and Net.
use Rattle.std.proofs.Common.{ℕ, ◌≡◌, refl, sym, ap, ◌∙◌, subst, true, List, [], ◌∷◌, ◌++◌}
use Rattle.store.specs.Book.{Book}
use Rattle.machine.specs.Rules.{rules}
use Rattle.machine.specs.History.{Decoded, Entry, State, start, next, run, Kinds, start_from}
use Rattle.machine.specs.Calls.{Form, line_at, calls, Faithful, Step, call, back, SinceReturn, state_of, just_returned, follow}
use Rattle.machine.specs.Claim.{Demand3}
use Rattle.machine.specs.Since.{Demand3From, Net}
use Rattle.machine.proofs.Claim.Net.{net_from}
use Rattle.machine.proofs.Claim.Whole.{demand_from}
use Rattle.machine.proofs.Claim.Start.{demand}

module _ {In Held : Type 0} (f : Form In Held) (good : Held → Type 0) (t : Faithful f good) where
  pub calls_run : (h : Held) (past : List Entry) (is : List In) → good h → calls f h past is ≡ run f.read (record { book = f.book_of h; past = past }) is
  calls_run h past [] g = refl
  calls_run h past (i ∷ is) g =
      calls_run (f.next h i) (line_at f h i ∷ past) is (t.stays h i g)
      ∙ ap (λ (e : Entry). run f.read (record { book = e.left; past = e ∷ past }) is) (t.same h i g)

  -- calls from the empty book are a run of the machine
  pub run_of : (setting : ℕ) (h : Held) → good h → f.book_of h ≡ (start setting).book → (is : List In) → calls f h [] is ≡ run f.read (start setting) is
  run_of setting h g e is = calls_run h [] is g ∙ ap (λ (b : Book). run f.read (record { book = b; past = [] }) is) e

  pub demand_of : Kinds f.read → (setting : ℕ) (h : Held) → good h → f.book_of h ≡ (start setting).book → (is : List In) → Demand3 (calls f h [] is)
  demand_of kinds setting h g e is = subst Demand3 (sym (run_of setting h g e is)) (demand In f.read kinds setting is)

-- one call more, at the end
run_more : {In : Type 0} (read : In → Decoded) (s : State) (is : List In) (i : In) → next (run read s is) (read i) ≡ run read s (is ++ (i ∷ []))
run_more read s [] i = refl
run_more read s (j ∷ is) i = run_more read (next s (read j)) is i

-- with returns: what holds of the calls since the last
module _ {In Held : Type 0} (f : Form In Held) (good : Held → Type 0) (t : Faithful f good) (kept : (h : Held) → good h → rules (f.book_of h) ≡ true) where
  record Reached (s : SinceReturn f) : Type 0 where
    from : good s.image
    now : good s.held
    by : List In
    is : state_of f s ≡ run f.read (start_from (f.book_of s.image)) by

  reached : (is : List (Step f good)) (s : SinceReturn f) → Reached s → Reached (follow f s is)
  reached [] s r = r
  reached (call i ∷ is) s r =
      reached is _ (record {
        from = r.from;
        now = t.stays s.held i r.now;
        by = r.by ++ (i ∷ []);
        is =
            ap (λ (e : Entry). record { book = e.left; past = e ∷ s.past }) (t.same s.held i r.now)
            ∙ ap (λ (x : State). next x (f.read i)) r.is
            ∙ run_more f.read (start_from (f.book_of s.image)) r.by i;
      })
  reached (back h g ∷ is) s r = reached is _ (record { from = g; now = g; by = []; is = refl })

  pub since_return : Kinds f.read → (h : Held) → good h → (is : List (Step f good))
      → let s = follow f (just_returned f h) is in Demand3From (f.book_of s.image) (state_of f s) × Net (f.book_of s.image) (state_of f s)
  since_return kinds h g is =
      let s = follow f (just_returned f h) is in
      let r : Reached s = reached is (just_returned f h) (record { from = g; now = g; by = []; is = refl }) in
      let image : Book = f.book_of s.image in
      (subst (Demand3From image) (sym r.is) (demand_from In f.read kinds image (kept s.image r.from) r.by), subst (Net image) (sym r.is) (net_from In f.read image r.by))
