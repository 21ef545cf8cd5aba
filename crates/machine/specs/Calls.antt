-- A list of calls on a book in some other form, as bytes are: its history in the claim's words, and what ties the form to the machine. Rests on History.
use Rattle.std.specs.Prelude.{ℕ, ◌≡◌, List, [], ◌∷◌}
use Rattle.store.specs.Book.{Book}
use Rattle.machine.specs.Changes.{Message}
use Rattle.machine.specs.History.{Decoded, comes_to, Entry, line_of, State}

-- a form of the book and of its calls: what a record reads as, the book that the form stands for, what the call returns, the messages that are
-- read from its answer (none if it is refused), and the form after it
pub record Form (In Held : Type 0) : Type 0 where
  pub read : In → Decoded
  pub book_of : Held → Book
  pub returned : Held → In → ℕ
  pub heard : Held → In → List Message
  pub next : Held → In → Held

module _ {In Held : Type 0} (f : Form In Held) where
  abbrev pub line_at : Held → In → Entry
  line_at h i = record { before = f.book_of h; input = f.read i; refusal = f.returned h i; messages = f.heard h i; left = f.book_of (f.next h i) }

  -- the book after the calls, and their history
  abbrev pub calls : Held → List Entry → List In → State
  calls h past [] = record { book = f.book_of h; past = past }
  calls h past (i ∷ is) = calls (f.next h i) (line_at h i ∷ past) is

  -- each call on a form that is good is the machine's, and leaves a good one
  pub record Faithful (good : Held → Type 0) : Type 0 where
    pub same : (h : Held) (i : In) → good h → line_at h i ≡ line_of (f.book_of h) (f.read i) (comes_to (f.book_of h) (f.read i))
    pub stays : (h : Held) (i : In) → good h → good (f.next h i)

  -- ---- calls and returns

  -- a call, or a return: the image, a form that is good, takes the book's place
  pub data Step (good : Held → Type 0) : Type 0 where
    call : In → Step good
    back : (image : Held) → good image → Step good

  -- the image last returned to, or what there was at first, and what has happened since
  pub record SinceReturn : Type 0 where
    pub image : Held
    pub held : Held
    pub past : List Entry

  abbrev pub state_of : SinceReturn → State
  state_of s = record { book = f.book_of s.held; past = s.past }

  abbrev pub just_returned : Held → SinceReturn
  just_returned h = record { image = h; held = h; past = [] }

  abbrev pub follow : {good : Held → Type 0} → SinceReturn → List (Step good) → SinceReturn
  follow s [] = s
  follow s (call i ∷ is) = follow (record { image = s.image; held = f.next s.held i; past = line_at s.held i ∷ s.past }) is
  follow s (back h g ∷ is) = follow (just_returned h) is
