-- What a caller has of a book that keeps its rules, and as it is decided. Rests on Ruled and index's laws.
use Rattle.std.specs.Prelude.{◌≡◌, ℕ, ◌≤◌, Bool, true, false, ◌&&◌, List, length, refl}
use Rattle.std.proofs.Common.{ap, ◌∙◌}
use Rattle.std.proofs.lemmas.Bool.{false_from_ne_true, and_parts, and_from}
use Rattle.prelude.specs.Number.{word16}
use Rattle.store.specs.Layout.{book_size, header·orders, header·requests, most_orders, most_requests}
use Rattle.store.specs.Book.{book_of}
use Rattle.machine.specs.Exchange.{open_of}
use Rattle.machine.specs.Rules.{rules}
use Rattle.index.specs.Index.{links_right, stored_open, opens_right, indexed}
use Rattle.index.specs.Laws.Sums.{stored_right}
use Rattle.rules.specs.Keeps.{ruled_of, keeps_of}
use Rattle.rules.specs.Laws.Ruled.{Held, ruled_held, held_ruled}

module _ (b : List ℕ) where
  -- as it is decided: the links with machine's rules
  keeps_turned : keeps_of b ≡ (ruled_of b && links_right b) && opens_right b
  unfolding keeps_of indexed
  keeps_turned = go (ruled_of b) (links_right b) (opens_right b)
    where
      go : (r t o : Bool) → r && (t && o) ≡ (r && t) && o
      go true t o = refl
      go false t o = refl

  module _ (e : keeps_of b ≡ true) where
    keeps_parts : (ruled_of b ≡ true) × (links_right b ≡ true) × (opens_right b ≡ true)
    unfolding keeps_of indexed
    keeps_parts =
        let p = and_parts (ruled_of b) (links_right b && opens_right b) e in
        let q = and_parts (links_right b) (opens_right b) p.1 in
        (p.0, q.0, q.1)

    -- THE LAWS for callers
    pub keeps_held : Held b
    keeps_held = ruled_held b keeps_parts.0

    pub keeps_links : links_right b ≡ true
    keeps_links = keeps_parts.1

    pub keeps_opens : opens_right b ≡ true
    keeps_opens = keeps_parts.2

    pub keeps_stored : (client : ℕ) → stored_open b client ≡ open_of (book_of b) client
    keeps_stored client = stored_right b keeps_opens client

  -- and their converse
  pub held_keeps : length b ≡ book_size → word16 b header·orders ≤ most_orders → word16 b header·requests ≤ most_requests → rules (book_of b) ≡ true → links_right b ≡ true
      → opens_right b ≡ true → keeps_of b ≡ true
  unfolding keeps_of indexed
  held_keeps l n m r t o = and_from (ruled_of b) (links_right b && opens_right b) (held_ruled b l n m r) (and_from (links_right b) (opens_right b) t o)

  pub keeps_long : (length b ≡ book_size → ⊥) → keeps_of b ≡ false
  keeps_long n = false_from_ne_true (keeps_of b) (λ e. n (keeps_held e).long)

  pub keeps_not : ruled_of b && links_right b ≡ false → keeps_of b ≡ false
  keeps_not e = keeps_turned ∙ ap (λ (t : Bool). t && opens_right b) e

  pub keeps_then : ruled_of b && links_right b ≡ true → keeps_of b ≡ opens_right b
  keeps_then e = keeps_turned ∙ ap (λ (t : Bool). t && opens_right b) e

-- for the tactic of the rules decided
pub ruleset decides = (keeps_long, keeps_not, keeps_then)
