-- What is asked of a book of which a part is taken, and of an event, so that nobody notices. Rests on Renamed and parts.
use Rattle.std.specs.Prelude.{ℕ, ◌+◌, ◌-◌, ◌≤◌, ◌<◌, ◌≡◌, ◌⊎◌, Bool, true, false, ◌&&◌, ◌||◌, eqb, ltb, length}
use Rattle.prelude.specs.Below.{count_below}
use Rattle.prelude.specs.Cases.{if◌then◌otherwise◌}
use Rattle.prelude.specs.Texts.{same_text}
use Rattle.store.specs.declared.Order.{Order}
use Rattle.store.specs.Book.{Book, order_in, request_in}
use Rattle.store.specs.Finds.{bears_clordid}
use Rattle.machine.specs.Constants.{cancel_reject_kind, text_too_many}
use Rattle.machine.specs.Changes.{Event}
use Rattle.machine.specs.Events.{Ranged}
use Rattle.machine.specs.Machine.{step_of, book_after}
use Rattle.machine.specs.Rules.{rules}
use Rattle.machine.specs.declared.Change.{Change}
use Rattle.parts.specs.Alike.{OwnLink}
use Rattle.parts.specs.Parts.{of_passing, moved_link, part}

-- all four links of an order name none, or a request of order i
pub record Owns (b : Book) (i : ℕ) (o : Order) : Type 0 where
  pub current : OwnLink b i o.links.current
  pub cancel : OwnLink b i o.links.cancel
  pub pending : OwnLink b i o.pending.request
  pub named : OwnLink b i o.gateway.origdownstream

-- a book that keeps its rules, in which the gateway's cancels of the orders that pass name requests of these; what is not there yet passes
pub record Parted (p : ℕ → Bool) (b : Book) : Type 0 where
  pub kept : rules b ≡ true
  pub more : (i : ℕ) → length b.orders ≤ i → p i ≡ true
  pub own : (i : ℕ) → i < length b.orders → p i ≡ true → OwnLink b i (order_in b i).gateway.origdownstream

-- by what an event of its kind names: no order that does not pass, and no request of one; a ClOrdID is its client's own
pub record NamesPassing (p : ℕ → Bool) (b : Book) (e : Event) : Type 0 where
  -- a booking, or a gateway's cancel
  pub name : (e.kind ≤ 1) ⊎ (9 ≤ e.kind) → (i : ℕ) → i < length b.orders → same_text (order_in b i).names.name e.ids.name ≡ true → p i ≡ true
  -- what a venue says, and sends
  pub downstream : (4 ≤ e.kind) × (e.kind ≤ 8)
      → (j : ℕ) → j < length b.requests → same_text (request_in b j).downstream e.ids.downstream ≡ true → of_passing p b j ≡ true
  -- a booking, a client's cancel and a replace
  pub clordid : e.kind ≤ 3 → (j : ℕ) → j < length b.requests → bears_clordid b.orders e.client e.ids.clordid (request_in b j) ≡ true → of_passing p b j ≡ true
  pub origclordid : (e.kind ≡ 2) ⊎ (e.kind ≡ 3)
      → (j : ℕ) → j < length b.requests → bears_clordid b.orders e.client e.ids.origclordid (request_in b j) ≡ true → of_passing p b j ≡ true

-- ---- the part's numbers

-- links that stay are counted; no other becomes one of theirs
unfoldable pub counted_link : (stays : ℕ → Bool) (top link : ℕ) → ℕ
counted_link stays top link =
    if eqb link 0 then 0
    otherwise if stays (link - 1) then count_below stays (link - 1) + 1
    otherwise top + link

-- a request that passes, or the next one
unfoldable pub stays_at : (p : ℕ → Bool) → Book → ℕ → Bool
stays_at p b j = eqb j (length b.requests) || (ltb j (length b.requests) && of_passing p b j)

abbrev pub part_link : (p : ℕ → Bool) → Book → ℕ → ℕ
part_link p b = counted_link (stays_at p b) (length b.requests + 1)

abbrev pub part_place : (p : ℕ → Bool) → ℕ → ℕ
part_place p = moved_link p 0

abbrev pub part_index : (p : ℕ → Bool) → ℕ → ℕ
part_index p i = 0 + count_below p i

-- ---- what a change tells

-- the answer's first message is not the reject "too many requests"
unfoldable pub NotMany : Change → Type 0
NotMany c = 0 < c.output.count → c.output.first.kind ≡ cancel_reject_kind → c.output.first.told.fixedtext ≡ text_too_many → ⊥

-- ---- NOBODY NOTICES: an event taken of the part and of the book gets the same answer, and leaves the part of the book that it leaves

-- what does not pass is in b' as it was in b
pub record Fixed (p : ℕ → Bool) (b b' : Book) : Type 0 where
  pub orders : (i : ℕ) → p i ≡ false → order_in b' i ≡ order_in b i
  pub requests : (j : ℕ) → j < length b'.requests → of_passing p b' j ≡ false → (j < length b.requests) × (request_in b' j ≡ request_in b j)
  -- and nothing of it is lost
  pub there : (j : ℕ) → j < length b.requests → of_passing p b j ≡ false → (j < length b'.requests) × (request_in b' j ≡ request_in b j)

pub record Unnoticed (p : ℕ → Bool) (b : Book) (e : Event) : Type 0 where
  pub refusal : (step_of (part p b) e).refusal ≡ (step_of b e).refusal
  pub output : (step_of (part p b) e).output ≡ (step_of b e).output
  pub left : book_after (part p b) e ≡ part p (book_after b e)
  -- and so it goes on
  pub parted : Parted p (book_after b e)
  pub fixed : Fixed p b (book_after b e)

abbrev pub UnnoticedEvent : Type 0
UnnoticedEvent = (p : ℕ → Bool) (b : Book) (e : Event) → Parted p b → NamesPassing p b e → Ranged e
    → ((step_of b e).refusal ≡ 7 → ⊥) → NotMany (step_of b e) → Unnoticed p b e
