-- The tries of gateway cancels since an image: what holds of a book's requests, and of each order by its name, since orders may go from the book, and so change their
-- places: `gone` is the test whether an order of that name went. Rests on Tries and Names.
use Rattle.std.proofs.Common.{ℕ, ◌+◌, ◌≤◌, ◌<◌, arith, ◌≡◌, refl, ap, ◌∙◌, ◌⊎◌, Bool, true, false, ◌&&◌, ◌||◌, Option, None, Some, List, [], ◌∷◌, ◌++◌, append-nil, append_assoc, eqb, length}
use Rattle.std.proofs.lemmas.Bool.{or_left}
use Rattle.prelude.specs.Cases.{if◌then◌otherwise◌, maybe}
use Rattle.prelude.specs.Laws.Cases.{clash, maybe_some, if_true, if_false}
use Rattle.prelude.specs.Texts.{same_text}
use Rattle.prelude.specs.Laws.Texts.{same_back, same_trans}
use Rattle.prelude.specs.Totals.{how_many}
use Rattle.prelude.specs.declared.Text.{Text}
use Rattle.store.specs.Book.{Book, order_in, request_in}
use Rattle.store.specs.Finds.{bears_name, find_name, find_downstream}
use Rattle.machine.specs.Orders.{has_gateway}
use Rattle.machine.specs.Changes.{is_cancel, is_answered}
use Rattle.machine.specs.Claim.{holds, starts, asks, begins, is_for, failed, put_out_by}
use Rattle.machine.specs.History.{Decoded, unread, read_as, Entry}
use Rattle.machine.specs.Ranges.{name_range}
use Rattle.machine.specs.Rules.{name_number, number_in}
use Rattle.machine.specs.Since.{known, new_out, begun_since, base_tries, base_out, held_out, held_tries}
use Rattle.machine.proofs.Kept.Indexed.{BookKept}
use Rattle.machine.proofs.Kept.Consequences.{downstream_at, name_at}
use Rattle.machine.proofs.Claim.Fresh.{number_small}
use Rattle.machine.proofs.Claim.OneOrder.{same_names}
use Rattle.machine.proofs.Claim.Walk.{found_request, found_order, found_text}
use Rattle.machine.proofs.Claim.Filled.{Persists, persists_same}
use Rattle.machine.proofs.Claim.Tries.{asks_at, begins_at, Distinct, Own}
use Rattle.machine.proofs.Claim.Rounds.{Placed, Apart, Few}
use Rattle.machine.proofs.Numbered.{NumberedLaws}
use Rattle.machine.proofs.Claim.Names.{bears_at, absent_at}

-- ---- what holds

-- the gateway's cancel requests of that name that count: the new ones, and the image's
abbrev pub out : Book → Text → List Entry → List Text
out image name past = new_out image name past ++ base_out image name past

-- a downstream ClOrdID of an order that went: its name with a number
pub record OfGone (gone : Text → Bool) (d : Text) : Type 0 where
  pub name : Text
  pub is : gone name ≡ true
  pub range : name_range name ≡ true
  pub number : ℕ
  pub small : number ≤ 255
  pub same : same_text d (name_number name number) ≡ true

pub record Sent (gone : Text → Bool) (image b : Book) (past : List Entry) : Type 0 where
  -- what is held or was sent has its record, or is of an order that went; a cancel's record is held or was sent
  pub sent_has : (d : Text) → known image d past ≡ true → ((k : ℕ) × (find_downstream b d ≡ Some k)) ⊎ OfGone gone d
  pub cancel_sent : (d : Text) (k : ℕ) → find_downstream b d ≡ Some k → is_cancel (request_in b k) ≡ true → known image d past ≡ true
  -- a failed send's record is answered, or went
  pub fail_answered : (d : Text) → failed past d ≡ true → ((k : ℕ) × (find_downstream b d ≡ Some k) × (is_answered (request_in b k) ≡ true)) ⊎ OfGone gone d

-- of the order at index j, which has that name
pub record Counts (image b : Book) (past : List Entry) (name : Text) (j : ℕ) : Type 0 where
  -- what counts is the gateway's, and each once
  pub own : (d : Text) → holds d (out image name past) ≡ true → Own j b d
  pub one : Distinct (out image name past)
  -- a gateway request that is not answered counts
  pub unanswered : has_gateway (order_in b j) ≡ true → (d : Text) (w : Own j b d) → is_answered (request_in b w.at) ≡ false → holds d (out image name past) ≡ true
  pub tries : has_gateway (order_in b j) ≡ true
      → (order_in b j).gateway.tries + how_many (failed past) (out image name past) ≡ length (new_out image name past) + base_tries image name past

pub record TriesIn (gone : Text → Bool) (image b : Book) (past : List Entry) : Type 0 where
  pub sent : Sent gone image b past
  pub orders : (j : ℕ) → j < length b.orders → Counts image b past (order_in b j).names.name j
  pub absent : (name : Text) → find_name b name ≡ None → gone name ≡ false → out image name past ≡ []
  pub few : Few b

-- ---- names and numbers

-- a request of the book is of no order that went
pub not_of_gone : NumberedLaws → (gone : Text → Bool) (b : Book) → BookKept b → ((name : Text) → gone name ≡ true → find_name b name ≡ None)
    → (d : Text) (k : ℕ) → find_downstream b d ≡ Some k → OfGone gone d → ⊥
not_of_gone laws gone b good free d k w g =
    let l : k < length b.requests = found_request b d k w in
    let i : ℕ = (request_in b k).order in
    let li : i < length b.orders = (good.request k l).order in
    clash _
    (same_names laws (order_in b i).names.name g.name (number_in b.requests k) g.number (name_at b good i li) g.range (omega (arith, number_small b k, good.requests)) g.small
    (same_trans _ (request_in b k).downstream _ (same_back _ _ (downstream_at b good k l)) (same_trans _ d _ (found_text b d k w) g.same)))
    (absent_at b g.name (free g.name g.is) i li)

-- ---- the words of the claim, for the order at an index

module _ (b : Book) (apart : Apart b) (j : ℕ) (h : j < length b.orders) where
  pub for_at : Placed b → (d : Text) (k : ℕ) → find_downstream b d ≡ Some k → is_for (order_in b j).names.name b d ≡ eqb (request_in b k).order j
  for_at placed d k w =
      maybe_some (find_downstream b d) k false (λ i. bears_name (order_in b j).names.name (order_in b (request_in b i).order)) w
      ∙ bears_at b apart j h b (persists_same b) (request_in b k).order (placed k (found_request b d k w))

  asks_same : (c : Book) → Persists c b → (i : Decoded) → asks (order_in b j).names.name c i ≡ asks_at j c i
  unfolding maybe
  asks_same c p (unread n) = refl
  asks_same c p (read_as e) = ap (λ (x : Bool). eqb e.kind 9 && x) (go (find_name c e.ids.name) refl)
    where
      go : (x : Option ℕ) → find_name c e.ids.name ≡ x
          → maybe false (λ i. bears_name (order_in b j).names.name (order_in c i) && starts c i) x ≡ maybe false (λ i. eqb i j && starts c i) x
      go None w = refl
      go (Some i) w = ap (λ (y : Bool). y && starts c i) (bears_at b apart j h c p i (found_order c e.ids.name i w))

  pub begins_same : (e : Entry) → Persists e.before b → begins (order_in b j).names.name e ≡ begins_at j e
  unfolding begins_at
  begins_same e p = ap (λ (x : Bool). eqb e.refusal 0 && x) (asks_same e.before p e.input)

-- ---- one line more

module _ (image : Book) (name : Text) (e : Entry) (past : List Entry) where
  abbrev pub put : List Text
  put = put_out_by (known image) name e past

  -- if it begins anew, nothing else counts
  pub begun_new : begins name e ≡ true → new_out image name (e ∷ past) ≡ put ++ []
  begun_new b = ap (λ (x : Bool). put ++ (if x then [] otherwise new_out image name past)) b ∙ ap (λ (l : List Text). put ++ l) (if_true _ _ _ refl)

  pub begun_base : begins name e ≡ true → base_out image name (e ∷ past) ≡ []
  begun_base b = if_true _ [] (held_out image name) (or_left _ (begun_since name past) b)

  pub begun_out : begins name e ≡ true → out image name (e ∷ past) ≡ put ++ []
  begun_out b = (λ i. begun_new b i ++ begun_base b i) ∙ append-nil (put ++ [])

  pub begun_tries : begins name e ≡ true → base_tries image name (e ∷ past) ≡ 0
  begun_tries b = if_true _ 0 (held_tries image name) (or_left _ (begun_since name past) b)

  -- if not, all that counted
  pub goes_new : begins name e ≡ false → new_out image name (e ∷ past) ≡ put ++ new_out image name past
  goes_new b = ap (λ (x : Bool). put ++ (if x then [] otherwise new_out image name past)) b ∙ ap (λ (l : List Text). put ++ l) (if_false _ _ _ refl)

  pub goes_base : begins name e ≡ false → base_out image name (e ∷ past) ≡ base_out image name past
  goes_base b = ap (λ (x : Bool). if x || begun_since name past then [] otherwise held_out image name) b

  pub goes_out : begins name e ≡ false → out image name (e ∷ past) ≡ put ++ out image name past
  goes_out b = (λ i. goes_new b i ++ goes_base b i) ∙ append_assoc put (new_out image name past) (base_out image name past)

  pub goes_tries : begins name e ≡ false → base_tries image name (e ∷ past) ≡ base_tries image name past
  goes_tries b = ap (λ (x : Bool). if x || begun_since name past then 0 otherwise held_tries image name) b
