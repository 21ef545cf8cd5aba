-- What is to be distinct: the ClOrdIDs of the requests, each with its client, if `keyed`; else the names of the orders. Rests on Here, Places and Spread.
use Rattle.std.specs.Prelude.{◌≡◌, ℕ, ◌+◌, ◌<◌, ◌≤◌, Bool, true, false, not, ◌&&◌, List, length, ◌==◌, ◌≢◌, nat_lt, refl}
use Rattle.std.proofs.Common.{sym, ap, ◌∙◌, ap₂, arith, eqb-true, ltb-true, lt-ltb}
use Rattle.std.proofs.lemmas.Bool.{and_parts, and_from}
use Rattle.prelude.specs.Below.{all_below}
use Rattle.prelude.specs.Laws.Below.{all_intro, all_elim, all_both}
use Rattle.prelude.specs.Cases.{if◌then◌otherwise◌}
use Rattle.prelude.specs.Laws.Span.{length_span}
use Rattle.prelude.specs.Texts.{text_at, same_text}
use Rattle.prelude.specs.Laws.Texts.{same_text_lem}
use Rattle.prelude.specs.declared.Text.{Text}
use Rattle.store.specs.Layout.{book_size, most_orders, most_requests, order_base, request_base, names·name, request·clordid}
use Rattle.store.specs.Book.{order_at, request_at}
use Rattle.store.specs.Laws.Fields.{names_name, request_clordid}
use Rattle.machine.specs.Orders.{is_empty}
use Rattle.rules.specs.Laws.Places.{cell}
use Rattle.rules.specs.Laws.Beside.{beside_at}
use Rattle.rules.specs.Laws.Here.{request_rule_at, pass_at, client_at, same_name_at, same_key_at, booked}
use Rattle.rules.specs.Laws.Spread.{other, fresh}

-- the record is in its table, and a request's order too
unfoldable pub placed : List ℕ → Bool → ℕ → Bool
placed b keyed i = if keyed then nat_lt i most_requests && nat_lt (request_at b i).order most_orders otherwise nat_lt i most_orders

-- the text of a thing, its position, and its client, which is 0 if the thing is an order
unfoldable pub text_in : List ℕ → Bool → ℕ → Text
text_in b keyed i = if keyed then (request_at b i).clordid otherwise (order_at b i).names.name

unfoldable pub position_of : Bool → ℕ → ℕ
position_of keyed i = if keyed then request_base i + request·clordid otherwise order_base i + names·name

unfoldable pub client_in : List ℕ → Bool → ℕ → ℕ
client_in b keyed i = if keyed then client_at b i otherwise 0

-- a request without a ClOrdID
unfoldable pub lone_at : List ℕ → Bool → ℕ → Bool
lone_at b keyed i = keyed && is_empty (request_at b i).clordid

unfoldable pub same_at : List ℕ → Bool → ℕ → ℕ → Bool
same_at b keyed i j = not (lone_at b keyed i) && client_in b keyed i == client_in b keyed j && same_text (text_in b keyed i) (text_in b keyed j)

-- thing j has this client and this text; so it is the same as thing i, if i has them and is not lone
unfoldable pub same_with : List ℕ → Bool → ℕ → Text → ℕ → Bool
same_with b keyed c t j = c == client_in b keyed j && same_text t (text_in b keyed j)

pub same_with_lem : (b : List ℕ) (keyed : Bool) (i j c : ℕ) (t : Text) → lone_at b keyed i ≡ false → c ≡ client_in b keyed i → t ≡ text_in b keyed i
    → same_with b keyed c t j ≡ same_at b keyed i j
unfolding same_with same_at
same_with_lem b keyed i j c t e f g = rw (e, f, g)

abbrev pub apart_at : List ℕ → Bool → ℕ → ℕ → Bool
apart_at b keyed i j = not (same_at b keyed i j)

unfoldable pub clear_at : List ℕ → Bool → ℕ → Bool
clear_at b keyed i = all_below (apart_at b keyed i) i

unfoldable pub cell_of : List ℕ → Bool → ℕ → ℕ
cell_of b keyed i = cell (client_in b keyed i) (text_in b keyed i)

-- ---- what `placed` says

module _ (b : List ℕ) (i : ℕ) where
  pub placed_key : placed b true i ≡ true → (i < most_requests) × ((request_at b i).order < most_orders)
  unfolding placed if◌then◌otherwise◌
  placed_key e = let s = and_parts (nat_lt i most_requests) (nat_lt (request_at b i).order most_orders) e in (ltb-true _ _ s.0, ltb-true _ _ s.1)

  placed_name : placed b false i ≡ true → i < most_orders
  unfolding placed if◌then◌otherwise◌
  placed_name e = ltb-true i most_orders e

  pub placed_most : (keyed : Bool) → placed b keyed i ≡ true → i < most_requests
  placed_most true e = (placed_key e).0
  placed_most false e = let h : i < most_orders = placed_name e in omega arith

  pub position_fits : (keyed : Bool) → placed b keyed i ≡ true → position_of keyed i + 33 ≤ book_size
  unfolding position_of if◌then◌otherwise◌
  position_fits true e = let h : i < most_requests = (placed_key e).0 in omega arith
  position_fits false e = let h : i < most_orders = placed_name e in omega arith

  pub text_in_lem : (keyed : Bool) → text_in b keyed i ≡ text_at b (position_of keyed i)
  unfolding text_in position_of if◌then◌otherwise◌
  text_in_lem true = request_clordid b i
  text_in_lem false = names_name b i

-- the orders in use are placed, and so are requests that keep their rules
module _ (b : List ℕ) (n : ℕ) (few : n ≤ most_orders) where
  pub names_placed : all_below (placed b false) n ≡ true
  unfolding placed if◌then◌otherwise◌
  names_placed = all_intro (placed b false) n (λ i h. lt-ltb i most_orders (omega arith))

  pub keys_placed : (m : ℕ) → m ≤ most_requests → all_below (pass_at b n) m ≡ true → all_below (placed b true) m ≡ true
  unfolding placed if◌then◌otherwise◌
  keys_placed m h e =
      all_intro (placed b true) m
      (λ j k. let u : (request_at b j).order < n = booked b n m (and_parts _ _ (sym (all_both (request_rule_at b n) (beside_at b) m) ∙ e)).0 j k in and_from _ _ (lt-ltb j most_requests (omega arith)) (lt-ltb (request_at b j).order most_orders (omega arith)))

-- a key is one of the rules' keys, and a name a name
pub same_keyed : (b : List ℕ) (i j : ℕ) → same_key_at b i j ≡ same_at b true i j
unfolding same_key_at same_at lone_at client_in text_in if◌then◌otherwise◌
same_keyed b i j = refl

pub same_named : (b : List ℕ) (i j : ℕ) → same_name_at b i j ≡ same_at b false i j
unfolding same_name_at same_at lone_at client_in text_in if◌then◌otherwise◌
same_named b i j = refl

-- ---- the same things have the same cell

module _ (b : List ℕ) (l : length b ≡ book_size) where
  length_in_lem : (keyed : Bool) (i : ℕ) → placed b keyed i ≡ true → length (text_in b keyed i).bytes ≡ 32
  length_in_lem keyed i e = ap (λ (t : Text). length t.bytes) (text_in_lem b i keyed) ∙ length_span b (position_of keyed i) 32 (omega (arith, position_fits b i keyed e))

  same_cell : (keyed : Bool) (i j : ℕ) → placed b keyed i ≡ true → placed b keyed j ≡ true → same_at b keyed i j ≡ true → cell_of b keyed i ≡ cell_of b keyed j
  unfolding same_at cell_of
  same_cell keyed i j p q e =
      let s = and_parts (not (lone_at b keyed i) && client_in b keyed i == client_in b keyed j) (same_text (text_in b keyed i) (text_in b keyed j)) e in
      let c = and_parts (not (lone_at b keyed i)) (client_in b keyed i == client_in b keyed j) s.0 in
      ap₂ cell (eqb-true _ _ c.1) (same_text_lem (text_in b keyed i) (text_in b keyed j) (length_in_lem keyed i p) (length_in_lem keyed j q) s.1)

  module _ (keyed : Bool) (i : ℕ) (here : all_below (placed b keyed) (i + 1) ≡ true) where
    pub placed_at : (j : ℕ) → j ≤ i → placed b keyed j ≡ true
    placed_at j h = all_elim (placed b keyed) (i + 1) here j (omega arith)

    -- other cells, other things
    pub other_cell : (j : ℕ) → j < i → (cell_of b keyed i ≢ cell_of b keyed j) → same_at b keyed i j ≡ false
    other_cell j h d = other (cell_of b keyed) i j (same_at b keyed i j) (same_cell keyed i j (placed_at i (omega arith)) (placed_at j (omega arith))) d

    -- a thing in a cell of its own is clear
    pub clear_fresh : ((j : ℕ) → j < i → cell_of b keyed j ≢ cell_of b keyed i) → clear_at b keyed i ≡ true
    unfolding clear_at
    clear_fresh d = fresh (cell_of b keyed) (same_at b keyed i) i (λ j h e. same_cell keyed i j (placed_at i (omega arith)) (placed_at j (omega arith)) e) d

-- a request without a ClOrdID is the same as no other
pub clear_lone : (b : List ℕ) (keyed : Bool) (i : ℕ) → lone_at b keyed i ≡ true → clear_at b keyed i ≡ true
unfolding clear_at same_at
clear_lone b keyed i e = all_intro (apart_at b keyed i) i (λ j h. rw e)
