-- Demand 3 from any book that keeps its rules, the image: what holds after every list of calls since it. Rests on Claim.
-- Demand 3 from the empty book is a case. What stands in quotes is the desk's wording of change request 10. The image is the first argument throughout.
use Rattle.std.specs.Prelude.{ℕ, ◌+◌, ◌≤◌, ◌≡◌, Bool, true, false, not, ◌&&◌, ◌||◌, List, [], ◌∷◌, eqb, length, Some}
use Rattle.std.specs.List.{list_any}
use Rattle.prelude.specs.Cases.{if◌then◌otherwise◌, maybe}
use Rattle.prelude.specs.Texts.{same_text}
use Rattle.prelude.specs.Totals.{total_of, how_many, Every}
use Rattle.prelude.specs.declared.Text.{Text}
use Rattle.store.specs.declared.Order.{Order}
use Rattle.store.specs.declared.Request.{Request}
use Rattle.store.specs.Book.{Book, order_in}
use Rattle.store.specs.Finds.{bears_name, find_name, find_downstream}
use Rattle.format.specs.Codes.{buy}
use Rattle.machine.specs.Constants.{report_kind, most_tries}
use Rattle.machine.specs.Orders.{is_done, has_gateway}
use Rattle.machine.specs.Changes.{Message, is_gateway}
use Rattle.machine.specs.Rules.{rules}
use Rattle.machine.specs.History.{Decoded, Entry, State, start_from, run, Kinds}
use Rattle.machine.specs.Claim.{last_qty_of, status_of, begins, sent, put_out_of, failed, Each}

-- ---- what the image holds

abbrev pub held_qty : Book → Text → ℕ
held_qty image name = maybe 0 (λ i. (order_in image i).state.cumqty) (find_name image name)

abbrev pub held_tries : Book → Text → ℕ
held_tries image name = maybe 0 (λ i. (order_in image i).gateway.tries) (find_name image name)

-- "a request in the mark's image"
abbrev pub is_held : Book → Text → Bool
is_held image d = maybe false (λ k. true) (find_downstream image d)

-- the downstream ClOrdIDs of the requests that pass the test
unfoldable pub downstreams : (Request → Bool) → List Request → List Text
downstreams p [] = []
downstreams p (q ∷ qs) = if p q then q.downstream ∷ downstreams p qs otherwise downstreams p qs

-- the gateway's cancel requests for the order of that name
abbrev pub held_out : Book → Text → List Text
held_out image name = downstreams (λ q. is_gateway q && bears_name name (order_in image q.order)) image.requests

-- ---- the gateway's cancel requests put out since: as in Claim, and "a request in the mark's image that is sent again is not new"

abbrev pub known : Book → Text → List Entry → Bool
known image d earlier = is_held image d || sent d earlier

abbrev pub new_out : Book → Text → List Entry → List Text
new_out image name past = put_out_of (known image) name past

-- what still counts of the image: "until the gateway cancel begins again"
abbrev pub begun_since : Text → List Entry → Bool
begun_since name = list_any (begins name)

abbrev pub base_tries : Book → Text → List Entry → ℕ
base_tries image name past = if begun_since name past then 0 otherwise held_tries image name

abbrev pub base_out : Book → Text → List Entry → List Text
base_out image name past = if begun_since name past then [] otherwise held_out image name

-- ---- the claim: s is the book that is left, and the history since the image

pub record Demand3From (image : Book) (s : State) : Type 0 where
  -- the LastQty of an order's reports since, and the cumulative quantity that the image held, are its cumulative quantity
  pub filled : Each s (λ o. last_qty_of o.client o.names.name s.past + held_qty image o.names.name ≡ o.state.cumqty)
  pub ordered : Each s (λ o. o.state.cumqty ≤ o.terms.qty)
  -- a done status that an order had in the image, or after some call since, it has still
  pub held : (name : Text) (st : ℕ) → status_of name image ≡ Some st → is_done st ≡ true → status_of name s.book ≡ Some st
  pub done : Every (λ e. (name : Text) (st : ℕ) → status_of name e.left ≡ Some st → is_done st ≡ true → status_of name s.book ≡ Some st) s.past
  -- the tries are the image's and the new requests, less those of both whose send failed since
  pub tries : Each s (λ o. has_gateway o ≡ true
      → o.gateway.tries + (how_many (failed s.past) (new_out image o.names.name s.past) + how_many (failed s.past) (base_out image o.names.name s.past))
      ≡ length (new_out image o.names.name s.past) + base_tries image o.names.name s.past)
  pub few : Each s (λ o. has_gateway o ≡ true → o.gateway.tries ≤ most_tries)

abbrev pub DemandFrom : Type 1
DemandFrom = (In : Type 0) (read : In → Decoded) → Kinds read → (image : Book) → rules image ≡ true → (is : List In) → Demand3From image (run read (start_from image) is)

-- ---- the net position: bought and sold apart, so that no number is signed

abbrev pub on_side : (bought : Bool) (side : ℕ) → Bool
on_side bought side = if bought then eqb side buy otherwise not (eqb side buy)

-- what is filled of an order, if it is that client's in that symbol on that side
abbrev pub filled_on : (bought : Bool) (client : ℕ) (symbol : Text) → Order → ℕ
filled_on bought client symbol o = if eqb o.client client && (same_text o.names.symbol symbol && on_side bought o.terms.side) then o.state.cumqty otherwise 0

-- the LastQty of a report, by the message's own client, symbol and side
abbrev pub last_qty_on : (bought : Bool) (client : ℕ) (symbol : Text) → Message → ℕ
last_qty_on bought client symbol m =
    if eqb m.kind report_kind && (eqb m.client client && (same_text m.ids.symbol symbol && on_side bought m.terms.side)) then m.exec.lastqty otherwise 0

-- what the image held and what was told since are what the book holds, whatever the image: a book that breaks its rules stays as it is
abbrev pub Net : Book → State → Type 0
Net image s = (bought : Bool) (client : ℕ) (symbol : Text)
    → total_of (filled_on bought client symbol) image.orders + total_of (λ e. total_of (last_qty_on bought client symbol) e.messages) s.past
    ≡ total_of (filled_on bought client symbol) s.book.orders

abbrev pub NetFrom : Type 1
NetFrom = (In : Type 0) (read : In → Decoded) (image : Book) (is : List In) → Net image (run read (start_from image) is)
