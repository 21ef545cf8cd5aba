-- Where the price of a report came from (change request 2): of every message of every event, on every book. Rests on History and Report.
-- The proofs are in proofs/Venue.
use Rattle.std.specs.Prelude.{ℕ, ◌≡◌, true, not, eqb, Some}
use Rattle.prelude.specs.Totals.{Every}
use Rattle.store.specs.Book.{Book, order_in, request_in}
use Rattle.store.specs.Finds.{find_downstream}
use Rattle.machine.specs.Constants.{report_kind}
use Rattle.machine.specs.Messages.{no_price}
use Rattle.machine.specs.Changes.{Event, Message}
use Rattle.machine.specs.Report.{fill_price_of}
use Rattle.machine.specs.Machine.{step_of}
use Rattle.machine.specs.History.{messages_of}

-- a report to a client has source 0 exactly if the event is no venue's report; with it there is no price
pub record Sourced (b : Book) (e : Event) (m : Message) : Type 0 where
  pub source : eqb m.told.source 0 ≡ not (eqb e.kind 4)
  pub unpriced : m.told.source ≡ 0 → m.told.fillprice ≡ no_price.price
  -- price and source of any other are `fill_price`'s, of the order as it was
  pub priced : eqb e.kind 4 ≡ true → (k : ℕ) → find_downstream b e.ids.downstream ≡ Some k
      → let p = fill_price_of (order_in b (request_in b k).order) e in (m.told.source ≡ p.source) × (m.told.fillprice ≡ p.price)

abbrev pub SourcesRight : Type 0
SourcesRight = (b : Book) (e : Event) → Every (λ m. m.kind ≡ report_kind → Sourced b e m) (messages_of (step_of b e))
