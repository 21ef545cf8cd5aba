-- Event 1 with what the book knows as numbers: the place and the link that the order and its request get. Rests on machine's Amend.
use Rattle.std.specs.Prelude.{ℕ, ◌-◌, Bool, not}
use Rattle.prelude.specs.Cases.{if◌then◌otherwise◌}
use Rattle.prelude.specs.Refusal.{number_of}
use Rattle.prelude.specs.declared.Refusal.TheVariants.{InUse, WrongPrice}
use Rattle.machine.specs.Changes.{Event, unchanged, refusing, adding}
use Rattle.machine.specs.Amend.{priced_right}
use Rattle.machine.specs.Machine.{booked_order, first_request}
use Rattle.machine.specs.declared.Change.{Change}

unfoldable pub book_at : (place link : ℕ) (fresh : Bool) → Event → Change
book_at place link fresh e =
    if not fresh then refusing (number_of InUse)
    otherwise if not (priced_right e.terms.ordtype e) then refusing (number_of WrongPrice)
    otherwise adding (first_request (place - 1) e) (unchanged place (booked_order link e))
