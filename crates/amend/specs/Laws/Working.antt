-- An order that is set as New above a cumulative of 0 is set as PartiallyFilled. Rests on machine's Orders.
use Rattle.std.specs.Prelude.{◌≡◌, refl, ltb}
use Rattle.prelude.specs.Cases.{if◌then◌otherwise◌}
use Rattle.prelude.specs.Laws.Cases.{split_if}
use Rattle.format.specs.Codes.{new, partially_filled}
use Rattle.store.specs.declared.Order.{Order}
use Rattle.machine.specs.Orders.{set_status, status_at, unless_short, is_short}

pub set_new : (o : Order) → set_status new o ≡ set_status (if ltb 0 o.state.cumqty then partially_filled otherwise new) o
unfolding set_status status_at unless_short is_short if◌then◌otherwise◌
set_new o = split_if (λ s. set_status new o ≡ set_status s o) (ltb 0 o.state.cumqty) (λ t. rw t refl) (λ t. refl)
