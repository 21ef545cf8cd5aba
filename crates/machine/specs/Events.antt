-- What the reader says of every event that it accepts: each field is in its range (docs/SCOPE.md, Records), and an absent field is zero or empty.
-- Rests on Ranges and Rules (`force_range`).
use Rattle.std.specs.Prelude.{◌≡◌, ◌⊎◌, true, false, eqb}
use Rattle.machine.specs.Changes.{Event, has}
use Rattle.format.specs.Codes.{is_side, is_ordtype, is_status, is_qty, is_price}
use Rattle.machine.specs.Ranges.{text_within, name_range}
use Rattle.machine.specs.Rules.{force_range}

-- the fields that a booking must have
pub record Booking (e : Event) : Type 0 where
  pub name : name_range e.ids.name ≡ true
  pub clordid : text_within 1 32 e.ids.clordid ≡ true
  pub symbol : text_within 1 16 e.ids.symbol ≡ true
  pub side : is_side e.terms.side ≡ true
  pub ordtype : is_ordtype e.terms.ordtype ≡ true

-- the fields that a client's cancel and replace must have
pub record Amendment (e : Event) : Type 0 where
  pub clordid : text_within 1 32 e.ids.clordid ≡ true
  pub origclordid : text_within 1 32 e.ids.origclordid ≡ true

-- the fields that the event's kind requires, and those that may be absent in any kind
pub record Ranged (e : Event) : Type 0 where
  pub booking : e.kind ≡ 1 → Booking e
  pub amendment : (e.kind ≡ 2) ⊎ (e.kind ≡ 3) → Amendment e
  pub ordtype : eqb e.terms.ordtype 0 ≡ false → is_ordtype e.terms.ordtype ≡ true
  pub timeinforce : force_range e.terms.timeinforce ≡ true
  pub qty : is_qty e.terms.qty ≡ true
  pub price : is_price e.terms.price ≡ true
  pub unpriced : has e 10 ≡ false → e.terms.price ≡ 0
  pub status : eqb e.exec.status 0 ≡ false → is_status e.exec.status ≡ true
  pub avgpx : is_price e.exec.avgpx ≡ true
  pub venueorderid : text_within 0 32 e.ids.venueorderid ≡ true
