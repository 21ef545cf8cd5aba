-- The records of a list of bytes are bytes. Rests on Events.
use Rattle.std.specs.Prelude.{ℕ, zero, suc, ◌+◌, List, length, drop}
use Rattle.prelude.specs.Number.{Bytes, word16}
use Rattle.prelude.specs.Totals.{Every, every[], every∷}
use Rattle.prelude.specs.Laws.Bytes.{bytes_span, bytes_drop}
use Rattle.prelude.specs.Laws.Cases.{split_if}
use Rattle.events.specs.Events.{has_whole, records_from, records_in}

from_bytes : (n : ℕ) (rs : List ℕ) → Bytes rs → Every Bytes (records_from n rs)
from_bytes zero rs h = every[]
from_bytes (suc n) rs h =
    split_if (Every Bytes) (has_whole rs)
    (λ t. every∷ (bytes_span rs 2 (word16 rs 0) h) (from_bytes n (drop (2 + word16 rs 0) rs) (bytes_drop rs (2 + word16 rs 0) h)))
    (λ t. every[])

pub records_bytes : (rs : List ℕ) → Bytes rs → Every Bytes (records_in rs)
unfolding records_in
records_bytes rs h = from_bytes (length rs) rs h
