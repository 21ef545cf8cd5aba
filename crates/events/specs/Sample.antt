-- Small cases of records and of what is said, by value. Rests on Events. What they shut out: a record of length 0 skipped, or taken for the end; a length read the
-- other way round; a record that is cut taken; bytes behind an answer said; an alarm lost.
use Rattle.std.specs.Prelude.{◌≡◌, refl, true, false, [], ◌∷◌}
use Rattle.prelude.specs.Cases.{if◌then◌otherwise◌}
use Rattle.prelude.specs.Span.{span}
use Rattle.step.specs.Entries.{returned}
use Rattle.events.specs.Events.{has_whole, records_in, said_of}

-- an empty record, one of a byte, and one that is cut; the same whole
pub sample_records :
    (records_in (0 ∷ 0 ∷ 1 ∷ 0 ∷ 7 ∷ 2 ∷ 0 ∷ 8 ∷ []) ≡ [] ∷ (7 ∷ []) ∷ [])
    × (records_in (0 ∷ 0 ∷ 1 ∷ 0 ∷ 7 ∷ 2 ∷ 0 ∷ 8 ∷ 9 ∷ []) ≡ [] ∷ (7 ∷ []) ∷ (8 ∷ 9 ∷ []) ∷ [])
unfolding records_in has_whole span if◌then◌otherwise◌
sample_records = (refl, refl)

-- 1 and 0 is a length of 1, 0 and 1 one of 256; a length of 0 is whole with its 2 bytes, and not with one of them
pub sample_whole :
    (has_whole (1 ∷ 0 ∷ 7 ∷ []) ≡ true) × (has_whole (0 ∷ 1 ∷ 7 ∷ []) ≡ false) × (has_whole (0 ∷ 0 ∷ []) ≡ true) × (has_whole (0 ∷ []) ≡ false) × (has_whole [] ≡ false)
unfolding has_whole
sample_whole = (refl, refl, refl, refl, refl)

-- an answer of 5 bytes with two alarms in a buffer of 6, and an event refused with 3
pub sample_said :
    (said_of (returned 0 [] (5 ∷ 0 ∷ 0 ∷ 6 ∷ 1 ∷ 9 ∷ [])) ≡ 0 ∷ 5 ∷ 0 ∷ 0 ∷ 6 ∷ 1 ∷ []) × (said_of (returned 3 [] (5 ∷ 0 ∷ 0 ∷ 0 ∷ 0 ∷ 9 ∷ [])) ≡ 3 ∷ [])
unfolding said_of if◌then◌otherwise◌
sample_said = (refl, refl)
