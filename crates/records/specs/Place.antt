-- Where message n of an answer stands: behind the head the first, each other behind the one before it. Rests on Answer.
use Rattle.std.specs.Prelude.{ℕ, zero, suc, ◌-◌, List, eqb, ltb}
use Rattle.prelude.specs.Cases.{if◌then◌otherwise◌}
use Rattle.format.specs.Places.{end_of}
use Rattle.records.specs.Answer.{head_size, count_in, answer_in, answer_refusal}
use Rattle.records.specs.declared.cut.Place.{Place}

-- where message n starts, of messages one behind the other from o on
unfoldable pub start_from : List ℕ → ℕ → ℕ → ℕ
start_from s o zero = o
start_from s o (suc n) = start_from s (end_of s o) n

abbrev pub nowhere : ℕ → Place
nowhere refusal = record { refusal = refusal; at = 0; length = 0 }

abbrev pub stands : ℕ → ℕ → Place
stands from to = record { refusal = 0; at = from; length = to - from }

-- 3 or 4 as the answer is read; no place, of length 0, past the count; else from where message n starts to where the next would
unfoldable pub place_of : List ℕ → ℕ → Place
place_of s n =
    if eqb (answer_refusal s) 0 then
    (if ltb n (count_in s) then stands (start_from (answer_in s) head_size n) (start_from (answer_in s) head_size (suc n)) otherwise nowhere 0) otherwise
    nowhere (answer_refusal s)
