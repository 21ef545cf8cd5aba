-- A number beside a refusal: what a call returns to a host. Rests on Refusal.
use Rattle.std.specs.Prelude.{ℕ, Result, Ok, Err, ⊤}
use Rattle.prelude.specs.declared.Refusal.{Refusal}
use Rattle.prelude.specs.Refusal.{number_of}
use Rattle.prelude.specs.declared.Counted.{Counted}

abbrev pub refusing : ℕ → Counted
refusing refusal = record { refusal = refusal; number = 0 }

abbrev pub counting : ℕ → Counted
counting number = record { refusal = 0; number = number }

-- what a call's answer is to a host
abbrev pub counted_of : Result ℕ Refusal → Counted
counted_of (Ok number) = counting number
counted_of (Err refusal) = refusing (number_of refusal)

-- that of a call that answers with nothing else
abbrev pub refusal_of : Result ⊤ Refusal → ℕ
refusal_of (Ok done) = 0
refusal_of (Err refusal) = number_of refusal
