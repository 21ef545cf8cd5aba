-- The library's saturating and wrapping additions are the machine's. Rests on machine's Orders.
use Rattle.std.specs.Prelude.{ℕ, ◌≡◌, ◌≤◌, ◌<◌, ◌+◌, ◌^◌, ◌%◌, min}
use Rattle.std.proofs.Common.{arith}
use Rattle.std.proofs.lemmas.Grind.{common_steps}
use Rattle.prelude.specs.Cases.{if◌then◌otherwise◌}
use Rattle.machine.specs.Orders.{one_more, next_sequence}

pub one_more_lem : (n top : ℕ) → n ≤ top → min (n + 1) top ≡ one_more top n
unfolding one_more if◌then◌otherwise◌
one_more_lem n top h = grind (arith, common_steps)

pub next_sequence_lem : (n : ℕ) → n < 2 ^ 64 → (n + 1) % 2 ^ 64 ≡ next_sequence n
unfolding next_sequence if◌then◌otherwise◌
next_sequence_lem n h = grind (arith, common_steps)
