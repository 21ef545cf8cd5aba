-- A refusal has a number above 0, so that what a reading refused has no number 0. Rests on prelude's Refusal.
use Rattle.std.specs.Prelude.{ℕ, ◌≤◌, ◌≡◌}
use Rattle.std.proofs.Common.{arith}
use Rattle.prelude.specs.declared.Refusal.{Refusal}
use Rattle.prelude.specs.declared.Refusal.TheVariants.{BadBook, ShortAnswer, BadRecord, OutOfRange, InUse, WrongPrice, FullBook, ShortPage, BadText, NoRoom, ShortNet, ShortList, BadName, NoMark, NoPlace, BadArchive, InArchive, FullArchive}
use Rattle.prelude.specs.Refusal.{number_of}

pub number_some : (r : Refusal) → 1 ≤ number_of r
number_some BadBook = omega arith
number_some ShortAnswer = omega arith
number_some BadRecord = omega arith
number_some OutOfRange = omega arith
number_some InUse = omega arith
number_some WrongPrice = omega arith
number_some FullBook = omega arith
number_some ShortPage = omega arith
number_some BadText = omega arith
number_some NoRoom = omega arith
number_some ShortNet = omega arith
number_some ShortList = omega arith
number_some BadName = omega arith
number_some NoMark = omega arith
number_some NoPlace = omega arith
number_some BadArchive = omega arith
number_some InArchive = omega arith
number_some FullArchive = omega arith

pub number_not : (r : Refusal) (n : ℕ) → number_of r ≡ n → n ≡ 0 → ⊥
number_not r n e z = absurd (omega (arith, number_some r, e, z))
