-- The number of each refusal, as docs/SCOPE.md has them: what the C functions return.
use Rattle.std.specs.Prelude.{ℕ}
use Rattle.prelude.specs.declared.Refusal.{Refusal}
use Rattle.prelude.specs.declared.Refusal.TheVariants.{BadBook, ShortAnswer, BadRecord, OutOfRange, InUse, WrongPrice, FullBook, ShortPage, BadText, NoRoom, ShortNet, ShortList, BadName, NoMark, NoPlace, BadArchive, InArchive, FullArchive}

abbrev pub number_of : Refusal → ℕ
number_of BadBook = 1
number_of ShortAnswer = 2
number_of BadRecord = 3
number_of OutOfRange = 4
number_of InUse = 5
number_of WrongPrice = 6
number_of FullBook = 7
number_of ShortPage = 8
number_of BadText = 9
number_of NoRoom = 10
number_of ShortNet = 11
number_of ShortList = 12
number_of BadName = 13
number_of NoMark = 14
number_of NoPlace = 15
number_of BadArchive = 16
number_of InArchive = 17
number_of FullArchive = 18
