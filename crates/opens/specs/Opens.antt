-- THE CALL that gives a client's open quantity (change request 4): machine's `open_of` of the book that the bytes are. Rests on rules' Keeps and on machine.
use Rattle.std.specs.Prelude.{ℕ, List, Result, Ok, Err}
use Rattle.prelude.specs.Cases.{if◌then◌otherwise◌}
use Rattle.prelude.specs.declared.Refusal.{Refusal}
use Rattle.prelude.specs.Refusal.{number_of}
use Rattle.store.specs.Book.{book_of}
use Rattle.machine.specs.Exchange.{open_of}
use Rattle.rules.specs.Keeps.{keeps_of}
use Rattle.opens.specs.declared.Opened.{Opened}

abbrev pub opened : (refusal quantity : ℕ) → Opened
opened refusal quantity = record { refusal = refusal; quantity = quantity }

-- what a call's answer is to a host
abbrev pub opened_of : Result ℕ Refusal → Opened
opened_of (Ok quantity) = opened 0 quantity
opened_of (Err refusal) = opened (number_of refusal) 0

-- the client's open quantity, 0 for a client without orders; 1 if the book does not keep its rules
unfoldable pub open_call : List ℕ → (client : ℕ) → Opened
open_call b client = if keeps_of b then opened 0 (open_of (book_of b) client) otherwise opened 1 0
