-- A Filled order is filled whole: after start and any list of calls its cumulative is what is ordered. Rests on Claim, Amend and Report.
-- This is no rule of the book: a book from before may hold a short Filled order, which keeps the rules and stays done. The proofs are in proofs/.
use Rattle.std.specs.Prelude.{ℕ, ◌≡◌, Bool, false, List}
use Rattle.format.specs.Codes.{filled}
use Rattle.store.specs.declared.Order.{Order}
use Rattle.store.specs.declared.Request.{Request}
use Rattle.store.specs.Book.{Book, order_in}
use Rattle.machine.specs.Orders.{is_short, short_alarm}
use Rattle.machine.specs.Changes.{Event}
use Rattle.machine.specs.Amend.{refused_order}
use Rattle.machine.specs.Report.{ordered_qty, reported_order}
use Rattle.machine.specs.Machine.{book_after}
use Rattle.machine.specs.History.{Decoded, start, run, Kinds}
use Rattle.machine.specs.Claim.{Each}
use Rattle.machine.specs.declared.Refused.{Refused}

-- the order is Filled, and below its quantity
abbrev pub short : Order → Bool
short o = is_short o.terms.qty o.state.cumqty o.state.status

abbrev pub NoneShort : Book → Type 0
NoneShort b = (i : ℕ) → short (order_in b i) ≡ false

-- no event makes a short order, on any book, whether it keeps the rules or not
abbrev pub NoneMade : Type 0
NoneMade = (b : Book) (e : Event) → NoneShort b → NoneShort (book_after b e)

abbrev pub IsWhole : Order → Type 0
IsWhole o = o.state.status ≡ filled → o.state.cumqty ≡ o.terms.qty

abbrev pub FilledWhole : Type 1
FilledWhole = (In : Type 0) (read : In → Decoded) → Kinds read → (setting : ℕ) (is : List In) → Each (run read (start setting) is) IsWhole

-- the alarm is judged by the same numbers as the status: those of the order as it is left by the report, or by the refusal
pub record JudgedAsLeft : Type 0 where
  pub report : (accepted : Bool) (s : ℕ) (q : Request) (o : Order) (e : Event)
      → let o' = reported_order accepted s q o e in short_alarm (ordered_qty accepted o) e.exec.cumqty s ≡ short_alarm o'.terms.qty o'.state.cumqty s
  pub refusal : (k : ℕ) (r : Refused) (o : Order)
      → let o' = refused_order k r o in short_alarm o.terms.qty o.state.cumqty r.status ≡ short_alarm o'.terms.qty o'.state.cumqty r.status
