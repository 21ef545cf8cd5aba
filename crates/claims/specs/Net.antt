-- THE NET POSITION OVER LISTS (change request 6), on bytes: after any calls, what `net_position` says of each client and symbol is what the messages
-- said. Rests on Claims, machine's `last_qty_on` and net. The proofs are in proofs/Net. The start is a book's own net, so that a return to a mark only moves it.
use Rattle.std.specs.Prelude.{ℕ, ◌+◌, ◌^◌, ◌≤◌, ◌<◌, ◌≡◌, Bool, true, false, List, [], ◌∷◌, length}
use Rattle.prelude.specs.Totals.{total_of}
use Rattle.prelude.specs.declared.Text.{Text}
use Rattle.store.specs.Book.{book_of}
use Rattle.machine.specs.History.{Entry}
use Rattle.machine.specs.Calls.{Step, call, SinceReturn, follow, just_returned}
use Rattle.machine.specs.Since.{last_qty_on}
use Rattle.step.specs.Entries.{start_of, start_refusal}
use Rattle.net.specs.declared.Amounts.{Amounts}
use Rattle.net.specs.Net.{Signed, netted, filled_in, net_for, read_lines, least_scratch, least_lines, Written, net_call}
use Rattle.claims.specs.Claims.{Call, entries, Passes}

-- ---- what was reported

-- the LastQty of the messages 16 that our reader read, on one side, by each message's own client, symbol and side
abbrev pub reported_on : (bought : Bool) (client : ℕ) (symbol : Text) → List Entry → ℕ
reported_on bought client symbol past = total_of (λ e. total_of (last_qty_on bought client symbol) e.messages) past

abbrev pub reported : (client : ℕ) (symbol : Text) → List Entry → Amounts
reported client symbol past = record { bought = reported_on true client symbol past; sold = reported_on false client symbol past }

abbrev pub plus : Amounts → Amounts → Amounts
plus x y = record { bought = x.bought + y.bought; sold = x.sold + y.sold }

-- ---- what the call says

-- the net of a client in a symbol, read from the lines
abbrev pub said_net : Written → (client : ℕ) (symbol : Text) → Signed
said_net w client symbol = net_for client symbol (read_lines w.returned.number w.lines)

-- the call on these bytes, with any scratch and lines that are long enough, is taken and says these amounts' net of each client and symbol
abbrev pub Says : List ℕ → ((client : ℕ) (symbol : Text) → Amounts) → Type 0
Says held amounts = (scratch : ℕ) (lines : List ℕ) → least_scratch ≤ scratch → least_lines ≤ length lines
    → let w = net_call held scratch lines in (w.returned.refusal ≡ 0) × ((client : ℕ) (symbol : Text) → said_net w client symbol ≡ netted (amounts client symbol))

-- ---- the theorem

-- SINCE A RETURN: from any bytes that check passes, after any list of calls and returns to such bytes: what the image last returned to holds, and what was reported since
abbrev pub NetSinceOnBytes : Type 0
NetSinceOnBytes = (b : List ℕ) → Passes b → (is : List (Step entries Passes))
    → let s = follow entries (just_returned entries b) is in Says s.held (λ client symbol. plus (filled_in (book_of s.image) client symbol) (reported client symbol s.past))

-- calls alone
abbrev pub only_calls : List Call → List (Step entries Passes)
only_calls [] = []
only_calls (c ∷ cs) = call c ∷ only_calls cs

abbrev pub start_calls : (b : List ℕ) (setting : ℕ) → List Call → SinceReturn entries
start_calls b setting cs = follow entries (just_returned entries (start_of b setting)) (only_calls cs)

-- SINCE THE EMPTY BOOK: after start with any setting and any list of calls, what was reported
abbrev pub NetOnBytes : Type 0
NetOnBytes = (b : List ℕ) (setting : ℕ) → setting < 2 ^ 32 → start_refusal b ≡ 0 → (cs : List Call)
    → let s = start_calls b setting cs in Says s.held (λ client symbol. reported client symbol s.past)
