-- Where a price came from, by smallest lists of events: the source follows the rule that was used and not the value, and 0 stands in each report that answers no
-- venue report. Rests on Play.
use Rattle.std.specs.Prelude.{ℕ, ◌+◌, ◌-◌, ◌*◌, ◌^◌, ◌≡◌, refl, true, false, List, [], ◌∷◌, eqb}
use Rattle.prelude.specs.Below.{all_below}
use Rattle.prelude.specs.Cases.{if◌then◌otherwise◌}
use Rattle.bits.specs.Map.{digit}
use Rattle.format.specs.Format.{fields, range, in_range, is_kind, required_bits, allowed_bits, required, allowed, joined, bits_right}
use Rattle.machine.specs.Changes.{Message}
use Rattle.machine.specs.History.{messages_of}
use Rattle.facts.specs.Play.{mark, money, X, D, W, books, cancel_of, cancels, replace_of, replaces, report_of, acknowledges, fills, send_fails, called, empty, playing}

-- the reports among the messages: LastQty, the fill price and its source
record Price : Type 0 where
  last : ℕ
  price : List ℕ
  source : ℕ

abbrev prices_of : List Message → List Price
prices_of [] = []
prices_of (m ∷ ms) = record { last = m.exec.lastqty; price = m.told.fillprice; source = m.told.source } ∷ prices_of ms

-- what the last of the calls puts out, after a booking and the others
abbrev prices : List (List ℕ) → (event : List ℕ) → List Price
prices before event = prices_of (messages_of (called (playing (empty 10000) (books ∷ before)) event))

-- one report of so many shares
abbrev at : (last price source : ℕ) → List Price
at last price source = record { last = last; price = price ∷ 0 ∷ []; source = source } ∷ []

record Sources : Type 0 where
  -- a rise that is LastQty: the venue's LastPx
  last_px : prices [] (fills 4 4 (money 10) (money 10)) ≡ at 40000 (money 10) 1
  -- no rise, with a LastPx
  last_px_without_rise : prices [] (report_of X 48 48 0 (money 9) 0 0 []) ≡ at 0 (money 9) 1
  -- the quotient, though LastPx has the same value
  quotient : prices (fills 1 1 (money 10) (money 10) ∷ []) (fills 3 1 (money 10) (money 10)) ≡ at 20000 (money 10) 2
  -- half of the smallest unit goes up to 1, which is above 0 and so the quotient's: the average is 2, and 49
  least_half : prices (fills 3 3 3 3 ∷ []) (fills 5 0 0 2) ≡ at 20000 1 2
  least_half_far_below : prices (fills 97 97 50 50 ∷ []) (fills 99 0 0 49) ≡ at 20000 1 2
  -- less than that half is 0, and the average's
  below_least_half : prices (fills 3 3 3 3 ∷ []) (fills 10 0 0 1) ≡ at 70000 1 3
  -- the average, at price 0 too
  average : prices (fills 2 2 (money 1) (money 1) ∷ []) (fills 3 0 0 (5 * 10 ^ 7)) ≡ at 10000 (5 * 10 ^ 7) 3
  average_of_zero : prices [] acknowledges ≡ at 0 0 3
  -- the venue's rejection of the order is a venue report too
  rejected : prices [] (report_of X 56 56 0 0 0 0 []) ≡ at 0 0 3
  -- a redelivered cancel, a redelivered replace, a failed first send: no rule for venue reports set a price
  cancel_again : prices (cancels D ∷ []) (cancel_of D W 49 (mark 21 ∷ [])) ≡ at 0 0 0
  replace_again : prices (replaces D 90 ∷ []) (replace_of D 90 (mark 21 ∷ []) 0) ≡ at 0 0 0
  first_send : prices [] (send_fails X) ≡ at 0 0 0

sources : Sources
unfolding called
sources = record {
  last_px = refl;
  last_px_without_rise = refl;
  quotient = refl;
  least_half = refl;
  least_half_far_below = refl;
  below_least_half = refl;
  average = refl;
  average_of_zero = refl;
  rejected = refl;
  cancel_again = refl;
  replace_again = refl;
  first_send = refl;
}

-- ---- the bit that was free: in every report, and in no other record

record Bit : Type 0 where
  in_report : bits_right 16 (required 16) ≡ true
  report_without : bits_right 16 (required 16 - 2 ^ 31) ≡ false
  reject : bits_right 17 (required 17 + 2 ^ 20) ≡ true
  reject_with : bits_right 17 (required 17 + 2 ^ 20 + 2 ^ 31) ≡ false
  event_with : bits_right 4 (required 4 + 2 ^ 31) ≡ false
  -- of all kinds, just a report's map may have it
  reports_alone : all_below (λ k. eqb (digit (required k + allowed k) 31) (if eqb k 16 then 1 otherwise 0)) 32 ≡ true
  most : in_range (range 31) 3 ≡ true
  above : in_range (range 31) 4 ≡ false

bit : Bit
unfolding all_below bits_right is_kind required allowed required_bits allowed_bits joined range fields in_range if◌then◌otherwise◌
bit = record { in_report = refl; report_without = refl; reject = refl; reject_with = refl; event_with = refl; reports_alone = refl; most = refl; above = refl }
