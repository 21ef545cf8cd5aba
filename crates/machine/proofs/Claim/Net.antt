-- The net position: of any orders, chosen by what never changes of them, what was told since the image is what was filled. Rests on Filled.
use Rattle.std.proofs.Common.{◌+◌, arith, ◌≡◌, Bool, ◌&&◌, List, [], ◌∷◌, eqb}
use Rattle.prelude.specs.Texts.{same_text}
use Rattle.prelude.specs.Totals.{total_of}
use Rattle.store.specs.Book.{Book}
use Rattle.machine.specs.History.{Decoded, State, next, run, start_from}
use Rattle.machine.specs.Since.{on_side, NetFrom}
use Rattle.machine.proofs.Claim.Laws.{Whose, last_qty_by, filled_by}
use Rattle.machine.proofs.Claim.Filled.{call_advances}

module _ (image : Book) (t : Whose → Bool) where
  abbrev pub Netted : State → Type 0
  Netted s = total_of (filled_by t) image.orders + total_of (λ e. total_of (last_qty_by t) e.messages) s.past ≡ total_of (filled_by t) s.book.orders

  next_netted : (s : State) (i : Decoded) → Netted s → Netted (next s i)
  next_netted s i h = omega (arith, h, (call_advances s.book i).net t)

  module _ {In : Type 0} (read : In → Decoded) where
    pub run_netted : (s : State) (is : List In) → Netted s → Netted (run read s is)
    run_netted s [] h = h
    run_netted s (i ∷ is) h = run_netted (next s (read i)) is (next_netted s (read i) h)

pub net_from : NetFrom
net_from In read image is bought client symbol =
    run_netted image (λ w. eqb w.client client && (same_text w.symbol symbol && on_side bought w.side)) read (start_from image) is (omega arith)
