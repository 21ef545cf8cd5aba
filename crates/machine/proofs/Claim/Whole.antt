-- Demand 3 from any image, whole: over the list of calls, where no order goes. Rests on Image and Filled.
use Rattle.std.proofs.Common.{◌≤◌, ◌<◌, ◌≡◌, refl, Bool, false, List, [], ◌∷◌}
use Rattle.prelude.specs.Laws.Cases.{clash}
use Rattle.prelude.specs.declared.Text.{Text}
use Rattle.store.specs.Book.{Book}
use Rattle.machine.specs.Changes.{Event}
use Rattle.machine.specs.History.{Decoded, read_as, comes_to, line_of, State, next, run, Kinds, start_from}
use Rattle.machine.specs.Since.{DemandFrom}
use Rattle.machine.proofs.Kept.Indexed.{book_kept}
use Rattle.machine.proofs.Claim.Filled.{status_stays, call_advances, Steady, steady}
use Rattle.machine.proofs.Claim.Rounds.{call_round}
use Rattle.machine.proofs.Claim.Since.{SinceImage, since_next, tries_are}
use Rattle.machine.proofs.Claim.Image.{since_start}
use Rattle.machine.proofs.Numbered.{numbered_laws}

-- no order goes
none_gone : Text → Bool
none_gone name = false

module _ (image : Book) where
  Holds : State → Type 0
  Holds s = SinceImage none_gone image s.book s.past

  next_holds : (s : State) (i : Decoded) → ((e : Event) → i ≡ read_as e → (0 < e.kind) × (e.kind ≤ 9)) → Holds s → Holds (next s i)
  unfolding Holds none_gone
  next_holds s i k h =
      since_next none_gone (λ x y w. refl) image (line_of s.book i (comes_to s.book i)) s.past (call_advances s.book i) (call_round numbered_laws s.book i k) (λ j l u. refl) h
      (λ d n w g. clash false g.is refl)

  module _ {In : Type 0} (read : In → Decoded) (kinds : Kinds read) where
    run_holds : (s : State) (is : List In) → Holds s → Holds (run read s is)
    run_holds s [] h = h
    run_holds s (i ∷ is) h = run_holds (next s (read i)) is (next_holds s (read i) (λ e w. (kinds.above i e w, kinds.below i e w)) h)

-- ---- demand 3, from an image that keeps its rules

pub demand_from : DemandFrom
unfolding Holds none_gone
demand_from In read kinds image r is =
    let s : State = run read (start_from image) is in
    let f : Steady image s = steady read image (book_kept image r) is in
    let h : SinceImage none_gone image s.book s.past = run_holds image read kinds (start_from image) is (since_start image (book_kept image r) none_gone (λ name. refl)) in
    record {
      filled = h.told.filled;
      ordered = h.told.ordered;
      held = status_stays image s.book f.since;
      done = f.done;
      tries = tries_are none_gone image s.book s.past h;
      few = λ j l g. h.tries.few j g;
    }
