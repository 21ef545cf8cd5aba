-- What was told of an order since an image, while orders go: of each that the book has it adds up to the cumulative quantity, and of a name that neither the book
-- has nor one that went it is nothing. Rests on Names.
use Rattle.std.proofs.Common.{ℕ, ◌+◌, ◌≤◌, ◌<◌, arith, ◌≡◌, ap, Bool, false, None, List, [], ◌∷◌, length}
use Rattle.std.proofs.Math.Decide.{dec_lt}
use Rattle.std.proofs.Math.ListN.{get_or-eq_default}
use Rattle.prelude.specs.Laws.Cases.{maybe_none, maybe_some}
use Rattle.prelude.specs.declared.Text.{Text}
use Rattle.store.specs.declared.Order.{Order}
use Rattle.store.specs.Orders.{no_order}
use Rattle.store.specs.Book.{Book, order_in}
use Rattle.store.specs.Finds.{find_name}
use Rattle.machine.specs.Claim.{last_qty_of}
use Rattle.machine.specs.History.{Entry}
use Rattle.machine.specs.Since.{held_qty}
use Rattle.machine.proofs.Kept.Indexed.{BookKept}
use Rattle.machine.proofs.Kept.Consequences.{found_name}
use Rattle.machine.proofs.Claim.Laws.{Whose, bears}
use Rattle.machine.proofs.Claim.Filled.{persists_same, Advances}
use Rattle.machine.proofs.Claim.Rounds.{Apart}
use Rattle.machine.proofs.Claim.Names.{filled_before, absent_before, silent, not_before}

-- what was told of that client's order of that name, and what the image held of it
abbrev pub told : (image : Book) (past : List Entry) (client : ℕ) (name : Text) → ℕ
told image past client name = last_qty_of client name past + held_qty image name

pub record ToldIn (gone : Text → Bool) (image b : Book) (past : List Entry) : Type 0 where
  pub filled : (j : ℕ) → j < length b.orders → told image past (order_in b j).client (order_in b j).names.name ≡ (order_in b j).state.cumqty
  pub ordered : (j : ℕ) → j < length b.orders → (order_in b j).state.cumqty ≤ (order_in b j).terms.qty
  pub absent : (client : ℕ) (name : Text) → find_name b name ≡ None → gone name ≡ false → told image past client name ≡ 0

-- ---- at the image

module _ (gone : Text → Bool) (image : Book) (good : BookKept image) (small : (j : ℕ) → j < length image.orders → (order_in image j).state.cumqty ≤ (order_in image j).terms.qty) where
  pub told_start : ToldIn gone image image []
  told_start = record {
    filled = λ j h. omega (arith, maybe_some (find_name image (order_in image j).names.name) j 0 (λ i. (order_in image i).state.cumqty) (found_name image good j h));
    ordered = small;
    absent = λ client name w g. omega (arith, maybe_none (find_name image name) 0 (λ i. (order_in image i).state.cumqty) w);
  }

-- ---- one call

module _ (gone : Text → Bool) (image : Book) (e : Entry) (past : List Entry) (apart : Apart e.left) (a : Advances e.before e.messages e.left)
    -- no booking names one that went
    (unused : (j : ℕ) → length e.before.orders ≤ j → j < length e.left.orders → gone (order_in e.left j).names.name ≡ false) where
  pub told_next : ToldIn gone image e.before past → ToldIn gone image e.left (e ∷ past)
  told_next t = record {
    filled = λ j h. filled j h (dec_lt j (length e.before.orders));
    ordered = a.ordered t.ordered;
    absent = λ client name w g. omega (arith, silent e a client name w, t.absent client name (absent_before e.before e.left a.persists name w) g);
  }
    where
      filled : (j : ℕ) → j < length e.left.orders → Dec (j < length e.before.orders)
          → told image (e ∷ past) (order_in e.left j).client (order_in e.left j).names.name ≡ (order_in e.left j).state.cumqty
      filled j h (yes l) =
          let o : Order = order_in e.left j in
          let w = ap (λ (x : Whose). told image past x.client x.name) (a.persists.same j l) in
          omega (
            arith,
            a.net (bears o.client o.names.name),
            filled_before e.left apart j h e.before a.persists,
            filled_before e.left apart j h e.left (persists_same e.left),
            t.filled j l,
            w,
          )
      filled j h (no l) =
          let o : Order = order_in e.left j in
          let z : (order_in e.before j).state.cumqty ≡ 0 = ap (λ (x : Order). x.state.cumqty) (get_or-eq_default e.before.orders no_order (omega arith)) in
          omega (
            arith,
            a.net (bears o.client o.names.name),
            filled_before e.left apart j h e.before a.persists,
            filled_before e.left apart j h e.left (persists_same e.left),
            t.absent o.client o.names.name (not_before e.before e.left apart a.persists j (omega arith) h) (unused j (omega arith) h),
            z,
          )
