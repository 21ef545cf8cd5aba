-- What an archive has after a retirement: what it had, and each order that went, with the same status and quantities. Rests on Retired and the laws of joined books.
use Rattle.std.proofs.Common.{ℕ, ◌<◌, arith, ◌≡◌, sym, ap, ◌∙◌, subst, true, Some, length}
use Rattle.prelude.specs.Texts.{same_text}
use Rattle.prelude.specs.Laws.Texts.{same_back}
use Rattle.prelude.specs.declared.Text.{Text}
use Rattle.store.specs.declared.Order.{Order}
use Rattle.store.specs.Book.{Book, order_in}
use Rattle.store.specs.Finds.{find_name}
use Rattle.machine.proofs.Kept.Indexed.{BookKept}
use Rattle.machine.proofs.Kept.Consequences.{found_name}
use Rattle.machine.proofs.Claim.Walk.{found_order}
use Rattle.parts.specs.Parts.{done_at, archived}
use Rattle.parts.specs.Laws.Linked.{new_place}
use Rattle.parts.specs.Laws.Found.{joined_found}
use Rattle.parts.specs.Laws.Joined.{joined_orders, joined_old_order, joined_order}
use Rattle.machine.proofs.Claim.Names.{named_at}
use Rattle.parts.proofs.Retired.{Stays, moved_stays, name_cong}

-- each order that the first has by a name, the second has by it, at the same place
pub record Extends (a a' : Book) : Type 0 where
  pub found : (t : Text) (k : ℕ) → find_name a t ≡ Some k → find_name a' t ≡ Some k
  pub same : (t : Text) (k : ℕ) → find_name a t ≡ Some k → order_in a' k ≡ order_in a k

-- an order by its name, as another book has it
pub record Went (o : Order) (a : Book) : Type 0 where
  pub at : ℕ
  pub found : find_name a o.names.name ≡ Some at
  pub stays : Stays o (order_in a at)

module _ (a b : Book) (good : BookKept (archived a b)) where
  abbrev left : Book
  left = archived a b

  pub extends : Extends a left
  extends = record { found = found; same = λ t k w. joined_old_order (done_at b) a b k (found_order a t k w) }
    where
      found : (t : Text) (k : ℕ) → find_name a t ≡ Some k → find_name left t ≡ Some k
      found t k w =
          let h : k < length a.orders = found_order a t k w in
          let is : order_in left k ≡ order_in a k = joined_old_order (done_at b) a b k h in
          let s : same_text (order_in left k).names.name t ≡ true = ap (λ (o : Order). same_text o.names.name t) is ∙ named_at a t k w in
          name_cong left t (order_in left k).names.name (same_back _ t s) ∙ found_name left good k (omega (arith, joined_orders (done_at b) a b))

  pub went : (i : ℕ) → i < length b.orders → done_at b i ≡ true → Went (order_in b i) left
  went i h e = record {
    at = new_place (done_at b) a i;
    found = joined_found (done_at b) a b good i h e;
    stays = subst (Stays (order_in b i)) (sym (joined_order (done_at b) a b i h e)) (moved_stays (done_at b) (length a.requests) b i);
  }
