-- One call, by names: an order that it leaves is known by its name in the book before it; what it books was not there; and a name that the book does not have is
-- told nothing. Rests on Filled and Rounds.
use Rattle.std.proofs.Common.{ℕ, ◌≤◌, ◌<◌, arith, ◌≡◌, refl, sym, ap, ◌∙◌, subst, Bool, true, false, ◌&&◌, Option, None, Some, eqb, length, eq-eqb, eqb-true, ne_eqb}
use Rattle.std.proofs.Math.Bool.{and-false}
use Rattle.std.proofs.Math.Decide.{ℕ_discrete, dec_lt}
use Rattle.std.proofs.Math.ListN.{get_or-eq_default}
use Rattle.std.proofs.lemmas.Bool.{and_from}
use Rattle.std.specs.Cmp.{both_ways}
use Rattle.prelude.specs.Laws.Below.{first_elim}
use Rattle.prelude.specs.Laws.Cases.{split_if, clash, if_true, if_false, none_some}
use Rattle.prelude.specs.Texts.{same_text}
use Rattle.prelude.specs.Laws.Texts.{same_self}
use Rattle.prelude.specs.Totals.{total_of}
use Rattle.prelude.specs.Laws.Totals.{total_one}
use Rattle.prelude.specs.declared.Text.{Text}
use Rattle.store.specs.declared.Order.{Order}
use Rattle.store.specs.Orders.{no_order}
use Rattle.store.specs.Book.{Book, order_in}
use Rattle.store.specs.Finds.{bears_name, find_name}
use Rattle.machine.specs.Claim.{last_qty}
use Rattle.machine.specs.History.{Entry}
use Rattle.machine.proofs.Kept.Indexed.{BookKept}
use Rattle.machine.proofs.Kept.Consequences.{names_apart_lem}
use Rattle.machine.proofs.Claim.Laws.{Whose, whose, filled_by, bears}
use Rattle.machine.proofs.Claim.Walk.{found_order, found_name}
use Rattle.machine.proofs.Claim.Rounds.{Apart}
use Rattle.machine.proofs.Claim.Filled.{Persists, same_name, name_stays, Advances}

-- ---- an order by its name

-- two orders of one name are one, in a book that keeps its rules
pub kept_apart : (b : Book) → BookKept b → Apart b
kept_apart b good i j li lj w = go (ℕ_discrete i j)
  where
    go : Dec (i ≡ j) → i ≡ j
    go (yes z) = z
    go (no z) = clash _ w (names_apart_lem b good i j li lj z)

module _ (b : Book) (apart : Apart b) where
  module _ (j : ℕ) (h : j < length b.orders) where
    abbrev pub name : Text
    name = (order_in b j).names.name

    -- an earlier book's order has the name exactly if it is the same order
    pub bears_at : (c : Book) → Persists c b → (i : ℕ) → i < length c.orders → bears_name name (order_in c i) ≡ eqb i j
    bears_at c p i l =
        ap (λ (t : Text). same_text t name) (sym (same_name c b p i l))
        ∙ both_ways _ _ (λ w. eq-eqb i j (apart i j (omega (arith, p.longer)) h w))
        (λ w. ap (λ (n : ℕ). same_text (order_in b n).names.name name) (eqb-true i j w) ∙ same_self name)

    -- of the orders that bear its client and name, it alone counts
    pub filled_before : (c : Book) → Persists c b → total_of (filled_by (bears (order_in b j).client name)) c.orders ≡ (order_in c j).state.cumqty
    filled_before c p = total_one (filled_by its) c.orders j no_order none_filled other ∙ own (dec_lt j (length c.orders))
      where
        its : Whose → Bool
        its = bears (order_in b j).client name

        none_filled : filled_by its no_order ≡ 0
        none_filled = split_if (λ (n : ℕ). n ≡ 0) (its (whose no_order)) (λ e. refl) (λ e. refl)

        other : (i : ℕ) → i < length c.orders → (i ≡ j → ⊥) → filled_by its (order_in c i) ≡ 0
        other i l n =
            let client : Bool = eqb (order_in c i).client (order_in b j).client in
            if_false _ _ _ (ap (λ (x : Bool). client && x) (bears_at c p i l ∙ ne_eqb i j n) ∙ and-false client)

        own : Dec (j < length c.orders) → filled_by its (order_in c j) ≡ (order_in c j).state.cumqty
        own (yes l) = if_true _ _ _ (and_from _ _ (eq-eqb _ _ (sym (ap (λ (w : Whose). w.client) (p.same j l)))) (bears_at c p j l ∙ eq-eqb j j refl))
        own (no l) = subst (λ (o : Order). filled_by its o ≡ o.state.cumqty) (sym (get_or-eq_default c.orders no_order (omega arith))) none_filled

pub named_at : (b : Book) (t : Text) (i : ℕ) → find_name b t ≡ Some i → same_text (order_in b i).names.name t ≡ true
named_at = found_name

-- ---- a name that the book does not have

pub absent_at : (b : Book) (t : Text) → find_name b t ≡ None → (i : ℕ) → i < length b.orders → same_text (order_in b i).names.name t ≡ false
unfolding find_name
absent_at b t w i l = first_elim (λ k. same_text (order_in b k).names.name t) (length b.orders) w i l

-- nor did it before
pub absent_before : (b b' : Book) → Persists b b' → (t : Text) → find_name b' t ≡ None → find_name b t ≡ None
absent_before b b' p t w = go (find_name b t) refl
  where
    go : (x : Option ℕ) → find_name b t ≡ x → find_name b t ≡ None
    go None e = e
    go (Some i) e = none_some w (name_stays b b' p t i e)

pub none_filled : (b : Book) (client : ℕ) (t : Text) → find_name b t ≡ None → total_of (filled_by (bears client t)) b.orders ≡ 0
none_filled b client t w =
    total_one (filled_by its) b.orders (length b.orders) no_order zero
    (λ i l n. let c : Bool = eqb (order_in b i).client client in if_false _ _ _ (ap (λ (x : Bool). c && x) (absent_at b t w i l) ∙ and-false c))
    ∙ ap (filled_by its) (get_or-eq_default b.orders no_order (omega arith)) ∙ zero
  where
    its : Whose → Bool
    its = bears client t

    zero : filled_by its no_order ≡ 0
    zero = split_if (λ (n : ℕ). n ≡ 0) (its (whose no_order)) (λ e. refl) (λ e. refl)

pub silent : (e : Entry) → Advances e.before e.messages e.left → (client : ℕ) (t : Text) → find_name e.left t ≡ None → total_of (last_qty client t) e.messages ≡ 0
silent e a client t w = omega (arith, a.net (bears client t), none_filled e.left client t w)

-- an order that was not there before is not found by its name
pub not_before : (b b' : Book) → Apart b' → Persists b b' → (j : ℕ) → length b.orders ≤ j → j < length b'.orders → find_name b (order_in b' j).names.name ≡ None
not_before b b' apart p j l h = go (find_name b (order_in b' j).names.name) refl
  where
    go : (x : Option ℕ) → find_name b (order_in b' j).names.name ≡ x → find_name b (order_in b' j).names.name ≡ None
    go None w = w
    go (Some i) w =
        let m : i < length b.orders = found_order b (order_in b' j).names.name i w in
        let z : i ≡ j = eqb-true i j (sym (bears_at b' apart j h b p i m) ∙ found_name b (order_in b' j).names.name i w) in
        absurd (omega arith)
