-- The name of an order that a call books: it is the event's, so if no booking names one that went, no order that is new does. Rests on Filled.
use Rattle.std.proofs.Common.{ℕ, ◌+◌, ◌≤◌, ◌<◌, arith, ◌≡◌, refl, sym, ap, ◌∙◌, Bool, true, false, ◌&&◌, ◌⊎◌, inl, inr, List, [], ◌∷◌, ◌++◌, eqb, length, eqb-true, eq-eqb, length-set}
use Rattle.std.proofs.lemmas.Bool.{cases_Bool}
use Rattle.prelude.specs.Laws.Cases.{split_if}
use Rattle.prelude.specs.declared.Text.{Text}
use Rattle.store.specs.declared.Order.{Order}
use Rattle.store.specs.Book.{Book, order_in}
use Rattle.machine.specs.Changes.{Event, Message, refusing}
use Rattle.machine.specs.Machine.{booked_order, after, step_of}
use Rattle.machine.specs.Rules.{rules}
use Rattle.machine.specs.History.{Decoded, unread, read_as, comes_to, line_of}
use Rattle.machine.specs.declared.Change.{Change}
use Rattle.machine.proofs.Claim.Ruled.{ruled}
use Rattle.machine.proofs.Claim.Walk.{booking, Did, Roomy, turned_away, no_order_lem, on_order, new_order, step_walk, refusing_bystands, refusing_away}
use Rattle.machine.proofs.Claim.Filled.{Moved, handles_moved, orders_set, orders_same, orders_more, more_at, more_long, after_orders, line_of_lem, refused_of, booking_place}

booked_name : (b : Book) (e : Event) → (booked_order (length b.requests + 1) e).names.name ≡ e.ids.name
unfolding booked_order
booked_name b e = refl

module _ (gone : Text → Bool) where
  abbrev pub books : Decoded → Bool
  books (unread n) = false
  books (read_as e) = eqb e.kind 1 && gone e.ids.name

  module _ (b : Book) where
    abbrev New : List Message → Book → Type 0
    New ms b' = (j : ℕ) → length b.orders ≤ j → j < length b'.orders → gone (order_in b' j).names.name ≡ false

    none_new : (b' : Book) → length b'.orders ≡ length b.orders → New [] b'
    none_new b' e j l h = absurd (omega arith)

    refusing_new : (i : Decoded) (n : ℕ) → New (line_of b i (refusing n)).messages (line_of b i (refusing n)).left
    refusing_new i n = go (cases_Bool (eqb n 0))
      where
        go : (eqb n 0 ≡ true) ⊎ (eqb n 0 ≡ false) → New (line_of b i (refusing n)).messages (line_of b i (refusing n)).left
        go (inl z) =
            let e : n ≡ 0 = eqb-true n 0 z in
            line_of_lem New b i (refusing n) (ap (λ (k : ℕ). (refusing k).refusal) e ∙ refusing_bystands.taken)
            (none_new (after b (refusing n)) (ap length (after_orders b (refusing n) ∙ orders_same b.orders (refusing n) (ap (λ (k : ℕ). (refusing k).place) e ∙ refusing_bystands.nowhere))))
        go (inr z) = refused_of New b i (refusing n) (refusing_away n z) (none_new b refl)

    did_new : (e : Event) (c : Change) → Did (Roomy (Moved b e) b) b e c → eqb c.refusal 0 && books (read_as e) ≡ false
        → New (line_of b (read_as e) c).messages (line_of b (read_as e) c).left
    unfolding Moved Roomy
    did_new e c (turned_away z) f = refused_of New b (read_as e) c z (none_new b refl)
    did_new e c (no_order_lem s n) f = line_of_lem New b (read_as e) c s.taken (none_new (after b c) (ap length (after_orders b c ∙ orders_same b.orders c s.nowhere)))
    did_new e c (on_order j h t p) f =
        line_of_lem New b (read_as e) c t (none_new (after b c) (ap length (after_orders b c ∙ orders_set b.orders c j h p.0.there) ∙ length-set b.orders j c.order))
    did_new e c (new_order k u) f =
        let p = booking_place b e in
        let o : Order = booked_order (length b.requests + 1) e in
        let more : (after b (booking b e)).orders ≡ b.orders ++ (o ∷ []) =
        after_orders b (booking b e) ∙ orders_more b.orders (booking b e) p.1 ∙ ap (λ (x : Order). b.orders ++ (x ∷ [])) p.2 in
        let free : gone e.ids.name ≡ false =
        ap (λ (x : Bool). x && gone e.ids.name) (sym k) ∙ ap (λ (x : Bool). x && (eqb e.kind 1 && gone e.ids.name)) (sym (eq-eqb (booking b e).refusal 0 p.0)) ∙ f in
        line_of_lem New b (read_as e) (booking b e) p.0
        (λ j l h.
        let z : j ≡ length b.orders = omega (arith, more_long b o (after b (booking b e)) more) in
        ap (λ (i : ℕ). gone (order_in (after b (booking b e)) i).names.name) z
        ∙ ap (λ (x : Order). gone x.names.name) (more_at b o (after b (booking b e)) more) ∙ ap gone (booked_name b e) ∙ free)

    pub unused_names : (i : Decoded) → eqb (comes_to b i).refusal 0 && books i ≡ false
        → (j : ℕ) → length b.orders ≤ j → j < length (line_of b i (comes_to b i)).left.orders → gone (order_in (line_of b i (comes_to b i)).left j).names.name ≡ false
    unfolding comes_to
    unused_names (unread n) =
        split_if (λ c. eqb c.refusal 0 && false ≡ false → New (line_of b (unread n) c).messages (line_of b (unread n) c).left) (rules b)
        (λ h f. refusing_new (unread n) n) (λ h f. refusing_new (unread n) 1)
    unused_names (read_as e) =
        split_if (λ c. eqb c.refusal 0 && books (read_as e) ≡ false → New (line_of b (read_as e) c).messages (line_of b (read_as e) c).left) (rules b)
        (λ h. did_new e (step_of b e) (step_walk (Moved b e) b e (ruled b h) (handles_moved b e)))
        (λ h f. refusing_new (read_as e) 1)
