-- The first three parts of demand 3, call by call: what was told and filled, the quantity ordered, and a done status. Rests on Walk and Moves.
use Rattle.std.proofs.Common.{ℕ, ◌+◌, ◌-◌, ◌≤◌, ◌<◌, arith, ◌≡◌, refl, sym, ap, ◌∙◌, subst, ◌⊎◌, inl, inr, Bool, true, false, Option, None, Some, List, [], ◌∷◌, ◌++◌, eqb, length, get_or, set, length-append, length-set, get_or-set_same, get_or-set_other, leb-true, eqb-true, eq-eqb, ne_eqb, le-leb}
use Rattle.std.proofs.Math.Decide.{ℕ_discrete, dec_lt}
use Rattle.std.proofs.Math.ListN.{get_or-append}
use Rattle.std.proofs.Math.Seq.{get_or_at}
use Rattle.std.proofs.lemmas.Bool.{lt-leb, cases_Bool}
use Rattle.prelude.specs.Laws.Below.{first_some, first_hit, first_ext, First}
use Rattle.prelude.specs.Cases.{if◌then◌otherwise◌, maybe}
use Rattle.prelude.specs.Laws.Cases.{split_if, if_true, if_false, none_some}
use Rattle.prelude.specs.Texts.{same_text}
use Rattle.prelude.specs.Totals.{total_of, Every, every[], every∷}
use Rattle.prelude.specs.Laws.Totals.{total_append, total_set, every_map}
use Rattle.prelude.specs.declared.Text.{Text}
use Rattle.store.specs.declared.Order.{Order}
use Rattle.store.specs.Book.{Book, order_in}
use Rattle.store.specs.Orders.{no_order}
use Rattle.machine.specs.Orders.{is_done}
use Rattle.machine.specs.Changes.{Event, Message, unchanged, refusing, adding}
use Rattle.store.specs.Finds.{find_name}
use Rattle.machine.specs.Machine.{findings_of, booked_order, orders_after, after, step_of}
use Rattle.machine.specs.Rules.{rules, filled_rule}
use Rattle.machine.specs.History.{Decoded, unread, read_as, comes_to, messages_of, left_by, line_of, State, next, run, start_from}
use Rattle.machine.specs.Claim.{status_of, Each}
use Rattle.machine.specs.declared.Change.{Change}
use Rattle.machine.proofs.Kept.Indexed.{BookKept}
use Rattle.machine.proofs.Claim.Laws.{tells, Whose, whose, last_qty_by, filled_by}
use Rattle.machine.proofs.Claim.Moves.{Moves, made_moves, asked_moves, amended_moves}
use Rattle.machine.proofs.Claim.Ruled.{ruled}
use Rattle.machine.proofs.Claim.Walk.{booking, Did, Roomy, turned_away, no_order_lem, on_order, new_order, found_order, Either, Handles, step_walk, refusing_bystands, refusing_away}

-- ---- every handler moves its order

pub findings_place : (b : Book) (p : ℕ) → (findings_of b p).place ≡ p
unfolding findings_of
findings_place b p = refl

module _ (b : Book) (e : Event) where
  unfoldable pub Moved : ℕ → Change → Type 0
  Moved i c = Moves 2 (i + 1) (order_in b i) c

  moved : (i : ℕ) (c : Change) → (eqb c.refusal 0 ≡ false) ⊎ Moves 2 (findings_of b (i + 1)).place (order_in b i) c → Either (Moved i c) c
  unfolding Either Moved findings_of
  moved i c (inl z) = inl z
  moved i c (inr m) = inr (m.taken, m)

  pub handles_moved : Handles Moved b e
  handles_moved = record {
    amends = λ l₃ n₇ n₉ i h order full m. moved i _ (amended_moves m);
    answers = λ n₂ n₉ k w m. moved _ _ (inr (made_moves m));
    asks = λ past i w m. moved i _ (inr (asked_moves m));
  }

-- ---- the orders that a change leaves

pub orders_set : (os : List Order) (c : Change) (i : ℕ) → i < length os → c.place ≡ i + 1 → orders_after os c ≡ set os i c.order
unfolding orders_after
orders_set os c i h p =
    let z : c.place - 1 ≡ i = omega arith in
    if_false _ os _ (ne_eqb c.place 0 (λ z. omega arith)) ∙ if_true _ _ _ (le-leb c.place (length os) (omega arith)) ∙ ap (λ (j : ℕ). set os j c.order) z

pub orders_same : (os : List Order) (c : Change) → c.place ≡ 0 → orders_after os c ≡ os
unfolding orders_after
orders_same os c p = if_true _ _ _ (eq-eqb c.place 0 p)

pub orders_more : (os : List Order) (c : Change) → c.place ≡ length os + 1 → orders_after os c ≡ os ++ (c.order ∷ [])
unfolding orders_after
orders_more os c p = if_false _ _ _ (ne_eqb c.place 0 (λ z. omega arith)) ∙ if_false _ _ _ (lt-leb c.place (length os) (omega arith))

-- ---- a book after another: no order is lost, and each keeps what never changes and a done status

pub record Persists (b b' : Book) : Type 0 where
  pub longer : length b.orders ≤ length b'.orders
  pub same : (i : ℕ) → i < length b.orders → whose (order_in b' i) ≡ whose (order_in b i)
  pub done : (i : ℕ) → i < length b.orders → is_done (order_in b i).state.status ≡ true → (order_in b' i).state.status ≡ (order_in b i).state.status

pub persists_same : (b : Book) → Persists b b
persists_same b = record { longer = omega arith; same = λ i h. refl; done = λ i h d. refl }

module _ (b b' : Book) (p : Persists b b') where
  pub same_name : (i : ℕ) → i < length b.orders → (order_in b' i).names.name ≡ (order_in b i).names.name
  same_name i h = ap (λ (w : Whose). w.name) (p.same i h)

  pub name_stays : (t : Text) (i : ℕ) → find_name b t ≡ Some i → find_name b' t ≡ Some i
  unfolding find_name
  name_stays t i h =
      let f : First (λ k. same_text (order_in b k).names.name t) (length b.orders) i = first_some _ _ i h in
      first_hit (λ k. same_text (order_in b' k).names.name t) (length b'.orders) i (let l = f.below in omega (arith, p.longer))
      (first_ext (λ k. same_text (order_in b' k).names.name t) (λ k. same_text (order_in b k).names.name t) i
      (λ k l. ap (λ (x : Text). same_text x t) (same_name k (let m = f.below in omega arith)))
      ∙ f.least)
      (ap (λ (x : Text). same_text x t) (same_name i f.below) ∙ f.passes)

  pub status_stays : (t : Text) (s : ℕ) → status_of t b ≡ Some s → is_done s ≡ true → status_of t b' ≡ Some s
  unfolding maybe
  status_stays t s h d = go (find_name b t) refl h
    where
      go : (x : Option ℕ) → find_name b t ≡ x → maybe None (λ i. Some (order_in b i).state.status) x ≡ Some s → status_of t b' ≡ Some s
      go None e z = none_some refl z
      go (Some i) e z =
          let w : (order_in b i).state.status ≡ s = cc in
          ap (maybe None (λ (j : ℕ). Some (order_in b' j).state.status)) (name_stays t i e)
          ∙ ap Some (p.done i (found_order b t i e) (ap is_done w ∙ d) ∙ w)

pub persists_trans : (a b c : Book) → Persists a b → Persists b c → Persists a c
persists_trans a b c p q = record {
  longer = omega (arith, p.longer, q.longer);
  same = λ i h. q.same i (omega (arith, p.longer)) ∙ p.same i h;
  done = λ i h d. q.done i (omega (arith, p.longer)) (ap is_done (p.done i h d) ∙ d) ∙ p.done i h d;
}

-- ---- one call

pub record Advances (b : Book) (ms : List Message) (b' : Book) : Type 0 where
  pub persists : Persists b b'
  -- whichever orders are looked at: what is told is what is filled
  pub net : (t : Whose → Bool) → total_of (filled_by t) b.orders + total_of (last_qty_by t) ms ≡ total_of (filled_by t) b'.orders
  pub ordered : ((i : ℕ) → i < length b.orders → (order_in b i).state.cumqty ≤ (order_in b i).terms.qty)
      → (i : ℕ) → i < length b'.orders → (order_in b' i).state.cumqty ≤ (order_in b' i).terms.qty

-- the orders stay, and no report goes out
still : (b : Book) (ms : List Message) (b' : Book) → b'.orders ≡ b.orders → ((t : Whose → Bool) → total_of (last_qty_by t) ms ≡ 0) → Advances b ms b'
still b ms b' e q =
    subst (λ (os : List Order). Advances b ms (record { setting = b'.setting; orders = os; requests = b'.requests })) (sym e)
    (record {
      persists = record { longer = omega arith; same = λ i h. refl; done = λ i h d. refl };
      net = λ t. omega (arith, q t);
      ordered = λ f. f;
    })

-- one order is changed
module _ (b : Book) (c : Change) (i : ℕ) (h : i < length b.orders) (m : Moves 2 (i + 1) (order_in b i) c) (b' : Book) (e : b'.orders ≡ set b.orders i c.order) where
  pub long : length b'.orders ≡ length b.orders
  long = ap length e ∙ length-set b.orders i c.order

  pub at : order_in b' i ≡ c.order
  at = ap (λ (os : List Order). get_or os i no_order) e ∙ get_or-set_same b.orders i c.order no_order h

  pub beside : (j : ℕ) → (j ≡ i → ⊥) → order_in b' j ≡ order_in b j
  beside j n = ap (λ (os : List Order). get_or os j no_order) e ∙ get_or-set_other b.orders i j c.order no_order n

  -- what holds of the changed order and of the others
  each : (Q : ℕ → Order → Type 0) → Q i c.order → ((j : ℕ) → (j ≡ i → ⊥) → j < length b.orders → Q j (order_in b j)) → (j : ℕ) → j < length b'.orders → Q j (order_in b' j)
  each Q x y j l = go (ℕ_discrete j i)
    where
      go : Dec (j ≡ i) → Q j (order_in b' j)
      go (yes z) = subst (λ (k : ℕ). Q k (order_in b' k)) (sym z) (subst (Q i) (sym at) x)
      go (no z) = subst (Q j) (sym (beside j z)) (y j z (omega (arith, long)))

  pub changed_persists : Persists b b'
  changed_persists = record {
    longer = omega (arith, long);
    same = λ j l. each (λ k o. whose o ≡ whose (order_in b k)) m.same (λ k n u. refl) j (omega (arith, long));
    done = λ j l. each (λ k o. is_done (order_in b k).state.status ≡ true → o.state.status ≡ (order_in b k).state.status) m.done (λ k n u d. refl) j (omega (arith, long));
  }

  changed_advances : Advances b (tells c) b'
  changed_advances = record {
    persists = changed_persists;
    net = λ t. omega (arith, ap (total_of (filled_by t)) e, total_set (filled_by t) b.orders i c.order no_order h, m.told t);
    ordered = λ f. each (λ k o. o.state.cumqty ≤ o.terms.qty) (m.ordered (f i h)) (λ j n l. f j l);
  }

-- an order is booked
module _ (b : Book) (o : Order) (b' : Book) (e : b'.orders ≡ b.orders ++ (o ∷ [])) where
  pub more_long : length b'.orders ≡ length b.orders + 1
  more_long = ap length e ∙ length-append b.orders (o ∷ [])

  pub more_at : order_in b' (length b.orders) ≡ o
  more_at = ap (λ (os : List Order). get_or os (length b.orders) no_order) e ∙ get_or_at b.orders o [] no_order (length b.orders) refl

  pub more_beside : (j : ℕ) → j < length b.orders → order_in b' j ≡ order_in b j
  more_beside j l = ap (λ (os : List Order). get_or os j no_order) e ∙ get_or-append b.orders (o ∷ []) no_order j l

  more_each : (Q : ℕ → Order → Type 0) → Q (length b.orders) o → ((j : ℕ) → j < length b.orders → Q j (order_in b j)) → (j : ℕ) → j < length b'.orders → Q j (order_in b' j)
  more_each Q x y j l = go (dec_lt j (length b.orders))
    where
      go : Dec (j < length b.orders) → Q j (order_in b' j)
      go (yes z) = subst (Q j) (sym (more_beside j z)) (y j z)
      go (no z) = let w : j ≡ length b.orders = omega (arith, more_long) in subst (λ (k : ℕ). Q k (order_in b' k)) (sym w) (subst (Q (length b.orders)) (sym more_at) x)

  pub more_persists : Persists b b'
  more_persists = record {
    longer = omega (arith, more_long);
    same = λ j l. ap whose (more_beside j l);
    done = λ j l d. ap (λ (x : Order). x.state.status) (more_beside j l);
  }

  booked_advances : o.state.cumqty ≡ 0 → Advances b [] b'
  booked_advances none_yet = record {
    persists = more_persists;
    net = λ t.
        omega (arith, ap (total_of (filled_by t)) e, total_append (filled_by t) b.orders (o ∷ []), split_if (λ (n : ℕ). n ≡ 0) (t (whose o)) {x = o.state.cumqty} {y = 0} (λ z. none_yet) (λ z. refl));
    ordered = λ f. more_each (λ k x. x.state.cumqty ≤ x.terms.qty) (omega arith) f;
  }

-- ---- a line of the history

pub after_orders : (b : Book) (c : Change) → (after b c).orders ≡ orders_after b.orders c
unfolding after
after_orders b c = refl

pub refused_line : (b : Book) (i : Decoded) (c : Change) → eqb c.refusal 0 ≡ false → ((line_of b i c).messages ≡ []) × ((line_of b i c).left ≡ b)
unfolding messages_of left_by
refused_line b i c h = (if_false _ _ _ h, if_false _ _ _ h)

pub taken_line : (b : Book) (i : Decoded) (c : Change) → c.refusal ≡ 0 → ((line_of b i c).messages ≡ tells c) × ((line_of b i c).left ≡ after b c)
unfolding messages_of left_by
taken_line b i c h = (if_true _ _ _ (eq-eqb c.refusal 0 h), if_true _ _ _ (eq-eqb c.refusal 0 h))

-- what holds of the messages and the book of the change holds of its line
pub line_of_lem : (Q : List Message → Book → Type 0) (b : Book) (i : Decoded) (c : Change) → c.refusal ≡ 0 → Q (tells c) (after b c) → Q (line_of b i c).messages (line_of b i c).left
line_of_lem Q b i c h q =
    let s = taken_line b i c h in
    subst (λ (ms : List Message). Q ms (line_of b i c).left) (sym s.0) (subst (λ (x : Book). Q (tells c) x) (sym s.1) q)

pub refused_of : (Q : List Message → Book → Type 0) (b : Book) (i : Decoded) (c : Change) → eqb c.refusal 0 ≡ false → Q [] b → Q (line_of b i c).messages (line_of b i c).left
refused_of Q b i c h q =
    let s = refused_line b i c h in
    subst (λ (ms : List Message). Q ms (line_of b i c).left) (sym s.0) (subst (λ (x : Book). Q [] x) (sym s.1) q)

pub booking_place : (b : Book) (e : Event) → ((booking b e).refusal ≡ 0) × ((booking b e).place ≡ length b.orders + 1) × ((booking b e).order ≡ booked_order (length b.requests + 1) e)
unfolding adding unchanged
booking_place b e = (refl, refl, refl)

pub booking_silent : (b : Book) (e : Event) → tells (booking b e) ≡ []
unfolding adding unchanged if◌then◌otherwise◌
booking_silent b e = refl

booked_none : (b : Book) (e : Event) → (booked_order (length b.requests + 1) e).state.cumqty ≡ 0
unfolding booked_order
booked_none b e = refl

module _ (b : Book) (e : Event) where
  did_advances : (i : Decoded) (c : Change) → Did (Roomy (Moved b e) b) b e c → Advances b (line_of b i c).messages (line_of b i c).left
  unfolding Moved Roomy
  did_advances i c (turned_away z) = refused_of (Advances b) b i c z (still b [] b refl (λ t. refl))
  did_advances i c (no_order_lem s n) =
      line_of_lem (Advances b) b i c s.taken (still b (tells c) (after b c) (after_orders b c ∙ orders_same b.orders c s.nowhere) s.no_report)
  did_advances i c (on_order j h t p) =
      let m = p.0 in
      line_of_lem (Advances b) b i c t (changed_advances b c j h m (after b c) (after_orders b c ∙ orders_set b.orders c j h m.there))
  did_advances i c (new_order k u) =
      let p = booking_place b e in
      let o = booked_order (length b.requests + 1) e in
      line_of_lem (Advances b) b i (booking b e) p.0
      (subst (λ (ms : List Message). Advances b ms (after b (booking b e))) (sym (booking_silent b e))
      (booked_advances b o (after b (booking b e))
      (after_orders b (booking b e) ∙ orders_more b.orders (booking b e) p.1 ∙ ap (λ (x : Order). b.orders ++ (x ∷ [])) p.2)
      (booked_none b e)))

refusing_advances : (b : Book) (i : Decoded) (n : ℕ) → Advances b (line_of b i (refusing n)).messages (line_of b i (refusing n)).left
refusing_advances b i n = go (cases_Bool (eqb n 0))
  where
    go : (eqb n 0 ≡ true) ⊎ (eqb n 0 ≡ false) → Advances b (line_of b i (refusing n)).messages (line_of b i (refusing n)).left
    go (inl z) =
        subst (λ (k : ℕ). Advances b (line_of b i (refusing k)).messages (line_of b i (refusing k)).left) (sym (eqb-true n 0 z))
        (line_of_lem (Advances b) b i (refusing 0) refusing_bystands.taken
        (still b (tells (refusing 0)) (after b (refusing 0)) (after_orders b (refusing 0) ∙ orders_same b.orders (refusing 0) refusing_bystands.nowhere) refusing_bystands.no_report))
    go (inr z) = refused_of (Advances b) b i (refusing n) (refusing_away n z) (still b [] b refl (λ t. refl))

pub call_advances : (b : Book) (i : Decoded) → Advances b (line_of b i (comes_to b i)).messages (line_of b i (comes_to b i)).left
unfolding comes_to
call_advances b (unread n) =
    split_if (λ c. Advances b (line_of b (unread n) c).messages (line_of b (unread n) c).left) (rules b) (λ h. refusing_advances b (unread n) n) (λ h. refusing_advances b (unread n) 1)
call_advances b (read_as e) =
    split_if (λ c. Advances b (line_of b (read_as e) c).messages (line_of b (read_as e) c).left) (rules b)
    (λ h. did_advances b e (read_as e) (step_of b e) (step_walk (Moved b e) b e (ruled b h) (handles_moved b e)))
    (λ h. refusing_advances b (read_as e) 1)

-- ---- the list, from an image that keeps its rules: what stays

pub record Steady (image : Book) (s : State) : Type 0 where
  pub since : Persists image s.book
  pub ordered : Each s (λ o. o.state.cumqty ≤ o.terms.qty)
  pub done : Every (λ e. (name : Text) (st : ℕ) → status_of name e.left ≡ Some st → is_done st ≡ true → status_of name s.book ≡ Some st) s.past

filled_within : (o : Order) → filled_rule o ≡ true → o.state.cumqty ≤ o.terms.qty
unfolding filled_rule
filled_within o e = leb-true _ _ e

start_steady : (image : Book) → BookKept image → Steady image (start_from image)
start_steady image good = record {
  since = persists_same image;
  ordered = λ i h. filled_within (order_in image i) (good.order i h).filled;
  done = every[];
}

next_steady : (image : Book) (s : State) (i : Decoded) → Steady image s → Steady image (next s i)
next_steady image s i f =
    let a = call_advances s.book i in
    record {
      since = persists_trans image s.book _ f.since a.persists;
      ordered = a.ordered f.ordered;
      done = every∷ (λ name st h d. h) (every_map (λ e k name st h d. status_stays s.book _ a.persists name st (k name st h d) d) f.done);
    }

module _ {In : Type 0} (read : In → Decoded) (image : Book) where
  run_steady : (s : State) (is : List In) → Steady image s → Steady image (run read s is)
  run_steady s [] f = f
  run_steady s (i ∷ is) f = run_steady (next s (read i)) is (next_steady image s (read i) f)

  pub steady : BookKept image → (is : List In) → Steady image (run read (start_from image) is)
  steady good is = run_steady (start_from image) is (start_steady image good)
