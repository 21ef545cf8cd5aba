-- No event leaves an order Filled and short if none was before; so after start a Filled order is filled whole. And the alarm goes by the order as it is left. Rests on Moves, Start and Stepped.
use Rattle.std.proofs.Common.{ℕ, ◌≤◌, arith, ◌≡◌, refl, Bool, false, List, [], ◌∷◌, get_or, ltb-false, eq-eqb}
use Rattle.prelude.specs.Laws.Cases.{split_if}
use Rattle.format.specs.Codes.{new, filled, rejected}
use Rattle.store.specs.declared.Order.{Order}
use Rattle.store.specs.declared.Request.{Request}
use Rattle.store.specs.Book.{Book, order_in}
use Rattle.store.specs.Orders.{no_order}
use Rattle.machine.specs.Orders.{status_at, is_short, unless_short, set_status, record_venue_order_id, next_exec}
use Rattle.machine.specs.Changes.{Event, unchanged, refusing, adding, telling, alarming, numbered_order}
use Rattle.machine.specs.GatewayCancel.{send_gateway_cancel}
use Rattle.machine.specs.Amend.{cancel_goes, replace_goes, not_pending, refused_order}
use Rattle.machine.specs.Report.{reported_order}
use Rattle.machine.specs.Machine.{booked_order, step_of, orders_after, after, book_after}
use Rattle.machine.specs.History.{Decoded, unread, read_as, comes_to, left_by, State, start, next, run}
use Rattle.machine.specs.Short.{short, NoneMade, FilledWhole, JudgedAsLeft}
use Rattle.machine.specs.declared.Findings.{Findings}
use Rattle.machine.specs.declared.Refused.{Refused}
use Rattle.machine.specs.declared.Change.{Change}
use Rattle.machine.proofs.Kept.Fits.{set_all, more_all}
use Rattle.machine.proofs.Claim.Moves.{reported_grown, refused_keeps}
use Rattle.machine.proofs.Claim.Start.{demand}
use Rattle.machine.proofs.Walked.{Closed, closed_made}
use Rattle.machine.proofs.Made.{declined, waits, goes, repeated, turned, unpriced, cancel_sent, replace_sent}
use Rattle.machine.proofs.Stepped.{MadeBy, AskedBy, AmendedBy, Ways, step_made}

-- ---- an order

record Sound (o : Order) : Type 0 where
  sound : short o ≡ false

at_status : (qty cumqty s : ℕ) → is_short qty cumqty s ≡ false → is_short qty cumqty (status_at cumqty s) ≡ false
unfolding status_at
at_status qty cumqty s e = split_if (λ (n : ℕ). is_short qty cumqty n ≡ false) _ (λ h. unfold is_short in refl) (λ h. e)

never_short : (qty cumqty s : ℕ) → is_short qty cumqty (status_at cumqty (unless_short qty cumqty s)) ≡ false
unfolding unless_short
never_short qty cumqty s =
    split_if (λ (n : ℕ). is_short qty cumqty (status_at cumqty n) ≡ false) _ (λ h. at_status qty cumqty new (unfold is_short in refl)) (λ h. at_status qty cumqty s h)

-- if a status is set, it is decided then
set_sound : (s : ℕ) (o : Order) → Sound (set_status s o)
unfolding set_status
set_sound s o = record { sound = never_short o.terms.qty o.state.cumqty s }

no_sound : Sound no_order
unfolding is_short
no_sound = record { sound = refl }

exec_sound : (o : Order) → Sound o → Sound (next_exec o)
unfolding next_exec
exec_sound o h = record { sound = h.sound }

refused_sound : (k : ℕ) (r : Refused) (o : Order) → Sound o → Sound (refused_order k r o)
unfolding refused_order record_venue_order_id not_pending
refused_sound k r o h =
    split_if Sound _ (λ e. record { sound = h.sound })
    (λ e. split_if Sound _ (λ e. set_sound _ _) (λ e. split_if Sound _ (λ e. set_sound _ _) (λ e. record { sound = h.sound })))

-- ---- a change

record Leaves (c : Change) : Type 0 where
  leaves : Sound c.order

-- an order that is not short is left not short
made_leaves : {f : Findings} {k : ℕ} {q : Request} {o : Order} {e : Event} → Sound o → (c c' : Change) → MadeBy f k q o e c c' → Leaves c
unfolding record_venue_order_id reported_order send_gateway_cancel telling adding numbered_order
made_leaves {f} {k} {q} {o} {e} h c c' = closed_made z
  where
    z : Closed k q o e f.place f.cancel f.requests f.requests Sound (λ c c'. Leaves c)
    z = record {
      own = h;
      refused = λ {r} w. refused_sound k r o h;
      named = record { sound = h.sound };
      fallen = record { sound = h.sound };
      ended = set_sound rejected o;
      reports = set_sound _ _;
      gives_up = λ y l. record { sound = l.sound };
      counts = exec_sound;
      leaves = λ l u v s. record { leaves = l };
      sends = λ out l u v s. record { leaves = record { sound = l.sound } };
    }

asked_leaves : {f : Findings} {o : Order} → Sound o → (c c' : Change) → AskedBy f o c c' → Leaves c
unfolding send_gateway_cancel telling adding numbered_order
asked_leaves h c c' (declined z) = record { leaves = h }
asked_leaves h c c' (waits d g) = record { leaves = record { sound = h.sound } }
asked_leaves h c c' (goes d g) = record { leaves = record { sound = h.sound } }

amended_leaves : {f : Findings} {order : ℕ} {full : Bool} {o : Order} {e : Event} → Sound o → (c c' : Change) → AmendedBy f order full o e c c' → Leaves c
unfolding refusing cancel_goes replace_goes telling adding unchanged numbered_order
amended_leaves h c c' (repeated t) = record { leaves = exec_sound _ h }
amended_leaves h c c' (turned w t) = record { leaves = h }
amended_leaves h c c' (unpriced t) = record { leaves = no_sound }
amended_leaves h c c' (cancel_sent z t) = record { leaves = record { sound = h.sound } }
amended_leaves h c c' (replace_sent t u) = record { leaves = record { sound = h.sound } }

-- ---- the book

-- the book's orders, and what is read past their end
record SoundBook (b : Book) : Type 0 where
  each : (i : ℕ) → Sound (order_in b i)

after_sound : (b : Book) (c : Change) → SoundBook b → Leaves c → SoundBook (after b c)
unfolding after orders_after
after_sound b c h l = record {
  each = λ i. split_if (λ (os : List Order). Sound (get_or os i no_order)) _ (λ t. h.each i)
      (λ t. split_if (λ (os : List Order). Sound (get_or os i no_order)) _ (λ t. set_all Sound no_order no_sound b.orders _ c.order h.each l.leaves i)
      (λ t. more_all Sound no_order no_sound b.orders c.order h.each l.leaves i));
}

refusing_leaves : (n : ℕ) → Leaves (refusing n)
unfolding refusing
refusing_leaves n = record { leaves = no_sound }

module _ (b : Book) (h : SoundBook b) (e : Event) where
  ways : Ways Leaves b e
  unfolding unchanged adding alarming booked_order is_short
  ways = record {
    refuses = λ n z. refusing_leaves n;
    no_order_lem = λ z. record { leaves = no_sound };
    unknown = λ z. record { leaves = no_sound };
    books = λ t u v. record { leaves = record { sound = refl } };
    amends_none = λ z order full. amended_leaves no_sound;
    amends = λ z k y full. amended_leaves (h.each _);
    answers = λ y k z. made_leaves (h.each _);
    asks = λ y i z. asked_leaves (h.each i);
  }

  step_leaves : Leaves (step_of b e)
  step_leaves = step_made Leaves b e ways

  after_event : SoundBook (book_after b e)
  unfolding book_after
  after_event = split_if SoundBook _ (λ t. after_sound b (step_of b e) h step_leaves) (λ t. h)

pub none_made : NoneMade
none_made b e h i = ((after_event b (record { each = λ k. record { sound = h k } }) e).each i).sound

-- ---- lists of calls

comes_leaves : (b : Book) → SoundBook b → (d : Decoded) → Leaves (comes_to b d)
unfolding comes_to
comes_leaves b h (unread n) = split_if Leaves _ (λ t. refusing_leaves n) (λ t. refusing_leaves 1)
comes_leaves b h (read_as e) = split_if Leaves _ (λ t. step_leaves b h e) (λ t. refusing_leaves 1)

left_sound : (b : Book) (c : Change) → SoundBook b → Leaves c → SoundBook (left_by b c)
unfolding left_by
left_sound b c h l = split_if SoundBook _ (λ t. after_sound b c h l) (λ t. h)

module _ {In : Type 0} (read : In → Decoded) where
  run_sound : (s : State) (is : List In) → SoundBook s.book → SoundBook (run read s is).book
  run_sound s [] h = h
  run_sound s (i ∷ is) h = run_sound (next s (read i)) is (left_sound s.book _ h (comes_leaves s.book h (read i)))

filled_enough : (qty cumqty s : ℕ) → is_short qty cumqty s ≡ false → s ≡ filled → qty ≤ cumqty
unfolding is_short
filled_enough qty cumqty s h e = ltb-false cumqty qty (rw (eq-eqb s filled e) at h)

pub filled_whole : FilledWhole
filled_whole In read kinds setting is i below e =
    let most = (demand In read kinds setting is).ordered i below in
    let none = ((run_sound read (start setting) is (record { each = λ k. no_sound })).each i).sound in
    omega (arith, most, filled_enough _ _ _ none e)

-- ---- the alarm

pub judged_as_left : JudgedAsLeft
judged_as_left = record {
  report = λ accepted s q o e. let g = reported_grown accepted s q o e in rw (g.most, g.now) refl;
  refusal = λ k r o. let h = refused_keeps k r o in rw (h.same_qty, h.same_cum) refl;
}
