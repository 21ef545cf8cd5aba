-- What a change does to the book: nothing, something to one order that passes and to its requests, or it enters an order. Rests on Left and Fine.
use Rattle.std.proofs.Common.{ℕ, ◌+◌, ◌≤◌, ◌-◌, ◌<◌, arith, ◌≡◌, refl, sym, ap, subst, ◌∙◌, ◌⊎◌, inl, inr, Bool, true, false, eqb, length, eq-eqb}
use Rattle.std.proofs.Math.Decide.{dec_lt}
use Rattle.std.proofs.lemmas.Bool.{not-false}
use Rattle.prelude.specs.Laws.Below.{first_some}
use Rattle.prelude.specs.Laws.Cases.{clash}
use Rattle.prelude.specs.Texts.{same_text}
use Rattle.store.specs.declared.Order.{Order}
use Rattle.store.specs.declared.Request.{Request}
use Rattle.store.specs.Book.{Book, order_in, request_in}
use Rattle.store.specs.Finds.{find_name, find_downstream, find_clordid, bears_clordid}
use Rattle.machine.specs.Orders.{one_more}
use Rattle.machine.specs.Changes.{Event, unchanged, adding, alarming}
use Rattle.machine.specs.Machine.{findings_of, first_request, nothing, unknown_report, change_of}
use Rattle.machine.specs.declared.Findings.{Findings}
use Rattle.machine.specs.declared.Change.{Change}
use Rattle.machine.proofs.Made.{repeated, turned, unpriced, cancel_sent, replace_sent}
use Rattle.machine.proofs.Stepped.{MadeBy, AskedBy, AmendedBy, ByName, change_made}
use Rattle.machine.proofs.Claim.Walk.{refusing_away, none_taken, none_refused, booking}
use Rattle.machine.proofs.Claim.Moves.{Moves, made_moves, asked_moves, amended_moves}
use Rattle.machine.proofs.Claim.Touches.{Touches, made_touches, asked_touches, amended_touches}
use Rattle.machine.proofs.Kept.Local.{one_more_lem}
use Rattle.parts.specs.Alike.{OwnLink}
use Rattle.quiet.specs.Part.{Owns, Parted, NamesPassing}
use Rattle.quiet.proofs.Fine.{Links, made_links, asked_links, amended_links}
use Rattle.quiet.proofs.Lookups.{good, owns_at}
use Rattle.quiet.proofs.Left as left
use Rattle.quiet.proofs.Left.{Goes, nowhere, there, Passing, Fits}

-- a link of the order's own, or the next request's
pub data OwnOrNext (b : Book) (i l : ℕ) : Type 0 where
  own : OwnLink b i l → OwnOrNext b i l
  next : l ≡ length b.requests + 1 → OwnOrNext b i l

-- the change is of the order at index i and of its own requests
pub record OnOrder (b : Book) (i : ℕ) (d : Change) : Type 0 where
  pub place : d.place ≡ i + 1
  pub answers : OwnLink b i d.requests.answered
  pub supersedes : OwnLink b i d.requests.superseded
  pub adds : (d.requests.added ≡ 0) ⊎ (d.requests.request.order ≡ i)
  pub links : Links (OwnOrNext b i) d.order

pub record Still (d : Change) : Type 0 where
  pub place : d.place ≡ 0
  pub answers : d.requests.answered ≡ 0
  pub supersedes : d.requests.superseded ≡ 0
  pub adds : d.requests.added ≡ 0

pub data Done (p : ℕ → Bool) (b : Book) (e : Event) (d : Change) : Type 0 where
  away : eqb d.refusal 0 ≡ false → Done p b e d
  still : Still d → Done p b e d
  one : (i : ℕ) → i < length b.orders → p i ≡ true → OnOrder b i d → Done p b e d
  new : d ≡ booking b e → Done p b e d

none_still : {f : Findings} {order : ℕ} {full : Bool} {o : Order} {e : Event} {c c' : Change} → f.place ≡ 0 → AmendedBy f order full o e c c' → Still c
none_still {f} {order} {full} {o} {e} z (repeated t) = clash _ t (none_taken f order e z)
none_still z (turned w t) = record { place = z; answers = refl; supersedes = refl; adds = refl }
none_still {f} {order} {full} {o} {e} z (unpriced t) = clash _ (not-false _ t) (none_refused f order full o e _ z)
none_still {f} {order} {full} {o} {e} z (cancel_sent y t) = clash _ (not-false _ t) (none_refused f order full o e _ z)
none_still {f} {order} {full} {o} {e} z (replace_sent t u) = clash _ (not-false _ t) (none_refused f order full o e _ z)

module _ (p : ℕ → Bool) (b : Book) (w : Parted p b) (e : Event) (names : NamesPassing p b e) where
  abbrev D : Change → Type 0
  D = Done p b e

  place_is : (l : ℕ) → (findings_of b l).place ≡ l
  unfolding findings_of
  place_is l = refl

  module _ (i : ℕ) (inside : i < length b.orders) (pass : p i ≡ true) where
    at : Owns b i (order_in b i)
    at = owns_at p b w i inside pass

    links_at : Links (OwnOrNext b i) (order_in b i)
    links_at = record { current = own at.current; cancel = own at.cancel; pending = own at.pending; named = own at.named }

    nothing_own : OwnOrNext b i 0
    nothing_own = own (inl refl)

    next_own : OwnOrNext b i (one_more 65535 (findings_of b (i + 1)).requests)
    unfolding findings_of
    next_own = next (let few = (good p b w).requests in one_more_lem 65535 (length b.requests) (omega arith))

    -- k is the link of the request that the event names, 0 for none
    on_one : (k : ℕ) (d : Change) → OwnLink b i k → Moves 2 (findings_of b (i + 1)).place (order_in b i) d → Touches (findings_of b (i + 1)) k (order_in b i) d
        → Links (OwnOrNext b i) d.order → D d
    on_one k d named m t l = one i inside pass (record {
      place = m.there ∙ place_is (i + 1);
      answers = by (inl refl) named t.answers;
      supersedes = by (inl refl) at.current t.supersedes;
      adds = added t.adds;
      links = l;
    })
      where
        by : {u v : ℕ} → OwnLink b i 0 → OwnLink b i v → (u ≡ 0) ⊎ (u ≡ v) → OwnLink b i u
        by y z (inl s) = subst (OwnLink b i) (sym s) y
        by y z (inr s) = subst (OwnLink b i) (sym s) z

        added : (d.requests.added ≡ 0) ⊎ (d.requests.request.order ≡ (findings_of b (i + 1)).place - 1) → (d.requests.added ≡ 0) ⊎ (d.requests.request.order ≡ i)
        added (inl s) = inl s
        added (inr s) = inr (s ∙ ap (λ (n : ℕ). n - 1) (place_is (i + 1)) ∙ (let z : i + 1 - 1 ≡ i = omega arith in z))

    amended : {order : ℕ} {full : Bool} {c c' : Change} → AmendedBy (findings_of b (i + 1)) order full (order_in b i) e c c' → D c
    amended {c = c} m = go (amended_moves m)
      where
        go : (eqb c.refusal 0 ≡ false) ⊎ Moves 2 (findings_of b (i + 1)).place (order_in b i) c → D c
        go (inl z) = away z
        go (inr z) = on_one 0 c (inl refl) z (amended_touches m) (amended_links (OwnOrNext b i) nothing_own (findings_of b (i + 1)) next_own links_at m)

    made : {k : ℕ} (o : OwnLink b i k) {q : Request} {c c' : Change} → MadeBy (findings_of b (i + 1)) k q (order_in b i) e c c' → D c
    made {k} o {c = c} m = on_one k c o (made_moves m) (made_touches m) (made_links (OwnOrNext b i) nothing_own (findings_of b (i + 1)) next_own links_at m)

    asked : {c c' : Change} → AskedBy (findings_of b (i + 1)) (order_in b i) c c' → D c
    asked {c = c} m = on_one 0 c (inl refl) (asked_moves m) (asked_touches m) (asked_links (OwnOrNext b i) nothing_own (findings_of b (i + 1)) next_own links_at m)

  nothing_still : Still nothing
  unfolding unchanged
  nothing_still = record { place = refl; answers = refl; supersedes = refl; adds = refl }

  unknown_still : Still unknown_report
  unfolding unchanged alarming
  unknown_still = record { place = refl; answers = refl; supersedes = refl; adds = refl }

  -- the kind of an event that names an order
  named : ByName e → (e.kind ≤ 1) ⊎ (9 ≤ e.kind)
  named z = go (dec_lt 0 e.kind)
    where
      go : Dec (0 < e.kind) → (e.kind ≤ 1) ⊎ (9 ≤ e.kind)
      go (yes l) = let m : 8 < e.kind = z l in inr (omega arith)
      go (no l) = inl (omega arith)

  pub done : D (change_of b e)
  done = change_made D b e (record {
    refuses = λ n z. away (refusing_away n z);
    no_order_lem = λ z. still nothing_still;
    unknown = λ z. still unknown_still;
    books = λ t u v. new refl;
    amends_none = λ z order full c c' m. still (none_still (place_is 0) m);
    amends = λ z k y full c c' m. unfold find_clordid in
        let f = first_some (λ j. bears_clordid b.orders e.client e.ids.origclordid (request_in b j)) (length b.requests) k y in
        amended (request_in b k).order (((good p b w).request k f.below).order) (names.origclordid z k f.below f.passes) m;
    answers = λ z k y c c' m. unfold find_downstream in
        let f = first_some (λ j. same_text (request_in b j).downstream e.ids.downstream) (length b.requests) k y in
        let l : k < length b.requests = f.below in
        let s : k + 1 - 1 ≡ k = omega arith in
        made (request_in b k).order (((good p b w).request k l).order) (names.downstream z k l f.passes)
        (inr (omega arith, omega arith, ap (λ (j : ℕ). (request_in b j).order) s)) m;
    asks = λ z i y c c' m. unfold find_name in
        let f = first_some (λ j. same_text (order_in b j).names.name e.ids.name) (length b.orders) i y in
        asked i f.below (names.name (named z) i f.below f.passes) m;
  })

  -- ---- so what it touches passes

  passing : (i l : ℕ) → p i ≡ true → OwnLink b i l → Passing p b l
  passing i l h (inl z) = left.none z
  passing i l h (inr (a, m, o)) = left.some (l - 1) (omega arith) (ap p o ∙ h) (omega arith)

  booking_is : (d : Change) → d ≡ booking b e → (d.place ≡ length b.orders + 1) × (d.requests.answered ≡ 0) × (d.requests.superseded ≡ 0) × (d.requests.request.order ≡ length b.orders)
  booking_is d z =
      subst (λ (y : Change). (y.place ≡ length b.orders + 1) × (y.requests.answered ≡ 0) × (y.requests.superseded ≡ 0) × (y.requests.request.order ≡ length b.orders)) (sym z)
      (unfold adding first_request unchanged in (refl, refl, refl, refl))

  pub done_fits : (d : Change) → d.refusal ≡ 0 → Done p b e d → Fits p b d
  done_fits d t (away z) = clash _ (eq-eqb d.refusal 0 t) z
  done_fits d t (still s) = record { place = nowhere s.place; answers = left.none s.answers; supersedes = left.none s.supersedes; adds = inl s.adds }
  done_fits d t (one i l h s) = record {
    place = there i (omega arith) h s.place;
    answers = passing i _ h s.answers;
    supersedes = passing i _ h s.supersedes;
    adds = go s.adds;
  }
    where
      go : (d.requests.added ≡ 0) ⊎ (d.requests.request.order ≡ i) → (d.requests.added ≡ 0) ⊎ (p d.requests.request.order ≡ true)
      go (inl y) = inl y
      go (inr y) = inr (ap p y ∙ h)
  done_fits d t (new z) =
      let (x, y, u, v) = booking_is d z in
      record {
        place = there (length b.orders) (omega arith) (w.more (length b.orders) (omega arith)) x;
        answers = left.none y;
        supersedes = left.none u;
        adds = inr (ap p v ∙ w.more (length b.orders) (omega arith));
      }
