-- What the handling of a venue's event does: the order that it leaves, alarm 6, and the source of the price that it tells. Rests on Frame and Sets.
use Rattle.std.proofs.Common.{ℕ, ◌-◌, max, ◌≤◌, ◌<◌, arith, ◌≡◌, refl, sym, ap, ◌∙◌, ◌⊎◌, inl, inr, Bool, true, false, not, ◌&&◌, ◌||◌, Some, eqb, ltb, ne_eqb, ltb-false}
use Rattle.std.proofs.Math.Nat.{max-eq_left}
use Rattle.std.proofs.lemmas.Bool.{not-true, not-false, or_parts, cases_Bool}
use Rattle.prelude.specs.Cases.{if◌then◌otherwise◌}
use Rattle.prelude.specs.Laws.Cases.{split_if, if_true, if_false, clash}
use Rattle.wide.specs.Laws.Price.{source_range}
use Rattle.format.specs.Codes.{filled, rejected}
use Rattle.store.specs.declared.Order.{Order}
use Rattle.store.specs.declared.Request.{Request}
use Rattle.store.specs.Book.{Book, order_in, request_in}
use Rattle.store.specs.Finds.{find_downstream}
use Rattle.machine.specs.Constants.{filled_short}
use Rattle.machine.specs.Orders.{is_done, short_alarm}
use Rattle.machine.specs.Messages.{report}
use Rattle.machine.specs.Changes.{Event, unchanged, is_first, is_answered, numbered_order}
use Rattle.machine.specs.Amend.{refused_order, refused_alarm, refuse_request, venue_cancel_reject}
use Rattle.machine.specs.Report.{says_unknown_at_venue, unknown_at_venue, is_rejection, stale, repeats, accepts, dropped_stale, dropped_repeat, status_taken, ordered_qty, reported_order, fill_price_of, client_report, apply_report, venue_report}
use Rattle.machine.specs.Machine.{on_report}
use Rattle.machine.specs.Status.{refuses, reports, qty_by, heard, takes_refusal, takes_report, brings, refused_to, reported_to, Left}
use Rattle.machine.specs.declared.Findings.{Findings}
use Rattle.machine.specs.declared.Refused.{Refused}
use Rattle.machine.specs.declared.Change.{Change}
use Rattle.machine.proofs.Walked.{not_kind}
use Rattle.machine.proofs.Venue.Frame.{Fits, Ways, unchanged_fits, telling_fits, settles_fits, alarming_fits, resume_fits, refuse_fits}
use Rattle.machine.proofs.Venue.Quiet.{Said, others_said}
use Rattle.machine.proofs.Venue.Sets.{Is, IsOwn, own_is, named_is, next_is, refused_done, refused_live, reported_is, short_six}

-- ---- a test that fails, among those of a status that is taken

off_venue : (a v d x : Bool) → v ≡ false → a && ((v && d) && x) ≡ false
off_venue a v d x h = grind arith

off_done : (a v d x : Bool) → d ≡ false → a && ((v && d) && x) ≡ false
off_done a v d x h = grind arith

off_third : (a h n x : Bool) → n ≡ false → a && (h && (n && x)) ≡ false
off_third a h n x e = grind arith

off_fourth : (a h n f x : Bool) → f ≡ false → a && (h && (n && (f && x))) ≡ false
off_fourth a h n f x e = grind arith

off_last : (a h n x : Bool) → x ≡ false → a && (h && (n && x)) ≡ false
off_last a h n x e = grind arith

off_fifth : (a h n f x : Bool) → x ≡ false → a && (h && (n && (f && x))) ≡ false
off_fifth a h n f x e = grind arith

-- a venue's price has a source
sourced : (o : Order) (e : Event) → 0 < (fill_price_of o e).source
unfolding fill_price_of
sourced o e = (source_range e.exec.lastqty e.exec.lastpx e.exec.cumqty e.exec.avgpx o.state.cumqty o.state.avgpx (e.exec.cumqty - o.state.cumqty)).0

-- ---- an order, and an event that names the request k of it

module _ (b : Book) (k : ℕ) (q : Request) (o : Order) (e : Event) where
  abbrev cum_by : ℕ
  cum_by = if takes_report k q o e then e.exec.cumqty otherwise o.state.cumqty

  abbrev ordered : ℕ
  ordered = if takes_report k q o e then qty_by k q o e otherwise o.terms.qty

  unfoldable pub six : Bool
  six = (takes_refusal q o e || takes_report k q o e) && (eqb (brings k q o e) filled && ltb cum_by ordered)

  abbrev pub Six : ℕ → Type 0
  Six a = eqb a filled_short ≡ six

  abbrev pub L : Order → Type 0
  L = Left k q o e

  abbrev pub T : Change → Type 0
  T = Fits (Said b e) Six L

  behind_six : (a : ℕ) → Six a → Six (if eqb a 0 then 1 otherwise a)
  behind_six a h = split_if Six (eqb a 0) (λ z. sym (zero a z) ∙ h) (λ z. h)
    where
      zero : (a : ℕ) → eqb a 0 ≡ true → eqb a filled_short ≡ false
      zero a z = ne_eqb a filled_short (λ y. clash _ z (ne_eqb a 0 (λ x. omega arith)))

  ways : Ways (Said b e) Six L
  unfolding numbered_order
  ways = record {
    others = others_said b e;
    behind = behind_six;
    sent = λ f x l. record { cumqty = l.cumqty; qty = l.qty; status = l.status };
    given = λ x l. record { cumqty = l.cumqty; qty = l.qty; status = l.status };
  }

  -- nothing is taken
  none : takes_refusal q o e ≡ false → takes_report k q o e ≡ false → (x : Order) → IsOwn o x → Six 0 × L x
  unfolding six
  none p p' x i = (
    rw (p, p') refl,
    record {
      cumqty = i.filled! ∙ sym (if_false _ _ _ p');
      qty = i.ordered ∙ sym (if_false _ _ _ p');
      status = i.status ∙ sym (if_false _ _ _ p ∙ if_false _ _ _ p');
    },
  )

  -- a refusal is
  by_refusal : takes_refusal q o e ≡ true → takes_report k q o e ≡ false → (s a : ℕ) (x : Order) → brings k q o e ≡ s
      → Is (refused_to o s) o.terms.qty o.state.cumqty x → eqb a filled_short ≡ eqb s filled && ltb o.state.cumqty o.terms.qty → Six a × L x
  unfolding six if◌then◌otherwise◌
  by_refusal p p' s a x w i h = (
    rw (p, p', w) h,
    record {
      cumqty = i.filled! ∙ sym (if_false _ _ _ p');
      qty = i.ordered ∙ sym (if_false _ _ _ p');
      status = i.status ∙ sym (if_true _ _ _ p ∙ ap (refused_to o) w);
    },
  )

  -- a report is
  by_report : takes_refusal q o e ≡ false → takes_report k q o e ≡ true → (s : ℕ) → brings k q o e ≡ s
      → ((a : ℕ) → eqb a filled_short ≡ eqb s filled && ltb e.exec.cumqty (qty_by k q o e) → Six a)
      × ((x : Order) → Is (reported_to (qty_by k q o e) e.exec.cumqty o s) (qty_by k q o e) e.exec.cumqty x → L x)
  unfolding six if◌then◌otherwise◌
  by_report p p' s w = (
    λ a h. rw (p, p', w) h,
    λ x i. record {
      cumqty = i.filled! ∙ sym (if_true _ _ _ p');
      qty = i.ordered ∙ sym (if_true _ _ _ p');
      status = i.status ∙ sym (if_false _ _ _ p ∙ if_true _ _ _ p' ∙ ap (reported_to (qty_by k q o e) e.exec.cumqty o) w);
    },
  )

  -- ---- a refusal

  of_first : is_first q ≡ true → takes_refusal q o e ≡ false
  unfolding takes_refusal
  of_first z = off_last (refuses q e) (heard o e) (not (is_answered q)) (not (is_first q)) (ap not z)

  of_other : eqb o.venue e.venue ≡ false → takes_refusal q o e ≡ false
  unfolding takes_refusal
  of_other z = off_venue (refuses q e) (eqb o.venue e.venue) (not (is_done o.state.status)) (not (is_answered q) && not (is_first q)) z

  of_done : is_done o.state.status ≡ true → takes_refusal q o e ≡ false
  unfolding takes_refusal
  of_done z = off_done (refuses q e) (eqb o.venue e.venue) (not (is_done o.state.status)) (not (is_answered q) && not (is_first q)) (ap not z)

  of_answered : is_answered q ≡ true → takes_refusal q o e ≡ false
  unfolding takes_refusal
  of_answered z = off_third (refuses q e) (heard o e) (not (is_answered q)) (not (is_first q)) (ap not z)

  module _ (f : Findings) (r : Refused) (ref : refuses q e ≡ true) (rep : reports q e ≡ false) (w : brings k q o e ≡ r.status) where
    no_report : takes_report k q o e ≡ false
    unfolding takes_report
    no_report = rw rep refl

    gone : is_first q ≡ false → eqb o.venue e.venue ≡ true → is_answered q ≡ false → Six (refused_alarm r o) × L (refused_order k r o)
    unfolding refused_alarm takes_refusal
    gone a v n = go (cases_Bool (is_done o.state.status))
      where
        go : (is_done o.state.status ≡ true) ⊎ (is_done o.state.status ≡ false) → Six (refused_alarm r o) × L (refused_order k r o)
        go (inl d) =
            let y = none (of_done d) no_report (refused_order k r o) (refused_done k r o d) in
            (ap (λ (x : ℕ). eqb x filled_short) (if_true _ _ _ d) ∙ y.0, y.1)
        go (inr d) =
            by_refusal (rw (ref, v, d, n, a) refl) no_report r.status (refused_alarm r o) (refused_order k r o) w (refused_live k r o d)
            (ap (λ (x : ℕ). eqb x filled_short) (if_false _ _ _ d) ∙ short_six _ _ _)

    refuse_right : T (refuse_request f k q e.venue r o)
    refuse_right =
        refuse_fits ways f k q e.venue r o
        (λ z. none (of_first z) no_report o (own_is o)) (λ z. none (of_other z) no_report o (own_is o)) (λ z. none (of_answered z) no_report o (own_is o)) gone

  -- ---- event 6

  six_refuses : eqb e.kind 6 ≡ true → refuses q e ≡ true
  unfolding refuses
  six_refuses z = rw z refl

  six_reports : eqb e.kind 6 ≡ true → reports q e ≡ false
  unfolding reports
  six_reports z = rw (not_kind e 6 4 z refl) refl

  six_brings : eqb e.kind 6 ≡ true → brings k q o e ≡ e.exec.status
  unfolding brings
  six_brings z = if_true _ _ _ (six_refuses z) ∙ if_false _ _ _ (ap (λ (t : Bool). t && eqb e.exec.status rejected) (not_kind e 6 4 z refl))

  pub reject_right : (f : Findings) → eqb e.kind 6 ≡ true → T (venue_cancel_reject f k q o e)
  unfolding venue_cancel_reject
  reject_right f z = resume_fits ways f _ (refuse_right f _ (six_refuses z) (six_reports z) (six_brings z))

  -- ---- event 5, also in the form of an event 4

  unknown_right : (f : Findings) → refuses q e ≡ false → reports q e ≡ false → T (unknown_at_venue f k o e)
  unfolding unknown_at_venue
  unknown_right f ref rep =
      let y = none (unfold takes_refusal in rw ref refl) (unfold takes_report in rw rep refl) o (own_is o) in
      let still : T (unchanged f.place o) = unchanged_fits _ o y.0 y.1 in
      split_if T _ (λ h. still) (λ h. split_if T _ (λ h. still) (λ h. split_if T _ (λ h. still) (λ h. alarming_fits _ _ (unchanged_fits _ o refl y.1) y.0)))

  pub word_right : (f : Findings) → eqb e.kind 5 ≡ true → T (unknown_at_venue f k o e)
  word_right f z = unknown_right f (unfold refuses in rw (not_kind e 5 6 z refl, not_kind e 5 4 z refl) refl) (unfold reports in rw (not_kind e 5 4 z refl) refl)

  -- ---- event 4

  module _ (f : Findings) (four : eqb e.kind 4 ≡ true) (mine : (j : ℕ) → find_downstream b e.ids.downstream ≡ Some j → order_in b (request_in b j).order ≡ o) where
    told_right : (answers : Bool) (rise : ℕ) (x : Order) → Said b e (client_report answers rise q (fill_price_of o e) x e)
    unfolding client_report report
    told_right answers rise x z = record {
      source = rw four (ne_eqb (fill_price_of o e).source 0 (λ y. omega (arith, sourced o e)));
      unpriced = λ y. let v : (fill_price_of o e).source ≡ 0 = y in absurd (omega (arith, sourced o e));
      priced = λ y j v. rw (mine j v) (refl, refl);
    }

    module _ (known : says_unknown_at_venue e ≡ false) (own : is_rejection e && not (is_first q) ≡ false) where
      ref : refuses q e ≡ false
      unfolding refuses
      ref = rw (not_kind e 4 6 four refl, four, known, own) refl

      rep : reports q e ≡ true
      unfolding reports
      rep = rw (four, known, own) refl

      no_refusal : takes_refusal q o e ≡ false
      unfolding takes_refusal
      no_refusal = rw ref refl

      brought : brings k q o e ≡ status_taken k q o e
      unfolding brings status_taken
      brought = if_false _ _ _ ref

      live : stale k q o e ≡ false → is_done o.state.status ≡ false
      unfolding stale
      live h =
          (or_parts (is_done o.state.status) (ltb e.exec.cumqty o.state.cumqty)
          (or_parts (is_done o.state.status || ltb e.exec.cumqty o.state.cumqty) _ h).0).0

      not_lower : stale k q o e ≡ false → o.state.cumqty ≤ e.exec.cumqty
      unfolding stale
      not_lower h =
          ltb-false _ _ (or_parts (is_done o.state.status) (ltb e.exec.cumqty o.state.cumqty)
          (or_parts (is_done o.state.status || ltb e.exec.cumqty o.state.cumqty) _ h).0).1

      applied_is : Is (reported_to (qty_by k q o e) e.exec.cumqty o (status_taken k q o e)) (qty_by k q o e) e.exec.cumqty
          (reported_order (accepts k q o e) (status_taken k q o e) q o e)
      unfolding qty_by ordered_qty
      applied_is = reported_is (accepts k q o e) (status_taken k q o e) q o e

      short_alarm_lem : eqb (short_alarm (ordered_qty (accepts k q o e) o) e.exec.cumqty (status_taken k q o e)) filled_short
          ≡ eqb (status_taken k q o e) filled && ltb e.exec.cumqty (qty_by k q o e)
      unfolding qty_by ordered_qty
      short_alarm_lem = short_six _ _ _

      apply_right : takes_report k q o e ≡ true → Fits (Said b e) (λ a. a ≡ 0) L (apply_report f k q o e)
      unfolding apply_report
      apply_right p =
          let to = (by_report no_refusal p (status_taken k q o e) brought).1 in
          split_if (Fits (Said b e) (λ a. a ≡ 0) L) _ (λ h. settles_fits _ (unchanged_fits _ _ refl (to _ applied_is)) _ _ k q o)
          (λ h. telling_fits _ (settles_fits _ (unchanged_fits _ _ refl (to _ (next_is _ _ _ _ applied_is))) _ _ k q o) _ (told_right _ _ _))

      abbrev fresh : Bool
      fresh = not (stale k q o e)

      abbrev told : Bool
      told = not (repeats k o e)

      abbrev spare : Bool
      spare = not (ltb (qty_by k q o e) e.exec.cumqty)

      other : not (eqb o.venue e.venue) ≡ true → takes_report k q o e ≡ false
      unfolding takes_report
      other v = off_venue (reports q e) (eqb o.venue e.venue) (not (is_done o.state.status)) (fresh && (told && spare)) (not-true (eqb o.venue e.venue) v)

      old : stale k q o e ≡ true → takes_report k q o e ≡ false
      unfolding takes_report
      old s = off_third (reports q e) (heard o e) fresh (told && spare) (ap not s)

      again : repeats k o e ≡ true → takes_report k q o e ≡ false
      unfolding takes_report
      again r = off_fourth (reports q e) (heard o e) fresh told spare (ap not r)

      module _ (s : stale k q o e ≡ false) where
        passes : ltb (qty_by k q o e) e.exec.cumqty ≡ ltb (ordered_qty (accepts k q o e) o) (max e.exec.cumqty o.state.cumqty)
        unfolding qty_by ordered_qty
        passes = ap (ltb (if accepts k q o e then o.pending.qty otherwise o.terms.qty)) (sym (max-eq_left (not_lower s)))

        over : ltb (ordered_qty (accepts k q o e) o) (max e.exec.cumqty o.state.cumqty) ≡ true → takes_report k q o e ≡ false
        unfolding takes_report
        over u = off_fifth (reports q e) (heard o e) fresh told spare (ap not (passes ∙ u))

        taken : not (eqb o.venue e.venue) ≡ false → repeats k o e ≡ false
            → ltb (ordered_qty (accepts k q o e) o) (max e.exec.cumqty o.state.cumqty) ≡ false → takes_report k q o e ≡ true
        unfolding takes_report
        taken v r u = rw (rep, not-false (eqb o.venue e.venue) v, live s, s, r, passes ∙ u) refl

      report_right : T (venue_report f k q o e)
      unfolding venue_report dropped_stale dropped_repeat
      report_right =
          let still : takes_report k q o e ≡ false → Six 0 × L o = λ p. none no_refusal p o (own_is o) in
          split_if T _ (λ h. clash _ h own)
          (λ h. split_if T _ (λ v. let y = still (other v) in unchanged_fits _ o y.0 y.1)
          (λ v. split_if T (stale k q o e)
          (λ s. let y = still (old s) in split_if T _ (λ t. alarming_fits _ _ (unchanged_fits _ o refl y.1) y.0) (λ t. unchanged_fits _ o y.0 y.1))
          (λ s. split_if T (repeats k o e)
          (λ r. let y = none no_refusal (again r) _ (named_is e.ids.venueorderid o) in unchanged_fits _ _ y.0 y.1)
          (λ r. split_if T _ (λ u. let y = still (over s u) in alarming_fits _ _ (unchanged_fits _ o refl y.1) y.0)
          (λ u. alarming_fits _ _ (apply_right (taken s v r u)) ((by_report no_refusal (taken s v r u) (status_taken k q o e) brought).0 (short_alarm (ordered_qty (accepts k q o e) o) e.exec.cumqty (status_taken k q o e)) short_alarm_lem))))))

    module _ (known : says_unknown_at_venue e ≡ false) (rj : is_rejection e && not (is_first q) ≡ true) where
      four_refuses : refuses q e ≡ true
      unfolding refuses
      four_refuses = rw (not_kind e 4 6 four refl, four, known, rj) refl

      four_reports : reports q e ≡ false
      unfolding reports
      four_reports = rw (four, known, rj) refl

      -- a Rejected is the request's
      four_brings : brings k q o e ≡ (if eqb e.exec.status rejected then 0 otherwise e.exec.status)
      unfolding brings
      four_brings = if_true _ _ _ four_refuses ∙ ap (λ (t : Bool). if t && eqb e.exec.status rejected then 0 otherwise e.exec.status) four

      rejected_right : T (venue_report f k q o e)
      unfolding venue_report
      rejected_right = split_if T _ (λ h. resume_fits ways f _ (refuse_right f _ four_refuses four_reports four_brings)) (λ h. clash _ rj h)

    unknown_four : says_unknown_at_venue e ≡ true → T (unknown_at_venue f k o e)
    unknown_four u = unknown_right f (unfold refuses in rw (not_kind e 4 6 four refl, four, u) refl) (unfold reports in rw (four, u) refl)

    pub on_report_right : T (on_report e f k q o)
    unfolding on_report
    on_report_right = split_if T (says_unknown_at_venue e) unknown_four (λ u. go u (cases_Bool (is_rejection e && not (is_first q))))
      where
        go : says_unknown_at_venue e ≡ false → (is_rejection e && not (is_first q) ≡ true) ⊎ (is_rejection e && not (is_first q) ≡ false) → T (venue_report f k q o e)
        go u (inl rj) = rejected_right u rj
        go u (inr own) = report_right u own
