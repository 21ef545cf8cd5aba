-- The laws of every book and every event: the status that is set, alarm 6, and the source of a price. Rests on Handled, Quiet and Filled.
use Rattle.std.proofs.Common.{ℕ, ◌+◌, ◌≤◌, ◌<◌, arith, ◌≡◌, refl, sym, ap, ◌∙◌, subst, ◌⊎◌, inl, inr, Bool, true, false, not, Option, None, Some, eqb, length, eqb-true, eq-eqb}
use Rattle.std.proofs.lemmas.Bool.{eqb-false, cases_Bool}
use Rattle.prelude.specs.Cases.{if◌then◌otherwise◌}
use Rattle.prelude.specs.Laws.Cases.{split_if, split_maybe, if_true, maybe_none, maybe_some, clash, same_some}
use Rattle.prelude.specs.Totals.{Every, every[], every∷}
use Rattle.records.specs.Answer.{chosen}
use Rattle.store.specs.declared.Order.{Order}
use Rattle.store.specs.declared.Request.{Request}
use Rattle.store.specs.Book.{Book, order_in, request_in}
use Rattle.store.specs.Finds.{find_downstream}
use Rattle.machine.specs.Constants.{filled_short}
use Rattle.machine.specs.Changes.{Event, Message, unchanged, refusing, alarming}
use Rattle.machine.specs.Amend.{venue_cancel_reject}
use Rattle.machine.specs.Report.{unknown_at_venue}
use Rattle.machine.specs.Machine.{order_link, findings_of, on_request, unknown_report, on_report, change_of, has_room, step_of, after}
use Rattle.machine.specs.Rules.{rules}
use Rattle.machine.specs.History.{messages_of}
use Rattle.machine.specs.Status.{refuses, reports, takes_refusal, takes_report, Left, StatusSet, short_of, taken_short, SixRight}
use Rattle.machine.specs.Sources.{SourcesRight}
use Rattle.machine.specs.declared.Findings.{Findings}
use Rattle.machine.specs.declared.Change.{Change}
use Rattle.machine.proofs.Walked.{not_kind, on_report_made, unknown_made, reject_made}
use Rattle.machine.proofs.Claim.Ruled.{ruled, request_ruled}
use Rattle.machine.proofs.Claim.Walk.{Either, found_request}
use Rattle.machine.proofs.Claim.Filled.{Moved, handles_moved, orders_set, after_orders, at}
use Rattle.machine.proofs.Venue.Frame.{Fits}
use Rattle.machine.proofs.Venue.Quiet.{Said, change_quiet}
use Rattle.machine.proofs.Venue.Handled.{six, T, reject_right, word_right, on_report_right}

-- ---- the messages of a change

all_said : {P : Message → Type 0} {A : ℕ → Type 0} {O : Order → Type 0} (c : Change) → Fits P A O c → Every P (chosen c.output.count c.output.first c.output.second)
all_said c h =
    split_if (Every _) (eqb c.output.count 0) (λ z. every[])
    (λ z. split_if (Every _) (eqb c.output.count 1) (λ y. every∷ (h.first z) every[]) (λ y. every∷ (h.first z) (every∷ (h.second z y) every[])))

-- ---- the step is the change

pub step_change : (b : Book) (e : Event) → (step_of b e).refusal ≡ 0 → step_of b e ≡ change_of b e
unfolding step_of refusing
step_change b e =
    split_if (λ (c : Change). c.refusal ≡ 0 → c ≡ change_of b e) (not (eqb (change_of b e).refusal 0)) (λ t z. refl)
    (λ t. split_if (λ (c : Change). c.refusal ≡ 0 → c ≡ change_of b e) (has_room b (change_of b e)) (λ h z. refl) (λ h z. absurd (omega arith)))

-- ---- an event of a venue, by its kind

not_low : {X : Type 0} (e : Event) (n : ℕ) → n ≤ 3 → 4 ≤ e.kind → eqb e.kind n ≡ true → X
not_low e n l low z = let y : e.kind ≡ n = eqb-true e.kind n z in absurd (omega arith)

-- what holds of the three handlings holds of the change
venues : (P : Change → Type 0) (b : Book) (e : Event) → 4 ≤ e.kind → e.kind ≤ 6
    → (eqb e.kind 4 ≡ true → P (on_request unknown_report (on_report e) b e))
    → (eqb e.kind 5 ≡ true → P (on_request unknown_report (λ f k q o. unknown_at_venue f k o e) b e))
    → (eqb e.kind 6 ≡ true → P (on_request unknown_report (λ f k q o. venue_cancel_reject f k q o e) b e))
    → P (change_of b e)
unfolding change_of
venues P b e low high four five six =
    split_if P (eqb e.kind 1) (not_low e 1 (omega arith) low)
    (λ t₁. split_if P (eqb e.kind 2) (not_low e 2 (omega arith) low)
    (λ t₂. split_if P (eqb e.kind 3) (not_low e 3 (omega arith) low)
    (λ t₃. split_if P (eqb e.kind 4) four
    (λ t₄. split_if P (eqb e.kind 5) five
    (λ t₅. split_if P (eqb e.kind 6) six
    (λ t₆.
    let a : (e.kind ≡ 4 → ⊥) = eqb-false e.kind 4 t₄ in
    let c : (e.kind ≡ 5 → ⊥) = eqb-false e.kind 5 t₅ in
    let d : (e.kind ≡ 6 → ⊥) = eqb-false e.kind 6 t₆ in
    absurd (omega arith)))))))

-- it names no request
record Mute (c : Change) : Type 0 where
  alarm : eqb c.output.alarm filled_short ≡ false
  count : eqb c.output.count 0 ≡ true

mute : (b : Book) (e : Event) → find_downstream b e.ids.downstream ≡ None → (handle : Findings → ℕ → Request → Order → Change) → Mute (on_request unknown_report handle b e)
unfolding on_request unchanged alarming if◌then◌otherwise◌
mute b e w handle = subst Mute (sym (maybe_none (find_downstream b e.ids.downstream) _ _ w)) (record { alarm = refl; count = refl })

-- or one of the book: the change is of its order, and is right
module _ (b : Book) (e : Event) (k : ℕ) (w : find_downstream b e.ids.downstream ≡ Some k) where
  abbrev q : Request
  q = request_in b k

  abbrev o : Order
  o = order_in b q.order

  mine : (j : ℕ) → find_downstream b e.ids.downstream ≡ Some j → order_in b (request_in b j).order ≡ o
  mine j v = ap (λ (n : ℕ). order_in b (request_in b n).order) (same_some v w)

  record Found (c : Change) : Type 0 where
    moved : Either (Moved b e q.order c) c
    right : T b (k + 1) q o e c

  named : (handle : Findings → ℕ → Request → Order → Change) → Found (handle (findings_of b (order_link b k)) (k + 1) q o) → Found (on_request unknown_report handle b e)
  unfolding on_request
  named handle = subst Found (sym (maybe_some (find_downstream b e.ids.downstream) k _ _ w))

  found : 4 ≤ e.kind → e.kind ≤ 6 → Found (change_of b e)
  found low high =
      let m = handles_moved b e in
      venues Found b e low high
      (λ z. named (on_report e) (record { moved = m.answers (not_kind e 4 2 z refl) (not_kind e 4 9 z refl) k w (on_report_made (k + 1) q o e _ _ _ _ z); right = on_report_right b (k + 1) q o e _ z mine }))
      (λ z. named (λ f k q o. unknown_at_venue f k o e) (record { moved = m.answers (not_kind e 5 2 z refl) (not_kind e 5 9 z refl) k w (unknown_made (k + 1) q o e _ _ _ _); right = word_right b (k + 1) q o e _ z }))
      (λ z. named (λ f k q o. venue_cancel_reject f k q o e) (record { moved = m.answers (not_kind e 6 2 z refl) (not_kind e 6 9 z refl) k w (reject_made (k + 1) q o e _ _ _ _ z); right = reject_right b (k + 1) q o e _ z }))

  placed : rules b ≡ true → (c : Change) → c.refusal ≡ 0 → Found c → order_in (after b c) q.order ≡ c.order
  unfolding Either Moved
  placed keeps c z f = go f.moved
    where
      go : Either (Moved b e q.order c) c → order_in (after b c) q.order ≡ c.order
      go (inl y) = clash _ (eq-eqb c.refusal 0 z) y
      go (inr y) =
          let h : q.order < length b.orders = (request_ruled b (ruled b keeps) k (found_request b e.ids.downstream k w)).placed in
          at b c q.order h y.1 (after b c) (after_orders b c ∙ orders_set b.orders c q.order h y.1.there)

  module _ (keeps : rules b ≡ true) (z : (step_of b e).refusal ≡ 0) (low : 4 ≤ e.kind) (high : e.kind ≤ 6) where
    step_found : Found (step_of b e)
    step_found = subst Found (sym (step_change b e z)) (found low high)

    left : Left (k + 1) q o e (order_in (after b (step_of b e)) q.order)
    left = subst (Left (k + 1) q o e) (sym (placed keeps (step_of b e) z step_found)) step_found.right.order

    short_left : six b (k + 1) q o e ≡ short_of (k + 1) q o e (order_in (after b (step_of b e)) q.order)
    unfolding six short_of
    short_left = rw (left.cumqty, left.qty) refl

-- ---- THE STATUS THAT IS SET

pub status_set : StatusSet
status_set b e keeps z low high k w = left b e k w keeps z low high

-- ---- ALARM 6

-- neither a report nor a refusal
not_taken : (b : Book) (e : Event) (left : Book) → eqb e.kind 4 ≡ false → eqb e.kind 6 ≡ false → taken_short b e left ≡ false
unfolding taken_short short_of takes_refusal takes_report refuses reports
not_taken b e left four six = split_maybe (λ (t : Bool). t ≡ false) (find_downstream b e.ids.downstream) (λ z. refl) (λ k z. rw (four, six) refl)

venue_six : (b : Book) (e : Event) → rules b ≡ true → (step_of b e).refusal ≡ 0 → 4 ≤ e.kind → e.kind ≤ 6
    → eqb (step_of b e).output.alarm filled_short ≡ taken_short b e (after b (step_of b e))
unfolding taken_short
venue_six b e keeps z low high = go (find_downstream b e.ids.downstream) refl
  where
    go : (x : Option ℕ) → find_downstream b e.ids.downstream ≡ x → eqb (step_of b e).output.alarm filled_short ≡ taken_short b e (after b (step_of b e))
    go None w =
        ap (λ (c : Change). eqb c.output.alarm filled_short) (step_change b e z)
        ∙ (venues Mute b e low high (λ y. mute b e w _) (λ y. mute b e w _) (λ y. mute b e w _)).alarm
        ∙ sym (maybe_none (find_downstream b e.ids.downstream) _ _ w)
    go (Some k) w =
        (step_found b e k w keeps z low high).right.alarm ∙ short_left b e k w keeps z low high
        ∙ sym (maybe_some (find_downstream b e.ids.downstream) k _ _ w)

by_kind_lem : {X : Type 0} (e : Event) → (4 ≤ e.kind → e.kind ≤ 6 → X) → (eqb e.kind 4 ≡ false → eqb e.kind 6 ≡ false → X) → X
by_kind_lem {X} e venue other = go (cases_Bool (eqb e.kind 4)) (cases_Bool (eqb e.kind 6))
  where
    go : (eqb e.kind 4 ≡ true) ⊎ (eqb e.kind 4 ≡ false) → (eqb e.kind 6 ≡ true) ⊎ (eqb e.kind 6 ≡ false) → X
    go (inl y) x = let v : e.kind ≡ 4 = eqb-true e.kind 4 y in venue (omega arith) (omega arith)
    go (inr y) (inl x) = let v : e.kind ≡ 6 = eqb-true e.kind 6 x in venue (omega arith) (omega arith)
    go (inr y) (inr x) = other y x

pub six_right : SixRight
six_right b e keeps z =
    by_kind_lem e (venue_six b e keeps z)
    (λ no no'.
    ap (λ (c : Change). eqb c.output.alarm filled_short) (step_change b e z) ∙ (change_quiet b e no no').alarm ∙ sym (not_taken b e (after b (step_of b e)) no no'))

-- ---- SOURCE 0

record AllSaid (b : Book) (e : Event) (c : Change) : Type 0 where
  all : Every (Said b e) (chosen c.output.count c.output.first c.output.second)

change_said : (b : Book) (e : Event) → AllSaid b e (change_of b e)
change_said b e = by_kind_lem e venue (λ no no'. record { all = all_said _ (change_quiet b e no no') })
  where
    go : 4 ≤ e.kind → e.kind ≤ 6 → (x : Option ℕ) → find_downstream b e.ids.downstream ≡ x → AllSaid b e (change_of b e)
    go low high None w =
        let m = venues Mute b e low high (λ y. mute b e w _) (λ y. mute b e w _) (λ y. mute b e w _) in
        record { all = subst (Every (Said b e)) (sym (if_true _ _ _ m.count)) every[] }
    go low high (Some k) w = record { all = all_said _ (found b e k w low high).right }

    venue : 4 ≤ e.kind → e.kind ≤ 6 → AllSaid b e (change_of b e)
    venue low high = go low high (find_downstream b e.ids.downstream) refl

pub sources_right : SourcesRight
unfolding messages_of
sources_right b e =
    split_if (Every (Said b e)) (eqb (step_of b e).refusal 0)
    (λ z. (subst (AllSaid b e) (sym (step_change b e (eqb-true _ 0 z))) (change_said b e)).all) (λ z. every[])
