-- Demand 1 on bytes. Rests on Taken and Refusals.
use Rattle.std.proofs.Common.{ℕ, zero, suc, ◌≤◌, ◌<◌, arith, ◌≡◌, refl, sym, ap, ◌∙◌, subst, ◌⊎◌, inl, inr, ⊎_elim, Bool, true, false, not, ◌&&◌, List, eqb, leb, ltb, length, eqb-true, eq-eqb, leb-true, ltb-true, ltb-false, lt-ltb, le-ltb}
use Rattle.std.proofs.lemmas.Bool.{eqb-false, not-true, not-false, and_parts, or_cases}
use Rattle.std.proofs.Math.Bool.{or-true}
use Rattle.prelude.specs.Cases.{if◌then◌otherwise◌}
use Rattle.prelude.specs.Laws.Cases.{split_if, if_true, if_false, clash}
use Rattle.records.specs.Record.{event_in}
use Rattle.store.specs.Layout.{most_orders, most_requests}
use Rattle.store.specs.Book.{Book, is_book, book_of, blank}
use Rattle.machine.specs.declared.Change.{Change}
use Rattle.machine.specs.Changes.{Event, refusing}
use Rattle.machine.proofs.Claim.Ruled.{ruled}
use Rattle.machine.proofs.Kept.Indexed.{BookKept, book_kept}
use Rattle.rules.specs.Keeps.{keeps_of}
use Rattle.claims.specs.Questions.{is_booking, used, mispriced, adds, full, first_no}
use Rattle.claims.specs.Claims.{Reads, Numbers, Grown, Counted, Demand1}
use Rattle.kept.proofs.Header.{blank_keeps}
use Rattle.claims.proofs.Refusals.{step_number, step_grown}
use Rattle.kept.proofs.Taken.{Asked, broken, short, unreadable, stepped, asked, returned_is, writes, keeps_after}
use Rattle.claims.proofs.Taken.{check_kept, check_broken, kept_check, either_way}
use Rattle.step.specs.Entries.{Returned, call_of, event_of, start_refusal, start_of, check_of}
use Rattle.format.specs.Refusal.{event_refusal}
use Rattle.rules.specs.Laws.Keeps.{keeps_held}

-- ---- the number

record_number : (r : List ℕ) → (event_refusal r ≡ 0) ⊎ ((event_refusal r ≡ 3) ⊎ (event_refusal r ≡ 4))
unfolding event_refusal
record_number r =
    let P : ℕ → Type 0 = λ n. (n ≡ 0) ⊎ ((n ≡ 3) ⊎ (n ≡ 4)) in
    split_if P _ (λ t. split_if P _ (λ u. inl refl) (λ u. inr (inr refl))) (λ t. inr (inl refl))

asked_number : (b r a : List ℕ) (c : Change) → Asked b r a c → c.refusal ≡ first_no b r a
unfolding first_no refusing if◌then◌otherwise◌
asked_number b r a c (broken k) = rw k refl
asked_number b r a c (short k l) = rw (k, lt-ltb (length a) 1024 l) refl
asked_number b r a c (unreadable k l n) = go (record_number r)
  where
    go : (event_refusal r ≡ 0) ⊎ ((event_refusal r ≡ 3) ⊎ (event_refusal r ≡ 4)) → event_refusal r ≡ first_no b r a
    go (inl z) = absurd (n z)
    go (inr (inl z)) = rw (k, le-ltb (length a) 1024 l, z) refl
    go (inr (inr z)) = rw (k, le-ltb (length a) 1024 l, z) refl
asked_number b r a c (stepped k l z) =
    rw (k, le-ltb (length a) 1024 l, z) (step_number (book_of b) (ruled (book_of b) (keeps_held b k).rules) (event_in r))

first_no_lem : (b r a : List ℕ) → (event_of b r a).returned ≡ first_no b r a
first_no_lem b r a = returned_is b r a ∙ asked_number b r a (call_of b r (length a)) (asked b r a)

-- ---- what each number says

-- one of the tables that the event wants is full
abbrev Counts : Book → Event → Type 0
Counts b e = ((e.kind ≡ 1) × (length b.orders ≡ most_orders)) ⊎ ((adds b e ≡ true) × (length b.requests ≡ most_requests))

counts_full : (b : Book) (e : Event) → Counts b e → full b e ≡ true
unfolding full
counts_full b e (inl x) = rw (eq-eqb e.kind 1 x.0, x.1) refl
counts_full b e (inr x) = rw (x.0, x.1) (or-true (is_booking e && leb most_orders (length b.orders)))

full_counts : (b : Book) (e : Event) → BookKept b → full b e ≡ true → Counts b e
unfolding full
full_counts b e good t =
    ⊎_elim
    (λ x. let (k, l) = and_parts (is_booking e) (leb 64 (length b.orders)) x in
    inl (eqb-true e.kind 1 k, omega (arith, leb-true 64 (length b.orders) l, good.orders)))
    (λ x. let (k, l) = and_parts (adds b e) (leb 256 (length b.requests)) x in
    inr (k, omega (arith, leb-true 256 (length b.requests) l, good.requests)))
    (or_cases _ _ t)

module _ (b r a : List ℕ) where
  -- by the number
  abbrev Says : ℕ → Type 0
  Says zero = Unit {0}
  Says (suc zero) = check_of b ≡ 1
  Says (suc (suc zero)) = (check_of b ≡ 0) × (length a < 1024)
  Says (suc (suc (suc zero))) = (check_of b ≡ 0) × (1024 ≤ length a) × (event_refusal r ≡ 3)
  Says (suc (suc (suc (suc zero)))) = (check_of b ≡ 0) × (1024 ≤ length a) × (event_refusal r ≡ 4)
  Says (suc (suc (suc (suc (suc zero))))) = Reads b r a × (used (book_of b) (event_in r) ≡ true)
  Says (suc (suc (suc (suc (suc (suc zero)))))) = Reads b r a × (used (book_of b) (event_in r) ≡ false) × (mispriced (book_of b) (event_in r) ≡ true)
  Says (suc (suc (suc (suc (suc (suc (suc zero))))))) =
      Reads b r a × (used (book_of b) (event_in r) ≡ false) × (mispriced (book_of b) (event_in r) ≡ false) × Counts (book_of b) (event_in r)
  Says (suc (suc (suc (suc (suc (suc (suc (suc n)))))))) = ⊥

  record Known (n : ℕ) : Type 0 where
    most : n ≤ 7
    says : Says n

  neither : eqb (event_refusal r) 3 ≡ false → eqb (event_refusal r) 4 ≡ false → event_refusal r ≡ 0
  neither u v =
      ⊎_elim (λ z. z) (λ z. ⊎_elim (λ y. clash _ (eq-eqb (event_refusal r) 3 y) u) (λ y. clash _ (eq-eqb (event_refusal r) 4 y) v) z) (record_number r)

  known : Known (first_no b r a)
  unfolding first_no
  known =
      split_if Known (not (keeps_of b)) (λ t. record { most = omega arith; says = check_broken b (not-true (keeps_of b) t) })
      (λ t.
      let k : keeps_of b ≡ true = not-false (keeps_of b) t in
      let c : check_of b ≡ 0 = check_kept b k in
      split_if Known (ltb (length a) 1024) (λ u. record { most = omega arith; says = (c, ltb-true (length a) 1024 u) })
      (λ u.
      let l : 1024 ≤ length a = ltb-false (length a) 1024 u in
      split_if Known (eqb (event_refusal r) 3) (λ v. record { most = omega arith; says = (c, l, eqb-true (event_refusal r) 3 v) })
      (λ v. split_if Known (eqb (event_refusal r) 4) (λ w. record { most = omega arith; says = (c, l, eqb-true (event_refusal r) 4 w) })
      (λ w.
      let reads : Reads b r a = (c, l, neither v w) in
      split_if Known (used (book_of b) (event_in r)) (λ x. record { most = omega arith; says = (reads, x) })
      (λ x. split_if Known (mispriced (book_of b) (event_in r)) (λ y. record { most = omega arith; says = (reads, x, y) })
      (λ y. split_if Known (full (book_of b) (event_in r))
      (λ z. record { most = omega arith; says = (reads, x, y, full_counts (book_of b) (event_in r) (book_kept (book_of b) (keeps_held b k).rules) z) })
      (λ z. record { most = omega arith; says = tt })))))))

  broken_check : check_of b ≡ 1 → keeps_of b ≡ false
  broken_check z = go (keeps_of b) refl
    where
      go : (t : Bool) → keeps_of b ≡ t → t ≡ false
      go true k = absurd (omega (arith, check_kept b k))
      go false k = refl

  numbers : Numbers b r a (first_no b r a)
  unfolding first_no if◌then◌otherwise◌
  numbers = record {
    most = known.most;
    one = (λ z. subst Says z known.says, λ z. rw (broken_check z) refl);
    two = (λ z. subst Says z known.says, λ z. rw (kept_check b z.0, lt-ltb (length a) 1024 z.1) refl);
    three = (λ z. subst Says z known.says, λ z. rw (kept_check b z.0, le-ltb (length a) 1024 z.1, z.2) refl);
    four = (λ z. subst Says z known.says, λ z. rw (kept_check b z.0, le-ltb (length a) 1024 z.1, z.2) refl);
    five = (λ z. subst Says z known.says, λ z. rw (kept_check b z.0.0, le-ltb (length a) 1024 z.0.1, z.0.2, z.1) refl);
    six = (λ z. subst Says z known.says, λ z. rw (kept_check b z.0.0, le-ltb (length a) 1024 z.0.1, z.0.2, z.1, z.2) refl);
    seven = (λ z. subst Says z known.says, λ z. rw (kept_check b z.0.0, le-ltb (length a) 1024 z.0.1, z.0.2, z.1, z.2, counts_full (book_of b) (event_in r) z.3) refl);
  }

-- ---- demand 1

started : (b : List ℕ) (setting : ℕ) → start_refusal b ≡ 0 → check_of (start_of b setting) ≡ 0
unfolding start_refusal start_of
started b setting = go (is_book b) refl
  where
    go : (t : Bool) → is_book b ≡ t → start_refusal b ≡ 0 → check_of (start_of b setting) ≡ 0
    go true e z = ap check_of (if_true (is_book b) (blank setting) b e) ∙ check_kept (blank setting) (blank_keeps setting)
    go false e z = let w : start_refusal b ≡ 1 = if_false _ _ _ e in absurd (omega arith)

-- a refused one leaves what it found
refused : (b r a : List ℕ) → ((event_of b r a).returned ≡ 0 → ⊥) → ((event_of b r a).book ≡ b) × ((event_of b r a).answer ≡ a)
refused b r a =
    either_way (λ (o : Returned). (o.returned ≡ 0 → ⊥) → (o.book ≡ b) × (o.answer ≡ a)) b r a (λ t n. absurd (n refl)) (λ e n. (refl, refl))

counted : (b : List ℕ) → check_of b ≡ 0 → Counted b
counted b z = let h = keeps_held b (kept_check b z) in record { long = h.long; orders = omega (arith, h.orders, h.few_orders); requests = omega (arith, h.requests, h.few_requests) }

pub demand1 : Demand1
demand1 = record {
  counted = counted;
  started = started;
  kept = λ b r a bytes bytes'.
      either_way (λ (o : Returned). o.returned ≡ 0 → check_of o.book ≡ 0) b r a
      (λ t z. check_kept _ (keeps_after b r bytes bytes' t.keeps t.reads t.taken))
      (λ e z. absurd (eqb-false _ 0 e z));
  refused = refused;
  first = first_no_lem;
  numbers = λ b r a. subst (Numbers b r a) (sym (first_no_lem b r a)) (numbers b r a);
  grown = λ b r a bytes bytes'.
      either_way (λ (o : Returned). o.returned ≡ 0 → Grown (book_of b) (event_in r) (book_of o.book)) b r a
      (λ t z. subst (Grown (book_of b) (event_in r)) (sym (writes b r bytes bytes' t.keeps t.reads t.taken).is)
      (step_grown (book_of b) (ruled (book_of b) (keeps_held b t.keeps).rules) (event_in r) t.taken))
      (λ e z. absurd (eqb-false _ 0 e z));
}
