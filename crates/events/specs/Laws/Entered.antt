-- `event` case by case, as the code comes to it. Rests on step's Entries, Asked and Linked.
use Rattle.std.specs.Prelude.{ℕ, ◌≡◌, ◌≤◌, Bool, leb, length, refl, true, false, List, eqb}
use Rattle.std.proofs.Common.{sym, ap, ap₂, subst, ◌∙◌, eqb-true, eq-eqb, leb-true}
use Rattle.std.proofs.lemmas.Bool.{eqb-false}
use Rattle.prelude.specs.Cases.{if◌then◌otherwise◌}
use Rattle.prelude.specs.Laws.Cases.{if_true, if_false}
use Rattle.prelude.specs.Span.{splice}
use Rattle.prelude.specs.declared.Refusal.{Refusal}
use Rattle.prelude.specs.Refusal.{number_of}
use Rattle.records.specs.Record.{event_in}
use Rattle.records.specs.Answer.{answer_bytes, chosen}
use Rattle.store.specs.Book.{book_of, request_count, store_open}
use Rattle.store.specs.Laws.Stored.{length_requests}
use Rattle.machine.specs.declared.Change.{Change}
use Rattle.machine.specs.Changes.{refusing}
use Rattle.machine.specs.Orders.{leaves_qty}
use Rattle.machine.specs.Machine.{after, step_of}
use Rattle.machine.specs.History.{messages_of}
use Rattle.index.specs.Index.{origin_of}
use Rattle.index.specs.declared.Word.{Word}
use Rattle.index.specs.Index.{opening_of}
use Rattle.rules.specs.Keeps.{keeps_of}
use Rattle.rules.specs.Laws.Keeps.{keeps_held, keeps_opens}
use Rattle.index.specs.Laws.Moved.{SameClients, step_clients, opening_is}
use Rattle.step.specs.Entries.{place_order, place_requests, tables_with, place_origin, place_open, place_index, book_with, call_of, returned, event_of}
use Rattle.step.specs.Steps.{origin_asked}
use Rattle.step.specs.Laws.Asked.{room_enough, taken_step, call_1}
use Rattle.step.specs.Laws.Linked.{placed_linked}
use Rattle.step.specs.Laws.Taken.{numbered}

-- ---- event

module _ (b r a : List ℕ) where
  -- this is what the event returns and leaves
  abbrev pub Leaves : (returned : ℕ) (book answer : List ℕ) → Type 0
  Leaves n book answer = returned n book answer ≡ event_of b r a

  -- the answer that the change has
  abbrev said : Change → List ℕ
  said c = splice a 0 (answer_bytes c.output.alarm c.output.alarm2 (chosen c.output.count c.output.first c.output.second))

  module _ (c : Change) (h : c ≡ call_of b r (length a)) where
    pub left_refused : eqb c.refusal 0 ≡ false → Leaves c.refusal b a
    unfolding event_of if◌then◌otherwise◌
    left_refused e = rw (← h, e) refl

    left_taken : eqb c.refusal 0 ≡ true → Leaves 0 (book_with b c) (said c)
    unfolding event_of messages_of if◌then◌otherwise◌
    left_taken e = rw (← h, e) refl

    long : eqb c.refusal 0 ≡ true → leb 1024 (length a) ≡ true
    long e = room_enough b r (length a) (ap (λ (d : Change). eqb d.refusal 0) (sym h) ∙ e)

    -- the change is the machine's step, on a book that keeps its rules; no order changes its client
    stepped : eqb c.refusal 0 ≡ true → (keeps_of b ≡ true) × SameClients (book_of b) (after (book_of b) c)
    stepped e =
        let (k, s) = taken_step b r (length a) (ap (λ (d : Change). eqb d.refusal 0) (sym h) ∙ e) in
        let is : c ≡ step_of (book_of b) (event_in r) = h ∙ s in
        let zero : (step_of (book_of b) (event_in r)).refusal ≡ 0 = ap (λ (d : Change). d.refusal) (sym is) ∙ eqb-true c.refusal 0 e in
        (k, subst (λ (d : Change). SameClients (book_of b) (after (book_of b) d)) (sym is) (step_clients (book_of b) (event_in r) (keeps_held b k).rules zero))

    -- the word that was worked out before the tables were written
    opened_is : eqb c.refusal 0 ≡ true → (w : Word) → w ≡ opening_of b c.place c.order.client (leaves_qty c.order) → (t : List ℕ)
        → (if eqb c.place 0 then t otherwise store_open t w.at w.quantity) ≡ place_open t (after (book_of b) c) c.place c.order.client
    unfolding place_open
    opened_is e w v t = go (eqb c.place 0) refl
      where
        go : (z : Bool) → eqb c.place 0 ≡ z
            → (if eqb c.place 0 then t otherwise store_open t w.at w.quantity) ≡ place_open t (after (book_of b) c) c.place c.order.client
        go true z = if_true _ _ _ z ∙ sym (if_true _ _ _ z)
        go false z =
            if_false _ _ _ z
            ∙ ap (λ (x : Word). store_open t x.at x.quantity) v
            ∙ opening_is b (keeps_opens b (stepped e).0) c (eqb-false c.place 0 z) (stepped e).1 t
            ∙ sym (if_false _ _ _ z)

    left_0 : eqb c.refusal 0 ≡ true → (from k leaves : ℕ) (w : Word) (placed tables book answer : List ℕ)
        → ((t : List ℕ) (m : ℕ) → place_origin t c.requests.added m from ≡ place_origin t c.requests.added m (origin_of (book_of b) c.order.client c.requests.request.origclordid))
        → k ≡ request_count b → leaves ≡ leaves_qty c.order → w ≡ opening_of b c.place c.order.client leaves
        → placed ≡ place_order b c.place c.order → tables ≡ place_requests placed c.requests
        → book ≡ (if eqb c.place 0 then place_origin tables c.requests.added k from otherwise store_open (place_origin tables c.requests.added k from) w.at w.quantity)
        → answer ≡ (if leb 1024 (length a) then said c otherwise a) → Leaves 0 book answer
    unfolding book_with tables_with place_index
    left_0 e from k leaves w placed tables book answer f m n v p q o u =
        let is : w ≡ opening_of b c.place c.order.client (leaves_qty c.order) = v ∙ ap (opening_of b c.place c.order.client) n in
        let origin : ℕ = origin_of (book_of b) c.order.client c.requests.request.origclordid in
        let linked : place_origin tables c.requests.added k from ≡ place_origin (place_requests (place_order b c.place c.order) c.requests) c.requests.added (length (book_of b).requests) origin =
        f tables k
        ∙ ap₂ (λ (y : List ℕ) (l : ℕ). place_origin y c.requests.added l origin) (q ∙ ap (λ (y : List ℕ). place_requests y c.requests) p) (m ∙ sym (length_requests b)) in
        let whole : book ≡ place_open (place_origin tables c.requests.added k from) (after (book_of b) c) c.place c.order.client = o ∙ opened_is e w is (place_origin tables c.requests.added k from) in
        ap₂ (returned 0) (whole ∙ ap (λ (y : List ℕ). place_open y (after (book_of b) c) c.place c.order.client) linked) (u ∙ if_true _ _ _ (long e)) ∙ left_taken e

  pub left_err : (q : Refusal) → refusing (number_of q) ≡ call_of b r (length a) → Leaves (number_of q) b a
  unfolding refusing
  left_err q h = left_refused (refusing (number_of q)) h (numbered q)

  -- ---- question 1

  pub left_broken : keeps_of b ≡ false → Leaves 1 b a
  unfolding refusing
  left_broken k = left_refused (refusing 1) (call_1 b r (length a) k) refl

  -- ---- an event that is taken

  pub room_taken : (c : Change) → c ≡ call_of b r (length a) → c.refusal ≡ 0 → 1024 ≤ length a
  room_taken c h z = leb-true 1024 (length a) (long c h (eq-eqb c.refusal 0 z))

  module _ (c : Change) (h : c ≡ call_of b r (length a)) (z : c.refusal ≡ 0) where
    -- the request that an OrigClOrdID names was looked up on the book as it was
    linked : (origin : ℕ) → origin ≡ origin_asked (book_of b) (event_in r)
        → (t : List ℕ) (m : ℕ) → place_origin t c.requests.added m origin ≡ place_origin t c.requests.added m (origin_of (book_of b) c.order.client c.requests.request.origclordid)
    linked origin f t m =
        ap (place_origin t c.requests.added m) f
        ∙ placed_linked (book_of b) (event_in r) c (h ∙ (taken_step b r (length a) (ap (λ (d : Change). eqb d.refusal 0) (sym h) ∙ eq-eqb c.refusal 0 z)).1) z t m

    pub left_taken_lem : (origin : ℕ) → origin ≡ origin_asked (book_of b) (event_in r)
        → (m leaves : ℕ) (w : Word) (placed tables book answer : List ℕ) → m ≡ request_count b → leaves ≡ leaves_qty c.order → w ≡ opening_of b c.place c.order.client leaves
        → placed ≡ place_order b c.place c.order → tables ≡ place_requests placed c.requests
        → book ≡ (if eqb c.place 0 then place_origin tables c.requests.added m origin otherwise store_open (place_origin tables c.requests.added m origin) w.at w.quantity)
        → answer ≡ (if leb 1024 (length a) then said c otherwise a) → Leaves 0 book answer
    left_taken_lem origin f m leaves w placed tables book answer y n x p q o u =
        left_0 c h (eq-eqb c.refusal 0 z) origin m leaves w placed tables book answer
        (linked origin f) y n x p q o u

-- how a call ends, for the tactics of the functions that take it
pub ruleset entered = (left_broken, left_err, left_taken_lem)
