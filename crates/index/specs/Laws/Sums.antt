-- Sums over the orders in the bytes: the pass that adds each order's leaves at its client's first order, and that it gives the open quantities. The code
-- sums each client's for itself, as Left has it. Rests on Index, store's laws, and machine's rules for how large a sum may be.
use Rattle.std.specs.Prelude.{◌≡◌, ℕ, zero, suc, ◌+◌, ◌*◌, ◌^◌, ◌<◌, ◌≤◌, Bool, true, false, ◌&&◌, List, [], ◌∷◌, length, ◌==◌, nat_eq, nat_le, slice_index, slice_index_or, slice_set, Option, None, Some, refl}
use Rattle.std.proofs.Common.{arith, ◌∙◌, get_or-set_same, get_or-set_other, below_more, sym, ap, ap₂, subst, eqb-true, eq-eqb, ne_eqb, leb-true}
use Rattle.std.proofs.Math.Decide.{ℕ_discrete}
use Rattle.std.proofs.lemmas.Bool.{and_parts}
use Rattle.std.specs.Cmp.{both_ways}
use Rattle.prelude.specs.Below.{first_below}
use Rattle.prelude.specs.Laws.Below.{First, all_elim, first_elim, first_hit, first_some}
use Rattle.prelude.specs.Cases.{if◌then◌otherwise◌, maybe}
use Rattle.prelude.specs.Laws.Cases.{split_if, split_maybe, if_true, if_false, maybe_none, maybe_some, clash}
use Rattle.prelude.specs.Lists.{list_below}
use Rattle.prelude.specs.Laws.Lists.{list_more}
use Rattle.prelude.specs.Number.{bound}
use Rattle.prelude.specs.Totals.{total_of}
use Rattle.prelude.specs.Laws.Totals.{total_append}
use Rattle.format.specs.Codes.{is_side}
use Rattle.store.specs.declared.Order.{Order}
use Rattle.store.specs.Layout.{most_orders}
use Rattle.store.specs.Orders.{no_order}
use Rattle.store.specs.Book.{Book, book_of, order_in, order_at, order_count, open_at}
use Rattle.store.specs.Finds.{find_client}
use Rattle.store.specs.Laws.Finds.{clients_at, find_client_bytes}
use Rattle.store.specs.Laws.Stored.{length_orders, order_in_lem}
use Rattle.machine.specs.Orders.{leaves_of, leaves_qty}
use Rattle.machine.specs.Exchange.{open_of}
use Rattle.machine.specs.Rules.{force_range, priced_range, terms_range, rules}
use Rattle.machine.proofs.Kept.Indexed.{book_kept}
use Rattle.index.specs.Index.{stored_open, open_right, opens_right}

-- ---- totals of a list that a function makes

module _ {A : Type 0} (f : A → ℕ) (g : ℕ → A) where
  pub total_start : total_of f (list_below g 0) ≡ 0
  unfolding list_below
  total_start = refl

  pub total_more : (i : ℕ) → total_of f (list_below g (i + 1)) ≡ total_of f (list_below g i) + f (g i)
  total_more i = ap (total_of f) (list_more g i) ∙ total_append f (list_below g i) (g i ∷ []) ∙ omega arith

pub total_ext : {A : Type 0} (f h : A → ℕ) (g : ℕ → A) (n : ℕ) → ((k : ℕ) → k < n → f (g k) ≡ h (g k)) → total_of f (list_below g n) ≡ total_of h (list_below g n)
unfolding list_below
total_ext f h g zero e = refl
total_ext f h g (suc n) e =
    let r : total_of f (list_below g n) ≡ total_of h (list_below g n) = total_ext f h g n (λ k l. e k (omega arith)) in
    let here : f (g n) ≡ h (g n) = e n (omega arith) in
    total_append f (list_below g n) (g n ∷ []) ∙ omega arith ∙ sym (total_append h (list_below g n) (g n ∷ []))

pub total_zero : {A : Type 0} (l : List A) → total_of (λ (x : A). 0) l ≡ 0
total_zero [] = refl
total_zero (x ∷ l) = let r = total_zero l in omega arith

-- ---- how large they are on a book that keeps its rules

pub leaves_less : (o : Order) → leaves_qty o ≤ o.terms.qty
unfolding leaves_qty leaves_of
leaves_less o = split_if (λ n. n ≤ o.terms.qty) _ (λ e. omega arith) (λ e. omega arith)

terms_qty : (o : Order) → terms_range o.terms ≡ true → o.terms.qty ≤ 10 ^ 12
unfolding terms_range
terms_qty o e =
    leb-true o.terms.qty (10 ^ 12)
    (and_parts (is_side o.terms.side && priced_range o.terms.ordtype o.terms.price && force_range o.terms.timeinforce) (nat_le o.terms.qty (10 ^ 12)) e).1

order_most : (x : Book) → rules x ≡ true → (k : ℕ) → k < length x.orders → leaves_qty (order_in x k) ≤ 1000000000000
order_most x r k h =
    let q : (order_in x k).terms.qty ≤ 1000000000000 = terms_qty (order_in x k) ((book_kept x r).order k h).terms in
    omega (arith, leaves_less (order_in x k))

total_most : (f : Order → ℕ) (d : Order) (os : List Order) → ((k : ℕ) → k < length os → f (slice_index_or os k d) ≤ 1000000000000) → total_of f os ≤ 1000000000000 * length os
total_most f d [] h = omega arith
total_most f d (o ∷ os) h = omega (arith, h 0 (omega arith), total_most f d os (λ k l. h (suc k) (omega arith)))

-- an open quantity fits its word
pub open_fits : (x : Book) → rules x ≡ true → (client : ℕ) → open_of x client < bound 8
open_fits x r client =
    let most : open_of x client ≤ 1000000000000 * length x.orders =
    total_most (λ (o : Order). if o.client == client then leaves_qty o otherwise 0) no_order x.orders
    (λ k h. split_if (λ n. n ≤ 1000000000000) ((order_in x k).client == client) (λ e. order_most x r k h) (λ e. omega arith)) in
    omega (arith, (book_kept x r).orders)

-- ---- the first order of a client

module _ (b : List ℕ) where
  -- what is known of it once it is found: it is in use and the client's, and the pass finds no other
  pub client_at : (c j : ℕ) → find_client (book_of b) c ≡ Some j → (j < order_count b) × ((order_at b j).client ≡ c)
  client_at c j e =
      let f : First (clients_at b c) (order_count b) j = first_some (clients_at b c) (order_count b) j (sym (find_client_bytes b c) ∙ e) in
      (f.below, eqb-true (order_at b j).client c f.passes)

  pub none_at : (c : ℕ) → find_client (book_of b) c ≡ None → (k : ℕ) → k < order_count b → ((order_at b k).client == c) ≡ false
  none_at c e k h = first_elim (clients_at b c) (order_count b) (sym (find_client_bytes b c) ∙ e) k h

  pub first_found : (i r : ℕ) → i < order_count b → first_below (clients_at b (order_at b i).client) (i + 1) ≡ Some r → find_client (book_of b) (order_at b i).client ≡ Some r
  first_found i r h e =
      let c : ℕ = (order_at b i).client in
      let f : First (clients_at b c) (i + 1) r = first_some (clients_at b c) (i + 1) r e in
      find_client_bytes b c ∙ first_hit (clients_at b c) (order_count b) r (omega (arith, f.below)) f.least f.passes

  -- its index, 0 if there is none
  unfoldable pub first_for : ℕ → ℕ
  first_for c = maybe 0 (λ i. i) (find_client (book_of b) c)

  pub first_for_lem : (c j : ℕ) → find_client (book_of b) c ≡ Some j → first_for c ≡ j
  unfolding first_for
  first_for_lem c j e = maybe_some (find_client (book_of b) c) j 0 (λ i. i) e

  pub first_client : (k : ℕ) → k < order_count b → (order_at b (first_for (order_at b k).client)).client ≡ (order_at b k).client
  unfolding first_for
  first_client k h =
      let c : ℕ = (order_at b k).client in
      split_maybe (λ (i : ℕ). (order_at b i).client ≡ c) (find_client (book_of b) c)
      (λ z. clash (c == c) (eq-eqb c c refl) (none_at c z k h)) (λ j z. (client_at c j z).1)

-- ---- the sums

-- an order's leaves, if its client's first order is order q
abbrev pub part_to : List ℕ → ℕ → Order → ℕ
part_to b q o = if first_for b o.client == q then leaves_qty o otherwise 0

-- what comes together at order q from the first i orders
unfoldable pub sum_to : List ℕ → (q i : ℕ) → ℕ
sum_to b q i = total_of (part_to b q) (list_below (order_at b) i)

-- what the pass over the n orders gives: each order's client's first order, and the sums
pub record IsTally (b : List ℕ) (n : ℕ) (firsts sums : List ℕ) : Type 0 where
  pub first : (k : ℕ) → k < n → find_client (book_of b) (order_at b k).client ≡ Some (slice_index firsts k)
  pub sum : (q : ℕ) → q < most_orders → slice_index sums q ≡ sum_to b q n

-- one order's first order more
pub firsts_more : (b firsts : List ℕ) (i r : ℕ) → i < length firsts → find_client (book_of b) (order_at b i).client ≡ Some r
    → ((k : ℕ) → k < i → find_client (book_of b) (order_at b k).client ≡ Some (slice_index firsts k))
    → (k : ℕ) → k < i + 1 → find_client (book_of b) (order_at b k).client ≡ Some (slice_index (slice_set firsts i r) k)
firsts_more b firsts i r h e below =
    below_more (λ k. find_client (book_of b) (order_at b k).client ≡ Some (slice_index (slice_set firsts i r) k)) i
    (λ k j. below k j ∙ ap Some (sym (get_or-set_other firsts i k r 0 (λ q. absurd (omega (arith, q))))))
    (e ∙ ap Some (sym (get_or-set_same firsts i r 0 h)))

-- and each is an order in use
pub tally_few : (b : List ℕ) (n : ℕ) (firsts sums : List ℕ) → IsTally b n firsts sums → n ≡ order_count b → n ≤ most_orders → (i : ℕ) → i < n → slice_index firsts i < most_orders
tally_few b n firsts sums t e m i h = omega (arith, (client_at b (order_at b i).client (slice_index firsts i) (t.first i h)).0)

module _ (b : List ℕ) where
  pub sum_start : (q : ℕ) → sum_to b q 0 ≡ 0
  unfolding sum_to
  sum_start q = total_start (part_to b q) (order_at b)

  sum_more : (q i : ℕ) → sum_to b q (i + 1) ≡ sum_to b q i + part_to b q (order_at b i)
  unfolding sum_to
  sum_more q i = total_more (part_to b q) (order_at b) i

  -- one order more
  pub sum_next : (sums : List ℕ) (i j leaves : ℕ) → j < length sums → find_client (book_of b) (order_at b i).client ≡ Some j → leaves ≡ leaves_qty (order_at b i)
      → ((q : ℕ) → q < most_orders → slice_index sums q ≡ sum_to b q i) → (q : ℕ) → q < most_orders → slice_index (slice_set sums j (slice_index sums j + leaves)) q ≡ sum_to b q (i + 1)
  sum_next sums i j leaves l e v m q h = go (ℕ_discrete j q)
    where
      go : Dec (j ≡ q) → slice_index (slice_set sums j (slice_index sums j + leaves)) q ≡ sum_to b q (i + 1)
      go (yes w) =
          let part : part_to b q (order_at b i) ≡ leaves_qty (order_at b i) = if_true _ _ _ (eq-eqb _ q (first_for_lem b (order_at b i).client j e ∙ w)) in
          ap (λ (x : ℕ). slice_index (slice_set sums j (slice_index sums j + leaves)) x) (sym w)
          ∙ get_or-set_same sums j (slice_index sums j + leaves) 0 l
          ∙ ap₂ (λ (x y : ℕ). x + y) (ap (λ (x : ℕ). slice_index sums x) w ∙ m q h) (v ∙ sym part)
          ∙ sym (sum_more q i)
      go (no w) =
          let part : part_to b q (order_at b i) ≡ 0 = if_false _ _ _ (ne_eqb _ q (λ z. w (sym (first_for_lem b (order_at b i).client j e) ∙ z))) in
          get_or-set_other sums j q (slice_index sums j + leaves) 0 (λ z. w (sym z)) ∙ m q h ∙ omega (arith, sum_more q i)

  -- ---- how large they are

  pub leaves_most : rules (book_of b) ≡ true → (k : ℕ) → k < order_count b → leaves_qty (order_at b k) ≤ 1000000000000
  leaves_most e k h =
      subst (λ (o : Order). leaves_qty o ≤ 1000000000000) (order_in_lem b k h) (order_most (book_of b) e k (omega (arith, length_orders b)))

  part_less : (q : ℕ) (o : Order) → part_to b q o ≤ leaves_qty o
  part_less q o = split_if (λ n. n ≤ leaves_qty o) (first_for b o.client == q) (λ e. omega arith) (λ e. omega arith)

  pub sum_most : rules (book_of b) ≡ true → (q i : ℕ) → i ≤ order_count b → sum_to b q i ≤ 1000000000000 * i
  sum_most e q zero h = omega (arith, sum_start q)
  sum_most e q (suc i) h =
      let r : sum_to b q i ≤ 1000000000000 * i = sum_most e q i (omega arith) in
      let one : sum_to b q (suc i) ≡ sum_to b q (i + 1) = ap (sum_to b q) (omega arith) in
      omega (arith, sum_more q i, part_less q (order_at b i), leaves_most e i (omega arith))

  pub leaves_small : rules (book_of b) ≡ true → (i : ℕ) → i < order_count b → leaves_qty (order_at b i) ≤ 1000000000000
  leaves_small e i h = leaves_most e i h

  -- ---- they are the open quantities

  pub open_bytes : (c : ℕ) → open_of (book_of b) c ≡ total_of (λ (o : Order). if o.client == c then leaves_qty o otherwise 0) (list_below (order_at b) (order_count b))
  unfolding book_of
  open_bytes c = refl

  sum_open : (c j : ℕ) → find_client (book_of b) c ≡ Some j → sum_to b j (order_count b) ≡ open_of (book_of b) c
  unfolding sum_to
  sum_open c j e =
      total_ext (part_to b j) (λ (o : Order). if o.client == c then leaves_qty o otherwise 0) (order_at b) (order_count b)
      (λ k h.
      ap (λ (t : Bool). if t then leaves_qty (order_at b k) otherwise 0)
      (both_ways (first_for b (order_at b k).client == j) ((order_at b k).client == c)
      (λ t. eq-eqb _ c (sym (first_client b k h) ∙ ap (λ (i : ℕ). (order_at b i).client) (eqb-true _ j t) ∙ (client_at b c j e).1))
      (λ t. eq-eqb _ j (ap (first_for b) (eqb-true _ c t) ∙ first_for_lem b c j e))))
      ∙ sym (open_bytes c)

  pub open_none : (c : ℕ) → find_client (book_of b) c ≡ None → open_of (book_of b) c ≡ 0
  open_none c e =
      open_bytes c
      ∙ total_ext (λ (o : Order). if o.client == c then leaves_qty o otherwise 0) (λ (o : Order). 0) (order_at b) (order_count b) (λ k h. if_false _ _ _ (none_at b c e k h))
      ∙ total_zero (list_below (order_at b) (order_count b))

  -- one word compared with its sum
  pub right_here : (i j s : ℕ) → i < order_count b → find_client (book_of b) (order_at b i).client ≡ Some j → s ≡ sum_to b j (order_count b) → open_right b i ≡ (open_at b j == s)
  unfolding open_right stored_open
  right_here i j s h e v =
      ap₂ nat_eq
      (ap (λ (o : Order). maybe 0 (open_at b) (find_client (book_of b) o.client)) (order_in_lem b i h) ∙ maybe_some (find_client (book_of b) (order_at b i).client) j 0 (open_at b) e)
      (ap (λ (o : Order). open_of (book_of b) o.client) (order_in_lem b i h) ∙ sym (v ∙ sum_open (order_at b i).client j e))

  -- THE LAW: what is stored is right for every client
  pub stored_right : opens_right b ≡ true → (c : ℕ) → stored_open b c ≡ open_of (book_of b) c
  unfolding opens_right open_right
  stored_right t c = go (find_client (book_of b) c) refl
    where
      go : (x : Option ℕ) → find_client (book_of b) c ≡ x → stored_open b c ≡ open_of (book_of b) c
      go None e = unfold stored_open in maybe_none (find_client (book_of b) c) 0 (open_at b) e ∙ sym (open_none c e)
      go (Some j) e =
          let h : j < order_count b = (client_at b c j e).0 in
          let is : (order_in (book_of b) j).client ≡ c = ap (λ (o : Order). o.client) (order_in_lem b j h) ∙ (client_at b c j e).1 in
          subst (λ (k : ℕ). stored_open b k ≡ open_of (book_of b) k) is (eqb-true _ _ (all_elim (open_right b) (order_count b) t j h))
