-- The sums as the code makes them: what a client's orders have left together, from its first on, and that it is right to ask it of the first orders alone.
-- Rests on Sums.
use Rattle.std.specs.Prelude.{◌≡◌, ℕ, zero, suc, ◌+◌, ◌*◌, ◌<◌, ◌≤◌, Bool, true, false, List, ◌==◌, nat_eq, Option, None, Some, refl}
use Rattle.std.proofs.Common.{arith, ◌∙◌, sym, ap, ap₂, eqb-true, eq-eqb, ne_eqb}
use Rattle.std.proofs.Math.Decide.{ℕ_discrete}
use Rattle.std.specs.Cmp.{both_ways}
use Rattle.prelude.specs.Below.{all_below}
use Rattle.prelude.specs.Laws.Below.{First, all_elim, all_intro, all_miss, first_elim, first_some}
use Rattle.prelude.specs.Cases.{if◌then◌otherwise◌, maybe}
use Rattle.prelude.specs.Laws.Cases.{split_if, if_true, if_false, maybe_none, maybe_some, clash}
use Rattle.prelude.specs.Lists.{list_below}
use Rattle.prelude.specs.Totals.{total_of}
use Rattle.store.specs.declared.Order.{Order}
use Rattle.store.specs.Book.{book_of, order_at, order_count, open_at, load_open}
use Rattle.store.specs.Finds.{find_client}
use Rattle.store.specs.Laws.Finds.{clients_at, find_client_bytes}
use Rattle.store.specs.Laws.Stored.{order_in_lem}
use Rattle.store.specs.Laws.Opens.{load_open_in}
use Rattle.machine.specs.Orders.{leaves_qty}
use Rattle.machine.specs.Exchange.{open_of}
use Rattle.machine.specs.Rules.{rules}
use Rattle.index.specs.Index.{stored_open, open_right, opens_right}
use Rattle.index.specs.Laws.Sums.{total_start, total_more, total_ext, total_zero, client_at, none_at, first_for, first_for_lem, first_client, part_to, sum_to, leaves_small, open_bytes}

-- an order's leaves, if it is the client's
abbrev part : ℕ → Order → ℕ
part c o = if o.client == c then leaves_qty o otherwise 0

-- what the first k orders of that client have left
unfoldable pub left_to : List ℕ → (c k : ℕ) → ℕ
left_to b c k = total_of (part c) (list_below (order_at b) k)

module _ (b : List ℕ) where
  -- nothing before its first order
  pub left_start : (c i : ℕ) → find_client (book_of b) c ≡ Some i → left_to b c i ≡ 0
  unfolding left_to
  left_start c i e =
      let f : First (clients_at b c) (order_count b) i = first_some (clients_at b c) (order_count b) i (sym (find_client_bytes b c) ∙ e) in
      total_ext (part c) (λ (o : Order). 0) (order_at b) i (λ k h. if_false _ _ _ (first_elim (clients_at b c) i f.least k h)) ∙ total_zero (list_below (order_at b) i)

  left_more : (c k : ℕ) → left_to b c (k + 1) ≡ left_to b c k + part c (order_at b k)
  unfolding left_to
  left_more c k = total_more (part c) (order_at b) k

  -- one order more: the client's, or another's
  pub left_own : (c k : ℕ) → (order_at b k).client ≡ c → left_to b c (k + 1) ≡ left_to b c k + leaves_qty (order_at b k)
  left_own c k e = left_more c k ∙ ap (λ (n : ℕ). left_to b c k + n) (if_true _ _ _ (eq-eqb (order_at b k).client c e))

  pub left_other : (c k : ℕ) → ((order_at b k).client ≡ c → ⊥) → left_to b c (k + 1) ≡ left_to b c k
  left_other c k e =
      let none : part c (order_at b k) ≡ 0 = if_false _ _ _ (ne_eqb (order_at b k).client c e) in
      omega (arith, left_more c k)

  -- all orders
  pub left_all : (c : ℕ) → left_to b c (order_count b) ≡ open_of (book_of b) c
  unfolding left_to
  left_all c = sym (open_bytes b c)

  -- it is what comes together at the client's first order
  pub left_sum : (c j k : ℕ) → find_client (book_of b) c ≡ Some j → k ≤ order_count b → left_to b c k ≡ sum_to b j k
  unfolding left_to sum_to
  left_sum c j k e l =
      sym (total_ext (part_to b j) (part c) (order_at b) k
      (λ i h.
      let u : i < order_count b = omega arith in
      ap (λ (t : Bool). if t then leaves_qty (order_at b i) otherwise 0)
      (both_ways (first_for b (order_at b i).client == j) ((order_at b i).client == c)
      (λ t. eq-eqb _ c (sym (first_client b i u) ∙ ap (λ (m : ℕ). (order_at b m).client) (eqb-true _ j t) ∙ (client_at b c j e).1))
      (λ t. eq-eqb _ j (ap (first_for b) (eqb-true _ c t) ∙ first_for_lem b c j e)))))

  -- ---- how large they are

  part_less : (c : ℕ) (o : Order) → part c o ≤ leaves_qty o
  part_less c o = split_if (λ n. n ≤ leaves_qty o) (o.client == c) (λ e. omega arith) (λ e. omega arith)

  pub left_most : rules (book_of b) ≡ true → (c k : ℕ) → k ≤ order_count b → left_to b c k ≤ 1000000000000 * k
  left_most e c zero h = let z : left_to b c 0 ≡ 0 = unfold left_to in total_start (part c) (order_at b) in omega arith
  left_most e c (suc k) h =
      let r : left_to b c k ≤ 1000000000000 * k = left_most e c k (omega arith) in
      let one : left_to b c (suc k) ≡ left_to b c (k + 1) = ap (left_to b c) (omega arith) in
      omega (arith, left_more c k, part_less c (order_at b k), leaves_small b e k (omega arith))

  -- ---- what is asked of each order

  -- the word of its client's first order, compared
  open_here : (i j : ℕ) → i < order_count b → find_client (book_of b) (order_at b i).client ≡ Some j → open_right b i ≡ (open_at b j == open_of (book_of b) (order_at b i).client)
  unfolding open_right stored_open
  open_here i j h e =
      ap₂ nat_eq
      (ap (λ (o : Order). maybe 0 (open_at b) (find_client (book_of b) o.client)) (order_in_lem b i h) ∙ maybe_some (find_client (book_of b) (order_at b i).client) j 0 (open_at b) e)
      (ap (λ (o : Order). open_of (book_of b) o.client) (order_in_lem b i h))

  -- it is right if it is the first itself
  unfoldable pub right_first : ℕ → Bool
  right_first i = maybe true (λ j. if j == i then open_right b i otherwise true) (find_client (book_of b) (order_at b i).client)

  -- as the code comes to it
  pub first_word : (i w s : ℕ) → i < order_count b → find_client (book_of b) (order_at b i).client ≡ Some i → w ≡ load_open b i → s ≡ open_of (book_of b) (order_at b i).client
      → (w == s) ≡ right_first i
  unfolding right_first
  first_word i w s h e u v =
      ap₂ nat_eq (u ∙ load_open_in b i h) v
      ∙ sym (open_here i i h e)
      ∙ sym (maybe_some (find_client (book_of b) (order_at b i).client) i true (λ j. if j == i then open_right b i otherwise true) e ∙ if_true _ _ _ (eq-eqb i i refl))

  -- the same of what is left from it on, which is all
  pub first_sum : (i w s : ℕ) → i < order_count b → find_client (book_of b) (order_at b i).client ≡ Some i → w ≡ load_open b i
      → s + left_to b (order_at b i).client i ≡ open_of (book_of b) (order_at b i).client → (w == s) ≡ right_first i
  first_sum i w s h e u v = first_word i w s h e u (omega (arith, v, left_start (order_at b i).client i e))

  pub not_first : (i j : ℕ) → find_client (book_of b) (order_at b i).client ≡ Some j → (j ≡ i → ⊥) → true ≡ right_first i
  unfolding right_first
  not_first i j e n =
      sym (maybe_some (find_client (book_of b) (order_at b i).client) j true (λ k. if k == i then open_right b i otherwise true) e ∙ if_false _ _ _ (ne_eqb j i n))

  pub no_first : (i : ℕ) → find_client (book_of b) (order_at b i).client ≡ None → true ≡ right_first i
  unfolding right_first
  no_first i e = sym (maybe_none (find_client (book_of b) (order_at b i).client) true (λ j. if j == i then open_right b i otherwise true) e)

  -- a word that is what is left from order i on is right, whether the order is a first one or not
  pub sum_right : (i w s : ℕ) → i < order_count b → w ≡ load_open b i → s + left_to b (order_at b i).client i ≡ open_of (book_of b) (order_at b i).client
      → w ≡ s → true ≡ right_first i
  sum_right i w s h u v q = go (find_client (book_of b) (order_at b i).client) refl
    where
      at : (j : ℕ) → find_client (book_of b) (order_at b i).client ≡ Some j → Dec (j ≡ i) → true ≡ right_first i
      at j e (yes f) = sym (eq-eqb w s q) ∙ first_sum i w s h (e ∙ ap (λ (n : ℕ). Some n) f) u v
      at j e (no f) = not_first i j e f

      go : (x : Option ℕ) → find_client (book_of b) (order_at b i).client ≡ x → true ≡ right_first i
      go None e = no_first i e
      go (Some j) e = at j e (ℕ_discrete j i)

  pick : (t r : Bool) → (if t then r otherwise true) ≡ false → r ≡ false
  unfolding if◌then◌otherwise◌
  pick true r g = g
  pick false r g = absurd (clash true refl g)

  -- a first order that is not right, and all that are
  pub first_wrong : (i : ℕ) → i < order_count b → right_first i ≡ false → opens_right b ≡ false
  unfolding opens_right right_first maybe
  first_wrong i h e = all_miss (open_right b) (order_count b) i h (go (find_client (book_of b) (order_at b i).client) e)
    where
      go : (x : Option ℕ) → maybe true (λ j. if j == i then open_right b i otherwise true) x ≡ false → open_right b i ≡ false
      go None f = absurd (clash true refl f)
      go (Some j) f = pick (j == i) (open_right b i) f

  pub first_right : all_below right_first (order_count b) ≡ true → opens_right b ≡ true
  unfolding opens_right
  first_right a = all_intro (open_right b) (order_count b) (λ i h. go i h (find_client (book_of b) (order_at b i).client) refl)
    where
      go : (i : ℕ) → i < order_count b → (x : Option ℕ) → find_client (book_of b) (order_at b i).client ≡ x → open_right b i ≡ true
      go i h None e = absurd (clash ((order_at b i).client == (order_at b i).client) (eq-eqb (order_at b i).client (order_at b i).client refl) (none_at b (order_at b i).client e i h))
      go i h (Some j) e =
          let at : (j < order_count b) × ((order_at b j).client ≡ (order_at b i).client) = client_at b (order_at b i).client j e in
          let f : find_client (book_of b) (order_at b j).client ≡ Some j = ap (find_client (book_of b)) at.1 ∙ e in
          open_here i j h e
          ∙ ap (λ (c : ℕ). open_at b j == open_of (book_of b) c) (sym at.1)
          ∙ first_word j (open_at b j) (open_of (book_of b) (order_at b j).client) at.0 f (sym (load_open_in b j at.0)) refl
          ∙ all_elim right_first (order_count b) a j at.0

  not_wrong : (i : ℕ) → i < order_count b → opens_right b ≡ true → (t : Bool) → right_first i ≡ t → right_first i ≡ true
  not_wrong i h e true f = f
  not_wrong i h e false f = absurd (clash (opens_right b) e (first_wrong i h f))

  -- all of them asked, in one
  pub right_all : all_below right_first (order_count b) ≡ opens_right b
  right_all =
      both_ways (all_below right_first (order_count b)) (opens_right b) first_right
      (λ e. all_intro right_first (order_count b) (λ i h. not_wrong i h e (right_first i) refl))

-- ---- for the tactics of functions: the sum with one order more, and one order asked
pub ruleset summed = (leaves_small, left_own, left_other, left_most)

pub ruleset asked = (first_sum, not_first, no_first, sum_right)
